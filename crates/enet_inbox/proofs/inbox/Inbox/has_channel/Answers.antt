use Rattle.std.proofs.Common.{ltb, length, sym, ap, ◌∙◌}
use Rattle.enet_inbox.specs.Inbox.{Inbox}
use Rattle.enet_inbox.proofs.Made.{all_length}
use Rattle.enet_inbox.proofs.inbox.Inbox.has_channel.Goals as goal

pub returns : goal.returns
returns c =
    let i = c.self.inside in
    ap (λ n. ltb c.args.channel n) (sym (all_length i.max_packet i.channels i.receivers.items c.self.invariant.within) ∙ ap (λ (x : Inbox). length x.receivers) c.self.view_is)
