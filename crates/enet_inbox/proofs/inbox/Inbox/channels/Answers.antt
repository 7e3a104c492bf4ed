use Rattle.std.proofs.Common.{length, sym, ap, ◌∙◌}
use Rattle.enet_inbox.specs.Inbox.{Inbox}
use Rattle.enet_inbox.proofs.Made.{all_length}
use Rattle.enet_inbox.proofs.inbox.Inbox.channels.Goals as goal

pub returns-clause-count : goal.returns-clause-count
returns-clause-count c =
    let i = c.self.inside in
    c.from.ensures ∙ sym (all_length i.max_packet i.channels i.receivers.items c.self.invariant.within) ∙ ap (λ (x : Inbox). length x.receivers) c.self.view_is
