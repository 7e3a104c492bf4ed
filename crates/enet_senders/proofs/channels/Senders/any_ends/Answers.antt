use Rattle.std.proofs.Common.{Bool, refl, sym, ap, ◌∙◌}
use Rattle.std.specs.List.{list_any}
use Rattle.enet_sender.specs.Sender.{ends}
use Rattle.enet_sender.specs.Due.{SendingEnd}
use Rattle.enet_senders.proofs.Made.{all_any}
use Rattle.enet_senders.proofs.channels.Senders.any_ends.Goals as goal

pub returns : goal.returns
returns c =
    let one : SendingEnd → Bool = λ (s : SendingEnd). list_any (ends c.args.now c.args.patience.now c.args.heard) s.sender.sent in
    c.any_ends.ensures ∙ sym (all_any c.self.inside.count c.self.inside.made one (λ n. refl)) ∙ ap (list_any one) c.self.view_is
