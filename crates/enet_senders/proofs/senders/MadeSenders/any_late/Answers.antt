use Rattle.std.proofs.Common.{Bool, List, ap, ◌∙◌}
use Rattle.std.specs.List.{list_any}
use Rattle.enet_sender.specs.Sender.{is_late}
use Rattle.enet_sender.specs.Due.{SendingEnd}
use Rattle.enet_senders.proofs.Lateness.{late-is}
use Rattle.enet_senders.proofs.senders.MadeSenders.any_late.Goals as goal

pub returns-clause-found : goal.returns-clause-found
returns-clause-found c =
    let has : List SendingEnd → Bool = list_any (λ (s : SendingEnd). list_any (is_late c.args.now) s.sender.sent) in
    late-is c.args.now c.any_late.result c.self.inside.pending.slab c.self.inside.channels.items c.self.invariant.kept c.any_late.ensures.some c.any_late.ensures.none ∙ ap has c.self.view_is
