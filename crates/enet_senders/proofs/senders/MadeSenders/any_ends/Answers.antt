use Rattle.std.proofs.Common.{Bool, List, ap, ◌∙◌}
use Rattle.std.specs.List.{list_any}
use Rattle.enet_sender.specs.Sender.{ends}
use Rattle.enet_sender.specs.Due.{SendingEnd}
use Rattle.enet_senders.proofs.Lateness.{ends-is}
use Rattle.enet_senders.proofs.senders.MadeSenders.any_ends.Goals as goal

pub returns : goal.returns
returns c =
    let has : List SendingEnd → Bool = list_any (λ (s : SendingEnd). list_any (ends c.args.now c.args.patience.now c.args.heard) s.sender.sent) in
    ends-is c.args.now c.args.patience.now c.args.heard c.any_ends.result c.self.inside.pending.slab c.self.inside.channels.items c.self.invariant.kept c.any_ends.ensures.some c.any_ends.ensures.none ∙ ap has c.self.view_is
