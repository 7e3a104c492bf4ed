use Rattle.std.proofs.Common.{List, ap, ◌∙◌}
use Rattle.enet_sender.specs.Due.{SendingEnd}
use Rattle.enet_senders.specs.Outstanding.{outstanding_over}
use Rattle.enet_senders.proofs.Sums.{outstanding-is}
use Rattle.enet_senders.proofs.senders.MadeSenders.outstanding.Goals as goal

pub returns : goal.returns
returns c =
    c.outstanding.ensures.value ∙ outstanding-is c.self.inside.pending.slab c.self.inside.channels.items c.self.invariant.kept c.outstanding.ensures.low
    ∙ ap (λ (es : List SendingEnd). outstanding_over es) c.self.view_is
