use Rattle.std.proofs.Common.{ap, ◌∙◌}
use Rattle.enet_receiver.specs.declared.took.Foresight.{Foresight}
use Rattle.enet_inbox.proofs.StandIn.{told}
use Rattle.enet_inbox.proofs.arriving.acknowledges.Goals as goal

pub returns : goal.returns
returns c = ap (λ (f : Foresight). f.acknowledged) c.foresee.ensures ∙ told c.args.receiver.now.max_packet c.args.receiver.now.receiver c.args.head.number c.requires
