use Rattle.std.proofs.Common.{arith}
use Rattle.enet_receiver.proofs.Keeping.{Keeps-new}
use Rattle.enet_receiver.proofs.incoming.Incoming.open.Goals as goal

pub invariant_of-result : goal.invariant_of-result
invariant_of-result c = rw (c.new.ensures, c.new-2.ensures) (Keeps-new c.args.max_packet c.new-3.result.items (omega arith))
