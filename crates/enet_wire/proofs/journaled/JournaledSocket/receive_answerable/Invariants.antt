use Rattle.std.proofs.Common.{◌≡◌}
use Rattle.enet_wire.specs.Private.Noted.{noted_at}
use Rattle.enet_wire.proofs.journaled.JournaledSocket.receive_answerable.Given as goal

abbrev pub invariant-loop-over : goal.invariant-loop-over
invariant-loop-over l = noted_at l.self ≡ noted_at l.fn.self
