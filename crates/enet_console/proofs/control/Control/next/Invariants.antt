use Rattle.enet_console.specs.Inputs.{ReadsOn}
use Rattle.enet_console.proofs.control.Control.next.Given as goal

-- so far no line ended
abbrev pub invariant-bytes : goal.invariant-bytes
invariant-bytes l = ReadsOn l._count l.fn.self l.self
