use Rattle.std.proofs.Common.{ℕ, List, ◌++◌, take}
use Rattle.enet_text.specs.Inspected.{Wrote}
use Rattle.enet_lab.specs.Scripts.{HasRun}
use Rattle.enet_lab.proofs.reading.take_in.Given as goal

abbrev pub invariant-loop-byte : goal.invariant-loop-byte
invariant-loop-byte g l =
    Wrote (g.W.Write.contents l.fn.writer) (g.W.Write.contents l.writer) (λ more.
    (seen wrote : List ℕ) → HasRun seen wrote l.fn.script.stage l.fn.script.lines l.fn.line.items
    → HasRun (seen ++ take l.byte-index l.bytes) (wrote ++ more) l.script.stage l.script.lines l.line.items)
