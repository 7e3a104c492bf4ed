use Rattle.std.proofs.Common.{ℕ, List}
use Rattle.std.specs.Io.KnownBytes.{Consumes}
use Rattle.enet_text.specs.Inspected.{Wrote}
use Rattle.enet_lab.specs.Scripts.{HasRun}
use Rattle.enet_lab.proofs.reading.run_script.Given as goal

abbrev pub invariant-reads : goal.invariant-reads
invariant-reads g l =
    (seen : List ℕ) × Consumes (g.R.Read.remaining l.fn.reader) (g.R.Read.remaining l.reader) seen
    × Wrote (g.W.Write.contents l.fn.writer) (g.W.Write.contents l.writer) (λ wrote. HasRun seen wrote l.script.stage l.script.lines l.line.items)
