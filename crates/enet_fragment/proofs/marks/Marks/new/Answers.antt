use Rattle.std.proofs.Common.{◌+◌, ◌/◌, ℕ, replicate, ap, ◌∙◌, arith}
use Rattle.std.proofs.lemmas.List.{length-replicate}
use Rattle.enet_fragment.specs.Marks.{AreMarks, marks_in}
use Rattle.enet_fragment.proofs.Marked.{marks-none, mark_in-none}
use Rattle.enet_fragment.proofs.marks.Marks.new.Goals as goal

pub invariant_of-result : goal.invariant_of-result
invariant_of-result c =
    let n = (c.args.count + 31) / 32 in
    let len = length-replicate {A = ℕ} n 0 in
    let kept : AreMarks c.args.count (replicate n 0) = record { small = omega arith; enough = len; clear = λ i past. mark_in-none n i } in
    rw c.in_ok-words.ensures.ok kept

pub returns-clause-ok : goal.returns-clause-ok
returns-clause-ok c = ap (marks_in c.args.count) c.in_ok-words.ensures.ok ∙ marks-none c.args.count ((c.args.count + 31) / 32)
