use Rattle.std.proofs.Common.{◌<◌, ◌%◌, ◌/◌, Bool, List, length, get_or, eqb, false, sym, ap, ◌∙◌, arith}
use Rattle.std.specs.Int.{bit_at}
use Rattle.std.proofs.lemmas.Bool.{le-ltb}
use Rattle.std.proofs.lemmas.List.{get_or_past, get_or_read}
use Rattle.std.proofs.lemmas.Nat.Bits.{shr_and_one}
use Rattle.enet_fragment.proofs.Marked.{length-marks_in, marks_in-inside}
use Rattle.enet_fragment.proofs.marks.Marks.has.Goals as goal

pub returns-then-i-self : goal.returns-then-i-self
returns-then-i-self c =
    let words = c.self.inside.words.items in
    let inside : c.args.i / 32 < length words = omega (arith, c.self.invariant.enough, c.if-i-self.true) in
    ap (λ b. eqb b 1) (shr_and_one c.index.result.now (c.args.i % 32))
    ∙ ap (λ n. eqb (bit_at n (c.args.i % 32)) 1) (get_or_read words (c.args.i / 32) c.index.result.now inside c.index.ensures 0)
    ∙ sym (marks_in-inside c.self.inside.count words c.args.i false c.if-i-self.true) ∙ ap (λ (marks : List Bool). get_or marks c.args.i false) c.self.view_is

pub returns-else-i-self : goal.returns-else-i-self
returns-else-i-self c =
    let len = length-marks_in c.self.inside.count c.self.inside.words.items in
    let now = ap (λ (marks : List Bool). length marks) c.self.view_is in
    le-ltb _ _ c.if-i-self.false ∙ sym (get_or_past c.args.self.now c.args.i false (omega (arith, c.if-i-self.false)))
