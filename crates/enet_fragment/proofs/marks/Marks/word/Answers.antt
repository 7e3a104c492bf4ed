use Rattle.std.proofs.Common.{◌≡◌, ◌<◌, ◌+◌, ◌*◌, ◌/◌, ◌%◌, Bool, List, length, get_or, eqb, false, refl, sym, ap, ◌∙◌, arith}
use Rattle.std.specs.Int.{bit_at}
use Rattle.std.proofs.lemmas.List.{get_or_read}
use Rattle.enet_fragment.specs.Marks.{mark_in}
use Rattle.enet_fragment.proofs.Marked.{length-marks_in, marks_in-any}
use Rattle.enet_fragment.proofs.marks.Marks.word.Goals as goal

pub returns-then-place-len-clause-bits : goal.returns-then-place-len-clause-bits
returns-then-place-len-clause-bits c = λ i low.
    let words = c.self.inside.words.items in
    let k = 32 * c.args.j + i in
    let place : k / 32 ≡ c.args.j = omega arith in
    let bit : k % 32 ≡ i = omega arith in
    let inside : c.args.j < length words = omega (arith, c.if-place-len.true, c.len.ensures, c.self.inside.words.ok.0) in
    let word : eqb (bit_at c.index.result.now i) 1 ≡ mark_in words k =
    ap (λ n. eqb (bit_at n i) 1) (get_or_read words c.args.j c.index.result.now inside c.index.ensures 0)
    ∙ ap (λ n. eqb (bit_at (get_or words n 0) i) 1) (sym place) ∙ ap (λ n. eqb (bit_at (get_or words (k / 32) 0) n) 1) (sym bit) in
    word ∙ sym (marks_in-any c.self.inside.count words k c.self.invariant) ∙ ap (λ (marks : List Bool). get_or marks k false) c.self.view_is

pub returns-then-place-len-clause-there : goal.returns-then-place-len-clause-there
returns-then-place-len-clause-there c =
    let len = length-marks_in c.self.inside.count c.self.inside.words.items in
    let now = ap (λ (marks : List Bool). length marks) c.self.view_is in
    (λ e. omega (arith, c.self.invariant.enough, c.if-place-len.true, c.len.ensures, c.self.inside.words.ok.0), λ h. refl)

pub returns-else-place-len-clause-there : goal.returns-else-place-len-clause-there
returns-else-place-len-clause-there c =
    let len = length-marks_in c.self.inside.count c.self.inside.words.items in
    let now = ap (λ (marks : List Bool). length marks) c.self.view_is in
    (λ e. absurd (cc), λ h. absurd (omega (arith, c.self.invariant.enough, c.if-place-len.false, c.len.ensures, c.self.inside.words.ok.0)))
