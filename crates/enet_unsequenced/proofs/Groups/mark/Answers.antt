use Rattle.std.proofs.Common.{◌≡◌, ◌%◌, true, set, ap, sym, subst, ◌∙◌, arith, eq-eqb, ne_eqb, cond}
use Rattle.std.specs.FinSet.{empty}
use Rattle.enet_unsequenced.specs.declared.Groups.TheInside.{Inside}
use Rattle.enet_unsequenced.specs.Groups.{Seen, block_of, mark}
use Rattle.enet_unsequenced.specs.Marks.{marked_from, marks_in}
use Rattle.enet_unsequenced.proofs.Words.{length-marks_in}
use Rattle.enet_unsequenced.proofs.MarksLemmas.{seen_of, mark_is}
use Rattle.enet_unsequenced.proofs.Groups.mark.Goals as goal
use Rattle.enet_unsequenced.proofs.Groups.mark.Goals.{then-group-place, else-group-place}

pub returns : goal.returns
returns c =
    let old = c.args.self.now in
    let group = c.args.group in
    let base_is : c.self.inside.base ≡ old.base = ap (λ (s : Seen). s.base) c.self.view_is in
    let After = λ (x : Inside). seen_of x.base (marked_from x.base (set (marks_in 1024 x.words) (group % 1024) true)) ≡ mark old group in
    let marked = c.set_mark.ensures 1024 in
    let joined = c.before.before.if-group-place.self-inside in
    let after : After joined = elim c.if-group-place.branch [
      | then-group-place w ↦
          let now = w.self-then-group-place.inside in
          let fresh = w.self-then-group-place.view_is ∙ w.unmarked.ensures in
          let long = length-marks_in 1024 now.words in
          subst After (sym w.self-inside-is) (mark_is now.base group (marks_in 1024 now.words) old (omega arith) (ap (λ (s : Seen). s.base) fresh)
          (ap (λ (s : Seen). s.marks) fresh ∙ sym (ap (λ b. cond b old.marks empty) (ne_eqb (block_of group) old.base (λ same. w.if-group-place.true (omega arith))))))
      | else-group-place w ↦
          let long = length-marks_in 1024 c.self.inside.words in
          subst After (sym w.self-inside-is) (mark_is c.self.inside.base group (marks_in 1024 c.self.inside.words) old (omega arith) (sym w.if-group-place.false)
          (ap (λ (s : Seen). s.marks) c.self.view_is ∙ sym (ap (λ b. cond b old.marks empty) (eq-eqb (block_of group) old.base (omega arith)))))
    ] in
    ap (λ m. seen_of joined.base (marked_from joined.base m)) marked ∙ after
