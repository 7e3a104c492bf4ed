use Rattle.std.proofs.Common.{◌≡◌, ℕ, ◌-◌, ◌<◌, List, length, drop, ap, subst, ◌∙◌, arith}
use Rattle.std.specs.List.{slice_set}
use Rattle.enet_sender.specs.Pending.{vacant}
use Rattle.enet_sender.specs.Private.Trims.{Trims}
use Rattle.enet_sender.proofs.Trimming.{trims-front, trims-then}
use Rattle.enet_sender.proofs.ring.vacate.Goals.{then-place-eq0, else-place-eq0}
use Rattle.enet_sender.proofs.ring.vacate.Goals as goal

pub returns-clause-trims : goal.returns-clause-trims
returns-clause-trims c = λ at.
    let len = c.args.sent.now.ok.0 in
    let inside : c.args.place < length c.args.sent.now.items = let within = c.requires in omega arith in
    let trims = c.trim.ensures.trims at in
    elim c.if-place-eq0.branch [
      | then-place-eq0 w ↦
          let rest : c.if-place-eq0.sent.items ≡ drop 1 c.args.sent.now.items = ap (λ s. s.items) w.sent-is ∙ w.pop_front.ensures.rest in
          let due : c.if-place-eq0.due_from ≡ c.args.due_from.now - 1 = w.due_from-is ∙ w.saturating_sub.ensures in
          trims-then at _ _ _ _ _ _ (trims-front at c.args.sent.now.items c.if-place-eq0.sent.items c.args.due_from.now c.if-place-eq0.due_from c.args.place w.if-place-eq0.true inside rest due) trims
      | else-place-eq0 w ↦
          let set : c.if-place-eq0.sent.items ≡ slice_set c.args.sent.now.items c.args.place vacant = ap (λ s. s.items) w.sent-is in
          subst (λ (due : ℕ). Trims at (slice_set c.args.sent.now.items c.args.place vacant) due c.trim.new.sent.items c.trim.new.due_from) w.due_from-is
          (subst (λ (keys : List ℕ). Trims at keys c.if-place-eq0.due_from c.trim.new.sent.items c.trim.new.due_from) set trims)
    ]
