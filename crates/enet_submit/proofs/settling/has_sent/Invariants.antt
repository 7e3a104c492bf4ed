use Rattle.std.proofs.Common.{◌≡◌, ℕ, ◌<◌, get_or}
use Rattle.enet_submit.specs.declared.token.Finished.{Finished}
use Rattle.enet_submit.proofs.settling.has_sent.Given as goal

abbrev pub invariant-loop-f : goal.invariant-loop-f
invariant-loop-f l = (k : ℕ) (d : Finished) → k < l.f-index → (get_or l.finished k d).number ≡ l.seat → (get_or l.finished k d).count ≡ l.count → ⊥
