-- The longest gap, one gap further.
use Rattle.std.proofs.Common.{◌≡◌, ◌≤◌, ◌<◌, ◌+◌, ℕ, Bool, true, false, nat_lt, if◌then◌else◌, List, Option, Some, None, refl, arith, below_more}
use Rattle.std.proofs.lemmas.Bool.{ltb-true, ltb-false}
use Rattle.enet_captured.specs.declared.timeline.Seen.{Seen}
use Rattle.enet_captured.specs.Gaps.{gap_behind, IsLongestOf}
use Rattle.enet_captured.specs.Private.Gaps.{longer}

module _ (seen : List Seen) (n : ℕ) where
  abbrev gap : ℕ × ℕ
  gap = gap_behind seen n

  among : (found : ℕ × ℕ) (b : Bool) → nat_lt found.0 gap.0 ≡ b → IsLongestOf seen n (Some found)
      → IsLongestOf seen (n + 1) (Some (if b then gap else found))
  among found true e h =
      let shorter : found.0 < gap.0 = ltb-true _ _ e in (
        (n, omega arith, refl),
        λ place below. below_more (λ (k : ℕ). (gap_behind seen k).0 ≤ gap.0) n
            (λ k within. let bound : (gap_behind seen k).0 ≤ found.0 = h.1 k within in omega (arith, bound, shorter)) (omega arith) place below,
      )
  among found false e h =
      let no_longer : gap.0 ≤ found.0 = ltb-false _ _ e in
      ((h.0.0, omega (arith, h.0.1), h.0.2), λ place below. below_more (λ (k : ℕ). (gap_behind seen k).0 ≤ found.0) n h.1 no_longer place below)

  pub longest_more : (found : Option (ℕ × ℕ)) → IsLongestOf seen n found → IsLongestOf seen (n + 1) (Some (longer found gap))
  longest_more None h =
      ((n, omega arith, refl), λ place below. below_more (λ (k : ℕ). (gap_behind seen k).0 ≤ gap.0) n (λ k within. absurd (omega (arith, within, h))) (omega arith) place below)
  longest_more (Some found) h = among found (nat_lt found.0 gap.0) refl h
