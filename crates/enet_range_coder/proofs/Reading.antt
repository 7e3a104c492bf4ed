-- Chains of cells, read.
use Rattle.std.proofs.Common.{◌≡◌, ℕ, ◌+◌, ◌-◌, ◌<◌, ◌≤◌, ◌⊎◌, inl, inr, true, false, ◌==◌, nat_lt, max, zero, suc, List, [], ◌∷◌, Option, Some, refl, arith}
use Rattle.std.proofs.lemmas.Bool.Decides.{nat_tests}
use Rattle.enet_range_coder.specs.declared.cell.Cell.{Cell}
use Rattle.enet_range_coder.specs.Context.{find, reach}
use Rattle.enet_range_coder.specs.Memory.{cell_at, chain}

pub chain_ends : (left : ℕ) (cells : List Cell) (place : ℕ) → (left ≡ 0) ⊎ ((left ≡ 0 → ⊥) × (place ≡ 0)) → chain left cells place ≡ []
unfolding chain
chain_ends zero cells place h = refl
chain_ends (suc left) cells place h = elim h [ inl e ↦ absurd (omega arith) | inr e ↦ rw e.1 refl ]

pub chain_goes : (left : ℕ) (cells : List Cell) (place : ℕ) (cell : Cell) → (left ≡ 0 → ⊥) → (place ≡ 0 → ⊥) → cell ≡ cell_at cells place → chain left cells place ≡ (cell.byte, cell.weight) ∷ chain (left - 1) cells cell.next
unfolding chain
chain_goes zero cells place cell h k e = absurd (h refl)
chain_goes (suc left) cells place cell h k e =
    let t : (place == 0) ≡ false = grind (arith, nat_tests) in
    let f : suc left - 1 ≡ left = omega arith in
    rw (t, f, e) refl

pub find_hit : (b : ℕ × ℕ) (bs : List (ℕ × ℕ)) (byte below n : ℕ) → b.0 ≡ byte → n ≡ max b.1 1 → Some (below, n) ≡ find (b ∷ bs) byte below
find_hit b bs byte below n e f = let t : (b.0 == byte) ≡ true = grind (arith, nat_tests) in rw (t, f) refl

pub find_miss : (b : ℕ × ℕ) (bs : List (ℕ × ℕ)) (byte below n : ℕ) (r : Option (ℕ × ℕ)) → (b.0 ≡ byte → ⊥) → n ≡ max b.1 1 → r ≡ find bs byte (below + n) → r ≡ find (b ∷ bs) byte below
find_miss b bs byte below n r e f g = let t : (b.0 == byte) ≡ false = grind (arith, nat_tests) in rw t (rw f at g)

pub reach_hit : (b : ℕ × ℕ) (bs : List (ℕ × ℕ)) (aim below after : ℕ) → after ≡ below + max b.1 1 → aim < after → Some b.0 ≡ reach (b ∷ bs) aim below
reach_hit b bs aim below after e l = let t : nat_lt aim (below + max b.1 1) ≡ true = grind (arith, nat_tests) in rw t refl

pub reach_miss : (b : ℕ × ℕ) (bs : List (ℕ × ℕ)) (aim below after : ℕ) (r : Option ℕ) → after ≡ below + max b.1 1 → after ≤ aim → r ≡ reach bs aim after → r ≡ reach (b ∷ bs) aim below
reach_miss b bs aim below after r e l g = let t : nat_lt aim (below + max b.1 1) ≡ false = grind (arith, nat_tests) in rw t (rw e at g)
