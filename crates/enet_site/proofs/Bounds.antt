-- The numbers of an end stay below their bound.
use Rattle.std.proofs.Common.{◌≡◌, ℕ, zero, suc, ◌+◌, ◌*◌, ◌^◌, ◌<◌, ◌≤◌, List, [], ◌∷◌, ◌++◌, length, take, Option, Some, None, option_to_list, slice_set, refl, ap, subst, inl, inr, ◌⊎◌, arith}
use Rattle.std.proofs.lemmas.List.{length-take}
use Rattle.law_connection.specs.Greatest.{greatest_after}
use Rattle.law_connection.proofs.Greatest.{step}
use Rattle.law_network.specs.declared.mark.Mark.{Mark}
use Rattle.law_network.specs.declared.mark.MarkKind.{MarkKind}
use Rattle.law_network.specs.declared.mark.MarkKind.TheVariants.{Data, Acknowledgement, Control}
use Rattle.law_network.specs.Log.{greatest_at, with_number, counted_by, counted, counted_all}
use Rattle.law_network.specs.Marks.{mark_of, MarksOf, MarksIn, Counts}
use Rattle.law_network.proofs.Counting.{number-there, number-other}
use Rattle.law_network.proofs.Keeping.{equal-or-not}
use Rattle.enet_site.specs.Records.{AreBelow}

-- by each command a number rises by less than 2 ^ 15

set-outside : (ys : List ℕ) (k y : ℕ) → length ys ≤ k → slice_set ys k y ≡ ys
set-outside [] k y h = refl
set-outside (x ∷ ys) zero y h = absurd (omega arith)
set-outside (x ∷ ys) (suc k) y h = ap (λ (l : List ℕ). x ∷ l) (set-outside ys k y (omega arith))

below-set : (bound : ℕ) (xs : List ℕ) (i number : ℕ) → AreBelow bound xs → AreBelow (bound + 32768) (with_number xs i number)
below-set bound xs i number below j = elim (equal-or-not i j) [
  | inl e ↦ subst (λ (n : ℕ). greatest_at (with_number xs i number) n < bound + 32768) e (there (less-or-not i (length xs)))
  | inr n ↦ (let same = number-other xs i j (greatest_after (greatest_at xs i) number) n in let b = below j in omega arith)
]
  where
    less-or-not : (a b : ℕ) → (a < b) ⊎ (b ≤ a)
    less-or-not a b = grind arith

    there : (i < length xs) ⊎ (length xs ≤ i) → greatest_at (with_number xs i number) i < bound + 32768
    there (inl inside) = (let same = number-there xs i (greatest_after (greatest_at xs i) number) inside in let b = below i in let s = step (greatest_at xs i) number in omega (arith, s.1))
    there (inr far) = (let same = ap (λ (l : List ℕ). greatest_at l i) (set-outside xs i (greatest_after (greatest_at xs i) number) far) in let b = below i in omega arith)

below-counted-by : (bound : ℕ) (kind : MarkKind) (m : Mark) (xs : List ℕ) → AreBelow bound xs → AreBelow (bound + 32768) (counted_by kind xs m)
below-counted-by bound Acknowledgement m xs below = λ j. (let b = below j in omega arith)
below-counted-by bound Data m xs below = below-set bound xs m.channel m.number below
below-counted-by bound Control m xs below = below-set bound xs m.channel m.number below

pub below-counted : (bound : ℕ) (marks : List Mark) (xs : List ℕ) → AreBelow bound xs → AreBelow (bound + 32768 * length marks) (counted_all xs marks)
below-counted bound [] xs below = λ j. (let b = below j in omega arith)
below-counted bound (m ∷ marks) xs below = λ j. (let b = below-counted (bound + 32768) marks (counted xs m) (below-counted-by bound m.kind m xs below) j in omega arith)

-- a datagram has few marks

at-most-one : (o : Option Mark) (later : List Mark) → length (option_to_list o ++ later) ≤ length later + 1
at-most-one None later = omega arith
at-most-one (Some m) later = omega arith

few-of : (most : ℕ) (bytes : List ℕ) (marks : List Mark) → MarksOf most bytes marks → length marks ≤ most
unfolding MarksOf
few-of zero bytes marks h = omega (arith, ap length h)
few-of (suc most) bytes marks (inl none) = omega (arith, ap length none.1)
few-of (suc most) bytes marks (inr b) =
    let later = few-of most b.rest b.later b.follow in
    let one = at-most-one (mark_of b.message) b.later in
    omega (arith, ap length b.joined)

pub few-marks : (text : List ℕ) (marks : List Mark) → MarksIn text marks → length marks ≤ 32
few-marks text marks (inl a) = few-of 32 a.commands marks a.marked
few-marks text marks (inr none) = omega (arith, ap length none.1)

-- while they are counted

pub below-partly : (marks : List Mark) (greatest : List ℕ) (i : ℕ) → length marks ≤ 32 → AreBelow (2 ^ 126) greatest → AreBelow (2 ^ 127) (counted_all greatest (take i marks))
below-partly marks greatest i few below = λ j. (let b = below-counted (2 ^ 126) (take i marks) greatest below j in let l = length-take i marks in omega arith)

-- and once the datagram is counted

pub below-after : (bound : ℕ) (text : List ℕ) (old new other : List ℕ) (marks : List Mark) → Counts text old new other marks → AreBelow bound old → AreBelow (bound + 2 ^ 20) new
below-after bound text old new other marks c below = λ j.
    (let few = few-marks text c.read c.marked in let b = below-counted bound c.read old below j in let same = ap (λ (l : List ℕ). greatest_at l j) c.counted in omega arith)
