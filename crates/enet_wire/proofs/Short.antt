-- A front is no longer than it was cut to.
use Rattle.std.proofs.Common.{ℕ, ◌≤◌, List, take, length, arith}
use Rattle.std.proofs.lemmas.List.{length-take}

pub take_short : (n : ℕ) (xs : List ℕ) → length (take n xs) ≤ n
take_short n xs = omega (arith, length-take n xs)
