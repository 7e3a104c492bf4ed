-- Which distances are inside the window, and what a wire number is read as.
use Rattle.std.proofs.Common.{◌≡◌, ℕ, ◌+◌, ◌-◌, ◌%◌, ◌<◌, ◌≤◌, true, false, Some, None, arith}
use Rattle.std.proofs.lemmas.Bool.Decides.{nat_tests}
use Rattle.enet_seq.specs.Windows.{in_window, acknowledges, ahead, after, fragment_in_window, number_in_window}

pub near_is_inside : (front number : ℕ) → front < 65536 → number < 65536 → ahead front number ≤ 24576 → in_window front number ≡ true
near_is_inside front number front_fits number_fits near = grind (arith, nat_tests)

pub inside_is_near : (front number : ℕ) → front < 65536 → number < 65536 → in_window front number ≡ true → ahead front number ≤ 28671
inside_is_near front number front_fits number_fits inside = grind (arith, nat_tests)

pub inside_is_acknowledged : (front number : ℕ) → front < 65536 → number < 65536 → in_window front number ≡ true → acknowledges front number ≡ true
inside_is_acknowledged front number front_fits number_fits inside = grind (arith, nat_tests)

pub late_is_acknowledged : (front number : ℕ) → front < 65536 → number < 65536 → 36864 ≤ ahead front number → acknowledges front number ≡ true
late_is_acknowledged front number front_fits number_fits late = grind (arith, nat_tests)

pub ahead_of_after : (number count : ℕ) → number < 65536 → count < 65536 → ahead number (after number count) ≡ count
ahead_of_after number count number_fits count_fits = omega arith

pub after_ahead : (front number : ℕ) → front < 65536 → number < 65536 → after front (ahead front number) ≡ number
after_ahead front number front_fits number_fits = omega arith

pub true_sum : (number count : ℕ) → after (number % 65536) count ≡ (number + count) % 65536
true_sum number count = omega arith

pub ahead_true : (front number : ℕ) → front ≤ number → number < front + 65536 → ahead (front % 65536) (number % 65536) ≡ number - front
ahead_true front number low high = omega arith

pub ahead_behind : (front number : ℕ) → number < front → front ≤ number + 65536 → ahead (front % 65536) (number % 65536) ≡ number + 65536 - front
ahead_behind front number low high = omega arith

-- a number at most 24,576 ahead of the front is read as itself
pub read_ahead : (front number : ℕ) → front ≤ number → number ≤ front + 24576 → number_in_window front (number % 65536) ≡ Some number
read_ahead front number low high = grind (arith, nat_tests)

-- a number 1 to 36,864 behind the front is outside the window
pub behind_is_outside : (front number : ℕ) → number < front → front ≤ number + 36864 → in_window (front % 65536) (number % 65536) ≡ false
behind_is_outside front number low high = grind (arith, nat_tests)

-- and is read as nothing
pub read_behind : (front number : ℕ) → number < front → front ≤ number + 36864 → number_in_window front (number % 65536) ≡ None
read_behind front number low high = grind (arith, nat_tests)

-- a fragment in the window gives away its packet's start
pub fragment_start : (front start own : ℕ) → start ≤ own → own ≤ start + 16383 → own ≤ front + 24575 → front ≤ own + 32768 → fragment_in_window (front % 65536) (start % 65536) (own % 65536) ≡ true → number_in_window front (start % 65536) ≡ Some start
fragment_start front start own below length high low inside = grind (arith, nat_tests)
