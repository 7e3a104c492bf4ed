-- Counts of commands, which stop at a greatest number.
use Rattle.std.proofs.Common.{◌≡◌, ℕ, ◌+◌, Bool, cond, List, [], ◌∷◌, Option, Some, None, refl, sym, ap, ◌∙◌, arith}
use Rattle.std.specs.List.{count_by, cons_option}
use Rattle.std.proofs.lemmas.List.Sums.{sum_by-cons}
use Rattle.enet_sender.specs.declared.sent.Sent.{Sent}
use Rattle.enet_sender.specs.Counting.{added}
use Rattle.enet_sender.specs.Pending.{named}
use Rattle.enet_sender.specs.Private.Rounds.{test_at}

-- one part after another
pub added-more : (count m n : ℕ) → added (added count m) n ≡ added count (m + n)
added-more count m n = omega arith

-- those that keys name
pub count-named : (f : Sent → Bool) (at : ℕ → Option Sent) (keys : List ℕ) → count_by (λ (key : ℕ). test_at f (at key)) keys ≡ count_by f (named at keys)
count-named f at [] = refl
count-named f at (k ∷ keys) =
    sum_by-cons (λ (key : ℕ). cond (test_at f (at key)) 1 0) k keys
    ∙ ap (λ n. cond (test_at f (at k)) 1 0 + n) (count-named f at keys)
    ∙ by (at k)
  where
    by : (o : Option Sent) → cond (test_at f o) 1 0 + count_by f (named at keys) ≡ count_by f (cons_option o (named at keys))
    by None = omega arith
    by (Some p) = sym (sum_by-cons (λ (q : Sent). cond (f q) 1 0) p (named at keys))
