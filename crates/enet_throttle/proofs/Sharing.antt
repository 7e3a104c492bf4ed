-- Of 32 packets in a row one more goes out than the throttle says: tried for each counter and each throttle.
use Rattle.std.proofs.Common.{◌≡◌, ◌∙◌, ◌≢◌, inl, inr, ℕ, zero, suc, ◌+◌, ◌<◌, ◌%◌, min, Bool, true, false, nat_le, nat_eq, ◌&&◌, if◌then◌else◌, refl, ap, arith}
use Rattle.std.proofs.lemmas.Bool.{eqb-true}
use Rattle.std.proofs.lemmas.Bool.Decides.{eqb_tells}
use Rattle.enet_throttle.specs.Throttle.{Throttling, admitted_of, SharesOut}

-- The same count, on the counter and the throttle alone.
unfoldable count : ℕ → ℕ → ℕ → ℕ
count zero counter value = 0
count (suc n) counter value =
    (if nat_le ((counter + 7) % 32) value then 1 else 0) + count n ((counter + 7) % 32) value

admitted_of-count : (n : ℕ) (t : Throttling) → admitted_of n t ≡ count n t.counter t.value
unfolding admitted_of count
admitted_of-count zero t = refl
admitted_of-count (suc n) t =
    ap
    (λ k. (if nat_le ((t.counter + 7) % 32) t.value then 1 else 0) + k)
    (admitted_of-count n (record t { counter = (t.counter + 7) % 32 }))

-- Each number below n passes a test.
unfoldable all_below : ℕ → (ℕ → Bool) → Bool
all_below zero p = true
all_below (suc n) p = p n && all_below n p

both-left : (a b : Bool) → (a && b) ≡ true → a ≡ true
both-left true b e = refl
both-left false b e = e

both-right : (a b : Bool) → (a && b) ≡ true → b ≡ true
both-right true b e = e
both-right false b e = cc

all_below-passes : (n : ℕ) (p : ℕ → Bool) → all_below n p ≡ true → (k : ℕ) → k < n → p k ≡ true
unfolding all_below
all_below-passes zero p e k h = absurd (omega arith)
all_below-passes (suc n) p e k h =
    elim (eqb_tells k n) as (λ _. p k ≡ true) [
      | inl w ↦ ap p w.1 ∙ both-left (p n) (all_below n p) e
      | inr w ↦ all_below-passes n p (both-right (p n) (all_below n p) e) k (let other : k ≢ n = w.1 in omega arith)
    ]

-- Whether 32 packets are shared out rightly from this counter at this throttle.
is_right : ℕ → ℕ → Bool
is_right counter value = nat_eq (count 32 counter value) (min (value + 1) 32)

all_right : all_below 32 (λ c. all_below 33 (λ v. is_right c v)) ≡ true
unfolding all_below count is_right
all_right = refl

-- So it is from each counter at each throttle.
count-right : (c v : ℕ) → c < 32 → v < 33 → count 32 c v ≡ min (v + 1) 32
unfolding is_right
count-right c v in_cycle in_scale =
    let row = all_below-passes 32 (λ (k : ℕ). all_below 33 (λ v. is_right k v)) all_right c in_cycle in
    eqb-true _ _ (all_below-passes 33 (λ (k : ℕ). is_right c k) row v in_scale)

pub shares_out : SharesOut
shares_out t in_scale in_cycle = admitted_of-count 32 t ∙ count-right t.counter t.value in_cycle (omega arith)
