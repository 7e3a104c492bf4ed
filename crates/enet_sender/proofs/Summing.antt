-- What commands weigh together, one key after another. Sums of 32 bits stop at the greatest number.
use Rattle.std.proofs.Common.{◌≡◌, ℕ, zero, suc, ◌+◌, ◌-◌, ◌<◌, ◌≤◌, ◌&&◌, false, cond, List, [], ◌∷◌, length, get_or, take, Option, Some, None, refl, ap, ◌∙◌, arith}
use Rattle.std.proofs.lemmas.List.{take_all}
use Rattle.std.proofs.lemmas.List.Sums.{sum_by-cons}
use Rattle.enet_rtt.specs.Transmission.{is_heard_since}
use Rattle.enet_rtt.specs.declared.transmission.Tick.{Tick}
use Rattle.enet_sender.specs.declared.sent.Sent.{Sent}
use Rattle.enet_sender.specs.declared.lateness.Late.{Late}
use Rattle.enet_sender.specs.Late.{IsLate, capped, sum_at, weight_at}
use Rattle.enet_sender.specs.Private.Late.{IsLateOne, late_with}
use Rattle.enet_sender.specs.Sender.{bytes_of, is_late, late_bytes, late_price, lost_price, price_of}

-- with the next key, also where it is past the last
pub sum-suc : (w : Sent → ℕ) (slots : List (Option Sent)) (i : ℕ) → sum_at w (take (suc i) slots) ≡ sum_at w (take i slots) + weight_at w (get_or slots i None)
sum-suc w [] zero = refl
sum-suc w [] (suc i) = refl
sum-suc w (o ∷ slots) zero = omega arith
sum-suc w (o ∷ slots) (suc i) =
    let e = sum_by-cons (weight_at w) o (take (suc i) slots) in
    let f = sum_by-cons (weight_at w) o (take i slots) in
    let h = sum-suc w slots i in
    omega arith

pub sum-next : (w : Sent → ℕ) (slots : List (Option Sent)) (i : ℕ) → sum_at w (take (i + 1) slots) ≡ sum_at w (take i slots) + weight_at w (get_or slots i None)
sum-next w slots i = ap (λ n. sum_at w (take n slots)) (let e : i + 1 ≡ suc i = omega arith in e) ∙ sum-suc w slots i

-- keys that weigh nothing are passed over
pub sum-quiet : (w : Sent → ℕ) (slots : List (Option Sent)) (from more : ℕ) → ((k : ℕ) → from ≤ k → k < from + more → weight_at w (get_or slots k None) ≡ 0)
    → sum_at w (take (from + more) slots) ≡ sum_at w (take from slots)
sum-quiet w slots from zero none = ap (λ n. sum_at w (take n slots)) (let e : from + 0 ≡ from = omega arith in e)
sum-quiet w slots from (suc more) none =
    let h = sum-quiet w slots from more (λ k low inside. none k low (omega arith)) in
    let here = none (from + more) (omega arith) (omega arith) in
    let e = sum-next w slots (from + more) in
    let same : sum_at w (take (from + suc more) slots) ≡ sum_at w (take (from + more + 1) slots) = ap (λ n. sum_at w (take n slots)) (let e : from + suc more ≡ from + more + 1 = omega arith in e) in
    omega arith

-- the sum so far, and what the next key adds to it
sum-more : (w : Sent → ℕ) (slots : List (Option Sent)) (from key sum one : ℕ) → from ≤ key → ((k : ℕ) → from ≤ k → k < key → weight_at w (get_or slots k None) ≡ 0)
    → sum ≡ capped (sum_at w (take from slots)) → one ≡ capped (weight_at w (get_or slots key None)) → capped (sum + one) ≡ capped (sum_at w (take (key + 1) slots))
sum-more w slots from key sum one low none so_far is =
    let more : from + (key - from) ≡ key = omega arith in
    let quiet = sum-quiet w slots from (key - from) (λ k some inside. none k some (omega arith)) in
    let here : sum_at w (take (from + (key - from)) slots) ≡ sum_at w (take key slots) = ap (λ n. sum_at w (take n slots)) more in
    let e = sum-next w slots key in
    omega arith

-- where no key from one on weighs anything
pub sum-whole : (w : Sent → ℕ) (slots : List (Option Sent)) (from : ℕ) → ((k : ℕ) → from ≤ k → weight_at w (get_or slots k None) ≡ 0) → sum_at w slots ≡ sum_at w (take from slots)
sum-whole w slots from none =
    let quiet = sum-quiet w slots from (length slots) (λ k some inside. none k some) in
    let all : sum_at w (take (from + length slots) slots) ≡ sum_at w slots = ap (sum_at w) (take_all (from + length slots) slots (omega arith)) in
    omega arith

sum-all : (w : Sent → ℕ) (slots : List (Option Sent)) (from sum : ℕ) → ((k : ℕ) → from ≤ k → weight_at w (get_or slots k None) ≡ 0)
    → sum ≡ capped (sum_at w (take from slots)) → sum ≡ capped (sum_at w slots)
sum-all w slots from sum none so_far = let whole = sum-whole w slots from none in omega arith

-- what isn't late weighs nothing
abbrev pub IsQuiet : Tick → Option Sent → Type 0
IsQuiet tick o = (p : Sent) → o ≡ Some p → is_late tick.now p ≡ false

quiet-bytes : (tick : Tick) (o : Option Sent) → IsQuiet tick o → weight_at (late_bytes tick) o ≡ 0
quiet-bytes tick None quiet = refl
quiet-bytes tick (Some p) quiet = ap (λ b. cond b (bytes_of p.command) 0) (quiet p refl)

quiet-price : (tick : Tick) (o : Option Sent) → IsQuiet tick o → weight_at (late_price tick) o ≡ 0
quiet-price tick None quiet = refl
quiet-price tick (Some p) quiet = ap (λ b. cond b (price_of p.command) 0) (quiet p refl)

quiet-lost : (tick : Tick) (o : Option Sent) → IsQuiet tick o → weight_at (lost_price tick) o ≡ 0
quiet-lost tick None quiet = refl
quiet-lost tick (Some p) quiet = ap (λ b. cond (b && is_heard_since tick p.transmission) (price_of p.command) 0) (quiet p refl)

-- one key after another
pub late-more : (tick : Tick) (slots : List (Option Sent)) (from key : ℕ) (late one : Late) → from ≤ key → ((k : ℕ) → from ≤ k → k < key → IsQuiet tick (get_or slots k None))
    → IsLate tick (take from slots) late → IsLateOne tick (get_or slots key None) one → IsLate tick (take (key + 1) slots) (late_with late one)
late-more tick slots from key late one low quiet l o = record {
  bytes = sum-more (late_bytes tick) slots from key late.bytes one.bytes low (λ k some inside. quiet-bytes tick (get_or slots k None) (quiet k some inside)) l.bytes o.bytes;
  prices = sum-more (late_price tick) slots from key late.prices one.prices low (λ k some inside. quiet-price tick (get_or slots k None) (quiet k some inside)) l.prices o.prices;
  lost = sum-more (lost_price tick) slots from key late.lost one.lost low (λ k some inside. quiet-lost tick (get_or slots k None) (quiet k some inside)) l.lost o.lost;
}

-- where nothing else is late
pub late-all : (tick : Tick) (slots : List (Option Sent)) (from : ℕ) (late : Late) → ((k : ℕ) → from ≤ k → IsQuiet tick (get_or slots k None)) → IsLate tick (take from slots) late → IsLate tick slots late
late-all tick slots from late quiet l = record {
  bytes = sum-all (late_bytes tick) slots from late.bytes (λ k some. quiet-bytes tick (get_or slots k None) (quiet k some)) l.bytes;
  prices = sum-all (late_price tick) slots from late.prices (λ k some. quiet-price tick (get_or slots k None) (quiet k some)) l.prices;
  lost = sum-all (lost_price tick) slots from late.lost (λ k some. quiet-lost tick (get_or slots k None) (quiet k some)) l.lost;
}

pub late-none : (tick : Tick) (slots : List (Option Sent)) → IsLate tick (take 0 slots) (record { bytes = 0; prices = 0; lost = 0 })
late-none tick slots = record { bytes = refl; prices = refl; lost = refl }
