-- How a command goes again and again where it may be due for long, since there is no room for it, on a clock that doesn't wrap meanwhile:
-- its timeout is never longer than 5,000 ms and the greatest patience.
use Rattle.std.proofs.Common.{◌≡◌, ℕ, ◌+◌, ◌-◌, ◌%◌, ◌^◌, ◌<◌, ◌≤◌, ◌&&◌, not, leb, Bool, true, false, cond, refl, sym, ap, subst, ◌∙◌, inl, inr, ◌⊎◌, arith}
use Rattle.enet_rtt.specs.Clock.{elapsed_time}
use Rattle.enet_rtt.specs.Transmission as transmission
use Rattle.enet_rtt.specs.declared.transmission.Transmission.{Transmission}
use Rattle.enet_rtt.specs.declared.transmission.Tick.{Tick}
use Rattle.law_progress.proofs.Timed.{Timed, elapsed-is, le-of, lt-of, next-within}

-- by now a command that first went at this moment goes on so, where patience lasts for `most`
pub record Paces (first most now : ℕ) (t : Transmission) : Type 0 where
  pub last : ℕ
  pub first_is : t.first ≡ first % 2 ^ 32
  pub last_is : t.last ≡ last % 2 ^ 32
  pub after : first ≤ last
  pub by : last ≤ now
  pub short : t.timeout ≤ 5000 + most
  pub grown : ((t.due ≡ false) × (t.timeout + first ≤ 5000 + last) × ((now ≤ last + t.timeout) ⊎ (now ≤ first + most))) ⊎ ((t.due ≡ true) × (t.timeout + first ≤ 5000 + now))

pub paces-begun : (first least most : ℕ) → least ≤ 5000 → Paces first most first (transmission.begun (first % 2 ^ 32) least)
paces-begun first least most low =
    record { last = first; first_is = refl; last_is = refl; after = omega arith; by = omega arith; short = omega arith; grown = inl (refl, omega arith, inl (omega arith)) }

pub paces-again : (first most now : ℕ) (t : Transmission) → Paces first most now t → t.due ≡ true → Paces first most now (transmission.again (now % 2 ^ 32) t)
paces-again first most now t w due = by w.grown
  where
    by : ((t.due ≡ false) × (t.timeout + first ≤ 5000 + w.last) × ((now ≤ w.last + t.timeout) ⊎ (now ≤ first + most))) ⊎ ((t.due ≡ true) × (t.timeout + first ≤ 5000 + now)) → Paces first most now (transmission.again (now % 2 ^ 32) t)
    by (inl k) = absurd (let f : true ≡ false = sym due ∙ k.0 in cc)
    by (inr k) = (let after = w.after in let low = w.by in
        record { last = now; first_is = w.first_is; last_is = refl; after = omega arith; by = omega arith; short = w.short; grown = inl (refl, k.1, inl (omega arith)) })

-- one that was never due for long
pub paces-timed : (first most now : ℕ) (t : Transmission) → Timed first 5000 most now t → t.due ≡ false → Paces first most now t
paces-timed first most now t w waits = by w.grown
  where
    by : ((t.due ≡ false) × (t.timeout + first ≤ 5000 + w.last) × ((now ≤ w.last + t.timeout) ⊎ (now ≤ first + most))) ⊎ ((t.due ≡ true) × (t.timeout + first ≤ 5000 + now) × (now ≤ first + most)) → Paces first most now t
    by (inr k) = absurd (let f : true ≡ false = sym k.0 ∙ waits in cc)
    by (inl k) = (let brief = w.brief in let grown = k.1 in record { last = w.last; first_is = w.first_is; last_is = w.last_is; after = w.after; by = w.by; short = omega arith; grown = inl (waits, k.1, k.2) })

-- where it is late, and patience lasts, it is no longer since it first went
pub late-brief : (first most before now : ℕ) (t : Transmission) → Paces first most before t → before ≤ now → now < first + 2 ^ 32 → leb most (elapsed_time (now % 2 ^ 32) t.first) ≡ false → now < first + most
late-brief first most before now t w up near patient =
    let since : elapsed_time (now % 2 ^ 32) t.first ≡ now - first = ap (elapsed_time (now % 2 ^ 32)) w.first_is ∙ elapsed-is first now (let x = w.after in let y = w.by in omega arith) near in
    let x = lt-of most (elapsed_time (now % 2 ^ 32) t.first) patient in
    let y = w.after in
    let z = w.by in
    omega arith

-- a moment comes at which patience isn't over
pub paces-marked : (first most before now : ℕ) (tick : Tick) (t : Transmission) → tick.now ≡ now % 2 ^ 32 → tick.present ≤ 5000 → (w : Paces first most before t) → before ≤ now → now < first + 2 ^ 32
    → (transmission.is_late (now % 2 ^ 32) t ≡ true → leb most (elapsed_time (now % 2 ^ 32) t.first) ≡ false) → (u : Paces first most now (transmission.marked tick t)) × (u.last ≡ w.last)
paces-marked first most before now tick t at present w up near patient = subst (λ m. Goes (cond (transmission.is_late m t) grows t)) (sym at) (by w.grown)
  where
    n : ℕ
    n = now % 2 ^ 32

    grows : Transmission
    grows = record t { timeout = transmission.next_time tick t; due = true }

    Goes : Transmission → Type 0
    Goes x = (u : Paces first most now x) × (u.last ≡ w.last)

    low : w.last ≤ now
    low = let b = w.by in omega arith

    gone : elapsed_time n t.last ≡ now - w.last
    gone = ap (elapsed_time n) w.last_is ∙ elapsed-is w.last now low (let x = w.after in omega arith)

    waits-on : (late : Bool) → leb t.timeout (elapsed_time n t.last) ≡ late → t.due ≡ false → t.timeout + first ≤ 5000 + w.last → Goes (cond (transmission.is_late n t) grows t)
    waits-on false early waits grown =
        let is_early : transmission.is_late n t ≡ false = (λ i. not (waits i) && early i) in
        let x = lt-of t.timeout (elapsed_time n t.last) early in
        let y = gone in
        let l = low in
        subst (λ b. Goes (cond b grows t)) (sym is_early)
        (record { last = w.last; first_is = w.first_is; last_is = w.last_is; after = w.after; by = low; short = w.short; grown = inl (waits, grown, inl (omega arith)) }, refl)
    waits-on true late waits grown =
        let is_late : transmission.is_late n t ≡ true = (λ i. not (waits i) && late i) in
        let brief = late-brief first most before now t w up near (patient is_late) in
        let x = le-of t.timeout (elapsed_time n t.last) late in
        let y = gone in
        let l = low in
        let v = w.after in
        let next = next-within tick t 5000 (now - first) present (omega arith) in
        subst (λ b. Goes (cond b grows t)) (sym is_late)
        (record { last = w.last; first_is = w.first_is; last_is = w.last_is; after = w.after; by = low; short = omega arith; grown = inr (refl, omega arith) }, refl)

    by : ((t.due ≡ false) × (t.timeout + first ≤ 5000 + w.last) × ((before ≤ w.last + t.timeout) ⊎ (before ≤ first + most))) ⊎ ((t.due ≡ true) × (t.timeout + first ≤ 5000 + before)) → Goes (cond (transmission.is_late n t) grows t)
    by (inl k) = waits-on (leb t.timeout (elapsed_time n t.last)) refl k.0 k.1
    by (inr k) =
        let grown = k.1 in
        let still : transmission.is_late n t ≡ false = (λ i. not (k.0 i) && leb t.timeout (elapsed_time n t.last)) in
        subst (λ b. Goes (cond b grows t)) (sym still)
        (record { last = w.last; first_is = w.first_is; last_is = w.last_is; after = w.after; by = low; short = w.short; grown = inr (k.0, omega arith) }, refl)

-- or, as long, stays as it is
pub paces-stays : (first most before now : ℕ) (t : Transmission) → Paces first most before t → before ≤ now → now < first + 2 ^ 32
    → (transmission.is_late (now % 2 ^ 32) t ≡ true → leb most (elapsed_time (now % 2 ^ 32) t.first) ≡ false) → Paces first most now t
paces-stays first most before now t w up near patient = by w.grown
  where
    n : ℕ
    n = now % 2 ^ 32

    low : w.last ≤ now
    low = let b = w.by in omega arith

    gone : elapsed_time n t.last ≡ now - w.last
    gone = ap (elapsed_time n) w.last_is ∙ elapsed-is w.last now low (let x = w.after in omega arith)

    waits-on : (late : Bool) → leb t.timeout (elapsed_time n t.last) ≡ late → t.due ≡ false → t.timeout + first ≤ 5000 + w.last → Paces first most now t
    waits-on false early waits grown =
        let x = lt-of t.timeout (elapsed_time n t.last) early in
        let y = gone in
        let l = low in
        record { last = w.last; first_is = w.first_is; last_is = w.last_is; after = w.after; by = low; short = w.short; grown = inl (waits, grown, inl (omega arith)) }
    waits-on true late waits grown =
        let brief = late-brief first most before now t w up near (patient (λ i. not (waits i) && late i)) in
        record { last = w.last; first_is = w.first_is; last_is = w.last_is; after = w.after; by = low; short = w.short; grown = inl (waits, grown, inr (omega arith)) }

    by : ((t.due ≡ false) × (t.timeout + first ≤ 5000 + w.last) × ((before ≤ w.last + t.timeout) ⊎ (before ≤ first + most))) ⊎ ((t.due ≡ true) × (t.timeout + first ≤ 5000 + before)) → Paces first most now t
    by (inl k) = waits-on (leb t.timeout (elapsed_time n t.last)) refl k.0 k.1
    by (inr k) = (let grown = k.1 in record { last = w.last; first_is = w.first_is; last_is = w.last_is; after = w.after; by = low; short = w.short; grown = inr (k.0, omega arith) })
