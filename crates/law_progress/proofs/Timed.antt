-- How a command goes again and again, on a clock that doesn't wrap: its timeout grows no faster than the time since its first send.
-- One that is late may stay so for a while, as long as patience isn't over.
use Rattle.std.proofs.Common.{◌≡◌, ℕ, ◌+◌, ◌-◌, ◌*◌, ◌%◌, ◌^◌, ◌<◌, ◌≤◌, ◌&&◌, not, leb, max, Bool, true, false, cond, refl, sym, ap, subst, ◌∙◌, inl, inr, ◌⊎◌, arith}
use Rattle.std.proofs.lemmas.Bool.Decides.{nat_tests}
use Rattle.enet_rtt.specs.Clock.{elapsed_time}
use Rattle.enet_rtt.specs.Transmission as transmission
use Rattle.enet_rtt.specs.declared.transmission.Transmission.{Transmission}
use Rattle.enet_rtt.specs.declared.transmission.Tick.{Tick}

-- by now a command that first went at this moment, with at most this timeout, goes on as it should, where patience lasts for `most`
pub record Timed (first wait most now : ℕ) (t : Transmission) : Type 0 where
  pub last : ℕ
  pub first_is : t.first ≡ first % 2 ^ 32
  pub last_is : t.last ≡ last % 2 ^ 32
  pub after : first ≤ last
  pub by : last ≤ now
  pub brief : last ≤ first + most
  pub in_time : now ≤ first + wait + 2 * most
  pub grown : ((t.due ≡ false) × (t.timeout + first ≤ wait + last) × ((now ≤ last + t.timeout) ⊎ (now ≤ first + most))) ⊎ ((t.due ≡ true) × (t.timeout + first ≤ wait + now) × (now ≤ first + most))

pub timed-begun : (first wait least most : ℕ) → least ≤ wait → Timed first wait most first (transmission.begun (first % 2 ^ 32) least)
timed-begun first wait least most low = record { last = first; first_is = refl; last_is = refl; after = omega arith; by = omega arith; brief = omega arith; in_time = omega arith; grown = inl (refl, omega arith, inl (omega arith)) }

pub timed-again : (first wait most now : ℕ) (t : Transmission) → Timed first wait most now t → t.due ≡ true → Timed first wait most now (transmission.again (now % 2 ^ 32) t)
timed-again first wait most now t w due = by w.grown
  where
    by : ((t.due ≡ false) × (t.timeout + first ≤ wait + w.last) × ((now ≤ w.last + t.timeout) ⊎ (now ≤ first + most))) ⊎ ((t.due ≡ true) × (t.timeout + first ≤ wait + now) × (now ≤ first + most)) → Timed first wait most now (transmission.again (now % 2 ^ 32) t)
    by (inl k) = absurd (let f : true ≡ false = sym due ∙ k.0 in cc)
    by (inr k) =
        let after = w.after in
        let low = w.by in
        let grown = k.1 in
        record { last = now; first_is = w.first_is; last_is = refl; after = omega arith; by = omega arith; brief = k.2; in_time = w.in_time; grown = inl (refl, k.1, inl (omega arith)) }

pub elapsed-is : (since now : ℕ) → since ≤ now → now < since + 2 ^ 32 → elapsed_time (now % 2 ^ 32) (since % 2 ^ 32) ≡ now - since
elapsed-is since now low high = omega arith

pub le-of : (m n : ℕ) → leb m n ≡ true → m ≤ n
le-of m n e = grind (arith, nat_tests)

pub lt-of : (m n : ℕ) → leb m n ≡ false → n < m
lt-of m n e = grind (arith, nat_tests)

-- the next timeout is that of a first send, or at most twice what it was
pub at-most-twice : (tick : Tick) (t : Transmission) → transmission.next_time tick t ≤ max tick.present (2 * t.timeout)
at-most-twice tick t = by (transmission.is_heard_since tick t)
  where
    answered : (present k : ℕ) → transmission.answered_time present k ≤ max present (2 * k)
    answered present k = grind arith

    grown : (present bound k : ℕ) → transmission.grown_time bound k ≤ max present (2 * k)
    grown present bound k = grind arith

    by : (b : Bool) → cond b (transmission.answered_time tick.present t.timeout) (transmission.grown_time tick.bound t.timeout) ≤ max tick.present (2 * t.timeout)
    by true = answered tick.present t.timeout
    by false = grown tick.present tick.bound t.timeout

-- so it is no longer than the longest at first, and the time since
pub next-within : (tick : Tick) (t : Transmission) (wait gone : ℕ) → tick.present ≤ wait → 2 * t.timeout ≤ wait + gone → transmission.next_time tick t ≤ wait + gone
next-within tick t wait gone low twice = least (transmission.next_time tick t) tick.present (2 * t.timeout) low twice (at-most-twice tick t)
  where
    least : (n a b : ℕ) → a ≤ wait → b ≤ wait + gone → n ≤ max a b → n ≤ wait + gone
    least n a b k l h = grind arith

-- a moment comes at which it hasn't waited out its timeout
pub timed-waits : (first wait most before now : ℕ) (t : Transmission) → Timed first wait most before t → t.due ≡ false → before ≤ now → now < first + 2 ^ 32 → leb t.timeout (elapsed_time (now % 2 ^ 32) t.last) ≡ false
    → Timed first wait most now t
timed-waits first wait most before now t w waits up near early = by w.grown
  where
    low : w.last ≤ now
    low = let b = w.by in omega arith

    gone : elapsed_time (now % 2 ^ 32) t.last ≡ now - w.last
    gone = ap (elapsed_time (now % 2 ^ 32)) w.last_is ∙ elapsed-is w.last now low (let x = w.after in omega arith)

    soon : now - w.last < t.timeout
    soon = let x = lt-of t.timeout (elapsed_time (now % 2 ^ 32) t.last) early in let y = gone in omega arith

    by : ((t.due ≡ false) × (t.timeout + first ≤ wait + w.last) × ((before ≤ w.last + t.timeout) ⊎ (before ≤ first + most))) ⊎ ((t.due ≡ true) × (t.timeout + first ≤ wait + before) × (before ≤ first + most)) → Timed first wait most now t
    by (inr d) = absurd (let f : true ≡ false = sym d.0 ∙ waits in cc)
    by (inl k) = (let x = k.1 in let y = soon in let z = w.brief in let v = w.after in let l = low in
        record { last = w.last; first_is = w.first_is; last_is = w.last_is; after = w.after; by = low; brief = w.brief; in_time = omega arith; grown = inl (waits, k.1, inl (omega arith)) })

-- or has, and patience lasts
over-brief : (first wait most before now : ℕ) (t : Transmission) → Timed first wait most before t → before ≤ now → now < first + 2 ^ 32 → leb most (elapsed_time (now % 2 ^ 32) t.first) ≡ false → now ≤ first + most
over-brief first wait most before now t w up near patient =
    let since : elapsed_time (now % 2 ^ 32) t.first ≡ now - first = ap (elapsed_time (now % 2 ^ 32)) w.first_is ∙ elapsed-is first now (let x = w.after in let y = w.by in omega arith) near in
    let x = lt-of most (elapsed_time (now % 2 ^ 32) t.first) patient in
    omega arith

-- and it is due to go again
pub timed-late : (first wait most before now : ℕ) (tick : Tick) (t : Transmission) → tick.present ≤ wait → Timed first wait most before t → t.due ≡ false → before ≤ now → now < first + 2 ^ 32 → leb t.timeout (elapsed_time (now % 2 ^ 32) t.last) ≡ true
    → leb most (elapsed_time (now % 2 ^ 32) t.first) ≡ false → Timed first wait most now (record t { timeout = transmission.next_time tick t; due = true })
timed-late first wait most before now tick t present w waits up near late patient = by w.grown
  where
    low : w.last ≤ now
    low = let b = w.by in omega arith

    gone : elapsed_time (now % 2 ^ 32) t.last ≡ now - w.last
    gone = ap (elapsed_time (now % 2 ^ 32)) w.last_is ∙ elapsed-is w.last now low (let x = w.after in omega arith)

    over : t.timeout ≤ now - w.last
    over = let x = le-of t.timeout (elapsed_time (now % 2 ^ 32) t.last) late in let y = gone in omega arith

    brief : now ≤ first + most
    brief = over-brief first wait most before now t w up near patient

    by : ((t.due ≡ false) × (t.timeout + first ≤ wait + w.last) × ((before ≤ w.last + t.timeout) ⊎ (before ≤ first + most))) ⊎ ((t.due ≡ true) × (t.timeout + first ≤ wait + before) × (before ≤ first + most))
        → Timed first wait most now (record t { timeout = transmission.next_time tick t; due = true })
    by (inr d) = absurd (let f : true ≡ false = sym d.0 ∙ waits in cc)
    by (inl k) = (let x = k.1 in let y = over in let z = brief in let v = w.after in let l = low in let g = next-within tick t wait (now - first) present (omega arith) in
        record { last = w.last; first_is = w.first_is; last_is = w.last_is; after = w.after; by = low; brief = w.brief; in_time = omega arith; grown = inr (refl, omega arith, brief) })

-- at a moment at which the peer's patience isn't over
pub timed-marked : (first wait most before now : ℕ) (tick : Tick) (t : Transmission) → tick.now ≡ now % 2 ^ 32 → tick.present ≤ wait → Timed first wait most before t → t.due ≡ false → before ≤ now → now < first + 2 ^ 32
    → (transmission.is_late (now % 2 ^ 32) t ≡ true → leb most (elapsed_time (now % 2 ^ 32) t.first) ≡ false) → Timed first wait most now (transmission.marked tick t)
timed-marked first wait most before now tick t at present w waits up near patient = by (leb t.timeout (elapsed_time (now % 2 ^ 32) t.last)) refl
  where
    n : ℕ
    n = now % 2 ^ 32

    grows : Bool → Transmission
    grows b = cond b (record t { timeout = transmission.next_time tick t; due = true }) t

    by : (b : Bool) → leb t.timeout (elapsed_time n t.last) ≡ b → Timed first wait most now (transmission.marked tick t)
    by true late =
        let is_late : transmission.is_late n t ≡ true = (λ i. not (waits i) && late i) in
        subst (λ b. Timed first wait most now (grows b)) (sym (ap (λ m. transmission.is_late m t) at ∙ is_late)) (timed-late first wait most before now tick t present w waits up near late (patient is_late))
    by false early =
        let is_early : transmission.is_late n t ≡ false = (λ i. not (waits i) && early i) in
        subst (λ b. Timed first wait most now (grows b)) (sym (ap (λ m. transmission.is_late m t) at ∙ is_early)) (timed-waits first wait most before now t w waits up near early)

-- or, as long, stays as it is
pub timed-stays : (first wait most before now : ℕ) (t : Transmission) → Timed first wait most before t → t.due ≡ false → before ≤ now → now < first + 2 ^ 32
    → (transmission.is_late (now % 2 ^ 32) t ≡ true → leb most (elapsed_time (now % 2 ^ 32) t.first) ≡ false) → Timed first wait most now t
timed-stays first wait most before now t w waits up near patient = by (leb t.timeout (elapsed_time (now % 2 ^ 32) t.last)) refl
  where
    by : (b : Bool) → leb t.timeout (elapsed_time (now % 2 ^ 32) t.last) ≡ b → Timed first wait most now t
    by false early = timed-waits first wait most before now t w waits up near early
    by true late = goes w.grown
      where
        brief : now ≤ first + most
        brief = over-brief first wait most before now t w up near (patient (λ i. not (waits i) && late i))

        goes : ((t.due ≡ false) × (t.timeout + first ≤ wait + w.last) × ((before ≤ w.last + t.timeout) ⊎ (before ≤ first + most))) ⊎ ((t.due ≡ true) × (t.timeout + first ≤ wait + before) × (before ≤ first + most)) → Timed first wait most now t
        goes (inr d) = absurd (let f : true ≡ false = sym d.0 ∙ waits in cc)
        goes (inl k) = (let l = w.by in let b = brief in record { last = w.last; first_is = w.first_is; last_is = w.last_is; after = w.after; by = omega arith; brief = w.brief; in_time = omega arith; grown = inl (waits, k.1, inr brief) })

-- so long it has waited
pub timed-elapsed : (first wait most now : ℕ) (t : Transmission) → Timed first wait most now t → t.due ≡ false → now < first + 2 ^ 32 → elapsed_time (now % 2 ^ 32) t.first ≤ most + t.timeout
timed-elapsed first wait most now t w waits near = by w.grown
  where
    by : ((t.due ≡ false) × (t.timeout + first ≤ wait + w.last) × ((now ≤ w.last + t.timeout) ⊎ (now ≤ first + most))) ⊎ ((t.due ≡ true) × (t.timeout + first ≤ wait + now) × (now ≤ first + most)) → elapsed_time (now % 2 ^ 32) t.first ≤ most + t.timeout
    by (inr d) = absurd (let f : true ≡ false = sym d.0 ∙ waits in cc)
    by (inl k) =
        let e : elapsed_time (now % 2 ^ 32) t.first ≡ now - first = ap (elapsed_time (now % 2 ^ 32)) w.first_is ∙ elapsed-is first now (let x = w.after in let y = w.by in omega arith) near in
        let brief = w.brief in
        elim k.2 [ inl soon ↦ omega arith | inr early ↦ omega arith ]
