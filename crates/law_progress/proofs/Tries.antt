-- How long an attempt takes: a CONNECT goes at most six times, each timeout twice the one before, and a VERIFY_CONNECT for 7,500 ms.
use Rattle.std.proofs.Common.{◌≡◌, ◌≢◌, ℕ, zero, suc, ◌+◌, ◌-◌, ◌*◌, ◌%◌, ◌^◌, ◌<◌, ◌≤◌, ◌&&◌, ◌||◌, not, leb, ltb, max, min, Bool, true, false, cond, List, refl, sym, ap, subst, ◌∙◌, inl, inr, ◌⊎◌, arith}
use Rattle.std.proofs.lemmas.Bool.Decides.{nat_tests}
use Rattle.enet_codec.specs.declared.command.Offer.{Offer}
use Rattle.enet_rtt.specs.Clock.{elapsed_time, since_later}
use Rattle.enet_rtt.specs.Transmission as transmission
use Rattle.enet_rtt.specs.Expiry.{gives_up}
use Rattle.enet_rtt.specs.declared.transmission.Transmission.{Transmission}
use Rattle.enet_rtt.specs.declared.transmission.Tick.{Tick}
use Rattle.enet_connect.specs.declared.server.Server.{Server}
use Rattle.enet_peer.specs.declared.parts.PeerState.TheVariants as state
use Rattle.enet_peer.specs.declared.parts.Limits.{Limits}
use Rattle.enet_peer.specs.declared.parts.Offsets.{Offsets}
use Rattle.enet_peer.specs.Peering.{Peering, connecting, answering}
use Rattle.enet_peer.specs.Calls.{is_answering}
use Rattle.law_progress.specs.Attempts.{last_of, LastsOnceMade, LastsFor, LastsUnrefused, Turns}
use Rattle.law_progress.proofs.Attempts.{Asks, Answers, state_of, Attempt, Begins, wait_of, bound_of, tick_at, Course, attempt_at, attempt_of, begun-goes, asked-goes, asking, replying}
use Rattle.law_progress.proofs.Timed.{elapsed-is, le-of, lt-of}

-- when try j comes, counted from the first, where each waits so long
abbrev at : (ℕ → ℕ) → ℕ → ℕ
at wait zero = 0
at wait (suc j) = at wait j + wait j

-- a command is tried again so often and after such waits, on a clock that goes on by at most `extra` and one millisecond at once
record Plan (a : Attempt) (extra again most : ℕ) : Type 0 where
  wait : ℕ → ℕ
  few : again < 255
  begins : wait_of a ≡ wait 0
  some : (j : ℕ) → 0 < wait j
  grows : (j : ℕ) → j < again → transmission.grown_time (bound_of a) (wait j) ≡ wait (suc j)
  -- nothing is heard meanwhile
  silent : (j now last : ℕ) (t : Transmission) → j ≤ again → elapsed_time (now % 2 ^ 32) t.last ≡ now - last → a.first ≤ last → last ≤ now → now < a.first + at wait (suc j) + suc j * extra + 1 → transmission.is_heard_since (tick_at a now) t ≡ false
  near : (j : ℕ) → j ≤ again → at wait (suc j) + suc j * extra < 2 ^ 32
  within : (j : ℕ) → j ≤ again → at wait (suc j) + j * extra ≤ most + again * extra
  ends : (now last : ℕ) (t : Transmission) → t.attempts ≡ again + 1 → t.timeout ≡ wait again → elapsed_time (now % 2 ^ 32) t.first ≡ now - a.first → elapsed_time (now % 2 ^ 32) t.last ≡ now - last → now < a.first + at wait (suc again) + suc again * extra + 1
      → a.first + at wait again ≤ last → last + wait again ≤ now → gives_up a.patience (now % 2 ^ 32) a.heard t ≡ true

-- a moment is that of try j, or later by so much at most as the clock jumps
abbrev Placed : (a : Attempt) (extra again most : ℕ) → Plan a extra again most → ℕ → ℕ → Type 0
Placed a extra again most p j x = (a.first + at p.wait j ≤ x) × (x ≤ a.first + at p.wait j + j * extra)

-- by now try j was made and waits, or it is due
record Tried (a : Attempt) (extra again most : ℕ) (p : Plan a extra again most) (now : ℕ) (t : Transmission) : Type 0 where
  try_is : ℕ
  few : try_is ≤ again
  first_is : t.first ≡ a.first % 2 ^ 32
  timeout_is : t.timeout ≡ p.wait try_is
  goes : ((t.due ≡ false) × (t.attempts ≡ try_is + 1) × (last : ℕ) × (t.last ≡ last % 2 ^ 32) × (last ≤ now) × (now < last + p.wait try_is) × Placed a extra again most p try_is last)
      ⊎ ((t.due ≡ true) × (t.attempts ≡ try_is) × Placed a extra again most p try_is now)

tried-begins : (a : Attempt) (extra again most : ℕ) (p : Plan a extra again most) → Tried a extra again most p a.first (transmission.begun (a.first % 2 ^ 32) (wait_of a))
tried-begins a extra again most p = record {
  try_is = 0;
  few = omega arith;
  first_is = refl;
  timeout_is = p.begins;
  goes = inl (refl, refl, a.first, refl, omega arith, (let x = p.some 0 in omega arith), (omega arith, omega arith));
}

tried-again : (a : Attempt) (extra again most : ℕ) (p : Plan a extra again most) (now : ℕ) (t : Transmission) → Tried a extra again most p now t → t.due ≡ true → Tried a extra again most p now (transmission.again (now % 2 ^ 32) t)
tried-again a extra again most p now t w due = by w.goes
  where
    counted : (j n : ℕ) → j < 255 → n ≡ j → min (n + 1) 255 ≡ j + 1
    counted j n low e = ap (λ m. min (m + 1) 255) e ∙ least (j + 1) (omega arith)
      where
        least : (m : ℕ) → m ≤ 255 → min m 255 ≡ m
        least m h = grind arith

    by : ((t.due ≡ false) × (t.attempts ≡ w.try_is + 1) × (last : ℕ) × (t.last ≡ last % 2 ^ 32) × (last ≤ now) × (now < last + p.wait w.try_is) × Placed a extra again most p w.try_is last)
        ⊎ ((t.due ≡ true) × (t.attempts ≡ w.try_is) × Placed a extra again most p w.try_is now) → Tried a extra again most p now (transmission.again (now % 2 ^ 32) t)
    by (inl k) = absurd (let f : true ≡ false = sym due ∙ k.0 in cc)
    by (inr k) = record {
      try_is = w.try_is;
      few = w.few;
      first_is = w.first_is;
      timeout_is = w.timeout_is;
      goes = inl (refl, counted w.try_is t.attempts (let x = w.few in let y = p.few in omega arith) k.1, now, refl, omega arith, (let x = p.some w.try_is in omega arith), k.2);
    }

tried-marked : (a : Attempt) (extra again most : ℕ) (p : Plan a extra again most) (before now : ℕ) (t : Transmission) → Tried a extra again most p before t → t.due ≡ false → before ≤ now → now ≤ before + (extra + 1)
    → transmission.ends (now % 2 ^ 32) a.patience a.heard t ≡ false → Tried a extra again most p now (transmission.marked (tick_at a now) t)
tried-marked a extra again most p before now t w waits up down lives = by w.goes
  where
    n : ℕ
    n = now % 2 ^ 32

    j : ℕ
    j = w.try_is

    tick : Tick
    tick = tick_at a now

    grows : Bool → Transmission
    grows b = cond b (record t { timeout = transmission.next_time tick t; due = true }) t

    by : ((t.due ≡ false) × (t.attempts ≡ w.try_is + 1) × (last : ℕ) × (t.last ≡ last % 2 ^ 32) × (last ≤ before) × (before < last + p.wait w.try_is) × Placed a extra again most p w.try_is last)
        ⊎ ((t.due ≡ true) × (t.attempts ≡ w.try_is) × Placed a extra again most p w.try_is before) → Tried a extra again most p now (transmission.marked tick t)
    by (inr k) = absurd (let f : true ≡ false = sym k.0 ∙ waits in cc)
    by (inl (k, attempts, last, last_is, low, soon, placed)) = late_or_not (leb t.timeout (elapsed_time n t.last)) refl
      where
        early : a.first + at p.wait j ≤ last
        early = placed.0

        late : last ≤ a.first + at p.wait j + j * extra
        late = placed.1

        wait : ℕ
        wait = p.wait j

        near : a.first + (at p.wait j + wait) + suc j * extra < a.first + 2 ^ 32
        near = let x = p.near j w.few in omega arith

        steps : suc j * extra ≡ j * extra + extra
        steps = omega arith

        since_last : elapsed_time n t.last ≡ now - last
        since_last = ap (elapsed_time n) last_is ∙ elapsed-is last now (omega arith) (let x = near in let y = steps in let z = late in let v = early in omega arith)

        since_first : elapsed_time n t.first ≡ now - a.first
        since_first = ap (elapsed_time n) w.first_is ∙ elapsed-is a.first now (let v = early in omega arith) (let x = near in let y = steps in let z = late in omega arith)

        late_or_not : (b : Bool) → leb t.timeout (elapsed_time n t.last) ≡ b → Tried a extra again most p now (transmission.marked tick t)
        late_or_not false e =
            let is_early : transmission.is_late n t ≡ false = (λ i. not (waits i) && e i) in
            subst (λ b. Tried a extra again most p now (grows b)) (sym is_early) (record {
              try_is = j;
              few = w.few;
              first_is = w.first_is;
              timeout_is = w.timeout_is;
              goes = inl (waits, attempts, last, last_is, omega arith, (let x = lt-of t.timeout (elapsed_time n t.last) e in let y = since_last in let z = w.timeout_is in omega arith), (early, late));
            })
        late_or_not true e =
            let is_late : transmission.is_late n t ≡ true = (λ i. not (waits i) && e i) in
            subst (λ b. Tried a extra again most p now (grows b)) (sym is_late) (record {
              try_is = suc j;
              few = more;
              first_is = w.first_is;
              timeout_is = ap (λ b. cond b (transmission.answered_time (wait_of a) t.timeout) (transmission.grown_time (bound_of a) t.timeout)) quiet ∙ ap (transmission.grown_time (bound_of a)) w.timeout_is ∙ p.grows j more;
              goes = inr (refl, attempts_are, ((let x = over in let v = early in omega arith), (let y = steps in let z = late in omega arith)));
            })
          where
            over : last + wait ≤ now
            over = let x = le-of t.timeout (elapsed_time n t.last) e in let y = since_last in let z = w.timeout_is in omega arith

            quiet : transmission.is_heard_since tick t ≡ false
            quiet = p.silent j now last t w.few since_last (let v = early in omega arith) (let x = over in omega arith) (let y = steps in let z = late in omega arith)

            attempts_are : t.attempts ≡ suc j
            attempts_are = omega arith

            is_late : transmission.is_late n t ≡ true
            is_late = λ i. not (waits i) && e i

            patient : gives_up a.patience n a.heard t ≡ false
            patient = ap (λ b. b && gives_up a.patience n a.heard t) (sym is_late) ∙ lives

            below : (m k : ℕ) → m ≤ k → m ≢ k → m < k
            below m k l d = grind arith

            more : j < again
            more = below j again w.few (λ same. ends same)
              where
                ends : j ≡ again → ⊥
                ends same =
                    let up : gives_up a.patience n a.heard t ≡ true = p.ends now last t (attempts ∙ ap (λ m. m + 1) same) (w.timeout_is ∙ ap p.wait same) since_first since_last
                    (subst (λ m. now < a.first + at p.wait (suc m) + suc m * extra + 1) same (let y = steps in let z = late in omega arith))
                    (subst (λ m. a.first + at p.wait m ≤ last) same early) (subst (λ m. last + p.wait m ≤ now) same over) in
                    let f : true ≡ false = sym up ∙ patient in
                    cc

tried-course : (a : Attempt) (extra again most : ℕ) (p : Plan a extra again most) → is_answering (state_of a.kind) ≡ false → Course (Tried a extra again most p) a (extra + 1)
tried-course a extra again most p asks = record {
  begins = tried-begins a extra again most p;
  again = tried-again a extra again most p;
  marks = λ before now t w waits up down lives not_past. tried-marked a extra again most p before now t w waits up down lives;
  soon = λ now t w answers watched. absurd (let x : true ≡ false = sym answers ∙ asks in cc);
}

-- so long it waits at most
tried-ends : (a : Attempt) (extra again most : ℕ) (p : Plan a extra again most) (now : ℕ) (t : Transmission) → t.due ≡ false → Tried a extra again most p now t → now < a.first + most + again * extra
tried-ends a extra again most p now t waits w = by w.goes
  where
    by : ((t.due ≡ false) × (t.attempts ≡ w.try_is + 1) × (last : ℕ) × (t.last ≡ last % 2 ^ 32) × (last ≤ now) × (now < last + p.wait w.try_is) × Placed a extra again most p w.try_is last)
        ⊎ ((t.due ≡ true) × (t.attempts ≡ w.try_is) × Placed a extra again most p w.try_is now) → now < a.first + most + again * extra
    by (inr k) = absurd (let f : true ≡ false = sym k.0 ∙ waits in cc)
    by (inl (k, attempts, last, last_is, low, soon, placed)) = let x = p.within w.try_is w.few in let y = placed.1 in omega arith

-- what the product with a number at most so great is
times : (j k m : ℕ) → j ≤ k → j * m ≤ k * m
times j k m h =
    let d : ℕ = k - j in
    let e : k ≡ j + d = omega arith in
    let f : k * m ≡ (j + d) * m = ap (λ n. n * m) e in
    let g : (j + d) * m ≡ j * m + d * m = omega arith in
    omega arith

or-true : (a b : Bool) → b ≡ true → (a || b) ≡ true
or-true true b e = refl
or-true false b e = e

le-true : (m n : ℕ) → m ≤ n → leb m n ≡ true
le-true m n h = grind (arith, nat_tests)

-- CONNECT: each wait is twice the one before, and the sixth ends after the greatest patience
abbrev doubled : ℕ → ℕ
doubled zero = 500
doubled (suc j) = 2 * doubled j

at-doubled : (j : ℕ) → at doubled j + 500 ≡ doubled j
at-doubled zero = refl
at-doubled (suc j) = let e = at-doubled j in omega arith

doubled-some : (j : ℕ) → 0 < doubled j
doubled-some zero = omega arith
doubled-some (suc j) = let e = doubled-some j in omega arith

doubled-most : (j : ℕ) → j ≤ 5 → doubled j ≤ 16000
doubled-most zero h = omega arith
doubled-most (suc zero) h = omega arith
doubled-most (suc (suc zero)) h = omega arith
doubled-most (suc (suc (suc zero))) h = omega arith
doubled-most (suc (suc (suc (suc zero)))) h = omega arith
doubled-most (suc (suc (suc (suc (suc zero))))) h = omega arith
doubled-most (suc (suc (suc (suc (suc (suc j)))))) h = absurd (omega arith)

asking-plan : (start offset : ℕ) (offer : Offer) (limits : Limits) (now extra : ℕ) → 31500 + 9 * (extra + 1) < 2 ^ 32 → start ≤ now → now ≤ start + (extra + 1)
    → Plan (attempt_of Asks (connecting (start % 2 ^ 32) offset offer limits) (asking (start % 2 ^ 32) offset offer limits) now now) extra 5 31500
asking-plan start offset offer limits now extra close up down = record {
  wait = doubled;
  few = omega arith;
  begins = refl;
  some = doubled-some;
  grows = λ j low. ap (λ b. transmission.grown_time b (doubled j)) unbounded ∙ twice (doubled j) (let x = doubled-most j (omega arith) in omega arith);
  silent = λ j later last t low since_last first gone by. (
      let x = at-doubled (suc j) in let y = doubled-most j low in let z = times (suc j) 6 extra (omega arith) in let s = since_last in
      let heard : elapsed_time (later % 2 ^ 32) (start % 2 ^ 32) ≡ later - start = elapsed-is start later (omega arith) (omega arith) in
      not-less (elapsed_time (later % 2 ^ 32) (start % 2 ^ 32)) (elapsed_time (later % 2 ^ 32) t.last) (omega arith));
  near = λ j low. (let x = at-doubled (suc j) in let y = doubled-most j low in let z = times (suc j) 6 extra (omega arith) in omega arith);
  within = λ j low. (let x = at-doubled (suc j) in let y = doubled-most j low in let z = times j 5 extra low in omega arith);
  ends = λ later last t attempts wait since_first since_last by early over. (
      let x = since_first in let y = early in let z = over in
      let long : 30000 ≤ elapsed_time (later % 2 ^ 32) t.first = omega arith in
      λ i. le-true 30000 (elapsed_time (later % 2 ^ 32) t.first) long i || (leb 32 (2 ^ (t.attempts - 1)) && leb (elapsed_time (later % 2 ^ 32) t.last + t.timeout + 5000) (since_later (later % 2 ^ 32) t.first (start % 2 ^ 32))));
}
  where
    twice : (m : ℕ) → 2 * m ≤ 4294967295 → max m (min (2 * m) 4294967295) ≡ 2 * m
    twice m h = grind arith

    not-less : (m n : ℕ) → n ≤ m → ltb m n ≡ false
    not-less m n h = grind (arith, nat_tests)

    and-false : (b : Bool) → (b && false) ≡ false
    and-false true = refl
    and-false false = refl

    unbounded : bound_of (attempt_of Asks (connecting (start % 2 ^ 32) offset offer limits) (asking (start % 2 ^ 32) offset offer limits) now now) ≡ 4294967295
    unbounded = ap (λ b. cond b 1000 4294967295) (and-false (ltb 0 offer.channels))

pub asking-lasts : (offset : ℕ) (offer : Offer) (limits : Limits) → LastsFor state.Connecting (λ start. connecting start offset offer limits) 31500 5
asking-lasts offset offer limits extra start now moments q close up down turns =
    let p = asking-plan start offset offer limits now extra close up down in
    let b = asking (start % 2 ^ 32) offset offer limits in
    let a : Attempt = attempt_of Asks (connecting (start % 2 ^ 32) offset offer limits) b now now in
    let last = asked-goes (Tried a extra 5 31500 p) Asks (connecting (start % 2 ^ 32) offset offer limits) b (extra + 1) now moments q refl (tried-course a extra 5 31500 p refl) turns in
    tried-ends a extra 5 31500 p (last_of now moments) last.0 last.1 last.2

-- VERIFY_CONNECT: for less than so long a server waits for its client, however often its answer goes or is held back
abbrev Brief : ℕ → ℕ → Transmission → Type 0
Brief first now t = (t.first ≡ first % 2 ^ 32) × (first ≤ now) × (now < first + 7500)

brief-course : (watched : Bool) (gap made first : ℕ) (p : Peering) (b : Begins Answers p) → 7500 + gap < 2 ^ 32 → (watched ≡ true → (made ≤ first) × (first + 7500 + gap < made + 2 ^ 32))
    → Course (Brief first) (attempt_at watched Answers p b made first) gap
brief-course watched gap made first p b near close = record {
  begins = (refl, omega arith, omega arith);
  again = λ now t w due. w;
  marks = λ earlier now t w waits up down lives waited. (let k = late earlier now t w up down waited in (marked-first (tick_at (attempt_at watched Answers p b made first) now) t ∙ w.0, k.0, k.1));
  soon = λ now t w answers is. (let k = close is in record { made = k.0; begun = w.1; soon = w.2; near = k.1 });
}
  where
    marked-first : (tick : Tick) (t : Transmission) → (transmission.marked tick t).first ≡ t.first
    marked-first tick t = elim (transmission.is_late tick.now t) as (λ b. (cond b (record t { timeout = transmission.next_time tick t; due = true }) t).first ≡ t.first) [ true ↦ refl | false ↦ refl ]

    late : (earlier now : ℕ) (t : Transmission) → Brief first earlier t → earlier ≤ now → now ≤ earlier + gap → leb 7500 (elapsed_time (now % 2 ^ 32) t.first) ≡ false → (first ≤ now) × (now < first + 7500)
    late earlier now t w up down waited =
        let low = w.1 in
        let soon = w.2 in
        let since : elapsed_time (now % 2 ^ 32) t.first ≡ now - first = ap (elapsed_time (now % 2 ^ 32)) w.0 ∙ elapsed-is first now (omega arith) (omega arith) in
        let x = lt-of 7500 (elapsed_time (now % 2 ^ 32) t.first) waited in
        (omega arith, omega arith)

brief-turns : (gap made now : ℕ) (moments : List ℕ) (p q : Peering) → Begins Answers p → p.refused ≡ false → p.made ≡ made % 2 ^ 32 → made ≤ now → now + 7500 + gap < made + 2 ^ 32 → Turns state.Answering gap now p moments q
    → last_of now moments < now + 7500
brief-turns gap made now moments p q b fresh is up near turns =
    elim (begun-goes (Brief now) true Answers p b gap made now moments q (λ answers. (fresh, λ w. is)) (brief-course true gap made now p b (omega arith) (λ w. (up, near))) turns) [
      | inl goes ↦ (let w = goes.2 in w.2)
      | inr late ↦ late.2 refl
    ]

-- one that isn't refused by then
unrefused-turns : (gap now : ℕ) (moments : List ℕ) (p q : Peering) → Begins Answers p → p.refused ≡ false → 7500 + gap < 2 ^ 32 → Turns state.Answering gap now p moments q → q.refused ≡ false → last_of now moments < now + 7500
unrefused-turns gap now moments p q b fresh near turns kept =
    elim (begun-goes (Brief now) false Answers p b gap now now moments q (λ answers. (fresh, λ w. absurd (let x : false ≡ true = w in cc))) (brief-course false gap now now p b near (λ w. absurd (let x : false ≡ true = w in cc))) turns) [
      | inl goes ↦ (let w = goes.2 in w.2)
      | inr late ↦ absurd (let x : false ≡ true = sym kept ∙ late.1 in cc)
    ]

pub unrefused-ends : (start : ℕ) (offsets : Offsets) (offer : Offer) (server : Server) (limits : Limits) → LastsUnrefused state.Answering (answering start offsets offer server limits) 7500
unrefused-ends start offsets offer server limits gap now moments q near turns kept =
    let x = unrefused-turns gap now moments (answering start offsets offer server limits) q (replying start offsets offer server limits) refl near turns kept in
    omega arith

pub answering-ends : (offsets : Offsets) (offer : Offer) (server : Server) (limits : Limits) → LastsOnceMade state.Answering (λ start. answering start offsets offer server limits) 7500
answering-ends offsets offer server limits gap start now moments q up near turns =
    let x = brief-turns gap start now moments (answering (start % 2 ^ 32) offsets offer server limits) q (replying (start % 2 ^ 32) offsets offer server limits) refl refl up near turns in
    omega arith

pub answering-lasts : (offsets : Offsets) (offer : Offer) (server : Server) (limits : Limits) → LastsFor state.Answering (λ start. answering start offsets offer server limits) 7500 0
answering-lasts offsets offer server limits extra start now moments q close up down turns =
    let x = brief-turns (extra + 1) start now moments (answering (start % 2 ^ 32) offsets offer server limits) q (replying (start % 2 ^ 32) offsets offer server limits) refl refl up (omega arith) turns in
    omega arith
