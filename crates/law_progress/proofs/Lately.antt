-- What is sent goes on as it should, also where it is due for long: by then it first went no longer ago than a stretch before a moment.
use Rattle.std.proofs.Common.{◌≡◌, ℕ, ◌+◌, ◌*◌, ◌%◌, ◌^◌, ◌<◌, ◌≤◌, Bool, true, false, leb, List, [], ◌∷◌, refl, sym, subst, inl, inr, ◌⊎◌, arith}
use Rattle.enet_rtt.specs.declared.transmission.Transmission.{Transmission}
use Rattle.enet_peer.specs.Peering.{Peering}
use Rattle.enet_peer.specs.Calls.{moved, tick_of}
use Rattle.law_progress.specs.Attempts.{last_of}
use Rattle.law_progress.specs.Waits.{Moment, RoomyBefore, has_due}
use Rattle.law_progress.proofs.Timed.{le-of, lt-of}
use Rattle.law_progress.proofs.Paces.{Paces, paces-begun, paces-again, paces-timed, paces-marked, paces-stays}
use Rattle.law_progress.proofs.Waiting.{Fair, Goes, Passes, Ready, Sends, fair-deeds, moment-ready, patient, tick-passes, timeout-low}

-- by now it goes on so, and it first went no longer ago than a stretch before `since`
abbrev pub Lately : (since stretch most now : ℕ) → Transmission → Type 0
Lately since stretch most now t = (first : ℕ) × Paces first most now t × (since ≤ first + stretch)

-- nothing was due yet, or it is since then
abbrev pub Known : (since gap most now : ℕ) → Peering → Type 0
Known since gap most now p = Ready most now p ⊎ ((since ≤ now) × Fair (Lately since (5000 + 2 * most + gap) most now) most p)

pub as-lately : (since gap most now : ℕ) (p : Peering) → since ≤ now + gap → Known since gap most now p → Fair (Lately since (5000 + 2 * most + gap) most now) most p
as-lately since gap most now p near (inr k) = k.1
as-lately since gap most now p near (inl r) = (((λ t k. once t.transmission (r.1.0 t k) (r.0.0.0 t k)), (λ s j t k. once t.transmission (r.1.1 s j t k) (r.0.0.1 s j t k))), r.0.1, r.0.2)
  where
    once : (t : Transmission) → t.due ≡ false → Goes most now t → Lately since (5000 + 2 * most + gap) most now t
    once t waits g = (g.0, paces-timed g.0 most now t g.1 waits, (let x = g.1 in let y = x.in_time in omega arith))

-- a moment comes
lately-moment : (since stretch most before now : ℕ) (p q : Peering) → Fair (Lately since stretch most before) most p → before ≤ now → since ≤ now → now + stretch < since + 2 ^ 32 → Moment now p q → Fair (Lately since stretch most now) most q
lately-moment since stretch most before now p q h up begun near m =
    subst (λ (x : Peering). Fair Then most x) (sym m.after) (fair-deeds Then most now (moved m.short p n) m.deeds sends (tick-passes (Lately since stretch most before) Then most m.short p n passes h))
  where
    n : ℕ
    n = now % 2 ^ 32

    Then : Transmission → Type 0
    Then t = Lately since stretch most now t

    sends : (wait : ℕ) → wait ≤ 5000 → Sends Then n wait
    sends wait low = record { first = (now, paces-begun now wait most low, omega arith); again = λ t g due. (g.0, paces-again g.0 most now t g.1 due, g.2) }

    soon : (t : Transmission) → (g : Lately since stretch most before t) → now < g.0 + 2 ^ 32
    soon t g = let x = g.2 in omega arith

    passes : Passes (Lately since stretch most before) Then p n
    passes = record {
      marks = λ t g e. (let k = paces-marked g.0 most before now (tick_of p n) t refl (timeout-low p.estimate) g.1 up (soon t g) (λ late. patient most n p.heard p.patience t h.2 e late) in (g.0, k.0, g.2));
      stays = λ t g e. (g.0, paces-stays g.0 most before now t g.1 up (soon t g) (λ late. patient most n p.heard p.patience t h.2 e late), g.2);
      tries = λ t g due. (g.0, paces-again g.0 most now t g.1 due, g.2);
    }

known-moment : (since gap most before now : ℕ) (p q : Peering) → Known since gap most before p → before ≤ now → now ≤ before + gap → 5000 + 2 * most + gap < 2 ^ 32 → now + (5000 + 2 * most + gap) < since + 2 ^ 32
    → Moment now p q → (since ≤ now) ⊎ (has_due q.outbox ≡ false) → Known since gap most now q
known-moment since gap most before now p q k up down brief near m roomy = by (leb since now) refl
  where
    by : (b : Bool) → leb since now ≡ b → Known since gap most now q
    by true e =
        let begun = le-of since now e in
        inr (begun, lately-moment since (5000 + 2 * most + gap) most before now p q (as-lately since gap most before p (omega arith) k) up begun near m)
    by false e = inl (go k roomy)
      where
        early : now < since
        early = lt-of since now e

        go : Known since gap most before p → (since ≤ now) ⊎ (has_due q.outbox ≡ false) → Ready most now q
        go (inl r) (inr none) = moment-ready most before now gap p q r up down brief (record { moment = m; resent = none })
        go (inl r) (inl begun) = absurd (omega (arith, early))
        go (inr r) roomy = absurd (let begun = r.0 in omega (arith, early))

-- moment after moment
up-to-last : (since gap now : ℕ) (moments : List ℕ) (p q : Peering) → RoomyBefore since gap now p moments q → now ≤ last_of now moments
up-to-last since gap now [] p q m = omega arith
up-to-last since gap now (next ∷ later) p q (r, m, roomy, low, high, rest) = (let x = up-to-last since gap next later r q rest in omega arith)

pub known-moments : (since gap most : ℕ) (moments : List ℕ) (before now : ℕ) (p q : Peering) → Known since gap most before p → before ≤ now → now ≤ before + gap → 5000 + 2 * most + gap < 2 ^ 32
    → last_of now moments + (5000 + 2 * most + gap) < since + 2 ^ 32 → RoomyBefore since gap now p moments q → Known since gap most (last_of now moments) q
known-moments since gap most [] before now p q k up down brief near m = known-moment since gap most before now p q k up down brief near m.0 m.1
known-moments since gap most (next ∷ later) before now p q k up down brief near (r, m, roomy, low, high, rest) =
    let last = up-to-last since gap next later r q rest in
    known-moments since gap most later now next r q (known-moment since gap most before now p r k up down brief (omega arith) m roomy) low high brief near rest
