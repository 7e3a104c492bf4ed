-- What was sent, however rarely time comes and datagrams go: no timeout is above 60,000 ms, as long as the clock hasn't wrapped since the
-- first send: it is 5,000 at most at first, and later that of a first send, or at most twice what had passed since the first send, less than
-- the greatest patience.
-- Of a peer with ENet's patience.
use Rattle.std.proofs.Common.{◌≡◌, ℕ, ◌+◌, ◌-◌, ◌%◌, ◌^◌, ◌<◌, ◌≤◌, ◌&&◌, not, leb, Bool, true, false, cond, List, map, refl, sym, ap, subst, ◌∙◌, inl, inr, ◌⊎◌, arith}
use Rattle.std.proofs.lemmas.Bool.Decides.{nat_tests}
use Rattle.std.specs.List.{list_any}
use Rattle.enet_rtt.specs.Clock.{elapsed_time}
use Rattle.enet_rtt.specs.Timing.{timeout}
use Rattle.enet_rtt.specs.Transmission as transmission
use Rattle.enet_rtt.specs.Expiry.{gives_up}
use Rattle.enet_rtt.specs.declared.transmission.Transmission.{Transmission}
use Rattle.enet_rtt.specs.declared.transmission.Tick.{Tick}
use Rattle.enet_rtt.specs.declared.expiry.Patience.{Patience}
use Rattle.enet_rtt.specs.declared.expiry.Expiry.{Expiry}
use Rattle.enet_senders.specs.Controlling as controlling
use Rattle.enet_senders.specs.declared.control.Control.TheVariants as control
use Rattle.enet_senders.specs.declared.control.SentControl.{SentControl}
use Rattle.enet_receiver.specs.Members.{Has}
use Rattle.enet_sender.specs.declared.sent.Sent.{Sent}
use Rattle.enet_sender.specs.Sender as sender
use Rattle.enet_sender.specs.Due.{SendingEnd}
use Rattle.enet_outbox.specs.Outbox.{marked_sender, cleared_sender}
use Rattle.enet_outbox.specs.Outbox as outbox
use Rattle.enet_outbox.specs.Emission.{filled}
use Rattle.enet_peer.specs.declared.parts.PeerState.{PeerState}
use Rattle.enet_peer.specs.declared.parts.PeerState.TheVariants as state
use Rattle.enet_peer.specs.Peering.{Peering}
use Rattle.enet_peer.specs.Endings.{cut_off_in}
use Rattle.enet_peer.specs.Calls.{pace_of, gone_on_in, held_back, moved, ticked, pinged, is_pinged, after_timeouts_by, tick_of}
use Rattle.law_progress.specs.Exchanges.{AllOver}
use Rattle.law_progress.proofs.Moving.{Lasting, by-expiry, by-moved}
use Rattle.law_progress.proofs.Timed.{elapsed-is, le-of, lt-of, next-within}
use Rattle.law_progress.proofs.Waiting.{Fair, Sends, each-filled, fair-went, timeout-low, none-of, or-both, Has-mapped}

-- by now a command that first went `time` milliseconds ago at most
pub record Aged (now time : ℕ) (t : Transmission) : Type 0 where
  pub first : ℕ
  pub last : ℕ
  pub first_is : t.first ≡ first % 2 ^ 32
  pub last_is : t.last ≡ last % 2 ^ 32
  pub after : first ≤ last
  pub by : last ≤ now
  pub since : now ≤ first + time
  pub brief : t.timeout ≤ 60000

-- the greatest patience is ENet's
abbrev pub most : ℕ
most = 30000

abbrev pub Ages : ℕ → ℕ → Peering → Type 0
Ages now time p = Fair (Aged now time) most p

pub aged-begun : (now time wait : ℕ) → wait ≤ 60000 → Aged now time (transmission.begun (now % 2 ^ 32) wait)
aged-begun now time wait low = record { first = now; last = now; first_is = refl; last_is = refl; after = omega arith; by = omega arith; since = omega arith; brief = low }

pub aged-again : (now time : ℕ) (t : Transmission) → Aged now time t → Aged now time (transmission.again (now % 2 ^ 32) t)
aged-again now time t a =
    let after = a.after in
    let by = a.by in
    record { first = a.first; last = now; first_is = a.first_is; last_is = refl; after = omega arith; by = omega arith; since = a.since; brief = a.brief }

-- so many milliseconds later, as it is
aged-on : (now time d : ℕ) (t : Transmission) → Aged now time t → Aged (now + d) (time + d) t
aged-on now time d t a =
    let by = a.by in
    let since = a.since in
    record { first = a.first; last = a.last; first_is = a.first_is; last_is = a.last_is; after = a.after; by = omega arith; since = omega arith; brief = a.brief }

-- or due to go again where it is late, patience lasting then
aged-marked : (now time d : ℕ) (tick : Tick) (t : Transmission) → tick.now ≡ (now + d) % 2 ^ 32 → tick.present ≤ 60000 → Aged now time t → time + d < 2 ^ 32 → (transmission.is_late ((now + d) % 2 ^ 32) t ≡ true → leb most (elapsed_time ((now + d) % 2 ^ 32) t.first) ≡ false)
    → Aged (now + d) (time + d) (transmission.marked tick t)
aged-marked now time d tick t at present a near patient = subst (λ m. Aged (now + d) (time + d) (cond (transmission.is_late m t) grows t)) (sym at) (by (transmission.is_late n t) refl)
  where
    n : ℕ
    n = (now + d) % 2 ^ 32

    low : a.last ≤ now + d
    low = let x = a.by in omega arith

    gone : elapsed_time n t.last ≡ now + d - a.last
    gone = ap (elapsed_time n) a.last_is ∙ elapsed-is a.last (now + d) low (let x = a.after in let y = a.since in omega arith)

    grows : Transmission
    grows = record t { timeout = transmission.next_time tick t; due = true }

    by : (b : Bool) → transmission.is_late n t ≡ b → Aged (now + d) (time + d) (cond b grows t)
    by false e = aged-on now time d t a
    by true e = record {
      first = a.first;
      last = a.last;
      first_is = a.first_is;
      last_is = a.last_is;
      after = a.after;
      by = low;
      since = (let y = a.since in omega arith);
      brief = (let y = brief in let x = next-within tick t 60000 0 present (omega arith) in omega arith);
    }
      where
        late : leb t.timeout (elapsed_time n t.last) ≡ true
        late = right (not t.due) _ e
          where
            right : (x y : Bool) → (x && y) ≡ true → y ≡ true
            right true y e = e
            right false y e = absurd (cc)

        since : elapsed_time n t.first ≡ now + d - a.first
        since = ap (elapsed_time n) a.first_is ∙ elapsed-is a.first (now + d) (let x = a.after in let y = low in omega arith) (let y = a.since in omega arith)

        brief : t.timeout < 30000
        brief = (let x = le-of t.timeout (elapsed_time n t.last) late in let y = gone in let z = lt-of most (elapsed_time n t.first) (patient e) in let u = since in let v = a.after in let w = low in omega arith)

brief-timeout : (n : ℕ) → n ≤ 5000 → n ≤ 60000
brief-timeout n low = omega arith

-- time comes to a peer
no-end : (n heard : ℕ) (pt : Patience) (t : Transmission) → pt.maximum ≡ most → transmission.ends n pt heard t ≡ false → transmission.is_late n t ≡ true → leb most (elapsed_time n t.first) ≡ false
no-end n heard pt t same e late =
    ap (λ m. leb m (elapsed_time n t.first)) (sym same) ∙ (or-both (leb pt.maximum (elapsed_time n t.first)) _ (ap (λ b. b && gives_up pt n heard t) (sym late) ∙ e)).0

none-cleared : (R : Transmission → Type 0) (xs : List SendingEnd) → (s : SendingEnd) → Has (map cleared_sender xs) s → (t : Sent) → Has s.sender.sent t → R t.transmission
none-cleared R xs s h t k = let c = Has-mapped cleared_sender xs s h in absurd (subst (λ (x : SendingEnd). Has x.sender.sent t) (sym c.2) k)

pub ages-moved : (now time d : ℕ) (short : Bool) (p : Peering) → Ages now time p → time + d < 2 ^ 32 → Ages (now + d) (time + d) (moved short p ((now + d) % 2 ^ 32))
ages-moved now time d short p h near = by-moved (λ (x : Peering). Fair R most x) short p n tick held
  where
    n : ℕ
    n = (now + d) % 2 ^ 32

    R : Transmission → Type 0
    R = Aged (now + d) (time + d)

    tick_is : Tick
    tick_is = tick_of p n

    goes : (t : Transmission) → Aged now time t → transmission.ends n p.patience p.heard t ≡ false → R (transmission.marked tick_is t)
    goes t a e = aged-marked now time d tick_is t refl (brief-timeout (timeout p.estimate) (timeout-low p.estimate)) a near (λ late. no-end n p.heard p.patience t h.2 e late)

    ends-controls : Lasting p n → (t : SentControl) → Has p.outbox.control.sent t → transmission.ends n p.patience p.heard t.transmission ≡ false
    ends-controls e t k = none-of (controlling.ends n p.patience p.heard) p.outbox.control.sent t (or-both (list_any (controlling.ends n p.patience p.heard) p.outbox.control.sent) _ e.0).0 k

    ends-channels : Lasting p n → (s : SendingEnd) → Has p.outbox.senders s → (t : Sent) → Has s.sender.sent t → transmission.ends n p.patience p.heard t.transmission ≡ false
    ends-channels e s k t j =
        none-of (sender.ends n p.patience p.heard) s.sender.sent t
        (none-of (λ (x : SendingEnd). list_any (sender.ends n p.patience p.heard) x.sender.sent) p.outbox.senders s (or-both (list_any (controlling.ends n p.patience p.heard) p.outbox.control.sent) _ e.0).1 k) j

    marks : Lasting p n → Fair R most (record p { outbox = outbox.marked p.outbox tick_is })
    marks e = (
      (
        (λ t k. (let c = Has-mapped (controlling.marked tick_is) p.outbox.control.sent t k in
            subst (λ (x : SentControl). R x.transmission) c.2 (goes c.0.transmission (h.0.0 c.0 c.1) (ends-controls e c.0 c.1)))),
        (λ s k t j. (let d' = Has-mapped (marked_sender tick_is) p.outbox.senders s k in
            let c = Has-mapped (sender.marked tick_is) d'.0.sender.sent t (subst (λ (x : SendingEnd). Has x.sender.sent t) (sym d'.2) j) in
            subst (λ (x : Sent). R x.transmission) c.2 (goes c.0.transmission (h.0.1 d'.0 d'.1 c.0 c.1) (ends-channels e d'.0 d'.1 c.0 c.1)))),
      ),
      h.1,
      h.2,
    )

    -- nothing is marked: all stays as it was
    still : Fair R most p
    still = (((λ t k. aged-on now time d t.transmission (h.0.0 t k)), (λ s k t j. aged-on now time d t.transmission (h.0.1 s k t j))), h.1, h.2)

    -- an answer that is late counts as tried
    one-held : (t : SentControl) (b : Bool) → Aged now time t.transmission → R (transmission.marked tick_is t.transmission)
        → R (cond b (record t { transmission = transmission.again n (transmission.marked tick_is t.transmission) }) t).transmission
    one-held t false a m = aged-on now time d t.transmission a
    one-held t true a m = aged-again (now + d) (time + d) (transmission.marked tick_is t.transmission) m

    held : p.state ≡ state.Answering → Lasting p n → Fair R most (held_back p n)
    held answers e = (
      (
        (λ t k. (let c = Has-mapped (controlling.held_back tick_is) p.outbox.control.sent t k in
            let a = h.0.0 c.0 c.1 in
            subst (λ (x : SentControl). R x.transmission) c.2 (one-held c.0 (transmission.is_late n c.0.transmission) a (goes c.0.transmission a (ends-controls e c.0 c.1))))),
        still.0.1,
      ),
      h.1,
      h.2,
    )

    cut : (s : PeerState) → Fair R most (cut_off_in s p)
    cut state.Answering = (((λ t k. absurd k), none-cleared R p.outbox.senders), h.1, h.2)
    cut s = (((λ t k. absurd k), none-cleared R p.outbox.senders), h.1, h.2)

    pings : (q : Peering) → Fair R most q → Fair R most (pinged q n)
    pings q k = by (is_pinged q n)
      where
        by : (b : Bool) → Fair R most (cond b (record q { outbox = outbox.with_control q.outbox control.Ping }) q)
        by true = k
        by false = k

    tick : Fair R most (ticked p n)
    tick = by-expiry (λ (e : Expiry). Fair R most (pinged (after_timeouts_by e p n) n)) p n
        (pings (cut_off_in p.state p) (cut p.state)) (λ e f. pings (record p { outbox = outbox.marked p.outbox tick_is }) (marks e)) (λ e f. pings p still)

-- nor does it matter that a peer is asked for a datagram
pub ages-emitted : (now time : ℕ) (p : Peering) → Ages now time p → Ages now time (gone_on_in p.state (record p { outbox = (filled (pace_of p (now % 2 ^ 32)) p.outbox).outbox }))
ages-emitted now time p h =
    let f = filled (pace_of p (now % 2 ^ 32)) p.outbox in
    let sends : Sends (Aged now time) (now % 2 ^ 32) (timeout p.estimate) = record { first = aged-begun now time (timeout p.estimate) (brief-timeout (timeout p.estimate) (timeout-low p.estimate)); again = λ t a due. aged-again now time t a } in
    fair-went (Aged now time) most (record p { outbox = f.outbox }) p.state (each-filled (Aged now time) (pace_of p (now % 2 ^ 32)) p.outbox sends h.0, h.1, h.2)

-- where less time than that is known to have gone by, it is so too of more
aged-more : (now time more : ℕ) (t : Transmission) → time ≤ more → Aged now time t → Aged now more t
aged-more now time more t low a =
    let since = a.since in
    record { first = a.first; last = a.last; first_is = a.first_is; last_is = a.last_is; after = a.after; by = a.by; since = omega arith; brief = a.brief }

pub ages-more : (now time more : ℕ) (p : Peering) → time ≤ more → Ages now time p → Ages now more p
ages-more now time more p low h = (((λ t k. aged-more now time more t.transmission low (h.0.0 t k)), (λ s k t j. aged-more now time more t.transmission low (h.0.1 s k t j))), h.1, h.2)

-- so many milliseconds later all that was sent is over
pub ages-over : (now time wait : ℕ) (p : Peering) → Ages now time p → 60000 ≤ wait → time + wait < 2 ^ 32 → AllOver ((now + wait) % 2 ^ 32) p
ages-over now time wait p h long near s k t j = by t.transmission.due refl
  where
    n : ℕ
    n = (now + wait) % 2 ^ 32

    a : Aged now time t.transmission
    a = h.0.1 s k t j

    gone : elapsed_time n t.transmission.last ≡ now + wait - a.last
    gone = ap (elapsed_time n) a.last_is ∙ elapsed-is a.last (now + wait) (let x = a.by in omega arith) (let x = a.after in let y = a.since in omega arith)

    over : leb t.transmission.timeout (elapsed_time n t.transmission.last) ≡ true
    over = let x = gone in let y = a.brief in let z = a.by in let c : t.transmission.timeout ≤ elapsed_time n t.transmission.last = omega arith in grind (arith, nat_tests)

    by : (due : Bool) → t.transmission.due ≡ due → (t.transmission.due ≡ true) ⊎ (sender.is_late n t ≡ true)
    by true e = inl e
    by false e = inr (λ i. not (e i) && over i)
