-- Whatever was sent is due to go again, or its timeout isn't over: at each peer, however long ago it was sent.
use Rattle.std.proofs.Common.{◌≡◌, ℕ, ◌^◌, ◌<◌, ◌≤◌, ◌&&◌, not, leb, Bool, true, false, cond, List, [], map, Option, refl, sym, ap, subst, ◌∙◌, inl, inr, ◌⊎◌, arith}
use Rattle.std.specs.List.{list_any}
use Rattle.enet_rtt.specs.Clock.{elapsed_time}
use Rattle.enet_rtt.specs.Timing.{timeout}
use Rattle.enet_rtt.specs.Transmission as transmission
use Rattle.enet_rtt.specs.declared.transmission.Tick.{Tick}
use Rattle.enet_rtt.specs.declared.transmission.Transmission.{Transmission}
use Rattle.enet_senders.specs.Controlling as controlling
use Rattle.enet_senders.specs.declared.control.Control.TheVariants as control
use Rattle.enet_senders.specs.declared.control.SentControl.{SentControl}
use Rattle.law_connection.specs.Linked.{sender_in}
use Rattle.law_connection.specs.LinkSteps.{Has}
use Rattle.enet_sender.specs.declared.sent.Sent.{Sent}
use Rattle.enet_sender.specs.Sender.{Sender}
use Rattle.enet_sender.specs.Sender as sender
use Rattle.enet_sender.specs.Due.{SendingEnd}
use Rattle.enet_outbox.specs.Outbox.{has_late, marked_sender, cleared_sender}
use Rattle.enet_outbox.specs.Outbox as outbox
use Rattle.enet_outbox.specs.Emission.{filled}
use Rattle.enet_peer.specs.declared.parts.PeerState.{PeerState}
use Rattle.enet_peer.specs.declared.parts.PeerState.TheVariants as state
use Rattle.enet_peer.specs.Peering.{Peering}
use Rattle.enet_peer.specs.Endings.{cut_off_in}
use Rattle.enet_peer.specs.Calls.{pace_of, gone_on_in, moved, ticked, pinged, is_pinged, after_timeouts_by, tick_of}
use Rattle.law_progress.proofs.Ageing.{most}
use Rattle.law_progress.proofs.Moving.{by-expiry, by-moved}
use Rattle.law_progress.proofs.Waiting.{Fair, Sends, each-filled, fair-went, none-of, or-both, Has-mapped}
use Rattle.law_progress.proofs.Timed.{lt-of}
use Rattle.enet_world.proofs.Moments.{has-place, unmarked}
use Rattle.enet_world.proofs.Unsent.{IsUnsent}

-- at this moment a sent command is due to go again, or its timeout isn't over
abbrev pub Rests : ℕ → Transmission → Type 0
Rests now t = (t.due ≡ true) ⊎ ((t.last < 2 ^ 32) × (elapsed_time now t.last ≤ t.timeout))

pub no-time : (now : ℕ) → elapsed_time now now ≡ 0
no-time now = omega arith

rests-now : (now wait : ℕ) → now < 2 ^ 32 → (now < 2 ^ 32) × (elapsed_time now now ≤ wait)
rests-now now wait low = (low, (let z = no-time now in omega arith))

-- time comes: what isn't late then has time left
rests-marked : (tick : Tick) (t : Transmission) → (t.due ≡ true) ⊎ (t.last < 2 ^ 32) → Rests tick.now (transmission.marked tick t)
rests-marked tick t k = by t.due refl (leb t.timeout (elapsed_time now t.last)) refl k
  where
    now : ℕ
    now = tick.now

    grows : Transmission
    grows = record t { timeout = transmission.next_time tick t; due = true }

    same : transmission.is_late now t ≡ false → Rests now t → Rests now (transmission.marked tick t)
    same e r = subst (λ b. Rests now (cond b grows t)) (sym e) r

    by : (due : Bool) → t.due ≡ due → (late : Bool) → leb t.timeout (elapsed_time now t.last) ≡ late → (t.due ≡ true) ⊎ (t.last < 2 ^ 32) → Rests now (transmission.marked tick t)
    by true e late f j = same (ap (λ b. not b && leb t.timeout (elapsed_time now t.last)) e) (inl e)
    by false e false f (inl due) = absurd (let z : true ≡ false = sym due ∙ e in cc)
    by false e false f (inr low) = same (λ i. not (e i) && f i) (inr (low, (let z = lt-of t.timeout (elapsed_time now t.last) f in omega arith)))
    by false e true f j = subst (λ b. Rests now (cond b grows t)) (sym (λ i. not (e i) && f i)) (inl refl)

dated : (now : ℕ) (t : Transmission) → Rests now t → (t.due ≡ true) ⊎ (t.last < 2 ^ 32)
dated now t (inl due) = inl due
dated now t (inr k) = inr k.0

none-cleared : (R : Transmission → Type 0) (xs : List SendingEnd) → (s : SendingEnd) → Has (map cleared_sender xs) s → (t : Sent) → Has s.sender.sent t → R t.transmission
none-cleared R xs s h t k = let c = Has-mapped cleared_sender xs s h in absurd (subst (λ (x : SendingEnd). Has x.sender.sent t) (sym c.2) k)

rests-ticked : (now next : ℕ) (p : Peering) → Fair (Rests now) most p → Fair (Rests next) most (ticked p next)
rests-ticked now next p h = by-expiry (λ e. Fair (Rests next) most (pinged (after_timeouts_by e p next) next)) p next (pings (cut_off_in p.state p) (cut p.state))
    (λ lasts late. pings (record p { outbox = outbox.marked p.outbox (tick_of p next) }) marks)
    (λ lasts none. pings p (stays none))
  where
    tick : Tick
    tick = tick_of p next

    goes : (t : Transmission) → Rests now t → Rests next (transmission.marked tick t)
    goes t r = rests-marked tick t (dated now t r)

    marks : Fair (Rests next) most (record p { outbox = outbox.marked p.outbox tick })
    marks = (
      (
        (λ t k. (let c = Has-mapped (controlling.marked tick) p.outbox.control.sent t k in subst (λ (x : SentControl). Rests next x.transmission) c.2 (goes c.0.transmission (h.0.0 c.0 c.1)))),
        (λ s k t j. (let d = Has-mapped (marked_sender tick) p.outbox.senders s k in
            let c = Has-mapped (sender.marked tick) d.0.sender.sent t (subst (λ (x : SendingEnd). Has x.sender.sent t) (sym d.2) j) in
            subst (λ (x : Sent). Rests next x.transmission) c.2 (goes c.0.transmission (h.0.1 d.0 d.1 c.0 c.1)))),
      ),
      h.1,
      h.2,
    )

    -- nothing is late: all stays as it was
    stays : has_late p.outbox next ≡ false → Fair (Rests next) most p
    stays f = (let both = or-both (list_any (controlling.is_late next) p.outbox.control.sent) _ f in (
      (
        (λ t k. subst (λ (x : Transmission). Rests next x) (unmarked tick t.transmission (none-of (controlling.is_late next) p.outbox.control.sent t both.0 k)) (goes t.transmission (h.0.0 t k))),
        (λ s k t j. subst (λ (x : Transmission). Rests next x)
            (unmarked tick t.transmission (none-of (sender.is_late next) s.sender.sent t (none-of (λ (x : SendingEnd). list_any (sender.is_late next) x.sender.sent) p.outbox.senders s both.1 k) j))
            (goes t.transmission (h.0.1 s k t j))),
      ),
      h.1,
      h.2,
    ))

    cut : (s : PeerState) → Fair (Rests next) most (cut_off_in s p)
    cut state.Answering = (((λ t k. absurd k), none-cleared (Rests next) p.outbox.senders), h.1, h.2)
    cut s = (((λ t k. absurd k), none-cleared (Rests next) p.outbox.senders), h.1, h.2)

    pings : (q : Peering) → Fair (Rests next) most q → Fair (Rests next) most (pinged q next)
    pings q k = by (is_pinged q next)
      where
        by : (b : Bool) → Fair (Rests next) most (cond b (record q { outbox = outbox.with_control q.outbox control.Ping }) q)
        by true = k
        by false = k

-- or what is late counts as tried
rests-held : (now : ℕ) (tick : Tick) (t : SentControl) → tick.now < 2 ^ 32 → Rests now t.transmission → Rests tick.now (controlling.held_back tick t).transmission
rests-held now tick t low r = by (controlling.is_late next t) refl
  where
    next : ℕ
    next = tick.now

    by : (b : Bool) → controlling.is_late next t ≡ b
        → Rests next (cond b (record t { transmission = transmission.again next (transmission.marked tick t.transmission) }) t).transmission
    by true e = inr (rests-now next (transmission.marked tick t.transmission).timeout low)
    by false e = subst (λ (x : Transmission). Rests next x) (unmarked tick t.transmission e) (rests-marked tick t.transmission (dated now t.transmission r))

pub rests-moved : (now next : ℕ) (short : Bool) (p : Peering) → next < 2 ^ 32 → IsUnsent p → Fair (Rests now) most p → Fair (Rests next) most (moved short p next)
rests-moved now next short p low unsent h = by-moved (Fair (Rests next) most) short p next (rests-ticked now next p h) (λ at lasts. (
  (
    (λ t k. (let c = Has-mapped (controlling.held_back (tick_of p next)) p.outbox.control.sent t k in
        subst (λ (x : SentControl). Rests next x.transmission) c.2 (rests-held now (tick_of p next) c.0 low (h.0.0 c.0 c.1)))),
    (λ s k t j. (let i = has-place p.outbox.senders s k in
        let none : s.sender.sent ≡ [] = ap (λ (o : Option SendingEnd). (sender_in o).sent) (sym i.1) ∙ ap (λ (x : Sender). x.sent) (unsent at i.0) in
        absurd (subst (λ (l : List Sent). Has l t) none j))),
  ),
  h.1,
  h.2,
))

pub rests-emitted : (now : ℕ) (p : Peering) → now < 2 ^ 32 → Fair (Rests now) most p → Fair (Rests now) most (gone_on_in p.state (record p { outbox = (filled (pace_of p now) p.outbox).outbox }))
rests-emitted now p low h =
    let f = filled (pace_of p now) p.outbox in
    let sends : Sends (Rests now) now (timeout p.estimate) = record { first = inr (rests-now now (timeout p.estimate) low); again = λ t r due. inr (rests-now now t.timeout low) } in
    fair-went (Rests now) most (record p { outbox = f.outbox }) p.state (each-filled (Rests now) (pace_of p now) p.outbox sends h.0, h.1, h.2)
