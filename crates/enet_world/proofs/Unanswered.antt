-- A peer to which nothing comes: it is pinged, something it sent waits for its acknowledgement, and it ends once its patience is over.
use Rattle.std.proofs.Common.{◌≡◌, ℕ, zero, suc, ◌+◌, ◌-◌, ◌%◌, ◌^◌, ◌<◌, ◌≤◌, ◌==◌, ◌&&◌, ◌||◌, not, leb, ltb, Bool, true, false, cond, List, [], ◌∷◌, ◌++◌, length, map, refl, sym, ap, subst, ◌∙◌, inl, inr, ◌⊎◌, arith, Some, None, is_some}
use Rattle.std.proofs.lemmas.Bool.Decides.{nat_tests}
use Rattle.std.specs.List.{position, slice_get, slice_set, list_any, list_all}
use Rattle.enet_rtt.specs.Clock.{elapsed_time, since_later}
use Rattle.enet_rtt.specs.Timing.{timeout}
use Rattle.enet_rtt.specs.Transmission as transmission
use Rattle.enet_rtt.specs.declared.transmission.Tick.{Tick}
use Rattle.enet_rtt.specs.Expiry.{gives_up}
use Rattle.enet_rtt.specs.declared.transmission.Transmission.{Transmission}
use Rattle.enet_rtt.specs.declared.expiry.Patience.{Patience}
use Rattle.enet_rtt.specs.declared.expiry.Expiry.TheVariants.{No, Resend, End}
use Rattle.enet_fragment.specs.declared.data.DataCommand.{DataCommand}
use Rattle.law_connection.specs.LinkSteps.{Has}
use Rattle.enet_senders.specs.Controlling as controlling
use Rattle.enet_senders.specs.declared.control.Control.{Control}
use Rattle.enet_senders.specs.declared.control.Control.TheVariants as control
use Rattle.enet_senders.specs.declared.control.Numbered.{Numbered}
use Rattle.enet_senders.specs.declared.control.SentControl.{SentControl}
use Rattle.enet_sender.specs.declared.sent.Sent.{Sent}
use Rattle.enet_sender.specs.declared.outgoing.Occasion.{Occasion}
use Rattle.enet_sender.specs.Sender.{Sender, Next, with_skipped}
use Rattle.enet_sender.specs.Sender as sender
use Rattle.enet_sender.specs.Due.{SendingEnd}
use Rattle.enet_inbox.specs.Inbox.{Inbox}
use Rattle.enet_outbox.specs.declared.parts.Pace.{Pace}
use Rattle.enet_outbox.specs.Outbox.{Outbox, marked_sender, has_ended, has_late, has_no_reliable, has_no_packet, has_nothing_reliable, is_done}
use Rattle.enet_outbox.specs.Outbox as outbox
use Rattle.enet_outbox.specs.Emission.{Filling, occasion, filled}
use Rattle.enet_outbox.proofs.Filled.{by-filling}
use Rattle.enet_peer.specs.declared.parts.PeerState.{PeerState}
use Rattle.enet_peer.specs.declared.parts.PeerState.TheVariants as state
use Rattle.enet_peer.specs.Peering.{Peering}
use Rattle.enet_peer.specs.Endings.{cut_off_in}
use Rattle.enet_peer.specs.Calls.{is_answering, is_connected, is_over, pace_of, ticked, pinged, is_pinged, after_timeouts_by, tick_of, with_throttle_limit}
use Rattle.law_connection.proofs.Runs.{and-left, and-right}
use Rattle.law_progress.specs.Later.{queued_over}
use Rattle.law_progress.specs.Outboxes.{WaitsForSome}
use Rattle.law_progress.proofs.Ageing.{Aged, aged-begun, aged-again}
use Rattle.law_progress.proofs.Blocked.{done-or-waits, idle-controls}
use Rattle.law_progress.proofs.Controls.{GoesControl, Heads, Repeats, goes-control}
use Rattle.law_progress.proofs.Exchanges.{put_out}
use Rattle.law_progress.proofs.Filling.{le-leb}
use Rattle.law_progress.proofs.Fitting.{Fits, all-fits}
use Rattle.law_progress.proofs.SomethingGoes.{skipped-length}
use Rattle.law_progress.proofs.Spent.{Goes as SpentGoes, First, Again, goes-of, nothing-may-go}
use Rattle.law_progress.proofs.Timed.{elapsed-is, le-of, lt-of, next-within}
use Rattle.law_progress.proofs.Trips.{Has-map}
use Rattle.law_progress.proofs.Waiting.{Each, Sends, Has-at, Has-mapped, Has-pushed, Has-set, each-set, none-of, or-both, timeout-low}
use Rattle.enet_world.proofs.StillSent.{StillWaits, GoesAgain, still-filled, still-marked, still-so, still-with, none-waits, HasControl, has-queued, controlled-filled, not-idle}
use Rattle.enet_world.proofs.Modest.{IsModest, modest-ticked, modest-pings}
use Rattle.enet_world.proofs.Pings.{IsLone, Idle, Queued, Sent as SentOne, idle-lists, is_ping, filled-lone}
use Rattle.enet_world.proofs.Untouched.{pinged-state}
use Rattle.enet_world.proofs.Moments.{not-over, unmarked}

-- ---- a connected peer puts out, and time goes on
pinged-heard : (q : Peering) (n : ℕ) → (pinged q n).heard ≡ q.heard
pinged-heard q n = by (is_pinged q n)
  where
    by : (b : Bool) → (cond b (record q { outbox = outbox.with_control q.outbox control.Ping }) q).heard ≡ q.heard
    by true = refl
    by false = refl

pinged-still : (R : Transmission → Type 0) (q : Peering) (n : ℕ) → StillWaits R q.outbox → StillWaits R (pinged q n).outbox
pinged-still R q n h = by (is_pinged q n)
  where
    by : (b : Bool) → StillWaits R (cond b (record q { outbox = outbox.with_control q.outbox control.Ping }) q).outbox
    by true = h
    by false = h

waits-on : (p : Peering) (n : ℕ) → p.state ≡ state.Connected → is_over p n ≡ false
waits-on p n on = not-over p n (ap is_answering on)

-- where it stays connected, its patience wasn't over
no-end : (p : Peering) (n : ℕ) → p.state ≡ state.Connected → (ticked p n).state ≡ state.Connected → has_ended p.outbox n p.patience p.heard ≡ false
no-end p n on stays = by (has_ended p.outbox n p.patience p.heard) refl
  where
    by : (b : Bool) → has_ended p.outbox n p.patience p.heard ≡ b → has_ended p.outbox n p.patience p.heard ≡ false
    by false e = e
    by true e =
        let over = waits-on p n on in
        let cut : (ticked p n).state ≡ (pinged (cut_off_in p.state p) n).state = (λ i. (pinged (after_timeouts_by (cond (over i) End (cond (e i) End (cond (has_late p.outbox n) Resend No))) p n) n).state) in
        let z : state.Connected ≡ state.Ended = sym stays ∙ cut ∙ pinged-state (cut_off_in p.state p) n ∙ ap (λ (s : PeerState). (cut_off_in s p).state) on in
        absurd (cc)

after-tick : (p : Peering) (n : ℕ) → p.state ≡ state.Connected → has_ended p.outbox n p.patience p.heard ≡ false → ticked p n ≡ pinged (after_timeouts_by (cond (has_late p.outbox n) Resend No) p n) n
after-tick p n on e = (let over = waits-on p n on in (λ i. pinged (after_timeouts_by (cond (over i) End (cond (e i) End (cond (has_late p.outbox n) Resend No))) p n) n))

heard-stays : (p : Peering) (n : ℕ) → p.state ≡ state.Connected → (ticked p n).state ≡ state.Connected → (ticked p n).heard ≡ p.heard
heard-stays p n on stays = ap (λ (q : Peering). q.heard) (after-tick p n on (no-end p n on stays)) ∙ pinged-heard (after_timeouts_by (cond (has_late p.outbox n) Resend No) p n) n ∙ by (has_late p.outbox n)
  where
    by : (b : Bool) → (after_timeouts_by (cond b Resend No) p n).heard ≡ p.heard
    by true = refl
    by false = refl

-- ---- nothing reliable is queued or waits
none-any : {X : Type 0} (f : X → Bool) (xs : List X) → (length xs == 0) ≡ true → list_any f xs ≡ false
none-any f [] e = refl
none-any f (x ∷ xs) e = absurd (never (length xs) e)
  where
    never : (n : ℕ) → (suc n == 0) ≡ true → ⊥
    never n e = grind (arith, nat_tests)

none-late : (n : ℕ) (xs : List SendingEnd) → list_all has_no_reliable xs ≡ true → list_any (λ (s : SendingEnd). list_any (sender.is_late n) s.sender.sent) xs ≡ false
none-late n [] e = refl
none-late n (x ∷ xs) e =
    let own : list_any (sender.is_late n) x.sender.sent ≡ false = nothing x.sender.sent (is_some (position (λ (c : DataCommand). c.reliable) x.sender.queued)) (and-left (has_no_reliable x) (list_all has_no_reliable xs) e) in
    let rest : list_any (λ (s : SendingEnd). list_any (sender.is_late n) s.sender.sent) xs ≡ false = none-late n xs (and-right (has_no_reliable x) (list_all has_no_reliable xs) e) in
    (λ i. own i || rest i)
  where
    never : (m : ℕ) → ltb 0 (suc m) ≡ true
    never m = grind (arith, nat_tests)

    some : (a b : Bool) → b ≡ true → not (a || b) ≡ true → ⊥
    some true b h e = (let z : false ≡ true = e in cc)
    some false true h e = (let z : false ≡ true = e in cc)
    some false false h e = (let z : false ≡ true = h in cc)

    nothing : (l : List Sent) (a : Bool) → not (a || ltb 0 (length l)) ≡ true → list_any (sender.is_late n) l ≡ false
    nothing [] a h = refl
    nothing (y ∷ l) a h = absurd (some a (ltb 0 (suc (length l))) (never (length l)) h)

nothing-late : (o : Outbox) (n : ℕ) → has_nothing_reliable o ≡ true → has_late o n ≡ false
nothing-late o n e =
    let idle : controlling.is_idle o.control ≡ true = and-left (controlling.is_idle o.control) (list_all has_no_reliable o.senders) e in
    let one : list_any (controlling.is_late n) o.control.sent ≡ false = none-any (controlling.is_late n) o.control.sent (and-right (length o.control.queued == 0) (length o.control.sent == 0) idle) in
    let two : list_any (λ (s : SendingEnd). list_any (sender.is_late n) s.sender.sent) o.senders ≡ false = none-late n o.senders (and-right (controlling.is_idle o.control) (list_all has_no_reliable o.senders) e) in
    (λ i. one i || two i)

done-nothing : (o : Outbox) → is_done o ≡ true → has_nothing_reliable o ≡ true
done-nothing o e = and-left (has_nothing_reliable o) (list_all has_no_packet o.senders) (and-left (has_nothing_reliable o && list_all has_no_packet o.senders) (length o.unsequenced == 0) e)

-- so it is pinged, where it wasn't heard for long enough
pings-now : (p : Peering) (n : ℕ) → p.state ≡ state.Connected → (ticked p n).state ≡ state.Connected → is_done p.outbox ≡ true → p.ping_interval ≡ 500 → 500 ≤ elapsed_time n p.heard → HasControl (ticked p n).outbox.control
pings-now p n on stays done interval long = subst (λ (q : Peering). HasControl q.outbox.control) (sym is) (has-queued p.outbox.control control.Ping refl)
  where
    connected : is_connected p.state ≡ true
    connected = ap is_connected on

    nothing : has_nothing_reliable p.outbox ≡ true
    nothing = done-nothing p.outbox done

    due : leb p.ping_interval (elapsed_time n p.heard) ≡ true
    due = ap (λ m. leb m (elapsed_time n p.heard)) interval ∙ le-leb 500 (elapsed_time n p.heard) long

    is : ticked p n ≡ record p { outbox = outbox.with_control p.outbox control.Ping }
    is = after-tick p n on (no-end p n on stays) ∙ ap (λ b. pinged (after_timeouts_by (cond b Resend No) p n) n) (nothing-late p.outbox n nothing)
        ∙ (λ i. cond (connected i && nothing i && due i) (record p { outbox = outbox.with_control p.outbox control.Ping }) p)

-- ---- nothing is left where something waits
not-sent : (l : List Sent) (a : Bool) (t : Sent) → not (a || ltb 0 (length l)) ≡ true → Has l t → ⊥
not-sent [] a t e h = absurd h
not-sent (y ∷ l) a t e h = some a (ltb 0 (suc (length l))) (never (length l)) e
  where
    never : (m : ℕ) → ltb 0 (suc m) ≡ true
    never m = grind (arith, nat_tests)

    some : (x b : Bool) → b ≡ true → not (x || b) ≡ true → ⊥
    some true b h e = (let z : false ≡ true = e in cc)
    some false true h e = (let z : false ≡ true = e in cc)
    some false false h e = (let z : false ≡ true = h in cc)

none-sent : (xs : List SendingEnd) → list_all has_no_reliable xs ≡ true → (s : SendingEnd) → Has xs s → (t : Sent) → Has s.sender.sent t → ⊥
none-sent [] e s h t k = absurd h
none-sent (x ∷ xs) e s (inl is) t k =
    not-sent x.sender.sent (is_some (position (λ (c : DataCommand). c.reliable) x.sender.queued)) t (and-left (has_no_reliable x) (list_all has_no_reliable xs) e) (subst (λ (y : SendingEnd). Has y.sender.sent t) (sym is) k)
none-sent (x ∷ xs) e s (inr h) t k = none-sent xs (and-right (has_no_reliable x) (list_all has_no_reliable xs) e) s h t k

left-waits : (R : Transmission → Type 0) (o : Outbox) → StillWaits R o → has_nothing_reliable o ≡ true → ⊥
left-waits R o (inl (t, h, r)) e =
    let idle = idle-lists o.control (and-left (controlling.is_idle o.control) (list_all has_no_reliable o.senders) e) in
    subst (λ (l : List SentControl). Has l t) idle.1 h
left-waits R o (inr (s, k, (t, h, r))) e = none-sent o.senders (and-right (controlling.is_idle o.control) (list_all has_no_reliable o.senders) e) s k t h

-- so it isn't pinged
not-pinged : (R : Transmission → Type 0) (q : Peering) (n : ℕ) → StillWaits R q.outbox → pinged q n ≡ q
not-pinged R q n w = by (has_nothing_reliable q.outbox) refl
  where
    none : (a b c : Bool) → b ≡ false → (a && b && c) ≡ false
    none true b c e = ap (λ x. x && c) e
    none false b c e = refl

    by : (b : Bool) → has_nothing_reliable q.outbox ≡ b → pinged q n ≡ q
    by true e = absurd (left-waits R q.outbox w e)
    by false e = ap (λ x. cond x (record q { outbox = outbox.with_control q.outbox control.Ping }) q) (none (is_connected q.state) (has_nothing_reliable q.outbox) (leb q.ping_interval (elapsed_time n q.heard)) e)

-- ---- a command that first went by a moment
pub record Early (since now time : ℕ) (t : Transmission) : Type 0 where
  pub aged : Aged now time t
  pub early : aged.first ≤ since

early-now : (now time : ℕ) (t : Transmission) → Aged now time t → Early now now time t
early-now now time t a = record { aged = a; early = (let x = a.after in let y = a.by in omega arith) }

early-again : (since now time : ℕ) (t : Transmission) → Early since now time t → Early since now time (transmission.again (now % 2 ^ 32) t)
early-again since now time t e = record {
  aged = record { first = a.first; last = now; first_is = a.first_is; last_is = refl; after = (let x = a.after in let y = a.by in omega arith); by = omega arith; since = a.since; brief = a.brief };
  early = e.early;
}
  where
    a : Aged now time t
    a = e.aged

-- it is in transit, and went again within the greatest patience since then: so its peer's patience is over by some time
pub record Old (since now time : ℕ) (t : Transmission) : Type 0 where
  pub old : Early since now time t
  pub soon : old.aged.last ≤ since + 30000
  pub rests : t.due ≡ false

old-early : (since now time : ℕ) (t : Transmission) → now ≤ since + 30000 → t.due ≡ false → Early since now time t → Old since now time t
old-early since now time t low e old = record { old = old; soon = (let y = old.aged.by in omega arith); rests = e }

-- what is known of it at a moment that comes
record Comes (since now time d : ℕ) (pt : Patience) (heard : ℕ) (t : Transmission) : Type 0 where
  early : Early since now time t
  goes_on : transmission.ends ((now + d) % 2 ^ 32) pt heard t ≡ false
  near : time + d < 2 ^ 32
  patient : pt.maximum ≡ 30000

since-first : (since now time d : ℕ) (pt : Patience) (heard : ℕ) (t : Transmission) → (c : Comes since now time d pt heard t) → elapsed_time ((now + d) % 2 ^ 32) t.first ≡ now + d - c.early.aged.first
since-first since now time d pt heard t c =
    let a = c.early.aged in
    ap (elapsed_time ((now + d) % 2 ^ 32)) a.first_is ∙ elapsed-is a.first (now + d) (let x = a.after in let y = a.by in omega arith) (let x = a.since in let y = c.near in omega arith)

since-last : (since now time d : ℕ) (pt : Patience) (heard : ℕ) (t : Transmission) → (c : Comes since now time d pt heard t) → elapsed_time ((now + d) % 2 ^ 32) t.last ≡ now + d - c.early.aged.last
since-last since now time d pt heard t c =
    let a = c.early.aged in
    ap (elapsed_time ((now + d) % 2 ^ 32)) a.last_is ∙ elapsed-is a.last (now + d) (let y = a.by in omega arith) (let u = a.after in let x = a.since in let y = c.near in omega arith)

ends-so : (n : ℕ) (pt : Patience) (heard : ℕ) (t : Transmission) → transmission.is_late n t ≡ true → leb pt.maximum (elapsed_time n t.first) ≡ true → transmission.ends n pt heard t ≡ true
ends-so n pt heard t late over = (λ i. late i && gives i)
  where
    gives : gives_up pt n heard t ≡ true
    gives = ap (λ b. b || (leb pt.limit (2 ^ (t.attempts - 1)) && leb (elapsed_time n t.last + t.timeout + pt.minimum) (since_later n t.first heard))) over

-- where it is late, patience lasts
lasts : (since now time d : ℕ) (pt : Patience) (heard : ℕ) (t : Transmission) → (c : Comes since now time d pt heard t) → transmission.is_late ((now + d) % 2 ^ 32) t ≡ true → now + d < c.early.aged.first + 30000
lasts since now time d pt heard t c late = by (leb pt.maximum (elapsed_time n t.first)) refl
  where
    n : ℕ
    n = (now + d) % 2 ^ 32

    first : ℕ
    first = c.early.aged.first

    gone : elapsed_time n t.first ≡ now + d - first
    gone = since-first since now time d pt heard t c

    low : first ≤ now + d
    low = let a = c.early.aged in let x = a.after in let y = a.by in omega arith

    by : (b : Bool) → leb pt.maximum (elapsed_time n t.first) ≡ b → now + d < first + 30000
    by true e = absurd (let z : true ≡ false = sym (ends-so n pt heard t late e) ∙ c.goes_on in cc)
    by false e = (let x = lt-of pt.maximum (elapsed_time n t.first) e in let y : pt.maximum ≡ 30000 = c.patient in let g : elapsed_time n t.first ≡ now + d - first = gone in let l : first ≤ now + d = low in omega arith)

-- with another timeout, perhaps, and due to go again or not
aged-with : (now time d wait : ℕ) (due : Bool) (t : Transmission) → Aged now time t → wait ≤ 60000 → Aged (now + d) (time + d) (record t { timeout = wait; due = due })
aged-with now time d wait due t a brief = record {
  first = a.first;
  last = a.last;
  first_is = a.first_is;
  last_is = a.last_is;
  after = a.after;
  by = (let x = a.by in omega arith);
  since = (let y = a.since in omega arith);
  brief = brief;
}

-- it goes on
early-marked : (since now time d : ℕ) (p : Peering) (t : Transmission) → Comes since now time d p.patience p.heard t → Early since (now + d) (time + d) (transmission.marked (tick_of p ((now + d) % 2 ^ 32)) t)
unfolding aged-with
early-marked since now time d p t c = by (transmission.is_late n t) refl
  where
    n : ℕ
    n = (now + d) % 2 ^ 32

    a : Aged now time t
    a = c.early.aged

    tick : Tick
    tick = tick_of p n

    short : timeout p.estimate ≤ 60000
    short = let x = timeout-low p.estimate in omega arith

    by : (b : Bool) → transmission.is_late n t ≡ b → Early since (now + d) (time + d) (cond b (record t { timeout = transmission.next_time tick t; due = true }) t)
    by false e = record { aged = aged-with now time d t.timeout t.due t a a.brief; early = c.early.early }
    by true e = record { aged = aged-with now time d (transmission.next_time tick t) true t a (next-within tick t 60000 0 short (let y = brief in omega arith)); early = c.early.early }
      where
        late : leb t.timeout (elapsed_time n t.last) ≡ true
        late = and-right (not t.due) (leb t.timeout (elapsed_time n t.last)) e

        brief : t.timeout < 30000
        brief = (let x = le-of t.timeout (elapsed_time n t.last) late in let y = since-last since now time d p.patience p.heard t c in let z = lasts since now time d p.patience p.heard t c e in let u = a.after in let v = a.by in omega arith)

-- and so does one in transit; or it is late, and not much time has passed
old-marked : (since now time d : ℕ) (p : Peering) (t : Transmission) → Old since now time t → transmission.ends ((now + d) % 2 ^ 32) p.patience p.heard t ≡ false → time + d < 2 ^ 32 → p.patience.maximum ≡ 30000
    → (now + d ≤ since + 30000) ⊎ Old since (now + d) (time + d) (transmission.marked (tick_of p ((now + d) % 2 ^ 32)) t)
unfolding aged-with
old-marked since now time d p t o goes_on near patient = by (transmission.is_late n t) refl
  where
    n : ℕ
    n = (now + d) % 2 ^ 32

    c : Comes since now time d p.patience p.heard t
    c = record { early = o.old; goes_on = goes_on; near = near; patient = patient }

    by : (b : Bool) → transmission.is_late n t ≡ b → (now + d ≤ since + 30000) ⊎ Old since (now + d) (time + d) (cond b (record t { timeout = transmission.next_time (tick_of p n) t; due = true }) t)
    by true e = inl (let x = lasts since now time d p.patience p.heard t c e in let y = o.old.early in omega arith)
    by false e = inr (record { old = record { aged = aged-with now time d t.timeout t.due t o.old.aged o.old.aged.brief; early = o.old.early }; soon = o.soon; rests = o.rests })

-- and not for longer than that
old-over : (since now time d : ℕ) (pt : Patience) (heard : ℕ) (t : Transmission) → Old since now time t → transmission.ends ((now + d) % 2 ^ 32) pt heard t ≡ false → time + d < 2 ^ 32 → pt.maximum ≡ 30000 → since + 90000 ≤ now + d → ⊥
old-over since now time d pt heard t o goes_on near patient over = (let x = lasts since now time d pt heard t c is_late in let y = o.old.early in omega arith)
  where
    n : ℕ
    n = (now + d) % 2 ^ 32

    c : Comes since now time d pt heard t
    c = record { early = o.old; goes_on = goes_on; near = near; patient = patient }

    rests : t.due ≡ false
    rests = o.rests

    long : t.timeout ≤ elapsed_time n t.last
    long = let a = o.old.aged in let x = since-last since now time d pt heard t c in let y = a.brief in let z = o.soon in let u = a.by in omega arith

    f : leb t.timeout (elapsed_time n t.last) ≡ true
    f = le-leb t.timeout (elapsed_time n t.last) long

    is_late : transmission.is_late n t ≡ true
    is_late = (λ i. not (rests i) && f i)

-- ---- a moment comes while something waits
goes-on : (p : Peering) (n : ℕ) → has_ended p.outbox n p.patience p.heard ≡ false → Each (λ t. transmission.ends n p.patience p.heard t ≡ false) p.outbox.control.sent p.outbox.senders
goes-on p n e = (
  (λ t k. none-of (controlling.ends n p.patience p.heard) p.outbox.control.sent t both.0 k),
  (λ s k t j. none-of (sender.ends n p.patience p.heard) s.sender.sent t (none-of (λ (x : SendingEnd). list_any (sender.ends n p.patience p.heard) x.sender.sent) p.outbox.senders s both.1 k) j),
)
  where
    both : (list_any (controlling.ends n p.patience p.heard) p.outbox.control.sent ≡ false) × (list_any (λ (x : SendingEnd). list_any (sender.ends n p.patience p.heard) x.sender.sent) p.outbox.senders ≡ false)
    both = or-both (list_any (controlling.ends n p.patience p.heard) p.outbox.control.sent) _ e

not-late : (o : Outbox) (n : ℕ) → has_late o n ≡ false → Each (λ t. transmission.is_late n t ≡ false) o.control.sent o.senders
not-late o n e = (
  (λ t k. none-of (controlling.is_late n) o.control.sent t both.0 k),
  (λ s k t j. none-of (sender.is_late n) s.sender.sent t (none-of (λ (x : SendingEnd). list_any (sender.is_late n) x.sender.sent) o.senders s both.1 k) j),
)
  where
    both : (list_any (controlling.is_late n) o.control.sent ≡ false) × (list_any (λ (x : SendingEnd). list_any (sender.is_late n) x.sender.sent) o.senders ≡ false)
    both = or-both (list_any (controlling.is_late n) o.control.sent) _ e

each-both : (R S : Transmission → Type 0) (o : Outbox) → Each R o.control.sent o.senders → Each S o.control.sent o.senders → Each (λ t. R t × S t) o.control.sent o.senders
each-both R S o a b = ((λ t h. (a.0 t h, b.0 t h)), (λ s k t h. (a.1 s k t h, b.1 s k t h)))

each-so : (R S : Transmission → Type 0) (o : Outbox) → ((t : Transmission) → R t → S t) → Each R o.control.sent o.senders → Each S o.control.sent o.senders
each-so R S o f a = ((λ t h. f t.transmission (a.0 t h)), (λ s k t h. f t.transmission (a.1 s k t h)))

each-marked : (R S : Transmission → Type 0) (tick : Tick) (o : Outbox) → ((t : Transmission) → R t → S (transmission.marked tick t)) → Each R o.control.sent o.senders → Each S (outbox.marked o tick).control.sent (outbox.marked o tick).senders
each-marked R S tick o f a = (
  (λ t h. (let c = Has-mapped (controlling.marked tick) o.control.sent t h in subst (λ (x : SentControl). S x.transmission) c.2 (f c.0.transmission (a.0 c.0 c.1)))),
  (λ s k t h. (let d = Has-mapped (marked_sender tick) o.senders s k in
      let c = Has-mapped (sender.marked tick) d.0.sender.sent t (subst (λ (x : SendingEnd). Has x.sender.sent t) (sym d.2) h) in
      subst (λ (x : Sent). S x.transmission) c.2 (f c.0.transmission (a.1 d.0 d.1 c.0 c.1)))),
)

-- of one that waits something holds then, or another thing is so
either-marked : (R S : Transmission → Type 0) (Z : Type 0) (tick : Tick) (o : Outbox) → ((t : Transmission) → R t → Z ⊎ S (transmission.marked tick t)) → StillWaits R o → Z ⊎ StillWaits S (outbox.marked o tick)
either-marked R S Z tick o f (inl (t, h, r)) = elim (f t.transmission r) [ inl z ↦ inl z | inr s ↦ inr (inl (controlling.marked tick t, Has-map (controlling.marked tick) o.control.sent t h, s)) ]
either-marked R S Z tick o f (inr (s, k, (t, h, r))) = elim (f t.transmission r) [
  | inl z ↦ inl z
  | inr x ↦ inr (inr (marked_sender tick s, Has-map (marked_sender tick) o.senders s k, (sender.marked tick t, Has-map (sender.marked tick) s.sender.sent t h, x)))
]

either-so : (R S : Transmission → Type 0) (Z : Type 0) (o : Outbox) → ((t : Transmission) → R t → Z ⊎ S t) → StillWaits R o → Z ⊎ StillWaits S o
either-so R S Z o f (inl (t, h, r)) = elim (f t.transmission r) [ inl z ↦ inl z | inr s ↦ inr (inl (t, h, s)) ]
either-so R S Z o f (inr (s, k, (t, h, r))) = elim (f t.transmission r) [ inl z ↦ inl z | inr x ↦ inr (inr (s, k, (t, h, x))) ]

any-marked : (R : Transmission → Type 0) (tick : Tick) (o : Outbox) → StillWaits R o → StillWaits (λ t. Unit {0}) (outbox.marked o tick)
any-marked R tick o w = still-marked R (λ t. Unit {0}) tick o (λ t r. tt) w

less-or : (a b : ℕ) → (b ≤ a → ⊥) → a < b
less-or a b never = by (leb b a) refl
  where
    by : (x : Bool) → leb b a ≡ x → a < b
    by true e = absurd (never (le-of b a e))
    by false e = lt-of b a e

-- ---- what is queued
queued-set : (xs : List SendingEnd) (k : ℕ) (x y : SendingEnd) → slice_get xs k ≡ Some x → queued_over (slice_set xs k y) + length x.sender.queued ≡ queued_over xs + length y.sender.queued
queued-set [] k x y t = absurd (cc)
queued-set (z ∷ zs) zero x y t =
    let it : z ≡ x = cc in
    let same : length z.sender.queued ≡ length x.sender.queued = ap (λ (s : SendingEnd). length s.sender.queued) it in
    omega arith
queued-set (z ∷ zs) (suc k) x y t = let rest = queued-set zs k x y t in omega arith

queued-marked : (tick : Tick) (xs : List SendingEnd) → queued_over (map (marked_sender tick) xs) ≡ queued_over xs
queued-marked tick [] = refl
queued-marked tick (x ∷ xs) = ap (λ n. length x.sender.queued + n) (queued-marked tick xs)

-- a sender puts out what is due: its queue is one shorter, or as it was
queue-next : (o : Occasion) (s : Sender) (n : Next) → SpentGoes o s n → length n.sender.queued ≤ length s.queued
queue-next o s n (First c rest q may is) = (let e : length n.sender.queued ≡ length rest = ap (λ (x : Next). length x.sender.queued) (sym is) in let f : length s.queued ≡ suc (length rest) = ap (λ (l : List DataCommand). length l) q in omega arith)
queue-next o s n (Again i p there due is) = (let e : length n.sender.queued ≡ length s.queued = ap (λ (x : Next). length x.sender.queued) (sym is) in omega arith)

-- one channel comes to have no more queued, or less
abbrev Fewer : ℕ → List SendingEnd → Type 0
Fewer most xs = queued_over xs ≤ most

few-set : (most : ℕ) (xs : List SendingEnd) (k : ℕ) (s : SendingEnd) (new : Sender) → slice_get xs k ≡ Some s → length new.queued ≤ length s.sender.queued → Fewer most xs → Fewer most (slice_set xs k (record s { sender = new }))
few-set most xs k s new there less h = (let e = queued-set xs k s (record s { sender = new }) there in omega arith)

few-filled : (most : ℕ) (pace : Pace) (o : Outbox) → Fewer most o.senders → Fewer most (filled pace o).outbox.senders
few-filled most pace o few = by-filling pace o (λ (f : Filling). Fewer most f.outbox.senders) (record {
  closes = λ f h. h;
  acknowledges = λ f a rest e h. h;
  controls = λ f n e h. h;
  puts_unsequenced = λ f u rest t e h. h;
  drops_unsequenced = λ f u rest t e h. h;
  puts_data = λ f k s n t there due h. few-set most f.outbox.senders k s n.sender there (queue-next (occasion pace k f.outbox) s.sender n (goes-of (occasion pace k f.outbox) s.sender n due)) h;
  drops_data = λ f k s n t there due kind h. few-set most f.outbox.senders k s (with_skipped n.sender) there
      (let a = queue-next (occasion pace k f.outbox) s.sender n (goes-of (occasion pace k f.outbox) s.sender n due) in let b = skipped-length n.sender.queued in omega arith) h;
  keeps_room = λ f i x there wants h. h;
  gives_room = λ f i x n there due h. h;
}) few

-- ---- a datagram is filled while nothing comes: all that was sent first went by a moment, or less is queued than then
pub record SoFar (since now time left : ℕ) (o : Outbox) : Type 0 where
  pub controls : o.control.queued ≡ []
  pub all : Each (Aged now time) o.control.sent o.senders
  pub either : (Each (Early since now time) o.control.sent o.senders × (queued_over o.senders ≤ left)) ⊎ (queued_over o.senders + 1 ≤ left)

control-again : (R : Transmission → Type 0) (now : ℕ) (c : controlling.Commands) (i : ℕ) (p : SentControl) → ((t : Transmission) → R t → R (transmission.again now t)) → slice_get c.sent i ≡ Some p → ((t : SentControl) → Has c.sent t → R t.transmission)
    → (t : SentControl) → Has (slice_set c.sent i (controlling.again now p)) t → R t.transmission
control-again R now c i p again there all t h = elim (Has-set c.sent i (controlling.again now p) t h) [
  | inl is ↦ subst (λ (y : SentControl). R y.transmission) is (again p.transmission (all p (Has-at c.sent i p there)))
  | inr old ↦ all t old
]

sent-again : (R : Transmission → Type 0) (now : ℕ) (l : List Sent) (i : ℕ) (p : Sent) → ((t : Transmission) → R t → R (transmission.again now t)) → slice_get l i ≡ Some p → ((t : Sent) → Has l t → R t.transmission)
    → (t : Sent) → Has (slice_set l i (sender.again now p)) t → R t.transmission
sent-again R now l i p again there all t h = elim (Has-set l i (sender.again now p) t h) [
  | inl is ↦ subst (λ (y : Sent). R y.transmission) is (again p.transmission (all p (Has-at l i p there)))
  | inr old ↦ all t old
]

so-far : (since now time left : ℕ) (pace : Pace) (o : Outbox) → pace.now ≡ now % 2 ^ 32 → pace.timeout ≤ 60000 → SoFar since now time left o → SoFar since now time left (filled pace o).outbox
so-far since now time left pace o same low some = by-filling pace o (λ (f : Filling). SoFar since now time left f.outbox) (record {
  closes = λ f h. h;
  acknowledges = λ f a rest e h. record { controls = h.controls; all = h.all; either = h.either };
  controls = λ f n e h. told f n h (goes-control pace.now pace.timeout f.outbox.control n e);
  puts_unsequenced = λ f u rest t e h. record { controls = h.controls; all = h.all; either = h.either };
  drops_unsequenced = λ f u rest t e h. record { controls = h.controls; all = h.all; either = h.either };
  puts_data = λ f k s n t there due h. (let y = put f k s n n.sender there h (goes-of (occasion pace k f.outbox) s.sender n due) (omega arith) (λ x j. j) in record { controls = y.controls; all = y.all; either = y.either });
  drops_data = λ f k s n t there due kind h. (let y = put f k s n (with_skipped n.sender) there h (goes-of (occasion pace k f.outbox) s.sender n due) (skipped-length n.sender.queued) (λ x j. j) in
      record { controls = y.controls; all = y.all; either = y.either });
  keeps_room = λ f i x there wants h. record { controls = h.controls; all = h.all; either = h.either };
  gives_room = λ f i x n there due h. record { controls = h.controls; all = h.all; either = h.either };
}) some
  where
    sends : Sends (Aged now time) pace.now pace.timeout
    sends = subst (λ m. Sends (Aged now time) m pace.timeout) (sym same) (record { first = aged-begun now time pace.timeout low; again = λ t r due. aged-again now time t r })

    again : (t : Transmission) → Early since now time t → Early since now time (transmission.again pace.now t)
    again t e = subst (λ m. Early since now time (transmission.again m t)) (sym same) (early-again since now time t e)

    aged : (t : Transmission) → Aged now time t → Aged now time (transmission.again pace.now t)
    aged t e = subst (λ m. Aged now time (transmission.again m t)) (sym same) (aged-again now time t e)

    told : (f : Filling) (n : controlling.Next) → SoFar since now time left f.outbox → GoesControl pace.now pace.timeout f.outbox.control n → SoFar since now time left (record f.outbox { control = n.commands })
    told f n h (Heads x rest q is) = absurd (let z : ◌≡◌ {A = List Numbered} [] (x ∷ rest) = sym h.controls ∙ q in cc)
    told f n h (Repeats i p there due is) = subst (λ (y : controlling.Next). SoFar since now time left (record f.outbox { control = y.commands })) is (record {
      controls = h.controls;
      all = (control-again (Aged now time) pace.now f.outbox.control i p aged there h.all.0, h.all.1);
      either = elim h.either [
        | inl k ↦ inl ((control-again (Early since now time) pace.now f.outbox.control i p again there k.0.0, k.0.1), k.1)
        | inr k ↦ inr k
      ];
    })

    -- the sender of a channel after it, perhaps without the rest of an unreliable packet
    put : (f : Filling) (k : ℕ) (s : SendingEnd) (n : Next) (new : Sender) → slice_get f.outbox.senders k ≡ Some s → SoFar since now time left f.outbox → SpentGoes (occasion pace k f.outbox) s.sender n → length new.queued ≤ length n.sender.queued
        → ((x : Sent) → Has new.sent x → Has n.sender.sent x) → SoFar since now time left (record f.outbox { senders = slice_set f.outbox.senders k (record s { sender = new }) })
    put f k s n new there h goes less sent = record {
      controls = h.controls;
      all = (h.all.0, each-set (Aged now time) f.outbox.senders k s new there (λ x j. each-due' goes x (sent x j)) h.all.1);
      either = by goes h.either;
    }
      where
        out : List SendingEnd
        out = slice_set f.outbox.senders k (record s { sender = new })

        each-due' : SpentGoes (occasion pace k f.outbox) s.sender n → (x : Sent) → Has n.sender.sent x → Aged now time x.transmission
        each-due' (First c rest q may is) x j = first c.reliable (subst (λ (y : Next). Has y.sender.sent x) (sym is) j)
          where
            first : (b : Bool) → Has (cond b (s.sender.sent ++ sender.begun pace.now pace.timeout c ∷ []) s.sender.sent) x → Aged now time x.transmission
            first false i = h.all.1 s (Has-at f.outbox.senders k s there) x i
            first true i = elim (Has-pushed s.sender.sent (sender.begun pace.now pace.timeout c) x i) [
              | inl it ↦ subst (λ (y : Sent). Aged now time y.transmission) it sends.first
              | inr old ↦ h.all.1 s (Has-at f.outbox.senders k s there) x old
            ]
        each-due' (Again i p at due is) x j = sent-again (Aged now time) pace.now s.sender.sent i p aged at (h.all.1 s (Has-at f.outbox.senders k s there)) x (subst (λ (y : Next). Has y.sender.sent x) (sym is) j)

        -- how many are queued then
        count : queued_over out + length s.sender.queued ≡ queued_over f.outbox.senders + length new.queued
        count = queued-set f.outbox.senders k s (record s { sender = new }) there

        by : SpentGoes (occasion pace k f.outbox) s.sender n → (Each (Early since now time) f.outbox.control.sent f.outbox.senders × (queued_over f.outbox.senders ≤ left)) ⊎ (queued_over f.outbox.senders + 1 ≤ left)
            → (Each (Early since now time) f.outbox.control.sent out × (queued_over out ≤ left)) ⊎ (queued_over out + 1 ≤ left)
        by (First c rest q may is) e =
            let shorter : length n.sender.queued ≡ length rest = ap (λ (x : Next). length x.sender.queued) (sym is) in
            let was : length s.sender.queued ≡ suc (length rest) = ap (λ (l : List DataCommand). length l) q in
            let now_few = count in
            inr (elim e [ inl x ↦ (let y = x.1 in omega arith) | inr x ↦ omega arith ])
        by (Again i p at due is) (inl e) =
            let same_many : length n.sender.queued ≡ length s.sender.queued = ap (λ (x : Next). length x.sender.queued) (sym is) in
            let now_few = count in
            inl (
              (
                e.0.0,
                each-set (Early since now time) f.outbox.senders k s new there
                    (λ x j. sent-again (Early since now time) pace.now s.sender.sent i p again at (e.0.1 s (Has-at f.outbox.senders k s there)) x (subst (λ (y : Next). Has y.sender.sent x) (sym is) (sent x j))) e.0.1,
              ),
              (let y = e.1 in omega arith),
            )
        by (Again i p at due is) (inr e) =
            let same_many : length n.sender.queued ≡ length s.sender.queued = ap (λ (x : Next). length x.sender.queued) (sym is) in
            let now_few = count in
            inr (omega arith)

-- ---- what is known of a peer by one moment: before it, while it puts out, and once it has put all out
pub record Goes (n : ℕ) (P Q R : Peering → Type 0) : Type 0 where
  pub ticks : (p : Peering) → p.state ≡ state.Connected → P p → (ticked p n).state ≡ state.Connected → Q (ticked p n)
  pub limits : (p : Peering) (limit : ℕ) → Q p → Q (with_throttle_limit p limit)
  pub emits : (p : Peering) → Q p → Q (put_out p n)
  pub last : (p : Peering) → Fits p → (filled (pace_of p n) p.outbox).messages ≡ [] → Q p → R (put_out p n)
  pub greets : (p : Peering) → R p → R (record p { greeting = None })
  pub receives : (p : Peering) (i : Inbox) → R p → R (record p { inbox = i })

-- two things at once
pub both-go : (n : ℕ) (P Q R P' Q' R' : Peering → Type 0) → Goes n P Q R → Goes n P' Q' R' → Goes n (λ p. P p × P' p) (λ p. Q p × Q' p) (λ p. R p × R' p)
both-go n P Q R P' Q' R' g h = record {
  ticks = λ p on k stays. (g.ticks p on k.0 stays, h.ticks p on k.1 stays);
  limits = λ p limit k. (g.limits p limit k.0, h.limits p limit k.1);
  emits = λ p k. (g.emits p k.0, h.emits p k.1);
  last = λ p fits none k. (g.last p fits none k.0, h.last p fits none k.1);
  greets = λ p k. (g.greets p k.0, h.greets p k.1);
  receives = λ p i k. (g.receives p i k.0, h.receives p i k.1);
}

-- it has no more queued than so many
abbrev pub HasFew : ℕ → Peering → Type 0
HasFew most p = queued_over p.outbox.senders ≤ most

pub stays-few : (n most : ℕ) → Goes n (HasFew most) (HasFew most) (HasFew most)
stays-few n most = record {
  ticks = λ p on h stays. subst (λ (q : Peering). HasFew most q) (sym (after-tick p n on (no-end p n on stays))) (told (after_timeouts_by (cond (has_late p.outbox n) Resend No) p n) (marks p (has_late p.outbox n) h));
  limits = λ p limit h. h;
  emits = λ p h. few-filled most (pace_of p n) p.outbox h;
  last = λ p fits none h. few-filled most (pace_of p n) p.outbox h;
  greets = λ p h. h;
  receives = λ p i h. h;
}
  where
    marks : (p : Peering) (b : Bool) → HasFew most p → HasFew most (after_timeouts_by (cond b Resend No) p n)
    marks p true h = subst (λ k. k ≤ most) (sym (queued-marked (tick_of p n) p.outbox.senders)) h
    marks p false h = h

    told : (q : Peering) → HasFew most q → HasFew most (pinged q n)
    told q h = by (is_pinged q n)
      where
        by : (b : Bool) → HasFew most (cond b (record q { outbox = outbox.with_control q.outbox control.Ping }) q)
        by true = h
        by false = h

-- on channel 0xFF nothing is queued once it has put all out, since it has a PING at most
alone-spent : (f : Control → Bool) (now wait : ℕ) (c : controlling.Commands) → IsLone f c → controlling.next now wait c ≡ None → c.queued ≡ []
alone-spent f now wait c (Idle a b) none = a
alone-spent f now wait c (Queued m ok a b) none = idle-controls now wait c b none
alone-spent f now wait c (SentOne t ok a b) none = a

pub spends : (n : ℕ) → Goes n IsModest (λ p. IsLone is_ping p.outbox.control) (λ p. p.outbox.control.queued ≡ [])
spends n = record {
  ticks = λ p on h stays. modest-pings (ticked p n) stays (modest-ticked p n h);
  limits = λ p limit h. h;
  emits = λ p h. filled-lone is_ping (pace_of p n) p.outbox h;
  last = λ p fits none h. (let may = nothing-may-go (pace_of p n) p.outbox (all-fits p n fits) none in
      alone-spent is_ping (pace_of p n).now (pace_of p n).timeout (filled (pace_of p n) p.outbox).outbox.control (filled-lone is_ping (pace_of p n) p.outbox h) may.controls);
  greets = λ p h. h;
  receives = λ p i h. h;
}

-- nothing is left to send, or something is in transit; nothing was heard
pub record Quiet (heard : ℕ) (p : Peering) : Type 0 where
  pub left : (is_done p.outbox ≡ true) ⊎ WaitsForSome p.outbox
  pub silent : p.heard ≡ heard

-- for so long something is in transit, though all that was sent first went by a moment, and so many commands are queued at most
pub record Waits (since now time left : ℕ) (p : Peering) : Type 0 where
  pub controls : p.outbox.control.queued ≡ []
  pub all : Each (Early since now time) p.outbox.control.sent p.outbox.senders
  pub waits : StillWaits (Old since now time) p.outbox
  pub few : queued_over p.outbox.senders ≤ left
  pub brief : now < since + 90000

-- from a moment at which something is in transit
old-some : (since now time : ℕ) (o : Outbox) → now ≤ since + 30000 → Each (Early since now time) o.control.sent o.senders → WaitsForSome o → StillWaits (Old since now time) o
old-some since now time o low all (inl (t, h, e)) = inl (t, h, old-early since now time t.transmission low e (all.0 t h))
old-some since now time o low all (inr (s, k, t, h, e)) = inr (s, k, (t, h, old-early since now time t.transmission low e (all.1 s k t h)))

pub waits-now : (now time left : ℕ) (p : Peering) → p.outbox.control.queued ≡ [] → Each (Aged now time) p.outbox.control.sent p.outbox.senders → queued_over p.outbox.senders ≤ left → WaitsForSome p.outbox → Waits now now time left p
waits-now now time left p controls aged few some = record {
  controls = controls;
  all = each-so (Aged now time) (Early now now time) p.outbox (λ t a. early-now now time t a) aged;
  waits = old-some now now time p.outbox (omega arith) (each-so (Aged now time) (Early now now time) p.outbox (λ t a. early-now now time t a) aged) some;
  few = few;
  brief = omega arith;
}

-- or less is queued since, and from now on it is so
abbrev pub WaitsOn : (since now time left : ℕ) → Peering → Type 0
WaitsOn since now time left p = Waits since now time left p ⊎ ((less : ℕ) × (less + 1 ≤ left) × (now < since + 90000) × Waits now now time less p)

pub stays-quiet : (n heard : ℕ) → Goes n (λ p. p.heard ≡ heard) (λ p. p.heard ≡ heard) (Quiet heard)
stays-quiet n heard = record {
  ticks = λ p on h stays. heard-stays p n on stays ∙ h;
  limits = λ p limit h. h;
  emits = λ p h. h;
  last = λ p fits none h. record { left = done-or-waits (pace_of p n) p.outbox (all-fits p n fits) none; silent = h };
  greets = λ p h. record { left = h.left; silent = h.silent };
  receives = λ p i h. record { left = h.left; silent = h.silent };
}

-- it is to be pinged
pub record Pings (n : ℕ) (p : Peering) : Type 0 where
  pub done : is_done p.outbox ≡ true
  pub interval : p.ping_interval ≡ 500
  pub long : 500 ≤ elapsed_time n p.heard

pub is-asked : (n : ℕ) → Goes n (Pings n) (λ p. HasControl p.outbox.control) (λ p. WaitsForSome p.outbox)
is-asked n = record {
  ticks = λ p on h stays. pings-now p n on stays h.done h.interval h.long;
  limits = λ p limit h. h;
  emits = λ p h. controlled-filled (pace_of p n) p.outbox h;
  last = λ p fits none h. some (put_out p n) (controlled-filled (pace_of p n) p.outbox h) (done-or-waits (pace_of p n) p.outbox (all-fits p n fits) none);
  greets = λ p h. h;
  receives = λ p i h. h;
}
  where
    some : (q : Peering) → HasControl q.outbox.control → (is_done q.outbox ≡ true) ⊎ WaitsForSome q.outbox → WaitsForSome q.outbox
    some q h (inl done) = absurd (not-idle q.outbox.control h (and-left (controlling.is_idle q.outbox.control) (list_all has_no_reliable q.outbox.senders) (done-nothing q.outbox done)))
    some q h (inr w) = w

-- while it puts out: something waits, and what is in transit was so, or not much time has passed
pub record Sending (since now time left : ℕ) (p : Peering) : Type 0 where
  pub so_far : SoFar since now time left p.outbox
  pub some : StillWaits (λ t. Unit {0}) p.outbox
  pub old : (now ≤ since + 30000) ⊎ StillWaits (Old since now time) p.outbox
  pub brief : now < since + 90000

rests-again : (since now time : ℕ) (n : ℕ) → GoesAgain (Old since now time) n
rests-again since now time n t o due = absurd (let z : true ≡ false = sym due ∙ o.rests in cc)

sending-on : (since now time left : ℕ) (p : Peering) → Sending since now time left p → Sending since now time left (put_out p (now % 2 ^ 32))
sending-on since now time left p h = record {
  so_far = so-far since now time left (pace_of p (now % 2 ^ 32)) p.outbox refl (let x = timeout-low p.estimate in omega arith) h.so_far;
  some = still-filled (λ t. Unit {0}) (pace_of p (now % 2 ^ 32)) p.outbox (λ t r due. tt) h.some;
  old = elim h.old [ inl low ↦ inl low | inr w ↦ inr (still-filled (Old since now time) (pace_of p (now % 2 ^ 32)) p.outbox (rests-again since now time (now % 2 ^ 32)) w) ];
  brief = h.brief;
}

-- all is out
all-out : (since now time left : ℕ) (q : Peering) → Sending since now time left q → (is_done q.outbox ≡ true) ⊎ WaitsForSome q.outbox → WaitsOn since now time left q
all-out since now time left q h (inl done) = absurd (left-waits (λ t. Unit {0}) q.outbox h.some (done-nothing q.outbox done))
all-out since now time left q h (inr some) = by h.so_far.either
  where
    by : (Each (Early since now time) q.outbox.control.sent q.outbox.senders × (queued_over q.outbox.senders ≤ left)) ⊎ (queued_over q.outbox.senders + 1 ≤ left) → WaitsOn since now time left q
    by (inr less) = inr (queued_over q.outbox.senders, less, h.brief, waits-now now time (queued_over q.outbox.senders) q h.so_far.controls h.so_far.all (omega arith) some)
    by (inl e) = inl (record {
      controls = h.so_far.controls;
      all = e.0;
      waits = elim h.old [ inl low ↦ old-some since now time q.outbox low e.0 some | inr w ↦ w ];
      few = e.1;
      brief = h.brief;
    })

ticked-sending : (since now time d left : ℕ) (p : Peering) → p.state ≡ state.Connected → (ticked p ((now + d) % 2 ^ 32)).state ≡ state.Connected → p.patience.maximum ≡ 30000 → time + d < 2 ^ 32 → Waits since now time left p
    → Sending since (now + d) (time + d) left (ticked p ((now + d) % 2 ^ 32))
ticked-sending since now time d left p on stays patient near h =
    subst (λ (q : Peering). Sending since (now + d) (time + d) left q) (sym (after-tick p n on (no-end p n on stays))) (told (has_late p.outbox n) refl)
  where
    n : ℕ
    n = (now + d) % 2 ^ 32

    tick : Tick
    tick = tick_of p n

    Lasts : Transmission → Type 0
    Lasts t = transmission.ends n p.patience p.heard t ≡ false

    none : Each Lasts p.outbox.control.sent p.outbox.senders
    none = goes-on p n (no-end p n on stays)

    -- what waits now
    Now : Transmission → Type 0
    Now t = Old since now time t × Lasts t

    waits : StillWaits Now p.outbox
    waits = still-with (Old since now time) Lasts p.outbox none h.waits

    brief : now + d < since + 90000
    brief = less-or (now + d) (since + 90000) (λ over. none-waits Now p.outbox (λ t w. old-over since now time d p.patience p.heard t w.0 w.1 near patient over) waits)

    comes : Each (Comes since now time d p.patience p.heard) p.outbox.control.sent p.outbox.senders
    comes = each-so (λ t. Early since now time t × Lasts t) (Comes since now time d p.patience p.heard) p.outbox (λ t w. record { early = w.0; goes_on = w.1; near = near; patient = patient }) (each-both (Early since now time) Lasts p.outbox h.all none)

    -- what is late is marked, or nothing is late
    marked : Sending since (now + d) (time + d) left (record p { outbox = outbox.marked p.outbox tick })
    marked = record {
      so_far = record { controls = h.controls; all = each-so (Early since (now + d) (time + d)) (Aged (now + d) (time + d)) (outbox.marked p.outbox tick) (λ t e. e.aged) early; either = inl (early, subst (λ k. k ≤ left) (sym (queued-marked tick p.outbox.senders)) h.few) };
      some = any-marked Now tick p.outbox waits;
      old = either-marked Now (Old since (now + d) (time + d)) (now + d ≤ since + 30000) tick p.outbox (λ t w. old-marked since now time d p t w.0 w.1 near patient) waits;
      brief = brief;
    }
      where
        early : Each (Early since (now + d) (time + d)) (outbox.marked p.outbox tick).control.sent (outbox.marked p.outbox tick).senders
        early = each-marked (Comes since now time d p.patience p.heard) (Early since (now + d) (time + d)) tick p.outbox (λ t c. early-marked since now time d p t c) comes

    same : has_late p.outbox n ≡ false → Sending since (now + d) (time + d) left p
    same e = record {
      so_far = record { controls = h.controls; all = each-so (Early since (now + d) (time + d)) (Aged (now + d) (time + d)) p.outbox (λ t x. x.aged) early; either = inl (early, h.few) };
      some = still-so Now (λ t. Unit {0}) p.outbox (λ t w. tt) waits;
      old = either-so (λ t. Now t × (transmission.is_late n t ≡ false)) (Old since (now + d) (time + d)) (now + d ≤ since + 30000) p.outbox
          (λ t w. subst (λ (x : Transmission). (now + d ≤ since + 30000) ⊎ Old since (now + d) (time + d) x) (unmarked tick t w.1) (old-marked since now time d p t w.0.0 w.0.1 near patient))
          (still-with Now (λ t. transmission.is_late n t ≡ false) p.outbox (not-late p.outbox n e) waits);
      brief = brief;
    }
      where
        early : Each (Early since (now + d) (time + d)) p.outbox.control.sent p.outbox.senders
        early = each-so (λ t. Comes since now time d p.patience p.heard t × (transmission.is_late n t ≡ false)) (Early since (now + d) (time + d)) p.outbox
            (λ t w. subst (Early since (now + d) (time + d)) (unmarked tick t w.1) (early-marked since now time d p t w.0))
            (each-both (Comes since now time d p.patience p.heard) (λ t. transmission.is_late n t ≡ false) p.outbox comes (not-late p.outbox n e))

    told : (b : Bool) → has_late p.outbox n ≡ b → Sending since (now + d) (time + d) left (pinged (after_timeouts_by (cond b Resend No) p n) n)
    told true e = subst (λ (q : Peering). Sending since (now + d) (time + d) left q) (sym (not-pinged (λ t. Unit {0}) (record p { outbox = outbox.marked p.outbox tick }) n marked.some)) marked
    told false e = subst (λ (q : Peering). Sending since (now + d) (time + d) left q) (sym (not-pinged (λ t. Unit {0}) p n (same e).some)) (same e)

pub still-waits : (since now time d left : ℕ) → time + d < 2 ^ 32 → Goes ((now + d) % 2 ^ 32) (λ p. Waits since now time left p × (p.patience.maximum ≡ 30000)) (Sending since (now + d) (time + d) left) (WaitsOn since (now + d) (time + d) left)
still-waits since now time d left near = record {
  ticks = λ p on h stays. ticked-sending since now time d left p on stays h.1 near h.0;
  limits = λ p limit h. record { so_far = record { controls = h.so_far.controls; all = h.so_far.all; either = h.so_far.either }; some = h.some; old = h.old; brief = h.brief };
  emits = λ p h. sending-on since (now + d) (time + d) left p h;
  last = λ p fits none h. all-out since (now + d) (time + d) left (put_out p n) (sending-on since (now + d) (time + d) left p h) (done-or-waits (pace_of p n) p.outbox (all-fits p n fits) none);
  greets = λ p h. waits-same (record p { greeting = None }) p refl h;
  receives = λ p i h. waits-same (record p { inbox = i }) p refl h;
}
  where
    n : ℕ
    n = (now + d) % 2 ^ 32

    one : (s m time' k : ℕ) (q p : Peering) → q.outbox ≡ p.outbox → Waits s m time' k p → Waits s m time' k q
    one s m time' k q p e h = subst (λ (o : Outbox). Waits s m time' k (record q { outbox = o })) (sym e) (record { controls = h.controls; all = h.all; waits = h.waits; few = h.few; brief = h.brief })

    waits-same : (q p : Peering) → q.outbox ≡ p.outbox → WaitsOn since (now + d) (time + d) left p → WaitsOn since (now + d) (time + d) left q
    waits-same q p e (inl h) = inl (one since (now + d) (time + d) left q p e h)
    waits-same q p e (inr h) = inr (h.0, h.1, h.2, one (now + d) (now + d) (time + d) h.0 q p e h.3)
