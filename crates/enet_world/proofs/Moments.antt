-- A moment comes to a peer whose patience isn't over: what was sent is as it was, or is due to go again.
use Rattle.std.proofs.Common.{◌≡◌, ℕ, suc, ◌&&◌, ◌||◌, Bool, true, false, cond, List, [], ◌∷◌, map, refl, sym, ap, subst, ◌∙◌, inl, inr, Some}
use Rattle.std.proofs.Math.Bool.{and-false}
use Rattle.std.specs.List.{list_any, slice_get}
use Rattle.enet_rtt.specs.Transmission as transmission
use Rattle.enet_rtt.specs.Expiry.{gives_up, standard_patience}
use Rattle.enet_rtt.specs.declared.expiry.Expiry.TheVariants.{No, Resend, End as Ends}
use Rattle.enet_rtt.specs.declared.expiry.Patience.{Patience}
use Rattle.enet_rtt.specs.declared.transmission.Tick.{Tick as Moment}
use Rattle.enet_rtt.specs.declared.transmission.Transmission.{Transmission}
use Rattle.enet_senders.specs.Controlling as controlling
use Rattle.enet_senders.specs.declared.control.Control.TheVariants as control
use Rattle.enet_senders.specs.declared.control.SentControl.{SentControl}
use Rattle.law_connection.specs.LinkSteps.{Has}
use Rattle.law_connection.specs.Connection.{End}
use Rattle.law_connection.specs.Steps.{Tick, Set, ThrottleLimit}
use Rattle.enet_sender.specs.declared.sent.Sent.{Sent}
use Rattle.enet_sender.specs.Sender as sender
use Rattle.enet_sender.specs.Due.{SendingEnd}
use Rattle.enet_outbox.specs.Outbox.{has_ended, has_late, marked_sender, with_control}
use Rattle.enet_outbox.specs.Outbox as outbox
use Rattle.enet_peer.specs.Peering.{Peering}
use Rattle.enet_peer.specs.Calls.{has_stayed, is_answering, is_over, ticked, pinged, is_pinged, after_timeouts_by, tick_of, with_throttle_limit}
use Rattle.law_connection.proofs.Runs.{get-map}
use Rattle.law_progress.specs.Exchanges.{HasSent}
use Rattle.law_progress.specs.InTurn.{Ticks}
use Rattle.law_progress.proofs.Waiting.{none-of, or-both, Has-at, Has-mapped}
use Rattle.law_progress.proofs.Exchanges.{Joint, joint-event}

-- ---- patience isn't over
any-none : {X : Type 0} (f : X → Bool) (xs : List X) → ((x : X) → Has xs x → f x ≡ false) → list_any f xs ≡ false
any-none f [] h = refl
any-none f (x ∷ xs) h = (let own = h x (inl refl) in let rest = any-none f xs (λ y k. h y (inr k)) in (λ i. own i || rest i))

ends-not : (now heard : ℕ) (patience : Patience) (t : Transmission) → patience ≡ standard_patience → gives_up standard_patience now heard t ≡ false → transmission.ends now patience heard t ≡ false
ends-not now heard patience t is lasts = ap (λ (x : Patience). transmission.ends now x heard t) is ∙ ap (λ b. transmission.is_late now t && b) lasts ∙ and-false (transmission.is_late now t)

pub has-place : {X : Type 0} (xs : List X) (x : X) → Has xs x → (i : ℕ) × (slice_get xs i ≡ Some x)
has-place [] x h = absurd h
has-place (y ∷ ys) x (inl e) = (0, ap Some e)
has-place (y ∷ ys) x (inr h) = (let k = has-place ys x h in (suc k.0, k.1))

-- by none of what was sent
pub outlasts : (p : Peering) (now : ℕ) → p.patience ≡ standard_patience → ((t : SentControl) → Has p.outbox.control.sent t → gives_up standard_patience now p.heard t.transmission ≡ false)
    → ((channel : ℕ) (t : Sent) → HasSent p.outbox.senders channel t → gives_up standard_patience now p.heard t.transmission ≡ false) → has_ended p.outbox now p.patience p.heard ≡ false
outlasts p now is controls channels =
    let own = any-none (controlling.ends now p.patience p.heard) p.outbox.control.sent (λ t h. ends-not now p.heard p.patience t.transmission is (controls t h)) in
    let all = any-none (λ (s : SendingEnd). list_any (sender.ends now p.patience p.heard) s.sender.sent) p.outbox.senders
    (λ s h. any-none (sender.ends now p.patience p.heard) s.sender.sent (λ t k. (let i = has-place p.outbox.senders s h in ends-not now p.heard p.patience t.transmission is (channels i.0 t (s, i.1, k))))) in
    (λ i. own i || all i)

-- ---- then it stays, and so does what waits
pub record Waited (now : ℕ) (p q : Peering) : Type 0 where
  pub state : q.state ≡ p.state
  pub heard : q.heard ≡ p.heard
  pub offset : q.offset ≡ p.offset
  pub acknowledgements : q.outbox.acknowledgements ≡ p.outbox.acknowledgements
  pub controls : (t : SentControl) → Has q.outbox.control.sent t → (x : SentControl) × Has p.outbox.control.sent x × (controlling.marked (tick_of p now) x ≡ t)
  pub channels : (channel : ℕ) (t : Sent) → HasSent q.outbox.senders channel t → (x : Sent) × HasSent p.outbox.senders channel x × (sender.marked (tick_of p now) x ≡ t)

waited-pinged : (p q : Peering) (now : ℕ) → Waited now p q → Waited now p (pinged q now)
waited-pinged p q now k = by (is_pinged q now)
  where
    by : (b : Bool) → Waited now p (cond b (record q { outbox = with_control q.outbox control.Ping }) q)
    by true = record { state = k.state; heard = k.heard; offset = k.offset; acknowledgements = k.acknowledgements; controls = k.controls; channels = k.channels }
    by false = k

sent-marked : (tick : Moment) (xs : List SendingEnd) (channel : ℕ) (t : Sent) → HasSent (map (marked_sender tick) xs) channel t → (x : Sent) × HasSent xs channel x × (sender.marked tick x ≡ t)
sent-marked tick xs channel t h =
    let m = get-map (marked_sender tick) xs channel h.0 h.1 in
    let k = Has-mapped (sender.marked tick) m.0.sender.sent t (subst (λ (y : SendingEnd). Has y.sender.sent t) (sym m.2) h.2) in
    (k.0, (m.0, m.1, k.1), k.2)

pub unmarked : (tick : Moment) (t : Transmission) → transmission.is_late tick.now t ≡ false → transmission.marked tick t ≡ t
unmarked tick t e = ap (λ b. cond b (record t { timeout = transmission.next_time tick t; due = true }) t) e

-- only a client that was answered is waited for no longer
pub not-over : (p : Peering) (now : ℕ) → is_answering p.state ≡ false → is_over p now ≡ false
not-over p now e = ap (λ b. b && has_stayed p now) e

pub waited : (p : Peering) (now : ℕ) → is_answering p.state ≡ false → has_ended p.outbox now p.patience p.heard ≡ false → Waited now p (ticked p now)
waited p now elsewhere lasts = subst (λ (x : Peering). Waited now p x) (sym is) (by (has_late p.outbox now) refl)
  where
    after : Bool → Bool → Bool → Peering
    after over a b = pinged (after_timeouts_by (cond over Ends (cond a Ends (cond b Resend No))) p now) now

    is : ticked p now ≡ after false false (has_late p.outbox now)
    is = (λ i. after (not-over p now elsewhere i) (lasts i) (has_late p.outbox now))

    by : (b : Bool) → has_late p.outbox now ≡ b → Waited now p (after false false b)
    by true f = waited-pinged p (record p { outbox = outbox.marked p.outbox (tick_of p now) }) now (record {
      state = refl;
      heard = refl;
      offset = refl;
      acknowledgements = refl;
      controls = λ t h. Has-mapped (controlling.marked (tick_of p now)) p.outbox.control.sent t h;
      channels = λ channel t h. sent-marked (tick_of p now) p.outbox.senders channel t h;
    })
    by false f = (let both = or-both (list_any (controlling.is_late now) p.outbox.control.sent) _ f in waited-pinged p p now (record {
      state = refl;
      heard = refl;
      offset = refl;
      acknowledgements = refl;
      controls = λ t h. (t, h, ap (λ (y : Transmission). record t { transmission = y }) (unmarked (tick_of p now) t.transmission (none-of (controlling.is_late now) p.outbox.control.sent t both.0 h)));
      channels = λ channel t h. (
        t,
        h,
        ap (λ (y : Transmission). record t { transmission = y })
            (unmarked (tick_of p now) t.transmission (none-of (sender.is_late now) h.0.sender.sent t (none-of (λ (x : SendingEnd). list_any (sender.is_late now) x.sender.sent) p.outbox.senders h.0 both.1 (Has-at p.outbox.senders channel h.0 h.1)) h.2)),
      );
    }))

-- nor does it matter that its throttle is limited
pub waited-limited : (p q : Peering) (now limit : ℕ) → Waited now p q → Waited now p (with_throttle_limit q limit)
waited-limited p q now limit k = record { state = k.state; heard = k.heard; offset = k.offset; acknowledgements = k.acknowledgements; controls = k.controls; channels = k.channels }

-- what holds of both ends together holds on
pub ticks-joint : (joined : Bool) (now : ℕ) (own other new : End) → Ticks now own other new → Joint joined own other → Joint joined new other
ticks-joint joined now own other new (inl h) j = joint-event joined own other new (Tick now) h j
ticks-joint joined now own other new (inr h) j = joint-event joined h.1 other new (Set (ThrottleLimit h.0)) h.3 (joint-event joined own other h.1 (Tick now) h.2 j)
