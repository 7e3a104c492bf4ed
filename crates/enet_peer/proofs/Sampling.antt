-- What an acknowledgement matches was sent at the time that it repeats, which lies from the first send to the last.
use Rattle.std.proofs.Common.{◌≡◌, ℕ, zero, suc, ◌+◌, ◌-◌, ◌%◌, ◌^◌, ◌<◌, ◌≤◌, Bool, true, false, cond, ◌||◌, ◌&&◌, eqb, leb, List, [], ◌∷◌, take, Option, Some, None, slice_get, slice_set, refl, sym, subst, ◌⊎◌, inl, inr, arith}
use Rattle.std.specs.Prelude.{min}
use Rattle.std.specs.List.{list_any}
use Rattle.std.proofs.lemmas.Bool.{eqb-true, leb-true}
use Rattle.enet_rtt.specs.Clock.{elapsed_time}
use Rattle.enet_rtt.specs.SendTimes.{has_time, no_sends, with_send}
use Rattle.enet_rtt.specs.declared.send_times.SendTimes.{SendTimes}
use Rattle.enet_rtt.specs.declared.transmission.Tick.{Tick}
use Rattle.enet_rtt.specs.declared.transmission.Transmission.{Transmission}
use Rattle.enet_rtt.specs.Transmission as transmission
use Rattle.enet_senders.specs.declared.control.Control.{Control}
use Rattle.enet_senders.specs.declared.control.Control.TheVariants as control
use Rattle.enet_senders.specs.declared.control.Numbered.{Numbered}
use Rattle.enet_senders.specs.declared.control.SentControl.{SentControl}
use Rattle.enet_senders.specs.Controlling as controlling
use Rattle.enet_sender.specs.declared.outgoing.Acknowledged.{Acknowledged}
use Rattle.enet_sender.specs.declared.sent.Sent.{Sent}
use Rattle.enet_sender.specs.Due.{SendingEnd}
use Rattle.enet_sender.specs.Sender as sender
use Rattle.enet_outbox.specs.Outbox.{Outbox, as_control, as_data, matched_by, matched_on}
use Rattle.enet_outbox.specs.declared.parts.Matched.TheVariants as matched
use Rattle.enet_peer.specs.Sampling.{IsPast, IsWithin, HasTimes, HasTimesAs, ShowsNoMore, at_place, control_on, data_of_end, data_on}

-- ---- the numbers

-- the times since the first send and the last differ by the time between these
spans : (now first last : ℕ) → first < 2 ^ 32 → last < 2 ^ 32 → elapsed_time now last ≤ elapsed_time now first → elapsed_time now first ≡ elapsed_time now last + elapsed_time last first
spans now first last f l order = omega arith

shown : (now time first passed between : ℕ) → first < 2 ^ 32 → (now + 2 ^ 32 - first) % 2 ^ 32 ≡ passed → (time + 2 ^ 16 - first % 2 ^ 16) % 2 ^ 16 ≡ between → between ≤ passed → (now + 2 ^ 16 - time) % 2 ^ 16 ≤ passed
shown now time first passed between f p b less = omega arith

within-shows : (now time : ℕ) (t : Transmission) → IsPast now t → IsWithin time t → ShowsNoMore now time t
within-shows now time t past within =
    let sum = spans now t.first t.last past.first past.last past.order in
    let less = shown now time t.first (elapsed_time now t.first) ((time + 2 ^ 16 - t.first % 2 ^ 16) % 2 ^ 16) past.first refl refl (omega arith) in
    omega arith

low-bits : (first last : ℕ) → first < 2 ^ 32 → last < 2 ^ 32 → (last % 2 ^ 16 + 2 ^ 16 - first % 2 ^ 16) % 2 ^ 16 ≤ (last + 2 ^ 32 - first) % 2 ^ 32
low-bits first last f l = omega arith

went-within : (time : ℕ) (t : Transmission) → t.first < 2 ^ 32 → t.last < 2 ^ 32 → transmission.went_at time t ≡ true → IsWithin time t
went-within time t f l went = by (eqb time (t.first % 2 ^ 16)) (eqb time (t.last % 2 ^ 16)) (leb 3 t.attempts) (leb ((time + 2 ^ 16 - t.first % 2 ^ 16) % 2 ^ 16) (elapsed_time t.last t.first)) refl refl refl went
  where
    by : (a b c d : Bool) → eqb time (t.first % 2 ^ 16) ≡ a → eqb time (t.last % 2 ^ 16) ≡ b → leb ((time + 2 ^ 16 - t.first % 2 ^ 16) % 2 ^ 16) (elapsed_time t.last t.first) ≡ d → (a || b || (c && d)) ≡ true → IsWithin time t
    by true b c d first last less e = let same = eqb-true time (t.first % 2 ^ 16) first in omega arith
    by false true c d first last less e =
        let same = eqb-true time (t.last % 2 ^ 16) last in
        subst (λ (n : ℕ). IsWithin n t) (sym same) (low-bits t.first t.last f l)
    by false false true true first last less e = leb-true _ _ less
    by false false true false first last less e = absurd (let y : false ≡ true = e in cc)
    by false false false d first last less e = absurd (let y : false ≡ true = e in cc)

-- ---- data

data-went : (time : ℕ) (x : Option Sent) → as_data (sender.matching time x) ≡ matched.Data → (p : Sent) × (x ≡ Some p) × (transmission.went_at time p.transmission ≡ true)
data-went time None e = absurd (let y : matched.Nothing ≡ matched.Data = e in cc)
data-went time (Some p) e = by (transmission.went_at time p.transmission) refl e
  where
    by : (b : Bool) → transmission.went_at time p.transmission ≡ b → as_data (cond b (Some (sender.told_of time p)) None) ≡ matched.Data → (q : Sent) × (Some p ≡ Some q) × (transmission.went_at time q.transmission ≡ true)
    by true is e = (p, refl, is)
    by false is e = absurd (let y : matched.Nothing ≡ matched.Data = e in cc)

data-at : (time : ℕ) (sent : List Sent) (o : Option ℕ) → as_data (sender.matching_at time sent o) ≡ matched.Data → (p : Sent) × (at_place sent o ≡ Some p) × (transmission.went_at time p.transmission ≡ true)
data-at time sent None e = absurd (let y : matched.Nothing ≡ matched.Data = e in cc)
data-at time sent (Some i) e = data-went time (slice_get sent i) e

data-end : (number time : ℕ) (x : Option SendingEnd) → matched_on x number time ≡ matched.Data → (p : Sent) × (data_of_end x number ≡ Some p) × (transmission.went_at time p.transmission ≡ true)
data-end number time None e = absurd (let y : matched.Nothing ≡ matched.Data = e in cc)
data-end number time (Some s) e = data-at time s.sender.sent (sender.position_of number s.sender.sent) e

no-control : (x : Option Control) → as_control x ≡ matched.Data → ⊥
no-control None e = let y : matched.Nothing ≡ matched.Data = e in cc
no-control (Some what) e = let y : matched.Control what ≡ matched.Data = e in cc

data-matched : (b : Bool) (o : Outbox) (channel number time : ℕ) → cond b (as_control (controlling.acknowledged_control o.control number time)) (matched_on (slice_get o.senders channel) number time) ≡ matched.Data
    → (p : Sent) × (data_on o channel number ≡ Some p) × (transmission.went_at time p.transmission ≡ true)
data-matched true o channel number time e = absurd (no-control (controlling.acknowledged_control o.control number time) e)
data-matched false o channel number time e = data-end number time (slice_get o.senders channel) e

pub data-no-longer : (o : Outbox) (now channel number time : ℕ) → matched_by o channel number time ≡ matched.Data
    → (p : Sent) × (data_on o channel number ≡ Some p) × (IsPast now p.transmission → ShowsNoMore now time p.transmission)
data-no-longer o now channel number time e =
    let found = data-matched (eqb channel 0xFF) o channel number time e in
    (found.0, found.1, λ past. within-shows now time found.0.transmission past (went-within time found.0.transmission past.first past.last found.2))

-- ---- channel 0xFF

control-went : (time : ℕ) (what : Control) (x : Option SentControl) → as_control (controlling.control_of time x) ≡ matched.Control what
    → (p : SentControl) × (x ≡ Some p) × (p.command.control ≡ what) × (controlling.went_at time p ≡ true)
control-went time what None e = absurd (let y : matched.Nothing ≡ matched.Control what = e in cc)
control-went time what (Some p) e = by (controlling.went_at time p) refl e
  where
    by : (b : Bool) → controlling.went_at time p ≡ b → as_control (cond b (Some p.command.control) None) ≡ matched.Control what
        → (q : SentControl) × (Some p ≡ Some q) × (q.command.control ≡ what) × (controlling.went_at time q ≡ true)
    by true is e = (p, refl, (let y : matched.Control p.command.control ≡ matched.Control what = e in cc), is)
    by false is e = absurd (let y : matched.Nothing ≡ matched.Control what = e in cc)

control-place : (time : ℕ) (what : Control) (sent : List SentControl) (o : Option ℕ) → as_control (controlling.control_at time sent o) ≡ matched.Control what
    → (p : SentControl) × (at_place sent o ≡ Some p) × (p.command.control ≡ what) × (controlling.went_at time p ≡ true)
control-place time what sent None e = absurd (let y : matched.Nothing ≡ matched.Control what = e in cc)
control-place time what sent (Some i) e = control-went time what (slice_get sent i) e

no-data : (what : Control) (x : Option Acknowledged) → as_data x ≡ matched.Control what → ⊥
no-data what None e = let y : matched.Nothing ≡ matched.Control what = e in cc
no-data what (Some told) e = let y : matched.Data ≡ matched.Control what = e in cc

no-data-end : (what : Control) (number time : ℕ) (x : Option SendingEnd) → matched_on x number time ≡ matched.Control what → ⊥
no-data-end what number time None e = let y : matched.Nothing ≡ matched.Control what = e in cc
no-data-end what number time (Some s) e = no-data what (sender.acknowledged s.sender number time) e

control-matched : (b : Bool) (o : Outbox) (channel number time : ℕ) (what : Control)
    → cond b (as_control (controlling.acknowledged_control o.control number time)) (matched_on (slice_get o.senders channel) number time) ≡ matched.Control what
    → (p : SentControl) × (control_on o number ≡ Some p) × (p.command.control ≡ what) × (controlling.went_at time p ≡ true)
control-matched true o channel number time what e = control-place time what o.control.sent (controlling.position_of number o.control.sent) e
control-matched false o channel number time what e = absurd (no-data-end what number time (slice_get o.senders channel) e)

control-within : (what : Control) (time : ℕ) (p : SentControl) → p.transmission.first < 2 ^ 32 → p.transmission.last < 2 ^ 32 → HasTimesAs what p → controlling.went_as what time p ≡ true → IsWithin time p.transmission
control-within (control.VerifyConnect verify) time p f l has went = has time went
control-within (control.Connect offer) time p f l has went = went-within time p.transmission f l went
control-within (control.Disconnect info) time p f l has went = went-within time p.transmission f l went
control-within (control.DisconnectNow info) time p f l has went = went-within time p.transmission f l went
control-within control.Ping time p f l has went = went-within time p.transmission f l went
control-within (control.BandwidthLimit incoming outgoing) time p f l has went = went-within time p.transmission f l went
control-within (control.ThrottleConfigure interval acceleration deceleration) time p f l has went = went-within time p.transmission f l went

pub control-no-longer : (o : Outbox) (now channel number time : ℕ) (what : Control) → matched_by o channel number time ≡ matched.Control what
    → (p : SentControl) × (control_on o number ≡ Some p) × (p.command.control ≡ what) × (HasTimes p → IsPast now p.transmission → ShowsNoMore now time p.transmission)
control-no-longer o now channel number time what e =
    let found = control-matched (eqb channel 0xFF) o channel number time what e in
    let p = found.0 in
    (p, found.1, found.2, λ has past. within-shows now time p.transmission past (control-within p.command.control time p past.first past.last has found.3))

-- ---- the times of a server's answer

or-mono : (a b c : Bool) → (b ≡ true → c ≡ true) → (a || b) ≡ true → (a || c) ≡ true
or-mono true b c h e = refl
or-mono false b c h e = h e

or-either : {P : Type 0} (a b c : Bool) → (b ≡ true → P ⊎ (c ≡ true)) → (a || b) ≡ true → P ⊎ ((a || c) ≡ true)
or-either true b c h e = inr refl
or-either false b c h e = h e

fewer : {X : Type 0} (f : X → Bool) (xs : List X) (k n : ℕ) → k ≤ n → list_any f (take k xs) ≡ true → list_any f (take n xs) ≡ true
fewer f xs zero n less e = absurd (let y : false ≡ true = e in cc)
fewer f [] (suc k) n less e = absurd (let y : false ≡ true = e in cc)
fewer f (x ∷ xs) (suc k) zero less e = absurd (omega arith)
fewer f (x ∷ xs) (suc k) (suc n) less e = or-mono (f x) (list_any f (take k xs)) (list_any f (take n xs)) (fewer f xs k n (omega arith)) e

-- of a list that was written at one place, what stands up to there is what was written or stood there before
one-more : {X : Type 0} (f : X → Bool) (xs : List X) (k : ℕ) (y : X) → list_any f (take (suc k) (slice_set xs k y)) ≡ true → (f y ≡ true) ⊎ (list_any f (take k xs) ≡ true)
one-more f [] k y e = absurd (let z : false ≡ true = e in cc)
one-more f (x ∷ xs) zero y e = by (f y) refl e
  where
    by : (b : Bool) → f y ≡ b → (b || false) ≡ true → (f y ≡ true) ⊎ (false ≡ true)
    by true is e = inl is
    by false is e = inr e
one-more f (x ∷ xs) (suc k) y e = or-either (f x) (list_any f (take (suc k) (slice_set xs k y))) (list_any f (take k xs)) (one-more f xs k y) e

sent-then : (time now : ℕ) (s : SendTimes) → has_time time (with_send now s) ≡ true → (now % 2 ^ 16 ≡ time) ⊎ (has_time time s ≡ true)
sent-then time now s e =
    let k : ℕ = min s.count 7 in
    let next : k + 1 ≡ suc k = omega arith in
    let f : ℕ → Bool = λ t. eqb t time in
    elim (one-more f s.times k (now % 2 ^ 16) (subst (λ (n : ℕ). list_any f (take n (slice_set s.times k (now % 2 ^ 16))) ≡ true) next e)) [
      | inl new ↦ inl (eqb-true (now % 2 ^ 16) time new)
      | inr old ↦ inr (fewer f s.times k s.count (omega arith) old)
    ]

never-sent : (time : ℕ) → has_time time no_sends ≡ true → ⊥
never-sent time e = let y : false ≡ true = e in cc

begun-times : (what : Control) (now timeout number : ℕ) → now < 2 ^ 32 → HasTimesAs what (controlling.begun now timeout (record { number = number; control = what }))
begun-times (control.VerifyConnect verify) now timeout number low = λ time e. elim (sent-then time now no_sends e) [
  | inl new ↦ subst (λ (n : ℕ). (n + 2 ^ 16 - now % 2 ^ 16) % 2 ^ 16 ≤ elapsed_time now now) new (low-bits now now low low)
  | inr old ↦ absurd (never-sent time old)
]
begun-times what now timeout number low = tt

pub begun-has : (now timeout : ℕ) (n : Numbered) → now < 2 ^ 32 → HasTimes (controlling.begun now timeout n)
begun-has now timeout n low = begun-times n.control now timeout n.number low

-- as time goes on, what was within stays so
stays-within : (now time : ℕ) (t : Transmission) → IsPast now t → IsWithin time t → (time + 2 ^ 16 - t.first % 2 ^ 16) % 2 ^ 16 ≤ elapsed_time now t.first
stays-within now time t past within = let sum = spans now t.first t.last past.first past.last past.order in omega arith

again-times : (what : Control) (now : ℕ) (p : SentControl) → now < 2 ^ 32 → IsPast now p.transmission → HasTimesAs what p → HasTimesAs what (controlling.again now p)
again-times (control.VerifyConnect verify) now p low past has = λ time e. elim (sent-then time now p.times e) [
  | inl new ↦ subst (λ (n : ℕ). (n + 2 ^ 16 - p.transmission.first % 2 ^ 16) % 2 ^ 16 ≤ elapsed_time now p.transmission.first) new (low-bits p.transmission.first now past.first low)
  | inr old ↦ stays-within now time p.transmission past (has time old)
]
again-times what now p low past has = tt

pub again-has : (now : ℕ) (p : SentControl) → now < 2 ^ 32 → IsPast now p.transmission → HasTimes p → HasTimes (controlling.again now p)
again-has now p low past has = again-times p.command.control now p low past has

-- a command that waited out its timeout was sent when it was
marked-times : (what : Control) (b : Bool) (p : SentControl) (timeout : ℕ) → HasTimesAs what p
    → HasTimesAs what (record p { transmission = cond b (record p.transmission { timeout = timeout; due = true }) p.transmission })
marked-times (control.VerifyConnect verify) true p timeout has = has
marked-times (control.VerifyConnect verify) false p timeout has = has
marked-times what b p timeout has = tt

pub marked-has : (tick : Tick) (p : SentControl) → HasTimes p → HasTimes (controlling.marked tick p)
marked-has tick p has = marked-times p.command.control (transmission.is_late tick.now p.transmission) p (transmission.next_time tick p.transmission) has

held-times : (what : Control) (b c : Bool) (now timeout : ℕ) (p : SentControl) → IsPast now p.transmission → HasTimesAs what p
    → HasTimesAs what (cond b (record p { transmission = transmission.again now (cond c (record p.transmission { timeout = timeout; due = true }) p.transmission) }) p)
held-times (control.VerifyConnect verify) true true now timeout p past has = λ time e. stays-within now time p.transmission past (has time e)
held-times (control.VerifyConnect verify) true false now timeout p past has = λ time e. stays-within now time p.transmission past (has time e)
held-times (control.VerifyConnect verify) false c now timeout p past has = has
held-times what b c now timeout p past has = tt

held-back-keeps : (tick : Tick) (p : SentControl) → IsPast tick.now p.transmission → HasTimesAs p.command.control p → HasTimesAs p.command.control (controlling.held_back tick p)
held-back-keeps tick p past has =
    held-times p.command.control (controlling.is_late tick.now p) (transmission.is_late tick.now p.transmission) tick.now (transmission.next_time tick p.transmission) p past has

pub held-back-has : (tick : Tick) (p : SentControl) → IsPast tick.now p.transmission → HasTimes p → HasTimes (controlling.held_back tick p)
held-back-has tick p past has = subst (λ (c : Control). HasTimesAs c (controlling.held_back tick p)) (same (controlling.is_late tick.now p)) (held-back-keeps tick p past has)
  where
    same : (b : Bool) → p.command.control ≡ (cond b (record p { transmission = transmission.again tick.now (transmission.marked tick p.transmission) }) p).command.control
    same true = refl
    same false = refl
