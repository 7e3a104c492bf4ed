-- The other end's DISCONNECT is acknowledged.
use Rattle.std.proofs.Common.{◌≡◌, ℕ, ◌+◌, ◌≤◌, ◌%◌, ◌^◌, Bool, true, false, cond, ◌||◌, ◌&&◌, ◌==◌, List, [], ◌∷◌, ◌++◌, refl, sym, ap, subst, ◌∙◌, ◌⊎◌, inl, inr, arith, Option, Some, None, Result}
use Rattle.std.specs.Prelude.{is_some, max, min}
use Rattle.std.specs.List.{list_any, slice_get}
use Rattle.enet_codec.specs.declared.command.Head.{Head}
use Rattle.enet_codec.specs.Message.{Message, Body, acknowledge, connect, verify_connect, disconnect, ping, send_reliable, send_unreliable, send_fragment, send_unsequenced, bandwidth_limit, throttle_configure, send_unreliable_fragment}
use Rattle.enet_codec.specs.declared.stop.Stop.{Stop}
use Rattle.enet_rtt.specs.declared.expiry.Patience.{Patience}
use Rattle.enet_rtt.specs.declared.expiry.Expiry.TheVariants.{No, Resend, End}
use Rattle.enet_senders.specs.declared.control.SentControl.{SentControl}
use Rattle.enet_senders.specs.Controlling as controlling
use Rattle.enet_sender.specs.declared.sent.Sent.{Sent}
use Rattle.enet_sender.specs.Sender as sender
use Rattle.enet_sender.specs.Due.{SendingEnd}
use Rattle.enet_rtt.specs.Clock.{meant_time}
use Rattle.enet_outbox.specs.declared.parts.Acknowledgement.{Acknowledgement}
use Rattle.enet_outbox.specs.declared.parts.Matched.{Matched}
use Rattle.enet_outbox.specs.declared.parts.Matched.TheVariants as matched
use Rattle.enet_outbox.specs.declared.parts.Pace.{Pace}
use Rattle.enet_outbox.specs.declared.parts.Destination.{Destination}
use Rattle.enet_outbox.specs.Outbox.{Outbox, after_acknowledgement, acknowledged_on, has_ended, has_late, matched_by}
use Rattle.enet_outbox.specs.Emission.{Emits, acknowledgement_of, filled}
use Rattle.enet_outbox.proofs.Oldest.{oldest-first}
use Rattle.enet_peer.specs.Peering.{Peering}
use Rattle.enet_peer.specs.declared.parts.PeerState.{PeerState}
use Rattle.enet_peer.specs.declared.parts.PeerState.TheVariants as state
use Rattle.enet_peer.specs.CommandEffect.{Outcome, Obeys, wants_memory, answered, answered_at, is_answered_in, obeyed, acknowledged, on_acknowledge, on_match}
use Rattle.enet_peer.specs.Calls.{PutsOut, after_timeouts_by, destination_of, gone_on_in, is_answering, moved, pace_of, ticked}
use Rattle.enet_peer.specs.Reachable.{Answers, IsAnswering, IsReachable, IsStill, answer_to}
use Rattle.enet_peer.specs.Refusing.{heeded}
use Rattle.enet_peer.proofs.Refusals.{heeded-obeyed}
use Rattle.enet_peer.proofs.Obeying.{obeys-holds, unless-holds}

-- a peer in that state
abbrev at-end : Peering → Peering
at-end p = record p { state = state.AckDisconnect }

is-at-end : (p : Peering) → p.state ≡ state.AckDisconnect → p ≡ at-end p
is-at-end p e = ap (λ (s : PeerState). record p { state = s }) e

-- ---- the DISCONNECT comes

waits-by : (p : Peering) (now time info : ℕ) (h : Head) (a : Bool) (s : PeerState) → a ≡ true → (s ≡ state.Connected) ⊎ (s ≡ state.DisconnectLater)
    → IsAnswering (answer_to h time) (obeyed (record p { state = s }) now (Some time) (record { head = record h { acknowledge = a }; body = disconnect info })).after
waits-by p now time info h true state.Connected asks stands = (refl, [], refl)
waits-by p now time info h true state.DisconnectLater asks stands = (refl, [], refl)
waits-by p now time info h true s asks (inl e) = absurd cc
waits-by p now time info h true s asks (inr e) = absurd cc
waits-by p now time info h false s asks stands = absurd cc

pub waits-after : (p : Peering) (now time info : ℕ) (h : Head) → h.acknowledge ≡ true → (p.state ≡ state.Connected) ⊎ (p.state ≡ state.DisconnectLater)
    → IsAnswering (answer_to h time) (obeyed p now (Some time) (record { head = h; body = disconnect info })).after
waits-after p now time info h asks stands = waits-by p now time info h h.acknowledge p.state asks stands

-- ---- another command comes

answered-waits : (a : Acknowledgement) (p : Peering) (m : Message) (sent : Option ℕ) (may : Bool) → IsAnswering a p → IsAnswering a (answered p m sent may).after
answered-waits a p m sent may w = by (m.head.acknowledge && may && is_answered_in p.state m.body) sent
  where
    by : (b : Bool) (sent : Option ℕ) → IsAnswering a (cond b (answered_at p m.head sent) (record { stop = None; after = p })).after
    by false sent = w
    by true None = w
    by true (Some time) =
        let x : Acknowledgement = record { channel = m.head.channel; number = m.head.number; time = time } in
        (w.0, w.1 ++ x ∷ [], ap (λ (xs : List Acknowledgement). xs ++ x ∷ []) w.2)

-- what an acknowledgement matches isn't among those that wait
pub matched-stays : (o : Outbox) (channel number : ℕ) → (after_acknowledgement o channel number).acknowledgements ≡ o.acknowledgements
matched-stays o channel number = by (channel == 0xFF)
  where
    on : (x : Option SendingEnd) → (acknowledged_on o channel number x).acknowledgements ≡ o.acknowledgements
    on None = refl
    on (Some s) = refl

    by : (b : Bool) → (cond b (record o { control = controlling.after_acknowledgement o.control number }) (acknowledged_on o channel number (slice_get o.senders channel))).acknowledgements ≡ o.acknowledgements
    by true = refl
    by false = on (slice_get o.senders channel)

acknowledged-waits : (a : Acknowledgement) (p : Peering) (now channel number told : ℕ) → IsAnswering a p → IsAnswering a (on_acknowledge (at-end p) now channel number told)
acknowledged-waits a p now channel number told w = by (matched_by p.outbox channel number meant)
  where
    meant : ℕ
    meant = meant_time told (p.offset % 2 ^ 16)

    left : IsAnswering a (at-end (record p { outbox = after_acknowledgement p.outbox channel number }))
    left = (refl, w.1, matched-stays p.outbox channel number ∙ w.2)

    by : (x : Matched) → IsAnswering a (on_match x (at-end p) (acknowledged (at-end p) now channel number meant))
    by matched.Nothing = (refl, w.1, w.2)
    by matched.Data = left
    by (matched.Control what) = left

obeyed-waits : (a : Acknowledgement) (p : Peering) (h : Head) (now : ℕ) (sent : Option ℕ) (body : Body) → IsAnswering a p → IsAnswering a (obeyed (at-end p) now sent (record { head = h; body = body })).after
obeyed-waits a p h now sent (acknowledge number time) w =
    let m : Message = record { head = h; body = acknowledge number time } in
    unless-holds (IsAnswering a) (at-end p) m (answered (on_acknowledge (at-end p) now h.channel number time) m sent true) (refl, w.1, w.2)
    (answered-waits a (on_acknowledge (at-end p) now h.channel number time) m sent true (acknowledged-waits a p now h.channel number time w))
obeyed-waits a p h now sent (verify_connect v) w =
    let m : Message = record { head = h; body = verify_connect v } in
    unless-holds (IsAnswering a) (at-end p) m (answered (at-end p) m sent true) (refl, w.1, w.2) (answered-waits a (at-end p) m sent true (refl, w.1, w.2))
obeyed-waits a p h now sent (disconnect info) w =
    let m : Message = record { head = h; body = disconnect info } in
    unless-holds (IsAnswering a) (at-end p) m (answered (at-end p) m sent true) (refl, w.1, w.2) (answered-waits a (at-end p) m sent true (refl, w.1, w.2))
obeyed-waits a p h now sent (connect offer) w = (refl, w.1, w.2)
obeyed-waits a p h now sent ping w = (refl, w.1, w.2)
obeyed-waits a p h now sent (bandwidth_limit incoming outgoing) w = (refl, w.1, w.2)
obeyed-waits a p h now sent (throttle_configure interval acceleration deceleration) w = (refl, w.1, w.2)
obeyed-waits a p h now sent (send_reliable payload) w = (refl, w.1, w.2)
obeyed-waits a p h now sent (send_unreliable n payload) w = (refl, w.1, w.2)
obeyed-waits a p h now sent (send_fragment f payload) w = (refl, w.1, w.2)
obeyed-waits a p h now sent (send_unsequenced group payload) w = (refl, w.1, w.2)
obeyed-waits a p h now sent (send_unreliable_fragment f payload) w = (refl, w.1, w.2)

pub obeys-waits : (r : Result (Unit {0}) Stop) (full : Bool) (a : Acknowledgement) (p q : Peering) (now : ℕ) (sent : Option ℕ) (m : Message) → IsAnswering a p → Obeys r (wants_memory p now sent m) (heeded full p now sent m) p q → IsAnswering a q
obeys-waits r full a p q now sent m w o =
    let after = subst (λ (x : Peering). IsAnswering a (obeyed x now sent m).after) (sym (is-at-end p w.0)) (obeyed-waits a p m.head now sent m.body w) in
    let same = heeded-obeyed full p now sent m (ap is_answering w.0) in
    obeys-holds (IsAnswering a) r (wants_memory p now sent m) (heeded full p now sent m) p q w (subst (λ (x : Outcome). IsAnswering a x.after) (sym same) after) o

-- ---- the clock: nothing is sent that could be late

none-ends : (now : ℕ) (patience : Patience) (heard : ℕ) (ss : List SendingEnd) → ((i : ℕ) (s : SendingEnd) → slice_get ss i ≡ Some s → s.sender.sent ≡ [])
    → list_any (λ (s : SendingEnd). list_any (sender.ends now patience heard) s.sender.sent) ss ≡ false
none-ends now patience heard [] none = refl
none-ends now patience heard (s ∷ ss) none =
    ap (λ (xs : List Sent). list_any (sender.ends now patience heard) xs || list_any (λ (s : SendingEnd). list_any (sender.ends now patience heard) s.sender.sent) ss) (none 0 s refl)
    ∙ none-ends now patience heard ss (λ i. none (Rattle.std.proofs.Common.suc i))

still-stays : (o : Outbox) (now : ℕ) (patience : Patience) (heard : ℕ) → IsStill o.unsequenced o.control o.senders → has_ended o now patience heard ≡ false
still-stays o now patience heard still =
    ap (λ (xs : List SentControl). list_any (controlling.ends now patience heard) xs || list_any (λ (s : SendingEnd). list_any (sender.ends now patience heard) s.sender.sent) o.senders) still.no_control_sent
    ∙ none-ends now patience heard o.senders still.no_sent

ticked-at-end : (a : Acknowledgement) (p : Peering) (now : ℕ) → has_ended p.outbox now p.patience p.heard ≡ false → IsAnswering a p → IsAnswering a (ticked (at-end p) now)
ticked-at-end a p now none w = by (has_ended p.outbox now p.patience p.heard) (has_late p.outbox now) none
  where
    by : (b c : Bool) → b ≡ false → IsAnswering a (Rattle.enet_peer.specs.Calls.pinged (after_timeouts_by (cond b End (cond c Resend No)) (at-end p) now) now)
    by true c e = absurd cc
    by false true e = (refl, w.1, w.2)
    by false false e = (refl, w.1, w.2)

pub ticked-waits : (a : Acknowledgement) (p : Peering) (now : ℕ) → IsReachable p → IsAnswering a p → IsAnswering a (ticked p now)
ticked-waits a p now h w =
    let still : IsStill p.outbox.unsequenced p.outbox.control p.outbox.senders =
    subst (λ (s : PeerState). Rattle.enet_peer.specs.Reachable.IsStillIn s p.outbox.unsequenced p.outbox.control p.outbox.senders) w.0 h.still in
    subst (λ (x : Peering). IsAnswering a (ticked x now)) (sym (is-at-end p w.0)) (ticked-at-end a p now (still-stays p.outbox now p.patience p.heard still) w)

-- it is held back at no moment
moved-at-end : (short : Bool) (a : Acknowledgement) (p : Peering) (now : ℕ) → IsAnswering a (ticked (at-end p) now) → IsAnswering a (moved short (at-end p) now)
moved-at-end true a p now w = w
moved-at-end false a p now w = w

pub moved-waits : (a : Acknowledgement) (short : Bool) (p : Peering) (now : ℕ) → IsReachable p → IsAnswering a p → IsAnswering a (moved short p now)
moved-waits a short p now h w =
    let is = is-at-end p w.0 in
    subst (λ (x : Peering). IsAnswering a (moved short x now)) (sym is) (moved-at-end short a p now (subst (λ (x : Peering). IsAnswering a (ticked x now)) is (ticked-waits a p now h w)))

-- ---- a datagram goes

some-goes : (pace : Pace) (to : Destination) (len : Option ℕ) (old : Outbox) (buf : List ℕ) (m : Message) (more : List Message) → (filled pace old).messages ≡ m ∷ more → Emits pace to old len buf
    → is_some len ≡ true
some-goes pace to None old buf m more first e = absurd (let both : [] ≡ m ∷ more = sym e ∙ first in cc)
some-goes pace to (Some len) old buf m more first e = refl

long-enough : (n : ℕ) → 12 ≤ max 576 n
long-enough n = omega arith

pub answer-goes : (a : Acknowledgement) (now : ℕ) (len : Option ℕ) (p q : Peering) (buf : List ℕ) → IsAnswering a p → PutsOut now len p q buf → Answers a now len p q
answer-goes a now len p q buf w out =
    let first = oldest-first (pace_of p now) p.outbox a w.1 (long-enough (min p.terms.mtu 4096)) w.2 in
    record {
      goes = some-goes (pace_of p now) (destination_of p) len p.outbox buf (acknowledgement_of a) first.0 first.1 out.emits;
      more = first.0;
      first = first.1;
      ends = ap (λ (x : Peering). x.state) out.after ∙ ap (λ (s : PeerState). (gone_on_in s (record p { outbox = (filled (pace_of p now) p.outbox).outbox })).state) w.0;
    }
