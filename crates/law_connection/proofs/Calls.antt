-- What the clock, the user's calls and an emission make of a peer keeps all links.
use Rattle.std.proofs.Common.{◌≡◌, ℕ, Bool, true, false, cond, ltb, ◌&&◌, refl, sym, ap, subst, ◌∙◌, Option, Some, None, length, arith}
use Rattle.std.specs.List.{slice_get}
use Rattle.enet_rtt.specs.declared.expiry.Expiry.{Expiry}
use Rattle.enet_rtt.specs.declared.expiry.Expiry.TheVariants.{No, Resend, End as Ends}
use Rattle.enet_senders.specs.declared.control.Control.TheVariants as control
use Rattle.enet_outbox.specs.Outbox.{Outbox, with_control}
use Rattle.enet_outbox.specs.Outbox as outbox
use Rattle.enet_outbox.specs.Emission.{filled}
use Rattle.enet_outbox.specs.declared.parts.Pace.{Pace}
use Rattle.enet_peer.specs.Peering.{Peering}
use Rattle.enet_peer.specs.declared.parts.Ending.TheVariants.{AskedThere}
use Rattle.enet_peer.specs.declared.parts.PeerState.{PeerState}
use Rattle.enet_peer.specs.declared.parts.PeerState.TheVariants as state
use Rattle.enet_peer.specs.Endings.{ended, freed, disconnecting, parting, settled, silence_ending, cut_off_in}
use Rattle.enet_codec.specs.Message.{Message}
use Rattle.enet_peer.specs.CommandEffect.{obeyed}
use Rattle.enet_peer.specs.Refusing.{confirms, heeded, told_again, told_full, turned_away}
use Rattle.enet_peer.specs.Calls.{Leave, AtOnce, TellsOnce, Asks, AsksLater, Refused, left, leave_by_asking, leave_now, after_timeouts, after_timeouts_by, expiry_of, held_back, is_held_back, is_pinged, moved, tick_of, ticked, is_connected, pace_of, gone_on_in}
use Rattle.law_connection.specs.WireLink.{WireLink}
use Rattle.law_connection.specs.LinkSteps.{Has}
use Rattle.law_connection.specs.Connection.{End}
use Rattle.law_connection.specs.Steps.{Way, Asking, Now, Later, leave_by, Setting, Bandwidth, Throttle, ThrottleLimit, PingInterval, Timeout, with_setting, with_peer, with_messages, with_emission}
use Rattle.law_connection.specs.Linked.{sends_in, sender_in, numbers_on, ShowsSending}
use Rattle.law_connection.specs.Invariant.{AreInPlace, AreLinked}
use Rattle.law_connection.proofs.Packing.{Ready}
use Rattle.law_connection.proofs.Emits.{emits-out, emits-in}
use Rattle.law_connection.proofs.Relinking.{agreed-still, receiving-of, sending-by, receiving-by}
use Rattle.law_connection.proofs.Moves.{both-marked, both-later}
use Rattle.law_connection.proofs.Commands.{Holds, holds-quiet, holds-stops, holds-if, holds-settled, quiet-out, stops-ended, stops-freed, stops-disconnecting, stops-parting}

-- an outbox that differs in nothing that a link shows
holds-outbox : (own other : End) (p : Peering) (o : Outbox) → o.senders ≡ p.outbox.senders → o.acknowledgements ≡ p.outbox.acknowledgements → Holds own other p → Holds own other (record p { outbox = o })
holds-outbox own other p o s a h =
    let q : Peering = record p { outbox = o } in
    holds-quiet own other p q (quiet-out p q refl refl s) (record { dispatches = refl; receivers = refl; untaken = λ i few. refl; numbers = λ i few. ap (numbers_on i) a }) h

-- a tick

holds-cut_off : (own other : End) (p : Peering) (s : PeerState) → Holds own other p → Holds own other (cut_off_in s p)
holds-cut_off own other p state.Answering h = holds-stops own other p (freed p) (stops-freed p) h
holds-cut_off own other p s h = holds-stops own other p (ended p (silence_ending s) 0) (stops-ended p (silence_ending s) 0) h

holds-timeouts : (own other : End) (p : Peering) (now : ℕ) (x : Expiry) → Holds own other p → Holds own other (after_timeouts_by x p now)
holds-timeouts own other p now Ends h = holds-cut_off own other p p.state h
holds-timeouts own other p now Resend h = both-marked (with_peer own p) other p (tick_of p now) refl h
holds-timeouts own other p now No h = h

holds-ticked : (own other : End) (p : Peering) (now : ℕ) → Holds own other p → Holds own other (ticked p now)
holds-ticked own other p now h =
    let q : Peering = after_timeouts p now in
    let k : Holds own other q = holds-timeouts own other p now (expiry_of p now) h in
    holds-if own other (is_pinged q now) (record q { outbox = with_control q.outbox control.Ping }) q (holds-outbox own other q (with_control q.outbox control.Ping) refl refl k) k

pub holds-moved : (own other : End) (short : Bool) (p : Peering) (now : ℕ) → Holds own other p → Holds own other (moved short p now)
holds-moved own other short p now h =
    holds-if own other (is_held_back short p now) (held_back p now) (ticked p now) (holds-outbox own other p (outbox.held_back p.outbox (tick_of p now)) refl refl h) (holds-ticked own other p now h)

-- a host that is full, and one that lets a peer give way

holds-told : (own other : End) (p : Peering) → Holds own other p → Holds own other (told_full p)
holds-told own other p h = holds-outbox own other p (told_full p).outbox refl refl h

holds-refused : (own other : End) (p : Peering) → Holds own other p → Holds own other (turned_away p)
holds-refused own other p h =
    let q : Peering = turned_away p in
    holds-quiet own other p q (quiet-out p q refl refl refl) (record { dispatches = refl; receivers = refl; untaken = λ i few. refl; numbers = λ i few. refl }) h

pub holds-heeded : (own other : End) (full : Bool) (p : Peering) (now : ℕ) (sent : Option ℕ) (m : Message) → Holds own other p → Holds own other (obeyed p now sent m).after → Holds own other (heeded full p now sent m).after
holds-heeded own other full p now sent m h obeys = by (full && confirms p m)
  where
    by : (b : Bool) → Holds own other (cond b (record { stop = None; after = turned_away p }) (obeyed p now sent m)).after
    by true = holds-refused own other p h
    by false = obeys

pub holds-given_way : (own other : End) (p : Peering) → Holds own other p → Holds own other (freed p)
holds-given_way own other p h = holds-stops own other p (freed p) (stops-freed p) h

pub holds-told_again : (own other : End) (p : Peering) → Holds own other p → Holds own other (told_again p)
holds-told_again own other p h = holds-if own other (ltb 0 (length p.outbox.control.queued)) p (told_full p) h (holds-told own other p h)

-- a disconnect

later-sends : (way : Way) (s : PeerState) → leave_by way s ≡ AsksLater → sends_in s ≡ true
later-sends Later state.Connected e = refl
later-sends Later state.Free e = cc
later-sends Later state.Connecting e = refl
later-sends Later state.Answering e = refl
later-sends Later state.DisconnectLater e = refl
later-sends Later state.Disconnecting e = cc
later-sends Later state.AckDisconnect e = cc
later-sends Later state.Ended e = cc
later-sends Later state.Parting e = cc
later-sends Now s e = now s e
  where
    now : (s : PeerState) → leave_now s ≡ AsksLater → sends_in s ≡ true
    now state.Connecting e = cc
    now state.Answering e = cc
    now state.Connected e = cc
    now state.DisconnectLater e = cc
    now state.Free e = cc
    now state.Disconnecting e = cc
    now state.AckDisconnect e = cc
    now state.Ended e = cc
    now state.Parting e = cc
later-sends Asking s e = asking s e
  where
    asking : (s : PeerState) → leave_by_asking s ≡ AsksLater → sends_in s ≡ true
    asking state.Connecting e = cc
    asking state.Answering e = cc
    asking state.Connected e = cc
    asking state.DisconnectLater e = cc
    asking state.Free e = cc
    asking state.Disconnecting e = cc
    asking state.AckDisconnect e = cc
    asking state.Ended e = cc
    asking state.Parting e = cc

pub holds-left : (own other : End) (p q : Peering) (way : Way) (info : ℕ) → left (leave_by way p.state) p info ≡ Some q → Holds own other p → Holds own other q
holds-left own other p q way info e h = by (leave_by way p.state) refl e
  where
    by-some : (x : Peering) → Holds own other x → Some x ≡ Some q → Holds own other q
    by-some x k e = (let same : x ≡ q = cc in subst (λ y. Holds own other y) same k)

    by : (l : Leave) → leave_by way p.state ≡ l → left l p info ≡ Some q → Holds own other q
    by AtOnce is e = by-some (freed p) (holds-stops own other p (freed p) (stops-freed p) h) e
    by TellsOnce is e = by-some (parting p info) (holds-stops own other p (parting p info) (stops-parting p info) h) e
    by Asks is e = by-some (disconnecting p info) (holds-stops own other p (disconnecting p info) (stops-disconnecting p info) h) e
    by AsksLater is e =
        let r : Peering = record p { state = state.DisconnectLater; info = info } in
        by-some (settled r) (holds-settled own other r (both-later (with_peer own p) other p info refl (later-sends way p.state is) h)) e
    by Refused is e = absurd (cc)

-- a setting
pub holds-set : (own other : End) (p : Peering) (s : Setting) → Holds own other p → Holds own other (with_setting s p)
holds-set own other p (Bandwidth incoming outgoing) h = by (is_connected p.state)
  where
    box : Bool → Outbox
    box b = cond b (with_control p.outbox (control.BandwidthLimit incoming outgoing)) p.outbox

    q : Bool → Peering
    q b = record p { limits = record p.limits { incoming = incoming; outgoing = outgoing }; outbox = cond b (with_control p.outbox (control.BandwidthLimit incoming outgoing)) p.outbox }

    by : (b : Bool) → Holds own other (record p { limits = record p.limits { incoming = incoming; outgoing = outgoing }; outbox = cond b (with_control p.outbox (control.BandwidthLimit incoming outgoing)) p.outbox })
    by true = holds-quiet own other p (record p { limits = record p.limits { incoming = incoming; outgoing = outgoing }; outbox = with_control p.outbox (control.BandwidthLimit incoming outgoing) })
        (record { sends = refl; mtu = refl; senders = refl }) (record { dispatches = refl; receivers = refl; untaken = λ i few. refl; numbers = λ i few. refl }) h
    by false = holds-quiet own other p (record p { limits = record p.limits { incoming = incoming; outgoing = outgoing } })
        (record { sends = refl; mtu = refl; senders = refl }) (record { dispatches = refl; receivers = refl; untaken = λ i few. refl; numbers = λ i few. refl }) h
holds-set own other p (Throttle interval acceleration deceleration) h =
    let q : Peering = with_setting (Throttle interval acceleration deceleration) p in
    holds-quiet own other p q (record { sends = refl; mtu = refl; senders = refl }) (record { dispatches = refl; receivers = refl; untaken = λ i few. refl; numbers = λ i few. refl }) h
holds-set own other p (ThrottleLimit limit) h =
    let q : Peering = with_setting (ThrottleLimit limit) p in
    holds-quiet own other p q (record { sends = refl; mtu = refl; senders = refl }) (record { dispatches = refl; receivers = refl; untaken = λ i few. refl; numbers = λ i few. refl }) h
holds-set own other p (PingInterval ms) h =
    let q : Peering = with_setting (PingInterval ms) p in
    holds-quiet own other p q (record { sends = refl; mtu = refl; senders = refl }) (record { dispatches = refl; receivers = refl; untaken = λ i few. refl; numbers = λ i few. refl }) h
holds-set own other p (Timeout limit minimum maximum) h =
    let q : Peering = with_setting (Timeout limit minimum maximum) p in
    holds-quiet own other p q (record { sends = refl; mtu = refl; senders = refl }) (record { dispatches = refl; receivers = refl; untaken = λ i few. refl; numbers = λ i few. refl }) h

-- an emission

shows-after : (p : Peering) (o : Outbox) (channel : ℕ) (w : WireLink) → Ready (sends_in p.state) w (sender_in (slice_get o.senders channel)) → AreInPlace o.senders → ShowsSending (Some (record p { outbox = o })) channel w
shows-after p o channel w ready places = by (sends_in p.state) refl ready
  where
    by : (y : Bool) → sends_in p.state ≡ y → Ready y w (sender_in (slice_get o.senders channel)) → ShowsSending (Some (record p { outbox = o })) channel w
    by true e r = ((λ t. r), (λ f. absurd (let x : true ≡ false = sym e ∙ f in cc)), (λ f. absurd (let x : true ≡ false = sym e ∙ f in cc)), (λ s there. places channel s there))
    by false e r = ((λ t. absurd (let x : true ≡ false = sym t ∙ e in cc)), (λ f. r.0), (λ f. r.1), (λ s there. places channel s there))

holds-gone_on : (own other : End) (p : Peering) (s : PeerState) → Holds own other p → Holds own other (gone_on_in s p)
holds-gone_on own other p state.AckDisconnect h = holds-stops own other p (ended p AskedThere p.info) (stops-ended p AskedThere p.info) h
holds-gone_on own other p state.Parting h = holds-if own other (ltb 0 (length p.outbox.control.queued)) p (freed p) h (holds-stops own other p (freed p) (stops-freed p) h)
holds-gone_on own other p s h = holds-settled own other p h

pub both-emitted : (own other : End) (p : Peering) (now : ℕ) → own.peer ≡ Some p → AreInPlace p.outbox.senders → AreLinked own other → AreLinked (with_emission own other p now) other
both-emitted own other p now is places b =
    holds-gone_on (with_messages own other (filled pace p.outbox).messages) other q q.state (record {
      out = λ channel few. (let k = b.out channel few in
          let r = emits-out own other channel p pace k is places in
          let w : WireLink = r.0 in
          record {
            mtu = k.mtu;
            big = k.big;
            agreed = agreed-still own p q k.mtu is refl k.agreed;
            link = w;
            events = r.1;
            runs = r.2;
            between = r.3;
            submitted = r.4 ∙ k.submitted;
            greatest = r.6;
            few = r.7;
            sending = shows-after p (filled pace p.outbox).outbox channel w r.8 r.9;
            receiving = receiving-by other other.peer channel k.link w (ap (λ (x : WireLink). x.is_open) r.5) (ap (λ (x : WireLink). x.incoming) r.5) (ap (λ (x : WireLink). x.answers) r.5) k.receiving;
            commands = r.10;
            acks = λ x number time h on e. subst (λ l. Has l (record { number = number; sent_then = x.sent_then })) (sym (ap (λ (x : WireLink). x.acks) r.5)) (k.acks x number time h on e);
          });
      back = λ channel few. (let k = b.back channel few in
          let h = receiving-of own p channel k.link is k.receiving in
          let r = emits-in other own channel p pace k h.3 in
          let w : WireLink = r.0 in
          record {
            mtu = k.mtu;
            big = k.big;
            agreed = k.agreed;
            link = w;
            events = r.1;
            runs = r.2;
            between = ap (λ (x : WireLink). x.making) r.3 ∙ k.between;
            submitted = ap (λ (x : WireLink). x.submitted) r.3 ∙ k.submitted;
            greatest = ap (λ (x : WireLink). x.greatest) r.3 ∙ k.greatest;
            few = (let few = k.few in let same : length w.commands ≡ length k.link.commands = ap (λ (x : WireLink). length x.commands) r.3 in omega arith);
            sending = sending-by other.peer channel k.link w (ap (λ (x : WireLink). x.is_sending) r.3) (ap (λ (x : WireLink). x.outgoing) r.3) k.sending;
            receiving = (
              h.0 ∙ sym (ap (λ (x : WireLink). x.is_open) r.3),
              (λ t. ap (λ (x : WireLink). x.incoming) r.3 ∙ h.1 (sym (ap (λ (x : WireLink). x.is_open) r.3) ∙ t)),
              ap (λ (x : WireLink). x.incoming.dispatched) r.3 ∙ h.2,
              ap (λ (x : WireLink). x.answers) r.3,
            );
            commands = λ x c h on e. subst (λ l. Has l (record { command = c; sent_then = x.sent_then })) (sym (ap (λ (x : WireLink). x.commands) r.3)) (k.commands x c h on e);
            acks = r.4;
          });
    })
  where
    pace : Pace
    pace = pace_of p now

    q : Peering
    q = record p { outbox = (filled pace p.outbox).outbox }
