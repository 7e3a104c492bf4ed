-- A property of a peer that each single change keeps is kept by whatever comes, by the clock, by the user's settings and by an emission.
use Rattle.std.proofs.Common.{◌≡◌, ℕ, ◌%◌, ◌^◌, ◌<◌, Bool, true, false, cond, ltb, leb, ◌&&◌, not, List, refl, sym, ap, subst, ◌∙◌, inl, inr, arith, Option, Some, None, Result, Ok, Err, length, slice_set}
use Rattle.std.specs.Prelude.{is_some, max, min}
use Rattle.std.specs.List.{slice_get}
use Rattle.enet_codec.specs.declared.command.Head.{Head}
use Rattle.enet_codec.specs.declared.command.Offer.{Offer}
use Rattle.enet_codec.specs.declared.command.Verify.{Verify}
use Rattle.enet_codec.specs.declared.stop.Stop.{Stop}
use Rattle.enet_codec.specs.declared.stop.Stop.TheVariants as stop
use Rattle.enet_codec.specs.Message.{Message, Body, acknowledge, connect, verify_connect, disconnect, ping, send_reliable, send_unreliable, send_fragment, send_unsequenced, bandwidth_limit, throttle_configure, send_unreliable_fragment}
use Rattle.enet_seq.specs.Numbering.{wire}
use Rattle.enet_rtt.specs.declared.expiry.Expiry.TheVariants.{No, Resend, End as Ends}
use Rattle.enet_rtt.specs.Clock.{elapsed_time, meant_time}
use Rattle.enet_rtt.specs.declared.transmission.Tick.{Tick}
use Rattle.enet_unsequenced.specs.Groups.{dispatches}
use Rattle.enet_connect.specs.declared.terms.Terms.{Terms}
use Rattle.enet_connect.specs.Verification.{confirmed, agreed, is_accepted}
use Rattle.enet_senders.specs.declared.control.Control.{Control}
use Rattle.enet_senders.specs.declared.control.Control.TheVariants as control
use Rattle.enet_senders.specs.Controlling.{Commands}
use Rattle.enet_senders.specs.Controlling as controlling
use Rattle.enet_fragment.specs.declared.data.DataCommand.{DataCommand}
use Rattle.enet_receiver.specs.declared.took.Took.{Took}
use Rattle.enet_receiver.specs.declared.took.Took.TheVariants.{Held, Again, Outside, Bad, Waiting, Memory}
use Rattle.enet_receiver.specs.Foresight.{ReceivingEnd, outcome_for, after_command}
use Rattle.enet_inbox.specs.Inbox.{Inbox, is_full, is_full_for, given_way}
use Rattle.enet_inbox.specs.DataEffect.{DataEffect, handled, stopped as refused, unsequenced, unsequenced_taken, handed_over, by_took, passed_over_on, sequenced_on, passed_over, makes_room, met, arrival}
use Rattle.enet_sender.specs.declared.outgoing.Occasion.{Occasion}
use Rattle.enet_sender.specs.Sender.{Next, next, with_skipped}
use Rattle.enet_sender.specs.Due.{SendingEnd}
use Rattle.enet_outbox.specs.declared.parts.Matched.{Matched}
use Rattle.enet_outbox.specs.declared.parts.Matched.TheVariants as matched
use Rattle.enet_outbox.specs.declared.parts.Pace.{Pace}
use Rattle.enet_outbox.specs.Traffic.{with_one_sent}
use Rattle.enet_outbox.specs.Outbox.{with_control, after_acknowledgement, is_answer, is_done, matched_by, has_ended, has_late, has_waited, lateness, released, told_by, with_growth}
use Rattle.enet_outbox.specs.Outbox as outbox
use Rattle.enet_outbox.specs.Emission.{Filling, occasion, filled}
use Rattle.enet_codec.specs.declared.packet.Packet.{Packet}
use Rattle.enet_peer.specs.Peering.{Peering}
use Rattle.enet_peer.specs.declared.parts.Ending.{Ending}
use Rattle.enet_peer.specs.declared.parts.Ending.TheVariants.{AskedHere, AskedThere, BadAnswer}
use Rattle.enet_peer.specs.declared.parts.PeerState.{PeerState}
use Rattle.enet_peer.specs.declared.parts.PeerState.TheVariants as state
use Rattle.enet_peer.specs.Endings.{dropped, ended, freed, disconnecting, parting, settled, is_later, silence_ending, cut_off_in}
use Rattle.enet_peer.specs.CommandEffect.{Outcome, answered, answered_at, is_answered_in, is_allowed, is_of_handshake, obeyed, unless_refused, by_body, by_answer, by_arrival, on_data, stopped, sampled, with_answer, on_match, accepted, is_connecting, on_acknowledge, welcomed, on_verify_in, on_last_disconnect, on_disconnect_in, on_bandwidth, on_throttle}
use Rattle.enet_peer.proofs.Obeying.{unless-holds, unwelcomed-holds}
use Rattle.enet_peer.specs.Refusing.{confirms_by, heeded, is_turned_away, told_again, told_full, turned_away}
use Rattle.enet_peer.specs.Calls.{left, after_timeouts, after_timeouts_by, expiry_of, has_stayed, held_back, is_answering, is_held_back, is_over, is_pinged, is_resend, moved, tick_of, ticked, is_connected, pace_of, gone_on, gone_on_in}
use Rattle.law_connection.specs.Steps.{Way, Asking, Now, Later, leave_by, Setting, Bandwidth, Throttle, ThrottleLimit, PingInterval, Timeout, with_setting, MaySet}
use Rattle.enet_outbox.proofs.Filled.{by-filling}
use Rattle.law_connection.proofs.Runs.{either, and-left, and-right}

-- what a property may speak of
pub record Core : Type 0 where
  pub state : PeerState
  pub mtu : ℕ
  pub connect_id : ℕ
  pub offered : ℕ  -- the connect id of the offer with which it asked
  pub offset : ℕ  -- what is added to its sent times
  pub greeting : Option ℕ
  pub receivers : List ReceivingEnd
  pub untaken : List Packet
  pub control : Commands
  pub senders : List SendingEnd

abbrev pub core : Peering → Core
core p = record { state = p.state; mtu = p.terms.mtu; connect_id = p.terms.connect_id; offered = p.offer.connect_id; offset = p.offset; greeting = p.greeting; receivers = p.inbox.receivers; untaken = p.inbox.untaken; control = p.outbox.control; senders = p.outbox.senders }

-- a CONNECT, which nothing queues but the beginning of a connection
abbrev pub is_offer : Control → Bool
is_offer (control.Connect offer) = true
is_offer _ = false

-- nothing reliable is sent any more
abbrev pub is_gone : PeerState → Bool
is_gone state.Ended = true
is_gone state.Parting = true
is_gone state.Free = true
is_gone _ = false

-- the connection stands
abbrev pub stands : PeerState → Bool
stands state.Connected = true
stands state.DisconnectLater = true
stands _ = false

pub record Changes (P : Peering → Type 0) : Type 0 where
  pub quiet : (p q : Peering) → core q ≡ core p → P p → P q
  pub controls : (p : Peering) (what : Control) → is_offer what ≡ false → is_connected p.state ≡ true → P p → P (record p { outbox = with_control p.outbox what })
  pub ends : (p : Peering) (why : Ending) (info : ℕ) → is_gone p.state ≡ false → P p → P (ended p why info)
  pub cuts : (p : Peering) (why : Ending) (now : ℕ) → is_gone p.state ≡ true → has_ended p.outbox now p.patience p.heard ≡ true → P p → P (ended p why 0)
  pub frees : (p : Peering) → P p → P (freed p)
  pub parts : (p : Peering) (info : ℕ) → P p → P (parting p info)
  pub disconnects : (p : Peering) (info : ℕ) → stands p.state ≡ true → P p → P (disconnecting p info)
  pub answers : (p : Peering) (info : ℕ) → stands p.state ≡ true → P p → P (record (dropped p) { state = state.AckDisconnect; info = info })
  pub waits : (p : Peering) (info : ℕ) → is_connected p.state ≡ true → P p → P (record p { state = state.DisconnectLater; info = info })
  pub greets : (p : Peering) → p.state ≡ state.Answering → P p → P (record p { state = state.Connected; greeting = Some p.info })
  pub welcomes : (p : Peering) (v : Verify) (terms : Terms) → p.state ≡ state.Connecting → 28 < terms.mtu → terms.connect_id ≡ p.offer.connect_id → P p → P (welcomed p v (Some terms))
  pub acknowledges : (p : Peering) (channel number : ℕ) → is_gone p.state ≡ false → P p → P (record p { outbox = after_acknowledgement p.outbox channel number })
  pub marks : (p : Peering) (tick : Tick) → P p → P (record p { outbox = outbox.marked p.outbox tick })
  pub holds_back : (p : Peering) (tick : Tick) → p.state ≡ state.Answering → P p → P (record p { outbox = outbox.held_back p.outbox tick })
  pub refuses : (p : Peering) → p.state ≡ state.Answering → P p → P (told_full p)
  pub gives_way : (p : Peering) → is_connected p.state ≡ true → P p → P (record p { inbox = given_way p.inbox })
  pub takes : (p : Peering) (channel : ℕ) (r : ReceivingEnd) (c : DataCommand) → is_connected p.state ≡ true → slice_get p.inbox.receivers channel ≡ Some r → P p
      → P (record p { inbox = handed_over p.inbox channel (after_command r (Some c) (is_full_for p.inbox r c)) })
  pub takes_unsequenced : (p : Peering) (channel group : ℕ) (payload : List ℕ) → is_connected p.state ≡ true → P p → P (record p { inbox = unsequenced_taken p.inbox channel group payload })
  pub puts_control : (p : Peering) (now timeout : ℕ) (n : controlling.Next) → controlling.next now timeout p.outbox.control ≡ Some n → P p → P (record p { outbox = record p.outbox { control = n.commands } })
  pub puts_data : (p : Peering) (k : ℕ) (occasion : Occasion) (s : SendingEnd) (n : Next) → slice_get p.outbox.senders k ≡ Some s → next wire occasion s.sender ≡ Some n → P p
      → P (record p { outbox = record p.outbox { senders = slice_set p.outbox.senders k (record s { sender = n.sender }) } })
  pub drops_data : (p : Peering) (k : ℕ) (occasion : Occasion) (s : SendingEnd) (n : Next) → slice_get p.outbox.senders k ≡ Some s → next wire occasion s.sender ≡ Some n → P p
      → P (record p { outbox = record p.outbox { senders = slice_set p.outbox.senders k (record s { sender = with_skipped n.sender }) } })

if-peer : (P : Peering → Type 0) (b : Bool) (p q : Peering) → (b ≡ true → P p) → P q → P (cond b p q)
if-peer P true p q a h = a refl
if-peer P false p q a h = h

if-outcome : (P : Peering → Type 0) (b : Bool) (x y : Outcome) → (b ≡ true → P x.after) → P y.after → P (cond b x y).after
if-outcome P true x y a h = a refl
if-outcome P false x y a h = h

-- a peer that was to disconnect later does so once it is done

later-stands : (s : PeerState) → is_later s ≡ true → stands s ≡ true
later-stands state.DisconnectLater e = refl
later-stands state.Connected e = refl
later-stands state.Connecting e = absurd (cc)
later-stands state.Answering e = absurd (cc)
later-stands state.Disconnecting e = absurd (cc)
later-stands state.AckDisconnect e = absurd (cc)
later-stands state.Ended e = absurd (cc)
later-stands state.Parting e = absurd (cc)
later-stands state.Free e = absurd (cc)

pub kept-settled : (P : Peering → Type 0) → Changes P → (p : Peering) → P p → P (settled p)
kept-settled P k p h = if-peer P (is_later p.state && is_done p.outbox) (disconnecting p p.info) p (λ t. k.disconnects p p.info (later-stands p.state (and-left (is_later p.state) (is_done p.outbox) t)) h) h

-- the clock

kept-cut_off : (P : Peering → Type 0) → Changes P → (p : Peering) (now : ℕ) (s : PeerState) → p.state ≡ s → has_ended p.outbox now p.patience p.heard ≡ true → P p → P (cut_off_in s p)
kept-cut_off P k p now state.Answering e over h = k.frees p h
kept-cut_off P k p now s e over h = elim (either (is_gone p.state)) [ inl gone ↦ k.cuts p (silence_ending s) now gone over h | inr here ↦ k.ends p (silence_ending s) 0 here h ]

answering-is : (s : PeerState) → is_answering s ≡ true → s ≡ state.Answering
answering-is state.Answering e = refl
answering-is state.Connecting e = absurd (cc)
answering-is state.Connected e = absurd (cc)
answering-is state.DisconnectLater e = absurd (cc)
answering-is state.Disconnecting e = absurd (cc)
answering-is state.AckDisconnect e = absurd (cc)
answering-is state.Ended e = absurd (cc)
answering-is state.Parting e = absurd (cc)
answering-is state.Free e = absurd (cc)

-- only one that waits for its client waits too long
pub over-answers : (p : Peering) (now : ℕ) → is_over p now ≡ true → p.state ≡ state.Answering
over-answers p now e = answering-is p.state (and-left (is_answering p.state) (has_stayed p now) e)

-- only such a one is held back
pub held_back-answers : (short : Bool) (p : Peering) (now : ℕ) → is_held_back short p now ≡ true → p.state ≡ state.Answering
held_back-answers short p now e = answering-is p.state (and-right short (is_answering p.state) (and-left (short && is_answering p.state) (is_resend (expiry_of p now)) e))

kept-timeouts : (P : Peering → Type 0) → Changes P → (p : Peering) (now : ℕ) → P p → P (after_timeouts p now)
kept-timeouts P k p now h = by-wait (is_over p now) refl
  where
    by : (a b : Bool) → has_ended p.outbox now p.patience p.heard ≡ a → P (after_timeouts_by (cond a Ends (cond b Resend No)) p now)
    by true b e = kept-cut_off P k p now p.state refl e h
    by false true e = k.marks p (tick_of p now) h
    by false false e = h

    by-wait : (w : Bool) → is_over p now ≡ w → P (after_timeouts_by (cond w Ends (lateness p.outbox now p.patience p.heard)) p now)
    by-wait true e = subst (λ (s : PeerState). P (cut_off_in s p)) (sym (over-answers p now e)) (k.frees p h)
    by-wait false e = by (has_ended p.outbox now p.patience p.heard) (has_late p.outbox now) refl

pub kept-ticked : (P : Peering → Type 0) → Changes P → (p : Peering) (now : ℕ) → P p → P (ticked p now)
kept-ticked P k p now h =
    let q : Peering = after_timeouts p now in
    let a : P q = kept-timeouts P k p now h in
    if-peer P (is_pinged q now) (record q { outbox = with_control q.outbox control.Ping }) q
    (λ t. k.controls q control.Ping refl (and-left (is_connected q.state) (outbox.has_nothing_reliable q.outbox) (and-left (is_connected q.state && outbox.has_nothing_reliable q.outbox) (leb q.ping_interval (elapsed_time now q.heard)) t)) a) a

pub kept-held_back : (P : Peering → Type 0) → Changes P → (p : Peering) (now : ℕ) → p.state ≡ state.Answering → P p → P (held_back p now)
kept-held_back P k p now at h = k.holds_back p (tick_of p now) at h

pub kept-moved : (P : Peering → Type 0) → Changes P → (short : Bool) (p : Peering) (now : ℕ) → P p → P (moved short p now)
kept-moved P k short p now h =
    if-peer P (is_held_back short p now) (held_back p now) (ticked p now) (λ t. kept-held_back P k p now (held_back-answers short p now t) h) (kept-ticked P k p now h)

-- the user ends the connection

kept-some : (P : Peering → Type 0) (x q : Peering) → P x → Some x ≡ Some q → P q
kept-some P x q a e = (let same : x ≡ q = cc in subst P same a)

kept-none : {A : Type 0} (q : Peering) → None ≡ Some q → A
kept-none q e = absurd (cc)

pub kept-left : (P : Peering → Type 0) → Changes P → (p q : Peering) (way : Way) (info : ℕ) → left (leave_by way p.state) p info ≡ Some q → P p → P q
kept-left P k p q way info e h = by way p.state refl e
  where
    waiting : Peering
    waiting = record p { state = state.DisconnectLater; info = info }

    by : (way : Way) (s : PeerState) → p.state ≡ s → left (leave_by way s) p info ≡ Some q → P q
    by Asking state.Connecting is e = kept-some P (freed p) q (k.frees p h) e
    by Asking state.Answering is e = kept-some P (parting p info) q (k.parts p info h) e
    by Asking state.Connected is e = kept-some P (disconnecting p info) q (k.disconnects p info (ap stands is) h) e
    by Asking state.DisconnectLater is e = kept-some P (disconnecting p info) q (k.disconnects p info (ap stands is) h) e
    by Now state.Connecting is e = kept-some P (freed p) q (k.frees p h) e
    by Now state.Answering is e = kept-some P (parting p info) q (k.parts p info h) e
    by Now state.Connected is e = kept-some P (parting p info) q (k.parts p info h) e
    by Now state.DisconnectLater is e = kept-some P (parting p info) q (k.parts p info h) e
    by Later state.Connecting is e = kept-some P (freed p) q (k.frees p h) e
    by Later state.Answering is e = kept-some P (parting p info) q (k.parts p info h) e
    by Later state.Connected is e = kept-some P (settled waiting) q (kept-settled P k waiting (k.waits p info (ap is_connected is) h)) e
    by Asking s is e = kept-none q e
    by Now s is e = kept-none q e
    by Later s is e = kept-none q e

-- the user sets something

pub kept-set : (P : Peering → Type 0) → Changes P → (p : Peering) (s : Setting) → MaySet s p → P p → P (with_setting s p)
kept-set P k p (Bandwidth incoming outgoing) may h = by (is_connected p.state) refl
  where
    by : (b : Bool) → is_connected p.state ≡ b → P (record p { limits = record p.limits { incoming = incoming; outgoing = outgoing }; outbox = cond b (with_control p.outbox (control.BandwidthLimit incoming outgoing)) p.outbox })
    by true e = k.quiet (record p { outbox = with_control p.outbox (control.BandwidthLimit incoming outgoing) })
        (record p { limits = record p.limits { incoming = incoming; outgoing = outgoing }; outbox = with_control p.outbox (control.BandwidthLimit incoming outgoing) }) refl
        (k.controls p (control.BandwidthLimit incoming outgoing) refl e h)
    by false e = k.quiet p (record p { limits = record p.limits { incoming = incoming; outgoing = outgoing } }) refl h
kept-set P k p (Throttle interval acceleration deceleration) may h =
    let what : Control = control.ThrottleConfigure interval acceleration deceleration in
    k.quiet (record p { outbox = with_control p.outbox what }) (with_setting (Throttle interval acceleration deceleration) p) refl (k.controls p what refl may h)
kept-set P k p (ThrottleLimit limit) may h = k.quiet p (with_setting (ThrottleLimit limit) p) refl h
kept-set P k p (PingInterval ms) may h = k.quiet p (with_setting (PingInterval ms) p) refl h
kept-set P k p (Timeout limit minimum maximum) may h = k.quiet p (with_setting (Timeout limit minimum maximum) p) refl h

-- a datagram goes

kept-filled : (P : Peering → Type 0) → Changes P → (p : Peering) (pace : Pace) → P p → P (record p { outbox = (filled pace p.outbox).outbox })
kept-filled P k p pace h =
    by-filling pace p.outbox (λ (f : Filling). P (record p { outbox = f.outbox })) (record {
      closes = λ f a. a;
      acknowledges = λ f x rest e a. k.quiet (record p { outbox = f.outbox }) (record p { outbox = record f.outbox { acknowledgements = rest } }) refl a;
      controls = λ f n e a. k.puts_control (record p { outbox = f.outbox }) pace.now pace.timeout n e a;
      puts_unsequenced = λ f u rest t e a. k.quiet (record p { outbox = f.outbox }) (record p { outbox = record f.outbox { throttle = t; unsequenced = rest; last = Some u.channel } }) refl a;
      drops_unsequenced = λ f u rest t e a. k.quiet (record p { outbox = f.outbox }) (record p { outbox = record f.outbox { throttle = t; unsequenced = rest } }) refl a;
      puts_data = λ f i s n t there due a. (let ss : List SendingEnd = slice_set f.outbox.senders i (record s { sender = n.sender }) in
          k.quiet (record p { outbox = record f.outbox { senders = ss } }) (record p { outbox = record f.outbox { throttle = t; senders = ss; last = Some i } }) refl
          (k.puts_data (record p { outbox = f.outbox }) i (occasion pace i f.outbox) s n there due a));
      drops_data = λ f i s n t there due kind a. (let ss : List SendingEnd = slice_set f.outbox.senders i (record s { sender = with_skipped n.sender }) in
          k.quiet (record p { outbox = record f.outbox { senders = ss } }) (record p { outbox = record f.outbox { throttle = t; senders = ss } }) refl
          (k.drops_data (record p { outbox = f.outbox }) i (occasion pace i f.outbox) s n there due a));
      keeps_room = λ f i x there wants a. k.quiet (record p { outbox = f.outbox }) (record p { outbox = record f.outbox { kept = Some i } }) refl a;
      gives_room = λ f i x n there due a. k.quiet (record p { outbox = f.outbox }) (record p { outbox = record f.outbox { kept = released f.outbox.kept i; traffic = with_one_sent f.outbox.traffic n.is_resend } }) refl a;
    }) h

pub kept-gone_on : (P : Peering → Type 0) → Changes P → (p : Peering) (s : PeerState) → p.state ≡ s → P p → P (gone_on_in s p)
kept-gone_on P k p state.AckDisconnect e h = k.ends p AskedThere p.info (ap is_gone e) h
kept-gone_on P k p state.Parting e h = if-peer P (ltb 0 (length p.outbox.control.queued)) p (freed p) (λ t. h) (k.frees p h)
kept-gone_on P k p s e h = kept-settled P k p h

pub kept-emitted : (P : Peering → Type 0) → Changes P → (p : Peering) (now : ℕ) → P p → P (gone_on (record p { outbox = (filled (pace_of p now) p.outbox).outbox }))
kept-emitted P k p now h = kept-gone_on P k (record p { outbox = (filled (pace_of p now) p.outbox).outbox }) p.state refl (kept-filled P k p (pace_of p now) h)

-- a command comes

kept-answered : (P : Peering → Type 0) → Changes P → (p : Peering) (m : Message) (sent : Option ℕ) (may : Bool) → P p → P (answered p m sent may).after
kept-answered P k p m sent may h = if-outcome P (m.head.acknowledge && may && is_answered_in p.state m.body) (answered_at p m.head sent) (record { stop = None; after = p }) (λ t. by sent) h
  where
    by : (o : Option ℕ) → P (answered_at p m.head o).after
    by None = h
    by (Some time) = k.quiet p (record p { outbox = outbox.with_acknowledgement p.outbox (record { channel = m.head.channel; number = m.head.number; time = time }) }) refl h

-- nothing is allowed once the peer is gone
allowed-here : (s : PeerState) (body : Body) → is_allowed s body ≡ true → is_gone s ≡ false
allowed-here state.Connected body e = refl
allowed-here state.DisconnectLater body e = refl
allowed-here state.Connecting body e = refl
allowed-here state.Answering body e = refl
allowed-here state.Disconnecting body e = refl
allowed-here state.AckDisconnect body e = refl
allowed-here state.Free body e = absurd (let x : false ≡ true = e in cc)
allowed-here state.Ended body e = absurd (let x : false ≡ true = e in cc)
allowed-here state.Parting body e = absurd (let x : false ≡ true = e in cc)

-- what is no part of a handshake is allowed where the connection stands
allowed-connected : (s : PeerState) (body : Body) → is_of_handshake body ≡ false → is_allowed s body ≡ true → is_later s ≡ false → is_connected s ≡ true
allowed-connected state.Connected body n e l = refl
allowed-connected state.DisconnectLater body n e l = absurd (let x : true ≡ false = l in cc)
allowed-connected state.Connecting body n e l = absurd (let x : true ≡ false = sym e ∙ n in cc)
allowed-connected state.Answering body n e l = absurd (let x : true ≡ false = sym e ∙ n in cc)
allowed-connected state.Disconnecting body n e l = absurd (let x : true ≡ false = sym e ∙ n in cc)
allowed-connected state.AckDisconnect body n e l = absurd (let x : true ≡ false = sym e ∙ n in cc)
allowed-connected state.Free body n e l = absurd (let x : false ≡ true = e in cc)
allowed-connected state.Ended body n e l = absurd (let x : false ≡ true = e in cc)
allowed-connected state.Parting body n e l = absurd (let x : false ≡ true = e in cc)

kept-with_answer : (P : Peering → Type 0) → Changes P → (p : Peering) (s : PeerState) (what : Control) → p.state ≡ s → P p → P (with_answer s what p)
kept-with_answer P k p state.Answering (control.VerifyConnect verify) e h = k.greets p e h
kept-with_answer P k p state.Disconnecting (control.Disconnect info) e h = k.ends p AskedHere 0 (ap is_gone e) h
kept-with_answer P k p s what e h = h

kept-acknowledged : (P : Peering → Type 0) → Changes P → (p : Peering) (now channel number told : ℕ) → is_gone p.state ≡ false → P p → P (on_acknowledge p now channel number told)
kept-acknowledged P k p now channel number told here h = by-state (is_connecting p.state)
  where
    time : ℕ
    time = meant_time told (p.offset % 2 ^ 16)

    q : Peering
    q = sampled (record p { outbox = with_growth (after_acknowledgement p.outbox channel number) (told_by p.outbox channel number time) }) now time

    a : P q
    a = k.quiet (record p { outbox = after_acknowledgement p.outbox channel number }) q refl (k.acknowledges p channel number here h)

    by : (x : Matched) → P (on_match x p q)
    by matched.Nothing = h
    by matched.Data = kept-settled P k q a
    by (matched.Control what) = kept-settled P k (with_answer p.state what q) (kept-with_answer P k q p.state what refl a)

    by-state : (b : Bool) → P (cond b p (accepted p now channel number time))
    by-state true = h
    by-state false = by (matched_by p.outbox channel number time)

big-enough : (n : ℕ) → 28 < max 576 n
big-enough n = omega arith

confirmed-agreed : (o : Offer) (v : Verify) (terms : Terms) → confirmed o v ≡ Some terms → agreed o v ≡ terms
confirmed-agreed o v terms e = by (is_accepted o v) e
  where
    by : (b : Bool) → cond b (Some (agreed o v)) None ≡ Some terms → agreed o v ≡ terms
    by true e = (let same : agreed o v ≡ terms = cc in same)
    by false e = absurd (cc)

confirmed-big : (o : Offer) (v : Verify) (terms : Terms) → confirmed o v ≡ Some terms → 28 < terms.mtu
confirmed-big o v terms e = subst (λ (t : Terms). 28 < t.mtu) (confirmed-agreed o v terms e) (big-enough (min (min o.mtu v.mtu) 4096))

confirmed-word : (o : Offer) (v : Verify) (terms : Terms) → confirmed o v ≡ Some terms → terms.connect_id ≡ o.connect_id
confirmed-word o v terms e = sym (ap (λ (t : Terms). t.connect_id) (confirmed-agreed o v terms e))

kept-verified : (P : Peering → Type 0) → Changes P → (p : Peering) (v : Verify) (s : PeerState) → p.state ≡ s → P p → P (on_verify_in s p v)
kept-verified P k p v state.Connecting e h = by (confirmed p.offer v) refl
  where
    by : (o : Option Terms) → confirmed p.offer v ≡ o → P (welcomed p v o)
    by None c = unwelcomed-holds P p v h (k.ends p BadAnswer 0 (ap is_gone e) h)
    by (Some terms) c = k.welcomes p v terms e (confirmed-big p.offer v terms c) (confirmed-word p.offer v terms c) h
kept-verified P k p v s e h = h

kept-last : (P : Peering → Type 0) → Changes P → (p : Peering) (b : Bool) (info : ℕ) → stands p.state ≡ true → is_gone p.state ≡ false → P p → P (on_last_disconnect p b info)
kept-last P k p true info up here h = k.answers p info up h
kept-last P k p false info up here h = k.ends p AskedThere info here h

kept-disconnected : (P : Peering → Type 0) → Changes P → (p : Peering) (s : PeerState) (b : Bool) (info : ℕ) → p.state ≡ s → P p → P (on_disconnect_in s p b info)
kept-disconnected P k p state.Connected b info e h = kept-last P k p b info (ap stands e) (ap is_gone e) h
kept-disconnected P k p state.DisconnectLater b info e h = kept-last P k p b info (ap stands e) (ap is_gone e) h
kept-disconnected P k p state.Connecting b info e h = k.ends p AskedThere info (ap is_gone e) h
kept-disconnected P k p state.Disconnecting b info e h = k.ends p AskedThere info (ap is_gone e) h
kept-disconnected P k p state.Answering b info e h = k.frees p h
kept-disconnected P k p state.Free b info e h = h
kept-disconnected P k p state.AckDisconnect b info e h = h
kept-disconnected P k p state.Ended b info e h = h
kept-disconnected P k p state.Parting b info e h = h

kept-result : (P : Peering → Type 0) → Changes P → (p : Peering) (m : Message) (sent : Option ℕ) (r : Result Bool Stop) → P p → P (by_answer p m sent r).after
kept-result P k p m sent (Err why) h = h
kept-result P k p m sent (Ok may) h = kept-answered P k p m sent may h

kept-arrival : (P : Peering → Type 0) → Changes P → (p : Peering) (m : Message) (sent : Option ℕ) (a : DataEffect) → P (record p { inbox = a.after }) → P (by_arrival p m sent a).after
kept-arrival P k p m sent a h = kept-result P k (record p { inbox = a.after }) m sent a.answer h

-- the inbox that a command meets
kept-met : (P : Peering → Type 0) → Changes P → (p : Peering) (m : Message) → is_connected p.state ≡ true → P p → P (record p { inbox = met p.inbox m })
kept-met P k p m on h = by (makes_room p.inbox m)
  where
    by : (way : Bool) → P (record p { inbox = cond way (given_way p.inbox) p.inbox })
    by true = k.gives_way p on h
    by false = h

-- sequenced data
kept-sequenced : (P : Peering → Type 0) → Changes P → (p : Peering) (j : ℕ) (c : DataCommand) → is_connected p.state ≡ true → P p → P (record p { inbox = (sequenced_on p.inbox j c (slice_get p.inbox.receivers j)).after })
kept-sequenced P k p j c on h = by (slice_get p.inbox.receivers j) refl
  where
    by-took : (r : ReceivingEnd) → slice_get p.inbox.receivers j ≡ Some r → (t : Took) → P (record p { inbox = (by_took t p.inbox j r c).after })
    by-took r there Bad = h
    by-took r there Waiting = h
    by-took r there Memory = h
    by-took r there Outside = h
    by-took r there Again = h
    by-took r there Held = k.takes p j r c on there h

    by : (o : Option ReceivingEnd) → slice_get p.inbox.receivers j ≡ o → P (record p { inbox = (sequenced_on p.inbox j c o).after })
    by None there = h
    by (Some r) there = by-took r there (outcome_for r (Some c) (is_full_for p.inbox r c))

kept-data : (P : Peering → Type 0) → Changes P → (p : Peering) (m : Message) (c : DataCommand) (sent : Option ℕ) → (is_later p.state ≡ false → is_connected p.state ≡ true) → P p
    → P (cond (is_later p.state) (by_answer p m sent (passed_over_on p.inbox c (slice_get p.inbox.receivers m.head.channel)))
    (by_arrival p m sent (sequenced_on (met p.inbox m) m.head.channel c (slice_get (met p.inbox m).receivers m.head.channel)))).after
kept-data P k p m c sent up h = by-later (is_later p.state) refl
  where
    j : ℕ
    j = m.head.channel

    b : Inbox
    b = met p.inbox m

    by-later : (t : Bool) → is_later p.state ≡ t → P (cond t (by_answer p m sent (passed_over_on p.inbox c (slice_get p.inbox.receivers j))) (by_arrival p m sent (sequenced_on b j c (slice_get b.receivers j)))).after
    by-later true e = kept-result P k p m sent (passed_over_on p.inbox c (slice_get p.inbox.receivers j)) h
    by-later false e = kept-arrival P k p m sent (sequenced_on b j c (slice_get b.receivers j)) (kept-sequenced P k (record p { inbox = b }) j c (up e) (kept-met P k p m (up e) h))

-- an unsequenced packet
if-arrival : (P : Peering → Type 0) (p : Peering) (b : Bool) (x y : DataEffect) → P (record p { inbox = x.after }) → P (record p { inbox = y.after }) → P (record p { inbox = (cond b x y).after })
if-arrival P p true x y a h = a
if-arrival P p false x y a h = h

kept-unsequenced : (P : Peering → Type 0) → Changes P → (p : Peering) (channel group : ℕ) (payload : List ℕ) → is_connected p.state ≡ true → P p → P (record p { inbox = (unsequenced p.inbox channel group payload).after })
kept-unsequenced P k p channel group payload on h =
    let b : Inbox = p.inbox in
    let took : DataEffect = handled (unsequenced_taken b channel group payload) true in
    let a3 : DataEffect = cond (is_full b) (refused b stop.Waiting) took in
    let a2 : DataEffect = cond (not (dispatches b.seen group)) (handled b true) a3 in
    let a1 : DataEffect = cond (ltb b.max_packet (length payload)) (refused b stop.BadFragment) a2 in
    if-arrival P p (leb (length b.receivers) channel) (refused b stop.BadChannel) a1 h
    (if-arrival P p (ltb b.max_packet (length payload)) (refused b stop.BadFragment) a2 h
    (if-arrival P p (not (dispatches b.seen group)) (handled b true) a3 h
    (if-arrival P p (is_full b) (refused b stop.Waiting) took h (k.takes_unsequenced p channel group payload on h))))

kept-on_unsequenced : (P : Peering → Type 0) → Changes P → (p : Peering) (h : Head) (group : ℕ) (payload : List ℕ) (sent : Option ℕ) → (is_later p.state ≡ false → is_connected p.state ≡ true) → P p
    → P (on_data p (record { head = h; body = send_unsequenced group payload }) sent).after
kept-on_unsequenced P k p h group payload sent up a = by (is_later p.state) refl
  where
    m : Message
    m = record { head = h; body = send_unsequenced group payload }

    by : (b : Bool) → is_later p.state ≡ b → P (cond b (by_answer p m sent (passed_over p.inbox m)) (by_arrival p m sent (arrival p.inbox m))).after
    by true e = kept-result P k p m sent (passed_over p.inbox m) a
    by false e = kept-arrival P k p m sent (arrival p.inbox m) (kept-unsequenced P k (record p { inbox = met p.inbox m }) h.channel group payload (up e) (kept-met P k p m (up e) a))

pub kept-obeyed : (P : Peering → Type 0) → Changes P → (p : Peering) (h : Head) (now : ℕ) (sent : Option ℕ) (body : Body) → P p → P (obeyed p now sent (record { head = h; body = body })).after
kept-obeyed P k p h now sent body a = by body
  where
    -- where it is allowed
    if-allowed : (body : Body) → (is_allowed p.state body ≡ true → P (by_body p now sent (record { head = h; body = body }) body).after)
        → P (cond (is_allowed p.state body) (unless_refused p (record { head = h; body = body }) (by_body p now sent (record { head = h; body = body }) body)) (stopped p stop.NotConnected)).after
    if-allowed body f =
        let m : Message = record { head = h; body = body } in
        if-outcome P (is_allowed p.state body) (unless_refused p m (by_body p now sent m body)) (stopped p stop.NotConnected) (λ t. unless-holds P p m (by_body p now sent m body) a (f t)) a

    by : (body : Body) → P (obeyed p now sent (record { head = h; body = body })).after
    by (connect offer) = a
    by (acknowledge number time) = if-allowed (acknowledge number time) (λ t.
        kept-answered P k (on_acknowledge p now h.channel number time) (record { head = h; body = acknowledge number time }) sent true
        (kept-acknowledged P k p now h.channel number time (allowed-here p.state (acknowledge number time) t) a))
    by (verify_connect v) = if-allowed (verify_connect v) (λ t. kept-answered P k (on_verify_in p.state p v) (record { head = h; body = verify_connect v }) sent true (kept-verified P k p v p.state refl a))
    by (disconnect info) = if-allowed (disconnect info) (λ t.
        kept-answered P k (on_disconnect_in p.state p (h.acknowledge && is_some sent) info) (record { head = h; body = disconnect info }) sent true
        (kept-disconnected P k p p.state (h.acknowledge && is_some sent) info refl a))
    by ping = if-allowed ping (λ t. kept-answered P k p (record { head = h; body = ping }) sent true a)
    by (bandwidth_limit incoming outgoing) = if-allowed (bandwidth_limit incoming outgoing) (λ t.
        kept-answered P k (on_bandwidth p incoming) (record { head = h; body = bandwidth_limit incoming outgoing }) sent true (k.quiet p (on_bandwidth p incoming) refl a))
    by (throttle_configure interval acceleration deceleration) = if-allowed (throttle_configure interval acceleration deceleration) (λ t.
        kept-answered P k (on_throttle p interval acceleration deceleration) (record { head = h; body = throttle_configure interval acceleration deceleration }) sent true
        (k.quiet p (on_throttle p interval acceleration deceleration) refl a))
    by (send_unsequenced group payload) = if-allowed (send_unsequenced group payload) (λ t.
        kept-on_unsequenced P k p h group payload sent (allowed-connected p.state (send_unsequenced group payload) refl t) a)
    by (send_reliable payload) = if-allowed (send_reliable payload) (λ t.
        kept-data P k p (record { head = h; body = send_reliable payload }) (record { reliable = true; number = h.number; unreliable = 0; fragment = None; body = payload }) sent (allowed-connected p.state (send_reliable payload) refl t) a)
    by (send_unreliable n payload) = if-allowed (send_unreliable n payload) (λ t.
        kept-data P k p (record { head = h; body = send_unreliable n payload }) (record { reliable = false; number = h.number; unreliable = n; fragment = None; body = payload }) sent (allowed-connected p.state (send_unreliable n payload) refl t) a)
    by (send_fragment f payload) = if-allowed (send_fragment f payload) (λ t.
        kept-data P k p (record { head = h; body = send_fragment f payload }) (record { reliable = true; number = h.number; unreliable = 0; fragment = Some f; body = payload }) sent (allowed-connected p.state (send_fragment f payload) refl t) a)
    by (send_unreliable_fragment f payload) = if-allowed (send_unreliable_fragment f payload) (λ t.
        kept-data P k p (record { head = h; body = send_unreliable_fragment f payload }) (record { reliable = false; number = h.number; unreliable = f.start; fragment = Some f; body = payload }) sent (allowed-connected p.state (send_unreliable_fragment f payload) refl t) a)

-- a peer that waits for its client is let go, since its host gives its slot to another
pub kept-given_way : (P : Peering → Type 0) → Changes P → (p : Peering) → P p → P (freed p)
kept-given_way P k p h = k.frees p h

-- a command comes to a host that may be full

refuses-answering : (p : Peering) (h : Head) (body : Body) → confirms_by p h body ≡ true → p.state ≡ state.Answering
refuses-answering p h (acknowledge number told) e =
    answering-is p.state (and-left (is_answering p.state) (is_answer (matched_by p.outbox h.channel number (meant_time told (p.offset % 2 ^ 16)))) e)
refuses-answering p h body e = absurd (let y : false ≡ true = e in cc)

pub kept-heeded : (P : Peering → Type 0) → Changes P → (full : Bool) (p : Peering) (h : Head) (now : ℕ) (sent : Option ℕ) (body : Body) → P p → P (heeded full p now sent (record { head = h; body = body })).after
kept-heeded P k full p h now sent body a =
    if-outcome P (full && confirms_by p h body) (record { stop = None; after = turned_away p }) (obeyed p now sent (record { head = h; body = body }))
    (λ t. k.quiet (told_full p) (turned_away p) refl (k.refuses p (refuses-answering p h body (and-right full (confirms_by p h body) t)) a)) (kept-obeyed P k p h now sent body a)

-- one that was refused is told so again
pub kept-told_again : (P : Peering → Type 0) → Changes P → (p : Peering) → is_turned_away p ≡ true → P p → P (told_again p)
kept-told_again P k p away h =
    if-peer P (ltb 0 (length p.outbox.control.queued)) p (told_full p) (λ t. h) (k.refuses p (answering-is p.state (and-left (is_answering p.state) p.refused away)) h)
