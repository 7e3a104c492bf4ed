-- Whatever comes, an end puts out unsequenced packets that its user submitted to go so, and tells its client of its own slot.
use Rattle.std.proofs.Common.{◌≡◌, ℕ, ◌/◌, ◌%◌, ◌^◌, Bool, true, false, cond, ltb, ◌==◌, ◌&&◌, not, List, [], ◌∷◌, ◌++◌, length, refl, sym, subst, inl, inr, arith, Option, Some, None, Result, Ok, Err}
use Rattle.std.specs.Prelude.{is_some}
use Rattle.std.specs.List.{slice_get}
use Rattle.std.proofs.lemmas.Bool.{and_parts}
use Rattle.std.proofs.lemmas.Bool.Decides.{nat_tests}
use Rattle.enet_rtt.specs.Clock.{meant_time}
use Rattle.enet_rtt.specs.declared.transmission.Tick.{Tick as Moment}
use Rattle.enet_codec.specs.declared.command.Head.{Head}
use Rattle.enet_codec.specs.declared.command.Verify.{Verify}
use Rattle.enet_codec.specs.declared.packet.Packet.{Packet}
use Rattle.enet_codec.specs.declared.stop.Stop.{Stop}
use Rattle.enet_codec.specs.declared.stop.Stop.TheVariants as stop
use Rattle.enet_codec.specs.Message.{Message, Body, acknowledge, connect, verify_connect, disconnect, ping, send_reliable, send_unreliable, send_fragment, send_unsequenced, bandwidth_limit, throttle_configure, send_unreliable_fragment}
use Rattle.enet_rtt.specs.declared.expiry.Expiry.{Expiry}
use Rattle.enet_rtt.specs.declared.expiry.Expiry.TheVariants.{No, Resend, End as Ends}
use Rattle.enet_connect.specs.declared.terms.Terms.{Terms}
use Rattle.enet_connect.specs.Verification.{confirmed}
use Rattle.enet_senders.specs.declared.control.Control.{Control}
use Rattle.enet_senders.specs.declared.control.Control.TheVariants as control
use Rattle.enet_senders.specs.declared.control.Numbered.{Numbered}
use Rattle.enet_senders.specs.declared.control.SentControl.{SentControl}
use Rattle.enet_senders.specs.Controlling.{Commands, body_of}
use Rattle.enet_senders.specs.Controlling as controlling
use Rattle.enet_codec.specs.declared.command.Fragment.{Fragment}
use Rattle.enet_fragment.specs.DataCommand.{message_of, wire_body}
use Rattle.enet_inbox.specs.DataEffect.{DataEffect, passed_over, arrival}
use Rattle.enet_receiver.specs.Members.{Has}
use Rattle.enet_sender.specs.CommandChoice as command_choice
use Rattle.enet_sender.specs.Due.{SendingEnd}
use Rattle.enet_outbox.specs.declared.parts.Matched.{Matched}
use Rattle.enet_outbox.specs.declared.parts.Matched.TheVariants as matched
use Rattle.enet_outbox.specs.declared.parts.Pace.{Pace}
use Rattle.enet_outbox.specs.declared.parts.Unsequenced.{Unsequenced}
use Rattle.enet_outbox.specs.Outbox.{Outbox, after_acknowledgement, acknowledged_on, is_done, is_unsequenced, matched_by, told_by, with_growth, with_unsequenced, with_sequenced}
use Rattle.enet_outbox.specs.Outbox as outbox
use Rattle.enet_outbox.specs.Emission.{Filling, acknowledgement_of, unsequenced_of, filled}
use Rattle.enet_outbox.proofs.Filled.{by-filling}
use Rattle.enet_peer.specs.Peering.{Peering}
use Rattle.enet_peer.specs.declared.parts.Ending.{Ending}
use Rattle.enet_peer.specs.declared.parts.Ending.TheVariants.{AskedHere, AskedThere, BadAnswer}
use Rattle.enet_peer.specs.declared.parts.PeerState.{PeerState}
use Rattle.enet_peer.specs.declared.parts.PeerState.TheVariants as state
use Rattle.enet_peer.specs.Endings.{ended, freed, disconnecting, parting, settled, is_later, silence_ending, cut_off_in}
use Rattle.enet_peer.specs.CommandEffect.{Outcome, answered, answered_at, is_answered_in, is_allowed, obeyed, unless_refused, by_body, by_answer, by_arrival, on_data, stopped, sampled, with_answer, on_match, accepted, is_connecting, on_acknowledge, welcomed, on_verify_in, on_last_disconnect, on_disconnect_in, on_bandwidth, on_throttle}
use Rattle.enet_peer.specs.Refusing.{full_word, heeded, told_again, told_full}
use Rattle.enet_peer.specs.Calls.{left, after_timeouts, after_timeouts_by, expiry_of, held_back, is_held_back, is_pinged, moved, ticked, is_connected, gone_on_in, pace_of, submitted}
use Rattle.enet_peer.proofs.Obeying.{unless-holds, unwelcomed-holds}
use Rattle.enet_peer.proofs.Refusals.{heeded-holds}
use Rattle.law_connection.specs.Steps.{Way, Asking, Now, Later, leave_by, Setting, Bandwidth, Throttle, ThrottleLimit, PingInterval, Timeout, with_setting}
use Rattle.law_connection.proofs.Emits.{Has-from_map}
use Rattle.law_connection.proofs.Events.{took}
use Rattle.law_connection.proofs.CarriageLemmas.{Has-append_left}
use Rattle.law_connection.proofs.Lists.{Has-push_cases, Has-push, Has-append_cases, Has-slice_get}
use Rattle.law_one_end.specs.OneEnd.{OneEnd, Event, Submit, Emit, Come, Tick, Take, Disconnect, Set, GiveWay, TellAgain, Happens, Runs, beginning}
use Rattle.law_one_end.specs.Sent.{HasLoose, TellsSlot}
use Rattle.law_one_end.proofs.Confirming.{Goes, Heads, Repeats, goes, held_back-command}
use Rattle.law_one_end.proofs.Sending.{Has-set, Has-remove}

-- a VERIFY_CONNECT tells this slot
abbrev TellsIn : ℕ → Control → Type 0
TellsIn n (control.VerifyConnect v) = v.outgoing_peer ≡ n
TellsIn n (control.Connect offer) = Unit {0}
TellsIn n (control.Disconnect info) = Unit {0}
TellsIn n (control.DisconnectNow info) = Unit {0}
TellsIn n control.Ping = Unit {0}
TellsIn n (control.BandwidthLimit incoming outgoing) = Unit {0}
TellsIn n (control.ThrottleConfigure interval acceleration deceleration) = Unit {0}

-- what is to go: the unsequenced packets that wait, and the commands of channel 0xFF
pub record Queues (qs : List Packet) (n : ℕ) (us : List Unsequenced) (c : Commands) : Type 0 where
  pub loose : (u : Unsequenced) → Has us u → HasLoose qs u.channel u.body
  pub queued : (x : Numbered) → Has c.queued x → TellsIn n x.control
  pub sent : (t : SentControl) → Has c.sent t → TellsIn n t.command.control

abbrev pub QueuesAt : List Packet → ℕ → Peering → Type 0
QueuesAt qs n p = Queues qs n p.outbox.unsequenced p.outbox.control

-- all is dropped
dropped-queues : (qs : List Packet) (n : ℕ) (c : Commands) → Queues qs n [] (controlling.cleared c)
dropped-queues qs n c = record { loose = λ u h. absurd h; queued = λ x h. absurd h; sent = λ t h. absurd h }

-- the commands are
quiet-queues : (qs : List Packet) (n : ℕ) (us : List Unsequenced) (c : Commands) → Queues qs n us c → Queues qs n us (controlling.cleared c)
quiet-queues qs n us c k = record { loose = k.loose; queued = λ x h. absurd h; sent = λ t h. absurd h }

-- one more is queued
more-queues : (qs : List Packet) (n : ℕ) (us : List Unsequenced) (c : Commands) (what : Control) → TellsIn n what → Queues qs n us c → Queues qs n us (controlling.with_queued c what)
more-queues qs n us c what tells k = record {
  loose = k.loose;
  queued = λ x h. elim (Has-push_cases c.queued _ x h) [
    | inl old ↦ k.queued x old
    | inr new ↦ subst (λ (y : Numbered). TellsIn n y.control) new tells
  ];
  sent = k.sent;
}

marked-queues : (qs : List Packet) (n : ℕ) (us : List Unsequenced) (c : Commands) (tick : Moment) → Queues qs n us c → Queues qs n us (controlling.with_marked tick c)
marked-queues qs n us c tick k = record {
  loose = k.loose;
  queued = k.queued;
  sent = λ t h. (let r = Has-from_map (controlling.marked tick) c.sent t h in subst (λ (y : SentControl). TellsIn n y.command.control) r.2 (k.sent r.0 r.1));
}

held_back-queues : (qs : List Packet) (n : ℕ) (us : List Unsequenced) (c : Commands) (tick : Moment) → Queues qs n us c → Queues qs n us (controlling.with_held_back tick c)
held_back-queues qs n us c tick k = record {
  loose = k.loose;
  queued = k.queued;
  sent = λ t h. (let r = Has-from_map (controlling.held_back tick) c.sent t h in
      subst (λ (y : SentControl). TellsIn n y.command.control) r.2 (subst (λ (y : Numbered). TellsIn n y.control) (sym (held_back-command tick r.0)) (k.sent r.0 r.1)));
}

acknowledged-queues : (qs : List Packet) (n : ℕ) (o : Outbox) (channel number : ℕ) → Queues qs n o.unsequenced o.control → Queues qs n (after_acknowledgement o channel number).unsequenced (after_acknowledgement o channel number).control
acknowledged-queues qs n o channel number k = by (channel == 0xFF)
  where
    less : (i : Option ℕ) (t : SentControl) → Has (controlling.without_place o.control.sent i) t → Has o.control.sent t
    less None t h = h
    less (Some i) t h = Has-remove o.control.sent i t h

    P : Outbox → Type 0
    P x = Queues qs n x.unsequenced x.control

    at : (s : Option SendingEnd) → P (acknowledged_on o channel number s)
    at None = k
    at (Some s) = k

    by : (b : Bool) → P (cond b (record o { control = controlling.after_acknowledgement o.control number }) (acknowledged_on o channel number (slice_get o.senders channel)))
    by true = record { loose = k.loose; queued = k.queued; sent = λ t h. k.sent t (less (controlling.position_of number o.control.sent) t h) }
    by false = at (slice_get o.senders channel)

-- ---- a peer

if-peer : (P : Peering → Type 0) (b : Bool) (p q : Peering) → P p → P q → P (cond b p q)
if-peer P true p q x y = x
if-peer P false p q x y = y

if-outcome : (P : Peering → Type 0) (b : Bool) (x y : Outcome) → P x.after → P y.after → P (cond b x y).after
if-outcome P true x y f g = f
if-outcome P false x y f g = g

ended-queues : (qs : List Packet) (n : ℕ) (p : Peering) (why : Ending) (info : ℕ) → QueuesAt qs n (ended p why info)
ended-queues qs n p why info = dropped-queues qs n p.outbox.control

freed-queues : (qs : List Packet) (n : ℕ) (p : Peering) → QueuesAt qs n (freed p)
freed-queues qs n p = dropped-queues qs n p.outbox.control

parting-queues : (qs : List Packet) (n : ℕ) (p : Peering) (info : ℕ) → QueuesAt qs n (parting p info)
parting-queues qs n p info = more-queues qs n [] (controlling.cleared p.outbox.control) (control.DisconnectNow info) tt (dropped-queues qs n p.outbox.control)

disconnecting-queues : (qs : List Packet) (n : ℕ) (p : Peering) (info : ℕ) → QueuesAt qs n (disconnecting p info)
disconnecting-queues qs n p info = more-queues qs n [] (controlling.cleared p.outbox.control) (control.Disconnect info) tt (dropped-queues qs n p.outbox.control)

settled-queues : (qs : List Packet) (n : ℕ) (p : Peering) → QueuesAt qs n p → QueuesAt qs n (settled p)
settled-queues qs n p k = if-peer (QueuesAt qs n) (is_later p.state && is_done p.outbox) (disconnecting p p.info) p (disconnecting-queues qs n p p.info) k

-- the clock

cut_off-queues : (qs : List Packet) (n : ℕ) (p : Peering) (s : PeerState) → QueuesAt qs n (cut_off_in s p)
cut_off-queues qs n p state.Answering = freed-queues qs n p
cut_off-queues qs n p s = ended-queues qs n p (silence_ending s) 0

timeouts-queues : (qs : List Packet) (n : ℕ) (p : Peering) (now : ℕ) → QueuesAt qs n p → QueuesAt qs n (after_timeouts p now)
timeouts-queues qs n p now k = by (expiry_of p now)
  where
    by : (x : Expiry) → QueuesAt qs n (after_timeouts_by x p now)
    by Ends = cut_off-queues qs n p p.state
    by Resend = marked-queues qs n p.outbox.unsequenced p.outbox.control _ k
    by No = k

ticked-queues : (qs : List Packet) (n : ℕ) (p : Peering) (now : ℕ) → QueuesAt qs n p → QueuesAt qs n (ticked p now)
ticked-queues qs n p now k =
    let q : Peering = after_timeouts p now in
    let h : QueuesAt qs n q = timeouts-queues qs n p now k in
    if-peer (QueuesAt qs n) (is_pinged q now) (record q { outbox = outbox.with_control q.outbox control.Ping }) q (more-queues qs n q.outbox.unsequenced q.outbox.control control.Ping tt h) h

moved-queues : (qs : List Packet) (n : ℕ) (short : Bool) (p : Peering) (now : ℕ) → QueuesAt qs n p → QueuesAt qs n (moved short p now)
moved-queues qs n short p now k =
    if-peer (QueuesAt qs n) (is_held_back short p now) (held_back p now) (ticked p now) (held_back-queues qs n p.outbox.unsequenced p.outbox.control _ k) (ticked-queues qs n p now k)

-- the user ends the connection

left-some : (qs : List Packet) (n : ℕ) (x q : Peering) → QueuesAt qs n x → Some x ≡ Some q → QueuesAt qs n q
left-some qs n x q h e = (let same : x ≡ q = cc in subst (QueuesAt qs n) same h)

left-none : {A : Type 0} (q : Peering) → None ≡ Some q → A
left-none q e = absurd (cc)

left-queues : (qs : List Packet) (n : ℕ) (p q : Peering) (way : Way) (info : ℕ) → left (leave_by way p.state) p info ≡ Some q → QueuesAt qs n p → QueuesAt qs n q
left-queues qs n p q way info e k = by way p.state e
  where
    waiting : Peering
    waiting = record p { state = state.DisconnectLater; info = info }

    by : (way : Way) (s : PeerState) → left (leave_by way s) p info ≡ Some q → QueuesAt qs n q
    by Asking state.Connecting e = left-some qs n (freed p) q (freed-queues qs n p) e
    by Asking state.Answering e = left-some qs n (parting p info) q (parting-queues qs n p info) e
    by Asking state.Connected e = left-some qs n (disconnecting p info) q (disconnecting-queues qs n p info) e
    by Asking state.DisconnectLater e = left-some qs n (disconnecting p info) q (disconnecting-queues qs n p info) e
    by Now state.Connecting e = left-some qs n (freed p) q (freed-queues qs n p) e
    by Now state.Answering e = left-some qs n (parting p info) q (parting-queues qs n p info) e
    by Now state.Connected e = left-some qs n (parting p info) q (parting-queues qs n p info) e
    by Now state.DisconnectLater e = left-some qs n (parting p info) q (parting-queues qs n p info) e
    by Later state.Connecting e = left-some qs n (freed p) q (freed-queues qs n p) e
    by Later state.Answering e = left-some qs n (parting p info) q (parting-queues qs n p info) e
    by Later state.Connected e = left-some qs n (settled waiting) q (settled-queues qs n waiting k) e
    by Asking s e = left-none q e
    by Now s e = left-none q e
    by Later s e = left-none q e

-- the user sets something
set-queues : (qs : List Packet) (n : ℕ) (p : Peering) (s : Setting) → QueuesAt qs n p → QueuesAt qs n (with_setting s p)
set-queues qs n p (Bandwidth incoming outgoing) k = by (is_connected p.state)
  where
    by : (b : Bool) → QueuesAt qs n (record p { limits = record p.limits { incoming = incoming; outgoing = outgoing }; outbox = cond b (outbox.with_control p.outbox (control.BandwidthLimit incoming outgoing)) p.outbox })
    by true = more-queues qs n p.outbox.unsequenced p.outbox.control (control.BandwidthLimit incoming outgoing) tt k
    by false = k
set-queues qs n p (Throttle interval acceleration deceleration) k = more-queues qs n p.outbox.unsequenced p.outbox.control (control.ThrottleConfigure interval acceleration deceleration) tt k
set-queues qs n p (ThrottleLimit limit) k = k
set-queues qs n p (PingInterval ms) k = k
set-queues qs n p (Timeout limit minimum maximum) k = k

-- a datagram has gone

gone_on-by : (qs : List Packet) (n : ℕ) (p : Peering) (s : PeerState) → QueuesAt qs n p → QueuesAt qs n (gone_on_in s p)
gone_on-by qs n p state.AckDisconnect k = ended-queues qs n p AskedThere p.info
gone_on-by qs n p state.Parting k = if-peer (QueuesAt qs n) (ltb 0 (length p.outbox.control.queued)) p (freed p) k (freed-queues qs n p)
gone_on-by qs n p s k = settled-queues qs n p k

-- a command comes

answered-queues : (qs : List Packet) (n : ℕ) (p : Peering) (m : Message) (sent : Option ℕ) (may : Bool) → QueuesAt qs n p → QueuesAt qs n (answered p m sent may).after
answered-queues qs n p m sent may k = if-outcome (QueuesAt qs n) (m.head.acknowledge && may && is_answered_in p.state m.body) (answered_at p m.head sent) (record { stop = None; after = p }) (by sent) k
  where
    by : (o : Option ℕ) → QueuesAt qs n (answered_at p m.head o).after
    by None = k
    by (Some time) = k

result-queues : (qs : List Packet) (n : ℕ) (p : Peering) (m : Message) (sent : Option ℕ) (r : Result Bool Stop) → QueuesAt qs n p → QueuesAt qs n (by_answer p m sent r).after
result-queues qs n p m sent (Err why) k = k
result-queues qs n p m sent (Ok may) k = answered-queues qs n p m sent may k

with_answer-queues : (qs : List Packet) (n : ℕ) (p : Peering) (s : PeerState) (what : Control) → QueuesAt qs n p → QueuesAt qs n (with_answer s what p)
with_answer-queues qs n p state.Answering (control.VerifyConnect verify) k = k
with_answer-queues qs n p state.Disconnecting (control.Disconnect info) k = ended-queues qs n p AskedHere 0
with_answer-queues qs n p s what k = k

on_acknowledge-queues : (qs : List Packet) (n : ℕ) (p : Peering) (now channel number told : ℕ) → QueuesAt qs n p → QueuesAt qs n (on_acknowledge p now channel number told)
on_acknowledge-queues qs n p now channel number told k = if-peer (QueuesAt qs n) (is_connecting p.state) p (accepted p now channel number time) k (by (matched_by p.outbox channel number time))
  where
    time : ℕ
    time = meant_time told (p.offset % 2 ^ 16)

    q : Peering
    q = sampled (record p { outbox = with_growth (after_acknowledgement p.outbox channel number) (told_by p.outbox channel number time) }) now time

    h : QueuesAt qs n q
    h = acknowledged-queues qs n p.outbox channel number k

    by : (x : Matched) → QueuesAt qs n (on_match x p q)
    by matched.Nothing = k
    by matched.Data = settled-queues qs n q h
    by (matched.Control what) = settled-queues qs n (with_answer p.state what q) (with_answer-queues qs n q p.state what h)

last-queues : (qs : List Packet) (n : ℕ) (p : Peering) (b : Bool) (info : ℕ) → QueuesAt qs n (on_last_disconnect p b info)
last-queues qs n p true info = dropped-queues qs n p.outbox.control
last-queues qs n p false info = ended-queues qs n p AskedThere info

on_disconnect-queues : (qs : List Packet) (n : ℕ) (p : Peering) (s : PeerState) (b : Bool) (info : ℕ) → QueuesAt qs n p → QueuesAt qs n (on_disconnect_in s p b info)
on_disconnect-queues qs n p state.Connected b info k = last-queues qs n p b info
on_disconnect-queues qs n p state.DisconnectLater b info k = last-queues qs n p b info
on_disconnect-queues qs n p state.Connecting b info k = ended-queues qs n p AskedThere info
on_disconnect-queues qs n p state.Disconnecting b info k = ended-queues qs n p AskedThere info
on_disconnect-queues qs n p state.Answering b info k = freed-queues qs n p
on_disconnect-queues qs n p state.Free b info k = k
on_disconnect-queues qs n p state.AckDisconnect b info k = k
on_disconnect-queues qs n p state.Ended b info k = k
on_disconnect-queues qs n p state.Parting b info k = k

verify-queues : (qs : List Packet) (n : ℕ) (p : Peering) (v : Verify) (s : PeerState) → QueuesAt qs n p → QueuesAt qs n (on_verify_in s p v)
verify-queues qs n p v state.Connecting k = by (confirmed p.offer v)
  where
    by : (o : Option Terms) → QueuesAt qs n (welcomed p v o)
    by None = unwelcomed-holds (QueuesAt qs n) p v k (ended-queues qs n p BadAnswer 0)
    by (Some terms) = dropped-queues qs n p.outbox.control
verify-queues qs n p v s k = k

data-queues : (qs : List Packet) (n : ℕ) (p : Peering) (m : Message) (sent : Option ℕ) → QueuesAt qs n p → QueuesAt qs n (on_data p m sent).after
data-queues qs n p m sent k = by (is_later p.state)
  where
    by : (b : Bool) → QueuesAt qs n (cond b (by_answer p m sent (passed_over p.inbox m)) (by_arrival p m sent (arrival p.inbox m))).after
    by true = result-queues qs n p m sent (passed_over p.inbox m) k
    by false = (let a : DataEffect = arrival p.inbox m in result-queues qs n (record p { inbox = a.after }) m sent a.answer k)

obeyed-queues : (qs : List Packet) (n : ℕ) (p : Peering) (h : Head) (now : ℕ) (sent : Option ℕ) (body : Body) → QueuesAt qs n p → QueuesAt qs n (obeyed p now sent (record { head = h; body = body })).after
obeyed-queues qs n p h now sent body k = by body
  where
    message : Body → Message
    message body = record { head = h; body = body }

    if-allowed : (body : Body) → QueuesAt qs n (by_body p now sent (message body) body).after
        → QueuesAt qs n (cond (is_allowed p.state body) (unless_refused p (message body) (by_body p now sent (message body) body)) (stopped p stop.NotConnected)).after
    if-allowed body f = if-outcome (QueuesAt qs n) (is_allowed p.state body) (unless_refused p (message body) (by_body p now sent (message body) body)) (stopped p stop.NotConnected)
        (unless-holds (QueuesAt qs n) p (message body) (by_body p now sent (message body) body) k f) k

    by : (body : Body) → QueuesAt qs n (obeyed p now sent (message body)).after
    by (connect offer) = k
    by (acknowledge number time) = if-allowed (acknowledge number time) (answered-queues qs n (on_acknowledge p now h.channel number time) (message (acknowledge number time)) sent true (on_acknowledge-queues qs n p now h.channel number time k))
    by (verify_connect v) = if-allowed (verify_connect v) (answered-queues qs n (on_verify_in p.state p v) (message (verify_connect v)) sent true (verify-queues qs n p v p.state k))
    by (disconnect info) = if-allowed (disconnect info)
        (answered-queues qs n (on_disconnect_in p.state p (h.acknowledge && is_some sent) info) (message (disconnect info)) sent true (on_disconnect-queues qs n p p.state (h.acknowledge && is_some sent) info k))
    by ping = if-allowed ping (answered-queues qs n p (message ping) sent true k)
    by (bandwidth_limit incoming outgoing) = if-allowed (bandwidth_limit incoming outgoing) (answered-queues qs n (on_bandwidth p incoming) (message (bandwidth_limit incoming outgoing)) sent true k)
    by (throttle_configure interval acceleration deceleration) = if-allowed (throttle_configure interval acceleration deceleration)
        (answered-queues qs n (on_throttle p interval acceleration deceleration) (message (throttle_configure interval acceleration deceleration)) sent true k)
    by (send_unsequenced group payload) = if-allowed (send_unsequenced group payload) (data-queues qs n p (message (send_unsequenced group payload)) sent k)
    by (send_reliable payload) = if-allowed (send_reliable payload) (data-queues qs n p (message (send_reliable payload)) sent k)
    by (send_unreliable number payload) = if-allowed (send_unreliable number payload) (data-queues qs n p (message (send_unreliable number payload)) sent k)
    by (send_fragment f payload) = if-allowed (send_fragment f payload) (data-queues qs n p (message (send_fragment f payload)) sent k)
    by (send_unreliable_fragment f payload) = if-allowed (send_unreliable_fragment f payload) (data-queues qs n p (message (send_unreliable_fragment f payload)) sent k)

full-queues : (qs : List Packet) (n : ℕ) (p : Peering) → QueuesAt qs n p → QueuesAt qs n (told_full p)
full-queues qs n p k = more-queues qs n p.outbox.unsequenced (controlling.cleared p.outbox.control) (control.DisconnectNow full_word) tt (quiet-queues qs n p.outbox.unsequenced p.outbox.control k)

heeded-queues : (qs : List Packet) (n : ℕ) (full : Bool) (p : Peering) (h : Head) (now : ℕ) (sent : Option ℕ) (body : Body) → QueuesAt qs n p → QueuesAt qs n (heeded full p now sent (record { head = h; body = body })).after
heeded-queues qs n full p h now sent body k =
    heeded-holds (λ (o : Outcome). QueuesAt qs n o.after) full p now sent (record { head = h; body = body }) (obeyed-queues qs n p h now sent body k) (λ answers. full-queues qs n p k)

again-queues : (qs : List Packet) (n : ℕ) (p : Peering) → QueuesAt qs n p → QueuesAt qs n (told_again p)
again-queues qs n p k = if-peer (QueuesAt qs n) (ltb 0 (length p.outbox.control.queued)) p (told_full p) k (full-queues qs n p k)

-- ---- a datagram

-- a command that is put out
abbrev PutBody : List Packet → ℕ → ℕ → Body → Type 0
PutBody qs n channel (send_unsequenced group payload) = HasLoose qs channel payload
PutBody qs n channel (verify_connect v) = v.outgoing_peer ≡ n
PutBody qs n channel (acknowledge number time) = Unit {0}
PutBody qs n channel (connect offer) = Unit {0}
PutBody qs n channel (disconnect info) = Unit {0}
PutBody qs n channel ping = Unit {0}
PutBody qs n channel (send_reliable payload) = Unit {0}
PutBody qs n channel (send_unreliable number payload) = Unit {0}
PutBody qs n channel (send_fragment f payload) = Unit {0}
PutBody qs n channel (bandwidth_limit incoming outgoing) = Unit {0}
PutBody qs n channel (throttle_configure interval acceleration deceleration) = Unit {0}
PutBody qs n channel (send_unreliable_fragment f payload) = Unit {0}

abbrev ArePut : List Packet → ℕ → List Message → Type 0
ArePut qs n ms = (m : Message) → Has ms m → PutBody qs n m.head.channel m.body

record Fills (qs : List Packet) (n : ℕ) (f : Filling) : Type 0 where
  queues : Queues qs n f.outbox.unsequenced f.outbox.control
  puts : ArePut qs n f.messages

more-puts : (qs : List Packet) (n : ℕ) (ms : List Message) (m : Message) → ArePut qs n ms → PutBody qs n m.head.channel m.body → ArePut qs n (ms ++ m ∷ [])
more-puts qs n ms m old new x there = elim (Has-push_cases ms m x there) [
  | inl k ↦ old x k
  | inr e ↦ subst (λ (y : Message). PutBody qs n y.head.channel y.body) e new
]

control-puts : (qs : List Packet) (n channel : ℕ) (what : Control) → TellsIn n what → PutBody qs n channel (body_of what)
control-puts qs n channel (control.VerifyConnect v) k = k
control-puts qs n channel (control.Connect offer) k = tt
control-puts qs n channel (control.Disconnect info) k = tt
control-puts qs n channel (control.DisconnectNow info) k = tt
control-puts qs n channel control.Ping k = tt
control-puts qs n channel (control.BandwidthLimit incoming outgoing) k = tt
control-puts qs n channel (control.ThrottleConfigure interval acceleration deceleration) k = tt

data-puts : (qs : List Packet) (n channel : ℕ) (r : Bool) (f : Option Fragment) (number : ℕ) (body : List ℕ) → PutBody qs n channel (wire_body r f number body)
data-puts qs n channel true None number body = tt
data-puts qs n channel true (Some f) number body = tt
data-puts qs n channel false None number body = tt
data-puts qs n channel false (Some f) number body = tt

-- the command that is due on channel 0xFF, and what is left
goes-queues : (qs : List Packet) (n : ℕ) (us : List Unsequenced) (now wait : ℕ) (c : Commands) (x : controlling.Next) → Goes now wait c x → Queues qs n us c → TellsIn n x.command.control × Queues qs n us x.commands
goes-queues qs n us now wait c x (Heads y rest q is) k = subst (λ (z : controlling.Next). TellsIn n z.command.control × Queues qs n us z.commands) is (
  first,
  record {
    loose = k.loose;
    queued = λ m h. k.queued m (subst (λ (l : List Numbered). Has l m) (sym q) (inr h));
    sent = by (controlling.is_reliable y.control);
  },
)
  where
    first : TellsIn n y.control
    first = k.queued y (subst (λ (l : List Numbered). Has l y) (sym q) (inl refl))

    by : (b : Bool) (t : SentControl) → Has (cond b (c.sent ++ controlling.begun now wait y ∷ []) c.sent) t → TellsIn n t.command.control
    by false t h = k.sent t h
    by true t h = elim (Has-push_cases c.sent (controlling.begun now wait y) t h) [
      | inl there ↦ k.sent t there
      | inr same ↦ subst (λ (z : SentControl). TellsIn n z.command.control) same first
    ]
goes-queues qs n us now wait c x (Repeats i p there is) k = subst (λ (z : controlling.Next). TellsIn n z.command.control × Queues qs n us z.commands) is (
  first,
  record {
    loose = k.loose;
    queued = k.queued;
    sent = λ t h. elim (Has-set c.sent i (controlling.again now p) t h) [
      | inl same ↦ subst (λ (z : SentControl). TellsIn n z.command.control) same first
      | inr before ↦ k.sent t before
    ];
  },
)
  where
    first : TellsIn n p.command.control
    first = k.sent p (Has-slice_get c.sent i p there)

fewer-queues : (qs : List Packet) (n : ℕ) (us rest : List Unsequenced) (u : Unsequenced) (c : Commands) → us ≡ u ∷ rest → Queues qs n us c → Queues qs n rest c
fewer-queues qs n us rest u c e k = record { loose = λ x h. k.loose x (subst (λ l. Has l x) (sym e) (inr h)); queued = k.queued; sent = k.sent }

fills : (qs : List Packet) (n : ℕ) (pace : Pace) (o : Outbox) → Queues qs n o.unsequenced o.control → Fills qs n (filled pace o)
fills qs n pace o k =
    by-filling pace o (Fills qs n) (record {
      closes = λ f a. record { queues = a.queues; puts = a.puts };
      acknowledges = λ f x rest e a. record { queues = a.queues; puts = more-puts qs n f.messages (acknowledgement_of x) a.puts tt };
      controls = λ f x e a. (let g = goes-queues qs n f.outbox.unsequenced pace.now pace.timeout f.outbox.control x (goes pace.now pace.timeout f.outbox.control x e) a.queues in record {
        queues = g.1;
        puts = more-puts qs n f.messages (controlling.message_of x.command) a.puts (control-puts qs n 0xFF x.command.control g.0);
      });
      puts_unsequenced = λ f u rest t e a. (let q = a.queues in record {
        queues = fewer-queues qs n f.outbox.unsequenced rest u f.outbox.control e q;
        puts = more-puts qs n f.messages (unsequenced_of u) a.puts (q.loose u (subst (λ l. Has l u) (sym e) (inl refl)));
      });
      drops_unsequenced = λ f u rest t e a. record { queues = fewer-queues qs n f.outbox.unsequenced rest u f.outbox.control e a.queues; puts = a.puts };
      puts_data = λ f i s x t there due a. record { queues = a.queues; puts = more-puts qs n f.messages (message_of s.channel x.command) a.puts (data-puts qs n s.channel x.command.reliable x.command.fragment x.command.unreliable x.command.body) };
      drops_data = λ f i s x t there due kind a. record { queues = a.queues; puts = a.puts };
      keeps_room = λ f i s there wants a. record { queues = a.queues; puts = a.puts };
      gives_room = λ f i s x there due a. record { queues = a.queues; puts = a.puts };
    }) (record { queues = k; puts = λ m there. absurd there })

-- ---- an end

pub record Sends (n : ℕ) (e : OneEnd) : Type 0 where
  pub queues : QueuesAt e.submitted n e.peer
  pub puts : ArePut e.submitted n e.put

-- more was submitted
loose-more : (qs : List Packet) (q : Packet) (channel : ℕ) (body : List ℕ) → HasLoose qs channel body → HasLoose (qs ++ q ∷ []) channel body
loose-more qs q channel body w = (w.0, Has-append_left qs (q ∷ []) w.0 w.1, w.2, w.3, w.4)

put-more : (qs : List Packet) (q : Packet) (n channel : ℕ) (body : Body) → PutBody qs n channel body → PutBody (qs ++ q ∷ []) n channel body
put-more qs q n channel (send_unsequenced group payload) k = loose-more qs q channel payload k
put-more qs q n channel (verify_connect v) k = k
put-more qs q n channel (acknowledge number time) k = tt
put-more qs q n channel (connect offer) k = tt
put-more qs q n channel (disconnect info) k = tt
put-more qs q n channel ping k = tt
put-more qs q n channel (send_reliable payload) k = tt
put-more qs q n channel (send_unreliable number payload) k = tt
put-more qs q n channel (send_fragment f payload) k = tt
put-more qs q n channel (bandwidth_limit incoming outgoing) k = tt
put-more qs q n channel (throttle_configure interval acceleration deceleration) k = tt
put-more qs q n channel (send_unreliable_fragment f payload) k = tt

queues-more : (qs : List Packet) (q : Packet) (n : ℕ) (us : List Unsequenced) (c : Commands) → Queues qs n us c → Queues (qs ++ q ∷ []) n us c
queues-more qs q n us c k = record { loose = λ u h. loose-more qs q u.channel u.body (k.loose u h); queued = k.queued; sent = k.sent }

-- the flag UNSEQUENCED without RELIABLE
flags-of : (flags : ℕ) (long : Bool) → (flags / 2 % 2 == 1 && not (flags % 2 == 1) && not long) ≡ true → flags % 4 ≡ 2
flags-of flags long e =
    let first = and_parts (flags / 2 % 2 == 1 && not (flags % 2 == 1)) (not long) e in
    let two = and_parts (flags / 2 % 2 == 1) (not (flags % 2 == 1)) first.0 in
    let one : flags / 2 % 2 ≡ 1 = equal (flags / 2 % 2) 1 two.0 in
    let none : flags % 2 ≡ 0 = even flags (flags % 2 == 1) refl two.1 in
    omega arith
  where
    equal : (a b : ℕ) → (a == b) ≡ true → a ≡ b
    equal a b e = grind (arith, nat_tests)

    even : (flags : ℕ) (b : Bool) → (flags % 2 == 1) ≡ b → not b ≡ true → flags % 2 ≡ 0
    even flags true is e = absurd (let x : false ≡ true = e in cc)
    even flags false is e = grind (arith, nat_tests)

submitted-queues : (qs : List Packet) (n : ℕ) (p : Peering) (q : Packet) → QueuesAt qs n p → QueuesAt (qs ++ q ∷ []) n (submitted p q.channel (record { flags = q.flags; body = q.body }))
submitted-queues qs n p q k = by (is_unsequenced mtu c) refl
  where
    mtu : ℕ
    mtu = p.terms.mtu

    c : command_choice.Packet
    c = record { flags = q.flags; body = q.body }

    on : (o : Option SendingEnd) → QueuesAt (qs ++ q ∷ []) n (record p { outbox = with_sequenced p.outbox mtu q.channel c o })
    on None = queues-more qs q n p.outbox.unsequenced p.outbox.control k
    on (Some s) = queues-more qs q n p.outbox.unsequenced p.outbox.control k

    by : (b : Bool) → is_unsequenced mtu c ≡ b
        → QueuesAt (qs ++ q ∷ []) n (record p { outbox = cond b (with_unsequenced p.outbox q.channel c) (with_sequenced p.outbox mtu q.channel c (slice_get p.outbox.senders q.channel)) })
    by true e = (let old = queues-more qs q n p.outbox.unsequenced p.outbox.control k in record {
      loose = λ u h. elim (Has-push_cases p.outbox.unsequenced _ u h) [
        | inl was ↦ old.loose u was
        | inr new ↦ subst (λ (x : Unsequenced). HasLoose (qs ++ q ∷ []) x.channel x.body) new (q, Has-push qs q, refl, refl, flags-of q.flags (command_choice.is_long mtu c) e)
      ];
      queued = old.queued;
      sent = old.sent;
    })
    by false e = on (slice_get p.outbox.senders q.channel)

sends-happens : (n : ℕ) (e new : OneEnd) (event : Event) → Happens e event new → Sends n e → Sends n new
sends-happens n e new (Submit q) h k = subst (Sends n) (sym h.1) (record {
  queues = submitted-queues e.submitted n e.peer q k.queues;
  puts = λ m there. put-more e.submitted q n m.head.channel m.body (k.puts m there);
})
sends-happens n e new (Emit now) h k = subst (Sends n) (sym h) (let f = fills e.submitted n (pace_of e.peer now) e.peer.outbox k.queues in record {
  queues = gone_on-by e.submitted n (record e.peer { outbox = (filled (pace_of e.peer now) e.peer.outbox).outbox }) e.peer.state f.queues;
  puts = λ m there. elim (Has-append_cases e.put (filled (pace_of e.peer now) e.peer.outbox).messages m there) [ inl old ↦ k.puts m old | inr fresh ↦ f.puts m fresh ];
})
sends-happens n e new (Come m now sent) h k = subst (Sends n) (sym h.2) (record { queues = heeded-queues e.submitted n h.1 e.peer m.head now sent m.body k.queues; puts = k.puts })
sends-happens n e new (Tick now) h k = subst (Sends n) (sym h.1) (record { queues = moved-queues e.submitted n h.0 e.peer now k.queues; puts = k.puts })
sends-happens n e new Take h k = subst (Sends n) (sym h.3) (record {
  queues = took (λ q event. QueuesAt e.submitted n q) e.peer h.1 h.0 h.2 (λ info g. k.queues) (λ x rest g u. k.queues) (λ g u at. k.queues);
  puts = k.puts;
})
sends-happens n e new (Disconnect way info) h k = subst (Sends n) (sym h.2) (record { queues = left-queues e.submitted n e.peer h.0 way info h.1 k.queues; puts = k.puts })
sends-happens n e new (Set setting) h k = subst (Sends n) (sym h.1) (record { queues = set-queues e.submitted n e.peer setting k.queues; puts = k.puts })
sends-happens n e new GiveWay h k = subst (Sends n) (sym h.1) (record { queues = freed-queues e.submitted n e.peer; puts = k.puts })
sends-happens n e new TellAgain h k = subst (Sends n) (sym h.1) (record { queues = again-queues e.submitted n e.peer k.queues; puts = k.puts })

sends-runs : (n : ℕ) (events : List Event) (e new : OneEnd) → Runs events e new → Sends n e → Sends n new
sends-runs n [] e new r k = subst (Sends n) r k
sends-runs n (event ∷ events) e new r k = sends-runs n events r.0 new r.2 (sends-happens n e r.0 event r.1 k)

-- a new peer, whose queue has one command
sends-first : (n : ℕ) (p : Peering) → QueuesAt [] n p → Sends n (beginning p)
sends-first n p k = record { queues = k; puts = λ m there. absurd there }

is-put : (qs : List Packet) (n : ℕ) (m : Message) (body : Body) → m.body ≡ body → PutBody qs n m.head.channel m.body → PutBody qs n m.head.channel body
is-put qs n m body is k = subst (PutBody qs n m.head.channel) is k

pub tells-slot : (n : ℕ) (p : Peering) (events : List Event) (e : OneEnd) → QueuesAt [] n p → Runs events (beginning p) e → TellsSlot n e
tells-slot n p events e k r m v there is = (let s = sends-runs n events (beginning p) e r (sends-first n p k) in is-put e.submitted n m (verify_connect v) is (s.puts m there))

pub goes-loose : (n : ℕ) (p : Peering) (events : List Event) (e : OneEnd) → QueuesAt [] n p → Runs events (beginning p) e
    → (m : Message) (group : ℕ) (payload : List ℕ) → Has e.put m → m.body ≡ send_unsequenced group payload → HasLoose e.submitted m.head.channel payload
goes-loose n p events e k r m group payload there is = (let s = sends-runs n events (beginning p) e r (sends-first n p k) in is-put e.submitted n m (send_unsequenced group payload) is (s.puts m there))

-- what is queued at first

pub none-queued : (n : ℕ) (us : List Unsequenced) (c : Commands) → us ≡ [] → c.queued ≡ [] → c.sent ≡ [] → Queues [] n us c
none-queued n us c a b s = record {
  loose = λ u h. absurd (subst (λ l. Has l u) a h);
  queued = λ x h. absurd (subst (λ l. Has l x) b h);
  sent = λ t h. absurd (subst (λ l. Has l t) s h);
}

pub one-queued : (n number : ℕ) (what : Control) → TellsIn n what → Queues [] n [] (controlling.with_queued (controlling.nothing_controlled number) what)
one-queued n number what tells = more-queues [] n [] (controlling.nothing_controlled number) what tells (none-queued n [] (controlling.nothing_controlled number) refl refl refl)
