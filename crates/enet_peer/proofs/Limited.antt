-- Whatever happens to a peer, its inbox keeps the limits with which it began, it has the connect id with which it began, and nothing makes it
-- wait for its client that didn't.
use Rattle.std.proofs.Common.{◌≡◌, ℕ, ◌%◌, ◌^◌, ◌&&◌, Bool, true, false, cond, not, List, [], ◌∷◌, length, refl, sym, ap, subst, ◌∙◌, Option, Some, None, Result, Ok, Err, slice_get}
use Rattle.std.specs.Prelude.{is_some, nat_lt, nat_le}
use Rattle.enet_codec.specs.declared.command.Head.{Head}
use Rattle.enet_codec.specs.declared.command.Offer.{Offer}
use Rattle.enet_codec.specs.declared.command.Verify.{Verify}
use Rattle.enet_codec.specs.declared.event.Received.{Received}
use Rattle.enet_codec.specs.declared.packet.Packet as codec
use Rattle.enet_codec.specs.declared.stop.Stop.{Stop}
use Rattle.enet_codec.specs.declared.stop.Stop.TheVariants as stop
use Rattle.enet_codec.specs.Message.{Message, Body, acknowledge, connect, verify_connect, disconnect, ping, send_unsequenced, bandwidth_limit, throttle_configure}
use Rattle.enet_rtt.specs.declared.expiry.Expiry.{Expiry}
use Rattle.enet_rtt.specs.declared.expiry.Expiry.TheVariants.{No, Resend, End}
use Rattle.enet_unsequenced.specs.Groups.{dispatches}
use Rattle.enet_connect.specs.declared.terms.Terms.{Terms}
use Rattle.enet_connect.specs.Verification.{agreed, confirmed, is_accepted}
use Rattle.enet_senders.specs.declared.control.Control.{Control}
use Rattle.enet_senders.specs.declared.control.Control.TheVariants as control
use Rattle.enet_fragment.specs.declared.data.DataCommand.{DataCommand}
use Rattle.enet_fragment.specs.DataCommand.{data_of}
use Rattle.enet_receiver.specs.declared.took.Took.{Took}
use Rattle.enet_receiver.specs.declared.took.Took.TheVariants.{Held, Again, Outside, Bad, Waiting, Memory}
use Rattle.enet_receiver.specs.Foresight.{ReceivingEnd, outcome_for}
use Rattle.enet_inbox.specs.Inbox.{Inbox, is_full, is_full_for, given_way}
use Rattle.enet_inbox.specs.DataEffect.{DataEffect, handled, stopped as refused, unsequenced, unsequenced_taken, by_took, sequenced, sequenced_on, passed_over, makes_room, met, arrival, arrival_of}
use Rattle.enet_rtt.specs.Clock.{meant_time}
use Rattle.enet_outbox.specs.declared.parts.Matched.{Matched}
use Rattle.enet_outbox.specs.declared.parts.Matched.TheVariants as matched
use Rattle.enet_outbox.specs.Outbox.{is_done, matched_by, with_control}
use Rattle.enet_outbox.specs.Emission.{filled}
use Rattle.enet_peer.specs.declared.parts.PeerState.{PeerState}
use Rattle.enet_peer.specs.declared.parts.PeerState.TheVariants as state
use Rattle.enet_peer.specs.declared.parts.PeerEvent.TheVariants as event
use Rattle.enet_peer.specs.Peering.{Peering}
use Rattle.enet_peer.specs.Endings.{freed, disconnecting, parting, settled, is_later, cut_off_in}
use Rattle.enet_peer.specs.CommandEffect.{Outcome, answered, answered_at, is_answered_in, is_allowed, is_connect, obeyed, by_body, by_answer, by_arrival, on_data, stopped, unless_refused, wants_memory, acknowledged, with_answer, on_match, is_connecting, on_acknowledge, welcomed, on_verify_in, on_last_disconnect, on_disconnect_in}
use Rattle.enet_peer.specs.Refusing.{confirms, heeded, is_turned_away, reminded, told_again, told_full, turned_away}
use Rattle.enet_peer.specs.Handling.{Arrival, SoFar, Handles, Hears, HearsIf, nothing_left, no_command, stops, goes_on}
use Rattle.enet_peer.specs.Calls.{is_answering, Leave, AtOnce, TellsOnce, Asks, AsksLater, Refused, left, PutsOut, after_timeouts, after_timeouts_by, expiry_of, held_back, is_held_back, is_pinged, moved, ticked, pace_of, gone_on_in, Taken, next_event, event_after, packet_event, last_event}
use Rattle.enet_peer.specs.Held.{HasLimits}
use Rattle.enet_peer.proofs.Obeying.{obeys-holds, unless-holds, unwelcomed-holds}

-- ---- data that comes

abbrev Keeps : ℕ → ℕ → Inbox → Type 0
Keeps x y b = (b.max_packet ≡ x) × (b.max_waiting ≡ y)

if-effect : (x y : ℕ) (b : Bool) (t e : DataEffect) → Keeps x y t.after → Keeps x y e.after → Keeps x y (cond b t e).after
if-effect x y true t e f g = f
if-effect x y false t e f g = g

took-keeps : (x y : ℕ) (t : Took) (b : Inbox) (channel : ℕ) (r : ReceivingEnd) (c : DataCommand) → Keeps x y b → Keeps x y (by_took t b channel r c).after
took-keeps x y Held b channel r c h = h
took-keeps x y Again b channel r c h = h
took-keeps x y Outside b channel r c h = h
took-keeps x y Bad b channel r c h = h
took-keeps x y Waiting b channel r c h = h
took-keeps x y Memory b channel r c h = h

on-keeps : (x y : ℕ) (b : Inbox) (channel : ℕ) (c : DataCommand) (o : Option ReceivingEnd) → Keeps x y b → Keeps x y (sequenced_on b channel c o).after
on-keeps x y b channel c None h = h
on-keeps x y b channel c (Some r) h = took-keeps x y (outcome_for r (Some c) (is_full_for b r c)) b channel r c h

sequenced-keeps : (x y : ℕ) (b : Inbox) (channel : ℕ) (o : Option DataCommand) → Keeps x y b → Keeps x y (sequenced b channel o).after
sequenced-keeps x y b channel None h = h
sequenced-keeps x y b channel (Some c) h = on-keeps x y b channel c (slice_get b.receivers channel) h

unsequenced-keeps : (x y : ℕ) (b : Inbox) (channel group : ℕ) (payload : List ℕ) → Keeps x y b → Keeps x y (unsequenced b channel group payload).after
unsequenced-keeps x y b channel group payload h =
    let new : DataEffect = handled (unsequenced_taken b channel group payload) true in
    let if-full : DataEffect = cond (is_full b) (refused b stop.Waiting) new in
    let if-seen : DataEffect = cond (not (dispatches b.seen group)) (handled b true) if-full in
    let if-long : DataEffect = cond (nat_lt b.max_packet (length payload)) (refused b stop.BadFragment) if-seen in
    if-effect x y (nat_le (length b.receivers) channel) (refused b stop.BadChannel) if-long h
    (if-effect x y (nat_lt b.max_packet (length payload)) (refused b stop.BadFragment) if-seen h
    (if-effect x y (not (dispatches b.seen group)) (handled b true) if-full h
    (if-effect x y (is_full b) (refused b stop.Waiting) new h h)))

arrival-of-keeps : (x y : ℕ) (b : Inbox) (m : Message) (body : Body) → Keeps x y b → Keeps x y (arrival_of b m body).after
arrival-of-keeps x y b m (send_unsequenced group payload) h = unsequenced-keeps x y b m.head.channel group payload h
arrival-of-keeps x y b m body h = sequenced-keeps x y b m.head.channel (data_of m) h

arrival-keeps : (x y : ℕ) (b : Inbox) (m : Message) → Keeps x y b → Keeps x y (arrival b m).after
arrival-keeps x y b m h = arrival-of-keeps x y (met b m) m m.body (by (makes_room b m))
  where
    by : (makes : Bool) → Keeps x y (cond makes (given_way b) b)
    by true = h
    by false = h

-- ---- what lasts

-- with which limits a peer began; whether it waited for its client at a moment, and when it was made; its connect id, if that is told
pub record Mark : Type 0 where
  pub packet : ℕ
  pub waiting : ℕ
  pub answers : Bool
  pub made : ℕ
  pub word : Option ℕ

-- a peer has this connect id, and asks for a connection with no other
abbrev pub IsOf : ℕ → Peering → Type 0
IsOf word p = (p.terms.connect_id ≡ word) × (is_connecting p.state ≡ true → p.offer.connect_id ≡ word)

-- It still keeps the limits; it only waits for its client if it did then, and was made when it was made then; and its connect id is that one
abbrev pub Lasts : Mark → Peering → Type 0
Lasts k p = HasLimits k.packet k.waiting p × (is_answering p.state ≡ true → (k.answers ≡ true) × (p.made ≡ k.made)) × ((word : ℕ) → k.word ≡ Some word → IsOf word p)

-- what lasts of one lasts of another
abbrev pub Follows : Peering → Peering → Type 0
Follows p q = (k : Mark) → Lasts k p → Lasts k q

-- it doesn't wait for its client
away : {X : Type 0} → false ≡ true → X
away e = absurd (let y : false ≡ true = e in cc)

-- where no connect id is told nothing is said of it
pub untold : (p : Peering) (word : ℕ) → ◌≡◌ {A = Option ℕ} None (Some word) → IsOf word p
untold p word told = absurd (cc)

-- ---- a command that comes

if-peer : (k : Mark) (b : Bool) (p q : Peering) → Lasts k p → Lasts k q → Lasts k (cond b p q)
if-peer k true p q f g = f
if-peer k false p q f g = g

if-outcome : (k : Mark) (b : Bool) (t e : Outcome) → Lasts k t.after → Lasts k e.after → Lasts k (cond b t e).after
if-outcome k true t e f g = f
if-outcome k false t e f g = g

settled-lasts : (k : Mark) (p : Peering) → Lasts k p → Lasts k (settled p)
settled-lasts k p h = if-peer k (is_later p.state && is_done p.outbox) (disconnecting p p.info) p (h.0, (λ e. away e), λ w told. ((h.2 w told).0, λ e. away e)) h

answer-lasts : (k : Mark) (s : PeerState) (what : Control) (p : Peering) → Lasts k p → Lasts k (with_answer s what p)
answer-lasts k state.Answering (control.VerifyConnect v) p h = (h.0, (λ e. away e), λ w told. ((h.2 w told).0, λ e. away e))
answer-lasts k state.Disconnecting (control.Disconnect info) p h = (h.0, (λ e. away e), λ w told. ((h.2 w told).0, λ e. away e))
answer-lasts k s what p h = h

match-lasts : (k : Mark) (what : Matched) (old gone : Peering) → Lasts k old → Lasts k gone → Lasts k (on_match what old gone)
match-lasts k matched.Nothing old gone h g = h
match-lasts k matched.Data old gone h g = settled-lasts k gone g
match-lasts k (matched.Control what) old gone h g = settled-lasts k (with_answer old.state what gone) (answer-lasts k old.state what gone g)

acknowledge-lasts : (k : Mark) (p : Peering) (now channel number told : ℕ) → Lasts k p → Lasts k (on_acknowledge p now channel number told)
acknowledge-lasts k p now channel number told h =
    let meant : ℕ = meant_time told (p.offset % 2 ^ 16) in
    let gone : Peering = on_match (matched_by p.outbox channel number meant) p (acknowledged p now channel number meant) in
    if-peer k (is_connecting p.state) p gone h (match-lasts k (matched_by p.outbox channel number meant) p (acknowledged p now channel number meant) h h)

-- the terms that a client accepts have the connect id with which it asked
confirmed-word : (o : Offer) (v : Verify) (terms : Terms) → confirmed o v ≡ Some terms → terms.connect_id ≡ o.connect_id
confirmed-word o v terms e = by (is_accepted o v) e
  where
    by : (b : Bool) → ◌≡◌ {A = Option Terms} (cond b (Some (agreed o v)) None) (Some terms) → terms.connect_id ≡ o.connect_id
    by true e = let same : agreed o v ≡ terms = cc in sym (ap (λ (t : Terms). t.connect_id) same)
    by false e = absurd (cc)

welcome-lasts : (k : Mark) (p : Peering) (v : Verify) (o : Option Terms) → is_connecting p.state ≡ true → confirmed p.offer v ≡ o → Lasts k p → Lasts k (welcomed p v o)
welcome-lasts k p v None asks is h = unwelcomed-holds (Lasts k) p v h (h.0, (λ e. away e), λ w told. ((h.2 w told).0, λ e. away e))
welcome-lasts k p v (Some terms) asks is h = (h.0, (λ e. away e), λ w told. (confirmed-word p.offer v terms is ∙ (h.2 w told).1 asks, λ e. away e))

verify-lasts : (k : Mark) (s : PeerState) (p : Peering) (v : Verify) → p.state ≡ s → Lasts k p → Lasts k (on_verify_in s p v)
verify-lasts k state.Connecting p v is h = welcome-lasts k p v (confirmed p.offer v) (ap is_connecting is) refl h
verify-lasts k s p v is h = h

last-lasts : (k : Mark) (p : Peering) (b : Bool) (info : ℕ) → Lasts k p → Lasts k (on_last_disconnect p b info)
last-lasts k p true info h = (h.0, (λ e. away e), λ w told. ((h.2 w told).0, λ e. away e))
last-lasts k p false info h = (h.0, (λ e. away e), λ w told. ((h.2 w told).0, λ e. away e))

disconnect-lasts : (k : Mark) (s : PeerState) (p : Peering) (b : Bool) (info : ℕ) → Lasts k p → Lasts k (on_disconnect_in s p b info)
disconnect-lasts k state.Connected p b info h = last-lasts k p b info h
disconnect-lasts k state.DisconnectLater p b info h = last-lasts k p b info h
disconnect-lasts k state.Connecting p b info h = (h.0, (λ e. away e), λ w told. ((h.2 w told).0, λ e. away e))
disconnect-lasts k state.Disconnecting p b info h = (h.0, (λ e. away e), λ w told. ((h.2 w told).0, λ e. away e))
disconnect-lasts k state.Answering p b info h = (h.0, (λ e. away e), λ w told. ((h.2 w told).0, λ e. away e))
disconnect-lasts k s p b info h = h

answered-at-lasts : (k : Mark) (p : Peering) (head : Head) (sent : Option ℕ) → Lasts k p → Lasts k (answered_at p head sent).after
answered-at-lasts k p head None h = h
answered-at-lasts k p head (Some time) h = h

answered-lasts : (k : Mark) (p : Peering) (m : Message) (sent : Option ℕ) (may : Bool) → Lasts k p → Lasts k (answered p m sent may).after
answered-lasts k p m sent may h =
    if-outcome k (m.head.acknowledge && may && is_answered_in p.state m.body) (answered_at p m.head sent) (record { stop = None; after = p }) (answered-at-lasts k p m.head sent h) h

by-answer-lasts : (k : Mark) (p : Peering) (m : Message) (sent : Option ℕ) (r : Result Bool Stop) → Lasts k p → Lasts k (by_answer p m sent r).after
by-answer-lasts k p m sent (Err why) h = h
by-answer-lasts k p m sent (Ok may) h = answered-lasts k p m sent may h

data-lasts : (k : Mark) (p : Peering) (m : Message) (sent : Option ℕ) → Lasts k p → Lasts k (on_data p m sent).after
data-lasts k p m sent h =
    if-outcome k (is_later p.state) (by_answer p m sent (passed_over p.inbox m)) (by_arrival p m sent (arrival p.inbox m))
    (by-answer-lasts k p m sent (passed_over p.inbox m) h)
    (by-answer-lasts k (record p { inbox = (arrival p.inbox m).after }) m sent (arrival p.inbox m).answer (arrival-keeps k.packet k.waiting p.inbox m h.0, h.1, h.2))

body-lasts : (k : Mark) (p : Peering) (now : ℕ) (sent : Option ℕ) (m : Message) (body : Body) → Lasts k p → Lasts k (by_body p now sent m body).after
body-lasts k p now sent m (acknowledge number time) h =
    answered-lasts k (on_acknowledge p now m.head.channel number time) m sent true (acknowledge-lasts k p now m.head.channel number time h)
body-lasts k p now sent m (connect offer) h = h
body-lasts k p now sent m (verify_connect v) h = answered-lasts k (on_verify_in p.state p v) m sent true (verify-lasts k p.state p v refl h)
body-lasts k p now sent m (disconnect info) h =
    answered-lasts k (on_disconnect_in p.state p (m.head.acknowledge && is_some sent) info) m sent true (disconnect-lasts k p.state p (m.head.acknowledge && is_some sent) info h)
body-lasts k p now sent m ping h = answered-lasts k p m sent true h
body-lasts k p now sent m (bandwidth_limit incoming outgoing) h = answered-lasts k (Rattle.enet_peer.specs.CommandEffect.on_bandwidth p incoming) m sent true h
body-lasts k p now sent m (throttle_configure interval acceleration deceleration) h =
    answered-lasts k (Rattle.enet_peer.specs.CommandEffect.on_throttle p interval acceleration deceleration) m sent true h
body-lasts k p now sent m body h = data-lasts k p m sent h

pub obeyed-lasts : (k : Mark) (p : Peering) (now : ℕ) (sent : Option ℕ) (m : Message) → Lasts k p → Lasts k (obeyed p now sent m).after
obeyed-lasts k p now sent m h =
    let does : Outcome = unless_refused p m (by_body p now sent m m.body) in
    if-outcome k (is_connect m.body) (stopped p stop.BadCommand) (cond (is_allowed p.state m.body) does (stopped p stop.NotConnected)) h
    (if-outcome k (is_allowed p.state m.body) does (stopped p stop.NotConnected)
    (unless-holds (Lasts k) p m (by_body p now sent m m.body) h (body-lasts k p now sent m m.body h)) h)

heeded-lasts : (k : Mark) (full : Bool) (p : Peering) (now : ℕ) (sent : Option ℕ) (m : Message) → Lasts k p → Lasts k (heeded full p now sent m).after
heeded-lasts k full p now sent m h = if-outcome k (full && confirms p m) (record { stop = None; after = turned_away p }) (obeyed p now sent m) h (obeyed-lasts k p now sent m h)

told-again-lasts : (k : Mark) (p : Peering) → Lasts k p → Lasts k (told_again p)
told-again-lasts k p h = if-peer k (nat_lt 0 (length p.outbox.control.queued)) p (told_full p) h h

reminded-lasts : (k : Mark) (sent : Option ℕ) (p : Peering) → Lasts k p → Lasts k (reminded sent p)
reminded-lasts k None p h = h
reminded-lasts k (Some time) p h = told-again-lasts k p h

-- the commands of a datagram
handled-lasts : (k : Mark) (a : Arrival) (old : SoFar) (bytes : List ℕ) (answer : Received) (q : Peering) → Lasts k old.peer → Handles a old bytes answer q → Lasts k q
handled-lasts k a old bytes answer q h (nothing_left was) = h
handled-lasts k a old bytes answer q h (no_command was all some none) = h
handled-lasts k a old bytes answer q h (stops was text rest m why r spells obeys) =
    obeys-holds (Lasts k) (Err why) (wants_memory was.peer a.now a.sent m) (heeded a.full was.peer a.now a.sent m) was.peer r h (heeded-lasts k a.full was.peer a.now a.sent m h) obeys
handled-lasts k a old bytes answer q h (goes_on was text rest m told r s spells obeys more) =
    handled-lasts k a (record { handled = Rattle.enet_peer.specs.Handling.one_more was.handled; peer = r }) rest told s
    (obeys-holds (Lasts k) (Ok tt) (wants_memory was.peer a.now a.sent m) (heeded a.full was.peer a.now a.sent m) was.peer r h (heeded-lasts k a.full was.peer a.now a.sent m h) obeys) more

hears-if : (k : Mark) (b : Bool) (a : Arrival) (bytes : List ℕ) (p : Peering) (answer : Received) (q : Peering) → Lasts k p → HearsIf b a bytes p answer q → Lasts k q
hears-if k true a bytes p answer q h e = subst (Lasts k) (sym e.1) (reminded-lasts k a.sent p h)
hears-if k false a bytes p answer q h e = handled-lasts k a (record { handled = 0; peer = p }) bytes answer q h e

pub hears-lasts : (k : Mark) (a : Arrival) (bytes : List ℕ) (p : Peering) (answer : Received) (q : Peering) → Lasts k p → Hears a bytes p answer q → Lasts k q
hears-lasts k a bytes p answer q h e = hears-if k (is_turned_away p) a bytes p answer q h e

-- ---- a datagram that goes, and the clock

gone-lasts : (k : Mark) (s : PeerState) (p : Peering) → Lasts k p → Lasts k (gone_on_in s p)
gone-lasts k state.AckDisconnect p h = (h.0, (λ e. away e), λ w told. ((h.2 w told).0, λ e. away e))
gone-lasts k state.Parting p h = if-peer k (nat_lt 0 (length p.outbox.control.queued)) p (freed p) h (h.0, (λ e. away e), λ w told. ((h.2 w told).0, λ e. away e))
gone-lasts k state.Free p h = settled-lasts k p h
gone-lasts k state.Connecting p h = settled-lasts k p h
gone-lasts k state.Answering p h = settled-lasts k p h
gone-lasts k state.Connected p h = settled-lasts k p h
gone-lasts k state.DisconnectLater p h = settled-lasts k p h
gone-lasts k state.Disconnecting p h = settled-lasts k p h
gone-lasts k state.Ended p h = settled-lasts k p h

pub put-out-lasts : (k : Mark) (now : ℕ) (len : Option ℕ) (p q : Peering) (buf : List ℕ) → Lasts k p → PutsOut now len p q buf → Lasts k q
put-out-lasts k now len p q buf h out =
    subst (Lasts k) (sym out.after) (gone-lasts k p.state (record p { outbox = (filled (pace_of p now) p.outbox).outbox }) h)

cut-off-lasts : (k : Mark) (s : PeerState) (p : Peering) → Lasts k p → Lasts k (cut_off_in s p)
cut-off-lasts k state.Answering p h = (h.0, (λ e. away e), λ w told. ((h.2 w told).0, λ e. away e))
cut-off-lasts k s p h = (h.0, (λ e. away e), λ w told. ((h.2 w told).0, λ e. away e))

timeouts-lasts : (k : Mark) (e : Expiry) (p : Peering) (now : ℕ) → Lasts k p → Lasts k (after_timeouts_by e p now)
timeouts-lasts k End p now h = cut-off-lasts k p.state p h
timeouts-lasts k Resend p now h = h
timeouts-lasts k No p now h = h

pub ticked-lasts : (k : Mark) (p : Peering) (now : ℕ) → Lasts k p → Lasts k (ticked p now)
ticked-lasts k p now h =
    let q : Peering = after_timeouts p now in
    let a : Lasts k q = timeouts-lasts k (expiry_of p now) p now h in
    if-peer k (is_pinged q now) (record q { outbox = with_control q.outbox control.Ping }) q a a

pub moved-lasts : (k : Mark) (short : Bool) (p : Peering) (now : ℕ) → Lasts k p → Lasts k (moved short p now)
moved-lasts k short p now h = if-peer k (is_held_back short p now) (held_back p now) (ticked p now) h (ticked-lasts k p now h)

-- ---- the user's calls

pub left-lasts : (k : Mark) (how : Leave) (p q : Peering) (info : ℕ) → Lasts k p → left how p info ≡ Some q → Lasts k q
left-lasts k AtOnce p q info h e = let same : freed p ≡ q = cc in subst (Lasts k) same (h.0, (λ e. away e), λ w told. ((h.2 w told).0, λ e. away e))
left-lasts k TellsOnce p q info h e = let same : parting p info ≡ q = cc in subst (Lasts k) same (h.0, (λ e. away e), λ w told. ((h.2 w told).0, λ e. away e))
left-lasts k Asks p q info h e = let same : disconnecting p info ≡ q = cc in subst (Lasts k) same (h.0, (λ e. away e), λ w told. ((h.2 w told).0, λ e. away e))
left-lasts k AsksLater p q info h e =
    let waiting : Peering = record p { state = state.DisconnectLater; info = info } in
    let same : settled waiting ≡ q = cc in
    subst (Lasts k) same (settled-lasts k waiting (h.0, (λ e. away e), λ w told. ((h.2 w told).0, λ e. away e)))
left-lasts k Refused p q info h e = absurd (let none : None ≡ Some q = e in cc)

some-lasts : (k : Mark) (s t : Taken) → Some s ≡ Some t → Lasts k s.after → Lasts k t.after
some-lasts k s t e h = let same : s ≡ t = cc in subst (λ (t : Taken). Lasts k t.after) same h

last-event-lasts : (k : Mark) (s : PeerState) (p : Peering) (t : Taken) → Lasts k p → last_event s p ≡ Some t → Lasts k t.after
last-event-lasts k state.Ended p t h e = some-lasts k (record { event = event.Disconnect p.info; after = record p { state = state.Free } }) t e (h.0, (λ e. away e), λ w told. ((h.2 w told).0, λ e. away e))
last-event-lasts k s p t h e = absurd cc

packet-lasts : (k : Mark) (p : Peering) (xs : List codec.Packet) (t : Taken) → Lasts k p → packet_event p xs ≡ Some t → Lasts k t.after
packet-lasts k p [] t h e = last-event-lasts k p.state p t h e
packet-lasts k p (q ∷ rest) t h e = some-lasts k (record { event = event.Receive q; after = record p { inbox = record p.inbox { untaken = rest } } }) t e h

event-lasts : (k : Mark) (p : Peering) (g : Option ℕ) (t : Taken) → Lasts k p → event_after p g ≡ Some t → Lasts k t.after
event-lasts k p None t h e = packet-lasts k p p.inbox.untaken t h e
event-lasts k p (Some info) t h e = some-lasts k (record { event = event.Connect info; after = record p { greeting = None } }) t e h

pub taken-lasts : (k : Mark) (p : Peering) (t : Taken) → Lasts k p → next_event p ≡ Some t → Lasts k t.after
taken-lasts k p t h e = event-lasts k p p.greeting t h e
