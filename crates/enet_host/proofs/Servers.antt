-- Whatever comes to a peer, it began by a CONNECT that came if it did before.
use Rattle.std.proofs.Common.{◌≡◌, ℕ, ◌%◌, ◌^◌, ◌&&◌, Bool, true, false, cond, Option, Some, None, List, length, Result, Ok, Err, subst, sym, refl}
use Rattle.std.specs.Prelude.{is_some, nat_lt}
use Rattle.enet_codec.specs.declared.command.Head.{Head}
use Rattle.enet_codec.specs.declared.command.Verify.{Verify}
use Rattle.enet_codec.specs.declared.event.Received.{Received}
use Rattle.enet_codec.specs.declared.stop.Stop.{Stop}
use Rattle.enet_codec.specs.declared.stop.Stop.TheVariants as stop
use Rattle.enet_codec.specs.Message.{Message, Body, acknowledge, connect, verify_connect, disconnect, ping, bandwidth_limit, throttle_configure}
use Rattle.enet_connect.specs.declared.terms.Terms.{Terms}
use Rattle.enet_connect.specs.Verification.{confirmed}
use Rattle.enet_inbox.specs.DataEffect.{arrival, passed_over}
use Rattle.enet_outbox.specs.declared.parts.Matched.{Matched}
use Rattle.enet_outbox.specs.declared.parts.Matched.TheVariants as matched
use Rattle.enet_outbox.specs.Outbox.{is_done, matched_by}
use Rattle.enet_peer.specs.CommandEffect.{Outcome, answered, answered_at, is_answered_in, is_allowed, is_connect, is_connecting, obeyed, by_body, by_answer, by_arrival, on_bandwidth, on_data, on_throttle, stopped, unless_refused, wants_memory, acknowledged, with_answer, on_match, on_acknowledge, welcomed, on_verify_in, on_last_disconnect, on_disconnect_in}
use Rattle.enet_peer.specs.Endings.{disconnecting, is_later, settled}
use Rattle.enet_peer.specs.Handling.{Arrival, SoFar, Handles, Hears, HearsIf, nothing_left, no_command, stops, goes_on, one_more}
use Rattle.enet_peer.specs.Peering.{Peering}
use Rattle.enet_peer.specs.Refusing.{confirms, heeded, is_turned_away, reminded, told_full, turned_away}
use Rattle.enet_peer.specs.declared.parts.PeerState.{PeerState}
use Rattle.enet_peer.specs.declared.parts.PeerState.TheVariants as state
use Rattle.enet_peer.proofs.Obeying.{obeys-holds, unless-holds, unwelcomed-holds}
use Rattle.enet_rtt.specs.Clock.{meant_time}
use Rattle.enet_senders.specs.declared.control.Control.{Control}
use Rattle.enet_senders.specs.declared.control.Control.TheVariants as control

-- whether it began so
abbrev Began : Bool → Peering → Type 0
Began k p = p.is_server ≡ k

either : (k : Bool) (b : Bool) (p q : Peering) → Began k p → Began k q → Began k (cond b p q)
either k true p q f g = f
either k false p q f g = g

if-outcome : (k : Bool) (b : Bool) (t e : Outcome) → Began k t.after → Began k e.after → Began k (cond b t e).after
if-outcome k true t e f g = f
if-outcome k false t e f g = g

-- ---- a command that comes

settled-began : (k : Bool) (p : Peering) → Began k p → Began k (settled p)
settled-began k p h = either k (is_later p.state && is_done p.outbox) (disconnecting p p.info) p h h

answer-began : (k : Bool) (s : PeerState) (what : Control) (p : Peering) → Began k p → Began k (with_answer s what p)
answer-began k state.Answering (control.VerifyConnect v) p h = h
answer-began k state.Disconnecting (control.Disconnect info) p h = h
answer-began k s what p h = h

match-began : (k : Bool) (what : Matched) (old gone : Peering) → Began k old → Began k gone → Began k (on_match what old gone)
match-began k matched.Nothing old gone h g = h
match-began k matched.Data old gone h g = settled-began k gone g
match-began k (matched.Control what) old gone h g = settled-began k (with_answer old.state what gone) (answer-began k old.state what gone g)

acknowledge-began : (k : Bool) (p : Peering) (now channel number told : ℕ) → Began k p → Began k (on_acknowledge p now channel number told)
acknowledge-began k p now channel number told h =
    let meant : ℕ = meant_time told (p.offset % 2 ^ 16) in
    let gone : Peering = on_match (matched_by p.outbox channel number meant) p (acknowledged p now channel number meant) in
    either k (is_connecting p.state) p gone h (match-began k (matched_by p.outbox channel number meant) p (acknowledged p now channel number meant) h h)

welcome-began : (k : Bool) (p : Peering) (v : Verify) (o : Option Terms) → Began k p → Began k (welcomed p v o)
welcome-began k p v None h = unwelcomed-holds (Began k) p v h h
welcome-began k p v (Some terms) h = h

verify-began : (k : Bool) (s : PeerState) (p : Peering) (v : Verify) → Began k p → Began k (on_verify_in s p v)
verify-began k state.Connecting p v h = welcome-began k p v (confirmed p.offer v) h
verify-began k s p v h = h

last-began : (k : Bool) (p : Peering) (b : Bool) (info : ℕ) → Began k p → Began k (on_last_disconnect p b info)
last-began k p true info h = h
last-began k p false info h = h

disconnect-began : (k : Bool) (s : PeerState) (p : Peering) (b : Bool) (info : ℕ) → Began k p → Began k (on_disconnect_in s p b info)
disconnect-began k state.Connected p b info h = last-began k p b info h
disconnect-began k state.DisconnectLater p b info h = last-began k p b info h
disconnect-began k s p b info h = h

answered-at-began : (k : Bool) (p : Peering) (head : Head) (sent : Option ℕ) → Began k p → Began k (answered_at p head sent).after
answered-at-began k p head None h = h
answered-at-began k p head (Some time) h = h

answered-began : (k : Bool) (p : Peering) (m : Message) (sent : Option ℕ) (may : Bool) → Began k p → Began k (answered p m sent may).after
answered-began k p m sent may h =
    if-outcome k (m.head.acknowledge && may && is_answered_in p.state m.body) (answered_at p m.head sent) (record { stop = None; after = p }) (answered-at-began k p m.head sent h) h

by-answer-began : (k : Bool) (p : Peering) (m : Message) (sent : Option ℕ) (r : Result Bool Stop) → Began k p → Began k (by_answer p m sent r).after
by-answer-began k p m sent (Err why) h = h
by-answer-began k p m sent (Ok may) h = answered-began k p m sent may h

data-began : (k : Bool) (p : Peering) (m : Message) (sent : Option ℕ) → Began k p → Began k (on_data p m sent).after
data-began k p m sent h =
    if-outcome k (is_later p.state) (by_answer p m sent (passed_over p.inbox m)) (by_arrival p m sent (arrival p.inbox m))
    (by-answer-began k p m sent (passed_over p.inbox m) h)
    (by-answer-began k (record p { inbox = (arrival p.inbox m).after }) m sent (arrival p.inbox m).answer h)

body-began : (k : Bool) (p : Peering) (now : ℕ) (sent : Option ℕ) (m : Message) (body : Body) → Began k p → Began k (by_body p now sent m body).after
body-began k p now sent m (acknowledge number time) h =
    answered-began k (on_acknowledge p now m.head.channel number time) m sent true (acknowledge-began k p now m.head.channel number time h)
body-began k p now sent m (connect offer) h = h
body-began k p now sent m (verify_connect v) h = answered-began k (on_verify_in p.state p v) m sent true (verify-began k p.state p v h)
body-began k p now sent m (disconnect info) h =
    answered-began k (on_disconnect_in p.state p (m.head.acknowledge && is_some sent) info) m sent true (disconnect-began k p.state p (m.head.acknowledge && is_some sent) info h)
body-began k p now sent m ping h = answered-began k p m sent true h
body-began k p now sent m (bandwidth_limit incoming outgoing) h = answered-began k (on_bandwidth p incoming) m sent true h
body-began k p now sent m (throttle_configure interval acceleration deceleration) h = answered-began k (on_throttle p interval acceleration deceleration) m sent true h
body-began k p now sent m body h = data-began k p m sent h

obeyed-began : (k : Bool) (p : Peering) (now : ℕ) (sent : Option ℕ) (m : Message) → Began k p → Began k (obeyed p now sent m).after
obeyed-began k p now sent m h =
    let does : Outcome = unless_refused p m (by_body p now sent m m.body) in
    if-outcome k (is_connect m.body) (stopped p stop.BadCommand) (cond (is_allowed p.state m.body) does (stopped p stop.NotConnected)) h
    (if-outcome k (is_allowed p.state m.body) does (stopped p stop.NotConnected)
    (unless-holds (Began k) p m (by_body p now sent m m.body) h (body-began k p now sent m m.body h)) h)

heeded-began : (k : Bool) (full : Bool) (p : Peering) (now : ℕ) (sent : Option ℕ) (m : Message) → Began k p → Began k (heeded full p now sent m).after
heeded-began k full p now sent m h = if-outcome k (full && confirms p m) (record { stop = None; after = turned_away p }) (obeyed p now sent m) h (obeyed-began k p now sent m h)

-- ---- a datagram

reminded-began : (k : Bool) (sent : Option ℕ) (p : Peering) → Began k p → Began k (reminded sent p)
reminded-began k None p h = h
reminded-began k (Some time) p h = either k (nat_lt 0 (length p.outbox.control.queued)) p (told_full p) h h

handled-began : (k : Bool) (a : Arrival) (old : SoFar) (bytes : List ℕ) (answer : Received) (q : Peering) → Began k old.peer → Handles a old bytes answer q → Began k q
handled-began k a old bytes answer q h (nothing_left was) = h
handled-began k a old bytes answer q h (no_command was all some none) = h
handled-began k a old bytes answer q h (stops was text rest m why r spells obeys) =
    obeys-holds (Began k) (Err why) (wants_memory was.peer a.now a.sent m) (heeded a.full was.peer a.now a.sent m) was.peer r h (heeded-began k a.full was.peer a.now a.sent m h) obeys
handled-began k a old bytes answer q h (goes_on was text rest m told r s spells obeys more) =
    handled-began k a (record { handled = one_more was.handled; peer = r }) rest told s
    (obeys-holds (Began k) (Ok tt) (wants_memory was.peer a.now a.sent m) (heeded a.full was.peer a.now a.sent m) was.peer r h (heeded-began k a.full was.peer a.now a.sent m h) obeys) more

hears-if : (k : Bool) (b : Bool) (a : Arrival) (bytes : List ℕ) (p : Peering) (answer : Received) (q : Peering) → Began k p → HearsIf b a bytes p answer q → Began k q
hears-if k true a bytes p answer q h e = subst (Began k) (sym e.1) (reminded-began k a.sent p h)
hears-if k false a bytes p answer q h e = handled-began k a (record { handled = 0; peer = p }) bytes answer q h e

pub hears-began : (a : Arrival) (bytes : List ℕ) (p : Peering) (answer : Received) (q : Peering) → Hears a bytes p answer q → q.is_server ≡ p.is_server
hears-began a bytes p answer q e = hears-if p.is_server (is_turned_away p) a bytes p answer q refl e
