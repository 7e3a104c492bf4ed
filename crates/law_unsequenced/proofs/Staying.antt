-- What a peer keeps of unsequenced packets, whatever comes, when time passes, and by the user's other calls.
use Rattle.std.proofs.Common.{◌≡◌, ℕ, ◌%◌, ◌^◌, Bool, true, false, cond, ltb, leb, ◌==◌, ◌&&◌, not, List, [], ◌∷◌, ◌++◌, map, length, refl, sym, ap, subst, ◌∙◌, inl, inr, ◌⊎◌, Option, Some, None, Result, Ok, Err}
use Rattle.std.specs.Prelude.{is_some}
use Rattle.std.specs.List.{slice_get}
use Rattle.std.proofs.lemmas.List.Elements.{filter-append}
use Rattle.std.proofs.lemmas.List.{append-nil}
use Rattle.enet_codec.specs.declared.command.Head.{Head}
use Rattle.enet_codec.specs.declared.command.Verify.{Verify}
use Rattle.enet_codec.specs.declared.packet.Packet.{Packet}
use Rattle.enet_codec.specs.declared.stop.Stop.{Stop}
use Rattle.enet_codec.specs.declared.stop.Stop.TheVariants as stop
use Rattle.enet_codec.specs.Message.{Message, Body, acknowledge, connect, verify_connect, disconnect, ping, send_reliable, send_unreliable, send_fragment, send_unsequenced, bandwidth_limit, throttle_configure, send_unreliable_fragment}
use Rattle.enet_seq.specs.Numbering.{wire}
use Rattle.enet_rtt.specs.Clock.{meant_time}
use Rattle.enet_rtt.specs.declared.expiry.Expiry.{Expiry}
use Rattle.enet_rtt.specs.declared.expiry.Expiry.TheVariants.{No, Resend, End as Ends}
use Rattle.enet_unsequenced.specs.Groups.{Seen, dispatches, mark}
use Rattle.enet_connect.specs.declared.terms.Terms.{Terms}
use Rattle.enet_connect.specs.Verification.{confirmed}
use Rattle.enet_senders.specs.declared.control.Control.{Control}
use Rattle.enet_senders.specs.declared.control.Control.TheVariants as control
use Rattle.enet_senders.specs.Controlling as controlling
use Rattle.enet_fragment.specs.declared.data.DataCommand.{DataCommand}
use Rattle.enet_fragment.specs.DataCommand.{data_of}
use Rattle.enet_packets.specs.declared.incoming_packet.Dispatched.{Dispatched}
use Rattle.enet_receiver.specs.declared.took.Took.{Took}
use Rattle.enet_receiver.specs.declared.took.Took.TheVariants.{Held, Again, Outside, Bad, Waiting, Memory}
use Rattle.enet_receiver.specs.DataOutcome.{received}
use Rattle.enet_receiver.specs.Foresight.{ReceivingEnd, outcome_for, after_command}
use Rattle.enet_receiver.specs.Sequenced.{AreSequenced, HasSequenced}
use Rattle.enet_receiver.proofs.Sequenced.{sequenced-received}
use Rattle.enet_inbox.specs.Inbox.{Inbox, is_full, is_full_for, given_way, given_way_receiver}
use Rattle.enet_inbox.specs.DataEffect.{DataEffect, handled, stopped as refused, packet_of, unsequenced, unsequenced_taken, handed_over, by_took, sequenced_on, sequenced, passed_over, arrival_of, plain_arrival, makes_room, arrival}
use Rattle.enet_sender.specs.Due.{SendingEnd}
use Rattle.enet_outbox.specs.declared.parts.Matched.{Matched}
use Rattle.enet_outbox.specs.declared.parts.Matched.TheVariants as matched
use Rattle.enet_outbox.specs.declared.parts.Unsequenced.{Unsequenced}
use Rattle.enet_outbox.specs.Outbox.{Outbox, after_acknowledgement, acknowledged_on, is_done, matched_by, has_ended, has_late, told_by, with_growth}
use Rattle.enet_outbox.specs.Outbox as outbox
use Rattle.enet_peer.specs.Peering.{Peering}
use Rattle.enet_peer.specs.declared.parts.Ending.TheVariants.{BadAnswer}
use Rattle.enet_peer.specs.declared.parts.PeerState.{PeerState}
use Rattle.enet_peer.specs.declared.parts.PeerState.TheVariants as state
use Rattle.enet_peer.specs.Endings.{ended, freed, disconnecting, parting, settled, is_later, cut_off_in}
use Rattle.enet_peer.specs.CommandEffect.{Outcome, answered, answered_at, is_answered_in, is_allowed, obeyed, unless_refused, by_body, by_answer, by_arrival, on_data, stopped, sampled, with_answer, on_match, accepted, is_connecting, on_acknowledge, welcomed, on_verify_in, on_last_disconnect, on_disconnect_in, on_bandwidth, on_throttle}
use Rattle.enet_peer.specs.Refusing.{confirms, heeded, told_again, told_full, turned_away}
use Rattle.enet_peer.proofs.Obeying.{unless-holds, unwelcomed-holds}
use Rattle.enet_peer.specs.Calls.{left, after_timeouts, after_timeouts_by, expiry_of, held_back, is_held_back, is_pinged, moved, ticked, is_connected, gone_on, gone_on_in}
use Rattle.law_connection.proofs.GivingWay.{sequenced-given_up}
use Rattle.law_connection.proofs.Runs.{get-map}
use Rattle.law_connection.specs.LinkSteps.{Has}
use Rattle.law_connection.specs.Invariant.{is_young}
use Rattle.law_connection.specs.Steps.{Way, Asking, Now, Later, leave_by, Setting, Bandwidth, Throttle, ThrottleLimit, PingInterval, Timeout, with_setting}
use Rattle.law_unsequenced.specs.Unsequenced.{come_unsequenced, carried_in, carried}

-- what a peer has of unsequenced packets, and the mtu by which they go
pub record Core : Type 0 where
  pub mtu : ℕ
  pub group : ℕ
  pub waiting : List Unsequenced
  pub seen : Seen
  pub untaken : List Packet

abbrev pub core : Peering → Core
core p = record { mtu = p.terms.mtu; group = p.outbox.group; waiting = p.outbox.unsequenced; seen = p.inbox.seen; untaken = come_unsequenced p.inbox.untaken }

-- it stays, but for what is dropped
pub record Stays (a b : Core) : Type 0 where
  pub mtu : b.mtu ≡ a.mtu
  pub group : b.group ≡ a.group
  pub waiting : (u : Unsequenced) → Has b.waiting u → Has a.waiting u
  pub seen : b.seen ≡ a.seen
  pub untaken : (b.untaken ≡ a.untaken) ⊎ (b.untaken ≡ [])

pub stays : (a : Core) → Stays a a
stays a = record { mtu = refl; group = refl; waiting = λ u h. h; seen = refl; untaken = inl refl }

-- what was queued is dropped
pub stays-cleared : (a : Core) → Stays a (record a { waiting = [] })
stays-cleared a = record { mtu = refl; group = refl; waiting = λ u h. absurd h; seen = refl; untaken = inl refl }

-- and what wasn't taken, too
pub stays-forgotten : (a : Core) → Stays a (record a { waiting = []; untaken = [] })
stays-forgotten a = record { mtu = refl; group = refl; waiting = λ u h. absurd h; seen = refl; untaken = inr refl }

pub stays-then : (a b c : Core) → Stays a b → Stays b c → Stays a c
stays-then a b c f g = record {
  mtu = g.mtu ∙ f.mtu;
  group = g.group ∙ f.group;
  waiting = λ u h. f.waiting u (g.waiting u h);
  seen = g.seen ∙ f.seen;
  untaken = elim g.untaken [ inr none ↦ inr none | inl same ↦ elim f.untaken [ inl was ↦ inl (same ∙ was) | inr none ↦ inr (same ∙ none) ] ];
}

-- an equal one
pub stays-same : (a b c : Core) → c ≡ b → Stays a b → Stays a c
stays-same a b c e h = subst (Stays a) (sym e) h

if-peer : (P : Peering → Type 0) (b : Bool) (p q : Peering) → P p → P q → P (cond b p q)
if-peer P true p q x y = x
if-peer P false p q x y = y

if-outcome : (P : Peering → Type 0) (b : Bool) (x y : Outcome) → P x.after → P y.after → P (cond b x y).after
if-outcome P true x y f g = f
if-outcome P false x y f g = g

-- a peer stays so
abbrev pub StaysAt : Peering → Peering → Type 0
StaysAt p q = Stays (core p) (core q)

-- a peer that was to disconnect later does so once it is done
settled-stays : (p : Peering) → StaysAt p (settled p)
settled-stays p = if-peer (StaysAt p) (is_later p.state && is_done p.outbox) (disconnecting p p.info) p (stays-cleared (core p)) (stays (core p))

-- the clock

cut_off-stays : (p : Peering) (s : PeerState) → StaysAt p (cut_off_in s p)
cut_off-stays p state.Answering = stays-forgotten (core p)
cut_off-stays p s = stays-cleared (core p)

timeouts-stay : (p : Peering) (now : ℕ) → StaysAt p (after_timeouts p now)
timeouts-stay p now = by (expiry_of p now)
  where
    by : (x : Expiry) → StaysAt p (after_timeouts_by x p now)
    by Ends = cut_off-stays p p.state
    by Resend = stays (core p)
    by No = stays (core p)

ticked-stays : (p : Peering) (now : ℕ) → StaysAt p (ticked p now)
ticked-stays p now =
    let q : Peering = after_timeouts p now in
    let h : StaysAt p q = timeouts-stay p now in
    if-peer (StaysAt p) (is_pinged q now) (record q { outbox = outbox.with_control q.outbox control.Ping }) q h h

pub moved-stays : (short : Bool) (p : Peering) (now : ℕ) → StaysAt p (moved short p now)
moved-stays short p now = if-peer (StaysAt p) (is_held_back short p now) (held_back p now) (ticked p now) (stays (core p)) (ticked-stays p now)

-- the user ends the connection

left-some : (p x q : Peering) → StaysAt p x → Some x ≡ Some q → StaysAt p q
left-some p x q h e = (let same : x ≡ q = cc in subst (StaysAt p) same h)

left-none : {A : Type 0} (q : Peering) → None ≡ Some q → A
left-none q e = absurd (cc)

pub left-stays : (p q : Peering) (way : Way) (info : ℕ) → left (leave_by way p.state) p info ≡ Some q → StaysAt p q
left-stays p q way info e = by way p.state e
  where
    waiting : Peering
    waiting = record p { state = state.DisconnectLater; info = info }

    by : (way : Way) (s : PeerState) → left (leave_by way s) p info ≡ Some q → StaysAt p q
    by Asking state.Connecting e = left-some p (freed p) q (stays-forgotten (core p)) e
    by Asking state.Answering e = left-some p (parting p info) q (stays-forgotten (core p)) e
    by Asking state.Connected e = left-some p (disconnecting p info) q (stays-cleared (core p)) e
    by Asking state.DisconnectLater e = left-some p (disconnecting p info) q (stays-cleared (core p)) e
    by Now state.Connecting e = left-some p (freed p) q (stays-forgotten (core p)) e
    by Now state.Answering e = left-some p (parting p info) q (stays-forgotten (core p)) e
    by Now state.Connected e = left-some p (parting p info) q (stays-forgotten (core p)) e
    by Now state.DisconnectLater e = left-some p (parting p info) q (stays-forgotten (core p)) e
    by Later state.Connecting e = left-some p (freed p) q (stays-forgotten (core p)) e
    by Later state.Answering e = left-some p (parting p info) q (stays-forgotten (core p)) e
    by Later state.Connected e = left-some p (settled waiting) q (settled-stays waiting) e
    by Asking s e = left-none q e
    by Now s e = left-none q e
    by Later s e = left-none q e

-- the user sets something
pub set-stays : (p : Peering) (s : Setting) → StaysAt p (with_setting s p)
set-stays p (Bandwidth incoming outgoing) = by (is_connected p.state)
  where
    by : (b : Bool) → StaysAt p (record p { limits = record p.limits { incoming = incoming; outgoing = outgoing }; outbox = cond b (outbox.with_control p.outbox (control.BandwidthLimit incoming outgoing)) p.outbox })
    by true = stays (core p)
    by false = stays (core p)
set-stays p (Throttle interval acceleration deceleration) = stays (core p)
set-stays p (ThrottleLimit limit) = stays (core p)
set-stays p (PingInterval ms) = stays (core p)
set-stays p (Timeout limit minimum maximum) = stays (core p)

-- a datagram has gone

gone_on-by : (p : Peering) (s : PeerState) → StaysAt p (gone_on_in s p)
gone_on-by p state.AckDisconnect = stays-cleared (core p)
gone_on-by p state.Parting = if-peer (StaysAt p) (ltb 0 (length p.outbox.control.queued)) p (freed p) (stays (core p)) (stays-forgotten (core p))
gone_on-by p s = settled-stays p

pub gone_on-stays : (p : Peering) → StaysAt p (gone_on p)
gone_on-stays p = gone_on-by p p.state

-- a command comes

answered-same : (p : Peering) (m : Message) (sent : Option ℕ) (may : Bool) → core (answered p m sent may).after ≡ core p
answered-same p m sent may = if-outcome (λ (q : Peering). core q ≡ core p) (m.head.acknowledge && may && is_answered_in p.state m.body) (answered_at p m.head sent) (record { stop = None; after = p }) (by sent) refl
  where
    by : (o : Option ℕ) → core (answered_at p m.head o).after ≡ core p
    by None = refl
    by (Some time) = refl

result-same : (p : Peering) (m : Message) (sent : Option ℕ) (r : Result Bool Stop) → core (by_answer p m sent r).after ≡ core p
result-same p m sent (Err why) = refl
result-same p m sent (Ok may) = answered-same p m sent may

with_answer-stays : (p : Peering) (s : PeerState) (what : Control) → StaysAt p (with_answer s what p)
with_answer-stays p state.Answering (control.VerifyConnect verify) = stays (core p)
with_answer-stays p state.Disconnecting (control.Disconnect info) = stays-cleared (core p)
with_answer-stays p s what = stays (core p)

-- an acknowledgement takes no unsequenced packet away
acknowledged-same : (p : Peering) (channel number : ℕ) → core (record p { outbox = after_acknowledgement p.outbox channel number }) ≡ core p
acknowledged-same p channel number = by-control (channel == 0xFF)
  where
    o : Outbox
    o = p.outbox

    by : (x : Option SendingEnd) → core (record p { outbox = acknowledged_on o channel number x }) ≡ core p
    by None = refl
    by (Some s) = refl

    by-control : (b : Bool) → core (record p { outbox = cond b (record o { control = controlling.after_acknowledgement o.control number }) (acknowledged_on o channel number (slice_get o.senders channel)) }) ≡ core p
    by-control true = refl
    by-control false = by (slice_get o.senders channel)

on_acknowledge-stays : (p : Peering) (now channel number told : ℕ) → StaysAt p (on_acknowledge p now channel number told)
on_acknowledge-stays p now channel number told = if-peer (StaysAt p) (is_connecting p.state) p (accepted p now channel number time) (stays (core p)) (by (matched_by p.outbox channel number time))
  where
    time : ℕ
    time = meant_time told (p.offset % 2 ^ 16)

    q : Peering
    q = sampled (record p { outbox = with_growth (after_acknowledgement p.outbox channel number) (told_by p.outbox channel number time) }) now time

    h : StaysAt p q
    h = stays-same (core p) (core p) (core q) (acknowledged-same p channel number) (stays (core p))

    by : (x : Matched) → StaysAt p (on_match x p q)
    by matched.Nothing = stays (core p)
    by matched.Data = stays-then (core p) (core q) (core (settled q)) h (settled-stays q)
    by (matched.Control what) =
        let r : Peering = with_answer p.state what q in
        stays-then (core p) (core r) (core (settled r)) (stays-then (core p) (core q) (core r) h (with_answer-stays q p.state what)) (settled-stays r)

last-stays : (p : Peering) (b : Bool) (info : ℕ) → StaysAt p (on_last_disconnect p b info)
last-stays p true info = stays-cleared (core p)
last-stays p false info = stays-cleared (core p)

on_disconnect-stays : (p : Peering) (s : PeerState) (b : Bool) (info : ℕ) → StaysAt p (on_disconnect_in s p b info)
on_disconnect-stays p state.Connected b info = last-stays p b info
on_disconnect-stays p state.DisconnectLater b info = last-stays p b info
on_disconnect-stays p state.Connecting b info = stays-cleared (core p)
on_disconnect-stays p state.Disconnecting b info = stays-cleared (core p)
on_disconnect-stays p state.Answering b info = stays-forgotten (core p)
on_disconnect-stays p state.Free b info = stays (core p)
on_disconnect-stays p state.AckDisconnect b info = stays (core p)
on_disconnect-stays p state.Ended b info = stays (core p)
on_disconnect-stays p state.Parting b info = stays (core p)

-- the packet as it waits for the user
abbrev pub packet_in : Unsequenced → Packet
packet_in u = record { channel = u.channel; flags = 2; body = u.body }

-- what a command that carries `come` makes of the groups seen and of the unsequenced packets that wait for the user: they stay, or the
-- packets are dropped; or the one that it carries is taken in
abbrev pub Comes : List Unsequenced → Seen → List Packet → Seen → List Packet → Type 0
Comes come s qs t rs =
    ((t ≡ s) × ((rs ≡ qs) ⊎ (rs ≡ [])))
    ⊎ ((u : Unsequenced) × (come ≡ u ∷ []) × (dispatches s u.group ≡ true) × (t ≡ mark s u.group) × (rs ≡ qs ++ packet_in u ∷ []))

-- what it makes of a peer; the mtu may change before the connection stands
pub record Becomes (young : Bool) (come : List Unsequenced) (a b : Core) : Type 0 where
  pub mtu : (b.mtu ≡ a.mtu) ⊎ (young ≡ true)
  pub group : b.group ≡ a.group
  pub waiting : (u : Unsequenced) → Has b.waiting u → Has a.waiting u
  pub comes : Comes come a.seen a.untaken b.seen b.untaken

becomes : (young : Bool) (come : List Unsequenced) (a b : Core) → Stays a b → Becomes young come a b
becomes young come a b h = record { mtu = inl h.mtu; group = h.group; waiting = h.waiting; comes = inl (h.seen, h.untaken) }

becomes-same : (young : Bool) (come : List Unsequenced) (a b c : Core) → c ≡ b → Becomes young come a b → Becomes young come a c
becomes-same young come a b c e h = subst (Becomes young come a) (sym e) h

-- data

abbrev ComesIn : List Unsequenced → Inbox → Inbox → Type 0
ComesIn come b c = Comes come b.seen (come_unsequenced b.untaken) c.seen (come_unsequenced c.untaken)

comes-nothing : (come : List Unsequenced) (b : Inbox) → ComesIn come b b
comes-nothing come b = inl (refl, inl refl)

-- what came in sequence isn't unsequenced
none-in : (channel : ℕ) (ds : List Dispatched) → AreSequenced ds → come_unsequenced (map (packet_of channel) ds) ≡ []
none-in channel [] h = refl
none-in channel (d ∷ ds) h =
    let rest : List Packet = come_unsequenced (map (packet_of channel) ds) in
    ap (λ b. cond b (packet_of channel d ∷ rest) rest) h.0 ∙ none-in channel ds h.1

-- the receivers of a peer between two commands
abbrev pub AreSequencedIn : Inbox → Type 0
AreSequencedIn b = (i : ℕ) (r : ReceivingEnd) → slice_get b.receivers i ≡ Some r → HasSequenced r.receiver

handed-comes : (come : List Unsequenced) (b : Inbox) (channel : ℕ) (r : ReceivingEnd) (c : DataCommand) (full : Bool) → HasSequenced r.receiver → ComesIn come b (handed_over b channel (after_command r (Some c) full))
handed-comes come b channel r c full h =
    let out : HasSequenced (received wire r.max_packet r.receiver c full) = sequenced-received wire r.max_packet r.receiver c full h in
    let ds : List Dispatched = (received wire r.max_packet r.receiver c full).dispatched in
    inl (
      refl,
      inl (filter-append (λ (q : Packet). q.flags == 2) b.untaken (map (packet_of channel) ds)
          ∙ ap (λ l. come_unsequenced b.untaken ++ l) (none-in channel ds out.dispatched)
          ∙ append-nil (come_unsequenced b.untaken)),
    )

sequenced-comes : (come : List Unsequenced) (b : Inbox) (channel : ℕ) (o : Option DataCommand) → AreSequencedIn b → ComesIn come b (sequenced b channel o).after
sequenced-comes come b channel None flat = comes-nothing come b
sequenced-comes come b channel (Some c) flat = by (slice_get b.receivers channel) refl
  where
    by-took : (r : ReceivingEnd) → slice_get b.receivers channel ≡ Some r → (t : Took) → ComesIn come b (by_took t b channel r c).after
    by-took r there Bad = comes-nothing come b
    by-took r there Waiting = comes-nothing come b
    by-took r there Memory = comes-nothing come b
    by-took r there Outside = comes-nothing come b
    by-took r there Again = comes-nothing come b
    by-took r there Held = handed-comes come b channel r c (is_full_for b r c) (flat channel r there)

    by : (o : Option ReceivingEnd) → slice_get b.receivers channel ≡ o → ComesIn come b (sequenced_on b channel c o).after
    by None there = comes-nothing come b
    by (Some r) there = by-took r there (outcome_for r (Some c) (is_full_for b r c))

if-effect : (P : Inbox → Type 0) (b : Bool) (x y : DataEffect) → P x.after → (b ≡ false → P y.after) → P (cond b x y).after
if-effect P true x y f g = f
if-effect P false x y f g = g refl

not-false : (b : Bool) → not b ≡ false → b ≡ true
not-false true h = refl
not-false false h = absurd (cc)

unsequenced-comes : (b : Inbox) (channel group : ℕ) (payload : List ℕ) → ComesIn (carried_in channel (send_unsequenced group payload)) b (unsequenced b channel group payload).after
unsequenced-comes b channel group payload =
    let took : DataEffect = handled (unsequenced_taken b channel group payload) true in
    let a3 : DataEffect = cond (is_full b) (refused b stop.Waiting) took in
    let a2 : DataEffect = cond (not (dispatches b.seen group)) (handled b true) a3 in
    let a1 : DataEffect = cond (ltb b.max_packet (length payload)) (refused b stop.BadFragment) a2 in
    if-effect P (leb (length b.receivers) channel) (refused b stop.BadChannel) a1 nothing (λ within.
    if-effect P (ltb b.max_packet (length payload)) (refused b stop.BadFragment) a2 nothing (λ short.
    if-effect P (not (dispatches b.seen group)) (handled b true) a3 nothing (λ new.
    if-effect P (is_full b) (refused b stop.Waiting) took nothing (λ light.
    inr (u, refl, not-false (dispatches b.seen group) new, refl, filter-append (λ (q : Packet). q.flags == 2) b.untaken (packet_in u ∷ []))))))
  where
    u : Unsequenced
    u = record { channel = channel; group = group; body = payload }

    P : Inbox → Type 0
    P c = ComesIn (u ∷ []) b c

    nothing : ComesIn (u ∷ []) b b
    nothing = comes-nothing (u ∷ []) b

plain_arrival-comes : (b : Inbox) (m : Message) → AreSequencedIn b → ComesIn (carried m) b (plain_arrival b m).after
plain_arrival-comes b m flat = by m.body
  where
    by : (body : Body) → ComesIn (carried_in m.head.channel body) b (arrival_of b m body).after
    by (send_unsequenced group payload) = unsequenced-comes b m.head.channel group payload
    by body = sequenced-comes [] b m.head.channel (data_of m) flat

given_way-sequenced : (b : Inbox) → AreSequencedIn b → AreSequencedIn (given_way b)
given_way-sequenced b flat i r e = (let c = get-map given_way_receiver b.receivers i r e in
    subst (λ (x : ReceivingEnd). HasSequenced x.receiver) c.2 (sequenced-given_up c.0.receiver (flat i c.0 c.1)))

-- and where unreliable packets that wait give way to it
arrival-comes : (b : Inbox) (m : Message) → AreSequencedIn b → ComesIn (carried m) b (arrival b m).after
arrival-comes b m flat = by (makes_room b m)
  where
    by : (way : Bool) → ComesIn (carried m) b (plain_arrival (cond way (given_way b) b) m).after
    by true = plain_arrival-comes (given_way b) m (given_way-sequenced b flat)
    by false = plain_arrival-comes b m flat

-- a data command comes to a peer
data-becomes : (p : Peering) (m : Message) (sent : Option ℕ) → AreSequencedIn p.inbox → Becomes (is_young p.state) (carried m) (core p) (core (on_data p m sent).after)
data-becomes p m sent flat = by (is_later p.state)
  where
    become : Peering → Type 0
    become q = Becomes (is_young p.state) (carried m) (core p) (core q)

    q : Peering
    q = record p { inbox = (arrival p.inbox m).after }

    passed : become (by_answer p m sent (passed_over p.inbox m)).after
    passed = becomes-same (is_young p.state) (carried m) (core p) (core p) (core (by_answer p m sent (passed_over p.inbox m)).after) (result-same p m sent (passed_over p.inbox m))
        (becomes (is_young p.state) (carried m) (core p) (core p) (stays (core p)))

    came : become (by_arrival p m sent (arrival p.inbox m)).after
    came = becomes-same (is_young p.state) (carried m) (core p) (core q) (core (by_arrival p m sent (arrival p.inbox m)).after) (result-same q m sent (arrival p.inbox m).answer)
        (record { mtu = inl refl; group = refl; waiting = λ u h. h; comes = arrival-comes p.inbox m flat })

    by : (b : Bool) → become (cond b (by_answer p m sent (passed_over p.inbox m)) (by_arrival p m sent (arrival p.inbox m))).after
    by true = passed
    by false = came

-- a server's answer comes to a client
verify-becomes : (come : List Unsequenced) (p : Peering) (v : Verify) (s : PeerState) → p.state ≡ s → Becomes (is_young p.state) come (core p) (core (on_verify_in s p v))
verify-becomes come p v state.Connecting e = by (confirmed p.offer v)
  where
    by : (o : Option Terms) → Becomes (is_young p.state) come (core p) (core (welcomed p v o))
    by None =
        unwelcomed-holds (λ (q : Peering). Becomes (is_young p.state) come (core p) (core q)) p v (becomes (is_young p.state) come (core p) (core p) (stays (core p)))
        (becomes (is_young p.state) come (core p) (core (ended p BadAnswer 0)) (stays-cleared (core p)))
    by (Some terms) = record { mtu = inr (ap is_young e); group = refl; waiting = λ u h. absurd h; comes = inl (refl, inl refl) }
verify-becomes come p v s e = becomes (is_young p.state) come (core p) (core p) (stays (core p))

pub obeyed-becomes : (p : Peering) (h : Head) (now : ℕ) (sent : Option ℕ) (body : Body) → AreSequencedIn p.inbox
    → Becomes (is_young p.state) (carried_in h.channel body) (core p) (core (obeyed p now sent (record { head = h; body = body })).after)
obeyed-becomes p h now sent body flat = by body
  where
    young : Bool
    young = is_young p.state

    message : Body → Message
    message body = record { head = h; body = body }

    unchanged : (come : List Unsequenced) → Becomes young come (core p) (core p)
    unchanged come = becomes young come (core p) (core p) (stays (core p))

    -- where it is allowed
    if-allowed : (body : Body) → Becomes young (carried_in h.channel body) (core p) (core (by_body p now sent (message body) body).after)
        → Becomes young (carried_in h.channel body) (core p) (core (cond (is_allowed p.state body) (unless_refused p (message body) (by_body p now sent (message body) body)) (stopped p stop.NotConnected)).after)
    if-allowed body f =
        let P : Peering → Type 0 = λ q. Becomes young (carried_in h.channel body) (core p) (core q) in
        if-outcome P (is_allowed p.state body) (unless_refused p (message body) (by_body p now sent (message body) body)) (stopped p stop.NotConnected)
        (unless-holds P p (message body) (by_body p now sent (message body) body) (unchanged (carried_in h.channel body)) f) (unchanged (carried_in h.channel body))

    -- and is acknowledged
    answers : (body : Body) (q : Peering) → Becomes young (carried_in h.channel body) (core p) (core q) → Becomes young (carried_in h.channel body) (core p) (core (answered q (message body) sent true).after)
    answers body q f = becomes-same young (carried_in h.channel body) (core p) (core q) (core (answered q (message body) sent true).after) (answered-same q (message body) sent true) f

    stay : (body : Body) (q : Peering) → StaysAt p q → Becomes young (carried_in h.channel body) (core p) (core (answered q (message body) sent true).after)
    stay body q f = answers body q (becomes young (carried_in h.channel body) (core p) (core q) f)

    by : (body : Body) → Becomes young (carried_in h.channel body) (core p) (core (obeyed p now sent (message body)).after)
    by (connect offer) = unchanged []
    by (acknowledge number time) = if-allowed (acknowledge number time) (stay (acknowledge number time) (on_acknowledge p now h.channel number time) (on_acknowledge-stays p now h.channel number time))
    by (verify_connect v) = if-allowed (verify_connect v) (answers (verify_connect v) (on_verify_in p.state p v) (verify-becomes [] p v p.state refl))
    by (disconnect info) = if-allowed (disconnect info)
        (stay (disconnect info) (on_disconnect_in p.state p (h.acknowledge && is_some sent) info) (on_disconnect-stays p p.state (h.acknowledge && is_some sent) info))
    by ping = if-allowed ping (stay ping p (stays (core p)))
    by (bandwidth_limit incoming outgoing) = if-allowed (bandwidth_limit incoming outgoing) (stay (bandwidth_limit incoming outgoing) (on_bandwidth p incoming) (stays (core p)))
    by (throttle_configure interval acceleration deceleration) = if-allowed (throttle_configure interval acceleration deceleration)
        (stay (throttle_configure interval acceleration deceleration) (on_throttle p interval acceleration deceleration) (stays (core p)))
    by (send_unsequenced group payload) = if-allowed (send_unsequenced group payload) (data-becomes p (message (send_unsequenced group payload)) sent flat)
    by (send_reliable payload) = if-allowed (send_reliable payload) (data-becomes p (message (send_reliable payload)) sent flat)
    by (send_unreliable n payload) = if-allowed (send_unreliable n payload) (data-becomes p (message (send_unreliable n payload)) sent flat)
    by (send_fragment f payload) = if-allowed (send_fragment f payload) (data-becomes p (message (send_fragment f payload)) sent flat)
    by (send_unreliable_fragment f payload) = if-allowed (send_unreliable_fragment f payload) (data-becomes p (message (send_unreliable_fragment f payload)) sent flat)

-- a command comes to a host that may be full
pub heeded-becomes : (full : Bool) (p : Peering) (now : ℕ) (sent : Option ℕ) (m : Message) → AreSequencedIn p.inbox
    → Becomes (is_young p.state) (carried m) (core p) (core (heeded full p now sent m).after)
heeded-becomes full p now sent m flat =
    if-outcome (λ q. Becomes (is_young p.state) (carried m) (core p) (core q)) (full && confirms p m) (record { stop = None; after = turned_away p }) (obeyed p now sent m)
    (becomes (is_young p.state) (carried m) (core p) (core p) (stays (core p))) (obeyed-becomes p m.head now sent m.body flat)

-- a peer is let go
pub freed-stays : (p : Peering) → StaysAt p (freed p)
freed-stays p = stays-forgotten (core p)

-- one that was refused is told so again
pub told_again-stays : (p : Peering) → StaysAt p (told_again p)
told_again-stays p = if-peer (StaysAt p) (ltb 0 (length p.outbox.control.queued)) p (told_full p) (stays (core p)) (stays (core p))
