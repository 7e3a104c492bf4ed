-- What a peer keeps for its user, whatever comes, when time passes, and by the user's calls: it stays, or a data command comes to its inbox.
use Rattle.std.proofs.Common.{◌≡◌, ℕ, ◌%◌, ◌^◌, Bool, true, false, cond, ltb, ◌&&◌, List, [], map, length, refl, sym, ap, subst, ◌∙◌, inl, inr, ◌⊎◌, Option, Some, None, Result, Ok, Err}
use Rattle.std.specs.Prelude.{is_some}
use Rattle.std.specs.List.{slice_get}
use Rattle.enet_rtt.specs.Clock.{meant_time}
use Rattle.enet_codec.specs.declared.command.Head.{Head}
use Rattle.enet_codec.specs.declared.command.Verify.{Verify}
use Rattle.enet_codec.specs.declared.packet.Packet.{Packet}
use Rattle.enet_codec.specs.declared.stop.Stop.{Stop}
use Rattle.enet_codec.specs.declared.stop.Stop.TheVariants as stop
use Rattle.enet_codec.specs.Message.{Message, Body, acknowledge, connect, verify_connect, disconnect, ping, send_reliable, send_unreliable, send_fragment, send_unsequenced, bandwidth_limit, throttle_configure, send_unreliable_fragment}
use Rattle.enet_rtt.specs.declared.expiry.Expiry.{Expiry}
use Rattle.enet_rtt.specs.declared.expiry.Expiry.TheVariants.{No, Resend, End as Ends}
use Rattle.enet_connect.specs.declared.terms.Terms.{Terms}
use Rattle.enet_connect.specs.Verification.{confirmed}
use Rattle.enet_senders.specs.declared.control.Control.{Control}
use Rattle.enet_senders.specs.declared.control.Control.TheVariants as control
use Rattle.enet_receiver.specs.Foresight.{ReceivingEnd}
use Rattle.enet_inbox.specs.Inbox.{cleared_receiver}
use Rattle.enet_inbox.specs.DataEffect.{DataEffect, passed_over, arrival}
use Rattle.enet_outbox.specs.declared.parts.Matched.{Matched}
use Rattle.enet_outbox.specs.declared.parts.Matched.TheVariants as matched
use Rattle.enet_outbox.specs.Outbox.{after_acknowledgement, is_done, matched_by, told_by, with_growth}
use Rattle.enet_outbox.specs.Outbox as outbox
use Rattle.enet_peer.specs.Peering.{Peering}
use Rattle.enet_peer.specs.declared.parts.Ending.{Ending}
use Rattle.enet_peer.specs.declared.parts.Ending.TheVariants.{AskedHere, AskedThere, BadAnswer}
use Rattle.enet_peer.specs.declared.parts.PeerState.{PeerState}
use Rattle.enet_peer.specs.declared.parts.PeerState.TheVariants as state
use Rattle.enet_peer.specs.Endings.{ended, freed, disconnecting, parting, settled, is_later, silence_ending, cut_off_in}
use Rattle.enet_peer.specs.CommandEffect.{Outcome, answered, answered_at, is_answered_in, is_allowed, is_of_handshake, obeyed, unless_refused, by_body, by_answer, by_arrival, on_data, stopped, sampled, with_answer, on_match, accepted, is_connecting, on_acknowledge, welcomed, on_verify_in, on_last_disconnect, on_disconnect_in, on_bandwidth, on_throttle}
use Rattle.enet_peer.specs.Refusing.{heeded, told_again, told_full}
use Rattle.enet_peer.proofs.Obeying.{unless-holds, unwelcomed-holds}
use Rattle.enet_peer.proofs.Refusals.{heeded-holds}
use Rattle.enet_peer.specs.Calls.{left, after_timeouts, after_timeouts_by, expiry_of, held_back, is_held_back, is_pinged, moved, ticked, is_connected, gone_on, gone_on_in}
use Rattle.law_connection.specs.Linked.{dispatches_in}
use Rattle.law_connection.specs.Steps.{Way, Asking, Now, Later, leave_by, Setting, Bandwidth, Throttle, ThrottleLimit, PingInterval, Timeout, with_setting}
use Rattle.law_connection.proofs.Arrivals.{get-take}
use Rattle.law_connection.proofs.Runs.{either, get-map}

-- what a peer has for its user, and whether it still dispatches
pub record Core : Type 0 where
  pub opens : Bool
  pub receivers : List ReceivingEnd
  pub untaken : List Packet

abbrev pub core : Peering → Core
core p = record { opens = dispatches_in p.state; receivers = p.inbox.receivers; untaken = p.inbox.untaken }

-- each receiver stands where one stood before
abbrev pub Stood : List ReceivingEnd → List ReceivingEnd → Type 0
Stood old new = (i : ℕ) (r : ReceivingEnd) → slice_get new i ≡ Some r → (q : ReceivingEnd) × (slice_get old i ≡ Some q) × (q.receiver.front ≡ r.receiver.front)

stood-same : (rs : List ReceivingEnd) → Stood rs rs
stood-same rs i r e = (r, e, refl)

stood-cleared : (rs : List ReceivingEnd) → Stood rs (map cleared_receiver rs)
stood-cleared rs i r e = (let c = get-map cleared_receiver rs i r e in (c.0, c.1, ap (λ (x : ReceivingEnd). x.receiver.front) c.2))

stood-or-gone : (old new : List ReceivingEnd) → ((i : ℕ) → (slice_get new i ≡ slice_get old i) ⊎ (slice_get new i ≡ None)) → Stood old new
stood-or-gone old new h i r e = elim (h i) [
  | inl same ↦ (r, sym same ∙ e, refl)
  | inr none ↦ absurd (let x : None ≡ Some r = sym none ∙ e in cc)
]

-- it stays, or ends, and then what wasn't taken may be dropped
pub record Stays (a b : Core) : Type 0 where
  pub opens : b.opens ≡ true → a.opens ≡ true
  pub receivers : b.opens ≡ true → (i : ℕ) → (slice_get b.receivers i ≡ slice_get a.receivers i) ⊎ (slice_get b.receivers i ≡ None)
  pub untaken : (b.untaken ≡ a.untaken) ⊎ ((b.untaken ≡ []) × (b.opens ≡ false))
  pub stood : Stood a.receivers b.receivers

pub stays : (a : Core) → Stays a a
stays a = record { opens = λ t. t; receivers = λ t i. inl refl; untaken = inl refl; stood = stood-same a.receivers }

not-both : {A : Type 0} (b : Bool) → b ≡ false → b ≡ true → A
not-both b e f = absurd (let x : true ≡ false = sym f ∙ e in cc)

-- it ends
shut : (a b : Core) → b.opens ≡ false → b.untaken ≡ a.untaken → Stood a.receivers b.receivers → Stays a b
shut a b e same stood = record { opens = λ t. not-both b.opens e t; receivers = λ t. not-both b.opens e t; untaken = inl same; stood = stood }

-- and forgets what wasn't taken
forgets : (a b : Core) → b.opens ≡ false → b.untaken ≡ [] → Stood a.receivers b.receivers → Stays a b
forgets a b e none stood = record { opens = λ t. not-both b.opens e t; receivers = λ t. not-both b.opens e t; untaken = inr (none, e); stood = stood }

pub stays-then : (a b c : Core) → Stays a b → Stays b c → Stays a c
stays-then a b c f g = record {
  opens = λ t. f.opens (g.opens t);
  receivers = λ t i. elim (g.receivers t i) [
    | inr none ↦ inr none
    | inl same ↦ elim (f.receivers (g.opens t) i) [ inl was ↦ inl (same ∙ was) | inr none ↦ inr (same ∙ none) ]
  ];
  untaken = elim g.untaken [
    | inr none ↦ inr none
    | inl same ↦ elim f.untaken [
      | inl was ↦ inl (same ∙ was)
      | inr none ↦ inr (same ∙ none.0, elim (either c.opens) [ inl t ↦ not-both b.opens none.1 (g.opens t) | inr n ↦ n ])
    ]
  ];
  stood = λ i r e. (let y = g.stood i r e in let x = f.stood i y.0 y.1 in (x.0, x.1, x.2 ∙ y.2));
}

if-peer : (P : Peering → Type 0) (b : Bool) (p q : Peering) → P p → P q → P (cond b p q)
if-peer P true p q x y = x
if-peer P false p q x y = y

if-outcome : (P : Peering → Type 0) (b : Bool) (x y : Outcome) → P x.after → P y.after → P (cond b x y).after
if-outcome P true x y f g = f
if-outcome P false x y f g = g

-- a peer stays so
abbrev pub StaysAt : Peering → Peering → Type 0
StaysAt p q = Stays (core p) (core q)

ended-stays : (p : Peering) (why : Ending) (info : ℕ) → StaysAt p (ended p why info)
ended-stays p why info = shut (core p) (core (ended p why info)) refl refl (stood-cleared p.inbox.receivers)

pub freed-stays : (p : Peering) → StaysAt p (freed p)
freed-stays p = forgets (core p) (core (freed p)) refl refl (stood-cleared p.inbox.receivers)

parting-stays : (p : Peering) (info : ℕ) → StaysAt p (parting p info)
parting-stays p info = forgets (core p) (core (parting p info)) refl refl (stood-cleared p.inbox.receivers)

disconnecting-stays : (p : Peering) (info : ℕ) → StaysAt p (disconnecting p info)
disconnecting-stays p info = shut (core p) (core (disconnecting p info)) refl refl (stood-cleared p.inbox.receivers)

-- a peer that was to disconnect later does so once it is done
settled-stays : (p : Peering) → StaysAt p (settled p)
settled-stays p = if-peer (StaysAt p) (is_later p.state && is_done p.outbox) (disconnecting p p.info) p (disconnecting-stays p p.info) (stays (core p))

-- the clock

cut_off-stays : (p : Peering) (s : PeerState) → StaysAt p (cut_off_in s p)
cut_off-stays p state.Answering = freed-stays p
cut_off-stays p s = ended-stays p (silence_ending s) 0

timeouts-stay : (p : Peering) (now : ℕ) → StaysAt p (after_timeouts p now)
timeouts-stay p now = by (expiry_of p now)
  where
    by : (x : Expiry) → StaysAt p (after_timeouts_by x p now)
    by Ends = cut_off-stays p p.state
    by Resend = stays (core p)
    by No = stays (core p)

ticked-stays : (p : Peering) (now : ℕ) → StaysAt p (ticked p now)
ticked-stays p now =
    let q : Peering = after_timeouts p now in
    let h : StaysAt p q = timeouts-stay p now in
    if-peer (StaysAt p) (is_pinged q now) (record q { outbox = outbox.with_control q.outbox control.Ping }) q h h

pub moved-stays : (short : Bool) (p : Peering) (now : ℕ) → StaysAt p (moved short p now)
moved-stays short p now = if-peer (StaysAt p) (is_held_back short p now) (held_back p now) (ticked p now) (stays (core p)) (ticked-stays p now)

-- the user ends the connection

left-some : (p x q : Peering) → StaysAt p x → Some x ≡ Some q → StaysAt p q
left-some p x q h e = (let same : x ≡ q = cc in subst (StaysAt p) same h)

left-none : {A : Type 0} (q : Peering) → None ≡ Some q → A
left-none q e = absurd (cc)

pub left-stays : (p q : Peering) (way : Way) (info : ℕ) → left (leave_by way p.state) p info ≡ Some q → StaysAt p q
left-stays p q way info e = by way p.state e
  where
    waiting : Peering
    waiting = record p { state = state.DisconnectLater; info = info }

    by : (way : Way) (s : PeerState) → left (leave_by way s) p info ≡ Some q → StaysAt p q
    by Asking state.Connecting e = left-some p (freed p) q (freed-stays p) e
    by Asking state.Answering e = left-some p (parting p info) q (parting-stays p info) e
    by Asking state.Connected e = left-some p (disconnecting p info) q (disconnecting-stays p info) e
    by Asking state.DisconnectLater e = left-some p (disconnecting p info) q (disconnecting-stays p info) e
    by Now state.Connecting e = left-some p (freed p) q (freed-stays p) e
    by Now state.Answering e = left-some p (parting p info) q (parting-stays p info) e
    by Now state.Connected e = left-some p (parting p info) q (parting-stays p info) e
    by Now state.DisconnectLater e = left-some p (parting p info) q (parting-stays p info) e
    by Later state.Connecting e = left-some p (freed p) q (freed-stays p) e
    by Later state.Answering e = left-some p (parting p info) q (parting-stays p info) e
    by Later state.Connected e = left-some p (settled waiting) q (stays-then (core p) (core waiting) (core (settled waiting)) (shut (core p) (core waiting) refl refl (stood-same p.inbox.receivers)) (settled-stays waiting)) e
    by Asking s e = left-none q e
    by Now s e = left-none q e
    by Later s e = left-none q e

-- the user sets something
pub set-stays : (p : Peering) (s : Setting) → StaysAt p (with_setting s p)
set-stays p (Bandwidth incoming outgoing) = by (is_connected p.state)
  where
    by : (b : Bool) → StaysAt p (record p { limits = record p.limits { incoming = incoming; outgoing = outgoing }; outbox = cond b (outbox.with_control p.outbox (control.BandwidthLimit incoming outgoing)) p.outbox })
    by true = stays (core p)
    by false = stays (core p)
set-stays p (Throttle interval acceleration deceleration) = stays (core p)
set-stays p (ThrottleLimit limit) = stays (core p)
set-stays p (PingInterval ms) = stays (core p)
set-stays p (Timeout limit minimum maximum) = stays (core p)

-- a datagram has gone

gone_on-by : (p : Peering) (s : PeerState) → StaysAt p (gone_on_in s p)
gone_on-by p state.AckDisconnect = ended-stays p AskedThere p.info
gone_on-by p state.Parting = if-peer (StaysAt p) (ltb 0 (length p.outbox.control.queued)) p (freed p) (stays (core p)) (freed-stays p)
gone_on-by p s = settled-stays p

pub gone_on-stays : (p : Peering) → StaysAt p (gone_on p)
gone_on-stays p = gone_on-by p p.state

-- a command comes

answered-same : (P : Peering → Type 0) (p : Peering) (m : Message) (sent : Option ℕ) (may : Bool) → ((q : Peering) → q.state ≡ p.state → q.inbox ≡ p.inbox → P q) → P (answered p m sent may).after
answered-same P p m sent may k = if-outcome P (m.head.acknowledge && may && is_answered_in p.state m.body) (answered_at p m.head sent) (record { stop = None; after = p }) (by sent) (k p refl refl)
  where
    by : (o : Option ℕ) → P (answered_at p m.head o).after
    by None = k p refl refl
    by (Some time) = k (record p { outbox = outbox.with_acknowledgement p.outbox (record { channel = m.head.channel; number = m.head.number; time = time }) }) refl refl

result-same : (P : Peering → Type 0) (p : Peering) (m : Message) (sent : Option ℕ) (r : Result Bool Stop) → ((q : Peering) → q.state ≡ p.state → q.inbox ≡ p.inbox → P q) → P (by_answer p m sent r).after
result-same P p m sent (Err why) k = k p refl refl
result-same P p m sent (Ok may) k = answered-same P p m sent may k

-- a peer of the same state and inbox
like : (p q r : Peering) → r.state ≡ q.state → r.inbox ≡ q.inbox → StaysAt p q → StaysAt p r
like p q r s i h = subst (Stays (core p)) (λ j. record { opens = dispatches_in (sym s j); receivers = (sym i j).receivers; untaken = (sym i j).untaken }) h

with_answer-stays : (p : Peering) (s : PeerState) (what : Control) → p.state ≡ s → StaysAt p (with_answer s what p)
with_answer-stays p state.Answering (control.VerifyConnect verify) e = record { opens = λ t. ap dispatches_in e; receivers = λ t i. inl refl; untaken = inl refl; stood = stood-same p.inbox.receivers }
with_answer-stays p state.Disconnecting (control.Disconnect info) e = ended-stays p AskedHere 0
with_answer-stays p s what e = stays (core p)

on_acknowledge-stays : (p : Peering) (now channel number told : ℕ) → StaysAt p (on_acknowledge p now channel number told)
on_acknowledge-stays p now channel number told = if-peer (StaysAt p) (is_connecting p.state) p (accepted p now channel number time) (stays (core p)) (by (matched_by p.outbox channel number time))
  where
    time : ℕ
    time = meant_time told (p.offset % 2 ^ 16)

    q : Peering
    q = sampled (record p { outbox = with_growth (after_acknowledgement p.outbox channel number) (told_by p.outbox channel number time) }) now time

    h : StaysAt p q
    h = stays (core p)

    by : (x : Matched) → StaysAt p (on_match x p q)
    by matched.Nothing = stays (core p)
    by matched.Data = stays-then (core p) (core q) (core (settled q)) h (settled-stays q)
    by (matched.Control what) =
        let r : Peering = with_answer p.state what q in
        stays-then (core p) (core r) (core (settled r)) (stays-then (core p) (core q) (core r) h (with_answer-stays q p.state what refl)) (settled-stays r)

last-stays : (p : Peering) (b : Bool) (info : ℕ) → StaysAt p (on_last_disconnect p b info)
last-stays p true info = shut (core p) (core (on_last_disconnect p true info)) refl refl (stood-cleared p.inbox.receivers)
last-stays p false info = ended-stays p AskedThere info

on_disconnect-stays : (p : Peering) (s : PeerState) (b : Bool) (info : ℕ) → StaysAt p (on_disconnect_in s p b info)
on_disconnect-stays p state.Connected b info = last-stays p b info
on_disconnect-stays p state.DisconnectLater b info = last-stays p b info
on_disconnect-stays p state.Connecting b info = ended-stays p AskedThere info
on_disconnect-stays p state.Disconnecting b info = ended-stays p AskedThere info
on_disconnect-stays p state.Answering b info = freed-stays p
on_disconnect-stays p state.Free b info = stays (core p)
on_disconnect-stays p state.AckDisconnect b info = stays (core p)
on_disconnect-stays p state.Ended b info = stays (core p)
on_disconnect-stays p state.Parting b info = stays (core p)

-- a server's answer comes to a client
verify-stays : (p : Peering) (v : Verify) (s : PeerState) → p.state ≡ s → StaysAt p (on_verify_in s p v)
verify-stays p v state.Connecting e = by (confirmed p.offer v)
  where
    by : (o : Option Terms) → StaysAt p (welcomed p v o)
    by None = unwelcomed-holds (StaysAt p) p v (stays (core p)) (ended-stays p BadAnswer 0)
    by (Some terms) = record {
      opens = λ t. ap dispatches_in e;
      receivers = λ t i. get-take terms.channels p.inbox.receivers i;
      untaken = inl refl;
      stood = stood-or-gone p.inbox.receivers (core (welcomed p v (Some terms))).receivers (λ i. get-take terms.channels p.inbox.receivers i);
    }
verify-stays p v s e = stays (core p)

-- data comes to an inbox, or the peer stays
abbrev pub Becomes : Peering → Message → Peering → Type 0
Becomes p m q = StaysAt p q ⊎ ((dispatches_in p.state ≡ true) × (q.state ≡ p.state) × (q.inbox ≡ (arrival p.inbox m).after))

-- what is no part of a handshake is allowed where the connection stands
allowed-opens : (s : PeerState) (body : Body) → is_of_handshake body ≡ false → is_allowed s body ≡ true → is_later s ≡ false → dispatches_in s ≡ true
allowed-opens state.Connected body n e l = refl
allowed-opens state.DisconnectLater body n e l = absurd (let x : true ≡ false = l in cc)
allowed-opens state.Connecting body n e l = refl
allowed-opens state.Answering body n e l = refl
allowed-opens state.Disconnecting body n e l = absurd (let x : true ≡ false = sym e ∙ n in cc)
allowed-opens state.AckDisconnect body n e l = absurd (let x : true ≡ false = sym e ∙ n in cc)
allowed-opens state.Free body n e l = absurd (let x : false ≡ true = e in cc)
allowed-opens state.Ended body n e l = absurd (let x : false ≡ true = e in cc)
allowed-opens state.Parting body n e l = absurd (let x : false ≡ true = e in cc)

data-becomes : (p : Peering) (m : Message) (sent : Option ℕ) (allowed : Bool) → (allowed ≡ true → is_later p.state ≡ false → dispatches_in p.state ≡ true)
    → Becomes p m (cond allowed (unless_refused p m (on_data p m sent)) (stopped p stop.NotConnected)).after
data-becomes p m sent false up = inl (stays (core p))
data-becomes p m sent true up = unless-holds (Becomes p m) p m (on_data p m sent) (inl (stays (core p))) (by (is_later p.state) refl)
  where
    by : (b : Bool) → is_later p.state ≡ b → Becomes p m (cond b (by_answer p m sent (passed_over p.inbox m)) (by_arrival p m sent (arrival p.inbox m))).after
    by true e = result-same (Becomes p m) p m sent (passed_over p.inbox m) (λ q s i. inl (like p p q s i (stays (core p))))
    by false e = (let a : DataEffect = arrival p.inbox m in
        result-same (Becomes p m) (record p { inbox = a.after }) m sent a.answer (λ q s i. inr (up refl e, s, i)))

pub obeyed-becomes : (p : Peering) (h : Head) (now : ℕ) (sent : Option ℕ) (body : Body) → Becomes p (record { head = h; body = body }) (obeyed p now sent (record { head = h; body = body })).after
obeyed-becomes p h now sent body = by body
  where
    message : Body → Message
    message body = record { head = h; body = body }

    -- where it is allowed
    if-allowed : (body : Body) → StaysAt p (by_body p now sent (message body) body).after
        → Becomes p (message body) (cond (is_allowed p.state body) (unless_refused p (message body) (by_body p now sent (message body) body)) (stopped p stop.NotConnected)).after
    if-allowed body f = inl (if-outcome (StaysAt p) (is_allowed p.state body) (unless_refused p (message body) (by_body p now sent (message body) body)) (stopped p stop.NotConnected)
        (unless-holds (StaysAt p) p (message body) (by_body p now sent (message body) body) (stays (core p)) f) (stays (core p)))

    -- and is acknowledged
    answers : (body : Body) (q : Peering) → StaysAt p q → StaysAt p (answered q (message body) sent true).after
    answers body q f = answered-same (StaysAt p) q (message body) sent true (λ r s i. like p q r s i f)

    by : (body : Body) → Becomes p (message body) (obeyed p now sent (message body)).after
    by (connect offer) = inl (stays (core p))
    by (acknowledge number time) = if-allowed (acknowledge number time) (answers (acknowledge number time) (on_acknowledge p now h.channel number time) (on_acknowledge-stays p now h.channel number time))
    by (verify_connect v) = if-allowed (verify_connect v) (answers (verify_connect v) (on_verify_in p.state p v) (verify-stays p v p.state refl))
    by (disconnect info) = if-allowed (disconnect info)
        (answers (disconnect info) (on_disconnect_in p.state p (h.acknowledge && is_some sent) info) (on_disconnect-stays p p.state (h.acknowledge && is_some sent) info))
    by ping = if-allowed ping (answers ping p (stays (core p)))
    by (bandwidth_limit incoming outgoing) = if-allowed (bandwidth_limit incoming outgoing) (answers (bandwidth_limit incoming outgoing) (on_bandwidth p incoming) (stays (core p)))
    by (throttle_configure interval acceleration deceleration) = if-allowed (throttle_configure interval acceleration deceleration)
        (answers (throttle_configure interval acceleration deceleration) (on_throttle p interval acceleration deceleration) (stays (core p)))
    by (send_unsequenced group payload) = data-becomes p (message (send_unsequenced group payload)) sent (is_allowed p.state (send_unsequenced group payload)) (allowed-opens p.state (send_unsequenced group payload) refl)
    by (send_reliable payload) = data-becomes p (message (send_reliable payload)) sent (is_allowed p.state (send_reliable payload)) (allowed-opens p.state (send_reliable payload) refl)
    by (send_unreliable n payload) = data-becomes p (message (send_unreliable n payload)) sent (is_allowed p.state (send_unreliable n payload)) (allowed-opens p.state (send_unreliable n payload) refl)
    by (send_fragment f payload) = data-becomes p (message (send_fragment f payload)) sent (is_allowed p.state (send_fragment f payload)) (allowed-opens p.state (send_fragment f payload) refl)
    by (send_unreliable_fragment f payload) = data-becomes p (message (send_unreliable_fragment f payload)) sent (is_allowed p.state (send_unreliable_fragment f payload)) (allowed-opens p.state (send_unreliable_fragment f payload) refl)

-- one that was refused is told so again
pub told_again-stays : (p : Peering) → StaysAt p (told_again p)
told_again-stays p = if-peer (StaysAt p) (ltb 0 (length p.outbox.control.queued)) p (told_full p) (stays (core p)) (stays (core p))

-- a command comes to a host that may be full
pub heeded-becomes : (full : Bool) (p : Peering) (h : Head) (now : ℕ) (sent : Option ℕ) (body : Body) → Becomes p (record { head = h; body = body }) (heeded full p now sent (record { head = h; body = body })).after
heeded-becomes full p h now sent body =
    let m : Message = record { head = h; body = body } in
    heeded-holds (λ (o : Outcome). Becomes p m o.after) full p now sent m (obeyed-becomes p h now sent body) (λ answers. inl (stays (core p)))
