-- What becomes of a peer whose user only takes: it is connected, acknowledges a DISCONNECT or has ended, and goes on in that order.
use Rattle.std.proofs.Common.{◌≡◌, ◌≢◌, ◌⊎◌, inl, inr, ℕ, ◌%◌, ◌^◌, ◌&&◌, Bool, true, false, cond, List, [], ◌∷◌, refl, sym, ap, subst, ◌∙◌, Option, Some, None, Ok, Err}
use Rattle.std.specs.Prelude.{is_some}
use Rattle.enet_codec.specs.declared.command.Head.{Head}
use Rattle.enet_codec.specs.declared.packet.Packet.{Packet}
use Rattle.enet_codec.specs.Message.{Message, Body, ping}
use Rattle.enet_rtt.specs.Clock.{meant_time}
use Rattle.enet_rtt.specs.declared.expiry.Expiry.{Expiry}
use Rattle.enet_rtt.specs.declared.expiry.Expiry.TheVariants.{No, Resend, End as Ends}
use Rattle.enet_senders.specs.declared.control.Control.TheVariants as control
use Rattle.enet_outbox.specs.declared.parts.Matched.{Matched}
use Rattle.enet_outbox.specs.declared.parts.Matched.TheVariants as matched
use Rattle.enet_outbox.specs.Outbox.{with_control, matched_by}
use Rattle.enet_peer.specs.declared.parts.PeerEvent.{PeerEvent}
use Rattle.enet_peer.specs.declared.parts.PeerEvent.TheVariants as told
use Rattle.enet_peer.specs.declared.parts.PeerState.{PeerState}
use Rattle.enet_peer.specs.declared.parts.PeerState.TheVariants as state
use Rattle.enet_peer.specs.Peering.{Peering}
use Rattle.enet_peer.specs.CommandEffect.{Outcome, on_match, on_last_disconnect, acknowledged, obeyed, wants_memory}
use Rattle.enet_peer.specs.Refusing.{heeded}
use Rattle.enet_peer.proofs.Refusals.{heeded-obeyed}
use Rattle.enet_peer.specs.Calls.{after_timeouts, after_timeouts_by, expiry_of, is_answering, is_pinged, moved, pinged, ticked, next_event, event_after, packet_event, last_event}
use Rattle.law_connection.proofs.Events.{took}
use Rattle.law_connection.specs.Steps as setting
use Rattle.law_network.specs.Deeds.{Deed, Alone, emitted}
use Rattle.law_network.specs.Deeds as deed
use Rattle.law_network.proofs.Matching.{was-set, matches}
use Rattle.law_progress.proofs.Moving.{moved-elsewhere}
use Rattle.enet_world.proofs.Lasting.{obeys}
use Rattle.enet_world.proofs.Pings.{answered-holds, meets-connected, obeys-each, in_state, was-in}

-- ---- states
abbrev pub is_up : PeerState → Bool
is_up state.Connected = true
is_up state.AckDisconnect = true
is_up state.Ended = true
is_up _ = false

-- the next state, if nothing is done by the user
abbrev Next : PeerState → PeerState → Type 0
Next s t = (t ≡ s) ⊎ ((t ≡ state.Ended) ⊎ ((s ≡ state.Connected) × (t ≡ state.AckDisconnect)))

-- a peer in a state
-- what holds in each state that is up
each-up : (P : PeerState → Peering → Type 0) → ((r : Peering) → P state.Connected (in_state state.Connected r)) → ((r : Peering) → P state.AckDisconnect (in_state state.AckDisconnect r))
    → ((r : Peering) → P state.Ended (in_state state.Ended r)) → (p : Peering) → is_up p.state ≡ true → P p.state p
each-up P stands acks ends p up = by p.state refl up
  where
    so : (s : PeerState) → p.state ≡ s → P s (in_state s p) → P p.state p
    so s e h = subst (λ (t : PeerState). P t p) (sym e) (subst (λ (q : Peering). P s q) (was-in p s e) h)

    by : (s : PeerState) → p.state ≡ s → is_up s ≡ true → P p.state p
    by state.Connected e u = so state.Connected e (stands p)
    by state.AckDisconnect e u = so state.AckDisconnect e (acks p)
    by state.Ended e u = so state.Ended e (ends p)
    by s e u = absurd (cc)

-- ---- a command comes
last-next : (p : Peering) (b : Bool) (info : ℕ) → Next state.Connected (on_last_disconnect p b info).state
last-next p true info = inr (inr (refl, refl))
last-next p false info = inr (inl refl)

connected-obeyed : (r : Peering) (now : ℕ) (sent : Option ℕ) (h : Head) (body : Body) → Next state.Connected (obeyed (in_state state.Connected r) now sent (record { head = h; body = body })).after.state
connected-obeyed r now sent h body = meets-connected (λ q. Next state.Connected q.state) r now sent (record { head = h; body = body }) (record {
  same = inl refl;
  holds = λ b. inl refl;
  acknowledges = λ channel number time. inl refl;
  hears = λ n. inl refl;
  paces = λ interval acceleration deceleration. inl refl;
  ends = λ b info e. last-next (in_state state.Connected r) b info;
  answers = λ q a k. k;
})

acknowledging-obeyed : (r : Peering) (now : ℕ) (sent : Option ℕ) (h : Head) (body : Body) → Next state.AckDisconnect (obeyed (in_state state.AckDisconnect r) now sent (record { head = h; body = body })).after.state
acknowledging-obeyed r now sent h body = obeys-each (λ q. Next state.AckDisconnect q.state) p now sent (record { head = h; body = body }) (record {
  same = inl refl;
  holds = λ b. inl refl;
  acknowledges = λ number told. (let time : ℕ = meant_time told (p.offset % 2 ^ 16) in inl (taken-away number time (matched_by p.outbox h.channel number time)));
  verifies = λ v. inl refl;
  ends = λ info e. inl refl;
  hears = λ n. inl refl;
  paces = λ interval acceleration deceleration. inl refl;
  answers = λ q may k. answered-holds (λ q. Next state.AckDisconnect q.state) q (record { head = h; body = body }) sent may (λ a. k) k;
})
  where
    p : Peering
    p = record r { state = state.AckDisconnect }

    taken-away : (number time : ℕ) (x : Matched) → (on_match x p (acknowledged p now h.channel number time)).state ≡ state.AckDisconnect
    taken-away number time matched.Nothing = refl
    taken-away number time matched.Data = refl
    taken-away number time (matched.Control what) = refl

ended-obeyed : (r : Peering) (now : ℕ) (sent : Option ℕ) (h : Head) (body : Body) → Next state.Ended (obeyed (in_state state.Ended r) now sent (record { head = h; body = body })).after.state
ended-obeyed r now sent h ping = inl refl
ended-obeyed r now sent h body = inl refl

obeyed-next : (p : Peering) (now : ℕ) (sent : Option ℕ) (m : Message) → is_up p.state ≡ true → Next p.state (obeyed p now sent m).after.state
obeyed-next p now sent m up = each-up (λ s q. Next s (obeyed q now sent m).after.state) (λ r. connected-obeyed r now sent m.head m.body) (λ r. acknowledging-obeyed r now sent m.head m.body) (λ r. ended-obeyed r now sent m.head m.body) p up

-- ---- time goes on
pub pinged-state : (q : Peering) (now : ℕ) → (pinged q now).state ≡ q.state
pinged-state q now = by (is_pinged q now)
  where
    by : (b : Bool) → (cond b (record q { outbox = with_control q.outbox control.Ping }) q).state ≡ q.state
    by true = refl
    by false = refl

waited : (s : PeerState) (r : Peering) (now : ℕ) (x : Expiry) → Next s (after_timeouts_by Ends (in_state s r) now).state → Next s (after_timeouts_by x (in_state s r) now).state
waited s r now Ends h = h
waited s r now Resend h = inl refl
waited s r now No h = inl refl

ticked-next : (p : Peering) (now : ℕ) → is_up p.state ≡ true → Next p.state (ticked p now).state
ticked-next p now up = subst (Next p.state) (sym (pinged-state (after_timeouts p now) now))
    (each-up (λ s q. (x : Expiry) → Next s (after_timeouts_by x q now).state) (λ r x. waited state.Connected r now x (inr (inl refl))) (λ r x. waited state.AckDisconnect r now x (inr (inl refl))) (λ r x. waited state.Ended r now x (inr (inl refl))) p up
    (expiry_of p now))

up-elsewhere : (s : PeerState) → is_up s ≡ true → is_answering s ≡ false
up-elsewhere state.Answering e = absurd (let z : false ≡ true = e in cc)
up-elsewhere s e = refl

moved-next : (short : Bool) (p : Peering) (now : ℕ) → is_up p.state ≡ true → Next p.state (moved short p now).state
moved-next short p now up = subst (λ (q : Peering). Next p.state q.state) (sym (moved-elsewhere short p now (up-elsewhere p.state up))) (ticked-next p now up)

-- ---- a datagram goes, or none
-- by which an acknowledgement of DISCONNECT has gone
abbrev pub gone_by : PeerState → PeerState
gone_by state.AckDisconnect = state.Ended
gone_by s = s

pub emitted-state : (p : Peering) (now : ℕ) → is_up p.state ≡ true → (emitted p now).state ≡ gone_by p.state
emitted-state p now up = each-up (λ s q. (emitted q now).state ≡ gone_by s) (λ r. refl) (λ r. refl) (λ r. refl) p up

-- ---- what goes on so
pub record Rises (f : PeerState → Bool) : Type 0 where
  pub only : (s : PeerState) → f s ≡ true → is_up s ≡ true
  pub acks : f state.Connected ≡ true → f state.AckDisconnect ≡ true
  pub ends : (s : PeerState) → f s ≡ true → f state.Ended ≡ true

next-rises : (f : PeerState → Bool) → Rises f → (s t : PeerState) → Next s t → f s ≡ true → f t ≡ true
next-rises f k s t (inl same) h = ap f same ∙ h
next-rises f k s t (inr (inl over)) h = ap f over ∙ k.ends s h
next-rises f k s t (inr (inr (on, acks))) h = ap f acks ∙ k.acks (sym (ap f on) ∙ h)

gone-rises : (f : PeerState → Bool) → Rises f → (s : PeerState) → f s ≡ true → f (gone_by s) ≡ true
gone-rises f k state.AckDisconnect h = k.ends state.AckDisconnect h
gone-rises f k s h = h

-- a deed that is none of the user's
abbrev pub IsQuiet : Deed → Type 0
IsQuiet (deed.Emit now given) = Unit {0}
IsQuiet (deed.Come b m answer) = Unit {0}
IsQuiet (deed.Tick now short) = Unit {0}
IsQuiet (deed.Set (setting.ThrottleLimit limit) answer) = Unit {0}
IsQuiet deed.GiveWay = Unit {0}
IsQuiet deed.TellAgain = Unit {0}
IsQuiet d = ⊥

abbrev IsIn : (PeerState → Bool) → Peering → Type 0
IsIn f p = f p.state ≡ true

pub deed-rises : (f : PeerState → Bool) → Rises f → (d : Deed) (p q : Peering) → IsQuiet d → Alone d p q → f p.state ≡ true → f q.state ≡ true
deed-rises f k (deed.Emit now given) p q quiet a h = subst (IsIn f) (sym a.1) (ap f (emitted-state p now (k.only p.state h)) ∙ gone-rises f k p.state h)
deed-rises f k (deed.Come b m answer) p q quiet a h =
    obeys (IsIn f) answer (wants_memory p b.now b.sent m) (heeded b.full p b.now b.sent m) p q a h
    (subst (λ (o : Outcome). IsIn f o.after) (sym (heeded-obeyed b.full p b.now b.sent m (up-elsewhere p.state (k.only p.state h))))
    (next-rises f k p.state (obeyed p b.now b.sent m).after.state (obeyed-next p b.now b.sent m (k.only p.state h)) h))
deed-rises f k (deed.Tick now short) p q quiet a h = subst (IsIn f) (sym a) (next-rises f k p.state (moved short p now).state (moved-next short p now (k.only p.state h)) h)
deed-rises f k (deed.Set (setting.ThrottleLimit limit) (Ok done)) p q quiet a h = (let set = was-set (setting.ThrottleLimit limit) done p q a in subst (IsIn f) (sym set.1) h)
deed-rises f k (deed.Set (setting.ThrottleLimit limit) (Err why)) p q quiet a h = subst (IsIn f) (sym (matches.refused (deed.Set (setting.ThrottleLimit limit) (Err why)) p q a refl)) h
deed-rises f k deed.GiveWay p q quiet a h = absurd (let z : true ≡ false = sym a.0 ∙ up-elsewhere p.state (k.only p.state h) in cc)
deed-rises f k deed.TellAgain p q quiet a h = absurd (let z : true ≡ false = sym a.0 ∙ ap (λ (b : Bool). b && p.refused) (up-elsewhere p.state (k.only p.state h)) in cc)
deed-rises f k d p q quiet a h = absurd quiet

-- ---- the user takes
-- by its last event the peer is free, and by any other it stays
pub taken-or-over : (p q : Peering) (e : PeerEvent) → next_event p ≡ Some (record { event = e; after = q }) → (q.state ≡ p.state) ⊎ ((info : ℕ) × (e ≡ told.Disconnect info) × (q.state ≡ state.Free))
taken-or-over p q e next = took (λ r t. (r.state ≡ p.state) ⊎ ((info : ℕ) × (t ≡ told.Disconnect info) × (r.state ≡ state.Free))) p q e next
    (λ info g. inl refl)
    (λ x rest g u. inl refl)
    (λ g u at. inr (p.info, refl, refl))

-- where no event waits it hasn't ended
pub not-ended : (p : Peering) → is_some (next_event p) ≡ false → p.state ≢ state.Ended
not-ended p none ended = by p.greeting none
  where
    last : (s : PeerState) → s ≡ state.Ended → is_some (last_event s p) ≡ true
    last s e = ap (λ (t : PeerState). is_some (last_event t p)) e

    packets : (untaken : List Packet) → is_some (packet_event p untaken) ≡ false → ⊥
    packets [] e = (let z : true ≡ false = sym (last p.state ended) ∙ e in cc)
    packets (x ∷ rest) e = (let z : true ≡ false = e in cc)

    by : (greeting : Option ℕ) → is_some (event_after p greeting) ≡ false → ⊥
    by (Some info) e = (let z : true ≡ false = e in cc)
    by None e = packets p.inbox.untaken e
