-- At most one command of channel 0xFF is queued or sent, and while the connection stands that is a PING: what each thing that happens at a
-- peer makes of it. And what a command that comes makes of a peer, for any property.
use Rattle.std.proofs.Common.{◌≡◌, ℕ, zero, suc, ◌%◌, ◌^◌, ◌&&◌, ◌==◌, Bool, true, false, cond, List, [], ◌∷◌, ◌++◌, length, map, refl, sym, ap, subst, ◌∙◌, inl, inr, ◌⊎◌, arith, Option, Some, None, Result, Ok, Err, is_some}
use Rattle.std.proofs.lemmas.Bool.Decides.{nat_tests}
use Rattle.std.proofs.lemmas.List.{nil_from_length}
use Rattle.std.specs.List.{slice_get, slice_set, remove}
use Rattle.enet_codec.specs.Message.{Message, Body, acknowledge, connect, verify_connect, disconnect, ping, bandwidth_limit, throttle_configure}
use Rattle.enet_codec.specs.declared.stop.Stop.{Stop}
use Rattle.enet_codec.specs.declared.stop.Stop.TheVariants as stop
use Rattle.enet_codec.specs.declared.command.Verify.{Verify}
use Rattle.enet_rtt.specs.Clock.{meant_time}
use Rattle.enet_rtt.specs.Transmission as transmission
use Rattle.enet_rtt.specs.declared.transmission.Tick.{Tick}
use Rattle.enet_senders.specs.declared.control.Control.{Control}
use Rattle.enet_senders.specs.declared.control.Control.TheVariants as control
use Rattle.enet_senders.specs.declared.control.Numbered.{Numbered}
use Rattle.enet_senders.specs.declared.control.SentControl.{SentControl}
use Rattle.enet_senders.specs.Controlling.{Commands}
use Rattle.enet_senders.specs.Controlling as controlling
use Rattle.enet_sender.specs.declared.outgoing.Acknowledged.{Acknowledged}
use Rattle.enet_sender.specs.Due.{SendingEnd}
use Rattle.enet_inbox.specs.Inbox.{Inbox}
use Rattle.enet_inbox.specs.DataEffect.{arrival, passed_over}
use Rattle.enet_outbox.specs.declared.parts.Acknowledgement.{Acknowledgement}
use Rattle.enet_outbox.specs.declared.parts.Matched.{Matched}
use Rattle.enet_outbox.specs.declared.parts.Matched.TheVariants as matched
use Rattle.enet_outbox.specs.declared.parts.Pace.{Pace}
use Rattle.enet_outbox.specs.Outbox.{Outbox, matched_by, with_acknowledgement}
use Rattle.enet_outbox.specs.Outbox as outbox
use Rattle.enet_outbox.specs.Emission.{filled}
use Rattle.enet_outbox.proofs.Filled.{by-filling}
use Rattle.enet_peer.specs.declared.parts.PeerState.{PeerState}
use Rattle.enet_peer.specs.declared.parts.PeerState.TheVariants as state
use Rattle.enet_peer.specs.Peering.{Peering}
use Rattle.enet_peer.specs.CommandEffect.{obeyed, unless_refused, stopped, is_allowed, is_connect, by_body, by_answer, by_arrival, answered, answered_at, is_answered_in, on_acknowledge, on_match, acknowledged, on_last_disconnect, on_disconnect_in, on_bandwidth, on_throttle, on_verify_in}
use Rattle.enet_peer.specs.Endings.{is_later}
use Rattle.enet_peer.proofs.Obeying.{unless-holds}
use Rattle.law_progress.proofs.Controls.{GoesControl, Heads, Repeats, goes-control}
use Rattle.law_network.proofs.Submitting.{same-some}

-- ---- channel 0xFF
-- at most one command is queued or sent, which is such a one
pub data IsLone (f : Control → Bool) (c : Commands) : Type 0 where
  Idle : c.queued ≡ [] → c.sent ≡ [] → IsLone f c
  Queued : (n : Numbered) → f n.control ≡ true → c.queued ≡ n ∷ [] → c.sent ≡ [] → IsLone f c
  Sent : (t : SentControl) → f t.command.control ≡ true → c.queued ≡ [] → c.sent ≡ t ∷ [] → IsLone f c

abbrev pub is_ping : Control → Bool
is_ping control.Ping = true
is_ping _ = false

abbrev pub is_any : Control → Bool
is_any c = true

-- it goes, or goes again
abbrev pub GoesLone : (Control → Bool) → controlling.Next → Type 0
GoesLone f n = IsLone f n.commands × (f n.command.control ≡ true)

goes-lone : (f : Control → Bool) (now wait : ℕ) (c : Commands) (n : controlling.Next) → GoesControl now wait c n → IsLone f c → GoesLone f n
goes-lone f now wait c n (Heads x rest q is) (Idle a b) = absurd (let z : ◌≡◌ {A = List Numbered} [] (x ∷ rest) = sym a ∙ q in cc)
goes-lone f now wait c n (Heads x rest q is) (Sent t ok a b) = absurd (let z : ◌≡◌ {A = List Numbered} [] (x ∷ rest) = sym a ∙ q in cc)
goes-lone f now wait c n (Heads x rest q is) (Queued m ok a b) = subst (GoesLone f) is (by (controlling.is_reliable x.control), good)
  where
    both : ◌≡◌ {A = List Numbered} (m ∷ []) (x ∷ rest)
    both = sym a ∙ q

    head : m ≡ x
    head = cc

    none : ◌≡◌ {A = List Numbered} rest []
    none = cc

    good : f x.control ≡ true
    good = subst (λ (y : Numbered). f y.control ≡ true) head ok

    by : (r : Bool) → IsLone f (record c { queued = rest; sent = cond r (c.sent ++ controlling.begun now wait x ∷ []) c.sent })
    by true = Sent (controlling.begun now wait x) good none (ap (λ (l : List SentControl). l ++ controlling.begun now wait x ∷ []) b)
    by false = Idle none b
goes-lone f now wait c n (Repeats i p there due is) (Idle a b) = absurd (let z : None ≡ Some p = subst (λ (l : List SentControl). slice_get l i ≡ Some p) b there in cc)
goes-lone f now wait c n (Repeats i p there due is) (Queued m ok a b) = absurd (let z : None ≡ Some p = subst (λ (l : List SentControl). slice_get l i ≡ Some p) b there in cc)
goes-lone f now wait c n (Repeats i p there due is) (Sent t ok a b) = subst (GoesLone f) is (by i (subst (λ (l : List SentControl). slice_get l i ≡ Some p) b there))
  where
    by : (j : ℕ) → slice_get (t ∷ []) j ≡ Some p → IsLone f (record c { sent = slice_set c.sent j (controlling.again now p) }) × (f p.command.control ≡ true)
    by zero e =
        let good : f p.command.control ≡ true = subst (λ (y : SentControl). f y.command.control ≡ true) (same-some t p e) ok in
        (Sent (controlling.again now p) good a (ap (λ (l : List SentControl). slice_set l zero (controlling.again now p)) b), good)
    by (suc j) e = absurd (let z : None ≡ Some p = e in cc)

pub next-lone : (f : Control → Bool) (now wait : ℕ) (c : Commands) (n : controlling.Next) → controlling.next now wait c ≡ Some n → IsLone f c → GoesLone f n
next-lone f now wait c n e h = goes-lone f now wait c n (goes-control now wait c n e) h

-- a command that is held back stays the same
pub held_back-same : (tick : Tick) (t : SentControl) → (controlling.held_back tick t).command ≡ t.command
held_back-same tick t = by (controlling.is_late tick.now t)
  where
    by : (b : Bool) → (cond b (record t { transmission = transmission.again tick.now (transmission.marked tick t.transmission) }) t).command ≡ t.command
    by true = refl
    by false = refl

pub held_back-lone : (f : Control → Bool) (tick : Tick) (c : Commands) → IsLone f c → IsLone f (controlling.with_held_back tick c)
held_back-lone f tick c (Idle a b) = Idle a (ap (map (controlling.held_back tick)) b)
held_back-lone f tick c (Queued m ok a b) = Queued m ok a (ap (map (controlling.held_back tick)) b)
held_back-lone f tick c (Sent t ok a b) =
    Sent (controlling.held_back tick t) (ap (λ (m : Numbered). f m.control) (held_back-same tick t) ∙ ok) a (ap (map (controlling.held_back tick)) b)

pub marked-lone : (f : Control → Bool) (tick : Tick) (c : Commands) → IsLone f c → IsLone f (controlling.with_marked tick c)
marked-lone f tick c (Idle a b) = Idle a (ap (map (controlling.marked tick)) b)
marked-lone f tick c (Queued m ok a b) = Queued m ok a (ap (map (controlling.marked tick)) b)
marked-lone f tick c (Sent t ok a b) = Sent (controlling.marked tick t) ok a (ap (map (controlling.marked tick)) b)

-- one is queued where there is none
pub queued-lone : (f : Control → Bool) (c : Commands) (what : Control) → f what ≡ true → c.queued ≡ [] → c.sent ≡ [] → IsLone f (controlling.with_queued c what)
queued-lone f c what ok a b = Queued (record { number = (controlling.with_queued c what).number; control = what }) ok (ap (λ (l : List Numbered). l ++ (record { number = (controlling.with_queued c what).number; control = what }) ∷ []) a) b

both-none : (m n : ℕ) → (m == 0 && n == 0) ≡ true → (m ≡ 0) × (n ≡ 0)
both-none m n e = (grind (arith, nat_tests), grind (arith, nat_tests))

pub idle-lists : (c : Commands) → controlling.is_idle c ≡ true → (c.queued ≡ []) × (c.sent ≡ [])
idle-lists c e = (let z = both-none (length c.queued) (length c.sent) e in (nil_from_length c.queued z.0, nil_from_length c.sent z.1))

-- one is gone
one-removed : (i : ℕ) (t : SentControl) → (remove (t ∷ []) i ≡ t ∷ []) ⊎ (remove (t ∷ []) i ≡ [])
one-removed zero t = inr refl
one-removed (suc zero) t = inl refl
one-removed (suc (suc j)) t = inl refl

none-removed : (i : ℕ) → ◌≡◌ {A = List SentControl} (remove [] i) []
none-removed zero = refl
none-removed (suc j) = refl

removed-lone : (f : Control → Bool) (c : Commands) (o : Option ℕ) → IsLone f c → IsLone f (record c { sent = controlling.without_place c.sent o })
removed-lone f c None h = h
removed-lone f c (Some i) (Idle a b) = Idle a (ap (λ (l : List SentControl). remove l i) b ∙ none-removed i)
removed-lone f c (Some i) (Queued m ok a b) = Queued m ok a (ap (λ (l : List SentControl). remove l i) b ∙ none-removed i)
removed-lone f c (Some i) (Sent t ok a b) = elim (one-removed i t) [
  | inl stays ↦ Sent t ok a (ap (λ (l : List SentControl). remove l i) b ∙ stays)
  | inr gone ↦ Idle a (ap (λ (l : List SentControl). remove l i) b ∙ gone)
]

pub acknowledged-lone : (f : Control → Bool) (o : Outbox) (channel number : ℕ) → IsLone f o.control → IsLone f (outbox.after_acknowledgement o channel number).control
acknowledged-lone f o channel number h = by (channel == 0xFF)
  where
    at : (s : Option SendingEnd) → IsLone f (outbox.acknowledged_on o channel number s).control
    at None = h
    at (Some s) = h

    by : (b : Bool) → IsLone f (cond b (record o { control = controlling.after_acknowledgement o.control number }) (outbox.acknowledged_on o channel number (slice_get o.senders channel))).control
    by true = removed-lone f o.control (controlling.position_of number o.control.sent) h
    by false = at (slice_get o.senders channel)

-- where it is the one that is acknowledged, there is none any more
taken-lone : (f g : Control → Bool) (c : Commands) (time : ℕ) (o : Option ℕ) (what : Control) → controlling.control_at time c.sent o ≡ Some what → IsLone f c → IsLone g (record c { sent = controlling.without_place c.sent o })
taken-lone f g c time None what e h = absurd (let z : None ≡ Some what = e in cc)
taken-lone f g c time (Some i) what e (Idle a b) = absurd (let z : None ≡ Some what = subst (λ (l : List SentControl). controlling.control_of time (slice_get l i) ≡ Some what) b e in cc)
taken-lone f g c time (Some i) what e (Queued m ok a b) = absurd (let z : None ≡ Some what = subst (λ (l : List SentControl). controlling.control_of time (slice_get l i) ≡ Some what) b e in cc)
taken-lone f g c time (Some i) what e (Sent t ok a b) = by i (subst (λ (l : List SentControl). controlling.control_of time (slice_get l i) ≡ Some what) b e)
  where
    by : (j : ℕ) → controlling.control_of time (slice_get (t ∷ []) j) ≡ Some what → IsLone g (record c { sent = remove c.sent j })
    by zero k = Idle a (ap (λ (l : List SentControl). remove l zero) b)
    by (suc j) k = absurd (let z : None ≡ Some what = k in cc)

pub answered-lone : (f g : Control → Bool) (o : Outbox) (channel number time : ℕ) (what : Control) → matched_by o channel number time ≡ matched.Control what → IsLone f o.control → IsLone g (outbox.after_acknowledgement o channel number).control
answered-lone f g o channel number time what e h = by (channel == 0xFF) e
  where
    never : (n : Option Acknowledged) → outbox.as_data n ≡ matched.Control what → ⊥
    never None k = cc
    never (Some told) k = cc

    no-data : (s : Option SendingEnd) → outbox.matched_on s number time ≡ matched.Control what → ⊥
    no-data None k = cc
    no-data (Some s) k = never _ k

    one : (x : Option Control) → outbox.as_control x ≡ matched.Control what → x ≡ Some what
    one None k = absurd (cc)
    one (Some y) k = (let z : y ≡ what = cc in ap Some z)

    by : (b : Bool) → cond b (outbox.as_control (controlling.acknowledged_control o.control number time)) (outbox.matched_on (slice_get o.senders channel) number time) ≡ matched.Control what
        → IsLone g (cond b (record o { control = controlling.after_acknowledgement o.control number }) (outbox.acknowledged_on o channel number (slice_get o.senders channel))).control
    by true k = taken-lone f g o.control time (controlling.position_of number o.control.sent) what (one (controlling.acknowledged_control o.control number time) k) h
    by false k = absurd (no-data (slice_get o.senders channel) k)

-- a datagram is filled
pub filled-lone : (f : Control → Bool) (pace : Pace) (o : Outbox) → IsLone f o.control → IsLone f (filled pace o).outbox.control
filled-lone f pace o h = by-filling pace o (λ x. IsLone f x.outbox.control) (record {
  closes = λ x k. k;
  acknowledges = λ x a rest e k. k;
  controls = λ x n e k. (next-lone f pace.now pace.timeout x.outbox.control n e k).0;
  puts_unsequenced = λ x u rest t e k. k;
  drops_unsequenced = λ x u rest t e k. k;
  puts_data = λ x j s n t there due k. k;
  drops_data = λ x j s n t there due kind k. k;
  keeps_room = λ x j s there wants k. k;
  gives_room = λ x j s n there due k. k;
}) h

-- ---- a command that came is acknowledged, perhaps
pub answered-holds : (P : Peering → Type 0) (q : Peering) (m : Message) (sent : Option ℕ) (may : Bool) → ((a : Acknowledgement) → P (record q { outbox = with_acknowledgement q.outbox a })) → P q → P (answered q m sent may).after
answered-holds P q m sent may answers h = go (m.head.acknowledge && may && is_answered_in q.state m.body) sent
  where
    go : (b : Bool) (o : Option ℕ) → P (cond b (answered_at q m.head o) (record { stop = None; after = q })).after
    go false o = h
    go true None = h
    go true (Some time) = answers _

-- ---- a command comes to a peer
-- what holds of the peer that a command makes of it, by its kind
pub record Obeys (P : Peering → Type 0) (now : ℕ) (sent : Option ℕ) (m : Message) (p : Peering) : Type 0 where
  pub same : P p
  pub holds : (b : Inbox) → P (record p { inbox = b })
  pub acknowledges : (number told : ℕ) → P (on_acknowledge p now m.head.channel number told)
  pub verifies : (v : Verify) → P (on_verify_in p.state p v)
  pub ends : (info : ℕ) → m.body ≡ disconnect info → P (on_disconnect_in p.state p (m.head.acknowledge && is_some sent) info)
  pub hears : (n : ℕ) → P (on_bandwidth p n)
  pub paces : (interval acceleration deceleration : ℕ) → P (on_throttle p interval acceleration deceleration)
  pub answers : (q : Peering) (may : Bool) → P q → P (answered q m sent may).after

pub obeys-each : (P : Peering → Type 0) (p : Peering) (now : ℕ) (sent : Option ℕ) (m : Message) → Obeys P now sent m p → P (obeyed p now sent m).after
obeys-each P p now sent m k = by (is_connect m.body) (is_allowed p.state m.body)
  where
    by-result : (q : Peering) (r : Result Bool Stop) → P q → P (by_answer q m sent r).after
    by-result q (Err why) h = h
    by-result q (Ok may) h = k.answers q may h

    data' : (b : Bool) → P (cond b (by_answer p m sent (passed_over p.inbox m)) (by_arrival p m sent (arrival p.inbox m))).after
    data' true = by-result p (passed_over p.inbox m) k.same
    data' false = by-result (record p { inbox = (arrival p.inbox m).after }) (arrival p.inbox m).answer (k.holds (arrival p.inbox m).after)

    body : (b : Body) → m.body ≡ b → P (by_body p now sent m b).after
    body (acknowledge number time) e = k.answers (on_acknowledge p now m.head.channel number time) true (k.acknowledges number time)
    body (connect offer) e = k.same
    body (verify_connect v) e = k.answers (on_verify_in p.state p v) true (k.verifies v)
    body (disconnect info) e = k.answers (on_disconnect_in p.state p (m.head.acknowledge && is_some sent) info) true (k.ends info e)
    body ping e = k.answers p true k.same
    body (bandwidth_limit incoming outgoing) e = k.answers (on_bandwidth p incoming) true (k.hears incoming)
    body (throttle_configure interval acceleration deceleration) e = k.answers (on_throttle p interval acceleration deceleration) true (k.paces interval acceleration deceleration)
    body b e = data' (is_later p.state)

    by : (a b : Bool) → P (cond a (stopped p stop.BadCommand) (cond b (unless_refused p m (by_body p now sent m m.body)) (stopped p stop.NotConnected))).after
    by true b = k.same
    by false true = unless-holds P p m (by_body p now sent m m.body) k.same (body m.body refl)
    by false false = k.same

-- ---- one that is connected
pub record Meets (P : Peering → Type 0) (now : ℕ) (m : Message) (p : Peering) : Type 0 where
  pub same : P p
  pub holds : (b : Inbox) → P (record p { inbox = b })
  pub acknowledges : (channel number time : ℕ) → P (acknowledged p now channel number time)
  pub hears : (n : ℕ) → P (on_bandwidth p n)
  pub paces : (interval acceleration deceleration : ℕ) → P (on_throttle p interval acceleration deceleration)
  pub ends : (b : Bool) (info : ℕ) → m.body ≡ disconnect info → P (on_last_disconnect p b info)
  pub answers : (q : Peering) (a : Acknowledgement) → P q → P (record q { outbox = with_acknowledgement q.outbox a })

abbrev pub in_state : PeerState → Peering → Peering
in_state s p = record p { state = s }

pub was-in : (p : Peering) (s : PeerState) → p.state ≡ s → in_state s p ≡ p
was-in p s e = ap (λ (t : PeerState). record p { state = t }) (sym e)

abbrev pub connected : Peering → Peering
connected p = in_state state.Connected p

pub meets-connected : (P : Peering → Type 0) (p : Peering) (now : ℕ) (sent : Option ℕ) (m : Message) → Meets P now m (connected p) → P (obeyed (connected p) now sent m).after
meets-connected P p now sent m k = obeys-each P (connected p) now sent m (record {
  same = k.same;
  holds = k.holds;
  acknowledges = λ number told. gone m.head.channel number (meant_time told (p.offset % 2 ^ 16)) (matched_by p.outbox m.head.channel number (meant_time told (p.offset % 2 ^ 16)));
  verifies = λ v. k.same;
  ends = λ info e. k.ends (m.head.acknowledge && is_some sent) info e;
  hears = k.hears;
  paces = k.paces;
  answers = λ q may h. answered-holds P q m sent may (λ a. k.answers q a h) h;
})
  where
    gone : (channel number time : ℕ) (x : Matched) → P (on_match x (connected p) (acknowledged (connected p) now channel number time))
    gone channel number time matched.Nothing = k.same
    gone channel number time matched.Data = k.acknowledges channel number time
    gone channel number time (matched.Control what) = k.acknowledges channel number time

pub meets : (P : Peering → Type 0) (p : Peering) (now : ℕ) (sent : Option ℕ) (m : Message) → p.state ≡ state.Connected → Meets P now m p → P (obeyed p now sent m).after
meets P p now sent m on k = subst (λ (x : Peering). P (obeyed x now sent m).after) (was-in p state.Connected on) (meets-connected P p now sent m (subst (Meets P now m) (sym (was-in p state.Connected on)) k))
