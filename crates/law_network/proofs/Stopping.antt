-- A command that stops its datagram leaves its peer as it was, save for want of a sent time.
use Rattle.std.proofs.Common.{◌≡◌, ℕ, ◌⊎◌, inl, inr, Bool, true, false, cond, ◌&&◌, refl, ap, Option, Some, None, Result, Ok, Err}
use Rattle.enet_codec.specs.declared.stop.Stop.{Stop}
use Rattle.enet_codec.specs.declared.stop.Stop.TheVariants as stop
use Rattle.enet_codec.specs.Message.{Message, Body, acknowledge, connect, verify_connect, disconnect, ping, bandwidth_limit, throttle_configure}
use Rattle.enet_inbox.specs.Inbox.{Inbox}
use Rattle.enet_inbox.specs.DataEffect.{DataEffect, arrival, passed_over}
use Rattle.enet_inbox.proofs.Stops.{arrival_stays}
use Rattle.enet_peer.specs.Peering.{Peering}
use Rattle.enet_peer.specs.Endings.{is_later}
use Rattle.enet_peer.specs.CommandEffect.{Outcome, stopped, answered, answered_at, is_answered_in, by_answer, by_arrival, on_data, by_body, obeyed, is_connect, is_allowed, is_crowded_out, is_unasked, unless_refused, on_acknowledge, on_verify_in, on_disconnect_in, on_bandwidth, on_throttle}
use Rattle.std.specs.Prelude.{is_some}

-- a stop leaves the inbox as it was
abbrev pub Stays : Inbox → DataEffect → Type 0
Stays b a = (why : Stop) → a.answer ≡ Err why → a.after ≡ b

-- a stop leaves the peer as it was, save that of a missing sent time
abbrev pub Keeps : Peering → Outcome → Type 0
Keeps p o = (why : Stop) → o.stop ≡ Some why → (why ≡ stop.NoSentTime) ⊎ (o.after ≡ p)

keeps-if : (p : Peering) (t : Bool) (x y : Outcome) → Keeps p x → Keeps p y → Keeps p (cond t x y)
keeps-if p true x y f g = f
keeps-if p false x y f g = g

keeps-stopped : (p : Peering) (why : Stop) → Keeps p (stopped p why)
keeps-stopped p why w e = inr refl

keeps-answered : (p q : Peering) (m : Message) (sent : Option ℕ) (may : Bool) → Keeps p (answered q m sent may)
keeps-answered p q m sent may = keeps-if p (m.head.acknowledge && may && is_answered_in q.state m.body) (answered_at q m.head sent) (record { stop = None; after = q }) (by sent) (λ w e. absurd (cc))
  where
    by : (o : Option ℕ) → Keeps p (answered_at q m.head o)
    by None w e = inl (cc)
    by (Some time) w e = absurd (cc)

keeps-passed : (p : Peering) (m : Message) (sent : Option ℕ) (r : Result Bool Stop) → Keeps p (by_answer p m sent r)
keeps-passed p m sent (Err why) = keeps-stopped p why
keeps-passed p m sent (Ok may) = keeps-answered p p m sent may

keeps-arrived : (p : Peering) (m : Message) (sent : Option ℕ) (a : DataEffect) → Stays p.inbox a → (r : Result Bool Stop) → a.answer ≡ r → Keeps p (by_answer (record p { inbox = a.after }) m sent r)
keeps-arrived p m sent a stays (Err why) e = λ w g. inr (ap (λ (b : Inbox). record p { inbox = b }) (stays why e))
keeps-arrived p m sent a stays (Ok may) e = keeps-answered p (record p { inbox = a.after }) m sent may

keeps-data : (p : Peering) (m : Message) (sent : Option ℕ) → Keeps p (on_data p m sent)
keeps-data p m sent =
    keeps-if p (is_later p.state) (by_answer p m sent (passed_over p.inbox m)) (by_arrival p m sent (arrival p.inbox m)) (keeps-passed p m sent (passed_over p.inbox m))
    (keeps-arrived p m sent (arrival p.inbox m) (arrival_stays p.inbox m) (arrival p.inbox m).answer refl)

keeps-body : (p : Peering) (now : ℕ) (sent : Option ℕ) (m : Message) (body : Body) → Keeps p (by_body p now sent m body)
keeps-body p now sent m (acknowledge number time) = keeps-answered p (on_acknowledge p now m.head.channel number time) m sent true
keeps-body p now sent m (connect offer) = keeps-stopped p stop.BadCommand
keeps-body p now sent m (verify_connect v) = keeps-answered p (on_verify_in p.state p v) m sent true
keeps-body p now sent m (disconnect info) = keeps-answered p (on_disconnect_in p.state p (m.head.acknowledge && is_some sent) info) m sent true
keeps-body p now sent m ping = keeps-answered p p m sent true
keeps-body p now sent m (bandwidth_limit incoming outgoing) = keeps-answered p (on_bandwidth p incoming) m sent true
keeps-body p now sent m (throttle_configure interval acceleration deceleration) = keeps-answered p (on_throttle p interval acceleration deceleration) m sent true
keeps-body p now sent m body = keeps-data p m sent

pub keeps-obeyed : (p : Peering) (now : ℕ) (sent : Option ℕ) (m : Message) → Keeps p (obeyed p now sent m)
keeps-obeyed p now sent m =
    keeps-if p (is_connect m.body) (stopped p stop.BadCommand) _ (keeps-stopped p stop.BadCommand)
    (keeps-if p (is_allowed p.state m.body) (unless_refused p m (by_body p now sent m m.body)) (stopped p stop.NotConnected)
    (keeps-if p (is_unasked p m.body) (stopped p stop.NotConnected) _ (keeps-stopped p stop.NotConnected)
    (keeps-if p (is_crowded_out p m) (stopped p stop.Waiting) (by_body p now sent m m.body) (keeps-stopped p stop.Waiting) (keeps-body p now sent m m.body)))
    (keeps-stopped p stop.NotConnected))
