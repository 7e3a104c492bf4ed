-- A datagram that one host puts out and that comes at once to the other, where it isn't stopped: what that is to the two ends.
use Rattle.std.proofs.Common.{◌≡◌, ◌≢◌, ℕ, Bool, true, false, cond, List, [], ◌∷◌, ◌++◌, refl, sym, ap, subst, ◌∙◌, inl, inr, Option, Some, None, Result, Ok, Err}
use Rattle.std.specs.List.{slice_get}
use Rattle.enet_codec.specs.declared.command.Offer.{Offer}
use Rattle.enet_codec.specs.declared.event.PeerRef.{PeerRef}
use Rattle.enet_codec.specs.declared.event.Received.{Received}
use Rattle.enet_codec.specs.declared.header.Header.{Header}
use Rattle.enet_codec.specs.declared.stop.Stop.{Stop}
use Rattle.enet_codec.specs.declared.stop.Stop.TheVariants as stop
use Rattle.enet_codec.specs.Message.{Message, Body, acknowledge, connect, verify_connect, disconnect, ping, bandwidth_limit, throttle_configure}
use Rattle.enet_peer.specs.declared.parts.PeerState.TheVariants as state
use Rattle.enet_peer.specs.Peering.{Peering}
use Rattle.enet_peer.specs.Endings.{is_later}
use Rattle.enet_peer.specs.CommandEffect.{Outcome, obeyed, stopped, is_connect, is_allowed, unless_refused, by_body, by_answer, by_arrival}
use Rattle.enet_peer.specs.Calls.{is_answering, pace_of}
use Rattle.enet_peer.specs.Refusing.{heeded}
use Rattle.enet_peer.proofs.Refusals.{heeded-obeyed}
use Rattle.enet_inbox.specs.DataEffect.{arrival, passed_over}
use Rattle.enet_slot.specs.Receiving.{no_peer}
use Rattle.enet_slot.specs.Receiving as slots
use Rattle.enet_slot.specs.Slot.{SlotState}
use Rattle.enet_host.specs.Opening.{host_basis}
use Rattle.enet_host.specs.Receiving.{Arrives}
use Rattle.enet_host.specs.Receiving as receiving
use Rattle.law_connection.specs.Connection.{Put, End, messages_of}
use Rattle.law_connection.specs.LinkSteps.{Has}
use Rattle.law_connection.specs.Steps.{Emit, Happens, with_peer}
use Rattle.law_network.specs.Log.{Logged}
use Rattle.law_network.specs.Network.{HostEnd, Site, is_earlier, is_late}
use Rattle.law_network.specs.Shown.{IsLogged, IsApart}
use Rattle.law_network.specs.Steps.{BringsOne}
use Rattle.law_network.specs.Telling.{AllHeeded}
use Rattle.law_network.proofs.Addresses.{same-address}
use Rattle.law_network.proofs.Beginnings.{the-offer}
use Rattle.law_network.proofs.Delivering.{same-connection}
use Rattle.law_network.proofs.Marked.{behind}
use Rattle.law_network.proofs.Names.{IsThere}
use Rattle.law_network.proofs.Once.{AreAt}
use Rattle.law_network.proofs.OneThing.{in-none}
use Rattle.law_network.proofs.Owned.{AreOwned}
use Rattle.law_network.proofs.Serving.{same-header}
use Rattle.law_network.proofs.Submitting.{same-some}
use Rattle.law_progress.specs.Exchanges.{Comes, AllCome}
use Rattle.enet_world.proofs.Offers.{NoOffers, filled-plain}
use Rattle.enet_world.proofs.Staying.{hears-on, was-filled}
use Rattle.enet_world.proofs.TwoEnds.{IsOn}

-- ---- where no acknowledgement is asked for, it is all one when a datagram says that it went
by-answer : (q : Peering) (u : Bool) (channel number time : ℕ) (body : Body) (sent : Option ℕ) (r : Result Bool Stop)
    → by_answer q (record { head = record { acknowledge = false; unsequenced = u; channel = channel; number = number }; body = body }) sent r ≡ by_answer q (record { head = record { acknowledge = false; unsequenced = u; channel = channel; number = number }; body = body }) (Some time) r
by-answer q u channel number time body sent (Ok may) = refl
by-answer q u channel number time body sent (Err why) = refl

unasked : (p : Peering) (now time channel number : ℕ) (sent : Option ℕ) (u : Bool) (body : Body)
    → obeyed p now sent (record { head = record { acknowledge = false; unsequenced = u; channel = channel; number = number }; body = body })
    ≡ obeyed p now (Some time) (record { head = record { acknowledge = false; unsequenced = u; channel = channel; number = number }; body = body })
unasked p now time channel number sent u body =
    ap (λ (o : Outcome). cond (is_connect body) (stopped p stop.BadCommand) (cond (is_allowed p.state body) (unless_refused p m o) (stopped p stop.NotConnected))) (by body)
  where
    m : Message
    m = record { head = record { acknowledge = false; unsequenced = u; channel = channel; number = number }; body = body }

    data-same : (later : Bool) → cond later (by_answer p m sent (passed_over p.inbox m)) (by_arrival p m sent (arrival p.inbox m)) ≡ cond later (by_answer p m (Some time) (passed_over p.inbox m)) (by_arrival p m (Some time) (arrival p.inbox m))
    data-same true = by-answer p u channel number time body sent (passed_over p.inbox m)
    data-same false = by-answer (record p { inbox = (arrival p.inbox m).after }) u channel number time body sent (arrival p.inbox m).answer

    by : (b : Body) → by_body p now sent m b ≡ by_body p now (Some time) m b
    by (acknowledge n t) = refl
    by (connect offer) = refl
    by (verify_connect v) = refl
    by (disconnect info) = refl
    by ping = refl
    by (bandwidth_limit incoming outgoing) = refl
    by (throttle_configure interval acceleration deceleration) = refl
    by b = data-same (is_later p.state)

pub same-obeyed : (p : Peering) (now time : ℕ) (sent : Option ℕ) (m : Message) → (m.head.acknowledge ≡ true → sent ≡ Some time) → obeyed p now sent m ≡ obeyed p now (Some time) m
same-obeyed p now time sent m asks = by m.head.acknowledge refl
  where
    by : (b : Bool) → m.head.acknowledge ≡ b → obeyed p now sent m ≡ obeyed p now (Some time) m
    by true e = ap (λ (o : Option ℕ). obeyed p now o m) (asks e)
    by false e =
        subst (λ (b : Bool). obeyed p now sent (record { head = record { acknowledge = b; unsequenced = m.head.unsequenced; channel = m.head.channel; number = m.head.number }; body = m.body })
        ≡ obeyed p now (Some time) (record { head = record { acknowledge = b; unsequenced = m.head.unsequenced; channel = m.head.channel; number = m.head.number }; body = m.body })) (sym e)
        (unasked p now time m.head.channel m.head.number sent m.head.unsequenced m.body)

-- ---- what comes and isn't stopped, and is no DISCONNECT, in the law's words
pub all-come : (full : Bool) (now time : ℕ) (sent : Option ℕ) (puts : List Put) (from to new : End) → ((x : Put) → Has puts x → x.message.head.acknowledge ≡ true → sent ≡ Some time) → ((x : Put) (info : ℕ) → Has puts x → x.message.body ≡ disconnect info → ⊥)
    → AllHeeded full now sent puts to from new → IsOn to → AllCome now time from puts to new × IsOn new
unfolding IsOn
all-come full now time sent [] from to new told none a on = (a, subst (λ (e : End). (p : Peering) × (e.peer ≡ Some p) × (p.state ≡ state.Connected)) (sym a) on)
all-come full now time sent (x ∷ puts) from to new told none a on = by (λ stays. all-come full now time sent puts from (with_peer to q) new (λ y h. told y (inr h)) (λ y info h. none y info (inr h)) a.4 (q, refl, stays))
  where
    p : Peering
    p = a.0

    q : Peering
    q = (heeded full p now sent x.message).after

    connected : p.state ≡ state.Connected
    connected = ap (λ (y : Peering). y.state) (same-some p on.0 (sym a.1 ∙ on.1)) ∙ on.2

    plain : heeded full p now sent x.message ≡ obeyed p now sent x.message
    plain = heeded-obeyed full p now sent x.message (ap is_answering connected)

    same : heeded full p now sent x.message ≡ obeyed p now (Some time) x.message
    same = plain ∙ same-obeyed p now time sent x.message (told x (inl refl))

    stays : q.state ≡ state.Connected
    stays = ap (λ (o : Outcome). o.after.state) plain ∙ hears-on p now sent x.message connected (λ info e. none x info (inl refl) e)

    comes : Comes now time from x to (with_peer to q)
    comes = record {
      peer = p;
      is = a.1;
      connected = connected;
      room = inr (ap (λ (o : Outcome). o.stop) (sym same) ∙ a.3);
      after = inl (p, a.1, a.2, false, ap (λ (o : Outcome). with_peer to o.after) same);
      stays = λ r is. (let z : q ≡ r = same-some q r is in ap (λ (y : Peering). y.state) (sym z) ∙ stays);
    }

    by : (q.state ≡ state.Connected → AllCome now time from puts (with_peer to q) new × ((r : Peering) × (new.peer ≡ Some r) × (r.state ≡ state.Connected))) → AllCome now time from (x ∷ puts) to new × ((r : Peering) × (new.peer ≡ Some r) × (r.state ≡ state.Connected))
    by rest = (let all = rest stays in ((with_peer to q, comes, all.0), all.1))

-- ---- what a connected end puts out has no CONNECT
pub puts-plain : (now : ℕ) (own far new : End) (p : Peering) (puts : List Put) → own.peer ≡ Some p → NoOffers p.outbox.control → Happens own far (Emit now) new → new.log ≡ own.log ++ puts → (x : Put) (o : Offer) → Has puts x → x.message.body ≡ connect o → ⊥
puts-plain now own far new p puts is plain h logged x o has says = filled-plain (pace_of p now) p.outbox plain x.message (was-filled now own far new p puts is h logged x has) o says

-- ---- a datagram of a connection that isn't stopped is one of the slot in which its host has the end
stopped-not : {X : Type 0} (why : Stop) (answer : Received) → slots.stopped why ≡ answer → answer.stop ≡ None → X
stopped-not why answer e none = absurd (let z : ◌≡◌ {A = Option Stop} (Some why) None = ap (λ (r : Received). r.stop) e ∙ none in cc)

pub names-slot : (from s new : Site) (d : Logged) (answer : Received) (log : List Put) (f : HostEnd) (l : IsLogged log d) → BringsOne from (Some d) answer s new → answer.stop ≡ None → d.connection ≡ f.connection
    → IsApart s.ends f → AreOwned (λ a. true) s → AreAt (λ n. from.address) s → ((x : Put) (o : Offer) → Has l.puts x → x.message.body ≡ connect o → ⊥) → (d.peer ≡ f.name.slot) × (d.peer ≢ no_peer)
names-slot from s new d answer log f l x none of apart owned at plain = by s.host.slots answer new.host.slots refl refl x.1.0.arrives
  where
    earlier : is_earlier s from.address d ≡ false
    earlier = (in-none (is_earlier s from.address d) (is_late from s d) x.0).0

    by : (held : List SlotState) (said : Received) (after : List SlotState) → held ≡ s.host.slots → said ≡ answer → Arrives (record { basis = host_basis s.host; slots = held }) from.address d.text said after → (d.peer ≡ f.name.slot) × (d.peer ≢ no_peer)
    by held said after was as-said (receiving.unreadable why u) = stopped-not why answer as-said none
    by held said after was as-said (receiving.no_offer header commands read nobody never) = stopped-not stop.UnknownPeer answer as-said none
    by held said after was as-said (receiving.offered header commands o reply left read nobody offer comes') =
        let put = the-offer l.puts commands o offer (behind d.text l.header header read.front commands (messages_of l.puts) read.split read.spelled l.spelled) in
        absurd (plain put.0 o put.1 put.2)
    by held said after was as-said (receiving.turned_away header commands why read n r) = stopped-not why answer as-said none
    by held said after was as-said (receiving.heard header commands t u reply read n open' there hears) =
        let names : d.peer ≡ header.peer = l.peer ∙ ap (λ (h : Header). h.peer) (sym (same-header d.text header l.header commands (messages_of l.puts) read l.spelled)) in
        let old-there : slice_get s.host.slots header.peer ≡ Some t = ap (λ (xs : List SlotState). slice_get xs header.peer) (sym was) ∙ there in
        let o = owned header.peer t hears.peer old-there hears.held refl in
        let here : IsThere s.host.slots o.0.name hears.peer = record {
          slot = t;
          there = ap (λ (y : PeerRef). slice_get s.host.slots y.slot) o.2 ∙ old-there;
          same = ap (λ (y : PeerRef). y.generation) (sym o.2);
          peer = hears.held;
        } in
        let on : d.peer ≡ o.0.name.slot = names ∙ ap (λ (y : PeerRef). y.slot) (sym o.2) in
        let some : d.peer ≢ no_peer = (λ z. n (sym names ∙ z)) in
        let connection : o.0.connection ≡ d.connection = same-connection s from.address d o.0 hears.peer here o.1 some on (same-address here.slot.address from.address (at o.0 o.1 hears.peer here)) earlier in
        let same : o.0 ≡ f = apart o.0 o.1 (inr (connection ∙ of)) in
        (on ∙ ap (λ (y : HostEnd). y.name.slot) same, some)
