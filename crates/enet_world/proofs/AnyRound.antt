-- Whatever stands in the way of a round: once its moments have come to two connected peers, they stay connected to its end.
use Rattle.std.proofs.Common.{◌≡◌, ◌≢◌, ◌⊎◌, ◌&&◌, ℕ, zero, suc, Bool, true, false, List, [], ◌∷◌, refl, sym, ap, subst, ◌∙◌, inl, inr, Option, Some, None, Result, Ok, Err}
use Rattle.std.specs.List.{slice_get}
use Rattle.enet_codec.specs.Datagram.{SpellsDatagram}
use Rattle.enet_codec.specs.Message.{Message, disconnect}
use Rattle.enet_codec.specs.declared.event.Received.{Received}
use Rattle.enet_codec.specs.declared.refusal.Refusal.{Refusal}
use Rattle.enet_peer.specs.declared.parts.PeerState.{PeerState}
use Rattle.enet_peer.specs.declared.parts.PeerState.TheVariants as state
use Rattle.enet_peer.specs.Peering.{Peering}
use Rattle.enet_peer.specs.Calls.{is_answering}
use Rattle.enet_peer.specs.CommandEffect.{Outcome, wants_memory}
use Rattle.enet_peer.specs.Handling.{Arrival, SoFar, HandlesEach, Handles, HearsIf, one_more}
use Rattle.enet_peer.specs.Refusing.{heeded}
use Rattle.enet_peer.proofs.Refusals.{heeded-obeyed}
use Rattle.enet_peer.proofs.Each.{handles-each}
use Rattle.enet_peer.proofs.Obeying.{obeys-holds}
use Rattle.enet_slot.specs.Slot.{SlotState}
use Rattle.enet_host.specs.Host.{named as named_at}
use Rattle.law_connection.specs.Connection.{Put, End, messages_of}
use Rattle.law_connection.specs.LinkSteps.{Has}
use Rattle.law_connection.specs.Steps.{Event, Emit, Happens}
use Rattle.law_connection.proofs.Lists.{Has-slice_get}
use Rattle.law_network.specs.Calls as call
use Rattle.law_network.specs.IsolationLaw.{held_if}
use Rattle.law_network.specs.declared.event.Answer.{Answer}
use Rattle.law_network.specs.declared.event.Answer.TheVariants as answers
use Rattle.law_network.specs.declared.event.Side.{Side}
use Rattle.law_network.specs.declared.event.Side.TheVariants.{A, B}
use Rattle.law_network.specs.declared.event.WorldEvent.TheVariants as happen
use Rattle.law_network.specs.Law.{GoesOn}
use Rattle.law_network.specs.Log.{Logged}
use Rattle.law_network.specs.Network.{Site, is_earlier, is_late}
use Rattle.law_network.specs.Shown.{IsLogged, Shows, ShowsPeer, RunsAt}
use Rattle.law_network.specs.Steps.{Happening, Delivers, BringsOne, beside}
use Rattle.law_network.specs.World.{World, HappensAt, Steps, site_of, other}
use Rattle.law_network.proofs.Delivering.{arrival, same-connection, IsHeard, heard-at-address, heard-peer, received-by}
use Rattle.law_network.proofs.Marked.{behind}
use Rattle.law_network.proofs.OneThing.{in-none, one-thing}
use Rattle.law_network.proofs.Runs.{Sound}
use Rattle.law_network.proofs.Submitting.{same-some}
use Rattle.law_network.proofs.Worlds.{IsHost}
use Rattle.law_progress.proofs.Exchanges.{Joint, joint-swap, joint-event, same-peer}
use Rattle.enet_world.specs.declared.calm.Calm.{Calm}
use Rattle.enet_world.specs.Calm.{most, datagram_in, Carries, CarriesMany, PutsNone, PutsAllOut, TakesNone, TakesAll, Round}
use Rattle.enet_world.specs.Private.Worlds.{IsReached}
use Rattle.enet_world.proofs.Habits.{Habits}
use Rattle.enet_world.proofs.InRounds.{clock_at, IsOwn, PutsOut, puts-out, found-in, lone-up, rested, Taking, take-goes, takes-many, kept-many, kept-takes, reached-take, reached-keeps, habits-keeps}
use Rattle.enet_world.proofs.Pings.{IsLone, is_ping}
use Rattle.enet_world.proofs.Reaching.{reached-step}
use Rattle.enet_world.proofs.Staying.{hears-on, puts-none-ends}
use Rattle.enet_world.proofs.Through.{AtMoment, Along, along, reached-ticked, habits-ticked}
use Rattle.enet_world.proofs.TwoEnds.{from_start, sound, host-at, twice, Ends, swapped, far-end, faces, Up, up-swapped, up-back, IsOn}

-- ---- commands come, until one stops them
heeds-on : (a : Arrival) (p : Peering) (m : Message) → p.state ≡ state.Connected → ((info : ℕ) → m.body ≡ disconnect info → ⊥) → (heeded a.full p a.now a.sent m).after.state ≡ state.Connected
heeds-on a p m on none = ap (λ (o : Outcome). o.after.state) (heeded-obeyed a.full p a.now a.sent m (ap is_answering on)) ∙ hears-on p a.now a.sent m on none

each-stays : (a : Arrival) (old : SoFar) (ms : List Message) (answer : Received) (q : Peering) → old.peer.state ≡ state.Connected → ((m : Message) (info : ℕ) → Has ms m → m.body ≡ disconnect info → ⊥) → HandlesEach a old ms answer q → q.state ≡ state.Connected
each-stays a old [] answer q on none h = ap (λ (y : Peering). y.state) h.1 ∙ on
each-stays a old (m ∷ ms) answer q on none (inl s) =
    obeys-holds (λ y. y.state ≡ state.Connected) (Err s.0) (wants_memory old.peer a.now a.sent m) (heeded a.full old.peer a.now a.sent m) old.peer q on (heeds-on a old.peer m on (λ info e. none m info (inl refl) e)) s.1
each-stays a old (m ∷ ms) answer q on none (inr g) =
    each-stays a (record { handled = one_more old.handled; peer = g.0 }) ms answer q (ap (λ (y : Peering). y.state) g.1.1 ∙ heeds-on a old.peer m on (λ info e. none m info (inl refl) e)) (λ y info h e. none y info (inr h) e) g.2

put-of : (puts : List Put) (m : Message) → Has (messages_of puts) m → (x : Put) × Has puts x × (x.message ≡ m)
put-of [] m h = absurd h
put-of (x ∷ puts) m (inl e) = (x, inl refl, e)
put-of (x ∷ puts) m (inr h) = (let k = put-of puts m h in (k.0, inr k.1, k.2))

-- ---- an end goes on
joint-run : (j : Bool) (es : List Event) (own far new : End) → RunsAt es own far new → Joint j own far → Joint j new far
joint-run j [] own far new r k = subst (λ (e : End). Joint j e far) r k
joint-run j (e ∷ es) own far new r k = joint-run j es r.0 far new r.2 (joint-event j own far r.0 e r.1 k)

held-so : (s : PeerState) (p q : Peering) → held_if s p ≡ Some q → p ≡ q
held-so state.Free p q e = absurd (let z : ◌≡◌ {A = Option Peering} None (Some q) = e in cc)
held-so s p q e = same-some p q e

held-on : (q : Peering) → q.state ≡ state.Connected → held_if q.state q ≡ Some q
held-on q on = ap (λ (s : PeerState). held_if s q) on

-- both are connected
abbrev pub AreUp : Bool → World → ℕ → Side → Type 0
AreUp joined v x side = (own far : End) × Up joined v x side own far

-- ---- a datagram comes, and may be stopped
arrives-on : (joined : Bool) (b v : World) (x : ℕ) (side : Side) (now : ℕ) (own far : End) (p : Peering) (k : ℕ) (received : Received) (o : PutsOut joined b x side now own far k) → IsReached joined b → HappensAt (other side) (Delivers k received) b v
    → own.peer ≡ Some p → IsLone is_ping p.outbox.control → (q : Peering) → far.peer ≡ Some q → q.state ≡ state.Connected → AreUp joined v x side
unfolding IsOn
arrives-on joined b v x side now own far p k received o r h is lone q is_q on_q = (o.new, g.went.new, up)
  where
    j : ℕ → Bool
    j = from_start joined

    s : Sound j b
    s = sound joined b r

    from : Site
    from = site_of b (other (other side))

    to : Site
    to = site_of b (other side)

    to' : Site
    to' = site_of v (other side)

    ends : Ends b x (other side) far o.new
    ends = swapped b x side o.new far o.ends

    host : IsHost to b.count
    host = host-at j b s (other side)

    found : (d : Logged) × (slice_get from.log k ≡ Some d) × BringsOne from (Some d) received to to'
    found = found-in from to to' received (slice_get from.log k) h.here

    -- the receiving end goes on
    g : GoesOn far o.new to' ends.e
    g = one-thing to host.few (beside b.count from) from to' (Delivers k received) h.here (host-at j b s (other (other side))).named ends.e ends.here (host.apart ends.e ends.here) far o.new ends.shows
        (faces j b x (other side) far o.new s ends) (inl (far-end j b x (other side) far o.new s ends))

    ends_v : Ends v x (other side) g.went.new o.new
    ends_v = record {
      e = g.after;
      f = ends.f;
      here = g.there;
      there = subst (λ (t : Site). Has t.ends ends.f) (sym h.there) ends.there;
      of_e = g.connection ∙ ends.of_e;
      of_f = ends.of_f;
      shows = g.went.shows;
      shows_far = subst (λ (t : Site). Shows t ends.f o.new) (sym h.there) ends.shows_far;
    }

    -- its peer is connected
    Stays : Type 0
    Stays = (y : Peering) × ShowsPeer to'.host ends.e.name y × (y.state ≡ state.Connected)

    on : ends.shows.peer.state ≡ state.Connected
    on = ap (λ (y : Peering). y.state) (same-peer far ends.shows.peer q ends.shows.has is_q) ∙ on_q

    heard : IsHeard from.address found.0.text received to to' ends.e ends.shows.peer → Stays
    heard z = by o.goes
      where
        d : Logged
        d = found.0

        named : d.peer ≡ z.header.peer
        named = (host-at j b s (other (other side))).named d (Has-slice_get from.log k d found.1) z.header z.commands z.read

        passed : (is_earlier to from.address d ≡ false) × (is_late from to d ≡ false)
        passed = in-none (is_earlier to from.address d) (is_late from to d) found.2.0

        of : ends.e.connection ≡ d.connection
        of = same-connection to from.address d ends.e ends.shows.peer z.there ends.here (λ e. z.some (sym named ∙ e)) (named ∙ z.here) (heard-at-address from.address d.text received to to' ends.e ends.shows.peer z) passed.0

        there : slice_get (site_of b side).log k ≡ Some d
        there = subst (λ (t : Site). slice_get t.log k ≡ Some d) (ap (site_of b) (twice side)) found.1

        was : z.hears.peer ≡ ends.shows.peer
        was = same-some z.hears.peer ends.shows.peer (sym z.hears.held ∙ ap (λ (y : SlotState). y.peer) (same-some z.slot z.there.slot (sym z.was ∙ z.there.there)) ∙ z.there.peer)

        by : ((c : Logged) × (slice_get (site_of b side).log k ≡ Some c) × IsOwn now x own far o.new c)
            ⊎ (((c : Logged) → slice_get (site_of b side).log k ≡ Some c → c.connection ≢ x) × ((o.new ≡ own) ⊎ Happens own far (Emit now) o.new) × (o.new.log ≡ own.log))
            → Stays
        by (inr other') = absurd (other'.0 d there (sym of ∙ ends.of_e))
        by (inl (c, sent, w)) = (z.hears.after, heard-peer (call.Receive from.address d.text received) to to' ends.e ends.shows.peer z.hears.after host.few found.2.1.0 z.slot z.after z.was z.there z.hears.left z.is, stays)
          where
            text : c.text ≡ d.text
            text = ap (λ (y : Logged). y.text) (same-some c d (sym sent ∙ there))

            l : IsLogged o.new.log c
            l = w.is

            -- it isn't one who was refused
            handled : Handles (arrival to.host z.header z.slot) (record { handled = 0; peer = z.hears.peer }) z.commands received z.hears.after
            handled = subst (λ (b : Bool). HearsIf b (arrival to.host z.header z.slot) z.commands z.hears.peer received z.hears.after)
                (ap (λ (s : PeerState). is_answering s && z.hears.peer.refused) (ap (λ (y : Peering). y.state) was ∙ on)) z.hears.heard

            stays : z.hears.after.state ≡ state.Connected
            stays = each-stays (arrival to.host z.header z.slot) (record { handled = 0; peer = ends.shows.peer }) (messages_of l.puts) received z.hears.after on
                (λ m info has says. (let put = put-of l.puts m has in puts-none-ends now own far o.new p l.puts is lone w.goes w.all put.0 info put.1 (ap (λ (y : Message). y.body) put.2 ∙ says)))
                (handles-each (arrival to.host z.header z.slot) (record { handled = 0; peer = ends.shows.peer }) z.commands (messages_of l.puts) received z.hears.after
                (behind d.text l.header z.header z.read.front z.commands (messages_of l.puts) z.read.split z.read.spelled (subst (λ t. SpellsDatagram t l.header (messages_of l.puts)) text l.spelled))
                (subst (λ (y : Peering). Handles (arrival to.host z.header z.slot) (record { handled = 0; peer = y }) z.commands received z.hears.after) was handled))

    last : Stays
    last = received-by Stays from.address found.0.text received to to' ends.e far host.few found.2.1.0 ends.shows (λ shown. (ends.shows.peer, shown, on))
        (λ header commands read stranger seats answers. absurd (let y : true ≡ false = sym answers ∙ ap is_answering on in cc)) heard

    same : g.went.shows.peer ≡ last.0
    same = held-so g.went.shows.peer.state g.went.shows.peer last.0 (sym g.went.shows.shows.is ∙ ap (λ n. named_at to'.host.slots n) g.name ∙ last.1.is ∙ held-on last.0 last.2)

    up : Up joined v x side o.new g.went.new
    up = up-back joined v x side o.new g.went.new (record {
      ends = ends_v;
      joint = joint-run (j x) g.went.events far o.new g.went.new g.went.runs (joint-swap (j x) o.new far o.joint);
      p = last.0;
      q = o.on.0;
      is_p = g.went.shows.has ∙ ap (λ (y : Peering). Some y) same;
      is_q = o.on.1;
      on_p = last.2;
      on_q = o.on.2;
    })

-- one datagram
carried-on : (joined : Bool) (w v : World) (x : ℕ) (side : Side) (own far : End) (refused stopped : ℕ) → IsReached joined w → Habits w → Up joined w x side own far → Carries side refused stopped w v → AreUp joined v x side
unfolding IsOn
carried-on joined w v x side own far refused stopped r habits u c = by c.answer c.comes
  where
    o : PutsOut joined c.between x side (clock_at w side) own far c.k
    o = puts-out joined w c.between x side own far c.k c.told r c.goes c.is_sent u

    up : Up joined c.between x side o.new far
    up = record { ends = o.ends; joint = o.joint; p = o.on.0; q = u.q; is_p = o.on.1; is_q = u.is_q; on_p = o.on.2; on_q = u.on_q }

    by : (told : Result Answer Refusal) → Steps c.between (happen.Deliver (other side) c.k) told v → AreUp joined v x side
    by (Err why) step = (o.new, far, subst (λ (y : World). Up joined y x side o.new far) (sym step.1) up)
    by (Ok (answers.Received received)) step = arrives-on joined c.between v x side (clock_at w side) own far u.p c.k received o (reached-step joined w c.between (happen.Turn side) c.told r c.goes)
        (subst (λ (e : Happening). HappensAt (other side) e c.between v) step.1 step.2) u.is_p (lone-up joined w x side own far habits u) u.q u.is_q u.on_q
    by (Ok answer) step = absurd step.1

many-on : (joined : Bool) (w v : World) (x : ℕ) (side : Side) (own far : End) (n refused stopped : ℕ) → IsReached joined w → Habits w → Up joined w x side own far → CarriesMany side n refused stopped w v → AreUp joined v x side
many-on joined w v x side own far zero refused stopped r habits u c = (own, far, subst (λ (y : World). Up joined y x side own far) (sym c.2) u)
many-on joined w v x side own far (suc n) refused stopped r habits u c =
    let g = many-on joined w c.4 x side own far n c.0 c.1 r habits u c.5 in
    carried-on joined c.4 v x side g.0 g.1 c.2 c.3 (kept-many (IsReached joined) (reached-keeps joined) side n c.0 c.1 w c.4 c.5 r) (kept-many Habits habits-keeps side n c.0 c.1 w c.4 c.5 habits) g.2 c.6

none-on : (joined : Bool) (w v : World) (x : ℕ) (side : Side) (own far : End) (told : Result Answer Refusal) → IsReached joined w → Steps w (happen.Turn side) told v → datagram_in told ≡ None → Up joined w x side own far → AreUp joined v x side
none-on joined w v x side own far (Err why) r step none u = (own, far, subst (λ (y : World). Up joined y x side own far) (sym step.1) u)
none-on joined w v x side own far (Ok (answers.Sent None)) r step none u = (let f = rested joined w v x side own far step.1.0 r (subst (λ (e : Happening). HappensAt side e w v) step.1.1 step.2) u in (f.0, far, f.1))
none-on joined w v x side own far (Ok (answers.Sent (Some n))) r step none u = absurd (let z : ◌≡◌ {A = Option ℕ} (Some n) None = none in cc)
none-on joined w v x side own far (Ok answer) r step none u = absurd step.1

out-on : (joined : Bool) (w v : World) (x : ℕ) (side : Side) (sent refused stopped cut : ℕ) → IsReached joined w → Habits w → AreUp joined w x side → PutsAllOut side sent refused stopped cut w v → AreUp joined v x side
out-on joined w v x side sent refused stopped cut r habits a c = by c.2
  where
    g : AreUp joined c.0 x side
    g = many-on joined w c.0 x side a.0 a.1 sent refused stopped r habits a.2 c.1

    by : PutsNone side cut c.0 v ⊎ ((sent ≡ most) × (cut ≡ 1) × (v ≡ c.0)) → AreUp joined v x side
    by (inl none) = none-on joined c.0 v x side g.0 g.1 none.0 (kept-many (IsReached joined) (reached-keeps joined) side sent refused stopped w c.0 c.1 r) none.1 none.2 g.2
    by (inr full) = subst (λ (y : World). AreUp joined y x side) (sym full.2) g

taken-on : (joined : Bool) (w v : World) (x : ℕ) (side : Side) (taken cut : ℕ) → IsReached joined w → AreUp joined w x side → TakesAll side taken cut w v → AreUp joined v x side
taken-on joined w v x side taken cut r a t = by t.2
  where
    g : Taking joined t.0 x side a.0 a.1
    g = takes-many joined w t.0 x side a.0 a.1 taken r a.2 t.1

    by : TakesNone side cut t.0 v ⊎ ((taken ≡ most) × (cut ≡ 1) × (v ≡ t.0)) → AreUp joined v x side
    by (inl none) = (let f = take-goes joined t.0 v x side g.1 a.1 none.0 (kept-takes (IsReached joined) side (reached-take joined side) taken w t.0 t.1 r) none.1 g.2 in (f.1, a.1, f.2))
    by (inr full) = subst (λ (y : World). AreUp joined y x side) (sym full.2) (g.1, a.1, g.2)

-- ---- a round
turned : (joined : Bool) (v : World) (x : ℕ) (side : Side) → AreUp joined v x side → AreUp joined v x (other side)
turned joined v x side a = (a.1, a.0, up-swapped joined v x side a.0 a.1 a.2)

pub round-on : (joined : Bool) (ms : ℕ) (told : Calm) (w v : World) (x now there : ℕ) (own far : End) → IsReached joined w → Habits w → (d : Round ms told w v) → AtMoment joined d.ticked x now there own far → AreUp joined v x A
round-on joined ms told w v x now there own far r habits d m =
    turned joined v x B (taken-on joined d.taken_a v x B told.b.taken d.cut_b reached.taken_a (turned joined d.taken_a x A (taken-on joined d.sent d.taken_a x A told.a.taken d.cut_a reached.sent
    (turned joined d.sent x B (out-on joined d.sent_a d.sent x B told.b.sent told.b.refused told.b.stopped d.cut_back reached.sent_a kept.sent_a
    (turned joined d.sent_a x A (out-on joined d.ticked d.sent_a x A told.a.sent told.a.refused told.a.stopped d.cut_forth reached.ticked kept.ticked (m.one, m.two, m.up) d.forth)) d.back)) d.takes_a)) d.takes_b)
  where
    reached : Along (IsReached joined) ms told w v d
    reached = along (IsReached joined) (reached-keeps joined) ms told w v d (reached-ticked joined ms told w v d r)

    kept : Along Habits ms told w v d
    kept = along Habits habits-keeps ms told w v d (habits-ticked ms told w v d habits)
