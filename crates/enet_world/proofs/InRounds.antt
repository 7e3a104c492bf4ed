-- What rounds in which the network loses nothing are to the two ends of a connection: rounds of the law of progress, or one of them is past
-- its connection.
use Rattle.std.proofs.Common.{◌≡◌, ◌≢◌, ◌<◌, ◌⊎◌, ℕ, zero, suc, ◌+◌, Bool, true, false, cond, List, [], ◌∷◌, ◌++◌, append-nil, length, refl, sym, ap, subst, ◌∙◌, inl, inr, arith, Option, Some, None, Result, Ok, Err, is_some}
use Rattle.std.proofs.lemmas.Option.{slice_get_within}
use Rattle.std.specs.List.{slice_get}
use Rattle.enet_codec.specs.declared.address.Addr.{Addr}
use Rattle.enet_codec.specs.declared.event.Event.{Event as Told}
use Rattle.enet_codec.specs.declared.event.PeerRef.{PeerRef}
use Rattle.enet_codec.specs.declared.event.Received.{Received}
use Rattle.enet_codec.specs.declared.packet.Packet.{Packet}
use Rattle.enet_codec.specs.declared.stop.Stop.{Stop}
use Rattle.enet_codec.specs.declared.refusal.Refusal.{Refusal}
use Rattle.enet_outbox.specs.Outbox.{has_ended}
use Rattle.enet_peer.specs.declared.parts.PeerState.{PeerState}
use Rattle.enet_peer.specs.declared.parts.PeerState.TheVariants as state
use Rattle.enet_peer.specs.Peering.{Peering}
use Rattle.enet_peer.specs.Calls.{pace_of, next_event, event_after, packet_event}
use Rattle.enet_peer.specs.Calls as peers
use Rattle.enet_rtt.specs.Clock.{told_time}
use Rattle.enet_slot.specs.Calls.{peer_tells}
use Rattle.enet_host.specs.Host.{named}
use Rattle.enet_host.specs.Receiving.{is_full, listener_of}
use Rattle.enet_host.specs.Ticking.{clock_after}
use Rattle.law_connection.specs.Connection.{Put, End}
use Rattle.law_connection.specs.Law.{offset_of}
use Rattle.law_connection.specs.LinkSteps.{Has}
use Rattle.law_connection.specs.Steps.{Emit, Happens}
use Rattle.law_connection.specs.Steps as event
use Rattle.law_network.specs.Calls as call
use Rattle.law_network.specs.Calls.{Call}
use Rattle.law_network.specs.declared.event.Answer.{Answer}
use Rattle.law_network.specs.declared.event.Answer.TheVariants as answers
use Rattle.law_network.specs.declared.event.Side.{Side}
use Rattle.law_network.specs.declared.event.Side.TheVariants.{A, B}
use Rattle.law_network.specs.declared.event.WorldEvent.{WorldEvent}
use Rattle.law_network.specs.declared.event.WorldEvent.TheVariants as happen
use Rattle.law_network.specs.Log.{Logged}
use Rattle.law_network.specs.IsolationLaw.{held_if}
use Rattle.law_network.specs.Network.{Site}
use Rattle.law_network.specs.Own.{clock_by}
use Rattle.law_network.specs.Shown.{IsLogged}
use Rattle.law_network.specs.Steps.{Happening, Calls, Delivers, BringsOne, beside}
use Rattle.law_network.specs.Telling.{HasNothingNew, IsPassedBy, Gave, AllHeeded, GoesTo, Ticks}
use Rattle.law_network.specs.World.{World, HappensAt, Steps, site_of, other}
use Rattle.law_network.proofs.Names.{IsThere, named-there}
use Rattle.law_network.proofs.Own.{of-the-host}
use Rattle.law_network.proofs.Runs.{Sound}
use Rattle.law_network.proofs.Submitting.{same-some}
use Rattle.law_network.proofs.Telling.{turns, rests, brings, passes-over, times, takes-one}
use Rattle.law_network.proofs.Worlds.{IsHost, acts-of}
use Rattle.law_network.proofs.Once.{AreAt}
use Rattle.law_network.proofs.Owned.{AreOwned}
use Rattle.law_progress.specs.Exchanges.{PutsOne, PutsMany, PutsAll, Takes}
use Rattle.law_progress.specs.Outboxes.{AllFit, NothingMayGo}
use Rattle.law_progress.proofs.BothRounds.{tick-peer}
use Rattle.law_progress.proofs.Exchanges.{Joint, joint-swap, joint-event, same-peer, all-joint, put_out, Gone, gone, Came, took-all}
use Rattle.law_progress.proofs.Fitting.{all-fits}
use Rattle.law_progress.proofs.Spent.{nothing-may-go}
use Rattle.law_headline.proofs.Net.{get-last}
use Rattle.enet_world.specs.Calm.{most, datagram_in, event_in, refusals_in, stops_in, Carries, CarriesMany, PutsNone, PutsAllOut, TakesOne, TakesMany, TakesNone, TakesAll}
use Rattle.enet_world.specs.Private.Worlds.{IsReached}
use Rattle.enet_world.proofs.Crossing.{all-come, puts-plain, names-slot}
use Rattle.enet_world.proofs.Habits.{Habit, Habits, HostHabits, habits-step}
use Rattle.enet_world.proofs.Lasting.{IsIn, Holds, lasts-event, is_begun, begun-lasts}
use Rattle.enet_world.proofs.Living.{named-fits, named-asks}
use Rattle.enet_world.proofs.Modest.{modest-pings}
use Rattle.enet_world.proofs.Moments.{waited, ticks-joint}
use Rattle.enet_world.proofs.Offers.{NoOffers, connected-plain}
use Rattle.enet_world.proofs.Pings.{IsLone, is_ping}
use Rattle.enet_world.proofs.Reaching.{reached-step}
use Rattle.enet_world.proofs.Staying.{puts-none-ends, emits-on, none-filled, not-let-go}
use Rattle.enet_world.proofs.TwoEnds.{from_start, sound, host-at, twice, Ends, swapped, is-end, far-end, faces, Moved, moved, IsDown, down-step, Up, up-back, begun-here, IsOn, up-or-down, live}

-- ---- the hosts' clocks
abbrev pub clock_at : World → Side → ℕ
clock_at w side = (site_of w side).host.clock

-- neither clock goes on
abbrev pub StandStill : World → World → Type 0
StandStill w v = (side : Side) → clock_at v side ≡ clock_at w side

still-at : (w v : World) (side : Side) (what : Happening) → HappensAt side what w v → clock_at v side ≡ clock_at w side → StandStill w v
still-at w v A what h here A = here
still-at w v A what h here B = ap (λ (s : Site). s.host.clock) h.there
still-at w v B what h here A = ap (λ (s : Site). s.host.clock) h.there
still-at w v B what h here B = here

brought-acts : (from old new : Site) (answer : Received) (found : Option Logged) → BringsOne from found answer old new → new.host.clock ≡ old.host.clock
brought-acts from old new answer None x = absurd x
brought-acts from old new answer (Some d) x = (of-the-host (call.Receive from.address d.text answer) old.host new.host x.1.0).1

-- ---- time goes on at a side
-- an end whose host's clock went on
pub record TicksTo (joined : Bool) (v : World) (x : ℕ) (side : Side) (now : ℕ) (own far : End) : Type 0 where
  pub new : End
  pub ends : Ends v x side new far
  pub joint : Joint (from_start joined x) new far
  pub begun : Holds (IsIn is_begun) new
  pub ticks : Ticks now own far new

goes-on-at : (joined : Bool) (w v : World) (x : ℕ) (side : Side) (ms : ℕ) (own far : End) → IsReached joined w → HappensAt side (Calls (call.Tick ms)) w v → Up joined w x side own far → TicksTo joined v x side (clock_after (clock_at w side) ms) own far
unfolding Moved
goes-on-at joined w v x side ms own far r h k = record { new = m.0; ends = m.1; joint = ticks-joint (from_start joined x) (clock_after (clock_at w side) ms) own far m.0 m.2 k.joint; begun = ticks-begun m.2; ticks = m.2 }
  where
    now : ℕ
    now = clock_after (clock_at w side) ms

    m : Moved v x side far (Ticks now own far)
    m = moved w v x side own far (Calls (call.Tick ms)) (Ticks now own far) k.ends h
        (times (beside w.count (site_of w (other side))) (site_of w (other side)) (site_of w side) (site_of v side) ms h.here k.ends.e own far (is-end (from_start joined) w x side own far (sound joined w r) k.ends) (live own k.p k.is_p k.on_p))

    ticks-begun : {new : End} → Ticks now own far new → Holds (IsIn is_begun) new
    ticks-begun {new} (inl t) = lasts-event (IsIn is_begun) begun-lasts own far new (event.Tick now) t (begun-here own k.p k.is_p k.on_p)
    ticks-begun {new} (inr t) = lasts-event (IsIn is_begun) begun-lasts t.1 far new (event.Set (event.ThrottleLimit t.0)) t.3 (lasts-event (IsIn is_begun) begun-lasts own far t.1 (event.Tick now) t.2 (begun-here own k.p k.is_p k.on_p))

ticks-to : (joined : Bool) (w v : World) (x : ℕ) (side : Side) (ms : ℕ) (told : Result Answer Refusal) (own far : End) → IsReached joined w → Steps w (happen.Tick side ms) told v → Up joined w x side own far → TicksTo joined v x side (clock_after (clock_at w side) ms) own far
ticks-to joined w v x side ms (Err why) own far r step k = absurd step.0
ticks-to joined w v x side ms (Ok answers.Done) own far r step k = goes-on-at joined w v x side ms own far r (subst (λ (e : Happening). HappensAt side e w v) step.1 step.2) k
ticks-to joined w v x side ms (Ok answer) own far r step k = absurd step.1

-- it is connected still
abbrev pub Ticked : Bool → World → ℕ → Side → ℕ → End → End → Type 0
Ticked joined v x side now own far = (new : End) × Up joined v x side new far × Ticks now own far new

-- or it is past
pub ticked : (joined : Bool) (w v : World) (x : ℕ) (side : Side) (ms : ℕ) (told : Result Answer Refusal) (own far : End) → IsReached joined w → Steps w (happen.Tick side ms) told v → Up joined w x side own far
    → Ticked joined v x side (clock_after (clock_at w side) ms) own far ⊎ IsDown v x
ticked joined w v x side ms told own far r step k = (let t = ticks-to joined w v x side ms told own far r step k in elim (up-or-down joined v x side t.new far k.q t.ends t.joint t.begun k.is_q k.on_q) [
  | inl up ↦ inl (t.new, up, t.ticks)
  | inr down ↦ inr down
])

-- where its patience lasts, it is connected
pub ticked-on : (joined : Bool) (w v : World) (x : ℕ) (side : Side) (ms : ℕ) (told : Result Answer Refusal) (own far : End) → IsReached joined w → Steps w (happen.Tick side ms) told v → (k : Up joined w x side own far)
    → has_ended k.p.outbox (clock_after (clock_at w side) ms) k.p.patience k.p.heard ≡ false → Ticked joined v x side (clock_after (clock_at w side) ms) own far
ticked-on joined w v x side ms told own far r step k lasts = (t.new, by t.ticks, t.ticks)
  where
    now : ℕ
    now = clock_after (clock_at w side) ms

    t : TicksTo joined v x side now own far
    t = ticks-to joined w v x side ms told own far r step k

    elsewhere : peers.is_answering k.p.state ≡ false
    elsewhere = ap peers.is_answering k.on_p

    on : (peers.ticked k.p now).state ≡ state.Connected
    on = (let z = waited k.p now elsewhere lasts in z.state ∙ k.on_p)

    up : (p : Peering) → t.new.peer ≡ Some p → p.state ≡ state.Connected → Up joined v x side t.new far
    up p is on_p = record { ends = t.ends; joint = t.joint; p = p; q = k.q; is_p = is; is_q = k.is_q; on_p = on_p; on_q = k.on_q }

    by : Ticks now own far t.new → Up joined v x side t.new far
    by (inl h) = up (peers.ticked k.p now) (tick-peer own far t.new now k.p h k.is_p elsewhere) on
    by (inr h) = up (peers.with_throttle_limit (peers.ticked k.p now) h.0)
        (ap (λ (e : End). e.peer) h.3.3 ∙ ap (λ (y : Peering). Some (peers.with_throttle_limit y h.0)) (same-peer h.1 h.3.0 (peers.ticked k.p now) h.3.1 (tick-peer own far h.1 now k.p h.2 k.is_p elsewhere))) on

-- ---- so many datagrams, and further ones
puts-more : (now there n m : ℕ) (from to f t from' to' : End) → PutsMany now there n from to f t → PutsMany now there m f t from' to' → (k : ℕ) × PutsMany now there k from to from' to'
puts-more now there zero m from to f t from' to' a b = (m, subst (λ (e : End). PutsMany now there m e to from' to') a.0 (subst (λ (e : End). PutsMany now there m f e from' to') a.1 b))
puts-more now there (suc n) m from to f t from' to' a b = (let r = puts-more now there n m a.0 a.1 f t from' to' a.3 b in (suc r.0, (a.0, a.1, a.2, r.1)))

one-put : (now there : ℕ) (from to from' to' : End) → PutsOne now there from to from' to' → PutsMany now there 1 from to from' to'
one-put now there from to from' to' o = (from', to', o, (refl, refl))

takes-then : (n m : ℕ) (own other mid new : End) → Takes n own other mid → Takes m mid other new → (k : ℕ) × Takes k own other new
takes-then zero m own other mid new a b = (m, subst (λ (e : End). Takes m e other new) a b)
takes-then (suc n) m own other mid new a b = (let r = takes-then n m a.0 other mid new a.2 b in (suc r.0, (a.0, a.1, r.1)))

-- ---- no clock goes on by a turn, a delivery or a take
called-still : (w v : World) (side : Side) (c : Call) (e : Happening) → e ≡ Calls c → HappensAt side e w v → ((clock : ℕ) → clock_by c clock ≡ clock) → StandStill w v
called-still w v side c e is h same =
    let here : HappensAt side (Calls c) w v = subst (λ (y : Happening). HappensAt side y w v) is h in
    let acts = acts-of (beside w.count (site_of w (other side))) (site_of w (other side)) (site_of w side) (site_of v side) c here.here in
    still-at w v side (Calls c) here ((of-the-host c (site_of w side).host (site_of v side).host acts).1 ∙ same (clock_at w side))

pub turn-still : (w v : World) (side : Side) (told : Result Answer Refusal) → Steps w (happen.Turn side) told v → StandStill w v
turn-still w v side (Err why) step = λ at. ap (λ (u : World). clock_at u at) step.1
turn-still w v side (Ok (answers.Sent None)) step = called-still w v side (call.Service None step.1.0) step.0 step.1.1 step.2 (λ clock. refl)
turn-still w v side (Ok (answers.Sent (Some n))) step = called-still w v side (call.Service (Some step.1.0) step.1.1) step.0 step.1.2 step.2 (λ clock. refl)
turn-still w v side (Ok answer) step = absurd step.1

pub deliver-still : (w v : World) (side : Side) (k : ℕ) (told : Result Answer Refusal) → Steps w (happen.Deliver side k) told v → StandStill w v
deliver-still w v side k (Err why) step = λ at. ap (λ (u : World). clock_at u at) step.1
deliver-still w v side k (Ok (answers.Received received)) step =
    let h : HappensAt side (Delivers k received) w v = subst (λ (y : Happening). HappensAt side y w v) step.1 step.2 in
    still-at w v side (Delivers k received) h (brought-acts (site_of w (other side)) (site_of w side) (site_of v side) received (slice_get (site_of w (other side)).log k) h.here)
deliver-still w v side k (Ok answer) step = absurd step.1

pub take-still : (w v : World) (side : Side) (told : Result Answer Refusal) → Steps w (happen.Take side) told v → StandStill w v
take-still w v side (Err why) step = λ at. ap (λ (u : World). clock_at u at) step.1
take-still w v side (Ok (answers.Taken event')) step = called-still w v side (call.NextEvent event') step.0 step.1 step.2 (λ clock. refl)
take-still w v side (Ok answer) step = absurd step.1

-- ---- an end puts out a datagram, or is passed by
-- a datagram is an end's own, and has what it put out
pub record IsOwn (now x : ℕ) (own far new : End) (d : Logged) : Type 0 where
  pub of : d.connection ≡ x
  pub is : IsLogged new.log d
  pub goes : Happens own far (Emit now) new
  pub all : new.log ≡ own.log ++ is.puts
  pub sent : (y : Put) → Has is.puts y → y.message.head.acknowledge ≡ true → is.header.sent ≡ Some (told_time now (offset_of own))

-- a side put out datagram k: what became of the end there
pub record PutsOut (joined : Bool) (v : World) (x : ℕ) (side : Side) (now : ℕ) (own far : End) (k : ℕ) : Type 0 where
  pub new : End
  pub ends : Ends v x side new far
  pub joint : Joint (from_start joined x) new far
  pub on : IsOn new
  pub goes : ((d : Logged) × (slice_get (site_of v side).log k ≡ Some d) × IsOwn now x own far new d)
      ⊎ (((d : Logged) → slice_get (site_of v side).log k ≡ Some d → d.connection ≢ x) × ((new ≡ own) ⊎ Happens own far (Emit now) new) × (new.log ≡ own.log))

passed-joint : (j : Bool) (now : ℕ) (own far new : End) → (new ≡ own) ⊎ Happens own far (Emit now) new → Joint j own far → Joint j new far
passed-joint j now own far new (inl same) k = subst (λ (e : End). Joint j e far) (sym same) k
passed-joint j now own far new (inr h) k = joint-event j own far new (Emit now) h k

emitted-on : (now : ℕ) (own far new : End) (p : Peering) → own.peer ≡ Some p → p.state ≡ state.Connected → Happens own far (Emit now) new → IsOn new
unfolding IsOn
emitted-on now own far new p is on h = (put_out p now, emits-on now own far new p is on h, on)

passed-on : (now : ℕ) (own far new : End) (p : Peering) → own.peer ≡ Some p → p.state ≡ state.Connected → (new ≡ own) ⊎ Happens own far (Emit now) new → IsOn new
unfolding IsOn
passed-on now own far new p is on (inl same) = (p, ap (λ (e : End). e.peer) same ∙ is, on)
passed-on now own far new p is on (inr h) = emitted-on now own far new p is on h

serves : (joined : Bool) (w v : World) (x : ℕ) (side : Side) (own far : End) (k : ℕ) (gave : PeerRef × Addr × ℕ) (buf : List ℕ) → IsReached joined w → HappensAt side (Calls (call.Service (Some gave) buf)) w v → k ≡ length (site_of w side).log → Up joined w x side own far
    → PutsOut joined v x side (clock_at w side) own far k
unfolding Moved
serves joined w v x side own far k gave buf r h number u = by m.2
  where
    s : Sound (from_start joined) w
    s = sound joined w r

    now : ℕ
    now = clock_at w side

    old : Site
    old = site_of w side

    from : Site
    from = site_of w (other side)

    R : End → Type 0
    R end = Gave now old (site_of v side) u.ends.e.connection own far end ⊎ (IsPassedBy now own far end × HasNothingNew old (site_of v side) u.ends.e.connection)

    m : Moved v x side far R
    m = moved w v x side own far (Calls (call.Service (Some gave) buf)) R u.ends h
        (turns (beside w.count from) from old (site_of v side) gave buf h.here refl u.ends.e own far (is-end (from_start joined) w x side own far s u.ends) (faces (from_start joined) w x side own far s u.ends))

    by : R m.0 → PutsOut joined v x side now own far k
    by (inl g) = record {
      new = m.0;
      ends = m.1;
      joint = joint-event (from_start joined x) own far m.0 (Emit now) g.emits u.joint;
      on = emitted-on now own far m.0 u.p u.is_p u.on_p g.emits;
      goes = inl (
        g.datagram,
        ap (λ (l : List Logged). slice_get l k) g.logged ∙ ap (λ (i : ℕ). slice_get (old.log ++ g.datagram ∷ []) i) number ∙ get-last old.log g.datagram,
        record { of = g.of ∙ u.ends.of_e; is = g.has.is; goes = g.emits; all = g.has.all; sent = g.has.sent },
      );
    }
    by (inr p) = record {
      new = m.0;
      ends = m.1;
      joint = passed-joint (from_start joined x) now own far m.0 p.0.0 u.joint;
      on = passed-on now own far m.0 u.p u.is_p u.on_p p.0.0;
      goes = inr ((λ d there of. (let l : k < length old.log = slice_get_within old.log k d (p.1 k d there (of ∙ sym u.ends.of_e)) in let z : k ≡ length old.log = number in omega arith)), p.0.0, p.0.1);
    }

pub puts-out : (joined : Bool) (w v : World) (x : ℕ) (side : Side) (own far : End) (k : ℕ) (told : Result Answer Refusal) → IsReached joined w → Steps w (happen.Turn side) told v → datagram_in told ≡ Some k → Up joined w x side own far
    → PutsOut joined v x side (clock_at w side) own far k
puts-out joined w v x side own far k (Err why) r step is u = absurd (let z : ◌≡◌ {A = Option ℕ} None (Some k) = is in cc)
puts-out joined w v x side own far k (Ok (answers.Sent None)) r step is u = absurd (let z : ◌≡◌ {A = Option ℕ} None (Some k) = is in cc)
puts-out joined w v x side own far k (Ok (answers.Sent (Some n))) r step is u =
    serves joined w v x side own far k step.1.0 step.1.1 r (subst (λ (e : Happening). HappensAt side e w v) step.1.2 step.2) (sym (same-some n k is) ∙ step.1.3) u
puts-out joined w v x side own far k (Ok answer) r step is u = absurd step.1

-- ---- and it comes
owned-at : (j : ℕ → Bool) (w : World) → Sound j w → (side : Side) → AreOwned (λ a. true) (site_of w side)
owned-at j w s A = s.owned_a
owned-at j w s B = s.owned_b

-- each end's peer is at the other host's address
placed : (j : ℕ → Bool) (w : World) → Sound j w → (side : Side) → AreAt (λ n. (site_of w (other side)).address) (site_of w side)
placed j w s A e h p y = s.far_a e h p y ∙ sym s.at_b
placed j w s B e h p y = s.far_b e h p y ∙ sym s.at_a

pub found-in : (from old new : Site) (answer : Received) (o : Option Logged) → BringsOne from o answer old new → (d : Logged) × (o ≡ Some d) × BringsOne from (Some d) answer old new
found-in from old new answer None x = absurd x
found-in from old new answer (Some d) x = (d, refl, x)

none-stopped : (o : Option Stop) → ◌≡◌ {A = ℕ} (cond (is_some o) 1 0) 0 → o ≡ None
none-stopped None e = refl
none-stopped (Some why) e = absurd (let z : ◌≡◌ {A = ℕ} 1 0 = e in omega arith)

-- what so many datagrams are to the two ends
abbrev pub Goes : Bool → World → ℕ → Side → (now there : ℕ) → End → End → Type 0
Goes joined v x side now there own far = (n : ℕ) × (new new_far : End) × Up joined v x side new new_far × PutsMany now there n own far new new_far

brought : (joined : Bool) (b v : World) (x : ℕ) (side : Side) (now : ℕ) (own far : End) (p : Peering) (k : ℕ) (received : Received) (o : PutsOut joined b x side now own far k) → IsReached joined b → HappensAt (other side) (Delivers k received) b v → received.stop ≡ None
    → own.peer ≡ Some p → NoOffers p.outbox.control → IsLone is_ping p.outbox.control → (q : Peering) → far.peer ≡ Some q → q.state ≡ state.Connected → Goes joined v x side now (clock_at b (other side)) own far
unfolding Moved IsOn
brought joined b v x side now own far p k received o r h none is plain lone q is_q on_q = by o.goes
  where
    j : ℕ → Bool
    j = from_start joined

    s : Sound j b
    s = sound joined b r

    there : ℕ
    there = clock_at b (other side)

    from : Site
    from = site_of b (other (other side))

    same_from : from ≡ site_of b side
    same_from = ap (site_of b) (twice side)

    to : Site
    to = site_of b (other side)

    ends : Ends b x (other side) far o.new
    ends = swapped b x side o.new far o.ends

    found : (d : Logged) × (slice_get from.log k ≡ Some d) × BringsOne from (Some d) received to (site_of v (other side))
    found = found-in from to (site_of v (other side)) received (slice_get from.log k) h.here

    -- where the far end is now
    done : (new : End) → Ends v x (other side) new o.new → Joint (j x) o.new new → IsOn new → Up joined v x side o.new new
    done new e joint at = up-back joined v x side o.new new (record { ends = e; joint = joint-swap (j x) o.new new joint; p = at.0; q = o.on.0; is_p = at.1; is_q = o.on.1; on_p = at.2; on_q = o.on.2 })

    by : ((d : Logged) × (slice_get (site_of b side).log k ≡ Some d) × IsOwn now x own far o.new d)
        ⊎ (((d : Logged) → slice_get (site_of b side).log k ≡ Some d → d.connection ≢ x) × ((o.new ≡ own) ⊎ Happens own far (Emit now) o.new) × (o.new.log ≡ own.log))
        → Goes joined v x side now there own far
    by (inr passed) =
        let apart : found.0.connection ≢ x = passed.0 found.0 (subst (λ (t : Site). slice_get t.log k ≡ Some found.0) same_from found.1) in
        let shown = passes-over k received found.0 from to (site_of v (other side)) found.2 found.1 (host-at j b s (other (other side))).named ends.e far o.new (is-end j b x (other side) far o.new s ends)
        (far-end j b x (other side) far o.new s ends) (λ e. apart (e ∙ ends.of_e)) in
        let m : Moved v x (other side) o.new (λ end. (end ≡ far) ⊎ GoesTo from.address to ends.e found.0 far o.new end) =
        moved b v x (other side) far o.new (Delivers k received) (λ end. (end ≡ far) ⊎ GoesTo from.address to ends.e found.0 far o.new end) ends h shown in
        let up : Up joined v x side o.new far = done far (subst (λ (e : End). Ends v x (other side) e o.new) (not-let-go from.address to ends.e found.0 far o.new m.0 q is_q on_q m.2) m.1) o.joint (q, is_q, on_q) in
        elim passed.1 [
          | inl same ↦ (0, o.new, far, up, (same, refl))
          | inr emits ↦ (1, o.new, far, up, one-put now there own far o.new far (record { goes = emits; new = []; logged = passed.2 ∙ sym (append-nil own.log); arrived = far; come = refl; events = 0; takes = refl }))
        ]
    by (inl (d, sent, g)) =
        let there' : slice_get from.log k ≡ Some d = subst (λ (t : Site). slice_get t.log k ≡ Some d) (sym same_from) sent in
        let same : found.0 ≡ d = same-some found.0 d (sym found.1 ∙ there') in
        let brings' : BringsOne from (Some d) received to (site_of v (other side)) = subst (λ (y : Logged). BringsOne from (Some y) received to (site_of v (other side))) same found.2 in
        let k_to : IsHost to b.count = host-at j b s (other side) in
        let slot = names-slot from to (site_of v (other side)) d received o.new.log ends.e g.is brings' none (g.of ∙ sym ends.of_e) (k_to.apart ends.e ends.here) (owned-at j b s (other side)) (placed j b s (other side))
        (puts-plain now own far o.new p g.is.puts is plain g.goes g.all) in
        let shown = brings k received d from to (site_of v (other side)) brings' there' (host-at j b s (other (other side))).named ends.e far o.new (is-end j b x (other side) far o.new s ends)
        (far-end j b x (other side) far o.new s ends) (live far q is_q on_q) g.is (g.of ∙ sym ends.of_e) slot.0 slot.1 none in
        let full : Bool = is_full (listener_of to.host) in
        let m : Moved v x (other side) o.new (λ end. AllHeeded full there g.is.header.sent g.is.puts far o.new end) =
        moved b v x (other side) far o.new (Delivers k received) (λ end. AllHeeded full there g.is.header.sent g.is.puts far o.new end) ends h shown in
        let came = all-come full there (told_time now (offset_of own)) g.is.header.sent g.is.puts o.new far m.0 g.sent (puts-none-ends now own far o.new p g.is.puts is lone g.goes g.all) m.2 (q, is_q, on_q) in (
          1,
          o.new,
          m.0,
          done m.0 m.1 (all-joint (j x) there (told_time now (offset_of own)) o.new g.is.puts far m.0 came.0 o.joint) came.1,
          one-put now there own far o.new m.0 (record { goes = g.goes; new = g.is.puts; logged = g.all; arrived = m.0; come = came.0; events = 0; takes = refl {a = m.0} }),
        )

delivers : (joined : Bool) (b v : World) (x : ℕ) (side : Side) (now : ℕ) (own far : End) (p : Peering) (k : ℕ) (told : Result Answer Refusal) (o : PutsOut joined b x side now own far k) → IsReached joined b → Steps b (happen.Deliver (other side) k) told v
    → refusals_in told ≡ 0 → stops_in told ≡ 0 → own.peer ≡ Some p → NoOffers p.outbox.control → IsLone is_ping p.outbox.control → (q : Peering) → far.peer ≡ Some q → q.state ≡ state.Connected → Goes joined v x side now (clock_at b (other side)) own far
delivers joined b v x side now own far p k (Err why) o r step refused stopped is plain lone q is_q on_q = absurd (let z : ◌≡◌ {A = ℕ} 1 0 = refused in omega arith)
delivers joined b v x side now own far p k (Ok (answers.Received received)) o r step refused stopped is plain lone q is_q on_q =
    brought joined b v x side now own far p k received o r (subst (λ (e : Happening). HappensAt (other side) e b v) step.1 step.2) (none-stopped received.stop stopped) is plain lone q is_q on_q
delivers joined b v x side now own far p k (Ok answer) o r step refused stopped is plain lone q is_q on_q = absurd step.1

-- the peer of an end that is shown, at its host
pub named-up : (joined : Bool) (w : World) (x : ℕ) (side : Side) (own far : End) (u : Up joined w x side own far) → named (site_of w side).host.slots u.ends.e.name ≡ Some u.p
named-up joined w x side own far u = u.ends.shows.shows.is ∙ ap (λ (s : PeerState). held_if s u.ends.shows.peer) on ∙ sym (u.ends.shows.has) ∙ u.is_p
  where
    on : u.ends.shows.peer.state ≡ state.Connected
    on = ap (λ (p : Peering). p.state) (same-some u.ends.shows.peer u.p (sym u.ends.shows.has ∙ u.is_p)) ∙ u.on_p

-- what that peer has kept
pub habit-up : (joined : Bool) (w : World) (x : ℕ) (side : Side) (own far : End) (k : Habits w) (u : Up joined w x side own far) → (let h : HostHabits k.0 (site_of w side).host = k.1 side in Habit h.now k.0 u.p)
habit-up joined w x side own far k u = (let h : HostHabits k.0 (site_of w side).host = k.1 side in h.peers u.ends.e.name u.p (named-up joined w x side own far u))

-- at most a PING waits there on channel 0xFF
pub lone-up : (joined : Bool) (w : World) (x : ℕ) (side : Side) (own far : End) → Habits w → (u : Up joined w x side own far) → IsLone is_ping u.p.outbox.control
lone-up joined w x side own far k u = (let p = habit-up joined w x side own far k u in modest-pings u.p u.on_p p.modest)

-- so one datagram goes and comes
carries : (joined : Bool) (w v : World) (x : ℕ) (side : Side) (own far : End) (now there refused stopped : ℕ) → clock_at w side ≡ now → clock_at w (other side) ≡ there → IsReached joined w → Habits w → Up joined w x side own far → Carries side refused stopped w v
    → refused ≡ 0 → stopped ≡ 0 → Goes joined v x side now there own far
carries joined w v x side own far now there refused stopped here is_there r habits u c none never =
    subst (λ (n : ℕ). Goes joined v x side n there own far) here (subst (λ (n : ℕ). Goes joined v x side (clock_at w side) n own far) (still (other side) ∙ is_there)
    (delivers joined c.between v x side (clock_at w side) own far u.p c.k c.answer o between c.comes (sym c.refusals ∙ none) (sym c.stops ∙ never) u.is_p
    (connected-plain u.p u.on_p (named-asks joined w r side u.ends.e.name u.p (named-up joined w x side own far u))) (lone-up joined w x side own far habits u) u.q u.is_q u.on_q))
  where
    o : PutsOut joined c.between x side (clock_at w side) own far c.k
    o = puts-out joined w c.between x side own far c.k c.told r c.goes c.is_sent u

    between : IsReached joined c.between
    between = reached-step joined w c.between (happen.Turn side) c.told r c.goes

    still : StandStill w c.between
    still = turn-still w c.between side c.told c.goes

-- ---- what turns, deliveries and takes keep, all that happens after the clocks went on keeps
pub record Keeps (P : World → Type 0) : Type 0 where
  pub turns_keep : (w v : World) (side : Side) (told : Result Answer Refusal) → Steps w (happen.Turn side) told v → P w → P v
  pub delivers_keep : (w v : World) (side : Side) (k : ℕ) (told : Result Answer Refusal) → Steps w (happen.Deliver side k) told v → P w → P v
  pub takes_keep : (side : Side) (w v : World) (told : Result Answer Refusal) → Steps w (happen.Take side) told v → P w → P v

-- what each datagram of a side keeps, all of them keep
pub kept-carried : (P : World → Type 0) (side : Side) → ((refused stopped : ℕ) (w v : World) → Carries side refused stopped w v → P w → P v) → (n refused stopped : ℕ) (w v : World) → CarriesMany side n refused stopped w v → P w → P v
kept-carried P side one zero refused stopped w v c h = subst P (sym c.2) h
kept-carried P side one (suc n) refused stopped w v c h = one c.2 c.3 c.4 v c.6 (kept-carried P side one n c.0 c.1 w c.4 c.5 h)

pub kept-many : (P : World → Type 0) → Keeps P → (side : Side) (n refused stopped : ℕ) (w v : World) → CarriesMany side n refused stopped w v → P w → P v
kept-many P k side n refused stopped w v c h = kept-carried P side one n refused stopped w v c h
  where
    one : (refused stopped : ℕ) (w v : World) → Carries side refused stopped w v → P w → P v
    one refused stopped w v o g = k.delivers_keep o.between v (other side) o.k o.answer o.comes (k.turns_keep w o.between side o.told o.goes g)

pub kept-out : (P : World → Type 0) → Keeps P → (side : Side) (sent refused stopped cut : ℕ) (w v : World) → PutsAllOut side sent refused stopped cut w v → P w → P v
kept-out P k side sent refused stopped cut w v c h = elim c.2 [
  | inl none ↦ k.turns_keep c.0 v side none.0 none.1 (kept-many P k side sent refused stopped w c.0 c.1 h)
  | inr most ↦ subst P (sym most.2) (kept-many P k side sent refused stopped w c.0 c.1 h)
]

-- what each take of a side keeps, all of them keep
pub kept-takes : (P : World → Type 0) (side : Side) → ((w v : World) (told : Result Answer Refusal) → Steps w (happen.Take side) told v → P w → P v) → (n : ℕ) (w v : World) → TakesMany side n w v → P w → P v
kept-takes P side one zero w v t h = subst P (sym t) h
kept-takes P side one (suc n) w v t h = (let o : TakesOne side t.0 v = t.2 in one t.0 v o.told o.takes (kept-takes P side one n w t.0 t.1 h))

pub kept-taken : (P : World → Type 0) (side : Side) → ((w v : World) (told : Result Answer Refusal) → Steps w (happen.Take side) told v → P w → P v) → (taken cut : ℕ) (w v : World) → TakesAll side taken cut w v → P w → P v
kept-taken P side one taken cut w v t h = elim t.2 [
  | inl none ↦ one t.0 v none.0 none.1 (kept-takes P side one taken w t.0 t.1 h)
  | inr most ↦ subst P (sym most.2) (kept-takes P side one taken w t.0 t.1 h)
]

pub still-keeps : (w : World) → Keeps (StandStill w)
still-keeps w = record {
  turns_keep = λ u v side told step h at. turn-still u v side told step at ∙ h at;
  delivers_keep = λ u v side k told step h at. deliver-still u v side k told step at ∙ h at;
  takes_keep = λ side u v told step h at. take-still u v side told step at ∙ h at;
}

pub reached-take : (joined : Bool) (side : Side) (w v : World) (told : Result Answer Refusal) → Steps w (happen.Take side) told v → IsReached joined w → IsReached joined v
reached-take joined side w v told step h = reached-step joined w v (happen.Take side) told h step

-- what each event keeps
abbrev pub StepsKeep : (World → Type 0) → Type 0
StepsKeep P = (w v : World) (e : WorldEvent) (told : Result Answer Refusal) → Steps w e told v → P w → P v

pub keeps-all : (P : World → Type 0) → StepsKeep P → Keeps P
keeps-all P k = record {
  turns_keep = λ w v side told step h. k w v (happen.Turn side) told step h;
  delivers_keep = λ w v side n told step h. k w v (happen.Deliver side n) told step h;
  takes_keep = λ side w v told step h. k w v (happen.Take side) told step h;
}

pub reached-steps : (joined : Bool) → StepsKeep (IsReached joined)
reached-steps joined w v e told step h = reached-step joined w v e told h step

pub reached-keeps : (joined : Bool) → Keeps (IsReached joined)
reached-keeps joined = keeps-all (IsReached joined) (reached-steps joined)

pub habits-keeps : Keeps Habits
habits-keeps = keeps-all Habits habits-step

-- a world that is reached in which an end is past
abbrev pub IsLost : Bool → ℕ → World → Type 0
IsLost joined x w = IsReached joined w × IsDown w x

pub lost-step : (joined : Bool) (x : ℕ) → StepsKeep (IsLost joined x)
lost-step joined x w v e told step h = (reached-step joined w v e told h.0 step, down-step joined w v x e told h.0 step h.1)

-- ---- so many datagrams
pub no-more : (m n k : ℕ) → k ≡ 0 → k ≡ m + n → (m ≡ 0) × (n ≡ 0)
no-more m n k none sum = (omega arith, omega arith)

carries-many : (joined : Bool) (w v : World) (x : ℕ) (side : Side) (own far : End) (now there n refused stopped : ℕ) → clock_at w side ≡ now → clock_at w (other side) ≡ there → IsReached joined w → Habits w → Up joined w x side own far
    → CarriesMany side n refused stopped w v → refused ≡ 0 → stopped ≡ 0 → Goes joined v x side now there own far
carries-many joined w v x side own far now there zero refused stopped here is_there r habits u c none never = (0, own, far, subst (λ (b : World). Up joined b x side own far) (sym c.2) u, (refl, refl))
carries-many joined w v x side own far now there (suc n) refused stopped here is_there r habits u c none never =
    let g = carries-many joined w c.4 x side own far now there n c.0 c.1 here is_there r habits u c.5 parts.0 stops.0 in
    let f = carries joined c.4 v x side g.1 g.2 now there c.2 c.3 (still side ∙ here) (still (other side) ∙ is_there) between (kept-many Habits habits-keeps side n c.0 c.1 w c.4 c.5 habits) g.3 c.6 parts.1 stops.1 in
    let p = puts-more now there g.0 f.0 own far g.1 g.2 f.1 f.2 g.4 f.4 in
    (p.0, f.1, f.2, f.3, p.1)
  where
    parts : (c.0 ≡ 0) × (c.2 ≡ 0)
    parts = no-more c.0 c.2 refused none c.7

    stops : (c.1 ≡ 0) × (c.3 ≡ 0)
    stops = no-more c.1 c.3 stopped never c.8

    still : StandStill w c.4
    still = kept-many (StandStill w) (still-keeps w) side n c.0 c.1 w c.4 c.5 (λ at. refl)

    between : IsReached joined c.4
    between = kept-many (IsReached joined) (reached-keeps joined) side n c.0 c.1 w c.4 c.5 r

-- ---- and then nothing more may go
spent : (now : ℕ) (own far new : End) (p : Peering) → own.peer ≡ Some p → p.state ≡ state.Connected → Happens own far (Emit now) new → new.log ≡ own.log → AllFit (pace_of p now) p.outbox
    → (q : Peering) → new.peer ≡ Some q → NothingMayGo (pace_of q now) q.outbox
spent now own far new p is on h same fit q there =
    subst (λ (y : Peering). NothingMayGo (pace_of y now) y.outbox) (same-some (put_out p now) q (sym g.peer ∙ there)) (nothing-may-go (pace_of p now) p.outbox fit (none-filled now own far new p is h same))
  where
    g : Gone now own far new p []
    g = gone now own far new p [] h is on (same ∙ sym (append-nil own.log))

-- a turn by which nothing goes
abbrev pub Rested : Bool → World → ℕ → Side → ℕ → End → End → Type 0
Rested joined v x side now own far = (new : End) × Up joined v x side new far × Happens own far (Emit now) new × (new.log ≡ own.log)

pub rested : (joined : Bool) (w v : World) (x : ℕ) (side : Side) (own far : End) (buf : List ℕ) → IsReached joined w → HappensAt side (Calls (call.Service None buf)) w v → Up joined w x side own far → Rested joined v x side (clock_at w side) own far
unfolding Moved
rested joined w v x side own far buf r h u = (
  m.0,
  record { ends = m.1; joint = joint-event (from_start joined x) own far m.0 (Emit (clock_at w side)) m.2.0 u.joint; p = put_out u.p (clock_at w side); q = u.q; is_p = emits-on (clock_at w side) own far m.0 u.p u.is_p u.on_p m.2.0; is_q = u.is_q; on_p = u.on_p; on_q = u.on_q },
  m.2.0,
  m.2.1,
)
  where
    R : End → Type 0
    R end = Happens own far (Emit (clock_at w side)) end × (end.log ≡ own.log) × ((site_of v side).log ≡ (site_of w side).log)

    m : Moved v x side far R
    m = moved w v x side own far (Calls (call.Service None buf)) R u.ends h
        (rests (beside w.count (site_of w (other side))) (site_of w (other side)) (site_of w side) (site_of v side) buf h.here u.ends.e own far (is-end (from_start joined) w x side own far (sound joined w r) u.ends) (live own u.p u.is_p u.on_p))

puts-none : (joined : Bool) (w v : World) (x : ℕ) (side : Side) (own far : End) (told : Result Answer Refusal) → IsReached joined w → Steps w (happen.Turn side) told v → datagram_in told ≡ None → refusals_in told ≡ 0 → Up joined w x side own far
    → Rested joined v x side (clock_at w side) own far
puts-none joined w v x side own far (Err why) r step none cut u = absurd (let z : ◌≡◌ {A = ℕ} 1 0 = cut in omega arith)
puts-none joined w v x side own far (Ok (answers.Sent None)) r step none cut u = rested joined w v x side own far step.1.0 r (subst (λ (e : Happening). HappensAt side e w v) step.1.1 step.2) u
puts-none joined w v x side own far (Ok (answers.Sent (Some n))) r step none cut u = absurd (let z : ◌≡◌ {A = Option ℕ} (Some n) None = none in cc)
puts-none joined w v x side own far (Ok answer) r step none cut u = absurd step.1

-- a side puts out all that it may
abbrev pub PutsOutAll : Bool → World → ℕ → Side → (now there : ℕ) → End → End → Type 0
PutsOutAll joined v x side now there own far = (new new_far : End) × Up joined v x side new new_far × PutsAll now there own far new new_far

pub puts-all-out : (joined : Bool) (w v : World) (x : ℕ) (side : Side) (own far : End) (now there sent refused stopped cut : ℕ) → clock_at w side ≡ now → clock_at w (other side) ≡ there → IsReached joined w → Habits w → Up joined w x side own far
    → PutsAllOut side sent refused stopped cut w v → refused ≡ 0 → stopped ≡ 0 → cut ≡ 0 → PutsOutAll joined v x side now there own far
puts-all-out joined w v x side own far now there sent refused stopped cut here is_there r habits u c none never uncut = by c.2
  where
    between : IsReached joined c.0
    between = kept-many (IsReached joined) (reached-keeps joined) side sent refused stopped w c.0 c.1 r

    still : StandStill w c.0
    still = kept-many (StandStill w) (still-keeps w) side sent refused stopped w c.0 c.1 (λ at. refl)

    g : Goes joined c.0 x side now there own far
    g = carries-many joined w c.0 x side own far now there sent refused stopped here is_there r habits u c.1 none never

    by : PutsNone side cut c.0 v ⊎ ((sent ≡ most) × (cut ≡ 1) × (v ≡ c.0)) → PutsOutAll joined v x side now there own far
    by (inl last) =
        let up : Up joined c.0 x side g.1 g.2 = g.3 in
        let f = puts-none joined c.0 v x side g.1 g.2 last.0 between last.1 last.2 (sym last.3 ∙ uncut) up in
        let emits : Happens g.1 g.2 (Emit now) f.0 = subst (λ (n : ℕ). Happens g.1 g.2 (Emit n) f.0) (still side ∙ here) f.2 in
        let fit = all-fits up.p now (named-fits joined c.0 between side up.ends.e.name up.p (named-up joined c.0 x side g.1 g.2 up)) in
        let all = puts-more now there g.0 1 own far g.1 g.2 f.0 g.2 g.4 (one-put now there g.1 g.2 f.0 g.2 (record { goes = emits; new = []; logged = f.3 ∙ sym (append-nil g.1.log); arrived = g.2; come = refl; events = 0; takes = refl })) in
        (f.0, g.2, f.1, record { datagrams = all.0; puts = all.1; spent = spent now g.1 g.2 f.0 up.p up.is_p up.on_p emits f.3 fit })
    by (inr full) = absurd (let z : cut ≡ 1 = full.1 in omega arith)

-- ---- the user of a side takes what there is
abbrev pub Taking : Bool → World → ℕ → Side → End → End → Type 0
Taking joined v x side own far = (n : ℕ) × (new : End) × Up joined v x side new far × Takes n own far new

taken-one : (joined : Bool) (w v : World) (x : ℕ) (side : Side) (own far : End) (event' : Option Told) → IsReached joined w → HappensAt side (Calls (call.NextEvent event')) w v → Up joined w x side own far → Taking joined v x side own far
unfolding Moved
taken-one joined w v x side own far event' r h u = by m.2
  where
    R : End → Type 0
    R end = (end ≡ own) ⊎ Happens own far event.Take end

    m : Moved v x side far R
    m = moved w v x side own far (Calls (call.NextEvent event')) R u.ends h
        (takes-one (beside w.count (site_of w (other side))) (site_of w (other side)) (site_of w side) (site_of v side) event' h.here u.ends.e own far (is-end (from_start joined) w x side own far (sound joined w r) u.ends))

    by : R m.0 → Taking joined v x side own far
    by (inl same) = (0, own, record { ends = subst (λ (e : End). Ends v x side e far) same m.1; joint = u.joint; p = u.p; q = u.q; is_p = u.is_p; is_q = u.is_q; on_p = u.on_p; on_q = u.on_q }, refl)
    by (inr t) =
        let one : Takes 1 own far m.0 = (m.0, t, refl) in
        let came : Came own m.0 u.p = took-all 1 own far m.0 u.p one u.is_p u.on_p in
        (1, m.0, record { ends = m.1; joint = joint-event (from_start joined x) own far m.0 event.Take t u.joint; p = came.peer; q = u.q; is_p = came.is; is_q = u.is_q; on_p = came.connected; on_q = u.on_q }, one)

pub take-goes : (joined : Bool) (w v : World) (x : ℕ) (side : Side) (own far : End) (told : Result Answer Refusal) → IsReached joined w → Steps w (happen.Take side) told v → Up joined w x side own far → Taking joined v x side own far
take-goes joined w v x side own far (Err why) r step u = (0, own, subst (λ (b : World). Up joined b x side own far) (sym step.1) u, refl)
take-goes joined w v x side own far (Ok (answers.Taken event')) r step u = taken-one joined w v x side own far event' r (subst (λ (e : Happening). HappensAt side e w v) step.1 step.2) u
take-goes joined w v x side own far (Ok answer) r step u = absurd step.1

pub takes-many : (joined : Bool) (w v : World) (x : ℕ) (side : Side) (own far : End) (n : ℕ) → IsReached joined w → Up joined w x side own far → TakesMany side n w v → Taking joined v x side own far
takes-many joined w v x side own far zero r u t = (0, own, subst (λ (b : World). Up joined b x side own far) (sym t) u, refl)
takes-many joined w v x side own far (suc n) r u t =
    let one : TakesOne side t.0 v = t.2 in
    let between : IsReached joined t.0 = kept-takes (IsReached joined) side (reached-take joined side) n w t.0 t.1 r in
    let g = takes-many joined w t.0 x side own far n r u t.1 in
    let f = take-goes joined t.0 v x side g.1 far one.told between one.takes g.2 in
    let all = takes-then g.0 f.0 own far g.1 f.1 g.3 f.3 in
    (all.0, f.1, f.2, all.1)

-- it has taken all
abbrev pub IsEmpty : End → Type 0
IsEmpty e = (p : Peering) → e.peer ≡ Some p → p.inbox.untaken ≡ []

no-event : (p : Peering) → is_some (next_event p) ≡ false → p.inbox.untaken ≡ []
no-event p h = by p.greeting h
  where
    packets : (untaken : List Packet) → is_some (packet_event p untaken) ≡ false → untaken ≡ []
    packets [] e = refl
    packets (q ∷ rest) e = absurd (let z : true ≡ false = e in cc)

    by : (greeting : Option ℕ) → is_some (event_after p greeting) ≡ false → p.inbox.untaken ≡ []
    by (Some info) e = absurd (let z : true ≡ false = e in cc)
    by None e = packets p.inbox.untaken e

-- where no event waits, none is taken
takes-no-more : (n : ℕ) (own other new : End) (p : Peering) → own.peer ≡ Some p → is_some (next_event p) ≡ false → Takes n own other new → new ≡ own
takes-no-more zero own other new p is none t = t
takes-no-more (suc n) own other new p is none t =
    absurd (let same : t.1.0 ≡ p = same-some t.1.0 p (sym t.1.3 ∙ is) in let z : is_some (next_event p) ≡ true = ap (λ (y : Peering). is_some (next_event y)) (sym same) ∙ ap is_some t.1.4 in let y : true ≡ false = sym z ∙ none in cc)

-- a host that has no event to give
nothing-told : (joined : Bool) (w v : World) (x : ℕ) (side : Side) (own far : End) (told : Result Answer Refusal) → Steps w (happen.Take side) told v → event_in told ≡ None → refusals_in told ≡ 0 → (u : Up joined w x side own far) → is_some (next_event u.p) ≡ false
nothing-told joined w v x side own far (Err why) step none cut u = absurd (let z : ◌≡◌ {A = ℕ} 1 0 = cut in omega arith)
nothing-told joined w v x side own far (Ok (answers.Taken None)) step none cut u =
    let h : HappensAt side (Calls (call.NextEvent None)) w v = subst (λ (e : Happening). HappensAt side e w v) step.1 step.2 in
    let acts = acts-of (beside w.count (site_of w (other side))) (site_of w (other side)) (site_of w side) (site_of v side) (call.NextEvent None) h.here in
    let there : IsThere (site_of w side).host.slots u.ends.e.name u.p = named-there (site_of w side).host.slots u.ends.e.name u.p (named-up joined w x side own far u) in
    ap peer_tells (sym there.peer) ∙ acts.0 u.ends.e.name.slot there.slot there.there
nothing-told joined w v x side own far (Ok (answers.Taken (Some event'))) step none cut u = absurd (let z : ◌≡◌ {A = Option Told} (Some event') None = none in cc)
nothing-told joined w v x side own far (Ok answer) step none cut u = absurd step.1

abbrev pub TakesOut : Bool → World → ℕ → Side → End → End → Type 0
TakesOut joined v x side own far = (m : ℕ) × (new : End) × Up joined v x side new far × Takes m own far new × IsEmpty new

pub takes-all : (joined : Bool) (w v : World) (x : ℕ) (side : Side) (own far : End) (taken cut : ℕ) → IsReached joined w → Up joined w x side own far → TakesAll side taken cut w v → cut ≡ 0 → TakesOut joined v x side own far
takes-all joined w v x side own far taken cut r u t uncut = by t.2
  where
    between : IsReached joined t.0
    between = kept-takes (IsReached joined) side (reached-take joined side) taken w t.0 t.1 r

    g : Taking joined t.0 x side own far
    g = takes-many joined w t.0 x side own far taken r u t.1

    by : TakesNone side cut t.0 v ⊎ ((taken ≡ most) × (cut ≡ 1) × (v ≡ t.0)) → TakesOut joined v x side own far
    by (inl none) =
        let up : Up joined t.0 x side g.1 far = g.2 in
        let nothing : is_some (next_event up.p) ≡ false = nothing-told joined t.0 v x side g.1 far none.0 none.1 none.2 (sym none.3 ∙ uncut) up in
        let f = take-goes joined t.0 v x side g.1 far none.0 between none.1 up in
        let same : f.1 ≡ g.1 = takes-no-more f.0 g.1 far f.1 up.p up.is_p nothing f.3 in
        let empty : IsEmpty f.1 = (λ p is. ap (λ (y : Peering). y.inbox.untaken) (same-some p up.p (sym is ∙ ap (λ (e : End). e.peer) same ∙ up.is_p)) ∙ no-event up.p nothing) in
        let all = takes-then g.0 f.0 own far g.1 f.1 g.3 f.3 in
        (all.0, f.1, f.2, all.1, empty)
    by (inr full) = absurd (let z : cut ≡ 1 = full.1 in omega arith)
