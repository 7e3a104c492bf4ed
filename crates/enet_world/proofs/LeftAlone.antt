-- A side whose peer of a connection is connected, while the other side has none of it any more, or one that has ended: nothing comes to
-- that peer in rounds without losses, whatever the other side puts out.
use Rattle.std.proofs.Common.{◌≡◌, ◌≢◌, ◌<◌, ◌≤◌, ◌⊎◌, ℕ, Bool, true, false, List, [], length, refl, sym, ap, subst, ◌∙◌, inl, inr, arith, Option, Some, None, Result, Ok, Err}
use Rattle.std.proofs.lemmas.Option.{slice_get_within}
use Rattle.std.specs.List.{slice_get}
use Rattle.enet_codec.specs.declared.address.Addr.{Addr}
use Rattle.enet_codec.specs.declared.event.PeerRef.{PeerRef}
use Rattle.enet_codec.specs.declared.refusal.Refusal.{Refusal}
use Rattle.enet_codec.specs.Message.{Message}
use Rattle.enet_outbox.specs.Emission.{filled}
use Rattle.enet_peer.specs.declared.parts.PeerEvent.{PeerEvent}
use Rattle.enet_peer.specs.declared.parts.PeerState.{PeerState}
use Rattle.enet_peer.specs.declared.parts.PeerState.TheVariants as state
use Rattle.enet_peer.specs.Peering.{Peering}
use Rattle.enet_peer.specs.Calls.{is_answering, moved, pace_of, ticked, next_event, with_throttle_limit}
use Rattle.enet_host.specs.Host.{named}
use Rattle.enet_host.specs.Serving.{served_of}
use Rattle.enet_host.specs.Ticking.{clock_after}
use Rattle.enet_slot.specs.Slot.{greatest}
use Rattle.law_connection.specs.Connection.{End}
use Rattle.law_connection.specs.LinkSteps.{Has}
use Rattle.law_connection.specs.Steps.{Emit, Happens}
use Rattle.law_connection.specs.Steps as event
use Rattle.law_connection.proofs.Events.{took}
use Rattle.law_network.specs.Calls as call
use Rattle.law_network.specs.declared.event.Answer.{Answer}
use Rattle.law_network.specs.declared.event.Answer.TheVariants as answers
use Rattle.law_network.specs.declared.event.Side.{Side}
use Rattle.law_network.specs.declared.event.Side.TheVariants.{A, B}
use Rattle.law_network.specs.declared.event.WorldEvent.{WorldEvent}
use Rattle.law_network.specs.declared.event.WorldEvent.TheVariants as happen
use Rattle.law_network.specs.Law.{GoesOn, IsBetween}
use Rattle.law_network.specs.Log.{Logged}
use Rattle.law_network.specs.IsolationLaw.{held_if}
use Rattle.law_network.specs.Network.{HostEnd, Site, end_of, is_same_name, numbers_of}
use Rattle.law_network.specs.Shown.{Shows}
use Rattle.law_network.specs.Steps.{Happening, Calls, Delivers, BringsOne, Logs, beside, Happens as HappensBeside}
use Rattle.law_network.specs.Telling.{IsShownAs, HasNothingNew, IsPassedBy, Gave, GoesTo, Ticks}
use Rattle.law_network.specs.World.{World, HappensAt, Steps, side_of, site_of, other}
use Rattle.law_network.proofs.Names.{IsThere, IsSpent, spent-step, spent-nobody, there-named}
use Rattle.law_network.proofs.OneThing.{one-thing}
use Rattle.law_network.proofs.Runs.{Sound}
use Rattle.law_network.proofs.Serving.{IsServed, turned-by, given-others}
use Rattle.law_network.proofs.Submitting.{same-some}
use Rattle.law_network.proofs.Telling.{turns, rests, passes-over, times, takes-one}
use Rattle.law_network.proofs.Worlds.{IsHost, acts-of}
use Rattle.law_progress.proofs.Exchanges.{put_out}
use Rattle.law_progress.proofs.Moving.{moved-elsewhere}
use Rattle.enet_world.specs.Calm.{most as at_most, datagram_in, refusals_in, Carries, PutsNone, PutsAllOut, TakesAll}
use Rattle.enet_world.specs.Private.Worlds.{IsReached}
use Rattle.enet_world.proofs.EndedIsSilent.{ended-puts-none}
use Rattle.enet_world.proofs.EndsAreTold as telling
use Rattle.enet_world.proofs.EndsAreTold.{has_ended, ended-rises}
use Rattle.enet_world.proofs.InRounds.{clock_at, found-in, turn-still, deliver-still, take-still, kept-carried, kept-taken, StepsKeep}
use Rattle.enet_world.proofs.Lasting.{IsIn, Holds, lasts-run, is_past, is_begun, past-lasts, begun-lasts, connected-or-past}
use Rattle.enet_world.proofs.Living.{named-fits}
use Rattle.enet_world.proofs.Reaching.{reached-step}
use Rattle.enet_world.proofs.Through.{shown-end-of}
use Rattle.enet_world.proofs.TwoEnds.{from_start, sound, host-at, twice, Ends, swapped, back, is-end, far-end, faces, Moved, goes, live}
use Rattle.enet_world.proofs.Unanswered.{Goes}
use Rattle.enet_world.proofs.UntouchedEnd.{IsEither}
use Rattle.enet_world.proofs.Staying.{emits-on, none-filled, not-let-go}

-- ---- what is known of the two sides
-- the peer of an end is gone for good, or it has ended, and is told of so and gone
abbrev pub IsSilentAt : Site → ℕ → PeerRef → Type 0
IsSilentAt s x name = IsSpent s.host name ⊎ ((was : HostEnd) × IsEither has_ended was s x)

-- the peer of connection x at a side is connected, and this holds of it; the other side has none any more, or one that has ended
pub record Lone (P : Peering → Type 0) (w : World) (x : ℕ) (side : Side) : Type 0 where
  pub own : End
  pub far : End
  pub ends : Ends w x side own far
  pub p : Peering
  pub is : own.peer ≡ Some p
  pub on : p.state ≡ state.Connected
  pub holds : P p
  pub gone : IsSilentAt (site_of w (other side)) x ends.f.name

-- or it is past its connection
pub record Past (w : World) (x : ℕ) (side : Side) : Type 0 where
  pub own : End
  pub far : End
  pub ends : Ends w x side own far
  pub past : Holds (IsIn is_past) own

pub lone-so : (P Q : Peering → Type 0) (w : World) (x : ℕ) (side : Side) (k : Lone P w x side) → Q k.p → Lone Q w x side
lone-so P Q w x side k h = record { own = k.own; far = k.far; ends = k.ends; p = k.p; is = k.is; on = k.on; holds = h; gone = k.gone }

-- its host has it under its name
pub named-lone : (P : Peering → Type 0) (w : World) (x : ℕ) (side : Side) (k : Lone P w x side) → named (site_of w side).host.slots k.ends.e.name ≡ Some k.p
named-lone P w x side k = k.ends.shows.shows.is ∙ ap (λ (s : PeerState). held_if s k.ends.shows.peer) on ∙ sym (k.ends.shows.has) ∙ k.is
  where
    on : k.ends.shows.peer.state ≡ state.Connected
    on = ap (λ (p : Peering). p.state) (same-some k.ends.shows.peer k.p (sym k.ends.shows.has ∙ k.is)) ∙ k.on

-- ---- past stays past
past-happens : (j : ℕ → Bool) (w v : World) (x : ℕ) (side at : Side) (what : Happening) → Sound j w → HappensAt at what w v → Past w x side → Past v x side
unfolding Moved
past-happens j w v x A A what s h d =
    let g = goes j w v x A d.own d.far what s d.ends h in
    record { own = g.0; far = d.far; ends = g.1; past = lasts-run (IsIn is_past) past-lasts g.2.0 d.own d.far g.0 g.2.1 d.past }
past-happens j w v x B B what s h d =
    let g = goes j w v x B d.own d.far what s d.ends h in
    record { own = g.0; far = d.far; ends = g.1; past = lasts-run (IsIn is_past) past-lasts g.2.0 d.own d.far g.0 g.2.1 d.past }
past-happens j w v x A B what s h d =
    let g = goes j w v x B d.far d.own what s (swapped w x A d.own d.far d.ends) h in
    record { own = d.own; far = g.0; ends = back v x A d.own g.0 g.1; past = d.past }
past-happens j w v x B A what s h d =
    let g = goes j w v x A d.far d.own what s (swapped w x B d.own d.far d.ends) h in
    record { own = d.own; far = g.0; ends = back v x B d.own g.0 g.1; past = d.past }

abbrev pub IsPastIn : Bool → ℕ → Side → World → Type 0
IsPastIn joined x side w = IsReached joined w × Past w x side

past-at : (joined : Bool) (w v : World) (x : ℕ) (side : Side) (e : WorldEvent) (told : Result Answer Refusal) → Steps w e told v → IsReached joined w → Past w x side → Past v x side
past-at joined w v x side e (Ok answer) step r d = past-happens (from_start joined) w v x side (side_of e) step.0 (sound joined w r) step.2 d
past-at joined w v x side e (Err why) step r d = subst (λ (u : World). Past u x side) (sym step.1) d

pub past-step : (joined : Bool) (x : ℕ) (side : Side) → StepsKeep (IsPastIn joined x side)
past-step joined x side w v e told step h = (reached-step joined w v e told h.0 step, past-at joined w v x side e told step h.0 h.1)

-- ---- something happens at its own side
shown-so : (R S : End → Type 0) (new : Site) (e : HostEnd) → ((end : End) → R end → S end) → IsShownAs new e R → IsShownAs new e S
shown-so R S new e f s = record { after = s.after; there = s.there; connection = s.connection; name = s.name; end = s.end; shows = s.shows; holds = f s.end s.holds }

-- it is connected still, and this holds
abbrev IsOnWith : (Peering → Type 0) → Peering → Type 0
IsOnWith Q q = (q.state ≡ state.Connected) × Q q

ends-here : (P : Peering → Type 0) (w v : World) (x : ℕ) (side : Side) (what : Happening) (R : End → Type 0) (k : Lone P w x side) → HappensAt side what w v → (s : IsShownAs (site_of v side) k.ends.e R) → Ends v x side s.end k.far
ends-here P w v x side what R k h s = record {
  e = s.after;
  f = k.ends.f;
  here = s.there;
  there = subst (λ (t : Site). Has t.ends k.ends.f) (sym h.there) k.ends.there;
  of_e = s.connection ∙ k.ends.of_e;
  of_f = k.ends.of_f;
  shows = s.shows;
  shows_far = subst (λ (t : Site). Shows t k.ends.f k.far) (sym h.there) k.ends.shows_far;
}

near : (P Q : Peering → Type 0) (w v : World) (x : ℕ) (side : Side) (what : Happening) (k : Lone P w x side) → HappensAt side what w v → IsShownAs (site_of v side) k.ends.e (Holds (IsOnWith Q)) → Lone Q v x side
unfolding ends-here
near P Q w v x side what k h s = record {
  own = s.end;
  far = k.far;
  ends = ends-here P w v x side what (Holds (IsOnWith Q)) k h s;
  p = s.holds.0;
  is = s.holds.1;
  on = s.holds.2.0;
  holds = s.holds.2.1;
  gone = subst (λ (t : Site). IsSilentAt t x k.ends.f.name) (sym h.there) k.gone;
}

same-on : (Q : Peering → Type 0) (own new : End) (p : Peering) → own.peer ≡ Some p → p.state ≡ state.Connected → Q p → new ≡ own → Holds (IsOnWith Q) new
same-on Q own new p is on h same = (p, ap (λ (e : End). e.peer) same ∙ is, (on, h))

-- a turn, by which it may be asked
turn-near : (joined : Bool) (Q : Peering → Type 0) (w v : World) (x : ℕ) (side : Side) (n : ℕ) (told : Result Answer Refusal) → ((p : Peering) → Q p → Q (put_out p (clock_at w side))) → IsReached joined w → Steps w (happen.Turn side) told v → datagram_in told ≡ Some n → Lone Q w x side → Lone Q v x side
turn-near joined Q w v x side n (Err why) emits r step is k = absurd (let z : ◌≡◌ {A = Option ℕ} None (Some n) = is in cc)
turn-near joined Q w v x side n (Ok (answers.Sent None)) emits r step is k = absurd (let z : ◌≡◌ {A = Option ℕ} None (Some n) = is in cc)
turn-near joined Q w v x side n (Ok (answers.Sent (Some m))) emits r step is k = near Q Q w v x side (Calls (call.Service (Some step.1.0) step.1.1)) k h (shown-so Went (Holds (IsOnWith Q)) (site_of v side) k.ends.e on shown)
  where
    h : HappensAt side (Calls (call.Service (Some step.1.0) step.1.1)) w v
    h = subst (λ (e : Happening). HappensAt side e w v) step.1.2 step.2

    s : Sound (from_start joined) w
    s = sound joined w r

    now : ℕ
    now = clock_at w side

    Went : End → Type 0
    Went end = Gave now (site_of w side) (site_of v side) k.ends.e.connection k.own k.far end ⊎ (IsPassedBy now k.own k.far end × HasNothingNew (site_of w side) (site_of v side) k.ends.e.connection)

    shown : IsShownAs (site_of v side) k.ends.e Went
    shown = turns (beside w.count (site_of w (other side))) (site_of w (other side)) (site_of w side) (site_of v side) step.1.0 step.1.1 h.here refl k.ends.e k.own k.far (is-end (from_start joined) w x side k.own k.far s k.ends) (faces (from_start joined) w x side k.own k.far s k.ends)

    put : (end : End) → Happens k.own k.far (Emit now) end → Holds (IsOnWith Q) end
    put end e = (put_out k.p now, emits-on now k.own k.far end k.p k.is k.on e, (k.on, emits k.p k.holds))

    on : (end : End) → Went end → Holds (IsOnWith Q) end
    on end (inl g) = put end g.emits
    on end (inr p) = elim p.0.0 [ inl same ↦ same-on Q k.own end k.p k.is k.on k.holds same | inr e ↦ put end e ]
turn-near joined Q w v x side n (Ok answer) emits r step is k = absurd step.1

-- it is asked in vain
rest-near : (joined : Bool) (P Q R : Peering → Type 0) (w v : World) (x : ℕ) (side : Side) (told : Result Answer Refusal) → Goes (clock_at w side) P Q R → IsReached joined w → Steps w (happen.Turn side) told v → datagram_in told ≡ None → refusals_in told ≡ 0 → Lone Q w x side → Lone R v x side
rest-near joined P Q R w v x side (Err why) g r step none uncut k = absurd (let z : ◌≡◌ {A = ℕ} 1 0 = uncut in omega arith)
rest-near joined P Q R w v x side (Ok (answers.Sent None)) g r step none uncut k = near Q R w v x side (Calls (call.Service None step.1.0)) k h (shown-so Went (Holds (IsOnWith R)) (site_of v side) k.ends.e on shown)
  where
    h : HappensAt side (Calls (call.Service None step.1.0)) w v
    h = subst (λ (e : Happening). HappensAt side e w v) step.1.1 step.2

    now : ℕ
    now = clock_at w side

    Went : End → Type 0
    Went end = Happens k.own k.far (Emit now) end × (end.log ≡ k.own.log) × ((site_of v side).log ≡ (site_of w side).log)

    shown : IsShownAs (site_of v side) k.ends.e Went
    shown = rests (beside w.count (site_of w (other side))) (site_of w (other side)) (site_of w side) (site_of v side) step.1.0 h.here k.ends.e k.own k.far (is-end (from_start joined) w x side k.own k.far (sound joined w r) k.ends) (live k.own k.p k.is k.on)

    on : (end : End) → Went end → Holds (IsOnWith R) end
    on end e = (
      put_out k.p now,
      emits-on now k.own k.far end k.p k.is k.on e.0,
      (k.on, g.last k.p (named-fits joined w r side k.ends.e.name k.p (named-lone Q w x side k)) (none-filled now k.own k.far end k.p k.is e.0 e.1) k.holds),
    )
rest-near joined P Q R w v x side (Ok (answers.Sent (Some n))) g r step none uncut k = absurd (let z : ◌≡◌ {A = Option ℕ} (Some n) None = none in cc)
rest-near joined P Q R w v x side (Ok answer) g r step none uncut k = absurd step.1

-- a datagram of another connection comes
deliver-near : (joined : Bool) (P : Peering → Type 0) (w v : World) (x : ℕ) (side : Side) (n : ℕ) (told : Result Answer Refusal) → IsReached joined w → Steps w (happen.Deliver side n) told v → ((d : Logged) → slice_get (site_of w (other side)).log n ≡ Some d → d.connection ≢ x)
    → Lone P w x side → Lone P v x side
deliver-near joined P w v x side n (Err why) r step apart k = subst (λ (u : World). Lone P u x side) (sym step.1) k
deliver-near joined P w v x side n (Ok (answers.Received received)) r step apart k =
    near P P w v x side (Delivers n received) k h (shown-so Went (Holds (IsOnWith P)) (site_of v side) k.ends.e (λ end went. same-on P k.own end k.p k.is k.on k.holds (not-let-go (site_of w (other side)).address (site_of w side) k.ends.e found.0 k.own k.far end k.p k.is k.on went)) shown)
  where
    h : HappensAt side (Delivers n received) w v
    h = subst (λ (e : Happening). HappensAt side e w v) step.1 step.2

    s : Sound (from_start joined) w
    s = sound joined w r

    from : Site
    from = site_of w (other side)

    found : (d : Logged) × (slice_get from.log n ≡ Some d) × BringsOne from (Some d) received (site_of w side) (site_of v side)
    found = found-in from (site_of w side) (site_of v side) received (slice_get from.log n) h.here

    Went : End → Type 0
    Went end = (end ≡ k.own) ⊎ GoesTo from.address (site_of w side) k.ends.e found.0 k.own k.far end

    shown : IsShownAs (site_of v side) k.ends.e Went
    shown = passes-over n received found.0 from (site_of w side) (site_of v side) found.2 found.1 (host-at (from_start joined) w s (other side)).named k.ends.e k.own k.far (is-end (from_start joined) w x side k.own k.far s k.ends)
        (far-end (from_start joined) w x side k.own k.far s k.ends) (λ e. apart found.0 found.1 (e ∙ k.ends.of_e))
deliver-near joined P w v x side n (Ok answer) r step apart k = absurd step.1

-- its user takes an event
take-near : (joined : Bool) (n : ℕ) (P Q R : Peering → Type 0) (w v : World) (x : ℕ) (side : Side) (told : Result Answer Refusal) → Goes n P Q R → IsReached joined w → Steps w (happen.Take side) told v → Lone R w x side → Lone R v x side
take-near joined n P Q R w v x side (Err why) g r step k = subst (λ (u : World). Lone R u x side) (sym step.1) k
take-near joined n P Q R w v x side (Ok (answers.Taken event')) g r step k = near R R w v x side (Calls (call.NextEvent event')) k h (shown-so Went (Holds (IsOnWith R)) (site_of v side) k.ends.e on shown)
  where
    h : HappensAt side (Calls (call.NextEvent event')) w v
    h = subst (λ (e : Happening). HappensAt side e w v) step.1 step.2

    Went : End → Type 0
    Went end = (end ≡ k.own) ⊎ Happens k.own k.far event.Take end

    shown : IsShownAs (site_of v side) k.ends.e Went
    shown = takes-one (beside w.count (site_of w (other side))) (site_of w (other side)) (site_of w side) (site_of v side) event' h.here k.ends.e k.own k.far (is-end (from_start joined) w x side k.own k.far (sound joined w r) k.ends)

    taken : (q : Peering) (e : PeerEvent) → next_event k.p ≡ Some (record { event = e; after = q }) → IsOnWith R q
    taken q e next = took (λ y t. IsOnWith R y) k.p q e next
        (λ info u. (k.on, g.greets k.p k.holds))
        (λ y rest u t. (k.on, g.receives k.p (record k.p.inbox { untaken = rest }) k.holds))
        (λ u t at. absurd (let z : state.Connected ≡ state.Ended = sym k.on ∙ at in cc))

    on : (end : End) → Went end → Holds (IsOnWith R) end
    on end (inl same) = same-on R k.own end k.p k.is k.on k.holds same
    on end (inr t) =
        let was : t.0 ≡ k.p = same-some t.0 k.p (sym t.3 ∙ k.is) in
        (t.1, ap (λ (e : End). e.peer) t.5, taken t.1 t.2 (ap (λ (y : Peering). next_event y) (sym was) ∙ t.4))
take-near joined n P Q R w v x side (Ok answer) g r step k = absurd step.1

-- time goes on there: it goes on, or is past
pub tick-near : (joined : Bool) (P Q R : Peering → Type 0) (w v : World) (x ms : ℕ) (side : Side) (told : Result Answer Refusal) → Goes (clock_after (clock_at w side) ms) P Q R → IsReached joined w → Steps w (happen.Tick side ms) told v → Lone P w x side → Lone Q v x side ⊎ Past v x side
tick-near joined P Q R w v x ms side (Err why) g r step k = absurd step.0
tick-near joined P Q R w v x ms side (Ok answers.Done) g r step k = by (connected-or-past (ticked k.p now).state (begun-lasts.ticks false k.p now (ap is_begun k.on)))
  where
    h : HappensAt side (Calls (call.Tick ms)) w v
    h = subst (λ (e : Happening). HappensAt side e w v) step.1 step.2

    now : ℕ
    now = clock_after (clock_at w side) ms

    shown : IsShownAs (site_of v side) k.ends.e (Ticks now k.own k.far)
    shown = times (beside w.count (site_of w (other side))) (site_of w (other side)) (site_of w side) (site_of v side) ms h.here k.ends.e k.own k.far (is-end (from_start joined) w x side k.own k.far (sound joined w r) k.ends) (live k.own k.p k.is k.on)

    first : (end : End) → Happens k.own k.far (event.Tick now) end → end.peer ≡ Some (ticked k.p now)
    first end t = ap (λ (e : End). e.peer) t.3 ∙ ap (λ (y : Peering). Some (moved t.2 y now)) (same-some t.0 k.p (sym t.1 ∙ k.is)) ∙ ap (λ (y : Peering). Some y) (moved-elsewhere t.2 k.p now (ap is_answering k.on))

    -- whatever holds of it then
    after : (Z : Peering → Type 0) → Z (ticked k.p now) → ((limit : ℕ) → Z (with_throttle_limit (ticked k.p now) limit)) → (end : End) → Ticks now k.own k.far end → Holds Z end
    after Z one more end (inl t) = (ticked k.p now, first end t, one)
    after Z one more end (inr t) =
        let was : t.3.0 ≡ ticked k.p now = same-some t.3.0 (ticked k.p now) (sym t.3.1 ∙ first t.1 t.2) in
        (with_throttle_limit (ticked k.p now) t.0, ap (λ (e : End). e.peer) t.3.3 ∙ ap (λ (y : Peering). Some (with_throttle_limit y t.0)) was, more t.0)

    by : ((ticked k.p now).state ≡ state.Connected) ⊎ (is_past (ticked k.p now).state ≡ true) → Lone Q v x side ⊎ Past v x side
    by (inl on) =
        let q : Q (ticked k.p now) = g.ticks k.p k.on k.holds on in
        inl (near P Q w v x side (Calls (call.Tick ms)) k h (shown-so (Ticks now k.own k.far) (Holds (IsOnWith Q)) (site_of v side) k.ends.e (after (IsOnWith Q) (on, q) (λ limit. (on, g.limits (ticked k.p now) limit q))) shown))
    by (inr past) = inr (record { own = shown.end; far = k.far; ends = ends-here P w v x side (Calls (call.Tick ms)) (Ticks now k.own k.far) k h shown; past = after (IsIn is_past) past (λ limit. past) shown.end shown.holds })
tick-near joined P Q R w v x ms side (Ok answer) g r step k = absurd step.1

-- ---- something happens at the other side: its peer stays gone
spent-thing : (from old new : Site) (name : PeerRef) (what : Happening) (next : ℕ) → old.host.config.generations ≤ greatest → HappensBeside next from what old new → IsSpent old.host name → IsSpent new.host name
spent-thing from old new name (Calls c) next few h k = spent-step c old.host new.host name few (acts-of (beside next from) from old new c h) k
spent-thing from old new name (Delivers n answer) next few h k = brought (slice_get from.log n) h
  where
    brought : (o : Option Logged) → BringsOne from o answer old new → IsSpent new.host name
    brought None x = absurd x
    brought (Some d) x = spent-step (call.Receive from.address d.text answer) old.host new.host name few x.1.0 k

-- what is known of its end, if it has ended, is known still
abbrev StaysEnded : World → World → ℕ → Side → Type 0
StaysEnded w v x side = (was : HostEnd) → IsEither has_ended was (site_of w side) x → IsEither has_ended was (site_of v side) x

far-happens : (joined : Bool) (P : Peering → Type 0) (w v : World) (x : ℕ) (side : Side) (what : Happening) → IsReached joined w → HappensAt (other side) what w v → StaysEnded w v x (other side) → Lone P w x side → Lone P v x side
far-happens joined P w v x side what r h stays k = record {
  own = k.own;
  far = g.went.new;
  ends = record {
    e = k.ends.e;
    f = g.after;
    here = subst (λ (t : Site). Has t.ends k.ends.e) (sym same) k.ends.here;
    there = g.there;
    of_e = k.ends.of_e;
    of_f = g.connection ∙ k.ends.of_f;
    shows = subst (λ (t : Site). Shows t k.ends.e k.own) (sym same) k.ends.shows;
    shows_far = g.went.shows;
  };
  p = k.p;
  is = k.is;
  on = k.on;
  holds = k.holds;
  gone = elim k.gone [
    | inl spent ↦ inl (subst (IsSpent (site_of v (other side)).host) (sym g.name) (spent-thing from (site_of w (other side)) (site_of v (other side)) k.ends.f.name what w.count here.few h.here spent))
    | inr ended ↦ inr (ended.0, stays ended.0 ended.1)
  ];
}
  where
    j : ℕ → Bool
    j = from_start joined

    s : Sound j w
    s = sound joined w r

    from : Site
    from = site_of w (other (other side))

    same : site_of v side ≡ site_of w side
    same = ap (site_of v) (sym (twice side)) ∙ h.there ∙ ap (site_of w) (twice side)

    here : IsHost (site_of w (other side)) w.count
    here = host-at j w s (other side)

    there : IsHost from w.count
    there = host-at j w s (other (other side))

    turned : Ends w x (other side) k.far k.own
    turned = record {
      e = k.ends.f;
      f = k.ends.e;
      here = k.ends.there;
      there = subst (λ (t : Side). Has (site_of w t).ends k.ends.e) (sym (twice side)) k.ends.here;
      of_e = k.ends.of_f;
      of_f = k.ends.of_e;
      shows = k.ends.shows_far;
      shows_far = subst (λ (t : Side). Shows (site_of w t) k.ends.e k.own) (sym (twice side)) k.ends.shows;
    }

    between : (happening : Happening) → IsBetween from happening (site_of w (other side)) k.ends.f k.own
    between (Delivers n answer) = inl (far-end j w x (other side) k.far k.own s turned)
    between (Calls c) = tt

    g : GoesOn k.far k.own (site_of v (other side)) k.ends.f
    g = one-thing (site_of w (other side)) here.few (beside w.count from) from (site_of v (other side)) what h.here there.named k.ends.f k.ends.there (here.apart k.ends.f k.ends.there) k.far k.own k.ends.shows_far
        (faces j w x (other side) k.far k.own s turned) (between what)

far-step : (joined : Bool) (P : Peering → Type 0) (w v : World) (x : ℕ) (side : Side) (e : WorldEvent) (told : Result Answer Refusal) → side_of e ≡ other side → IsReached joined w → Steps w e told v → StaysEnded w v x (other side) → Lone P w x side → Lone P v x side
far-step joined P w v x side e (Err why) is r step stays k = subst (λ (u : World). Lone P u x side) (sym step.1) k
far-step joined P w v x side e (Ok answer) is r step stays k = far-happens joined P w v x side step.0 r (subst (λ (s : Side). HappensAt s step.0 w v) is step.2) stays k

-- and puts out nothing of the connection
not-its : (joined : Bool) (P : Peering → Type 0) (w v : World) (x : ℕ) (side : Side) (n : ℕ) (told : Result Answer Refusal) → IsReached joined w → Steps w (happen.Turn (other side)) told v → datagram_in told ≡ Some n → Lone P w x side
    → (d : Logged) → slice_get (site_of v (other side)).log n ≡ Some d → d.connection ≢ x
not-its joined P w v x side n (Err why) r step is k d there of = absurd (let z : ◌≡◌ {A = Option ℕ} None (Some n) = is in cc)
not-its joined P w v x side n (Ok (answers.Sent None)) r step is k d there of = absurd (let z : ◌≡◌ {A = Option ℕ} None (Some n) = is in cc)
not-its joined P w v x side n (Ok (answers.Sent (Some m))) r step is k d there of =
    let low : n < length old.log = slice_get_within old.log n d (given-others (numbers_of from) gave buf old new k.ends.f l (here.apart k.ends.f k.ends.there) never n d there (of ∙ sym k.ends.of_f)) in
    let number : n ≡ length old.log = sym (same-some m n is) ∙ step.1.3 in
    absurd (omega arith)
  where
    gave : PeerRef × Addr × ℕ
    gave = step.1.0

    buf : List ℕ
    buf = step.1.1

    h : HappensAt (other side) (Calls (call.Service (Some gave) buf)) w v
    h = subst (λ (e : Happening). HappensAt (other side) e w v) step.1.2 step.2

    old : Site
    old = site_of w (other side)

    new : Site
    new = site_of v (other side)

    from : Site
    from = site_of w (other (other side))

    here : IsHost old w.count
    here = host-at (from_start joined) w (sound joined w r) (other side)

    l : Logs (numbers_of from) (served_of gave buf) old new
    l = h.here.1

    nobody : IsSpent old.host k.ends.f.name → (q : Peering) → IsThere old.host.slots k.ends.f.name q → ⊥
    nobody spent q y = (let z : ◌≡◌ {A = Option Peering} None (Some q) = sym (spent-nobody old.host k.ends.f.name spent) ∙ there-named old.host.slots k.ends.f.name q y in cc)

    -- its end is the one that has ended
    same : (e : HostEnd) → end_of x old.ends ≡ Some e → e ≡ k.ends.f
    same e is' = same-some e k.ends.f (sym is' ∙ shown-end-of old w.count x k.ends.f here k.ends.there k.ends.of_f)

    gives : IsServed gave buf old new k.ends.f k.ends.shows_far.peer → IsSilentAt old x k.ends.f.name → ⊥
    gives served (inl spent) = nobody spent k.ends.shows_far.peer served.there
    gives served (inr (was, inr over)) = nobody (subst (λ (e : HostEnd). IsSpent old.host e.name) (same over.e over.there) over.spent) k.ends.shows_far.peer served.there
    gives served (inr (was, inl ended)) =
        let g = served.gives in
        let t : IsThere old.host.slots k.ends.f.name k.ends.shows_far.peer = served.there in
        let named' : named old.host.slots k.ends.f.name ≡ Some k.ends.shows_far.peer = there-named old.host.slots k.ends.f.name k.ends.shows_far.peer t in
        let one : g.peer ≡ k.ends.shows_far.peer = same-some g.peer k.ends.shows_far.peer (sym g.held ∙ t.peer) in
        let two : ended.p ≡ k.ends.shows_far.peer = same-some ended.p k.ends.shows_far.peer (sym ended.is ∙ ap (λ (e : HostEnd). named old.host.slots e.name) (same ended.e ended.there) ∙ named') in
        let over : k.ends.shows_far.peer.state ≡ state.Ended = is-ended k.ends.shows_far.peer.state (ap (λ (q : Peering). has_ended q.state) (sym two) ∙ ended.up) in
        let none : (filled (pace_of g.peer old.host.clock) g.peer.outbox).messages ≡ [] =
        subst (λ (q : Peering). (filled (pace_of q old.host.clock) q.outbox).messages ≡ []) (sym one) (ended-puts-none joined w r (other side) k.ends.f.name k.ends.shows_far.peer named' over old.host.clock) in
        let puts = g.puts in
        let emits = puts.emits in
        let some = emits.some in
        let empty : length (filled (pace_of g.peer old.host.clock) g.peer.outbox).messages ≡ 0 = ap (λ (l : List Message). length l) none in
        absurd (omega arith)
      where
        is-ended : (s : PeerState) → has_ended s ≡ true → s ≡ state.Ended
        is-ended state.Ended e = refl
        is-ended s e = absurd (cc)

    never : is_same_name k.ends.f.name gave.0 ≡ false
    never = turned-by (λ e. is_same_name k.ends.f.name gave.0 ≡ false) gave buf old new k.ends.f k.far k.ends.f here.few h.here.0 k.ends.shows_far
        (λ n' shows. n') (λ n' y t is' passes. n') (λ served. absurd (gives served k.gone))
not-its joined P w v x side n (Ok answer) r step is k d there of = absurd step.1

-- ---- one thing after another, at one moment
pub record At (joined : Bool) (P : Peering → Type 0) (now x : ℕ) (side : Side) (w : World) : Type 0 where
  pub reached : IsReached joined w
  pub lone : Lone P w x side
  pub clock : clock_at w side ≡ now

-- its side puts out all that it may
near-one : (joined : Bool) (P Q R : Peering → Type 0) (now x : ℕ) (side : Side) → Goes now P Q R → (refused stopped : ℕ) (w v : World) → Carries side refused stopped w v → At joined Q now x side w → At joined Q now x side v
near-one joined P Q R now x side g refused stopped w v one k = record {
  reached = reached-step joined one.between v (happen.Deliver (other side) one.k) one.answer between one.comes;
  lone = far-step joined Q one.between v x side (happen.Deliver (other side) one.k) one.answer refl between one.comes
      (λ was y. telling.delivers joined has_ended ended-rises was x one.k (other side) (other side) one.between v one.answer between one.comes y)
      (turn-near joined Q w one.between x side one.k one.told (λ p h. subst (λ m. Q (put_out p m)) (sym k.clock) (g.emits p h)) k.reached one.goes one.is_sent k.lone);
  clock = deliver-still one.between v (other side) one.k one.answer one.comes side ∙ turn-still w one.between side one.told one.goes side ∙ k.clock;
}
  where
    between : IsReached joined one.between
    between = reached-step joined w one.between (happen.Turn side) one.told k.reached one.goes

pub near-out : (joined : Bool) (P Q R : Peering → Type 0) (now x : ℕ) (side : Side) → Goes now P Q R → (sent refused stopped cut : ℕ) (w v : World) → PutsAllOut side sent refused stopped cut w v → cut ≡ 0 → At joined Q now x side w → At joined R now x side v
near-out joined P Q R now x side g sent refused stopped cut w v c uncut k = by c.2
  where
    so_far : At joined Q now x side c.0
    so_far = kept-carried (At joined Q now x side) side (near-one joined P Q R now x side g) sent refused stopped w c.0 c.1 k

    by : PutsNone side cut c.0 v ⊎ ((sent ≡ at_most) × (cut ≡ 1) × (v ≡ c.0)) → At joined R now x side v
    by (inl none) = record {
      reached = reached-step joined c.0 v (happen.Turn side) none.0 so_far.reached none.1;
      lone = rest-near joined P Q R c.0 v x side none.0 (subst (λ m. Goes m P Q R) (sym so_far.clock) g) so_far.reached none.1 none.2 (sym none.3 ∙ uncut) so_far.lone;
      clock = turn-still c.0 v side none.0 none.1 side ∙ so_far.clock;
    }
    by (inr most) = absurd (let z : cut ≡ 1 = most.1 in omega arith)

-- and the other, of which nothing is of the connection
far-one : (joined : Bool) (P : Peering → Type 0) (now x : ℕ) (side : Side) (refused stopped : ℕ) (w v : World) → Carries (other side) refused stopped w v → At joined P now x side w → At joined P now x side v
far-one joined P now x side refused stopped w v one k = record {
  reached = reached-step joined one.between v (happen.Deliver side one.k) one.answer between comes;
  lone = deliver-near joined P one.between v x side one.k one.answer between comes (not-its joined P w one.between x side one.k one.told k.reached one.goes one.is_sent k.lone)
      (far-step joined P w one.between x side (happen.Turn (other side)) one.told refl k.reached one.goes (λ was y. telling.turns joined has_ended ended-rises was x (other side) (other side) w one.between one.told k.reached one.goes y) k.lone);
  clock = deliver-still one.between v side one.k one.answer comes side ∙ turn-still w one.between (other side) one.told one.goes side ∙ k.clock;
}
  where
    between : IsReached joined one.between
    between = reached-step joined w one.between (happen.Turn (other side)) one.told k.reached one.goes

    comes : Steps one.between (happen.Deliver side one.k) one.answer v
    comes = subst (λ (s : Side). Steps one.between (happen.Deliver s one.k) one.answer v) (twice side) one.comes

pub far-out : (joined : Bool) (P : Peering → Type 0) (now x : ℕ) (side : Side) (sent refused stopped cut : ℕ) (w v : World) → PutsAllOut (other side) sent refused stopped cut w v → At joined P now x side w → At joined P now x side v
far-out joined P now x side sent refused stopped cut w v c k = by c.2
  where
    so_far : At joined P now x side c.0
    so_far = kept-carried (At joined P now x side) (other side) (far-one joined P now x side) sent refused stopped w c.0 c.1 k

    by : PutsNone (other side) cut c.0 v ⊎ ((sent ≡ at_most) × (cut ≡ 1) × (v ≡ c.0)) → At joined P now x side v
    by (inl none) = record {
      reached = reached-step joined c.0 v (happen.Turn (other side)) none.0 so_far.reached none.1;
      lone = far-step joined P c.0 v x side (happen.Turn (other side)) none.0 refl so_far.reached none.1 (λ was y. telling.turns joined has_ended ended-rises was x (other side) (other side) c.0 v none.0 so_far.reached none.1 y) so_far.lone;
      clock = turn-still c.0 v (other side) none.0 none.1 side ∙ so_far.clock;
    }
    by (inr most) = subst (At joined P now x side) (sym most.2) so_far

-- the users take
near-take : (joined : Bool) (P Q R : Peering → Type 0) (now x : ℕ) (side : Side) → Goes now P Q R → (w v : World) (told : Result Answer Refusal) → Steps w (happen.Take side) told v → At joined R now x side w → At joined R now x side v
near-take joined P Q R now x side g w v told step k = record {
  reached = reached-step joined w v (happen.Take side) told k.reached step;
  lone = take-near joined now P Q R w v x side told g k.reached step k.lone;
  clock = take-still w v side told step side ∙ k.clock;
}

far-take : (joined : Bool) (P : Peering → Type 0) (now x : ℕ) (side : Side) (w v : World) (told : Result Answer Refusal) → Steps w (happen.Take (other side)) told v → At joined P now x side w → At joined P now x side v
far-take joined P now x side w v told step k = record {
  reached = reached-step joined w v (happen.Take (other side)) told k.reached step;
  lone = far-step joined P w v x side (happen.Take (other side)) told refl k.reached step (λ was y. telling.takes joined has_ended ended-rises.only was x (other side) (other side) w v told k.reached step y) k.lone;
  clock = take-still w v (other side) told step side ∙ k.clock;
}

pub near-takes : (joined : Bool) (P Q R : Peering → Type 0) (now x : ℕ) (side : Side) → Goes now P Q R → (taken cut : ℕ) (w v : World) → TakesAll side taken cut w v → At joined R now x side w → At joined R now x side v
near-takes joined P Q R now x side g = kept-taken (At joined R now x side) side (near-take joined P Q R now x side g)

pub far-takes : (joined : Bool) (P : Peering → Type 0) (now x : ℕ) (side : Side) (taken cut : ℕ) (w v : World) → TakesAll (other side) taken cut w v → At joined P now x side w → At joined P now x side v
far-takes joined P now x side = kept-taken (At joined P now x side) (other side) (far-take joined P now x side)

-- ---- time goes on at the other side
pub far-tick : (joined : Bool) (P : Peering → Type 0) (x ms : ℕ) (side : Side) (w v : World) (told : Result Answer Refusal) → Steps w (happen.Tick (other side) ms) told v → IsReached joined w → Lone P w x side → Lone P v x side
far-tick joined P x ms side w v told step r k = far-step joined P w v x side (happen.Tick (other side) ms) told refl r step (λ was y. telling.ticks joined has_ended ended-rises was x ms (other side) (other side) w v told r step y) k
