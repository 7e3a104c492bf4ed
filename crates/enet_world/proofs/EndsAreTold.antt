-- Of each peer that is connected before rounds without losses: it is so after them, or its user was told.
use Rattle.std.proofs.Common.{◌≡◌, ◌≢◌, ◌<◌, ◌≤◌, ◌⊎◌, inl, inr, ℕ, zero, suc, Bool, true, false, List, [], ◌∷◌, ◌++◌, append-nil, refl, sym, ap, subst, ◌∙◌, arith, Option, Some, None, Result, Ok, Err}
use Rattle.std.specs.List.{slice_get}
use Rattle.std.specs.Option.{option_and_then, option_map}
use Rattle.enet_codec.specs.declared.event.Event.{Event}
use Rattle.enet_codec.specs.declared.event.Event.TheVariants as events
use Rattle.enet_codec.specs.declared.event.PeerRef.{PeerRef}
use Rattle.enet_codec.specs.declared.refusal.Refusal.{Refusal}
use Rattle.enet_peer.specs.declared.parts.PeerState.{PeerState}
use Rattle.enet_peer.specs.declared.parts.PeerState.TheVariants as state
use Rattle.enet_peer.specs.Peering.{Peering}
use Rattle.enet_slot.specs.Slot.{greatest}
use Rattle.enet_host.specs.Host.{named}
use Rattle.law_network.specs.Calls as call
use Rattle.law_network.specs.declared.event.Answer.{Answer}
use Rattle.law_network.specs.declared.event.Answer.TheVariants as answers
use Rattle.law_network.specs.declared.event.Side.{Side}
use Rattle.law_network.specs.declared.event.Side.TheVariants.{A, B}
use Rattle.law_network.specs.declared.event.WorldEvent.TheVariants as happen
use Rattle.law_network.specs.Headline.{events_at}
use Rattle.law_network.specs.Network.{HostEnd, Site, end_of}
use Rattle.law_network.specs.Steps.{Happening, Calls, Delivers}
use Rattle.law_network.specs.World.{World, HappensAt, Steps, site_of, other}
use Rattle.law_network.proofs.Names.{spent-nobody}
use Rattle.law_network.proofs.Submitting.{same-some}
use Rattle.enet_site.specs.Standing.{state_at}
use Rattle.enet_world.specs.declared.calm.Calm.{Calm}
use Rattle.enet_world.specs.declared.calm.Share.{Share}
use Rattle.enet_world.specs.Calm.{most, datagram_in, event_in, refusals_in, PutsNone, PutsAllOut, TakesNone, TakesAll, Round, Rounds, both}
use Rattle.enet_world.specs.Ended.{share_of, IsUncut, name_at, IsTold, IsToldOrWillBe, StandsOrEnds, is_ending, TellsEnds, ComesOrEnds}
use Rattle.enet_world.specs.Progress.{AreConnected, BroughtAll}
use Rattle.enet_world.specs.Private.Worlds.{IsReached}
use Rattle.enet_world.proofs.Habits.{Habits}
use Rattle.enet_world.proofs.InRounds.{Keeps, kept-many, kept-out, kept-takes, kept-taken, no-more}
use Rattle.enet_world.proofs.Reaching.{reached-step}
use Rattle.enet_world.proofs.Through.{no-sum, gets-through}
use Rattle.enet_world.proofs.TwoEnds.{from_start, sound, host-at}
use Rattle.enet_world.proofs.Untouched.{is_up, gone_by, Rises}
use Rattle.enet_world.proofs.UntouchedEnd.{Stays, IsOver, IsEither, weaker, remains-same, keeps-site, serves-site, delivers-site, takes-maybe, takes-nothing, rests-site}

-- ---- a world
few-at : (joined : Bool) (w : World) → IsReached joined w → (side : Side) → (site_of w side).host.config.generations ≤ greatest
few-at joined w r side = (host-at (from_start joined) w (sound joined w r) side).few

-- what happens at one side or the other
at-side : (P : Site → Type 0) (at side : Side) (what : Happening) (w v : World) → HappensAt at what w v → (P (site_of w at) → P (site_of v at)) → P (site_of w side) → P (site_of v side)
at-side P A A what w v h goes k = goes k
at-side P B B what w v h goes k = goes k
at-side P A B what w v h goes k = subst P (sym h.there) k
at-side P B A what w v h goes k = subst P (sym h.there) k

-- what is known of an end of a world that is reached
abbrev pub IsHere : Bool → (PeerState → Bool) → HostEnd → ℕ → Side → World → Type 0
IsHere joined f was x side w = IsReached joined w × IsEither f was (site_of w side) x

refused : (f : PeerState → Bool) (was : HostEnd) (x : ℕ) (side : Side) (w v : World) → v ≡ w → IsEither f was (site_of w side) x → IsEither f was (site_of v side) x
refused f was x side w v same k = subst (λ (u : World). IsEither f was (site_of u side) x) (sym same) k

pub ticks : (joined : Bool) (f : PeerState → Bool) → Rises f → (was : HostEnd) (x ms : ℕ) (at side : Side) (w v : World) (answer : Result Answer Refusal) → IsReached joined w → Steps w (happen.Tick at ms) answer v
    → IsEither f was (site_of w side) x → IsEither f was (site_of v side) x
ticks joined f rises was x ms at side w v (Err why) r step k = absurd step.0
ticks joined f rises was x ms at side w v (Ok answers.Done) r step k =
    let h : HappensAt at (Calls (call.Tick ms)) w v = subst (λ (e : Happening). HappensAt at e w v) step.1 step.2 in
    at-side (λ s. IsEither f was s x) at side (Calls (call.Tick ms)) w v h
    (λ y. keeps-site f rises was x (call.Tick ms) (site_of w at) (site_of v at) (few-at joined w r at) h.here.0 tt (remains-same x (site_of w at) (site_of v at) (ap (λ (s : Site). s.ends) h.here.1)) y) k
ticks joined f rises was x ms at side w v (Ok answer) r step k = absurd step.1

pub turns : (joined : Bool) (f : PeerState → Bool) → Rises f → (was : HostEnd) (x : ℕ) (at side : Side) (w v : World) (answer : Result Answer Refusal) → IsReached joined w → Steps w (happen.Turn at) answer v
    → IsEither f was (site_of w side) x → IsEither f was (site_of v side) x
turns joined f rises was x at side w v (Err why) r step k = refused f was x side w v step.1 k
turns joined f rises was x at side w v (Ok (answers.Sent None)) r step k =
    let h : HappensAt at (Calls (call.Service None step.1.0)) w v = subst (λ (e : Happening). HappensAt at e w v) step.1.1 step.2 in
    at-side (λ s. IsEither f was s x) at side (Calls (call.Service None step.1.0)) w v h
    (λ y. keeps-site f rises was x (call.Service None step.1.0) (site_of w at) (site_of v at) (few-at joined w r at) h.here.0 tt (remains-same x (site_of w at) (site_of v at) (ap (λ (s : Site). s.ends) h.here.1)) y) k
turns joined f rises was x at side w v (Ok (answers.Sent (Some n))) r step k =
    let h : HappensAt at (Calls (call.Service (Some step.1.0) step.1.1)) w v = subst (λ (e : Happening). HappensAt at e w v) step.1.2 step.2 in
    at-side (λ s. IsEither f was s x) at side (Calls (call.Service (Some step.1.0) step.1.1)) w v h
    (λ y. serves-site f rises was x w.count step.1.0 step.1.1 (site_of w (other at)) (site_of w at) (site_of v at) (few-at joined w r at) h.here y) k
turns joined f rises was x at side w v (Ok answer) r step k = absurd step.1

pub delivers : (joined : Bool) (f : PeerState → Bool) → Rises f → (was : HostEnd) (x n : ℕ) (at side : Side) (w v : World) (answer : Result Answer Refusal) → IsReached joined w → Steps w (happen.Deliver at n) answer v
    → IsEither f was (site_of w side) x → IsEither f was (site_of v side) x
delivers joined f rises was x n at side w v (Err why) r step k = refused f was x side w v step.1 k
delivers joined f rises was x n at side w v (Ok (answers.Received received)) r step k =
    let h : HappensAt at (Delivers n received) w v = subst (λ (e : Happening). HappensAt at e w v) step.1 step.2 in
    at-side (λ s. IsEither f was s x) at side (Delivers n received) w v h
    (λ y. delivers-site f rises was x (site_of w (other at)) (site_of w at) (site_of v at) received (slice_get (site_of w (other at)).log n) (few-at joined w r at) h.here y) k
delivers joined f rises was x n at side w v (Ok answer) r step k = absurd step.1

pub takes : (joined : Bool) (f : PeerState → Bool) → ((s : PeerState) → f s ≡ true → is_up s ≡ true) → (was : HostEnd) (x : ℕ) (at side : Side) (w v : World) (answer : Result Answer Refusal) → IsReached joined w → Steps w (happen.Take at) answer v
    → IsEither f was (site_of w side) x → IsEither f was (site_of v side) x
takes joined f only was x at side w v (Err why) r step k = refused f was x side w v step.1 k
takes joined f only was x at side w v (Ok (answers.Taken event)) r step k =
    let h : HappensAt at (Calls (call.NextEvent event)) w v = subst (λ (e : Happening). HappensAt at e w v) step.1 step.2 in
    at-side (λ s. IsEither f was s x) at side (Calls (call.NextEvent event)) w v h
    (λ y. takes-maybe f only was x w.count event (site_of w (other at)) (site_of w at) (site_of v at) (few-at joined w r at) h.here y) k
takes joined f only was x at side w v (Ok answer) r step k = absurd step.1

takes-here : (joined : Bool) (f : PeerState → Bool) → ((s : PeerState) → f s ≡ true → is_up s ≡ true) → (was : HostEnd) (x : ℕ) (side at : Side) (w v : World) (answer : Result Answer Refusal) → Steps w (happen.Take at) answer v
    → IsHere joined f was x side w → IsHere joined f was x side v
takes-here joined f only was x side at w v answer step k = (reached-step joined w v (happen.Take at) answer k.0 step, takes joined f only was x at side w v answer k.0 step k.1)

pub keeps : (joined : Bool) (f : PeerState → Bool) → Rises f → (was : HostEnd) (x : ℕ) (side : Side) → Keeps (IsHere joined f was x side)
keeps joined f rises was x side = record {
  turns_keep = λ w v at answer step k. (reached-step joined w v (happen.Turn at) answer k.0 step, turns joined f rises was x at side w v answer k.0 step k.1);
  delivers_keep = λ w v at n answer step k. (reached-step joined w v (happen.Deliver at n) answer k.0 step, delivers joined f rises was x n at side w v answer k.0 step k.1);
  takes_keep = takes-here joined f rises.only was x side;
}

-- ---- its own side, where that isn't cut short
rests-none : (joined : Bool) (f g : PeerState → Bool) → ((s : PeerState) → f s ≡ true → is_up s ≡ true) → ((s : PeerState) → f s ≡ true → g (gone_by s) ≡ true) → ((s : PeerState) → g s ≡ true → is_up s ≡ true) → (was : HostEnd) (x : ℕ) (side : Side)
    (w v : World) (answer : Result Answer Refusal) → IsReached joined w → Steps w (happen.Turn side) answer v → datagram_in answer ≡ None → refusals_in answer ≡ 0 → IsEither f was (site_of w side) x → IsEither g was (site_of v side) x
rests-none joined f g only goes up-too was x side w v (Err why) r step none uncut k = absurd (let z : ◌≡◌ {A = ℕ} 1 0 = uncut in omega arith)
rests-none joined f g only goes up-too was x side w v (Ok (answers.Sent None)) r step none uncut k =
    let h : HappensAt side (Calls (call.Service None step.1.0)) w v = subst (λ (e : Happening). HappensAt side e w v) step.1.1 step.2 in
    rests-site f g only goes up-too was x w.count step.1.0 (site_of w (other side)) (site_of w side) (site_of v side) (few-at joined w r side) h.here k
rests-none joined f g only goes up-too was x side w v (Ok (answers.Sent (Some n))) r step none uncut k = absurd (let z : ◌≡◌ {A = Option ℕ} (Some n) None = none in cc)
rests-none joined f g only goes up-too was x side w v (Ok answer) r step none uncut k = absurd step.1

puts-out : (joined : Bool) (f g : PeerState → Bool) → Rises f → ((s : PeerState) → f s ≡ true → g (gone_by s) ≡ true) → ((s : PeerState) → g s ≡ true → is_up s ≡ true) → (was : HostEnd) (x : ℕ) (side : Side) (sent refused stopped cut : ℕ) (w v : World)
    → PutsAllOut side sent refused stopped cut w v → cut ≡ 0 → IsHere joined f was x side w → IsHere joined g was x side v
puts-out joined f g rises goes up-too was x side sent refused stopped cut w v c uncut k = by c.2
  where
    so_far : IsHere joined f was x side c.0
    so_far = kept-many (IsHere joined f was x side) (keeps joined f rises was x side) side sent refused stopped w c.0 c.1 k

    by : PutsNone side cut c.0 v ⊎ ((sent ≡ most) × (cut ≡ 1) × (v ≡ c.0)) → IsHere joined g was x side v
    by (inl none) = (
      reached-step joined c.0 v (happen.Turn side) none.0 so_far.0 none.1,
      rests-none joined f g rises.only goes up-too was x side c.0 v none.0 so_far.0 none.1 none.2 (sym none.3 ∙ uncut) so_far.1,
    )
    by (inr most) = absurd (let z : cut ≡ 1 = most.1 in omega arith)

takes-last : (joined : Bool) (f g : PeerState → Bool) → ((s : PeerState) → f s ≡ true → s ≢ state.Ended → g s ≡ true) → (was : HostEnd) (x : ℕ) (side : Side)
    (w v : World) (answer : Result Answer Refusal) → IsReached joined w → Steps w (happen.Take side) answer v → event_in answer ≡ None → refusals_in answer ≡ 0 → IsEither f was (site_of w side) x → IsEither g was (site_of v side) x
takes-last joined f g unended was x side w v (Err why) r step none uncut k = absurd (let z : ◌≡◌ {A = ℕ} 1 0 = uncut in omega arith)
takes-last joined f g unended was x side w v (Ok (answers.Taken None)) r step none uncut k =
    let h : HappensAt side (Calls (call.NextEvent None)) w v = subst (λ (e : Happening). HappensAt side e w v) step.1 step.2 in
    takes-nothing f g unended was x (site_of w side) (site_of v side) (few-at joined w r side) h.here.0 (ap (λ (s : Site). s.ends) h.here.1) k
takes-last joined f g unended was x side w v (Ok (answers.Taken (Some event))) r step none uncut k = absurd (let z : ◌≡◌ {A = Option Event} (Some event) None = none in cc)
takes-last joined f g unended was x side w v (Ok answer) r step none uncut k = absurd step.1

takes-out : (joined : Bool) (f g : PeerState → Bool) → ((s : PeerState) → f s ≡ true → is_up s ≡ true) → ((s : PeerState) → f s ≡ true → s ≢ state.Ended → g s ≡ true) → (was : HostEnd) (x : ℕ) (side : Side) (taken cut : ℕ) (w v : World)
    → TakesAll side taken cut w v → cut ≡ 0 → IsHere joined f was x side w → IsHere joined g was x side v
takes-out joined f g only unended was x side taken cut w v t uncut k = by t.2
  where
    so_far : IsHere joined f was x side t.0
    so_far = kept-takes (IsHere joined f was x side) side (takes-here joined f only was x side side) taken w t.0 t.1 k

    by : TakesNone side cut t.0 v ⊎ ((taken ≡ most) × (cut ≡ 1) × (v ≡ t.0)) → IsHere joined g was x side v
    by (inl none) = (reached-step joined t.0 v (happen.Take side) none.0 so_far.0 none.1, takes-last joined f g unended was x side t.0 v none.0 so_far.0 none.1 none.2 (sym none.3 ∙ uncut) so_far.1)
    by (inr most) = absurd (let z : cut ≡ 1 = most.1 in omega arith)

-- ---- a round
-- what is known of a peer before a round, once its side has put all out, and after the round
pub record Passes (f g h : PeerState → Bool) : Type 0 where
  pub rises : Rises f
  pub goes : (s : PeerState) → f s ≡ true → g (gone_by s) ≡ true
  pub only : (s : PeerState) → g s ≡ true → is_up s ≡ true
  pub unended : (s : PeerState) → g s ≡ true → s ≢ state.Ended → h s ≡ true
  pub only_h : (s : PeerState) → h s ≡ true → is_up s ≡ true

pub ticked : (joined : Bool) (f : PeerState → Bool) → Rises f → (was : HostEnd) (x : ℕ) (side : Side) (ms : ℕ) (told : Calm) (w v : World) (d : Round ms told w v) → IsHere joined f was x side w → IsHere joined f was x side d.ticked
ticked joined f rises was x side ms told w v d k =
    let one : IsReached joined d.ticked_a = reached-step joined w d.ticked_a (happen.Tick A ms) d.ticks_a.0 k.0 d.ticks_a.1 in (
      reached-step joined d.ticked_a d.ticked (happen.Tick B ms) d.ticks_b.0 one d.ticks_b.1,
      ticks joined f rises was x ms B side d.ticked_a d.ticked d.ticks_b.0 one d.ticks_b.1 (ticks joined f rises was x ms A side w d.ticked_a d.ticks_a.0 k.0 d.ticks_a.1 k.1),
    )

-- at A, to which B's datagrams come once it has put out all
pub round-a : (joined : Bool) (f g h : PeerState → Bool) → Passes f g h → Rises g → (was : HostEnd) (x ms : ℕ) (told : Calm) (w v : World) → Round ms told w v → told.a.cut_short ≡ 0 → IsHere joined f was x A w → IsHere joined h was x A v
round-a joined f g h p rises was x ms told w v d uncut k = kept-taken (IsHere joined h was x A) B (takes-here joined h p.only_h was x A B) told.b.taken d.cut_b d.taken_a v d.takes_b
    (takes-out joined g h p.only p.unended was x A told.a.taken d.cut_a d.sent d.taken_a d.takes_a cuts.1
    (kept-out (IsHere joined g was x A) (keeps joined g rises was x A) B told.b.sent told.b.refused told.b.stopped d.cut_back d.sent_a d.sent d.back
    (puts-out joined f g p.rises p.goes p.only was x A told.a.sent told.a.refused told.a.stopped d.cut_forth d.ticked d.sent_a d.forth cuts.0 (ticked joined f p.rises was x A ms told w v d k))))
  where
    cuts : (d.cut_forth ≡ 0) × (d.cut_a ≡ 0)
    cuts = no-more d.cut_forth d.cut_a told.a.cut_short uncut d.all_a

-- at B, to which A's came before
pub round-b : (joined : Bool) (f g h : PeerState → Bool) → Passes f g h → (was : HostEnd) (x ms : ℕ) (told : Calm) (w v : World) → Round ms told w v → told.b.cut_short ≡ 0 → IsHere joined f was x B w → IsHere joined h was x B v
round-b joined f g h p was x ms told w v d uncut k = takes-out joined g h p.only p.unended was x B told.b.taken d.cut_b d.taken_a v d.takes_b cuts.1
    (kept-taken (IsHere joined g was x B) A (takes-here joined g p.only was x B A) told.a.taken d.cut_a d.sent d.taken_a d.takes_a
    (puts-out joined f g p.rises p.goes p.only was x B told.b.sent told.b.refused told.b.stopped d.cut_back d.sent_a d.sent d.back cuts.0
    (kept-out (IsHere joined f was x B) (keeps joined f p.rises was x B) A told.a.sent told.a.refused told.a.stopped d.cut_forth d.ticked d.sent_a d.forth (ticked joined f p.rises was x B ms told w v d k))))
  where
    cuts : (d.cut_back ≡ 0) × (d.cut_b ≡ 0)
    cuts = no-more d.cut_back d.cut_b told.b.cut_short uncut d.all_b

-- ---- rounds
-- a round at a side
abbrev pub ARound : Bool → (f h : PeerState → Bool) → HostEnd → ℕ → ℕ → Side → Type 0
ARound joined f h was x ms side = (told : Calm) (w v : World) → Round ms told w v → (share_of told side).cut_short ≡ 0 → IsHere joined f was x side w → IsHere joined h was x side v

pub uncut-parts : (s t u : Share) → u ≡ both s t → u.cut_short ≡ 0 → (s.cut_short ≡ 0) × (t.cut_short ≡ 0)
uncut-parts s t u is none = no-sum s.cut_short t.cut_short (sym (ap (λ (y : Share). y.cut_short) is) ∙ none)

pub share-is : (told one two : Calm) → told ≡ record { a = both one.a two.a; b = both one.b two.b } → (side : Side) → share_of told side ≡ both (share_of one side) (share_of two side)
share-is told one two is A = ap (λ (c : Calm). c.a) is
share-is told one two is B = ap (λ (c : Calm). c.b) is

-- none was played, or the peer is as after a round
pub rounds-go : (joined : Bool) (f h : PeerState → Bool) → ((s : PeerState) → h s ≡ true → f s ≡ true) → (was : HostEnd) (x ms : ℕ) (side : Side) → ARound joined f h was x ms side → (n : ℕ) (told : Calm) (w v : World) → Rounds ms n told w v
    → (share_of told side).cut_short ≡ 0 → IsHere joined f was x side w → ((n ≡ 0) × (v ≡ w)) ⊎ IsHere joined h was x side v
rounds-go joined f h less was x ms side one zero told w v d uncut k = inl (refl, d.1)
rounds-go joined f h less was x ms side one (suc n) told w v d uncut k = inr (by (rounds-go joined f h less was x ms side one n d.0 w d.2 d.3 cuts.0 k))
  where
    cuts : ((share_of d.0 side).cut_short ≡ 0) × ((share_of d.1 side).cut_short ≡ 0)
    cuts = uncut-parts (share_of d.0 side) (share_of d.1 side) (share_of told side) (share-is told d.0 d.1 d.5 side) uncut

    by : ((n ≡ 0) × (d.2 ≡ w)) ⊎ IsHere joined h was x side d.2 → IsHere joined h was x side v
    by (inl none) = one d.1 d.2 v d.4 cuts.1 (subst (IsHere joined f was x side) (sym none.1) k)
    by (inr so_far) = one d.1 d.2 v d.4 cuts.1 (so_far.0, weaker h f was (site_of d.2 side) x less so_far.1)

-- ---- which states
abbrev pub is_connected : PeerState → Bool
is_connected state.Connected = true
is_connected _ = false

abbrev pub is_open : PeerState → Bool
is_open state.Connected = true
is_open state.AckDisconnect = true
is_open _ = false

abbrev pub is_open_or_over : PeerState → Bool
is_open_or_over state.Connected = true
is_open_or_over state.Ended = true
is_open_or_over _ = false

abbrev pub has_ended : PeerState → Bool
has_ended state.Ended = true
has_ended _ = false

abbrev pub is_none : PeerState → Bool
is_none s = false

pub up-rises : Rises is_up
up-rises = record { only = λ s e. e; acks = λ e. refl; ends = λ s e. refl }

ending-rises : Rises is_ending
ending-rises = record { only = only; acks = λ e. refl; ends = λ s e. refl }
  where
    only : (s : PeerState) → is_ending s ≡ true → is_up s ≡ true
    only state.AckDisconnect e = refl
    only state.Ended e = refl
    only s e = absurd (cc)

pub ended-rises : Rises has_ended
ended-rises = record { only = only; acks = λ e. absurd (cc); ends = λ s e. refl }
  where
    only : (s : PeerState) → has_ended s ≡ true → is_up s ≡ true
    only state.Ended e = refl
    only s e = absurd (cc)

pub open-up : (s : PeerState) → is_open s ≡ true → is_up s ≡ true
open-up state.Connected e = refl
open-up state.AckDisconnect e = refl
open-up s e = absurd (cc)

pub connected-up : (s : PeerState) → is_connected s ≡ true → is_up s ≡ true
connected-up state.Connected e = refl
connected-up s e = absurd (cc)

up-open : (s : PeerState) → is_up s ≡ true → s ≢ state.Ended → is_open s ≡ true
up-open state.Connected e n = refl
up-open state.AckDisconnect e n = refl
up-open state.Ended e n = absurd (n refl)
up-open s e n = absurd (cc)

up-gone : (s : PeerState) → is_up s ≡ true → is_open_or_over (gone_by s) ≡ true
up-gone state.Connected e = refl
up-gone state.AckDisconnect e = refl
up-gone state.Ended e = refl
up-gone s e = absurd (cc)

over-up : (s : PeerState) → is_open_or_over s ≡ true → is_up s ≡ true
over-up state.Connected e = refl
over-up state.Ended e = refl
over-up s e = absurd (cc)

over-open : (s : PeerState) → is_open_or_over s ≡ true → s ≢ state.Ended → is_connected s ≡ true
over-open state.Connected e n = refl
over-open state.Ended e n = absurd (n refl)
over-open s e n = absurd (cc)

ending-gone : (s : PeerState) → is_ending s ≡ true → has_ended (gone_by s) ≡ true
ending-gone state.AckDisconnect e = refl
ending-gone state.Ended e = refl
ending-gone s e = absurd (cc)

ended-open : (s : PeerState) → has_ended s ≡ true → s ≢ state.Ended → is_none s ≡ true
ended-open state.Ended e n = absurd (n refl)
ended-open s e n = absurd (cc)

pub at-a : Passes is_up is_up is_open
at-a = record { rises = up-rises; goes = λ s e. over-up (gone_by s) (up-gone s e); only = λ s e. e; unended = up-open; only_h = open-up }

pub at-b : Passes is_up is_open_or_over is_connected
at-b = record { rises = up-rises; goes = up-gone; only = over-up; unended = over-open; only_h = connected-up }

pub at-end : Passes is_ending has_ended is_none
at-end = record { rises = ending-rises; goes = ending-gone; only = ended-rises.only; unended = ended-open; only_h = λ s e. absurd (cc) }

-- ---- before and after
state-so : (f : PeerState → Bool) (was : HostEnd) (s : Site) (x : ℕ) (k : Stays f was s x) → state_at s x ≡ Some k.p.state
state-so f was s x k =
    ap (λ (o : Option HostEnd). option_map (λ (p : Peering). p.state) (option_and_then (λ (e : HostEnd). named s.host.slots e.name) o)) k.there
    ∙ ap (λ (o : Option Peering). option_map (λ (p : Peering). p.state) o) k.is

-- the end that is there after it was this one
pub same-named : (old new : World) (x : ℕ) (side : Side) (was e : HostEnd) → end_of x (site_of old side).ends ≡ Some was → end_of x (site_of new side).ends ≡ Some e → e.name ≡ was.name → name_at new x side ≡ name_at old x side
same-named old new x side was e before after called =
    ap (option_map (λ (y : HostEnd). y.name)) after ∙ ap (λ (n : PeerRef). Some n) called ∙ sym (ap (option_map (λ (y : HostEnd). y.name)) before)

pub nobody-so : (was : HostEnd) (s : Site) (x : ℕ) → IsOver was s x → state_at s x ≡ None
nobody-so was s x k =
    ap (λ (o : Option HostEnd). option_map (λ (p : Peering). p.state) (option_and_then (λ (e : HostEnd). named s.host.slots e.name) o)) k.there
    ∙ ap (λ (o : Option Peering). option_map (λ (p : Peering). p.state) o) (spent-nobody s.host k.e.name k.spent)

pub told-so : (old new : World) (x : ℕ) (side : Side) (was : HostEnd) → end_of x (site_of old side).ends ≡ Some was → IsOver was (site_of new side) x → IsTold old new x side
told-so old new x side was before k = record {
  name = was.name;
  called = ap (option_map (λ (y : HostEnd). y.name)) before;
  more = k.more;
  info = k.info;
  took = ap events_at k.there ∙ k.took ∙ ap (λ (l : List Event). l ++ k.more ++ events.Disconnect was.name k.info ∷ []) (sym (ap events_at before));
  gone = nobody-so was (site_of new side) x k;
}

is-open : (s : PeerState) → is_open s ≡ true → (s ≡ state.Connected) ⊎ (s ≡ state.AckDisconnect)
is-open state.Connected e = inl refl
is-open state.AckDisconnect e = inr refl
is-open s e = absurd (cc)

is-connected : (s : PeerState) → is_connected s ≡ true → s ≡ state.Connected
is-connected state.Connected e = refl
is-connected s e = absurd (cc)

-- a peer in a state, before
pub record Begins (s : Site) (x : ℕ) (t : PeerState) : Type 0 where
  pub was : HostEnd
  pub there : end_of x s.ends ≡ Some was
  pub p : Peering
  pub is : named s.host.slots was.name ≡ Some p
  pub in_it : p.state ≡ t

pub begins : (s : Site) (x : ℕ) (t : PeerState) → state_at s x ≡ Some t → Begins s x t
begins s x t h = by (end_of x s.ends) refl h
  where
    by-peer : (e : HostEnd) → end_of x s.ends ≡ Some e → (o : Option Peering) → named s.host.slots e.name ≡ o → option_map (λ (p : Peering). p.state) o ≡ Some t → Begins s x t
    by-peer e there None is k = absurd (let z : ◌≡◌ {A = Option PeerState} None (Some t) = k in cc)
    by-peer e there (Some p) is k = record { was = e; there = there; p = p; is = is; in_it = same-some p.state t k }

    by : (o : Option HostEnd) → end_of x s.ends ≡ o → option_map (λ (p : Peering). p.state) (option_and_then (λ (e : HostEnd). named s.host.slots e.name) o) ≡ Some t → Begins s x t
    by None there k = absurd (let z : ◌≡◌ {A = Option PeerState} None (Some t) = k in cc)
    by (Some e) there k = by-peer e there (named s.host.slots e.name) refl k

pub tells-ends : (joined : Bool) (ms rounds : ℕ) (told : Calm) (old new : World) → IsReached joined old → Rounds ms rounds told old new → TellsEnds rounds told old new
tells-ends joined ms rounds told old new r d = record { connected = connected; ending = ending }
  where
    start : (f : PeerState → Bool) (x : ℕ) (side : Side) (t : PeerState) → f t ≡ true → (a : Begins (site_of old side) x t) → IsHere joined f a.was x side old
    start f x side t up a = (r, inl (record { e = a.was; there = a.there; more = []; called = refl; took = sym (append-nil a.was.events); p = a.p; is = a.is; up = ap f a.in_it ∙ up }))

    -- where no round was played
    none-played : (x : ℕ) (side : Side) → new ≡ old → state_at (site_of old side) x ≡ Some state.Connected → StandsOrEnds old new x side
    none-played x side same on = inl (ap (λ (w : World). state_at (site_of w side) x) same ∙ on, ap (λ (w : World). name_at w x side) same)

    after-a : (x : ℕ) (a : Begins old.a x state.Connected) → IsEither is_open a.was new.a x → StandsOrEnds old new x A
    after-a x a (inl k) = elim (is-open k.p.state k.up) [
      | inl on ↦ inl (state-so is_open a.was new.a x k ∙ ap Some on, same-named old new x A a.was k.e a.there k.there k.called)
      | inr acks ↦ inr (inl (refl, (state-so is_open a.was new.a x k ∙ ap Some acks, same-named old new x A a.was k.e a.there k.there k.called)))
    ]
    after-a x a (inr over) = inr (inr (told-so old new x A a.was a.there over))

    after-b : (x : ℕ) (a : Begins old.b x state.Connected) → IsEither is_connected a.was new.b x → StandsOrEnds old new x B
    after-b x a (inl k) = inl (state-so is_connected a.was new.b x k ∙ ap Some (is-connected k.p.state k.up), same-named old new x B a.was k.e a.there k.there k.called)
    after-b x a (inr over) = inr (inr (told-so old new x B a.was a.there over))

    connected : (x : ℕ) (side : Side) → IsUncut told side → state_at (site_of old side) x ≡ Some state.Connected → StandsOrEnds old new x side
    connected x A uncut on =
        let a : Begins old.a x state.Connected = begins old.a x state.Connected on in
        elim (rounds-go joined is_up is_open open-up a.was x ms A (λ now w v one cut k. round-a joined is_up is_up is_open at-a up-rises a.was x ms now w v one cut k) rounds told old new d uncut (start is_up x A state.Connected refl a)) [
          | inl none ↦ none-played x A none.1 on
          | inr k ↦ after-a x a k.1
        ]
    connected x B uncut on =
        let a : Begins old.b x state.Connected = begins old.b x state.Connected on in
        elim (rounds-go joined is_up is_connected connected-up a.was x ms B (λ now w v one cut k. round-b joined is_up is_open_or_over is_connected at-b a.was x ms now w v one cut k) rounds told old new d uncut (start is_up x B state.Connected refl a)) [
          | inl none ↦ none-played x B none.1 on
          | inr k ↦ after-b x a k.1
        ]

    ending-round : (was : HostEnd) (x : ℕ) (side : Side) → ARound joined is_ending is_none was x ms side
    ending-round was x A now w v one cut k = round-a joined is_ending has_ended is_none at-end ended-rises was x ms now w v one cut k
    ending-round was x B now w v one cut k = round-b joined is_ending has_ended is_none at-end was x ms now w v one cut k

    after-end : (x : ℕ) (side : Side) (s : PeerState) (a : Begins (site_of old side) x s) → IsEither is_none a.was (site_of new side) x → IsTold old new x side
    after-end x side s a (inl k) = absurd (let z : false ≡ true = k.up in cc)
    after-end x side s a (inr over) = told-so old new x side a.was a.there over

    ending : (x : ℕ) (side : Side) (s : PeerState) → is_ending s ≡ true → IsUncut told side → state_at (site_of old side) x ≡ Some s → 0 < rounds → IsTold old new x side
    ending x side s ends uncut on some =
        let a : Begins (site_of old side) x s = begins (site_of old side) x s on in
        elim (rounds-go joined is_ending is_none (λ s e. absurd (let z : false ≡ true = e in cc)) a.was x ms side (ending-round a.was x side) rounds told old new d uncut (start is_ending x side s ends a)) [
          | inl none ↦ absurd (let z : rounds ≡ 0 = none.0 in omega arith)
          | inr k ↦ after-end x side s a k.1
        ]

-- ---- all comes, or an end is told
pub comes-or-ends : (joined : Bool) (ms rounds : ℕ) (told : Calm) (old new : World) → IsReached joined old → Habits old → Rounds ms rounds told old new → ComesOrEnds ms rounds told old new
comes-or-ends joined ms rounds told old new r habits d x before uncut_a uncut_b = by (ends.connected x A uncut_a before.0) (ends.connected x B uncut_b before.1)
  where
    ends : TellsEnds rounds told old new
    ends = tells-ends joined ms rounds told old new r d

    by : StandsOrEnds old new x A → StandsOrEnds old new x B
        → (IsToldOrWillBe old new x A ⊎ IsToldOrWillBe old new x B) ⊎ (AreConnected new x × BroughtAll ms rounds told old new x)
    by (inl a) (inl b) = inr ((a.0, b.0), λ smooth enough. gets-through joined ms rounds told old new r habits d x before (a.0, b.0) smooth enough)
    by (inr a) b = inl (inl a)
    by (inl a) (inr b) = inl (inr b)
