-- Rounds in which nothing stood in the way bring all through, between two peers that stay connected.
use Rattle.std.proofs.Common.{◌≡◌, ◌<◌, ◌≤◌, ◌%◌, ◌&&◌, ◌||◌, ◌==◌, ◌⊎◌, ℕ, zero, suc, ◌+◌, ◌*◌, min, not, Bool, true, false, cond, List, [], ◌∷◌, ◌++◌, append-nil, append_assoc, map, length, refl, sym, ap, subst, ◌∙◌, inl, inr, arith, Option, Some, None, Result, Ok, Err}
use Rattle.std.proofs.lemmas.Bool.Decides.{nat_tests}
use Rattle.std.proofs.lemmas.List.{length-append}
use Rattle.std.specs.Option.{option_and_then, option_map}
use Rattle.enet_codec.specs.declared.event.PeerRef.{PeerRef}
use Rattle.enet_codec.specs.declared.packet.Packet.{Packet}
use Rattle.enet_codec.specs.declared.refusal.Refusal.{Refusal}
use Rattle.enet_packets.specs.declared.incoming_packet.Dispatched.{Dispatched}
use Rattle.enet_peer.specs.declared.parts.PeerEvent.{PeerEvent}
use Rattle.enet_peer.specs.declared.parts.PeerEvent.TheVariants as told
use Rattle.enet_peer.specs.declared.parts.PeerState.{PeerState}
use Rattle.enet_peer.specs.declared.parts.PeerState.TheVariants as state
use Rattle.enet_peer.specs.Peering.{Peering}
use Rattle.enet_sender.specs.CommandChoice.{carried_from, goes_reliable, is_long, is_flagged_unreliable_fragment}
use Rattle.enet_sender.specs.CommandChoice as command_choice
use Rattle.enet_sender.specs.declared.sent.Sent.{Sent}
use Rattle.enet_sender.specs.Due.{SendingEnd}
use Rattle.enet_outbox.specs.Outbox.{has_ended, is_unsequenced, is_flagged_unsequenced}
use Rattle.enet_slot.specs.Calls.{event_of}
use Rattle.enet_host.specs.Host.{named}
use Rattle.enet_host.specs.Ticking.{clock_after}
use Rattle.law_connection.specs.Connection.{End, Connection, of_channel, packets_of, in_sequence}
use Rattle.law_connection.specs.Law.{mtu_of}
use Rattle.law_connection.specs.LinkSteps.{Has, bodies_of}
use Rattle.law_network.specs.Calls as call
use Rattle.law_network.specs.declared.event.Answer.{Answer}
use Rattle.law_network.specs.declared.event.Answer.TheVariants as answers
use Rattle.law_network.specs.declared.event.Side.{Side}
use Rattle.law_network.specs.declared.event.Side.TheVariants.{A, B}
use Rattle.law_network.specs.declared.event.WorldEvent.TheVariants as happen
use Rattle.law_network.specs.Headline.{submitted_at, events_at}
use Rattle.law_network.specs.Log.{packets_at}
use Rattle.law_network.specs.Network.{HostEnd, Site, end_of}
use Rattle.law_network.specs.Numbers.{Stands}
use Rattle.law_network.specs.Shown.{on_channel, Shows}
use Rattle.law_network.specs.Steps.{Happening, Calls, beside}
use Rattle.law_network.specs.Telling.{Ticks}
use Rattle.law_network.specs.World.{World, HappensAt, Steps, site_of, other}
use Rattle.law_network.proofs.Agreed.{same-peer}
use Rattle.law_network.proofs.Delivering.{end-there}
use Rattle.law_network.proofs.Own.{of-the-host}
use Rattle.law_network.proofs.Runs.{Sound, both as both-so}
use Rattle.law_network.proofs.Submitting.{same-some}
use Rattle.law_network.proofs.Worlds.{IsHost, KeptEither, Pair, acts-of}
use Rattle.law_progress.specs.Exchanges.{IsOpen, BothThrough, IsThrough, AllOver, HasSent, outstanding_over}
use Rattle.law_progress.specs.InTurn.{RoundInTurn, RoundsInTurn}
use Rattle.law_progress.specs.Links.{AllDispatched}
use Rattle.law_progress.proofs.Exchanges.{Joint, joint-swap}
use Rattle.law_progress.proofs.Fitting.{all-fits}
use Rattle.law_progress.proofs.InTurn.{all-in-turn}
use Rattle.law_progress.proofs.Waiting.{or-both}
use Rattle.law_headline.specs.Page.{came}
use Rattle.enet_site.specs.Standing.{peer_at, state_at}
use Rattle.enet_world.specs.declared.calm.Calm.{Calm}
use Rattle.enet_world.specs.declared.calm.Share.{Share}
use Rattle.enet_world.specs.Calm.{Round, Rounds, both, is_smooth, sum}
use Rattle.enet_world.specs.Progress.{clock_by_rounds, AllCame, AreConnected, AreEnough, WasTaken, GetsThrough}
use Rattle.enet_world.specs.Private.Worlds.{IsReached}
use Rattle.law_headline.proofs.Delivering.{standing}
use Rattle.enet_world.proofs.Habits.{Habits, habits-step}
use Rattle.enet_world.proofs.InRounds.{clock_at, StandStill, Keeps, kept-out, kept-taken, still-keeps, reached-keeps, habits-keeps, IsLost, lost-step, Ticked, ticked, ticked-on, PutsOutAll, puts-all-out, TakesOut, takes-all, IsEmpty, named-up, no-more, StepsKeep, keeps-all, reached-steps}
use Rattle.enet_world.proofs.Lasting.{is_past, not-past}
use Rattle.enet_world.proofs.Living.{named-fits}
use Rattle.enet_world.proofs.Reaching.{reached-step}
use Rattle.enet_world.proofs.TwoEnds.{from_start, sound, host-at, IsDown, down-step, Up, up-swapped}

-- ---- the clocks in a round
pub tick-clock : (w v : World) (side : Side) (ms : ℕ) (told : Result Answer Refusal) → Steps w (happen.Tick side ms) told v → (clock_at v side ≡ clock_after (clock_at w side) ms) × (clock_at v (other side) ≡ clock_at w (other side))
tick-clock w v side ms (Err why) step = absurd step.0
tick-clock w v side ms (Ok answers.Done) step =
    let h : HappensAt side (Calls (call.Tick ms)) w v = subst (λ (e : Happening). HappensAt side e w v) step.1 step.2 in
    let acts = acts-of (beside w.count (site_of w (other side))) (site_of w (other side)) (site_of w side) (site_of v side) (call.Tick ms) h.here in
    ((of-the-host (call.Tick ms) (site_of w side).host (site_of v side).host acts).1, ap (λ (s : Site). s.host.clock) h.there)
tick-clock w v side ms (Ok answer) step = absurd step.1

-- ---- one round
-- what stands in no way
pub record Smooth (s : Share) : Type 0 where
  pub refused : s.refused ≡ 0
  pub stopped : s.stopped ≡ 0
  pub cut : s.cut_short ≡ 0

pub record Rounded (joined : Bool) (v : World) (x now there : ℕ) (own far : End) : Type 0 where
  pub one : End
  pub two : End
  pub up : Up joined v x A one two
  pub round : RoundInTurn now there (record { one = own; two = far }) (record { one = one; two = two })
  pub empty_one : IsEmpty one
  pub empty_two : IsEmpty two

-- what the steps of a round after the clocks went on keep
pub record Along (P : World → Type 0) (ms : ℕ) (told : Calm) (w v : World) (d : Round ms told w v) : Type 0 where
  pub ticked : P d.ticked
  pub sent_a : P d.sent_a
  pub sent : P d.sent
  pub taken_a : P d.taken_a
  pub last : P v

pub along : (P : World → Type 0) → Keeps P → (ms : ℕ) (told : Calm) (w v : World) (d : Round ms told w v) → P d.ticked → Along P ms told w v d
along P k ms told w v d h = record { ticked = h; sent_a = sent_a; sent = sent; taken_a = taken_a; last = kept-taken P B (k.takes_keep B) told.b.taken d.cut_b d.taken_a v d.takes_b taken_a }
  where
    sent_a : P d.sent_a
    sent_a = kept-out P k A told.a.sent told.a.refused told.a.stopped d.cut_forth d.ticked d.sent_a d.forth h

    sent : P d.sent
    sent = kept-out P k B told.b.sent told.b.refused told.b.stopped d.cut_back d.sent_a d.sent d.back sent_a

    taken_a : P d.taken_a
    taken_a = kept-taken P A (k.takes_keep A) told.a.taken d.cut_a d.sent d.taken_a d.takes_a sent

pub kept-round : (P : World → Type 0) → Keeps P → (ms : ℕ) (told : Calm) (w v : World) (d : Round ms told w v) → P d.ticked → P v
kept-round P k ms told w v d h = (let all = along P k ms told w v d h in all.last)

-- what each event keeps, so do the clocks, a round and rounds
pub ticked-by : (P : World → Type 0) → StepsKeep P → (ms : ℕ) (told : Calm) (w v : World) (d : Round ms told w v) → P w → P d.ticked
ticked-by P k ms told w v d h = k d.ticked_a d.ticked (happen.Tick B ms) d.ticks_b.0 d.ticks_b.1 (k w d.ticked_a (happen.Tick A ms) d.ticks_a.0 d.ticks_a.1 h)

pub round-by : (P : World → Type 0) → StepsKeep P → (ms : ℕ) (told : Calm) (w v : World) → Round ms told w v → P w → P v
round-by P k ms told w v d h = kept-round P (keeps-all P k) ms told w v d (ticked-by P k ms told w v d h)

pub kept-rounds : (P : World → Type 0) (ms : ℕ) → ((told : Calm) (w v : World) → Round ms told w v → P w → P v) → (n : ℕ) (told : Calm) (w v : World) → Rounds ms n told w v → P w → P v
kept-rounds P ms one zero told w v d h = subst P (sym d.1) h
kept-rounds P ms one (suc n) told w v d h = one d.1 d.2 v d.4 (kept-rounds P ms one n d.0 w d.2 d.3 h)

pub reached-ticked : (joined : Bool) (ms : ℕ) (told : Calm) (w v : World) (d : Round ms told w v) → IsReached joined w → IsReached joined d.ticked
reached-ticked joined = ticked-by (IsReached joined) (reached-steps joined)

pub habits-ticked : (ms : ℕ) (told : Calm) (w v : World) (d : Round ms told w v) → Habits w → Habits d.ticked
habits-ticked = ticked-by Habits habits-step

pub reached-round : (joined : Bool) (ms : ℕ) (told : Calm) (w v : World) → Round ms told w v → IsReached joined w → IsReached joined v
reached-round joined = round-by (IsReached joined) (reached-steps joined)

pub ticked-clocks : (ms : ℕ) (told : Calm) (w v : World) (d : Round ms told w v) → (side : Side) → clock_at d.ticked side ≡ clock_after (clock_at w side) ms
ticked-clocks ms told w v d A =
    let a = tick-clock w d.ticked_a A ms d.ticks_a.0 d.ticks_a.1 in
    let b = tick-clock d.ticked_a d.ticked B ms d.ticks_b.0 d.ticks_b.1 in
    b.1 ∙ a.0
ticked-clocks ms told w v d B =
    let a = tick-clock w d.ticked_a A ms d.ticks_a.0 d.ticks_a.1 in
    let b = tick-clock d.ticked_a d.ticked B ms d.ticks_b.0 d.ticks_b.1 in
    b.0 ∙ ap (λ (c : ℕ). clock_after c ms) a.1

pub round-clocks : (ms : ℕ) (told : Calm) (w v : World) → Round ms told w v → (side : Side) → clock_at v side ≡ clock_after (clock_at w side) ms
round-clocks ms told w v d side = kept-round (StandStill d.ticked) (still-keeps d.ticked) ms told w v d (λ at. refl) side ∙ ticked-clocks ms told w v d side

patient : (joined : Bool) (w : World) (x : ℕ) (side : Side) (own far : End) (u : Up joined w x side own far) → (p : Peering) → own.peer ≡ Some p → p.state ≡ state.Connected
patient joined w x side own far u p is = ap (λ (y : Peering). y.state) (same-some p u.p (sym is ∙ u.is_p)) ∙ u.on_p

-- both clocks went on, and both ends are connected still
pub record AtMoment (joined : Bool) (v : World) (x now there : ℕ) (own far : End) : Type 0 where
  pub one : End
  pub two : End
  pub up : Up joined v x A one two
  pub ticks_one : Ticks now own far one
  pub ticks_two : Ticks there far one two

-- or an end is past
at-moment : (joined : Bool) (ms : ℕ) (told : Calm) (w v : World) (x : ℕ) (own far : End) → IsReached joined w → Up joined w x A own far → (d : Round ms told w v)
    → AtMoment joined d.ticked x (clock_after (clock_at w A) ms) (clock_after (clock_at w B) ms) own far ⊎ IsDown d.ticked x
at-moment joined ms told w v x own far r u d = first (ticked joined w d.ticked_a x A ms d.ticks_a.0 own far r d.ticks_a.1 u)
  where
    now : ℕ
    now = clock_after (clock_at w A) ms

    r_a : IsReached joined d.ticked_a
    r_a = reached-step joined w d.ticked_a (happen.Tick A ms) d.ticks_a.0 r d.ticks_a.1

    a_still : clock_at d.ticked_a B ≡ clock_at w B
    a_still = (tick-clock w d.ticked_a A ms d.ticks_a.0 d.ticks_a.1).1

    Both : Type 0
    Both = AtMoment joined d.ticked x now (clock_after (clock_at w B) ms) own far ⊎ IsDown d.ticked x

    first : Ticked joined d.ticked_a x A now own far ⊎ IsDown d.ticked_a x → Both
    first (inr down) = inr (down-step joined d.ticked_a d.ticked x (happen.Tick B ms) d.ticks_b.0 r_a d.ticks_b.1 down)
    first (inl t) = elim (ticked joined d.ticked_a d.ticked x B ms d.ticks_b.0 far t.0 r_a d.ticks_b.1 (up-swapped joined d.ticked_a x A t.0 far t.1)) [
      | inr down ↦ inr down
      | inl s ↦ inl (record { one = t.0; two = s.0; up = up-swapped joined d.ticked x B s.0 t.0 s.1; ticks_one = t.2; ticks_two = subst (λ (c : ℕ). Ticks (clock_after c ms) far t.0 s.0) a_still s.2 })
    ]

-- not where the patience of both lasts
pub at-moment-on : (joined : Bool) (ms : ℕ) (told : Calm) (w v : World) (x : ℕ) (own far : End) → IsReached joined w → (u : Up joined w x A own far) → (d : Round ms told w v)
    → has_ended u.p.outbox (clock_after (clock_at w A) ms) u.p.patience u.p.heard ≡ false → has_ended u.q.outbox (clock_after (clock_at w B) ms) u.q.patience u.q.heard ≡ false
    → AtMoment joined d.ticked x (clock_after (clock_at w A) ms) (clock_after (clock_at w B) ms) own far
at-moment-on joined ms told w v x own far r u d lasts_a lasts_b =
    record { one = t.0; two = s.0; up = up-swapped joined d.ticked x B s.0 t.0 s.1; ticks_one = t.2; ticks_two = subst (λ (c : ℕ). Ticks (clock_after c ms) far t.0 s.0) a_still s.2 }
  where
    r_a : IsReached joined d.ticked_a
    r_a = reached-step joined w d.ticked_a (happen.Tick A ms) d.ticks_a.0 r d.ticks_a.1

    a_still : clock_at d.ticked_a B ≡ clock_at w B
    a_still = (tick-clock w d.ticked_a A ms d.ticks_a.0 d.ticks_a.1).1

    t : Ticked joined d.ticked_a x A (clock_after (clock_at w A) ms) own far
    t = ticked-on joined w d.ticked_a x A ms d.ticks_a.0 own far r d.ticks_a.1 u lasts_a

    back : Up joined d.ticked_a x B far t.0
    back = up-swapped joined d.ticked_a x A t.0 far t.1

    same : back.p ≡ u.q
    same = same-some back.p u.q (sym back.is_p ∙ u.is_q)

    s : Ticked joined d.ticked x B (clock_after (clock_at d.ticked_a B) ms) far t.0
    s = ticked-on joined d.ticked_a d.ticked x B ms d.ticks_b.0 far t.0 r_a d.ticks_b.1 back
        (ap (λ (y : Peering). has_ended y.outbox (clock_after (clock_at d.ticked_a B) ms) y.patience y.heard) same ∙ ap (λ (c : ℕ). has_ended u.q.outbox (clock_after c ms) u.q.patience u.q.heard) a_still ∙ lasts_b)

-- and all else that happens in the round leaves both connected: it is one of the law of progress
pub round-goes-on : (joined : Bool) (ms : ℕ) (told : Calm) (w v : World) (x : ℕ) (own far : End) → IsReached joined w → Habits w → (d : Round ms told w v) → Smooth told.a → Smooth told.b
    → AtMoment joined d.ticked x (clock_after (clock_at w A) ms) (clock_after (clock_at w B) ms) own far → Rounded joined v x (clock_after (clock_at w A) ms) (clock_after (clock_at w B) ms) own far
round-goes-on joined ms told w v x own far r habits d a b m = record {
  one = k.1;
  two = l.1;
  up = up-swapped joined v x B l.1 k.1 l.2;
  round = record {
    one = m.one;
    ticks_one = m.ticks_one;
    patient_one = patient joined d.ticked x A m.one m.two m.up;
    two = m.two;
    ticks_two = m.ticks_two;
    patient_two = patient joined d.ticked x B m.two m.one (up-swapped joined d.ticked x A m.one m.two m.up);
    one_out = f.0;
    two_in = f.1;
    forth = f.3;
    two_out = g.0;
    one_in = g.1;
    back = g.3;
    events_one = k.0;
    takes_one = k.3;
    events_two = l.0;
    takes_two = l.3;
  };
  empty_one = k.4;
  empty_two = l.4;
}
  where
    now : ℕ
    now = clock_after (clock_at w A) ms

    there : ℕ
    there = clock_after (clock_at w B) ms

    reached : Along (IsReached joined) ms told w v d
    reached = along (IsReached joined) (reached-keeps joined) ms told w v d (reached-ticked joined ms told w v d r)

    kept : Along Habits ms told w v d
    kept = along Habits habits-keeps ms told w v d (habits-ticked ms told w v d habits)

    cuts_a : (d.cut_forth ≡ 0) × (d.cut_a ≡ 0)
    cuts_a = no-more d.cut_forth d.cut_a told.a.cut_short a.cut d.all_a

    cuts_b : (d.cut_back ≡ 0) × (d.cut_b ≡ 0)
    cuts_b = no-more d.cut_back d.cut_b told.b.cut_short b.cut d.all_b

    clocks : (side : Side) → clock_at d.ticked side ≡ clock_after (clock_at w side) ms
    clocks = ticked-clocks ms told w v d

    still : Along (StandStill d.ticked) ms told w v d
    still = along (StandStill d.ticked) (still-keeps d.ticked) ms told w v d (λ at. refl)

    f : PutsOutAll joined d.sent_a x A now there m.one m.two
    f = puts-all-out joined d.ticked d.sent_a x A m.one m.two now there told.a.sent told.a.refused told.a.stopped d.cut_forth (clocks A) (clocks B) reached.ticked kept.ticked m.up d.forth a.refused a.stopped cuts_a.0

    g : PutsOutAll joined d.sent x B there now f.1 f.0
    g = puts-all-out joined d.sent_a d.sent x B f.1 f.0 there now told.b.sent told.b.refused told.b.stopped d.cut_back (still.sent_a B ∙ clocks B) (still.sent_a A ∙ clocks A) reached.sent_a kept.sent_a (up-swapped joined d.sent_a x A f.0 f.1 f.2) d.back b.refused b.stopped cuts_b.0

    k : TakesOut joined d.taken_a x A g.1 g.0
    k = takes-all joined d.sent d.taken_a x A g.1 g.0 told.a.taken d.cut_a reached.sent (up-swapped joined d.sent x B g.0 g.1 g.2) d.takes_a cuts_a.1

    l : TakesOut joined v x B g.0 k.1
    l = takes-all joined d.taken_a v x B g.0 k.1 told.b.taken d.cut_b reached.taken_a (up-swapped joined d.taken_a x A k.1 g.0 k.2) d.takes_b cuts_b.1

-- a round is one of the law of progress, or an end is past
round-goes : (joined : Bool) (ms : ℕ) (told : Calm) (w v : World) (x : ℕ) (own far : End) → IsReached joined w → Habits w → Up joined w x A own far → (d : Round ms told w v) → Smooth told.a → Smooth told.b
    → Rounded joined v x (clock_after (clock_at w A) ms) (clock_after (clock_at w B) ms) own far ⊎ IsDown v x
round-goes joined ms told w v x own far r habits u d a b = elim (at-moment joined ms told w v x own far r u d) [
  | inl m ↦ inl (round-goes-on joined ms told w v x own far r habits d a b m)
  | inr down ↦ (let l = kept-round (IsLost joined x) (keeps-all (IsLost joined x) (lost-step joined x)) ms told w v d (reached-ticked joined ms told w v d r, down) in inr l.1)
]

-- ---- rounds
abbrev moments : ℕ → ℕ → ℕ → ℕ → List (ℕ × ℕ)
moments zero ms a b = []
moments (suc n) ms a b = moments n ms a b ++ (clock_by_rounds (suc n) ms a, clock_by_rounds (suc n) ms b) ∷ []

open-at : (joined : Bool) (w : World) (x : ℕ) (side : Side) (own far : End) → IsReached joined w → (u : Up joined w x side own far) → IsOpen own u.p
open-at joined w x side own far r u = record { is = u.is_p; connected = u.on_p; fit = λ when. all-fits u.p when (named-fits joined w r side u.ends.e.name u.p (named-up joined w x side own far u)) }

open-of : (joined : Bool) (w : World) (x : ℕ) (side : Side) (own far : End) → IsReached joined w → Up joined w x side own far → (p : Peering) → own.peer ≡ Some p → IsOpen own p
open-of joined w x side own far r u p is = subst (λ (y : Peering). IsOpen own y) (same-some u.p p (sym u.is_p ∙ is)) (open-at joined w x side own far r u)

one-more : (ms : List (ℕ × ℕ)) (m : ℕ × ℕ) (c b d : Connection) (p q : Peering) → RoundsInTurn ms c b → IsOpen b.one p → IsOpen b.two q → RoundInTurn m.0 m.1 b d → RoundsInTurn (ms ++ m ∷ []) c d
one-more [] m c b d p q all one two round = subst (λ (y : Connection). RoundsInTurn (m ∷ []) y d) all (p, q, one, two, d, round, refl)
one-more (n ∷ ms) m c b d p q all one two round = (all.0, all.1, all.2, all.3, all.4, all.5, one-more ms m all.4 b d p q all.6 one two round)

none-summed : (m n most : ℕ) → 0 < most → min (m + n) most ≡ 0 → (m ≡ 0) × (n ≡ 0)
none-summed m n most some e = (grind arith, grind arith)

pub no-sum : (m n : ℕ) → sum m n ≡ 0 → (m ≡ 0) × (n ≡ 0)
no-sum m n e = none-summed m n 18446744073709551615 (omega arith) e

pub smooth-parts : (s t u : Share) → u ≡ both s t → Smooth u → Smooth s × Smooth t
smooth-parts s t u e k =
    let refused = no-sum s.refused t.refused (ap (λ (y : Share). y.refused) (sym e) ∙ k.refused) in
    let stopped = no-sum s.stopped t.stopped (ap (λ (y : Share). y.stopped) (sym e) ∙ k.stopped) in
    let cut = no-sum s.cut_short t.cut_short (ap (λ (y : Share). y.cut_short) (sym e) ∙ k.cut) in
    (record { refused = refused.0; stopped = stopped.0; cut = cut.0 }, record { refused = refused.1; stopped = stopped.1; cut = cut.1 })

record AllRounded (joined : Bool) (n ms : ℕ) (w v : World) (x : ℕ) (own far : End) : Type 0 where
  one : End
  two : End
  up : Up joined v x A one two
  rounds : RoundsInTurn (moments n ms (clock_at w A) (clock_at w B)) (record { one = own; two = far }) (record { one = one; two = two })
  empty_one : 0 < n → IsEmpty one
  empty_two : 0 < n → IsEmpty two

rounds-clocks : (ms n : ℕ) (told : Calm) (w v : World) → Rounds ms n told w v → (side : Side) → clock_at v side ≡ clock_by_rounds n ms (clock_at w side)
rounds-clocks ms zero told w v d side = ap (λ (u : World). clock_at u side) d.1
rounds-clocks ms (suc n) told w v d side = round-clocks ms d.1 d.2 v d.4 side ∙ ap (λ (c : ℕ). clock_after c ms) (rounds-clocks ms n d.0 w d.2 d.3 side)

pub reached-rounds : (joined : Bool) (ms n : ℕ) (told : Calm) (w v : World) → Rounds ms n told w v → IsReached joined w → IsReached joined v
reached-rounds joined ms = kept-rounds (IsReached joined) ms (reached-round joined ms)

pub habits-rounds : (ms n : ℕ) (told : Calm) (w v : World) → Rounds ms n told w v → Habits w → Habits v
habits-rounds ms = kept-rounds Habits ms (round-by Habits habits-step ms)

rounds-go : (joined : Bool) (ms n : ℕ) (told : Calm) (w v : World) (x : ℕ) (own far : End) → IsReached joined w → Habits w → Up joined w x A own far → Rounds ms n told w v → Smooth told.a → Smooth told.b
    → AllRounded joined n ms w v x own far ⊎ IsDown v x
rounds-go joined ms zero told w v x own far r habits u d a b =
    inl (record { one = own; two = far; up = subst (λ (y : World). Up joined y x A own far) (sym d.1) u; rounds = refl; empty_one = λ h. absurd (omega arith); empty_two = λ h. absurd (omega arith) })
rounds-go joined ms (suc n) told w v x own far r habits u d a b = by (rounds-go joined ms n d.0 w d.2 x own far r habits u d.3 parts_a.0 parts_b.0)
  where
    parts_a : Smooth d.0.a × Smooth d.1.a
    parts_a = smooth-parts d.0.a d.1.a told.a (ap (λ (y : Calm). y.a) d.5) a

    parts_b : Smooth d.0.b × Smooth d.1.b
    parts_b = smooth-parts d.0.b d.1.b told.b (ap (λ (y : Calm). y.b) d.5) b

    between : IsReached joined d.2
    between = reached-rounds joined ms n d.0 w d.2 d.3 r

    now : clock_after (clock_at d.2 A) ms ≡ clock_by_rounds (suc n) ms (clock_at w A)
    now = ap (λ (c : ℕ). clock_after c ms) (rounds-clocks ms n d.0 w d.2 d.3 A)

    there : clock_after (clock_at d.2 B) ms ≡ clock_by_rounds (suc n) ms (clock_at w B)
    there = ap (λ (c : ℕ). clock_after c ms) (rounds-clocks ms n d.0 w d.2 d.3 B)

    by : AllRounded joined n ms w d.2 x own far ⊎ IsDown d.2 x → AllRounded joined (suc n) ms w v x own far ⊎ IsDown v x
    by (inr down) = inr (let l = round-by (IsLost joined x) (lost-step joined x) ms d.1 d.2 v d.4 (between, down) in l.1)
    by (inl k) = elim (round-goes joined ms d.1 d.2 v x k.one k.two between (habits-rounds ms n d.0 w d.2 d.3 habits) k.up d.4 parts_a.1 parts_b.1) [
      | inr down ↦ inr down
      | inl l ↦
          let round : RoundInTurn (clock_by_rounds (suc n) ms (clock_at w A)) (clock_by_rounds (suc n) ms (clock_at w B)) (record { one = k.one; two = k.two }) (record { one = l.one; two = l.two }) =
          subst (λ (i : ℕ). RoundInTurn i (clock_by_rounds (suc n) ms (clock_at w B)) (record { one = k.one; two = k.two }) (record { one = l.one; two = l.two })) now
          (subst (λ (i : ℕ). RoundInTurn (clock_after (clock_at d.2 A) ms) i (record { one = k.one; two = k.two }) (record { one = l.one; two = l.two })) there l.round) in
          inl (record {
            one = l.one;
            two = l.two;
            up = l.up;
            rounds = one-more (moments n ms (clock_at w A) (clock_at w B)) (clock_by_rounds (suc n) ms (clock_at w A), clock_by_rounds (suc n) ms (clock_at w B)) (record { one = own; two = far }) (record { one = k.one; two = k.two })
                (record { one = l.one; two = l.two }) k.up.p k.up.q k.rounds (open-at joined d.2 x A k.one k.two between k.up) (open-of joined d.2 x B k.two k.one between (up-swapped joined d.2 x A k.one k.two k.up) k.up.q k.up.is_q) round;
            empty_one = λ h. l.empty_one;
            empty_two = λ h. l.empty_two;
          })
    ]

-- ---- the moment by which all timeouts are over, and those after it
record Split (ms a b k n : ℕ) : Type 0 where
  later : List (ℕ × ℕ)
  many : length later + suc k ≡ n
  is : moments n ms a b ≡ moments k ms a b ++ (clock_by_rounds (suc k) ms a, clock_by_rounds (suc k) ms b) ∷ later

split : (ms a b k r n : ℕ) → n ≡ r + suc k → Split ms a b k n
split ms a b k zero n e = (let same : suc k ≡ n = omega arith in subst (Split ms a b k) same (record { later = []; many = omega arith; is = refl }))
split ms a b k (suc r) n e =
    let m : ℕ = r + suc k in
    let s : Split ms a b k m = split ms a b k r m refl in
    let last : List (ℕ × ℕ) = (clock_by_rounds (suc m) ms a, clock_by_rounds (suc m) ms b) ∷ [] in
    let same : suc m ≡ n = omega arith in
    let long : length (s.later ++ last) ≡ length s.later + 1 = length-append s.later last in
    let was : length s.later + suc k ≡ m = s.many in
    subst (Split ms a b k) same (record {
      later = s.later ++ last;
      many = omega arith;
      is = ap (λ (l : List (ℕ × ℕ)). l ++ last) s.is ∙ append_assoc (moments k ms a b) ((clock_by_rounds (suc k) ms a, clock_by_rounds (suc k) ms b) ∷ s.later) last;
    })

-- ---- what the hosts show in the end
even : (n : ℕ) → (n % 2 == 1) ≡ false → n % 2 ≡ 0
even n h = grind (arith, nat_tests)

-- a packet that doesn't go reliable isn't flagged so
unflagged : (mtu count : ℕ) (p : command_choice.Packet) → goes_reliable mtu count p ≡ false → p.flags % 2 ≡ 0
unflagged mtu count p h = even p.flags ((or-both (p.flags % 2 == 1) (count == 65535) (or-both ((p.flags % 2 == 1) || count == 65535) (is_long mtu p && not (is_flagged_unreliable_fragment p)) h).0).0)

-- nor is one that goes unsequenced
and-not : (a b c : Bool) → (a && not b && not c) ≡ true → b ≡ false
and-not true true c h = absurd (let y : false ≡ true = h in cc)
and-not true false c h = refl
and-not false b c h = absurd (let y : false ≡ true = h in cc)

unordered : (mtu : ℕ) (p : command_choice.Packet) → is_unsequenced mtu p ≡ true → p.flags % 2 ≡ 0
unordered mtu p h = even p.flags (and-not (is_flagged_unsequenced p) (p.flags % 2 == 1) (is_long mtu p) h)

-- of all packets that were submitted, those of a channel
all-came : (mtu count channel : ℕ) (ps : List Packet) (bs : List (List ℕ)) → AllDispatched (carried_from mtu count (of_channel mtu channel ps)) bs → AllCame (on_channel channel ps) bs
all-came mtu count channel [] bs h = h
all-came mtu count channel (p ∷ ps) bs h = by (p.channel == channel) (is_unsequenced mtu q) refl (λ n ds k. all-came mtu n channel ps ds k) h
  where
    q : command_choice.Packet
    q = record { flags = p.flags; body = p.body }

    on : Bool → Bool → List command_choice.Packet
    on here apart = cond (here && not apart) (q ∷ of_channel mtu channel ps) (of_channel mtu channel ps)

    by : (here apart : Bool) → is_unsequenced mtu q ≡ apart → ((n : ℕ) (ds : List (List ℕ)) → AllDispatched (carried_from mtu n (of_channel mtu channel ps)) ds → AllCame (on_channel channel ps) ds)
        → AllDispatched (carried_from mtu count (on here apart)) bs → AllCame (cond here (p ∷ on_channel channel ps) (on_channel channel ps)) bs
    by false apart e more k = more count bs k
    by true true e more k = inr (unordered mtu q e, more count bs k)
    by true false e more (inl k) = inl (k.0, k.1, more (cond (goes_reliable mtu count q) 0 (count + 1)) k.0 k.2)
    by true false e more (inr k) = inr (unflagged mtu count q k.0, more (cond (goes_reliable mtu count q) 0 (count + 1)) bs k.1)

-- what an end's user took, as its host tells it
told-came : (channel : ℕ) (name : PeerRef) (es : List PeerEvent) → bodies_of (in_sequence channel (packets_of es)) ≡ came channel (map (event_of name) es)
told-came channel name [] = refl
told-came channel name (told.Connect info ∷ es) = told-came channel name es
told-came channel name (told.Disconnect info ∷ es) = told-came channel name es
told-came channel name (told.Receive q ∷ es) = by (q.channel == channel && not (q.flags == 2)) (told-came channel name es)
  where
    one : Dispatched
    one = record { flags = q.flags; body = q.body }

    by : (t : Bool) → bodies_of (in_sequence channel (packets_of es)) ≡ came channel (map (event_of name) es)
        → bodies_of (cond t (one ∷ in_sequence channel (packets_of es)) (in_sequence channel (packets_of es))) ≡ cond t (q.body ∷ came channel (map (event_of name) es)) (came channel (map (event_of name) es))
    by true rest = ap (λ (l : List (List ℕ)). q.body ∷ l) rest
    by false rest = rest

through-sides : (s t : Site) (x : ℕ) (e f : HostEnd) (own far : End) (q : Peering) (channel : ℕ) → end_of x s.ends ≡ Some e → end_of x t.ends ≡ Some f → Shows s e own → Shows t f far → far.peer ≡ Some q → q.inbox.untaken ≡ [] → channel < 255 → IsThrough own far q channel
    → AllCame (submitted_at channel (end_of x s.ends)) (came channel (events_at (end_of x t.ends)))
through-sides s t x e f own far q channel is_e is_f a b is empty low through =
    subst (λ (o : Option HostEnd). AllCame (submitted_at channel o) (came channel (events_at (end_of x t.ends)))) (sym is_e)
    (subst (λ (o : Option HostEnd). AllCame (packets_at e.channels channel).submitted (came channel (events_at o))) (sym is_f)
    (subst (λ (l : List Packet). AllCame l (came channel f.events)) (sym (a.submitted channel (omega arith)))
    (subst (λ (l : List (List ℕ)). AllCame (on_channel channel own.submitted) l) taken (all-came (mtu_of own) 0 channel own.submitted (bodies_of all) through))))
  where
    all : List Dispatched
    all = in_sequence channel (packets_of far.events) ++ in_sequence channel q.inbox.untaken

    taken : bodies_of all ≡ came channel f.events
    taken = ap (λ (l : List Packet). bodies_of (in_sequence channel (packets_of far.events) ++ in_sequence channel l)) empty ∙ ap bodies_of (append-nil (in_sequence channel (packets_of far.events)))
        ∙ told-came channel f.name far.events ∙ ap (came channel) (sym b.events)

-- ---- before and after
-- a host has an end of connection x, and its peer is connected
pub record IsConnected (s : Site) (x : ℕ) : Type 0 where
  pub stands : Stands s x
  pub connected : stands.peer.state ≡ state.Connected

pub connected-at : (s : Site) (x : ℕ) → state_at s x ≡ Some state.Connected → IsConnected s x
connected-at s x h = by (end_of x s.ends) refl h
  where
    by-peer : (e : HostEnd) → end_of x s.ends ≡ Some e → (o : Option Peering) → named s.host.slots e.name ≡ o → option_map (λ (p : Peering). p.state) o ≡ Some state.Connected → IsConnected s x
    by-peer e there None is k = absurd (let z : ◌≡◌ {A = Option PeerState} None (Some state.Connected) = k in cc)
    by-peer e there (Some p) is k = record { stands = record { end = e; there = there; peer = p; is = is }; connected = same-some p.state state.Connected k }

    by : (o : Option HostEnd) → end_of x s.ends ≡ o → option_map (λ (p : Peering). p.state) (option_and_then (λ (e : HostEnd). named s.host.slots e.name) o) ≡ Some state.Connected → IsConnected s x
    by None there k = absurd (let z : ◌≡◌ {A = Option PeerState} None (Some state.Connected) = k in cc)
    by (Some e) there k = by-peer e there (named s.host.slots e.name) refl k

-- the peer that stands there
pub peer-stands : (s : Site) (x : ℕ) (a : Stands s x) (p : Peering) → peer_at s x ≡ Some p → a.peer ≡ p
peer-stands s x a p h = same-some a.peer p (sym a.is ∙ ap (λ (o : Option HostEnd). option_and_then (λ (e : HostEnd). named s.host.slots e.name) o) (sym a.there) ∙ h)

-- a host that is connected shows an end whose peer is
pub connected-peer : (s : Site) (count x : ℕ) (e : HostEnd) (own : End) → IsHost s count → Has s.ends e → e.connection ≡ x → Shows s e own → (c : IsConnected s x) → own.peer ≡ Some c.stands.peer
connected-peer s count x e own k h of a c =
    let b : Shows s c.stands.end own = standing s count x own k (inl (e, h, of, a)) c.stands in
    b.has ∙ ap Some (same-peer s.host c.stands.end.name b.peer c.stands.peer b.shows c.stands.is)

not-down : (joined : Bool) (w : World) (x : ℕ) → IsReached joined w → IsConnected w.a x → IsConnected w.b x → IsDown w x → ⊥
not-down joined w x r a b d = elim d.past [
  | inl p ↦ not-past a.stands.peer.state a.connected (ap (λ (y : Peering). is_past y.state) (same-some a.stands.peer p.0 (sym (connected-peer w.a w.count x d.ends.e d.own s.a d.ends.here d.ends.of_e d.ends.shows a) ∙ p.1)) ∙ p.2)
  | inr p ↦ not-past b.stands.peer.state b.connected (ap (λ (y : Peering). is_past y.state) (same-some b.stands.peer p.0 (sym (connected-peer w.b w.count x d.ends.f d.far s.b d.ends.there d.ends.of_f d.ends.shows_far b) ∙ p.1)) ∙ p.2)
]
  where
    s : Sound (from_start joined) w
    s = sound joined w r

-- the end of a connection that a host has
equal-so : (a b : ℕ) → (a == b) ≡ true → a ≡ b
equal-so a b e = grind (arith, nat_tests)

pub end-has : (ends : List HostEnd) (x : ℕ) (e : HostEnd) → end_of x ends ≡ Some e → Has ends e × (e.connection ≡ x)
end-has [] x e is = absurd (let z : ◌≡◌ {A = Option HostEnd} None (Some e) = is in cc)
end-has (f ∷ ends) x e is = by (f.connection == x) refl is (λ h. end-has ends x e h)
  where
    by : (b : Bool) → (f.connection == x) ≡ b → cond b (Some f) (end_of x ends) ≡ Some e → (end_of x ends ≡ Some e → Has ends e × (e.connection ≡ x)) → Has (f ∷ ends) e × (e.connection ≡ x)
    by true t h rest = (let same : f ≡ e = same-some f e h in (inl same, ap (λ (y : HostEnd). y.connection) (sym same) ∙ equal-so f.connection x t))
    by false t h rest = (let found = rest h in (inr found.0, found.1))

joint-of : (j : Bool) (one two : End) → KeptEither j one two → Joint j one two
joint-of j one two (inl k) = k.connection
joint-of j one two (inr k) = joint-swap j two one k.connection

-- both are connected before the rounds
pub record Begun (joined : Bool) (w : World) (x : ℕ) (p q : Peering) : Type 0 where
  pub own : End
  pub far : End
  pub up : Up joined w x A own far
  pub same_p : up.p ≡ p
  pub same_q : up.q ≡ q

pub begun : (joined : Bool) (w : World) (x : ℕ) → IsReached joined w → (a : IsConnected w.a x) (b : IsConnected w.b x) → Begun joined w x a.stands.peer b.stands.peer
begun joined w x r a b = record {
  own = pair.one;
  far = pair.two;
  up = record {
    ends = record { e = a.stands.end; f = b.stands.end; here = here.0; there = there.0; of_e = here.1; of_f = there.1; shows = one; shows_far = two };
    joint = joint-of (from_start joined x) pair.one pair.two pair.kept;
    p = a.stands.peer;
    q = b.stands.peer;
    is_p = connected-peer w.a w.count x a.stands.end pair.one s.a here.0 here.1 one a;
    is_q = connected-peer w.b w.count x b.stands.end pair.two s.b there.0 there.1 two b;
    on_p = a.connected;
    on_q = b.connected;
  };
  same_p = refl;
  same_q = refl;
}
  where
    s : Sound (from_start joined) w
    s = sound joined w r

    here : Has w.a.ends a.stands.end × (a.stands.end.connection ≡ x)
    here = end-has w.a.ends x a.stands.end a.stands.there

    there : Has w.b.ends b.stands.end × (b.stands.end.connection ≡ x)
    there = end-has w.b.ends x b.stands.end b.stands.there

    low : x < w.count
    low = (let l : a.stands.end.connection < w.count = s.a.below a.stands.end here.0 in let e : a.stands.end.connection ≡ x = here.1 in omega arith)

    pair : Pair (from_start joined x) w.a w.b x
    pair = s.pairs x low

    one : Shows w.a a.stands.end pair.one
    one = standing w.a w.count x pair.one s.a pair.here a.stands

    two : Shows w.b b.stands.end pair.two
    two = standing w.b w.count x pair.two s.b pair.there b.stands

pub smooth-so : (s : Share) → is_smooth s ≡ true → Smooth s
smooth-so s e = record { refused = grind (arith, nat_tests); stopped = grind (arith, nat_tests); cut = grind (arith, nat_tests) }

pub shown-end-of : (s : Site) (count x : ℕ) (e : HostEnd) → IsHost s count → Has s.ends e → e.connection ≡ x → end_of x s.ends ≡ Some e
shown-end-of s count x e k h of = subst (λ (n : ℕ). end_of n s.ends ≡ Some e) of (end-there s.ends e h (k.apart e h))

parted : (n m : ℕ) → m ≤ n → (r : ℕ) × (n ≡ r + m)
parted n zero h = (n, omega arith)
parted zero (suc m) h = absurd (omega arith)
parted (suc n) (suc m) h = (let g = parted n m (omega arith) in (g.0, let e : n ≡ g.0 + m = g.1 in omega arith))

-- both ends of a connection whose peers are connected
begun-at : (joined : Bool) (old : World) (x : ℕ) → IsReached joined old → (before : AreConnected old x) → Begun joined old x (connected-at old.a x before.0).stands.peer (connected-at old.b x before.1).stands.peer
begun-at joined old x r before = begun joined old x r (connected-at old.a x before.0) (connected-at old.b x before.1)

-- where the rounds are enough, nothing is outstanding at either
through-by : (joined : Bool) (ms rounds : ℕ) (old new : World) (x : ℕ) (r : IsReached joined old) (before : AreConnected old x) → AreEnough ms rounds old x
    → (k : AllRounded joined rounds ms old new x (begun-at joined old x r before).own (begun-at joined old x r before).far) → BothThrough (record { one = k.one; two = k.two })
through-by joined ms rounds old new x r before enough k = by (waits-suc enough.waits refl)
  where
    here : IsConnected old.a x
    here = connected-at old.a x before.0

    there : IsConnected old.b x
    there = connected-at old.b x before.1

    first : Begun joined old x here.stands.peer there.stands.peer
    first = begun-at joined old x r before

    -- so many rounds, and the others
    waits-suc : (n : ℕ) → enough.waits ≡ n → (m : ℕ) × (enough.waits ≡ suc m)
    waits-suc zero e = absurd (let z : 0 < enough.waits = enough.some in omega arith)
    waits-suc (suc m) e = (m, e)

    same_p : enough.p ≡ here.stands.peer
    same_p = sym (peer-stands old.a x here.stands enough.p enough.is_p)

    same_q : enough.q ≡ there.stands.peer
    same_q = sym (peer-stands old.b x there.stands enough.q enough.is_q)

    few : enough.waits + 2 * (outstanding_over here.stands.peer.outbox.senders + outstanding_over there.stands.peer.outbox.senders) ≤ rounds
    few = subst (λ (y : Peering). enough.waits + 2 * (outstanding_over y.outbox.senders + outstanding_over there.stands.peer.outbox.senders) ≤ rounds) same_p
        (subst (λ (y : Peering). enough.waits + 2 * (outstanding_over enough.p.outbox.senders + outstanding_over y.outbox.senders) ≤ rounds) same_q enough.enough)

    by : (m : ℕ) × (enough.waits ≡ suc m) → BothThrough (record { one = k.one; two = k.two })
    by w = all-in-turn (from_start joined x) (moments w.0 ms (clock_at old A) (clock_at old B)) (clock_by_rounds (suc w.0) ms (clock_at old A)) (clock_by_rounds (suc w.0) ms (clock_at old B)) cut.later
        (record { one = first.own; two = first.far }) (record { one = k.one; two = k.two }) here.stands.peer there.stands.peer first.up.joint (first.up.is_p ∙ ap Some first.same_p) (first.up.is_q ∙ ap Some first.same_q)
        (subst (λ (n : ℕ). AllOver (clock_by_rounds n ms (clock_at old A)) here.stands.peer) w.1 (subst (λ (y : Peering). AllOver (clock_by_rounds enough.waits ms (clock_at old A)) y) same_p enough.over_p)) (subst (λ (n : ℕ). AllOver (clock_by_rounds n ms (clock_at old B)) there.stands.peer) w.1 (subst (λ (y : Peering). AllOver (clock_by_rounds enough.waits ms (clock_at old B)) y) same_q enough.over_q))
        (subst (λ (l : List (ℕ × ℕ)). RoundsInTurn l (record { one = first.own; two = first.far }) (record { one = k.one; two = k.two })) cut.is k.rounds)
        (let a : enough.waits ≡ suc w.0 = w.1 in let b : length cut.later + suc w.0 ≡ rounds = cut.many in omega (arith, few))
      where
        rest : (m : ℕ) × (rounds ≡ m + suc w.0)
        rest = (let z : enough.waits ≡ suc w.0 = w.1 in parted rounds (suc w.0) (omega (arith, few)))

        cut : Split ms (clock_at old A) (clock_at old B) w.0 rounds
        cut = split ms (clock_at old A) (clock_at old B) w.0 rest.0 rounds rest.1

-- an end that is up at a side
pub up-state : (joined : Bool) (w : World) (x : ℕ) (side : Side) (own far : End) → IsReached joined w → (u : Up joined w x side own far) → state_at (site_of w side) x ≡ Some state.Connected
up-state joined w x side own far r u =
    ap (λ (o : Option HostEnd). option_map (λ (p : Peering). p.state) (option_and_then (λ (e : HostEnd). named (site_of w side).host.slots e.name) o))
    (shown-end-of (site_of w side) w.count x u.ends.e (host-at (from_start joined) w (sound joined w r) side) u.ends.here u.ends.of_e)
    ∙ ap (λ (o : Option Peering). option_map (λ (p : Peering). p.state) o) (named-up joined w x side own far u) ∙ ap (λ (s : PeerState). Some s) u.on_p

-- its peer is the one that the host has
same-up : (joined : Bool) (w : World) (x : ℕ) (side : Side) (own far own' far' : End) → IsReached joined w → (u : Up joined w x side own far) (v : Up joined w x side own' far') → u.p ≡ v.p
same-up joined w x side own far own' far' r u v =
    same-some u.p v.p (sym (named-up joined w x side own far u) ∙ ap (λ (e : HostEnd). named (site_of w side).host.slots e.name) same ∙ named-up joined w x side own' far' v)
  where
    end-is : (one two : End) (k : Up joined w x side one two) → end_of x (site_of w side).ends ≡ Some k.ends.e
    end-is one two k = shown-end-of (site_of w side) w.count x k.ends.e (host-at (from_start joined) w (sound joined w r) side) k.ends.here k.ends.of_e

    same : u.ends.e ≡ v.ends.e
    same = same-some u.ends.e v.ends.e (sym (end-is own far u) ∙ end-is own' far' v)

-- so where both ends are up after rounds that are enough, nothing waits for its acknowledgement on any channel
none-of-none : (xs : List SendingEnd) → outstanding_over xs ≡ 0 → (channel : ℕ) (t : Sent) → HasSent xs channel t → ⊥
none-of-none [] e channel t h = absurd (let z : ◌≡◌ {A = Option SendingEnd} None (Some h.0) = h.1 in cc)
none-of-none (s ∷ xs) e zero t h = none s.sender.sent t (subst (λ (y : SendingEnd). Has y.sender.sent t) (sym (same-some s h.0 h.1)) h.2) (let z = e in omega arith)
  where
    none : (l : List Sent) (y : Sent) → Has l y → length l ≡ 0 → ⊥
    none [] y k z = absurd k
    none (a ∷ l) y k z = (omega arith)
none-of-none (s ∷ xs) e (suc channel) t h = none-of-none xs (let z = e in omega arith) channel t h

pub nothing-sent : (joined : Bool) (ms rounds : ℕ) (told : Calm) (old new : World) (x : ℕ) → IsReached joined old → Habits old → AreConnected old x → AreEnough ms rounds old x → Rounds ms rounds told old new → Smooth told.a → Smooth told.b
    → (one two : End) → (u : Up joined new x A one two) → ((channel : ℕ) (t : Sent) → HasSent u.p.outbox.senders channel t → ⊥) × ((channel : ℕ) (t : Sent) → HasSent u.q.outbox.senders channel t → ⊥)
nothing-sent joined ms rounds told old new x r habits before enough d a b one two u = by (rounds-go joined ms rounds told old new x first.own first.far r habits first.up d a b)
  where
    first : Begun joined old x (connected-at old.a x before.0).stands.peer (connected-at old.b x before.1).stands.peer
    first = begun-at joined old x r before

    last : IsReached joined new
    last = reached-rounds joined ms rounds told old new d r

    by : AllRounded joined rounds ms old new x first.own first.far ⊎ IsDown new x → ((channel : ℕ) (t : Sent) → HasSent u.p.outbox.senders channel t → ⊥) × ((channel : ℕ) (t : Sent) → HasSent u.q.outbox.senders channel t → ⊥)
    by (inr down) = absurd (not-down joined new x last (connected-at new.a x (up-state joined new x A one two last u)) (connected-at new.b x (up-state joined new x B two one last (up-swapped joined new x A one two u))) down)
    by (inl k) = (
      (λ channel t h. none-of-none t'.one.outbox.senders (let z = t'.none in omega arith) channel t (subst (λ (y : Peering). HasSent y.outbox.senders channel t) (same-up joined new x A one two k.one k.two last u k.up ∙ sym (same-some t'.one k.up.p (sym t'.is_one ∙ k.up.is_p))) h)),
      (λ channel t h. none-of-none t'.two.outbox.senders (let z = t'.none in omega arith) channel t (subst (λ (y : Peering). HasSent y.outbox.senders channel t) (same-far ∙ sym (same-some t'.two k.up.q (sym t'.is_two ∙ k.up.is_q))) h)),
    )
      where
        t' : BothThrough (record { one = k.one; two = k.two })
        t' = through-by joined ms rounds old new x r before enough k

        u' : Up joined new x B two one
        u' = up-swapped joined new x A one two u

        k' : Up joined new x B k.two k.one
        k' = up-swapped joined new x A k.one k.two k.up

        same-far : u.q ≡ k.up.q
        same-far = same-some u.q u'.p (sym u.is_q ∙ u'.is_p) ∙ same-up joined new x B two one k.two k.one last u' k' ∙ same-some k'.p k.up.q (sym k'.is_p ∙ k.up.is_q)

pub gets-through : (joined : Bool) (ms rounds : ℕ) (told : Calm) (old new : World) → IsReached joined old → Habits old → Rounds ms rounds told old new → GetsThrough ms rounds told old new
gets-through joined ms rounds told old new r habits d x before after smooth enough channel low =
    by (rounds-go joined ms rounds told old new x first.own first.far r habits first.up d (smooth-so told.a parts_of.0) (smooth-so told.b parts_of.1))
  where
    here : IsConnected old.a x
    here = connected-at old.a x before.0

    there : IsConnected old.b x
    there = connected-at old.b x before.1

    after_a : IsConnected new.a x
    after_a = connected-at new.a x after.0

    after_b : IsConnected new.b x
    after_b = connected-at new.b x after.1

    first : Begun joined old x here.stands.peer there.stands.peer
    first = begun-at joined old x r before

    parts_of : (is_smooth told.a ≡ true) × (is_smooth told.b ≡ true)
    parts_of = both-so (is_smooth told.a) (is_smooth told.b) smooth

    last : IsReached joined new
    last = reached-rounds joined ms rounds told old new d r

    s : Sound (from_start joined) new
    s = sound joined new last

    by : AllRounded joined rounds ms old new x first.own first.far ⊎ IsDown new x → WasTaken new x A channel × WasTaken new x B channel
    by (inr down) = absurd (not-down joined new x last after_a after_b down)
    by (inl k) = ends
      where
        ends : WasTaken new x A channel × WasTaken new x B channel
        ends = (
          through-sides new.a new.b x k.up.ends.e k.up.ends.f k.one k.two k.up.q channel is_e is_f k.up.ends.shows k.up.ends.shows_far k.up.is_q (k.empty_two some k.up.q k.up.is_q) low
              (subst (λ (y : Peering). IsThrough k.one k.two y channel) (same-some t.two k.up.q (sym t.is_two ∙ k.up.is_q)) (t.forth channel low)),
          through-sides new.b new.a x k.up.ends.f k.up.ends.e k.two k.one k.up.p channel is_f is_e k.up.ends.shows_far k.up.ends.shows k.up.is_p (k.empty_one some k.up.p k.up.is_p) low
              (subst (λ (y : Peering). IsThrough k.two k.one y channel) (same-some t.one k.up.p (sym t.is_one ∙ k.up.is_p)) (t.back channel low)),
        )
          where
            some : 0 < rounds
            some = (let z : 0 < enough.waits = enough.some in let few = enough.enough in omega arith)

            is_e : end_of x new.a.ends ≡ Some k.up.ends.e
            is_e = shown-end-of new.a new.count x k.up.ends.e s.a k.up.ends.here k.up.ends.of_e

            is_f : end_of x new.b.ends ≡ Some k.up.ends.f
            is_f = shown-end-of new.b new.count x k.up.ends.f s.b k.up.ends.there k.up.ends.of_f

            t : BothThrough (record { one = k.one; two = k.two })
            t = through-by joined ms rounds old new x r before enough k
