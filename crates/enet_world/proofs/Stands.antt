-- Rounds of less than 30 seconds, in which nothing stood in the way before the last, leave two connected peers connected, where what waited for its
-- acknowledgement before them was young.
use Rattle.std.proofs.Common.{refl, ◌≡◌, ◌<◌, ◌⊎◌, inl, inr, ℕ, zero, suc, min, leb, Bool, true, false, sym, ap, subst, ◌∙◌, Option, Some, None, ◌+◌, ◌-◌, ◌*◌, ◌≤◌, arith, [], append-nil}
use Rattle.std.proofs.Math.Nat.{mul-le-mul_right}
use Rattle.std.specs.Option.{option_and_then}
use Rattle.enet_sender.specs.declared.sent.Sent.{Sent}
use Rattle.enet_peer.specs.declared.parts.PeerState.{PeerState}
use Rattle.enet_peer.specs.declared.parts.PeerState.TheVariants as state
use Rattle.enet_peer.specs.Peering.{Peering}
use Rattle.enet_host.specs.Host.{named}
use Rattle.enet_host.specs.Ticking.{clock_after}
use Rattle.law_connection.specs.Connection.{End}
use Rattle.law_network.specs.declared.event.Side.{Side}
use Rattle.law_network.specs.declared.event.Side.TheVariants.{A, B}
use Rattle.law_network.specs.Network.{HostEnd}
use Rattle.law_network.specs.World.{World, site_of}
use Rattle.law_network.proofs.Runs.{both}
use Rattle.law_progress.specs.Exchanges.{HasSent}
use Rattle.law_progress.proofs.Exchanges.{same-peer}
use Rattle.law_progress.proofs.Timed.{le-of, lt-of}
use Rattle.law_progress.proofs.Waiting.{Each}
use Rattle.enet_site.specs.Standing.{peer_at, state_at}
use Rattle.enet_world.specs.declared.calm.Calm.{Calm}
use Rattle.enet_world.specs.Calm.{Round, Rounds, is_smooth}
use Rattle.enet_world.specs.Ended.{IsStill}
use Rattle.enet_world.specs.Private.Worlds.{IsReached}
use Rattle.enet_world.specs.Progress.{AreConnected, AreEnough}
use Rattle.enet_world.specs.Stands.{AllYoung, BothStand}
use Rattle.enet_world.proofs.AnyRound.{AreUp, round-on}
use Rattle.enet_world.proofs.EndsAreTold.{IsHere, keeps, ticked, up-rises, same-named, nobody-so, Begins, begins as begins-in}
use Rattle.enet_world.proofs.Untouched.{is_up}
use Rattle.enet_world.proofs.Habits.{Habits, rests-at}
use Rattle.enet_world.proofs.InRounds.{clock_at, named-up, habit-up, lone-up}
use Rattle.enet_world.proofs.Punctual.{Rests}
use Rattle.enet_world.proofs.Steady.{IsPlain, Ready, HasMore, one-lasts, two-lasts, ready-first, ReadyAgain, steady-round}
use Rattle.enet_world.proofs.Through.{Smooth, smooth-so, smooth-parts, AtMoment, at-moment-on, Rounded, round-goes-on, round-clocks, habits-rounds, reached-rounds, IsConnected, connected-at, Begun, begun, kept-round, nothing-sent, reached-round, kept-rounds, up-state}
use Rattle.enet_world.proofs.TwoEnds.{from_start, Up, up-swapped}

-- ---- rounds
plain-up : (joined : Bool) (w : World) (x : ℕ) (side : Side) (own far : End) → Habits w → (u : Up joined w x side own far) → IsPlain u.p
plain-up joined w x side own far k u = record {
  on = u.on_p;
  patience = (let p = habit-up joined w x side own far k u in p.unset.0);
  lone = lone-up joined w x side own far k u;
}

plain-far : (joined : Bool) (w : World) (x : ℕ) (own far : End) → Habits w → (u : Up joined w x A own far) → IsPlain u.q
plain-far joined w x own far k u = by (up-swapped joined w x A own far u)
  where
    by : Up joined w x B far own → IsPlain u.q
    by y = subst IsPlain (same-peer far y.p u.q y.is_p u.is_q) (plain-up joined w x B far own k y)

-- both ends are connected, and ready for the next round
record StandsReady (joined : Bool) (v : World) (x left d : ℕ) : Type 0 where
  one : End
  two : End
  up : Up joined v x A one two
  ready : Ready left d (clock_at v A) (clock_at v B) up.p up.q

-- where something waits on a channel, at either, a round more is left
record HaveMore (joined : Bool) (v : World) (x left d : ℕ) (k : StandsReady joined v x left d) : Type 0 where
  one : HasMore left d k.up.p
  two : HasMore left d k.up.q

-- the next moments come, by which neither patience is over
moments-stand : (joined : Bool) (ms left : ℕ) (told : Calm) (w v : World) (x : ℕ) → IsReached joined w → Habits w → min ms 60000 < 30000 → (k : StandsReady joined w x left (min ms 60000)) → HaveMore joined w x left (min ms 60000) k → (d : Round ms told w v)
    → AtMoment joined d.ticked x (clock_after (clock_at w A) ms) (clock_after (clock_at w B) ms) k.one k.two
moments-stand joined ms left told w v x r habits low k more d = at-moment-on joined ms told w v x k.one k.two r k.up d
    (one-lasts left (min ms 60000) (clock_at w A) (clock_at w B) k.up.p k.up.q low (plain-up joined w x A k.one k.two habits k.up) more.one k.ready)
    (two-lasts left (min ms 60000) (clock_at w A) (clock_at w B) k.up.p k.up.q low (plain-far joined w x k.one k.two habits k.up) more.two k.ready)

one-stands : (joined : Bool) (ms left : ℕ) (told : Calm) (w v : World) (x : ℕ) → IsReached joined w → Habits w → min ms 60000 < 30000 → (k : StandsReady joined w x left (min ms 60000)) → HaveMore joined w x left (min ms 60000) k → Round ms told w v → Smooth told.a → Smooth told.b
    → StandsReady joined v x (left - min ms 60000) (min ms 60000)
one-stands joined ms left told w v x r habits low k more round a b = record {
  one = l.one;
  two = l.two;
  up = l.up;
  ready = subst (λ c. Ready rest d c (clock_at v B) l.up.p l.up.q) (sym (clocks A)) (subst (λ c. Ready rest d now c l.up.p l.up.q) (sym (clocks B))
      (subst (λ p. Ready rest d now there p l.up.q) (same-peer l.one s.one l.up.p s.is_one l.up.is_p) (subst (λ q. Ready rest d now there s.one q) (same-peer l.two s.two l.up.q s.is_two l.up.is_q) s.ready)));
}
  where
    d : ℕ
    d = min ms 60000

    rest : ℕ
    rest = left - d

    now : ℕ
    now = clock_after (clock_at w A) ms

    there : ℕ
    there = clock_after (clock_at w B) ms

    l : Rounded joined v x now there k.one k.two
    l = round-goes-on joined ms told w v x k.one k.two r habits round a b (moments-stand joined ms left told w v x r habits low k more round)

    s : ReadyAgain rest d now there (record { one = l.one; two = l.two })
    s = steady-round (from_start joined x) left d (clock_at w A) (clock_at w B) (record { one = k.one; two = k.two }) (record { one = l.one; two = l.two }) k.up.p k.up.q low k.up.joint k.up.is_p k.up.is_q
        (plain-up joined w x A k.one k.two habits k.up) (plain-far joined w x k.one k.two habits k.up) more.one more.two k.ready l.round

    clocks : (side : Side) → clock_at v side ≡ clock_after (clock_at w side) ms
    clocks = round-clocks ms told w v round

-- after n rounds something waits on a channel only where n is less than `lasts`
abbrev Waits : Bool → (ms lasts rounds : ℕ) → World → ℕ → Type 0
Waits joined ms lasts rounds old x = (n : ℕ) (told : Calm) (v : World) → n < rounds → Rounds ms n told old v → Smooth told.a → Smooth told.b → (one two : End) (u : Up joined v x A one two) (channel : ℕ) (t : Sent)
    → HasSent u.p.outbox.senders channel t ⊎ HasSent u.q.outbox.senders channel t → n < lasts

more-left : (n lasts d : ℕ) → n < lasts → d ≤ lasts * d - n * d
more-left n lasts d h =
    let low : suc n ≤ lasts = omega arith in
    let most : suc n * d ≤ lasts * d = mul-le-mul_right d low in
    let one : suc n * d ≡ n * d + d = next n d in
    omega arith
  where
    next : (m k : ℕ) → suc m * k ≡ m * k + k
    next m k = omega arith

less-left : (n lasts d : ℕ) → lasts * d - n * d - d ≡ lasts * d - suc n * d
less-left n lasts d = (let one : suc n * d ≡ n * d + d = next n d in omega arith)
  where
    next : (m k : ℕ) → suc m * k ≡ m * k + k
    next m k = omega arith

have-more : (joined : Bool) (ms lasts rounds n : ℕ) (told : Calm) (old v : World) (x : ℕ) → Waits joined ms lasts rounds old x → n < rounds → Rounds ms n told old v → Smooth told.a → Smooth told.b
    → (k : StandsReady joined v x (lasts * min ms 60000 - n * min ms 60000) (min ms 60000)) → HaveMore joined v x (lasts * min ms 60000 - n * min ms 60000) (min ms 60000) k
have-more joined ms lasts rounds n told old v x waits few d a b k = record {
  one = λ channel t h. more-left n lasts (min ms 60000) (waits n told v few d a b k.one k.two k.up channel t (inl h));
  two = λ channel t h. more-left n lasts (min ms 60000) (waits n told v few d a b k.one k.two k.up channel t (inr h));
}

rounds-stand : (joined : Bool) (ms lasts rounds n : ℕ) (told : Calm) (w v : World) (x : ℕ) → IsReached joined w → Habits w → min ms 60000 < 30000 → Waits joined ms lasts rounds w x → n < rounds → StandsReady joined w x (lasts * min ms 60000) (min ms 60000) → Rounds ms n told w v
    → Smooth told.a → Smooth told.b → StandsReady joined v x (lasts * min ms 60000 - n * min ms 60000) (min ms 60000)
rounds-stand joined ms lasts rounds zero told w v x r habits low waits few u d a b =
    subst (λ (y : World). StandsReady joined y x (lasts * min ms 60000 - 0 * min ms 60000) (min ms 60000)) (sym d.1) (subst (λ m. StandsReady joined w x m (min ms 60000)) (none (lasts * min ms 60000) (min ms 60000)) u)
  where
    none : (m k : ℕ) → m ≡ m - 0 * k
    none m k = omega arith
rounds-stand joined ms lasts rounds (suc n) told w v x r habits low waits few u d a b =
    let so_far : StandsReady joined d.2 x (lasts * min ms 60000 - n * min ms 60000) (min ms 60000) = rounds-stand joined ms lasts rounds n d.0 w d.2 x r habits low waits (omega arith) u d.3 parts_a.0 parts_b.0 in
    subst (λ m. StandsReady joined v x m (min ms 60000)) (less-left n lasts (min ms 60000))
    (one-stands joined ms (lasts * min ms 60000 - n * min ms 60000) d.1 d.2 v x (reached-rounds joined ms n d.0 w d.2 d.3 r) (habits-rounds ms n d.0 w d.2 d.3 habits) low so_far
    (have-more joined ms lasts rounds n d.0 w d.2 x waits (omega arith) d.3 parts_a.0 parts_b.0 so_far) d.4 parts_a.1 parts_b.1)
  where
    parts_a : Smooth d.0.a × Smooth d.1.a
    parts_a = smooth-parts d.0.a d.1.a told.a (ap (λ (y : Calm). y.a) d.5) a

    parts_b : Smooth d.0.b × Smooth d.1.b
    parts_b = smooth-parts d.0.b d.1.b told.b (ap (λ (y : Calm). y.b) d.5) b

-- ---- before and after
-- an end is there still, with its name, or its peer is gone
here-round : (joined : Bool) (ms : ℕ) (was : HostEnd) (x : ℕ) (side : Side) (told : Calm) (w v : World) → Round ms told w v → IsHere joined is_up was x side w → IsHere joined is_up was x side v
here-round joined ms was x side told w v d k = kept-round (IsHere joined is_up was x side) (keeps joined is_up up-rises was x side) ms told w v d (ticked joined is_up up-rises was x side ms told w v d k)

still-connected : (joined : Bool) (old new : World) (x : ℕ) (side : Side) (a : Begins (site_of old side) x state.Connected) → IsHere joined is_up a.was x side new → state_at (site_of new side) x ≡ Some state.Connected → IsStill state.Connected old new x side
still-connected joined old new x side a (r, inl k) on = (on, same-named old new x side a.was k.e a.there k.there k.called)
still-connected joined old new x side a (r, inr over) on = absurd (let z : ◌≡◌ {A = Option PeerState} (Some state.Connected) None = sym on ∙ nobody-so a.was (site_of new side) x over in cc)

-- a round takes as long as it is said to
least-is : (ms : ℕ) → ms < 30000 → min ms 60000 ≡ ms
least-is ms h = grind arith

-- once rounds were enough, nothing waits any more
still-waits : (joined : Bool) (ms lasts rounds : ℕ) (old : World) (x : ℕ) → IsReached joined old → Habits old → AreConnected old x → AreEnough ms lasts old x ⊎ (rounds ≤ lasts) → Waits joined ms lasts rounds old x
still-waits joined ms lasts rounds old x r habits before (inr all) n told v few d a b one two u channel t h = omega arith
still-waits joined ms lasts rounds old x r habits before (inl enough) n told v few d a b one two u channel t h = by (leb lasts n) refl
  where
    by : (y : Bool) → leb lasts n ≡ y → n < lasts
    by false e = lt-of lasts n e
    by true e = (let none = nothing-sent joined ms n told old v x r habits before (longer (le-of lasts n e)) d a b one two u in absurd (elim h [ inl k ↦ none.0 channel t k | inr k ↦ none.1 channel t k ]))
      where
        longer : lasts ≤ n → AreEnough ms n old x
        longer more = record { p = enough.p; q = enough.q; is_p = enough.is_p; is_q = enough.is_q; waits = enough.waits; some = enough.some; over_p = enough.over_p; over_q = enough.over_q; enough = (let z = enough.enough in omega arith) }

pub both-stand : (joined : Bool) (ms rounds : ℕ) (old new : World) → IsReached joined old → Habits old → BothStand ms rounds old new
both-stand joined ms rounds old new r habits x lasts before brief enough young all side = still side
  where
    parts : (is_smooth all.before.a ≡ true) × (is_smooth all.before.b ≡ true)
    parts = both (is_smooth all.before.a) (is_smooth all.before.b) all.smooth

    here : IsConnected old.a x
    here = connected-at old.a x before.0

    there : IsConnected old.b x
    there = connected-at old.b x before.1

    first : Begun joined old x here.stands.peer there.stands.peer
    first = begun joined old x r here there

    -- the peer that stands at a side
    standing-a : peer_at old.a x ≡ Some first.up.p
    standing-a = at-a ∙ ap (λ (p : Peering). Some p) (sym first.same_p)
      where
        at-a : peer_at old.a x ≡ Some here.stands.peer
        at-a = ap (λ (o : Option HostEnd). option_and_then (λ (e : HostEnd). named old.a.host.slots e.name) o) here.stands.there ∙ here.stands.is

    standing-b : peer_at old.b x ≡ Some first.up.q
    standing-b = at-b ∙ ap (λ (p : Peering). Some p) (sym first.same_q)
      where
        at-b : peer_at old.b x ≡ Some there.stands.peer
        at-b = ap (λ (o : Option HostEnd). option_and_then (λ (e : HostEnd). named old.b.host.slots e.name) o) there.stands.there ∙ there.stands.is

    begins : StandsReady joined old x (lasts * min ms 60000) (min ms 60000)
    begins = record {
      one = first.own;
      two = first.far;
      up = first.up;
      ready = ready-first lasts (min ms 60000) (clock_at old A) (clock_at old B) first.up.p first.up.q
          (subst (λ d. AllYoung d lasts (clock_at old A) first.up.p) (sym (least-is ms brief)) (young A first.up.p standing-a))
          (subst (λ d. AllYoung d lasts (clock_at old B) first.up.q) (sym (least-is ms brief)) (young B first.up.q standing-b)) rests-a rests-b;
    }
      where
        rests : (side : Side) (own far : End) (u : Up joined old x side own far) → Each (Rests (clock_at old side)) u.p.outbox.control.sent u.p.outbox.senders
        rests side own far u = (let k = rests-at habits.0 (site_of old side).host u.ends.e.name u.p (habits.1 side) (named-up joined old x side own far u) in k.0)

        rests-a : Each (Rests (clock_at old A)) first.up.p.outbox.control.sent first.up.p.outbox.senders
        rests-a = rests A first.own first.far first.up

        here-b : Up joined old x B first.far first.own
        here-b = up-swapped joined old x A first.own first.far first.up

        rests-b : Each (Rests (clock_at old B)) first.up.q.outbox.control.sent first.up.q.outbox.senders
        rests-b = subst (λ (y : Peering). Each (Rests (clock_at old B)) y.outbox.control.sent y.outbox.senders) (same-peer first.far here-b.p first.up.q here-b.is_p first.up.is_q) (rests B first.far first.own here-b)

    low : min ms 60000 < 30000
    low = subst (λ d. d < 30000) (sym (least-is ms brief)) brief

    few : all.earlier < rounds
    few = (let z = all.all in omega arith)

    waits : Waits joined ms lasts rounds old x
    waits = still-waits joined ms lasts rounds old x r habits before enough

    mid : StandsReady joined all.between x (lasts * min ms 60000 - all.earlier * min ms 60000) (min ms 60000)
    mid = rounds-stand joined ms lasts rounds all.earlier all.before old all.between x r habits low waits few begins all.rounds_before (smooth-so all.before.a parts.0) (smooth-so all.before.b parts.1)

    more : HaveMore joined all.between x (lasts * min ms 60000 - all.earlier * min ms 60000) (min ms 60000) mid
    more = have-more joined ms lasts rounds all.earlier all.before old all.between x waits few all.rounds_before (smooth-so all.before.a parts.0) (smooth-so all.before.b parts.1) mid

    reached : IsReached joined all.between
    reached = reached-rounds joined ms all.earlier all.before old all.between all.rounds_before r

    habits' : Habits all.between
    habits' = habits-rounds ms all.earlier all.before old all.between all.rounds_before habits

    last : AreUp joined new x A
    last = round-on joined ms all.counts all.between new x (clock_after (clock_at all.between A) ms) (clock_after (clock_at all.between B) ms) mid.one mid.two reached habits' all.last
        (moments-stand joined ms (lasts * min ms 60000 - all.earlier * min ms 60000) all.counts all.between new x reached habits' low mid more all.last)

    at-last : IsReached joined new
    at-last = reached-round joined ms all.counts all.between new all.last reached

    begins-at : (at : Side) → Begins (site_of old at) x state.Connected
    begins-at A = begins-in old.a x state.Connected before.0
    begins-at B = begins-in old.b x state.Connected before.1

    here-at : (at : Side) (a : Begins (site_of old at) x state.Connected) → IsHere joined is_up a.was x at new
    here-at at a = here-round joined ms a.was x at all.counts all.between new all.last (kept-rounds (IsHere joined is_up a.was x at) ms (here-round joined ms a.was x at) all.earlier all.before old all.between all.rounds_before
        (r, inl (record { e = a.was; there = a.there; more = []; called = refl; took = sym (append-nil a.was.events); p = a.p; is = a.is; up = ap is_up a.in_it })))

    still : (at : Side) → IsStill state.Connected old new x at
    still A = still-connected joined old new x A (begins-at A) (here-at A (begins-at A)) (up-state joined new x A last.0 last.1 at-last last.2)
    still B = still-connected joined old new x B (begins-at B) (here-at B (begins-at B)) (up-state joined new x B last.1 last.0 at-last (up-swapped joined new x A last.0 last.1 last.2))
