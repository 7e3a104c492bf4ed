-- Round by round a peer that is left alone is asked by a ping, waits in vain and ends, and its user is told.
use Rattle.std.proofs.Common.{◌≡◌, ◌≢◌, ◌<◌, ◌≤◌, ◌⊎◌, inl, inr, ℕ, zero, suc, ◌+◌, ◌*◌, ◌/◌, ◌%◌, ◌^◌, min, leb, Bool, true, false, [], append-nil, refl, sym, ap, subst, ◌∙◌, arith, Option, Some, None, div-add-mod', mod-lt}
use Rattle.std.proofs.Math.Nat.{mul-le-mul_right}
use Rattle.std.specs.Option.{option_and_then, option_map}
use Rattle.enet_codec.specs.declared.event.PeerRef.{PeerRef}
use Rattle.enet_rtt.specs.Clock.{elapsed_time}
use Rattle.enet_outbox.specs.Outbox.{is_done}
use Rattle.enet_peer.specs.declared.parts.PeerState.{PeerState}
use Rattle.enet_peer.specs.declared.parts.PeerState.TheVariants as state
use Rattle.enet_peer.specs.Peering.{Peering}
use Rattle.enet_host.specs.Host.{named}
use Rattle.enet_host.specs.Ticking.{clock_after}
use Rattle.law_connection.specs.Connection.{End}
use Rattle.law_connection.specs.LinkSteps.{Has}
use Rattle.law_network.specs.declared.event.Side.{Side}
use Rattle.law_network.specs.declared.event.Side.TheVariants.{A, B}
use Rattle.law_network.specs.declared.event.WorldEvent.TheVariants as happen
use Rattle.law_network.specs.Network.{HostEnd, Site, end_of}
use Rattle.law_network.specs.Shown.{Shows}
use Rattle.law_network.specs.Law.{ShowsAt}
use Rattle.law_network.specs.World.{World, site_of, other}
use Rattle.law_network.proofs.Agreed.{same-peer}
use Rattle.law_network.proofs.Names.{IsThere, IsSpent, there-named}
use Rattle.law_network.proofs.Peers.{there-or}
use Rattle.law_network.proofs.Runs.{Sound}
use Rattle.law_network.proofs.Submitting.{same-some}
use Rattle.law_network.proofs.Worlds.{IsHost, end-none}
use Rattle.law_progress.specs.Outboxes.{WaitsForSome}
use Rattle.law_progress.proofs.Ageing.{Aged}
use Rattle.law_progress.proofs.Timed.{le-of, lt-of}
use Rattle.law_progress.proofs.Waiting.{Each}
use Rattle.enet_site.specs.Standing.{peer_at, state_at}
use Rattle.enet_world.specs.declared.calm.Calm.{Calm}
use Rattle.enet_world.specs.Alone.{HasLeft, IsLeftAlone, TellsAlone, queued_at, queued_in}
use Rattle.enet_world.specs.Calm.{Round, Rounds}
use Rattle.enet_world.specs.Ended.{share_of, is_ending}
use Rattle.enet_world.specs.Worlds.{passed_by, passed_by_rounds}
use Rattle.enet_world.specs.Private.Worlds.{IsReached, IsReachedIn}
use Rattle.enet_world.proofs.EndsAreTold.{IsHere, Begins, begins, told-so, rounds-go, round-a, round-b, uncut-parts, share-is, is_connected, is_open, has_ended, is_none, up-rises, ended-rises, open-up, connected-up, at-a, at-b, at-end, is_open_or_over}
use Rattle.enet_world.proofs.Habits.{Habit, HostHabits, habits-in, clock-sum}
use Rattle.enet_world.proofs.InRounds.{clock_at, Keeps, no-more, keeps-all}
use Rattle.enet_world.proofs.Lasting.{is_past}
use Rattle.enet_world.proofs.Modest.{IsModest}
use Rattle.enet_world.proofs.Pings.{IsLone, is_ping}
use Rattle.enet_world.proofs.LeftAlone.{IsSilentAt, Lone, Past, IsPastIn, lone-so, named-lone, past-step, At, near-out, far-out, near-takes, far-takes, tick-near, far-tick}
use Rattle.enet_world.proofs.Reaching.{reached-step, reached-on}
use Rattle.enet_world.proofs.StillSent.{HasControl}
use Rattle.enet_world.proofs.Through.{IsConnected, connected-at, end-has, shown-end-of, tick-clock, kept-round, reached-ticked, ticked-clocks, round-clocks, round-by}
use Rattle.enet_world.proofs.TwoEnds.{from_start, sound, host-at}
use Rattle.enet_world.proofs.Unanswered.{Goes, HasFew, Quiet, Sending, Waits, WaitsOn, Pings, both-go, stays-few, spends, waits-now, stays-quiet, is-asked, still-waits}
use Rattle.enet_world.proofs.Untouched.{is_up}
use Rattle.enet_world.proofs.UntouchedEnd.{IsEither, weaker}

-- ---- how much time has passed
in-keeps : (passed : ℕ) (joined : Bool) → Keeps (IsReachedIn passed joined)
in-keeps passed joined = record {
  turns_keep = λ u v side told step h. reached-on passed passed joined u v (happen.Turn side) told h step refl;
  delivers_keep = λ u v side k told step h. reached-on passed passed joined u v (happen.Deliver side k) told h step refl;
  takes_keep = λ side u v told step h. reached-on passed passed joined u v (happen.Take side) told h step refl;
}

in-round : (passed : ℕ) (joined : Bool) (ms : ℕ) (told : Calm) (w v : World) → Round ms told w v → IsReachedIn passed joined w → IsReachedIn (passed_by_rounds 1 ms passed) joined v
in-round passed joined ms told w v d r =
    let one : IsReachedIn (passed_by (happen.Tick A ms) passed) joined d.ticked_a = reached-on passed (passed_by (happen.Tick A ms) passed) joined w d.ticked_a (happen.Tick A ms) d.ticks_a.0 r d.ticks_a.1 refl in
    let two : IsReachedIn (passed_by_rounds 1 ms passed) joined d.ticked = reached-on (passed_by (happen.Tick A ms) passed) (passed_by_rounds 1 ms passed) joined d.ticked_a d.ticked (happen.Tick B ms) d.ticks_b.0 one d.ticks_b.1 refl in
    kept-round (IsReachedIn (passed_by_rounds 1 ms passed) joined) (in-keeps (passed_by_rounds 1 ms passed) joined) ms told w v d two

more-rounds : (n d : ℕ) → suc n * d ≡ n * d + d
more-rounds n d = omega arith

passed-most : (n ms passed : ℕ) → passed_by_rounds n ms passed ≤ passed + 2 * (n * min ms 60000)
passed-most zero ms passed = omega arith
passed-most (suc n) ms passed = one (min ms 60000) (passed_by_rounds n ms passed) (n * min ms 60000) (suc n * min ms 60000) (more-rounds n (min ms 60000)) (passed-most n ms passed)
  where
    one : (d p s t : ℕ) → t ≡ s + d → p ≤ passed + 2 * s → min (min (p + d) 4294967295 + d) 4294967295 ≤ passed + 2 * t
    one d p s t e h = omega arith

-- ---- a round
past-ticked : (joined : Bool) (x ms : ℕ) (side : Side) (told : Calm) (w v : World) (d : Round ms told w v) → IsPastIn joined x side d.ticked → Past v x side
past-ticked joined x ms side told w v d h = (let p = kept-round (IsPastIn joined x side) (keeps-all (IsPastIn joined x side) (past-step joined x side)) ms told w v d h in p.1)

lone-round : (joined : Bool) (P Q R : Peering → Type 0) (x ms : ℕ) (side : Side) (told : Calm) (w v : World) → Goes (clock_after (clock_at w side) ms) P Q R → Round ms told w v → (share_of told side).cut_short ≡ 0 → IsReached joined w → Lone P w x side
    → Lone R v x side ⊎ Past v x side
lone-round joined P Q R x ms A told w v g d uncut r k = by (tick-near joined P Q R w d.ticked_a x ms A d.ticks_a.0 g r d.ticks_a.1 k)
  where
    now : ℕ
    now = clock_after (clock_at w A) ms

    r_a : IsReached joined d.ticked_a
    r_a = reached-step joined w d.ticked_a (happen.Tick A ms) d.ticks_a.0 r d.ticks_a.1

    r_t : IsReached joined d.ticked
    r_t = reached-ticked joined ms told w v d r

    cuts : (d.cut_forth ≡ 0) × (d.cut_a ≡ 0)
    cuts = no-more d.cut_forth d.cut_a told.a.cut_short uncut d.all_a

    on : At joined Q now x A d.ticked → At joined R now x A v
    on h = far-takes joined R now x A told.b.taken d.cut_b d.taken_a v d.takes_b
        (near-takes joined P Q R now x A g told.a.taken d.cut_a d.sent d.taken_a d.takes_a
        (far-out joined R now x A told.b.sent told.b.refused told.b.stopped d.cut_back d.sent_a d.sent d.back
        (near-out joined P Q R now x A g told.a.sent told.a.refused told.a.stopped d.cut_forth d.ticked d.sent_a d.forth cuts.0 h)))

    by : Lone Q d.ticked_a x A ⊎ Past d.ticked_a x A → Lone R v x A ⊎ Past v x A
    by (inr past) = inr (past-ticked joined x ms A told w v d (past-step joined x A d.ticked_a d.ticked (happen.Tick B ms) d.ticks_b.0 d.ticks_b.1 (r_a, past)))
    by (inl lone) = inl (let h = on (record { reached = r_t; lone = far-tick joined Q x ms A d.ticked_a d.ticked d.ticks_b.0 d.ticks_b.1 r_a lone; clock = ticked-clocks ms told w v d A }) in h.lone)
lone-round joined P Q R x ms B told w v g d uncut r k = by (tick-near joined P Q R d.ticked_a d.ticked x ms B d.ticks_b.0 g_a r_a d.ticks_b.1 (far-tick joined P x ms B w d.ticked_a d.ticks_a.0 d.ticks_a.1 r k))
  where
    now : ℕ
    now = clock_after (clock_at w B) ms

    g_a : Goes (clock_after (clock_at d.ticked_a B) ms) P Q R
    g_a = subst (λ c. Goes (clock_after c ms) P Q R) (sym (tick-clock w d.ticked_a A ms d.ticks_a.0 d.ticks_a.1).1) g

    r_a : IsReached joined d.ticked_a
    r_a = reached-step joined w d.ticked_a (happen.Tick A ms) d.ticks_a.0 r d.ticks_a.1

    r_t : IsReached joined d.ticked
    r_t = reached-ticked joined ms told w v d r

    cuts : (d.cut_back ≡ 0) × (d.cut_b ≡ 0)
    cuts = no-more d.cut_back d.cut_b told.b.cut_short uncut d.all_b

    on : At joined Q now x B d.ticked → At joined R now x B v
    on h = near-takes joined P Q R now x B g told.b.taken d.cut_b d.taken_a v d.takes_b
        (far-takes joined R now x B told.a.taken d.cut_a d.sent d.taken_a d.takes_a
        (near-out joined P Q R now x B g told.b.sent told.b.refused told.b.stopped d.cut_back d.sent_a d.sent d.back cuts.0
        (far-out joined Q now x B told.a.sent told.a.refused told.a.stopped d.cut_forth d.ticked d.sent_a d.forth h)))

    by : Lone Q d.ticked x B ⊎ Past d.ticked x B → Lone R v x B ⊎ Past v x B
    by (inr past) = inr (past-ticked joined x ms B told w v d (r_t, past))
    by (inl lone) = inl (let h = on (record { reached = r_t; lone = lone; clock = ticked-clocks ms told w v d B }) in h.lone)

-- ---- how far it has come after n rounds of d milliseconds each, at most a minute, before which so much time had passed
-- nothing reliable is left, and it isn't to be pinged yet
record Idle (d n c : ℕ) (p : Peering) : Type 0 where
  done : is_done p.outbox ≡ true
  short : (n ≡ 1) ⊎ ((elapsed_time c p.heard < 500) × (n * d ≤ elapsed_time c p.heard + 2 * d))

-- something waits, and at first so many commands were queued
record Awaits (d n passed most c : ℕ) (p : Peering) : Type 0 where
  since : ℕ
  now : ℕ
  time : ℕ
  left : ℕ
  clock : c ≡ now % 2 ^ 32
  waits : Waits since now time left p
  begun : n * d + since + 90000 * left ≤ now + (500 + 3 * d) + 90000 * most
  within : time ≤ passed + 2 * (n * d)

abbrev Comes : (d n passed most c : ℕ) → Peering → Type 0
Comes d n passed most c p = (n ≡ 0) ⊎ (Idle d n c p ⊎ Awaits d n passed most c p)

abbrev Stage : (d n passed most c : ℕ) → Peering → Type 0
Stage d n passed most c p = Comes d n passed most c p × HasFew most p

stage-brief : (d n passed most c : ℕ) (p : Peering) → 0 < d → Comes d n passed most c p → n * d < 90500 + 90000 * most + 3 * d
stage-brief d n passed most c p some (inl none) = let z : n * d ≡ 0 * d = ap (λ m. m * d) none in omega arith
stage-brief d n passed most c p some (inr (inl k)) = elim k.short [
  | inl one ↦ (let z : n * d ≡ 1 * d = ap (λ m. m * d) one in omega arith)
  | inr e ↦ (let x = e.0 in let y = e.1 in omega arith)
]
stage-brief d n passed most c p some (inr (inr k)) = (let b = k.begun in let w = k.waits in let x = w.brief in omega arith)

-- what a peer that is left alone has kept
lone-habit : (passed : ℕ) (w : World) (x : ℕ) (side : Side) (P : Peering → Type 0) → (k : Lone P w x side) → (a : HostHabits passed (site_of w side).host) → Habit a.now passed k.p
lone-habit passed w x side P k a = a.peers k.ends.e.name k.p (named-lone P w x side k)

-- something waits from now on
awaits-now : (d n before passed most : ℕ) (joined : Bool) (w : World) (x : ℕ) (side : Side) (P : Peering → Type 0) → IsReachedIn passed joined w → passed < 4294967295 → passed ≤ before + 2 * (n * d) → n * d ≤ 500 + 3 * d → (k : Lone P w x side)
    → k.p.outbox.control.queued ≡ [] → HasFew most k.p → WaitsForSome k.p.outbox → Awaits d n before most (clock_at w side) k.p
awaits-now d n before passed most joined w x side P r low within short k spent few some = record {
  since = a.now;
  now = a.now;
  time = passed;
  left = most;
  clock = a.clock;
  waits = waits-now a.now passed most k.p spent aged few some;
  begun = omega arith;
  within = within;
}
  where
    a : HostHabits passed (site_of w side).host
    a = habits-in passed joined w r low side

    aged : Each (Aged a.now passed) k.p.outbox.control.sent k.p.outbox.senders
    aged = (let h = lone-habit passed w x side P k a in let fair = h.aged (omega arith) in fair.0)

-- with what holds of it, it has a PING at most, and not more queued than at first
abbrev With : ℕ → (Peering → Type 0) → Peering → Type 0
With most P p = P p × (IsModest p × HasFew most p)

abbrev WithPings : ℕ → (Peering → Type 0) → Peering → Type 0
WithPings most Q p = Q p × (IsLone is_ping p.outbox.control × HasFew most p)

abbrev WithNone : ℕ → (Peering → Type 0) → Peering → Type 0
WithNone most R p = R p × ((p.outbox.control.queued ≡ []) × HasFew most p)

with-few : (n most : ℕ) (P Q R : Peering → Type 0) → Goes n P Q R → Goes n (With most P) (WithPings most Q) (WithNone most R)
with-few n most P Q R g =
    both-go n P Q R (λ p. IsModest p × HasFew most p) (λ p. IsLone is_ping p.outbox.control × HasFew most p) (λ p. (p.outbox.control.queued ≡ []) × HasFew most p) g
    (both-go n IsModest (λ p. IsLone is_ping p.outbox.control) (λ p. p.outbox.control.queued ≡ []) (HasFew most) (HasFew most) (HasFew most) (spends n) (stays-few n most))

-- clocks
later : (c now d : ℕ) → c ≡ now % 2 ^ 32 → (c + d) % 2 ^ 32 ≡ (now + d) % 2 ^ 32
later c now d e = ap (λ m. (m + d) % 2 ^ 32) e ∙ clock-sum now d

elapsed-later : (c h d : ℕ) → h < 2 ^ 32 → d ≤ 60000 → elapsed_time c h < 500 → elapsed_time ((c + d) % 2 ^ 32) h ≡ elapsed_time c h + d
elapsed-later c h d low small short = omega arith

low-of : (n ms passed most d : ℕ) → d ≡ min ms 60000 → passed + 180000 * most < 4293000000 → n * d < 90500 + 90000 * most + 4 * d → passed_by_rounds n ms passed < 4294967295
low-of n ms passed most d is early few = (let m : passed_by_rounds n ms passed ≤ passed + 2 * (n * d) = subst (λ k. passed_by_rounds n ms passed ≤ passed + 2 * (n * k)) (sym is) (passed-most n ms passed) in let small : d ≤ 60000 = at-most ms d is in omega arith)
  where
    at-most : (a b : ℕ) → b ≡ min a 60000 → b ≤ 60000
    at-most a b e = grind arith

-- ---- one more round
one-round : (d n : ℕ) → n ≡ 0 → suc n * d ≡ d
one-round d n e = ap (λ m. suc m * d) e ∙ one d
  where
    one : (k : ℕ) → 1 * k ≡ k
    one k = omega arith

stage-round : (joined : Bool) (n ms passed most x : ℕ) (side : Side) (told : Calm) (w v : World) → 0 < min ms 60000 → passed + 180000 * most < 4293000000 → Round ms told w v → (share_of told side).cut_short ≡ 0 → IsReachedIn (passed_by_rounds n ms passed) joined w
    → IsReachedIn (passed_by_rounds (suc n) ms passed) joined v → Lone (Stage (min ms 60000) n passed most (clock_at w side)) w x side → Lone (Stage (min ms 60000) (suc n) passed most (clock_at v side)) v x side ⊎ Past v x side
stage-round joined n ms passed most x side told w v some early round uncut r r_v k = by k.holds.0
  where
    d : ℕ
    d = min ms 60000

    c : ℕ
    c = clock_after (clock_at w side) ms

    h : ℕ
    h = k.p.heard

    clock : clock_at v side ≡ c
    clock = round-clocks ms told w v round side

    small : d ≤ 60000
    small = at-most ms
      where
        at-most : (a : ℕ) → min a 60000 ≤ 60000
        at-most a = grind arith

    more : suc n * d ≡ n * d + d
    more = more-rounds n d

    brief : n * d < 90500 + 90000 * most + 3 * d
    brief = stage-brief d n passed most (clock_at w side) k.p some k.holds.0

    low : passed_by_rounds n ms passed < 4294967295
    low = low-of n ms passed most d refl early (let b = brief in omega arith)

    low_v : passed_by_rounds (suc n) ms passed < 4294967295
    low_v = low-of (suc n) ms passed most d refl early (let m = more in let b = brief in omega arith)

    a : HostHabits (passed_by_rounds n ms passed) (site_of w side).host
    a = habits-in (passed_by_rounds n ms passed) joined w r low side

    habit : Habit a.now (passed_by_rounds n ms passed) k.p
    habit = lone-habit (passed_by_rounds n ms passed) w x side (Stage d n passed most (clock_at w side)) k a

    After : Type 0
    After = Lone (Stage d (suc n) passed most (clock_at v side)) v x side ⊎ Past v x side

    -- a round, of what holds of it
    next : (P Q R : Peering → Type 0) → Goes c P Q R → P k.p → Lone (WithNone most R) v x side ⊎ Past v x side
    next P Q R g h = lone-round joined (With most P) (WithPings most Q) (WithNone most R) x ms side told w v (with-few c most P Q R g) round uncut r.reached
        (lone-so (Stage d n passed most (clock_at w side)) (With most P) w x side k (h, (habit.modest, k.holds.1)))

    waits-from : (R : Peering → Type 0) (l : Lone (WithNone most R) v x side) → suc n * d ≤ 500 + 3 * d → WaitsForSome l.p.outbox → Lone (Stage d (suc n) passed most (clock_at v side)) v x side
    waits-from R l few w' = lone-so (WithNone most R) (Stage d (suc n) passed most (clock_at v side)) v x side l
        (inr (inr (awaits-now d (suc n) passed (passed_by_rounds (suc n) ms passed) most joined v x side (WithNone most R) r_v low_v (passed-most (suc n) ms passed) few l l.holds.1.0 l.holds.1.1 w')), l.holds.1.1)

    quiet : (l : Lone (WithNone most (Quiet h)) v x side) → suc n * d ≤ 500 + 3 * d → (suc n ≡ 1) ⊎ ((elapsed_time c h < 500) × (suc n * d ≤ elapsed_time c h + 2 * d)) → Lone (Stage d (suc n) passed most (clock_at v side)) v x side
    quiet l few short = left l.holds.0.left
      where
        there : (suc n ≡ 1) ⊎ ((elapsed_time (clock_at v side) l.p.heard < 500) × (suc n * d ≤ elapsed_time (clock_at v side) l.p.heard + 2 * d))
        there = subst (λ m. (suc n ≡ 1) ⊎ ((elapsed_time m l.p.heard < 500) × (suc n * d ≤ elapsed_time m l.p.heard + 2 * d))) (sym clock)
            (subst (λ m. (suc n ≡ 1) ⊎ ((elapsed_time c m < 500) × (suc n * d ≤ elapsed_time c m + 2 * d))) (sym l.holds.0.silent) short)

        left : (is_done l.p.outbox ≡ true) ⊎ WaitsForSome l.p.outbox → Lone (Stage d (suc n) passed most (clock_at v side)) v x side
        left (inl done) = lone-so (WithNone most (Quiet h)) (Stage d (suc n) passed most (clock_at v side)) v x side l (inr (inl (record { done = done; short = there })), l.holds.1.1)
        left (inr some') = waits-from (Quiet h) l few some'

    Silent : Peering → Type 0
    Silent p = p.heard ≡ h

    still : (suc n * d ≤ 500 + 3 * d) → (suc n ≡ 1) ⊎ ((elapsed_time c h < 500) × (suc n * d ≤ elapsed_time c h + 2 * d)) → After
    still few short = elim (next Silent Silent (Quiet h) (stays-quiet c h) refl) [
      | inl l ↦ inl (quiet l few short)
      | inr past ↦ inr past
    ]

    few-idle : Idle d n (clock_at w side) k.p → suc n * d ≤ 500 + 3 * d
    few-idle i = elim i.short [
      | inl one ↦ (let z : n * d ≡ 1 * d = ap (λ m. m * d) one in let m = more in omega arith)
      | inr e ↦ (let y = e.0 in let z = e.1 in let m = more in omega arith)
    ]

    idle : Idle d n (clock_at w side) k.p → (b : Bool) → leb 500 (elapsed_time c h) ≡ b → After
    idle i true e = elim (next (Pings c) (λ p. HasControl p.outbox.control) (λ p. WaitsForSome p.outbox) (is-asked c) (record { done = i.done; interval = habit.unset.1; long = le-of 500 (elapsed_time c h) e })) [
      | inl l ↦ inl (waits-from (λ p. WaitsForSome p.outbox) l (few-idle i) l.holds.0)
      | inr past ↦ inr past
    ]
    idle i false e = still (few-idle i) (inr (
      lt-of 500 (elapsed_time c h) e,
      elim i.short [
        | inl one ↦ (let z : n * d ≡ 1 * d = ap (λ m. m * d) one in let m = more in omega arith)
        | inr f ↦ (let y : elapsed_time c h ≡ elapsed_time (clock_at w side) h + d = elapsed-later (clock_at w side) h d habit.unset.2 small f.0 in let z = f.1 in let m = more in omega arith)
      ],
    ))

    awaits : Awaits d n passed most (clock_at w side) k.p → After
    awaits u = elim (next (λ p. Waits u.since u.now u.time u.left p × (p.patience.maximum ≡ 30000)) (Sending u.since (u.now + d) (u.time + d) u.left) (WaitsOn u.since (u.now + d) (u.time + d) u.left) goes (u.waits, patient)) [
      | inl l ↦ inl (lone-so (WithNone most (WaitsOn u.since (u.now + d) (u.time + d) u.left)) (Stage d (suc n) passed most (clock_at v side)) v x side l (inr (inr (on l.p l.holds.0)), l.holds.1.1))
      | inr past ↦ inr past
    ]
      where
        patient : k.p.patience.maximum ≡ 30000
        patient = habit.rests.2

        near : u.time + d < 2 ^ 32
        near = (let b = brief in let t = u.within in let s = small in omega arith)

        goes : Goes c (λ p. Waits u.since u.now u.time u.left p × (p.patience.maximum ≡ 30000)) (Sending u.since (u.now + d) (u.time + d) u.left) (WaitsOn u.since (u.now + d) (u.time + d) u.left)
        goes = subst (λ m. Goes m (λ p. Waits u.since u.now u.time u.left p × (p.patience.maximum ≡ 30000)) (Sending u.since (u.now + d) (u.time + d) u.left) (WaitsOn u.since (u.now + d) (u.time + d) u.left))
            (sym (later (clock_at w side) u.now d u.clock)) (still-waits u.since u.now u.time d u.left near)

        clock_then : clock_at v side ≡ (u.now + d) % 2 ^ 32
        clock_then = clock ∙ later (clock_at w side) u.now d u.clock

        -- it waits on, or less is queued than before
        on : (p : Peering) → WaitsOn u.since (u.now + d) (u.time + d) u.left p → Awaits d (suc n) passed most (clock_at v side) p
        on p (inl waits) = record {
          since = u.since;
          now = u.now + d;
          time = u.time + d;
          left = u.left;
          clock = clock_then;
          waits = waits;
          begun = (let b = u.begun in let m = more in omega arith);
          within = (let b = u.within in let m = more in omega arith);
        }
        on p (inr (less, fewer, soon, waits)) = record {
          since = u.now + d;
          now = u.now + d;
          time = u.time + d;
          left = less;
          clock = clock_then;
          waits = waits;
          begun = (let b = u.begun in let m = more in omega arith);
          within = (let b = u.within in let m = more in omega arith);
        }

    by : Comes d n passed most (clock_at w side) k.p → After
    by (inl none) = still (let o : suc n * d ≡ d = one-round d n none in omega arith) (inl (ap suc none))
    by (inr (inl i)) = idle i (leb 500 (elapsed_time c h)) refl
    by (inr (inr u)) = awaits u

-- ---- rounds
after-rounds : (joined : Bool) (n ms passed most x : ℕ) (side : Side) (told : Calm) (w v : World) → 0 < min ms 60000 → passed + 180000 * most < 4293000000 → Rounds ms n told w v → (share_of told side).cut_short ≡ 0 → IsReachedIn passed joined w → Lone (HasFew most) w x side
    → IsReachedIn (passed_by_rounds n ms passed) joined v × (Lone (Stage (min ms 60000) n passed most (clock_at v side)) v x side ⊎ Past v x side)
after-rounds joined zero ms passed most x side told w v some early d uncut r k = (
  subst (IsReachedIn passed joined) (sym d.1) r,
  inl (subst (λ (u : World). Lone (Stage (min ms 60000) 0 passed most (clock_at u side)) u x side) (sym d.1) (lone-so (HasFew most) (Stage (min ms 60000) 0 passed most (clock_at w side)) w x side k (inl refl, k.holds))),
)
after-rounds joined (suc n) ms passed most x side told w v some early d uncut r k = on (after-rounds joined n ms passed most x side d.0 w d.2 some early d.3 cuts.0 r k)
  where
    cuts : ((share_of d.0 side).cut_short ≡ 0) × ((share_of d.1 side).cut_short ≡ 0)
    cuts = uncut-parts (share_of d.0 side) (share_of d.1 side) (share_of told side) (share-is told d.0 d.1 d.5 side) uncut

    on : IsReachedIn (passed_by_rounds n ms passed) joined d.2 × (Lone (Stage (min ms 60000) n passed most (clock_at d.2 side)) d.2 x side ⊎ Past d.2 x side)
        → IsReachedIn (passed_by_rounds (suc n) ms passed) joined v × (Lone (Stage (min ms 60000) (suc n) passed most (clock_at v side)) v x side ⊎ Past v x side)
    on so_far =
        let r_v : IsReachedIn (passed_by_rounds (suc n) ms passed) joined v = in-round (passed_by_rounds n ms passed) joined ms d.1 d.2 v d.4 so_far.0 in (
          r_v,
          elim so_far.1 [
            | inl lone ↦ stage-round joined n ms passed most x side d.1 d.2 v some early d.4 cuts.1 so_far.0 r_v lone
            | inr past ↦ inr (let p = round-by (IsPastIn joined x side) (past-step joined x side) ms d.1 d.2 v d.4 (so_far.0.reached, past) in p.1)
          ],
        )

-- ---- before the rounds
none-named : (s : Site) (x : ℕ) (e : HostEnd) → end_of x s.ends ≡ Some e → state_at s x ≡ None → named s.host.slots e.name ≡ None
none-named s x e there none = by (named s.host.slots e.name) refl
  where
    by : (o : Option Peering) → named s.host.slots e.name ≡ o → named s.host.slots e.name ≡ None
    by None is = is
    by (Some p) is =
        let some : state_at s x ≡ Some p.state =
        ap (λ (o : Option HostEnd). option_map (λ (q : Peering). q.state) (option_and_then (λ (f : HostEnd). named s.host.slots f.name) o)) there ∙ ap (λ (o : Option Peering). option_map (λ (q : Peering). q.state) o) is in
        absurd (let z : ◌≡◌ {A = Option PeerState} None (Some p.state) = sym none ∙ some in cc)

named-end : (s : Site) (x : ℕ) (name : PeerRef) → option_map (λ (e : HostEnd). e.name) (end_of x s.ends) ≡ Some name → (e : HostEnd) × (end_of x s.ends ≡ Some e)
named-end s x name called = by (end_of x s.ends) refl called
  where
    by : (o : Option HostEnd) → end_of x s.ends ≡ o → option_map (λ (e : HostEnd). e.name) o ≡ Some name → (e : HostEnd) × (end_of x s.ends ≡ Some e)
    by None is k = absurd (let z : ◌≡◌ {A = Option PeerRef} None (Some name) = k in cc)
    by (Some e) is k = (e, is)

-- the end that a host shows is the one that it has
shown-there : (s : Site) (count x : ℕ) (far : End) (e : HostEnd) → IsHost s count → ShowsAt s x far → end_of x s.ends ≡ Some e → Shows s e far
shown-there s count x far e k (inl shown) there =
    let is : end_of x s.ends ≡ Some shown.0 = shown-end-of s count x shown.0 k shown.1 shown.2 in
    subst (λ (f : HostEnd). Shows s f far) (same-some shown.0 e (sym is ∙ there)) shown.3
shown-there s count x far e k (inr none) there = absurd (let z : ◌≡◌ {A = Option HostEnd} None (Some e) = sym (end-none s.ends x none.0) ∙ there in cc)

-- two ends of a connection as a side sees them
record Seen (w : World) (x : ℕ) (side : Side) : Type 0 where
  own : End
  far : End
  here : ShowsAt (site_of w side) x own
  there : ShowsAt (site_of w (other side)) x far

seen : (j : ℕ → Bool) (w : World) (x : ℕ) (side : Side) → Sound j w → x < w.count → Seen w x side
seen j w x A s low = (let p = s.pairs x low in record { own = p.one; far = p.two; here = p.here; there = p.there })
seen j w x B s low = (let p = s.pairs x low in record { own = p.two; far = p.one; here = p.there; there = p.here })

-- the end of a side that has left
record LeftEnd (s : Site) (x : ℕ) : Type 0 where
  e : HostEnd
  there : end_of x s.ends ≡ Some e
  silent : (far : End) → Shows s e far → IsSilentAt s x e.name

none-left : (s : Site) (x : ℕ) (e : HostEnd) (far : End) → end_of x s.ends ≡ Some e → state_at s x ≡ None → (k : Shows s e far) → ((k.peer.state ≢ state.Free) × IsThere s.host.slots e.name k.peer) ⊎ ((k.peer.state ≡ state.Free) × IsSpent s.host e.name)
    → IsSpent s.host e.name
none-left s x e far there none k (inr gone) = gone.1
none-left s x e far there none k (inl lives) =
    absurd (let z : ◌≡◌ {A = Option Peering} None (Some k.peer) = sym (none-named s x e there none) ∙ there-named s.host.slots e.name k.peer lives.1 in cc)

left-end : (w : World) (x : ℕ) (side : Side) → HasLeft w x side → LeftEnd (site_of w side) x
left-end w x side (inl ended) =
    let b = begins (site_of w side) x state.Ended ended in
    record {
      e = b.was;
      there = b.there;
      silent = λ far shows. inr (b.was, inl (record { e = b.was; there = b.there; more = []; called = refl; took = sym (append-nil b.was.events); p = b.p; is = b.is; up = ap has_ended b.in_it }));
    }
left-end w x side (inr (name, called, none)) =
    let f = named-end (site_of w side) x name called in
    record { e = f.0; there = f.1; silent = λ far shows. inl (none-left (site_of w side) x f.0 far f.1 none shows (there-or (site_of w side).host f.0.name shows.peer shows.shows)) }

lone-first : (joined : Bool) (w : World) (x : ℕ) (side : Side) → IsReached joined w → IsLeftAlone w x side → Lone (HasFew (queued_at w x side)) w x side
lone-first joined w x side r k = record {
  own = v.own;
  far = v.far;
  ends = record { e = a.stands.end; f = f.e; here = at.0; there = at_far.0; of_e = at.1; of_f = at_far.1; shows = shows; shows_far = shows_far };
  p = a.stands.peer;
  is = shows.has ∙ ap Some (same-peer (site_of w side).host a.stands.end.name shows.peer a.stands.peer shows.shows a.stands.is);
  on = a.connected;
  holds = (let e = ap queued_in standing in omega arith);
  gone = f.silent v.far shows_far;
}
  where
    s : Sound (from_start joined) w
    s = sound joined w r

    a : IsConnected (site_of w side) x
    a = connected-at (site_of w side) x k.connected

    -- the peer that stands there
    standing : peer_at (site_of w side) x ≡ Some a.stands.peer
    standing = ap (λ (o : Option HostEnd). option_and_then (λ (e : HostEnd). named (site_of w side).host.slots e.name) o) a.stands.there ∙ a.stands.is

    at : Has (site_of w side).ends a.stands.end × (a.stands.end.connection ≡ x)
    at = end-has (site_of w side).ends x a.stands.end a.stands.there

    f : LeftEnd (site_of w (other side)) x
    f = left-end w x (other side) k.left

    at_far : Has (site_of w (other side)).ends f.e × (f.e.connection ≡ x)
    at_far = end-has (site_of w (other side)).ends x f.e f.there

    low : x < w.count
    low = (let h = host-at (from_start joined) w s side in let l : a.stands.end.connection < w.count = h.below a.stands.end at.0 in let e : a.stands.end.connection ≡ x = at.1 in omega arith)

    v : Seen w x side
    v = seen (from_start joined) w x side s low

    shows : Shows (site_of w side) a.stands.end v.own
    shows = shown-there (site_of w side) w.count x v.own a.stands.end (host-at (from_start joined) w s side) v.here a.stands.there

    shows_far : Shows (site_of w (other side)) f.e v.far
    shows_far = shown-there (site_of w (other side)) w.count x v.far f.e (host-at (from_start joined) w s (other side)) v.there f.there

-- ---- after them
up-past : (s : PeerState) → is_up s ≡ true → is_past s ≡ true → is_ending s ≡ true
up-past state.Connected up past = absurd (let z : false ≡ true = past in cc)
up-past state.AckDisconnect up past = refl
up-past state.Ended up past = refl
up-past s up past = absurd (cc)

ends-past : (joined : Bool) (was : HostEnd) (w : World) (x : ℕ) (side : Side) → IsReached joined w → Past w x side → IsEither is_up was (site_of w side) x → IsEither is_ending was (site_of w side) x
ends-past joined was w x side r d (inr over) = inr over
ends-past joined was w x side r d (inl k) = inl (record { e = k.e; there = k.there; more = k.more; called = k.called; took = k.took; p = k.p; is = k.is; up = up-past k.p.state k.up past })
  where
    there : end_of x (site_of w side).ends ≡ Some d.ends.e
    there = shown-end-of (site_of w side) w.count x d.ends.e (host-at (from_start joined) w (sound joined w r) side) d.ends.here d.ends.of_e

    same : d.ends.e ≡ k.e
    same = same-some d.ends.e k.e (sym there ∙ k.there)

    is : named (site_of w side).host.slots d.ends.e.name ≡ Some k.p
    is = ap (λ (e : HostEnd). named (site_of w side).host.slots e.name) same ∙ k.is

    own : d.own.peer ≡ Some k.p
    own = d.ends.shows.has ∙ ap Some (same-peer (site_of w side).host d.ends.e.name d.ends.shows.peer k.p d.ends.shows.shows is)

    past : is_past k.p.state ≡ true
    past = ap (λ (p : Peering). is_past p.state) (same-some k.p d.past.0 (sym own ∙ d.past.1)) ∙ d.past.2

long-enough : (all d m : ℕ) → 0 < d → all / d + 4 ≤ m → all + 3 * d ≤ m * d
long-enough all d m some few =
    let whole : all / d * d + all % d ≡ all = div-add-mod' all d in
    let inside : all % d < d = mod-lt all some in
    let most : (all / d + 4) * d ≤ m * d = mul-le-mul_right d few in
    let parts : (all / d + 4) * d ≡ all / d * d + 4 * d = spread (all / d) d in
    omega arith
  where
    spread : (q k : ℕ) → (q + 4) * k ≡ q * k + 4 * k
    spread q k = omega arith

is-past-then : (joined : Bool) (n ms passed most x : ℕ) (side : Side) (told : Calm) (w v : World) → 0 < min ms 60000 → passed + 180000 * most < 4293000000 → Rounds ms n told w v → (share_of told side).cut_short ≡ 0 → IsReachedIn passed joined w → Lone (HasFew most) w x side
    → 500 + 90000 * (most + 1) + 3 * min ms 60000 ≤ n * min ms 60000 → Past v x side
is-past-then joined n ms passed most x side told w v some early d uncut r k long = (let h = after-rounds joined n ms passed most x side told w v some early d uncut r k in elim h.1 [
  | inl l ↦ absurd (let b = stage-brief (min ms 60000) n passed most (clock_at v side) l.p some l.holds.0 in omega arith)
  | inr past ↦ past
])

-- all rounds but the last: its peer is up, or its user was told; and the last, where it was past before
first-rounds : (joined : Bool) (was : HostEnd) (m ms x : ℕ) (side : Side) (told : Calm) (w v : World) → 0 < m → Rounds ms m told w v → (share_of told side).cut_short ≡ 0 → IsHere joined is_up was x side w → IsHere joined is_up was x side v
first-rounds joined was m ms x A told w v some d uncut k = elim (rounds-go joined is_up is_open open-up was x ms A (λ now a b one cut h. round-a joined is_up is_up is_open at-a up-rises was x ms now a b one cut h) m told w v d uncut k) [
  | inl none ↦ absurd (let z : m ≡ 0 = none.0 in omega arith)
  | inr h ↦ (h.0, weaker is_open is_up was v.a x open-up h.1)
]
first-rounds joined was m ms x B told w v some d uncut k = elim (rounds-go joined is_up is_connected connected-up was x ms B (λ now a b one cut h. round-b joined is_up is_open_or_over is_connected at-b was x ms now a b one cut h) m told w v d uncut k) [
  | inl none ↦ absurd (let z : m ≡ 0 = none.0 in omega arith)
  | inr h ↦ (h.0, weaker is_connected is_up was v.b x connected-up h.1)
]

last-round : (joined : Bool) (was : HostEnd) (ms x : ℕ) (side : Side) (told : Calm) (w v : World) → Round ms told w v → (share_of told side).cut_short ≡ 0 → IsHere joined is_ending was x side w → IsHere joined is_none was x side v
last-round joined was ms x A told w v d uncut k = round-a joined is_ending has_ended is_none at-end ended-rises was x ms told w v d uncut k
last-round joined was ms x B told w v d uncut k = round-b joined is_ending has_ended is_none at-end was x ms told w v d uncut k

pub tells-alone : (joined : Bool) (ms rounds passed : ℕ) (told : Calm) (old new : World) → IsReachedIn passed joined old → Rounds ms rounds told old new → TellsAlone ms rounds passed told old new
tells-alone joined ms zero passed told old new r d x side alone uncut some early long = absurd (let l = long in omega arith)
tells-alone joined ms (suc m) passed told old new r d x side alone uncut some early long = elim last.1 [
  | inl k ↦ absurd (let z : false ≡ true = k.up in cc)
  | inr over ↦ told-so old new x side a.was a.there over
]
  where
    few : (q n : ℕ) → q + 5 ≤ suc n → q + 4 ≤ n
    few q n l = omega arith

    some_rounds : (q n : ℕ) → q + 5 ≤ suc n → 0 < n
    some_rounds q n l = omega arith

    lesser : (n : ℕ) → 0 < n → 0 < min n 60000
    lesser n h = grind arith

    cuts : ((share_of d.0 side).cut_short ≡ 0) × ((share_of d.1 side).cut_short ≡ 0)
    cuts = uncut-parts (share_of d.0 side) (share_of d.1 side) (share_of told side) (share-is told d.0 d.1 d.5 side) uncut

    a : Begins (site_of old side) x state.Connected
    a = begins (site_of old side) x state.Connected alone.connected

    past : Past d.2 x side
    past = is-past-then joined m ms passed (queued_at old x side) x side d.0 old d.2 (lesser ms some) early d.3 cuts.0 r (lone-first joined old x side r.reached alone)
        (long-enough (500 + 90000 * (queued_at old x side + 1)) (min ms 60000) m (lesser ms some) (few ((500 + 90000 * (queued_at old x side + 1)) / min ms 60000) m long))

    start : IsHere joined is_up a.was x side old
    start = (r.reached, inl (record { e = a.was; there = a.there; more = []; called = refl; took = sym (append-nil a.was.events); p = a.p; is = a.is; up = ap is_up a.in_it }))

    first : IsHere joined is_up a.was x side d.2
    first = first-rounds joined a.was m ms x side d.0 old d.2 (some_rounds ((500 + 90000 * (queued_at old x side + 1)) / min ms 60000) m long) d.3 cuts.0 start

    last : IsHere joined is_none a.was x side new
    last = last-round joined a.was ms x side d.1 d.2 new d.4 cuts.1 (first.0, ends-past joined a.was d.2 x side first.0 past first.1)
