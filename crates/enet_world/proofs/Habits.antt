-- What each peer of a world has kept since it began, since in a world nothing is set: ENet's patience and ping interval, room for 576 bytes in a
-- datagram, at most a PING on channel 0xFF while it is connected, and that whatever was sent is due to go again, or its timeout isn't over; and how
-- long it has waited, by how much the clocks have gone on since the world's beginning.
use Rattle.std.proofs.Common.{◌≡◌, ℕ, ◌+◌, ◌%◌, ◌^◌, ◌<◌, ◌≤◌, ◌&&◌, min, ◌⊎◌, inl, inr, Bool, true, false, cond, nat_lt, length, List, [], ◌∷◌, ◌++◌, append-nil, refl, sym, ap, subst, ◌∙◌, arith, Option, Some, None, Result, Ok, Err}
use Rattle.std.proofs.lemmas.Bool.Decides.{nat_tests}
use Rattle.std.specs.List.{slice_get}
use Rattle.enet_codec.specs.declared.address.Addr.{Addr}
use Rattle.enet_codec.specs.declared.config.Admission.TheVariants as admission
use Rattle.enet_codec.specs.declared.config.Config.{Config}
use Rattle.enet_codec.specs.Config.{is_in_range}
use Rattle.enet_codec.specs.declared.event.Event.TheVariants as tells
use Rattle.enet_codec.specs.declared.event.PeerRef.{PeerRef}
use Rattle.enet_codec.specs.declared.refusal.Refusal.{Refusal}
use Rattle.enet_rtt.specs.declared.transmission.Transmission.{Transmission}
use Rattle.enet_peer.specs.Peering.{Peering}
use Rattle.enet_peer.specs.CommandEffect.{Outcome, wants_memory}
use Rattle.enet_peer.specs.Refusing.{heeded, told_full}
use Rattle.enet_peer.proofs.Refusals.{heeded-holds}
use Rattle.enet_outbox.specs.Emission.{filled}
use Rattle.enet_peer.specs.Calls.{AtOnce, is_answering, moved, pace_of}
use Rattle.enet_slot.specs.Slot.{SlotState}
use Rattle.enet_host.specs.Host.{Host, named, peer_in, slot_named}
use Rattle.enet_host.specs.Opening as opening
use Rattle.enet_host.specs.Ticking.{clock_after}
use Rattle.law_connection.specs.Steps.{leave_by}
use Rattle.law_connection.specs.Steps as setting
use Rattle.law_connection.proofs.Events.{took}
use Rattle.law_connection.proofs.InOrder.{new-senders}
use Rattle.law_network.specs.Beginnings.{BeganBy, Lived, WasThere}
use Rattle.law_network.specs.Calls.{Call, Acts, Steps, Series}
use Rattle.law_network.specs.Calls as call
use Rattle.law_network.specs.Common.{Common, common_of}
use Rattle.law_network.specs.Deeds.{Deed, Alone, AllAlone, emitted}
use Rattle.law_network.specs.Deeds as deed
use Rattle.law_network.specs.Falling.{Fell, Occupied, fell_to, fell_in, occupied_in, share_of}
use Rattle.law_network.specs.Falling as falling
use Rattle.law_network.specs.declared.event.Answer.{Answer}
use Rattle.law_network.specs.declared.event.Answer.TheVariants as answers
use Rattle.law_network.specs.declared.event.Side.{Side}
use Rattle.law_network.specs.declared.event.Side.TheVariants.{A, B}
use Rattle.law_network.specs.declared.event.WorldEvent.{WorldEvent}
use Rattle.law_network.specs.declared.event.WorldEvent.TheVariants as happen
use Rattle.law_network.specs.Log.{Logged}
use Rattle.law_network.specs.Network.{Site}
use Rattle.law_network.specs.Alone.{call_by, received_from}
use Rattle.law_network.specs.Own.{IsOwn, config_by, clock_by}
use Rattle.law_network.specs.Steps.{Happening, Calls, Delivers, beside}
use Rattle.law_network.specs.World.{World, HappensAt, Makes, Runs, site_of, side_of, other, address_of, joined_config}
use Rattle.law_network.specs.World as world
use Rattle.law_network.proofs.Accepting.{accepted}
use Rattle.law_network.proofs.Alone.{by-call}
use Rattle.law_network.proofs.Beginning.{each-beginning, lived-all}
use Rattle.law_network.proofs.Matching.{was-set, matches}
use Rattle.law_network.proofs.Own.{of-the-host}
use Rattle.law_network.proofs.Runs.{both}
use Rattle.law_network.proofs.Submitting.{same-some}
use Rattle.law_progress.specs.Attempts.{after_take}
use Rattle.law_progress.specs.Waits.{after_leave}
use Rattle.law_progress.proofs.Ageing.{Aged, Ages, most, ages-moved, ages-emitted, ages-more}
use Rattle.law_progress.proofs.Waiting.{none-new, fair-again, fair-heeded, fair-takes, fair-submitted, fair-left, Fair}
use Rattle.law_progress.proofs.Wide.{IsWide, at-least, wide-obeyed, wide-takes, wide-went, wide-left, wide-moved}
use Rattle.enet_world.specs.Worlds.{first}
use Rattle.enet_world.specs.Private.Worlds.{IsReachedIn, passes, all_pass}
use Rattle.enet_world.proofs.Fallen.{Each, kept-by-each, each-if, each-up-to, each-reaches}
use Rattle.enet_world.proofs.Lasting.{obeys}
use Rattle.enet_world.proofs.Modest.{IsModest, modest-obeyed, modest-told, modest-moved, modest-emitted, modest-submitted, modest-left}
use Rattle.enet_world.proofs.Pings.{Idle, Queued}
use Rattle.enet_world.proofs.Punctual.{Rests, rests-moved, rests-emitted}
use Rattle.enet_world.proofs.Unset.{IsUnset, unset-obeyed, unset-went, unset-left, unset-moved}
use Rattle.enet_world.proofs.Unsent.{IsUnsent, unsent-lasts}

-- ---- a peer
-- what it keeps, where `time` milliseconds have passed since the world began; `now` is a moment of its host's clock, which wraps
pub record Habit (now time : ℕ) (p : Peering) : Type 0 where
  pub aged : time < 2 ^ 32 → Ages now time p
  pub rests : Fair (Rests (now % 2 ^ 32)) most p
  pub wide : IsWide p
  pub unset : IsUnset p
  pub modest : IsModest p
  pub unsent : IsUnsent p

-- ---- what a peer does at a moment
-- a deed that is none of time, at a moment, and sets nothing of how long the peer waits
abbrev pub IsNow : ℕ → Deed → Type 0
IsNow n (deed.Submit packet limit answer) = Unit {0}
IsNow n (deed.Emit now given) = now ≡ n
IsNow n (deed.Come b m answer) = b.now ≡ n
IsNow n (deed.Tick now short) = ⊥
IsNow n (deed.Take given) = Unit {0}
IsNow n (deed.Disconnect way info answer) = Unit {0}
IsNow n (deed.Set (setting.ThrottleLimit limit) answer) = Unit {0}
IsNow n (deed.Set s answer) = ⊥
IsNow n deed.GiveWay = Unit {0}
IsNow n deed.TellAgain = Unit {0}

pub clock-sum : (now d : ℕ) → (now % 2 ^ 32 + d) % 2 ^ 32 ≡ (now + d) % 2 ^ 32
clock-sum now d = omega arith

low-now : (n now : ℕ) → n ≡ now % 2 ^ 32 → n < 2 ^ 32
low-now n now e = omega arith

deed-keeps : (now time : ℕ) (d : Deed) (p q : Peering) → IsNow (now % 2 ^ 32) d → Alone d p q → Habit now time p → Habit now time q
deed-keeps now time (deed.Submit x limit (Ok done)) p q at a h = subst (Habit now time) (sym a.1) (record {
  aged = λ near. fair-submitted (Aged now time) most p x.channel (record { flags = x.flags; body = x.body }) (h.aged near);
  rests = fair-submitted (Rests (now % 2 ^ 32)) most p x.channel (record { flags = x.flags; body = x.body }) h.rests;
  wide = h.wide;
  unset = h.unset;
  modest = modest-submitted p x.channel (record { flags = x.flags; body = x.body }) h.modest;
  unsent = unsent-lasts.submits p x.channel (record { flags = x.flags; body = x.body }) (accepted limit p x.channel (record { flags = x.flags; body = x.body }) a.0) h.unsent;
})
deed-keeps now time (deed.Submit x limit (Err why)) p q at a h = subst (Habit now time) (sym a.1) h
deed-keeps now time (deed.Emit n given) p q at a h = subst (Habit now time) (sym (a.1 ∙ ap (λ m. emitted p m) at)) (record {
  aged = λ near. ages-emitted now time p (h.aged near);
  rests = rests-emitted (now % 2 ^ 32) p (low-now (now % 2 ^ 32) now refl) h.rests;
  wide = wide-went (record p { outbox = (filled (pace_of p (now % 2 ^ 32)) p.outbox).outbox }) p.state h.wide;
  unset = unset-went (record p { outbox = (filled (pace_of p (now % 2 ^ 32)) p.outbox).outbox }) p.state h.unset;
  modest = modest-emitted p (now % 2 ^ 32) h.modest;
  unsent = unsent-lasts.emits p (now % 2 ^ 32) h.unsent;
})
deed-keeps now time (deed.Come b m answer) p q at a h = obeys (Habit now time) answer (wants_memory p b.now b.sent m) (heeded b.full p b.now b.sent m) p q a h (record {
  aged = λ near. fair-heeded (Aged now time) most b.full p b.now b.sent m (h.aged near);
  rests = fair-heeded (Rests (now % 2 ^ 32)) most b.full p b.now b.sent m h.rests;
  wide = heeded-holds (λ (o : Outcome). IsWide o.after) b.full p b.now b.sent m (wide-obeyed p b.now b.sent m h.wide) (λ answers. h.wide);
  unset = heeded-holds (λ (o : Outcome). IsUnset o.after) b.full p b.now b.sent m (unset-obeyed p b.now b.sent m (low-now b.now now at) h.unset) (λ answers. h.unset);
  modest = heeded-holds (λ (o : Outcome). IsModest o.after) b.full p b.now b.sent m (modest-obeyed p b.now b.sent m h.modest) (λ answers. modest-told p answers);
  unsent = unsent-lasts.comes b.full p b.now b.sent m h.unsent;
})
deed-keeps now time deed.GiveWay p q at a h = subst (Habit now time) (sym a.1) (record {
  aged = λ near. fair-left (Aged now time) most p AtOnce 0 (h.aged near);
  rests = fair-left (Rests (now % 2 ^ 32)) most p AtOnce 0 h.rests;
  wide = h.wide;
  unset = h.unset;
  modest = tt;
  unsent = unsent-lasts.yields p a.0 h.unsent;
})
deed-keeps now time deed.TellAgain p q at a h = subst (Habit now time) (sym a.1)
    (again told (λ near. fair-again (Aged now time) most true told p (h.aged near)) (fair-again (Rests (now % 2 ^ 32)) most true told p h.rests) (unsent-lasts.tells p a.0 h.unsent))
  where
    told : Bool
    told = nat_lt 0 (length p.outbox.control.queued)

    again : (b : Bool) → (time < 2 ^ 32 → Ages now time (cond b p (told_full p))) → Fair (Rests (now % 2 ^ 32)) most (cond b p (told_full p)) → IsUnsent (cond b p (told_full p)) → Habit now time (cond b p (told_full p))
    again true aged rests unsent = h
    again false aged rests unsent = record { aged = aged; rests = rests; wide = h.wide; unset = h.unset; modest = modest-told p (both (is_answering p.state) p.refused a.0).0; unsent = unsent }
deed-keeps now time (deed.Tick n short) p q at a h = absurd at
deed-keeps now time (deed.Take None) p q at a h = subst (Habit now time) (sym a.1) h
deed-keeps now time (deed.Take (Some e)) p q at a h = record {
  aged = λ near. subst (λ t. Ages now time (after_take p t)) a (fair-takes (Aged now time) most p (h.aged near));
  rests = subst (λ t. Fair (Rests (now % 2 ^ 32)) most (after_take p t)) a (fair-takes (Rests (now % 2 ^ 32)) most p h.rests);
  wide = subst (λ t. IsWide (after_take p t)) a (wide-takes p h.wide);
  unset = took (λ y t. IsUnset y) p q e a (λ info g. h.unset) (λ x rest g u. h.unset) (λ g u s. h.unset);
  modest = took (λ y t. IsModest y) p q e a (λ info g. h.modest) (λ x rest g u. h.modest) (λ g u s. tt);
  unsent = unsent-lasts.takes p q e a h.unsent;
}
deed-keeps now time (deed.Disconnect way info (Ok done)) p q at a h = subst (λ (o : Option Peering). Habit now time (after_leave p o)) a (record {
  aged = λ near. fair-left (Aged now time) most p (leave_by way p.state) info (h.aged near);
  rests = fair-left (Rests (now % 2 ^ 32)) most p (leave_by way p.state) info h.rests;
  wide = wide-left p (leave_by way p.state) info h.wide;
  unset = unset-left p (leave_by way p.state) info h.unset;
  modest = modest-left p (leave_by way p.state) info h.modest;
  unsent = subst (λ (o : Option Peering). IsUnsent (after_leave p o)) (sym a) (unsent-lasts.leaves p q way info a h.unsent);
})
deed-keeps now time (deed.Disconnect way info (Err why)) p q at a h = subst (Habit now time) (sym a.2) h
deed-keeps now time (deed.Set (setting.ThrottleLimit limit) (Ok done)) p q at a h = subst (Habit now time) (sym (was-set (setting.ThrottleLimit limit) done p q a).1)
    (record { aged = h.aged; rests = h.rests; wide = h.wide; unset = h.unset; modest = h.modest; unsent = h.unsent })
deed-keeps now time (deed.Set (setting.ThrottleLimit limit) (Err why)) p q at a h = subst (Habit now time) (sym (matches.refused (deed.Set (setting.ThrottleLimit limit) (Err why)) p q a refl)) h
deed-keeps now time (deed.Set s answer) p q at a h = absurd at

-- ---- what falls to a peer by a call
-- a call that is none of time, and sets nothing
abbrev pub IsStill : Call → Type 0
IsStill (call.Tick ms) = ⊥
IsStill (call.SetBandwidth incoming outgoing answer) = ⊥
IsStill (call.ConfigureThrottle name interval acceleration deceleration answer) = ⊥
IsStill (call.SetPingInterval name ms answer) = ⊥
IsStill (call.SetTimeout name limit minimum maximum answer) = ⊥
IsStill c = Unit {0}

fell-now : (h : Common) (x : Occupied) (c : Call) (ds : List Deed) → IsStill c → Fell h x c ds → Each (IsNow h.clock) ds
fell-now h x (call.Connect address channels info word answer) ds k f = subst (Each (IsNow h.clock)) (sym f) tt
fell-now h x (call.Submit name channel q answer) ds k f = subst (Each (IsNow h.clock)) (sym f) (each-if (IsNow h.clock) (falling.is_meant name x.number x.slot) _ tt)
fell-now h x (call.Receive from bytes answer) ds k f = each-reaches (IsNow h.clock) x.number x.slot _ ds (λ sent full m told. refl) tt tt f
fell-now h x (call.Service None buf) ds k f = subst (Each (IsNow h.clock)) (sym f) (refl, tt)
fell-now h x (call.Service (Some gave) buf) ds k f = subst (Each (IsNow h.clock)) (sym f) (each-up-to (IsNow h.clock) h.turn gave.0.slot x.number _ _ refl refl)
fell-now h x (call.Disconnect mode name info answer) ds k f = subst (Each (IsNow h.clock)) (sym f) (each-if (IsNow h.clock) (falling.is_meant name x.number x.slot) _ tt)
fell-now h x (call.NextEvent None) ds k f = subst (Each (IsNow h.clock)) (sym f) (tt, tt)
fell-now h x (call.NextEvent (Some (tells.Connect name info))) ds k f = subst (Each (IsNow h.clock)) (sym f) (each-up-to (IsNow h.clock) h.event_turn name.slot x.number _ _ tt tt)
fell-now h x (call.NextEvent (Some (tells.Receive name packet))) ds k f = subst (Each (IsNow h.clock)) (sym f) (each-up-to (IsNow h.clock) h.event_turn name.slot x.number _ _ tt tt)
fell-now h x (call.NextEvent (Some (tells.Disconnect name info))) ds k f = subst (Each (IsNow h.clock)) (sym f) (each-up-to (IsNow h.clock) h.event_turn name.slot x.number _ _ tt tt)
fell-now h x (call.NextEvent (Some (tells.Refused seat number why))) ds k f = subst (Each (IsNow h.clock)) (sym f) tt
fell-now h x (call.Admit what answer) ds k f = subst (Each (IsNow h.clock)) (sym f) tt
fell-now h x (call.SetSendLimit bytes commands) ds k f = subst (Each (IsNow h.clock)) (sym f) tt
fell-now h x c ds k f = absurd k

-- ---- a host
pub record HostHabits (time : ℕ) (h : Host) : Type 0 where
  pub now : ℕ
  pub clock : h.clock ≡ now % 2 ^ 32
  pub mtu : 576 ≤ h.config.mtu
  pub peers : (name : PeerRef) (p : Peering) → named h.slots name ≡ Some p → Habit now time p

-- where less time than that is known to have passed, it is so too of more
host-more : (time more : ℕ) (h : Host) → time ≤ more → HostHabits time h → HostHabits more h
host-more time more h low k = record { now = k.now; clock = k.clock; mtu = k.mtu; peers = λ name p is. later p (k.peers name p is) }
  where
    later : (p : Peering) → Habit k.now time p → Habit k.now more p
    later p a = record { aged = λ near. ages-more k.now time more p low (a.aged (omega arith)); rests = a.rests; wide = a.wide; unset = a.unset; modest = a.modest; unsent = a.unsent }

-- a peer that begins has sent nothing
new-habit : (now time : ℕ) (p : Peering) → ((R : Transmission → Type 0) → Fair R most p) → IsWide p → IsUnset p → IsModest p → IsUnsent p → Habit now time p
new-habit now time p fair wide unset modest unsent = record { aged = λ near. fair (Aged now time); rests = fair (Rests (now % 2 ^ 32)); wide = wide; unset = unset; modest = modest; unsent = unsent }

begun-habit : (now time : ℕ) (c : Call) (h : Host) (i : ℕ) (s t : SlotState) (p : Peering) → 576 ≤ h.config.mtu → h.clock < 2 ^ 32 → falling.Begins c (common_of h) i s t → t.peer ≡ Some p → Habit now time p
begun-habit now time c h i s t p wide low (falling.asks address channels info word is some free) has =
    subst (Habit now time) (same-some _ p has) (new-habit now time _ (λ R. (((λ t' k. absurd k), none-new R 0 _), record { round_trip = omega arith; variance = omega arith }, refl)) wide (refl, refl, low) tt (λ e. absurd (cc)))
begun-habit now time c h i s t p wide low (falling.answers from bytes commands header o is read nobody offer taken new free) has =
    subst (Habit now time) (same-some _ p has)
    (new-habit now time _ (λ R. (((λ t' k. absurd k), none-new R 0 _), record { round_trip = omega arith; variance = omega arith }, refl)) (at-least o.mtu h.config.mtu) (refl, refl, low) (Queued _ refl refl refl) (λ e. new-senders 0 _))

pub still-clock : (c : Call) (n : ℕ) → IsStill c → clock_by c n ≡ n
still-clock (call.Tick ms) n k = absurd k
still-clock c n k = refl

-- what fell to a slot fell to the peer there
pub fell-there : (h : Host) (name : PeerRef) (c : Call) (p : Peering) (ds : List Deed) → named h.slots name ≡ Some p → fell_to (common_of h) name.slot (slot_named h.slots name) c ds
    → (x : Occupied) × (x.peer ≡ p) × Fell (common_of h) x c ds
fell-there h name c p ds is f = by (slot_named h.slots name) refl f
  where
    in-slot : (s : SlotState) → slot_named h.slots name ≡ Some s → (o : Option Peering) → s.peer ≡ o → fell_in (common_of h) (occupied_in name.slot s o) c ds → (x : Occupied) × (x.peer ≡ p) × Fell (common_of h) x c ds
    in-slot s at None none g = absurd (let z : ◌≡◌ {A = Option Peering} None (Some p) = sym none ∙ sym (ap peer_in at) ∙ is in cc)
    in-slot s at (Some q) some g = (record { number = name.slot; slot = s; peer = q }, same-some q p (sym some ∙ sym (ap peer_in at) ∙ is), g)

    by : (o : Option SlotState) → slot_named h.slots name ≡ o → fell_to (common_of h) name.slot o c ds → (x : Occupied) × (x.peer ≡ p) × Fell (common_of h) x c ds
    by None none g = absurd (let z : ◌≡◌ {A = Option Peering} None (Some p) = sym (ap peer_in none) ∙ is in cc)
    by (Some s) at g = in-slot s at s.peer refl g

-- what one call makes of each peer, where it makes that of what fell to one that was there
by-one : (P Q : Peering → Type 0) (c : Call) (h g : Host) → Acts c h g → ((x : Occupied) (q : Peering) (ds : List Deed) → Fell (common_of h) x c ds → AllAlone ds x.peer q → P x.peer → Q q)
    → ((i : ℕ) (s t : SlotState) (p : Peering) → falling.Begins c (common_of h) i s t → t.peer ≡ Some p → Q p) → ((name : PeerRef) (p : Peering) → named h.slots name ≡ Some p → P p)
    → (name : PeerRef) (p : Peering) → named g.slots name ≡ Some p → Q p
by-one P Q c h g acts goes begins old name p is = began l.began
  where
    series : Series (c ∷ [])
    series = record { before = h; after = g; steps = (g, acts, refl) }

    l : Lived name (c ∷ []) series p
    l = lived-all (c ∷ []) h g (g, acts, refl) name p is

    began : WasThere name (c ∷ []) series l.first l.deeds ⊎ BeganBy name (c ∷ []) series l.first l.deeds → Q p
    began (inl (was, fell)) =
        let same : l.deeds ≡ fell.0 = fell.2 ∙ ap (λ (y : List Deed). fell.0 ++ y) fell.4 ∙ append-nil fell.0 in
        let there = fell-there h name c l.first fell.0 was fell.3 in
        goes there.0 p fell.0 there.2 (subst (λ (y : Peering). AllAlone fell.0 y p) (sym there.1) (subst (λ (y : List Deed). AllAlone y l.first p) same l.alone)) (subst P (sym there.1) (old name l.first was))
    began (inr (inl (b, none))) =
        let same : l.first ≡ p = subst (λ (y : List Deed). AllAlone y l.first p) none l.alone in
        subst Q same (begins name.slot b.slot b.given l.first b.begins b.peer)
    began (inr (inr never)) = absurd never

still-mtu : (c : Call) (k : Config) → IsStill c → (config_by c k).mtu ≡ k.mtu
still-mtu (call.SetBandwidth incoming outgoing answer) k still = absurd still
still-mtu (call.Admit admission.GiveWay (Ok done)) k still = refl
still-mtu (call.Admit (admission.Most peers) (Ok done)) k still = refl
still-mtu (call.Admit (admission.OfAddress peers) (Ok done)) k still = refl
still-mtu c k still = refl

still-call : (time : ℕ) (c : Call) (h g : Host) → IsStill c → Acts c h g → HostHabits time h → HostHabits time g
still-call time c h g still acts k = record {
  now = k.now;
  clock = own.1 ∙ still-clock c h.clock still ∙ k.clock;
  mtu = subst (λ n. 576 ≤ n) (sym (ap (λ (x : Config). x.mtu) own.0 ∙ still-mtu c h.config still)) k.mtu;
  peers = by-one (Habit k.now time) (Habit k.now time) c h g acts
      (λ x q ds fell alone was. kept-by-each (IsNow (k.now % 2 ^ 32)) (Habit k.now time) (deed-keeps k.now time) ds x.peer q (subst (λ n. Each (IsNow n) ds) k.clock (fell-now (common_of h) x c ds still fell)) alone was)
      (λ i s t p begins has. begun-habit k.now time c h i s t p k.mtu (low-now h.clock k.now k.clock) begins has) k.peers;
}
  where
    own : IsOwn c h g
    own = of-the-host c h g acts

tick-call : (time ms : ℕ) (h g : Host) → Acts (call.Tick ms) h g → HostHabits time h → HostHabits (time + min ms 60000) g
tick-call time ms h g acts k = record {
  now = k.now + d;
  clock = own.1 ∙ moment;
  mtu = subst (λ n. 576 ≤ n) (sym (ap (λ (x : Config). x.mtu) own.0)) k.mtu;
  peers = by-one (Habit k.now time) (Habit (k.now + d) (time + d)) (call.Tick ms) h g acts goes
      (λ i s t p begins has. begun-habit (k.now + d) (time + d) (call.Tick ms) h i s t p k.mtu (low-now h.clock k.now k.clock) begins has) k.peers;
}
  where
    d : ℕ
    d = min ms 60000

    n : ℕ
    n = (k.now + d) % 2 ^ 32

    own : IsOwn (call.Tick ms) h g
    own = of-the-host (call.Tick ms) h g acts

    moment : clock_after h.clock ms ≡ n
    moment = ap (λ m. clock_after m ms) k.clock ∙ clock-sum k.now d

    goes : (x : Occupied) (q : Peering) (ds : List Deed) → Fell (common_of h) x (call.Tick ms) ds → AllAlone ds x.peer q → Habit k.now time x.peer → Habit (k.now + d) (time + d) q
    goes x q ds fell alone was = after (subst (λ (y : List Deed). AllAlone y x.peer q) fell alone)
      where
        short : Bool
        short = (common_of h).short x.number

        share : List Deed
        share = share_of (common_of h) (clock_after h.clock ms) x.slot.emitted (moved short x.peer (clock_after h.clock ms))

        shares : Each (IsNow n) share
        shares = each-if (IsNow n) _ _ tt

        then' : Habit (k.now + d) (time + d) (moved short x.peer n)
        then' = record {
          aged = λ near. ages-moved k.now time d short x.peer (was.aged (omega arith)) near;
          rests = rests-moved (k.now % 2 ^ 32) n short x.peer (low-now n (k.now + d) refl) was.unsent was.rests;
          wide = wide-moved short x.peer n was.wide;
          unset = unset-moved short x.peer n was.unset;
          modest = modest-moved short x.peer n was.modest;
          unsent = unsent-lasts.ticks short x.peer n was.unsent;
        }

        after : AllAlone (deed.Tick (clock_after h.clock ms) short ∷ share) x.peer q → Habit (k.now + d) (time + d) q
        after (r, tick, rest) = kept-by-each (IsNow n) (Habit (k.now + d) (time + d)) (deed-keeps (k.now + d) (time + d)) share r q shares rest (subst (Habit (k.now + d) (time + d)) (sym (tick ∙ ap (λ m. moved short x.peer m) moment)) then')

-- ---- a world
abbrev pub WorldHabits : ℕ → World → Type 0
WorldHabits time w = (side : Side) → HostHabits time (site_of w side).host

-- however much time has passed
abbrev pub Habits : World → Type 0
Habits w = (time : ℕ) × WorldHabits time w

abbrev pub IsStillThing : Happening → Type 0
IsStillThing (Calls c) = IsStill c
IsStillThing (Delivers k answer) = Unit {0}

still-thing : (time : ℕ) (from old new : Site) (what : Happening) → IsStillThing what → Steps (call_by from what) old.host new.host → HostHabits time old.host → HostHabits time new.host
still-thing time from old new (Calls c) still (g, acts, same) k = subst (HostHabits time) same (still-call time c old.host g still acts k)
still-thing time from old new (Delivers n answer) still steps k = brought (slice_get from.log n) steps
  where
    brought : (found : Option Logged) → Steps (received_from from.address answer found) old.host new.host → HostHabits time new.host
    brought None same = subst (HostHabits time) same k
    brought (Some d) (g, acts, same) = subst (HostHabits time) same (still-call time (call.Receive from.address d.text answer) old.host g tt acts k)

-- at one side something happens, and at the other nothing
at-sides : (time more : ℕ) (at : Side) (what : Happening) (old new : World) → time ≤ more → HappensAt at what old new
    → (Steps (call_by (site_of old (other at)) what) (site_of old at).host (site_of new at).host → HostHabits time (site_of old at).host → HostHabits more (site_of new at).host) → WorldHabits time old → WorldHabits more new
at-sides time more A what old new low h goes k A = goes (by-call (beside old.count old.b) old.b old.a new.a what h.here) (k A)
at-sides time more A what old new low h goes k B = subst (λ (s : Site). HostHabits more s.host) (sym h.there) (host-more time more old.b.host low (k B))
at-sides time more B what old new low h goes k B = goes (by-call (beside old.count old.a) old.a old.b new.b what h.here) (k B)
at-sides time more B what old new low h goes k A = subst (λ (s : Site). HostHabits more s.host) (sym h.there) (host-more time more old.a.host low (k A))

-- an event is a tick, or still
pub is-tick-or : (w : World) (e : WorldEvent) (answer : Answer) (what : Happening) → Makes w e answer what → ((ms : ℕ) × (passes e ≡ min ms 60000) × (what ≡ Calls (call.Tick ms))) ⊎ IsStillThing what
is-tick-or w (happen.Connect side channels info word) (answers.Peer name) what m = inr (subst IsStillThing (sym m) tt)
is-tick-or w (happen.Connect side channels info word) answer what m = absurd m
is-tick-or w (happen.Submit side peer channel flags body) answers.Done what m = inr (subst IsStillThing (sym m) tt)
is-tick-or w (happen.Submit side peer channel flags body) answer what m = absurd m
is-tick-or w (happen.Deliver side k) (answers.Received answer) what m = inr (subst IsStillThing (sym m) tt)
is-tick-or w (happen.Deliver side k) answer what m = absurd m
is-tick-or w (happen.Turn side) (answers.Sent None) what (buf, m) = inr (subst IsStillThing (sym m) tt)
is-tick-or w (happen.Turn side) (answers.Sent (Some n)) what (gave, buf, m, number) = inr (subst IsStillThing (sym m) tt)
is-tick-or w (happen.Turn side) answer what m = absurd m
is-tick-or w (happen.Tick side ms) answers.Done what m = inl (ms, refl, m)
is-tick-or w (happen.Tick side ms) answer what m = absurd m
is-tick-or w (happen.Take side) (answers.Taken event) what m = inr (subst IsStillThing (sym m) tt)
is-tick-or w (happen.Take side) answer what m = absurd m
is-tick-or w (happen.Disconnect side peer how info) answers.Done what m = inr (subst IsStillThing (sym m) tt)
is-tick-or w (happen.Admit side what') answers.Done what m = inr (subst IsStillThing (sym m) tt)
is-tick-or w (happen.SetSendLimit side bytes commands) answers.Done what m = inr (subst IsStillThing (sym m) tt)
is-tick-or w (happen.Disconnect side peer how info) answer what m = absurd m
is-tick-or w (happen.Admit side what') answer what m = absurd m
is-tick-or w (happen.SetSendLimit side bytes commands) answer what m = absurd m

world-step : (time : ℕ) (w v : World) (e : WorldEvent) (answer : Result Answer Refusal) → world.Steps w e answer v → WorldHabits time w → WorldHabits (time + passes e) v
world-step time w v e (Err why) step k = λ side. subst (λ (u : World). HostHabits (time + passes e) (site_of u side).host) (sym step.1) (host-more time (time + passes e) (site_of w side).host (omega arith) (k side))
world-step time w v e (Ok answer) (what, makes, h) k = by (is-tick-or w e answer what makes)
  where
    low : time ≤ time + passes e
    low = omega arith

    by : ((ms : ℕ) × (passes e ≡ min ms 60000) × (what ≡ Calls (call.Tick ms))) ⊎ IsStillThing what → WorldHabits (time + passes e) v
    by (inr still) = at-sides time (time + passes e) (side_of e) what w v low h
        (λ steps was. host-more time (time + passes e) (site_of v (side_of e)).host low (still-thing time (site_of w (other (side_of e))) (site_of w (side_of e)) (site_of v (side_of e)) what still steps was)) k
    by (inl (ms, same, is)) = at-sides time (time + passes e) (side_of e) what w v low h
        (λ steps was. ticks (subst (λ (y : Happening). Steps (call_by (site_of w (other (side_of e))) y) (site_of w (side_of e)).host (site_of v (side_of e)).host) is steps) was) k
      where
        ticks : Steps (call.Tick ms ∷ []) (site_of w (side_of e)).host (site_of v (side_of e)).host → HostHabits time (site_of w (side_of e)).host → HostHabits (time + passes e) (site_of v (side_of e)).host
        ticks (g, acts, then') was = subst (λ n. HostHabits (time + n) (site_of v (side_of e)).host) (sym same)
            (subst (HostHabits (time + min ms 60000)) then' (tick-call time ms (site_of w (side_of e)).host g acts was))

pub habits-step : (w v : World) (e : WorldEvent) (answer : Result Answer Refusal) → world.Steps w e answer v → Habits w → Habits v
habits-step w v e answer step k = (k.0 + passes e, world-step k.0 w v e answer step k.1)

world-runs : (time : ℕ) (es : List WorldEvent) (xs : List (Result Answer Refusal)) (w v : World) → Runs w es xs v → WorldHabits time w → WorldHabits (time + all_pass es) v
world-runs time [] [] w v r k = λ side. subst (λ (u : World). HostHabits (time + 0) (site_of u side).host) (sym r) (host-more time (time + 0) (site_of w side).host (omega arith) (k side))
world-runs time [] (x ∷ xs) w v r k = absurd r
world-runs time (e ∷ es) [] w v r k = absurd r
world-runs time (e ∷ es) (x ∷ xs) w v r k = λ side.
    let sum : time + passes e + all_pass es ≡ time + all_pass (e ∷ es) = omega arith in
    subst (λ n. HostHabits n (site_of v side).host) sum (world-runs (time + passes e) es xs r.0 v r.2 (world-step time w r.0 e x r.1 k) side)

-- ---- at the beginning of a world
few-mtu : (c : Config) → is_in_range c ≡ true → 576 ≤ c.mtu
few-mtu c h = grind (arith, nat_tests)

lesser : (a b : ℕ) → 576 ≤ a → 576 ≤ b → 576 ≤ min a b
lesser a b h k = grind arith

low-clock : (n : ℕ) → n < 2 ^ 32 → n ≡ n % 2 ^ 32
low-clock n h = omega arith

opened-habits : (c : Config) → is_in_range c ≡ true → c.clock < 2 ^ 32 → HostHabits 0 (opening.opened c)
opened-habits c h low = record {
  now = c.clock;
  clock = low-clock c.clock low;
  mtu = few-mtu c h;
  peers = λ name p is. absurd (let z : ◌≡◌ {A = Option Peering} None (Some p) = sym (each-beginning.nobody c name) ∙ is in cc);
}

joined-habits : (c : Config) (address : Addr) → 576 ≤ c.mtu → c.clock < 2 ^ 32 → HostHabits 0 (opening.joined c address)
joined-habits c address wide low = record {
  now = c.clock;
  clock = low-clock c.clock low;
  mtu = wide;
  peers = λ name p is. subst (Habit c.clock 0) (sym (each-beginning.one c address name p is).1)
      (new-habit c.clock 0 _ (λ R. (((λ t k. absurd k), none-new R 0 _), record { round_trip = omega arith; variance = omega arith }, refl)) wide (refl, refl, low) (Idle refl refl) (λ e. absurd (cc)));
}

first-habits : (joined : Bool) (a b : Config) → (is_in_range a && is_in_range b) ≡ true → a.clock < 2 ^ 32 → b.clock < 2 ^ 32 → WorldHabits 0 (first joined a b)
first-habits true a b h low_a low_b A = (let r = both (is_in_range a) (is_in_range b) h in joined-habits (joined_config a b) (address_of B) (lesser a.mtu b.mtu (few-mtu a r.0) (few-mtu b r.1)) low_a)
first-habits true a b h low_a low_b B = (let r = both (is_in_range a) (is_in_range b) h in joined-habits (joined_config b a) (address_of A) (lesser b.mtu a.mtu (few-mtu b r.1) (few-mtu a r.0)) low_b)
first-habits false a b h low_a low_b A = (let r = both (is_in_range a) (is_in_range b) h in opened-habits a r.0 low_a)
first-habits false a b h low_a low_b B = (let r = both (is_in_range a) (is_in_range b) h in opened-habits b r.1 low_b)

world-habits : (passed : ℕ) (joined : Bool) (w : World) (r : IsReachedIn passed joined w) → WorldHabits (all_pass r.reached.events) w
world-habits passed joined w k =
    let r = k.reached in
    let from : 0 + all_pass r.events ≡ all_pass r.events = omega arith in
    subst (λ n. WorldHabits n w) from (world-runs 0 r.events r.answers (first joined r.a r.b) w r.runs (first-habits joined r.a r.b r.in_range k.clock_a k.clock_b))

pub habits : (passed : ℕ) (joined : Bool) (w : World) → IsReachedIn passed joined w → Habits w
habits passed joined w r = (all_pass r.reached.events, world-habits passed joined w r)

-- where the count of the time that has passed hasn't stopped
pub habits-in : (passed : ℕ) (joined : Bool) (w : World) → IsReachedIn passed joined w → passed < 4294967295 → WorldHabits passed w
habits-in passed joined w r low = subst (λ n. WorldHabits n w) (below (all_pass r.reached.events) passed r.counted low) (world-habits passed joined w r)
  where
    below : (t n : ℕ) → n ≡ min t 4294967295 → n < 4294967295 → t ≡ n
    below t n e l = grind arith

-- ---- a peer there
pub rests-at : (time : ℕ) (h : Host) (name : PeerRef) (p : Peering) → HostHabits time h → named h.slots name ≡ Some p → Fair (Rests h.clock) most p
rests-at time h name p k is = (let a = k.peers name p is in subst (λ n. Fair (Rests n) most p) (sym k.clock) a.rests)
