-- Calls by which an end's peer alone changes: time that passes, disconnects, settings, and what is refused.
use Rattle.std.proofs.Common.{◌≡◌, ◌≤◌, ℕ, ◌⊎◌, inl, inr, Bool, true, false, not, List, [], ◌∷◌, refl, sym, ap, subst, ◌∙◌, Option, Some, None, Ok, Err, slice_get}
use Rattle.enet_peer.specs.Peering.{Peering}
use Rattle.law_connection.specs.Connection.{End}
use Rattle.law_connection.specs.Steps.{Event, Happens, with_peer}
use Rattle.law_connection.specs.Steps as event
use Rattle.enet_slot.specs.Slot.{SlotState, greatest}
use Rattle.law_network.specs.Calls.{Call, Acts}
use Rattle.law_network.specs.Calls as call
use Rattle.law_network.specs.Common.{Common, common_of}
use Rattle.law_network.specs.Deeds.{Deed, Alone, AllAlone, Tick, Disconnect, Set}
use Rattle.law_network.specs.Ends.{takes_effect}
use Rattle.law_network.specs.Falling.{Fell, deeds_if}
use Rattle.law_network.proofs.Matching.{was-set, matches}
use Rattle.law_network.specs.Log.{Logged}
use Rattle.law_network.specs.Network.{HostEnd, Site}
use Rattle.law_network.specs.Shown.{ShowsPeer, Shows, RunsAt, Went}
use Rattle.law_network.proofs.Peers.{Moved, is_gone, goes, moved}
use Rattle.law_network.proofs.Steady.{mtu-stays}

-- a host's log has nothing new of a connection
abbrev pub KeepsLog : Site → Site → ℕ → Type 0
KeepsLog old new x = (k : ℕ) (d : Logged) → slice_get new.log k ≡ Some d → d.connection ≡ x → slice_get old.log k ≡ Some d

pub same-log : (old new : Site) (x : ℕ) → new.log ≡ old.log → KeepsLog old new x
same-log old new x same k d h of = subst (λ (l : List Logged). slice_get l k ≡ Some d) same h

-- an end to which events brought another peer
pub shows-with : (old new : Site) (e : HostEnd) (own far : End) (q : Peering) (es : List Event) → RunsAt es own far (with_peer own q) → KeepsLog old new e.connection → Shows old e own → ShowsPeer new.host e.name q → Shows new e (with_peer own q)
shows-with old new e own far q es runs same k shows = record {
  peer = q;
  has = refl;
  shows = shows;
  long = k.long;
  numbers = k.numbers;
  log = λ n d h of. k.log n d (same n d h of) of;
  greatest = k.greatest;
  submitted = k.submitted;
  mtu = mtu-stays e.mtu es own far (with_peer own q) k.peer q k.has runs refl refl k.mtu;
  taken = k.taken;
  events = k.events;
}

pub same-peer : (own : End) (p : Peering) → own.peer ≡ Some p → own ≡ with_peer own p
same-peer own p is = ap (λ (o : Option Peering). record own { peer = o }) is

-- nothing happens to an end whose peer is as it was
pub goes-still : (old new : Site) (e : HostEnd) (own far : End) (k : Shows old e own) → KeepsLog old new e.connection → ShowsPeer new.host e.name k.peer → Went own far new e
goes-still old new e own far k same shows = record {
  new = with_peer own k.peer;
  events = [];
  runs = same-peer own k.peer k.has;
  shows = shows-with old new e own far k.peer [] (same-peer own k.peer k.has) same k shows;
}

-- deeds that change the peer alone, or nothing
is_quiet : Deed → Bool
is_quiet (Tick now short) = true
is_quiet (Disconnect way info answer) = true
is_quiet (Set setting answer) = true
is_quiet d = not (takes_effect d)

abbrev AreQuiet : List Deed → Type 0
AreQuiet [] = Unit {0}
AreQuiet (d ∷ ds) = (is_quiet d ≡ true) × AreQuiet ds

-- such a deed is an event, or leaves the peer as it is
abbrev QuietOne : End → End → Peering → Peering → Type 0
QuietOne own far p q = ((e : Event) × Happens own far e (with_peer own q)) ⊎ (q ≡ p)

refused-one : (d : Deed) (own far : End) (p q : Peering) → takes_effect d ≡ false → Alone d p q → QuietOne own far p q
refused-one d own far p q none alone = inr (matches.refused d p q alone none)

no-effect : (b : Bool) → not b ≡ true → b ≡ false
no-effect true h = absurd (cc)
no-effect false h = refl

quiet-one : (d : Deed) (own far : End) (p q : Peering) → is_quiet d ≡ true → own.peer ≡ Some p → Alone d p q → QuietOne own far p q
unfolding is_quiet
quiet-one (Tick now short) own far p q quiet is alone = inl (event.Tick now, (p, is, short, ap (with_peer own) alone))
quiet-one (Disconnect way info (Ok done)) own far p q quiet is alone = inl (event.Disconnect way info, (p, q, is, alone, refl))
quiet-one (Disconnect way info (Err why)) own far p q quiet is alone = refused-one (Disconnect way info (Err why)) own far p q refl alone
quiet-one (Set setting (Ok done)) own far p q quiet is alone = let set = was-set setting done p q alone in inl (event.Set setting, (p, is, set.0, ap (with_peer own) set.1))
quiet-one (Set setting (Err why)) own far p q quiet is alone = refused-one (Set setting (Err why)) own far p q refl alone
quiet-one d own far p q quiet is alone = refused-one d own far p q (no-effect (takes_effect d) quiet) alone

quiet-more : (own far : End) (p r q : Peering) → own.peer ≡ Some p → QuietOne own far p r → ((before : End) → before.peer ≡ Some r → (es : List Event) × RunsAt es before far (with_peer before q))
    → (es : List Event) × RunsAt es own far (with_peer own q)
quiet-more own far p r q is (inl one) rest = let more = rest (with_peer own r) refl in (one.0 ∷ more.0, (with_peer own r, one.1, more.1))
quiet-more own far p r q is (inr same) rest = rest own (is ∙ ap (λ (x : Peering). Some x) (sym same))

quiet-all : (ds : List Deed) (own far : End) (p q : Peering) → AreQuiet ds → own.peer ≡ Some p → AllAlone ds p q → (es : List Event) × RunsAt es own far (with_peer own q)
quiet-all [] own far p q quiet is alone = ([], same-peer own p is ∙ ap (with_peer own) alone)
quiet-all (d ∷ ds) own far p q quiet is alone =
    quiet-more own far p alone.0 q is (quiet-one d own far p alone.0 quiet.0 is alone.1) (λ before has. quiet-all ds before far alone.0 q quiet.1 has alone.2)

-- calls of which nothing else falls to any slot
abbrev pub is_quiet_call : Call → Bool
is_quiet_call (call.Submit name channel q (Ok done)) = false
is_quiet_call (call.Receive from bytes answer) = false
is_quiet_call (call.Service answer buf) = false
is_quiet_call (call.NextEvent (Some event)) = false
is_quiet_call _ = true

quiet-if : (b : Bool) (d : Deed) → is_quiet d ≡ true → AreQuiet (deeds_if b d)
quiet-if true d h = (h, tt)
quiet-if false d h = tt

quiet-is : (ds es : List Deed) → ds ≡ es → AreQuiet es → AreQuiet ds
quiet-is ds es e h = subst AreQuiet (sym e) h

fell-quiet : (c : Call) (h : Common) (i : ℕ) (s : SlotState) (p : Peering) (ds : List Deed) → is_quiet_call c ≡ true → Fell h (record { number = i; slot = s; peer = p }) c ds → AreQuiet ds
unfolding is_quiet
fell-quiet (call.Connect address channels info word answer) h i s p ds quiet fell = quiet-is ds _ fell tt
fell-quiet (call.Submit name channel q (Ok done)) h i s p ds quiet fell = absurd (cc)
fell-quiet (call.Submit name channel q (Err e)) h i s p ds quiet fell = quiet-is ds _ fell (quiet-if _ _ refl)
fell-quiet (call.Receive from bytes answer) h i s p ds quiet fell = absurd (cc)
fell-quiet (call.Service answer buf) h i s p ds quiet fell = absurd (cc)
fell-quiet (call.Tick ms) h i s p ds quiet fell = quiet-is ds _ fell (refl, quiet-if _ _ refl)
fell-quiet (call.Disconnect mode name info answer) h i s p ds quiet fell = quiet-is ds _ fell (quiet-if _ _ refl)
fell-quiet (call.SetBandwidth incoming outgoing (Ok done)) h i s p ds quiet fell = quiet-is ds _ fell (refl, tt)
fell-quiet (call.SetBandwidth incoming outgoing (Err why)) h i s p ds quiet fell = quiet-is ds _ fell tt
fell-quiet (call.ConfigureThrottle name interval acceleration deceleration answer) h i s p ds quiet fell = quiet-is ds _ fell (quiet-if _ _ refl)
fell-quiet (call.SetPingInterval name ms answer) h i s p ds quiet fell = quiet-is ds _ fell (quiet-if _ _ refl)
fell-quiet (call.SetTimeout name limit minimum maximum answer) h i s p ds quiet fell = quiet-is ds _ fell (quiet-if _ _ refl)
fell-quiet (call.NextEvent None) h i s p ds quiet fell = quiet-is ds _ fell (refl, tt)
fell-quiet (call.NextEvent (Some event)) h i s p ds quiet fell = absurd (cc)
fell-quiet (call.Admit what answer) h i s p ds quiet fell = quiet-is ds _ fell tt
fell-quiet (call.SetSendLimit bytes commands) h i s p ds quiet fell = quiet-is ds _ fell tt

-- such a call is a number of events of each end
pub goes-quiet : (c : Call) (old new : Site) (e : HostEnd) (own far : End) → is_quiet_call c ≡ true → old.host.config.generations ≤ greatest → Acts c old.host new.host → KeepsLog old new e.connection → Shows old e own → Went own far new e
goes-quiet c old new e own far quiet low acts same k = by (moved c old.host new.host e.name k.peer low acts k.shows)
  where
    by : Moved c old.host new.host e.name k.peer → Went own far new e
    by (is_gone shows never) = goes-still old new e own far k same shows
    by (goes x ds q fell alone shows) =
        let run = quiet-all ds own far k.peer q (fell-quiet c (common_of old.host) e.name.slot x.slot k.peer ds quiet fell) k.has alone in
        record { new = with_peer own q; events = run.0; runs = run.1; shows = shows-with old new e own far q run.0 run.1 same k shows }
