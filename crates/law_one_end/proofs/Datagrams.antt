-- A datagram that comes to an end is events of it, one for each of its commands that is taken in.
use Rattle.std.proofs.Common.{◌≡◌, ℕ, Bool, true, false, List, [], ◌∷◌, ◌++◌, refl, sym, ap, subst, ◌∙◌, ◌⊎◌, inl, inr, Option, Some, None, Err}
use Rattle.enet_codec.specs.declared.stop.Stop.{Stop}
use Rattle.enet_codec.specs.declared.stop.Stop.TheVariants as stop
use Rattle.enet_codec.specs.declared.event.Received.{Received}
use Rattle.enet_codec.specs.Message.{Message, Spells}
use Rattle.enet_peer.specs.Peering.{Peering}
use Rattle.enet_peer.specs.CommandEffect.{Outcome, Obeys, wants_memory}
use Rattle.enet_peer.specs.Refusing.{heeded, is_turned_away, reminded}
use Rattle.enet_peer.specs.Handling.{Arrival, SoFar, Handles, Hears, HearsIf, nothing_left, no_command, stops, goes_on}
use Rattle.law_one_end.specs.OneEnd.{OneEnd, TellAgain, Happens, with_come, with_peer}
use Rattle.law_one_end.specs.Datagrams.{HasCome}

-- no command came
none-came : (a : Arrival) (bytes : List ℕ) (e : OneEnd) → HasCome a bytes e e.peer
none-came a bytes e = record { messages = []; begins = tt; after = e; runs = refl; leaves = refl }

-- one came, and left the peer so, and more came after it
one-came : (a : Arrival) (text rest : List ℕ) (m : Message) (e : OneEnd) (q r : Peering) → Spells text m → q ≡ (heeded a.full e.peer a.now a.sent m).after
    → ((f : OneEnd) → f.peer ≡ q → HasCome a rest f r) → HasCome a (text ++ rest) e r
one-came a text rest m e q r spells is more =
    let f : OneEnd = with_come e m (heeded a.full e.peer a.now a.sent m).after in
    let h = more f (sym is) in
    record {
      messages = m ∷ h.messages;
      begins = (text, rest, refl, spells, h.begins);
      after = h.after;
      runs = (f, (spells.message, a.full, refl), h.runs);
      leaves = h.leaves;
    }

-- the last one
stopped-came : (a : Arrival) (text rest : List ℕ) (m : Message) (why : Stop) (e : OneEnd) (q : Peering) → Spells text m
    → Obeys {T = Unit {0}} (Err why) (wants_memory e.peer a.now a.sent m) (heeded a.full e.peer a.now a.sent m) e.peer q → HasCome a (text ++ rest) e q
stopped-came a text rest m why e q spells h = by why h
  where
    wants : Bool
    wants = wants_memory e.peer a.now a.sent m

    o : Outcome
    o = heeded a.full e.peer a.now a.sent m

    came : q ≡ o.after → HasCome a (text ++ rest) e q
    came is = one-came a text rest m e q q spells is (λ f at. subst (HasCome a rest f) at (none-came a rest f))

    by : (why : Stop) → Obeys {T = Unit {0}} (Err why) wants o e.peer q → HasCome a (text ++ rest) e q
    by stop.Memory h = subst (HasCome a (text ++ rest) e) (sym h.2) (none-came a (text ++ rest) e)
    by stop.Short h = came h.1
    by stop.Compressed h = came h.1
    by stop.UnknownPeer h = came h.1
    by stop.WrongAddress h = came h.1
    by stop.WrongSession h = came h.1
    by stop.BadCommand h = came h.1
    by stop.NotConnected h = came h.1
    by stop.BadChannel h = came h.1
    by stop.BadFragment h = came h.1
    by stop.Waiting h = came h.1
    by stop.NoSentTime h = came h.1
    by stop.NoSlot h = came h.1

comes-by : (a : Arrival) {old : SoFar} {bytes : List ℕ} {answer : Received} {q : Peering} → Handles a old bytes answer q → (e : OneEnd) → e.peer ≡ old.peer → HasCome a bytes e q
comes-by a (nothing_left old) e at = subst (HasCome a [] e) at (none-came a [] e)
comes-by a (no_command old bytes some none) e at = subst (HasCome a bytes e) at (none-came a bytes e)
comes-by a (stops old text rest m why q spells h) e at =
    stopped-came a text rest m why e q spells (subst (λ p. Obeys {T = Unit {0}} (Err why) (wants_memory p a.now a.sent m) (heeded a.full p a.now a.sent m) p q) (sym at) h)
comes-by a (goes_on old text rest m answer between q spells h more) e at =
    one-came a text rest m e between q spells (h.1 ∙ ap (λ p. (heeded a.full p a.now a.sent m).after) (sym at)) (λ f is. comes-by a more f is)

pub datagram-comes : (a : Arrival) (handled : ℕ) (bytes : List ℕ) (answer : Received) (e : OneEnd) (q : Peering) → Handles a (record { handled = handled; peer = e.peer }) bytes answer q → HasCome a bytes e q
datagram-comes a handled bytes answer e q h = comes-by a h e refl

-- a peer that was refused takes in nothing of a datagram, and is told so again if that tells a sent time
reminded-comes : (a : Arrival) (sent : Option ℕ) (bytes : List ℕ) (e : OneEnd) (q : Peering) → is_turned_away e.peer ≡ true → q ≡ reminded sent e.peer
    → HasCome a bytes e q ⊎ Happens e TellAgain (with_peer e q)
reminded-comes a None bytes e q was is = inl (subst (HasCome a bytes e) (sym is) (none-came a bytes e))
reminded-comes a (Some time) bytes e q was is = inr (was, ap (with_peer e) is)

-- and so does a datagram, or the peer was refused, and is told so again
pub datagram-heard : (a : Arrival) (bytes : List ℕ) (answer : Received) (e : OneEnd) (q : Peering) → Hears a bytes e.peer answer q → HasCome a bytes e q ⊎ Happens e TellAgain (with_peer e q)
datagram-heard a bytes answer e q h = by (is_turned_away e.peer) refl h
  where
    by : (b : Bool) → is_turned_away e.peer ≡ b → HearsIf b a bytes e.peer answer q → HasCome a bytes e q ⊎ Happens e TellAgain (with_peer e q)
    by true was h = reminded-comes a a.sent bytes e q was h.1
    by false was h = inl (datagram-comes a 0 bytes answer e q h)
