-- The commands that bytes spell are those that come.
use Rattle.std.proofs.Common.{◌≡◌, ℕ, inl, inr, List, [], ◌∷◌, ◌++◌, Ok, Err, refl, sym, ap, subst, ◌∙◌}
use Rattle.std.proofs.lemmas.List.{append_cancel_left}
use Rattle.enet_codec.specs.declared.event.Received.{Received}
use Rattle.enet_codec.specs.Message.{Message, Spells}
use Rattle.enet_codec.specs.Datagram.{SpellsAll}
use Rattle.enet_codec.proofs.Laws.{one_spelling}
use Rattle.enet_codec.proofs.Datagrams.{some-bytes}
use Rattle.enet_peer.specs.Peering.{Peering}
use Rattle.enet_peer.specs.CommandEffect.{wants_memory, Obeys}
use Rattle.enet_peer.specs.Refusing.{heeded}
use Rattle.enet_peer.specs.Handling.{Arrival, SoFar, Handles, HandlesEach, nothing_left, no_command, stops, goes_on}

-- two splits of the same bytes before a command are one
pub split-once : (text rest text' rest' : List ℕ) (m n : Message) → Spells text m → Spells text' n → text ++ rest ≡ text' ++ rest' → (m ≡ n) × (rest ≡ rest')
split-once text rest text' rest' m n a b both =
    let one = one_spelling text text' rest rest' m n a b both in
    (one.1, append_cancel_left text' rest rest' (ap (λ (xs : List ℕ). xs ++ rest) (sym one.0) ∙ both))

each : (arrival : Arrival) {old : SoFar} {bytes : List ℕ} {answer : Received} {q : Peering} → Handles arrival old bytes answer q
    → (ms : List Message) → SpellsAll bytes ms → HandlesEach arrival old ms answer q
each arrival (nothing_left old) [] s = (refl, refl)
each arrival (nothing_left old) (m ∷ ms) s = absurd (some-bytes s.0 s.1 m s.3 (sym s.2))
each arrival (no_command old bytes some none) [] s = absurd (some s)
each arrival (no_command old bytes some none) (m ∷ ms) s = absurd (none m s.0 s.1 s.2 s.3)
each arrival (stops old text rest m why q spelled obeys) [] s = absurd (some-bytes text rest m spelled s)
each arrival (stops old text rest m why q spelled obeys) (n ∷ ms) s =
    let one = split-once text rest s.0 s.1 m n spelled s.3 s.2 in
    inl (why, subst (λ (k : Message). Obeys {T = Unit {0}} (Err why) (wants_memory old.peer arrival.now arrival.sent k) (heeded arrival.full old.peer arrival.now arrival.sent k) old.peer q) one.0 obeys, refl)
each arrival (goes_on old text rest m answer q r spelled obeys later) [] s = absurd (some-bytes text rest m spelled s)
each arrival (goes_on old text rest m answer q r spelled obeys later) (n ∷ ms) s =
    let one = split-once text rest s.0 s.1 m n spelled s.3 s.2 in
    inr (
      q,
      subst (λ (k : Message). Obeys {T = Unit {0}} (Ok tt) (wants_memory old.peer arrival.now arrival.sent k) (heeded arrival.full old.peer arrival.now arrival.sent k) old.peer q) one.0 obeys,
      each arrival later ms (subst (λ (xs : List ℕ). SpellsAll xs ms) (sym one.1) s.4),
    )

pub handles-each : (arrival : Arrival) (old : SoFar) (bytes : List ℕ) (ms : List Message) (answer : Received) (q : Peering)
    → SpellsAll bytes ms → Handles arrival old bytes answer q → HandlesEach arrival old ms answer q
handles-each arrival old bytes ms answer q s h = each arrival h ms s
