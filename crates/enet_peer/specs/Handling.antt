-- The commands of a datagram, one after another.
use Rattle.std.specs.Prelude.{◌≡◌, ℕ, Bool, true, false, ◌+◌, ◌≢◌, ◌⊎◌, min, List, [], ◌∷◌, ◌++◌, Option, Some, None, Ok, Err}
use Rattle.enet_codec.specs.declared.stop.Stop.{Stop}
use Rattle.enet_codec.specs.declared.stop.Stop.TheVariants as stop
use Rattle.enet_codec.specs.Message.{Message, Spells}
use Rattle.enet_codec.specs.declared.event.Received.{Received}
use Rattle.enet_peer.specs.Peering.{Peering}
use Rattle.enet_peer.specs.CommandEffect.{wants_memory, Obeys}
use Rattle.enet_peer.specs.Refusing.{heeded, is_turned_away, reminded}

-- no command stands at the front of the bytes
abbrev pub SpellsNone : List ℕ → Type 0
SpellsNone bytes = (m : Message) (text rest : List ℕ) → bytes ≡ text ++ rest → Spells text m → ⊥

-- the count stops at 2 ^ 32 - 1
abbrev pub one_more : ℕ → ℕ
one_more handled = min (handled + 1) 4294967295

-- a command that stops the datagram counts only where it took effect
abbrev pub counted : ℕ → Stop → ℕ
counted handled stop.NoSentTime = one_more handled
counted handled _ = handled

-- when a datagram comes, in milliseconds, the sent time that its header tells, if it tells one, and whether the host is full, so that it
-- refuses who confirms
pub record Arrival : Type 0 where
  pub now : ℕ
  pub sent : Option ℕ
  pub full : Bool

-- how far the commands of a datagram have come: how many counted, and the peer after them
pub record SoFar : Type 0 where
  pub handled : ℕ
  pub peer : Peering

-- the commands that bytes spell come to a peer in a datagram, once others have come: what is answered of all, and the peer after
-- them
pub data Handles (a : Arrival) : SoFar → List ℕ → Received → Peering → Type 0 where
  nothing_left : (old : SoFar) → Handles a old [] (record { handled = old.handled; stop = None }) old.peer
  no_command : (old : SoFar) (bytes : List ℕ) → bytes ≢ [] → SpellsNone bytes
      → Handles a old bytes (record { handled = old.handled; stop = Some stop.BadCommand }) old.peer
  stops : (old : SoFar) (text rest : List ℕ) (m : Message) (why : Stop) (q : Peering) → Spells text m
      → Obeys {T = Unit {0}} (Err why) (wants_memory old.peer a.now a.sent m) (heeded a.full old.peer a.now a.sent m) old.peer q
      → Handles a old (text ++ rest) (record { handled = counted old.handled why; stop = Some why }) q
  goes_on : (old : SoFar) (text rest : List ℕ) (m : Message) (answer : Received) (q r : Peering) → Spells text m
      → Obeys {T = Unit {0}} (Ok tt) (wants_memory old.peer a.now a.sent m) (heeded a.full old.peer a.now a.sent m) old.peer q
      → Handles a (record { handled = one_more old.handled; peer = q }) rest answer r → Handles a old (text ++ rest) answer r

-- the commands of a datagram come to a peer. One that was refused stops it, and is told again if the datagram tells a sent time
abbrev pub IsReminded : Option ℕ → Peering → Received → Peering → Type 0
IsReminded sent p answer q = (answer ≡ record { handled = 0; stop = Some stop.NotConnected }) × (q ≡ reminded sent p)

abbrev pub HearsIf : Bool → Arrival → List ℕ → Peering → Received → Peering → Type 0
HearsIf true a commands p answer q = IsReminded a.sent p answer q
HearsIf false a commands p answer q = Handles a (record { handled = 0; peer = p }) commands answer q

abbrev pub Hears : Arrival → List ℕ → Peering → Received → Peering → Type 0
Hears a commands p answer q = HearsIf (is_turned_away p) a commands p answer q

-- whether or not the host is full, these commands come to a peer alike
abbrev pub IsHeardAlike : List ℕ → Peering → Type 0
IsHeardAlike commands p = (now : ℕ) (sent : Option ℕ) (answer : Received) (q : Peering)
    → Hears (record { now = now; sent = sent; full = false }) commands p answer q → Hears (record { now = now; sent = sent; full = true }) commands p answer q

-- the commands of a list come to a peer in the same way, until none is left or one stops them
abbrev pub HandlesEach : Arrival → SoFar → List Message → Received → Peering → Type 0
HandlesEach a old [] answer q = (answer ≡ record { handled = old.handled; stop = None }) × (q ≡ old.peer)
HandlesEach a old (m ∷ ms) answer q =
    ((why : Stop) × Obeys {T = Unit {0}} (Err why) (wants_memory old.peer a.now a.sent m) (heeded a.full old.peer a.now a.sent m) old.peer q
    × (answer ≡ record { handled = counted old.handled why; stop = Some why }))
    ⊎ ((between : Peering) × Obeys {T = Unit {0}} (Ok tt) (wants_memory old.peer a.now a.sent m) (heeded a.full old.peer a.now a.sent m) old.peer between
    × HandlesEach a (record { handled = one_more old.handled; peer = between }) ms answer q)
