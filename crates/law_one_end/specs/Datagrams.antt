-- A datagram that comes to an end, as events of it.
use Rattle.std.specs.Prelude.{◌≡◌, ℕ, List, [], ◌∷◌, ◌++◌, map}
use Rattle.enet_codec.specs.Message.{Message, Spells}
use Rattle.enet_peer.specs.Handling.{Arrival}
use Rattle.enet_peer.specs.Peering.{Peering}
use Rattle.law_one_end.specs.OneEnd.{OneEnd, Come, Runs}

-- these commands stand at the front of the bytes, one after another
abbrev pub Begins : List ℕ → List Message → Type 0
Begins bytes [] = Unit {0}
Begins bytes (m ∷ ms) = (text rest : List ℕ) × (bytes ≡ text ++ rest) × Spells text m × Begins rest ms

-- commands at the front of a datagram's bytes came, one after another, and left this peer
pub record HasCome (a : Arrival) (bytes : List ℕ) (e : OneEnd) (q : Peering) : Type 0 where
  pub messages : List Message
  pub begins : Begins bytes messages
  pub after : OneEnd
  pub runs : Runs (map (λ m. Come m a.now a.sent) messages) e after
  pub leaves : after.peer ≡ q
