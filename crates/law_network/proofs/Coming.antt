-- The commands of a datagram that came to a peer, as deeds of a peer alone.
use Rattle.std.proofs.Common.{ℕ, List, [], ◌∷◌, refl, Ok, Err}
use Rattle.enet_codec.specs.declared.event.Received.{Received}
use Rattle.enet_peer.specs.Peering.{Peering}
use Rattle.enet_peer.specs.Handling.{Arrival, Handles, one_more}
use Rattle.enet_peer.specs.Handling as handling
use Rattle.law_network.specs.Deeds.{Deed, Come, AllAlone}
use Rattle.law_network.specs.Falling.{Falls}
use Rattle.law_network.specs.Falling as falling

-- what commands came to a peer, as its deeds
pub record Came (a : Arrival) (before : ℕ) (bytes : List ℕ) (p : Peering) (answer : Received) (q : Peering) : Type 0 where
  pub deeds : List Deed
  pub falls : Falls a before bytes answer deeds
  pub alone : AllAlone deeds p q

pub came : (a : Arrival) (before : ℕ) (bytes : List ℕ) (p : Peering) (answer : Received) (q : Peering) → Handles a (record { handled = before; peer = p }) bytes answer q → Came a before bytes p answer q
came a before bytes p answer q (handling.nothing_left old) = record { deeds = []; falls = falling.nothing_left before; alone = refl }
came a before bytes p answer q (handling.no_command old text some none) = record { deeds = []; falls = falling.no_command before text some none; alone = refl }
came a before bytes p answer q (handling.stops old text rest m why t spells h) =
    record { deeds = Come a m (Err why) ∷ []; falls = falling.stops before text rest m why spells; alone = (t, h, refl) }
came a before bytes p answer q (handling.goes_on old text rest m reply t u spells h more) =
    let later : Came a (one_more before) rest t reply u = came a (one_more before) rest t reply u more in
    record { deeds = Come a m (Ok tt) ∷ later.deeds; falls = falling.goes_on before text rest m reply later.deeds spells later.falls; alone = (t, h, later.alone) }
