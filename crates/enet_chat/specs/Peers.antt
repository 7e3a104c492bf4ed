-- Lists of peers.
use Rattle.std.specs.Prelude.{ℕ, ◌+◌, eqb, Bool, true, ◌&&◌, not, if◌then◌else◌, List, [], ◌∷◌}
use Rattle.std.specs.List.{filter, list_any}
use Rattle.enet_codec.specs.declared.event.PeerRef.{PeerRef}

-- the same slot and the same generation of it
abbrev pub is_same : PeerRef → PeerRef → Bool
is_same one other = eqb one.slot other.slot && eqb one.generation other.generation

-- whether the peer is there
abbrev pub has : List PeerRef → PeerRef → Bool
has peers peer = list_any (λ p. is_same p peer) peers

-- how often the peer is there
abbrev pub count : List PeerRef → PeerRef → ℕ
count [] peer = 0
count (p ∷ ps) peer = (if is_same p peer then 1 else 0) + count ps peer

-- whether no peer is there twice
abbrev pub has_each_once : List PeerRef → Bool
has_each_once [] = true
has_each_once (p ∷ ps) = not (has ps p) && has_each_once ps

-- all but this one
abbrev pub others : List PeerRef → PeerRef → List PeerRef
others peers peer = filter (λ p. not (is_same p peer)) peers
