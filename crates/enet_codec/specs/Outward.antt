-- Packets that go to several peers.
use Rattle.std.specs.Prelude.{eqb, Bool, false, ◌&&◌, not, Option, Some, None, List, flat_map, map}
use Rattle.std.specs.List.{filter}
use Rattle.enet_codec.specs.declared.event.PeerRef.{PeerRef}
use Rattle.enet_codec.specs.declared.event.Outward.{Outward}

-- whether a packet excepts a peer: the same slot and the same generation of it
abbrev pub is_same_peer : PeerRef → PeerRef → Bool
is_same_peer one other = eqb one.slot other.slot && eqb one.generation other.generation

abbrev pub is_excepted : Option PeerRef → PeerRef → Bool
is_excepted None peer = false
is_excepted (Some except) peer = is_same_peer except peer

abbrev pub goes_to : Outward → PeerRef → Bool
goes_to packet peer = not (is_excepted packet.except peer)

-- a packet that one peer is to get
pub record Errand : Type 0 where
  pub peer : PeerRef
  pub packet : Outward

-- those of the packets that a peer is to get, in their order
abbrev pub errands_for : List Outward → PeerRef → List Errand
errands_for packets peer = map (λ packet. record { peer = peer; packet = packet }) (filter (λ packet. goes_to packet peer) packets)

-- each packet to each peer but the one that it excepts: all for the first peer, then all for the second, and so on
abbrev pub errands : List PeerRef → List Outward → List Errand
errands peers packets = flat_map (errands_for packets) peers
