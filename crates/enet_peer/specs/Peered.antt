-- A peer as the contracts of its calls see it.
use Rattle.std.specs.Prelude.{◌≤◌, ℕ, Bool, true, false, IsTrue}
use Rattle.enet_connect.specs.declared.terms.Terms.{Terms}
use Rattle.enet_peer.specs.declared.parts.PeerState.{PeerState}
use Rattle.enet_peer.specs.declared.parts.PeerState.TheVariants as state
use Rattle.enet_peer.specs.Peering.{Peering}

-- the peer, and for how many more commands of channel 0xFF and acknowledgements there is room
pub record Peered : Type 0 where
  pub peer : Peering
  pub room : ℕ
  pub acknowledgement_room : ℕ

-- the states in which the terms are agreed and the connection may stand
abbrev pub is_agreed_in : PeerState → Bool
is_agreed_in state.Answering = true
is_agreed_in state.Connected = true
is_agreed_in state.DisconnectLater = true
is_agreed_in _ = false

-- what each peer keeps
pub record KeepsPeer (state : PeerState) (terms : Terms) : Type 0 where
  pub mtu_least : IsTrue (is_agreed_in state) → 576 ≤ terms.mtu
  pub mtu_most : IsTrue (is_agreed_in state) → terms.mtu ≤ 4096
