-- How a slot is given out.
use Rattle.std.specs.Prelude.{ℕ, ◌&&◌, Bool, true, false, nat_lt, Option, Some, None, List, replicate, slice_set}
use Rattle.enet_codec.specs.declared.command.Offer.{Offer}
use Rattle.enet_codec.specs.declared.address.Addr.{Addr}
use Rattle.enet_codec.specs.declared.config.Config.{Config}
use Rattle.enet_throttle.specs.Bandwidth.{window_size}
use Rattle.enet_connect.specs.declared.server.Server.{Server}
use Rattle.enet_connect.specs.declared.terms.Terms.{Terms}
use Rattle.enet_peer.specs.declared.parts.Limits.{Limits}
use Rattle.enet_peer.specs.Peering.{Peering}
use Rattle.enet_peer.specs.Peering as peers
use Rattle.enet_slot.specs.declared.drawing.Drawn.{Drawn}
use Rattle.enet_slot.specs.declared.giving.Question.{Question}
use Rattle.enet_slot.specs.declared.giving.Start.{Start}
use Rattle.enet_slot.specs.Slot.{SlotState}
use Rattle.enet_slot.specs.Drawing.{drawn, session_or_drawn}

-- what a host goes by where a datagram comes or a peer begins: its settings, and its clock in milliseconds
pub record Basis : Type 0 where
  pub config : Config
  pub clock : ℕ

abbrev pub basis_of : Start → Basis
basis_of start = record { config = start.config; clock = start.clock }

-- what a host allows its peers
abbrev pub limits_of : Config → Limits
limits_of c = record { max_packet = c.max_packet; max_waiting = c.max_waiting; incoming = c.incoming; outgoing = c.outgoing }

abbrev pub no_address : Addr
no_address = record { ip = 0; port = 0 }

-- a slot that held no peer yet
abbrev pub unused_slot : SlotState
unused_slot = record { generation = 0; address = no_address; incoming_session = 0xFF; outgoing_session = 0xFF; emitted = 0; ending = None; peer = None }

-- the terms of a host that is connected from the start, to slot 0 of another of whose bandwidths nothing is known
abbrev pub joined_terms : Config → Terms
joined_terms c = record {
  slot = 0;
  channels = c.channels;
  mtu = c.mtu;
  window = window_size c.outgoing 0;
  incoming_session = 0;
  outgoing_session = 0;
  throttle_interval = 5000;
  acceleration = 2;
  deceleration = 2;
  connect_id = 0;
}

-- a slot is given to a peer at an address
abbrev pub given : SlotState → Addr → Peering → SlotState
given s address p = record s { address = address; emitted = 0; peer = Some p }

-- the slots of a host whose slot 0 is connected from the start to this address
abbrev pub joined_slots : Config → Addr → List SlotState
joined_slots c address = slice_set (replicate c.peers unused_slot) 0 (given unused_slot address (peers.joined c.clock (joined_terms c) (limits_of c)))

-- whether a slot that holds this is free
abbrev pub is_vacant : Option Peering → Bool
is_vacant None = true
is_vacant (Some p) = false

-- whether a slot is free and has a generation left of so many
abbrev pub is_available : ℕ → SlotState → Bool
is_available generations s = is_vacant s.peer && nat_lt s.generation generations

-- what a client offers from a slot: its own settings, the sessions that the slot had, and the throttle's standard numbers
abbrev pub offer_from : Config → ℕ → SlotState → Question → Offer
offer_from c i s question = record {
  outgoing_peer = i;
  incoming_session = s.incoming_session;
  outgoing_session = s.outgoing_session;
  mtu = c.mtu;
  window = window_size c.outgoing 0;
  channels = question.channels;
  incoming_bandwidth = c.incoming;
  outgoing_bandwidth = c.outgoing;
  throttle_interval = 5000;
  acceleration = 2;
  deceleration = 2;
  connect_id = question.word;
  info = question.info;
}

-- what is drawn for the next peer of slot i
abbrev pub drawn_for : Config → ℕ → SlotState → Drawn
drawn_for c i s = drawn c.secret i s.generation

-- what a server answers an offer by from a slot
abbrev pub server_from : Config → ℕ → SlotState → Offer → Server
server_from c i s offer = record {
  slot = i;
  incoming_session = session_or_drawn s.incoming_session offer.outgoing_session (drawn_for c i s).incoming_session;
  outgoing_session = session_or_drawn s.outgoing_session offer.incoming_session (drawn_for c i s).outgoing_session;
  channels = c.channels;
  mtu = c.mtu;
  incoming_bandwidth = c.incoming;
  outgoing_bandwidth = c.outgoing;
}

-- slot i once a client has asked this from it
abbrev pub asking : Basis → ℕ → SlotState → Question → SlotState
asking basis i s question =
    given s question.address
    (peers.connecting basis.clock (drawn_for basis.config i s).offsets.time (offer_from basis.config i s question) (limits_of basis.config))

-- slot i once a server has answered from it the offer of one at this address
abbrev pub answering : Basis → ℕ → SlotState → Addr → Offer → SlotState
answering basis i s from offer =
    given s from
    (peers.answering basis.clock (drawn_for basis.config i s).offsets offer (server_from basis.config i s offer) (limits_of basis.config))
