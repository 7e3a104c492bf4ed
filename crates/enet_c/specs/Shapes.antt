-- What the shapes of the border mean.
use Rattle.std.specs.Prelude.{ℕ, false, Option, Some, None, List, length}
use Rattle.std.specs.Option.{option_map, option_and_then}
use Rattle.enet_codec.specs.declared.address.Addr.{Addr}
use Rattle.enet_codec.specs.declared.config.Config.{Config}
use Rattle.enet_codec.specs.declared.config.Secret.{Secret}
use Rattle.enet_codec.specs.declared.event.Event.{Event}
use Rattle.enet_codec.specs.declared.event.Event.TheVariants as events
use Rattle.enet_codec.specs.declared.event.PeerRef.{PeerRef}
use Rattle.enet_codec.specs.declared.event.Received.{Received}
use Rattle.enet_codec.specs.declared.stop.Stop.{Stop}
use Rattle.enet_codec.specs.Stop.{stop_number}
use Rattle.enet_peer.specs.declared.parts.Ending.{Ending}
use Rattle.enet_peer.specs.declared.parts.Ending.TheVariants as ending
use Rattle.enet_peer.specs.declared.parts.PeerState.{PeerState}
use Rattle.enet_peer.specs.declared.parts.PeerState.TheVariants as state
use Rattle.enet_peer.specs.Peering.{Peering}
use Rattle.enet_outbox.specs.Outbox.{transit_of}
use Rattle.enet_outbox.specs.Outstanding.{capped, outstanding_of}
use Rattle.enet_slot.specs.declared.counting.SlotCounts.{SlotCounts}
use Rattle.enet_slot.specs.Slot.{SlotState}
use Rattle.enet_host.specs.declared.totals.Totals.{Totals}
use Rattle.enet_host.specs.Calls.{ending_named}
use Rattle.enet_host.specs.Held.{held_by, most_held}
use Rattle.enet_host.specs.Host.{Host, named, slot_named}
use Rattle.enet_host.specs.Memory.{memory_with}
use Rattle.enet_c.specs.declared.shapes.CoreAddress.{CoreAddress}
use Rattle.enet_c.specs.declared.shapes.CoreConfig.{CoreConfig}
use Rattle.enet_c.specs.declared.shapes.CoreDatagram.{CoreDatagram}
use Rattle.enet_c.specs.declared.shapes.CoreEvent.{CoreEvent}
use Rattle.enet_c.specs.declared.shapes.CoreHeld.{CoreHeld}
use Rattle.enet_c.specs.declared.shapes.CoreLine.{CoreLine}
use Rattle.enet_c.specs.declared.shapes.CorePeer.{CorePeer}
use Rattle.enet_c.specs.declared.shapes.CoreReading.{CoreReading}
use Rattle.enet_c.specs.declared.shapes.CoreReceived.{CoreReceived}
use Rattle.enet_c.specs.declared.shapes.CoreSecret.{CoreSecret}
use Rattle.enet_c.specs.declared.shapes.CoreSlots.{CoreSlots}
use Rattle.enet_c.specs.declared.shapes.CoreTotals.{CoreTotals}
use Rattle.enet_c.specs.declared.shapes.CoreTraffic.{CoreTraffic}

abbrev pub config_shown : Config → CoreConfig
config_shown c = record {
  peers = c.peers;
  channels = c.channels;
  mtu = c.mtu;
  incoming = c.incoming;
  outgoing = c.outgoing;
  max_packet = c.max_packet;
  max_waiting = c.max_waiting;
  generations = c.generations;
  clock = c.clock;
}

-- a host begins without a secret, lets no peer give way, and has as many as there are slots
abbrev pub config_meant : CoreConfig → Config
config_meant c = record {
  peers = c.peers;
  channels = c.channels;
  mtu = c.mtu;
  incoming = c.incoming;
  outgoing = c.outgoing;
  max_packet = c.max_packet;
  max_waiting = c.max_waiting;
  generations = c.generations;
  clock = c.clock;
  secret = None;
  gives_way = false;
  most = None;
  of_address = None;
}

abbrev pub secret_meant : CoreSecret → Secret
secret_meant s = record { key = s.key }

abbrev pub address_shown : Addr → CoreAddress
address_shown a = record { ip = a.ip; port = a.port }

abbrev pub address_meant : CoreAddress → Addr
address_meant a = record { ip = a.ip; port = a.port }

abbrev pub name_shown : PeerRef → CorePeer
name_shown name = record { slot = name.slot; generation = name.generation }

abbrev pub name_meant : CorePeer → PeerRef
name_meant peer = record { slot = peer.slot; generation = peer.generation }

abbrev pub totals_shown : Totals → CoreTotals
totals_shown t = record { datagrams_in = t.datagrams_in; bytes_in = t.bytes_in; datagrams_out = t.datagrams_out; bytes_out = t.bytes_out }

-- what a host answers to a datagram: the stop's number, 0 where there is none
abbrev pub stop_shown : Option Stop → ℕ
stop_shown None = 0
stop_shown (Some stop) = stop_number stop

abbrev pub received_shown : Received → CoreReceived
received_shown r = record { status = 0; handled = r.handled; stop = stop_shown r.stop }

-- a datagram that a host put out, of length 0 where it put out none
abbrev pub no_datagram : CoreDatagram
no_datagram = record { length = 0; to = record { ip = 0; port = 0 }; peer = record { slot = 0; generation = 0 } }

abbrev pub datagram_shown : Option (PeerRef × Addr × ℕ) → CoreDatagram
datagram_shown None = no_datagram
datagram_shown (Some gave) = record { length = gave.2; to = address_shown gave.1; peer = name_shown gave.0 }

-- an event, of kind 0 where there is none
abbrev pub no_event : CoreEvent
no_event = record { kind = 0; info = 0; peer = record { slot = 0; generation = 0 }; channel = 0; flags = 0; length = 0 }

abbrev pub event_shown : Option Event → CoreEvent
event_shown None = no_event
event_shown (Some (events.Connect name info)) = record no_event { kind = 1; info = info; peer = name_shown name }
event_shown (Some (events.Disconnect name info)) = record no_event { kind = 2; info = info; peer = name_shown name }
event_shown (Some (events.Receive name q)) = record no_event { kind = 3; peer = name_shown name; channel = q.channel; flags = q.flags; length = length q.body }
event_shown (Some (events.Refused seat number why)) = no_event

abbrev pub state_number : PeerState → ℕ
state_number state.Free = 0
state_number state.Connecting = 1
state_number state.Answering = 2
state_number state.Connected = 3
state_number state.DisconnectLater = 4
state_number state.Disconnecting = 5
state_number state.AckDisconnect = 6
state_number state.Ended = 7
state_number state.Parting = 8

-- what can be read of a peer and its slot
abbrev pub reading_of : SlotState → Peering → CoreReading
reading_of s p = record {
  state = state_number p.state;
  mtu = p.terms.mtu;
  window = p.terms.window;
  connect_id = p.terms.connect_id;
  round_trip = p.estimate.round_trip;
  variance = p.estimate.variance;
  in_transit = transit_of p.outbox;
  throttle = p.outbox.throttle.value;
  throttle_interval = p.terms.throttle_interval;
  acceleration = p.terms.acceleration;
  deceleration = p.terms.deceleration;
  address = address_shown s.address;
  slot = p.terms.slot;
  channels = p.terms.channels;
  incoming_session = p.terms.incoming_session;
  outgoing_session = p.terms.outgoing_session;
}

abbrev pub reading_in : SlotState → Option CoreReading
reading_in s = option_map (reading_of s) s.peer

abbrev pub reading_named : List SlotState → PeerRef → Option CoreReading
reading_named slots name = option_and_then reading_in (slot_named slots name)

abbrev pub allowance_of : Peering → ℕ
allowance_of p = p.outbox.allowance.bytes

abbrev pub allowance_named : List SlotState → PeerRef → Option ℕ
allowance_named slots name = option_map allowance_of (named slots name)

-- how the line to a peer is, and what is queued or unacknowledged for it
abbrev pub line_of : Peering → CoreLine
line_of p = record {
  round_trip = p.estimate.round_trip;
  variance = p.estimate.variance;
  lowest = p.outbox.throttle.lowest_round_trip;
  lowest_before = p.outbox.throttle.last_round_trip;
  throttle = p.outbox.throttle.value;
  allowance = allowance_of p;
  in_transit = transit_of p.outbox;
  commands = (capped (outstanding_of p.outbox)).commands;
  bytes = (capped (outstanding_of p.outbox)).bytes;
}

abbrev pub line_named : List SlotState → PeerRef → Option CoreLine
line_named slots name = option_map line_of (named slots name)

-- what went to a peer and was acknowledged
abbrev pub traffic_of : Peering → CoreTraffic
traffic_of p = record { sent = p.outbox.traffic.sent; again = p.outbox.traffic.again; acknowledged = p.outbox.traffic.acknowledged }

abbrev pub traffic_named : List SlotState → PeerRef → Option CoreTraffic
traffic_named slots name = option_map traffic_of (named slots name)

-- why the connection of a peer ended, 0 where nothing is known of it
abbrev pub ending_number : Option Ending → ℕ
ending_number None = 0
ending_number (Some ending.AskedHere) = 1
ending_number (Some ending.AskedThere) = 2
ending_number (Some ending.TimedOut) = 3
ending_number (Some ending.NeverAnswered) = 4
ending_number (Some ending.BadAnswer) = 5

abbrev pub ending_told : List SlotState → PeerRef → ℕ
ending_told slots name = ending_number (ending_named slots name)

-- how much a host holds of what others sent, and the memory that this takes with its slots, now and at most
abbrev pub held_shown : Host → CoreHeld
held_shown h = record {
  channels = (held_by h.slots).channels;
  senders = (held_by h.slots).senders;
  packets = (held_by h.slots).packets;
  undispatched = (held_by h.slots).undispatched;
  bytes = (held_by h.slots).bytes;
  acknowledgements = (held_by h.slots).acknowledgements;
  memory = memory_with (length h.slots) (held_by h.slots);
  most_memory = memory_with h.config.peers (most_held h.config);
}

abbrev pub slots_meant : CoreSlots → SlotCounts
slots_meant s = record {
  free = s.free;
  spent = s.spent;
  connecting = s.connecting;
  answering = s.answering;
  connected = s.connected;
  leaving = s.leaving;
}
