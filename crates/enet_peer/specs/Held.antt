-- How much is held of what others sent, and how much that is at most.
use Rattle.std.specs.Prelude.{◌≡◌, ℕ, ◌+◌, ◌^◌, ◌≤◌, ◌<◌, length}
use Rattle.enet_inbox.specs.Inbox.{place_limit, places_of, waiting_of}
use Rattle.enet_inbox.specs.Invariant.{packets_in}
use Rattle.enet_inbox.specs.Bounds.{most_places, most_bytes}
use Rattle.enet_outbox.specs.Outbox.{acknowledgement_limit}
use Rattle.enet_peer.specs.declared.held.Held.{Held}
use Rattle.enet_peer.specs.Peering.{Peering}

-- what a peer holds of what the other end sent
abbrev pub held_of : Peering → Held
held_of p = record {
  channels = length p.inbox.receivers;
  senders = length p.outbox.senders;
  packets = places_of p.inbox;
  undispatched = packets_in p.inbox.receivers;
  bytes = waiting_of p.inbox;
  acknowledgements = length p.outbox.acknowledgements;
}

-- the most that a peer holds which takes packets of at most so many bytes, and of which so many bytes may wait
abbrev pub most_of : ℕ → ℕ → Held
most_of max_packet max_waiting = record {
  channels = 255;
  senders = 255;
  packets = most_places max_waiting;
  undispatched = place_limit max_waiting + 255;
  bytes = most_bytes max_packet max_waiting;
  acknowledgements = acknowledgement_limit;
}

-- no more of anything
pub record IsWithin (held most : Held) : Type 0 where
  pub channels : held.channels ≤ most.channels
  pub senders : held.senders ≤ most.senders
  pub packets : held.packets ≤ most.packets
  pub undispatched : held.undispatched ≤ most.undispatched
  pub bytes : held.bytes ≤ most.bytes
  pub acknowledgements : held.acknowledgements ≤ most.acknowledgements

-- what one peer holds whatever its limits are, so that the numbers of 4,095 peers can be added up
pub record IsLittle (held : Held) : Type 0 where
  pub channels : held.channels ≤ 255
  pub senders : held.senders ≤ 255
  pub packets : held.packets < 2 ^ 27
  pub undispatched : held.undispatched < 2 ^ 27
  pub bytes : held.bytes < 2 ^ 42
  pub acknowledgements : held.acknowledgements ≤ acknowledgement_limit

-- the limits with which a peer began: the most bytes of a packet, and the bytes that wait at which no further packet begins
abbrev pub HasLimits : ℕ → ℕ → Peering → Type 0
HasLimits max_packet max_waiting p = (p.inbox.max_packet ≡ max_packet) × (p.inbox.max_waiting ≡ max_waiting)
