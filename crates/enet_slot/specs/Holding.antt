-- How much a slot holds of what others sent.
use Rattle.std.specs.Prelude.{Option, Some, None}
use Rattle.enet_peer.specs.declared.held.Held.{Held}
use Rattle.enet_peer.specs.Held.{held_of, most_of}
use Rattle.enet_peer.specs.Peering.{Peering}

abbrev pub nothing_held : Held
nothing_held = record { channels = 0; senders = 0; packets = 0; undispatched = 0; bytes = 0; acknowledgements = 0 }

-- what a slot's peer holds
abbrev pub held_in : Option Peering → Held
held_in None = nothing_held
held_in (Some p) = held_of p

-- the most that it holds, by the limits with which it began
abbrev pub most_in : Option Peering → Held
most_in None = nothing_held
most_in (Some p) = most_of p.inbox.max_packet p.inbox.max_waiting
