-- A peer that only waits, until a call, a command or a moment brings it something.
use Rattle.std.specs.Prelude.{◌≡◌, Bool, true, false, is_some}
use Rattle.enet_outbox.specs.Resting.{IsAtRest}
use Rattle.enet_peer.specs.declared.parts.PeerState.{PeerState}
use Rattle.enet_peer.specs.declared.parts.PeerState.TheVariants as state
use Rattle.enet_peer.specs.Peering.{Peering}
use Rattle.enet_peer.specs.Calls.{next_event}

-- a connection is asked for, answered or stands, or its end is asked for: then neither a datagram that goes nor a call that finds none
-- takes the peer on (`gone_on`)
abbrev pub is_steady : PeerState → Bool
is_steady state.Connecting = true
is_steady state.Answering = true
is_steady state.Connected = true
is_steady state.Disconnecting = true
is_steady _ = false

-- its state is such, it has no event, and nothing goes; what was sent may be unacknowledged
pub record Waits (p : Peering) : Type 0 where
  pub steady : is_steady p.state ≡ true
  pub mute : is_some (next_event p) ≡ false
  pub rests : IsAtRest p.outbox
