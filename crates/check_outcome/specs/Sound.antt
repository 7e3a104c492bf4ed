-- What is to hold of a world or a fleet that was opened, whatever happened in it.
use Rattle.std.specs.Prelude.{◌<◌, ℕ, List, Option}
use Rattle.enet_codec.specs.declared.packet.Packet.{Packet}
use Rattle.law_connection.specs.Follows.{Follows}
use Rattle.law_connection.specs.LinkSteps.{bodies_of}
use Rattle.law_connection.specs.Connection.{of_channel, in_sequence}
use Rattle.law_network.specs.declared.event.Side.{Side}
use Rattle.law_network.specs.declared.event.Side.TheVariants.{A, B}
use Rattle.law_network.specs.Headline.{AreOn, end_at, submitted_at, taken_at, events_at}
use Rattle.law_network.specs.Network.{HostEnd}
use Rattle.law_network.specs.World.{World, other}
use Rattle.enet_fleet.specs.declared.event.End.{End}
use Rattle.enet_fleet.specs.declared.event.End.TheVariants.{Client, Server}
use Rattle.enet_fleet.specs.Fleets.{Fleet}
use Rattle.enet_fleet.specs.Headline as fleet
use Rattle.check_outcome.specs.Life.{IsSomeLife}

-- what a user took of a channel follows what the other user submitted on it, and both lists have packets of that channel alone
pub record AreInOrder (mtu channel : ℕ) (submitted taken : List Packet) : Type 0 where
  pub submitted_on : AreOn channel submitted
  pub taken_on : AreOn channel taken
  pub follows : Follows mtu (of_channel mtu channel submitted) (bodies_of (in_sequence channel taken))

-- so it is of what was submitted on a channel at one end of a connection and taken at the other
abbrev pub IsFollowed : ℕ → Option HostEnd → Option HostEnd → ℕ → Type 0
IsFollowed mtu one two channel = AreInOrder mtu channel (submitted_at channel one) (taken_at channel two)

-- of one end of a connection, whose packets go by this mtu, and of so many channels; `two` is the other end
pub record IsEndSound (mtu channels : ℕ) (one two : Option HostEnd) : Type 0 where
  pub in_order : (channel : ℕ) → channel < channels → IsFollowed mtu one two channel
  pub one_life : IsSomeLife (events_at one)

-- of a side of connection x of a world
abbrev pub IsSideSound : World → ℕ → ℕ → ℕ → Side → Type 0
IsSideSound w mtu channels x side = IsEndSound mtu channels (end_at w x side) (end_at w x (other side))

-- of so many connections of a world
abbrev pub IsSound : World → ℕ → ℕ → ℕ → Type 0
IsSound w mtu channels connections = (x : ℕ) → x < connections → IsSideSound w mtu channels x A × IsSideSound w mtu channels x B

-- of an end of connection x of a fleet
abbrev pub IsSoundAt : Fleet → ℕ → ℕ → ℕ → End → Type 0
IsSoundAt f mtu channels x end = IsEndSound mtu channels (fleet.end_at f x end) (fleet.end_at f x (fleet.far_end end))

-- of so many connections of a fleet
abbrev pub IsFleetSound : Fleet → ℕ → ℕ → ℕ → Type 0
IsFleetSound f mtu channels connections = (x : ℕ) → x < connections → IsSoundAt f mtu channels x Client × IsSoundAt f mtu channels x Server
