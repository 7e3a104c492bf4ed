-- When what a user took of a channel follows what the other user submitted on it.
use Rattle.std.specs.Prelude.{ℕ, List}
use Rattle.enet_codec.specs.declared.packet.Packet.{Packet}
use Rattle.enet_sender.specs.CommandChoice.{carried_from}
use Rattle.law_connection.specs.Follows.{FollowsCarried}
use Rattle.law_connection.specs.LinkSteps.{bodies_of}
use Rattle.law_connection.specs.Connection.{of_channel, in_sequence}

-- what was taken follows what was submitted, `count` unreliable packets having been submitted before since the last reliable one
abbrev pub FollowsFrom : ℕ → ℕ → ℕ → List Packet → List Packet → Type 0
FollowsFrom mtu channel count submitted taken = FollowsCarried (carried_from mtu count (of_channel mtu channel submitted)) (bodies_of (in_sequence channel taken))
