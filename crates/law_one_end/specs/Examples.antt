-- A run that does happen, so that the law speaks of something.
use Rattle.std.specs.Prelude.{◌≡◌, true, List, [], ◌∷◌}
use Rattle.enet_sender.specs.CommandChoice.{ChosenPacket}
use Rattle.enet_peer.specs.declared.parts.PeerEvent.TheVariants as told
use Rattle.enet_peer.specs.Peering.{joined}
use Rattle.law_connection.specs.Examples.{example_terms, example_limits, example_packet}
use Rattle.law_one_end.specs.OneEnd.{OneEnd, Event, Runs, beginning}
use Rattle.law_one_end.specs.Rules.{KeepsRules}

-- a reliable packet, as a client carries it
abbrev pub example_sent : ChosenPacket
example_sent = record { packet = record { flags = example_packet.flags; body = example_packet.body }; reliable = true; pieces = 1 }

-- this holds after some run of a peer that is connected from the start
abbrev pub OfSomeRun : (OneEnd → Type 0) → Type 0
OfSomeRun P = (events : List Event) × (e : OneEnd) × Runs events (beginning (joined 0 example_terms example_limits)) e × P e

-- the packet was taken, of a client that keeps the rules
abbrev pub HasTaken : OneEnd → Type 0
HasTaken e = (e.taken ≡ told.Receive example_packet ∷ []) × KeepsRules 576 (example_sent ∷ []) 0 e.came
