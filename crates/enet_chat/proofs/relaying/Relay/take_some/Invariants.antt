use Rattle.std.proofs.Common.{◌≡◌}
use Rattle.enet_chat.specs.Relaying.{Relays, sender_of}
use Rattle.enet_chat.proofs.relaying.Relay.take_some.Given as goal

abbrev pub invariant-loop : goal.invariant-loop
invariant-loop g l = Relays l.fn.self l.self × (sender_of l.self ≡ sender_of l.fn.self)
