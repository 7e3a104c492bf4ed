use Rattle.enet_demo.specs.Private.Playing.{HasPlayed, IsSame}
use Rattle.enet_demo.proofs.player.Player.run.Given as goal

abbrev pub invariant-loop : goal.invariant-loop
invariant-loop g l = HasPlayed l.self × IsSame l.fn.self l.self
