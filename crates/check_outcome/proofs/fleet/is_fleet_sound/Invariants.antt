use Rattle.check_outcome.specs.Sound.{IsFleetSound}
use Rattle.check_outcome.proofs.fleet.is_fleet_sound.Given as goal

abbrev pub invariant-loop-connection : goal.invariant-loop-connection
invariant-loop-connection l = IsFleetSound l.fleet l.mtu l.channels l.connection
