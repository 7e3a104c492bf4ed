use Rattle.check_outcome.specs.Sound.{IsSound}
use Rattle.check_outcome.proofs.sound.is_sound.Given as goal

abbrev pub invariant-loop-connection : goal.invariant-loop-connection
invariant-loop-connection l = IsSound l.world.world l.mtu l.channels l.connection
