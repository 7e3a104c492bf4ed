use Rattle.std.proofs.Common.{ℕ, ◌<◌}
use Rattle.law_network.specs.Headline.{end_at}
use Rattle.law_network.specs.World.{other}
use Rattle.check_outcome.specs.Sound.{IsFollowed}
use Rattle.check_outcome.proofs.sound.is_in_order.Given as goal

abbrev pub invariant-loop-channel : goal.invariant-loop-channel
invariant-loop-channel l = (k : ℕ) → k < l.channel → IsFollowed l.mtu (end_at l.world.world l.connection l.side) (end_at l.world.world l.connection (other l.side)) k
