use Rattle.std.proofs.Common.{ℕ, ◌<◌}
use Rattle.enet_fleet.specs.Headline.{end_at, far_end}
use Rattle.check_outcome.specs.Sound.{IsFollowed}
use Rattle.check_outcome.proofs.fleet.is_in_order.Given as goal

abbrev pub invariant-loop-channel : goal.invariant-loop-channel
invariant-loop-channel l = (k : ℕ) → k < l.channel → IsFollowed l.mtu (end_at l.fleet l.connection l.end) (end_at l.fleet l.connection (far_end l.end)) k
