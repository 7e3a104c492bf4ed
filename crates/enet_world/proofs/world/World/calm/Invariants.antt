use Rattle.std.proofs.Common.{◌≡◌, ◌≤◌, ◌-◌}
use Rattle.enet_world.specs.Calm.{Rounds}
use Rattle.enet_world.specs.Worlds.{passed_by_rounds}
use Rattle.enet_world.proofs.world.World.calm.Given as goal

abbrev pub invariant-rounds : goal.invariant-rounds
invariant-rounds l = record {
  rounds : Rounds l.ms l.played l.told l.fn.self.world l.self.world;
  end : l.played ≤ l.rounds;
  joined : l.self.joined ≡ l.fn.self.joined;
  passed : l.self.passed ≡ passed_by_rounds l.played l.ms l.fn.self.passed;
}

abbrev pub decreases-rounds : goal.decreases-rounds
decreases-rounds l = l.rounds - l.played
