use Rattle.std.proofs.Common.{◌≡◌, ◌≤◌, ◌-◌}
use Rattle.enet_world.specs.Calm.{TakesMany}
use Rattle.enet_world.proofs.world.World.take_all.Given as goal

abbrev pub invariant-takes : goal.invariant-takes
invariant-takes l = record {
  taken : TakesMany l.side l.taken l.fn.self.world l.self.world;
  end : l.taken ≤ 65536;
  joined : l.self.joined ≡ l.fn.self.joined;
  passed : l.self.passed ≡ l.fn.self.passed;
}

abbrev pub decreases-takes : goal.decreases-takes
decreases-takes l = 65536 - l.taken
