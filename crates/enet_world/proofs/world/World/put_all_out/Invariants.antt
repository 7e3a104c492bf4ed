use Rattle.std.proofs.Common.{◌≡◌, ◌≤◌, ◌-◌}
use Rattle.enet_world.specs.Calm.{CarriesMany}
use Rattle.enet_world.proofs.world.World.put_all_out.Given as goal

abbrev pub invariant-turns : goal.invariant-turns
invariant-turns l = record {
  carried : CarriesMany l.side l.sent l.refused l.stopped l.fn.self.world l.self.world;
  few : l.refused ≤ l.sent;
  few_stopped : l.stopped ≤ l.sent;
  end : l.sent ≤ 65536;
  joined : l.self.joined ≡ l.fn.self.joined;
  passed : l.self.passed ≡ l.fn.self.passed;
}

abbrev pub decreases-turns : goal.decreases-turns
decreases-turns l = 65536 - l.sent
