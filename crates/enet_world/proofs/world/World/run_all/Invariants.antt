use Rattle.std.proofs.Common.{◌≡◌, length, take, vec_len, vec_capacity}
use Rattle.law_network.specs.World.{Runs}
use Rattle.enet_world.specs.Worlds.{passed_in}
use Rattle.enet_world.proofs.world.World.run_all.Given as goal

abbrev pub invariant-loop-event : goal.invariant-loop-event
invariant-loop-event l = record {
  runs : Runs l.fn.self.world (take l.event-index l.events) l.answers.items l.self.world;
  joined : l.self.joined ≡ l.fn.self.joined;
  passed : l.self.passed ≡ passed_in (take l.event-index l.events) l.fn.self.passed;
  len : vec_len l.answers ≡ l.event-index;
  capacity : vec_capacity l.answers ≡ length l.events;
}
