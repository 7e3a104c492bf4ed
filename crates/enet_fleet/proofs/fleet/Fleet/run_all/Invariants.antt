use Rattle.std.proofs.Common.{◌≡◌, length, take, vec_len, vec_capacity}
use Rattle.enet_fleet.specs.Fleets.{Runs}
use Rattle.enet_fleet.proofs.fleet.Fleet.run_all.Given as goal

abbrev pub invariant-loop-event : goal.invariant-loop-event
invariant-loop-event l = record {
  runs : Runs l.fn.self (take l.event-index l.events) l.answers.items l.self;
  len : vec_len l.answers ≡ l.event-index;
  capacity : vec_capacity l.answers ≡ length l.events;
}
