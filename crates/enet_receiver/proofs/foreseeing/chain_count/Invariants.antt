use Rattle.std.proofs.Common.{◌≡◌, ◌+◌, ◌-◌, ◌*◌, ◌≤◌}
use Rattle.enet_receiver.specs.Private.Walk.{walk}
use Rattle.enet_receiver.specs.declared.foreseeing.TheConstants.{MOST_TURNS}
use Rattle.enet_receiver.proofs.foreseeing.chain_count.Given as goal

abbrev pub invariant-loop-turn : goal.invariant-loop-turn
invariant-loop-turn l = record {
  same : walk (MOST_TURNS - l._turn) l.completed l.held l.waiting l.last + l.count ≡ walk MOST_TURNS l.completed l.held l.waiting l.front;
  few : l.count ≤ l._turn * 65538;
}
