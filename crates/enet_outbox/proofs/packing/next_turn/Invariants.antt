use Rattle.std.proofs.Common.{◌≡◌, ℕ, ◌+◌, ◌-◌, ◌%◌, ◌<◌, ◌≤◌, Some, length}
use Rattle.std.specs.List.{slice_get}
use Rattle.enet_sender.specs.Due.{SendingEnd}
use Rattle.enet_senders.specs.Senders.{IsStill}
use Rattle.enet_outbox.proofs.packing.next_turn.Given as goal

abbrev pub invariant-turns : goal.invariant-turns
invariant-turns l = record {
  later : l.turn ≤ l.next;
  within : l.next ≤ length l.senders;
  still : (k : ℕ) (e : SendingEnd) → l.turn ≤ k → k < l.next → slice_get l.senders ((l.first + k) % length l.senders) ≡ Some e → IsStill e.sender;
}

abbrev pub decreases-turns : goal.decreases-turns
decreases-turns l = length l.senders - l.next
