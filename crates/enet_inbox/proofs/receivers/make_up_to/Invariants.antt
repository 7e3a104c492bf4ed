use Rattle.std.proofs.Common.{◌≡◌, ◌≤◌, length, vec_len, vec_capacity}
use Rattle.enet_inbox.specs.Made.{all_receivers}
use Rattle.enet_inbox.proofs.receivers.make_up_to.Given as goal

abbrev pub invariant-loop-next : goal.invariant-loop-next
invariant-loop-next l = record {
  made : l.receivers.items ≡ all_receivers l.max_packet l.next l.fn.receivers.items;
  len : vec_len l.receivers ≡ l.next;
  start : length l.fn.receivers.items ≤ l.next;
  past : l.next ≤ l.count;
  room : l.count ≤ vec_capacity l.receivers;
}
