use Rattle.std.proofs.Common.{◌≡◌, ◌+◌, ◌≤◌, ◌++◌, All, length, map}
use Rattle.std.specs.VecDeque.{deque_len, deque_capacity}
use Rattle.enet_inbox.specs.DataEffect.{packet_of, emptied}
use Rattle.enet_inbox.specs.Invariant.{IsShort}
use Rattle.enet_inbox.specs.Private.Invariant.{bytes_in}
use Rattle.enet_inbox.proofs.taking.hand_over.Given as goal

abbrev pub invariant-loop-packet : goal.invariant-loop-packet
invariant-loop-packet l = record {
  receiver : emptied l.receiver ≡ emptied l.initial.receiver;
  untaken : l.untaken.items ++ map (packet_of l.initial.receiver.channel) l.receiver.receiver.dispatched ≡ l.initial.untaken.items ++ map (packet_of l.initial.receiver.channel) l.initial.receiver.receiver.dispatched;
  bytes : bytes_in l.untaken.items ≡ bytes_in l.initial.untaken.items + l.bytes;
  short : All IsShort l.untaken.items;
  room : deque_len l.untaken + length l.receiver.receiver.dispatched ≤ deque_capacity l.untaken;
}

abbrev pub decreases-loop-packet : goal.decreases-loop-packet
decreases-loop-packet l = length l.receiver.receiver.dispatched
