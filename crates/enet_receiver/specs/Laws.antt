-- What holds of every receiver.
use Rattle.std.specs.Prelude.{◌≡◌, ℕ, ◌≤◌, ◌++◌, List, Some, None}
use Rattle.std.specs.FinMap.{get}
use Rattle.enet_seq.specs.Numbering.{Numbering}
use Rattle.enet_fragment.specs.PartialPacket.{count_of}
use Rattle.enet_packets.specs.declared.incoming_packet.IncomingPacket.{IncomingPacket}
use Rattle.enet_packets.specs.declared.incoming_packet.Dispatched.{Dispatched}
use Rattle.enet_receiver.specs.Receiver.{Receiver, next_whole, all_released}

-- each packet that is held has a piece
abbrev pub HavePieces : Receiver → Type 0
HavePieces r = (number : ℕ) (c : IncomingPacket) → get r.held number ≡ Some c → 1 ≤ count_of c.making

-- once all is released, no whole packet stands just past the front
abbrev pub NothingIsDue : Numbering → Receiver → Type 0
NothingIsDue g r = next_whole (get (all_released g r).held (g.after (all_released g r).front 1)) ≡ None

-- the receiver after these packets were dispatched earlier
abbrev pub with_earlier : List Dispatched → Receiver → Receiver
with_earlier earlier r = record r { dispatched = earlier ++ r.dispatched }

-- a step does the same whatever was dispatched earlier
abbrev pub DoesTheSame : (Receiver → Receiver) → Receiver → List Dispatched → Type 0
DoesTheSame step r earlier = step (with_earlier earlier r) ≡ with_earlier earlier (step r)
