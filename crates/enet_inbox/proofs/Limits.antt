-- An inbox stays within its bounds.
use Rattle.std.proofs.Common.{◌≡◌, ℕ, ◌≤◌, false, Option, List, [], ◌∷◌, ◌++◌, length}
use Rattle.enet_codec.specs.declared.packet.Packet.{Packet}
use Rattle.enet_unsequenced.specs.Groups.{Seen}
use Rattle.enet_fragment.specs.declared.data.DataCommand.{DataCommand}
use Rattle.enet_inbox.specs.Inbox.{Inbox, empty_inbox, is_full, cleared, forgotten, narrowed, given_way}
use Rattle.enet_inbox.specs.Bounds.{IsBounded}
use Rattle.enet_inbox.specs.DataEffect.{sequenced}
use Rattle.enet_inbox.specs.Invariant.{KeepsInbox}
use Rattle.enet_inbox.proofs.Bounding.{few_sequenced, few_unsequenced, few_popped, few_cleared, few_forgotten, few_narrowed, few_new, few_given_way}
use Rattle.enet_inbox.proofs.Weighing.{light_sequenced, light_unsequenced, light_popped, light_cleared, light_forgotten, light_narrowed, light_new, light_given_way}

-- a sequenced command comes
pub bounded_sequenced : (b : Inbox) (waiting channel : ℕ) (o : Option DataCommand) → IsBounded b → KeepsInbox b waiting → IsBounded (sequenced b channel o).after
bounded_sequenced b waiting channel o k kept = record { packets = few_sequenced b waiting channel o k.packets kept; bytes = light_sequenced b waiting channel o k.bytes kept }

-- an unsequenced packet comes
pub bounded_unsequenced : (b : Inbox) (seen : Seen) (q : Packet) (qs : List Packet) → IsBounded b → is_full b ≡ false → length q.body ≤ b.max_packet → qs ≡ b.untaken ++ q ∷ [] → IsBounded (record b { seen = seen; untaken = qs })
bounded_unsequenced b seen q qs k full short e = record { packets = few_unsequenced b seen q qs k.packets full e; bytes = light_unsequenced b seen q qs k.bytes full short e }

-- the next packet is taken
pub bounded_popped : (b : Inbox) (q : Packet) (qs : List Packet) → IsBounded b → b.untaken ≡ q ∷ qs → IsBounded (record b { untaken = qs })
bounded_popped b q qs k e = record { packets = few_popped b q qs k.packets e; bytes = light_popped b q qs k.bytes e }

pub bounded_cleared : (b : Inbox) → IsBounded b → IsBounded (cleared b)
bounded_cleared b k = record { packets = few_cleared b k.packets; bytes = light_cleared b k.bytes }

pub bounded_forgotten : (b : Inbox) → IsBounded b → IsBounded (forgotten b)
bounded_forgotten b k = record { packets = few_forgotten b k.packets; bytes = light_forgotten b k.bytes }

pub bounded_narrowed : (b : Inbox) (channels : ℕ) → IsBounded b → IsBounded (narrowed b channels)
bounded_narrowed b channels k = record { packets = few_narrowed b channels k.packets; bytes = light_narrowed b channels k.bytes }

-- nothing came yet
pub bounded_new : (channels most limit : ℕ) → IsBounded (empty_inbox channels most limit)
bounded_new channels most limit = record { packets = few_new channels most limit; bytes = light_new channels most limit }

-- the unreliable packets that wait give way
pub bounded_given_way : (b : Inbox) → IsBounded b → IsBounded (given_way b)
bounded_given_way b k = record { packets = few_given_way b k.packets; bytes = light_given_way b k.bytes }
