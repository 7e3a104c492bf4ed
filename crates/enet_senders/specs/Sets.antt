-- What the senders of a peer keep: which channels surely have nothing that may go, and which nothing that is sent.
use Rattle.std.specs.Prelude.{◌≡◌, ℕ, ◌/◌, ◌%◌, List, [], Some, slice_get, slice_index}
use Rattle.std.specs.Int.{bit_at}
use Rattle.enet_sender.specs.Due.{SendingEnd}
use Rattle.enet_sender.specs.declared.outgoing.Outgoing.{Outgoing}
use Rattle.enet_sender.specs.declared.pending.Pending.{Pending}
use Rattle.enet_senders.specs.Senders.{ends_in, IsStill, KeepsAllIn}
use Rattle.enet_senders.specs.declared.channel_set.ChannelSet.{ChannelSet}

-- the channel isn't in the set: bit i % 64 of word i / 64 is 0
abbrev pub Lacks : ChannelSet → ℕ → Type 0
Lacks set i = bit_at (slice_index set.words (i / 64)) (i % 64) ≡ 0

-- a channel that isn't in `ready` is still, and one that isn't in `flying` has nothing that is sent and not acknowledged
pub record KeepsSets (ready flying : ChannelSet) (ends : List SendingEnd) : Type 0 where
  pub still : (i : ℕ) (e : SendingEnd) → Lacks ready i → slice_get ends i ≡ Some e → IsStill e.sender
  pub grounded : (i : ℕ) (e : SendingEnd) → Lacks flying i → slice_get ends i ≡ Some e → e.sender.sent ≡ []

-- what the channels of a peer, its commands and the sets keep
pub record AreSenders (p : Pending) (channels : List Outgoing) (ready flying : ChannelSet) : Type 0 where
  pub kept : KeepsAllIn p channels
  pub sets : KeepsSets ready flying (ends_in p channels)
