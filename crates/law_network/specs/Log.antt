-- What is kept of all that hosts put out, submitted and took.
use Rattle.std.specs.Prelude.{ℕ, List, [], ◌∷◌, ◌++◌, replicate, slice_set}
use Rattle.std.specs.List.{slice_index_or, fold}
use Rattle.enet_codec.specs.declared.address.Addr.{Addr}
use Rattle.enet_codec.specs.declared.packet.Packet.{Packet}
use Rattle.law_connection.specs.Greatest.{greatest_after}
use Rattle.law_network.specs.declared.mark.Mark.{Mark}
use Rattle.law_network.specs.declared.mark.MarkKind.{MarkKind}
use Rattle.law_network.specs.declared.mark.MarkKind.TheVariants.{Data, Acknowledgement, Control}

-- a datagram that was put out
pub record Logged : Type 0 where
  pub connection : ℕ  -- the number of the connection that it is of
  pub to : Addr  -- where to it went
  pub peer : ℕ  -- the peer id that its header names: a slot of the taking host, or 0xFFF, by which a CONNECT is known
  pub text : List ℕ
  pub marks : List Mark

-- one channel at one end of a connection: the packets that its user submitted, and the packets that its user took
pub record ChannelPackets : Type 0 where
  pub submitted : List Packet
  pub taken : List Packet

-- a channel on which nothing has happened
abbrev pub no_packets : ChannelPackets
no_packets = record { submitted = []; taken = [] }

-- what is kept at first of an end, by the channel's number up to 0xFF
unfoldable pub fresh_channels : List ChannelPackets
fresh_channels = replicate 256 no_packets

-- the numbers sent at first
unfoldable pub fresh_greatest : List ℕ
fresh_greatest = replicate 256 0

-- of a connection that stands from the start number 1 of channel 0xFF counts as sent
unfoldable pub joined_greatest : List ℕ
joined_greatest = replicate 255 0 ++ 1 ∷ []

abbrev pub packets_at : List ChannelPackets → ℕ → ChannelPackets
packets_at channels channel = slice_index_or channels channel no_packets

abbrev pub greatest_at : List ℕ → ℕ → ℕ
greatest_at greatest channel = slice_index_or greatest channel 0

-- the channels with one of them as a function of it gives
abbrev pub with_packets : List ChannelPackets → ℕ → (ChannelPackets → ChannelPackets) → List ChannelPackets
with_packets channels channel f = slice_set channels channel (f (packets_at channels channel))

abbrev pub with_submitted_packet : Packet → ChannelPackets → ChannelPackets
with_submitted_packet p k = record k { submitted = k.submitted ++ p ∷ [] }

abbrev pub with_taken : Packet → ChannelPackets → ChannelPackets
with_taken p k = record k { taken = k.taken ++ p ∷ [] }

-- a command of this number was put out on a channel
abbrev pub with_number : List ℕ → ℕ → ℕ → List ℕ
with_number greatest channel number = slice_set greatest channel (greatest_after (greatest_at greatest channel) number)

-- a command that is put out counts for the end that gave its number
abbrev pub counted_by : MarkKind → List ℕ → Mark → List ℕ
counted_by Acknowledgement greatest m = greatest
counted_by Data greatest m = with_number greatest m.channel m.number
counted_by Control greatest m = with_number greatest m.channel m.number

abbrev pub counted : List ℕ → Mark → List ℕ
counted greatest m = counted_by m.kind greatest m

-- the greatest numbers after the commands of a datagram were put out
abbrev pub counted_all : List ℕ → List Mark → List ℕ
counted_all greatest marks = fold counted greatest marks

abbrev pub numbers_for : MarkKind → List ℕ → List ℕ → List ℕ
numbers_for Acknowledgement own other = other
numbers_for Data own other = own
numbers_for Control own other = own

-- a mark with how far its number's end has come
abbrev pub reached : List ℕ → List ℕ → Mark → Mark
reached own other m = record m { sent_then = greatest_at (numbers_for m.kind own other) m.channel }
