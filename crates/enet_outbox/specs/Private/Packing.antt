-- A datagram while it is filled, as its buffer and its progress show it, and what each stage makes of it.
use Rattle.std.specs.Prelude.{◌≡◌, ℕ, ◌+◌, ◌%◌, ◌==◌, not, Bool, if◌then◌else◌, ◌-◌, ◌≤◌, ◌||◌, max, nat_le, true, false, List, length, map, flat_map, Option, Some, None, slice_range, slice_get, slice_set, slice_index}
use Rattle.std.specs.List.{AllByRecursion, list_any, range_with_len}
use Rattle.enet_codec.specs.Message.{IsMessage, Message, canonical}
use Rattle.enet_rtt.specs.Clock.{told_time}
use Rattle.enet_throttle.specs.Throttle.{Throttling, is_admitted, next_counter, transit}
use Rattle.enet_senders.specs.Controlling.{Commands}
use Rattle.enet_sender.specs.Due.{SendingEnd}
use Rattle.enet_outbox.specs.declared.parts.Acknowledgement.{Acknowledgement}
use Rattle.enet_outbox.specs.declared.parts.Unsequenced.{Unsequenced}
use Rattle.enet_codec.specs.declared.header.Header.{Header}
use Rattle.enet_outbox.specs.declared.parts.Pace.{Pace}
use Rattle.enet_outbox.specs.declared.parts.Destination.{Destination}
use Rattle.enet_outbox.specs.declared.packing.Progress.{Progress}
use Rattle.enet_outbox.specs.declared.packing.Flow.{Flow}
use Rattle.enet_sender.specs.declared.outgoing.Kind.{Kind}
use Rattle.enet_sender.specs.declared.outgoing.Kind.TheVariants.{Begins, Reliable}
use Rattle.enet_sender.specs.declared.outgoing.Occasion.{Occasion}
use Rattle.enet_outbox.specs.Allowance.{limit}
use Rattle.enet_outbox.specs.declared.traffic.Traffic.{Traffic}
use Rattle.enet_outbox.specs.Traffic.{with_one_sent}
use Rattle.enet_outbox.specs.Outbox.{Outbox, released, transit_of, prices_of}
use Rattle.enet_outbox.specs.Emission.{Filling, asks, fits, is_barred, with_command, with_acknowledgements, with_controls, with_unsequenced, with_channel, with_channels}

-- for no more than so many unsequenced packets room is kept where none waits
abbrev pub most_unused : ℕ
most_unused = 8

-- the commands of the filling stand in the buffer from 4 on, and the progress shows how much more it takes
pub record Holds (f : Filling) (p : Progress) (buf : List ℕ) : Type 0 where
  pub begins : 4 ≤ p.at
  pub within : p.at ≤ length buf
  pub text : slice_range buf 4 p.at ≡ flat_map canonical f.messages
  pub free : f.bytes ≡ length buf - p.at
  pub more : f.commands ≡ p.commands
  pub is_closed : f.closed ≡ p.closed
  pub is_asking : list_any asks f.messages ≡ p.asks
  pub messages : AllByRecursion IsMessage f.messages
  pub few : length f.messages + f.commands ≤ 32

-- a command was written up to a place; its first bit asks for an acknowledgement
abbrev pub taken_in : Progress → ℕ → List ℕ → Progress
taken_in p past buf = record { at = past; commands = p.commands - 1; closed = false; asks = p.asks || nat_le 128 (slice_index buf p.at) }

-- a command has gone into the datagram; or it doesn't fit, and nothing has changed
abbrev pub GoesIn : Message → Progress → Option Progress → List ℕ → List ℕ → Type 0
GoesIn m p None from to = (to ≡ from) × ((f : Filling) → Holds f p from → fits f m ≡ false)
GoesIn m p (Some q) from to = (f : Filling) → Holds f p from → (fits f m ≡ true) × ((o : Outbox) → Holds (with_command f m o) q to) × Holds f p to

-- a stage leads to this filling with this outbox, as the buffer shows it
pub record Leads (g : Filling) (o : Outbox) (q : Progress) (to : List ℕ) : Type 0 where
  pub holds : Holds g q to
  pub outbox : g.outbox ≡ o

-- the datagram as a stage finds or leaves it: how far it has come, and its buffer
pub record Page : Type 0 where
  pub progress : Progress
  pub buf : List ℕ

-- the acknowledgements, of which those are left, into a datagram that is open
abbrev pub PacksAcknowledgements : List Acknowledgement → List Acknowledgement → Page → Page → Type 0
PacksAcknowledgements old new from to =
    (f : Filling) → Holds f from.progress from.buf → f.closed ≡ false → f.outbox.acknowledgements ≡ old
    → Leads (with_acknowledgements f) (record f.outbox { acknowledgements = new }) to.progress to.buf

-- where the next command goes; where the datagram takes no more, at the end of the buffer, where none fits
abbrev pub place_in : Progress → List ℕ → ℕ
place_in p buf = if p.commands == 0 then length buf else p.at

-- the commands of channel 0xFF
abbrev pub PacksControls : Pace → Commands → Commands → Page → Page → Type 0
PacksControls pace old new from to =
    (f : Filling) → Holds f from.progress from.buf → f.outbox.control ≡ old
    → Leads (with_controls pace f) (record f.outbox { control = new }) to.progress to.buf

-- what the unsequenced packets go by: those that wait, the throttle, and the channel of the last data command
pub record UnsequencedSource : Type 0 where
  pub packets : List Unsequenced
  pub throttle : Throttling
  pub last : Option ℕ

-- the unsequenced packets
abbrev pub PacksUnsequenced : UnsequencedSource → UnsequencedSource → Page → Page → Type 0
PacksUnsequenced old new from to =
    (f : Filling) → Holds f from.progress from.buf → f.outbox.unsequenced ≡ old.packets → f.outbox.throttle ≡ old.throttle → f.outbox.last ≡ old.last
    → Leads (with_unsequenced f) (record f.outbox { unsequenced = new.packets; throttle = new.throttle; last = new.last }) to.progress to.buf

-- the throttle is asked of the first command of an unreliable packet alone
abbrev pub asked_for : Kind → Throttling → Throttling
asked_for Begins t = record t { counter = next_counter t }
asked_for _ t = t

abbrev pub refuses : Kind → Throttling → Bool
refuses Begins t = not (is_admitted t)
refuses _ t = false

abbrev pub is_reliable : Kind → Bool
is_reliable Reliable = true
is_reliable _ = false

-- what went is counted, if it is reliable
abbrev pub counted_by : Kind → Traffic → Bool → Traffic
counted_by Reliable t again = with_one_sent t again
counted_by _ t again = t

-- for which channel the room is kept after a turn of one: if a reliable command of it went, for that one no longer; else for that one, if it
-- wants the room
abbrev pub kept_after : Bool → Bool → Option ℕ → ℕ → Option ℕ
kept_after went wants kept channel = if went then released kept channel else (if wants then Some channel else kept)

-- what the channels share: the throttle, what is in transit, what the prices may be together, the channel that the room is kept for, the
-- channel of the last data command, and what went so far
abbrev pub with_flow : Outbox → List SendingEnd → Flow → Outbox
with_flow o senders w = record o { senders = senders; throttle = w.throttle; kept = w.kept; last = w.last; traffic = w.traffic }

pub record Counts (o : Outbox) (w : Flow) : Type 0 where
  pub transit : transit_of o ≡ w.transit
  pub prices : prices_of o ≡ w.prices
  pub dearest : limit o.allowance ≡ w.dearest
  pub kept : o.kept ≡ w.kept
  pub traffic : o.traffic ≡ w.traffic

abbrev pub Shares : Outbox → Flow → Type 0
Shares o w = (o.throttle ≡ w.throttle) × (o.last ≡ w.last) × Counts o w

-- what the sender of a channel is told when it is asked what is due
abbrev pub told : Pace → ℕ → Flow → Occasion
told pace channel w = record {
  now = pace.now;
  timeout = pace.timeout;
  transit = w.transit;
  most = transit w.throttle pace.window pace.mtu;
  prices = w.prices;
  dearest = max w.dearest pace.mtu;
  barred = is_barred w.kept channel;
}

-- one channel: its place among the senders, its sender, and what it shares
pub record ChannelSource : Type 0 where
  pub channel : ℕ
  pub sender : SendingEnd
  pub flow : Flow

abbrev pub with_channel_left : Outbox → ChannelSource → Outbox
with_channel_left o left = with_flow o (slice_set o.senders left.channel left.sender) left.flow

-- into a datagram that is open
abbrev pub PacksChannel : Pace → ChannelSource → ChannelSource → Page → Page → Type 0
PacksChannel pace old new from to =
    (f : Filling) → Holds f from.progress from.buf → f.closed ≡ false → slice_get f.outbox.senders old.channel ≡ Some old.sender → Shares f.outbox old.flow
    → Leads (with_channel pace f old.channel) (with_channel_left f.outbox new) to.progress to.buf
    × Counts (with_channel_left f.outbox new) new.flow

-- all n channels from turn k on, cyclically, beginning with the first
abbrev pub turns : ℕ → ℕ → ℕ → List ℕ
turns first n k = map (λ turn. (first + turn) % n) (range_with_len k (n - k))

-- the channels: which is asked first, their senders, and what they share
pub record ChannelsSource : Type 0 where
  pub first : ℕ
  pub senders : List SendingEnd
  pub flow : Flow

abbrev pub PacksChannels : Pace → ChannelsSource → ChannelsSource → Page → Page → Type 0
PacksChannels pace old new from to =
    (f : Filling) → Holds f from.progress from.buf → f.outbox.senders ≡ old.senders → Shares f.outbox old.flow
    → Leads (with_channels pace (turns old.first (length old.senders) 0) f) (with_flow f.outbox new.senders new.flow) to.progress to.buf
    × Counts (with_flow f.outbox new.senders new.flow) new.flow

-- the header, where a command asks for an acknowledgement and where none does
abbrev pub header_asking : ℕ → Destination → Bool → Header
header_asking now to asking = record {
  peer = to.slot;
  session = if to.slot % 4096 == 0xFFF then 0 else to.session;
  compressed = false;
  sent = if asking then Some (told_time now to.offset) else None;
}
