-- All that a peer has to send. Times are in milliseconds.
use Rattle.std.specs.Prelude.{ℕ, ◌%◌, ◌/◌, ◌&&◌, ◌||◌, not, ◌==◌, Bool, true, false, nat_le, if◌then◌else◌, List, [], ◌∷◌, ◌++◌, length, map, take, Option, Some, None, slice_get, slice_set, sum_by}
use Rattle.std.specs.List.{range_with_len, list_all, list_any}
use Rattle.enet_seq.specs.Windows.{after}
use Rattle.enet_seq.specs.Numbering.{wire}
use Rattle.enet_rtt.specs.declared.transmission.Tick.{Tick}
use Rattle.enet_rtt.specs.declared.expiry.Patience.{Patience}
use Rattle.enet_rtt.specs.declared.expiry.Expiry.{Expiry}
use Rattle.enet_rtt.specs.declared.expiry.Expiry.TheVariants.{No, Resend, End}
use Rattle.enet_throttle.specs.Throttle.{Throttling}
use Rattle.enet_throttle.specs.Throttle as throttle
use Rattle.enet_senders.specs.declared.control.Control.{Control}
use Rattle.enet_senders.specs.declared.control.Control.TheVariants as control
use Rattle.enet_senders.specs.Controlling.{Commands, nothing_controlled, is_idle}
use Rattle.enet_senders.specs.Controlling as controlling
use Rattle.enet_sender.specs.CommandChoice.{Packet, is_flagged_reliable, is_long}
use Rattle.enet_sender.specs.declared.outgoing.Acknowledged.{Acknowledged}
use Rattle.enet_sender.specs.Sender.{Sender, awaits_room, bytes_in_transit, prices_in_transit, lost_price, left}
use Rattle.enet_sender.specs.Sender as sender
use Rattle.enet_sender.specs.Due.{SendingEnd, new_end}
use Rattle.enet_senders.specs.Senders.{sum_over}
use Rattle.enet_outbox.specs.Allowance.{Allowed, new_allowance}
use Rattle.enet_outbox.specs.Allowance as allowance
use Rattle.enet_outbox.specs.declared.traffic.Traffic.{Traffic}
use Rattle.enet_outbox.specs.Traffic.{no_traffic}
use Rattle.enet_outbox.specs.Traffic as traffic
use Rattle.enet_outbox.specs.declared.parts.Acknowledgement.{Acknowledgement}
use Rattle.enet_outbox.specs.declared.parts.Unsequenced.{Unsequenced}
use Rattle.enet_outbox.specs.declared.parts.Matched.{Matched}
use Rattle.enet_outbox.specs.declared.parts.Matched.TheVariants as matched

pub record Outbox : Type 0 where
  pub acknowledgements : List Acknowledgement  -- those that wait, the oldest first
  pub control : Commands  -- channel 0xFF
  pub unsequenced : List Unsequenced  -- those that wait, in the order of submission
  pub group : ℕ  -- the last group given
  pub senders : List SendingEnd  -- by channel
  pub throttle : Throttling
  pub last : Option ℕ  -- the channel of the last data command that a datagram had
  pub allowance : Allowed
  pub kept : Option ℕ  -- the channel that the room in transit is kept for
  pub traffic : Traffic  -- what went and was acknowledged so far

-- so many channels with nothing to send, so many commands of channel 0xFF having been numbered before
abbrev pub empty_outbox : ℕ → ℕ → Throttling → Outbox
empty_outbox channels number t = record {
  acknowledgements = [];
  control = nothing_controlled number;
  unsequenced = [];
  group = 0;
  senders = map new_end (range_with_len 0 channels);
  throttle = t;
  last = None;
  allowance = new_allowance;
  kept = None;
  traffic = no_traffic;
}

-- the payload bytes of what is in transit: sent, not acknowledged and not due to go again
abbrev pub transit_of : Outbox → ℕ
transit_of o = sum_by (λ (s : SendingEnd). bytes_in_transit s.sender) o.senders

-- its prices
abbrev pub prices_of : Outbox → ℕ
prices_of o = sum_by (λ (s : SendingEnd). prices_in_transit s.sender) o.senders

abbrev pub has_no_packet : SendingEnd → Bool
has_no_packet s = not (left s.sender).packets

abbrev pub has_no_reliable : SendingEnd → Bool
has_no_reliable s = not (left s.sender).reliable

-- no reliable command is queued or unacknowledged
abbrev pub has_nothing_reliable : Outbox → Bool
has_nothing_reliable o = is_idle o.control && list_all has_no_reliable o.senders

-- nor is a packet queued
abbrev pub is_done : Outbox → Bool
is_done o = has_nothing_reliable o && list_all has_no_packet o.senders && length o.unsequenced == 0

abbrev pub cleared_sender : SendingEnd → SendingEnd
cleared_sender s = record s { sender = sender.cleared s.sender }

-- all that is queued or sent is dropped, acknowledgements too
abbrev pub cleared : Outbox → Outbox
cleared o = record o {
  acknowledgements = [];
  control = controlling.cleared o.control;
  unsequenced = [];
  senders = map cleared_sender o.senders;
  kept = None;
}

-- only the first channels stay
abbrev pub narrowed : Outbox → ℕ → Outbox
narrowed o channels = record o { senders = take channels o.senders; kept = None }

-- the flag UNSEQUENCED, 2
abbrev pub is_flagged_unsequenced : Packet → Bool
is_flagged_unsequenced q = q.flags / 2 % 2 == 1

-- a packet goes unsequenced where it asks for it, doesn't ask to be reliable, and isn't cut
abbrev pub is_unsequenced : ℕ → Packet → Bool
is_unsequenced mtu q = is_flagged_unsequenced q && not (is_flagged_reliable q) && not (is_long mtu q)

-- it takes its group when it is submitted
abbrev pub with_unsequenced : Outbox → ℕ → Packet → Outbox
with_unsequenced o channel q = record o {
  group = after o.group 1;
  unsequenced = o.unsequenced ++ (record { channel = channel; group = after o.group 1; body = q.body }) ∷ [];
}

abbrev pub with_sequenced : Outbox → ℕ → ℕ → Packet → Option SendingEnd → Outbox
with_sequenced o mtu channel q None = o
with_sequenced o mtu channel q (Some s) = record o { senders = slice_set o.senders channel (record s { sender = sender.submitted wire mtu s.sender q }) }

-- a packet is submitted
abbrev pub submitted : Outbox → ℕ → ℕ → Packet → Outbox
submitted o mtu channel q =
    if is_unsequenced mtu q then with_unsequenced o channel q else with_sequenced o mtu channel q (slice_get o.senders channel)

-- as many acknowledgements may wait to go
abbrev pub acknowledgement_limit : ℕ
acknowledgement_limit = 8192

-- whether as many wait as may
abbrev pub is_crowded : Outbox → Bool
is_crowded o = nat_le acknowledgement_limit (length o.acknowledgements)

-- a command that came is to be acknowledged
abbrev pub with_acknowledgement : Outbox → Acknowledgement → Outbox
with_acknowledgement o a = record o { acknowledgements = o.acknowledgements ++ a ∷ [] }

-- the same where few enough wait; else it is passed over
abbrev pub acknowledging : Outbox → Acknowledgement → Outbox
acknowledging o a = if is_crowded o then o else with_acknowledgement o a

-- a command of channel 0xFF is queued
abbrev pub with_control : Outbox → Control → Outbox
with_control o what = record o { control = controlling.with_queued o.control what }

-- no command of channel 0xFF is queued or sent any more
abbrev pub without_controls : Outbox → Outbox
without_controls o = record o { control = controlling.cleared o.control }

-- whether what an acknowledgement matches is a server's answer to a CONNECT
abbrev pub is_answer : Matched → Bool
is_answer (matched.Control (control.VerifyConnect verify)) = true
is_answer _ = false

-- whether it is anything of channel 0xFF
abbrev pub is_control : Matched → Bool
is_control (matched.Control what) = true
is_control _ = false

-- an acknowledgement comes that repeats a sent time: what it matches, and the outbox without that
abbrev pub as_control : Option Control → Matched
as_control None = matched.Nothing
as_control (Some what) = matched.Control what

abbrev pub as_data : Option Acknowledged → Matched
as_data None = matched.Nothing
as_data (Some told) = matched.Data

abbrev pub told_on : Option SendingEnd → ℕ → ℕ → Option Acknowledged
told_on None number time = None
told_on (Some s) number time = sender.acknowledged s.sender number time

abbrev pub matched_on : Option SendingEnd → ℕ → ℕ → Matched
matched_on s number time = as_data (told_on s number time)

abbrev pub matched_by : Outbox → ℕ → ℕ → ℕ → Matched
matched_by o channel number time =
    if channel == 0xFF
    then as_control (controlling.acknowledged_control o.control number time)
    else matched_on (slice_get o.senders channel) number time

-- the room in transit is kept for this channel no longer
abbrev pub released : Option ℕ → ℕ → Option ℕ
released None channel = None
released (Some kept) channel = if kept == channel then None else Some kept

-- for which channel it is kept once an acknowledgement leaves a channel so
abbrev pub still_kept : Option ℕ → ℕ → Sender → Option ℕ
still_kept kept channel s = if awaits_room s then kept else released kept channel

abbrev pub acknowledged_on : Outbox → ℕ → ℕ → Option SendingEnd → Outbox
acknowledged_on o channel number None = o
acknowledged_on o channel number (Some s) = record o {
  senders = slice_set o.senders channel (record s { sender = sender.after_acknowledgement s.sender number });
  kept = still_kept o.kept channel (sender.after_acknowledgement s.sender number);
}

abbrev pub after_acknowledgement : Outbox → ℕ → ℕ → Outbox
after_acknowledgement o channel number =
    if channel == 0xFF
    then record o { control = controlling.after_acknowledgement o.control number }
    else acknowledged_on o channel number (slice_get o.senders channel)

-- what is told of the data command that it matches
abbrev pub told_by : Outbox → ℕ → ℕ → ℕ → Option Acknowledged
told_by o channel number time = if channel == 0xFF then None else told_on (slice_get o.senders channel) number time

-- by that the allowance grows, and it counts as acknowledged
abbrev pub with_growth : Outbox → Option Acknowledged → Outbox
with_growth o told = record o { allowance = allowance.after_match o.allowance told; traffic = traffic.after_match o.traffic told }

-- one that matches nothing changes nothing
abbrev pub after_match : Matched → Outbox → ℕ → ℕ → ℕ → Outbox
after_match matched.Nothing o channel number time = o
after_match _ o channel number time = with_growth (after_acknowledgement o channel number) (told_by o channel number time)

-- the peer, last heard at `heard`, has timed out over a sent command
abbrev pub has_ended : Outbox → ℕ → Patience → ℕ → Bool
has_ended o now patience heard =
    list_any (controlling.ends now patience heard) o.control.sent
    || list_any (λ (s : SendingEnd). list_any (sender.ends now patience heard) s.sender.sent) o.senders

-- a sent command has waited out its timeout
abbrev pub has_late : Outbox → ℕ → Bool
has_late o now =
    list_any (controlling.is_late now) o.control.sent
    || list_any (λ (s : SendingEnd). list_any (sender.is_late now) s.sender.sent) o.senders

abbrev pub marked_sender : Tick → SendingEnd → SendingEnd
marked_sender tick s = record s { sender = sender.with_marked tick s.sender }

-- the prices of the data commands that were lost: they become late at a moment, and the peer was heard since they were last sent
abbrev pub prices_lost : Tick → List SendingEnd → ℕ
prices_lost tick senders = sum_over (lost_price tick) senders

-- all that waited out its timeout is due to go again, and has its next timeout then; by what was lost the allowance shrinks
abbrev pub marked : Outbox → Tick → Outbox
marked o tick = record o {
  control = controlling.with_marked tick o.control;
  senders = map (marked_sender tick) o.senders;
  allowance = allowance.after_loss o.allowance (prices_lost tick o.senders);
}

-- of channel 0xFF all that waited out its timeout counts as tried, though nothing goes, and waits longer from now on
abbrev pub held_back : Outbox → Tick → Outbox
held_back o tick = record o { control = controlling.with_held_back tick o.control }

-- so many milliseconds or more have passed since a sent command of channel 0xFF first went
abbrev pub has_waited : Outbox → ℕ → ℕ → Bool
has_waited o ms now = list_any (controlling.has_waited ms now) o.control.sent

-- what a moment brings: the end of the peer, which changes nothing here, resends, or nothing
abbrev pub lateness : Outbox → ℕ → Patience → ℕ → Expiry
lateness o now patience heard = if has_ended o now patience heard then End else (if has_late o now then Resend else No)

abbrev pub after_lateness : Expiry → Outbox → Tick → Outbox
after_lateness No o tick = o
after_lateness Resend o tick = marked o tick
after_lateness End o tick = o

-- the same where nothing is to go
abbrev pub after_holding : Expiry → Outbox → Tick → Outbox
after_holding No o tick = o
after_holding Resend o tick = held_back o tick
after_holding End o tick = o

-- a round trip was measured
abbrev pub sampled : Outbox → ℕ → ℕ → ℕ → ℕ → Outbox
sampled o now measured round_trip variance = record o {
  throttle = throttle.after_sample o.throttle now measured round_trip variance;
  allowance = allowance.after_sample o.allowance measured round_trip;
}

-- the outbox, and for how many more acknowledgements and commands of channel 0xFF there is room
pub record Sending : Type 0 where
  pub outbox : Outbox
  pub acknowledgement_room : ℕ
  pub control_room : ℕ
