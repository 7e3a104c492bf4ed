-- What the fields of an outbox keep.
use Rattle.std.specs.Prelude.{◌≡◌, ℕ, ◌≤◌, Bool, true, IsTrue, List, length, sum_by, Option, Some, None, slice_set}
use Rattle.std.specs.List.{list_all}
use Rattle.enet_senders.specs.Controlling.{is_idle}
use Rattle.enet_sender.specs.Sender.{bytes_in_transit, prices_in_transit, after_match, acknowledged}
use Rattle.enet_sender.specs.Due.{SendingEnd}
use Rattle.enet_outbox.specs.Outbox.{Outbox, has_no_packet, has_no_reliable}

-- the payload bytes of what these senders have in transit, and the prices
abbrev pub transit_over : List SendingEnd → ℕ
transit_over senders = sum_by (λ (s : SendingEnd). bytes_in_transit s.sender) senders

abbrev pub prices_over : List SendingEnd → ℕ
prices_over senders = sum_by (λ (s : SendingEnd). prices_in_transit s.sender) senders

-- There are at most 255 channels, and what is in transit is counted.
pub record KeepsOutbox (transit prices : ℕ) (senders : List SendingEnd) : Type 0 where
  pub few : length senders ≤ 255
  pub counted : transit ≡ transit_over senders
  pub priced : prices ≡ prices_over senders

-- what was seen to be idle has nothing queued or unacknowledged on any channel
abbrev pub KeepsIdle : Bool → List SendingEnd → Type 0
KeepsIdle idle senders = IsTrue idle → (list_all has_no_packet senders ≡ true) × (list_all has_no_reliable senders ≡ true)

-- an outbox with nothing to send at all
pub record HasNothing (o : Outbox) : Type 0 where
  pub acknowledgements : length o.acknowledgements ≡ 0
  pub control : is_idle o.control ≡ true
  pub unsequenced : length o.unsequenced ≡ 0
  pub packets : list_all has_no_packet o.senders ≡ true
  pub reliable : list_all has_no_reliable o.senders ≡ true

-- an acknowledgement of a channel's command comes that repeats a sent time
abbrev pub with_accepted : List SendingEnd → ℕ → ℕ → ℕ → Option SendingEnd → List SendingEnd
with_accepted senders channel number time None = senders
with_accepted senders channel number time (Some s) = slice_set senders channel (record s { sender = after_match s.sender number (acknowledged s.sender number time) })
