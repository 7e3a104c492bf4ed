-- The channel that the room in transit is kept for.
use Rattle.std.specs.Prelude.{◌≡◌, ℕ, true, List, Option, Some, None, slice_get, All}
use Rattle.enet_sender.specs.declared.sent.Sent.{Sent}
use Rattle.enet_sender.specs.Sender.{awaits_room}
use Rattle.enet_sender.specs.Due.{SendingEnd}
use Rattle.enet_outbox.specs.Outbox.{Outbox}

-- all that is sent is reliable
abbrev pub IsSentReliable : List Sent → Type 0
IsSentReliable sent = All (λ (p : Sent). p.command.reliable ≡ true) sent

-- where the room is kept for a channel, something of it may wait for room
abbrev pub AwaitsRoom : List SendingEnd → Option ℕ → Type 0
AwaitsRoom senders None = Unit {0}
AwaitsRoom senders (Some channel) = (s : SendingEnd) × (slice_get senders channel ≡ Some s) × (awaits_room s.sender ≡ true)

pub record IsAwaited (senders : List SendingEnd) (kept : Option ℕ) : Type 0 where
  pub reliable : (i : ℕ) (s : SendingEnd) → slice_get senders i ≡ Some s → IsSentReliable s.sender.sent
  pub awaits : AwaitsRoom senders kept

abbrev pub RoomIsAwaited : Outbox → Type 0
RoomIsAwaited o = IsAwaited o.senders o.kept
