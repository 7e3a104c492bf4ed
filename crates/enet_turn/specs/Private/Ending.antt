-- What a datagram that was handed to the wire counts, and when a turn sends no more.
use Rattle.std.specs.Prelude.{ℕ, nat_lt, Bool, true, false, not}
use Rattle.enet_wire.specs.declared.wire.SendOutcome.{SendOutcome}
use Rattle.enet_wire.specs.declared.wire.SendOutcome.TheVariants.{Sent, Lost, Blocked}

-- how many were sent, and how many lost, by one of which this became
abbrev pub sent_by : SendOutcome → ℕ
sent_by Sent = 1
sent_by Lost = 0
sent_by Blocked = 0

abbrev pub lost_by : SendOutcome → ℕ
lost_by Sent = 0
lost_by Lost = 1
lost_by Blocked = 1

-- no more is sent after a datagram of which this became, with so many lost in the turn, that one among them
abbrev pub ends_sending : SendOutcome → ℕ → Bool
ends_sending Sent lost = false
ends_sending Lost lost = not (nat_lt lost 16)
ends_sending Blocked lost = true
