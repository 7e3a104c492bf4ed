-- What an end has nothing left to send of arrived at the other one.
use Rattle.std.specs.Prelude.{◌≡◌, ℕ, true, false, Some, slice_get}
use Rattle.enet_sender.specs.CommandChoice.{carried}
use Rattle.enet_sender.specs.Sender.{left}
use Rattle.enet_peer.specs.Peering.{Peering}
use Rattle.law_connection.specs.Connection.{End, of_channel}
use Rattle.law_connection.specs.Law.{mtu_of}
use Rattle.law_connection.specs.Linked.{sends_in, dispatches_in, sender_in, dispatched_on}
use Rattle.law_connection.specs.LinkSteps.{bodies_of}
use Rattle.law_progress.specs.Links.{AllDispatched}

-- the end `from` still sends, and has no reliable command of the channel queued or unacknowledged; the end `to` still dispatches
pub record HasNothingLeft (from to : End) (channel : ℕ) (p q : Peering) : Type 0 where
  pub from_is : from.peer ≡ Some p
  pub to_is : to.peer ≡ Some q
  pub sends : sends_in p.state ≡ true
  pub dispatches : dispatches_in q.state ≡ true
  pub none : (left (sender_in (slice_get p.outbox.senders channel))).reliable ≡ false

-- then each reliable packet that was submitted on the channel was dispatched, taken or not, in order
abbrev pub IsDelivered : End → End → ℕ → Type 0
IsDelivered from to channel = (p q : Peering) → HasNothingLeft from to channel p q → AllDispatched (carried (mtu_of from) (of_channel (mtu_of from) channel from.submitted)) (bodies_of (dispatched_on channel to q))
