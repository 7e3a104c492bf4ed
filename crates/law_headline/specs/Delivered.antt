-- Acknowledged means delivered: what an end has nothing left to send of was dispatched at the other one.
use Rattle.std.specs.Prelude.{◌≡◌, ◌<◌, ℕ, true, false, Some, slice_get}
use Rattle.enet_sender.specs.Sender.{left}
use Rattle.law_connection.specs.LinkSteps.{bodies_of}
use Rattle.law_connection.specs.Linked.{sends_in, dispatches_in, sender_in}
use Rattle.law_connection.specs.Numbers.{carried_by}
use Rattle.law_progress.specs.Links.{AllDispatched}
use Rattle.law_network.specs.Network.{Site}
use Rattle.law_network.specs.Numbers.{Stands, sending_at, receiving_at}
use Rattle.law_network.specs.Places.{Place}
use Rattle.law_headline.specs.Nets.{Net, client_of}

-- the end of connection x at a host, whose peer stands, still sends, and has no reliable command of the channel queued or unacknowledged
pub record HasNothingLeft {s : Site} {x : ℕ} (from : Stands s x) (channel : ℕ) : Type 0 where
  pub sends : sends_in from.peer.state ≡ true
  pub none : (left (sender_in (slice_get from.peer.outbox.senders channel))).reliable ≡ false

-- then each reliable packet that its user submitted on the channel, and that went in order, was dispatched at the other host's end, taken or
-- not, in order, where the peer of that end stands and still dispatches
abbrev pub ArrivesFrom : Site → Site → ℕ → Type 0
ArrivesFrom s t x = (from : Stands s x) (to : Stands t x) (channel : ℕ) → channel < 255 → HasNothingLeft from channel → dispatches_in to.peer.state ≡ true
    → AllDispatched (carried_by (sending_at channel from.end from.peer)) (bodies_of (receiving_at channel to.end to.peer).receiver.dispatched)

-- both ways
abbrev pub ArrivesBetween : Site → Site → ℕ → Type 0
ArrivesBetween s t x = ArrivesFrom s t x × ArrivesFrom t s x

-- of each connection of a net, between the client that asked for it and the server
abbrev pub HasDelivered : Net → Type 0
HasDelivered f = (x : ℕ) (p : Place) → client_of f x ≡ Some p → ArrivesBetween p.site f.server.site x
