-- What a turn's calls do with a host: each is one call of it.
use Rattle.std.specs.Prelude.{◌≡◌, ℕ, ◌+◌, List, length, take, Option, Some, None, Result, sum_by}
use Rattle.std.specs.Option.{option_map}
use Rattle.enet_codec.specs.declared.address.Addr.{Addr}
use Rattle.enet_codec.specs.declared.event.Event.{Event}
use Rattle.enet_codec.specs.declared.event.PeerRef.{PeerRef}
use Rattle.enet_codec.specs.declared.event.Received.{Received}
use Rattle.enet_codec.specs.declared.refusal.Refusal.{Refusal}
use Rattle.enet_submit.specs.declared.order.Order.{Order}
use Rattle.enet_submit.specs.declared.order.Order.TheVariants.{Connect, Submit, Disconnect}
use Rattle.enet_peer.specs.declared.parts.PeerState.{PeerState}
use Rattle.enet_peer.specs.declared.parts.PeerState.TheVariants.{Ended}
use Rattle.enet_peer.specs.Peering.{Peering}
use Rattle.enet_host.specs.Host.{Host, KeepsRest}
use Rattle.enet_host.specs.Opening.{host_basis, Connects}
use Rattle.enet_host.specs.Receiving.{Receives}
use Rattle.enet_host.specs.Serving.{Serves}
use Rattle.enet_host.specs.Ticking.{ticked}
use Rattle.enet_slot.specs.Calls.{Does, DoesWithMemory, submission, unless_full, leaving}
use Rattle.enet_host.specs.Calls.{Takes, on_named}
use Rattle.enet_turn.specs.Calls.{Calls, why_of}

-- the clock goes on
abbrev pub Ticks : Host → ℕ → Host → Type 0
Ticks old ms new = new ≡ ticked old ms

-- an order is the call that it names: a packet is refused, too, where its peer is full
abbrev pub AppliesOrder : Host → Order → Option Refusal → Host → Type 0
AppliesOrder old (Connect addr channels info word) why new =
    (answer : Result PeerRef Refusal) × Connects (host_basis old) old.slots (record { address = addr; channels = channels; info = info; word = word }) answer new.slots
    × KeepsRest old new × (why ≡ why_of answer)
AppliesOrder old (Submit peer channel flags body) why new =
    (answer : Result (Unit {0}) Refusal) × DoesWithMemory answer (on_named old.slots peer (unless_full old.send_limit (submission channel (record { flags = flags; body = body })))) old.slots new.slots
    × KeepsRest old new × (why ≡ why_of answer)
AppliesOrder old (Disconnect peer how info) why new =
    (answer : Result (Unit {0}) Refusal) × Does answer (on_named old.slots peer (leaving how info)) old.slots new.slots × KeepsRest old new × (why ≡ why_of answer)

-- a datagram is received, whatever the answer to it
abbrev pub ReceivesDatagram : Host → Addr × List ℕ → Host → Type 0
ReceivesDatagram old datagram new = (answer : Received) × Receives old datagram.0 datagram.1 answer new

-- the bytes of a datagram that the host put into a buffer
abbrev pub sent_from : List ℕ → PeerRef × Addr × ℕ → Addr × List ℕ
sent_from buf sent = (sent.1, take sent.2 buf)

-- the host puts out its next datagram
abbrev pub EmitsDatagram : Host → Option (Addr × List ℕ) → Host → Type 0
EmitsDatagram old given new = (sent : Option (PeerRef × Addr × ℕ)) × (buf : List ℕ) × Serves old sent buf new × (given ≡ option_map (sent_from buf) sent)

-- the host tells its next event
abbrev pub GivesEvent : Host → Option Event → Host → Type 0
GivesEvent old event new = Takes event old new

-- the calls of our host
abbrev pub host_calls : Calls Host
host_calls = record { ticks = Ticks; applies = AppliesOrder; receives = ReceivesDatagram; emits = EmitsDatagram; gives_event = GivesEvent }

-- how many events a host has that it hasn't told: Connects, packets and ends
abbrev pub greetings : Option ℕ → ℕ
greetings None = 0
greetings (Some info) = 1

abbrev pub endings : PeerState → ℕ
endings Ended = 1
endings _ = 0

abbrev pub untold_by : Peering → ℕ
untold_by p = greetings p.greeting + length p.inbox.untaken + endings p.state

abbrev pub untold_in : Option Peering → ℕ
untold_in None = 0
untold_in (Some p) = untold_by p

abbrev pub untold : Host → ℕ
untold h = sum_by (λ s. untold_in s.peer) h.slots
