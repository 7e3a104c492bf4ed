-- What turns were given and what they put, beside the calls that they made.
use Rattle.std.specs.Prelude.{◌≡◌, ℕ, ◌==◌, ◌&&◌, not, Bool, true, false, if◌then◌else◌, List, [], ◌∷◌, ◌++◌, map, filter, flat_map, Option, Some, None, option_to_list}
use Rattle.std.specs.List.{list_any}
use Rattle.enet_codec.specs.declared.event.Event.{Event}
use Rattle.enet_codec.specs.declared.event.Event.TheVariants as events
use Rattle.enet_codec.specs.declared.event.PeerRef.{PeerRef}
use Rattle.enet_codec.specs.declared.packet.Packet.{Packet}
use Rattle.enet_codec.specs.declared.refusal.Refusal.{Refusal}
use Rattle.enet_submit.specs.declared.order.Order.{Order}
use Rattle.enet_submit.specs.declared.order.Order.TheVariants as orders
use Rattle.enet_submit.specs.declared.order.Submission.{Submission}
use Rattle.law_network.specs.Calls.{Call}
use Rattle.law_network.specs.Network.{is_same_name}
use Rattle.law_network.specs.Steps.{Calls}
use Rattle.enet_turn.specs.declared.waiting.Waiting.{Waiting}
use Rattle.enet_turn.specs.Phases.{refusal_event}
use Rattle.enet_service.specs.Queues.{given, accepted}
use Rattle.enet_turn.specs.Run.{all_gave, all_puts}
use Rattle.enet_turn.specs.Turn.{Round}
use Rattle.law_headline.specs.Kept.{submitted_by, taken_by}
use Rattle.law_headline.specs.Page.{is_of}

-- what waits for room: a refusal, and an event of the host
abbrev pub held_in : Waiting → List Event
held_in waiting = option_to_list waiting.refusal ++ option_to_list waiting.event

-- the events that a service put for its game threads, and those that wait for room
abbrev pub told : List Round → Waiting → List Event
told rounds waiting = accepted (all_puts rounds) ++ held_in waiting

-- whether an event says that this order was refused
abbrev pub is_refusal_of : Submission → Event → Bool
is_refusal_of x (events.Refused seat number why) = x.seat == seat && x.number == number
is_refusal_of x e = false

-- the packet of an order that submits it to a peer on a channel
abbrev pub packet_in : PeerRef → ℕ → Order → List Packet
packet_in name channel (orders.Submit peer number flags body) = if is_same_name name peer && number == channel then (record { channel = number; flags = flags; body = body }) ∷ [] else []
packet_in name channel order = []

-- the packets that were submitted to a peer on a channel by these orders, those apart that these events refuse
abbrev pub packet_unless : List Event → PeerRef → ℕ → Submission → List Packet
packet_unless es name channel x = if list_any (is_refusal_of x) es then [] else packet_in name channel x.order

abbrev pub packets_of : List Event → PeerRef → ℕ → List Submission → List Packet
packets_of es name channel xs = flat_map (packet_unless es name channel) xs

-- what a game thread submitted at a service, and took of it, by peer: the orders and events of its rounds
abbrev pub submitted : List Round → Waiting → PeerRef → ℕ → List Packet
submitted rounds waiting name channel = packets_of (told rounds waiting) name channel (given (all_gave rounds))

abbrev pub taken : List Round → Waiting → PeerRef → List Event
taken rounds waiting name = filter (is_of name) (told rounds waiting)

-- the same of the calls
abbrev pub submitted_in : List Call → PeerRef → ℕ → List Packet
submitted_in calls name channel = flat_map (λ c. submitted_by name channel (Calls c)) calls

abbrev pub taken_in : List Call → PeerRef → List Event
taken_in calls name = flat_map (λ c. taken_by name (Calls c)) calls

-- ---- what was answered
-- an order that was given, and why it was refused
abbrev pub Answered : Type 0
Answered = Submission × Option Refusal

-- the event that says so
abbrev pub refusal : Answered → List Event
refusal w = option_to_list (refusal_event w.0 w.1)

abbrev pub is_refused : Event → Bool
is_refused (events.Refused seat number why) = true
is_refused e = false

abbrev pub unless_refused : Option Refusal → List Packet → List Packet
unless_refused None ps = ps
unless_refused (Some why) ps = []

abbrev pub settled : PeerRef → ℕ → Answered → List Packet
settled name channel w = unless_refused w.1 (packet_in name channel w.0.order)
