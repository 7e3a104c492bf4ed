-- What a host tells of what is to come: the next peer's name, a submission's refusal, the next event.
use Rattle.std.specs.Prelude.{◌≡◌, ℕ, Option, Some, None, Result, Ok, Err, List, slice_get}
use Rattle.std.specs.Option.{option_map, option_and_then}
use Rattle.enet_codec.specs.declared.address.Addr.{Addr}
use Rattle.enet_codec.specs.declared.config.Config.{Config}
use Rattle.enet_codec.specs.declared.event.Event.{Event}
use Rattle.enet_codec.specs.declared.event.Event.TheVariants as events
use Rattle.enet_codec.specs.declared.event.PeerRef.{PeerRef}
use Rattle.enet_codec.specs.declared.packet.Packet.{Packet}
use Rattle.enet_codec.specs.declared.refusal.Refusal.{Refusal}
use Rattle.enet_outbox.specs.declared.parts.SendLimit.{SendLimit}
use Rattle.enet_slot.specs.Slot.{SlotState, name_of}
use Rattle.enet_slot.specs.Calls.{tells, refused_in}
use Rattle.enet_host.specs.Host.{Host, named}
use Rattle.enet_host.specs.Turns.{IsFirst}
use Rattle.enet_host.specs.Opening.{available, seat}
use Rattle.enet_slot.specs.Giving.{Basis}
use Rattle.enet_slot.specs.Yielding.{readied}
use Rattle.enet_host.specs.Calls.{Takes}

-- the name that the next peer gets: that of the lowest slot that is free and has a generation left
abbrev pub next_name : Config → List SlotState → Option PeerRef
next_name c slots = option_and_then (λ i. option_map (name_of i) (slice_get slots i)) (available c slots)

-- and the one that the peer gets which answers the next CONNECT, if it comes from this address
abbrev pub guest_name : Basis → Addr → List SlotState → Option PeerRef
guest_name basis from slots = option_and_then (λ i. option_map (λ (s : SlotState). name_of i (readied s)) (slice_get slots i)) (seat basis from slots)

-- the first refusal but want of memory that a submission of so many bytes meets at the peer of this name
abbrev pub submission_refusal : Option SendLimit → List SlotState → PeerRef → ℕ → ℕ → Option Refusal
submission_refusal limit slots name channel len = refused_in limit channel len (named slots name)

-- the refusal of an outcome, if it is one
abbrev pub refusal_of : {S : Type 0} → Result S Refusal → Option Refusal
refusal_of (Ok s) = None
refusal_of (Err why) = Some why

-- the peer whose event it is
abbrev pub teller_of : Event → Option PeerRef
teller_of (events.Connect name info) = Some name
teller_of (events.Receive name q) = Some name
teller_of (events.Disconnect name info) = Some name
teller_of (events.Refused seat number why) = None

-- the packet that it hands out, and that packet's body
abbrev pub packet_of : Event → Option Packet
packet_of (events.Receive name q) = Some q
packet_of _ = None

abbrev pub body_of : Event → Option (List ℕ)
body_of event = option_map (λ (q : Packet). q.body) (packet_of event)

-- whatever next_event gives next, this is what `of` says of it
abbrev pub Foretells : {X : Type 0} → (Event → Option X) → Host → Option X → Type 0
Foretells of h found = (event : Option Event) (after : Host) → Takes event h after → found ≡ option_and_then of event

-- the peer of this name is that of the first slot in turn that has an event
pub record IsTeller (h : Host) (name : PeerRef) : Type 0 where
  pub first : IsFirst tells h.slots h.event_from name.slot
  pub named : name ≡ name_of name.slot first.slot
