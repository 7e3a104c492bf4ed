-- What a user's calls make of a host.
use Rattle.std.specs.Prelude.{◌≡◌, ℕ, true, false, Option, Some, None, Result, Ok, Err, List, length, map, slice_get, slice_set}
use Rattle.enet_codec.specs.declared.address.Addr.{Addr}
use Rattle.enet_codec.specs.Config.{admitting, is_admissible}
use Rattle.enet_codec.specs.declared.config.Admission.{Admission}
use Rattle.enet_codec.specs.declared.config.Secret.{Secret}
use Rattle.enet_codec.specs.declared.event.Event.{Event}
use Rattle.enet_codec.specs.declared.event.PeerRef.{PeerRef}
use Rattle.enet_codec.specs.declared.refusal.Refusal.{Refusal}
use Rattle.enet_codec.specs.declared.refusal.Refusal.TheVariants.{BadConfig, NoSuchPeer}
use Rattle.enet_outbox.specs.declared.parts.SendLimit.{SendLimit}
use Rattle.enet_peer.specs.declared.parts.Ending.{Ending}
use Rattle.enet_peer.specs.Peering.{Peering}
use Rattle.enet_peer.specs.Calls as peers
use Rattle.enet_slot.specs.Slot.{SlotState, ending_of, changed}
use Rattle.enet_slot.specs.Calls.{on_peer, tells, GivesEvent}
use Rattle.enet_host.specs.Host.{Host, slot_named}
use Rattle.enet_host.specs.Turns.{IsFirst, HoldsNowhere, slot_after}

-- a call on the peer that a name means changes its slot alone; E2 where there is no such peer
abbrev pub put_back : List SlotState → ℕ → Result SlotState Refusal → Result (List SlotState) Refusal
put_back slots i (Ok s) = Ok (slice_set slots i s)
put_back slots i (Err why) = Err why

abbrev pub on_slot : List SlotState → ℕ → (Peering → Result Peering Refusal) → Option SlotState → Result (List SlotState) Refusal
on_slot slots i call None = Err NoSuchPeer
on_slot slots i call (Some s) = put_back slots i (on_peer s call)

abbrev pub on_named : List SlotState → PeerRef → (Peering → Result Peering Refusal) → Result (List SlotState) Refusal
on_named slots name call = on_slot slots name.slot call (slot_named slots name)

-- where the peer is that a name means
abbrev pub address_of : SlotState → Option Peering → Option Addr
address_of s None = None
address_of s (Some p) = Some s.address

abbrev pub address_in : Option SlotState → Option Addr
address_in None = None
address_in (Some s) = address_of s s.peer

abbrev pub address_named : List SlotState → PeerRef → Option Addr
address_named slots name = address_in (slot_named slots name)

-- why the connection of the peer of this name ended: told until the next peer of its slot is gone
abbrev pub ending_at : ℕ → Option SlotState → Option Ending
ending_at generation None = None
ending_at generation (Some s) = ending_of s generation

abbrev pub ending_named : List SlotState → PeerRef → Option Ending
ending_named slots name = ending_at name.generation (slice_get slots name.slot)

-- new bandwidths of the host, of which each connected peer is told
abbrev pub with_bandwidth : Host → ℕ → ℕ → Host
with_bandwidth h incoming outgoing = record h {
  config = record h.config { incoming = incoming; outgoing = outgoing };
  slots = map (changed (λ p. peers.with_bandwidth p incoming outgoing)) h.slots;
}

-- what the host draws by from now on. What peers that are there have drawn stays
abbrev pub with_secret : Host → Secret → Host
with_secret h secret = record h { config = record h.config { secret = Some secret } }

-- at how much queued or unacknowledged each of its peers, those that are there and those to come, takes no further packet from now on
abbrev pub with_send_limit : Host → SendLimit → Host
with_send_limit h limit = record h { send_limit = Some limit }

-- whom the host lets in from now on
abbrev pub with_admission : Host → Admission → Host
with_admission h what = record h { config = admitting h.config what }

abbrev pub Admits : Admission → Result (Unit {0}) Refusal → Host → Host → Type 0
Admits what (Ok done) old new = (is_admissible old.config what ≡ true) × (new ≡ with_admission old what)
Admits what (Err why) old new = (is_admissible old.config what ≡ false) × (why ≡ BadConfig) × (new ≡ old)

-- the first slot in turn that has an event gave it
pub record TakesOne (old : Host) (event : Event) (new : Host) : Type 0 where
  pub from : ℕ
  pub first : IsFirst tells old.slots old.event_from from
  pub after : SlotState
  pub gives : GivesEvent from event first.slot after
  pub rest : new ≡ record old { slots = slice_set old.slots from after; event_from = slot_after (length old.slots) from }

-- what a call of next_event gives and leaves
abbrev pub Takes : Option Event → Host → Host → Type 0
Takes None old new = HoldsNowhere tells old.slots × (new ≡ old)
Takes (Some event) old new = TakesOne old event new
