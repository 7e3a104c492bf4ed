-- A host as its callers see it: slots, a clock, and where the turns of `service` and `next_event` begin. Times are in milliseconds.
use Rattle.std.specs.Prelude.{◌≡◌, ◌≢◌, ℕ, zero, suc, ◌≤◌, ◌==◌, if◌then◌else◌, Option, Some, None, List, [], ◌∷◌, ◌++◌, length, slice_get}
use Rattle.enet_codec.specs.declared.config.Config.{Config}
use Rattle.enet_codec.specs.declared.event.PeerRef.{PeerRef}
use Rattle.enet_outbox.specs.declared.parts.SendLimit.{SendLimit}
use Rattle.enet_peer.specs.declared.parts.PeerState.TheVariants as state
use Rattle.enet_peer.specs.Peering.{Peering}
use Rattle.enet_slot.specs.Slot.{SlotState, greatest, name_of}
use Rattle.enet_host.specs.declared.credits.Credit.{Credit}
use Rattle.enet_host.specs.declared.totals.Totals.{Totals}

pub record Host : Type 0 where
  pub config : Config  -- its settings, with the bandwidths as they were last set
  pub clock : ℕ
  pub shared_at : ℕ  -- when the bandwidth was last shared out, at first the opening
  pub service_from : ℕ  -- the slot that `service` asks first: the one after the slot that it served last
  pub event_from : ℕ  -- the slot that `next_event` asks first: the one after the slot that gave the last event
  pub totals : Totals
  pub slots : List SlotState
  pub credits : List Credit  -- by slot, what its peer's address sent for it and got
  pub send_limit : Option SendLimit  -- at how much queued or unacknowledged a peer takes no further packet; None until it is set

-- no slot holds a peer that is free
abbrev pub HoldsNoFree : List SlotState → Type 0
HoldsNoFree slots = (i : ℕ) (s : SlotState) (p : Peering) → slice_get slots i ≡ Some s → s.peer ≡ Some p → p.state ≢ state.Free

-- what every host keeps
pub record Keeps (h : Host) : Type 0 where
  pub generations : h.config.generations ≤ greatest
  pub held : HoldsNoFree h.slots

-- the slot that a name means: the one of this number, where it has this generation
abbrev pub with_generation : ℕ → Option SlotState → Option SlotState
with_generation generation None = None
with_generation generation (Some s) = if s.generation == generation then Some s else None

abbrev pub slot_named : List SlotState → PeerRef → Option SlotState
slot_named slots name = with_generation name.generation (slice_get slots name.slot)

abbrev pub peer_in : Option SlotState → Option Peering
peer_in None = None
peer_in (Some s) = s.peer

-- the peer that a name means, if there is one
abbrev pub named : List SlotState → PeerRef → Option Peering
named slots name = peer_in (slot_named slots name)

-- the name of the peer that a slot holds; None where it holds none
abbrev pub name_if : ℕ → SlotState → Option Peering → Option PeerRef
name_if i s None = None
name_if i s (Some p) = Some (name_of i s)

abbrev pub name_held : ℕ → Option SlotState → Option PeerRef
name_held i None = None
name_held i (Some s) = name_if i s s.peer

abbrev pub name_in : List SlotState → ℕ → Option PeerRef
name_in slots i = name_held i (slice_get slots i)

-- the names of the peers in the first slots, in the order of these, and those of all peers
abbrev pub one_name : Option PeerRef → List PeerRef
one_name None = []
one_name (Some name) = name ∷ []

abbrev pub names_below : List SlotState → ℕ → List PeerRef
names_below slots zero = []
names_below slots (suc i) = names_below slots i ++ one_name (name_in slots i)

abbrev pub all_names : List SlotState → List PeerRef
all_names slots = names_below slots (length slots)

-- a call changed slots alone
abbrev pub KeepsRest : Host → Host → Type 0
KeepsRest old new = new ≡ record old { slots = new.slots }
