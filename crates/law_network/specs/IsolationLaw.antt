-- Isolation: the peer of a connection is where one peer alone would be.
use Rattle.std.specs.Prelude.{◌≡◌, ◌<◌, ℕ, List, Option, Some, None, true, slice_get}
use Rattle.enet_codec.specs.declared.address.Addr.{Addr}
use Rattle.enet_codec.specs.declared.config.Config.{Config}
use Rattle.enet_codec.specs.declared.event.PeerRef.{PeerRef}
use Rattle.enet_codec.specs.Config.{is_in_range}
use Rattle.enet_peer.specs.declared.parts.PeerState.{PeerState}
use Rattle.enet_peer.specs.declared.parts.PeerState.TheVariants as state
use Rattle.enet_peer.specs.Peering.{Peering}
use Rattle.enet_slot.specs.Slot.{SlotState, with_peer}
use Rattle.enet_host.specs.Host.{Host, Keeps, named}
use Rattle.enet_host.specs.Opening as opening
use Rattle.law_network.specs.Calls.{Call, Acts, Steps, Series}
use Rattle.law_network.specs.Common.{Common, common_of}
use Rattle.law_network.specs.Deeds.{Deed, AllAlone}
use Rattle.law_network.specs.Falling.{Fell, FellAll, Begins, counted}

-- with this count of what its peer put out since the bandwidth was last shared out
abbrev pub having_emitted : SlotState → ℕ → SlotState
having_emitted s n = record s { emitted = n }

-- what fell to a peer, if anything, left it as it was: all was refused, or it was an acknowledgement that matches nothing, a tick by
-- which nothing was due, an emission of nothing
pub record Stays (c : Call) (h : Common) (i : ℕ) (s : SlotState) (p : Peering) : Type 0 where
  pub deeds : List Deed
  pub fell : Fell h (record { number = i; slot = s; peer = p }) c deeds
  pub alone : AllAlone deeds p p

-- what one call made of slot i, which was s: of the host this sees only what its connections share
pub data Fares (c : Call) (h : Common) (i : ℕ) (s t : SlotState) : Type 0 where
  -- its peer stays as it was, or it was free and stays so; its bytes may be counted anew
  untouched : ((p : Peering) → s.peer ≡ Some p → Stays c h i s p) → (s.peer ≡ None → (u : SlotState) → Begins c h i s u → ⊥) → t ≡ having_emitted s (counted c h i s) → Fares c h i s t
  -- its peer did alone what fell to it; where that leaves it free, so is the slot, and none begins there
  goes_on : (p q : Peering) (ds : List Deed) → s.peer ≡ Some p → Fell h (record { number = i; slot = s; peer = p }) c ds → AllAlone ds p q
      → (q.state ≡ state.Free → (u : SlotState) → Begins c h i (with_peer s q) u → ⊥) → t ≡ having_emitted (with_peer s q) (counted c h i s) → Fares c h i s t
  -- its peer did alone what fell to it, which left it free, and a connection begins in the slot
  takes_over : (p q : Peering) (ds : List Deed) → s.peer ≡ Some p → Fell h (record { number = i; slot = s; peer = p }) c ds → AllAlone ds p q → q.state ≡ state.Free
      → (with_peer s q).generation < h.config.generations → Begins c h i (with_peer s q) t → Fares c h i s t
  -- it was free, and a connection begins in it
  begins : s.peer ≡ None → s.generation < h.config.generations → Begins c h i s t → Fares c h i s t

-- one call: each slot is there before and after, and fares so
abbrev pub OneCall : Type 0
OneCall = (c : Call) (old new : Host) → Acts c old new
    → (i : ℕ) (s : SlotState) → slice_get old.slots i ≡ Some s → (t : SlotState) × (slice_get new.slots i ≡ Some t) × Fares c (common_of old) i s t

-- where a peer of this name is after all: there, or, once it is free, nobody is called so any more
abbrev pub held_if : PeerState → Peering → Option Peering
held_if state.Free q = None
held_if _ q = Some q

abbrev pub IsAt : Host → PeerRef → Peering → Type 0
IsAt h name q = named h.slots name ≡ held_if q.state q

-- a list of calls: the peer of a name is where one peer alone would be after what fell to its slot, and a name that is spent means
-- nobody again
pub record IsIsolated (cs : List Call) (series : Series cs) (name : PeerRef) (p : Peering) : Type 0 where
  pub deeds : List Deed
  pub fell : FellAll name cs series deeds
  pub after : Peering
  pub alone : AllAlone deeds p after
  pub is : IsAt series.after name after

abbrev pub AreIsolated : Host → Type 0
AreIsolated old = (cs : List Call) (new : Host) (steps : Steps cs old new) (name : PeerRef) (p : Peering) → named old.slots name ≡ Some p
    → IsIsolated cs (record { before = old; after = new; steps = steps }) name p

-- so it is on each host that keeps what every host keeps
abbrev pub Isolation : Type 0
Isolation = (h : Host) → Keeps h → AreIsolated h

-- a host keeps that from its opening on, whatever is called
pub record EachKeeps : Type 0 where
  pub opened : (c : Config) → is_in_range c ≡ true → Keeps (opening.opened c)
  pub joined : (c : Config) (address : Addr) → is_in_range c ≡ true → Keeps (opening.joined c address)
  pub call : (c : Call) (old new : Host) → Acts c old new → Keeps old → Keeps new
