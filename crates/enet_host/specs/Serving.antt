-- A host puts out a datagram.
use Rattle.std.specs.Prelude.{◌≡◌, ℕ, ◌<◌, Option, Some, None, List, length, slice_get}
use Rattle.enet_codec.specs.declared.address.Addr.{Addr}
use Rattle.enet_codec.specs.declared.event.PeerRef.{PeerRef}
use Rattle.enet_slot.specs.Slot.{SlotState, name_of}
use Rattle.enet_slot.specs.Emitting.{PeerEmits, Passes}
use Rattle.enet_host.specs.declared.totals.Totals.{Totals}
use Rattle.enet_host.specs.Crediting.{with_went}
use Rattle.enet_host.specs.Host.{Host}
use Rattle.enet_host.specs.Turns.{turn_of, slot_after}
use Rattle.enet_host.specs.Receiving.{added}

-- a datagram that was put out: whose it is, where it goes, its length, and the buffer that it begins
pub record Served : Type 0 where
  pub name : PeerRef
  pub address : Addr
  pub len : ℕ
  pub buf : List ℕ

abbrev pub served_of : PeerRef × Addr × ℕ → List ℕ → Served
served_of gave buf = record { name = gave.0; address = gave.1; len = gave.2; buf = buf }

-- a call of `service` that put a datagram out: when, in milliseconds, how many slots come before one in turn, and the datagram
pub record ServiceCall : Type 0 where
  pub now : ℕ
  pub turn : ℕ → ℕ
  pub gave : Served

-- what became of slot i: those before the slot that gave the datagram were asked in vain, those after it are as they were
pub record InTurn (asked : ServiceCall) (i : ℕ) (s t : SlotState) : Type 0 where
  pub before : asked.turn i < asked.turn asked.gave.name.slot → Passes asked.now s t
  pub here : i ≡ asked.gave.name.slot → PeerEmits asked.now asked.gave.len asked.gave.buf s t
  pub after : asked.turn asked.gave.name.slot < asked.turn i → t ≡ s

-- the first slot in turn that has something to put out gave a datagram, and is named as it was before
pub record EmitsInTurn (now from : ℕ) (old : List SlotState) (gave : Served) (new : List SlotState) : Type 0 where
  pub slot : SlotState
  pub there : slice_get old gave.name.slot ≡ Some slot
  pub named : gave.name ≡ name_of gave.name.slot slot
  pub addressed : gave.address ≡ slot.address
  pub slots : (i : ℕ) (s t : SlotState) → slice_get old i ≡ Some s → slice_get new i ≡ Some t
      → InTurn (record { now = now; turn = turn_of (length old) from; gave = gave }) i s t
  pub count : length new ≡ length old

-- each slot was asked in vain
pub record AllPass (now : ℕ) (old new : List SlotState) : Type 0 where
  pub slots : (i : ℕ) (s t : SlotState) → slice_get old i ≡ Some s → slice_get new i ≡ Some t → Passes now s t
  pub count : length new ≡ length old

abbrev pub with_datagram_out : Totals → ℕ → Totals
with_datagram_out t len = record t { datagrams_out = added t.datagrams_out 1; bytes_out = added t.bytes_out len }

-- what a call of service gives and leaves
abbrev pub Serves : Host → Option (PeerRef × Addr × ℕ) → List ℕ → Host → Type 0
Serves old None buf new = AllPass old.clock old.slots new.slots × (new ≡ record old { slots = new.slots })
Serves old (Some gave) buf new =
    EmitsInTurn old.clock old.service_from old.slots (served_of gave buf) new.slots
    × (new ≡ record old {
      slots = new.slots;
      service_from = slot_after (length old.slots) gave.0.slot;
      totals = with_datagram_out old.totals gave.2;
      credits = with_went old.credits gave.0.slot gave.2;
    })
