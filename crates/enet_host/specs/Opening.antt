-- How a host begins, and which of its slots is given out.
use Rattle.std.specs.Prelude.{◌≡◌, ◌≢◌, ℕ, Bool, nat_le, true, false, if◌then◌else◌, Option, Some, None, Result, Ok, Err, List, slice_get, slice_set, replicate}
use Rattle.std.specs.List.{position}
use Rattle.enet_codec.specs.declared.address.Addr.{Addr}
use Rattle.enet_codec.specs.declared.config.Config.{Config}
use Rattle.enet_codec.specs.declared.event.PeerRef.{PeerRef}
use Rattle.enet_codec.specs.declared.refusal.Refusal.{Refusal}
use Rattle.enet_codec.specs.declared.refusal.Refusal.TheVariants.{Memory, NoSlot, BadConfig}
use Rattle.enet_codec.specs.Config.{is_in_range}
use Rattle.enet_slot.specs.declared.giving.Question.{Question}
use Rattle.enet_slot.specs.Slot.{SlotState, name_of}
use Rattle.enet_slot.specs.Yielding.{guests_of, oldest, oldest_of, yields_to}
use Rattle.enet_slot.specs.Giving.{unused_slot, joined_slots, is_available, Basis, asking}
use Rattle.enet_host.specs.declared.totals.Totals.{Totals}
use Rattle.enet_host.specs.Crediting.{no_credit}
use Rattle.enet_host.specs.Host.{Host}

abbrev pub no_totals : Totals
no_totals = record { datagrams_in = 0; bytes_in = 0; datagrams_out = 0; bytes_out = 0 }

-- a host with free slots alone
abbrev pub opened : Config → Host
opened c = record {
  config = c;
  clock = c.clock;
  shared_at = c.clock;
  service_from = 0;
  event_from = 0;
  totals = no_totals;
  slots = replicate c.peers unused_slot;
  credits = replicate c.peers no_credit;
  send_limit = None;
}

-- a host whose slot 0 is connected from the start to this address
abbrev pub joined : Config → Addr → Host
joined c address = record (opened c) { slots = joined_slots c address }

abbrev pub host_basis : Host → Basis
host_basis h = record { config = h.config; clock = h.clock }

-- what a call that makes a host answers: E8 exactly where a number is out of its range, and else the host, or E1
abbrev pub Opens : Config → Result Host Refusal → Host → Type 0
Opens c (Ok h) fresh = (is_in_range c ≡ true) × (h ≡ fresh)
Opens c (Err Memory) fresh = is_in_range c ≡ true
Opens c (Err why) fresh = (is_in_range c ≡ false) × (why ≡ BadConfig)

abbrev pub available : Config → List SlotState → Option ℕ
available c slots = position (is_available c.generations) slots

-- the lowest available slot; where there is none and the host lets peers give way, the one whose peer has been waiting longest for its client
abbrev pub or_oldest : Basis → List SlotState → Option ℕ → Option ℕ
or_oldest basis slots (Some i) = Some i
or_oldest basis slots None = if basis.config.gives_way then oldest basis.clock basis.config.generations slots else None

-- whether as many are there as may be
abbrev pub is_most : Option ℕ → ℕ → Bool
is_most None count = false
is_most (Some most) count = nat_le most count

-- the seat of an offer that comes from an address: where as many peers of that address are there as may be, the slot of the one of them that
-- has been waiting longest for its client
abbrev pub seat : Basis → Addr → List SlotState → Option ℕ
seat basis from slots =
    if is_most basis.config.of_address (guests_of from.ip slots) then oldest_of (yields_to from.ip basis.config.generations) basis.clock slots
    else or_oldest basis slots (available basis.config slots)

-- what a call of connect answers and leaves of the slots: the lowest available slot asks, or the first refusal that applies.
-- Memory may be refused where nothing else is
pub data Connects (basis : Basis) (slots : List SlotState) (question : Question) : Result PeerRef Refusal → List SlotState → Type 0 where
  no_channel : question.channels ≡ 0 → Connects basis slots question (Err BadConfig) slots
  no_slot : question.channels ≢ 0 → available basis.config slots ≡ None → Connects basis slots question (Err NoSlot) slots
  no_memory : (i : ℕ) → question.channels ≢ 0 → available basis.config slots ≡ Some i → Connects basis slots question (Err Memory) slots
  asks : (i : ℕ) (s : SlotState) → question.channels ≢ 0 → available basis.config slots ≡ Some i → slice_get slots i ≡ Some s
      → Connects basis slots question (Ok (name_of i s)) (slice_set slots i (asking basis i s question))
