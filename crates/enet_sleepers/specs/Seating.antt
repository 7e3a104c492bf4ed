-- Where connections may be found.
use Rattle.std.specs.Prelude.{◌≡◌, ◌≢◌, ℕ, ◌+◌, ◌*◌, ◌<◌, ◌≤◌, ◌⊎◌, Bool, true, None, Some, List, length, get_or, slice_get}
use Rattle.enet_codec.specs.declared.address.Addr.{Addr}
use Rattle.enet_deadlines.specs.Sets.{IsIn}
use Rattle.enet_peer.specs.CommandEffect.{is_connecting}
use Rattle.enet_peer.specs.Peering.{Peering}
use Rattle.enet_slot.specs.Slot.{SlotState}
use Rattle.enet_sleepers.specs.declared.key.Key.{Key}
use Rattle.enet_sleepers.specs.Places.{first_cell, row_of}

-- what is noted of the slots of a host
pub record Seating : Type 0 where
  pub key : Key
  pub cells : List ℕ  -- slots; 65535 where there is none
  pub others : List Bool  -- which slots found no cell
  pub rows : List Bool  -- which slots were given to addresses of the first row, of the second, and so on

-- there are few slots, and each row has as many places
pub record HasFew (v : Seating) : Type 0 where
  pub few : length v.others ≤ 65535
  pub rows : length v.rows ≡ length v.others * 256

-- slot i is in one of the eight cells from this one on
pub record IsAmong (cells : List ℕ) (first i : ℕ) : Type 0 where
  pub cell : ℕ
  pub from : first ≤ cell
  pub near : cell < first + 8
  pub here : get_or cells cell 65535 ≡ i

-- it is in a place of this connection, or found none
abbrev pub IsPlaced : Seating → ℕ → Addr → ℕ → Type 0
IsPlaced v i a word = IsIn v.others i ⊎ IsAmong v.cells (first_cell v.key (length v.cells) a word) i

-- it is in the row of this IP address
abbrev pub IsInRow : Seating → ℕ → ℕ → Type 0
IsInRow v i ip = IsIn v.rows (row_of v.key ip * length v.others + i)

-- it is found by this connection, and by its IP address
abbrev pub IsFound : Seating → ℕ → Addr → ℕ → Type 0
IsFound v i a word = IsPlaced v i a word × IsInRow v i a.ip

-- so is the peer at this address in slot i, and while it asks for a connection, that is the one for which it asks
pub record IsSeated (v : Seating) (i : ℕ) (a : Addr) (p : Peering) : Type 0 where
  pub found : IsFound v i a p.terms.connect_id
  pub asked : is_connecting p.state ≡ true → p.offer.connect_id ≡ p.terms.connect_id

-- each peer of a host's slots is found by its connection
pub record KeepsSeats (v : Seating) (slots : List SlotState) : Type 0 where
  pub count : length v.others ≡ length slots
  pub seated : (i : ℕ) (s : SlotState) (p : Peering) → slice_get slots i ≡ Some s → s.peer ≡ Some p → IsSeated v i s.address p

-- the slots hold no peer
abbrev pub HoldNobody : List SlotState → Type 0
HoldNobody slots = (i : ℕ) (s : SlotState) → slice_get slots i ≡ Some s → s.peer ≡ None

-- slot n was given to this connection: it is found by that, and the others as before
pub record Enters (v : Seating) (n : ℕ) (a : Addr) (word : ℕ) (w : Seating) : Type 0 where
  pub count : length w.others ≡ length v.others
  pub here : IsFound w n a word
  pub others : (i : ℕ) (b : Addr) (id : ℕ) → i < length v.others → i ≢ n → IsFound v i b id → IsFound w i b id
