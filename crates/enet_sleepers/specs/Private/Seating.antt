-- What is noted of slots changes, and is looked for.
use Rattle.std.specs.Prelude.{◌≡◌, ◌≢◌, ℕ, ◌<◌, ◌≤◌, Bool, true, false, List, length, get_or}
use Rattle.enet_codec.specs.declared.address.Addr.{Addr}
use Rattle.enet_deadlines.specs.Sets.{IsIn}
use Rattle.enet_slot.specs.Giving.{unused_slot}
use Rattle.enet_slot.specs.Receiving.{is_connection}
use Rattle.enet_slot.specs.Slot.{SlotState}
use Rattle.enet_sleepers.specs.Seating.{Seating, IsInRow}

-- slot n left its cell, and the others are where they were
pub record Leaves (v : Seating) (n : ℕ) (w : Seating) : Type 0 where
  pub key : w.key ≡ v.key
  pub count : length w.others ≡ length v.others
  pub size : length w.cells ≡ length v.cells
  pub rows : w.rows ≡ v.rows
  pub others : (i : ℕ) → i ≢ n → IsIn v.others i → IsIn w.others i
  pub cells : (k i : ℕ) → i < length v.others → i ≢ n → get_or v.cells k 65535 ≡ i → get_or w.cells k 65535 ≡ i

-- slot n came to the row of an IP address, and the others are where they were
pub record Moves (v : Seating) (n ip : ℕ) (w : Seating) : Type 0 where
  pub key : w.key ≡ v.key
  pub cells : w.cells ≡ v.cells
  pub set : w.others ≡ v.others
  pub here : IsInRow w n ip
  pub others : (i other : ℕ) → i < length v.others → i ≢ n → IsInRow v i other → IsInRow w i other

-- this slot holds the connection of an offer
abbrev pub KnownAt : Addr → ℕ → List SlotState → ℕ → Type 0
KnownAt from word slots i = (i < length slots) × (is_connection from word (get_or slots i unused_slot) ≡ true)

-- none of those in these cells does
abbrev pub KnownInNone : Addr → ℕ → List SlotState → List ℕ → ℕ → ℕ → Type 0
KnownInNone from word slots cells first end = (k : ℕ) → first ≤ k → k < end → is_connection from word (get_or slots (get_or cells k 65535) unused_slot) ≡ false

-- none of a set does
abbrev pub KnownNowhere : Addr → ℕ → List SlotState → List Bool → Type 0
KnownNowhere from word slots set = (i : ℕ) → IsIn set i → is_connection from word (get_or slots i unused_slot) ≡ false
