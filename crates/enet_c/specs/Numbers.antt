-- The numbers that stand for refusals at the border: those of their names.
use Rattle.std.specs.Prelude.{◌≡◌, ℕ, ◌<◌, ◌≤◌, ◌++◌, List, Result, Ok, Err, length, drop}
use Rattle.enet_codec.specs.declared.refusal.Refusal.{Refusal}
use Rattle.enet_codec.specs.declared.refusal.Refusal.TheVariants.{Memory, NoSuchPeer, NotConnected, NoSuchChannel, TooLarge, WindowEnd, NoSlot, BadConfig, Full, SeatSpent, Late, Earlier, NoSuchDatagram, WireFault, BadScript, StillHeld, NoSuchHost}

abbrev pub number_of : Refusal → ℕ
number_of Memory = 1
number_of NoSuchPeer = 2
number_of NotConnected = 3
number_of NoSuchChannel = 4
number_of TooLarge = 5
number_of WindowEnd = 6
number_of NoSlot = 7
number_of BadConfig = 8
number_of Full = 9
number_of SeatSpent = 10
number_of Late = 11
number_of Earlier = 12
number_of NoSuchDatagram = 13
number_of WireFault = 14
number_of (BadScript line) = 15
number_of StillHeld = 16
number_of NoSuchHost = 17

-- 0 for what was done, else the number of the refusal
abbrev pub answered_by : {S : Type 0} → Result S Refusal → ℕ
answered_by (Ok new) = 0
answered_by (Err why) = number_of why

-- a name is written to the front of a buffer where it fits; the answer is its length, or 0
abbrev pub IsWritten : List ℕ → List ℕ → ℕ → List ℕ → Type 0
IsWritten label old count new = (count ≡ length label) × (new ≡ label ++ drop (length label) old)

pub data Writes (label old : List ℕ) : ℕ → List ℕ → Type 0 where
  short : length old < length label → Writes label old 0 old
  fits : (count : ℕ) (new : List ℕ) → length label ≤ length old → IsWritten label old count new → Writes label old count new

-- the label of one that is meant is written; nothing is, where none is meant
pub data Names {W : Type 0} (IsMeant : W → Type 0) (label : W → List ℕ) (old : List ℕ) : ℕ → List ℕ → Type 0 where
  unknown : ((w : W) → IsMeant w → ⊥) → Names IsMeant label old 0 old
  known : (w : W) (count : ℕ) (new : List ℕ) → IsMeant w → Writes (label w) old count new → Names IsMeant label old count new
