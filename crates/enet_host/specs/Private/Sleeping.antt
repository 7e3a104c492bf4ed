-- Turns of slots that sleep.
use Rattle.std.specs.Prelude.{◌≡◌, ℕ, ◌<◌, ◌≤◌, Bool, List}
use Rattle.enet_deadlines.specs.Sets.{IsIn, IsOut}
use Rattle.enet_host.specs.Turns.{turn_of}

-- the slots whose turn is one of these, the last excepted, sleep
abbrev pub PassesTurns : List Bool → ℕ → ℕ → ℕ → ℕ → Type 0
PassesTurns awake peers from first last = (i : ℕ) → i < peers → first ≤ turn_of peers from i → turn_of peers from i < last → IsOut awake i

-- the slot of this turn, if there is one, is awake
abbrev pub AwakeAt : List Bool → ℕ → ℕ → ℕ → Type 0
AwakeAt awake peers from turn = (i : ℕ) → i < peers → turn_of peers from i ≡ turn → IsIn awake i
