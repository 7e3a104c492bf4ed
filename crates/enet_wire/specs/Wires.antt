-- What a wire tells of its calls.
use Rattle.std.specs.Prelude.{ℕ, ◌+◌, ◌==◌, if◌then◌else◌, Bool, List, [], ◌∷◌, ◌++◌, take, Option, Some, None, Result, Ok, Err}
use Rattle.enet_codec.specs.declared.address.Addr.{Addr}
use Rattle.enet_codec.specs.declared.refusal.Refusal.{Refusal}
use Rattle.enet_wire.specs.declared.told.Told.{Told}
use Rattle.enet_wire.specs.declared.told.Told.TheVariants.{Came, NothingCame, Went, Lost, Blocked, Waited}
use Rattle.enet_wire.specs.declared.wire.SendOutcome.{SendOutcome}
use Rattle.enet_wire.specs.declared.wire.SendOutcome.TheVariants as outcome

-- so many faults and no more are counted; a wire that failed so often is spent
abbrev pub last_fault : ℕ
last_fault = 18446744073709551615

abbrev pub is_spent : ℕ → Bool
is_spent faults = faults == last_fault

-- a spent wire says nothing
abbrev pub unless_spent : ℕ → List Told → List Told
unless_spent faults told = if is_spent faults then [] else told

-- what is told goes on, for a wire that tells
abbrev pub also : Option (List Told) → List Told → Option (List Told)
also None more = None
also (Some told) more = Some (told ++ more)

-- a call of recv that left these bytes in the buffer
abbrev pub came : Result (Option (Addr × ℕ)) Refusal → List ℕ → List Told
came (Ok None) buf = NothingCame ∷ []
came (Ok (Some d)) buf = Came d.0 (take d.1 buf) ∷ []
came (Err why) buf = []

-- a call of send
abbrev pub went : Addr → List ℕ → Result SendOutcome Refusal → List Told
went to bytes (Ok outcome.Sent) = Went to bytes ∷ []
went to bytes (Ok outcome.Lost) = Lost to bytes ∷ []
went to bytes (Ok outcome.Blocked) = Blocked to bytes ∷ []
went to bytes (Err why) = []

-- a call of wait
abbrev pub waited : Result ℕ Refusal → List Told
waited (Ok ms) = Waited ms ∷ []
waited (Err why) = []

-- how often the wire has failed, after a call
abbrev pub faults_after : {A : Type 0} → ℕ → Result A Refusal → ℕ
faults_after faults (Ok x) = faults
faults_after faults (Err why) = faults + 1
