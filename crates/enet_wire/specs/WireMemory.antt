-- A wire in memory.
use Rattle.std.specs.Prelude.{◌≡◌, ℕ, ◌+◌, if◌then◌else◌, List, [], ◌∷◌, take, Option, Some, None}
use Rattle.enet_codec.specs.declared.address.Addr.{Addr}
use Rattle.enet_wire.specs.Journals.{is_answerable}
use Rattle.enet_wire.specs.declared.told.Told.{Told}
use Rattle.enet_wire.specs.declared.told.Step.{Step}
use Rattle.enet_wire.specs.declared.told.Step.TheVariants.{Datagram, Lose, Block, Wait, Fault}
use Rattle.enet_wire.specs.declared.wire.SendOutcome.{SendOutcome}
use Rattle.enet_wire.specs.declared.wire.SendOutcome.TheVariants as outcome

-- what it is still to do, what it told, how often it failed, and how often of these for want of memory
pub record Memory : Type 0 where
  pub script : List Step
  pub told : List Told
  pub faults : ℕ
  pub starved : ℕ

abbrev pub fresh : List Step → Memory
fresh script = record { script = script; told = []; faults = 0; starved = 0 }

-- a datagram as far as 4,096 bytes hold it; one from port 0 is passed over
abbrev pub given_from : Addr → List ℕ → Option (Addr × List ℕ)
given_from from bytes = if is_answerable from.port then Some (from, take 4096 bytes) else None

-- the datagram in front, and the script after it
abbrev pub NextIs : List Step → Option (Addr × List ℕ) → List Step → Type 0
NextIs (Datagram from bytes ∷ rest) given after = (given ≡ given_from from bytes) × (after ≡ rest)
NextIs (Fault ∷ rest) given after = ⊥
NextIs script given after = (given ≡ None) × (after ≡ script)

-- what recv gives of a buffer
abbrev pub given_of : Option (Addr × ℕ) → List ℕ → Option (Addr × List ℕ)
given_of None buf = None
given_of (Some d) buf = Some (d.0, take d.1 buf)

-- what becomes of a datagram that is sent
abbrev pub Takes : List Step → SendOutcome → List Step → Type 0
Takes (Lose ∷ rest) became after = (became ≡ outcome.Lost) × (after ≡ rest)
Takes (Block ∷ rest) became after = (became ≡ outcome.Blocked) × (after ≡ rest)
Takes (Fault ∷ rest) became after = ⊥
Takes script became after = (became ≡ outcome.Sent) × (after ≡ script)

-- the milliseconds of a wait
abbrev pub Waits : List Step → ℕ → List Step → Type 0
Waits (Wait n ∷ rest) ms after = (ms ≡ n) × (after ≡ rest)
Waits (Fault ∷ rest) ms after = ⊥
Waits script ms after = (ms ≡ 0) × (after ≡ script)

-- a call fails where the script has a fault in front, which goes; else for want of memory alone, which is counted
abbrev pub FailsBy : List Step → Memory → Memory → Type 0
FailsBy (Fault ∷ rest) old new = (new.script ≡ rest) × (new.starved ≡ old.starved)
FailsBy script old new = (new.script ≡ script) × (new.starved ≡ old.starved + 1)

abbrev pub Fails : Memory → Memory → Type 0
Fails old new = FailsBy old.script old new
