-- Why a line of a script was not run.
use Rattle.std.specs.Prelude.{◌≡◌, ℕ, Bool, false, ⊤}
use Rattle.enet_lab.specs.declared.fault.LabFault.{LabFault}
use Rattle.enet_lab.specs.declared.fault.LabFault.TheVariants as faults

-- Why a line wasn't run: memory, or it has this number and can't be read.
abbrev pub IsRefused : ℕ → Bool → LabFault → Type 0
IsRefused number readable faults.Memory = ⊤
IsRefused number readable (faults.BadScript line) = (line ≡ number) × (readable ≡ false)
IsRefused number readable faults.Io = ⊥
