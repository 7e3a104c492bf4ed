-- How a script begins, what a fault says, and bytes that stay written.
use Rattle.std.proofs.Common.{◌≡◌, ℕ, List, Option, Result, Ok, Err, IfSome, IfErr, IsErrAnd, sym, subst}
use Rattle.std.specs.Io.KnownBytes.{Keeps}
use Rattle.enet_text.proofs.Inputs.{kept}
use Rattle.enet_lab.specs.declared.fault.LabFault.{LabFault}
use Rattle.enet_lab.specs.declared.fault.LabFault.TheVariants as faults
use Rattle.enet_text.specs.Inspected.{Wrote}
use Rattle.enet_lab.specs.Scripts.{IsPart, IsStopped}

pub still_stopped : {T : Type 0} (r : Result T LabFault) (o a b c : Option (List ℕ))
    → IfErr r (λ fault. (number : ℕ) → fault ≡ faults.BadScript number → IfSome o (λ script. Wrote a b (λ wrote. IsStopped script wrote number))) → Keeps b c
    → IfErr r (λ fault. (number : ℕ) → fault ≡ faults.BadScript number → IfSome o (λ script. Wrote a c (λ wrote. IsStopped script wrote number)))
still_stopped (Ok x) o a b c h k = tt
still_stopped (Err fault) o a b c h k = λ number is. kept (λ script wrote. IsStopped script wrote number) o a b c (h number is) k

pub still_short : {T : Type 0} (r : Result T LabFault) (o a b c : Option (List ℕ))
    → IfErr r (λ fault. fault ≡ faults.Memory → IfSome o (λ script. Wrote a b (IsPart script))) → Keeps b c
    → IfErr r (λ fault. fault ≡ faults.Memory → IfSome o (λ script. Wrote a c (IsPart script)))
still_short (Ok x) o a b c h k = tt
still_short (Err fault) o a b c h k = λ is. kept IsPart o a b c (h is) k

-- what is said of a fault is said of the one that is handed on
pub through : {T : Type 0} (r : Result T LabFault) (fault : LabFault) (P : LabFault → Type 0) → IsErrAnd r (λ e. e ≡ fault) → P fault → IfErr r P
through (Ok x) fault P is h = tt
through (Err e) fault P is h = subst P (sym is) h

-- what is so anyway is so of a fault
pub of_any : {T : Type 0} (r : Result T LabFault) {P : Type 0} → P → IfErr r (λ fault. fault ≡ faults.Memory → P)
of_any (Ok x) h = tt
of_any (Err e) h = λ is. h
