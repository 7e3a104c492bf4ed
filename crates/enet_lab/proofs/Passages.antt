-- A script that is read bit by bit, and what was written by then.
use Rattle.std.proofs.Common.{◌≡◌, ℕ, ◌+◌, min, false, List, [], ◌++◌, Option, Some, None, Result, Ok, Err, IfSome, IfErr, OnOk, IsNone, refl, sym, ap, ◌∙◌, subst, append-nil}
use Rattle.std.proofs.KnownBytes.{Appends-kept, Appends-trans, Consumes-trans, Consumes-whole}
use Rattle.std.specs.Io.KnownBytes.{Appends, Consumes, IsAtEnd, Keeps}
use Rattle.enet_lab.specs.declared.fault.LabFault.{LabFault}
use Rattle.enet_lab.specs.declared.fault.LabFault.TheVariants.{BadScript, Memory}
use Rattle.enet_lab.specs.declared.stage.Stage.{Stage}
use Rattle.enet_lab.specs.Lines.{RunsLine, can_read}
use Rattle.enet_text.specs.Inspected.{Wrote}
use Rattle.enet_lab.specs.Scripts.{HasRun, IsRun, IsPart, IsStopped, written_for}
use Rattle.enet_lab.specs.Private.Scripts.{given}
use Rattle.enet_lab.proofs.Running.{partly, stopped}

-- a read that gave nothing: the reader is at its end
pub at_end : (read : Option ℕ) (buf : List ℕ) (a b c : Option (List ℕ)) (seen : List ℕ) → ((len : ℕ) → read ≡ Some len → ⊥) → Consumes a b seen
    → Consumes b c (given read buf) → (IsNone read → IsAtEnd c) → Consumes a c seen × IsAtEnd c
at_end None buf a b c seen not front back end = (subst (Consumes a c) (append-nil seen) (Consumes-trans a b c seen [] front back), end refl)
at_end (Some len) buf a b c seen not front back end = absurd (not len refl)

-- the last line is run
pub whole : {T E : Type 0} (r : Result T E) (old left wrote_old wrote_by wrote_new : Option (List ℕ)) (seen before : List ℕ) (stage new : Stage) (count : ℕ) (last : List ℕ)
    → Consumes old left seen × IsAtEnd left → Appends wrote_old wrote_by before → HasRun seen before stage count last
    → OnOk r (Wrote wrote_by wrote_new (λ wrote. (text : Option (List ℕ)) × RunsLine stage last text new × (wrote ≡ written_for text)))
    → OnOk r (IfSome old (λ script. Wrote wrote_old wrote_new (IsRun script)))
whole (Err fault) old left wrote_old wrote_by wrote_new seen before stage new count last read a h ran = tt
whole (Ok x) old left wrote_old wrote_by wrote_new seen before stage new count last read a h ran =
    Consumes-whole old left seen (λ script. Wrote wrote_old wrote_new (IsRun script)) read.0 read.1 (
      before ++ ran.0,
      Appends-trans wrote_old wrote_by wrote_new before ran.0 a ran.1,
      record {
        before = before;
        stage = stage;
        count = count;
        last = last;
        so_far = h;
        text = ran.2.0;
        new = new;
        runs = ran.2.1;
        wrote_is = ap (λ l. before ++ l) ran.2.2;
      },
    )

-- what is so of the whole script, and of what was written before its last line
at_last : (P : List ℕ → List ℕ → Type 0) (old left wrote_old wrote_by wrote_new : Option (List ℕ)) (seen before : List ℕ)
    → Consumes old left seen × IsAtEnd left → Appends wrote_old wrote_by before → Keeps wrote_by wrote_new → P (seen ++ []) before
    → IfSome old (λ script. Wrote wrote_old wrote_new (P script))
at_last P old left wrote_old wrote_by wrote_new seen before read a kept h =
    Consumes-whole old left seen (λ script. Wrote wrote_old wrote_new (P script)) read.0 read.1
    (before, Appends-kept wrote_old wrote_by wrote_new before a kept, subst (λ l. P l before) (append-nil seen) h)

-- the last line can't be read
pub last_stopped : {T : Type 0} (r : Result T LabFault) (old left wrote_old wrote_by wrote_new : Option (List ℕ)) (seen before : List ℕ) (stage : Stage) (count lines : ℕ) (last : List ℕ)
    → Consumes old left seen × IsAtEnd left → Appends wrote_old wrote_by before → HasRun seen before stage count last → lines ≡ min (count + 1) 4294967295
    → IfErr r (λ fault. (number : ℕ) → fault ≡ BadScript number → (number ≡ lines) × (can_read stage last ≡ false) × Keeps wrote_by wrote_new)
    → IfErr r (λ fault. (number : ℕ) → fault ≡ BadScript number → IfSome old (λ script. Wrote wrote_old wrote_new (λ wrote. IsStopped script wrote number)))
last_stopped (Ok x) old left wrote_old wrote_by wrote_new seen before stage count lines last read a h counts bad = tt
last_stopped (Err fault) old left wrote_old wrote_by wrote_new seen before stage count lines last read a h counts bad = λ number is.
    let said = bad number is in
    at_last (λ script wrote. IsStopped script wrote number) old left wrote_old wrote_by wrote_new seen before read a said.2
    (stopped seen before stage count last [] number h said.1 (said.0 ∙ counts) tt)

-- there is no memory for the last line
pub last_short : {T : Type 0} (r : Result T LabFault) (old left wrote_old wrote_by wrote_new : Option (List ℕ)) (seen before : List ℕ) (stage : Stage) (count : ℕ) (last : List ℕ)
    → Consumes old left seen × IsAtEnd left → Appends wrote_old wrote_by before → HasRun seen before stage count last
    → IfErr r (λ fault. fault ≡ Memory → Keeps wrote_by wrote_new)
    → IfErr r (λ fault. fault ≡ Memory → IfSome old (λ script. Wrote wrote_old wrote_new (IsPart script)))
last_short (Ok x) old left wrote_old wrote_by wrote_new seen before stage count last read a h kept = tt
last_short (Err fault) old left wrote_old wrote_by wrote_new seen before stage count last read a h kept = λ is.
    at_last IsPart old left wrote_old wrote_by wrote_new seen before read a (kept is) (partly seen before stage count last [] h)

-- a line within the bytes of a read can't be read or has no memory, whatever comes behind them
pub within : (P : List ℕ → List ℕ → Type 0) (old left now wrote_old wrote_by wrote_new : Option (List ℕ)) (seen bytes before : List ℕ) (stage : Stage) (count : ℕ) (begun : List ℕ)
    → Consumes old left seen → Consumes left now bytes → Appends wrote_old wrote_by before → HasRun seen before stage count begun
    → Wrote wrote_by wrote_new (λ more. (seen wrote later : List ℕ) → HasRun seen wrote stage count begun → P ((seen ++ bytes) ++ later) (wrote ++ more))
    → IfSome old (λ script. Wrote wrote_old wrote_new (P script))
within P None left now wrote_old wrote_by wrote_new seen bytes before stage count begun front back a h said = tt
within P (Some script) left None wrote_old wrote_by wrote_new seen bytes before stage count begun front back a h said =
    absurd (Consumes-trans (Some script) left None seen bytes front back)
within P (Some script) left (Some later) wrote_old wrote_by wrote_new seen bytes before stage count begun front back a h said = (
  before ++ said.0,
  Appends-trans wrote_old wrote_by wrote_new before said.0 a said.1,
  subst (λ l. P l (before ++ said.0)) (sym (Consumes-trans (Some script) left (Some later) seen bytes front back)) (said.2 seen before later h),
)
