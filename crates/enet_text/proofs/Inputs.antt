-- What is told of an input stays written, and what was told of its bytes is told of what the reader had.
use Rattle.std.proofs.Common.{◌≡◌, ℕ, List, [], ◌++◌, Option, Some, None, Result, Ok, Err, IfSome, IfErr, false, refl, ap, ◌∙◌, subst}
use Rattle.std.specs.Prelude.{is_some}
use Rattle.std.proofs.KnownBytes.{Appends-kept}
use Rattle.std.specs.Io.KnownBytes.{Keeps}
use Rattle.enet_text.specs.declared.body.Bodies.{Bodies}
use Rattle.enet_text.specs.declared.fault.InspectFault.{InspectFault}
use Rattle.enet_text.specs.declared.fault.InspectFault.TheVariants as faults
use Rattle.enet_text.specs.Inspected.{Wrote}
use Rattle.enet_text.specs.Captures.{IsToldInPart, IsToldToLine, IsToldToPacket}

-- what was written stays so
pub kept : (P : List ℕ → List ℕ → Type 0) (o a b c : Option (List ℕ)) → IfSome o (λ input. Wrote a b (P input)) → Keeps b c → IfSome o (λ input. Wrote a c (P input))
kept P None a b c h k = tt
kept P (Some input) a b c h k = (h.0, Appends-kept a b c h.0 h.1 k, h.2)

pub still_line : {T : Type 0} (bodies : Bodies) (r : Result T InspectFault) (o a b c : Option (List ℕ))
    → IfErr r (λ fault. (number : ℕ) → fault ≡ faults.BadLine number → IfSome o (λ input. Wrote a b (λ text. IsToldToLine bodies input text number))) → Keeps b c
    → IfErr r (λ fault. (number : ℕ) → fault ≡ faults.BadLine number → IfSome o (λ input. Wrote a c (λ text. IsToldToLine bodies input text number)))
still_line bodies (Ok x) o a b c h k = tt
still_line bodies (Err fault) o a b c h k = λ number is. kept (λ input text. IsToldToLine bodies input text number) o a b c (h number is) k

pub still_packet : {T : Type 0} (bodies : Bodies) (r : Result T InspectFault) (o a b c : Option (List ℕ))
    → IfErr r (λ fault. (number : ℕ) → fault ≡ faults.CutShort number → IfSome o (λ input. Wrote a b (λ text. IsToldToPacket bodies input text number))) → Keeps b c
    → IfErr r (λ fault. (number : ℕ) → fault ≡ faults.CutShort number → IfSome o (λ input. Wrote a c (λ text. IsToldToPacket bodies input text number)))
still_packet bodies (Ok x) o a b c h k = tt
still_packet bodies (Err fault) o a b c h k = λ number is. kept (λ input text. IsToldToPacket bodies input text number) o a b c (h number is) k

pub still_short : {T : Type 0} (bodies : Bodies) (r : Result T InspectFault) (o a b c : Option (List ℕ))
    → IfErr r (λ fault. fault ≡ faults.Memory → IfSome o (λ input. Wrote a b (IsToldInPart bodies input))) → Keeps b c
    → IfErr r (λ fault. fault ≡ faults.Memory → IfSome o (λ input. Wrote a c (IsToldInPart bodies input)))
still_short bodies (Ok x) o a b c h k = tt
still_short bodies (Err fault) o a b c h k = λ is. kept (IsToldInPart bodies) o a b c (h is) k

-- the bytes that were read are those that the reader had
of_reader : (P : List ℕ → Type 0) (o : Option (List ℕ)) (bytes : List ℕ) → IfSome o (λ input. bytes ≡ input) → P bytes → IfSome o P
of_reader P None bytes is h = tt
of_reader P (Some input) bytes is h = subst P is h

pub read_packet : {T : Type 0} (bodies : Bodies) (r : Result T InspectFault) (o a b : Option (List ℕ)) (bytes : List ℕ) → IfSome o (λ input. bytes ≡ input)
    → IfErr r (λ fault. (number : ℕ) → fault ≡ faults.CutShort number → Wrote a b (λ text. IsToldToPacket bodies bytes text number))
    → IfErr r (λ fault. (number : ℕ) → fault ≡ faults.CutShort number → IfSome o (λ input. Wrote a b (λ text. IsToldToPacket bodies input text number)))
read_packet bodies (Ok x) o a b bytes is h = tt
read_packet bodies (Err fault) o a b bytes is h = λ number same. of_reader (λ input. Wrote a b (λ text. IsToldToPacket bodies input text number)) o bytes is (h number same)

pub same_bytes : (o : Option (List ℕ)) (items old slice : List ℕ) → IfSome o (λ xs. items ≡ old ++ xs) → old ≡ [] → slice ≡ items → IfSome o (λ xs. slice ≡ xs)
same_bytes None items old slice read none is = tt
same_bytes (Some xs) items old slice read none is = is ∙ read ∙ ap (λ l. l ++ xs) none

pub not_some : {A : Type 0} (o : Option A) → is_some o ≡ false → o ≡ None
not_some None h = refl
not_some (Some x) h = absurd (cc)
