-- Whom a host lets in is set.
use Rattle.std.proofs.Common.{◌≡◌, ℕ, Bool, Result, Ok, Err, sym, ap, subst, ◌∙◌}
use Rattle.enet_codec.specs.declared.config.Admission.{Admission}
use Rattle.enet_codec.specs.declared.refusal.Refusal.{Refusal}
use Rattle.enet_host.specs.Calls.{Admits}
use Rattle.enet_host.specs.Host.{Host}
use Rattle.enet_c.specs.declared.held.Held.{Held}
use Rattle.enet_c.specs.Numbers.{answered_by, number_of}
use Rattle.enet_c.specs.Border.{AdmitsIf, SetsAdmission}

pub sets-admission : (what : Admission) (r : Result (Unit {0}) Refusal) (before : Held) (host : Host) (number : ℕ) → Admits what r before.host host → number ≡ answered_by r
    → SetsAdmission what (record { before = before; number = number; after = record before { host = host } })
sets-admission what (Ok done) before host number admits is =
    subst (λ (b : Bool). AdmitsIf b what (record { before = before; number = number; after = record before { host = host } })) (sym admits.0)
    (is, ap (λ (h : Host). record before { host = h }) admits.1)
sets-admission what (Err why) before host number admits is =
    subst (λ (b : Bool). AdmitsIf b what (record { before = before; number = number; after = record before { host = host } })) (sym admits.0)
    (is ∙ ap number_of admits.1, ap (λ (h : Host). record before { host = h }) admits.2)
