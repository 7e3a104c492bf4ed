-- The first place of which the earliest moment is noted.
use Rattle.std.proofs.Common.{◌≡◌, ℕ, ◌+◌, ◌-◌, ◌^◌, ◌<◌, ◌≤◌, Option, Some, None, List, length, get_or, sym, ◌∙◌, arith}
use Rattle.std.specs.Option.{IfSome, IfNone}
use Rattle.enet_deadlines.specs.Moments.{IsAt, IsLeast, IsNextDue}
use Rattle.enet_sleepers.specs.Private.Unproved.{IsFirstNoted, IsNear}

-- the earliest moment
abbrev pub IsFirst : List (Option ℕ) → ℕ → Type 0
IsFirst since first = ((i : ℕ) × IsAt since i first) × ((i m : ℕ) → IsAt since i m → first ≤ m)

pub first-noted : (since : List (Option ℕ)) (first : ℕ) (place : Option ℕ) → IsFirst since first → IsNextDue 0 first since place → IfSome place (λ (i : ℕ). IsFirstNoted since i)
first-noted since first None l d = tt
first-noted since first (Some i) l d =
    let due : (moment : ℕ) × (IsAt since i moment × (moment ≤ first)) = d.2 in
    let early : due.0 ≤ first = due.1.1 in
    record {
      within = d.1;
      moment = due.0;
      at = due.1.0;
      least = λ j m at. (let h : first ≤ m = l.1 j m at in omega (arith, h, early));
      first = λ j m low at. (let h : first < m = d.3 j (omega arith) low m at in omega (arith, h, early));
    }

pub none-first : (since : List (Option ℕ)) (first : ℕ) (place : Option ℕ) → IsFirst since first → IsNextDue 0 first since place → IfNone place ((i : ℕ) → get_or since i None ≡ None)
none-first since first None l d = absurd (let h : first < first = d l.0.0 (omega arith) first l.0.1 in omega (arith, h))
none-first since first (Some i) l d = tt

-- what is noted is near where nothing is, or the earliest moment is near
pub near-none : (clock : ℕ) (since : List (Option ℕ)) → clock < 2 ^ 62 → ((i : ℕ) → get_or since i None ≡ None) → IsNear clock since
near-none clock since early none = record { early = early; all = λ i m at. absurd (let x : ◌≡◌ {A = Option ℕ} None (Some m) = sym (none i) ∙ at in cc) }

pub near-first : (clock first : ℕ) (since : List (Option ℕ)) → clock < 2 ^ 62 → IsFirst since first → clock - first < 2 ^ 32 → IsNear clock since
near-first clock first since early l near = record { early = early; all = λ i m at. (let h : first ≤ m = l.1 i m at in omega (arith, h, near)) }
