-- A ring loses a vacant place at its front.
use Rattle.std.proofs.Common.{◌≡◌, ℕ, suc, ◌+◌, ◌-◌, ◌<◌, ◌≤◌, List, [], ◌∷◌, length, drop, Option, Some, refl, sym, ap, subst, ◌∙◌, arith}
use Rattle.std.specs.List.{slice_get, slice_set}
use Rattle.std.proofs.lemmas.List.Elements.{All-tail}
use Rattle.enet_seq.specs.Windows.{ahead}
use Rattle.enet_sender.specs.declared.sent.Sent.{Sent}
use Rattle.enet_sender.specs.Pending.{vacant}
use Rattle.enet_sender.specs.Rings.{KeepsSent}
use Rattle.enet_sender.specs.Private.Trims.{Trims}
use Rattle.enet_sender.proofs.Named.{times-other, named-skip}

pub trims-none : (at : ℕ → Option Sent) (keys : List ℕ) (due : ℕ) → Trims at keys due keys due
trims-none at keys due = record { kept = λ passed none h. h; same = λ none. refl; times = λ key low. refl }

kept-rest : (at : ℕ → Option Sent) (passed due : ℕ) (k : ℕ) (keys : List ℕ) → KeepsSent at passed due (k ∷ keys) → KeepsSent at passed (due - 1) keys
kept-rest at passed due k keys h = record {
  few = let f = h.few in omega arith;
  numbered = λ place p e.
      h.numbered (suc place) p e
      ∙ ap (λ n. ahead n passed) (let same : suc (length keys) - (suc place + 1) ≡ length keys - (place + 1) = omega arith in same);
  not_due = λ place from low. h.not_due (suc place) (omega arith) (omega arith);
  fits = All-tail (λ (key : ℕ). key ≤ vacant) k keys h.fits;
}

trims-first : (at : ℕ → Option Sent) (k : ℕ) (keys : List ℕ) (due : ℕ) → k ≡ vacant → Trims at (k ∷ keys) due keys (due - 1)
trims-first at k keys due is = record {
  kept = λ passed none h. kept-rest at passed due k keys h;
  same = λ none. sym (named-skip at k keys (ap at is ∙ none));
  times = λ key low. sym (times-other key k keys (λ same. omega arith));
}

pub trims-then : (at : ℕ → Option Sent) (fs bs cs : List ℕ) (a b c : ℕ) → Trims at fs a bs b → Trims at bs b cs c → Trims at fs a cs c
trims-then at fs bs cs a b c h k = record {
  kept = λ passed none keeps. k.kept passed none (h.kept passed none keeps);
  same = λ none. k.same none ∙ h.same none;
  times = λ key low. k.times key low ∙ h.times key low;
}

pub trims-one : (at : ℕ → Option Sent) (old new : List ℕ) (due later : ℕ) → slice_get old 0 ≡ Some vacant → new ≡ drop 1 old → later ≡ due - 1 → Trims at old due new later
trims-one at [] new due later front rest is = cc
trims-one at (k ∷ keys) new due later front rest is =
    let same : k ≡ vacant = cc in
    rw (rest, is) (trims-first at k keys due same)

front-set : (keys : List ℕ) → 0 < length keys → (slice_get (slice_set keys 0 vacant) 0 ≡ Some vacant) × (drop 1 (slice_set keys 0 vacant) ≡ drop 1 keys)
front-set [] some = absurd (omega arith)
front-set (k ∷ keys) some = (refl, refl)

-- the first place falls vacant, and is taken away
pub trims-front : (at : ℕ → Option Sent) (old new : List ℕ) (due later place : ℕ) → place ≡ 0 → place < length old → new ≡ drop 1 old → later ≡ due - 1
    → Trims at (slice_set old place vacant) due new later
trims-front at old new due later place is inside rest after =
    let front = front-set old (omega arith) in
    subst (λ (i : ℕ). Trims at (slice_set old i vacant) due new later) (sym is) (trims-one at (slice_set old 0 vacant) new due later front.0 (rest ∙ sym front.1) after)
