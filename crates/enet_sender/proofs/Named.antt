-- What keys name, and how often they stand in a ring.
use Rattle.std.proofs.Common.{◌≡◌, ◌≢◌, ℕ, zero, suc, ◌+◌, ◌<◌, ◌≤◌, Bool, cond, eqb, List, [], ◌∷◌, ◌++◌, length, get_or, Option, Some, None, is_some, refl, ap, ◌∙◌, arith, All}
use Rattle.std.specs.List.{cons_option}
use Rattle.std.proofs.lemmas.Bool.{eq-eqb, ne_eqb}
use Rattle.std.proofs.lemmas.List.Sums.{sum_by-cons, sum_by-append}
use Rattle.std.proofs.lemmas.List.Elements.{All-nil, All-cons, filter_map-append}
use Rattle.enet_sender.specs.declared.sent.Sent.{Sent}
use Rattle.enet_sender.specs.Pending.{vacant, named, times, held}

abbrev one_if : Bool → ℕ
one_if b = cond b 1 0

pub times-cons : (key k : ℕ) (keys : List ℕ) → times key (k ∷ keys) ≡ one_if (eqb k key) + times key keys
times-cons key k keys = sum_by-cons (λ (k : ℕ). one_if (eqb k key)) k keys

pub times-append : (key : ℕ) (fs bs : List ℕ) → times key (fs ++ bs) ≡ times key fs + times key bs
times-append key fs bs = sum_by-append (λ (k : ℕ). one_if (eqb k key)) fs bs

pub times-here : (key : ℕ) (keys : List ℕ) → times key (key ∷ keys) ≡ 1 + times key keys
times-here key keys = times-cons key key keys ∙ ap (λ b. one_if b + times key keys) (eq-eqb key key refl)

pub times-other : (key k : ℕ) (keys : List ℕ) → k ≢ key → times key (k ∷ keys) ≡ times key keys
times-other key k keys other = times-cons key k keys ∙ ap (λ b. one_if b + times key keys) (ne_eqb k key other) ∙ (omega arith)

-- a key of a ring stands in it
pub times-some : (keys : List ℕ) (i d : ℕ) → i < length keys → 1 ≤ times (get_or keys i d) keys
times-some [] i d inside = absurd (omega arith)
times-some (k ∷ keys) zero d inside = let e = times-here k keys in omega arith
times-some (k ∷ keys) (suc i) d inside =
    let e = times-cons (get_or keys i d) k keys in
    let h = times-some keys i d (omega arith) in
    omega arith

pub held-some : (at : ℕ → Option Sent) (key : ℕ) (p : Sent) → at key ≡ Some p → held at key ≡ 1
held-some at key p e = ap (λ o. one_if (is_some o)) e

pub held-none : (at : ℕ → Option Sent) (key : ℕ) → at key ≡ None → held at key ≡ 0
held-none at key e = ap (λ o. one_if (is_some o)) e

-- a command stands where one is held
pub some-held : (o : Option Sent) → 1 ≤ one_if (is_some o) → (p : Sent) × (o ≡ Some p)
some-held None h = absurd (omega arith)
some-held (Some p) h = (p, refl)

-- two places of commands that agree at the keys of a ring name the same
pub named-same : (at after : ℕ → Option Sent) (keys : List ℕ) (d : ℕ) → ((i : ℕ) → i < length keys → after (get_or keys i d) ≡ at (get_or keys i d)) → named after keys ≡ named at keys
named-same at after [] d same = refl
named-same at after (k ∷ keys) d same =
    let here : after k ≡ at k = same 0 (omega arith) in
    let rest : named after keys ≡ named at keys = named-same at after keys d (λ i inside. same (suc i) (omega arith)) in
    ap (λ o. cons_option o (named after keys)) here ∙ ap (λ xs. cons_option (at k) xs) rest

-- a change under a key that isn't in the ring is not seen
pub named-other : (at after : ℕ → Option Sent) (key : ℕ) (keys : List ℕ) → times key keys ≡ 0 → ((k : ℕ) → k ≢ key → after k ≡ at k) → named after keys ≡ named at keys
named-other at after key keys none others =
    named-same at after keys vacant (λ i inside. others (get_or keys i vacant) (λ same.
    let some = times-some keys i vacant inside in
    let e = ap (λ j. times j keys) same in
    omega arith))

pub named-append : (at : ℕ → Option Sent) (fs bs : List ℕ) → named at (fs ++ bs) ≡ named at fs ++ named at bs
named-append at fs bs = filter_map-append at fs bs

pub named-cons : (at : ℕ → Option Sent) (key : ℕ) (keys : List ℕ) (p : Sent) → at key ≡ Some p → named at (key ∷ keys) ≡ p ∷ named at keys
named-cons at key keys p e = ap (λ o. cons_option o (named at keys)) e

pub named-skip : (at : ℕ → Option Sent) (key : ℕ) (keys : List ℕ) → at key ≡ None → named at (key ∷ keys) ≡ named at keys
named-skip at key keys e = ap (λ o. cons_option o (named at keys)) e

-- what holds of the command of each place holds of all that is named
pub named-all : (P : Sent → Type 0) (at : ℕ → Option Sent) (keys : List ℕ) (d : ℕ) → ((place : ℕ) (p : Sent) → place < length keys → at (get_or keys place d) ≡ Some p → P p) → All P (named at keys)
named-all P at [] d each = All-nil P
named-all P at (k ∷ keys) d each = by_first (at k) refl (named-all P at keys d (λ place p inside e. each (suc place) p (omega arith) e))
  where
    by_first : (o : Option Sent) → at k ≡ o → All P (named at keys) → All P (cons_option o (named at keys))
    by_first None e rest = rest
    by_first (Some p) e rest = All-cons P p (named at keys) (each 0 p (omega arith) e) rest

-- no more is named than there are keys
pub named-length : (at : ℕ → Option Sent) (keys : List ℕ) → length (named at keys) ≤ length keys
named-length at [] = omega arith
named-length at (k ∷ keys) = by_first (at k) (named-length at keys)
  where
    by_first : (o : Option Sent) → length (named at keys) ≤ length keys → length (cons_option o (named at keys)) ≤ suc (length keys)
    by_first None h = omega arith
    by_first (Some p) h = omega arith
