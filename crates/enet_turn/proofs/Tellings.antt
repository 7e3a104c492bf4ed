-- What a wire told, and counts of it, grow together.
use Rattle.std.proofs.Common.{◌≡◌, ℕ, ◌+◌, Bool, true, false, List, [], ◌∷◌, ◌++◌, Option, Some, None, refl, ap, sym, ◌∙◌, append_assoc, zero-add, add_assoc, cond, ◌≤◌, arith}
use Rattle.std.proofs.lemmas.List.{append-nil}
use Rattle.enet_codec.specs.declared.event.Event.{Event}
use Rattle.enet_submit.specs.declared.order.Submission.{Submission}
use Rattle.enet_wire.specs.declared.told.Told.{Told}
use Rattle.enet_wire.specs.declared.told.Told.TheVariants.{Came, NothingCame, Went, Lost, Blocked, Waited}
use Rattle.enet_wire.specs.Wires.{also, unless_spent, is_spent}
use Rattle.enet_turn.specs.Counts.{came_in, went_in, lost_in, taken_in, given_in, count_of}

also_cond : (spent : Bool) (o : Option (List Told)) (xs ys : List Told) → also (also o (cond spent [] xs)) (cond spent [] ys) ≡ also o (cond spent [] (xs ++ ys))
also_cond true None xs ys = refl
also_cond false None xs ys = refl
also_cond true (Some l) xs ys = ap Some (append-nil (l ++ []))
also_cond false (Some l) xs ys = ap Some (append_assoc l xs ys)

also_more : (faults : ℕ) (o : Option (List Told)) (xs ys : List Told)
    → also (also o (unless_spent faults xs)) (unless_spent faults ys) ≡ also o (unless_spent faults (xs ++ ys))
also_more faults o xs ys = also_cond (is_spent faults) o xs ys

-- more was told by one call
pub told_on : (o o_1 o_2 : Option (List Told)) (f f_1 : ℕ) (told more : List Told) → o_1 ≡ also o (unless_spent f told) → f_1 ≡ f → o_2 ≡ also o_1 (unless_spent f_1 more)
    → o_2 ≡ also o (unless_spent f (told ++ more))
told_on o o_1 o_2 f f_1 told more before same now =
    now ∙ (ap (λ (x : Option (List Told)). also x (unless_spent f_1 more)) before ∙ (ap (λ (n : ℕ). also (also o (unless_spent f told)) (unless_spent n more)) same ∙ also_more f o told more))

-- a call told nothing
pub told_no_more : (o o_1 o_2 : Option (List Told)) (f f_1 : ℕ) (told : List Told) → o_1 ≡ also o (unless_spent f told) → f_1 ≡ f → o_2 ≡ also o_1 (unless_spent f_1 [])
    → o_2 ≡ also o (unless_spent f told)
told_no_more o o_1 o_2 f f_1 told before same now = told_on o o_1 o_2 f f_1 told [] before same now ∙ ap (λ (xs : List Told). also o (unless_spent f xs)) (append-nil told)

-- nothing was told yet
also_none : (spent : Bool) (o : Option (List Told)) → o ≡ also o (cond spent [] [])
also_none true None = refl
also_none false None = refl
also_none true (Some l) = ap Some (sym (append-nil l))
also_none false (Some l) = ap Some (sym (append-nil l))

pub also_nothing : (faults : ℕ) (o : Option (List Told)) → o ≡ also o (unless_spent faults [])
also_nothing faults o = also_none (is_spent faults) o

pub count_small : (b : Bool) → count_of b ≤ 1
count_small true = omega arith
count_small false = omega arith

pub came_more : (xs ys : List Told) → came_in (xs ++ ys) ≡ came_in xs + came_in ys
came_more [] ys = sym (zero-add (came_in ys))
came_more (Came from bytes ∷ xs) ys = ap (λ n. 1 + n) (came_more xs ys) ∙ sym (add_assoc 1 (came_in xs) (came_in ys))
came_more (NothingCame ∷ xs) ys = came_more xs ys
came_more (Went to bytes ∷ xs) ys = came_more xs ys
came_more (Lost to bytes ∷ xs) ys = came_more xs ys
came_more (Blocked to bytes ∷ xs) ys = came_more xs ys
came_more (Waited ms ∷ xs) ys = came_more xs ys

pub went_more : (xs ys : List Told) → went_in (xs ++ ys) ≡ went_in xs + went_in ys
went_more [] ys = sym (zero-add (went_in ys))
went_more (Went to bytes ∷ xs) ys = ap (λ n. 1 + n) (went_more xs ys) ∙ sym (add_assoc 1 (went_in xs) (went_in ys))
went_more (NothingCame ∷ xs) ys = went_more xs ys
went_more (Came from bytes ∷ xs) ys = went_more xs ys
went_more (Lost to bytes ∷ xs) ys = went_more xs ys
went_more (Blocked to bytes ∷ xs) ys = went_more xs ys
went_more (Waited ms ∷ xs) ys = went_more xs ys

pub lost_more : (xs ys : List Told) → lost_in (xs ++ ys) ≡ lost_in xs + lost_in ys
lost_more [] ys = sym (zero-add (lost_in ys))
lost_more (Lost to bytes ∷ xs) ys = ap (λ n. 1 + n) (lost_more xs ys) ∙ sym (add_assoc 1 (lost_in xs) (lost_in ys))
lost_more (Blocked to bytes ∷ xs) ys = ap (λ n. 1 + n) (lost_more xs ys) ∙ sym (add_assoc 1 (lost_in xs) (lost_in ys))
lost_more (NothingCame ∷ xs) ys = lost_more xs ys
lost_more (Came from bytes ∷ xs) ys = lost_more xs ys
lost_more (Went to bytes ∷ xs) ys = lost_more xs ys
lost_more (Waited ms ∷ xs) ys = lost_more xs ys

pub taken_more : (xs ys : List (Event × Bool)) → taken_in (xs ++ ys) ≡ taken_in xs + taken_in ys
taken_more [] ys = sym (zero-add (taken_in ys))
taken_more (x ∷ xs) ys = ap (λ n. count_of x.1 + n) (taken_more xs ys) ∙ sym (add_assoc (count_of x.1) (taken_in xs) (taken_in ys))

pub given_more : (xs ys : List (Option Submission)) → given_in (xs ++ ys) ≡ given_in xs + given_in ys
given_more [] ys = sym (zero-add (given_in ys))
given_more (Some x ∷ xs) ys = ap (λ n. 1 + n) (given_more xs ys) ∙ sym (add_assoc 1 (given_in xs) (given_in ys))
given_more (None ∷ xs) ys = given_more xs ys
