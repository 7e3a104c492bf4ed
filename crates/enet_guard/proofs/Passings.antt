-- What a guard passed over, and what the wire behind it told, grow together.
use Rattle.std.proofs.Common.{◌≡◌, ℕ, ◌+◌, Bool, true, false, List, [], ◌∷◌, ◌++◌, length, map, Option, Some, None, refl, ap, sym, subst, ◌∙◌, append_assoc, cond, arith}
use Rattle.std.proofs.lemmas.List.{append-nil}
use Rattle.enet_codec.specs.declared.address.Addr.{Addr}
use Rattle.enet_wire.specs.declared.told.Told.{Told}
use Rattle.enet_wire.specs.declared.told.Told.TheVariants.{Came}
use Rattle.enet_wire.specs.Wires.{also, unless_spent, is_spent}
use Rattle.enet_guard.specs.Guarding.{Guarding}
use Rattle.enet_guard.specs.Passing.{PassesOver, Refuses}

abbrev pub came_so : List (Addr × List ℕ) → List Told
came_so over = map (λ d. Came d.0 d.1) over

pub passes_more : (old between new : Guarding) (over : List (Addr × List ℕ)) (from : Addr) (bytes : List ℕ)
    → PassesOver old over between → Refuses between from bytes new → PassesOver old (over ++ (from, bytes) ∷ []) new
passes_more old between new [] from bytes same refuses = (new, subst (λ (g : Guarding). Refuses g from bytes new) same refuses, refl)
passes_more old between new (d ∷ ds) from bytes passes refuses = (passes.0, passes.1, passes_more passes.0 between new ds from bytes passes.2 refuses)

came_more : (over : List (Addr × List ℕ)) (from : Addr) (bytes : List ℕ) → came_so (over ++ (from, bytes) ∷ []) ≡ came_so over ++ Came from bytes ∷ []
came_more [] from bytes = refl
came_more (d ∷ ds) from bytes = ap (λ (xs : List Told). Came d.0 d.1 ∷ xs) (came_more ds from bytes)

pub length_more : (over : List (Addr × List ℕ)) (d : Addr × List ℕ) → length (over ++ d ∷ []) ≡ length over + 1
length_more [] d = omega arith
length_more (x ∷ xs) d = omega (arith, length_more xs d)

also_cond : (spent : Bool) (o : Option (List Told)) (xs ys : List Told) → also (also o (cond spent [] xs)) (cond spent [] ys) ≡ also o (cond spent [] (xs ++ ys))
also_cond true None xs ys = refl
also_cond false None xs ys = refl
also_cond true (Some l) xs ys = ap Some (append-nil (l ++ []))
also_cond false (Some l) xs ys = ap Some (append_assoc l xs ys)

-- more was told by one call
pub told_on : (o o_1 o_2 : Option (List Told)) (f f_1 : ℕ) (told more : List Told) → o_1 ≡ also o (unless_spent f told) → f_1 ≡ f → o_2 ≡ also o_1 (unless_spent f_1 more)
    → o_2 ≡ also o (unless_spent f (told ++ more))
told_on o o_1 o_2 f f_1 told more before same now =
    now ∙ (ap (λ (x : Option (List Told)). also x (unless_spent f_1 more)) before
    ∙ (ap (λ (n : ℕ). also (also o (unless_spent f told)) (unless_spent n more)) same ∙ also_cond (is_spent f) o told more))

-- and a datagram that was passed over is one of them
pub over_on : (o o_1 o_2 : Option (List Told)) (f f_1 : ℕ) (over : List (Addr × List ℕ)) (from : Addr) (bytes : List ℕ) → o_1 ≡ also o (unless_spent f (came_so over)) → f_1 ≡ f
    → o_2 ≡ also o_1 (unless_spent f_1 (Came from bytes ∷ [])) → o_2 ≡ also o (unless_spent f (came_so (over ++ (from, bytes) ∷ [])))
over_on o o_1 o_2 f f_1 over from bytes before same now =
    told_on o o_1 o_2 f f_1 (came_so over) (Came from bytes ∷ []) before same now ∙ ap (λ (xs : List Told). also o (unless_spent f xs)) (sym (came_more over from bytes))

also_none : (spent : Bool) (o : Option (List Told)) → o ≡ also o (cond spent [] [])
also_none true None = refl
also_none false None = refl
also_none true (Some l) = ap Some (sym (append-nil l))
also_none false (Some l) = ap Some (sym (append-nil l))

-- nothing was told yet
pub also_nothing : (faults : ℕ) (o : Option (List Told)) → o ≡ also o (unless_spent faults [])
also_nothing faults o = also_none (is_spent faults) o

-- where nothing more was told
pub told_all : (o o_1 : Option (List Told)) (f : ℕ) (told : List Told) → o_1 ≡ also o (unless_spent f told) → o_1 ≡ also o (unless_spent f (told ++ []))
told_all o o_1 f told before = before ∙ ap (λ (xs : List Told). also o (unless_spent f xs)) (sym (append-nil told))
