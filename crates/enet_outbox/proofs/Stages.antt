-- A stage goes on by one command, or ends.
use Rattle.std.proofs.Common.{◌≡◌, ℕ, ◌-◌, ◌<◌, List, [], ◌∷◌, length, drop, refl, sym, ap, ◌∙◌, arith, Bool, true, false, cond, Some, None}
use Rattle.std.specs.List.{slice_get}
use Rattle.enet_throttle.specs.Throttle.{is_admitted}
use Rattle.enet_outbox.specs.declared.parts.Acknowledgement.{Acknowledgement}
use Rattle.enet_outbox.specs.declared.parts.Unsequenced.{Unsequenced}
use Rattle.enet_outbox.specs.Emission.{Filling, asked, fits, with_command, shut, repeated, acknowledgement_of, acknowledgement_step, with_one_acknowledgement, unsequenced_of, unsequenced_asked, unsequenced_step, with_one_unsequenced}
use Rattle.enet_outbox.proofs.Repeats.{repeated-go, repeated-shut}

-- what is first, and the rest
pub first-cons : {A : Type 0} (xs : List A) (x : A) → slice_get xs 0 ≡ Some x → xs ≡ x ∷ drop 1 xs
first-cons [] x h = cc
first-cons (y ∷ ys) x h = let e : Some y ≡ Some x = h in let f : y ≡ x = cc in rw f refl

pub first-none : {A : Type 0} (xs : List A) → slice_get xs 0 ≡ None → xs ≡ []
first-none [] h = refl
first-none (y ∷ ys) h = cc

some-first : {A : Type 0} (xs : List A) (x : A) → slice_get xs 0 ≡ Some x → 0 < length xs
some-first [] x h = cc
some-first (y ∷ ys) x h = omega arith

one-less : {A : Type 0} (xs ys : List A) (x : A) → slice_get xs 0 ≡ Some x → ys ≡ drop 1 xs → length xs - 1 ≡ length ys
one-less [] ys x h e = cc
one-less (z ∷ xs) ys x h e = let l = ap (λ (ys : List _). length ys) e in omega arith

-- so many acknowledgements more
abbrev pub more_acknowledgements : List Acknowledgement → Filling → Filling
more_acknowledgements xs f = repeated (length xs) with_one_acknowledgement f

acknowledgement-first : (xs : List Acknowledgement) (a : Acknowledgement) (f : Filling) → f.outbox.acknowledgements ≡ xs → slice_get xs 0 ≡ Some a
    → with_one_acknowledgement f ≡ acknowledgement_step f (a ∷ drop 1 xs)
acknowledgement-first xs a f waits is = ap (acknowledgement_step f) (waits ∙ first-cons xs a is)

pub acknowledgements-go : (xs ys : List Acknowledgement) (a : Acknowledgement) (f : Filling) → f.closed ≡ false → f.outbox.acknowledgements ≡ xs → slice_get xs 0 ≡ Some a → ys ≡ drop 1 xs
    → fits f (acknowledgement_of a) ≡ true → more_acknowledgements xs f ≡ more_acknowledgements ys (with_command f (acknowledgement_of a) (record f.outbox { acknowledgements = ys }))
acknowledgements-go xs ys a f opened waits is rest fit =
    let go : List Acknowledgement → Filling = λ zs. with_command f (acknowledgement_of a) (record f.outbox { acknowledgements = zs }) in
    let one : with_one_acknowledgement f ≡ go ys = acknowledgement-first xs a f waits is ∙ ap (λ (b : Bool). cond b (go (drop 1 xs)) (shut f)) fit ∙ ap go (sym rest) in
    repeated-go (length xs) with_one_acknowledgement f (go ys) (some-first xs a is) opened one
    ∙ ap (λ (n : ℕ). repeated n with_one_acknowledgement (go ys)) (one-less xs ys a is rest)

pub acknowledgements-stop : (xs : List Acknowledgement) (a : Acknowledgement) (f : Filling) → f.closed ≡ false → f.outbox.acknowledgements ≡ xs → slice_get xs 0 ≡ Some a
    → fits f (acknowledgement_of a) ≡ false → more_acknowledgements xs f ≡ shut f
acknowledgements-stop xs a f opened waits is fit =
    let go : Filling = with_command f (acknowledgement_of a) (record f.outbox { acknowledgements = drop 1 xs }) in
    repeated-shut (length xs) with_one_acknowledgement f (some-first xs a is) opened (acknowledgement-first xs a f waits is ∙ ap (λ (b : Bool). cond b go (shut f)) fit)

pub acknowledgements-end : (xs : List Acknowledgement) (f : Filling) → slice_get xs 0 ≡ None → more_acknowledgements xs f ≡ f
acknowledgements-end xs f none = ap (λ (zs : List Acknowledgement). more_acknowledgements zs f) (first-none xs none)

-- so many unsequenced packets more
abbrev pub more_unsequenced : List Unsequenced → Filling → Filling
more_unsequenced xs f = repeated (length xs) with_one_unsequenced f

unsequenced-first : (xs : List Unsequenced) (u : Unsequenced) (f : Filling) → f.outbox.unsequenced ≡ xs → slice_get xs 0 ≡ Some u → with_one_unsequenced f ≡ unsequenced_step f (u ∷ drop 1 xs)
unsequenced-first xs u f waits is = ap (unsequenced_step f) (waits ∙ first-cons xs u is)

unsequenced-asks : (xs ys : List Unsequenced) (u : Unsequenced) (f : Filling) → f.closed ≡ false → f.outbox.unsequenced ≡ xs → slice_get xs 0 ≡ Some u → ys ≡ drop 1 xs → fits f (unsequenced_of u) ≡ true
    → more_unsequenced xs f ≡ more_unsequenced ys (unsequenced_asked f u ys)
unsequenced-asks xs ys u f opened waits is rest fit =
    let go : List Unsequenced → Filling = λ zs. unsequenced_asked f u zs in
    let one : with_one_unsequenced f ≡ go ys = unsequenced-first xs u f waits is ∙ ap (λ (b : Bool). cond b (go (drop 1 xs)) (shut f)) fit ∙ ap go (sym rest) in
    repeated-go (length xs) with_one_unsequenced f (go ys) (some-first xs u is) opened one
    ∙ ap (λ (n : ℕ). repeated n with_one_unsequenced (go ys)) (one-less xs ys u is rest)

pub unsequenced-go : (xs ys : List Unsequenced) (u : Unsequenced) (f : Filling) → f.closed ≡ false → f.outbox.unsequenced ≡ xs → slice_get xs 0 ≡ Some u → ys ≡ drop 1 xs → fits f (unsequenced_of u) ≡ true
    → is_admitted f.outbox.throttle ≡ true → more_unsequenced xs f ≡ more_unsequenced ys (with_command f (unsequenced_of u) (record (asked f.outbox) { unsequenced = ys; last = Some u.channel }))
unsequenced-go xs ys u f opened waits is rest fit admitted =
    let put : Filling = with_command f (unsequenced_of u) (record (asked f.outbox) { unsequenced = ys; last = Some u.channel }) in
    let drop : Filling = record f { outbox = record (asked f.outbox) { unsequenced = ys } } in
    unsequenced-asks xs ys u f opened waits is rest fit ∙ ap (λ (b : Bool). more_unsequenced ys (cond b put drop)) admitted

pub unsequenced-drop : (xs ys : List Unsequenced) (u : Unsequenced) (f : Filling) → f.closed ≡ false → f.outbox.unsequenced ≡ xs → slice_get xs 0 ≡ Some u → ys ≡ drop 1 xs → fits f (unsequenced_of u) ≡ true
    → is_admitted f.outbox.throttle ≡ false → more_unsequenced xs f ≡ more_unsequenced ys (record f { outbox = record (asked f.outbox) { unsequenced = ys } })
unsequenced-drop xs ys u f opened waits is rest fit refused =
    let put : Filling = with_command f (unsequenced_of u) (record (asked f.outbox) { unsequenced = ys; last = Some u.channel }) in
    let drop : Filling = record f { outbox = record (asked f.outbox) { unsequenced = ys } } in
    unsequenced-asks xs ys u f opened waits is rest fit ∙ ap (λ (b : Bool). more_unsequenced ys (cond b put drop)) refused

pub unsequenced-stop : (xs : List Unsequenced) (u : Unsequenced) (f : Filling) → f.closed ≡ false → f.outbox.unsequenced ≡ xs → slice_get xs 0 ≡ Some u → fits f (unsequenced_of u) ≡ false
    → more_unsequenced xs f ≡ shut f
unsequenced-stop xs u f opened waits is fit =
    let go : Filling = unsequenced_asked f u (drop 1 xs) in
    repeated-shut (length xs) with_one_unsequenced f (some-first xs u is) opened (unsequenced-first xs u f waits is ∙ ap (λ (b : Bool). cond b go (shut f)) fit)

pub unsequenced-end : (xs : List Unsequenced) (f : Filling) → slice_get xs 0 ≡ None → more_unsequenced xs f ≡ f
unsequenced-end xs f none = ap (λ (zs : List Unsequenced). more_unsequenced zs f) (first-none xs none)
