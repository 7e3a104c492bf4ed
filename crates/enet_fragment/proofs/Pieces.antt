-- The pieces among a packet's bytes: what a mark, a write and a joining of them do.
use Rattle.std.proofs.Common.{ℕ, zero, suc, ◌≡◌, ◌+◌, ◌-◌, ◌*◌, ◌<◌, ◌≤◌, Bool, true, false, eqb, List, [], ◌∷◌, ◌++◌, length, take, drop, get_or, map, Some, None, is_some, refl, sym, ap, ◌∙◌, arith, zero-add}
use Rattle.std.proofs.Math.ListN.{set, replicate, get_or-map}
use Rattle.std.proofs.Math.Nat.{mul-le-mul_left}
use Rattle.std.proofs.lemmas.List.{take-append-le, drop-append-le, length-set, length-append, length-drop, length-take-le, take-append-drop, drop-take, drop-drop, drop_all, drop_at, take_at, append-nil, map-set}
use Rattle.std.proofs.lemmas.List.Folds.{list_all-map}
use Rattle.std.proofs.lemmas.Bool.Decides.{nat_tests}
use Rattle.std.specs.List.{list_all}
use Rattle.enet_fragment.specs.Assembly.{pieces_in, first_piece, marked, missing_in}
use Rattle.enet_fragment.specs.Collected.{written_at}
use Rattle.enet_fragment.specs.PartialPacket.{joined}

-- the marks are those that are marked
pub map-pieces_in : (cut : ℕ) (bytes : List ℕ) (came : List Bool) → map is_some (pieces_in cut bytes came) ≡ came
unfolding pieces_in
map-pieces_in cut bytes [] = refl
map-pieces_in cut bytes (true ∷ rest) = ap (λ r. true ∷ r) (map-pieces_in cut (drop cut bytes) rest)
map-pieces_in cut bytes (false ∷ rest) = ap (λ r. false ∷ r) (map-pieces_in cut (drop cut bytes) rest)

pub length-pieces_in : (cut : ℕ) (bytes : List ℕ) (came : List Bool) → length (pieces_in cut bytes came) ≡ length came
unfolding pieces_in
length-pieces_in cut bytes [] = refl
length-pieces_in cut bytes (x ∷ rest) = ap suc (length-pieces_in cut (drop cut bytes) rest)

-- no more marks are missing than there are
pub missing_in-le : (came : List Bool) → missing_in came ≤ length came
unfolding missing_in
missing_in-le [] = omega arith
missing_in-le (true ∷ rest) = omega (arith, missing_in-le rest)
missing_in-le (false ∷ rest) = omega (arith, missing_in-le rest)

pub missing_in-replicate : (n : ℕ) → missing_in (replicate n false) ≡ n
unfolding missing_in
missing_in-replicate zero = refl
missing_in-replicate (suc n) = ap suc (missing_in-replicate n)

-- a mark that is set is missing no more, one that is taken back is
pub missing_in-set : (came : List Bool) (i : ℕ) → i < length came → get_or came i false ≡ false → missing_in (set came i true) + 1 ≡ missing_in came
unfolding missing_in
missing_in-set [] i h e = absurd (omega arith)
missing_in-set (true ∷ rest) zero h e = cc
missing_in-set (false ∷ rest) zero h e = omega arith
missing_in-set (true ∷ rest) (suc i) h e = missing_in-set rest i (omega arith) e
missing_in-set (false ∷ rest) (suc i) h e = omega (arith, missing_in-set rest i (omega arith) e)

pub missing_in-unset : (came : List Bool) (i : ℕ) → i < length came → get_or came i false ≡ true → missing_in (set came i false) ≡ missing_in came + 1
unfolding missing_in
missing_in-unset [] i h e = absurd (omega arith)
missing_in-unset (false ∷ rest) zero h e = cc
missing_in-unset (true ∷ rest) zero h e = omega arith
missing_in-unset (true ∷ rest) (suc i) h e = missing_in-unset rest i (omega arith) e
missing_in-unset (false ∷ rest) (suc i) h e = omega (arith, missing_in-unset rest i (omega arith) e)

-- where every mark is missing there is no piece, whatever the cut
pub pieces_in-none : (cut : ℕ) (bytes : List ℕ) (came : List Bool) → missing_in came ≡ length came → pieces_in cut bytes came ≡ replicate (length came) None
unfolding pieces_in missing_in
pieces_in-none cut bytes [] h = refl
pieces_in-none cut bytes (true ∷ rest) h = absurd (omega (arith, missing_in-le rest))
pieces_in-none cut bytes (false ∷ rest) h = ap (λ r. None ∷ r) (pieces_in-none cut (drop cut bytes) rest (omega arith))

-- no mark is missing exactly where all are there
pub list_all-missing : (came : List Bool) → list_all (λ x. x) came ≡ eqb (missing_in came) 0
unfolding missing_in
list_all-missing [] = refl
list_all-missing (true ∷ rest) = list_all-missing rest
list_all-missing (false ∷ rest) = grind (arith, nat_tests)

pub list_all-pieces_in : (cut : ℕ) (bytes : List ℕ) (came : List Bool) → list_all is_some (pieces_in cut bytes came) ≡ eqb (missing_in came) 0
list_all-pieces_in cut bytes came =
    sym (list_all-map (λ x. x) is_some (pieces_in cut bytes came)) ∙ (ap (λ m. list_all (λ x. x) m) (map-pieces_in cut bytes came) ∙ list_all-missing came)

-- a piece is there exactly where its mark is
pub is_some-pieces_in : (cut : ℕ) (bytes : List ℕ) (came : List Bool) (i : ℕ) → is_some (get_or (pieces_in cut bytes came) i None) ≡ get_or came i false
is_some-pieces_in cut bytes came i =
    sym (get_or-map is_some (pieces_in cut bytes came) i None) ∙ ap (λ m. get_or m i false) (map-pieces_in cut bytes came)

-- every other piece is there exactly where no other mark is missing
pub list_all-others : (cut : ℕ) (bytes new : List ℕ) (came : List Bool) (i : ℕ) → i < length came → get_or came i false ≡ false → list_all is_some (set (pieces_in cut bytes came) i (Some new)) ≡ eqb (missing_in came) 1
list_all-others cut bytes new came i h e =
    let marks : map is_some (set (pieces_in cut bytes came) i (Some new)) ≡ set came i true = map-set is_some (pieces_in cut bytes came) i (Some new) ∙ ap (λ m. set m i true) (map-pieces_in cut bytes came) in
    let less : missing_in (set came i true) + 1 ≡ missing_in came = missing_in-set came i h e in
    let tests : eqb (missing_in (set came i true)) 0 ≡ eqb (missing_in came) 1 = grind (arith, nat_tests) in
    sym (list_all-map (λ x. x) is_some (set (pieces_in cut bytes came) i (Some new))) ∙ (ap (λ m. list_all (λ x. x) m) marks ∙ (list_all-missing (set came i true) ∙ tests))

-- where all marks are there, the joined pieces are the bytes
pub joined-pieces_in : (cut : ℕ) (bytes : List ℕ) (came : List Bool) → 0 < length came → missing_in came ≡ 0 → joined (pieces_in cut bytes came) ≡ bytes
unfolding pieces_in joined missing_in
joined-pieces_in cut bytes [] p h = absurd (omega arith)
joined-pieces_in cut bytes (false ∷ rest) p h = absurd (omega arith)
joined-pieces_in cut bytes (true ∷ []) p h = append-nil bytes
joined-pieces_in cut bytes (true ∷ x ∷ rest) p h =
    ap (λ r. take cut bytes ++ r) (joined-pieces_in cut (drop cut bytes) (x ∷ rest) (omega arith) h) ∙ take-append-drop cut bytes

-- a mark is taken back
pub pieces_in-unmarked : (cut : ℕ) (bytes : List ℕ) (came : List Bool) (i : ℕ) → pieces_in cut bytes (set came i false) ≡ set (pieces_in cut bytes came) i None
unfolding pieces_in
pieces_in-unmarked cut bytes [] i = refl
pieces_in-unmarked cut bytes (x ∷ rest) zero = refl
pieces_in-unmarked cut bytes (x ∷ rest) (suc i) =
    ap (λ n. marked x (first_piece cut bytes n) ∷ pieces_in cut (drop cut bytes) (set rest i false)) (length-set rest i false)
    ∙ ap (λ r. marked x (first_piece cut bytes (length rest)) ∷ r) (pieces_in-unmarked cut (drop cut bytes) rest i)

-- a write at the front
pub front_of : (at : ℕ) (new bytes : List ℕ) → at ≡ 0 → written_at at new bytes ≡ new ++ drop (length new) bytes
front_of at new bytes e = rw e (rw zero-add refl)

-- a write past the front leaves the front, and what follows it is written as much earlier
take-written : (cut at : ℕ) (new bytes : List ℕ) → at ≤ length bytes → cut ≤ at → take cut (written_at at new bytes) ≡ take cut bytes
take-written cut at new bytes h k =
    let enough : cut ≤ length (take at bytes) = omega (arith, length-take-le at bytes h) in
    take-append-le cut (take at bytes) (new ++ drop (at + length new) bytes) enough
    ∙ sym (ap (λ b. take cut b) (sym (take-append-drop at bytes)) ∙ take-append-le cut (take at bytes) (drop at bytes) enough)

pub drop-written : (cut at : ℕ) (new bytes : List ℕ) → cut + at ≤ length bytes → drop cut (written_at (cut + at) new bytes) ≡ written_at at new (drop cut bytes)
drop-written cut at new bytes h =
    let enough : cut ≤ length (take (cut + at) bytes) = omega (arith, length-take-le (cut + at) bytes h) in
    let same : cut + at + length new ≡ cut + (at + length new) = omega arith in
    drop-append-le cut (take (cut + at) bytes) (new ++ drop (cut + at + length new) bytes) enough
    ∙ (ap (λ f. f ++ (new ++ drop (cut + at + length new) bytes)) (drop-take cut at bytes)
    ∙ ap (λ r. take at (drop cut bytes) ++ (new ++ r)) (ap (λ n. drop n bytes) same ∙ sym (drop-drop (at + length new) cut bytes)))

pub length-written_at : (at : ℕ) (new bytes : List ℕ) → at + length new ≤ length bytes → length (written_at at new bytes) ≡ length bytes
length-written_at at new bytes h =
    let front : length (take at bytes) ≡ at = length-take-le at bytes (omega arith) in
    simp (length-append, length-drop) (omega arith)

-- a piece that is not the last one ends before the last one begins
ends_before : (n i cut len : ℕ) → suc i < n → n * cut ≤ len + cut → suc i * cut ≤ len
ends_before n i cut len below room = let less : suc i + 1 ≤ n = omega arith in
    omega (arith, mul-le-mul_left cut less)

-- a piece is written at its place and marked
pub pieces_in-written : (cut : ℕ) (bytes new : List ℕ) (came : List Bool) (i : ℕ) → i < length came → (i + 1 ≡ length came → i * cut + length new ≡ length bytes) → (i + 1 < length came → length new ≡ cut) → length came * cut ≤ length bytes + cut → pieces_in cut (written_at (i * cut) new bytes) (set came i true) ≡ set (pieces_in cut bytes came) i (Some new)
unfolding pieces_in
pieces_in-written cut bytes new [] i below last full room = absurd (omega arith)
pieces_in-written cut bytes new (x ∷ []) zero below last full room =
    let whole : length new ≡ length bytes = omega (arith, last (omega arith)) in
    ap (λ b. Some b ∷ []) (front_of (0 * cut) new bytes (omega arith) ∙ (ap (λ r. new ++ r) (drop_all (length new) bytes (omega arith)) ∙ append-nil new))
pieces_in-written cut bytes new (x ∷ []) (suc i) below last full room = absurd (omega arith)
pieces_in-written cut bytes new (x ∷ y ∷ rest) zero below last full room =
    let same : length new ≡ cut = full (omega arith) in
    let written : written_at (0 * cut) new bytes ≡ new ++ drop cut bytes = front_of (0 * cut) new bytes (omega arith) ∙ ap (λ n. new ++ drop n bytes) same in
    ap (λ w. Some (take cut w) ∷ pieces_in cut (drop cut w) (y ∷ rest)) written
    ∙ (ap (λ b. Some b ∷ pieces_in cut (drop cut (new ++ drop cut bytes)) (y ∷ rest)) (take_at new (drop cut bytes) cut same)
    ∙ ap (λ d. Some new ∷ pieces_in cut d (y ∷ rest)) (drop_at new (drop cut bytes) cut same))
pieces_in-written cut bytes new (x ∷ y ∷ rest) (suc i) below last full room =
    let at : suc i * cut ≡ cut + i * cut = omega arith in
    let fits : suc i * cut ≤ length bytes = ends_before _ i cut (length bytes) below room in
    let later : List Bool = set (y ∷ rest) i true in
    let shorter : length (drop cut bytes) ≡ length bytes - cut = length-drop cut bytes in
    ap (λ w. marked x (first_piece cut (written_at w new bytes) (length later)) ∷ pieces_in cut (drop cut (written_at w new bytes)) later) at
    ∙ (ap (λ n. marked x (first_piece cut (written_at (cut + i * cut) new bytes) n) ∷ pieces_in cut (drop cut (written_at (cut + i * cut) new bytes)) later) (length-set (y ∷ rest) i true)
    ∙ (ap (λ b. marked x b ∷ pieces_in cut (drop cut (written_at (cut + i * cut) new bytes)) later) (take-written cut (cut + i * cut) new bytes (omega arith) (omega arith))
    ∙ ap (λ r. marked x (take cut bytes) ∷ r)
    (ap (λ d. pieces_in cut d later) (drop-written cut (i * cut) new bytes (omega arith))
    ∙ pieces_in-written cut (drop cut bytes) new (y ∷ rest) i (omega arith) (λ e. omega (arith, last (omega arith))) (λ h. full (omega arith)) (omega arith))))
