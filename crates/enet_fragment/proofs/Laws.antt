-- Laws of the definitions that the crates above use: a packet's first piece, a packet whose pieces are those of one body, and
-- a packet of which every piece has come.
use Rattle.std.proofs.Common.{ℕ, zero, suc, ◌≡◌, ◌<◌, ◌≤◌, ◌+◌, ◌*◌, Bool, true, false, cond, ◌&&◌, eqb, ltb, List, [], ◌∷◌, ◌++◌, length, get_or, Option, Some, None, is_some, unwrap_or, refl, ap, ◌∙◌, arith, IsTrue, ◌↔◌}
use Rattle.std.proofs.Math.ListN.{set, replicate, length-replicate}
use Rattle.std.proofs.lemmas.List.{length-set}
use Rattle.std.proofs.lemmas.List.Sums.{AllPass-from_list_all, list_all-from_AllPass}
use Rattle.std.proofs.lemmas.Bool.Decides.{nat_tests}
use Rattle.std.specs.List.{list_all, concat}
use Rattle.enet_fragment.specs.declared.place.Place.{Place}
use Rattle.enet_fragment.specs.declared.assembly.Put.{Put}
use Rattle.enet_fragment.specs.declared.assembly.Put.TheVariants.{New, Again, Whole, Bad}
use Rattle.enet_fragment.specs.Place.{is_sound, told_piece_len, place_of}
use Rattle.enet_fragment.proofs.Places.{Sound, Sound-from_test, Fits, Fits-from_test}
use Rattle.enet_fragment.proofs.Pieces.{length-pieces_in, list_all-pieces_in, is_some-pieces_in, joined-pieces_in}
use Rattle.enet_fragment.specs.PartialPacket.{PartialPacket, count_of, nothing_yet, piece_at, IsWhole, joined, belongs, have_others_come, put_outcome, after_outcome, with_piece}
use Rattle.enet_fragment.specs.Assembly.{pieces_in, missing_in}
use Rattle.enet_fragment.specs.Whole.{is_whole, whole_of, single_of}

-- a sound piece belongs to the packet that it begins
pub belongs-first : (p : Place) → belongs (nothing_yet p.count p.total) p ≡ is_sound p
unfolding belongs
belongs-first p =
    let count : length (replicate {A = Option (List ℕ)} p.count None) ≡ p.count = length-replicate p.count None in
    first_tests (is_sound p) p.count p.total _ count
  where
    first_tests : (s : Bool) (n t k : ℕ) → k ≡ n → (s && (eqb n k && eqb t t) && true) ≡ s
    first_tests true n t k e = grind (arith, nat_tests)
    first_tests false n t k e = refl

others_first : (n i : ℕ) → i < n → list_all is_some (set (replicate {A = Option (List ℕ)} n None) i (Some [])) ≡ eqb n 1
others_first zero i h = absurd (omega arith)
others_first (suc zero) zero h = refl
others_first (suc zero) (suc i) h = absurd (omega arith)
others_first (suc (suc n)) zero h = grind (arith, nat_tests)
others_first (suc (suc n)) (suc i) h = grind (arith, nat_tests)

none_first : (n i : ℕ) → is_some (get_or (replicate {A = Option (List ℕ)} n None) i None) ≡ false
none_first zero i = refl
none_first (suc n) zero = refl
none_first (suc n) (suc i) = none_first n i

outcome_first : (sound belongs came others alone : Bool) → belongs ≡ sound → came ≡ false → (sound ≡ true → others ≡ alone) → cond belongs (cond came Again (cond others Whole New)) Bad ≡ cond sound (cond alone Whole New) Bad
outcome_first true belongs came others alone e f g = rw (e, f, g refl) refl
outcome_first false belongs came others alone e f g = rw e refl

-- a packet's first piece is Whole if it is alone, and else New
pub put_outcome-first : (p : Place) → put_outcome (nothing_yet p.count p.total) p ≡ cond (is_sound p) (cond (eqb p.count 1) Whole New) Bad
unfolding put_outcome have_others_come
put_outcome-first p =
    outcome_first (is_sound p) (belongs (nothing_yet p.count p.total) p) _ _ (eqb p.count 1)
    (belongs-first p)
    (none_first p.count p.number)
    (λ h. others_first p.count p.number (Sound-from_test p h).below)

-- a put changes neither the count nor the total
pub count_of-after_outcome : (r : Put) (m : PartialPacket) (p : Place) (bytes : List ℕ) → count_of (after_outcome r m p bytes) ≡ count_of m
count_of-after_outcome New m p bytes = length-set m.pieces p.number (Some bytes)
count_of-after_outcome Whole m p bytes = length-set m.pieces p.number (Some bytes)
count_of-after_outcome Again m p bytes = refl
count_of-after_outcome Bad m p bytes = refl

pub total-after_outcome : (r : Put) (m : PartialPacket) (p : Place) (bytes : List ℕ) → (after_outcome r m p bytes).total ≡ m.total
total-after_outcome New m p bytes = refl
total-after_outcome Whole m p bytes = refl
total-after_outcome Again m p bytes = refl
total-after_outcome Bad m p bytes = refl

-- pieces that are all those of one cut are joined to what was cut
pub joined-cuts : (pieces : List (Option (List ℕ))) (cuts : List (List ℕ)) → length pieces ≡ length cuts → ((i : ℕ) → i < length cuts → get_or pieces i None ≡ Some (get_or cuts i [])) → joined pieces ≡ concat cuts
unfolding joined
joined-cuts [] [] e h = refl
joined-cuts [] (c ∷ cs) e h = absurd (omega arith)
joined-cuts (p ∷ ps) [] e h = absurd (omega arith)
joined-cuts (p ∷ ps) (c ∷ cs) e h =
    ap (λ q. unwrap_or q [] ++ joined ps) (h 0 (omega arith))
    ∙ ap (λ r. c ++ r) (joined-cuts ps cs (omega arith) (λ i k. h (suc i) (omega arith)))

-- the test says what the words say
pub IsWhole-tested : (m : PartialPacket) → IsTrue (is_whole m) ↔ IsWhole m
IsWhole-tested m = (λ t. AllPass-from_list_all is_some m.pieces t, λ w. list_all-from_AllPass is_some m.pieces w)

-- a whole packet
missing_in-all : (n : ℕ) → missing_in (replicate n true) ≡ 0
unfolding missing_in
missing_in-all zero = refl
missing_in-all (suc n) = missing_in-all n

mark_at : (n i : ℕ) → get_or (replicate n true) i false ≡ ltb i n
mark_at zero i = grind (arith, nat_tests)
mark_at (suc n) zero = grind (arith, nat_tests)
mark_at (suc n) (suc i) = mark_at n i ∙ grind (arith, nat_tests)

pub is_whole-whole_of : (body : List ℕ) (count : ℕ) (cut : Option ℕ) → is_whole (whole_of body count cut) ≡ true
is_whole-whole_of body count cut =
    list_all-pieces_in _ body (replicate count true) ∙ ap (λ n. eqb n 0) (missing_in-all count)

pub joined-whole_of : (body : List ℕ) (count : ℕ) (cut : Option ℕ) → 1 ≤ count → joined (whole_of body count cut).pieces ≡ body
joined-whole_of body count cut h =
    let many : length (replicate count true) ≡ count = length-replicate count true in
    joined-pieces_in _ body (replicate count true) (omega arith) (missing_in-all count)

pub count_of-whole_of : (body : List ℕ) (count : ℕ) (cut : Option ℕ) → count_of (whole_of body count cut) ≡ count
count_of-whole_of body count cut = length-pieces_in _ body (replicate count true) ∙ length-replicate count true

pub piece_at-whole_of : (body : List ℕ) (count : ℕ) (cut : Option ℕ) (i : ℕ) → is_some (piece_at (whole_of body count cut) i) ≡ ltb i count
piece_at-whole_of body count cut i = is_some-pieces_in _ body (replicate count true) i ∙ mark_at count i

-- whether a piece makes its packet whole
others : (pieces : List (Option (List ℕ))) (i : ℕ) (a b : List ℕ) → list_all is_some (set pieces i (Some a)) ≡ list_all is_some (set pieces i (Some b))
others [] i a b = refl
others (x ∷ rest) zero a b = refl
others (Some x ∷ rest) (suc i) a b = others rest i a b
others (None ∷ rest) (suc i) a b = refl

pub is_whole-with_piece : (m : PartialPacket) (p : Place) (bytes : List ℕ) → is_whole (with_piece m p bytes) ≡ have_others_come m p.number
unfolding have_others_come
is_whole-with_piece m p bytes = others m.pieces p.number bytes []

-- a piece that makes its packet whole, and one that leaves it with a piece missing
whole_of_outcome : (b came others : Bool) → cond b (cond came Again (cond others Whole New)) Bad ≡ Whole → others ≡ true
whole_of_outcome true true others e = cc
whole_of_outcome true false true e = refl
whole_of_outcome true false false e = cc
whole_of_outcome false came others e = cc

new_of_outcome : (b came others : Bool) → cond b (cond came Again (cond others Whole New)) Bad ≡ New → others ≡ false
new_of_outcome true true others e = cc
new_of_outcome true false true e = cc
new_of_outcome true false false e = refl
new_of_outcome false came others e = cc

pub is_whole-last : (m : PartialPacket) (p : Place) (bytes : List ℕ) → put_outcome m p ≡ Whole → is_whole (with_piece m p bytes) ≡ true
unfolding put_outcome
is_whole-last m p bytes e =
    is_whole-with_piece m p bytes ∙ whole_of_outcome (belongs m p) (is_some (piece_at m p.number)) (have_others_come m p.number) e

pub is_whole-more : (m : PartialPacket) (p : Place) (bytes : List ℕ) → put_outcome m p ≡ New → is_whole (with_piece m p bytes) ≡ false
unfolding put_outcome
is_whole-more m p bytes e =
    is_whole-with_piece m p bytes ∙ new_of_outcome (belongs m p) (is_some (piece_at m p.number)) (have_others_come m p.number) e

-- a packet that is its only piece
pub single-made : (body : List ℕ) → with_piece (nothing_yet 1 (length body)) (place_of 0 1 (length body) 0 body) body ≡ single_of body
unfolding told_piece_len pieces_in
single-made body = refl

same_place : (p : Place) (n c t o l : ℕ) → p.number ≡ n → p.count ≡ c → p.total ≡ t → p.offset ≡ o → p.len ≡ l → p ≡ record { number = n; count = c; total = t; offset = o; len = l }
same_place p n c t o l e f g h i =
    ap {B = Place} (λ x. record { number = x; count = p.count; total = p.total; offset = p.offset; len = p.len }) e
    ∙ (ap {B = Place} (λ x. record { number = n; count = x; total = p.total; offset = p.offset; len = p.len }) f
    ∙ (ap {B = Place} (λ x. record { number = n; count = c; total = x; offset = p.offset; len = p.len }) g
    ∙ (ap {B = Place} (λ x. record { number = n; count = c; total = t; offset = x; len = p.len }) h
    ∙ ap {B = Place} (λ x. record { number = n; count = c; total = t; offset = o; len = x }) i)))

pub alone-made : (p : Place) (body : List ℕ) → is_sound p ≡ true → p.count ≡ 1 → p.len ≡ length body → with_piece (nothing_yet p.count p.total) p body ≡ single_of body
alone-made p body h e l =
    let s : Sound p = Sound-from_test p h in
    let below : p.number < p.count = s.below in
    let number : p.number ≡ 0 = omega arith in
    let start : p.offset ≡ p.number * told_piece_len p = s.begins in
    let none : p.number * told_piece_len p ≡ 0 = ap (λ n. n * told_piece_len p) number ∙ omega arith in
    let offset : p.offset ≡ 0 = start ∙ none in
    let whole : p.offset + p.len ≡ p.total = s.rest (omega arith) in
    let same : p ≡ place_of 0 1 (length body) 0 body = same_place p 0 1 (length body) 0 (length body) number e (omega arith) offset l in
    ap (λ (q : Place). with_piece (nothing_yet q.count q.total) q body) same ∙ single-made body

-- a piece that belongs to a packet has one of its numbers
pub belongs-below : (m : PartialPacket) (p : Place) → belongs m p ≡ true → p.number < count_of m
belongs-below m p h =
    let f : Fits m p = Fits-from_test m p h in
    omega (arith, f.sound.below, f.count)

-- a piece doesn't change how many there are
pub count_of-with_piece : (m : PartialPacket) (p : Place) (bytes : List ℕ) → count_of (with_piece m p bytes) ≡ count_of m
count_of-with_piece m p bytes = length-set m.pieces p.number (Some bytes)

pub count_of-nothing_yet : (count total : ℕ) → count_of (nothing_yet count total) ≡ count
count_of-nothing_yet count total = length-replicate count None
