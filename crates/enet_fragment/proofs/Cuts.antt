-- The pieces that a body is cut into.
use Rattle.std.proofs.Common.{ℕ, zero, suc, ◌≡◌, ◌+◌, ◌-◌, ◌*◌, ◌<◌, ◌≤◌, ◌/◌, List, [], ◌∷◌, ◌++◌, length, take, drop, get_or, min, refl, sym, ap, ◌∙◌, arith, Bool, true, false, cond, eqb, leb, Some, None}
use Rattle.std.proofs.lemmas.Bool.Decides.{nat_tests}
use Rattle.std.proofs.lemmas.List.{length-drop, take-append-drop, drop-drop, take_min}
use Rattle.std.specs.List.{concat}
use Rattle.enet_fragment.specs.Cutting.{cut_up, pieces_of, piece_count, piece_length, planned}

-- as many pieces as have room for all bytes make up the body
pub concat-cut_up : (piece count : ℕ) (bytes : List ℕ) → length bytes ≤ count * piece → concat (cut_up piece count bytes) ≡ bytes
unfolding cut_up
concat-cut_up piece zero [] h = refl
concat-cut_up piece zero (x ∷ rest) h = absurd (omega arith)
concat-cut_up piece (suc n) bytes h =
    let rest : length (drop piece bytes) ≡ length bytes - piece = length-drop piece bytes in
    ap (λ r. take piece bytes ++ r) (concat-cut_up piece n (drop piece bytes) (omega arith)) ∙ take-append-drop piece bytes

-- so many pieces have room for all bytes
enough : (len piece : ℕ) → 0 < piece → len ≤ ((len - 1) / piece + 1) * piece
enough len piece h = omega arith

enough_if : (empty : Bool) (len piece count : ℕ) → empty ≡ eqb len 0 → len ≤ count * piece → len ≤ cond empty 1 count * piece
enough_if true len piece count e h = grind (arith, nat_tests)
enough_if false len piece count e h = h

-- a piece has a length that every mtu allows
some : (mtu : ℕ) → 0 < piece_length mtu
some mtu = grind (arith, nat_tests)

pub at-least : (mtu : ℕ) → 512 ≤ piece_length mtu
at-least mtu = grind (arith, nat_tests)

pub at-most : (mtu : ℕ) → piece_length mtu ≤ 4068
at-most mtu = grind (arith, nat_tests)

-- what every mtu of a peer leaves to a piece
pub usual : (mtu : ℕ) → 540 ≤ mtu → mtu ≤ 4096 → piece_length mtu ≡ mtu - 28
usual mtu h k = grind (arith, nat_tests)

pub piece_count-enough : (len mtu : ℕ) → 28 < mtu → len ≤ piece_count len mtu * piece_length mtu
unfolding piece_count
piece_count-enough len mtu h =
    enough_if (eqb len 0) len (piece_length mtu) ((len - 1) / piece_length mtu + 1) refl (enough len (piece_length mtu) (some mtu))

pub concat-pieces_of : (mtu : ℕ) (body : List ℕ) → 28 < mtu → concat (pieces_of mtu body) ≡ body
concat-pieces_of mtu body h = concat-cut_up (piece_length mtu) _ body (piece_count-enough (length body) mtu h)

-- each piece is where it begins
pub get_or-cut_up : (piece count : ℕ) (bytes : List ℕ) (i : ℕ) → i < count → get_or (cut_up piece count bytes) i [] ≡ take piece (drop (i * piece) bytes)
unfolding cut_up
get_or-cut_up piece zero bytes i h = absurd (omega arith)
get_or-cut_up piece (suc n) bytes zero h =
    let start : 0 ≡ 0 * piece = omega arith in
    ap (λ b. take piece (drop b bytes)) start
get_or-cut_up piece (suc n) bytes (suc i) h =
    let further : piece + i * piece ≡ suc i * piece = omega arith in
    get_or-cut_up piece n (drop piece bytes) i (omega arith)
    ∙ (ap (λ b. take piece b) (drop-drop (i * piece) piece bytes) ∙ ap (λ b. take piece (drop b bytes)) further)

-- what the last piece has is what is left
short : (piece : ℕ) (bytes : List ℕ) → take (min piece (length bytes)) bytes ≡ take piece bytes
short piece bytes = take_min piece bytes

pub span_bytes : (piece count : ℕ) (bytes : List ℕ) (i : ℕ) → i < count → take (min piece (length bytes - i * piece)) (drop (i * piece) bytes) ≡ get_or (cut_up piece count bytes) i []
span_bytes piece count bytes i h =
    ap (λ n. take (min piece n) (drop (i * piece) bytes)) (sym (length-drop (i * piece) bytes))
    ∙ (short piece (drop (i * piece) bytes) ∙ sym (get_or-cut_up piece count bytes i h))

-- what is planned is the count of the pieces
some_of : (fits : Bool) (n count : ℕ) → Some n ≡ cond fits (Some count) None → n ≡ count
some_of true n count e = cc
some_of false n count e = cc

pub planned-some : (len mtu n : ℕ) → Some n ≡ planned len mtu → n ≡ piece_count len mtu
unfolding planned
planned-some len mtu n e = some_of (leb (piece_count len mtu) 16384) n (piece_count len mtu) e
