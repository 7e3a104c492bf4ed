-- Bodies of some bytes and their codes.
use Rattle.std.proofs.Common.{◌≡◌, ℕ, ◌<◌, ◌≤◌, ◌==◌, true, false, IfSome, List, [], ◌∷◌, length, take, min, Option, Some, None, refl, sym, ◌∙◌, ap, subst, arith, lit≤, length-take}
use Rattle.enet_range_coder.specs.Span.{whole, ending}
use Rattle.enet_range_coder.specs.Body.{is_end}
use Rattle.enet_range_coder.specs.Memory.{contexts}
use Rattle.enet_range_coder.specs.Learning.{learned, nothing_learned}
use Rattle.enet_range_coder.specs.Code.{code_of, coded_whole, body_of, opened_whole, answered}
use Rattle.enet_range_coder.proofs.Bodies.{unpack_end}
use Rattle.enet_range_coder.proofs.Round.{end_ends, opens_packed, packs_unpacked}

-- nothing is put out at the end of no bytes
ends_at_once : ending 4 whole.low ≡ []
unfolding ending
ends_at_once = refl

none_opens_to_none : (room : ℕ) → opened_whole room [] ≡ Some []
unfolding opened_whole
none_opens_to_none room =
    unpack_end contexts learned room nothing_learned whole [] (subst (λ (code : List ℕ). is_end whole code ≡ true) ends_at_once (end_ends whole))

none_is_coded_by_none : coded_whole [] ≡ Some []
unfolding coded_whole
none_is_coded_by_none = ap Some ends_at_once

code_some : (body : List ℕ) → 0 < length body → code_of body ≡ coded_whole body
code_some [] l = absurd (omega arith)
code_some (byte ∷ bytes) l = refl

body_some : (room : ℕ) (code : List ℕ) → 0 < length code → body_of room code ≡ opened_whole room code
body_some room [] l = absurd (omega arith)
body_some room (byte ∷ bytes) l = refl

opens_to_some : (room : ℕ) (code : List ℕ) (byte : ℕ) (bytes : List ℕ) → opened_whole room code ≡ Some (byte ∷ bytes) → body_of room code ≡ Some (byte ∷ bytes)
opens_to_some room [] byte bytes e = let f : opened_whole room [] ≡ Some [] = none_opens_to_none room in cc
opens_to_some room (b ∷ bs) byte bytes e = e

is_coded_by_some : (body : List ℕ) (byte : ℕ) (bytes : List ℕ) → coded_whole body ≡ Some (byte ∷ bytes) → code_of body ≡ Some (byte ∷ bytes)
is_coded_by_some [] byte bytes e = let f : coded_whole [] ≡ Some [] = none_is_coded_by_none in cc
is_coded_by_some (b ∷ bs) byte bytes e = e

opens_coded : (body code : List ℕ) (room : ℕ) → length body ≤ room → coded_whole body ≡ Some code → opened_whole room code ≡ Some body
unfolding coded_whole opened_whole
opens_coded body code room l e = (opens_packed contexts learned body room nothing_learned whole code l (record { within = lit≤ tt; wide = lit≤ tt }) e).opens

codes_opened : (room : ℕ) (code body : List ℕ) → opened_whole room code ≡ Some body → coded_whole body ≡ Some code
unfolding coded_whole opened_whole
codes_opened room code body e = (packs_unpacked contexts learned room nothing_learned whole code body e).packs

fits_opened : (room : ℕ) (code body : List ℕ) → opened_whole room code ≡ Some body → length body ≤ room
unfolding opened_whole
fits_opened room code body e = (packs_unpacked contexts learned room nothing_learned whole code body e).fits

pub round_trip : (body code : List ℕ) (room : ℕ) → length body ≤ room → code_of body ≡ Some code → body_of room code ≡ Some body
round_trip [] code room l e = cc
round_trip (byte ∷ bytes) code room l e = opens_to_some room code byte bytes (opens_coded (byte ∷ bytes) code room l e)

pub strict : (body code : List ℕ) (room : ℕ) → body_of room code ≡ Some body → code_of body ≡ Some code
strict body [] room e = cc
strict body (byte ∷ bytes) room e = is_coded_by_some body byte bytes (codes_opened room (byte ∷ bytes) body e)

pub within : (body code : List ℕ) (room : ℕ) → body_of room code ≡ Some body → length body ≤ room
within body [] room e = cc
within body (byte ∷ bytes) room e = fits_opened room (byte ∷ bytes) body e

pub some : (body code : List ℕ) → code_of body ≡ Some code → 0 < length code
some body [] e = let f : body_of (length body) [] ≡ Some body = round_trip body [] (length body) (omega arith) e in cc
some body (byte ∷ bytes) e = omega arith

-- what stands at the front of a buffer
some_taken : (n : ℕ) (out : List ℕ) → 0 < length (take n out) → 0 < n
some_taken n out l = let g : length (take n out) ≡ min n (length out) = length-take n out in omega (arith, l, g)

not_empty : (xs : List ℕ) → (length xs == 0) ≡ false → 0 < length xs
not_empty [] e = cc
not_empty (x ∷ xs) e = omega arith

some_bytes : (body code : List ℕ) → code_of body ≡ Some code → 0 < length body
some_bytes [] code e = cc
some_bytes (byte ∷ bytes) code e = omega arith

pub some_packed : (body out : List ℕ) (answer : Option ℕ) → (length body == 0) ≡ false → IfSome answer (λ n. coded_whole body ≡ Some (take n out)) → IfSome answer (λ n. 0 < n)
some_packed body out None e codes = tt
some_packed body out (Some n) e codes = some_taken n out (some body (take n out) (code_some body (not_empty body e) ∙ codes))

pub some_unpacked : (code out : List ℕ) (room : ℕ) (answer : Option ℕ) → (length code == 0) ≡ false → answered answer out ≡ opened_whole room code → IfSome answer (λ n. 0 < n)
some_unpacked code out room None e opens = tt
some_unpacked code out room (Some n) e opens =
    let opened : body_of room code ≡ Some (take n out) = body_some room code (not_empty code e) ∙ sym opens in
    some_taken n out (some_bytes (take n out) code (strict (take n out) code room opened))
