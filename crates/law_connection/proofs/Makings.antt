-- The pieces of a packet in the making.
use Rattle.std.proofs.Common.{◌≡◌, ◌≢◌, ℕ, ◌+◌, ◌*◌, ◌<◌, Bool, true, false, List, [], ◌∷◌, ◌++◌, length, take, drop, get_or, refl, sym, ap, subst, ◌∙◌, inl, inr, ◌⊎◌, arith, Option, Some, None, is_some, zero, suc}
use Rattle.std.proofs.Math.ListN.{replicate, length-replicate}
use Rattle.std.proofs.Math.Seq.{take-add}
use Rattle.std.proofs.lemmas.List.{length-set, get_or-set_same, get_or-set_other, drop-drop}
use Rattle.std.specs.Prelude.{◌&&◌}
use Rattle.std.specs.List.{list_all}
use Rattle.enet_fragment.specs.declared.place.Place.{Place}
use Rattle.enet_fragment.specs.PartialPacket.{PartialPacket, count_of, nothing_yet, piece_at, with_piece, joined}
use Rattle.enet_fragment.specs.Whole.{is_whole}
use Rattle.enet_sender.specs.Sender.{piece_of_body}
use Rattle.law_connection.specs.Meant.{has_piece}
use Rattle.enet_receiver.proofs.Maps.{two_numbers}

pub count_of-nothing : (count total : ℕ) → count_of (nothing_yet count total) ≡ count
count_of-nothing count total = length-replicate count None

pub count_of-with : (m : PartialPacket) (p : Place) (bytes : List ℕ) → count_of (with_piece m p bytes) ≡ count_of m
count_of-with m p bytes = length-set m.pieces p.number (Some bytes)

-- nothing is in a packet of which nothing came
pub piece_at-nothing : (count total i : ℕ) → piece_at (nothing_yet count total) i ≡ None
piece_at-nothing count total i = go count i
  where
    go : (n i : ℕ) → get_or (replicate {A = Option (List ℕ)} n None) i None ≡ None
    go zero i = refl
    go (suc n) zero = refl
    go (suc n) (suc i) = go n i

pub has_piece-some : (m : PartialPacket) (i : ℕ) → has_piece m i ≡ true → (bytes : List ℕ) × (piece_at m i ≡ Some bytes)
has_piece-some m i h = go (piece_at m i) refl h
  where
    go : (o : Option (List ℕ)) → piece_at m i ≡ o → is_some o ≡ true → (bytes : List ℕ) × (piece_at m i ≡ Some bytes)
    go None e k = absurd (cc)
    go (Some bytes) e k = (bytes, e)

-- a piece that is there has a number below the count
pub piece_at-below : (m : PartialPacket) (i : ℕ) (bytes : List ℕ) → piece_at m i ≡ Some bytes → i < count_of m
piece_at-below m i bytes e = go m.pieces i e
  where
    go : (xs : List (Option (List ℕ))) (i : ℕ) → get_or xs i None ≡ Some bytes → i < length xs
    go [] i f = absurd (cc)
    go (x ∷ xs) zero f = omega arith
    go (x ∷ xs) (suc i) f = let rest = go xs i f in omega arith

-- a piece that came
pub piece_at-with_same : (m : PartialPacket) (p : Place) (bytes : List ℕ) → p.number < count_of m → piece_at (with_piece m p bytes) p.number ≡ Some bytes
piece_at-with_same m p bytes low = get_or-set_same m.pieces p.number (Some bytes) None low

pub piece_at-with_other : (m : PartialPacket) (p : Place) (bytes : List ℕ) (i : ℕ) → i ≢ p.number → piece_at (with_piece m p bytes) i ≡ piece_at m i
piece_at-with_other m p bytes i apart = get_or-set_other m.pieces p.number i (Some bytes) None apart

pub piece_cases : (m : PartialPacket) (p : Place) (bytes : List ℕ) (i : ℕ) (found : List ℕ) → p.number < count_of m → piece_at (with_piece m p bytes) i ≡ Some found → ((i ≡ p.number) × (bytes ≡ found)) ⊎ ((i ≢ p.number) × (piece_at m i ≡ Some found))
piece_cases m p bytes i found low e = elim (two_numbers i p.number) [
  | inl same ↦ inl (same, (let f : Some bytes ≡ Some found = sym (piece_at-with_same m p bytes low) ∙ ap (piece_at (with_piece m p bytes)) (sym same) ∙ e in cc))
  | inr apart ↦ inr (apart, sym (piece_at-with_other m p bytes i apart) ∙ e)
]

-- what came stays
pub has_piece-with_same : (m : PartialPacket) (p : Place) (bytes : List ℕ) → p.number < count_of m → has_piece (with_piece m p bytes) p.number ≡ true
has_piece-with_same m p bytes low = ap is_some (piece_at-with_same m p bytes low)

pub has_piece-with_more : (m : PartialPacket) (p : Place) (bytes : List ℕ) (i : ℕ) → has_piece m i ≡ true → has_piece (with_piece m p bytes) i ≡ true
has_piece-with_more m p bytes i h = elim (two_numbers i p.number) [
  | inl same ↦
      let there = has_piece-some m i h in
      let low = piece_at-below m i there.0 there.1 in
      subst (λ k. has_piece (with_piece m p bytes) k ≡ true) (sym same) (has_piece-with_same m p bytes (omega arith))
  | inr apart ↦ ap is_some (piece_at-with_other m p bytes i apart) ∙ h
]

parts : (a b : Bool) → (a && b) ≡ true → (a ≡ true) × (b ≡ true)
parts true b k = (refl, k)
parts false b k = absurd (cc)

-- each piece of a whole packet came
pub whole-has : (m : PartialPacket) (i : ℕ) → is_whole m ≡ true → i < count_of m → has_piece m i ≡ true
whole-has m i h low = go m.pieces i h low
  where
    go : (xs : List (Option (List ℕ))) (i : ℕ) → list_all is_some xs ≡ true → i < length xs → is_some (get_or xs i None) ≡ true
    go [] i h low = absurd (omega arith)
    go (x ∷ xs) zero h low = (parts (is_some x) (list_all is_some xs) h).0
    go (x ∷ xs) (suc i) h low = go xs i (parts (is_some x) (list_all is_some xs) h).1 (omega arith)

-- one of another packet is missing
pub missing : (m : PartialPacket) → is_whole m ≡ false → (i : ℕ) × (i < count_of m) × (has_piece m i ≡ false)
missing m h = go m.pieces h
  where
    go : (xs : List (Option (List ℕ))) → list_all is_some xs ≡ false → (i : ℕ) × (i < length xs) × (is_some (get_or xs i None) ≡ false)
    go [] h = absurd (cc)
    go (None ∷ xs) h = (0, omega arith, refl)
    go (Some x ∷ xs) h = let rest = go xs h in let low = rest.1 in (suc rest.0, omega arith, rest.2)

-- the pieces of a body in their order are the body
pub joined-pieces : (size : ℕ) (pieces : List (Option (List ℕ))) (body : List ℕ) → ((i : ℕ) (bytes : List ℕ) → get_or pieces i None ≡ Some bytes → bytes ≡ piece_of_body size body i) → list_all is_some pieces ≡ true → joined pieces ≡ take (length pieces * size) body
unfolding joined
joined-pieces size [] body h w = ap (λ k. take k body) (let e : 0 ≡ 0 * size = omega arith in e)
joined-pieces size (None ∷ pieces) body h w = absurd (cc)
joined-pieces size (Some first ∷ pieces) body h w =
    let none : 0 * size ≡ 0 = omega arith in
    let first_is : first ≡ take size body = h 0 first refl ∙ ap (λ k. take size (drop k body)) none in
    let rest : joined pieces ≡ take (length pieces * size) (drop size body) = joined-pieces size pieces (drop size body) (λ i bytes e. h (suc i) bytes e ∙ further i) w in
    let sum : size + length pieces * size ≡ suc (length pieces) * size = omega arith in
    (λ j. first_is j ++ rest j) ∙ sym (take-add size (length pieces * size) body) ∙ ap (λ k. take k body) sum
  where
    further : (i : ℕ) → piece_of_body size body (suc i) ≡ piece_of_body size (drop size body) i
    further i =
        let sum : suc i * size ≡ size + i * size = omega arith in
        ap (λ k. take size (drop k body)) sum ∙ ap (λ l. take size l) (sym (drop-drop (i * size) size body))
