-- How much memory the pieces that came take, by how many came and how long they are.
use Rattle.std.proofs.Common.{ℕ, zero, suc, ◌≡◌, ◌+◌, ◌*◌, ◌<◌, ◌≤◌, Bool, true, false, List, [], ◌∷◌, ◌++◌, length, drop, take, get_or, Option, Some, None, sym, ap, subst, ◌∙◌, arith}
use Rattle.std.proofs.Math.ListN.{set}
use Rattle.std.proofs.lemmas.List.{length-append, take-append-drop}
use Rattle.std.specs.Prelude.{Result, Ok, Err, OnErr}
use Rattle.enet_fragment.specs.declared.collected.Collected.{Collected}
use Rattle.enet_fragment.specs.declared.place.Place.{Place}
use Rattle.enet_fragment.specs.PartialPacket.{PartialPacket, count_of, piece_at, joined, with_piece}
use Rattle.enet_fragment.specs.Assembly.{making_of, pieces_in}
use Rattle.enet_fragment.specs.Memory.{bytes_come, pieces_come, come_in}
use Rattle.enet_fragment.specs.Collected.{IsThrifty, taken_by}

-- a piece more
joined-set : (pieces : List (Option (List ℕ))) (i : ℕ) (new : List ℕ) → i < length pieces → get_or pieces i None ≡ None → length (joined (set pieces i (Some new))) ≡ length (joined pieces) + length new
unfolding joined
joined-set [] i new h e = absurd (omega arith)
joined-set (None ∷ rest) zero new h e = length-append new (joined rest) ∙ omega arith
joined-set (Some x ∷ rest) zero new h e = cc
joined-set (None ∷ rest) (suc i) new h e = joined-set rest i new (omega arith) e
joined-set (Some x ∷ rest) (suc i) new h e =
    let more : length (joined (set rest i (Some new))) ≡ length (joined rest) + length new = joined-set rest i new (omega arith) e in
    length-append x (joined (set rest i (Some new))) ∙ (omega (arith, length-append x (joined rest)))

come_in-set : (pieces : List (Option (List ℕ))) (i : ℕ) (new : List ℕ) → i < length pieces → get_or pieces i None ≡ None → come_in (set pieces i (Some new)) ≡ come_in pieces + 1
unfolding come_in
come_in-set [] i new h e = absurd (omega arith)
come_in-set (None ∷ rest) zero new h e = omega arith
come_in-set (Some x ∷ rest) zero new h e = cc
come_in-set (None ∷ rest) (suc i) new h e = come_in-set rest i new (omega arith) e
come_in-set (Some x ∷ rest) (suc i) new h e = omega (arith, come_in-set rest i new (omega arith) e)

pub thrifty-after : (m after : PartialPacket) (p : Place) (new : List ℕ) (c : Collected) → after ≡ with_piece m p new → piece_at m p.number ≡ None → p.number < count_of m → IsThrifty (bytes_come m + length new) (pieces_come m + 1) c → IsThrifty (bytes_come after) (pieces_come after) c
thrifty-after m after p new c e none inside t =
    let bytes : bytes_come after ≡ bytes_come m + length new = ap bytes_come e ∙ joined-set m.pieces p.number new inside none in
    let pieces : pieces_come after ≡ pieces_come m + 1 = ap pieces_come e ∙ come_in-set m.pieces p.number new inside none in
    rw (bytes, pieces) t

-- nothing has changed
pub thrifty-still : (bytes after : List ℕ) (came : List Bool) (cut : Option ℕ) (c : Collected) → after ≡ bytes → IsThrifty (bytes_come (making_of bytes came cut)) (pieces_come (making_of bytes came cut)) c → IsThrifty (bytes_come (making_of after came cut)) (pieces_come (making_of after came cut)) c
thrifty-still bytes after came cut c e t =
    subst (λ b. IsThrifty (bytes_come (making_of b came cut)) (pieces_come (making_of b came cut)) c) (sym e) t

-- two facts of a refusal
pub both_refused : {T E P Q R : Type 0} → (r : Result T E) → (P → Q → R) → OnErr r P → OnErr r Q → OnErr r R
both_refused (Ok x) f p q = tt
both_refused (Err y) f p q = f p q

-- no more bytes came than the packet has, and no more pieces
come_in-le : (pieces : List (Option (List ℕ))) → come_in pieces ≤ length pieces
unfolding come_in
come_in-le [] = omega arith
come_in-le (None ∷ rest) = omega (arith, come_in-le rest)
come_in-le (Some x ∷ rest) = omega (arith, come_in-le rest)

shorter : (cut : ℕ) (bytes : List ℕ) → length (take cut bytes) + length (drop cut bytes) ≡ length bytes
shorter cut bytes = sym (length-append (take cut bytes) (drop cut bytes)) ∙ ap (λ (b : List ℕ). length b) (take-append-drop cut bytes)

joined-le : (cut : ℕ) (bytes : List ℕ) (came : List Bool) → length (joined (pieces_in cut bytes came)) ≤ length bytes
unfolding joined pieces_in
joined-le cut bytes [] = omega arith
joined-le cut bytes (false ∷ rest) = omega (arith, shorter cut bytes, joined-le cut (drop cut bytes) rest)
joined-le cut bytes (true ∷ []) = omega (arith, length-append bytes (the_rest cut bytes))
  where
    the_rest : ℕ → List ℕ → List ℕ
    the_rest cut bytes = []
joined-le cut bytes (true ∷ x ∷ rest) =
    let first : List ℕ = take cut bytes in
    let later : List ℕ = joined (pieces_in cut (drop cut bytes) (x ∷ rest)) in
    let both : length (first ++ later) ≡ length first + length later = length-append first later in
    omega (arith, both, shorter cut bytes, joined-le cut (drop cut bytes) (x ∷ rest))

pub bytes_come-making : (cut : Option ℕ) (bytes : List ℕ) (came : List Bool) → bytes_come (making_of bytes came cut) ≤ length bytes
bytes_come-making cut bytes came = joined-le _ bytes came

pub pieces_come-le : (m : PartialPacket) → pieces_come m ≤ count_of m
pieces_come-le m = come_in-le m.pieces

-- what they have taken
pub taken-within : (m : PartialPacket) (c : Collected) → IsThrifty (bytes_come m) (pieces_come m) c → taken_by c ≤ 2 * bytes_come m + 64 * pieces_come m + 512
taken-within m c t = omega (arith, t.taken, t.came, t.pieces_came, t.places)
