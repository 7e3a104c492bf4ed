-- The packet that an assembly or a gathering stands for, where every piece has come.
use Rattle.std.proofs.Common.{ℕ, zero, suc, ◌≡◌, ◌-◌, ◌<◌, ◌≤◌, ◌^◌, ◌&&◌, Bool, true, false, eqb, ltb, List, [], ◌∷◌, length, get_or, Option, Some, None, is_some, IsSome, refl, sym, ap, subst, ◌∙◌, arith, IsTrue, ◌↔◌}
use Rattle.std.proofs.Math.ListN.{set, replicate}
use Rattle.std.proofs.lemmas.List.{length-set}
use Rattle.std.proofs.lemmas.List.Sums.{list_all-from_AllPass}
use Rattle.std.proofs.lemmas.Bool.Decides.{nat_tests}
use borrow.Author.Tests.{eqb-true}
use Rattle.std.specs.List.{list_all}
use Rattle.enet_fragment.specs.declared.place.Place.{Place}
use Rattle.enet_fragment.specs.declared.partial_packet.State.{State}
use Rattle.enet_fragment.specs.declared.partial_packet.State.TheVariants as states
use Rattle.enet_fragment.specs.Place.{told_piece_len, is_sound}
use Rattle.enet_fragment.specs.PartialPacket.{PartialPacket, count_of, piece_at, IsWhole, is_same_cut, belongs, with_piece, without_piece}
use Rattle.enet_fragment.specs.Assembly.{making_of, missing_in, AreKept}
use Rattle.enet_fragment.specs.Collected.{written_at}
use Rattle.enet_fragment.specs.Whole.{is_whole, whole_of}
use Rattle.enet_fragment.specs.Gathered.{gathered, IsKept}
use Rattle.enet_fragment.proofs.Places.{Fits, Fits-from_test}
use Rattle.enet_fragment.proofs.Pieces.{length-pieces_in, list_all-pieces_in}
use Rattle.enet_fragment.proofs.Views.{AreKept-after, making_of-after, IsWhole-counted, mark_of, others_of, inside_of}
use Rattle.enet_fragment.proofs.Laws.{IsWhole-tested, count_of-whole_of, piece_at-whole_of, belongs-below, is_whole-with_piece}

-- no mark is missing
all_marks : (came : List Bool) → missing_in came ≡ 0 → replicate (length came) true ≡ came
unfolding missing_in
all_marks [] h = refl
all_marks (true ∷ rest) h = ap (λ r. true ∷ r) (all_marks rest h)
all_marks (false ∷ rest) h = cc

-- an assembly of which no mark is missing
pub whole_of-making : (bytes : List ℕ) (came : List Bool) (missing : ℕ) (cut : Option ℕ) (m : PartialPacket) → making_of bytes came cut ≡ m → missing ≡ missing_in came → IsWhole m → whole_of bytes (count_of m) m.cut ≡ m
whole_of-making bytes came missing cut m v e w =
    let tests : list_all is_some m.pieces ≡ eqb (missing_in came) 0 = ap (λ (q : PartialPacket). list_all is_some q.pieces) (sym v) ∙ list_all-pieces_in _ bytes came in
    let none : missing_in came ≡ 0 = eqb-true _ _ (sym tests ∙ list_all-from_AllPass is_some m.pieces w) in
    let many : count_of m ≡ length came = ap count_of (sym v) ∙ length-pieces_in _ bytes came in
    let told : m.cut ≡ cut = ap (λ (q : PartialPacket). q.cut) (sym v) in
    ap (λ n. whole_of bytes n m.cut) many
    ∙ (ap (λ c. whole_of bytes (length came) c) told
    ∙ (ap (λ marks. making_of bytes marks cut) (all_marks came none) ∙ v))

-- which pieces can be those of a whole packet
pub belongs-whole_of : (body : List ℕ) (count : ℕ) (cut : Option ℕ) (p : Place) → belongs (whole_of body count cut) p ≡ (is_sound p && (eqb p.count count && eqb p.total (length body)) && is_same_cut cut (told_piece_len p))
unfolding belongs
belongs-whole_of body count cut p =
    ap (λ n. is_sound p && (eqb p.count n && eqb p.total (length body)) && is_same_cut cut (told_piece_len p)) (count_of-whole_of body count cut)

-- a piece that is taken back as soon as it is put, where another one has told the cut
told : (known : Option ℕ) (cut : ℕ) → IsSome known → is_same_cut known cut ≡ true → Some cut ≡ known
told None cut s h = cc
told (Some k) cut s h = ap Some (sym (eqb-true k cut h))

back : (pieces : List (Option (List ℕ))) (i : ℕ) (x : Option (List ℕ)) → get_or pieces i None ≡ None → set (set pieces i x) i None ≡ pieces
back [] i x h = refl
back (y ∷ rest) zero x h = ap (λ z. z ∷ rest) (sym h)
back (y ∷ rest) (suc i) x h = ap (λ r. y ∷ r) (back rest i x h)

pub without_piece-with_piece : (m : PartialPacket) (p : Place) (bytes : List ℕ) → belongs m p ≡ true → piece_at m p.number ≡ None → IsSome m.cut → without_piece (with_piece m p bytes) p.number ≡ m
without_piece-with_piece m p bytes b e s =
    let f : Fits m p = Fits-from_test m p b in
    ap (λ c. record { total = m.total; cut = c; pieces = set (set m.pieces p.number (Some bytes)) p.number None }) (told m.cut (told_piece_len p) s f.cut)
    ∙ ap (λ q. record { total = m.total; cut = m.cut; pieces = q }) (back m.pieces p.number (Some bytes) e)

-- what a gathering's state stands for, where it is whole
pub whole_seen : (s : State) (m : PartialPacket) (body : List ℕ) (count : ℕ) (cut : Option ℕ) → gathered s ≡ m → s ≡ states.Whole body count cut → whole_of body count cut ≡ m
whole_seen s m body count cut v e = sym (ap gathered e) ∙ v

pub kept_seen : (s : State) (body : List ℕ) (count : ℕ) (cut : Option ℕ) → IsKept s → s ≡ states.Whole body count cut → (1 ≤ count) × (length body < 2 ^ 32)
kept_seen s body count cut k e = subst (λ t. IsKept t) e k

-- of a whole packet no piece is missing
pub whole-misses_none : (body : List ℕ) (count : ℕ) (cut : Option ℕ) (m : PartialPacket) (p : Place) → whole_of body count cut ≡ m → belongs m p ≡ true → is_some (piece_at m p.number) ≡ true
whole-misses_none body count cut m p v b =
    let many : count_of m ≡ count = ap count_of (sym v) ∙ count_of-whole_of body count cut in
    let below : p.number < count_of m = belongs-below m p b in
    let inside : ltb p.number count ≡ true = grind (arith, nat_tests) in
    ap (λ (q : PartialPacket). is_some (piece_at q p.number)) (sym v) ∙ (piece_at-whole_of body count cut p.number ∙ inside)

-- the refused test
refused : (b : Bool) → (IsTrue b → ⊥) → b ≡ false
refused true h = absurd (h refl)
refused false h = refl

pub is_whole-refused : (m : PartialPacket) (r : Bool) → IsTrue r ↔ IsWhole m → r ≡ false → is_whole m ≡ false
is_whole-refused m r h e =
    refused (is_whole m) (λ t.
    let told : r ≡ true = h.1 ((IsWhole-tested m).0 t) in
    cc)

-- tests that are made one after another
pub both : (value first second result : Bool) → value ≡ result → result ≡ second → first ≡ true → value ≡ (first && second)
both value first second result e f h = rw h (e ∙ f)

pub neither : (value first second : Bool) → value ≡ false → first ≡ false → value ≡ (first && second)
neither value first second e h = rw h e

pub last_test : (value tests last belongs : Bool) → value ≡ tests → value ≡ true → belongs ≡ (tests && last) → last ≡ belongs
last_test value true last belongs e h f = sym f
last_test value false last belongs e h f = cc

pub no_last_test : (value tests last belongs : Bool) → value ≡ tests → value ≡ false → belongs ≡ (tests && last) → value ≡ belongs
no_last_test value true last belongs e h f = cc
no_last_test value false last belongs e h f = h ∙ sym f

-- a packet of which one piece was missing, with this one
pub last-whole : (bytes new after : List ℕ) (came : List Bool) (missing : ℕ) (cut : Option ℕ) (m : PartialPacket) (p : Place) (told : ℕ) → after ≡ written_at p.offset new bytes → told ≡ told_piece_len p → AreKept bytes came missing cut → making_of bytes came cut ≡ m → belongs m p ≡ true → piece_at m p.number ≡ None → p.len ≡ length new → missing ≡ 1 → whole_of after (count_of m) (Some told) ≡ with_piece m p new
last-whole bytes new after came missing cut m p told e f k v b none l one =
    let marks : List Bool = set came p.number true in
    let made : making_of after marks (Some told) ≡ with_piece m p new = making_of-after bytes new after came missing cut m p told e f k v b l in
    let less : AreKept after marks (missing - 1) (Some told) = AreKept-after bytes new after came missing cut m p told e f k v b none l in
    let all : (missing - 1) ≡ 0 = omega arith in
    let whole : IsWhole (with_piece m p new) = (IsWhole-counted after marks (missing - 1) (Some told) (with_piece m p new) made less.counted).0 (ap (λ n. eqb n 0) all) in
    let many : count_of (with_piece m p new) ≡ count_of m = length-set m.pieces p.number (Some new) in
    ap (λ n. whole_of after n (Some told)) (sym many)
    ∙ (ap (λ t. whole_of after (count_of (with_piece m p new)) (Some t)) f
    ∙ whole_of-making after marks (missing - 1) (Some told) (with_piece m p new) made less.counted whole)

-- a packet that misses a piece isn't whole
misses : (pieces : List (Option (List ℕ))) (i : ℕ) → i < length pieces → get_or pieces i None ≡ None → list_all is_some pieces ≡ false
misses [] i h e = absurd (omega arith)
misses (None ∷ rest) i h e = refl
misses (Some x ∷ rest) zero h e = cc
misses (Some x ∷ rest) (suc i) h e = misses rest i (omega arith) e

pub is_whole-missing : (m : PartialPacket) (p : Place) → belongs m p ≡ true → piece_at m p.number ≡ None → is_whole m ≡ false
is_whole-missing m p b none = misses m.pieces p.number (belongs-below m p b) none

-- nor does a piece make it whole that isn't the last one missing
pub is_whole-still : (bytes new : List ℕ) (came : List Bool) (missing : ℕ) (cut : Option ℕ) (m after : PartialPacket) (p : Place) → after ≡ with_piece m p new → AreKept bytes came missing cut → making_of bytes came cut ≡ m → belongs m p ≡ true → piece_at m p.number ≡ None → eqb missing 1 ≡ false → is_whole after ≡ false
is_whole-still bytes new came missing cut m after p e k v b none more =
    let unmarked : get_or came p.number false ≡ false = sym (mark_of bytes came cut m p.number v) ∙ ap is_some none in
    ap (λ (q : PartialPacket). is_whole q) e
    ∙ (is_whole-with_piece m p new
    ∙ (others_of bytes came missing cut m p.number v k.counted (inside_of bytes came cut m p v b) unmarked ∙ more))
