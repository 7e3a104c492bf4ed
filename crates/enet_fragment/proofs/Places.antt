-- What the test of a place says.
use Rattle.std.proofs.Common.{ℕ, ◌≡◌, ◌+◌, ◌-◌, ◌*◌, ◌/◌, ◌<◌, ◌≤◌, ◌&&◌, Bool, true, false, cond, eqb, ltb, leb, refl, arith, ◌⊎◌, ⊎_elim, Option, Some, None, is_some, List}
use Rattle.std.proofs.lemmas.Bool.Decides.{nat_tests}
use Rattle.enet_fragment.specs.declared.place.Place.{Place}
use Rattle.std.proofs.Math.Nat.{div-le_self}
use borrow.Author.Tests.{ltb-true, leb-true, eqb-true}
use Rattle.enet_fragment.specs.Place.{told_piece_len, is_even, is_of_piece_length, is_sound}
use Rattle.enet_fragment.specs.PartialPacket.{PartialPacket, count_of, piece_at, is_same_cut, belongs, have_others_come, put_outcome}
use Rattle.enet_fragment.specs.declared.assembly.Put.{Put}
use Rattle.enet_fragment.specs.declared.assembly.Put.TheVariants.{New, Again, Whole, Bad}

rest_of : (last : Bool) (n c o l t k : ℕ) → last ≡ eqb (n + 1) c → l ≡ cond last (t - o) k → o + l ≤ t → n + 1 ≡ c → o + l ≡ t
rest_of last n c o l t k e f g h = grind (arith, nat_tests)

full_of : (last : Bool) (n c o l t k : ℕ) → last ≡ eqb (n + 1) c → l ≡ cond last (t - o) k → n + 1 < c → l ≡ k
full_of last n c o l t k e f h = grind (arith, nat_tests)

-- what a piece tells is at most where it ends
cases : (last : Bool) (o n l : ℕ) → cond last (o / n) l ≤ o + l
cases true o n l = omega (arith, div-le_self o n)
cases false o n l = omega arith

pub told_piece_len-le : (p : Place) → told_piece_len p ≤ p.offset + p.len
unfolding told_piece_len
told_piece_len-le p = cases (eqb (p.number + 1) p.count) p.offset (p.count - 1) p.len

-- the parts of a conjunction of tests
and_first : (a b : Bool) → (a && b) ≡ true → a ≡ true
and_first true b h = refl
and_first false b h = h

and_second : (a b : Bool) → (a && b) ≡ true → b ≡ true
and_second true b h = h
and_second false b h = cc

-- what an evenly cut packet says of the place of one of its pieces
pub record Sound (p : Place) : Type 0 where
  pub below : p.number < p.count
  pub within_limit : p.count ≤ 16384
  pub ends : p.offset + p.len ≤ p.total
  pub begins : p.offset ≡ p.number * told_piece_len p
  pub rest : p.number + 1 ≡ p.count → p.offset + p.len ≡ p.total
  pub full : p.number + 1 < p.count → p.len ≡ told_piece_len p
  pub room : (p.count - 1) * told_piece_len p ≤ p.total

pub Sound-from_test : (p : Place) → is_sound p ≡ true → Sound p
unfolding is_sound is_even
Sound-from_test p h =
    let below : Bool = ltb p.number p.count in
    let limit : Bool = leb p.count 16384 in
    let ends : Bool = leb (p.offset + p.len) p.total in
    let begins : Bool = eqb p.offset (p.number * told_piece_len p) in
    let long : Bool = eqb p.len (cond (eqb (p.number + 1) p.count) (p.total - p.offset) (told_piece_len p)) in
    let room : Bool = leb ((p.count - 1) * told_piece_len p) p.total in
    let even = and_first (below && limit && ends && (begins && long && room)) (is_of_piece_length p) h in
    let h1 = and_first (below && limit && ends) (begins && long && room) even in
    let h2 = and_second (below && limit && ends) (begins && long && room) even in
    let is_below : ltb p.number p.count ≡ true = and_first below limit (and_first (below && limit) ends h1) in
    let is_limit : leb p.count 16384 ≡ true = and_second below limit (and_first (below && limit) ends h1) in
    let is_ends : leb (p.offset + p.len) p.total ≡ true = and_second (below && limit) ends h1 in
    let is_begins : eqb p.offset (p.number * told_piece_len p) ≡ true = and_first begins long (and_first (begins && long) room h2) in
    let is_long : eqb p.len (cond (eqb (p.number + 1) p.count) (p.total - p.offset) (told_piece_len p)) ≡ true = and_second begins long (and_first (begins && long) room h2) in
    let is_room : leb ((p.count - 1) * told_piece_len p) p.total ≡ true = and_second (begins && long) room h2 in
    let length_is : p.len ≡ cond (eqb (p.number + 1) p.count) (p.total - p.offset) (told_piece_len p) = eqb-true _ _ is_long in
    let ends_in : p.offset + p.len ≤ p.total = leb-true _ _ is_ends in
    record {
      below = ltb-true _ _ is_below;
      within_limit = leb-true _ _ is_limit;
      ends = ends_in;
      begins = eqb-true _ _ is_begins;
      rest = λ e. rest_of (eqb (p.number + 1) p.count) _ _ p.offset p.len p.total (told_piece_len p) refl length_is ends_in e;
      full = λ e. full_of (eqb (p.number + 1) p.count) _ _ p.offset p.len p.total (told_piece_len p) refl length_is e;
      room = leb-true _ _ is_room;
    }

-- what the test of a piece against a packet says
pub record Fits (m : PartialPacket) (p : Place) : Type 0 where
  pub sound : Sound p
  pub count : p.count ≡ count_of m
  pub total : p.total ≡ m.total
  pub cut : is_same_cut m.cut (told_piece_len p) ≡ true

pub Fits-from_test : (m : PartialPacket) (p : Place) → belongs m p ≡ true → Fits m p
unfolding belongs
Fits-from_test m p h =
    let sound : Bool = is_sound p in
    let count : Bool = eqb p.count (count_of m) in
    let total : Bool = eqb p.total m.total in
    let cut : Bool = is_same_cut m.cut (told_piece_len p) in
    let size = and_second sound (count && total) (and_first (sound && (count && total)) cut h) in
    let is_count : eqb p.count (count_of m) ≡ true = and_first count total size in
    let is_total : eqb p.total m.total ≡ true = and_second count total size in
    record {
      sound = Sound-from_test p (and_first sound (count && total) (and_first (sound && (count && total)) cut h));
      count = eqb-true _ _ is_count;
      total = eqb-true _ _ is_total;
      cut = and_second (sound && (count && total)) cut h;
    }

-- the outcomes
pub outcome_again : (m : PartialPacket) (p : Place) → belongs m p ≡ true → is_some (piece_at m p.number) ≡ true → Again ≡ put_outcome m p
unfolding put_outcome
outcome_again m p a b = rw (a, b) refl

pub outcome_whole : (m : PartialPacket) (p : Place) → belongs m p ≡ true → is_some (piece_at m p.number) ≡ false → have_others_come m p.number ≡ true → Whole ≡ put_outcome m p
unfolding put_outcome
outcome_whole m p a b c = rw (a, b, c) refl

pub outcome_new : (m : PartialPacket) (p : Place) → belongs m p ≡ true → is_some (piece_at m p.number) ≡ false → have_others_come m p.number ≡ false → New ≡ put_outcome m p
unfolding put_outcome
outcome_new m p a b c = rw (a, b, c) refl

taken : (b : Bool) (came : Option (List ℕ)) (others : Bool) (r : Put) → r ≡ cond b (cond (is_some came) Again (cond others Whole New)) Bad → (r ≡ New) ⊎ (r ≡ Whole) → (b ≡ true) × (came ≡ None)
taken true None others r e h = (refl, refl)
taken true (Some x) others r e h = ⊎_elim (λ f. cc) (λ f. cc) h
taken false came others r e h = ⊎_elim (λ f. cc) (λ f. cc) h

-- a piece that is put belongs to the packet and had not come
pub put_outcome-taken : (m : PartialPacket) (p : Place) (r : Put) → r ≡ put_outcome m p → (r ≡ New) ⊎ (r ≡ Whole) → (belongs m p ≡ true) × (piece_at m p.number ≡ None)
unfolding put_outcome
put_outcome-taken m p r e h = taken (belongs m p) (piece_at m p.number) (have_others_come m p.number) r e h

pub outcome_bad : (m : PartialPacket) (p : Place) → belongs m p ≡ false → Bad ≡ put_outcome m p
unfolding put_outcome
outcome_bad m p a = rw a refl
