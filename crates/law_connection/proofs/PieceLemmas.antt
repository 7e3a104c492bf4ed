-- The commands of what was submitted, as they come at the receiver.
use Rattle.std.proofs.Common.{◌≡◌, ℕ, zero, suc, ◌+◌, ◌-◌, ◌*◌, ◌/◌, ◌%◌, ◌<◌, ◌≤◌, ◌&&◌, ◌||◌, Bool, eqb, leb, ltb, true, false, cond, min, List, [], ◌∷◌, ◌++◌, length, drop, refl, sym, ap, subst, ◌∙◌, inl, inr, arith, Option, Some, None, mul-div_cancel, mul_comm, mul-le-mul_right}
use Rattle.std.proofs.lemmas.Bool.Decides.{nat_tests}
use Rattle.std.proofs.lemmas.List.{length-take, length-drop}
use Rattle.enet_fragment.specs.declared.place.Place.{Place}
use Rattle.enet_fragment.specs.Place.{told_piece_len, is_even, is_of_piece_length, is_sound}
use Rattle.std.specs.Option.{is_none}
use Rattle.enet_seq.specs.Numbering.{unbounded}
use Rattle.enet_fragment.specs.Cutting.{piece_length}
use Rattle.enet_fragment.proofs.Cuts.{at-least, at-most}
use Rattle.enet_fragment.specs.PartialPacket.{PartialPacket, with_piece, nothing_yet}
use Rattle.enet_fragment.specs.declared.data.DataCommand.{DataCommand}
use Rattle.enet_fragment.specs.DataCommand.{piece_of, place_in_packet}
use Rattle.enet_packets.specs.declared.incoming_packet.IncomingPacket.{IncomingPacket}
use Rattle.enet_receiver.specs.DataOutcome.{earlier_or_new, with_more}
use Rattle.enet_sender.specs.CommandChoice.{ChosenPacket, is_long}
use Rattle.enet_sender.specs.Sender.{command_at, piece_of_body, fragment_at}
use Rattle.law_connection.specs.Link.{wired}
pub use Rattle.law_connection.specs.Meant.{IsPlain, IsPieceOf}
use Rattle.law_connection.proofs.Lists.{Has, Cuts, two_cuts}
use Rattle.law_connection.proofs.Makings.{count_of-nothing, count_of-with, piece_at-nothing, piece_cases}
use Rattle.law_connection.proofs.CarriageLemmas.{IsCut, AllCut, Stands, Stands-more, command_count-append, command_count-reliable, command_count-unreliable, count_after-append}
use Rattle.law_connection.proofs.ContentLemmas.{Matches}
use Rattle.law_connection.specs.Follows.{command_count, count_after}

pub IsPieceOf-more : (mtu : ℕ) (cs : List ChosenPacket) (x : ChosenPacket) (d : DataCommand) → IsPieceOf mtu cs d → IsPieceOf mtu (cs ++ x ∷ []) d
IsPieceOf-more mtu cs x d p = record { packet = p.packet; number = p.number; count = p.count; index = p.index; stands = Stands-more cs x p.number p.count p.packet p.stands; inside = p.inside; plain = p.plain; command = p.command }

-- what its fields say
pub record Says (mtu : ℕ) (d : DataCommand) (c : ChosenPacket) (number count index : ℕ) : Type 0 where
  pub reliable : d.reliable ≡ c.reliable
  pub own : d.number ≡ cond c.reliable (number + (index + 1)) number
  pub unreliable : d.unreliable ≡ cond c.reliable 0 (count + 1)
  pub pieces : (piece_of (wired d)).count ≡ c.pieces
  pub index_is : (piece_of (wired d)).number ≡ index
  pub start : c.reliable ≡ true → (piece_of (wired d)).start ≡ (number + 1) % 65536
  pub body : (wired d).body ≡ piece_of_body (piece_length mtu) c.packet.body index
  pub single : is_none (wired d).fragment ≡ true → c.pieces ≡ 1

Says-command : (mtu : ℕ) (c : ChosenPacket) (number count index : ℕ) → index < c.pieces → IsPlain mtu c → Says mtu (command_at unbounded mtu (record { number = number; unreliable = count }) c index) c number count index
Says-command mtu c number count index inside plain =
    elim (is_long mtu c.packet) as (λ b. is_long mtu c.packet ≡ b → Says mtu (record {
      reliable = c.reliable;
      number = cond c.reliable (number + (index + 1)) number;
      unreliable = cond c.reliable 0 (count + 1);
      fragment = cond b (Some (fragment_at (piece_length mtu) c (cond c.reliable (number + 1) (count + 1)) index)) None;
      body = piece_of_body (piece_length mtu) c.packet.body index;
    }) c number count index) [
      | true ↦ λ t. record {
        reliable = refl;
        own = refl;
        unreliable = refl;
        pieces = refl;
        index_is = refl;
        body = refl;
        single = λ z. absurd (cc);
        start = λ r. ap (λ b. cond b (cond b (number + 1) (count + 1) % 65536) (cond b (number + 1) (count + 1))) r;
      }
      | false ↦ λ t.
          let one = plain t in
          let first : index ≡ 0 = omega arith in
          record {
            reliable = refl;
            own = refl;
            unreliable = refl;
            pieces = sym one;
            index_is = sym first;
            body = refl;
            single = λ z. one;
            start = λ r. ap (λ b. cond b (number + (index + 1)) number % 65536) r ∙ ap (λ i. (number + (i + 1)) % 65536) first;
          }
    ] refl

pub says : (mtu : ℕ) (cs : List ChosenPacket) (d : DataCommand) → (p : IsPieceOf mtu cs d) → Says mtu d p.packet p.number p.count p.index
says mtu cs d p = subst (λ x. Says mtu x p.packet p.number p.count p.index) (sym p.command) (Says-command mtu p.packet p.number p.count p.index p.inside p.plain)

-- a piece of a long packet, and the place that it says it has
abbrev place_at : ℕ → ChosenPacket → ℕ → Place
place_at size c index = record { number = index; count = c.pieces; total = length c.packet.body; offset = index * size; len = length (piece_of_body size c.packet.body index) }

piece-len : (size : ℕ) (body : List ℕ) (i : ℕ) → length (piece_of_body size body i) ≡ min size (length body - i * size)
piece-len size body i = length-take size (drop (i * size) body) ∙ ap (min size) (length-drop (i * size) body)

-- such a place, by its numbers alone
record AtPlace (size total count index len : ℕ) : Type 0 where
  inside : index < count
  few : count ≤ 16384
  covered : total ≤ count * size
  tight : (count - 1) * size ≤ total
  more : size < total
  len_is : len ≡ min size (total - index * size)
  least : 512 ≤ size
  most : size ≤ 4068

at_place : (mtu : ℕ) (c : ChosenPacket) (index : ℕ) → index < c.pieces → IsCut mtu c → is_long mtu c.packet ≡ true → AtPlace (piece_length mtu) (length c.packet.body) c.pieces index (length (piece_of_body (piece_length mtu) c.packet.body index))
at_place mtu c index inside cut long = record {
  inside = inside;
  few = cut.few;
  covered = cut.covered;
  tight = cut.tight;
  more = above (piece_length mtu) (length c.packet.body) long;
  len_is = piece-len (piece_length mtu) c.packet.body index;
  least = at-least mtu;
  most = at-most mtu;
}
  where
    above : (m n : ℕ) → ltb m n ≡ true → m < n
    above m n t = grind (arith, nat_tests)

eqb-is : (m n : ℕ) → eqb m n ≡ true → m ≡ n
eqb-is m n t = grind (arith, nat_tests)

is-eqb : (m n : ℕ) → m ≡ n → eqb m n ≡ true
is-eqb m n t = grind (arith, nat_tests)

le-leb : (m n : ℕ) → m ≤ n → leb m n ≡ true
le-leb m n t = grind (arith, nat_tests)

lt-ltb : (m n : ℕ) → m < n → ltb m n ≡ true
lt-ltb m n t = grind (arith, nat_tests)

-- what it tells of how long each piece is
told_by : (size total count index len : ℕ) → AtPlace size total count index len → cond (eqb (index + 1) count) (index * size / (count - 1)) len ≡ size
told_by size total count index len a =
    elim (eqb (index + 1) count) as (λ b. eqb (index + 1) count ≡ b → cond b (index * size / (count - 1)) len ≡ size) [
      | true ↦ λ e.
          let last : index + 1 ≡ count = eqb-is (index + 1) count e in
          let before : index ≡ count - 1 = omega arith in
          ap (λ k. index * size / k) (sym before) ∙ shared index (some_before index count last a.more a.covered)
      | false ↦ λ e. a.len_is ∙ fills (below index count a.inside e) a.tight
    ] refl
  where
    below : (i n : ℕ) → i < n → eqb (i + 1) n ≡ false → i + 1 < n
    below i n low e = grind (arith, nat_tests)

    some_before : (i n : ℕ) → i + 1 ≡ n → size < total → total ≤ n * size → 0 < i
    some_before zero n last more covered =
        let one : n * size ≡ 1 * size = ap (λ k. k * size) (sym last) in
        absurd (omega arith)
    some_before (suc i) n last more covered = omega arith

    shared : (i : ℕ) → 0 < i → i * size / i ≡ size
    shared i some' = ap (λ k. k / i) (mul_comm i size) ∙ mul-div_cancel size some'

    least : (m k : ℕ) → m ≤ k → min m k ≡ m
    least m k h = grind (arith, nat_tests)

    fills : index + 1 < count → (count - 1) * size ≤ total → min size (total - index * size) ≡ size
    fills low tight =
        let up : (index + 1) * size ≤ (count - 1) * size = mul-le-mul_right size (let z : index + 1 ≤ count - 1 = omega arith in z) in
        least size (total - index * size) (omega arith)

-- it is sound
sound_by : (size total count index len : ℕ) → AtPlace size total count index len
    → (ltb index count && leb count 16384 && leb (index * size + len) total && (eqb (index * size) (index * size) && eqb len (cond (eqb (index + 1) count) (total - index * size) size) && leb ((count - 1) * size) total) && (eqb count 1 || (leb 512 size && leb size 4068 && leb len 4068))) ≡ true
sound_by size total count index len a =
    let t1 : ltb index count ≡ true = lt-ltb index count a.inside in
    let t2 : leb count 16384 ≡ true = le-leb count 16384 a.few in
    let t3 : leb (index * size + len) total ≡ true = le-leb (index * size + len) total ends in
    let t4 : eqb (index * size) (index * size) ≡ true = is-eqb (index * size) (index * size) refl in
    let t5 : eqb len (cond (eqb (index + 1) count) (total - index * size) size) ≡ true = is-eqb len _ len_as in
    let t6 : leb ((count - 1) * size) total ≡ true = le-leb ((count - 1) * size) total a.tight in
    let t7 : leb 512 size ≡ true = le-leb 512 size a.least in
    let t8 : leb size 4068 ≡ true = le-leb size 4068 a.most in
    let t9 : leb len 4068 ≡ true = le-leb len 4068 short in
    let t10 : (eqb count 1 || (leb 512 size && leb size 4068 && leb len 4068)) ≡ true = (λ i. eqb count 1 || (t7 i && t8 i && t9 i)) ∙ either (eqb count 1) in
    (λ i. t1 i && t2 i && t3 i && (t4 i && t5 i && t6 i) && t10 i)
  where
    either : (b : Bool) → (b || true) ≡ true
    either true = refl
    either false = refl

    least_by : (m k : ℕ) → min m k ≤ m
    least_by m k = grind (arith, nat_tests)

    short : len ≤ 4068
    short =
        let is = a.len_is in
        let most = a.most in
        let less = least_by size (total - index * size) in
        omega arith

    up : index * size ≤ (count - 1) * size
    up = let inside = a.inside in mul-le-mul_right size (let z : index ≤ count - 1 = omega arith in z)

    least_left : (m k : ℕ) → min m k ≤ k
    least_left m k = grind (arith, nat_tests)

    ends : index * size + len ≤ total
    ends =
        let low = up in
        let tight = a.tight in
        let is = a.len_is in
        let short = least_left size (total - index * size) in
        omega arith

    least_right : (m k : ℕ) → k ≤ m → min m k ≡ k
    least_right m k h = grind (arith, nat_tests)

    least : (m k : ℕ) → m ≤ k → min m k ≡ m
    least m k h = grind (arith, nat_tests)

    below : (i n : ℕ) → i < n → eqb (i + 1) n ≡ false → i + 1 < n
    below i n low e = grind (arith, nat_tests)

    len_as : len ≡ cond (eqb (index + 1) count) (total - index * size) size
    len_as = elim (eqb (index + 1) count) as (λ b. eqb (index + 1) count ≡ b → len ≡ cond b (total - index * size) size) [
      | true ↦ λ e.
          let last : index + 1 ≡ count = eqb-is (index + 1) count e in
          let all : count * size ≡ (index + 1) * size = ap (λ k. k * size) (sym last) in
          let covered = a.covered in
          a.len_is ∙ least_right size (total - index * size) (omega arith)
      | false ↦ λ e.
          let low : index + 1 < count = below index count a.inside e in
          let up : (index + 1) * size ≤ (count - 1) * size = mul-le-mul_right size (let z : index + 1 ≤ count - 1 = omega arith in z) in
          let tight = a.tight in
          a.len_is ∙ least size (total - index * size) (omega arith)
    ] refl

-- what a command tells of its packet's length, and of that of each piece
pub record Tells (mtu : ℕ) (d : DataCommand) (c : ChosenPacket) : Type 0 where
  pub total : (piece_of (wired d)).total ≡ length c.packet.body
  pub cut : is_long mtu c.packet ≡ true → told_piece_len (place_in_packet (wired d)) ≡ piece_length mtu
  pub sound : is_sound (place_in_packet (wired d)) ≡ true

told-long : (mtu : ℕ) (c : ChosenPacket) (index : ℕ) → index < c.pieces → IsCut mtu c → is_long mtu c.packet ≡ true → told_piece_len (place_at (piece_length mtu) c index) ≡ piece_length mtu
unfolding told_piece_len
told-long mtu c index inside cut long = told_by _ _ _ _ _ (at_place mtu c index inside cut long)

sound-long : (mtu : ℕ) (c : ChosenPacket) (index : ℕ) → index < c.pieces → IsCut mtu c → is_long mtu c.packet ≡ true → is_sound (place_at (piece_length mtu) c index) ≡ true
unfolding is_sound is_even is_of_piece_length
sound-long mtu c index inside cut long =
    let size = piece_length mtu in
    let total = length c.packet.body in
    let len = length (piece_of_body size c.packet.body index) in
    let place = place_at size c index in
    subst (λ t. (ltb index c.pieces && leb c.pieces 16384 && leb (index * size + len) total && (eqb (index * size) (index * t) && eqb len (cond (eqb (index + 1) c.pieces) (total - index * size) t) && leb ((c.pieces - 1) * t) total) && (eqb c.pieces 1 || (leb 512 t && leb t 4068 && leb len 4068))) ≡ true)
    (sym (told-long mtu c index inside cut long)) (sound_by _ _ _ _ _ (at_place mtu c index inside cut long))

-- a packet that isn't cut is its own only piece
sound-only : (len : ℕ) → is_sound (record { number = 0; count = 1; total = len; offset = 0; len = len }) ≡ true
unfolding is_sound is_even is_of_piece_length
sound-only len =
    let cut = told_piece_len (record { number = 0; count = 1; total = len; offset = 0; len = len }) in
    let t1 : leb (0 + len) len ≡ true = le-leb (0 + len) len (omega arith) in
    let t2 : eqb 0 (0 * cut) ≡ true = is-eqb 0 (0 * cut) (omega arith) in
    let t3 : eqb len (len - 0) ≡ true = is-eqb len (len - 0) (omega arith) in
    let t4 : leb ((1 - 1) * cut) len ≡ true = le-leb ((1 - 1) * cut) len (omega arith) in
    (λ i. t1 i && (t2 i && t3 i && t4 i) && true)

Tells-command : (mtu : ℕ) (c : ChosenPacket) (number count index : ℕ) → index < c.pieces → IsPlain mtu c → IsCut mtu c → Tells mtu (command_at unbounded mtu (record { number = number; unreliable = count }) c index) c
Tells-command mtu c number count index inside plain cut =
    elim (is_long mtu c.packet) as (λ b. is_long mtu c.packet ≡ b → Tells mtu (record {
      reliable = c.reliable;
      number = cond c.reliable (number + (index + 1)) number;
      unreliable = cond c.reliable 0 (count + 1);
      fragment = cond b (Some (fragment_at (piece_length mtu) c (cond c.reliable (number + 1) (count + 1)) index)) None;
      body = piece_of_body (piece_length mtu) c.packet.body index;
    }) c) [
      | true ↦ λ t. record { total = refl; cut = λ l. told-long mtu c index inside cut t; sound = sound-long mtu c index inside cut t }
      | false ↦ λ t.
          let one = plain t in
          let first : index ≡ 0 = omega arith in
          let size = piece_length mtu in
          let all : length (piece_of_body size c.packet.body index) ≡ length c.packet.body = piece-len size c.packet.body index ∙ whole size (length c.packet.body) index first t in
          record { total = all; cut = λ l. absurd (let f : true ≡ false = sym l ∙ t in cc); sound = sound-only (length (piece_of_body size c.packet.body index)) }
    ] refl
  where
    whole : (size len i : ℕ) → i ≡ 0 → ltb size len ≡ false → min size (len - i * size) ≡ len
    whole size len i first short =
        let low : len ≤ size = above size len short in
        let none : i * size ≡ 0 * size = ap (λ k. k * size) first in
        least size (len - i * size) len (omega arith) low
      where
        above : (m n : ℕ) → ltb m n ≡ false → n ≤ m
        above m n t = grind (arith, nat_tests)

        least : (m k n : ℕ) → k ≡ n → n ≤ m → min m k ≡ n
        least m k n e h = grind (arith, nat_tests)

pub tells : (mtu : ℕ) (cs : List ChosenPacket) (d : DataCommand) → (p : IsPieceOf mtu cs d) → IsCut mtu p.packet → Tells mtu d p.packet
tells mtu cs d p cut = subst (λ x. Tells mtu x p.packet) (sym p.command) (Tells-command mtu p.packet p.number p.count p.index p.inside p.plain cut)

-- one reliable packet begins at a number
pub same_reliable : (cs : List ChosenPacket) (n j k : ℕ) (c d : ChosenPacket) → Stands cs n j c → Stands cs n k d → c.reliable ≡ true → d.reliable ≡ true → 0 < c.pieces → 0 < d.pieces → c ≡ d
same_reliable cs n j k c d v w cr dr cp dp =
    let go : Cuts v.before (c ∷ v.behind) w.before (d ∷ w.behind) → c ≡ d = elim [
      | inl u ↦ sym (one d c u.0 w.before v.before w.behind v.behind u.1 u.2 dr dp w.number_is v.number_is)
      | inr u ↦ one c d u.0 v.before w.before v.behind w.behind u.1 u.2 cr cp v.number_is w.number_is
    ] in
    go (two_cuts v.before (c ∷ v.behind) w.before (d ∷ w.behind) (sym v.whole ∙ w.whole))
  where
    one : (x y : ChosenPacket) (mid first second after beyond : List ChosenPacket) → second ≡ first ++ mid → x ∷ after ≡ mid ++ y ∷ beyond → x.reliable ≡ true → 0 < x.pieces → command_count first ≡ n → command_count second ≡ n → x ≡ y
    one x y [] first second after beyond e f r p a b = cc
    one x y (z ∷ mid) first second after beyond e f r p a b =
        let same : x ≡ z = cc in
        let k : command_count (z ∷ mid) ≡ command_count mid + x.pieces = subst (λ (q : ChosenPacket). command_count (q ∷ mid) ≡ command_count mid + x.pieces) same (command_count-reliable x mid r) in
        absurd (omega (arith, ap command_count e, command_count-append first (z ∷ mid), k, a, b))

-- unreliable packets of one reliable number have numbers of their own
pub same_unreliable : (mtu : ℕ) (cs : List ChosenPacket) (n k : ℕ) (c d : ChosenPacket) → AllCut mtu cs → Stands cs n k c → Stands cs n k d → c.reliable ≡ false → d.reliable ≡ false → c ≡ d
same_unreliable mtu cs n k c d all v w cr dr =
    let go : Cuts v.before (c ∷ v.behind) w.before (d ∷ w.behind) → c ≡ d = elim [
      | inl u ↦ sym (one d c u.0 w.before v.before w.behind v.behind u.1 u.2 dr w.number_is v.number_is w.count_is v.count_is (within w.before v.before u.0 (c ∷ v.behind) u.1 v.whole))
      | inr u ↦ one c d u.0 v.before w.before v.behind w.behind u.1 u.2 cr v.number_is w.number_is v.count_is w.count_is (within v.before w.before u.0 (d ∷ w.behind) u.1 w.whole)
    ] in
    go (two_cuts v.before (c ∷ v.behind) w.before (d ∷ w.behind) (sym v.whole ∙ w.whole))
  where
    within : (first second mid rest : List ChosenPacket) → second ≡ first ++ mid → cs ≡ second ++ rest → AllCut mtu mid
    within first second mid rest e f = λ x h. all x (subst (λ l. Has l x) (sym f) (append_left second rest x (subst (λ l. Has l x) (sym e) (append_right first mid x h))))
      where
        append_left : (a b : List ChosenPacket) (x : ChosenPacket) → Has a x → Has (a ++ b) x
        append_left [] b x h = absurd h
        append_left (y ∷ a) b x (inl e) = inl e
        append_left (y ∷ a) b x (inr h) = inr (append_left a b x h)

        append_right : (a b : List ChosenPacket) (x : ChosenPacket) → Has b x → Has (a ++ b) x
        append_right [] b x h = h
        append_right (y ∷ a) b x h = inr (append_right a b x h)

    grows : (count : ℕ) (xs : List ChosenPacket) → AllCut mtu xs → command_count xs ≡ 0 → count ≤ count_after count xs
    grows count [] a e = omega arith
    grows count (x ∷ xs) a e =
        elim x.reliable as (λ r. cond r (command_count xs + x.pieces) (command_count xs) ≡ 0 → count ≤ count_after (cond r 0 (count + 1)) xs) [
          | true ↦ λ z. absurd (let y = a x (inl refl) in let q = y.some' in omega arith)
          | false ↦ λ z. let f = grows (count + 1) xs (λ y g. a y (inr g)) z in omega arith
        ] e

    one : (x y : ChosenPacket) (mid first second after beyond : List ChosenPacket) → second ≡ first ++ mid → x ∷ after ≡ mid ++ y ∷ beyond → x.reliable ≡ false → command_count first ≡ n → command_count second ≡ n → count_after 0 first ≡ k → count_after 0 second ≡ k → AllCut mtu mid → x ≡ y
    one x y [] first second after beyond e f r a b p q all' = cc
    one x y (z ∷ mid) first second after beyond e f r a b p q all' =
        let same : x ≡ z = cc in
        let zr : z.reliable ≡ false = subst (λ (u : ChosenPacket). u.reliable ≡ false) same r in
        let none : command_count mid ≡ 0 = omega (arith, ap command_count e, command_count-append first (z ∷ mid), command_count-unreliable z mid zr, a, b) in
        let up : count_after 0 (first ++ z ∷ mid) ≡ count_after (count_after 0 first + 1) mid = count_after-append 0 first (z ∷ mid) ∙ ap (λ r'. count_after (cond r' 0 (count_after 0 first + 1)) mid) zr in
        let more = grows (count_after 0 first + 1) mid (λ u h. all' u (inr h)) none in
        absurd (omega (arith, ap (count_after 0) e, up, more, p, q))

-- a packet has one piece more
pub Matches-more : (mtu : ℕ) (o : Option IncomingPacket) (d : DataCommand) (c : ChosenPacket) (number count index : ℕ) → index < c.pieces → Says mtu d c number count index → Tells mtu d c → ((e : IncomingPacket) → o ≡ Some e → Matches mtu e.making c)
    → Matches mtu (with_more (earlier_or_new o (wired d)) (wired d)).making c
Matches-more mtu o d c number count index inside s t old = go o old
  where
    some_is : (a b : ℕ) → Some b ≡ Some a → a ≡ b
    some_is a b e = let f : b ≡ a = cc in sym f

    added : (m : PartialPacket) → Matches mtu m c → Matches mtu (with_piece m (place_in_packet (wired d)) (wired d).body) c
    added m h =
        let n = h.count in
        let j = s.index_is in
        record {
          count = count_of-with m (place_in_packet (wired d)) (wired d).body ∙ h.count;
          pieces = λ i bytes e. elim (piece_cases m (place_in_packet (wired d)) (wired d).body i bytes (omega arith) e) [
            | inl is ↦ (let a = is.0 in omega arith, sym is.1 ∙ s.body ∙ ap (piece_of_body (piece_length mtu) c.packet.body) (sym (is.0 ∙ s.index_is)))
            | inr k ↦ h.pieces i bytes k.1
          ];
          total = h.total;
          cut = λ long size e. some_is size (told_piece_len (place_in_packet (wired d))) e ∙ t.cut long;
        }

    go : (o : Option IncomingPacket) → ((e : IncomingPacket) → o ≡ Some e → Matches mtu e.making c) → Matches mtu (with_more (earlier_or_new o (wired d)) (wired d)).making c
    go None h =
        let count = (piece_of (wired d)).count in
        let total = (piece_of (wired d)).total in
        added (nothing_yet count total) (record { count = count_of-nothing count total ∙ s.pieces; pieces = λ i bytes e. absurd (let f = piece_at-nothing count total i in cc); total = t.total; cut = λ long size e. absurd (let f : None ≡ Some size = e in cc) })
    go (Some e) h = added e.making (h e refl)
