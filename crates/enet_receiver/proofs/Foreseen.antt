-- How many packets a command dispatches, told by what is held and waits before it.
use Rattle.std.proofs.Common.{◌≡◌, ◌≢◌, ℕ, zero, suc, ◌+◌, ◌-◌, ◌%◌, ◌<◌, ◌≤◌, eqb, leb, Bool, true, false, cond, not, ◌&&◌, List, [], ◌∷◌, length, refl, sym, ap, subst, ◌∙◌, inl, inr, arith, Option, Some, None, is_some, add-zero, get_or}
use Rattle.std.specs.List.{list_all}
use Rattle.std.specs.FinMap.{get, insert, len, entries}
use Rattle.std.proofs.lemmas.Bool.Decides.{nat_tests}
use Rattle.enet_seq.specs.Numbering.{wire}
use Rattle.enet_seq.specs.Windows.{ahead, after}
use Rattle.enet_fragment.specs.declared.place.Place.{Place}
use Rattle.enet_fragment.specs.declared.assembly.Put.{Put}
use Rattle.enet_fragment.specs.declared.assembly.Put.TheVariants.{New, Whole, Bad}
use Rattle.enet_fragment.specs.Place.{is_sound}
use Rattle.enet_fragment.specs.PartialPacket.{count_of, nothing_yet, with_piece, put_outcome, have_others_come}
use Rattle.enet_fragment.specs.Whole.{is_whole}
use Rattle.enet_fragment.specs.declared.data.DataCommand.{DataCommand}
use Rattle.enet_fragment.specs.DataCommand.{piece_of, place_in_packet}
use Rattle.enet_fragment.proofs.Laws.{put_outcome-first, is_whole-last, is_whole-more, belongs-below}
use Rattle.enet_fragment.proofs.Places.{outcome_whole, outcome_new}
use Rattle.enet_packets.specs.declared.incoming_packet.IncomingPacket.{IncomingPacket}
use Rattle.enet_packets.specs.Packets.{line_at, with_line, fresh}
use Rattle.enet_receiver.specs.declared.foreseeing.Completed.{Completed}
use Rattle.enet_receiver.specs.declared.took.Took.{Took}
use Rattle.enet_receiver.specs.declared.took.Took.TheVariants.{Held}
use Rattle.enet_receiver.specs.Receiver.{Receiver, next_whole, all_released, flushed}
use Rattle.enet_receiver.specs.DataOutcome.{outcome, received, received_with, came_at, agrees_with, came, dispatch_count, added_at, earlier_or_new, with_more}
use Rattle.enet_receiver.specs.Private.ReceiverParts.{grown_at, with_stored}
use Rattle.enet_receiver.specs.Invariant.{Keeps}
use Rattle.enet_receiver.specs.Private.Admitted.{Admitted, IsInside}
use Rattle.enet_receiver.specs.Private.Walk.{pieces_of, is_held_at, pieces_or, pieces_at, is_fresh, fresh_at, walk_with, walk, walked, chain_or_line, Completes}
use Rattle.enet_receiver.proofs.Maps.{two_numbers, get-insert_other, get-insert_same}
use Rattle.enet_receiver.proofs.LineLemmas.{Line, line_at-other, line_at-same}
use Rattle.enet_receiver.proofs.Released.{released-enough, wire_begins}
use Rattle.enet_receiver.proofs.Keeping.{pieces_of_kept}
use Rattle.enet_receiver.proofs.Admission.{Keeps-stored, piece_sound, earlier_facts}
use Rattle.enet_receiver.proofs.Bounds.{held_fit}
use Rattle.enet_receiver.proofs.Fresh.{not_whole, one_if, fresh-insert}
use Rattle.enet_receiver.proofs.Course.{AllNear, all_count}

-- a packet in which a piece is missing is not whole
missing_one : (pieces : List (Option (List ℕ))) (i : ℕ) → i < length pieces → is_some (get_or pieces i None) ≡ false → list_all is_some pieces ≡ false
missing_one [] i low none = absurd (omega arith)
missing_one (p ∷ ps) zero low none = ap (λ b. b && list_all is_some ps) none
missing_one (p ∷ ps) (suc i) low none =
    elim (is_some p) as (λ b. (b && list_all is_some ps) ≡ false) [ true ↦ missing_one ps i (omega arith) none | false ↦ refl ]

earlier_not_whole : (o : Option IncomingPacket) (c : DataCommand) → agrees_with o c ≡ true → came o c ≡ false → not_whole o
earlier_not_whole None c agrees missing = tt
earlier_not_whole (Some e) c agrees missing =
    let facts = earlier_facts e c agrees missing in
    missing_one e.making.pieces (piece_of c).number (belongs-below e.making (place_in_packet c) facts.0) facts.1

-- whether the first piece makes its packet whole
pub whole_first : (p : Place) (bytes : List ℕ) → is_sound p ≡ true → is_whole (with_piece (nothing_yet p.count p.total) p bytes) ≡ eqb p.count 1
whole_first p bytes sound =
    elim (eqb p.count 1) as (λ b. put_outcome (nothing_yet p.count p.total) p ≡ cond (is_sound p) (cond b Whole New) Bad → is_whole (with_piece (nothing_yet p.count p.total) p bytes) ≡ b) [
      | true ↦ λ e. is_whole-last (nothing_yet p.count p.total) p bytes (e ∙ ap (λ b. cond b Whole Bad) sound)
      | false ↦ λ e. is_whole-more (nothing_yet p.count p.total) p bytes (e ∙ ap (λ b. cond b New Bad) sound)
    ] (put_outcome-first p)

pub completes_first : (most : ℕ) (r : Receiver) (c : DataCommand) (place : ℕ) → Admitted most r c place → came_at r c place ≡ None → is_whole (grown_at r c place).making ≡ eqb (piece_of c).count 1
completes_first most r c place a none =
    ap (λ o. is_whole (with_more (earlier_or_new o c) c).making) none ∙ whole_first (place_in_packet c) c.body (piece_sound most c a.piece).0

-- and a later one
pub completes_last : (most : ℕ) (r : Receiver) (c : DataCommand) (place : ℕ) (e : IncomingPacket) (outcome : Put) → Admitted most r c place → came_at r c place ≡ Some e
    → outcome ≡ put_outcome e.making (place_in_packet c) → outcome ≡ Whole → is_whole (grown_at r c place).making ≡ true
completes_last most r c place e outcome a there is whole =
    ap (λ o. is_whole (with_more (earlier_or_new o c) c).making) there ∙ is_whole-last e.making (place_in_packet c) c.body (sym is ∙ whole)

pub completes_not : (most : ℕ) (r : Receiver) (c : DataCommand) (place : ℕ) (e : IncomingPacket) (outcome : Put) → Admitted most r c place → came_at r c place ≡ Some e
    → outcome ≡ put_outcome e.making (place_in_packet c) → outcome ≢ Whole → is_whole (grown_at r c place).making ≡ false
completes_not most r c place e outcome a there is apart =
    let facts = earlier_facts e c (ap (λ o. agrees_with o c) (sym there) ∙ a.agrees) (ap (λ o. came o c) (sym there) ∙ a.missing) in
    let p : Place = place_in_packet c in
    ap (λ o. is_whole (with_more (earlier_or_new o c) c).making) there
    ∙ elim (have_others_come e.making (piece_of c).number) as (λ b. have_others_come e.making (piece_of c).number ≡ b → is_whole (with_piece e.making (place_in_packet c) c.body) ≡ false) [
      | true ↦ λ t. absurd (apart (is ∙ sym (outcome_whole e.making (place_in_packet c) facts.0 facts.1 t)))
      | false ↦ λ t. is_whole-more e.making (place_in_packet c) c.body (sym (outcome_new e.making (place_in_packet c) facts.0 facts.1 t))
    ] refl

-- what is whole at a number once the piece is added
whole_pieces : (b : Bool) (g : IncomingPacket) → is_whole g.making ≡ b → pieces_of (next_whole (Some g)) ≡ cond b (Some (count_of g.making)) None
whole_pieces true g e = ap (λ b. pieces_of (cond b (Some g) None)) e
whole_pieces false g e = ap (λ b. pieces_of (cond b (Some g) None)) e

no_pieces : (o : Option IncomingPacket) → not_whole o → pieces_of (next_whole o) ≡ None
no_pieces None h = refl
no_pieces (Some e) h = ap (λ b. pieces_of (cond b (Some e) None)) h

apart_test : (a b : ℕ) → a ≢ b → eqb a b ≡ false
apart_test a b h = grind (arith, nat_tests)

same_test : (a b : ℕ) → a ≡ b → eqb a b ≡ true
same_test a b h = grind (arith, nat_tests)

and_false : (a : Bool) → (a && false) ≡ false
and_false true = refl
and_false false = refl

-- at another number nothing is made whole
held_elsewhere : (o : Option Completed) (r : Receiver) (c : DataCommand) (place q : ℕ) → Completes o r c place → q ≢ place → is_held_at o q ≡ false
held_elsewhere None r c place q k apart = refl
held_elsewhere (Some p) r c place q k apart =
    ap (λ b. p.reliable && b) (let at : p.place ≡ place = k.2 in apart_test p.place q (λ e. apart (sym e ∙ at))) ∙ and_false p.reliable

held_unreliable : (o : Option Completed) (r : Receiver) (c : DataCommand) (place q : ℕ) → Completes o r c place → c.reliable ≡ false → is_held_at o q ≡ false
held_unreliable None r c place q k is = refl
held_unreliable (Some p) r c place q k is = ap (λ b. b && eqb p.place q) (k.1 ∙ is)

fresh_elsewhere : (o : Option Completed) (r : Receiver) (c : DataCommand) (place q first : ℕ) → Completes o r c place → q ≢ place → is_fresh o q first ≡ false
fresh_elsewhere None r c place q first k apart = refl
fresh_elsewhere (Some p) r c place q first k apart =
    ap (λ b. not p.reliable && (b && leb first p.unreliable)) (let at : p.place ≡ place = k.2 in apart_test p.place q (λ e. apart (sym e ∙ at))) ∙ and_false (not p.reliable)

fresh_reliable : (o : Option Completed) (r : Receiver) (c : DataCommand) (place q first : ℕ) → Completes o r c place → c.reliable ≡ true → is_fresh o q first ≡ false
fresh_reliable None r c place q first k is = refl
fresh_reliable (Some p) r c place q first k is = ap (λ b. not b && (eqb p.place q && leb first p.unreliable)) (k.1 ∙ is)

-- at its own place
held_here : (o : Option Completed) (r : Receiver) (c : DataCommand) (place : ℕ) (was : Option ℕ) → Completes o r c place → c.reliable ≡ true → was ≡ None
    → cond (is_held_at o place) (pieces_or o None) was ≡ pieces_of (next_whole (Some (grown_at r c place)))
held_here None r c place was k is none = none ∙ sym (whole_pieces false (grown_at r c place) k)
held_here (Some p) r c place was k is none =
    ap (λ b. cond (b && eqb p.place place) (Some p.pieces) was) (k.1 ∙ is)
    ∙ ap (λ b. cond b (Some p.pieces) was) (same_test p.place place k.2)
    ∙ ap (λ n. Some n) k.4
    ∙ sym (whole_pieces true (grown_at r c place) k.0)

fresh_here : (o : Option Completed) (r : Receiver) (c : DataCommand) (place first : ℕ) → Completes o r c place → c.reliable ≡ false
    → is_fresh o place first ≡ (is_whole (grown_at r c place).making && leb first c.unreliable)
fresh_here None r c place first k is = sym (ap (λ b. b && leb first c.unreliable) k)
fresh_here (Some p) r c place first k is =
    ap (λ b. not b && (eqb p.place place && leb first p.unreliable)) (k.1 ∙ is)
    ∙ ap (λ b. b && leb first p.unreliable) (same_test p.place place k.2)
    ∙ ap (leb first) k.3
    ∙ sym (ap (λ b. b && leb first c.unreliable) k.0)

-- the walk over what is held and waits before is that over what is held and waits then
pub record SeesAs (o : Option Completed) (r s : Receiver) : Type 0 where
  pub pieces : (q : ℕ) → pieces_at o r.held q ≡ pieces_at None s.held q
  pub line : (q first : ℕ) → fresh_at o r.waiting q first ≡ fresh_at None s.waiting q first

pub sees_as : (o : Option Completed) (most : ℕ) (r : Receiver) (c : DataCommand) (place : ℕ) → Admitted most r c place → Completes o r c place → SeesAs o r (with_stored r c place)
sees_as o most r c place a k =
    let g : IncomingPacket = grown_at r c place in
    elim c.reliable as (λ b. c.reliable ≡ b → SeesAs o r (record r {
      held = cond b (insert r.held place g) r.held;
      waiting = cond b r.waiting (with_line r.waiting place (insert (line_at r.waiting place) c.unreliable g));
    })) [
      | true ↦ λ t.
          let at : came_at r c place ≡ get r.held place = ap (λ b. cond b (get r.held place) (get (line_at r.waiting place) c.unreliable)) t in
          let none : not_whole (get r.held place) = subst not_whole at (earlier_not_whole (came_at r c place) c a.agrees a.missing) in
          record {
            pieces = λ q. elim (two_numbers q place) [
              | inl same ↦ subst (λ n. pieces_at o r.held n ≡ pieces_at None (insert r.held place g) n) (sym same)
                  (held_here o r c place (pieces_of (next_whole (get r.held place))) k t (no_pieces (get r.held place) none)
                  ∙ ap (λ x. pieces_of (next_whole x)) (sym (get-insert_same r.held place g)))
              | inr apart ↦ ap (λ b. cond b (pieces_or o None) (pieces_of (next_whole (get r.held q)))) (held_elsewhere o r c place q k apart)
                  ∙ ap (λ x. pieces_of (next_whole x)) (sym (get-insert_other r.held place q g apart))
            ];
            line = λ q first. ap (λ b. length (fresh first (entries (line_at r.waiting q))) + one_if b) (fresh_reliable o r c place q first k t);
          }
      | false ↦ λ t.
          let at : came_at r c place ≡ get (line_at r.waiting place) c.unreliable = ap (λ b. cond b (get r.held place) (get (line_at r.waiting place) c.unreliable)) t in
          let none : not_whole (get (line_at r.waiting place) c.unreliable) = subst not_whole at (earlier_not_whole (came_at r c place) c a.agrees a.missing) in
          let grown : Line = insert (line_at r.waiting place) c.unreliable g in
          record {
            pieces = λ q. ap (λ b. cond b (pieces_or o None) (pieces_of (next_whole (get r.held q)))) (held_unreliable o r c place q k t);
            line = λ q first. elim (two_numbers q place) [
              | inl same ↦ subst (λ n. fresh_at o r.waiting n first ≡ fresh_at None (with_line r.waiting place (insert (line_at r.waiting place) c.unreliable g)) n first) (sym same)
                  (ap (λ b. length (fresh first (entries (line_at r.waiting place))) + one_if b) (fresh_here o r c place first k t)
                  ∙ sym (fresh-insert first c.unreliable g (line_at r.waiting place) none)
                  ∙ sym (add-zero (length (fresh first (entries (insert (line_at r.waiting place) c.unreliable g)))))
                  ∙ ap (λ (l : Line). length (fresh first (entries l)) + 0) (sym (line_at-same r.waiting place grown)))
              | inr apart ↦ ap (λ b. length (fresh first (entries (line_at r.waiting q))) + one_if b) (fresh_elsewhere o r c place q first k apart)
                  ∙ ap (λ (l : Line). length (fresh first (entries l)) + 0) (sym (line_at-other r.waiting place grown q apart))
            ];
          }
    ] refl

same_walk : (n : ℕ) (o : Option Completed) (r s : Receiver) → SeesAs o r s → (front : ℕ) → walk n o r.held r.waiting front ≡ walk n None s.held s.waiting front
unfolding walk
same_walk zero o r s sees front = refl
same_walk (suc n) o r s sees front =
    ap (walk_with (walk n o r.held r.waiting) o r.waiting front) (sees.pieces (after front 1))
    ∙ go (same_walk n o r s sees) (pieces_at None s.held (after front 1))
  where
    go : ((f : ℕ) → walk n o r.held r.waiting f ≡ walk n None s.held s.waiting f) → (p : Option ℕ) → walk_with (walk n o r.held r.waiting) o r.waiting front p ≡ walk_with (walk n None s.held s.waiting) None s.waiting front p
    go rest None = refl
    go rest (Some k) = ap (λ x. 1 + x + walk n o r.held r.waiting (after front k)) (sees.line (after front k) 0) ∙ ap (λ x. 1 + fresh_at None s.waiting (after front k) 0 + x) (rest (after front k))

pub same_walked : (n : ℕ) (o : Option Completed) (r s : Receiver) → SeesAs o r s → walked n o r ≡ walked n None (record s { front = r.front; unreliable = r.unreliable })
same_walked n o r s sees =
    ap (λ w. chain_or_line w (fresh_at o r.waiting r.front (r.unreliable + 1))) (same_walk n o r s sees r.front)
    ∙ ap (chain_or_line (walk n None s.held s.waiting r.front)) (sees.line r.front (r.unreliable + 1))

-- what is held stands near the front
all_near : (most : ℕ) (r : Receiver) → Keeps most r → AllNear r.front r.held
all_near most r k = record {
  near = λ x c low e. (let is = k.held ((r.front + x) % 65536) c e in let far = is.far in let wire_front = k.wire in
      let at : ahead r.front ((r.front + x) % 65536) ≡ x = omega arith in
      record { far = omega arith; some_piece = is.some_piece; few_pieces = is.few_pieces });
}

-- any number of turns above those that are needed
pub counted : (n most : ℕ) (s : Receiver) → Keeps most s → 65534 ≤ suc n → length (all_released wire s).dispatched ≡ length s.dispatched + walked (suc n) None s
counted n most s k enough =
    let few = held_fit most s k in
    ap (λ (x : Receiver). length (flushed x).dispatched) (released-enough wire (len s.held) (suc n) s wire_begins (pieces_of_kept most s k) (omega arith) (omega arith))
    ∙ all_count n s k.wire (all_near most s k)

minus : (a b c : ℕ) → a ≡ b + c → a - b ≡ c
minus a b c e = omega arith

-- how many packets a command dispatches that is taken in
pub dispatches-is : (n most : ℕ) (o : Option Completed) (r : Receiver) (c : DataCommand) (full : Bool) (place : ℕ) → Keeps most r → IsInside r.front place → c.unreliable < 65536 → Admitted most r c place → Completes o r c place
    → outcome wire most r c full ≡ Held → 65534 ≤ suc n → walked (suc n) o r ≡ dispatch_count wire most r c full
dispatches-is n most o r c full place k inside count a made held enough =
    let s : Receiver = with_stored r c place in
    let after_it : received wire most r c full ≡ all_released wire (with_stored r c place) =
    ap (λ t. received_with t wire r c) held ∙ ap (added_at wire r c) a.read in
    same_walked (suc n) o r s (sees_as o most r c place a made)
    ∙ sym (minus (length (received wire most r c full).dispatched) (length r.dispatched) (walked (suc n) None s)
    (ap (λ (x : Receiver). length x.dispatched) after_it ∙ counted n most s (Keeps-stored most r c place k inside count a) enough))

pub dispatches-none : (most : ℕ) (r : Receiver) (c : DataCommand) (full : Bool) (t : Took) → outcome wire most r c full ≡ t → t ≢ Held → dispatch_count wire most r c full ≡ 0
dispatches-none most r c full t e apart =
    ap (λ x. length (received_with x wire r c).dispatched - length r.dispatched) e ∙ none t apart
  where
    none : (x : Took) → x ≢ Held → length (received_with x wire r c).dispatched - length r.dispatched ≡ 0
    none Held h = absurd (h refl)
    none _ h = omega arith
