-- What a command takes of places.
use Rattle.std.proofs.Common.{◌≡◌, ◌≢◌, ℕ, zero, suc, ◌+◌, ◌-◌, ◌%◌, ◌<◌, ◌≤◌, eqb, Bool, true, false, cond, ◌&&◌, ◌||◌, List, [], ◌∷◌, length, refl, sym, ap, subst, ◌∙◌, inl, inr, arith, Option, Some, None, Equal, is_some, unwrap_or, length-append}
use Rattle.std.proofs.lemmas.List.Elements.{All-head, All-tail}
use Rattle.std.proofs.lemmas.Bool.{and_parts}
use Rattle.std.proofs.lemmas.Bool.Decides.{nat_tests}
use Rattle.std.specs.Prelude.{nat_le, nat_lt}
use Rattle.std.specs.Ordering.{nat_cmp}
use Rattle.std.specs.Option.{option_map, is_none}
use Rattle.std.specs.Cmp.{nat_cmp_total}
use Rattle.std.specs.FinMap.{FinMap, get, insert, remove, contains_key, len, empty, entries, retain_keys, from_sorted, entries_sorted, get-entries, get-retain_keys, get-from_sorted, entries-from_sorted, len-insert, len-remove, len-entries, len-empty, same_map, nat_cmp-IsAntisymmetric}
use Rattle.std.specs.FinMap.Entries.{where_key, find-where_key, is_sorted-where_key}
use Rattle.enet_seq.specs.Numbering.{Numbering, wire, number_read}
use Rattle.enet_seq.specs.Windows.{after, ahead, fragment_in_window}
use Rattle.enet_fragment.specs.PartialPacket.{count_of}
use Rattle.enet_fragment.specs.Whole.{is_whole}
use Rattle.enet_fragment.specs.declared.data.DataCommand.{DataCommand}
use Rattle.enet_fragment.specs.DataCommand.{piece_of, place_in_packet}
use Rattle.enet_fragment.proofs.Laws.{count_of-with_piece}
use Rattle.enet_packets.specs.declared.incoming_packet.IncomingPacket.{IncomingPacket}
use Rattle.enet_packets.specs.declared.incoming_packet.Dispatched.{Dispatched}
use Rattle.enet_packets.specs.Invariant.{AreWholeUpTo}
use Rattle.enet_packets.specs.Packets.{Lines, packets_in, line_at, with_line, fresh, still_ahead, handed_out}
use Rattle.enet_packets.proofs.Maps.{sum-insert, remove-absent, remove-insert}
use Rattle.enet_packets.proofs.PacketLemmas.{whole_to_last}
use Rattle.enet_receiver.specs.declared.took.Took.{Took}
use Rattle.enet_receiver.specs.declared.took.Took.TheVariants.{Held, Again, Outside, Bad, Waiting, Memory}
use Rattle.enet_receiver.specs.Receiver.{Receiver, without, with_passed, with_dispatched, next_whole, released, all_released, flushed_from, flushed_last, front_line}
use Rattle.enet_receiver.specs.DataOutcome.{outcome, outcome_at, outcome_of, place_read, came_at, is_behind, came, is_next, is_piece, received, received_with, added_at, with_added, with_more, earlier_or_new, is_piece_of_its_packet}
use Rattle.enet_receiver.specs.Laws.{HavePieces}
use Rattle.enet_receiver.specs.Places.{all_packets, early_packets, TakesAPlace}
use Rattle.enet_receiver.proofs.Admission.{admitted, grown_new}
use Rattle.enet_receiver.proofs.Maps.{two_numbers, get_inserted, get-insert_other, get-insert_same, get-remove_other, get-remove_same}
use Rattle.enet_receiver.proofs.LineLemmas.{Line}
use Rattle.enet_receiver.proofs.Fresh.{Entries}
use Rattle.enet_receiver.proofs.Without.{len-without_first}
use Rattle.enet_receiver.proofs.Released.{wire_begins, whole_is, HavePieces-dispatched, released-keeps}

-- ---- lines

pub put_back : {X : Type 0} (m : FinMap nat_cmp X) (k : ℕ) (v : X) → get m k ≡ Some v → insert (remove m k) k v ≡ m
put_back m k v e = same_map nat_cmp_total nat_cmp-IsAntisymmetric _ _ (λ q. elim (two_numbers q k) [
  | inl same ↦ subst (λ x. get (insert (remove m k) k v) x ≡ get m x) (sym same) (get-insert_same (remove m k) k v ∙ sym e)
  | inr apart ↦ get-insert_other (remove m k) k q v apart ∙ get-remove_other m k q apart
])

weighed : (o : Option Line) → unwrap_or (option_map len o) 0 ≡ len (unwrap_or o empty)
weighed None = sym (len-empty nat_cmp IncomingPacket)
weighed (Some line) = refl

put_packets : (w : Lines) (n : ℕ) (line : Line) → packets_in (insert w n line) + len (line_at w n) ≡ packets_in w + len line
put_packets w n line =
    let sum = sum-insert (λ (l : Line). len l) w n line in
    let old = weighed (get w n) in
    omega arith

-- without a line
removed_packets : (w : Lines) (n : ℕ) → packets_in (remove w n) + len (line_at w n) ≡ packets_in w
removed_packets w n =
    elim (get w n) as (λ o. get w n ≡ o → packets_in (remove w n) + len (unwrap_or o empty) ≡ packets_in w) [
      | None ↦ λ e. (let none = len-empty nat_cmp IncomingPacket in
          let same : packets_in (remove w n) ≡ packets_in w = ap (λ (m : Lines). packets_in m) (remove-absent w n e) in
          omega arith)
      | Some line ↦ λ e. (let back : packets_in (insert (remove w n) n line) ≡ packets_in w = ap (λ (m : Lines). packets_in m) (put_back w n line e) in
          let sum = put_packets (remove w n) n line in
          let gone : len (line_at (remove w n) n) ≡ 0 = ap (λ (o : Option Line). len (unwrap_or o empty)) (get-remove_same w n) ∙ len-empty nat_cmp IncomingPacket in
          omega arith)
    ] refl

-- with another line
line_packets : (w : Lines) (n : ℕ) (line : Line) → packets_in (with_line w n line) + len (line_at w n) ≡ packets_in w + len line
line_packets w n line =
    elim (eqb (len line) 0) as (λ b. eqb (len line) 0 ≡ b → packets_in (cond b (remove w n) (insert w n line)) + len (line_at w n) ≡ packets_in w + len line) [
      | true ↦ λ t. (let none : len line ≡ 0 = grind (arith, nat_tests) in let sum = removed_packets w n in omega arith)
      | false ↦ λ t. put_packets w n line
    ] refl

without_packets : (g : Numbering) (w : Lines) (n count : ℕ) → packets_in (without g w n count) ≤ packets_in w
unfolding without
without_packets g w n zero = omega arith
without_packets g w n (suc count) =
    let rest = without_packets g w n count in
    let one = removed_packets (without g w n count) (g.after n count) in
    omega arith

-- ---- what is flushed was in its line

one_of : (whole reached past : Bool) (d : Dispatched) (ds : List Dispatched) (e : ℕ × IncomingPacket) (es : Entries) (n : ℕ) → (whole ≡ true → past ≡ false) → length ds + length es ≤ n
    → length (cond (whole && reached) (d ∷ ds) ds) + length (cond past (e ∷ es) es) ≤ suc n
one_of true true true d ds e es n apart rest = absurd (let f = apart refl in cc)
one_of true true false d ds e es n apart rest = omega arith
one_of true false true d ds e es n apart rest = omega arith
one_of true false false d ds e es n apart rest = omega arith
one_of false reached true d ds e es n apart rest = omega arith
one_of false reached false d ds e es n apart rest = omega arith

abbrev is_whole_to : ℕ → ℕ × IncomingPacket → Type 0
is_whole_to last e = is_whole e.1.making ≡ true → e.0 ≤ last

fresh_or_left : (first last : ℕ) (es : Entries) → AreWholeUpTo last es → length (fresh first es) + length (where_key nat_cmp (nat_lt last) es) ≤ length es
fresh_or_left first last [] w = omega arith
fresh_or_left first last (e ∷ es) w =
    one_of (is_whole e.1.making) (nat_le first e.0) (nat_lt last e.0) (handed_out e.1) (fresh first es) e (where_key nat_cmp (nat_lt last) es) (length es)
    (λ t. (let low : e.0 ≤ last = All-head (is_whole_to last) e es w t in grind (arith, nat_tests)))
    (fresh_or_left first last es (All-tail (is_whole_to last) e es w))

-- the entries whose numbers pass a test
pub kept_by : (m : Line) (p : ℕ → Bool) → retain_keys m p ≡ from_sorted (where_key nat_cmp p (entries m))
kept_by m p = same_map nat_cmp_total nat_cmp-IsAntisymmetric _ _ (λ q.
    let alike : (x : ℕ) → nat_cmp q x ≡ Equal → p x ≡ p q = λ x t. ap p (sym (nat_cmp-IsAntisymmetric q x t)) in
    get-retain_keys m p q alike
    ∙ ap (λ (o : Option IncomingPacket). cond (p q) o None) (get-entries m q)
    ∙ sym (find-where_key nat_cmp p q alike (entries m))
    ∙ sym (get-from_sorted nat_cmp (where_key nat_cmp p (entries m)) q (is_sorted-where_key nat_cmp p (entries m) (entries_sorted m))))

len_left : (line : Line) (last : ℕ) → len (still_ahead line last) ≡ length (where_key nat_cmp (nat_lt last) (entries line))
len_left line last =
    ap (λ (m : Line). len m) (kept_by line (nat_lt last))
    ∙ len-entries (from_sorted {R = nat_cmp} (where_key nat_cmp (nat_lt last) (entries line)))
    ∙ ap (λ (es : Entries). length es) (entries-from_sorted nat_cmp (where_key nat_cmp (nat_lt last) (entries line)) (is_sorted-where_key nat_cmp (nat_lt last) (entries line) (entries_sorted line)))

flushed_packets : (first : ℕ) (r : Receiver) → packets_in (flushed_from first r).waiting + length (flushed_from first r).dispatched ≤ packets_in r.waiting + length r.dispatched
flushed_packets first r =
    let line : Line = front_line r in
    let last : ℕ = flushed_last r in
    let sum = line_packets r.waiting r.front (still_ahead (front_line r) (flushed_last r)) in
    let parts = fresh_or_left first (flushed_last r) (entries (front_line r)) (whole_to_last r.unreliable (entries (front_line r))) in
    let left = len_left (front_line r) (flushed_last r) in
    let all = len-entries (front_line r) in
    let out = length-append r.dispatched (fresh first (entries (front_line r))) in
    omega arith

flushed_waiting : (first : ℕ) (r : Receiver) → packets_in (flushed_from first r).waiting ≤ packets_in r.waiting
flushed_waiting first r =
    let all = flushed_packets first r in
    let out = length-append r.dispatched (fresh first (entries (front_line r))) in
    omega arith

-- ---- what is dispatched was held

less_one : (b : Bool) (n : ℕ) → b ≡ true → cond b (n - 1) n ≡ n - 1
less_one true n e = refl
less_one false n e = absurd (cc)

at_most : (b : Bool) (n : ℕ) → cond b (n - 1) n ≤ n
at_most true n = omega arith
at_most false n = omega arith

removed_len : {X : Type 0} (m : FinMap nat_cmp X) (k : ℕ) (x : X) → get m k ≡ Some x → len (remove m k) ≡ len m - 1
removed_len m k x e = len-remove nat_cmp_total m k ∙ less_one (contains_key m k) (len m) (ap is_some e)

removed_most : {X : Type 0} (m : FinMap nat_cmp X) (k : ℕ) → len (remove m k) ≤ len m
removed_most m k = subst (λ n. n ≤ len m) (sym (len-remove nat_cmp_total m k)) (at_most (contains_key m k) (len m))

-- the places that a receiver has, all of them and those of early packets, are no more than these
record HasPlaces (all early : ℕ) (r : Receiver) : Type 0 where
  pieces : HavePieces r
  in_all : all_packets r ≤ all
  ahead_of_next : early_packets r ≤ early

places_dispatched : (all early : ℕ) (r : Receiver) (c : IncomingPacket) → next_whole (get r.held (after r.front 1)) ≡ Some c → HasPlaces all early r → HasPlaces all early (with_dispatched wire r c)
places_dispatched all early r c e h =
    let there = (whole_is (get r.held (after r.front 1)) c e).0 in
    let some_piece : 1 ≤ count_of c.making = h.pieces (after r.front 1) c there in
    let p : Receiver = with_passed wire r c in
    let less : len (with_passed wire r c).held < len r.held = len-without_first wire r.held (after r.front 1) (count_of c.making) c (wire_begins r.front) (omega arith) there in
    let before = removed_len r.held (after r.front 1) c there in
    let now = removed_most (with_passed wire r c).held (after (with_passed wire r c).front 1) in
    let waits : packets_in (with_passed wire r c).waiting ≤ packets_in r.waiting = without_packets wire r.waiting r.front (count_of c.making) in
    let out : length (with_passed wire r c).dispatched ≡ length r.dispatched + 1 = length-append r.dispatched (handed_out c ∷ []) in
    let flush = flushed_packets 0 (with_passed wire r c) in
    let left = flushed_waiting 0 (with_passed wire r c) in
    let was = h.in_all in
    let was_early = h.ahead_of_next in
    record {
      pieces = HavePieces-dispatched wire r c h.pieces;
      in_all = omega arith;
      ahead_of_next = omega arith;
    }

places_flushed : (all early first : ℕ) (r : Receiver) → HasPlaces all early r → HasPlaces all early (flushed_from first r)
places_flushed all early first r h =
    let flush = flushed_packets first r in
    let left = flushed_waiting first r in
    let was = h.in_all in
    let was_early = h.ahead_of_next in
    record { pieces = h.pieces; in_all = omega arith; ahead_of_next = omega arith }

places_released : (all early : ℕ) (r : Receiver) → HasPlaces all early r → HasPlaces all early (all_released wire r)
places_released all early r h =
    let s : Receiver = released wire (len r.held) r in
    places_flushed all early (s.unreliable + 1) s (released-keeps wire (HasPlaces all early) (places_dispatched all early) (len r.held) r h)

-- ---- what is added

begun_step : {X : Type 0} (o : Option X) (n : ℕ) → cond (is_some o) n (n + 1) ≤ n + cond (is_none o) 1 0
begun_step None n = omega arith
begun_step (Some x) n = omega arith

begun_len : {X : Type 0} (m : FinMap nat_cmp X) (k : ℕ) (v : X) → len (insert m k v) ≤ len m + cond (is_none (get m k)) 1 0
begun_len m k v = subst (λ n. n ≤ len m + cond (is_none (get m k)) 1 0) (sym (len-insert nat_cmp_total m k v)) (begun_step (get m k) (len m))

less_of_both : (b : Bool) (n m x : ℕ) → n ≤ m + x → cond b (n - 1) n ≤ cond b (m - 1) m + x
less_of_both true n m x h = omega arith
less_of_both false n m x h = h

begun_apart : {X : Type 0} (m : FinMap nat_cmp X) (k p : ℕ) (v : X) → k ≢ p → len (remove (insert m p v) k) ≤ len (remove m k) + cond (is_none (get m p)) 1 0
begun_apart m k p v apart =
    let now = len-remove nat_cmp_total (insert m p v) k in
    let was = len-remove nat_cmp_total m k in
    let same : contains_key (insert m p v) k ≡ contains_key m k = ap is_some (get-insert_other m p k v apart) in
    let both = less_of_both (contains_key m k) (len (insert m p v)) (len m) (cond (is_none (get m p)) 1 0) (begun_len m p v) in
    let first : len (remove (insert m p v) k) ≡ cond (contains_key m k) (len (insert m p v) - 1) (len (insert m p v)) = now ∙ ap (λ b. cond b (len (insert m p v) - 1) (len (insert m p v))) same in
    omega arith

-- of a packet past the front
next_len : {X : Type 0} (m : FinMap nat_cmp X) (k p : ℕ) (v : X) → p ≡ k → len (remove (insert m p v) k) ≡ len (remove m k)
next_len m k p v e = ap (λ n. len (remove (insert m n v) k)) e ∙ ap (λ x. len x) (remove-insert m k v)

begun_early : {X : Type 0} (m : FinMap nat_cmp X) (k p : ℕ) (v : X) → len (remove (insert m p v) k) ≤ len (remove m k) + cond (is_none (get m p)) 1 0
begun_early m k p v =
    elim (two_numbers k p) [
      | inl same ↦ (let e = next_len m k p v (sym same) in omega arith)
      | inr apart ↦ begun_apart m k p v apart
    ]

added_all : (r : Receiver) (c : DataCommand) (place : ℕ) (e : IncomingPacket) → all_packets (with_added r c place e) ≤ all_packets r + cond (is_none (came_at r c place)) 1 0
added_all r c place e =
    elim c.reliable as (λ b. len (cond b (insert r.held place e) r.held) + packets_in (cond b r.waiting (with_line r.waiting place (insert (line_at r.waiting place) c.unreliable e))) + length r.dispatched
    ≤ all_packets r + cond (is_none (cond b (get r.held place) (get (line_at r.waiting place) c.unreliable))) 1 0) [
      | true ↦ (let n = begun_len r.held place e in omega arith)
      | false ↦ (let n = begun_len (line_at r.waiting place) c.unreliable e in let all = line_packets r.waiting place (insert (line_at r.waiting place) c.unreliable e) in omega arith)
    ]

added_early : (r : Receiver) (c : DataCommand) (place : ℕ) (e : IncomingPacket) → early_packets (with_added r c place e) ≤ early_packets r + cond (is_none (came_at r c place)) 1 0
added_early r c place e =
    elim c.reliable as (λ b. len (remove (cond b (insert r.held place e) r.held) (after r.front 1)) + packets_in (cond b r.waiting (with_line r.waiting place (insert (line_at r.waiting place) c.unreliable e)))
    ≤ early_packets r + cond (is_none (cond b (get r.held place) (get (line_at r.waiting place) c.unreliable))) 1 0) [
      | true ↦ (let n = begun_early r.held (after r.front 1) place e in omega arith)
      | false ↦ (let n = begun_len (line_at r.waiting place) c.unreliable e in let all = line_packets r.waiting place (insert (line_at r.waiting place) c.unreliable e) in omega arith)
    ]

added_next : (r : Receiver) (c : DataCommand) (place : ℕ) (e : IncomingPacket) → c.reliable ≡ true → place ≡ after r.front 1 → early_packets (with_added r c place e) ≤ early_packets r
added_next r c place e t is =
    subst (λ b. len (remove (cond b (insert r.held place e) r.held) (after r.front 1)) + packets_in (cond b r.waiting (with_line r.waiting place (insert (line_at r.waiting place) c.unreliable e))) ≤ early_packets r) (sym t)
    (let n = next_len r.held (after r.front 1) place e is in omega arith)

-- ---- each packet that is held has a piece

some_piece : (most : ℕ) (c : DataCommand) (o : Option IncomingPacket) → is_piece most c ≡ true → ((e : IncomingPacket) → o ≡ Some e → 1 ≤ count_of e.making) → 1 ≤ count_of (with_more (earlier_or_new o c) c).making
some_piece most c None t h = (grown_new most c t).some_piece
some_piece most c (Some e) t h =
    let count : count_of (with_more e c).making ≡ count_of e.making = count_of-with_piece e.making (place_in_packet c) c.body in
    let some' = h e refl in
    omega arith

pieces_added : (most : ℕ) (r : Receiver) (c : DataCommand) (place : ℕ) → is_piece most c ≡ true → HavePieces r → HavePieces (with_added r c place (with_more (earlier_or_new (came_at r c place) c) c))
pieces_added most r c place t h =
    let e : IncomingPacket = with_more (earlier_or_new (came_at r c place) c) c in
    elim c.reliable as (λ b. c.reliable ≡ b → HavePieces (record r { held = cond b (insert r.held place e) r.held; waiting = cond b r.waiting (with_line r.waiting place (insert (line_at r.waiting place) c.unreliable e)) })) [
      | true ↦ λ k q x f. (let at : came_at r c place ≡ get r.held place = ap (λ b. cond b (get r.held place) (get (line_at r.waiting place) c.unreliable)) k in
          elim (get_inserted r.held place q e x f) [
            | inl same ↦ subst (λ (y : IncomingPacket). 1 ≤ count_of y.making) same.1 (some_piece most c (came_at r c place) t (λ y g. h place y (sym at ∙ g)))
            | inr other ↦ h q x other.1
          ])
      | false ↦ λ k q x f. h q x f
    ] refl

-- ---- a command that comes

held_full : (b c w n : Bool) → cond (b || c) Again (cond (w && n) Waiting Held) ≡ Held → w ≡ true → n ≡ false
held_full true c w n e f = absurd (cc)
held_full false true w n e f = absurd (cc)
held_full false false true true e f = absurd (cc)
held_full false false true false e f = refl
held_full false false false n e f = absurd (cc)

held_at : (t : Bool) (o : Took) → cond t o Bad ≡ Held → o ≡ Held
held_at true o e = e
held_at false o e = absurd (cc)

-- where so much waits that no packet begins, it is of one that began
pub began_before : (most : ℕ) (r : Receiver) (c : DataCommand) (full : Bool) (place : ℕ) → outcome wire most r c full ≡ Held → place_read wire r c ≡ Some place → full ≡ true → is_none (came_at r c place) ≡ false
began_before most r c full place held read is =
    let at : outcome_of r c full place (came_at r c place) ≡ Held = ap (outcome_at r c full) (sym read) ∙ held_at (is_piece_of_its_packet wire most r c) (outcome_at r c full (place_read wire r c)) held in
    held_full (is_behind r c place) (came (came_at r c place) c) full (is_none (came_at r c place)) at is

read_of : (b inside : Bool) (n place : ℕ) (o : Option ℕ) → b ≡ true → cond b (cond inside (Some n) None) o ≡ Some place → n ≡ place
read_of true true n place o t e = cc
read_of true false n place o t e = absurd (cc)
read_of false inside n place o t e = absurd (cc)

past_front : (front start : ℕ) → start ≡ after front 1 → after front (ahead (front % 65536) start) ≡ after front 1
past_front front start e = omega arith

-- a command of the packet just past the front stands there
pub next_place : (r : Receiver) (c : DataCommand) (place : ℕ) → is_next r c ≡ true → place_read wire r c ≡ Some place → (c.reliable ≡ true) × (place ≡ after r.front 1)
next_place r c place next read =
    let parts = and_parts c.reliable (eqb (piece_of c).start (after r.front 1)) next in
    let test : eqb (piece_of c).start (after r.front 1) ≡ true = parts.1 in
    let start : (piece_of c).start ≡ after r.front 1 = grind (arith, nat_tests) in (
      parts.0,
      sym (read_of c.reliable (fragment_in_window (r.front % 65536) (piece_of c).start c.number) (after r.front (ahead (r.front % 65536) (piece_of c).start)) place (number_read wire r.front c.number) parts.0 read)
          ∙ past_front r.front (piece_of c).start start,
    )

pub all_by : (full none : Bool) (a x n : ℕ) → (full ≡ true → none ≡ false) → a ≤ x + cond none n 0 → a ≤ x + cond full 0 n
all_by true true a x n h le = absurd (let f = h refl in cc)
all_by true false a x n h le = le
all_by false true a x n h le = le
all_by false false a x n h le = omega arith

pub early_by : (full next none : Bool) (a x n : ℕ) → (full ≡ true → none ≡ false) → (next ≡ true → a ≤ x) → a ≤ x + cond none n 0 → a ≤ x + cond (full || next) 0 n
early_by true next true a x n h k le = absurd (let f = h refl in cc)
early_by true next false a x n h k le = le
early_by false true none a x n h k le = (let l = k refl in omega arith)
early_by false false true a x n h k le = le
early_by false false false a x n h k le = omega arith

-- nothing changes
stays : (full : Bool) (r : Receiver) (c : DataCommand) → TakesAPlace full r c r
stays full r c = record { all = omega arith; early = omega arith }

-- it takes a place at most, and what is held has pieces still
abbrev Placed : Bool → Receiver → DataCommand → Receiver → Type 0
Placed full r c new = TakesAPlace full r c new × HavePieces new

placed_at : (most : ℕ) (r : Receiver) (c : DataCommand) (full : Bool) (place : ℕ) → outcome wire most r c full ≡ Held → place_read wire r c ≡ Some place → HavePieces r → Placed full r c (added_at wire r c (Some place))
placed_at most r c full place held read pieces =
    let e : IncomingPacket = with_more (earlier_or_new (came_at r c place) c) c in
    let began = began_before most r c full place held read in
    let known = admitted most r c full place held read in
    let released' : HasPlaces (all_packets r + cond full 0 1) (early_packets r + cond (full || is_next r c) 0 1) (all_released wire (with_added r c place (with_more (earlier_or_new (came_at r c place) c) c))) =
    places_released _ _ (with_added r c place e) (record {
      pieces = pieces_added most r c place known.piece pieces;
      in_all = all_by full (is_none (came_at r c place)) (all_packets (with_added r c place e)) (all_packets r) 1 began (added_all r c place e);
      ahead_of_next =
          early_by full (is_next r c) (is_none (came_at r c place)) (early_packets (with_added r c place e)) (early_packets r) 1 began
          (λ next. (let there = next_place r c place next read in added_next r c place e there.0 there.1)) (added_early r c place e);
    }) in
    (record { all = released'.in_all; early = released'.ahead_of_next }, released'.pieces)

placed_if : (most : ℕ) (r : Receiver) (c : DataCommand) (full : Bool) (o : Option ℕ) → outcome wire most r c full ≡ Held → place_read wire r c ≡ o → HavePieces r → Placed full r c (added_at wire r c o)
placed_if most r c full None held read pieces = (stays full r c, pieces)
placed_if most r c full (Some place) held read pieces = placed_at most r c full place held read pieces

placed_with : (most : ℕ) (r : Receiver) (c : DataCommand) (full : Bool) (t : Took) → outcome wire most r c full ≡ t → HavePieces r → Placed full r c (received_with t wire r c)
placed_with most r c full Held e pieces = placed_if most r c full (place_read wire r c) e refl pieces
placed_with most r c full Again e pieces = (stays full r c, pieces)
placed_with most r c full Outside e pieces = (stays full r c, pieces)
placed_with most r c full Bad e pieces = (stays full r c, pieces)
placed_with most r c full Waiting e pieces = (stays full r c, pieces)
placed_with most r c full Memory e pieces = (stays full r c, pieces)

pub takes_a_place : (most : ℕ) (r : Receiver) (c : DataCommand) (full : Bool) → HavePieces r → TakesAPlace full r c (received wire most r c full)
takes_a_place most r c full pieces = (placed_with most r c full (outcome wire most r c full) refl pieces).0

pub keeps_pieces : (most : ℕ) (r : Receiver) (c : DataCommand) (full : Bool) → HavePieces r → HavePieces (received wire most r c full)
keeps_pieces most r c full pieces = (placed_with most r c full (outcome wire most r c full) refl pieces).1
