-- What a command takes of room.
use Rattle.std.proofs.Common.{◌≡◌, ℕ, zero, suc, ◌+◌, ◌-◌, ◌^◌, ◌<◌, ◌≤◌, eqb, Bool, true, false, cond, ◌&&◌, ◌||◌, List, [], ◌∷◌, length, map, sum_by, refl, sym, ap, subst, ◌∙◌, inl, inr, arith, Option, Some, None, is_some, unwrap_or}
use Rattle.std.proofs.Math.ListN.{replicate, set}
use Rattle.std.proofs.lemmas.Bool.Decides.{nat_tests}
use Rattle.std.proofs.lemmas.List.{get_or-replicate}
use Rattle.std.proofs.lemmas.List.Elements.{All-head, All-tail}
use Rattle.std.proofs.lemmas.List.Sums.{sum_by-cons, sum_by-append, sum_by_push}
use Rattle.std.specs.Prelude.{nat_le, nat_lt}
use Rattle.std.specs.Ordering.{nat_cmp}
use Rattle.std.specs.Option.{option_map, is_none}
use Rattle.std.specs.FinMap.{FinMap, get, insert, remove, len, empty, entries, values, entries_sorted, entries-from_sorted, empty_of_len, get-empty}
use Rattle.std.specs.FinMap.Entries.{where_key, is_sorted-where_key}
use Rattle.enet_seq.specs.Numbering.{Numbering, wire}
use Rattle.enet_seq.specs.Windows.{after}
use Rattle.enet_fragment.specs.declared.place.Place.{Place}
use Rattle.enet_fragment.specs.PartialPacket.{PartialPacket, count_of, nothing_yet, piece_at, belongs, joined}
use Rattle.enet_fragment.specs.Collected.{written_at}
use Rattle.enet_fragment.specs.Whole.{is_whole}
use Rattle.enet_fragment.specs.declared.data.DataCommand.{DataCommand}
use Rattle.enet_fragment.specs.DataCommand.{piece_of, place_in_packet}
use Rattle.enet_fragment.proofs.Places.{Sound-from_test}
use Rattle.enet_fragment.proofs.Laws.{belongs-first, count_of-nothing_yet, count_of-with_piece, IsWhole-tested}
use Rattle.enet_fragment.proofs.Views.{AreKept-new, making_of-new, AreKept-added, making_of-added, joined-making, total_of-making, count_of-making}
use Rattle.enet_packets.specs.declared.incoming_packet.IncomingPacket.{IncomingPacket}
use Rattle.enet_packets.specs.declared.incoming_packet.Dispatched.{Dispatched}
use Rattle.enet_packets.specs.Invariant.{AreWholeUpTo}
use Rattle.enet_packets.specs.Packets.{Lines, bytes_of, bytes_in, line_at, with_line, fresh, still_ahead, handed_out}
use Rattle.enet_packets.proofs.Maps.{sum-insert, remove-absent, remove-insert}
use Rattle.enet_packets.proofs.LineLemmas.{bytes_nothing, none_from}
use Rattle.enet_packets.proofs.PacketLemmas.{whole_to_last}
use Rattle.enet_receiver.specs.declared.took.Took.{Took}
use Rattle.enet_receiver.specs.declared.took.Took.TheVariants.{Held, Again, Outside, Bad, Waiting, Memory}
use Rattle.enet_receiver.specs.Receiver.{Receiver, without, with_passed, next_whole, released, all_released, flushed_from, flushed_last, front_line, held_bytes, cleared, without_waiting}
use Rattle.enet_receiver.specs.DataOutcome.{outcome, place_read, came_at, is_next, is_piece, agrees_with, came, received, received_with, added_at, with_added, with_more, earlier_or_new}
use Rattle.enet_receiver.specs.Laws.{HavePieces}
use Rattle.enet_receiver.specs.Members.{Has}
use Rattle.enet_receiver.specs.Room.{IsMade, HasMade, dispatched_bytes, all_bytes, early_bytes, TakesRoom}
use Rattle.enet_receiver.proofs.Admission.{admitted, earlier_facts, piece_sound}
use Rattle.enet_receiver.proofs.Entries.{get_entry, get_retained}
use Rattle.enet_receiver.proofs.Fresh.{Entries}
use Rattle.enet_receiver.proofs.LineLemmas.{Line, in_line, line_at-other, line_at-same}
use Rattle.enet_receiver.proofs.Maps.{two_numbers, get_inserted, get-insert_other, get-remove_same}
use Rattle.enet_receiver.proofs.Placing.{put_back, kept_by, began_before, next_place, all_by, early_by}
use Rattle.enet_receiver.proofs.Released.{wire_begins, whole_is, released-keeps}
use Rattle.enet_receiver.proofs.Without.{get_without, without-first}

-- ---- a packet as its pieces make it

abbrev total_of : IncomingPacket → ℕ
total_of c = c.making.total

abbrev body_of : Dispatched → ℕ
body_of d = length d.body

-- once it is whole it has just as many bytes as it was to have
body_is : (most : ℕ) (c : IncomingPacket) → IsMade most c → is_whole c.making ≡ true → body_of (handed_out c) ≡ total_of c
body_is most c m whole =
    let all : joined c.making.pieces ≡ m.bytes = joined-making m.bytes m.came m.missing c.making.cut c.making m.is m.kept.counted m.kept.some_piece ((IsWhole-tested c.making).0 whole) in
    ap (λ (xs : List ℕ). length xs) all ∙ sym (total_of-making m.bytes m.came c.making.cut c.making m.is)

pieces_of_made : (most : ℕ) (c : IncomingPacket) → IsMade most c → 1 ≤ count_of c.making
pieces_of_made most c m =
    let count = count_of-making m.bytes m.came c.making.cut c.making m.is in
    let some_piece = m.kept.some_piece in
    omega arith

pub have_pieces : (most : ℕ) (r : Receiver) → HasMade most r → HavePieces r
have_pieces most r h = λ n c e. pieces_of_made most c (h.held n c e)

made_first : (most : ℕ) (c : DataCommand) → most < 2 ^ 32 → is_piece most c ≡ true → IsMade most (with_more (earlier_or_new None c) c)
made_first most c small t =
    let p : Place = place_in_packet c in
    let m : PartialPacket = nothing_yet (piece_of c).count (piece_of c).total in
    let bytes : List ℕ = replicate (piece_of c).total 0 in
    let marks : List Bool = replicate (piece_of c).count false in
    let sound = piece_sound most c t in
    let parts = Sound-from_test (place_in_packet c) sound.0 in
    let below : (piece_of c).number < (piece_of c).count = parts.below in
    let limit : (piece_of c).count ≤ 16384 = parts.within_limit in
    let total : (piece_of c).total ≤ most = sound.1 in
    let kept = AreKept-new bytes marks (piece_of c).count (piece_of c).total (omega arith) (omega arith) (omega arith) refl refl in
    let is = making_of-new bytes marks (piece_of c).count (piece_of c).total refl refl in
    let fits : belongs m p ≡ true = belongs-first p ∙ sound.0 in
    let absent : piece_at m p.number ≡ None = get_or-replicate (piece_of c).count (piece_of c).number None None below in
    let count : count_of (with_more (earlier_or_new None c) c).making ≡ (piece_of c).count = count_of-with_piece m p c.body ∙ count_of-nothing_yet (piece_of c).count (piece_of c).total in
    record {
      bytes = written_at p.offset c.body bytes;
      came = set marks p.number true;
      missing = (piece_of c).count - 1;
      is = making_of-added bytes c.body marks (piece_of c).count None m p kept is fits refl;
      kept = AreKept-added bytes c.body marks (piece_of c).count None m p kept is fits absent refl;
      small = total;
      few_pieces = omega arith;
    }

made_more : (most : ℕ) (e : IncomingPacket) (c : DataCommand) → IsMade most e → belongs e.making (place_in_packet c) ≡ true → is_some (piece_at e.making (piece_of c).number) ≡ false → IsMade most (with_more e c)
made_more most e c m fits missing =
    let p : Place = place_in_packet c in
    let count : count_of (with_more e c).making ≡ count_of e.making = count_of-with_piece e.making p c.body in
    let few : count_of e.making ≤ 16384 = m.few_pieces in
    record {
      bytes = written_at p.offset c.body m.bytes;
      came = set m.came p.number true;
      missing = m.missing - 1;
      is = making_of-added m.bytes c.body m.came m.missing e.making.cut e.making p m.kept m.is fits refl;
      kept = AreKept-added m.bytes c.body m.came m.missing e.making.cut e.making p m.kept m.is fits (none_from (piece_at e.making p.number) missing) refl;
      small = m.small;
      few_pieces = omega arith;
    }

made_grown : (most : ℕ) (c : DataCommand) (o : Option IncomingPacket) → most < 2 ^ 32 → is_piece most c ≡ true → agrees_with o c ≡ true → came o c ≡ false → ((e : IncomingPacket) → o ≡ Some e → IsMade most e)
    → IsMade most (with_more (earlier_or_new o c) c)
made_grown most c None small t agrees missing h = made_first most c small t
made_grown most c (Some e) small t agrees missing h = let facts = earlier_facts e c agrees missing in made_more most e c (h e refl) facts.0 facts.1

-- ---- all packets of a receiver

made_flushed : (most first : ℕ) (r : Receiver) → HasMade most r → HasMade most (flushed_from first r)
made_flushed most first r k = record {
  held = k.held;
  waiting = λ n j c e. elim (two_numbers n r.front) [
    | inl same ↦ (let f : get (still_ahead (front_line r) (flushed_last r)) j ≡ Some c =
        ap (λ (l : Line). get l j) (sym (line_at-same r.waiting r.front (still_ahead (front_line r) (flushed_last r)))) ∙ ap (λ i. get (line_at (flushed_from first r).waiting i) j) (sym same) ∙ e in
        k.waiting r.front j c (get_retained (front_line r) (nat_lt (flushed_last r)) j c f))
    | inr apart ↦ k.waiting n j c (ap (λ (l : Line). get l j) (sym (line_at-other r.waiting r.front (still_ahead (front_line r) (flushed_last r)) n apart)) ∙ e)
  ];
}

made_passed : (most : ℕ) (r : Receiver) (c : IncomingPacket) → HasMade most r → HasMade most (with_passed wire r c)
made_passed most r c k = record {
  held = λ n x e. k.held n x (get_without wire r.held (after r.front 1) (count_of c.making) n x e);
  waiting = λ n j x e. (let l = in_line (get (without wire r.waiting r.front (count_of c.making)) n) j x e in
      let was : get r.waiting n ≡ Some l.0 = get_without wire r.waiting r.front (count_of c.making) n l.0 l.1 in
      k.waiting n j x (ap (λ (o : Option Line). get (unwrap_or o empty) j) was ∙ l.2));
}

made_added : (most : ℕ) (r : Receiver) (c : DataCommand) (place : ℕ) (e : IncomingPacket) → IsMade most e → HasMade most r → HasMade most (with_added r c place e)
made_added most r c place e made k = by c.reliable
  where
    by : (b : Bool) → HasMade most (record r { held = cond b (insert r.held place e) r.held; waiting = cond b r.waiting (with_line r.waiting place (insert (line_at r.waiting place) c.unreliable e)) })
    by true = record {
      held = λ n x h. elim (get_inserted r.held place n e x h) [ inl new ↦ subst (λ (y : IncomingPacket). IsMade most y) new.1 made | inr old ↦ k.held n x old.1 ];
      waiting = k.waiting;
    }
    by false =
        let line : Line = insert (line_at r.waiting place) c.unreliable e in
        record {
          held = k.held;
          waiting = λ n j x h. elim (two_numbers n place) [
            | inl same ↦ (let f : get line j ≡ Some x = ap (λ (l : Line). get l j) (sym (line_at-same r.waiting place line)) ∙ ap (λ i. get (line_at (with_line r.waiting place line) i) j) (sym same) ∙ h in
                elim (get_inserted (line_at r.waiting place) c.unreliable j e x f) [ inl new ↦ subst (λ (y : IncomingPacket). IsMade most y) new.1 made | inr old ↦ k.waiting place j x old.1 ])
            | inr apart ↦ k.waiting n j x (ap (λ (l : Line). get l j) (sym (line_at-other r.waiting place line n apart)) ∙ h)
          ];
        }

made_before : (most : ℕ) (r : Receiver) (c : DataCommand) (place : ℕ) → HasMade most r → (e : IncomingPacket) → came_at r c place ≡ Some e → IsMade most e
made_before most r c place k = by c.reliable
  where
    by : (b : Bool) → (e : IncomingPacket) → cond b (get r.held place) (get (line_at r.waiting place) c.unreliable) ≡ Some e → IsMade most e
    by true e h = k.held place e h
    by false e h = k.waiting place c.unreliable e h

nothing_made : (most n : ℕ) (c : IncomingPacket) → get (empty {X = IncomingPacket} {R = nat_cmp}) n ≡ Some c → IsMade most c
nothing_made most n c e = absurd (let f = get-empty {X = IncomingPacket} nat_cmp n in cc)

no_line_made : (most n k : ℕ) (c : IncomingPacket) → get (line_at empty n) k ≡ Some c → IsMade most c
no_line_made most n k c e = absurd (let l = in_line (get empty n) k c e in let none = get-empty {X = Line} nat_cmp n in let there : get empty n ≡ Some l.0 = l.1 in cc)

-- nothing is held and nothing waits
pub made_cleared : (most : ℕ) (r : Receiver) → HasMade most (cleared r)
made_cleared most r = record { held = nothing_made most; waiting = no_line_made most }

-- nothing waits
pub made_alone : (most : ℕ) (r : Receiver) → HasMade most r → HasMade most (without_waiting r)
made_alone most r k = record { held = k.held; waiting = no_line_made most }

-- ---- sums

removed_sum : {X : Type 0} (f : X → ℕ) (m : FinMap nat_cmp X) (k : ℕ) → sum_by f (values (remove m k)) + unwrap_or (option_map f (get m k)) 0 ≡ sum_by f (values m)
removed_sum {X = X} f m k =
    elim (get m k) as (λ o. get m k ≡ o → sum_by f (values (remove m k)) + unwrap_or (option_map f o) 0 ≡ sum_by f (values m)) [
      | None ↦ λ e. (let same : sum_by f (values (remove m k)) ≡ sum_by f (values m) = ap (λ (x : FinMap nat_cmp X). sum_by f (values x)) (remove-absent m k e) in omega arith)
      | Some v ↦ λ e. (let back : sum_by f (values (insert (remove m k) k v)) ≡ sum_by f (values m) = ap (λ (x : FinMap nat_cmp X). sum_by f (values x)) (put_back m k v e) in
          let sum = sum-insert f (remove m k) k v in
          let gone : unwrap_or (option_map f (get (remove m k) k)) 0 ≡ 0 = ap (λ (o : Option X). unwrap_or (option_map f o) 0) (get-remove_same m k) in
          omega arith)
    ] refl

removed_least : {X : Type 0} (f : X → ℕ) (m : FinMap nat_cmp X) (k : ℕ) → sum_by f (values (remove m k)) ≤ sum_by f (values m)
removed_least f m k = let sum = removed_sum f m k in omega arith

without_sum : {X : Type 0} (f : X → ℕ) (g : Numbering) (m : FinMap nat_cmp X) (n count : ℕ) → sum_by f (values (without g m n count)) ≤ sum_by f (values m)
unfolding without
without_sum f g m n zero = omega arith
without_sum f g m n (suc count) =
    let rest = without_sum f g m n count in
    let one = removed_least f (without g m n count) (g.after n count) in
    omega arith

weighed : (o : Option Line) → unwrap_or (option_map bytes_of o) 0 ≡ bytes_of (unwrap_or o empty)
weighed None = sym bytes_nothing
weighed (Some line) = refl

line_bytes : (w : Lines) (n : ℕ) (line : Line) → bytes_in (with_line w n line) + bytes_of (line_at w n) ≡ bytes_in w + bytes_of line
line_bytes w n line =
    elim (eqb (len line) 0) as (λ b. eqb (len line) 0 ≡ b → bytes_in (cond b (remove w n) (insert w n line)) + bytes_of (line_at w n) ≡ bytes_in w + bytes_of line) [
      | true ↦ λ t. (let none : len line ≡ 0 = grind (arith, nat_tests) in
          let light : bytes_of line ≡ 0 = ap bytes_of (empty_of_len line none) ∙ bytes_nothing in
          let sum = removed_sum bytes_of w n in
          let old = weighed (get w n) in
          omega arith)
      | false ↦ λ t. (let sum = sum-insert bytes_of w n line in let old = weighed (get w n) in omega arith)
    ] refl

-- ---- what is flushed was in its line

abbrev in_entries : Entries → ℕ
in_entries es = sum_by total_of (map (λ (e : ℕ × IncomingPacket). e.1) es)

one_of : (whole reached past : Bool) (d : Dispatched) (ds : List Dispatched) (e : ℕ × IncomingPacket) (es : Entries) (n : ℕ) → (whole ≡ true → past ≡ false) → (whole ≡ true → body_of d ≡ total_of e.1)
    → dispatched_bytes ds + in_entries es ≤ n → dispatched_bytes (cond (whole && reached) (d ∷ ds) ds) + in_entries (cond past (e ∷ es) es) ≤ total_of e.1 + n
one_of true true true d ds e es n apart same rest = absurd (let f = apart refl in cc)
one_of true true false d ds e es n apart same rest = (let one = sum_by-cons body_of d ds in let is = same refl in omega arith)
one_of true false true d ds e es n apart same rest = absurd (let f = apart refl in cc)
one_of true false false d ds e es n apart same rest = omega arith
one_of false reached true d ds e es n apart same rest = (let one = sum_by-cons total_of e.1 (map (λ (x : ℕ × IncomingPacket). x.1) es) in omega arith)
one_of false reached false d ds e es n apart same rest = omega arith

abbrev is_whole_to : ℕ → ℕ × IncomingPacket → Type 0
is_whole_to last e = is_whole e.1.making ≡ true → e.0 ≤ last

fresh_or_left : (most first last : ℕ) (es : Entries) → AreWholeUpTo last es → ((e : ℕ × IncomingPacket) → Has es e → IsMade most e.1) → dispatched_bytes (fresh first es) + in_entries (where_key nat_cmp (nat_lt last) es) ≤ in_entries es
fresh_or_left most first last [] w made = omega arith
fresh_or_left most first last (e ∷ es) w made =
    let all = sum_by-cons total_of e.1 (map (λ (x : ℕ × IncomingPacket). x.1) es) in
    let one = one_of (is_whole e.1.making) (nat_le first e.0) (nat_lt last e.0) (handed_out e.1) (fresh first es) e (where_key nat_cmp (nat_lt last) es) (in_entries es)
    (λ t. (let low : e.0 ≤ last = All-head (is_whole_to last) e es w t in grind (arith, nat_tests)))
    (λ t. body_is most e.1 (made e (inl refl)) t)
    (fresh_or_left most first last es (All-tail (is_whole_to last) e es w) (λ x h. made x (inr h))) in
    omega arith

bytes_left : (line : Line) (last : ℕ) → bytes_of (still_ahead line last) ≡ in_entries (where_key nat_cmp (nat_lt last) (entries line))
bytes_left line last =
    ap bytes_of (kept_by line (nat_lt last))
    ∙ ap in_entries (entries-from_sorted nat_cmp (where_key nat_cmp (nat_lt last) (entries line)) (is_sorted-where_key nat_cmp (nat_lt last) (entries line) (entries_sorted line)))

flushed_bytes : (most first : ℕ) (r : Receiver) → HasMade most r → bytes_in (flushed_from first r).waiting + dispatched_bytes (flushed_from first r).dispatched ≤ bytes_in r.waiting + dispatched_bytes r.dispatched
flushed_bytes most first r k =
    let sum = line_bytes r.waiting r.front (still_ahead (front_line r) (flushed_last r)) in
    let parts = fresh_or_left most first (flushed_last r) (entries (front_line r)) (whole_to_last r.unreliable (entries (front_line r))) (λ e h. k.waiting r.front e.0 e.1 (get_entry (front_line r) e h)) in
    let left = bytes_left (front_line r) (flushed_last r) in
    let out = sum_by-append body_of r.dispatched (fresh first (entries (front_line r))) in
    omega arith

flushed_waiting : (most first : ℕ) (r : Receiver) → HasMade most r → bytes_in (flushed_from first r).waiting ≤ bytes_in r.waiting
flushed_waiting most first r k =
    let all = flushed_bytes most first r k in
    let out = sum_by-append body_of r.dispatched (fresh first (entries (front_line r))) in
    omega arith

-- ---- what is dispatched was held

-- the bytes that a receiver has, all of them and those of early packets, are no more than these
record HasRoom (most all early : ℕ) (r : Receiver) : Type 0 where
  made : HasMade most r
  in_all : all_bytes r ≤ all
  ahead_of_next : early_bytes r ≤ early

room_flushed : (most all early first : ℕ) (r : Receiver) → HasRoom most all early r → HasRoom most all early (flushed_from first r)
room_flushed most all early first r h =
    let flush = flushed_bytes most first r h.made in
    let left = flushed_waiting most first r h.made in
    let was = h.in_all in
    let was_early = h.ahead_of_next in
    record { made = made_flushed most first r h.made; in_all = omega arith; ahead_of_next = omega arith }

room_passed : (most all early : ℕ) (r : Receiver) (c : IncomingPacket) → next_whole (get r.held (after r.front 1)) ≡ Some c → HasRoom most all early r → HasRoom most all early (with_passed wire r c)
room_passed most all early r c e h =
    let due = whole_is (get r.held (after r.front 1)) c e in
    let made = h.made.held (after r.front 1) c due.0 in
    let some_piece = pieces_of_made most c made in
    let body = body_is most c made due.1 in
    let before = removed_sum total_of r.held (after r.front 1) in
    let this : unwrap_or (option_map total_of (get r.held (after r.front 1))) 0 ≡ total_of c = ap (λ (o : Option IncomingPacket). unwrap_or (option_map total_of o) 0) due.0 in
    let less : bytes_of (with_passed wire r c).held ≤ bytes_of (remove r.held (after r.front 1)) =
    subst (λ (m : FinMap nat_cmp IncomingPacket). bytes_of m ≤ bytes_of (remove r.held (after r.front 1))) (without-first wire r.held (after r.front 1) (count_of c.making) (wire_begins r.front) some_piece)
    (without_sum total_of wire (remove r.held (after r.front 1)) (after r.front 1) (count_of c.making)) in
    let now = removed_least total_of (with_passed wire r c).held (after (with_passed wire r c).front 1) in
    let waits : bytes_in (with_passed wire r c).waiting ≤ bytes_in r.waiting = without_sum bytes_of wire r.waiting r.front (count_of c.making) in
    let out : dispatched_bytes (with_passed wire r c).dispatched ≡ dispatched_bytes r.dispatched + body_of (handed_out c) = sum_by_push body_of r.dispatched (handed_out c) in
    let was = h.in_all in
    let was_early = h.ahead_of_next in
    record { made = made_passed most r c h.made; in_all = omega arith; ahead_of_next = omega arith }

room_released : (most all early : ℕ) (r : Receiver) → HasRoom most all early r → HasRoom most all early (all_released wire r)
room_released most all early r h =
    let s : Receiver = released wire (len r.held) r in
    room_flushed most all early (s.unreliable + 1) s
    (released-keeps wire (HasRoom most all early) (λ q c e k. room_flushed most all early 0 (with_passed wire q c) (room_passed most all early q c e k)) (len r.held) r h)

-- ---- what is added

-- a packet that began has all its bytes already
abbrev before_of : Option IncomingPacket → ℕ
before_of o = unwrap_or (option_map total_of o) 0

grown_total : (most : ℕ) (c : DataCommand) (o : Option IncomingPacket) → (piece_of c).total ≤ most → total_of (with_more (earlier_or_new o c) c) ≤ before_of o + cond (is_none o) most 0
grown_total most c None h = omega arith
grown_total most c (Some e) h = omega arith

begun_bytes : (m : FinMap nat_cmp IncomingPacket) (k : ℕ) (v : IncomingPacket) (n : ℕ) → total_of v ≤ before_of (get m k) + n → bytes_of (insert m k v) ≤ bytes_of m + n
begun_bytes m k v n h = let sum = sum-insert total_of m k v in omega arith

begun_early : (m : FinMap nat_cmp IncomingPacket) (k p : ℕ) (v : IncomingPacket) (n : ℕ) → total_of v ≤ before_of (get m p) + n → bytes_of (remove (insert m p v) k) ≤ bytes_of (remove m k) + n
begun_early m k p v n h =
    elim (two_numbers k p) [
      | inl same ↦ (let e : bytes_of (remove (insert m p v) k) ≡ bytes_of (remove m k) = ap (λ i. bytes_of (remove (insert m i v) k)) (sym same) ∙ ap bytes_of (remove-insert m k v) in omega arith)
      | inr apart ↦ (let now = removed_sum total_of (insert m p v) k in
          let was = removed_sum total_of m k in
          let same : before_of (get (insert m p v) k) ≡ before_of (get m k) = ap before_of (get-insert_other m p k v apart) in
          let grown = begun_bytes m p v n h in
          omega arith)
    ]

added_all : (r : Receiver) (c : DataCommand) (place : ℕ) (e : IncomingPacket) (n : ℕ) → total_of e ≤ before_of (came_at r c place) + n → all_bytes (with_added r c place e) ≤ all_bytes r + n
added_all r c place e n = by c.reliable
  where
    by : (b : Bool) → total_of e ≤ before_of (cond b (get r.held place) (get (line_at r.waiting place) c.unreliable)) + n
        → bytes_of (cond b (insert r.held place e) r.held) + bytes_in (cond b r.waiting (with_line r.waiting place (insert (line_at r.waiting place) c.unreliable e))) + dispatched_bytes r.dispatched ≤ all_bytes r + n
    by true h = (let m = begun_bytes r.held place e n h in omega arith)
    by false h = (let m = begun_bytes (line_at r.waiting place) c.unreliable e n h in let all = line_bytes r.waiting place (insert (line_at r.waiting place) c.unreliable e) in omega arith)

added_early : (r : Receiver) (c : DataCommand) (place : ℕ) (e : IncomingPacket) (n : ℕ) → total_of e ≤ before_of (came_at r c place) + n → early_bytes (with_added r c place e) ≤ early_bytes r + n
added_early r c place e n = by c.reliable
  where
    by : (b : Bool) → total_of e ≤ before_of (cond b (get r.held place) (get (line_at r.waiting place) c.unreliable)) + n
        → bytes_of (remove (cond b (insert r.held place e) r.held) (after r.front 1)) + bytes_in (cond b r.waiting (with_line r.waiting place (insert (line_at r.waiting place) c.unreliable e))) ≤ early_bytes r + n
    by true h = (let m = begun_early r.held (after r.front 1) place e n h in omega arith)
    by false h = (let m = begun_bytes (line_at r.waiting place) c.unreliable e n h in let all = line_bytes r.waiting place (insert (line_at r.waiting place) c.unreliable e) in omega arith)

added_next : (r : Receiver) (c : DataCommand) (place : ℕ) (e : IncomingPacket) → c.reliable ≡ true → place ≡ after r.front 1 → early_bytes (with_added r c place e) ≤ early_bytes r
added_next r c place e t is =
    subst (λ b. bytes_of (remove (cond b (insert r.held place e) r.held) (after r.front 1)) + bytes_in (cond b r.waiting (with_line r.waiting place (insert (line_at r.waiting place) c.unreliable e))) ≤ early_bytes r) (sym t)
    (let same : bytes_of (remove (insert r.held place e) (after r.front 1)) ≡ bytes_of (remove r.held (after r.front 1)) =
    ap (λ i. bytes_of (remove (insert r.held i e) (after r.front 1))) is ∙ ap bytes_of (remove-insert r.held (after r.front 1) e) in
    omega arith)

-- ---- a command that comes

-- it takes room for a packet at most, and what is held or waits is made of its pieces still
abbrev Roomed : ℕ → Bool → Receiver → DataCommand → Receiver → Type 0
Roomed most full r c new = TakesRoom most full r c new × HasMade most new

stays : (most : ℕ) (full : Bool) (r : Receiver) (c : DataCommand) → HasMade most r → Roomed most full r c r
stays most full r c made = (record { all = omega arith; early = omega arith }, made)

roomed_at : (most : ℕ) (r : Receiver) (c : DataCommand) (full : Bool) (place : ℕ) → most < 2 ^ 32 → outcome wire most r c full ≡ Held → place_read wire r c ≡ Some place → HasMade most r → Roomed most full r c (added_at wire r c (Some place))
roomed_at most r c full place small held read made =
    let e : IncomingPacket = with_more (earlier_or_new (came_at r c place) c) c in
    let began = began_before most r c full place held read in
    let known = admitted most r c full place held read in
    let total = grown_total most c (came_at r c place) (piece_sound most c known.piece).1 in
    let after' : HasRoom most (all_bytes r + cond full 0 most) (early_bytes r + cond (full || is_next r c) 0 most) (all_released wire (with_added r c place (with_more (earlier_or_new (came_at r c place) c) c))) =
    room_released most _ _ (with_added r c place e) (record {
      made = made_added most r c place e (made_grown most c (came_at r c place) small known.piece known.agrees known.missing (made_before most r c place made)) made;
      in_all = all_by full (is_none (came_at r c place)) (all_bytes (with_added r c place e)) (all_bytes r) most began (added_all r c place e (cond (is_none (came_at r c place)) most 0) total);
      ahead_of_next =
          early_by full (is_next r c) (is_none (came_at r c place)) (early_bytes (with_added r c place e)) (early_bytes r) most began
          (λ next. (let there = next_place r c place next read in added_next r c place e there.0 there.1)) (added_early r c place e (cond (is_none (came_at r c place)) most 0) total);
    }) in
    (record { all = after'.in_all; early = after'.ahead_of_next }, after'.made)

roomed_if : (most : ℕ) (r : Receiver) (c : DataCommand) (full : Bool) (o : Option ℕ) → most < 2 ^ 32 → outcome wire most r c full ≡ Held → place_read wire r c ≡ o → HasMade most r → Roomed most full r c (added_at wire r c o)
roomed_if most r c full None small held read made = stays most full r c made
roomed_if most r c full (Some place) small held read made = roomed_at most r c full place small held read made

roomed_with : (most : ℕ) (r : Receiver) (c : DataCommand) (full : Bool) (t : Took) → most < 2 ^ 32 → outcome wire most r c full ≡ t → HasMade most r → Roomed most full r c (received_with t wire r c)
roomed_with most r c full Held small e made = roomed_if most r c full (place_read wire r c) small e refl made
roomed_with most r c full Again small e made = stays most full r c made
roomed_with most r c full Outside small e made = stays most full r c made
roomed_with most r c full Bad small e made = stays most full r c made
roomed_with most r c full Waiting small e made = stays most full r c made
roomed_with most r c full Memory small e made = stays most full r c made

pub takes_room : (most : ℕ) (r : Receiver) (c : DataCommand) (full : Bool) → most < 2 ^ 32 → HasMade most r → TakesRoom most full r c (received wire most r c full)
takes_room most r c full small made = (roomed_with most r c full (outcome wire most r c full) small refl made).0

pub keeps_made : (most : ℕ) (r : Receiver) (c : DataCommand) (full : Bool) → most < 2 ^ 32 → HasMade most r → HasMade most (received wire most r c full)
keeps_made most r c full small made = (roomed_with most r c full (outcome wire most r c full) small refl made).1

-- ---- the packet that is dispatched next, and the others

pub early_least : (r : Receiver) → early_bytes r ≤ held_bytes r
early_least r = let least = removed_least total_of r.held (after r.front 1) in omega arith

before_most : (most : ℕ) (o : Option IncomingPacket) → ((c : IncomingPacket) → o ≡ Some c → IsMade most c) → before_of o ≤ most
before_most most None h = omega arith
before_most most (Some c) h = (h c refl).small

pub early_or_next : (most : ℕ) (r : Receiver) → HasMade most r → held_bytes r ≤ early_bytes r + most
early_or_next most r h =
    let sum = removed_sum total_of r.held (after r.front 1) in
    let next = before_most most (get r.held (after r.front 1)) (λ c e. h.held (after r.front 1) c e) in
    omega arith
