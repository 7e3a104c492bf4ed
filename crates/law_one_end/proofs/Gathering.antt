-- What a receiver has of packets was brought by the commands that came, and so was what it dispatched.
use Rattle.std.proofs.Common.{◌≡◌, ℕ, zero, suc, ◌+◌, ◌%◌, ◌<◌, ◌≤◌, T, Bool, true, false, cond, not, ◌==◌, ◌&&◌, ◌||◌, List, [], ◌∷◌, ◌++◌, map, get_or, refl, sym, ap, subst, ◌∙◌, inl, inr, arith, Option, Some, None}
use Rattle.std.specs.List.{concat}
use Rattle.std.specs.Prelude.{unwrap_or, nat_le, nat_lt, slice_get, is_some}
use Rattle.std.specs.Ordering.{nat_cmp}
use Rattle.std.specs.FinMap.{FinMap, get, insert, empty, entries, entries_sorted, is_sorted, get-empty, retain_keys}
use Rattle.std.specs.FinMap.Entries.{below_all}
use Rattle.std.proofs.lemmas.Bool.{and_parts}
use Rattle.std.proofs.lemmas.Bool.Decides.{nat_tests}
use Rattle.std.proofs.lemmas.List.{length-map}
use Rattle.enet_seq.specs.Windows.{ahead, in_window, fragment_in_window}
use Rattle.enet_seq.specs.Numbering.{unbounded, number_read, start_read}
use Rattle.enet_fragment.specs.PartialPacket.{PartialPacket, count_of, piece_at, joined, nothing_yet, with_piece}
use Rattle.enet_fragment.specs.Place.{is_sound}
use Rattle.enet_fragment.specs.Whole.{is_whole}
use Rattle.enet_fragment.specs.declared.data.DataCommand.{DataCommand}
use Rattle.enet_fragment.specs.DataCommand.{piece_of, place_in_packet}
use Rattle.enet_fragment.proofs.Places.{Sound-from_test, Fits-from_test}
use Rattle.enet_packets.specs.declared.incoming_packet.IncomingPacket.{IncomingPacket}
use Rattle.enet_packets.specs.Packets.{line_at, with_line, fresh, last_fresh, handed_out}
use Rattle.enet_receiver.specs.Members.{Has}
use Rattle.enet_receiver.specs.Receiver.{Receiver, nothing_received, flushed_from, without, with_passed, with_dispatched, without_waiting}
use Rattle.enet_receiver.specs.DataOutcome.{came_at, is_piece, agrees_with, came, earlier_or_new, with_more, with_added, received, flags_of}
use Rattle.enet_receiver.proofs.Maps.{get_inserted, two_numbers}
use Rattle.enet_receiver.proofs.Entries.{get_entry, get_retained, above_all, T_left, T_right}
use Rattle.enet_receiver.proofs.Without.{get_without}
use Rattle.enet_receiver.proofs.Admission.{earlier_facts, piece_sound}
use Rattle.law_connection.proofs.Makings.{count_of-nothing, count_of-with, piece_at-nothing, piece_cases, has_piece-some, whole-has}
use Rattle.law_connection.proofs.ContentLemmas.{is_up, waiting-left, waiting-replaced_same, waiting-replaced_other, none-wait}
use Rattle.law_connection.proofs.Runs.{get-map, inside}
use Rattle.law_one_end.specs.OneEnd.{Heard}
use Rattle.law_one_end.specs.Carried.{Place, Brings, IsCarried, reliable_at, unreliable_at}
use Rattle.law_one_end.proofs.Rows.{RowTo, row-append, row-more, Covers}
use Rattle.law_one_end.proofs.Taking.{IsTaken, grown, received-keeps, added-reliable, added-unreliable}

-- the pieces of a packet in the making were brought
pub record Gathers (came : List Heard) (channel : ℕ) (at : Place) (m : PartialPacket) : Type 0 where
  pub some_piece : 1 ≤ count_of m
  pub brought : (i : ℕ) (bytes : List ℕ) → piece_at m i ≡ Some bytes → (h : Heard) × Has came h × Brings channel at (count_of m) i bytes h

-- and it has the flags of its kind
pub record Comes (came : List Heard) (channel : ℕ) (at : Place) (c : IncomingPacket) : Type 0 where
  pub gathers : Gathers came channel at c.making
  pub flags : (c.flags == 1) ≡ at.reliable

-- a whole packet was carried

abbrev bytes_of : List (Option (List ℕ)) → List (List ℕ)
bytes_of pieces = map (λ p. unwrap_or p []) pieces

concat-bytes : (pieces : List (Option (List ℕ))) → concat (bytes_of pieces) ≡ joined pieces
unfolding joined
concat-bytes [] = refl
concat-bytes (p ∷ pieces) = ap (λ (l : List ℕ). unwrap_or p [] ++ l) (concat-bytes pieces)

got-or : {X : Type 0} (xs : List X) (i : ℕ) (x d : X) → slice_get xs i ≡ Some x → get_or xs i d ≡ x
got-or [] i x d e = absurd (cc)
got-or (y ∷ xs) zero x d e = (let f : Some y ≡ Some x = e in cc)
got-or (y ∷ xs) (suc i) x d e = got-or xs i x d e

carried-whole : (came : List Heard) (channel : ℕ) (at : Place) (m : PartialPacket) → Gathers came channel at m → is_whole m ≡ true → IsCarried came channel at (count_of m) (joined m.pieces)
carried-whole came channel at m g w = record {
  pieces = bytes_of m.pieces;
  many = length-map m.pieces (λ p. unwrap_or p []);
  some_piece = g.some_piece;
  brought = λ i bytes e.
      let r = get-map (λ p. unwrap_or p []) m.pieces i bytes e in
      let low : i < count_of m = inside m.pieces i r.0 r.1 in
      let has = has_piece-some m i (whole-has m i w low) in
      let is : r.0 ≡ Some has.0 = sym (got-or m.pieces i r.0 None r.1) ∙ has.1 in
      let same : has.0 ≡ bytes = sym (ap (λ p. unwrap_or p []) is) ∙ r.2 in
      g.brought i bytes (has.1 ∙ ap Some same);
  whole = concat-bytes m.pieces;
}

-- a piece more

new-flags : (c : DataCommand) (b : Bool) → c.reliable ≡ b → (flags_of c == 1) ≡ b
new-flags c true e = ap (λ b. cond b 1 (cond (is_some c.fragment) 8 0) == 1) e
new-flags c false e = ap (λ b. cond b 1 (cond (is_some c.fragment) 8 0) == 1) e ∙ by (is_some c.fragment)
  where
    by : (b : Bool) → (cond b 8 0 == 1) ≡ false
    by true = refl
    by false = refl

abbrev pub heard_at : ℕ → DataCommand → ℕ → ℕ → Heard
heard_at channel c front taken = record { channel = channel; command = c; front = front; taken = taken }

pub comes-more : (came' : List Heard) (channel : ℕ) (at : Place) (most front taken : ℕ) (c : DataCommand) (o : Option IncomingPacket) → Has came' (heard_at channel c front taken)
    → Brings channel at (piece_of c).count (piece_of c).number c.body (heard_at channel c front taken) → is_piece most c ≡ true → agrees_with o c ≡ true → came o c ≡ false
    → ((e : IncomingPacket) → o ≡ Some e → Comes came' channel at e) → Comes came' channel at (with_more (earlier_or_new o c) c)
comes-more came' channel at most front taken c o there b piece agrees missing old = go o agrees missing old
  where
    sound : is_sound (place_in_packet c) ≡ true
    sound = (piece_sound most c piece).0

    -- a packet that has as many pieces as it says
    added : (m : PartialPacket) → (piece_of c).count ≡ count_of m → Gathers came' channel at m → Gathers came' channel at (with_piece m (place_in_packet c) c.body)
    added m many g =
        let p = Sound-from_test (place_in_packet c) sound in
        let below : (piece_of c).number < (piece_of c).count = p.below in
        let same : count_of (with_piece m (place_in_packet c) c.body) ≡ count_of m = count_of-with m (place_in_packet c) c.body in
        let some' = g.some_piece in
        record {
          some_piece = omega arith;
          brought = λ i bytes e. subst (λ n. (h : Heard) × Has came' h × Brings channel at n i bytes h) (sym same) (elim (piece_cases m (place_in_packet c) c.body i bytes (omega arith) e) [
            | inl is ↦ (
              heard_at channel c front taken,
              there,
              subst (λ n. Brings channel at n i bytes (heard_at channel c front taken)) many
                  (subst (λ j. Brings channel at (piece_of c).count j bytes (heard_at channel c front taken)) (sym is.0)
                  (subst (λ x. Brings channel at (piece_of c).count (piece_of c).number x (heard_at channel c front taken)) is.1 b)),
            )
            | inr k ↦ g.brought i bytes k.1
          ]);
        }

    go : (o : Option IncomingPacket) → agrees_with o c ≡ true → came o c ≡ false → ((e : IncomingPacket) → o ≡ Some e → Comes came' channel at e) → Comes came' channel at (with_more (earlier_or_new o c) c)
    go None a n h =
        let p = Sound-from_test (place_in_packet c) sound in
        let below : (piece_of c).number < (piece_of c).count = p.below in
        let count = (piece_of c).count in
        let total = (piece_of c).total in
        let many : count_of (nothing_yet count total) ≡ count = count_of-nothing count total in
        record {
          gathers = added (nothing_yet count total) (sym many) (record { some_piece = omega arith; brought = λ i bytes e. absurd (let f = piece_at-nothing count total i in cc) });
          flags = new-flags c at.reliable b.kind;
        }
    go (Some e) a n h =
        let was = h e refl in
        let f = Fits-from_test e.making (place_in_packet c) (earlier_facts e c a n).0 in
        record { gathers = added e.making f.count was.gathers; flags = was.flags }

-- a receiver of a channel

pub record Hears (came : List Heard) (channel : ℕ) (r : Receiver) : Type 0 where
  pub next : ℕ
  pub low : next ≤ r.unreliable + 1
  pub row : RowTo came channel 0 1 r.dispatched r.front next
  pub held : (n : ℕ) (c : IncomingPacket) → get r.held n ≡ Some c → Comes came channel (reliable_at n) c
  pub waiting : (n k : ℕ) (c : IncomingPacket) → get (line_at r.waiting n) k ≡ Some c → Comes came channel (unreliable_at n k) c

pub hears-nothing : (channel : ℕ) → Hears [] channel nothing_received
hears-nothing channel = record {
  next = 1;
  low = (let one : 1 ≤ 0 + 1 = omega arith in one);
  row = (refl, refl);
  held = λ n c e. absurd (let f : get (empty {X = IncomingPacket} {R = nat_cmp}) n ≡ None = get-empty nat_cmp n in cc);
  waiting = λ n k c e. absurd (let f : Some c ≡ None = sym e ∙ none-wait n k in cc);
}

comes-in-more : (came more : List Heard) (channel : ℕ) (at : Place) (c : IncomingPacket) → Covers came more → Comes came channel at c → Comes more channel at c
comes-in-more came more channel at c sub h = (let g = h.gathers in record {
  gathers = record { some_piece = g.some_piece; brought = λ i bytes e. (let b = g.brought i bytes e in (b.0, sub b.0 b.1, b.2)) };
  flags = h.flags;
})

pub hears-more : (came more : List Heard) (channel : ℕ) (r : Receiver) → Covers came more → Hears came channel r → Hears more channel r
hears-more came more channel r sub h = record {
  next = h.next;
  low = h.low;
  row = row-more came more channel 0 1 r.dispatched r.front h.next sub h.row;
  held = λ n c e. comes-in-more came more channel (reliable_at n) c sub (h.held n c e);
  waiting = λ n k c e. comes-in-more came more channel (unreliable_at n k) c sub (h.waiting n k c e);
}

pub hears-given_up : (came : List Heard) (channel : ℕ) (r : Receiver) → Hears came channel r → Hears came channel (without_waiting r)
hears-given_up came channel r h = record { next = h.next; low = h.low; row = h.row; held = h.held; waiting = λ n k c e. absurd (let f : Some c ≡ None = sym e ∙ none-wait n k in cc) }

-- unreliable packets are dispatched

and-parts : (a b : Bool) → (a && b) ≡ true → (a ≡ true) × (b ≡ true)
and-parts true b k = (refl, k)
and-parts false b k = absurd (cc)

above : (a b : ℕ) → nat_le a b ≡ true → a ≤ b
above a b t = grind (arith, nat_tests)

-- the row goes on with them; `last` is the last number before
row-fresh : (came : List Heard) (channel front least first last : ℕ) (es : List (ℕ × IncomingPacket)) → T (is_sorted nat_cmp es) → least ≤ last + 1
    → ((e : ℕ × IncomingPacket) → Has es e → Comes came channel (unreliable_at front e.0) e.1) → ((e : ℕ × IncomingPacket) → Has es e → first ≤ e.0 → least ≤ e.0)
    → (next : ℕ) × (next ≤ last_fresh last es + 1) × RowTo came channel front least (fresh first es) front next
row-fresh came channel front least first last [] sorted low h from = (least, low, (refl, refl))
row-fresh came channel front least first last (e ∷ es) sorted low h from =
    by (λ some' before low' from'. row-fresh came channel front some' first before es (T_right (below_all nat_cmp e.0 es) (is_sorted nat_cmp es) sorted) low' (λ x k. h x (inr k)) from') (is_whole e.1.making && nat_le first e.0) refl
  where
    over : (x : ℕ × IncomingPacket) → Has es x → e.0 < x.0
    over x k = is_up e.0 x.0 (above_all e.0 es x (T_left (below_all nat_cmp e.0 es) (is_sorted nat_cmp es) sorted) k)

    -- the last number after this one
    after : ℕ
    after = cond (is_whole e.1.making && nat_lt last e.0) e.0 last

    after-last : last_fresh last (e ∷ es) ≡ last_fresh after es
    after-last = elim (is_whole e.1.making && nat_lt last e.0) as (λ b. cond b (last_fresh e.0 es) (last_fresh last es) ≡ last_fresh (cond b e.0 last) es) [ true ↦ refl | false ↦ refl ]

    after-up : last ≤ after
    after-up = go (is_whole e.1.making && nat_lt last e.0) refl
      where
        go : (b : Bool) → (is_whole e.1.making && nat_lt last e.0) ≡ b → last ≤ cond b e.0 last
        go true t = (let less : nat_lt last e.0 ≡ true = (and-parts (is_whole e.1.making) (nat_lt last e.0) t).1 in let a : last < e.0 = grind (arith, nat_tests) in let z : last ≤ e.0 = omega arith in z)
        go false t = (let z : last ≤ last = omega arith in z)

    after-own : is_whole e.1.making ≡ true → e.0 ≤ after
    after-own w = go (nat_lt last e.0) refl
      where
        go : (b : Bool) → nat_lt last e.0 ≡ b → e.0 ≤ cond (is_whole e.1.making && b) e.0 last
        go true t = subst (λ x. e.0 ≤ cond (x && true) e.0 last) (sym w) (let same : e.0 ≤ e.0 = omega arith in same)
        go false t = subst (λ x. e.0 ≤ cond (x && false) e.0 last) (sym w) (let a : e.0 ≤ last = grind (arith, nat_tests) in a)

    by : ((some' before : ℕ) → some' ≤ before + 1 → ((x : ℕ × IncomingPacket) → Has es x → first ≤ x.0 → some' ≤ x.0) → (next : ℕ) × (next ≤ last_fresh before es + 1) × RowTo came channel front some' (fresh first es) front next)
        → (b : Bool) → (is_whole e.1.making && nat_le first e.0) ≡ b
        → (next : ℕ) × (next ≤ last_fresh last (e ∷ es) + 1) × RowTo came channel front least (cond b (handed_out e.1 ∷ fresh first es) (fresh first es)) front next
    by goes true t =
        let both = and-parts (is_whole e.1.making) (nat_le first e.0) t in
        let c = h e (inl refl) in
        let own : e.0 ≤ after = after-own both.0 in
        let more = goes (e.0 + 1) after (omega arith) (λ x k f. (let up : e.0 < x.0 = over x k in omega arith)) in (
          more.0,
          subst (λ z. more.0 ≤ z + 1) (sym after-last) more.1,
          inr (
            e.0,
            count_of e.1.making,
            from e (inl refl) (above first e.0 both.1),
            carried-whole came channel (unreliable_at front e.0) e.1.making c.gathers both.0,
            c.flags,
            more.2,
          ),
        )
    by goes false t =
        let up : last ≤ after = after-up in
        let more = goes least after (omega arith) (λ x k f. from x (inr k) f) in
        (more.0, subst (λ z. more.0 ≤ z + 1) (sym after-last) more.1, more.2)

hears-flushed : (came : List Heard) (channel first : ℕ) (r : Receiver) → (h : Hears came channel r) → h.next ≤ first → Hears came channel (flushed_from first r)
hears-flushed came channel first r h low =
    let line : FinMap nat_cmp IncomingPacket = line_at r.waiting r.front in
    let keep : ℕ → Bool = nat_lt (last_fresh r.unreliable (entries line)) in
    let more = row-fresh came channel r.front h.next first r.unreliable (entries line) (entries_sorted line) h.low
    (λ e k. h.waiting r.front e.0 e.1 (get_entry line e k)) (λ e k f. omega arith) in
    record {
      next = more.0;
      low = more.1;
      row = row-append came channel 0 1 r.dispatched (fresh first (entries line)) r.front h.next r.front more.0 h.row more.2;
      held = h.held;
      waiting = λ n q x t. elim (two_numbers n r.front) [
        | inl same ↦
            let here : get (retain_keys line keep) q ≡ Some x =
            ap (λ m. get m q) (sym (waiting-replaced_same r.waiting r.front (retain_keys line keep)))
            ∙ subst (λ z. get (unwrap_or (get (with_line r.waiting r.front (retain_keys line keep)) z) empty) q ≡ Some x) same t in
            subst (λ z. Comes came channel (unreliable_at z q) x) (sym same) (h.waiting r.front q x (get_retained line keep q x here))
        | inr apart ↦ h.waiting n q x (ap (λ (o : Option (FinMap nat_cmp IncomingPacket)). get (unwrap_or o empty) q) (sym (waiting-replaced_other r.waiting r.front n (retain_keys line keep) apart)) ∙ t)
      ];
    }

-- what still waits waited before
hears-dispatched : (came : List Heard) (channel : ℕ) (r : Receiver) (c : IncomingPacket) → get r.held (r.front + 1) ≡ Some c → is_whole c.making ≡ true → Hears came channel r → Hears came channel (with_dispatched unbounded r c)
hears-dispatched came channel r c e w h =
    let it = h.held (r.front + 1) c e in
    let passed : Hears came channel (with_passed unbounded r c) = record {
      next = 0;
      low = omega arith;
      row = row-append came channel 0 1 r.dispatched (handed_out c ∷ []) r.front h.next (r.front + count_of c.making) 0 h.row
          (inl (count_of c.making, carried-whole came channel (reliable_at (r.front + 1)) c.making it.gathers w, it.flags, (refl, refl)));
      held = λ n x t. h.held n x (get_without unbounded r.held (r.front + 1) (count_of c.making) n x t);
      waiting = λ n q x t. h.waiting n q x (waiting-left r.waiting n q (get (without unbounded r.waiting r.front (count_of c.making)) n) x (λ m f. get_without unbounded r.waiting r.front (count_of c.making) n m f) t);
    } in
    hears-flushed came channel 0 (with_passed unbounded r c) passed (let none : 0 ≤ 0 = omega arith in none)

-- a command is taken in

-- where a command's packet stands is what the command says
reads-number : (front number place : ℕ) → number < 65536 → number_read unbounded front number ≡ Some place → number ≡ place % 65536
reads-number front number place small e = by (in_window (front % 65536) number) e
  where
    by : (b : Bool) → cond b (Some (front + ahead (front % 65536) number)) None ≡ Some place → number ≡ place % 65536
    by true f = (let is : front + ahead (front % 65536) number ≡ place = cc in omega arith)
    by false f = absurd (cc)

reads-start : (front start own place : ℕ) → start < 65536 → start_read unbounded front start own ≡ Some place → start ≡ place % 65536
reads-start front start own place small e = by (fragment_in_window (front % 65536) start own) e
  where
    by : (b : Bool) → cond b (Some (front + ahead (front % 65536) start)) None ≡ Some place → start ≡ place % 65536
    by true f = (let is : front + ahead (front % 65536) start ≡ place = cc in omega arith)
    by false f = absurd (cc)

-- the number of a piece
own-number : (most : ℕ) (c : DataCommand) → is_piece most c ≡ true → c.reliable ≡ true → c.number ≡ ((piece_of c).start + (piece_of c).number) % 65536
own-number most c t rel =
    let last = (and_parts _ (not c.reliable || c.number == ((piece_of c).start + (piece_of c).number) % 65536) t).1 in
    let is : (c.number == ((piece_of c).start + (piece_of c).number) % 65536) ≡ true = sym (ap (λ b. not b || c.number == ((piece_of c).start + (piece_of c).number) % 65536) rel) ∙ last in
    equal _ _ is
  where
    equal : (a b : ℕ) → (a == b) ≡ true → a ≡ b
    equal a b e = grind (arith, nat_tests)

hears-added : (came : List Heard) (channel most front taken : ℕ) (r : Receiver) (c : DataCommand) (place : ℕ) → c.number < 65536 → (c.reliable ≡ true → (piece_of c).start < 65536)
    → Has came (heard_at channel c front taken) → IsTaken most r c place → Hears came channel r → Hears came channel (with_added r c place (grown r c place))
hears-added came channel most front taken r c place small small_start there t h = by c.reliable refl
  where
    e : IncomingPacket
    e = grown r c place

    by : (b : Bool) → c.reliable ≡ b → Hears came channel (with_added r c place e)
    by true rel =
        let at : came_at r c place ≡ get r.held place = ap (λ b. cond b (get r.held place) (get (line_at r.waiting place) c.unreliable)) rel in
        let read : start_read unbounded r.front (piece_of c).start c.number ≡ Some place =
        sym (ap (λ b. cond b (start_read unbounded r.front (piece_of c).start c.number) (number_read unbounded r.front c.number)) rel) ∙ t.read in
        let start : (piece_of c).start ≡ place % 65536 = reads-start r.front (piece_of c).start c.number place (small_start rel) read in
        let own : c.number ≡ ((piece_of c).start + (piece_of c).number) % 65536 = own-number most c t.piece rel in
        let b : Brings channel (reliable_at place) (piece_of c).count (piece_of c).number c.body (heard_at channel c front taken) = record {
          channel_is = refl;
          kind = rel;
          number = omega arith;
          unreliable = λ f. absurd (let x : true ≡ false = f in cc);
          count_is = refl;
          index_is = refl;
          bytes_are = refl;
        } in
        let new : Comes came channel (reliable_at place) e = comes-more came channel (reliable_at place) most front taken c (came_at r c place) there b t.piece t.agrees t.missing (λ x f. h.held place x (sym at ∙ f)) in
        subst (Hears came channel) (sym (added-reliable r c place e rel)) (record {
          next = h.next;
          low = h.low;
          row = h.row;
          held = λ n x f. elim (get_inserted r.held place n e x f) [
            | inl w ↦ subst (λ z. Comes came channel (reliable_at z) x) (sym w.0) (subst (Comes came channel (reliable_at place)) w.1 new)
            | inr w ↦ h.held n x w.1
          ];
          waiting = h.waiting;
        })
    by false rel =
        let at : came_at r c place ≡ get (line_at r.waiting place) c.unreliable = ap (λ b. cond b (get r.held place) (get (line_at r.waiting place) c.unreliable)) rel in
        let read : number_read unbounded r.front c.number ≡ Some place =
        sym (ap (λ b. cond b (start_read unbounded r.front (piece_of c).start c.number) (number_read unbounded r.front c.number)) rel) ∙ t.read in
        let own : c.number ≡ place % 65536 = reads-number r.front c.number place small read in
        let b : Brings channel (unreliable_at place c.unreliable) (piece_of c).count (piece_of c).number c.body (heard_at channel c front taken) = record {
          channel_is = refl;
          kind = rel;
          number = own;
          unreliable = λ f. refl;
          count_is = refl;
          index_is = refl;
          bytes_are = refl;
        } in
        let new : Comes came channel (unreliable_at place c.unreliable) e =
        comes-more came channel (unreliable_at place c.unreliable) most front taken c (came_at r c place) there b t.piece t.agrees t.missing (λ x f. h.waiting place c.unreliable x (sym at ∙ f)) in
        let packets : FinMap nat_cmp IncomingPacket = insert (line_at r.waiting place) c.unreliable e in
        subst (Hears came channel) (sym (added-unreliable r c place e rel)) (record {
          next = h.next;
          low = h.low;
          row = h.row;
          held = h.held;
          waiting = λ m q x f. elim (two_numbers m place) [
            | inl same ↦
                let here : get packets q ≡ Some x = ap (λ y. get y q) (sym (waiting-replaced_same r.waiting place packets)) ∙ subst (λ z. get (unwrap_or (get (with_line r.waiting place packets) z) empty) q ≡ Some x) same f in
                subst (λ z. Comes came channel (unreliable_at z q) x) (sym same) (elim (get_inserted (line_at r.waiting place) c.unreliable q e x here) [
                  | inl w ↦ subst (λ z. Comes came channel (unreliable_at place z) x) (sym w.0) (subst (Comes came channel (unreliable_at place c.unreliable)) w.1 new)
                  | inr w ↦ h.waiting place q x w.1
                ])
            | inr apart ↦ h.waiting m q x (ap (λ (o : Option (FinMap nat_cmp IncomingPacket)). get (unwrap_or o empty) q) (sym (waiting-replaced_other r.waiting place m packets apart)) ∙ f)
          ];
        })

pub hears-received : (came : List Heard) (channel most front taken : ℕ) (r : Receiver) (c : DataCommand) (full : Bool) → c.number < 65536 → (c.reliable ≡ true → (piece_of c).start < 65536)
    → Has came (heard_at channel c front taken) → Hears came channel r → Hears came channel (received unbounded most r c full)
hears-received came channel most front taken r c full small small_start there h =
    received-keeps (Hears came channel) (λ x p e w k. hears-dispatched came channel x p e w k) (λ x k. hears-flushed came channel (x.unreliable + 1) x k k.low) most r c full h
    (λ place t. hears-added came channel most front taken r c place small small_start there t h)
