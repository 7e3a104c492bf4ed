-- What is known of a command that is taken in.
use Rattle.std.proofs.Common.{◌≡◌, ℕ, ◌+◌, ◌%◌, ◌<◌, ◌≤◌, leb, eqb, Bool, true, false, cond, not, ◌&&◌, ◌||◌, length, refl, sym, ap, subst, ◌∙◌, inl, inr, arith, Option, Some, None, is_some, []}
use Rattle.std.specs.Option.{is_none}
use Rattle.std.specs.FinMap.{get, insert}
use Rattle.std.proofs.lemmas.Bool.{and_parts}
use Rattle.std.proofs.lemmas.Bool.Decides.{nat_tests}
use Rattle.enet_seq.specs.Numbering.{Numbering, wire, number_read, start_read}
use Rattle.enet_seq.specs.Windows.{ahead, after, in_window}
use Rattle.enet_seq.proofs.WindowsLemmas.{inside_is_near}
use Rattle.enet_fragment.specs.Place.{is_sound}
use Rattle.enet_fragment.specs.PartialPacket.{count_of, nothing_yet, piece_at, belongs}
use Rattle.enet_fragment.specs.declared.data.DataCommand.{DataCommand}
use Rattle.enet_fragment.specs.DataCommand.{piece_of, place_in_packet}
use Rattle.enet_fragment.proofs.Places.{Sound-from_test, Fits-from_test}
use Rattle.enet_fragment.proofs.Laws.{count_of-with_piece, count_of-nothing_yet}
use Rattle.enet_packets.specs.declared.incoming_packet.IncomingPacket.{IncomingPacket}
use Rattle.enet_packets.specs.Packets.{line_at, with_line}
use Rattle.enet_receiver.specs.declared.took.Took.TheVariants.{Held, Again, Bad, Waiting}
use Rattle.enet_receiver.specs.Receiver.{Receiver}
use Rattle.enet_receiver.specs.DataOutcome.{outcome, outcome_at, outcome_of, place_read, came_at, came_if, came_before, is_piece, is_piece_of_its_packet, agrees_with, came, is_behind, earlier_or_new, with_more, with_added}
use Rattle.enet_receiver.specs.Private.ReceiverParts.{grown_at, with_stored}
use Rattle.enet_receiver.specs.Private.Admitted.{Admitted, IsInside}
use Rattle.enet_receiver.specs.Invariant.{IsHeld, Keeps}
use Rattle.enet_receiver.proofs.Maps.{get_inserted}
use Rattle.enet_receiver.proofs.LineLemmas.{Line, get_with_line}
use Rattle.enet_receiver.proofs.Keeping.{packets_at}

fragment_facts : (b x y : Bool) → (b || x) ≡ true → (b || y) ≡ false → (x ≡ true) × (y ≡ false)
fragment_facts true x y e f = absurd (cc)
fragment_facts false x y e f = (e, f)

-- a later piece belongs to its packet, and is missing
pub earlier_facts : (e : IncomingPacket) (c : DataCommand) → agrees_with (Some e) c ≡ true → came (Some e) c ≡ false
    → (belongs e.making (place_in_packet c) ≡ true) × (is_some (piece_at e.making (piece_of c).number) ≡ false)
earlier_facts e c agrees missing = fragment_facts (is_none c.fragment) (belongs e.making (place_in_packet c)) (is_some (piece_at e.making (piece_of c).number)) agrees missing

-- a payload above the packet size is no piece
pub too_long : (most : ℕ) (c : DataCommand) → most < length c.body → is_piece most c ≡ false
too_long most c long =
    elim (is_sound (place_in_packet c)) as (λ b. is_sound (place_in_packet c) ≡ b
    → (b && leb (piece_of c).total most && (not c.reliable || eqb c.number (((piece_of c).start + (piece_of c).number) % 65536))) ≡ false) [
      | false ↦ λ _. refl
      | true ↦ λ t. (let ends : (piece_of c).offset + length c.body ≤ (piece_of c).total = (Sound-from_test (place_in_packet c) t).ends in
          let above : leb (piece_of c).total most ≡ false = grind (arith, nat_tests) in
          ap (λ b. b && (not c.reliable || eqb c.number (((piece_of c).start + (piece_of c).number) % 65536))) above)
    ] refl

held_when : (b c w : Bool) → cond (b || c) Again (cond w Waiting Held) ≡ Held → (b ≡ false) × (c ≡ false)
held_when true c w e = absurd (cc)
held_when false true w e = absurd (cc)
held_when false false w e = (refl, refl)

-- a command that is looked at is compared with what came of its packet
pub came_before-read : (g : Numbering) (r : Receiver) (c : DataCommand) (place : ℕ) → place_read g r c ≡ Some place → came_before g r c ≡ came_at r c place
came_before-read g r c place =
    elim c.reliable as (λ b. cond b (start_read g r.front (piece_of c).start c.number) (number_read g r.front c.number) ≡ Some place
    → came_if r c (number_read g r.front (cond b (piece_of c).start c.number)) ≡ came_at r c place) [
      | true ↦ λ e. ap (came_if r c) (start_of (in_window (r.front % 65536) (piece_of c).start) (in_window (r.front % 65536) c.number) (g.after r.front (ahead (r.front % 65536) (piece_of c).start)) e)
      | false ↦ λ e. ap (came_if r c) e
    ]
  where
    start_of : (a b : Bool) (n : ℕ) → cond (a && b) (Some n) None ≡ Some place → cond a (Some n) None ≡ Some place
    start_of true true n e = e
    start_of true false n e = absurd (cc)
    start_of false b n e = absurd (cc)

-- what comes of a command that is looked at
pub outcome-read : (most : ℕ) (r : Receiver) (c : DataCommand) (full : Bool) (place : ℕ) (earlier : Option IncomingPacket) → is_piece most c ≡ true → earlier ≡ came_before wire r c → agrees_with earlier c ≡ true → place_read wire r c ≡ Some place
    → outcome wire most r c full ≡ outcome_of r c full place earlier
outcome-read most r c full place earlier piece is agrees read =
    let fits : is_piece_of_its_packet wire most r c ≡ true = λ i. piece i && (ap (λ o. agrees_with o c) (sym is) ∙ agrees) i in
    ap (λ b. cond b (outcome_at r c full (place_read wire r c)) Bad) fits ∙ ap (outcome_at r c full) read
    ∙ ap (outcome_of r c full place) (sym (came_before-read wire r c place read) ∙ sym is)

pub admitted : (most : ℕ) (r : Receiver) (c : DataCommand) (full : Bool) (place : ℕ) → outcome wire most r c full ≡ Held → place_read wire r c ≡ Some place → Admitted most r c place
admitted most r c full place held read =
    elim (is_piece_of_its_packet wire most r c) as (λ b. is_piece_of_its_packet wire most r c ≡ b → cond b (outcome_at r c full (place_read wire r c)) Bad ≡ Held → Admitted most r c place) [
      | false ↦ λ _ e. absurd (cc)
      | true ↦ λ t e.
          let fits = and_parts (is_piece most c) (agrees_with (came_before wire r c) c) t in
          let at : outcome_of r c full place (came_at r c place) ≡ Held = ap (outcome_at r c full) (sym read) ∙ e in
          let parts = held_when (is_behind r c place) (came (came_at r c place) c) _ at in
          let agrees : agrees_with (came_at r c place) c ≡ true = ap (λ o. agrees_with o c) (sym (came_before-read wire r c place read)) ∙ fits.1 in
          record { piece = fits.0; read = read; agrees = agrees; not_behind = parts.0; missing = parts.1 }
    ] refl held

-- what a piece says
pub piece_sound : (most : ℕ) (c : DataCommand) → is_piece most c ≡ true → (is_sound (place_in_packet c) ≡ true) × ((piece_of c).total ≤ most)
piece_sound most c t =
    let one = and_parts (is_sound (place_in_packet c) && leb (piece_of c).total most) _ t in
    let two = and_parts (is_sound (place_in_packet c)) (leb (piece_of c).total most) one.0 in
    (two.0, (let e : leb (piece_of c).total most ≡ true = two.1 in grind (arith, nat_tests)))

pub short_piece : (most : ℕ) (c : DataCommand) → is_piece most c ≡ true → length c.body ≤ most
short_piece most c t =
    let sound = piece_sound most c t in
    let ends : (piece_of c).offset + length c.body ≤ (piece_of c).total = (Sound-from_test (place_in_packet c) sound.0).ends in
    let total : (piece_of c).total ≤ most = sound.1 in
    omega arith

-- a number that is looked at is read as itself
pub read_back : (front n : ℕ) → front < 65536 → n < 65536 → after front (ahead (front % 65536) n) ≡ n
read_back front n a b = omega arith

pub inside_number : (front n : ℕ) → front < 65536 → n < 65536 → in_window front n ≡ true → IsInside front n
inside_number front n a b inside = record { wire = b; far = inside_is_near front n a b inside }

apart_ahead : (front place : ℕ) → front < 65536 → place < 65536 → eqb place front ≡ false → 1 ≤ ahead front place
apart_ahead front place a b e = grind (arith, nat_tests)

-- the packet with the piece more
pub record IsGrown (most : ℕ) (e : IncomingPacket) : Type 0 where
  pub some_piece : 1 ≤ count_of e.making
  pub few_pieces : count_of e.making ≤ 16384
  pub small : e.making.total ≤ most

pub grown_new : (most : ℕ) (c : DataCommand) → is_piece most c ≡ true → IsGrown most (with_more (earlier_or_new None c) c)
grown_new most c t =
    let sound = piece_sound most c t in
    let parts = Sound-from_test (place_in_packet c) sound.0 in
    let count : count_of (with_more (earlier_or_new None c) c).making ≡ (piece_of c).count = count_of-with_piece (nothing_yet (piece_of c).count (piece_of c).total) (place_in_packet c) c.body ∙ count_of-nothing_yet (piece_of c).count (piece_of c).total in
    let below : (piece_of c).number < (piece_of c).count = parts.below in
    let limit : (piece_of c).count ≤ 16384 = parts.within_limit in
    record { some_piece = omega arith; few_pieces = omega arith; small = sound.1 }

pub grown_more : (most : ℕ) (c : DataCommand) (e : IncomingPacket) → IsGrown most e → IsGrown most (with_more e c)
grown_more most c e g =
    let count : count_of (with_more e c).making ≡ count_of e.making = count_of-with_piece e.making (place_in_packet c) c.body in
    record { some_piece = omega arith; few_pieces = omega arith; small = g.small }

pub small_new : (most : ℕ) (c : DataCommand) (o : Option IncomingPacket) → is_piece most c ≡ true → ((e : IncomingPacket) → o ≡ Some e → e.making.total ≤ most) → (with_more (earlier_or_new o c) c).making.total ≤ most
small_new most c None t h = (piece_sound most c t).1
small_new most c (Some e) t h = h e refl

pub grown : (most : ℕ) (c : DataCommand) (o : Option IncomingPacket) → is_piece most c ≡ true → ((e : IncomingPacket) → o ≡ Some e → IsGrown most e) → IsGrown most (with_more (earlier_or_new o c) c)
grown most c None t h = grown_new most c t
grown most c (Some e) t h = grown_more most c e (h e refl)

-- a reliable piece
Keeps-held : (most : ℕ) (r : Receiver) (place : ℕ) (e : IncomingPacket) → Keeps most r → place < 65536 → 1 ≤ ahead r.front place → ahead r.front place ≤ 28671 → IsGrown most e → Keeps most (record r { held = insert r.held place e })
Keeps-held most r place e k low near far g = record {
  packet = k.packet;
  wire = k.wire;
  held = λ q x f. elim (get_inserted r.held place q e x f) [
    | inl same ↦ subst (λ (p : ℕ). IsHeld r.front most p x) (sym same.0) (subst (λ (y : IncomingPacket). IsHeld r.front most place y) same.1 (record { wire = low; near = near; far = far; some_piece = g.some_piece; few_pieces = g.few_pieces; small = g.small }))
    | inr other ↦ k.held q x other.1
  ];
  waiting = k.waiting;
}

-- an unreliable one
Keeps-waiting : (most : ℕ) (r : Receiver) (place count : ℕ) (e : IncomingPacket) → Keeps most r → place < 65536 → ahead r.front place ≤ 28671 → count < 65536 → e.making.total ≤ most
    → Keeps most (with_added r (record { reliable = false; number = place; unreliable = count; fragment = None; body = [] }) place e)
Keeps-waiting most r place count e k low far small total = record {
  packet = k.packet;
  wire = k.wire;
  held = k.held;
  waiting = λ q line f. elim (get_with_line r.waiting place (insert (line_at r.waiting place) count e) q line f) [
    | inl same ↦ record {
      wire = omega arith;
      far = subst (λ p. ahead r.front p ≤ 28671) (sym same.0) far;
      packets = λ n x h. elim (get_inserted (line_at r.waiting place) count n e x (ap (λ (l : Line). get l n) same.1 ∙ h)) [
        | inl here ↦ record { wire = omega arith; small = subst (λ (y : IncomingPacket). y.making.total ≤ most) here.1 total }
        | inr there ↦ packets_at most r place n x k there.1
      ];
    }
    | inr other ↦ k.waiting q line other.1
  ];
}

apart_behind : (place front : ℕ) (rel low : Bool) → rel ≡ true → (eqb place front && (rel || low)) ≡ false → eqb place front ≡ false
apart_behind place front false low t e = absurd (cc)
apart_behind place front true low t e = elim (eqb place front) as (λ b. (b && true) ≡ false → b ≡ false) [ true ↦ λ f. f | false ↦ λ f. refl ] e

-- a command that is taken in leaves all inside the window
pub Keeps-stored : (most : ℕ) (r : Receiver) (c : DataCommand) (place : ℕ) → Keeps most r → IsInside r.front place → c.unreliable < 65536 → Admitted most r c place → Keeps most (with_stored r c place)
Keeps-stored most r c place k inside count a =
    let e : IncomingPacket = grown_at r c place in
    elim c.reliable as (λ b. c.reliable ≡ b → Keeps most (record r {
      held = cond b (insert r.held place e) r.held;
      waiting = cond b r.waiting (with_line r.waiting place (insert (line_at r.waiting place) c.unreliable e));
    })) [
      | true ↦ λ t.
          let at : came_at r c place ≡ get r.held place = ap (λ b. cond b (get r.held place) (get (line_at r.waiting place) c.unreliable)) t in
          let apart = apart_behind place r.front c.reliable (leb c.unreliable r.unreliable) t a.not_behind in
          Keeps-held most r place e k inside.wire (apart_ahead r.front place k.wire inside.wire apart) inside.far
          (grown most c (came_at r c place) a.piece (λ x f. (let h = k.held place x (sym at ∙ f) in record { some_piece = h.some_piece; few_pieces = h.few_pieces; small = h.small })))
      | false ↦ λ t.
          let at : came_at r c place ≡ get (line_at r.waiting place) c.unreliable = ap (λ b. cond b (get r.held place) (get (line_at r.waiting place) c.unreliable)) t in
          Keeps-waiting most r place c.unreliable e k inside.wire inside.far count
          (small_new most c (came_at r c place) a.piece (λ x f. (packets_at most r place c.unreliable x k (sym at ∙ f)).small))
    ] refl

-- how many pieces the packet of a command has
pub grown_count : (most : ℕ) (r : Receiver) (c : DataCommand) (place : ℕ) → Admitted most r c place → count_of (grown_at r c place).making ≡ (piece_of c).count
grown_count most r c place a = go (came_at r c place) a.agrees a.missing
  where
    go : (o : Option IncomingPacket) → agrees_with o c ≡ true → came o c ≡ false → count_of (with_more (earlier_or_new o c) c).making ≡ (piece_of c).count
    go None agrees missing = count_of-with_piece (nothing_yet (piece_of c).count (piece_of c).total) (place_in_packet c) c.body ∙ count_of-nothing_yet (piece_of c).count (piece_of c).total
    go (Some e) agrees missing =
        count_of-with_piece e.making (place_in_packet c) c.body
        ∙ sym (Fits-from_test e.making (place_in_packet c) (earlier_facts e c agrees missing).0).count
