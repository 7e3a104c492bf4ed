-- How far a receiver of unbounded numbers goes by one command.
use Rattle.std.proofs.Common.{◌≡◌, ℕ, ◌+◌, ◌-◌, ◌%◌, ◌<◌, ◌≤◌, Bool, true, false, cond, ◌&&◌, refl, sym, ap, subst, ◌∙◌, inl, inr, arith, Option, Some, None}
use Rattle.std.specs.FinMap.{get}
use Rattle.enet_seq.specs.Windows.{ahead, in_window}
use Rattle.enet_seq.specs.Numbering.{unbounded, number_read, start_read}
use Rattle.enet_seq.proofs.WindowsLemmas.{inside_is_near}
use Rattle.enet_fragment.specs.PartialPacket.{count_of, nothing_yet}
use Rattle.enet_fragment.specs.Whole.{is_whole}
use Rattle.enet_fragment.specs.declared.data.DataCommand.{DataCommand}
use Rattle.enet_fragment.specs.DataCommand.{piece_of, place_in_packet}
use Rattle.enet_fragment.proofs.Places.{Sound-from_test}
use Rattle.enet_packets.specs.declared.incoming_packet.IncomingPacket.{IncomingPacket}
use Rattle.enet_packets.specs.Packets.{line_at}
use Rattle.enet_receiver.specs.Receiver.{Receiver, with_dispatched}
use Rattle.enet_receiver.specs.DataOutcome.{came_at, is_piece, earlier_or_new, with_more, with_added, received}
use Rattle.enet_receiver.proofs.Admission.{piece_sound}
use Rattle.enet_receiver.proofs.Maps.{get_inserted}
use Rattle.enet_receiver.proofs.Without.{get_without}
use Rattle.law_connection.specs.Image.{ShowsReceiver}
use Rattle.law_connection.proofs.Makings.{count_of-nothing, count_of-with}
use Rattle.law_connection.proofs.Runs.{less-or-not}
use Rattle.law_one_end.proofs.Taking.{IsTaken, grown, received-keeps, added-reliable, added-unreliable}

-- a receiver that stood at `before` and took one command in
pub record IsNear (before : ℕ) (r : Receiver) : Type 0 where
  pub low : before ≤ r.front
  pub high : r.front ≤ before + 45055
  pub held : (n : ℕ) (c : IncomingPacket) → get r.held n ≡ Some c → (n ≤ before + 28671) × (count_of c.making ≤ 16384)

near-at-first : (v r : Receiver) → ShowsReceiver v r → IsNear r.front r
near-at-first v r s = record {
  low = omega arith;
  high = omega arith;
  held = λ n c e. (
    elim (less-or-not (r.front + 28671) n) [
      | inl far ↦ absurd (let is : r.front + (n - r.front) ≡ n = omega arith in let f : get r.held n ≡ None = subst (λ m. get r.held m ≡ None) is (s.near (n - r.front) (omega arith)) in cc)
      | inr low ↦ low
    ],
    (s.sized_true n c e).1,
  );
}

near-dispatched : (before : ℕ) (r : Receiver) (c : IncomingPacket) → get r.held (r.front + 1) ≡ Some c → is_whole c.making ≡ true → IsNear before r → IsNear before (with_dispatched unbounded r c)
near-dispatched before r c e w k =
    let it = k.held (r.front + 1) c e in
    let at = it.0 in
    let few = it.1 in
    let low = k.low in
    record {
      low = omega arith;
      high = omega arith;
      held = λ n x t. k.held n x (get_without unbounded r.held (r.front + 1) (count_of c.making) n x t);
    }

start-near : (front start own place : ℕ) → start < 65536 → start_read unbounded front start own ≡ Some place → place ≤ front + 28671
start-near front start own place small e = by (in_window (front % 65536) start) (in_window (front % 65536) own) refl e
  where
    by : (a b : Bool) → in_window (front % 65536) start ≡ a → cond (a && b) (Some (front + ahead (front % 65536) start)) None ≡ Some place → place ≤ front + 28671
    by true true t f = (let is : front + ahead (front % 65536) start ≡ place = cc in let near = inside_is_near (front % 65536) start (omega arith) small t in omega arith)
    by true false t f = absurd (cc)
    by false b t f = absurd (cc)

-- how many pieces a packet has
few-pieces : (most : ℕ) (c : DataCommand) (o : Option IncomingPacket) → is_piece most c ≡ true → ((e : IncomingPacket) → o ≡ Some e → count_of e.making ≤ 16384) → count_of (with_more (earlier_or_new o c) c).making ≤ 16384
few-pieces most c None t h =
    let p = Sound-from_test (place_in_packet c) (piece_sound most c t).0 in
    let limit : (piece_of c).count ≤ 16384 = p.within_limit in
    let a = count_of-with (nothing_yet (piece_of c).count (piece_of c).total) (place_in_packet c) c.body in
    let b = count_of-nothing (piece_of c).count (piece_of c).total in
    omega arith
few-pieces most c (Some e) t h = (let a = count_of-with e.making (place_in_packet c) c.body in let b = h e refl in omega arith)

near-added : (most : ℕ) (r : Receiver) (c : DataCommand) (place : ℕ) → (c.reliable ≡ true → (piece_of c).start < 65536) → IsTaken most r c place → IsNear r.front r → IsNear r.front (with_added r c place (grown r c place))
near-added most r c place small t k = by c.reliable refl
  where
    e : IncomingPacket
    e = grown r c place

    by : (b : Bool) → c.reliable ≡ b → IsNear r.front (with_added r c place e)
    by true rel =
        let at : came_at r c place ≡ get r.held place = ap (λ b. cond b (get r.held place) (get (line_at r.waiting place) c.unreliable)) rel in
        let read : start_read unbounded r.front (piece_of c).start c.number ≡ Some place =
        sym (ap (λ b. cond b (start_read unbounded r.front (piece_of c).start c.number) (number_read unbounded r.front c.number)) rel) ∙ t.read in
        let near : place ≤ r.front + 28671 = start-near r.front (piece_of c).start c.number place (small rel) read in
        let few : count_of e.making ≤ 16384 = few-pieces most c (came_at r c place) t.piece (λ x f. (k.held place x (sym at ∙ f)).1) in
        subst (IsNear r.front) (sym (added-reliable r c place e rel)) (record {
          low = k.low;
          high = k.high;
          held = λ n x f. elim (get_inserted r.held place n e x f) [
            | inl w ↦ (subst (λ m. m ≤ r.front + 28671) (sym w.0) near, subst (λ (y : IncomingPacket). count_of y.making ≤ 16384) w.1 few)
            | inr w ↦ k.held n x w.1
          ];
        })
    by false rel = subst (IsNear r.front) (sym (added-unreliable r c place e rel)) (record { low = k.low; high = k.high; held = k.held })

-- one command takes the front less than 65,536 numbers on
pub front-goes : (most : ℕ) (v r : Receiver) (c : DataCommand) (full : Bool) → (c.reliable ≡ true → (piece_of c).start < 65536) → ShowsReceiver v r → IsNear r.front (received unbounded most r c full)
front-goes most v r c full small s =
    let k : IsNear r.front r = near-at-first v r s in
    received-keeps (IsNear r.front) (λ x p e w h. near-dispatched r.front x p e w h) (λ x h. record { low = h.low; high = h.high; held = h.held }) most r c full k
    (λ place t. near-added most r c place small t k)
