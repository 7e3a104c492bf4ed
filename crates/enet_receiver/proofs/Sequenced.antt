-- No packet that comes in sequence has the flags of an unsequenced one.
use Rattle.std.proofs.Common.{◌≡◌, ℕ, Bool, true, false, cond, ◌==◌, ◌&&◌, List, [], ◌∷◌, ◌++◌, refl, sym, ap, subst, ◌∙◌, inl, inr, Option, Some, None}
use Rattle.std.specs.Prelude.{◌+◌, unwrap_or, nat_lt, nat_le}
use Rattle.std.specs.Ordering.{nat_cmp}
use Rattle.std.specs.Option.{is_some}
use Rattle.std.specs.FinMap.{get, insert, empty, get-empty, entries, len}
use Rattle.enet_seq.specs.Numbering.{Numbering}
use Rattle.enet_fragment.specs.declared.data.DataCommand.{DataCommand}
use Rattle.enet_fragment.specs.PartialPacket.{count_of}
use Rattle.enet_fragment.specs.Whole.{is_whole}
use Rattle.enet_packets.specs.declared.incoming_packet.IncomingPacket.{IncomingPacket}
use Rattle.enet_packets.specs.declared.incoming_packet.Dispatched.{Dispatched}
use Rattle.enet_packets.specs.Packets.{line_at, with_line, fresh, handed_out, still_ahead}
use Rattle.enet_receiver.specs.declared.took.Took.{Took}
use Rattle.enet_receiver.specs.declared.took.Took.TheVariants.{Held, Again, Outside, Bad, Waiting, Memory}
use Rattle.enet_receiver.specs.Sequenced.{IsSequenced, AreSequenced, HasSequenced}
use Rattle.enet_receiver.specs.Receiver.{Receiver, nothing_received, cleared, front_line, flushed_from, flushed_last, without, with_passed, next_whole, released, all_released}
use Rattle.enet_receiver.specs.DataOutcome.{outcome, received, received_with, place_read, came_at, flags_of, earlier_or_new, with_more, with_added, added_at}
use Rattle.enet_receiver.specs.Members.{Has}
use Rattle.enet_receiver.proofs.Entries.{get_entry, get_retained}
use Rattle.enet_receiver.proofs.Maps.{two_numbers, get_inserted}
use Rattle.enet_receiver.proofs.LineLemmas.{Line, in_line, line_at-other, line_at-same}
use Rattle.enet_receiver.proofs.Without.{get_without}
use Rattle.enet_receiver.proofs.Released.{released-keeps}

pub sequenced-append : (xs ys : List Dispatched) → AreSequenced xs → AreSequenced ys → AreSequenced (xs ++ ys)
sequenced-append [] ys a b = b
sequenced-append (x ∷ xs) ys a b = (a.0, sequenced-append xs ys a.1 b)

sequenced-fresh : (first : ℕ) (es : List (ℕ × IncomingPacket)) → ((e : ℕ × IncomingPacket) → Has es e → IsSequenced e.1) → AreSequenced (fresh first es)
sequenced-fresh first [] h = tt
sequenced-fresh first (e ∷ es) h =
    let rest = sequenced-fresh first es (λ x k. h x (inr k)) in
    elim (is_whole e.1.making && nat_le first e.0) as (λ b. AreSequenced (cond b (handed_out e.1 ∷ fresh first es) (fresh first es))) [ true ↦ (h e (inl refl), rest) | false ↦ rest ]

pub sequenced-nothing : HasSequenced nothing_received
sequenced-nothing = record {
  held = λ n c e. absurd (let f = get-empty {X = IncomingPacket} nat_cmp n in cc);
  waiting = λ n k c e. absurd (let f = in-empty n k c e in f);
  dispatched = tt;
}
  where
    in-empty : (n k : ℕ) (c : IncomingPacket) → get (line_at nothing_received.waiting n) k ≡ Some c → ⊥
    in-empty n k c e = let l = in_line (get nothing_received.waiting n) k c e in let none = get-empty {X = Line} nat_cmp n in let there : get nothing_received.waiting n ≡ Some l.0 = l.1 in cc

pub sequenced-cleared : (r : Receiver) → AreSequenced r.dispatched → HasSequenced (cleared r)
sequenced-cleared r out = record { held = sequenced-nothing.held; waiting = sequenced-nothing.waiting; dispatched = out }

sequenced-flushed : (first : ℕ) (r : Receiver) → HasSequenced r → HasSequenced (flushed_from first r)
sequenced-flushed first r k = record {
  held = k.held;
  waiting = λ n j c e. elim (two_numbers n r.front) [
    | inl same ↦ (let f : get (still_ahead (front_line r) (flushed_last r)) j ≡ Some c =
        ap (λ (l : Line). get l j) (sym (line_at-same r.waiting r.front (still_ahead (front_line r) (flushed_last r)))) ∙ ap (λ i. get (line_at (flushed_from first r).waiting i) j) (sym same) ∙ e in
        k.waiting r.front j c (get_retained (front_line r) (nat_lt (flushed_last r)) j c f))
    | inr apart ↦ k.waiting n j c (ap (λ (l : Line). get l j) (sym (line_at-other r.waiting r.front (still_ahead (front_line r) (flushed_last r)) n apart)) ∙ e)
  ];
  dispatched = sequenced-append r.dispatched (fresh first (entries (front_line r))) k.dispatched
      (sequenced-fresh first (entries (front_line r)) (λ e h. k.waiting r.front e.0 e.1 (get_entry (front_line r) e h)));
}

sequenced-passed : (g : Numbering) (r : Receiver) (c : IncomingPacket) → IsSequenced c → HasSequenced r → HasSequenced (with_passed g r c)
sequenced-passed g r c flag k = record {
  held = λ n x e. k.held n x (get_without g r.held (g.after r.front 1) (count_of c.making) n x e);
  waiting = λ n j x e. (let l = in_line (get (without g r.waiting r.front (count_of c.making)) n) j x e in
      let was : get r.waiting n ≡ Some l.0 = get_without g r.waiting r.front (count_of c.making) n l.0 l.1 in
      k.waiting n j x (ap (λ (o : Option Line). get (unwrap_or o empty) j) was ∙ l.2));
  dispatched = sequenced-append r.dispatched (handed_out c ∷ []) k.dispatched (flag, tt);
}

whole-there : (o : Option IncomingPacket) (c : IncomingPacket) → next_whole o ≡ Some c → o ≡ Some c
whole-there None c e = absurd (cc)
whole-there (Some d) c e = elim (is_whole d.making) as (λ b. cond b (Some d) None ≡ Some c → Some d ≡ Some c) [ true ↦ λ f. f | false ↦ λ f. absurd (cc) ] e

sequenced-released : (g : Numbering) (r : Receiver) → HasSequenced r → HasSequenced (all_released g r)
sequenced-released g r k = let last : Receiver = released g (len r.held) r in sequenced-flushed (last.unreliable + 1) last
    (released-keeps g HasSequenced (λ s c e h. sequenced-flushed 0 (with_passed g s c) (sequenced-passed g s c (h.held (g.after s.front 1) c (whole-there (get s.held (g.after s.front 1)) c e)) h)) (len r.held) r k)

-- a command of a new packet has none of those flags
new-flags : (c : DataCommand) → (flags_of c == 2) ≡ false
new-flags c = by c.reliable (is_some c.fragment)
  where
    by : (r f : Bool) → (cond r 1 (cond f 8 0) == 2) ≡ false
    by true f = refl
    by false true = refl
    by false false = refl

sequenced-grown : (r : Receiver) (c : DataCommand) (place : ℕ) → HasSequenced r → IsSequenced (with_more (earlier_or_new (came_at r c place) c) c)
sequenced-grown r c place k = go (came_at r c place) (by c.reliable)
  where
    by : (b : Bool) → (e : IncomingPacket) → cond b (get r.held place) (get (line_at r.waiting place) c.unreliable) ≡ Some e → IsSequenced e
    by true e h = k.held place e h
    by false e h = k.waiting place c.unreliable e h

    go : (o : Option IncomingPacket) → ((e : IncomingPacket) → o ≡ Some e → IsSequenced e) → IsSequenced (with_more (earlier_or_new o c) c)
    go None h = new-flags c
    go (Some e) h = h e refl

sequenced-added : (r : Receiver) (c : DataCommand) (place : ℕ) (e : IncomingPacket) → IsSequenced e → HasSequenced r → HasSequenced (with_added r c place e)
sequenced-added r c place e flag k = by c.reliable
  where
    by : (b : Bool) → HasSequenced (record r { held = cond b (insert r.held place e) r.held; waiting = cond b r.waiting (with_line r.waiting place (insert (line_at r.waiting place) c.unreliable e)) })
    by true = record {
      held = λ n x h. elim (get_inserted r.held place n e x h) [ inl new ↦ subst (λ (y : IncomingPacket). IsSequenced y) new.1 flag | inr old ↦ k.held n x old.1 ];
      waiting = k.waiting;
      dispatched = k.dispatched;
    }
    by false =
        let line : Line = insert (line_at r.waiting place) c.unreliable e in
        record {
          held = k.held;
          waiting = λ n j x h. elim (two_numbers n place) [
            | inl same ↦ (let f : get line j ≡ Some x = ap (λ (l : Line). get l j) (sym (line_at-same r.waiting place line)) ∙ ap (λ i. get (line_at (with_line r.waiting place line) i) j) (sym same) ∙ h in
                elim (get_inserted (line_at r.waiting place) c.unreliable j e x f) [ inl new ↦ subst (λ (y : IncomingPacket). IsSequenced y) new.1 flag | inr old ↦ k.waiting place j x old.1 ])
            | inr apart ↦ k.waiting n j x (ap (λ (l : Line). get l j) (sym (line_at-other r.waiting place line n apart)) ∙ h)
          ];
          dispatched = k.dispatched;
        }

pub sequenced-received : (g : Numbering) (most : ℕ) (r : Receiver) (c : DataCommand) (full : Bool) → HasSequenced r → HasSequenced (received g most r c full)
sequenced-received g most r c full k = by (outcome g most r c full)
  where
    at : (o : Option ℕ) → HasSequenced (added_at g r c o)
    at None = k
    at (Some place) = sequenced-released g (with_added r c place (with_more (earlier_or_new (came_at r c place) c) c))
        (sequenced-added r c place (with_more (earlier_or_new (came_at r c place) c) c) (sequenced-grown r c place k) k)

    by : (t : Took) → HasSequenced (received_with t g r c)
    by Held = at (place_read g r c)
    by Again = k
    by Outside = k
    by Bad = k
    by Waiting = k
    by Memory = k
