-- A receiver that keeps wire numbers does what one with unbounded numbers does.
use Rattle.std.proofs.Common.{◌≡◌, ◌≢◌, ℕ, ◌+◌, ◌-◌, ◌%◌, ◌<◌, ◌≤◌, Bool, true, false, cond, ◌==◌, ◌||◌, if◌then◌else◌, [], ◌∷◌, ◌++◌, length, refl, sym, ap, subst, ◌∙◌, inl, inr, ◌⊎◌, arith, Option, Some, None, zero, suc}
use Rattle.std.proofs.lemmas.Bool.Decides.{nat_tests}
use Rattle.std.specs.Ordering.{nat_cmp}
use Rattle.std.specs.Option.{is_none}
use Rattle.std.specs.Prelude.{unwrap_or, nat_le, nat_lt, ◌&&◌}
use Rattle.std.specs.FinMap.{FinMap, get, insert, remove, len, entries, empty, empty_of_len, get-empty, retain_keys}
use Rattle.enet_seq.specs.Windows.{acknowledges, in_window, fragment_in_window, ahead}
use Rattle.enet_seq.proofs.WindowsLemmas.{inside_is_near}
use Rattle.enet_seq.specs.Numbering.{Numbering, wire, unbounded, number_read, start_read}
use Rattle.enet_fragment.specs.Whole.{is_whole}
use Rattle.enet_fragment.specs.declared.data.DataCommand.{DataCommand}
use Rattle.enet_fragment.specs.DataCommand.{piece_of, place_in_packet}
use Rattle.enet_fragment.specs.PartialPacket.{nothing_yet}
use Rattle.enet_fragment.proofs.Places.{Sound-from_test}
use Rattle.enet_fragment.specs.PartialPacket.{count_of}
use Rattle.enet_packets.specs.declared.incoming_packet.IncomingPacket.{IncomingPacket}
use Rattle.enet_packets.specs.Packets.{line_at, with_line, fresh, last_fresh, handed_out}
use Rattle.enet_receiver.specs.DataOutcome.{is_piece, is_piece_of_its_packet, own_place, place_read, came_at, came_if, came_before, agrees_with, came, is_behind, outcome_of, outcome_at, outcome, earlier_or_new, with_more, with_added, added_at, received_with, received, is_handled, acknowledged, dispatch_count}
use Rattle.enet_receiver.specs.declared.took.Took.TheVariants.{Memory, Bad, Outside, Again, Waiting, Held}
use Rattle.enet_receiver.specs.Receiver.{Receiver, nothing_received, cleared, without_waiting, flushed_from, flushed, without, with_passed, with_dispatched, next_whole, released_with, released, all_released}
pub use Rattle.law_connection.specs.Image.{IsSized, AllSized, ShowsReceiver}
use Rattle.law_connection.proofs.Makings.{count_of-nothing, count_of-with}
use Rattle.enet_receiver.proofs.Maps.{get-remove_other, get-remove_same, get-insert_other, get-insert_same, get_inserted, two_numbers}
use Rattle.enet_receiver.proofs.Without.{get-without_inside, get-without_outside, get-without_wire_inside, get-without_wire_outside, get_without, len-without_first}

less_or_not : (a b : ℕ) → (a < b) ⊎ (b ≤ a)
less_or_not a b = grind arith

-- the number behind the front
wire_behind : (v r : Receiver) → ShowsReceiver v r → (v.front + 1) % 65536 ≡ (r.front + 1) % 65536
wire_behind v r s = let e = s.front in omega arith

Shows-passed : (v r : Receiver) (c : IncomingPacket) → IsSized c → ShowsReceiver v r → ShowsReceiver (with_passed wire v c) (with_passed unbounded r c)
Shows-passed v r c size s =
    let k = (count_of c.making) in
    let f = r.front in
    let some' = size.0 in
    let few = size.1 in
    let behind = wire_behind v r s in
    record {
      front = let e = s.front in omega arith;
      unreliable = refl;
      held = λ d low high.
          let right : get (without unbounded r.held (f + 1) k) (f + k + d) ≡ get r.held (f + k + d) = get-without_outside r.held (f + 1) k (f + k + d) (inr (omega arith)) in
          elim (less_or_not (k + d - 1) 65536) [
            | inl inside ↦
                let x : f + k + d ≡ f + 1 + (k + d - 1) = omega arith in
                let y : f + (k + d) ≡ f + k + d = omega arith in
                ap (λ n. get (without wire v.held n k) ((f + k + d) % 65536)) behind
                ∙ ap (λ n. get (without wire v.held ((f + 1) % 65536) k) (n % 65536)) x
                ∙ get-without_wire_outside v.held (f + 1) k (k + d - 1) (omega arith) inside
                ∙ ap (λ n. get v.held (n % 65536)) (sym x)
                ∙ subst (λ n. get v.held (n % 65536) ≡ get r.held n) y (s.held (k + d) (omega arith) (omega arith))
                ∙ sym right
            | inr lap ↦
                let x : (f + k + d) % 65536 ≡ (f + 1 + (k + d - 1 - 65536)) % 65536 = omega arith in
                let y : f + (k + d) ≡ f + k + d = omega arith in
                ap (λ n. get (without wire v.held n k) ((f + k + d) % 65536)) behind
                ∙ ap (λ n. get (without wire v.held ((f + 1) % 65536) k) n) x
                ∙ get-without_wire_inside v.held (f + 1) k (k + d - 1 - 65536) (omega arith)
                ∙ sym (right ∙ subst (λ n. get r.held n ≡ None) y (s.near (k + d) (omega arith)))
          ];
      low = λ n h. elim (less_or_not f n) [
        | inl above ↦ get-without_inside r.held (f + 1) k n (omega arith) (omega arith)
        | inr below ↦ get-without_outside r.held (f + 1) k n (inl (omega arith)) ∙ s.low n below
      ];
      near = λ d far.
          let y : f + (k + d) ≡ f + k + d = omega arith in
          get-without_outside r.held (f + 1) k (f + k + d) (inr (omega arith)) ∙ subst (λ n. get r.held n ≡ None) y (s.near (k + d) (omega arith));
      sized = λ n x e. s.sized n x (get_without wire v.held ((v.front + 1) % 65536) k n x e);
      sized_true = λ n x e. s.sized_true n x (get_without unbounded r.held (f + 1) k n x e);
      waiting = λ d low.
          let right : get (without unbounded r.waiting f k) (f + k + d) ≡ get r.waiting (f + k + d) = get-without_outside r.waiting f k (f + k + d) (inr (omega arith)) in
          let y : f + (k + d) ≡ f + k + d = omega arith in
          elim (less_or_not (k + d) 65536) [
            | inl inside ↦
                ap (λ n. get (without wire v.waiting n k) ((f + k + d) % 65536)) s.front
                ∙ ap (λ n. get (without wire v.waiting (f % 65536) k) (n % 65536)) (sym y)
                ∙ get-without_wire_outside v.waiting f k (k + d) (omega arith) inside
                ∙ subst (λ n. get v.waiting ((f + (k + d)) % 65536) ≡ get r.waiting n) y (s.waiting (k + d) inside)
                ∙ sym right
            | inr lap ↦
                let x : (f + k + d) % 65536 ≡ (f + (k + d - 65536)) % 65536 = omega arith in
                ap (λ n. get (without wire v.waiting n k) ((f + k + d) % 65536)) s.front
                ∙ ap (λ n. get (without wire v.waiting (f % 65536) k) n) x
                ∙ get-without_wire_inside v.waiting f k (k + d - 65536) (omega arith)
                ∙ sym (right ∙ subst (λ n. get r.waiting n ≡ None) y (s.near_waiting (k + d) (omega arith)))
          ];
      near_waiting = λ d far.
          let y : f + (k + d) ≡ f + k + d = omega arith in
          get-without_outside r.waiting f k (f + k + d) (inr (omega arith)) ∙ subst (λ n. get r.waiting n ≡ None) y (s.near_waiting (k + d) (omega arith));
      dispatched = ap (λ l. l ++ handed_out c ∷ []) s.dispatched;
    }

-- the packets of one reliable number are looked up
put_of : FinMap nat_cmp IncomingPacket → Option (FinMap nat_cmp IncomingPacket)
put_of packets = cond (len packets == 0) None (Some packets)

get-with_waiting_same : (w : FinMap nat_cmp (FinMap nat_cmp IncomingPacket)) (n : ℕ) (packets : FinMap nat_cmp IncomingPacket) → get (with_line w n packets) n ≡ put_of packets
unfolding put_of
get-with_waiting_same w n packets =
    elim (len packets == 0) as (λ b. get (cond b (remove w n) (insert w n packets)) n ≡ cond b None (Some packets)) [
      | true ↦ get-remove_same w n
      | false ↦ get-insert_same w n packets
    ]

get-with_waiting_other : (w : FinMap nat_cmp (FinMap nat_cmp IncomingPacket)) (n q : ℕ) (packets : FinMap nat_cmp IncomingPacket) → q ≢ n → get (with_line w n packets) q ≡ get w q
get-with_waiting_other w n q packets apart =
    elim (len packets == 0) as (λ b. get (cond b (remove w n) (insert w n packets)) q ≡ get w q) [
      | true ↦ get-remove_other w n q apart
      | false ↦ get-insert_other w n q packets apart
    ]

-- the packets that wait for the same number
waiting_same : (v r : Receiver) (a : ℕ) → a ≤ 28671 → ShowsReceiver v r → line_at v.waiting ((r.front + a) % 65536) ≡ line_at r.waiting (r.front + a)
waiting_same v r a low s = ap (λ (o : Option (FinMap nat_cmp IncomingPacket)). unwrap_or o empty) (s.waiting a (omega arith))

-- the packets of a number near the front are replaced
Shows-waiting : (v r : Receiver) (a : ℕ) (packets : FinMap nat_cmp IncomingPacket) → a ≤ 28671 → ShowsReceiver v r
    → ShowsReceiver (record v { waiting = with_line v.waiting ((r.front + a) % 65536) packets }) (record r { waiting = with_line r.waiting (r.front + a) packets })
Shows-waiting v r a packets near s = record {
  front = s.front;
  unreliable = s.unreliable;
  held = s.held;
  low = s.low;
  near = s.near;
  sized = s.sized;
  sized_true = s.sized_true;
  dispatched = s.dispatched;
  waiting = λ d low. elim (two_numbers d a) [
    | inl same ↦ subst (λ x. get (with_line v.waiting ((r.front + a) % 65536) packets) ((r.front + x) % 65536) ≡ get (with_line r.waiting (r.front + a) packets) (r.front + x)) (sym same)
        (get-with_waiting_same v.waiting ((r.front + a) % 65536) packets ∙ sym (get-with_waiting_same r.waiting (r.front + a) packets))
    | inr apart ↦
        get-with_waiting_other v.waiting ((r.front + a) % 65536) ((r.front + d) % 65536) packets (λ e. apart (grind arith))
        ∙ s.waiting d low
        ∙ sym (get-with_waiting_other r.waiting (r.front + a) (r.front + d) packets (λ e. apart (omega arith)))
  ];
  near_waiting = λ d far. get-with_waiting_other r.waiting (r.front + a) (r.front + d) packets (λ e. omega arith) ∙ s.near_waiting d far;
}

Shows-flushed_from : (first : ℕ) (v r : Receiver) → ShowsReceiver v r → ShowsReceiver (flushed_from first v) (flushed_from first r)
Shows-flushed_from first v r s =
    let e = s.front in
    let here : v.front ≡ (r.front + 0) % 65536 = omega arith in
    let zero' : r.front + 0 ≡ r.front = omega arith in
    let same : line_at v.waiting v.front ≡ line_at r.waiting r.front = ap (line_at v.waiting) here ∙ waiting_same v r 0 (omega arith) s ∙ ap (line_at r.waiting) zero' in
    let list : entries (line_at v.waiting v.front) ≡ entries (line_at r.waiting r.front) = ap entries same in
    let left : FinMap nat_cmp IncomingPacket = retain_keys (line_at r.waiting r.front) (nat_lt (last_fresh r.unreliable (entries (line_at r.waiting r.front)))) in
    let kept : retain_keys (line_at v.waiting v.front) (nat_lt (last_fresh v.unreliable (entries (line_at v.waiting v.front)))) ≡ left =
    λ i. retain_keys (same i) (nat_lt (last_fresh (s.unreliable i) (list i))) in
    let w = Shows-waiting v r 0 left (omega arith) s in
    let z = w.waiting in
    let y = w.near_waiting in
    record {
      front = s.front;
      held = s.held;
      low = s.low;
      near = s.near;
      sized = s.sized;
      sized_true = s.sized_true;
      unreliable = λ i. last_fresh (s.unreliable i) (list i);
      waiting = λ d low.
          ap (λ p. get (with_line v.waiting v.front p) ((r.front + d) % 65536)) kept
          ∙ ap (λ n. get (with_line v.waiting n left) ((r.front + d) % 65536)) here
          ∙ w.waiting d low
          ∙ ap (λ n. get (with_line r.waiting n left) (r.front + d)) zero';
      near_waiting = λ d far. ap (λ n. get (with_line r.waiting n left) (r.front + d)) (sym zero') ∙ w.near_waiting d far;
      dispatched = λ i. s.dispatched i ++ fresh first (list i);
    }

Shows-flushed : (v r : Receiver) → ShowsReceiver v r → ShowsReceiver (flushed v) (flushed r)
Shows-flushed v r s = subst (λ n. ShowsReceiver (flushed_from (n + 1) v) (flushed r)) (sym s.unreliable) (Shows-flushed_from (r.unreliable + 1) v r s)

pub Shows-dispatched : (v r : Receiver) (c : IncomingPacket) → IsSized c → ShowsReceiver v r → ShowsReceiver (with_dispatched wire v c) (with_dispatched unbounded r c)
Shows-dispatched v r c size s = Shows-flushed_from 0 (with_passed wire v c) (with_passed unbounded r c) (Shows-passed v r c size s)

whole_is : (o : Option IncomingPacket) (c : IncomingPacket) → next_whole o ≡ Some c → o ≡ Some c
whole_is None c e = absurd (cc)
whole_is (Some d) c e = elim (is_whole d.making) as (λ b. cond b (Some d) None ≡ Some c → Some d ≡ Some c) [ true ↦ λ k. k | false ↦ λ k. absurd (cc) ] e

Shows-released : (most : ℕ) (v r : Receiver) → ShowsReceiver v r → ShowsReceiver (released wire most v) (released unbounded most r)
unfolding released
Shows-released zero v r s = s
Shows-released (suc most) v r s =
    let behind : get v.held ((v.front + 1) % 65536) ≡ get r.held (r.front + 1) = ap (λ k. get v.held k) (wire_behind v r s) ∙ s.held 1 (omega arith) (omega arith) in
    subst (λ o. ShowsReceiver (released_with (released wire most) wire v (next_whole o)) (released unbounded (suc most) r)) (sym behind)
    (elim (next_whole (get r.held (r.front + 1))) as (λ o. next_whole (get r.held (r.front + 1)) ≡ o → ShowsReceiver (released_with (released wire most) wire v o) (released_with (released unbounded most) unbounded r o)) [
      | None ↦ λ e. s
      | Some c ↦ λ e. Shows-released most _ _ (Shows-dispatched v r c (s.sized_true (r.front + 1) c (whole_is _ c e)) s)
    ] refl)

-- after a packet less is held
smaller : (g : Numbering) (r : Receiver) (c : IncomingPacket) → g.after (g.after r.front 1) 0 ≡ g.after r.front 1 → IsSized c → get r.held (g.after r.front 1) ≡ Some c → len (with_dispatched g r c).held < len r.held
smaller g r c z size e = len-without_first g r.held (g.after r.front 1) (count_of c.making) c z size.0 e

-- numbers that go on as those of the wire or without bound do
abbrev IsFixed : Numbering → Type 0
IsFixed g = (n : ℕ) → g.after (g.after n 1) 0 ≡ g.after n 1

-- where nothing is held nothing is dispatched
nothing_left : (g : Numbering) (k : ℕ) (r : Receiver) → len r.held ≡ 0 → r ≡ released g k r
unfolding released
nothing_left g zero r e = refl
nothing_left g (suc k) r e =
    let none : get r.held (g.after r.front 1) ≡ None = ap (λ m. get m (g.after r.front 1)) (empty_of_len r.held e) ∙ get-empty nat_cmp (g.after r.front 1) in
    sym (ap (λ o. released_with (released g k) g r (next_whole o)) none)

-- any number of turns that is large enough serves
released-enough : (g : Numbering) → IsFixed g → (j k : ℕ) (r : Receiver) → AllSized r.held → len r.held ≤ j → len r.held ≤ k → released g j r ≡ released g k r
unfolding released
released-enough g fixed zero zero r sized a b = refl
released-enough g fixed zero (suc k) r sized a b = nothing_left g (suc k) r (omega arith)
released-enough g fixed (suc j) zero r sized a b = sym (nothing_left g (suc j) r (omega arith))
released-enough g fixed (suc j) (suc k) r sized a b =
    elim (next_whole (get r.held (g.after r.front 1))) as (λ o. next_whole (get r.held (g.after r.front 1)) ≡ o → released_with (released g j) g r o ≡ released_with (released g k) g r o) [
      | None ↦ λ e. refl
      | Some c ↦ λ e.
          let there = whole_is (get r.held (g.after r.front 1)) c e in
          let less = smaller g r c (fixed r.front) (sized (g.after r.front 1) c there) there in
          released-enough g fixed j k (with_dispatched g r c) (λ n x f. sized n x (get_without g r.held (g.after r.front 1) (count_of c.making) n x f)) (omega arith) (omega arith)
    ] refl

Shows-all_released : (v r : Receiver) → ShowsReceiver v r → ShowsReceiver (all_released wire v) (all_released unbounded r)
Shows-all_released v r s =
    let k = len v.held + len r.held in
    let left : released wire (len v.held) v ≡ released wire k v = released-enough wire (λ n. omega arith) (len v.held) k v s.sized (omega arith) (omega arith) in
    let right : released unbounded (len r.held) r ≡ released unbounded k r = released-enough unbounded (λ n. omega arith) (len r.held) k r s.sized_true (omega arith) (omega arith) in
    subst (λ x. ShowsReceiver (flushed x) (all_released unbounded r)) (sym left)
    (subst (λ x. ShowsReceiver (flushed (released wire k v)) (flushed x)) (sym right) (Shows-flushed _ _ (Shows-released k v r s)))

-- a command's place as it is read on the wire and without bound: nothing for both, or the same distance ahead
abbrev Places : ℕ → Option ℕ → Option ℕ → Type 0
Places front o p = ((o ≡ None) × (p ≡ None)) ⊎ ((a : ℕ) × (a ≤ 28671) × (o ≡ Some ((front + a) % 65536)) × (p ≡ Some (front + a)))

Places-read : (vf rf : ℕ) (number : ℕ) (test : ℕ → Bool) → vf ≡ rf % 65536 → (test (rf % 65536) ≡ true → ahead (rf % 65536) number ≤ 28671)
    → Places rf (cond (test (vf % 65536)) (Some ((vf + ahead (vf % 65536) number) % 65536)) None) (cond (test (rf % 65536)) (Some (rf + ahead (rf % 65536) number)) None)
Places-read vf rf number test e near =
    let m : vf % 65536 ≡ rf % 65536 = omega arith in
    subst (λ x. Places rf (cond (test x) (Some ((vf + ahead x number) % 65536)) None) (cond (test (rf % 65536)) (Some (rf + ahead (rf % 65536) number)) None)) (sym m)
    (elim (test (rf % 65536)) as (λ b. (b ≡ true → ahead (rf % 65536) number ≤ 28671) → Places rf (cond b (Some ((vf + ahead (rf % 65536) number) % 65536)) None) (cond b (Some (rf + ahead (rf % 65536) number)) None)) [
      | true ↦ λ h. inr (ahead (rf % 65536) number, h refl, ap (λ x. Some x) (go (ahead (rf % 65536) number)), refl)
      | false ↦ λ h. inl (refl, refl)
    ] near)
  where
    go : (a : ℕ) → (vf + a) % 65536 ≡ (rf + a) % 65536
    go a = omega arith

and_left : (a b : Bool) → (a && b) ≡ true → a ≡ true
and_left true b h = refl
and_left false b h = absurd (cc)

and_right : (a b : Bool) → (a && b) ≡ true → b ≡ true
and_right true b h = h
and_right false b h = absurd (cc)

Places-command : (v r : Receiver) (c : DataCommand) → c.number < 65536 → (c.reliable ≡ true → (piece_of c).start < 65536) → ShowsReceiver v r → Places r.front (place_read wire v c) (place_read unbounded r c)
Places-command v r c small small_start s =
    let own = c.number in
    let start = (piece_of c).start in
    let one = λ (k : c.reliable ≡ true). Places-read v.front r.front start (λ x. fragment_in_window x start own) s.front
    (λ t. inside_is_near (r.front % 65536) start (omega arith) (small_start k) (and_left (in_window (r.front % 65536) start) (in_window (r.front % 65536) own) t)) in
    let two = Places-read v.front r.front own (λ x. in_window x own) s.front (λ t. inside_is_near (r.front % 65536) own (omega arith) small t) in
    elim c.reliable as (λ b. c.reliable ≡ b → Places r.front (cond b (start_read wire v.front start own) (number_read wire v.front own)) (cond b (start_read unbounded r.front start own) (number_read unbounded r.front own))) [
      | true ↦ λ k. one k
      | false ↦ λ k. two
    ] refl

came_at_same : (v r : Receiver) (c : DataCommand) (a : ℕ) → a ≤ 28671 → ShowsReceiver v r → came_at v c ((r.front + a) % 65536) ≡ came_at r c (r.front + a)
came_at_same v r c a near s =
    let unreliable : get (line_at v.waiting ((r.front + a) % 65536)) c.unreliable ≡ get (line_at r.waiting (r.front + a)) c.unreliable = ap (λ m. get m c.unreliable) (waiting_same v r a near s) in
    let reliable : get v.held ((r.front + a) % 65536) ≡ get r.held (r.front + a) = elim (two_numbers a 0) [
      | inl none ↦
          let lap : (r.front + a) % 65536 ≡ (r.front + 65536) % 65536 = omega arith in
          ap (get v.held) lap ∙ s.held 65536 (omega arith) (omega arith) ∙ s.near 65536 (omega arith) ∙ sym (s.low (r.front + a) (omega arith))
      | inr some' ↦ s.held a (grind arith) (omega arith)
    ] in
    elim c.reliable as (λ b. cond b (get v.held ((r.front + a) % 65536)) (get (line_at v.waiting ((r.front + a) % 65536)) c.unreliable) ≡ cond b (get r.held (r.front + a)) (get (line_at r.waiting (r.front + a)) c.unreliable)) [ true ↦ reliable | false ↦ unreliable ]

behind_same : (v r : Receiver) (c : DataCommand) (a : ℕ) → a ≤ 28671 → ShowsReceiver v r → is_behind v c ((r.front + a) % 65536) ≡ is_behind r c (r.front + a)
behind_same v r c a near s =
    let e = s.front in
    let place : ((r.front + a) % 65536 == v.front) ≡ (r.front + a == r.front) = elim (two_numbers a 0) [
      | inl none ↦
          let x : ((r.front + a) % 65536 == v.front) ≡ true = grind (arith, nat_tests) in
          let y : (r.front + a == r.front) ≡ true = grind (arith, nat_tests) in
          x ∙ sym y
      | inr some' ↦
          let x : ((r.front + a) % 65536 == v.front) ≡ false = apart ((r.front + a) % 65536) v.front (λ k. grind arith) in
          let y : (r.front + a == r.front) ≡ false = apart (r.front + a) r.front (λ k. grind arith) in
          x ∙ sym y
    ] in
    (λ i. place i && (c.reliable || nat_le c.unreliable (s.unreliable i)))
  where
    apart : (p q : ℕ) → p ≢ q → (p == q) ≡ false
    apart p q n = grind (arith, nat_tests)

outcome_same_at : (v r : Receiver) (c : DataCommand) (full : Bool) (o p : Option ℕ) → Places r.front o p → ShowsReceiver v r → outcome_at v c full o ≡ outcome_at r c full p
outcome_same_at v r c full o p (inl none) s = ap (outcome_at v c full) none.0 ∙ sym (ap (outcome_at r c full) none.1)
outcome_same_at v r c full o p (inr w) s =
    let a = w.0 in
    let came' : came_at v c ((r.front + a) % 65536) ≡ came_at r c (r.front + a) = came_at_same v r c a w.1 s in
    let behind : is_behind v c ((r.front + a) % 65536) ≡ is_behind r c (r.front + a) = behind_same v r c a w.1 s in
    ap (outcome_at v c full) w.2
    ∙ (λ i. let earlier = came' i in if behind i || came earlier c then Again else if full && is_none earlier then Waiting else Held)
    ∙ sym (ap (outcome_at r c full) w.3)

-- both compare it with the same pieces
came_before-same : (v r : Receiver) (c : DataCommand) → c.number < 65536 → (c.reliable ≡ true → (piece_of c).start < 65536) → ShowsReceiver v r → came_before wire v c ≡ came_before unbounded r c
came_before-same v r c small small_start s = go (Places-read v.front r.front (own_place c) (λ x. in_window x (own_place c)) s.front (λ t. inside_is_near (r.front % 65536) (own_place c) (omega arith) low t))
  where
    low : own_place c < 65536
    low = elim c.reliable as (λ b. (b ≡ true → (piece_of c).start < 65536) → cond b (piece_of c).start c.number < 65536) [ true ↦ λ h. h refl | false ↦ λ h. small ] small_start

    go : Places r.front (number_read wire v.front (own_place c)) (number_read unbounded r.front (own_place c)) → came_before wire v c ≡ came_before unbounded r c
    go (inl none) = ap (came_if v c) none.0 ∙ sym (ap (came_if r c) none.1)
    go (inr w) = ap (came_if v c) w.2 ∙ came_at_same v r c w.0 w.1 s ∙ sym (ap (came_if r c) w.3)

-- the packet of a command is replaced by one with a piece more
Shows-added : (v r : Receiver) (c : DataCommand) (a : ℕ) (e : IncomingPacket) → a ≤ 28671 → (c.reliable ≡ true → (0 < a) × IsSized e) → ShowsReceiver v r
    → ShowsReceiver (with_added v c ((r.front + a) % 65536) e) (with_added r c (r.front + a) e)
Shows-added v r c a e near above s =
    elim c.reliable as (λ b. c.reliable ≡ b → ShowsReceiver
    (record v { held = cond b (insert v.held ((r.front + a) % 65536) e) v.held; waiting = cond b v.waiting (with_line v.waiting ((r.front + a) % 65536) (insert (line_at v.waiting ((r.front + a) % 65536)) c.unreliable e)) })
    (record r { held = cond b (insert r.held (r.front + a) e) r.held; waiting = cond b r.waiting (with_line r.waiting (r.front + a) (insert (line_at r.waiting (r.front + a)) c.unreliable e)) })) [
      | true ↦ λ t. reliable (above t).0 (above t).1
      | false ↦ λ t. subst (λ m. ShowsReceiver (record v { waiting = with_line v.waiting ((r.front + a) % 65536) (insert m c.unreliable e) })
          (record r { waiting = with_line r.waiting (r.front + a) (insert (line_at r.waiting (r.front + a)) c.unreliable e) })) (sym (waiting_same v r a near s))
          (Shows-waiting v r a (insert (line_at r.waiting (r.front + a)) c.unreliable e) near s)
    ] refl
  where
    apart_in_lap : (d : ℕ) → 0 < a → 0 < d → d ≤ 65536 → d ≢ a → (r.front + d) % 65536 ≢ (r.front + a) % 65536
    apart_in_lap d z low high n = λ k. grind arith

    all_sized : (m : FinMap nat_cmp IncomingPacket) (q : ℕ) → IsSized e → AllSized m → AllSized (insert m q e)
    all_sized m q size h n x t = elim (get_inserted m q n e x t) [
      | inl is ↦ subst (λ (y : IncomingPacket). IsSized y) is.1 size
      | inr old ↦ h n x old.1
    ]

    reliable : 0 < a → IsSized e → ShowsReceiver (record v { held = insert v.held ((r.front + a) % 65536) e }) (record r { held = insert r.held (r.front + a) e })
    reliable z size = record {
      front = s.front;
      unreliable = s.unreliable;
      waiting = s.waiting;
      near_waiting = s.near_waiting;
      dispatched = s.dispatched;
      held = λ d low high. elim (two_numbers d a) [
        | inl same ↦ subst (λ x. get (insert v.held ((r.front + a) % 65536) e) ((r.front + x) % 65536) ≡ get (insert r.held (r.front + a) e) (r.front + x)) (sym same)
            (get-insert_same v.held ((r.front + a) % 65536) e ∙ sym (get-insert_same r.held (r.front + a) e))
        | inr apart ↦ get-insert_other v.held ((r.front + a) % 65536) ((r.front + d) % 65536) e (apart_in_lap d z low high apart)
            ∙ s.held d low high ∙ sym (get-insert_other r.held (r.front + a) (r.front + d) e (λ k. apart (omega arith)))
      ];
      low = λ n h. get-insert_other r.held (r.front + a) n e (λ k. omega arith) ∙ s.low n h;
      near = λ d far. get-insert_other r.held (r.front + a) (r.front + d) e (λ k. omega arith) ∙ s.near d far;
      sized = all_sized v.held ((r.front + a) % 65536) size s.sized;
      sized_true = all_sized r.held (r.front + a) size s.sized_true;
    }

-- a command that is held isn't behind the front
not_behind : (r : Receiver) (c : DataCommand) (full : Bool) (place : ℕ) (earlier : Option IncomingPacket) → outcome_of r c full place earlier ≡ Held → is_behind r c place ≡ false
not_behind r c full place earlier h =
    elim (is_behind r c place) as (λ y. cond (y || came earlier c) Again (cond (full && is_none earlier) Waiting Held) ≡ Held → y ≡ false) [
      | true ↦ λ j. absurd (cc)
      | false ↦ λ j. refl
    ] h

above_front : (r : Receiver) (c : DataCommand) (a : ℕ) → is_behind r c (r.front + a) ≡ false → c.reliable ≡ true → 0 < a
above_front r c a b t = elim (two_numbers a 0) [
  | inl none ↦ absurd (
      let y : (r.front + a == r.front) ≡ true = grind (arith, nat_tests) in
      let z : is_behind r c (r.front + a) ≡ true = (λ i. y i && (t i || nat_le c.unreliable r.unreliable)) in cc)
  | inr some' ↦ grind arith
]

-- a piece of a packet that can be one has a count of 1 to 16,384
is_piece-sized : (most : ℕ) (c : DataCommand) → is_piece most c ≡ true → (0 < (piece_of c).count) × ((piece_of c).count ≤ 16384)
is_piece-sized most c h =
    let sound = Sound-from_test (place_in_packet c) (and_left _ _ (and_left _ _ h)) in
    let below : (piece_of c).number < (piece_of c).count = sound.below in
    (omega arith, sound.within_limit)

sized_by : (m n : ℕ) → m ≡ n → (0 < m) × (m ≤ 16384) → (0 < n) × (n ≤ 16384)
sized_by m n e h = subst (λ k. (0 < k) × (k ≤ 16384)) e h

sized_more : (o : Option IncomingPacket) (c : DataCommand) → ((e : IncomingPacket) → o ≡ Some e → IsSized e) → (0 < (piece_of c).count) × ((piece_of c).count ≤ 16384) → IsSized (with_more (earlier_or_new o c) c)
sized_more None c old new =
    let count : count_of (with_more (earlier_or_new None c) c).making ≡ (piece_of c).count =
    count_of-with (nothing_yet (piece_of c).count (piece_of c).total) (place_in_packet c) c.body ∙ count_of-nothing (piece_of c).count (piece_of c).total in
    sized_by _ _ (sym count) new
sized_more (Some e) c old new = sized_by _ _ (sym (count_of-with e.making (place_in_packet c) c.body)) (old e refl)

-- what a command does where its place is read
received_at : (v r : Receiver) (c : DataCommand) (full : Bool) (o p : Option ℕ) → Places r.front o p → (0 < (piece_of c).count) × ((piece_of c).count ≤ 16384) → ShowsReceiver v r
    → outcome_at r c full p ≡ Held → ShowsReceiver (added_at wire v c o) (added_at unbounded r c p)
received_at v r c full o p (inl none) size s h = absurd (let e : outcome_at r c full None ≡ Held = ap (outcome_at r c full) (sym none.1) ∙ h in cc)
received_at v r c full o p (inr w) size s h =
    let a = w.0 in
    let n = r.front + a in
    let held : outcome_of r c full n (came_at r c n) ≡ Held = ap (outcome_at r c full) (sym w.3) ∙ h in
    let behind : is_behind r c n ≡ false = not_behind r c full n (came_at r c n) held in
    let e : IncomingPacket = with_more (earlier_or_new (came_at r c n) c) c in
    let sized : c.reliable ≡ true → IsSized e = λ k. sized_more (came_at r c n) c (λ x t. came_sized k x t) size in
    let added = Shows-added v r c a e w.1 (λ k. (above_front r c a behind k, sized k)) s in
    let both = Shows-all_released _ _ added in
    subst (λ x. ShowsReceiver (added_at wire v c x) (added_at unbounded r c p)) (sym w.2)
    (subst (λ x. ShowsReceiver (added_at wire v c (Some ((r.front + a) % 65536))) (added_at unbounded r c x)) (sym w.3)
    (subst (λ x. ShowsReceiver (all_released wire (with_added v c ((r.front + a) % 65536) (with_more (earlier_or_new x c) c))) (all_released unbounded (with_added r c n e))) (sym (came_at_same v r c a w.1 s)) both))
  where
    came_sized : c.reliable ≡ true → (x : IncomingPacket) → came_at r c (r.front + w.0) ≡ Some x → IsSized x
    came_sized k x t = s.sized_true (r.front + w.0) x (sym (ap (λ b. cond b (get r.held (r.front + w.0)) (get (line_at r.waiting (r.front + w.0)) c.unreliable)) k) ∙ t)

pub Shows-received : (most : ℕ) (v r : Receiver) (c : DataCommand) (full : Bool) → c.number < 65536 → (c.reliable ≡ true → (piece_of c).start < 65536) → ShowsReceiver v r
    → (outcome wire most v c full ≡ outcome unbounded most r c full) × ShowsReceiver (received wire most v c full) (received unbounded most r c full)
Shows-received most v r c full small small_start s =
    let places = Places-command v r c small small_start s in
    let came' : came_before wire v c ≡ came_before unbounded r c = came_before-same v r c small small_start s in
    let at : outcome_at v c full (place_read wire v c) ≡ outcome_at r c full (place_read unbounded r c) = outcome_same_at v r c full _ _ places s in
    let same : outcome wire most v c full ≡ outcome unbounded most r c full = (λ i. cond (is_piece most c && agrees_with (came' i) c) (at i) Bad) in (
      same,
      subst (λ x. ShowsReceiver (received_with x wire v c) (received unbounded most r c full)) (sym same)
          (elim (outcome unbounded most r c full) as (λ x. outcome unbounded most r c full ≡ x → ShowsReceiver (received_with x wire v c) (received_with x unbounded r c)) [
            | Bad ↦ λ e. s
            | Outside ↦ λ e. s
            | Again ↦ λ e. s
            | Waiting ↦ λ e. s
            | Memory ↦ λ e. s
            | Held ↦ λ e. held places e
          ] refl),
    )
  where
    held : Places r.front (place_read wire v c) (place_read unbounded r c) → outcome unbounded most r c full ≡ Held → ShowsReceiver (added_at wire v c (place_read wire v c)) (added_at unbounded r c (place_read unbounded r c))
    held places e = go (is_piece_of_its_packet unbounded most r c) refl e
      where
        go : (a : Bool) → is_piece_of_its_packet unbounded most r c ≡ a → cond a (outcome_at r c full (place_read unbounded r c)) Bad ≡ Held → ShowsReceiver (added_at wire v c (place_read wire v c)) (added_at unbounded r c (place_read unbounded r c))
        go true t k = received_at v r c full _ _ places (is_piece-sized most c (and_left _ _ t)) s k
        go false t k = absurd (cc)

-- whether it is acknowledged, and how many packets it dispatches
pub Shows-acknowledged : (most : ℕ) (v r : Receiver) (c : DataCommand) (full : Bool) → c.number < 65536 → (c.reliable ≡ true → (piece_of c).start < 65536) → ShowsReceiver v r → acknowledged wire most v c full ≡ acknowledged unbounded most r c full
Shows-acknowledged most v r c full small small_start s =
    let same = (Shows-received most v r c full small small_start s).0 in
    let shown = s.front in
    let front : v.front % 65536 ≡ r.front % 65536 = omega arith in
    (λ i. is_handled (same i) && acknowledges (front i) c.number)

pub Shows-dispatches : (most : ℕ) (v r : Receiver) (c : DataCommand) (full : Bool) → c.number < 65536 → (c.reliable ≡ true → (piece_of c).start < 65536) → ShowsReceiver v r → dispatch_count wire most v c full ≡ dispatch_count unbounded most r c full
Shows-dispatches most v r c full small small_start s =
    let after = (Shows-received most v r c full small small_start s).1 in
    let new = after.dispatched in
    let old = s.dispatched in
    (λ i. length (new i) - length (old i))

nothing_at : (n : ℕ) → get (empty {X = IncomingPacket} {R = nat_cmp}) n ≡ None
nothing_at n = get-empty nat_cmp n

no_line_at : (n : ℕ) → get (empty {X = FinMap nat_cmp IncomingPacket} {R = nat_cmp}) n ≡ None
no_line_at n = get-empty nat_cmp n

pub Shows-cleared : (v r : Receiver) → ShowsReceiver v r → ShowsReceiver (cleared v) (cleared r)
Shows-cleared v r s = record {
  front = s.front;
  unreliable = s.unreliable;
  dispatched = s.dispatched;
  held = λ d low high. nothing_at ((r.front + d) % 65536) ∙ sym (nothing_at (r.front + d));
  low = λ n h. nothing_at n;
  near = λ d far. nothing_at (r.front + d);
  sized = λ n c h. absurd (let f = nothing_at n in cc);
  sized_true = λ n c h. absurd (let f = nothing_at n in cc);
  waiting = λ d low. no_line_at ((r.front + d) % 65536) ∙ sym (no_line_at (r.front + d));
  near_waiting = λ d far. no_line_at (r.front + d);
}

pub Shows-given_up : (v r : Receiver) → ShowsReceiver v r → ShowsReceiver (without_waiting v) (without_waiting r)
Shows-given_up v r s = record {
  front = s.front;
  unreliable = s.unreliable;
  dispatched = s.dispatched;
  held = s.held;
  low = s.low;
  near = s.near;
  sized = s.sized;
  sized_true = s.sized_true;
  waiting = λ d low. no_line_at ((r.front + d) % 65536) ∙ sym (no_line_at (r.front + d));
  near_waiting = λ d far. no_line_at (r.front + d);
}

pub Shows-nothing : ShowsReceiver nothing_received nothing_received
Shows-nothing = record {
  front = refl;
  unreliable = refl;
  dispatched = refl;
  held = λ d low high. nothing_at ((0 + d) % 65536) ∙ sym (nothing_at (0 + d));
  low = λ n h. nothing_at n;
  near = λ d far. nothing_at (0 + d);
  sized = λ n c h. absurd (let f = nothing_at n in cc);
  sized_true = λ n c h. absurd (let f = nothing_at n in cc);
  waiting = λ d low. no_line_at ((0 + d) % 65536) ∙ sym (no_line_at (0 + d));
  near_waiting = λ d far. no_line_at (0 + d);
}
