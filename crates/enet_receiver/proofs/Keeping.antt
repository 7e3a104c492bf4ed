-- All that is held or waits stays inside the window.
use Rattle.std.proofs.Common.{◌≡◌, ℕ, ◌+◌, ◌%◌, ◌^◌, ◌<◌, ◌≤◌, sym, ap, ◌∙◌, inl, inr, ◌⊎◌, arith, Some, None, List}
use Rattle.std.specs.Ordering.{nat_cmp}
use Rattle.std.specs.FinMap.{FinMap, get, len, empty, get-empty}
use Rattle.enet_seq.specs.Numbering.{wire}
use Rattle.enet_seq.specs.Windows.{ahead, after}
use Rattle.enet_fragment.specs.PartialPacket.{count_of}
use Rattle.enet_packets.specs.declared.incoming_packet.IncomingPacket.{IncomingPacket}
use Rattle.enet_packets.specs.Packets.{line_at, still_ahead}
use Rattle.enet_receiver.specs.Receiver.{Receiver, without, with_passed, with_dispatched, released, all_released, flushed_from, flushed_last, front_line, cleared, without_waiting}
use Rattle.enet_packets.specs.declared.incoming_packet.Dispatched.{Dispatched}
use Rattle.enet_receiver.specs.ReceiverParts.{receiver_of}
use Rattle.enet_receiver.specs.Invariant.{IsWaiting, Keeps}
use Rattle.enet_receiver.specs.Laws.{HavePieces}
use Rattle.enet_receiver.proofs.Without.{get_without, get-without_wire_inside}
use Rattle.enet_receiver.proofs.Entries.{get_retained}
use Rattle.enet_receiver.proofs.LineLemmas.{Line, get_with_line, in_line}
use Rattle.enet_receiver.proofs.Released.{released-keeps}

pub pieces_of_kept : (most : ℕ) (r : Receiver) → Keeps most r → HavePieces r
pieces_of_kept most r k = λ q c e. (k.held q c e).some_piece

reached : (n q : ℕ) → n < 65536 → q < 65536 → (n + ahead n q) % 65536 ≡ q
reached n q a b = omega arith

less_or_not : (a b : ℕ) → (a < b) ⊎ (b ≤ a)
less_or_not a b = grind arith

-- what is left is past the numbers that went
pub past_without : {X : Type 0} (m : FinMap nat_cmp X) (n count q : ℕ) (x : X) → n < 65536 → q < 65536 → get (without wire m n count) q ≡ Some x → count ≤ ahead n q
past_without {X = X} m n count q x low small e =
    elim (less_or_not (ahead n q) count) [
      | inl h ↦ absurd (
          let same : n % 65536 ≡ n = omega arith in
          let none : get (without wire m n count) q ≡ None =
          ap (λ z. get (without wire m z count) q) (sym same)
          ∙ ap (get (without wire m (n % 65536) count)) (sym (reached n q low small))
          ∙ get-without_wire_inside m n count (ahead n q) h in
          cc)
      | inr h ↦ h
    ]

ahead_on : (front q : ℕ) → front < 65536 → q < 65536 → 1 ≤ ahead front q → ahead (after front 1) q + 1 ≡ ahead front q
ahead_on front q a b h = omega arith

pub ahead_past : (front q count : ℕ) → front < 65536 → q < 65536 → count ≤ ahead front q → ahead (after front count) q + count ≡ ahead front q
ahead_past front q count a b h = omega arith

after_fits : (n count : ℕ) → after n count < 65536
after_fits n count = omega arith

pub Keeps-passed : (most : ℕ) (r : Receiver) (c : IncomingPacket) → Keeps most r → Keeps most (with_passed wire r c)
Keeps-passed most r c k = record {
  packet = k.packet;
  wire = after_fits r.front (count_of c.making);
  held = λ q x e.
      let was = k.held q x (get_without wire r.held (after r.front 1) (count_of c.making) q x e) in
      let past = past_without r.held (after r.front 1) (count_of c.making) q x (after_fits r.front 1) was.wire e in
      let on = ahead_on r.front q k.wire was.wire was.near in
      let on2 = ahead_past r.front q (count_of c.making) k.wire was.wire (omega arith) in
      record { wire = was.wire; near = omega arith; far = omega arith; some_piece = was.some_piece; few_pieces = was.few_pieces; small = was.small };
  waiting = λ q line e.
      let was = k.waiting q line (get_without wire r.waiting r.front (count_of c.making) q line e) in
      let past = past_without r.waiting r.front (count_of c.making) q line k.wire was.wire e in
      let on = ahead_past r.front q (count_of c.making) k.wire was.wire past in
      record { wire = was.wire; far = omega arith; packets = was.packets };
}

zero_ahead : (front : ℕ) → front < 65536 → ahead front front ≡ 0
zero_ahead front h = omega arith

-- what waits for the front is as small as ever
pub packets_at : (most : ℕ) (r : Receiver) (q k : ℕ) (c : IncomingPacket) → Keeps most r → get (line_at r.waiting q) k ≡ Some c → IsWaiting most k c
packets_at most r q k c kept e =
    let found = in_line (get r.waiting q) k c e in
    (kept.waiting q found.0 found.1).packets k c found.2

pub Keeps-flushed : (first most : ℕ) (r : Receiver) → Keeps most r → Keeps most (flushed_from first r)
Keeps-flushed first most r k = record {
  packet = k.packet;
  wire = k.wire;
  held = k.held;
  waiting = λ q line e. elim (get_with_line r.waiting r.front (still_ahead (front_line r) (flushed_last r)) q line e) [
    | inl same ↦ (let z = zero_ahead r.front k.wire in let at : ahead r.front q ≡ 0 = ap (ahead r.front) same.0 ∙ z in record {
      wire = omega arith;
      far = omega arith;
      packets = λ n c f. packets_at most r r.front n c k (get_retained (front_line r) _ n c (ap (λ (l : Line). get l n) same.1 ∙ f));
    })
    | inr other ↦ k.waiting q line other.1
  ];
}

pub Keeps-dispatched : (most : ℕ) (r : Receiver) (c : IncomingPacket) → Keeps most r → Keeps most (with_dispatched wire r c)
Keeps-dispatched most r c k = Keeps-flushed 0 most (with_passed wire r c) (Keeps-passed most r c k)

pub Keeps-all_released : (most : ℕ) (r : Receiver) → Keeps most r → Keeps most (all_released wire r)
Keeps-all_released most r k = let s : Receiver = released wire (len r.held) r in Keeps-flushed (s.unreliable + 1) most s (released-keeps wire (Keeps most) (λ s c e h. Keeps-dispatched most s c h) _ r k)

pub Keeps-new : (most : ℕ) (out : List Dispatched) → most < 2 ^ 32 → Keeps most (receiver_of 0 0 empty empty out)
Keeps-new most out small = record {
  packet = small;
  wire = omega arith;
  held = λ q c e. absurd (let n = get-empty {X = IncomingPacket} nat_cmp q in cc);
  waiting = λ q c e. absurd (let n = get-empty {X = Line} nat_cmp q in cc);
}

pub Keeps-without_waiting : (most : ℕ) (r : Receiver) → Keeps most r → Keeps most (without_waiting r)
Keeps-without_waiting most r k = record {
  packet = k.packet;
  wire = k.wire;
  held = k.held;
  waiting = λ q c e. absurd (let n = get-empty {X = Line} nat_cmp q in cc);
}

pub Keeps-cleared : (most : ℕ) (r : Receiver) → Keeps most r → Keeps most (cleared r)
Keeps-cleared most r k = record {
  packet = k.packet;
  wire = k.wire;
  held = λ q c e. absurd (let n = get-empty {X = IncomingPacket} nat_cmp q in cc);
  waiting = λ q c e. absurd (let n = get-empty {X = Line} nat_cmp q in cc);
}
