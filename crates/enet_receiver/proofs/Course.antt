-- How many packets are dispatched in all turns, told by what is held and waits before them.
use Rattle.std.proofs.Common.{◌≡◌, ◌≢◌, ℕ, zero, suc, ◌+◌, ◌-◌, ◌%◌, ◌<◌, ◌≤◌, List, [], ◌∷◌, ◌++◌, length, refl, sym, ap, subst, ◌∙◌, arith, Some, None, unwrap_or, length-append, add-zero}
use Rattle.std.specs.Ordering.{nat_cmp}
use Rattle.std.specs.FinMap.{FinMap, get, entries, empty}
use Rattle.enet_seq.specs.Numbering.{wire}
use Rattle.enet_seq.specs.Windows.{after}
use Rattle.enet_fragment.specs.PartialPacket.{count_of}
use Rattle.enet_packets.specs.declared.incoming_packet.IncomingPacket.{IncomingPacket}
use Rattle.enet_packets.specs.declared.incoming_packet.Dispatched.{Dispatched}
use Rattle.enet_packets.specs.Packets.{Lines, line_at, fresh, still_ahead, handed_out}
use Rattle.enet_receiver.specs.Receiver.{Receiver, without, with_passed, with_dispatched, next_whole, released_with, released, flushed_from, flushed, flushed_last, front_line}
use Rattle.enet_receiver.specs.Private.Walk.{pieces_of, fresh_at, walk_with, walk, walked, chain_or_line}
use Rattle.enet_receiver.proofs.Without.{get-without_wire_outside}
use Rattle.enet_receiver.proofs.LineLemmas.{Line, line_at-other, line_at-same}
use Rattle.enet_receiver.proofs.Released.{whole_is, released-keeps, released-none, released-some}
use Rattle.enet_receiver.proofs.Fresh.{fresh_again}

-- a packet that is held so far past the base
pub record IsNear (x : ℕ) (c : IncomingPacket) : Type 0 where
  pub far : x ≤ 28671
  pub some_piece : 1 ≤ count_of c.making
  pub few_pieces : count_of c.making ≤ 16384

pub record AllNear (base : ℕ) (held : FinMap nat_cmp IncomingPacket) : Type 0 where
  pub near : (x : ℕ) (c : IncomingPacket) → x < 65536 → get held ((base + x) % 65536) ≡ Some c → IsNear x c

-- a receiver in the course of the turns: what is past its front is as it was
pub record OnCourse (base : ℕ) (held : FinMap nat_cmp IncomingPacket) (lines : Lines) (s : Receiver) (d : ℕ) : Type 0 where
  pub at : s.front ≡ (base + d) % 65536
  pub short : d ≤ 45054
  pub same_held : (x : ℕ) → d < x → x < 65536 → get s.held ((base + x) % 65536) ≡ get held ((base + x) % 65536)
  pub same_lines : (x : ℕ) → d < x → x < 65536 → line_at s.waiting ((base + x) % 65536) ≡ line_at lines ((base + x) % 65536)

next_number : (base d front : ℕ) → front ≡ (base + d) % 65536 → after front 1 ≡ (base + (d + 1)) % 65536
next_number base d front e = omega arith

next_front : (base d front count : ℕ) → front ≡ (base + d) % 65536 → after front count ≡ (base + (d + count)) % 65536
next_front base d front count e = omega arith

same_place : (base d x : ℕ) → d ≤ x → (base + x) % 65536 ≡ ((base + d) + (x - d)) % 65536
same_place base d x h = omega arith

apart_places : (base d x : ℕ) → d < x → x < 65536 → (base + x) % 65536 ≢ (base + d) % 65536
apart_places base d x low high e = omega arith

-- what stands past the numbers that went
get_past : {X : Type 0} (m : FinMap nat_cmp X) (base d count x n : ℕ) → n ≡ (base + d) % 65536 → d + count ≤ x → x < 65536 → get (without wire m n count) ((base + x) % 65536) ≡ get m ((base + x) % 65536)
get_past m base d count x n at low high =
    let place : (base + x) % 65536 ≡ ((base + d) + (x - d)) % 65536 = same_place base d x (omega arith) in
    ap (λ k. get (without wire m k count) ((base + x) % 65536)) at
    ∙ ap (get (without wire m ((base + d) % 65536) count)) place
    ∙ get-without_wire_outside m (base + d) count (x - d) (omega arith) (omega arith)
    ∙ ap (get m) (sym place)

line_past : (w : Lines) (base d count x n : ℕ) → n ≡ (base + d) % 65536 → d + count ≤ x → x < 65536 → line_at (without wire w n count) ((base + x) % 65536) ≡ line_at w ((base + x) % 65536)
line_past w base d count x n at low high = ap (λ o. unwrap_or o empty) (get_past w base d count x n at low high)

-- the packet just past the front is one that was held before
pub due_before : (base : ℕ) (held : FinMap nat_cmp IncomingPacket) (lines : Lines) (s : Receiver) (d : ℕ) → OnCourse base held lines s d → get s.held (after s.front 1) ≡ get held ((base + (d + 1)) % 65536)
due_before base held lines s d on =
    let short = on.short in
    ap (get s.held) (next_number base d s.front on.at) ∙ on.same_held (d + 1) (omega arith) (omega arith)

pub next_near : (base : ℕ) (held : FinMap nat_cmp IncomingPacket) (lines : Lines) (s : Receiver) (d : ℕ) (c : IncomingPacket) → AllNear base held → OnCourse base held lines s d
    → next_whole (get s.held (after s.front 1)) ≡ Some c → IsNear (d + 1) c
next_near base held lines s d c near on e =
    let short = on.short in
    near.near (d + 1) c (omega arith) (sym (due_before base held lines s d on) ∙ (whole_is (get s.held (after s.front 1)) c e).0)

pub on_course : (base : ℕ) (held : FinMap nat_cmp IncomingPacket) (lines : Lines) (s : Receiver) (d : ℕ) (c : IncomingPacket) → AllNear base held → OnCourse base held lines s d
    → next_whole (get s.held (after s.front 1)) ≡ Some c → OnCourse base held lines (with_dispatched wire s c) (d + count_of c.making)
on_course base held lines s d c near on e =
    let is = next_near base held lines s d c near on e in
    let far = is.far in
    let few = is.few_pieces in
    let some_piece = is.some_piece in
    let count : ℕ = count_of c.making in
    let p : Receiver = with_passed wire s c in
    let front : after s.front (count_of c.making) ≡ (base + (d + count_of c.making)) % 65536 = next_front base d s.front (count_of c.making) on.at in
    record {
      at = front;
      short = omega arith;
      same_held = λ x low high.
          get_past s.held base (d + 1) (count_of c.making) x (after s.front 1) (next_number base d s.front on.at) (omega arith) high
          ∙ on.same_held x (omega arith) high;
      same_lines = λ x low high.
          let apart : (base + x) % 65536 ≢ after s.front (count_of c.making) = λ f. apart_places base (d + count_of c.making) x low high (f ∙ front) in
          line_at-other p.waiting p.front (still_ahead (front_line p) (flushed_last p)) ((base + x) % 65536) apart
          ∙ line_past s.waiting base d (count_of c.making) x s.front on.at (omega arith) high
          ∙ on.same_lines x (omega arith) high;
    }

-- the line of the new front is as it was before
passed_line : (base : ℕ) (held : FinMap nat_cmp IncomingPacket) (lines : Lines) (s : Receiver) (d : ℕ) (c : IncomingPacket) → AllNear base held → OnCourse base held lines s d
    → next_whole (get s.held (after s.front 1)) ≡ Some c → front_line (with_passed wire s c) ≡ line_at lines (after s.front (count_of c.making))
passed_line base held lines s d c near on e =
    let is = next_near base held lines s d c near on e in
    let far = is.far in
    let few = is.few_pieces in
    let some_piece = is.some_piece in
    let front : after s.front (count_of c.making) ≡ (base + (d + count_of c.making)) % 65536 = next_front base d s.front (count_of c.making) on.at in
    ap (line_at (without wire s.waiting s.front (count_of c.making))) front
    ∙ line_past s.waiting base d (count_of c.making) (d + count_of c.making) s.front on.at (omega arith) (omega arith)
    ∙ on.same_lines (d + count_of c.making) (omega arith) (omega arith)
    ∙ ap (line_at lines) (sym front)

more_lengths : (a : List Dispatched) (h : Dispatched) (b : List Dispatched) → length ((a ++ h ∷ []) ++ b) ≡ length a + (1 + length b)
more_lengths a h b =
    let one = length-append (a ++ h ∷ []) b in
    let two = length-append a (h ∷ []) in
    let three : length (h ∷ []) ≡ 1 = refl in
    omega arith

regroup : (total a f w r : ℕ) → total ≡ (a + (1 + f)) + r → f ≡ w → total ≡ a + (1 + (w + 0) + r)
regroup total a f w r e g = omega arith

-- how many packets so many turns dispatch
pub course_count : (n : ℕ) (base : ℕ) (held : FinMap nat_cmp IncomingPacket) (lines : Lines) (s : Receiver) (d : ℕ) → AllNear base held → OnCourse base held lines s d
    → length (released wire n s).dispatched ≡ length s.dispatched + walk n None held lines s.front
unfolding released walk
course_count zero base held lines s d near on = sym (add-zero (length s.dispatched))
course_count (suc n) base held lines s d near on =
    let here : get s.held (after s.front 1) ≡ get held (after s.front 1) = due_before base held lines s d on ∙ ap (get held) (sym (next_number base d s.front on.at)) in
    elim (next_whole (get s.held (after s.front 1))) as (λ o. next_whole (get s.held (after s.front 1)) ≡ o
    → length (released_with (released wire n) wire s o).dispatched ≡ length s.dispatched + walk_with (walk n None held lines) None lines s.front (pieces_of o)) [
      | None ↦ λ e. sym (add-zero (length s.dispatched))
      | Some c ↦ λ e.
          let p : Receiver = with_passed wire s c in
          let rest = course_count n base held lines (with_dispatched wire s c) (d + count_of c.making) near (on_course base held lines s d c near on e) in
          let grown = more_lengths s.dispatched (handed_out c) (fresh 0 (entries (front_line p))) in
          regroup (length (released wire n (with_dispatched wire s c)).dispatched) (length s.dispatched) (length (fresh 0 (entries (front_line p))))
          (length (fresh 0 (entries (line_at lines (after s.front (count_of c.making)))))) (walk n None held lines (after s.front (count_of c.making)))
          (rest ∙ ap (λ k. k + walk n None held lines (after s.front (count_of c.making))) grown)
          (ap (λ (l : Line). length (fresh 0 (entries l))) (passed_line base held lines s d c near on e))
    ] refl
    ∙ ap (λ o. length s.dispatched + walk_with (walk n None held lines) None lines s.front (pieces_of (next_whole o))) here

-- nothing that waits for the front is due
abbrev pub Settled : Receiver → Type 0
Settled r = fresh (r.unreliable + 1) (entries (front_line r)) ≡ []

pub settled-flushed : (first : ℕ) (r : Receiver) → Settled (flushed_from first r)
settled-flushed first r =
    ap (λ (l : Line). fresh (flushed_last r + 1) (entries l)) (line_at-same r.waiting r.front (still_ahead (front_line r) (flushed_last r)))
    ∙ fresh_again r.unreliable (front_line r)

chain_is : (w l : ℕ) → 1 ≤ w → chain_or_line w l ≡ w
chain_is zero l h = absurd (omega arith)
chain_is (suc w) l h = refl

nothing_more : (a b : List Dispatched) → b ≡ [] → length (a ++ b) ≡ length a
nothing_more a b e =
    let all = length-append a b in
    let none : length b ≡ 0 = ap length e in
    omega arith

at_base : (front : ℕ) → front < 65536 → front ≡ (front + 0) % 65536
at_base front h = omega arith

pub starts : (s : Receiver) → s.front < 65536 → OnCourse s.front s.held s.waiting s 0
starts s low = record { at = at_base s.front low; short = omega arith; same_held = λ x _ _. refl; same_lines = λ x _ _. refl }

walk_some : (n : ℕ) (s : Receiver) (c : IncomingPacket) → next_whole (get s.held (after s.front 1)) ≡ Some c → 1 ≤ walk (suc n) None s.held s.waiting s.front
unfolding walk
walk_some n s c e =
    subst (λ o. 1 ≤ walk_with (walk n None s.held s.waiting) None s.waiting s.front (pieces_of o)) (sym e) (omega arith)

walk_none : (n : ℕ) (s : Receiver) → next_whole (get s.held (after s.front 1)) ≡ None → walk (suc n) None s.held s.waiting s.front ≡ 0
unfolding walk
walk_none n s e = ap (λ o. walk_with (walk n None s.held s.waiting) None s.waiting s.front (pieces_of o)) e

-- how many packets are dispatched in all
pub all_count : (n : ℕ) (s : Receiver) → s.front < 65536 → AllNear s.front s.held
    → length (flushed (released wire (suc n) s)).dispatched ≡ length s.dispatched + walked (suc n) None s
all_count n s low near =
    elim (next_whole (get s.held (after s.front 1))) as (λ o. next_whole (get s.held (after s.front 1)) ≡ o
    → length (flushed (released wire (suc n) s)).dispatched ≡ length s.dispatched + walked (suc n) None s) [
      | None ↦ λ e.
          ap (λ (x : Receiver). length (flushed x).dispatched) (released-none wire (suc n) s e)
          ∙ length-append s.dispatched (fresh (s.unreliable + 1) (entries (front_line s)))
          ∙ ap (λ k. length s.dispatched + k) (sym (add-zero (length (fresh (s.unreliable + 1) (entries (front_line s))))))
          ∙ ap (λ k. length s.dispatched + chain_or_line k (fresh_at None s.waiting s.front (s.unreliable + 1))) (sym (walk_none n s e))
      | Some c ↦ λ e.
          let turns : Receiver = released wire (suc n) s in
          let settled : Settled (released wire (suc n) s) = subst Settled (sym (released-some wire n s c e))
          (released-keeps wire Settled (λ r x _ _. settled-flushed 0 (with_passed wire r x)) n (with_dispatched wire s c) (settled-flushed 0 (with_passed wire s c))) in
          nothing_more turns.dispatched (fresh (turns.unreliable + 1) (entries (front_line turns))) settled
          ∙ course_count (suc n) s.front s.held s.waiting s 0 near (starts s low)
          ∙ ap (λ k. length s.dispatched + k) (sym (chain_is (walk (suc n) None s.held s.waiting s.front) (fresh_at None s.waiting s.front (s.unreliable + 1)) (walk_some n s c e)))
    ] refl
