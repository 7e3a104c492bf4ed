-- One turn of the loop that releases, and its end.
use Rattle.std.proofs.Common.{◌≡◌, ℕ, zero, suc, ◌+◌, ◌-◌, ◌≤◌, Bool, true, false, cond, List, [], ◌∷◌, ◌++◌, refl, sym, ap, ◌∙◌, arith, Some, None}
use Rattle.std.specs.Ordering.{nat_cmp}
use Rattle.std.specs.Option.{is_some}
use Rattle.std.specs.Cmp.{nat_cmp_total}
use Rattle.std.specs.FinMap.{FinMap, get, insert, remove, len, entries, contains_key, len-remove}
use Rattle.enet_seq.specs.Numbering.{wire}
use Rattle.enet_seq.specs.Windows.{after}
use Rattle.enet_fragment.specs.PartialPacket.{count_of}
use Rattle.enet_packets.specs.declared.incoming_packet.IncomingPacket.{IncomingPacket}
use Rattle.enet_packets.specs.declared.incoming_packet.Dispatched.{Dispatched}
use Rattle.enet_packets.specs.Packets.{Lines, line_at, with_line, fresh, last_fresh, still_ahead, handed_out}
use Rattle.enet_receiver.specs.Receiver.{Receiver, without, next_whole, with_passed, with_dispatched, flushed_from, flushed}
use Rattle.enet_receiver.specs.Laws.{HavePieces}
use Rattle.enet_receiver.specs.ReceiverParts.{receiver_of}
use Rattle.enet_receiver.proofs.Without.{len-without, without-first, without-added}
use Rattle.enet_receiver.proofs.Released.{whole_is, wire_begins, nothing_held}

-- what is held once the packet was taken out and its numbers went
pub held_after : (held taken passed : FinMap nat_cmp IncomingPacket) (next count : ℕ) (front : ℕ) (c : IncomingPacket) → next ≡ after front 1 → taken ≡ remove held next → passed ≡ without wire taken (after front 1) count
    → count ≡ count_of c.making → 1 ≤ count → passed ≡ without wire held (after front 1) (count_of c.making)
held_after held taken passed next count front c at is goes many some_piece =
    goes
    ∙ ap (λ m. without wire m (after front 1) count) (is ∙ ap (remove held) at)
    ∙ without-first wire held (after front 1) count (wire_begins front) some_piece
    ∙ ap (without wire held (after front 1)) many

none_there : (m : FinMap nat_cmp IncomingPacket) (k : ℕ) (c : IncomingPacket) → get m k ≡ Some c → 1 ≤ len m
none_there m k c e = go (len m) refl
  where
    go : (n : ℕ) → len m ≡ n → 1 ≤ n
    go zero z = absurd (let f : get m k ≡ None = nothing_held m k (omega arith) in cc)
    go (suc n) z = omega arith

one_fewer : (b : Bool) (n m : ℕ) → b ≡ true → n ≡ cond b (m - 1) m → 1 ≤ m → n + 1 ≡ m
one_fewer true n m t e h = omega arith
one_fewer false n m t e h = absurd (cc)

-- and it is less
pub fewer_after : (held taken passed : FinMap nat_cmp IncomingPacket) (next count : ℕ) (front : ℕ) (c : IncomingPacket) → next_whole (get held next) ≡ Some c → taken ≡ remove held next → passed ≡ without wire taken (after front 1) count
    → len passed + 1 ≤ len held
fewer_after held taken passed next count front c whole is goes =
    let there = (whole_is (get held next) c whole).0 in
    let less : len (remove held next) + 1 ≡ len held = one_fewer (contains_key held next) (len (remove held next)) (len held) (ap is_some there) (len-remove nat_cmp_total held next) (none_there held next c there) in
    let same : len taken ≡ len (remove held next) = ap len is in
    let most = len-without wire taken (after front 1) count in
    let goes_len : len passed ≡ len (without wire taken (after front 1) count) = ap len goes in
    omega arith

-- a turn is the same where the same is held past it
turn_of : (r : Receiver) (c : IncomingPacket) (other : FinMap nat_cmp IncomingPacket) → without wire other (after r.front 1) (count_of c.making) ≡ without wire r.held (after r.front 1) (count_of c.making)
    → with_dispatched wire (record r { held = other }) c ≡ with_dispatched wire r c
turn_of r c other same =
    let passed : Receiver = with_passed wire r c in
    ap (λ m. flushed_from 0 (record passed { held = m })) same

-- where a packet is due, one is held
pub due_first : (held : FinMap nat_cmp IncomingPacket) (next : ℕ) (c : IncomingPacket) → next_whole (get held next) ≡ Some c → 1 ≤ len held
due_first held next c whole = none_there held next c (whole_is (get held next) c whole).0

-- a turn is the same where the packet was taken out before
pub taken_first : (r : Receiver) (c : IncomingPacket) (taken : FinMap nat_cmp IncomingPacket) (next : ℕ) → next ≡ after r.front 1 → taken ≡ remove r.held next → HavePieces r
    → next_whole (get r.held (after r.front 1)) ≡ Some c → with_dispatched wire (record r { held = taken }) c ≡ with_dispatched wire r c
taken_first r c taken next at is pieces due =
    let some_piece : 1 ≤ count_of c.making = pieces (after r.front 1) c (whole_is (get r.held (after r.front 1)) c due).0 in
    turn_of r c taken (held_after r.held taken (without wire taken (after r.front 1) (count_of c.making)) next (count_of c.making) r.front c at is refl refl some_piece)

-- and where it comes just then
pub added_first : (r : Receiver) (c : IncomingPacket) → 1 ≤ count_of c.making → with_dispatched wire r c ≡ with_dispatched wire (record r { held = insert r.held (after r.front 1) c }) c
added_first r c some_piece =
    sym (turn_of r c (insert r.held (after r.front 1) c) (without-added wire r.held (after r.front 1) (count_of c.making) c (wire_begins r.front) some_piece))

-- the receiver after a turn
pub turn_is : (r : Receiver) (c : IncomingPacket) (front last : ℕ) (held : FinMap nat_cmp IncomingPacket) (passed flushed_lines : Lines) (pushed out : List Dispatched)
    → front ≡ after r.front (count_of c.making)
    → held ≡ without wire r.held (after r.front 1) (count_of c.making)
    → passed ≡ without wire r.waiting r.front (count_of c.making)
    → pushed ≡ r.dispatched ++ handed_out c ∷ []
    → out ≡ pushed ++ fresh 0 (entries (line_at passed front))
    → last ≡ last_fresh 0 (entries (line_at passed front))
    → flushed_lines ≡ with_line passed front (still_ahead (line_at passed front) last)
    → receiver_of front last held flushed_lines out ≡ with_dispatched wire r c
turn_is r c front last held passed flushed_lines pushed out e1 e2 e3 e4 e5 e6 e7 =
    let before : receiver_of front 0 held passed pushed ≡ with_passed wire r c = λ i. receiver_of (e1 i) 0 (e2 i) (e3 i) (e4 i) in
    let lines : flushed_lines ≡ with_line passed front (still_ahead (line_at passed front) (last_fresh 0 (entries (line_at passed front)))) =
    e7 ∙ ap (λ u. with_line passed front (still_ahead (line_at passed front) u)) e6 in
    let flush : receiver_of front last held flushed_lines out ≡ flushed_from 0 (receiver_of front 0 held passed pushed) = λ i. receiver_of front (e6 i) held (lines i) (e5 i) in
    flush ∙ ap (flushed_from 0) before

-- the receiver at the end
pub end_is : (r : Receiver) (last : ℕ) (held : FinMap nat_cmp IncomingPacket) (lines : Lines) (out : List Dispatched)
    → held ≡ r.held
    → out ≡ r.dispatched ++ fresh (r.unreliable + 1) (entries (line_at r.waiting r.front))
    → last ≡ last_fresh r.unreliable (entries (line_at r.waiting r.front))
    → lines ≡ with_line r.waiting r.front (still_ahead (line_at r.waiting r.front) last)
    → receiver_of r.front last held lines out ≡ flushed r
end_is r last held lines out e1 e2 e3 e4 =
    let all : lines ≡ with_line r.waiting r.front (still_ahead (line_at r.waiting r.front) (last_fresh r.unreliable (entries (line_at r.waiting r.front)))) =
    e4 ∙ ap (λ u. with_line r.waiting r.front (still_ahead (line_at r.waiting r.front) u)) e3 in
    λ i. receiver_of r.front (e3 i) (e1 i) (all i) (e2 i)
