-- A whole packet that comes in its place is dispatched as if it had been held, or had waited.
use Rattle.std.proofs.Common.{◌≡◌, ℕ, ◌+◌, ◌<◌, ◌&&◌, ◌||◌, ltb, leb, eqb, Bool, true, false, cond, [], ◌∷◌, ◌++◌, refl, sym, ap, subst, ◌∙◌, arith, Option, Some, None, unwrap_or, append-nil}
use Rattle.std.specs.Prelude.{nat_lt}
use Rattle.std.specs.Ordering.{nat_cmp}
use Rattle.std.specs.Cmp.{nat_cmp_total}
use Rattle.std.specs.FinMap.{FinMap, get, insert, remove, empty, len, entries, put, from_entries, entries-insert}
use Rattle.std.proofs.lemmas.Bool.Decides.{nat_tests}
use Rattle.enet_seq.specs.Numbering.{wire}
use Rattle.enet_seq.specs.Windows.{after}
use Rattle.enet_codec.specs.declared.command.Fragment.{Fragment}
use Rattle.enet_fragment.specs.PartialPacket.{PartialPacket, nothing_yet, with_piece, joined}
use Rattle.enet_fragment.specs.Whole.{is_whole, single_of}
use Rattle.enet_fragment.specs.DataCommand.{piece_or_only, fragment_place}
use Rattle.enet_fragment.proofs.Laws.{single-made, joined-whole_of}
use Rattle.enet_fragment.specs.declared.data.DataCommand.{DataCommand}
use Rattle.enet_packets.specs.declared.incoming_packet.IncomingPacket.{IncomingPacket}
use Rattle.enet_packets.specs.Packets.{Lines, handed_out, line_at, with_line, fresh, last_fresh, still_ahead}
use Rattle.enet_packets.proofs.Maps.{entries-empty, retained, retained-empty, remove-insert, remove-absent}
use Rattle.enet_packets.proofs.LineLemmas.{with_line-some, with_line-none, len-insert_some, len_nothing}
use Rattle.enet_receiver.specs.Receiver.{Receiver, without, next_whole, flushed_from, flushed, with_passed, all_released}
use Rattle.enet_receiver.specs.Invariant.{Keeps}
use Rattle.enet_receiver.specs.DataOutcome.{came_at, is_behind, flags_of, earlier_or_new, with_more, with_added}
use Rattle.enet_receiver.specs.ReceiverParts.{receiver_of}
use Rattle.enet_receiver.specs.Private.ReceiverParts.{with_stored}
use Rattle.enet_receiver.specs.Private.Admitted.{Admitted, IsInside}
use Rattle.enet_receiver.specs.Private.Next.{only_packet}
use Rattle.enet_receiver.specs.Private.InPlace.{GoesAlone, ComesAlone}
use Rattle.enet_receiver.proofs.LineLemmas.{Line, line_at-same}
use Rattle.enet_receiver.proofs.Admission.{piece_sound, Keeps-stored}
use Rattle.enet_receiver.proofs.Keeping.{pieces_of_kept, Keeps-all_released}
use Rattle.enet_receiver.proofs.Released.{nothing_held, all_released-none}
use Rattle.enet_receiver.proofs.Turns.{end_is}
use Rattle.enet_receiver.proofs.Ordered.{only_whole, only_count, nothing_came, next_stored, released_at_once}

-- a line of one packet
only_entry : (k : ℕ) (p : IncomingPacket) → entries (insert (empty {X = IncomingPacket} {R = nat_cmp}) k p) ≡ (k, p) ∷ []
only_entry k p = entries-insert nat_cmp_total empty k p ∙ ap (put nat_cmp k p) (entries-empty {X = IncomingPacket})

-- what is dispatched of it
fresh_one : (last k : ℕ) (p : IncomingPacket) → is_whole p.making ≡ true → last < k → fresh (last + 1) ((k, p) ∷ []) ≡ handed_out p ∷ []
fresh_one last k p whole above = let low : leb (last + 1) k ≡ true = grind (arith, nat_tests) in λ i. cond (whole i && low i) (handed_out p ∷ []) []

last_one : (last k : ℕ) (p : IncomingPacket) → is_whole p.making ≡ true → last < k → last_fresh last ((k, p) ∷ []) ≡ k
last_one last k p whole above = let low : ltb last k ≡ true = grind (arith, nat_tests) in λ i. cond (whole i && low i) k last

-- and that nothing of it is left
none_ahead : (k : ℕ) (p : IncomingPacket) → still_ahead (insert empty k p) k ≡ empty
none_ahead k p =
    let same : ltb k k ≡ false = grind (arith, nat_tests) in
    sym (retained (nat_lt k) ((k, p) ∷ [])) ∙ ap (λ b. from_entries {R = nat_cmp} (cond b ((k, p) ∷ []) [])) same

none_left : (w : Lines) (n k : ℕ) (p : IncomingPacket) → get w n ≡ None → with_line (with_line w n (insert empty k p)) n (still_ahead (insert empty k p) k) ≡ w
none_left w n k p absent =
    ap (λ (line : Line). with_line (with_line w n (insert empty k p)) n line) (none_ahead k p)
    ∙ with_line-none (with_line w n (insert empty k p)) n empty len_nothing
    ∙ ap (λ (m : Lines). remove m n) (with_line-some w n (insert empty k p) (len-insert_some empty k p))
    ∙ remove-insert w n (insert empty k p)
    ∙ remove-absent w n absent

-- a packet that waits for the front alone
flushed_alone : (r : Receiver) (k : ℕ) (p : IncomingPacket) → get r.waiting r.front ≡ None → is_whole p.making ≡ true → r.unreliable < k
    → receiver_of r.front k r.held r.waiting (r.dispatched ++ handed_out p ∷ []) ≡ flushed (record r { waiting = with_line r.waiting r.front (insert empty k p) })
flushed_alone r k p absent whole above =
    let alone : Receiver = record r { waiting = with_line r.waiting r.front (insert empty k p) } in
    let at : line_at (with_line r.waiting r.front (insert empty k p)) r.front ≡ insert empty k p = line_at-same r.waiting r.front (insert empty k p) in
    let one : entries (line_at (with_line r.waiting r.front (insert empty k p)) r.front) ≡ (k, p) ∷ [] = ap (λ (line : Line). entries line) at ∙ only_entry k p in
    end_is alone k r.held r.waiting (r.dispatched ++ handed_out p ∷ []) refl
    (ap (λ out. r.dispatched ++ out) (sym (ap (fresh (r.unreliable + 1)) one ∙ fresh_one r.unreliable k p whole above)))
    (sym (ap (last_fresh r.unreliable) one ∙ last_one r.unreliable k p whole above))
    (sym (ap (λ (line : Line). with_line (with_line r.waiting r.front (insert empty k p)) r.front (still_ahead line k)) at ∙ none_left r.waiting r.front k p absent))

-- such a packet, once it is stored
stored_alone : (most : ℕ) (r : Receiver) (c : DataCommand) (place : ℕ) → Admitted most r c place → c.fragment ≡ None → c.reliable ≡ false → place ≡ r.front → get r.waiting r.front ≡ None
    → record r { waiting = with_line r.waiting r.front (insert empty c.unreliable (only_packet c)) } ≡ with_stored r c place
stored_alone most r c place a single unreliable at absent =
    let none : came_at r c place ≡ None = nothing_came (came_at r c place) c single a.missing in
    let no_line : line_at r.waiting r.front ≡ empty = ap (λ (o : Option Line). unwrap_or o empty) absent in
    sym (ap (λ (o : Option IncomingPacket). with_added r c place (with_more (earlier_or_new o c) c)) none
    ∙ ap (λ b. record r { held = cond b (insert r.held place (only_packet c)) r.held; waiting = cond b r.waiting (with_line r.waiting place (insert (line_at r.waiting place) c.unreliable (only_packet c))) }) unreliable
    ∙ ap (λ n. record r { waiting = with_line r.waiting n (insert (line_at r.waiting n) c.unreliable (only_packet c)) }) at
    ∙ ap (λ (line : Line). record r { waiting = with_line r.waiting r.front (insert line c.unreliable (only_packet c)) }) no_line)

-- it is past the last one that was dispatched
past_last : (r : Receiver) (c : DataCommand) (place : ℕ) → place ≡ r.front → c.reliable ≡ false → is_behind r c place ≡ false → r.unreliable < c.unreliable
past_last r c place at unreliable not_behind =
    let same : eqb place r.front ≡ true = grind (arith, nat_tests) in
    let is : is_behind r c place ≡ leb c.unreliable r.unreliable = λ i. same i && (unreliable i || leb c.unreliable r.unreliable) in
    let above : leb c.unreliable r.unreliable ≡ false = sym is ∙ not_behind in
    grind (arith, nat_tests)

-- where nothing is held and nothing waits, nothing goes with a packet
pub nothing_there : (r : Receiver) (reliable : Bool) (number : ℕ) → len r.held ≡ 0 → len r.waiting ≡ 0 → GoesAlone r reliable number
nothing_there r reliable number none_held none_waits = record {
  next_not_whole = ap next_whole (nothing_held r.held (after number 1) (omega arith));
  none_waits = nothing_held r.waiting number (omega arith);
  not_held = λ _. nothing_held r.held number (omega arith);
  none_passed = λ _. nothing_held r.waiting r.front (omega arith);
}

unreliable_out : (most : ℕ) (r : Receiver) (c : DataCommand) → Admitted most r c c.number → ComesAlone r c → c.reliable ≡ false → c.number ≡ r.front
    → receiver_of r.front c.unreliable r.held r.waiting (r.dispatched ++ handed_out (only_packet c) ∷ []) ≡ all_released wire (with_stored r c c.number)
unreliable_out most r c a there unreliable at =
    let absent : get r.waiting r.front ≡ None = ap (get r.waiting) (sym at) ∙ there.alone.none_waits in
    let none : next_whole (get r.held (after r.front 1)) ≡ None = ap (λ n. next_whole (get r.held (after n 1))) (sym at) ∙ there.alone.next_not_whole in
    let stored : Receiver = record r { waiting = with_line r.waiting r.front (insert empty c.unreliable (only_packet c)) } in
    flushed_alone r c.unreliable (only_packet c) absent (only_whole c there.single (piece_sound most c a.piece).0) (past_last r c c.number at unreliable a.not_behind)
    ∙ sym (all_released-none wire stored none)
    ∙ ap (all_released wire) (stored_alone most r c c.number a there.single unreliable at absent)

-- where nothing waits for the front, no unreliable packet is dispatched
flushed_nothing : (first : ℕ) (r : Receiver) → get r.waiting r.front ≡ None → flushed_from first r ≡ r
flushed_nothing first r absent =
    let line : line_at r.waiting r.front ≡ empty = ap (λ (o : Option Line). unwrap_or o empty) absent in
    let none : entries (line_at r.waiting r.front) ≡ [] = ap (λ (l : Line). entries l) line ∙ entries-empty {X = IncomingPacket} in
    let last : last_fresh r.unreliable (entries (line_at r.waiting r.front)) ≡ r.unreliable = ap (last_fresh r.unreliable) none in
    let out : r.dispatched ++ fresh first (entries (line_at r.waiting r.front)) ≡ r.dispatched = ap (λ es. r.dispatched ++ fresh first es) none ∙ append-nil r.dispatched in
    let lines : with_line r.waiting r.front (still_ahead (line_at r.waiting r.front) (last_fresh r.unreliable (entries (line_at r.waiting r.front)))) ≡ r.waiting =
    ap (λ (l : Line). with_line r.waiting r.front (still_ahead l (last_fresh r.unreliable (entries (line_at r.waiting r.front))))) line
    ∙ ap (λ (l : Line). with_line r.waiting r.front l) (retained-empty (nat_lt (last_fresh r.unreliable (entries (line_at r.waiting r.front)))))
    ∙ with_line-none r.waiting r.front empty len_nothing
    ∙ remove-absent r.waiting r.front absent in
    λ i. receiver_of r.front (last i) r.held (lines i) (out i)

without_one : {X : Type 0} (m : FinMap nat_cmp X) (k : ℕ) → k < 65536 → get m k ≡ None → without wire m k 1 ≡ m
unfolding without
without_one m k low none = let same : after k 0 ≡ k = omega arith in remove-absent m (after k 0) (ap (get m) same ∙ none)

after_fits : (n count : ℕ) → after n count < 65536
after_fits n count = omega arith

-- the front passes a packet of one piece, where nothing is held under its number and nothing waits for the front
passed_alone : (r : Receiver) (c : DataCommand) → c.fragment ≡ None → r.front < 65536 → get r.held (after r.front 1) ≡ None → get r.waiting r.front ≡ None
    → with_passed wire r (only_packet c) ≡ receiver_of (after r.front 1) 0 r.held r.waiting (r.dispatched ++ handed_out (only_packet c) ∷ [])
passed_alone r c single low not_held none_waits =
    ap {B = Receiver} (λ n. record {
      front = after r.front n;
      unreliable = 0;
      held = without wire r.held (after r.front 1) n;
      waiting = without wire r.waiting r.front n;
      dispatched = r.dispatched ++ handed_out (only_packet c) ∷ [];
    }) (only_count c single)
    ∙ (λ i. receiver_of (after r.front 1) 0 (without_one r.held (after r.front 1) (after_fits r.front 1) not_held i) (without_one r.waiting r.front low none_waits i) (r.dispatched ++ handed_out (only_packet c) ∷ []))

reliable_out : (most : ℕ) (r : Receiver) (c : DataCommand) → Keeps most r → Admitted most r c c.number → ComesAlone r c → c.reliable ≡ true → c.number ≡ after r.front 1
    → receiver_of (after r.front 1) 0 r.held r.waiting (r.dispatched ++ handed_out (only_packet c) ∷ []) ≡ all_released wire (with_stored r c c.number)
reliable_out most r c k a there reliable at =
    let out : Receiver = receiver_of (after r.front 1) 0 r.held r.waiting (r.dispatched ++ handed_out (only_packet c) ∷ []) in
    let not_held : get r.held (after r.front 1) ≡ None = ap (get r.held) (sym at) ∙ there.alone.not_held reliable in
    let none_waits : get r.waiting (after r.front 1) ≡ None = ap (get r.waiting) (sym at) ∙ there.alone.none_waits in
    let next : next_whole (get r.held (after (after r.front 1) 1)) ≡ None = ap (λ n. next_whole (get r.held (after n 1))) (sym at) ∙ there.alone.next_not_whole in
    sym (
    ap (all_released wire) (sym (next_stored most r c a there reliable))
    ∙ sym (released_at_once r c there.single (piece_sound most c a.piece).0 (pieces_of_kept most r k))
    ∙ ap (λ (s : Receiver). all_released wire (flushed_from 0 s)) (passed_alone r c there.single k.wire not_held (there.alone.none_passed reliable))
    ∙ ap (all_released wire) (flushed_nothing 0 out none_waits)
    ∙ all_released-none wire out next
    ∙ flushed_nothing 1 out none_waits
    )

pub handed_out_is : (most : ℕ) (r : Receiver) (c : DataCommand) → Keeps most r → Admitted most r c c.number → ComesAlone r c
    → receiver_of c.number (cond c.reliable 0 c.unreliable) r.held r.waiting (r.dispatched ++ handed_out (only_packet c) ∷ []) ≡ all_released wire (with_stored r c c.number)
handed_out_is most r c k a there =
    elim c.reliable as (λ b. c.reliable ≡ b → c.number ≡ cond b (after r.front 1) r.front
    → receiver_of c.number (cond b 0 c.unreliable) r.held r.waiting (r.dispatched ++ handed_out (only_packet c) ∷ []) ≡ all_released wire (with_stored r c c.number)) [
      | true ↦ λ t at. ap (λ p. receiver_of p 0 r.held r.waiting (r.dispatched ++ handed_out (only_packet c) ∷ [])) at ∙ reliable_out most r c k a there t at
      | false ↦ λ t at. ap (λ p. receiver_of p c.unreliable r.held r.waiting (r.dispatched ++ handed_out (only_packet c) ∷ [])) at ∙ unreliable_out most r c a there t at
    ] refl there.at

-- it keeps what a receiver keeps
pub in_place_keeps : (most : ℕ) (r : Receiver) (c : DataCommand) → Keeps most r → IsInside r.front c.number → c.unreliable < 65536 → Admitted most r c c.number → ComesAlone r c
    → Keeps most (receiver_of c.number (cond c.reliable 0 c.unreliable) r.held r.waiting (r.dispatched ++ handed_out (only_packet c) ∷ []))
in_place_keeps most r c k inside count a there =
    subst (Keeps most) (sym (handed_out_is most r c k a there)) (Keeps-all_released most (with_stored r c c.number) (Keeps-stored most r c c.number k inside count a))

-- the bytes of a packet of one command
pub only_body : (c : DataCommand) → c.fragment ≡ None → handed_out (only_packet c) ≡ record { flags = flags_of c; body = c.body }
only_body c single =
    let alone : (only_packet c).making ≡ single_of c.body =
    ap (λ (f : Option Fragment). let p : Fragment = piece_or_only f c.number c.body in with_piece (nothing_yet p.count p.total) (fragment_place p c.body) c.body) single
    ∙ single-made c.body in
    λ i. record { flags = flags_of c; body = (ap (λ (m : PartialPacket). joined m.pieces) alone ∙ joined-whole_of c.body 1 (Some 0) (omega arith)) i }
