-- What is foreseen of a whole packet that is dispatched as it comes.
use Rattle.std.proofs.Common.{◌≡◌, ℕ, ◌+◌, ◌-◌, ◌%◌, ◌<◌, ◌≤◌, leb, eqb, Bool, true, false, cond, not, ◌&&◌, ◌||◌, length, refl, sym, ap, ◌∙◌, arith, Option, Some, None, ◌∷◌, ◌++◌, [], unwrap_or}
use Rattle.std.specs.Ordering.{nat_cmp}
use Rattle.std.specs.FinMap.{get, empty, get-empty}
use Rattle.std.proofs.lemmas.Bool.Decides.{nat_tests}
use Rattle.std.proofs.lemmas.List.{length-append}
use Rattle.enet_codec.specs.declared.command.Fragment.{Fragment}
use Rattle.enet_seq.specs.Numbering.{wire, number_read, start_read}
use Rattle.enet_seq.specs.Windows.{ahead, after, in_window, acknowledges}
use Rattle.enet_seq.proofs.WindowsLemmas.{near_is_inside, inside_is_acknowledged}
use Rattle.enet_fragment.specs.Place.{is_sound, is_even, is_of_piece_length, told_piece_len}
use Rattle.enet_fragment.specs.DataCommand.{piece_or_only, fragment_place}
use Rattle.enet_fragment.specs.declared.data.DataCommand.{DataCommand}
use Rattle.enet_packets.specs.declared.incoming_packet.IncomingPacket.{IncomingPacket}
use Rattle.enet_packets.specs.Packets.{line_at, handed_out}
use Rattle.enet_receiver.specs.declared.took.Took.{Took}
use Rattle.enet_receiver.specs.declared.took.Took.TheVariants.{Held, Again, Waiting}
use Rattle.enet_receiver.specs.Receiver.{Receiver}
use Rattle.enet_receiver.specs.Invariant.{Keeps}
use Rattle.enet_receiver.specs.DataOutcome.{outcome, place_read, came_at, came_before, is_piece, received_with, added_at, dispatch_count}
use Rattle.enet_receiver.specs.Private.Admitted.{Admitted}
use Rattle.enet_receiver.specs.Private.InPlace.{ComesAlone, GoesAtOnce}
use Rattle.enet_receiver.specs.Private.Next.{only_packet}
use Rattle.enet_receiver.proofs.LineLemmas.{Line}
use Rattle.enet_receiver.proofs.Admission.{came_before-read, outcome-read, admitted, read_back}
use Rattle.enet_receiver.proofs.InPlace.{handed_out_is}

only_sound : (n : ℕ) → is_sound (record { number = 0; count = 1; total = n; offset = 0; len = n }) ≡ true
unfolding is_sound is_even is_of_piece_length told_piece_len
only_sound n = let whole : leb (0 + n) n ≡ true = grind (arith, nat_tests) in let same : eqb n (n - 0) ≡ true = grind (arith, nat_tests) in let low : leb 0 n ≡ true = grind (arith, nat_tests) in λ i. (whole i && (same i && low i)) && true

-- a command that is its whole packet is a piece of it
only_piece_of : (most : ℕ) (c : DataCommand) → c.fragment ≡ None → length c.body ≤ most → c.number < 65536 → is_piece most c ≡ true
only_piece_of most c single short wired =
    let fits : leb (length c.body) most ≡ true = grind (arith, nat_tests) in
    let own : eqb c.number ((c.number + 0) % 65536) ≡ true = grind (arith, nat_tests) in
    let rest : (not c.reliable || true) ≡ true = elim c.reliable as (λ b. (not b || true) ≡ true) [ true ↦ refl | false ↦ refl ] in
    ap (λ (f : Option Fragment). let p : Fragment = piece_or_only f c.number c.body in
    is_sound (fragment_place p c.body) && leb p.total most && (not c.reliable || eqb c.number ((p.start + p.number) % 65536))) single
    ∙ (λ i. only_sound (length c.body) i && fits i && (not c.reliable || own i))
    ∙ rest

-- its number is read as itself
at_is : (r : Receiver) (c : DataCommand) → r.front < 65536 → c.number ≡ cond c.reliable (after r.front 1) r.front → (c.number < 65536 → in_window (r.front % 65536) c.number ≡ true)
at_is r c wired at = elim c.reliable as (λ b. c.number ≡ cond b (after r.front 1) r.front → c.number < 65536 → in_window (r.front % 65536) c.number ≡ true) [
  | true ↦ λ e small. near_is_inside (r.front % 65536) c.number (omega arith) small (omega arith)
  | false ↦ λ e small. near_is_inside (r.front % 65536) c.number (omega arith) small (omega arith)
] at

read_is : (r : Receiver) (c : DataCommand) → c.fragment ≡ None → r.front < 65536 → c.number < 65536 → in_window (r.front % 65536) c.number ≡ true → place_read wire r c ≡ Some c.number
read_is r c single wired small inside =
    let back : after r.front (ahead (r.front % 65536) c.number) ≡ c.number = read_back r.front c.number wired small in
    ap (λ (f : Option Fragment). let p : Fragment = piece_or_only f c.number c.body in cond c.reliable (start_read wire r.front p.start c.number) (number_read wire r.front c.number)) single
    ∙ elim c.reliable as (λ b. cond b (start_read wire r.front c.number c.number) (number_read wire r.front c.number) ≡ Some c.number) [
      | true ↦ λ i. cond (inside i && inside i) (Some (back i)) None
      | false ↦ λ i. cond (inside i) (Some (back i)) None
    ]

nothing_came_of : (r : Receiver) (c : DataCommand) → ComesAlone r c → came_at r c c.number ≡ None
nothing_came_of r c there =
    let line : get (line_at r.waiting c.number) c.unreliable ≡ None =
    ap (λ (o : Option Line). get (unwrap_or o empty) c.unreliable) there.alone.none_waits ∙ get-empty {X = IncomingPacket} nat_cmp c.unreliable in
    elim c.reliable as (λ b. c.reliable ≡ b → cond b (get r.held c.number) (get (line_at r.waiting c.number) c.unreliable) ≡ None) [ true ↦ λ t. there.alone.not_held t | false ↦ λ _. line ] refl

-- it is taken in
pub record IsDispatchedAtOnce (most : ℕ) (r : Receiver) (c : DataCommand) (full : Bool) : Type 0 where
  pub held : outcome wire most r c full ≡ Held
  pub acknowledged : acknowledges r.front c.number ≡ true
  pub one : 1 ≡ dispatch_count wire most r c full

held_at_once : (most : ℕ) (r : Receiver) (c : DataCommand) (full : Bool) → GoesAtOnce most r c → full ≡ false → place_read wire r c ≡ Some c.number → outcome wire most r c full ≡ Held
held_at_once most r c full at begins read =
    let none : came_at r c c.number ≡ None = nothing_came_of r c at.alone in
    let before : None ≡ came_before wire r c = sym (came_before-read wire r c c.number read ∙ none) in
    outcome-read most r c full c.number None (only_piece_of most c at.alone.single at.short at.number) before refl read
    ∙ (λ i. cond (at.not_behind i || false) Again (cond (begins i && true) Waiting Held))

-- and is all that it dispatches
one_dispatched : (most : ℕ) (r : Receiver) (c : DataCommand) (full : Bool) → Keeps most r → ComesAlone r c → outcome wire most r c full ≡ Held → place_read wire r c ≡ Some c.number → 1 ≡ dispatch_count wire most r c full
one_dispatched most r c full k there held read =
    let a : Admitted most r c c.number = admitted most r c full c.number held read in
    let all : (r.dispatched ++ handed_out (only_packet c) ∷ []) ≡ (received_with (outcome wire most r c full) wire r c).dispatched =
    ap (λ (s : Receiver). s.dispatched) (handed_out_is most r c k a there)
    ∙ sym (ap (λ (t : Took). (received_with t wire r c).dispatched) held ∙ ap (λ (o : Option ℕ). (added_at wire r c o).dispatched) read) in
    let long : length (r.dispatched ++ handed_out (only_packet c) ∷ []) ≡ length r.dispatched + 1 = length-append r.dispatched (handed_out (only_packet c) ∷ []) in
    let same : length (received_with (outcome wire most r c full) wire r c).dispatched ≡ length r.dispatched + 1 = sym (ap length all) ∙ long in
    omega arith

pub dispatched_at_once : (most : ℕ) (r : Receiver) (c : DataCommand) (full : Bool) → GoesAtOnce most r c → full ≡ false → IsDispatchedAtOnce most r c full
dispatched_at_once most r c full at begins =
    let read : place_read wire r c ≡ Some c.number = read_is r c at.alone.single at.kept.wire at.number (at_is r c at.kept.wire at.alone.at at.number) in
    let held : outcome wire most r c full ≡ Held = held_at_once most r c full at begins read in
    let inside : in_window (r.front % 65536) c.number ≡ true = at_is r c at.kept.wire at.alone.at at.number in
    let same : r.front % 65536 ≡ r.front = (let low = at.kept.wire in omega arith) in
    record { held = held; acknowledged = inside_is_acknowledged r.front c.number at.kept.wire at.number (ap (λ n. in_window n c.number) (sym same) ∙ inside); one = one_dispatched most r c full at.kept at.alone held read }
