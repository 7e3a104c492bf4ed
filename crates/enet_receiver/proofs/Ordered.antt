-- A whole packet that comes just past the front is dispatched as if it had been held.
use Rattle.std.proofs.Common.{◌≡◌, ℕ, ◌≤◌, true, false, cond, inl, inr, refl, sym, ap, subst, ◌∙◌, arith, eqb, Option, Some, None}
use Rattle.std.specs.FinMap.{get, insert}
use Rattle.enet_seq.specs.Numbering.{wire}
use Rattle.enet_seq.specs.Windows.{after}
use Rattle.enet_codec.specs.declared.command.Fragment.{Fragment}
use Rattle.enet_fragment.specs.PartialPacket.{count_of, nothing_yet}
use Rattle.enet_fragment.specs.Place.{is_sound}
use Rattle.enet_fragment.specs.Whole.{is_whole}
use Rattle.enet_fragment.specs.declared.data.DataCommand.{DataCommand}
use Rattle.enet_fragment.specs.DataCommand.{piece_of, piece_or_only, place_in_packet}
use Rattle.enet_fragment.proofs.Laws.{count_of-with_piece, count_of-nothing_yet}
use Rattle.enet_packets.specs.declared.incoming_packet.IncomingPacket.{IncomingPacket}
use Rattle.enet_packets.specs.Packets.{line_at, with_line}
use Rattle.enet_receiver.specs.Receiver.{Receiver, next_whole, with_dispatched, all_released}
use Rattle.enet_receiver.specs.Laws.{HavePieces}
use Rattle.enet_receiver.specs.Private.Admitted.{Admitted}
use Rattle.enet_receiver.specs.Private.InPlace.{ComesAlone}
use Rattle.enet_receiver.specs.Private.Next.{only_packet}
use Rattle.enet_receiver.specs.DataOutcome.{came_at, came, earlier_or_new, with_more, with_added}
use Rattle.enet_receiver.specs.Private.ReceiverParts.{with_stored}
use Rattle.enet_receiver.proofs.Maps.{get_inserted, get-insert_same}
use Rattle.enet_receiver.proofs.Foreseen.{whole_first}
use Rattle.enet_receiver.proofs.Released.{all_released-some, wire_begins}
use Rattle.enet_receiver.proofs.Turns.{added_first}

one_piece : (c : DataCommand) → c.fragment ≡ None → (piece_of c).count ≡ 1
one_piece c single = ap (λ (f : Option Fragment). let p : Fragment = piece_or_only f c.number c.body in p.count) single

pub only_count : (c : DataCommand) → c.fragment ≡ None → count_of (only_packet c).making ≡ 1
only_count c single =
    count_of-with_piece (nothing_yet (piece_of c).count (piece_of c).total) (place_in_packet c) c.body ∙ count_of-nothing_yet (piece_of c).count (piece_of c).total
    ∙ one_piece c single

pub only_whole : (c : DataCommand) → c.fragment ≡ None → is_sound (place_in_packet c) ≡ true → is_whole (only_packet c).making ≡ true
only_whole c single sound = whole_first (place_in_packet c) c.body sound ∙ ap (λ n. eqb n 1) (one_piece c single)

whole_next : (o : Option IncomingPacket) (c : IncomingPacket) → o ≡ Some c → is_whole c.making ≡ true → next_whole o ≡ Some c
whole_next o c e w = ap next_whole e ∙ ap (λ b. cond b (Some c) None) w

-- what is dispatched at once, and what is due then
pub released_at_once : (r : Receiver) (c : DataCommand) → c.fragment ≡ None → is_sound (place_in_packet c) ≡ true → HavePieces r
    → all_released wire (with_dispatched wire r (only_packet c)) ≡ all_released wire (record r { held = insert r.held (after r.front 1) (only_packet c) })
released_at_once r c single sound pieces =
    let count = only_count c single in
    let some_piece : 1 ≤ count_of (only_packet c).making = omega arith in
    let grown : Receiver = record r { held = insert r.held (after r.front 1) (only_packet c) } in
    let there : get (insert r.held (after r.front 1) (only_packet c)) (after r.front 1) ≡ Some (only_packet c) = get-insert_same r.held (after r.front 1) (only_packet c) in
    let kept : HavePieces (record r { held = insert r.held (after r.front 1) (only_packet c) }) = λ q x e. elim (get_inserted r.held (after r.front 1) q (only_packet c) x e) [
      | inl same ↦ subst (λ (p : IncomingPacket). 1 ≤ count_of p.making) same.1 some_piece
      | inr other ↦ pieces q x other.1
    ] in
    ap (all_released wire) (added_first r (only_packet c) some_piece)
    ∙ sym (all_released-some wire grown (only_packet c) wire_begins kept (whole_next _ (only_packet c) there (only_whole c single sound)))

pub nothing_came : (o : Option IncomingPacket) (c : DataCommand) → c.fragment ≡ None → came o c ≡ false → o ≡ None
nothing_came None c single missing = refl
nothing_came (Some e) c single missing = absurd (let t : came (Some e) c ≡ true = ap (λ (f : Option Fragment). came (Some e) (record c { fragment = f })) single in cc)

-- such a packet, once it is stored
pub next_stored : (most : ℕ) (r : Receiver) (c : DataCommand) → Admitted most r c c.number → ComesAlone r c → c.reliable ≡ true → record r { held = insert r.held (after r.front 1) (only_packet c) } ≡ with_stored r c c.number
next_stored most r c a there reliable =
    let none : came_at r c c.number ≡ None = nothing_came (came_at r c c.number) c there.single a.missing in
    sym (ap (λ (o : Option IncomingPacket). with_added r c c.number (with_more (earlier_or_new o c) c)) none
    ∙ ap (λ b. record r { held = cond b (insert r.held c.number (only_packet c)) r.held; waiting = cond b r.waiting (with_line r.waiting c.number (insert (line_at r.waiting c.number) c.unreliable (only_packet c))) }) reliable
    ∙ ap (λ n. record r { held = insert r.held n (only_packet c) }) (there.at ∙ ap (λ b. cond b (after r.front 1) r.front) reliable))
