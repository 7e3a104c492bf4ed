-- A receiver to which nothing came dispatches the first reliable packet at once, and so its peer has it. (Finite maps don't compute, so a run that takes
-- a packet needs this.)
use Rattle.std.proofs.Common.{◌≡◌, ℕ, zero, suc, ◌+◌, Bool, true, false, cond, List, [], ◌∷◌, ◌++◌, map, refl, sym, ap, subst, ◌∙◌, arith, Option, Some, None}
use Rattle.std.specs.Prelude.{◌&&◌, is_ok}
use Rattle.std.specs.Ordering.{nat_cmp}
use Rattle.std.specs.FinMap.{get, len, entries, get-empty}
use Rattle.enet_codec.specs.declared.packet.Packet.{Packet}
use Rattle.enet_codec.specs.Message.{Message}
use Rattle.enet_codec.specs.declared.stop.Stop.TheVariants as stop
use Rattle.enet_seq.specs.Numbering.{wire}
use Rattle.enet_fragment.specs.Place as place
use Rattle.enet_fragment.specs.PartialPacket as making
use Rattle.enet_fragment.specs.Whole.{is_whole}
use Rattle.enet_fragment.specs.declared.data.DataCommand.{DataCommand}
use Rattle.enet_fragment.specs.DataCommand.{message_of}
use Rattle.enet_packets.specs.declared.incoming_packet.IncomingPacket.{IncomingPacket}
use Rattle.enet_packets.specs.declared.incoming_packet.Dispatched.{Dispatched}
use Rattle.enet_packets.specs.Packets.{handed_out, fresh}
use Rattle.enet_receiver.specs.declared.took.Took.{Took}
use Rattle.enet_receiver.specs.declared.took.Took.TheVariants.{Held, Bad}
use Rattle.enet_receiver.specs.Receiver.{Receiver, nothing_received, front_line, flushed_from, with_passed, next_whole, released, released_with, all_released}
use Rattle.enet_receiver.specs.Foresight.{ReceivingEnd, new_end}
use Rattle.enet_receiver.specs.DataOutcome.{outcome, outcome_of, is_piece, agrees_with, received, received_with, earlier_or_new, with_more, with_added}
use Rattle.enet_receiver.proofs.Maps.{get-insert_same}
use Rattle.enet_receiver.proofs.Released.{released-keeps, nothing_held}
use Rattle.enet_inbox.specs.Inbox.{Inbox, empty_inbox, is_full_for, given_way}
use Rattle.enet_inbox.specs.DataEffect.{arrival, packet_of, by_took, is_waiting, met, plain_arrival}
use Rattle.enet_outbox.specs.Outbox.{is_crowded}
use Rattle.enet_peer.specs.declared.parts.PeerState.TheVariants as state
use Rattle.enet_peer.specs.Peering.{Peering}
use Rattle.enet_peer.specs.CommandEffect.{Outcome, obeyed, by_arrival, stopped}
use Rattle.law_connection.specs.Examples.{example_packet}

abbrev pub Begins : Dispatched → Receiver → Type 0
Begins d r = (rest : List Dispatched) × (r.dispatched ≡ d ∷ rest)

begins-flushed : (first : ℕ) (d : Dispatched) (r : Receiver) → Begins d r → Begins d (flushed_from first r)
begins-flushed first d r h = (h.0 ++ fresh first (entries (front_line r)), ap (λ (l : List Dispatched). l ++ fresh first (entries (front_line r))) h.1)

begins-passed : (d : Dispatched) (r : Receiver) (c : IncomingPacket) → Begins d r → Begins d (with_passed wire r c)
begins-passed d r c h = (h.0 ++ handed_out c ∷ [], ap (λ (l : List Dispatched). l ++ handed_out c ∷ []) h.1)

-- what stands whole just past the front is dispatched first
first-dispatched : (r : Receiver) (e : IncomingPacket) → get r.held (wire.after r.front 1) ≡ Some e → is_whole e.making ≡ true → r.dispatched ≡ [] → Begins (handed_out e) (all_released wire r)
unfolding released
first-dispatched r e there whole none = let s : Receiver = released wire (len r.held) r in begins-flushed (s.unreliable + 1) (handed_out e) s (by (len r.held) refl)
  where
    go : (n : ℕ) → Begins (handed_out e) (released_with (released wire n) wire r (next_whole (get r.held (wire.after r.front 1))))
    go n = subst (λ (o : Option IncomingPacket). Begins (handed_out e) (released_with (released wire n) wire r o)) (sym (ap next_whole there ∙ ap (λ b. cond b (Some e) None) whole))
        (released-keeps wire (Begins (handed_out e)) (λ s c t h. begins-flushed 0 (handed_out e) (with_passed wire s c) (begins-passed (handed_out e) s c h)) n (flushed_from 0 (with_passed wire r e))
        (begins-flushed 0 (handed_out e) (with_passed wire r e) ([], ap (λ (l : List Dispatched). l ++ handed_out e ∷ []) none)))

    by : (n : ℕ) → len r.held ≡ n → Begins (handed_out e) (released wire n r)
    by zero z = absurd (let f : get r.held (wire.after r.front 1) ≡ None = nothing_held r.held (wire.after r.front 1) (omega arith) in let x : Some e ≡ None = sym there ∙ f in cc)
    by (suc n) z = go n

-- the first reliable command, of two bytes
abbrev pub first_command : DataCommand
first_command = record { reliable = true; number = 1; unreliable = 0; fragment = None; body = 7 ∷ 8 ∷ [] }

abbrev first_coming : IncomingPacket
first_coming = with_more (earlier_or_new None first_command) first_command

first-outcome : outcome wire 1000 nothing_received first_command false ≡ Held
unfolding place.is_sound place.is_even place.is_of_piece_length place.told_piece_len making.belongs
first-outcome =
    ap (λ (o : Option IncomingPacket). cond (is_piece 1000 first_command && agrees_with o first_command) (outcome_of nothing_received first_command false 1 o) Bad) (get-empty {X = IncomingPacket} nat_cmp 1)

whole : is_whole first_coming.making ≡ true
whole = refl

handed : handed_out first_coming ≡ (record { flags = 1; body = 7 ∷ 8 ∷ [] })
unfolding making.joined
handed = refl

first-received : Begins (record { flags = 1; body = 7 ∷ 8 ∷ [] }) (received wire 1000 nothing_received first_command false)
first-received =
    let new : Receiver = with_added nothing_received first_command 1 first_coming in
    let out : Begins (handed_out first_coming) (all_released wire new) = first-dispatched new first_coming (get-insert_same nothing_received.held 1 first_coming) whole refl in
    let at : received_with Held wire nothing_received first_command ≡ all_released wire new =
    ap (λ (o : Option IncomingPacket). all_released wire (with_added nothing_received first_command 1 (with_more (earlier_or_new o first_command) first_command))) (get-empty {X = IncomingPacket} nat_cmp 1) in
    let is : received wire 1000 nothing_received first_command false ≡ all_released wire new = ap (λ (t : Took). received_with t wire nothing_received first_command) first-outcome ∙ at in
    subst (λ (r : Receiver). Begins (record { flags = 1; body = 7 ∷ 8 ∷ [] }) r) (sym is) (subst (λ (d : Dispatched). Begins d (all_released wire new)) handed out)

-- a connected peer with one channel, on which nothing came

abbrev pub first_message : Message
first_message = message_of 0 first_command

abbrev pub ready : Peering → Peering
ready p = record p { state = state.Connected; inbox = empty_inbox 1 1000 1000 }

abbrev receiving : ReceivingEnd
receiving = new_end 0 1000

abbrev by-outcome : Peering → Took → Outcome
by-outcome p t = by_arrival (ready p) first_message (Some 0) (by_took t (empty_inbox 1 1000 1000) 0 receiving first_command)

not-full : is_full_for (empty_inbox 1 1000 1000) receiving first_command ≡ false
not-full = refl

-- it is taken in, so nothing gives way to it
met-empty : met (empty_inbox 1 1000 1000) first_message ≡ empty_inbox 1 1000 1000
met-empty =
    let b : Inbox = empty_inbox 1 1000 1000 in
    let room : Bool = is_ok (plain_arrival (given_way b) first_message).answer in
    ap (λ (t : Took). cond (is_waiting (by_took t b 0 receiving first_command).answer && room) (given_way b) b) first-outcome

comes : (p : Peering) → is_crowded p.outbox ≡ false → obeyed (ready p) 0 (Some 0) first_message ≡ by-outcome p Held
comes p free =
    ap (λ crowded. cond crowded (stopped (ready p) stop.Waiting) (by_arrival (ready p) first_message (Some 0) (arrival (empty_inbox 1 1000 1000) first_message))) free
    ∙ ap (λ (b : Inbox). by_arrival (ready p) first_message (Some 0) (plain_arrival b first_message)) met-empty
    ∙ ap (λ full. by-outcome p (outcome wire 1000 nothing_received first_command full)) not-full ∙ ap (by-outcome p) first-outcome

-- it has the packet, with whatever else was dispatched behind it
pub rest : List Packet
rest = map (packet_of 0) first-received.0

abbrev pub with_untaken : Peering → List Packet → Peering
with_untaken p qs = record (by-outcome p Held).after { inbox = record (by-outcome p Held).after.inbox { untaken = qs } }

untaken : (p : Peering) → (by-outcome p Held).after ≡ with_untaken p (example_packet ∷ rest)
unfolding rest
untaken p = ap (with_untaken p)
    (ap (λ full. map (packet_of 0) (received wire 1000 nothing_received first_command full).dispatched) not-full ∙ ap (map (packet_of 0)) first-received.1)

pub first-comes : (p : Peering) → is_crowded p.outbox ≡ false → ((obeyed (ready p) 0 (Some 0) first_message).stop ≡ None) × ((obeyed (ready p) 0 (Some 0) first_message).after ≡ with_untaken p (example_packet ∷ rest))
first-comes p free = (ap (λ (o : Outcome). o.stop) (comes p free), ap (λ (o : Outcome). o.after) (comes p free) ∙ untaken p)
