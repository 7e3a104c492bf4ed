-- What a command leaves that is taken in.
use Rattle.std.proofs.Common.{◌≡◌, ◌≢◌, ℕ, ◌%◌, true, false, cond, refl, None, zero, suc, ◌<◌, ◌≤◌, Bool, List, length, sym, ap, subst, ◌∙◌, arith, Option, Some}
use Rattle.std.specs.Ordering.{nat_cmp}
use Rattle.std.specs.FinMap.{FinMap}
use Rattle.std.proofs.lemmas.Bool.{and_parts}
use Rattle.enet_seq.specs.Numbering.{wire, number_read, start_read}
use Rattle.enet_seq.specs.Windows.{ahead, after, in_window, fragment_in_window}
use Rattle.enet_fragment.specs.declared.data.DataCommand.{DataCommand}
use Rattle.enet_fragment.specs.DataCommand.{piece_of}
use Rattle.enet_packets.specs.declared.incoming_packet.IncomingPacket.{IncomingPacket}
use Rattle.enet_packets.specs.declared.incoming_packet.Dispatched.{Dispatched}
use Rattle.enet_packets.specs.Packets.{Lines}
use Rattle.enet_receiver.specs.declared.foreseeing.Completed.{Completed}
use Rattle.enet_receiver.specs.declared.took.Took.TheVariants.{Held, Outside, Bad}
use Rattle.enet_receiver.specs.Receiver.{Receiver, all_released}
use Rattle.enet_receiver.specs.DataOutcome.{outcome, outcome_at, is_piece_of_its_packet, received, received_with, place_read, own_place, added_at, dispatch_count}
use Rattle.enet_receiver.specs.ReceiverParts.{receiver_of}
use Rattle.enet_receiver.specs.Private.ReceiverParts.{holding, with_stored, with_kept}
use Rattle.enet_receiver.specs.Invariant.{Keeps}
use Rattle.enet_receiver.specs.Private.Admitted.{Admitted, IsInside}
use Rattle.enet_receiver.specs.Private.Walk.{walked, Completes}
use Rattle.enet_receiver.specs.Foresight.{ReceivingEnd, after_command}
use Rattle.enet_receiver.proofs.Admission.{Keeps-stored, admitted, short_piece, read_back, inside_number}
use Rattle.enet_receiver.proofs.Foreseen.{dispatches-is}

-- the receiver once the piece is added
pub stored_is : (front unreliable : ℕ) (held : FinMap nat_cmp IncomingPacket) (waiting : Lines) (out : List Dispatched) (c : DataCommand) (place : ℕ) (held_then : FinMap nat_cmp IncomingPacket) (waiting_then : Lines)
    → holding held_then waiting_then ≡ with_stored (holding held waiting) c place
    → receiver_of front unreliable held_then waiting_then out ≡ with_stored (receiver_of front unreliable held waiting out) c place
stored_is front unreliable held waiting out c place held_then waiting_then e = λ i. receiver_of front unreliable (e i).held (e i).waiting out

pub taken_is : (most : ℕ) (r : Receiver) (c : DataCommand) (full : Bool) (place : ℕ) → outcome wire most r c full ≡ Held → place_read wire r c ≡ Some place → received wire most r c full ≡ all_released wire (with_stored r c place)
taken_is most r c full place held read = ap (λ t. received_with t wire r c) held ∙ ap (added_at wire r c) read

pub dispatches-at : (turns most : ℕ) (o : Option Completed) (r : Receiver) (c : DataCommand) (full : Bool) (place : ℕ) → turns ≡ 65534 → Keeps most r → IsInside r.front place → c.unreliable < 65536 → Admitted most r c place → Completes o r c place
    → outcome wire most r c full ≡ Held → walked turns o r ≡ dispatch_count wire most r c full
dispatches-at zero most o r c full place e k inside count a made held = absurd (omega arith)
dispatches-at (suc n) most o r c full place e k inside count a made held = dispatches-is n most o r c full place k inside count a made held (omega arith)

-- what is kept once the piece is added, and room was made for what is dispatched
pub kept_then : (most front unreliable : ℕ) (held : FinMap nat_cmp IncomingPacket) (waiting : Lines) (out room : List Dispatched) (c : DataCommand) (place : ℕ) (held_then : FinMap nat_cmp IncomingPacket) (waiting_then : Lines)
    → Keeps most (receiver_of front unreliable held waiting out) → Admitted most (receiver_of front unreliable held waiting out) c place → IsInside front place → c.unreliable < 65536
    → room ≡ out → holding held_then waiting_then ≡ with_stored (holding held waiting) c place
    → Keeps most (receiver_of front unreliable held_then waiting_then room)
kept_then most front unreliable held waiting out room c place held_then waiting_then k a inside count same stored =
    let all : receiver_of front unreliable held_then waiting_then room ≡ with_stored (receiver_of front unreliable held waiting out) c place =
    ap (receiver_of front unreliable held_then waiting_then) same ∙ stored_is front unreliable held waiting out c place held_then waiting_then stored in
    subst (Keeps most) (sym all) (Keeps-stored most (receiver_of front unreliable held waiting out) c place k inside count a)

abbrev nothing : Option ℕ
nothing = None

-- a command that is held stands at its own place, which is inside the window
own_when : (b : Bool) (front n : ℕ) → front < 65536 → n < 65536 → cond b (Some (after front (ahead (front % 65536) n))) None ≢ nothing → (b ≡ true → in_window (front % 65536) n ≡ true)
    → (cond b (Some (after front (ahead (front % 65536) n))) None ≡ Some n) × IsInside front n
own_when true front n low small there inside = (ap (λ k. Some k) (read_back front n low small), inside_number front n low small (ap (λ f. in_window f n) (sym (modulo front low)) ∙ inside refl))
  where
    modulo : (k : ℕ) → k < 65536 → k % 65536 ≡ k
    modulo k h = omega arith
own_when false front n low small there inside = absurd (there refl)

own_place_is : (most : ℕ) (r : Receiver) (c : DataCommand) (full : Bool) → r.front < 65536 → own_place c < 65536 → outcome wire most r c full ≡ Held
    → (place_read wire r c ≡ Some (own_place c)) × IsInside r.front (own_place c)
own_place_is most r c full low small held =
    let there : place_read wire r c ≢ nothing = λ none. is_not_held (is_piece_of_its_packet wire most r c) (sym (ap (λ o. cond (is_piece_of_its_packet wire most r c) (outcome_at r c full o) Bad) none) ∙ held) in
    elim c.reliable as (λ b. cond b (piece_of c).start c.number < 65536 → cond b (start_read wire r.front (piece_of c).start c.number) (number_read wire r.front c.number) ≢ nothing
    → (cond b (start_read wire r.front (piece_of c).start c.number) (number_read wire r.front c.number) ≡ Some (cond b (piece_of c).start c.number)) × IsInside r.front (cond b (piece_of c).start c.number)) [
      | true ↦ λ few some'. own_when (fragment_in_window (r.front % 65536) (piece_of c).start c.number) r.front (piece_of c).start low few some' (λ t. (and_parts (in_window (r.front % 65536) (piece_of c).start) (in_window (r.front % 65536) c.number) t).0)
      | false ↦ λ few some'. own_when (in_window (r.front % 65536) c.number) r.front c.number low few some' (λ t. t)
    ] small there
  where
    is_not_held : (b : Bool) → cond b Outside Bad ≡ Held → ⊥
    is_not_held true e = absurd (cc)
    is_not_held false e = absurd (cc)

-- what is known of a command that would be held
pub record IsOwn (e : ReceivingEnd) (c : DataCommand) (place : ℕ) : Type 0 where
  pub admitted : Admitted e.max_packet e.receiver c place
  pub inside : IsInside e.receiver.front place
  pub short : length c.body ≤ e.max_packet

pub own_command : (e : ReceivingEnd) (c : DataCommand) (full : Bool) (place : ℕ) → e.receiver.front < 65536 → place < 65536 → place ≡ own_place c → outcome wire e.max_packet e.receiver c full ≡ Held → IsOwn e c place
own_command e c full place low small is held =
    let own = own_place_is e.max_packet e.receiver c full low (subst (λ n. n < 65536) is small) held in
    let known : Admitted e.max_packet e.receiver c place = admitted e.max_packet e.receiver c full place held (own.0 ∙ ap (λ n. Some n) (sym is)) in
    record { admitted = known; inside = subst (IsInside e.receiver.front) (sym is) own.1; short = short_piece e.max_packet c known.piece }

pub kept_is : (e : ReceivingEnd) (c : DataCommand) (full : Bool) (place : ℕ) → outcome wire e.max_packet e.receiver c full ≡ Held → IsOwn e c place → with_kept e c place ≡ after_command e (Some c) full
kept_is e c full place held own = ap (λ (r : Receiver). record e { receiver = r }) (sym (taken_is e.max_packet e.receiver c full place held own.admitted.read))
