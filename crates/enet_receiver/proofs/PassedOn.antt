-- A packet that comes alone is handed out as if it had been dispatched first.
use Rattle.std.proofs.Common.{◌≡◌, ℕ, ◌<◌, Bool, true, false, cond, List, [], ◌∷◌, ◌++◌, refl, sym, ap, ◌∙◌, Option, Some, None}
use Rattle.std.specs.Prelude.{IfSome}
use Rattle.enet_codec.specs.declared.command.Fragment.{Fragment}
use Rattle.enet_codec.specs.declared.packet.Packet.{Packet}
use Rattle.enet_fragment.specs.DataCommand.{piece_or_only}
use Rattle.enet_fragment.specs.declared.data.DataCommand.{DataCommand}
use Rattle.enet_packets.specs.declared.incoming_packet.Dispatched.{Dispatched}
use Rattle.enet_packets.specs.Packets.{handed_out}
use Rattle.enet_receiver.specs.declared.took.Took.TheVariants.{Held}
use Rattle.enet_receiver.specs.Receiver.{Receiver}
use Rattle.enet_receiver.specs.DataOutcome.{own_place, flags_of}
use Rattle.enet_receiver.specs.ReceiverParts.{receiver_of, with_first}
use Rattle.enet_receiver.specs.Foresight.{ReceivingEnd, outcome_for, after_command}
use Rattle.enet_receiver.specs.Invariant.{Keeps}
use Rattle.enet_receiver.specs.Private.Admitted.{Admitted, IsInside}
use Rattle.enet_receiver.specs.Private.InPlace.{ComesAlone, GoesAtOnce, with_moved, only_packet_from}
use Rattle.enet_receiver.specs.Private.Next.{only_packet}
use Rattle.enet_receiver.proofs.InPlace.{handed_out_is, in_place_keeps, only_body}
use Rattle.enet_receiver.proofs.AtOnce.{dispatched_at_once}
use Rattle.enet_receiver.proofs.Taken.{IsOwn, own_command, kept_is}

-- the number of a command that is its whole packet names that packet
pub own_number : (c : DataCommand) → c.fragment ≡ None → c.number ≡ own_place c
own_number c single = sym (
    ap (λ (f : Option Fragment). let p : Fragment = piece_or_only f c.number c.body in cond c.reliable p.start c.number) single
    ∙ elim c.reliable as (λ b. cond b c.number c.number ≡ c.number) [ true ↦ refl | false ↦ refl ]
    )

-- what is dispatched of it, where nothing else is left
first_out : (out : List Dispatched) (c : DataCommand) → c.fragment ≡ None → out ≡ [] → out ++ handed_out (only_packet c) ∷ [] ≡ (record { flags = flags_of c; body = c.body }) ∷ out
first_out out c single none =
    ap (λ (ds : List Dispatched). ds ++ handed_out (only_packet c) ∷ []) none
    ∙ ap (λ (d : Dispatched). d ∷ []) (only_body c single)
    ∙ ap (λ (ds : List Dispatched). (record { flags = flags_of c; body = c.body }) ∷ ds) (sym none)

moved_is : (e : ReceivingEnd) (c : DataCommand) (full : Bool) → Keeps e.max_packet e.receiver → IsOwn e c c.number → ComesAlone e.receiver c → e.receiver.dispatched ≡ [] → outcome_for e (Some c) full ≡ Held
    → after_command e (Some c) full ≡ with_first (with_moved e c) (only_packet_from e.channel c)
moved_is e c full k own there none held =
    sym (kept_is e c full c.number held own)
    ∙ ap (λ (r : Receiver). record e { receiver = r }) (sym (handed_out_is e.max_packet e.receiver c k own.admitted there))
    ∙ ap (λ (out : List Dispatched). record e { receiver = record e.receiver { front = c.number; unreliable = cond c.reliable 0 c.unreliable; dispatched = out } }) (first_out e.receiver.dispatched c there.single none)

-- the packet, and the receiver after it
pub passed_on : (e new : ReceivingEnd) (c : DataCommand) (o : Option Packet) → Keeps e.max_packet e.receiver → IsOwn e c c.number → ComesAlone e.receiver c → e.receiver.dispatched ≡ []
    → IfSome o (λ _. new ≡ with_moved e c) → IfSome o (λ packet. packet ≡ only_packet_from e.channel c)
    → IfSome o (λ packet. (full : Bool) → outcome_for e (Some c) full ≡ Held → after_command e (Some c) full ≡ with_first new packet)
passed_on e new c None k own there none moved is = tt
passed_on e new c (Some packet) k own there none moved is = λ full held. moved_is e c full k own there none held ∙ (λ i. with_first (sym moved i) (sym is i))

-- what is known of a command that goes at once
pub own_at_once : (e : ReceivingEnd) (c : DataCommand) → GoesAtOnce e.max_packet e.receiver c → IsOwn e c c.number
own_at_once e c at = own_command e c false c.number at.kept.wire at.number (own_number c at.alone.single) (dispatched_at_once e.max_packet e.receiver c false at refl).held

-- it would be held
pub held_at_once : (e : ReceivingEnd) (c : DataCommand) (o : Option Packet) → GoesAtOnce e.max_packet e.receiver c → IfSome o (λ _. outcome_for e (Some c) false ≡ Held)
held_at_once e c None at = tt
held_at_once e c (Some packet) at = (dispatched_at_once e.max_packet e.receiver c false at refl).held

-- its packet, and the receiver after it
pub passed_at_once : (e new : ReceivingEnd) (c : DataCommand) (o : Option Packet) → GoesAtOnce e.max_packet e.receiver c → e.receiver.dispatched ≡ []
    → IfSome o (λ _. new ≡ with_moved e c) → IfSome o (λ packet. packet ≡ only_packet_from e.channel c)
    → IfSome o (λ packet. after_command e (Some c) false ≡ with_first new packet)
passed_at_once e new c None at none moved is = tt
passed_at_once e new c (Some packet) at none moved is =
    moved_is e c false at.kept (own_at_once e c at) at.alone none (dispatched_at_once e.max_packet e.receiver c false at refl).held ∙ (λ i. with_first (sym moved i) (sym is i))

-- it keeps what a receiver keeps
pub moved_keeps : (most : ℕ) (r : Receiver) (c : DataCommand) → Keeps most r → IsInside r.front c.number → c.unreliable < 65536 → Admitted most r c c.number → ComesAlone r c
    → Keeps most (receiver_of c.number (cond c.reliable 0 c.unreliable) r.held r.waiting r.dispatched)
moved_keeps most r c k inside count a there =
    let out = in_place_keeps most r c k inside count a there in
    record { packet = out.packet; wire = out.wire; held = out.held; waiting = out.waiting }
