use Rattle.std.proofs.Common.{◌≡◌, ℕ, ◌+◌, ◌-◌, ◌/◌, List, [], ◌∷◌, ◌++◌, length, take, refl, sym, ap, ◌∙◌}
use Rattle.std.proofs.lemmas.List.{take_more}
use Rattle.enet_codec.specs.declared.packet.Packet.{Packet}
use Rattle.enet_fragment.specs.Cutting.{piece_count}
use Rattle.enet_world.specs.Needed.{pieces_of}
use Rattle.enet_world.proofs.Commands.{pieces-is, pieces-push, sum-held}
use Rattle.enet_world.proofs.enough.pieces_of.Goals as goal

pub loop-packet-preserved : goal.loop-packet-preserved
loop-packet-preserved c =
    let packets : List Packet = c.args.packets.now in
    let packet : Packet = c.packet-item.result in
    let i : ℕ = c.loop-packet.packet-index in
    let more : take (i + 1) packets ≡ take i packets ++ packet ∷ [] = rw (take_more packets i packet c.loop-packet-test.true, ← c.packet-item.is) refl in
    let piece : c.saturating_sub.result / 548 + 1 ≡ piece_count (length packet.body) 576 = ap (λ n. n / 548 + 1) (c.saturating_sub.ensures ∙ ap (λ n. n - 1) c.len.ensures.value) ∙ sym (pieces-is (length packet.body)) in
    sum-held (pieces_of (take i packets)) c.loop-packet.pieces (c.saturating_sub.result / 548 + 1) (piece_count (length packet.body) 576) c.saturating_add-pieces.result (pieces_of (take (i + 1) packets)) c.loop-packet.invariant piece c.saturating_add-pieces.ensures
    (ap pieces_of more ∙ pieces-push (take i packets) packet)
