use Rattle.std.proofs.Common.{◌≡◌, ap, sym, ◌∙◌, length, List, ℕ, arith}
use Rattle.enet_fragment.specs.PartialPacket.{PartialPacket}
use Rattle.enet_fragment.specs.Memory.{bytes_come}
use Rattle.enet_fragment.proofs.Laws.{joined-whole_of}
use Rattle.enet_fragment.proofs.Wholes.{whole_seen, kept_seen}
use Rattle.enet_fragment.proofs.partial_packet.PartialPacket.memory.Goals as goal

pub returns-in-Whole : goal.returns-in-Whole
returns-in-Whole c =
    let some = (kept_seen _ _ _ _ c.self.invariant c.in-Whole.is).0 in
    let here = whole_seen _ _ _ _ _ c.self.view_is c.in-Whole.is in
    let bytes : bytes_come c.args.self.now ≡ length c.in-Whole.body =
    ap (λ (m : PartialPacket). bytes_come m) (sym here) ∙ ap (λ (b : List ℕ). length b) (joined-whole_of c.in-Whole.body c.in-Whole.count c.in-Whole.cut some) in
    omega (arith, c.len.ensures.value)
