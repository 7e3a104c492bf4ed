use Rattle.std.proofs.Common.{◌≡◌, sym, subst, ◌∙◌, arith}
use Rattle.std.specs.Ordering.{nat_cmp}
use Rattle.std.specs.FinMap.{FinMap, remove}
use Rattle.enet_packets.specs.declared.incoming_packet.IncomingPacket.{IncomingPacket}
use Rattle.enet_receiver.specs.Blocks.{AreMarked}
use Rattle.enet_receiver.proofs.Marks.{not_held, remove_missing, AreMarked-removed}
use Rattle.enet_receiver.proofs.held.Held.remove.Goals as goal

pub returns-then-not-is_marked-clause-rest : goal.returns-then-not-is_marked-clause-rest
returns-then-not-is_marked-clause-rest c =
    let s = c.self.inside in
    let none = not_held s.blocks.items s.packets c.args.number c.self.invariant (omega arith) (sym c.is_marked.ensures ∙ c.if-not-is_marked.true) in
    subst (λ (m : FinMap nat_cmp IncomingPacket). m ≡ remove m c.args.number) c.self.view_is (sym (remove_missing s.packets c.args.number none))

pub invariant_of-self : goal.invariant_of-self
invariant_of-self c =
    let s = c.self.inside in
    subst (λ (m : FinMap nat_cmp IncomingPacket). AreMarked c.unmark.new.blocks.items m) (sym c.remove.ensures.rest)
    (AreMarked-removed s.blocks.items c.unmark.new.blocks.items s.packets c.args.number c.self.invariant c.unmark.ensures)
