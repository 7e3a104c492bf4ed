use Rattle.std.proofs.Common.{sym, subst}
use Rattle.std.specs.Ordering.{nat_cmp}
use Rattle.std.specs.FinMap.{FinMap}
use Rattle.enet_packets.specs.declared.incoming_packet.IncomingPacket.{IncomingPacket}
use Rattle.enet_receiver.specs.Blocks.{AreMarked}
use Rattle.enet_receiver.proofs.Marks.{from_no_err, AreMarked-inserted}
use Rattle.enet_receiver.proofs.held.Held.insert.Goals as goal

pub invariant_of-self-else-is_err : goal.invariant_of-self-else-is_err
invariant_of-self-else-is_err c =
    let s = c.self.inside in
    subst (λ (m : FinMap nat_cmp IncomingPacket). AreMarked c.mark.new.blocks.items m) (sym (from_no_err c.insert-put.result c.is_err.result c.is_err.ensures.value c.if-is_err.false c.insert-put.ensures.ok))
    (AreMarked-inserted s.blocks.items c.mark.new.blocks.items s.packets c.args.number c.args.coming c.self.invariant (c.mark.ensures.marked c.if-not-mark.false))
