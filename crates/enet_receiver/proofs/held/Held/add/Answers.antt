use Rattle.std.proofs.Common.{◌≡◌, true, sym, subst, None}
use Rattle.std.specs.Option.{IsSomeAnd}
use Rattle.std.specs.Ordering.{nat_cmp}
use Rattle.std.specs.FinMap.{FinMap, get}
use Rattle.enet_fragment.specs.PartialPacket.{belongs, piece_at, with_piece}
use Rattle.enet_packets.specs.declared.incoming_packet.IncomingPacket.{IncomingPacket}
use Rattle.enet_receiver.proofs.Marks.{AreMarked-grown}
use Rattle.enet_receiver.proofs.held.Held.add.Goals as goal

pub invariant_of-self : goal.invariant_of-self
invariant_of-self c =
    let s = c.self.inside in
    AreMarked-grown _ c.add.result s.blocks.items s.packets c.add.new.self c.args.number (λ p. record { flags = p.flags; making = with_piece p.making c.args.place c.args.bytes.now }) c.self.invariant
    (subst (λ (m : FinMap nat_cmp IncomingPacket). IsSomeAnd (get m c.args.number) (λ p. (belongs p.making c.args.place ≡ true) × (piece_at p.making c.args.place.number ≡ None))) (sym c.self.view_is) c.requires.there)
    c.add.ensures.ok c.add.ensures.err
