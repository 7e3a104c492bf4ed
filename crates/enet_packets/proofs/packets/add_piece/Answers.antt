use Rattle.std.proofs.Common.{◌≡◌, Some, sym, ap, ◌∙◌}
use Rattle.std.specs.Ordering.{nat_cmp}
use Rattle.std.specs.Map.{lookup, set_value}
use Rattle.std.specs.BTreeMap.{is_at}
use Rattle.enet_packets.specs.declared.incoming_packet.IncomingPacket.{IncomingPacket}
use Rattle.enet_packets.proofs.Maps.{set_value-same}
use Rattle.enet_packets.proofs.PacketLemmas.{keeps-grown, on_err}
use Rattle.enet_packets.proofs.packets.add_piece.Goals as goal

pub returns-in-Some-clause-err : goal.returns-in-Some-clause-err
returns-in-Some-clause-err c =
    let es = c.args.packets.now.entries in
    let test = is_at (nat_cmp c.args.number) in
    let was : IncomingPacket = c.in-Some.coming.now in
    let there : lookup test es ≡ Some was = sym c.in-Some.ensures.value in
    on_err c.add.result _ _ (λ h. (c.get_mut.follows.holds c.add.new.self).0 ∙ ap (set_value test es) h ∙ set_value-same test es was there) c.add.ensures.err

pub returns-in-Some-clause-kept : goal.returns-in-Some-clause-kept
returns-in-Some-clause-kept c =
    keeps-grown c.add.result c.args.packets.now.entries _ c.args.number c.in-Some.coming.now c.add.new.self c.args.place c.args.bytes.now
    (sym c.in-Some.ensures.value) (c.get_mut.follows.holds c.add.new.self).0 c.add.ensures.ok c.add.ensures.err
