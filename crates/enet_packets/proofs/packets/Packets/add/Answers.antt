use Rattle.std.proofs.Common.{◌≡◌, Some, Bool, Result, sym, ap, subst, ◌∙◌}
use Rattle.std.specs.Ordering.{nat_cmp}
use Rattle.std.specs.Map.{lookup}
use Rattle.std.specs.BTreeMap.{is_at}
use Rattle.std.specs.FinMap.{FinMap, get}
use Rattle.enet_packets.specs.declared.incoming_packet.IncomingPacket.{IncomingPacket}
use Rattle.enet_packets.proofs.Maps.{get-from, inserted_entry, set_value-insert}
use Rattle.enet_packets.specs.Invariant.{KeepsPackets}
use Rattle.enet_packets.specs.Private.Invariant.{most_with}
use Rattle.enet_codec.specs.declared.refusal.Refusal.{Refusal}
use Rattle.enet_packets.proofs.packets.Packets.add.Goals as goal

pub add_piece-requires-clause-there : goal.add_piece-requires-clause-there
add_piece-requires-clause-there c =
    let e : get c.args.self.now c.args.number ≡ lookup (is_at (nat_cmp c.args.number)) c.self.inside.packets.entries =
    ap (λ (m : FinMap nat_cmp IncomingPacket). get m c.args.number) (sym c.self.view_is) ∙ get-from c.self.inside.packets.entries c.args.number in
    rw (← e) c.requires.there

pub invariant_of-self-2 : goal.invariant_of-self-2
invariant_of-self-2 c =
    let es = c.add_piece.new.packets.entries in
    let up : KeepsPackets es c.self.inside.bytes (most_with c.add_piece.result c.self.inside.last_whole c.args.number) = c.add_piece.ensures.kept c.self.inside.bytes c.self.inside.last_whole c.self.invariant in
    subst (λ n. KeepsPackets es c.self.inside.bytes n)
    (ap (λ (r : Result Bool Refusal). most_with r c.self.inside.last_whole c.args.number) c.in_ok-is_whole.was ∙ sym c.whole_up_to-self-inside.ensures) up

pub returns-clause-ok : goal.returns-clause-ok
returns-clause-ok c = λ coming there.
    let es = c.self.inside.packets.entries in
    let found : lookup (is_at (nat_cmp c.args.number)) es ≡ Some coming =
    sym (get-from es c.args.number) ∙ ap (λ (m : FinMap nat_cmp IncomingPacket). get m c.args.number) c.self.view_is ∙ there in
    rw (← c.self.view_is) (inserted_entry es c.add_piece.new.packets.entries c.args.number _ (c.in_ok-is_whole.ensures.ok coming found ∙ set_value-insert c.args.number es coming _ c.self.invariant.sorted found))
