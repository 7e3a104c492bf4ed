use Rattle.std.proofs.Common.{◌≡◌, sym, ap, subst, ◌∙◌}
use Rattle.std.specs.Option.{IsSomeAnd}
use Rattle.std.specs.FinMap.{len, get, insert, from_entries}
use Rattle.enet_fragment.specs.PartialPacket.{with_piece}
use Rattle.enet_packets.specs.declared.incoming_packet.IncomingPacket.{IncomingPacket}
use Rattle.enet_packets.specs.Private.Invariant.{line_in}
use Rattle.enet_packets.specs.Packets.{Lines, packets_in, line_at, with_line}
use Rattle.enet_packets.proofs.Maps.{inserted_entry, values-sorted}
use Rattle.enet_packets.proofs.PacketLemmas.{on_ok}
use Rattle.enet_packets.proofs.LineLemmas.{Line, fits_into, line-is, with_line-some, len-insert_some}
use Rattle.enet_packets.proofs.waiting.Waiting.add.Goals as goal

pub add_piece-requires-clause-there : goal.add_piece-requires-clause-there
add_piece-requires-clause-there c =
    let at : line_at c.args.self.now c.args.number ≡ line_in c.self.inside.lines.entries c.args.number =
    ap (λ (m : Lines). line_at m c.args.number) (sym c.self.view_is) ∙ line-is c.self.inside.lines.entries c.args.number in
    subst (λ (m : Line). IsSomeAnd (get m c.args.count) (fits_into c.args.place)) at c.requires.there

pub returns-clause-ok : goal.returns-clause-ok
returns-clause-ok c = on_ok c.add_piece.result _ _ (λ h coming e.
    let es = c.self.inside.lines.entries in
    let number = c.args.number in
    let more : IncomingPacket = record { flags = coming.flags; making = with_piece coming.making c.args.place c.args.bytes.now } in
    let at : line_at c.args.self.now number ≡ line_in es number = ap (λ (m : Lines). line_at m number) (sym c.self.view_is) ∙ line-is es number in
    inserted_entry es c.add_piece.new.lines.entries number _ (h coming (ap (λ (m : Line). get m c.args.count) (sym at) ∙ e))
    ∙ sym (with_line-some (from_entries es) number _ (len-insert_some (line_in es number) c.args.count more))
    ∙ ap (λ (m : Line). with_line (from_entries es) number (insert m c.args.count more)) (sym at)
    ∙ ap (λ (m : Lines). with_line m number (insert (line_at c.args.self.now number) c.args.count more)) c.self.view_is)
    c.add_piece.ensures.ok

pub returns-clause-packets : goal.returns-clause-packets
returns-clause-packets c =
    let es = c.self.inside.lines.entries in
    let fs = c.add_piece.new.lines.entries in
    let keeps = c.add_piece.ensures.kept c.self.inside.packets c.self.inside.bytes c.self.invariant in
    values-sorted fs keeps.lines.sorted len ∙ sym keeps.packets_counted
    ∙ c.self.invariant.packets_counted ∙ sym (values-sorted es c.self.invariant.lines.sorted len) ∙ ap (λ (m : Lines). packets_in m) c.self.view_is
