use Rattle.std.proofs.Common.{◌≡◌, Some, sym, ap, ◌∙◌}
use Rattle.std.specs.Ordering.{nat_cmp}
use Rattle.std.specs.Map.{lookup}
use Rattle.std.specs.BTreeMap.{is_at, insert_entry}
use Rattle.enet_packets.specs.Packets.{still_ahead}
use Rattle.enet_packets.proofs.Maps.{set_value-insert}
use Rattle.enet_packets.proofs.LineLemmas.{Line, line_there}
use Rattle.enet_packets.proofs.waiting.dispatch_line.Goals as goal

pub returns-in-Some-clause-rest : goal.returns-in-Some-clause-rest
returns-in-Some-clause-rest c =
    let es = c.args.lines.now.entries in
    let number = c.args.number in
    let line : Line = c.in-Some.line.now in
    let there : lookup (is_at (nat_cmp number)) es ≡ Some line = sym c.in-Some.ensures.value in
    (c.get_mut.follows.holds c.dispatch.new.self).0
    ∙ set_value-insert number es line c.dispatch.new.self c.get_mut.ensures.ordered there
    ∙ ap (insert_entry nat_cmp es number) (c.dispatch.ensures.rest ∙ ap (still_ahead line) (sym c.dispatch.ensures.last) ∙ ap (λ (m : Line). still_ahead m c.dispatch.new.last) (sym (line_there es number line there)))
