use Rattle.std.proofs.Common.{◌≡◌, Some, sym, ap, ◌∙◌}
use Rattle.std.specs.Ordering.{nat_cmp}
use Rattle.std.specs.Map.{lookup, set_value}
use Rattle.std.specs.BTreeMap.{is_at, insert_entry}
use Rattle.std.specs.FinMap.{insert}
use Rattle.enet_packets.proofs.Maps.{set_value-same, set_value-insert}
use Rattle.enet_packets.proofs.PacketLemmas.{on_ok, on_err}
use Rattle.enet_packets.proofs.LineLemmas.{Line, line_there}
use Rattle.enet_packets.proofs.waiting.insert_into.Goals as goal

pub returns-in-Some-clause-ok : goal.returns-in-Some-clause-ok
returns-in-Some-clause-ok c =
    let es = c.args.lines.now.entries in
    let number = c.args.number in
    let line : Line = c.in-Some.line.now in
    let there : lookup (is_at (nat_cmp number)) es ≡ Some line = sym c.in-Some.ensures.value in
    on_ok c.insert.result _ _ (λ h.
    (c.get_mut.follows.holds c.insert.new.self).0
    ∙ set_value-insert number es line c.insert.new.self c.get_mut.ensures.ordered there
    ∙ ap (insert_entry nat_cmp es number) (h ∙ ap (λ (m : Line). insert m c.args.count c.args.coming) (sym (line_there es number line there))))
    c.insert.ensures.ok

pub returns-in-Some-clause-err : goal.returns-in-Some-clause-err
returns-in-Some-clause-err c =
    let es = c.args.lines.now.entries in
    let test = is_at (nat_cmp c.args.number) in
    let line : Line = c.in-Some.line.now in
    let there : lookup test es ≡ Some line = sym c.in-Some.ensures.value in
    on_err c.insert.result _ _ (λ h. (c.get_mut.follows.holds c.insert.new.self).0 ∙ ap (set_value test es) h ∙ set_value-same test es line there) c.insert.ensures.err
