use Rattle.std.proofs.Common.{◌≡◌, Some, None, length, sym, ap, ◌∙◌}
use Rattle.std.specs.Ordering.{nat_cmp}
use Rattle.std.specs.Map.{lookup}
use Rattle.std.specs.BTreeMap.{is_at}
use Rattle.std.specs.FinMap.{entries}
use Rattle.enet_packets.specs.Packets.{fresh}
use Rattle.enet_packets.proofs.Maps.{entries-empty}
use Rattle.enet_packets.proofs.PacketLemmas.{Entries}
use Rattle.enet_packets.proofs.LineLemmas.{Line, line-is, line_there, line_absent}
use Rattle.enet_packets.proofs.waiting.Waiting.fresh_count.Goals as goal

pub returns-in-Some-clause-count : goal.returns-in-Some-clause-count
returns-in-Some-clause-count c =
    let es = c.self.inside.lines.entries in
    let there : lookup (is_at (nat_cmp c.args.number)) es ≡ Some c.in-Some.line.now = sym c.in-Some.ensures.value in
    rw (← c.self.view_is) (c.fresh_count.ensures.count ∙ ap (λ (line : Line). length (fresh c.args.first (entries line))) (sym (line-is es c.args.number ∙ line_there es c.args.number c.in-Some.line.now there)))

pub returns-in-None-clause-count : goal.returns-in-None-clause-count
returns-in-None-clause-count c =
    let es = c.self.inside.lines.entries in
    let absent : lookup (is_at (nat_cmp c.args.number)) es ≡ None = sym c.in-None.ensures.value in
    rw (← c.self.view_is)
    (ap (λ (xs : Entries). length (fresh c.args.first xs)) (sym entries-empty)
    ∙ ap (λ (line : Line). length (fresh c.args.first (entries line))) (sym (line-is es c.args.number ∙ line_absent es c.args.number absent)))
