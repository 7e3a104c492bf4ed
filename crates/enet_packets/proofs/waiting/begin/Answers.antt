use Rattle.std.proofs.Common.{ap, ◌∙◌}
use Rattle.std.specs.Ordering.{nat_cmp}
use Rattle.std.specs.FinMap.{get, get-empty}
use Rattle.enet_packets.proofs.LineLemmas.{Line}
use Rattle.enet_packets.proofs.waiting.begin.Goals as goal

pub insert-requires : goal.insert-requires
insert-requires c = record { absent = ap (λ (line : Line). get line c.args.count) c.new-line.ensures ∙ get-empty nat_cmp c.args.count }
