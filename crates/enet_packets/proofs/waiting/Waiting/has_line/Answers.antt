use Rattle.std.proofs.Common.{sym, ap, ◌∙◌}
use Rattle.std.specs.Option.{is_some}
use Rattle.std.specs.FinMap.{get}
use Rattle.enet_packets.specs.Packets.{Lines}
use Rattle.enet_packets.proofs.Maps.{get-from}
use Rattle.enet_packets.proofs.waiting.Waiting.has_line.Goals as goal

pub returns : goal.returns
returns c = c.contains_key.ensures ∙ ap is_some (sym (get-from c.self.inside.lines.entries c.args.number) ∙ ap (λ (m : Lines). get m c.args.number) c.self.view_is)
