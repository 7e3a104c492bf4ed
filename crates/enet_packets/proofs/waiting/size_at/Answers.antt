use Rattle.std.proofs.Common.{sym, ap, subst, ◌∙◌}
use Rattle.std.specs.FinMap.{len}
use Rattle.enet_packets.specs.Invariant.{KeepsLine}
use Rattle.enet_packets.specs.Packets.{bytes_of}
use Rattle.enet_packets.proofs.LineLemmas.{Line, line_absent, len_nothing, bytes_nothing, nothing_kept}
use Rattle.enet_packets.proofs.waiting.size_at.Goals as goal

pub returns-in-None-clause-packets : goal.returns-in-None-clause-packets
returns-in-None-clause-packets c = sym (ap (λ (line : Line). len line) (line_absent c.args.lines.now.entries c.args.number (sym c.in-None.ensures.value)) ∙ len_nothing)

pub returns-in-None-clause-bytes : goal.returns-in-None-clause-bytes
returns-in-None-clause-bytes c = sym (ap bytes_of (line_absent c.args.lines.now.entries c.args.number (sym c.in-None.ensures.value)) ∙ bytes_nothing)

pub returns-in-None-clause-kept : goal.returns-in-None-clause-kept
returns-in-None-clause-kept c = subst (λ (line : Line). KeepsLine line) (sym (line_absent c.args.lines.now.entries c.args.number (sym c.in-None.ensures.value))) nothing_kept
