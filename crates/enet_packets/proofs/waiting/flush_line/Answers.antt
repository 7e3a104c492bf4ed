use Rattle.std.proofs.Common.{◌≡◌, ◌<◌, sym, ap, subst, ◌∙◌, arith}
use Rattle.std.specs.FinMap.{len}
use Rattle.enet_packets.specs.Invariant.{KeepsLine}
use Rattle.enet_packets.specs.Private.Invariant.{line_in}
use Rattle.enet_packets.specs.Packets.{bytes_of, still_ahead}
use Rattle.enet_packets.proofs.Maps.{removed}
use Rattle.enet_packets.proofs.LineLemmas.{Line, line_in-insert, settles-kept, settles-gone}
use Rattle.enet_packets.proofs.waiting.flush_line.Goals as goal

pub returns-then-left-eq0-clause-packets : goal.returns-then-left-eq0-clause-packets
returns-then-left-eq0-clause-packets c =
    c.size_at-left.ensures.packets ∙ ap (λ (m : Line). len m) (line_in-insert c.args.lines.now.entries c.dispatch_line.new.lines.entries c.args.number _ c.dispatch_line.ensures.rest)

pub returns-then-left-eq0-clause-bytes : goal.returns-then-left-eq0-clause-bytes
returns-then-left-eq0-clause-bytes c =
    c.size_at-left.ensures.bytes ∙ ap bytes_of (line_in-insert c.args.lines.now.entries c.dispatch_line.new.lines.entries c.args.number _ c.dispatch_line.ensures.rest)

pub returns-then-left-eq0-clause-rest : goal.returns-then-left-eq0-clause-rest
returns-then-left-eq0-clause-rest c = λ keeps.
    let es = c.args.lines.now.entries in
    let fs = c.dispatch_line.new.lines.entries in
    let line : Line = still_ahead (line_in es c.args.number) c.dispatch_line.new.last in
    let at : line_in fs c.args.number ≡ line = line_in-insert es fs c.args.number line c.dispatch_line.ensures.rest in
    let size : c.size_at-left.result.packets ≡ len line = c.size_at-left.ensures.packets ∙ ap (λ (m : Line). len m) at in
    let none : len line ≡ 0 = sym size ∙ c.if-left-eq0.true in
    settles-gone es fs c.take_out.new.lines.entries c.args.number line (omega arith) (subst (λ (m : Line). KeepsLine m) at c.size_at-left.ensures.kept) none
    c.dispatch_line.ensures.rest c.dispatch_line.ensures.ordered c.take_out.ensures.entries c.take_out.ensures.ordered (removed fs c.take_out.new.lines.entries c.args.number c.take_out.ensures.updates.0) keeps

pub returns-else-left-eq0-clause-packets : goal.returns-else-left-eq0-clause-packets
returns-else-left-eq0-clause-packets c =
    c.size_at-left.ensures.packets ∙ ap (λ (m : Line). len m) (line_in-insert c.args.lines.now.entries c.dispatch_line.new.lines.entries c.args.number _ c.dispatch_line.ensures.rest)

pub returns-else-left-eq0-clause-bytes : goal.returns-else-left-eq0-clause-bytes
returns-else-left-eq0-clause-bytes c =
    c.size_at-left.ensures.bytes ∙ ap bytes_of (line_in-insert c.args.lines.now.entries c.dispatch_line.new.lines.entries c.args.number _ c.dispatch_line.ensures.rest)

pub returns-else-left-eq0-clause-rest : goal.returns-else-left-eq0-clause-rest
returns-else-left-eq0-clause-rest c = λ keeps.
    let es = c.args.lines.now.entries in
    let fs = c.dispatch_line.new.lines.entries in
    let line : Line = still_ahead (line_in es c.args.number) c.dispatch_line.new.last in
    let at : line_in fs c.args.number ≡ line = line_in-insert es fs c.args.number line c.dispatch_line.ensures.rest in
    let size : c.size_at-left.result.packets ≡ len line = c.size_at-left.ensures.packets ∙ ap (λ (m : Line). len m) at in
    let apart = c.if-left-eq0.false in
    let more : 0 < len line = grind arith in
    settles-kept es fs c.args.number line (omega arith) (subst (λ (m : Line). KeepsLine m) at c.size_at-left.ensures.kept) more
    c.dispatch_line.ensures.rest c.dispatch_line.ensures.ordered keeps

pub returns-else-left-eq0-clause-room : goal.returns-else-left-eq0-clause-room
returns-else-left-eq0-clause-room c =
    let size = returns-else-left-eq0-clause-packets c in
    let room = c.dispatch_line.ensures.room in
    omega arith
