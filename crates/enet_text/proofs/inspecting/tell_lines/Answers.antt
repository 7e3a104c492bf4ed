use Rattle.std.proofs.Common.{ℕ, ◌<◌, ◌*◌, arith}
use Rattle.enet_text.proofs.Told.{line_more}
use Rattle.enet_text.proofs.inspecting.tell_lines.Goals as goal

short : (n : ℕ) → n * 1 < 9223372036854775808 → n < 9223372036854775808
short n h = omega arith

pub lines-preserved : goal.lines-preserved
lines-preserved g c =
    let past = c.lines.invariant in
    line_more c.args.bodies c.args.input.now past.0 c.in-Some.rest.now c.cut_line.result.0.now c.cut_line.result.1 c.lines.lines c.lines.told _ _ _ _ _
    (rw c.in-Some.is at past.1) (rw c.in-Some.is at past.2) past.3 past.4 past.5 (short _ c.well_formed.1.1.0.1) c.cut_line.ensures.lines c.cut_line.ensures.shorter
    c.saturating_add-lines.ensures (rw c.in-Some-2.is at c.in_ok-next.ensures.readable) (rw c.in-Some-2.is at c.in_ok-next.ensures.told)
    (rw c.in-Some-2.is at c.in_ok-next.ensures.next)
