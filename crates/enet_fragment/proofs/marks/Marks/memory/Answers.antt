use Rattle.std.proofs.Common.{Bool, List, length, ap, arith}
use Rattle.enet_fragment.proofs.Marked.{length-marks_in}
use Rattle.enet_fragment.proofs.marks.Marks.memory.Goals as goal

pub returns : goal.returns
returns c =
    let s = c.self.inside in
    let len = length-marks_in s.count s.words.items in
    let now = ap (λ (marks : List Bool). length marks) c.self.view_is in
    let enough = c.self.invariant.enough in
    omega (arith, s.words.ok.0)
