use Rattle.std.proofs.Common.{Bool, List, length, sym, ap, ◌∙◌}
use Rattle.enet_fragment.proofs.Marked.{length-marks_in}
use Rattle.enet_fragment.proofs.marks.Marks.len.Goals as goal

pub returns : goal.returns
returns c = sym (length-marks_in c.self.inside.count c.self.inside.words.items) ∙ ap (λ (marks : List Bool). length marks) c.self.view_is
