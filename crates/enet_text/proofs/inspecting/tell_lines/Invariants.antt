use Rattle.std.proofs.Common.{◌≡◌, ◌≤◌, ◌+◌, ◌++◌, ℕ, List, length}
use Rattle.enet_text.specs.Inspected.{TellsLines, Wrote, found_in_lines, lines_of}
use Rattle.enet_text.specs.Private.InputTexts.{lines_left, bytes_left}
use Rattle.enet_text.proofs.inspecting.tell_lines.Given as goal

-- lines of which the text was written, before those that are left
abbrev pub invariant-lines : goal.invariant-lines
invariant-lines g l =
    (before : List (List ℕ)) × (lines_of l.input ≡ before ++ lines_left l.left) × (length before + bytes_left l.left ≤ length l.input + 1)
    × (l.lines ≡ length before) × (l.told ≡ length (found_in_lines before))
    × Wrote (g.W.Write.contents l.fn.writer) (g.W.Write.contents l.writer) (TellsLines l.bodies before)

abbrev pub decreases-lines : goal.decreases-lines
decreases-lines g l = bytes_left l.left
