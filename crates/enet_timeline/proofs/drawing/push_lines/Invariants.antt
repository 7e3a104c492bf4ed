use Rattle.std.proofs.Common.{◌≡◌, ◌++◌, drop, length}
use Rattle.std.specs.Str.Lines.{lines}
use Rattle.std.specs.String.{string_bytes}
use Rattle.enet_timeline.specs.Pictures.{lines_text}
use Rattle.enet_timeline.proofs.drawing.push_lines.Given as goal

-- what is drawn, and what is left to draw from there on
abbrev pub invariant-loop-line : goal.invariant-loop-line
invariant-loop-line l =
    string_bytes l.text ++ lines_text l.y (drop (length l.yielded) (lines l.words)) ≡ string_bytes l.initial.text ++ lines_text l.top (lines l.words)
