use Rattle.std.proofs.Common.{rules}
use Rattle.enet_text.specs.Lines.{line_of}
use Rattle.enet_text.proofs.line.read_line.Goals as goal

pub returns-then-starts_with : goal.returns-then-starts_with
unfolding line_of
returns-then-starts_with c = search rules

pub returns-in_default : goal.returns-in_default
unfolding line_of
returns-in_default c = search rules

pub returns-then-is_none : goal.returns-then-is_none
unfolding line_of
returns-then-is_none c = search rules

pub returns-in-Some-2 : goal.returns-in-Some-2
unfolding line_of
returns-in-Some-2 c = search rules

pub returns-in-None : goal.returns-in-None
unfolding line_of
returns-in-None c = search rules
