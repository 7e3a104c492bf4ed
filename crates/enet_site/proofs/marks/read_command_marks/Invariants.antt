use Rattle.std.proofs.Common.{◌≤◌, ◌+◌, ◌-◌, ◌++◌, List, vec_len, vec_capacity}
use Rattle.law_network.specs.declared.mark.Mark.{Mark}
use Rattle.law_network.specs.Marks.{MarksOf}
use Rattle.enet_site.proofs.marks.read_command_marks.Given as goal

abbrev pub invariant-loop-command : goal.invariant-loop-command
invariant-loop-command l = record {
  room : vec_len l.marks + (32 - l._command) ≤ vec_capacity l.marks;
  joins : (later : List Mark) → MarksOf (32 - l._command) l.rest later → MarksOf 32 l.commands (l.marks.items ++ later);
}
