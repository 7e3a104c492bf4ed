use Rattle.std.proofs.Common.{◌≡◌, ◌++◌, take}
use Rattle.std.specs.List.{flat_map}
use Rattle.std.specs.String.{string_bytes}
use Rattle.enet_timeline.specs.Summaries.{kind_text}
use Rattle.enet_timeline.proofs.summary.push_kinds.Given as goal

-- so far each kind is told behind what was there
abbrev pub invariant-loop-kind : goal.invariant-loop-kind
invariant-loop-kind l = string_bytes l.text ≡ string_bytes l.initial.text ++ flat_map (kind_text l.marks) (take l.kind-index l.kinds)
