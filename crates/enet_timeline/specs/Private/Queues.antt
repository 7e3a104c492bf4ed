-- The reliable numbers that wait for their acknowledgement.
use Rattle.std.specs.Prelude.{◌&&◌, not, Bool}
use Rattle.enet_timeline.specs.declared.queue.Waiting.{Waiting}
use Rattle.enet_captured.specs.declared.timeline.Mark.{Mark}
use Rattle.enet_captured.specs.Commands.{answers, is_same}
use Rattle.enet_captured.specs.Counts.{same_way}

-- A command answers what waits.
abbrev pub is_answer_to : Mark → Waiting → Bool
is_answer_to mark waiting = not (same_way waiting.way mark.way) && answers mark.told waiting.told

-- A command is what waits.
abbrev pub is_of : Mark → Waiting → Bool
is_of mark waiting = same_way waiting.way mark.way && is_same waiting.told mark.told
