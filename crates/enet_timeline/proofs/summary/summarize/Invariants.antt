use Rattle.std.proofs.Common.{◌≡◌, ◌++◌, List, ℕ, length}
use Rattle.std.specs.String.{string_bytes}
use Rattle.enet_timeline.specs.Summaries.{TellsParts, whole_text}
use Rattle.enet_timeline.proofs.summary.summarize.Given as goal

-- so far each part is told, one behind another
abbrev pub invariant-loop-index : goal.invariant-loop-index
invariant-loop-index l =
    (told : List ℕ) × (string_bytes l.text ≡ whole_text l.timeline l.fn.asked (length l.parts) ++ told) × TellsParts l.parts l.timeline.source l.fn.at l.index told
