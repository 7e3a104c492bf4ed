-- What the list of events counts of what waits.
use Rattle.std.specs.Prelude.{ℕ, ◌<◌, ◌≤◌, List, sum_by}
use Rattle.enet_codec.specs.declared.event.Event.{Event}
use Rattle.enet_chat.specs.Lists.{length_of}

-- below 1 MiB it is at least as many bytes as wait
abbrev pub CountsBytes : ℕ → List Event → Type 0
CountsBytes bytes events = bytes < 1048576 → sum_by length_of events ≤ bytes
