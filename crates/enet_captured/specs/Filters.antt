-- What of a capture passes a filter.
use Rattle.std.specs.Prelude.{◌-◌, ◌==◌, ◌&&◌, nat_le, ℕ, Bool, true, List, Option, Some, None}
use Rattle.std.specs.List.{list_any}
use Rattle.enet_captured.specs.declared.timeline.Mark.{Mark}
use Rattle.enet_captured.specs.declared.timeline.Seen.{Seen}
use Rattle.enet_captured.specs.declared.filter.Filter.{Filter}

-- A number is the one that is asked for, where one is.
abbrev pub is_asked : Option ℕ → ℕ → Bool
is_asked None number = true
is_asked (Some asked) number = number == asked

-- A time isn't before the first or behind the last one that is asked for.
abbrev pub is_from : Option ℕ → ℕ → Bool
is_from None time = true
is_from (Some first) time = nat_le first time

abbrev pub is_up_to : Option ℕ → ℕ → Bool
is_up_to None time = true
is_up_to (Some last) time = nat_le time last

abbrev pub is_within : Filter → ℕ → Bool
is_within f time = is_from f.from time && is_up_to f.to time

-- A command passes by its channel, and by the time from the capture's beginning to its datagram.
abbrev pub mark_passes : Filter → ℕ → Mark → Bool
mark_passes f begun mark = is_asked f.channel mark.told.channel && is_within f (mark.at - begun)

-- A datagram passes by its time, and if it has a command of the channel that is asked for.
abbrev pub is_on : ℕ → ℕ → Mark → Bool
is_on channel number mark = mark.datagram == number && mark.told.channel == channel

abbrev pub has_channel : Option ℕ → List Mark → ℕ → Bool
has_channel None marks number = true
has_channel (Some channel) marks number = list_any (is_on channel number) marks

abbrev pub seen_passes : Filter → ℕ → List Mark → Seen → Bool
seen_passes f begun marks seen = is_within f (seen.at - begun) && has_channel f.channel marks seen.number
