-- How soon what goes each way is acknowledged, and what that says of the end at which a capture was made. `marks` are the commands of a
-- connection, in order, and a place is one of them, counted from 0.
--
-- What leaves an end is acknowledged there a whole round trip later. What comes in there is acknowledged as soon as the host is served next:
-- now and then almost at once. So it is the shortest time each way that tells, however seldom the hosts are served.
use Rattle.std.specs.Prelude.{◌+◌, ◌-◌, ◌&&◌, ℕ, zero, suc, nat_lt, nat_le, Bool, false, if◌then◌else◌, List, slice_get, Option, Some, None}
use Rattle.enet_captured.specs.declared.timeline.Way.{Way}
use Rattle.enet_captured.specs.declared.timeline.Way.TheVariants.{Right, Left}
use Rattle.enet_captured.specs.declared.timeline.Mark.{Mark}
use Rattle.enet_captured.specs.declared.delays.Delays.{Delays}
use Rattle.enet_captured.specs.Counts.{same_way}
use Rattle.enet_captured.specs.Sends.{is_acknowledged}

-- From the send at a place to its first acknowledgement, if it goes this way and was acknowledged.
abbrev pub time_of : Option Mark → ℕ
time_of None = 0
time_of (Some mark) = mark.at

abbrev pub taken : List Mark → ℕ → Option ℕ → Option ℕ
taken marks place None = None
taken marks place (Some there) = Some (time_of (slice_get marks there) - time_of (slice_get marks place))

abbrev pub goes : Way → Option Mark → Bool
goes way None = false
goes way (Some mark) = same_way mark.way way

abbrev pub delay_to : List Mark → Way → ℕ → Option ℕ
delay_to marks way place = if goes way (slice_get marks place) then taken marks place (is_acknowledged marks place) else None

-- How many of the sends at the first so many places were acknowledged, and the shortest time that took.
abbrev pub shorter : Option ℕ → ℕ → ℕ
shorter None took = took
shorter (Some known) took = if nat_lt took known then took else known

abbrev pub with_delay : Delays → Option ℕ → Delays
with_delay delays None = delays
with_delay delays (Some took) = record { count = delays.count + 1; shortest = Some (shorter delays.shortest took) }

abbrev pub delays_to : List Mark → Way → ℕ → Delays
delays_to marks way zero = record { count = 0; shortest = None }
delays_to marks way (suc n) = with_delay (delays_to marks way n) (delay_to marks way n)

-- An end is near if an acknowledgement from there took 2 milliseconds at most, and far if none took less than 20, of ten or more.
abbrev pub at_most : Option ℕ → ℕ → Bool
at_most None most = false
at_most (Some time) most = nat_le time most

abbrev pub at_least : Option ℕ → ℕ → Bool
at_least None least = false
at_least (Some time) least = nat_le least time

abbrev pub is_near : Delays → Bool
is_near delays = nat_le 10 delays.count && at_most delays.shortest 2000

abbrev pub is_far : Delays → Bool
is_far delays = nat_le 10 delays.count && at_least delays.shortest 20000

-- The capture seems to have been made at the end that is near, if the other is far. What goes to the left the left end acknowledges.
abbrev pub made_at : Delays → Delays → Option Way
made_at right left = if is_near left && is_far right then Some Left else (if is_near right && is_far left then Some Right else None)
