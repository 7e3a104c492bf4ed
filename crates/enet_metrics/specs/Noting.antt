-- What is noted of a service, until it is told.
use Rattle.std.specs.Prelude.{ℕ, zero, suc, ◌+◌, ◌-◌, List, replicate, slice_index, slice_set, Option, Some, None}
use Rattle.enet_metrics.specs.declared.reading.Reading.{Reading}
use Rattle.enet_metrics.specs.declared.trips.Trips.{Trips}
use Rattle.enet_metrics.specs.Standings.{standing_in}
use Rattle.enet_metrics.specs.Trips.{bucket_of, capped}

-- nothing was done yet
abbrev pub nothing : Reading
nothing = record {
  standing = standing_in (replicate 24 0);
  stops = replicate 13 0;
  refusals = replicate 9 0;
  trips = record { counts = replicate 13 0; sum = 0 };
  age = None;
}

-- The counts of the reasons 1, 2 and so on, of which this one has another; none has where there is no such reason.
abbrev pub with_count : ℕ → ℕ → List ℕ → List ℕ
with_count zero count counts = counts
with_count (suc place) count counts = slice_set counts place count

abbrev pub with_stops : ℕ → ℕ → Reading → Reading
with_stops reason count r = record r { stops = with_count reason count r.stops }

abbrev pub with_refusals : ℕ → ℕ → Reading → Reading
with_refusals reason count r = record r { refusals = with_count reason count r.refusals }

-- one more in its bucket, and its length in the sum
abbrev pub one_more : ℕ → Trips → Trips
one_more ms t = record {
  counts = slice_set t.counts (bucket_of ms) (capped (slice_index t.counts (bucket_of ms) + 1));
  sum = capped (t.sum + ms);
}

abbrev pub with_trip : ℕ → Reading → Reading
with_trip ms r = record r { trips = one_more ms r.trips }

-- how long ago a look was, where the clock says what time it is
abbrev pub age_of : Option ℕ → ℕ → Option ℕ
age_of None looked_at = None
age_of (Some now) looked_at = Some (now - looked_at)
