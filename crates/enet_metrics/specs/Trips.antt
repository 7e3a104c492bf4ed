-- Round trips, in buckets by their lengths.
use Rattle.std.specs.Prelude.{ℕ, ◌+◌, min, nat_lt, List, [], ◌∷◌, ◌++◌, codes, get_or}
use Rattle.std.specs.List.{count_by}
use Rattle.std.specs.Fmt.{decimal}
use Rattle.enet_metrics.specs.declared.trips.Trips.{Trips}
use Rattle.enet_metrics.specs.Texts.{head_text, line_text, seconds_text}

-- the greatest lengths of the buckets but the last, in milliseconds
abbrev pub bounds : List ℕ
bounds = 1 ∷ 2 ∷ 5 ∷ 10 ∷ 20 ∷ 50 ∷ 100 ∷ 200 ∷ 500 ∷ 1000 ∷ 2000 ∷ 5000 ∷ []

-- the bucket of a round trip: how many bounds it is above
unfoldable pub bucket_of : ℕ → ℕ
bucket_of ms = count_by (λ bound. nat_lt bound ms) bounds

-- the same bounds in seconds, as they are told
abbrev pub bound_texts : List (List ℕ)
bound_texts =
    codes "0.001" ∷ codes "0.002" ∷ codes "0.005" ∷ codes "0.01" ∷ codes "0.02" ∷ codes "0.05" ∷ codes "0.1" ∷ codes "0.2" ∷ codes "0.5"
    ∷ codes "1" ∷ codes "2" ∷ codes "5" ∷ []

unfoldable pub bound_text : ℕ → List ℕ
bound_text bucket = get_or bound_texts bucket (codes "+Inf")

unfoldable pub bucket_line : List ℕ → ℕ → List ℕ
bucket_line bound count = codes "enet_round_trip_seconds_bucket{le=\"" ++ bound ++ codes "\"} " ++ decimal count ++ codes "\n"

abbrev pub bucket_text : ℕ → ℕ → List ℕ
bucket_text bucket count = bucket_line (bound_text bucket) count

-- a sum stops at the greatest number of 64 bits
unfoldable pub capped : ℕ → ℕ
capped n = min n 18446744073709551615

-- the line of each bucket has those of the buckets before it, too
unfoldable pub buckets_from : ℕ → ℕ → List ℕ → List ℕ
buckets_from bucket before [] = []
buckets_from bucket before (count ∷ counts) =
    bucket_text bucket (capped (before + count)) ++ buckets_from (bucket + 1) (capped (before + count)) counts

unfoldable pub total_from : ℕ → List ℕ → ℕ
total_from before [] = before
total_from before (count ∷ counts) = total_from (capped (before + count)) counts

-- a histogram of the round trips
unfoldable pub trips_text : Trips → List ℕ
trips_text t =
    head_text (codes "enet_round_trip_seconds") (codes "histogram") (codes "Estimates of the round trip of each connected peer, taken once a second.")
    ++ buckets_from 0 0 t.counts ++ seconds_text (codes "enet_round_trip_seconds_sum") t.sum
    ++ line_text (codes "enet_round_trip_seconds_count") (total_from 0 t.counts)
