use Rattle.std.proofs.Common.{◌≡◌, ◌++◌, drop}
use Rattle.std.specs.String.{string_bytes}
use Rattle.enet_metrics.specs.Trips.{buckets_from, total_from}
use Rattle.enet_metrics.proofs.trips.push_buckets.Given as goal

abbrev pub invariant-loop-bucket : goal.invariant-loop-bucket
invariant-loop-bucket l = record {
  told : string_bytes l.text ++ buckets_from l.bucket l.total (drop l.bucket l.counts) ≡ string_bytes l.initial.text ++ buckets_from 0 0 l.counts;
  total : total_from l.total (drop l.bucket l.counts) ≡ total_from 0 l.counts;
}
