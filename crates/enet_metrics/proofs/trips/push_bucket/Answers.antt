use Rattle.std.proofs.Common.{append_assoc}
use Rattle.enet_metrics.specs.Trips.{bucket_line}
use Rattle.enet_metrics.proofs.trips.push_bucket.Goals as goal

pub returns : goal.returns
unfolding bucket_line
returns c = simp append_assoc c.write.ensures.bytes
