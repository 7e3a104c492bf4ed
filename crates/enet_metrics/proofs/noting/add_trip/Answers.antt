use Rattle.std.proofs.Common.{refl}
use Rattle.enet_metrics.specs.Trips.{capped}
use Rattle.enet_metrics.proofs.noting.add_trip.Goals as goal

pub returns : goal.returns
unfolding capped
returns c = simp (c.bucket_of-bucket.ensures.bucket, c.saturating_add.ensures, c.saturating_add-trips.ensures, c.from.ensures) refl
