use Rattle.std.proofs.Common.{arith}
use Rattle.enet_metrics.specs.Trips.{bucket_of}
use Rattle.enet_metrics.proofs.trips.bucket_of.Goals as goal

pub returns-clause-bucket : goal.returns-clause-bucket
unfolding bucket_of
returns-clause-bucket c =
    omega (arith, c.above.ensures.value, c.above-2.ensures.value, c.above-3.ensures.value, c.above-4.ensures.value, c.above-5.ensures.value, c.above-6.ensures.value, c.above-7.ensures.value, c.above-8.ensures.value, c.above-9.ensures.value, c.above-10.ensures.value, c.above-11.ensures.value, c.above-12.ensures.value)
