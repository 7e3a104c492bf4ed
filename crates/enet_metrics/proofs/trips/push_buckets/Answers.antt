use Rattle.std.proofs.Common.{ℕ, List, ◌++◌, ap, ◌∙◌}
use Rattle.std.specs.String.{string_bytes}
use Rattle.enet_metrics.specs.Trips.{capped, bucket_line}
use Rattle.enet_metrics.proofs.Steps.{bucket-more, buckets-done, total-more, total-done}
use Rattle.enet_metrics.proofs.trips.push_buckets.Goals as goal

pub loop-bucket-preserved : goal.loop-bucket-preserved
unfolding capped
loop-bucket-preserved c = record {
  told = bucket-more c.args.counts.now (string_bytes c.loop-bucket.text) (string_bytes c.push_bucket.new.text) _ c.loop-bucket.bucket c.loop-bucket.total c.saturating_add-total.result
      c.loop-bucket-test.true c.saturating_add-total.ensures
      (c.in_ok-push_bucket.ensures ∙ ap (λ (bound : List ℕ). string_bytes c.loop-bucket.text ++ bucket_line bound c.saturating_add-total.result) c.bound_text.ensures) c.loop-bucket.invariant.told;
  total = total-more c.args.counts.now c.loop-bucket.bucket c.loop-bucket.total c.saturating_add-total.result _ c.loop-bucket-test.true c.saturating_add-total.ensures c.loop-bucket.invariant.total;
}

pub returns-clause-text : goal.returns-clause-text
returns-clause-text c =
    buckets-done c.args.counts.now (string_bytes c.loop-bucket.text) _ c.loop-bucket.bucket c.loop-bucket.total c.loop-bucket-test.false c.loop-bucket.invariant.told

pub returns-clause-total : goal.returns-clause-total
returns-clause-total c =
    total-done c.args.counts.now c.loop-bucket.bucket c.loop-bucket.total _ c.loop-bucket-test.false c.loop-bucket.invariant.total
