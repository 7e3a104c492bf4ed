use Rattle.std.specs.String.{string_bytes}
use Rattle.enet_metrics.proofs.Steps.{reason-more, reasons-done}
use Rattle.enet_metrics.proofs.text.push_reasons.Goals as goal

pub loop-index-preserved : goal.loop-index-preserved
loop-index-preserved c = record {
  told = reason-more c.args.name.now c.args.letter.now c.args.counts.now (string_bytes c.loop-index.text) (string_bytes c.push_reason.new.text) _ c.loop-index.index
      c.loop-index-test.true c.in_ok-push_reason.ensures c.loop-index.invariant.told;
}

pub returns : goal.returns
returns c =
    reasons-done c.args.name.now c.args.letter.now c.args.counts.now (string_bytes c.loop-index.text) _ c.loop-index.index c.loop-index-test.false c.loop-index.invariant.told
