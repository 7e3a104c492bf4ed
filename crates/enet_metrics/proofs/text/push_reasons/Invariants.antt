use Rattle.std.proofs.Common.{◌≡◌, ◌+◌, ◌++◌, drop}
use Rattle.std.specs.String.{string_bytes}
use Rattle.enet_metrics.specs.Texts.{reasons_from}
use Rattle.enet_metrics.proofs.text.push_reasons.Given as goal

abbrev pub invariant-loop-index : goal.invariant-loop-index
invariant-loop-index l = record {
  told : string_bytes l.text ++ reasons_from l.name l.letter (l.index + 1) (drop l.index l.counts)
      ≡ string_bytes l.initial.text ++ reasons_from l.name l.letter 1 l.counts;
}
