use Rattle.std.proofs.Common.{sym, subst}
use Rattle.enet_range_coder.specs.Private.Span.{IsSpan}
use Rattle.enet_range_coder.specs.Private.Meant.{span_meant, cut_meant}
use Rattle.enet_range_coder.proofs.Round.{narrow_span}
use Rattle.enet_range_coder.proofs.interval.Coded.take.Goals as goal

pub put_out-requires-clause-span : goal.put_out-requires-clause-span
put_out-requires-clause-span c = subst IsSpan (sym c.narrowed.ensures) (narrow_span (span_meant c.args.self.interval) (cut_meant c.args.part) c.requires.wide c.requires.part)
