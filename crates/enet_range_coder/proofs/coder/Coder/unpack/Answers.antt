use Rattle.std.proofs.Common.{◌-◌, length, arith, sym, ◌∙◌}
use Rattle.enet_range_coder.specs.Private.Meant.{span_meant, said}
use Rattle.enet_range_coder.proofs.Bodies.{whole_wide, unpack_start, unpack_goes}
use Rattle.enet_range_coder.proofs.coder.Coder.unpack.Goals as goal

pub loop-at-init : goal.loop-at-init
loop-at-init c = record {
  wide = whole_wide (span_meant c.whole-interval.result) c.whole-interval.ensures;
  rest = unpack_start c.clear.new.self (span_meant c.whole-interval.result) (length c.args.out.now) (length c.args.out.now - 0) c.args.code.now c.clear.ensures c.whole-interval.ensures (omega arith);
}

pub loop-at-preserved : goal.loop-at-preserved
loop-at-preserved c = record {
  wide = c.in_ok-coded.ensures.wide;
  rest = unpack_goes c.loop-at.out c.args.code.now c.loop-at.at c.in_ok-byte.byte c.loop-at.self c.learn.new.self (span_meant c.loop-at.interval) (span_meant c.in_ok-coded.coded.interval) c.loop-at.rest.now c.in_ok-rest.rest.now (said c.in_ok-coded.coded)
      (omega arith) c.loop-at.invariant.rest (sym c.is_end.ensures ∙ c.if-is_end.false) c.in_ok-byte.ensures c.in_ok-coded.ensures.puts c.in_ok-rest.ensures c.learn.ensures;
}
