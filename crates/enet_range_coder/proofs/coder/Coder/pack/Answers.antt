use Rattle.std.proofs.Common.{arith}
use Rattle.enet_range_coder.specs.Private.Meant.{span_meant}
use Rattle.enet_range_coder.proofs.Bodies.{whole_wide, pack_start}
use Rattle.enet_range_coder.proofs.coder.Coder.pack.Goals as goal

pub loop-byte-init : goal.loop-byte-init
loop-byte-init c = record {
  wide = whole_wide (span_meant c.whole-interval.result) c.whole-interval.ensures;
  within = omega arith;
  rest = pack_start c.clear.new.self (span_meant c.whole-interval.result) c.args.body.now c.clear.ensures c.whole-interval.ensures;
}
