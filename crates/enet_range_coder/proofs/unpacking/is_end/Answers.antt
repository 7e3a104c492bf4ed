use Rattle.enet_range_coder.specs.Private.Meant.{span_meant}
use Rattle.enet_range_coder.proofs.Bodies.{end_short}
use Rattle.enet_range_coder.proofs.unpacking.is_end.Goals as goal

pub returns-then-rest-gt4 : goal.returns-then-rest-gt4
returns-then-rest-gt4 c = end_short (span_meant c.args.interval) c.args.rest.now c.if-rest-gt4.true
