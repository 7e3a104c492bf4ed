use Rattle.std.proofs.Common.{Some, ap, ◌∙◌, arith}
use Rattle.enet_range_coder.proofs.Stripping.{said_short, said_differs, said_same, take_rest}
use Rattle.enet_range_coder.proofs.unpacking.strip.Goals as goal

pub returns-then-coded-code : goal.returns-then-coded-code
returns-then-coded-code c = said_short c.args.coded.now.count c.args.coded.now.bytes c.args.code.now (omega arith) c.if-coded-code.true

pub returns-then-code-i : goal.returns-then-code-i
returns-then-code-i c = said_differs c.args.coded.now.count c.args.coded.now.bytes c.args.code.now c.loop-i.i (omega arith) c.if-coded-code.false c.loop-i-test.true c.if-code-i.true

pub returns : goal.returns
returns c =
    ap Some (take_rest c.args.coded.now.count c.args.code.now)
    ∙ said_same c.args.coded.now.count c.args.coded.now.bytes c.args.code.now (omega arith) c.if-coded-code.false (λ k l. c.loop-i.invariant k (omega (arith, l, c.loop-i-test.false)))
