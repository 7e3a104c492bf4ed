use Rattle.std.proofs.Common.{arith}
use Rattle.enet_range_coder.proofs.Reading.{chain_ends, chain_goes}
use Rattle.enet_range_coder.proofs.chain.+weigh.Goals as goal

pub returns-then-left-eq0-clause-weight : goal.returns-then-left-eq0-clause-weight
returns-then-left-eq0-clause-weight t c = rw (chain_ends c.args.left c.args.cells.now c.args.place c.then-left-eq0.either) (omega arith)

pub returns-clause-weight : goal.returns-clause-weight
returns-clause-weight t c =
    rw (chain_goes c.args.left c.args.cells.now c.args.place c.cell_at-cell.result c.if-left-eq0.false c.if-place-eq0.false c.cell_at-cell.ensures) (omega (arith, c.weigh.ensures.weight, c.size.ensures))
