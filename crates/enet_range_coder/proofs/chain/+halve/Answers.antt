use Rattle.enet_range_coder.proofs.Growing.{halve_ends, halve_goes}
use Rattle.enet_range_coder.proofs.chain.+halve.Goals as goal

pub returns-then-left-eq0 : goal.returns-then-left-eq0
returns-then-left-eq0 t c = halve_ends c.args.left c.args.cells.now c.args.place c.then-left-eq0.either

pub returns : goal.returns
returns t c = halve_goes c.args.left c.args.cells.now c.put_cell.new.cells c.halve.new.cells c.args.place c.cell_at-cell.result c.halved.result c.if-left-eq0.false c.if-place-eq0.false c.cell_at-cell.ensures c.halved.ensures c.put_cell.ensures c.halve.ensures
