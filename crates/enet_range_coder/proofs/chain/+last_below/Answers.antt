use Rattle.enet_range_coder.proofs.Growing.{below_ends, below_stops, below_goes}
use Rattle.enet_range_coder.proofs.chain.+last_below.Goals as goal

pub returns-then-left-eq0 : goal.returns-then-left-eq0
returns-then-left-eq0 t c = below_ends c.args.left c.args.cells.now c.args.place c.args.before c.args.byte c.then-left-eq0.either

pub returns-then-byte-cell : goal.returns-then-byte-cell
returns-then-byte-cell t c = below_stops c.args.left c.args.cells.now c.args.place c.args.before c.args.byte c.cell_at-cell.result c.if-left-eq0.false c.if-place-eq0.false c.cell_at-cell.ensures c.if-byte-cell.true

pub returns : goal.returns
returns t c = below_goes c.args.left c.args.cells.now c.args.place c.args.before c.args.byte c.cell_at-cell.result c.last_below.result c.if-left-eq0.false c.if-place-eq0.false c.cell_at-cell.ensures c.if-byte-cell.false c.last_below.ensures
