use Rattle.std.proofs.Common.{◌-◌, refl}
use Rattle.enet_range_coder.specs.Memory.{chain}
use Rattle.enet_range_coder.proofs.Reading.{chain_ends, chain_goes, find_hit, find_miss}
use Rattle.enet_range_coder.proofs.chain.+find.Goals as goal

pub returns-then-left-eq0 : goal.returns-then-left-eq0
returns-then-left-eq0 t c = rw (chain_ends c.args.left c.args.cells.now c.args.place c.then-left-eq0.either) refl

pub returns-then-cell-byte : goal.returns-then-cell-byte
returns-then-cell-byte t c =
    rw (chain_goes c.args.left c.args.cells.now c.args.place c.cell_at-cell.result c.if-left-eq0.false c.if-place-eq0.false c.cell_at-cell.ensures)
    (find_hit (c.cell_at-cell.result.byte, c.cell_at-cell.result.weight) (chain (c.args.left - 1) c.args.cells.now c.cell_at-cell.result.next) c.args.byte c.args.below c.size-size.result c.if-cell-byte.true c.size-size.ensures)

pub returns : goal.returns
returns t c =
    rw (chain_goes c.args.left c.args.cells.now c.args.place c.cell_at-cell.result c.if-left-eq0.false c.if-place-eq0.false c.cell_at-cell.ensures)
    (find_miss (c.cell_at-cell.result.byte, c.cell_at-cell.result.weight) (chain (c.args.left - 1) c.args.cells.now c.cell_at-cell.result.next) c.args.byte c.args.below c.size-size.result _ c.if-cell-byte.false c.size-size.ensures c.find.ensures)
