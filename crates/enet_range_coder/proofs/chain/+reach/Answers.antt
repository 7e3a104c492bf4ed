use Rattle.std.proofs.Common.{◌+◌, ◌-◌, refl, arith}
use Rattle.enet_range_coder.specs.Memory.{chain}
use Rattle.enet_range_coder.proofs.Reading.{chain_ends, chain_goes, reach_hit, reach_miss}
use Rattle.enet_range_coder.proofs.chain.+reach.Goals as goal

pub returns-then-left-eq0 : goal.returns-then-left-eq0
returns-then-left-eq0 t c = rw (chain_ends c.args.left c.args.cells.now c.args.place c.then-left-eq0.either) refl

pub returns-then-aim-after : goal.returns-then-aim-after
returns-then-aim-after t c =
    rw (chain_goes c.args.left c.args.cells.now c.args.place c.cell_at-cell.result c.if-left-eq0.false c.if-place-eq0.false c.cell_at-cell.ensures)
    (reach_hit (c.cell_at-cell.result.byte, c.cell_at-cell.result.weight) (chain (c.args.left - 1) c.args.cells.now c.cell_at-cell.result.next) c.args.aim c.args.below (c.args.below + c.size.result) (omega (arith, c.size.ensures)) c.if-aim-after.true)

pub returns : goal.returns
returns t c =
    rw (chain_goes c.args.left c.args.cells.now c.args.place c.cell_at-cell.result c.if-left-eq0.false c.if-place-eq0.false c.cell_at-cell.ensures)
    (reach_miss (c.cell_at-cell.result.byte, c.cell_at-cell.result.weight) (chain (c.args.left - 1) c.args.cells.now c.cell_at-cell.result.next) c.args.aim c.args.below (c.args.below + c.size.result) _ (omega (arith, c.size.ensures)) c.if-aim-after.false c.reach.ensures)
