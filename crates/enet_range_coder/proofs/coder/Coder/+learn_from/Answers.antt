use Rattle.std.proofs.Common.{ap}
use Rattle.enet_range_coder.specs.declared.cell.Cell.{Cell}
use Rattle.enet_range_coder.proofs.Growing.{learn_none, learn_goes, learn_stays}
use Rattle.enet_range_coder.proofs.coder.Coder.+learn_from.Goals as goal

pub returns-then-left-eq0 : goal.returns-then-left-eq0
returns-then-left-eq0 t c = learn_none c.args.left c.args.self.now c.args.context c.args.longer c.args.byte c.if-left-eq0.true

pub returns-then-goes_on : goal.returns-then-goes_on
returns-then-goes_on t c =
    learn_goes c.args.left c.args.self.now c.note-noted.new.self c.link.new.self c.learn_from.new.self c.args.context c.args.longer c.args.byte c.note-noted.result.cell c.at-shorter.result.shorter c.note-noted.result.is_new c.goes_on.result
    c.if-left-eq0.false c.note-noted.ensures.memory c.note-noted.ensures.cell c.note-noted.ensures.is_new c.goes_on.ensures c.if-goes_on.true c.link.ensures (ap (λ (x : Cell). x.shorter) c.at-shorter.ensures) c.learn_from.ensures

pub returns-else-goes_on : goal.returns-else-goes_on
returns-else-goes_on t c =
    learn_stays c.args.left c.args.self.now c.note-noted.new.self c.link.new.self c.args.context c.args.longer c.args.byte c.note-noted.result.cell c.note-noted.result.is_new c.goes_on.result
    c.if-left-eq0.false c.note-noted.ensures.memory c.note-noted.ensures.cell c.note-noted.ensures.is_new c.goes_on.ensures c.if-goes_on.false c.link.ensures
