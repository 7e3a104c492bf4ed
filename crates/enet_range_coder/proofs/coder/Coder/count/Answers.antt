use Rattle.enet_range_coder.proofs.Growing.{count_halves, count_stays}
use Rattle.enet_range_coder.proofs.coder.Coder.count.Goals as goal

pub returns-then-heavy : goal.returns-then-heavy
returns-then-heavy c = count_halves c.args.self.now c.weigh.new.self c.halve_in.new.self c.args.context c.args.place c.at.result c.is_heavy-heavy.result c.at.ensures c.is_heavy-heavy.ensures c.if-heavy.true c.weigh.ensures c.halve_in.ensures

pub returns-else-heavy : goal.returns-else-heavy
returns-else-heavy c = count_stays c.args.self.now c.weigh.new.self c.args.context c.args.place c.at.result c.is_heavy-heavy.result c.at.ensures c.is_heavy-heavy.ensures c.if-heavy.false c.weigh.ensures
