use Rattle.law_network.proofs.OneThing.{go-on-at}
use Rattle.law_network.proofs.each_thing_at.Goals as goal

pub returns : goal.returns
returns c = go-on-at c.args.host.now c.keeps.ensures
