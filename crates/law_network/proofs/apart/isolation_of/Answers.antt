use Rattle.law_network.proofs.AllCalls as all
use Rattle.law_network.proofs.apart.isolation_of.Goals as goal

pub returns : goal.returns
returns c = all.isolation c.args.host.now c.keeps.ensures
