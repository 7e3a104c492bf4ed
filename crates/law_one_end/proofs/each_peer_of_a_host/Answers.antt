use Rattle.law_one_end.proofs.Hosts.{are-ends}
use Rattle.law_one_end.proofs.each_peer_of_a_host.Goals as goal

pub returns : goal.returns
returns c = are-ends c.args.host.now c.keeps.ensures
