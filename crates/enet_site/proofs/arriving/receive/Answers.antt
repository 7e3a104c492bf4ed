use Rattle.enet_site.proofs.Beginning.{begins-if}
use Rattle.enet_site.proofs.arriving.receive.Goals as goal

pub returns-clause-begins : goal.returns-clause-begins
returns-clause-begins c =
    λ x. begins-if x c.args.from c.args.host.now c.receive-answer.new.self c.args.name c.is_some-begins.result c.state.result c.requires c.is_some-begins.ensures c.state.ensures

pub returns-clause-receives : goal.returns-clause-receives
returns-clause-receives c = c.receive-answer.ensures
