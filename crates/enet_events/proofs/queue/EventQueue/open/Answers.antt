use Rattle.std.proofs.Common.{rules}
use Rattle.enet_events.proofs.Rules.{begins}
use Rattle.enet_events.proofs.Settles.{own_takers}
use Rattle.enet_events.proofs.queue.EventQueue.open.Goals as goal

pub ruled-requires-clause-rule : goal.ruled-requires-clause-rule
ruled-requires-clause-rule c = begins

pub returns-clause-own : goal.returns-clause-own
returns-clause-own c = own_takers _ c.args.takers _ c.in-Ok-make_takers.ensures.takers

pub returns-then-capacity-eq0-clause-err : goal.returns-then-capacity-eq0-clause-err
returns-then-capacity-eq0-clause-err c = search rules
