use Rattle.law_connection.proofs.Greatest.{counts, grows, reckoned, bounded, step}
use Rattle.law_connection.proofs.link.greatest_sent.Goals as goal

pub returns-clause-counts : goal.returns-clause-counts
returns-clause-counts c = counts

pub returns-clause-grows : goal.returns-clause-grows
returns-clause-grows c = grows

pub returns-clause-reckoned : goal.returns-clause-reckoned
returns-clause-reckoned c = reckoned

pub returns-clause-bounded : goal.returns-clause-bounded
returns-clause-bounded c = bounded

pub returns-clause-steps : goal.returns-clause-steps
returns-clause-steps c = step
