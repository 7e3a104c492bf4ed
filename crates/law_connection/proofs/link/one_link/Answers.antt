use Rattle.law_connection.proofs.LinkRuns.{follows, keeps, reads}
use Rattle.law_connection.proofs.link.one_link.Goals as goal

pub returns-clause-follows : goal.returns-clause-follows
returns-clause-follows c = follows

pub returns-clause-keeps : goal.returns-clause-keeps
returns-clause-keeps c = keeps

pub returns-clause-reads : goal.returns-clause-reads
returns-clause-reads c = reads
