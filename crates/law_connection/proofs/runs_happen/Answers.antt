use Rattle.law_connection.proofs.ExampleRuns.{a-packet-is-taken, one-datagram-has-one-mark, both-ends-connect}
use Rattle.law_connection.proofs.runs_happen.Goals as goal

pub returns-clause-taken : goal.returns-clause-taken
returns-clause-taken c = a-packet-is-taken

pub returns-clause-one_mark : goal.returns-clause-one_mark
returns-clause-one_mark c = one-datagram-has-one-mark

pub returns-clause-connected : goal.returns-clause-connected
returns-clause-connected c = both-ends-connect
