use Rattle.law_one_end.proofs.Datagrams.{datagram-comes, datagram-heard}
use Rattle.law_one_end.proofs.a_datagram_comes_as_commands.Goals as goal

pub returns-clause-commands : goal.returns-clause-commands
returns-clause-commands c = datagram-comes

pub returns-clause-datagram : goal.returns-clause-datagram
returns-clause-datagram c = datagram-heard
