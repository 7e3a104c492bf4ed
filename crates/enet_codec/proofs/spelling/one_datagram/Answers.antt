use Rattle.enet_codec.proofs.Datagrams.{one-reading, one-datagram}
use Rattle.enet_codec.proofs.spelling.one_datagram.Goals as goal

pub returns-clause-commands : goal.returns-clause-commands
returns-clause-commands c = one-reading

pub returns-clause-datagram : goal.returns-clause-datagram
returns-clause-datagram c = one-datagram
