use Rattle.enet_codec.proofs.Datagrams.{canonical-spells, spells-all, header-spells}
use Rattle.enet_codec.proofs.spelling.what_is_written_is_spelled.Goals as goal

pub returns-clause-command : goal.returns-clause-command
returns-clause-command c = canonical-spells

pub returns-clause-commands : goal.returns-clause-commands
returns-clause-commands c = spells-all

pub returns-clause-header : goal.returns-clause-header
returns-clause-header c = header-spells
