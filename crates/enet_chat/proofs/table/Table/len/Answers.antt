use Rattle.std.proofs.Common.{rules}
use Rattle.enet_chat.proofs.table.Table.len.Goals as goal

pub returns : goal.returns
returns c = search rules
