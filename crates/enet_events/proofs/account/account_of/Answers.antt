use Rattle.std.proofs.Common.{rules}
use Rattle.enet_events.proofs.account.account_of.Goals as goal

pub loop-index-preserved : goal.loop-index-preserved
loop-index-preserved c = search rules
