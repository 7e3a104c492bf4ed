use Rattle.enet_guard.proofs.Spending.{packets_kept, bytes_kept}
use Rattle.enet_guard.proofs.law.shares_are_kept.Goals as goal

pub returns-clause-packets : goal.returns-clause-packets
returns-clause-packets c = packets_kept

pub returns-clause-bytes : goal.returns-clause-bytes
returns-clause-bytes c = bytes_kept
