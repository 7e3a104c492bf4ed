use Rattle.enet_outbox.proofs.Senders.{keeps-cleared}
use Rattle.enet_outbox.proofs.lists.clear.Goals as goal

pub returns-clause-kept : goal.returns-clause-kept
returns-clause-kept c = λ transit prices keeps. rw c.clear.ensures (keeps-cleared transit prices c.args.senders.now keeps)
