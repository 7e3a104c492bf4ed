use Rattle.enet_outbox.proofs.Senders.{keeps-submitted}
use Rattle.enet_outbox.proofs.lists.submit_on.Goals as goal

pub returns-clause-kept : goal.returns-clause-kept
returns-clause-kept c = λ transit prices keeps.
    keeps-submitted transit prices c.args.channel c.args.mtu c.args.flags c.args.body.now c.submit.new.body c.args.senders.now c.submit.new.self c.submit.result c.requires.inside c.submit.ensures.queued c.submit.ensures.refused keeps
