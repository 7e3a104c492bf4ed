use Rattle.enet_service.proofs.Settled.{popped_is_new}
use Rattle.enet_service.proofs.queues.only_seat.Goals as goal

pub returns-clause-new : goal.returns-clause-new
returns-clause-new c = popped_is_new c.pop.result c.args.seats.items _ c.pop.ensures.items c.requires.new
