use Rattle.enet_turn.proofs.Untold.{fewer}
use Rattle.enet_turn.proofs.hosting.HostCoreCore.next_event.Goals as goal

pub returns : goal.returns
returns c = record { told = c.next_event.ensures; fewer = fewer c.next_event.result c.args.self.now c.next_event.new.self c.next_event.ensures }
