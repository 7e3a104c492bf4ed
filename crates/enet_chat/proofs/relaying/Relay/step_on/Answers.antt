use Rattle.enet_chat.proofs.Relays.{relays_on}
use Rattle.enet_chat.proofs.relaying.Relay.step_on.Goals as goal

pub returns-in_err-expand-clause-relays : goal.returns-in_err-expand-clause-relays
returns-in_err-expand-clause-relays g c = relays_on _ _ _ c.broadcast.ensures.relays c.expand.ensures.relays

pub returns-then-branch-clause-relays : goal.returns-then-branch-clause-relays
returns-then-branch-clause-relays g c = relays_on _ _ _ c.broadcast.ensures.relays c.expand.ensures.relays

pub returns-clause-relays : goal.returns-clause-relays
returns-clause-relays g c = relays_on _ _ _ (relays_on _ _ _ c.broadcast.ensures.relays c.expand.ensures.relays) c.take_some.ensures.relays
