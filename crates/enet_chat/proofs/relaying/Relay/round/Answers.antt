use Rattle.enet_chat.proofs.Relays.{relays_on}
use Rattle.enet_chat.proofs.relaying.Relay.round.Goals as goal

pub returns-in-Nothing-2-clause-relays : goal.returns-in-Nothing-2-clause-relays
returns-in-Nothing-2-clause-relays g c = relays_on _ _ _ c.step.ensures.relays c.tell_new.ensures.relays

pub returns-in-Kept-clause-relays : goal.returns-in-Kept-clause-relays
returns-in-Kept-clause-relays g c = relays_on _ _ _ c.step.ensures.relays c.rest_with_some.ensures.relays
