use Rattle.std.proofs.Common.{◌∙◌}
use Rattle.enet_chat.proofs.Relays.{relays_on}
use Rattle.enet_chat.proofs.relaying.Relay.take_some.Goals as goal

pub loop-preserved : goal.loop-preserved
loop-preserved g c = (relays_on _ _ _ c.loop.invariant.0 c.take-in-loop.ensures.relays, c.take-in-loop.ensures.sender ∙ c.loop.invariant.1)

pub returns-in_err-take-2-clause-relays : goal.returns-in_err-take-2-clause-relays
returns-in_err-take-2-clause-relays g c = relays_on _ _ _ c.loop.invariant.0 c.take-in-loop.ensures.relays

pub returns-in_err-take-2-clause-sender : goal.returns-in_err-take-2-clause-sender
returns-in_err-take-2-clause-sender g c = c.take-in-loop.ensures.sender ∙ c.loop.invariant.1

pub returns-in-Nothing-2-clause-relays : goal.returns-in-Nothing-2-clause-relays
returns-in-Nothing-2-clause-relays g c = relays_on _ _ _ c.loop.invariant.0 c.take-in-loop.ensures.relays

pub returns-in-Nothing-2-clause-sender : goal.returns-in-Nothing-2-clause-sender
returns-in-Nothing-2-clause-sender g c = c.take-in-loop.ensures.sender ∙ c.loop.invariant.1
