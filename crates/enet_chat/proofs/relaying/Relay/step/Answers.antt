use Rattle.std.proofs.Common.{inl, rules, refl}
use Rattle.enet_chat.proofs.Relays.{relays_on, submits_first}
use Rattle.enet_chat.proofs.relaying.Relay.step.Goals as goal

pub returns-in-Full-clause-relays : goal.returns-in-Full-clause-relays
returns-in-Full-clause-relays g c = relays_on _ _ _ c.submit.ensures.relays c.step_without_room.ensures.relays

pub returns-in-All-clause-relays : goal.returns-in-All-clause-relays
returns-in-All-clause-relays g c = relays_on _ _ _ c.submit.ensures.relays c.step_on.ensures.relays

pub returns-in-All-clause-submits : goal.returns-in-All-clause-submits
returns-in-All-clause-submits g c = inl (submits_first c.args.self.now c.submit.new.self c.step_on.new.self c.submit.ensures.kept (c.submit.ensures.all (search rules)) c.step_on.ensures.submitted)
