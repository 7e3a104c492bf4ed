use Rattle.std.proofs.Common.{refl}
use Rattle.enet_chat.proofs.Relays.{relays_none, relays_on}
use Rattle.enet_chat.proofs.relaying.Relay.run.Goals as goal

pub loop-init : goal.loop-init
loop-init g c = relays_none _ _ (refl, refl) refl refl refl refl

pub returns-in_err-round-clause-relays : goal.returns-in_err-round-clause-relays
returns-in_err-round-clause-relays g c = relays_on _ _ _ c.loop.invariant c.round.ensures.relays

pub returns-then-branch-clause-relays : goal.returns-then-branch-clause-relays
returns-then-branch-clause-relays g c = relays_on _ _ _ c.loop.invariant c.round.ensures.relays

pub loop-preserved : goal.loop-preserved
loop-preserved g c = relays_on _ _ _ c.loop.invariant c.round.ensures.relays
