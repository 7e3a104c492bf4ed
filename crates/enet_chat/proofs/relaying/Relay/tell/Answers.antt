use Rattle.std.proofs.Common.{refl}
use Rattle.enet_chat.proofs.Relays.{relays_none}
use Rattle.enet_chat.proofs.relaying.Relay.tell.Goals as goal

pub returns-clause-relays : goal.returns-clause-relays
returns-clause-relays c = relays_none _ _ (refl, refl) refl refl refl refl
