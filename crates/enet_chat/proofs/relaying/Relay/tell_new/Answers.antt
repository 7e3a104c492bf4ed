use Rattle.std.proofs.Common.{refl}
use Rattle.enet_chat.proofs.Relays.{relays_none}
use Rattle.enet_chat.proofs.relaying.Relay.tell_new.Goals as goal

pub returns-else-hears_of_one_held_back-clause-relays : goal.returns-else-hears_of_one_held_back-clause-relays
returns-else-hears_of_one_held_back-clause-relays c = relays_none _ _ (refl, refl) refl refl refl refl
