use Rattle.std.proofs.Common.{refl}
use Rattle.enet_chat.proofs.Relays.{relays_none}
use Rattle.enet_chat.proofs.relaying.Relay.step_without_room.Goals as goal

pub returns-then-not-hears_of_one_held_back-clause-relays : goal.returns-then-not-hears_of_one_held_back-clause-relays
returns-then-not-hears_of_one_held_back-clause-relays g c = relays_none _ _ (refl, refl) refl refl refl refl
