use Rattle.std.proofs.Common.{refl}
use Rattle.enet_chat.proofs.Relays.{relays_none}
use Rattle.enet_chat.proofs.relaying.Relay.broadcast.Goals as goal

pub returns-then-count-lt2-clause-relays : goal.returns-then-count-lt2-clause-relays
returns-then-count-lt2-clause-relays g c = relays_none _ _ (refl, refl) refl refl refl refl
