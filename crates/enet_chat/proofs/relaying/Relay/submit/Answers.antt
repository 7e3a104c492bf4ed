use Rattle.std.proofs.Common.{refl}
use Rattle.enet_chat.proofs.Relays.{relays_none}
use Rattle.enet_chat.proofs.relaying.Relay.submit.Goals as goal

pub returns-clause-relays : goal.returns-clause-relays
returns-clause-relays g c = relays_none _ _ (c.submit-pumped.ensures.queue, refl) refl refl refl c.submit-pumped.ensures.kept
