use Rattle.std.proofs.Common.{List, [], ◌∷◌, ◌++◌, refl, ◌∙◌, ap}
use Rattle.enet_codec.specs.declared.event.Event.{Event}
use Rattle.enet_chat.proofs.Relays.{relays_none, relays_taken}
use Rattle.enet_chat.proofs.relaying.Relay.take.Goals as goal

pub returns-then-is_err-clause-relays : goal.returns-then-is_err-clause-relays
returns-then-is_err-clause-relays g c = relays_none _ _ (refl, refl) refl c.reserve.ensures.items refl refl

pub returns-in-None-clause-relays : goal.returns-in-None-clause-relays
returns-in-None-clause-relays g c = relays_none _ _ (refl, c.in-None.ensures.queue) c.in-None.ensures.none c.reserve.ensures.items refl refl

pub returns-in-Some-clause-relays : goal.returns-in-Some-clause-relays
returns-in-Some-clause-relays g c =
    relays_taken _ _ c.in-Some.numbered (refl, c.in-Some.ensures.queue) c.in-Some.ensures.taken
    (c.push_back_reserved.ensures.items ∙ ap (λ (es : List Event). es ++ c.in-Some.numbered.event ∷ []) c.reserve.ensures.items) refl refl
