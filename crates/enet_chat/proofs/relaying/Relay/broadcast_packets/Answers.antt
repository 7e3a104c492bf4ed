use Rattle.std.proofs.Common.{List, ◌++◌, take, take-append-drop, refl, sym, ◌∙◌, ap}
use Rattle.enet_codec.specs.declared.event.Event.{Event}
use Rattle.enet_chat.proofs.Relays.{relays_none, relays_packets}
use Rattle.enet_chat.proofs.relaying.Relay.broadcast_packets.Goals as goal

pub returns-in_default-clause-relays : goal.returns-in_default-clause-relays
returns-in_default-clause-relays g c = relays_none _ _ (refl, refl) refl refl refl refl

pub returns-in-Err-clause-relays : goal.returns-in-Err-clause-relays
returns-in-Err-clause-relays g c = relays_none _ _ (c.submit_behind.ensures.queue, refl) refl refl refl c.in-Err.ensures.back.1

pub returns-clause-relays : goal.returns-clause-relays
returns-clause-relays g c =
    let items = c.args.self.now.backlog.items in
    let first = take c.args.count items in
    relays_packets c.args.self.now _ first _ c.requires.packets c.in-Some.ensures.orders (c.submit_behind.ensures.queue, refl) refl
    (sym (take-append-drop c.args.count items) ∙ ap (λ (es : List Event). first ++ es) (sym c.drop_first.ensures)) refl c.in_default-submit_behind.ensures.added
