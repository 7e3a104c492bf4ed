use Rattle.std.proofs.Common.{List, ◌++◌, take, take-append-drop, refl, sym, ◌∙◌, ap}
use Rattle.enet_codec.specs.declared.event.Event.{Event}
use Rattle.enet_chat.proofs.Relays.{relays_none, relays_packets}
use Rattle.enet_chat.proofs.relaying.Relay.expand_packets.Goals as goal

pub returns-clause-relays : goal.returns-clause-relays
returns-clause-relays c =
    let items = c.args.self.now.backlog.items in
    let first = take c.args.count items in
    relays_packets c.args.self.now _ first c.in_ok-orders.orders.items c.requires.packets c.in_ok-orders.ensures.orders (c.in_ok-ask_all.ensures.queue, refl) refl
    (sym (take-append-drop c.args.count items) ∙ ap (λ (es : List Event). first ++ es) (sym c.drop_first.ensures)) refl c.in_ok-ask_all.ensures.added

pub returns-in_err-orders-clause-relays : goal.returns-in_err-orders-clause-relays
returns-in_err-orders-clause-relays c = relays_none _ _ (refl, refl) refl refl refl refl

pub returns-in_err-ask_all-clause-relays : goal.returns-in_err-ask_all-clause-relays
returns-in_err-ask_all-clause-relays c = relays_none _ _ (c.in_err-ask_all.ensures.queue, refl) refl refl refl c.in_err-ask_all.ensures.same
