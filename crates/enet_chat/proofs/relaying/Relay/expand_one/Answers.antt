use Rattle.std.proofs.Common.{◌≡◌, ◌<◌, List, [], ◌∷◌, ◌++◌, length, drop, get_or, refl, sym, ◌∙◌, ap, arith}
use Rattle.enet_codec.specs.declared.event.Event.{Event}
use Rattle.enet_submit.specs.declared.order.Order.{Order}
use Rattle.enet_bridge.specs.Holding.{asked}
use Rattle.enet_chat.proofs.Relays.{relays_none, relays_expanded, none_added}
use Rattle.enet_chat.proofs.relaying.Relay.expand_one.Goals as goal

first_of : (es : List Event) (e : Event) → 0 < length es → e ≡ get_or es 0 e → es ≡ e ∷ drop 1 es
first_of [] e some first = absurd (omega (arith, some))
first_of (f ∷ es) e some first = ap (λ (x : Event). x ∷ es) (sym first)

pub returns-clause-relays : goal.returns-clause-relays
returns-clause-relays c =
    relays_expanded c.args.self.now _ c.in-Some.event.now (c.in_ok-ask_all.ensures.queue, refl) refl
    (first_of _ _ c.in-Some.ensures.item.3.0 c.in-Some.ensures.lookup ∙ ap (λ (es : List Event). c.in-Some.event.now ∷ es) (sym c.pop_front.ensures.rest))
    c.in_ok-note.ensures.noted
    (c.in_ok-ask_all.ensures.added ∙ ap (λ (os : List Order). asked c.args.self.now.sender ++ os) (c.from_vec.ensures.items ∙ c.in_ok-orders.ensures.orders))

pub returns-in_err-orders-clause-relays : goal.returns-in_err-orders-clause-relays
returns-in_err-orders-clause-relays c = relays_none _ _ (refl, refl) refl refl refl refl

pub returns-in_err-ask_all-clause-relays : goal.returns-in_err-ask_all-clause-relays
returns-in_err-ask_all-clause-relays c = relays_none _ _ (c.in_err-ask_all.ensures.queue, refl) refl refl refl c.in_err-ask_all.ensures.same

pub returns-in_err-note-clause-relays : goal.returns-in_err-note-clause-relays
returns-in_err-note-clause-relays c =
    relays_none _ _ (c.in_ok-ask_all.ensures.queue, refl) refl refl c.in_err-note.ensures.same
    (none_added _ _ _ _ c.in_err-note.ensures.memory.1 (c.in_ok-ask_all.ensures.added ∙ ap (λ (os : List Order). asked c.args.self.now.sender ++ os) (c.from_vec.ensures.items ∙ c.in_ok-orders.ensures.orders)))
