use Rattle.std.proofs.Common.{List, ◌∷◌, ◌++◌, length, refl, sym, ◌∙◌, ap}
use Rattle.enet_codec.specs.declared.event.Event.{Event}
use Rattle.enet_submit.specs.declared.order.Order.{Order}
use Rattle.enet_chat.specs.Lone.{counted_on}
use Rattle.enet_chat.proofs.Relays.{none_added}
use Rattle.enet_chat.proofs.Expansions.{expands_none, expands_event}
use Rattle.enet_chat.proofs.lone.LoneRelay.expand_one.Goals as goal

pub returns-clause-expands : goal.returns-clause-expands
returns-clause-expands c =
    expands_event c.args.self.now c.count.new.self c.in-Some.event.now (c.in-Some.ensures.first ∙ ap (λ (es : List Event). c.in-Some.event.now ∷ es) (sym (c.count.ensures.same.1 ∙ c.drop_first.ensures)))
    (c.count.ensures.same.0 ∙ c.in_ok-note.ensures.noted)
    (c.count.ensures.same.2 ∙ c.in_ok-add.ensures.added ∙ ap (λ (os : List Order). c.args.self.now.orders ++ os) (c.from_vec.ensures.items ∙ c.in_ok-orders.ensures.orders))
    c.count.ensures.expanded
    (c.count.ensures.asked ∙ ap (counted_on c.args.self.now.asked) (c.len-asked.ensures ∙ c.in_ok-orders.orders.ok.0 ∙ ap length c.in_ok-orders.ensures.orders))

pub returns-in_err-orders-clause-expands : goal.returns-in_err-orders-clause-expands
returns-in_err-orders-clause-expands c = expands_none _ _ refl refl refl refl refl

pub returns-in_err-add-clause-expands : goal.returns-in_err-add-clause-expands
returns-in_err-add-clause-expands c = expands_none _ _ refl refl c.in_err-add.ensures.same refl refl

pub returns-in_err-note-clause-expands : goal.returns-in_err-note-clause-expands
returns-in_err-note-clause-expands c =
    expands_none _ _ refl c.in_err-note.ensures.same
    (none_added _ _ _ _ c.in_err-note.ensures.memory.1 (c.in_ok-add.ensures.added ∙ ap (λ (os : List Order). c.args.self.now.orders ++ os) (c.from_vec.ensures.items ∙ c.in_ok-orders.ensures.orders)))
    refl refl

pub returns-in_default-clause-expands : goal.returns-in_default-clause-expands
returns-in_default-clause-expands c = expands_none _ _ refl refl refl refl refl
