use Rattle.std.proofs.Common.{not, slice_get, ap, subst, ◌∙◌}
use Rattle.enet_slot.specs.Entering.{entered}
use Rattle.enet_slot.specs.Receiving.{IsHeardAlike}
use Rattle.enet_slot.specs.Slotted.{shown, all_shown}
use Rattle.enet_slot.proofs.Shown.{get-shown}
use Rattle.enet_sleepers.proofs.Keeping.{some-same}
use Rattle.enet_host.proofs.Receptions.{as-none, as-unconfirmed, as-counted}
use Rattle.enet_host.proofs.receiving.refuses_by.Goals as goal

pub returns-then-is_none : goal.returns-then-is_none
returns-then-is_none c = λ s there.
    as-none c.args.commands.now s c.args.start.now.config.most (entered (all_shown c.args.slots.now)) (c.is_none.ensures ∙ ap not c.if-is_none.true)

pub returns-then-not-may_confirm : goal.returns-then-not-may_confirm
returns-then-not-may_confirm c = λ s there.
    let slots = c.args.slots.now in
    let n = c.args.number in
    let slot = c.index-slots-number.result in
    as-unconfirmed c.args.commands.now s _
    (subst (IsHeardAlike c.args.commands.now) (some-same (slice_get (all_shown slots) n) (shown slot) s (get-shown slots n slot c.requires.within c.index-slots-number.is) there)
    (c.may_confirm.ensures c.if-not-may_confirm.true))

pub returns : goal.returns
returns c = λ s there. as-counted c.args.commands.now s c.refuses_at.result _ (c.refuses_at.ensures s there)
