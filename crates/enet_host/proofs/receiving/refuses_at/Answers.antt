use Rattle.enet_slot.specs.Entering.{entered}
use Rattle.enet_slot.specs.Slotted.{shown, all_shown}
use Rattle.enet_slot.proofs.Shown.{get-shown}
use Rattle.enet_sleepers.proofs.Keeping.{some-same}
use Rattle.std.proofs.Common.{slice_get, ◌∙◌}
use Rattle.enet_host.specs.Opening.{is_most}
use Rattle.enet_host.proofs.Receptions.{refuses-then, refuses-else}
use Rattle.enet_host.proofs.receiving.refuses_at.Goals as goal

pub returns-then-awaits : goal.returns-then-awaits
returns-then-awaits c = λ s there.
    let slots = c.args.slots.now in
    let n = c.args.number in
    let slot = c.index-slots-number.result in
    refuses-then c.awaits.result c.is_full.result (is_most c.args.start.now.config.most (entered (all_shown slots))) (shown slot) s c.awaits.ensures c.if-awaits.true
    (some-same (slice_get (all_shown slots) n) (shown slot) s (get-shown slots n slot c.requires.within c.index-slots-number.is) there) c.is_full.ensures

pub returns-else-awaits : goal.returns-else-awaits
returns-else-awaits c = λ s there.
    let slots = c.args.slots.now in
    let n = c.args.number in
    let slot = c.index-slots-number.result in
    c.if-awaits.false ∙ refuses-else c.awaits.result (is_most c.args.start.now.config.most (entered (all_shown slots))) (shown slot) s c.awaits.ensures c.if-awaits.false
    (some-same (slice_get (all_shown slots) n) (shown slot) s (get-shown slots n slot c.requires.within c.index-slots-number.is) there)
