use Rattle.std.proofs.Common.{◌<◌, length, ap, sym, ◌∙◌, arith}
use Rattle.enet_slot.specs.Receiving.{is_connection}
use Rattle.enet_slot.specs.Slotted.{shown, all_shown}
use Rattle.enet_slot.proofs.Shown.{length-shown}
use Rattle.enet_sleepers.proofs.Keeping.{in-inside}
use Rattle.enet_sleepers.proofs.Offered.{shown-at, nowhere-passed, nowhere-more}
use Rattle.enet_sleepers.proofs.seats.known_in.Goals as goal

pub returns-then-is_connection-clause-found : goal.returns-then-is_connection-clause-found
returns-then-is_connection-clause-found c =
    let slots = c.args.slots.now in
    let number = c.in_ok-number.number in
    let slot = c.index-slots-number.result in
    let p = is_connection c.args.from c.args.connect_id in
    let within : number < length slots = omega (arith, in-inside c.args.set.now number c.in_ok-number.ensures.1, c.requires, length-shown slots) in
    (omega (arith, within, length-shown slots), ap p (shown-at slots number slot within c.index-slots-number.is) ∙ sym c.is_connection.ensures ∙ c.if-is_connection.true)

pub loop-place-preserved : goal.loop-place-preserved
loop-place-preserved c =
    let slots = c.args.slots.now in
    let number = c.in_ok-number.number in
    let slot = c.index-slots-number.result in
    let set = c.args.set.now in
    let within : number < length slots = omega (arith, in-inside set number c.in_ok-number.ensures.1, c.requires, length-shown slots) in
    nowhere-more c.args.from c.args.connect_id number (all_shown slots) set (shown slot) (shown-at slots number slot within c.index-slots-number.is) (sym c.is_connection.ensures ∙ c.if-is_connection.false)
    (nowhere-passed c.args.from c.args.connect_id c.loop-place.place number (all_shown slots) set c.in_ok-number.ensures.2 c.loop-place.invariant)
