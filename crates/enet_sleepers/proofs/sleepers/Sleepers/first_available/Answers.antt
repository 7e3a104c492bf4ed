use Rattle.std.proofs.Common.{◌≤◌, length, sym, arith}
use Rattle.enet_slot.specs.Slotted.{all_shown}
use Rattle.enet_slot.proofs.Shown.{length-shown}
use Rattle.enet_sleepers.proofs.Offered.{first-none, found, none-at-all}
use Rattle.enet_sleepers.proofs.sleepers.Sleepers.first_available.Goals as goal

pub returns-then-first-slots-clause-first : goal.returns-then-first-slots-clause-first
returns-then-first-slots-clause-first c =
    let slots = all_shown c.args.slots.now in
    let first = c.first_awake-first.result in
    let last = c.first_free-last.result in
    let len = length-shown c.args.slots.now in
    let within = c.first_awake-first.ensures.within in
    let inside : last ≤ length slots = omega (arith, c.first_free-last.ensures.within, len) in
    sym (found c.args.generations first last slots within (omega (arith, c.if-first-slots.true, len)) c.first_awake-first.ensures.here (λ less. c.first_free-last.ensures.here (omega (arith, less, len)))
    (none-at-all c.args.generations c.requires.0 first last c.args.self.now slots c.requires.1 within inside c.first_free-last.ensures.before c.first_awake-first.ensures.before))

pub returns-else-first-slots-clause-first : goal.returns-else-first-slots-clause-first
returns-else-first-slots-clause-first c =
    let slots = all_shown c.args.slots.now in
    let first = c.first_awake-first.result in
    let last = c.first_free-last.result in
    let len = length-shown c.args.slots.now in
    let within = c.first_awake-first.ensures.within in
    let inside : last ≤ length slots = omega (arith, c.first_free-last.ensures.within, len) in
    sym (first-none c.args.generations slots first (omega (arith, c.if-first-slots.false, len))
    (none-at-all c.args.generations c.requires.0 first last c.args.self.now slots c.requires.1 within inside c.first_free-last.ensures.before c.first_awake-first.ensures.before))
