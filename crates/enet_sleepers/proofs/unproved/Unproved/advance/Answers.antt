use Rattle.std.proofs.Common.{◌≡◌, length, sym, ap, subst, ◌∙◌, arith}
use Rattle.enet_slot.proofs.Shown.{length-shown}
use Rattle.enet_slot.specs.Slotted.{all_shown}
use Rattle.enet_sleepers.specs.Unproved.{KeepsUnproved, Waiting}
use Rattle.enet_sleepers.specs.Private.Unproved.{IsNear}
use Rattle.enet_sleepers.specs.contracts.unproved.Unproved.{the_view}
use Rattle.enet_sleepers.proofs.Anew.{later-kept}
use Rattle.enet_sleepers.proofs.unproved.Unproved.advance.Goals as goal

pub note_all-requires : goal.note_all-requires
note_all-requires c =
    let count = c.requires.2.count in
    count ∙ length-shown c.args.slots.now

pub returns-then-is_far : goal.returns-then-is_far
returns-then-is_far c = λ was generations k. c.note_all.ensures generations

pub returns-else-is_far : goal.returns-else-is_far
returns-else-is_far c = λ was generations k.
    let v = the_view c.self.inside in
    let all = all_shown c.args.slots.now in
    later-kept was c.args.now c.moment_at-clock.result generations v all c.moment_at-clock.ensures.shown c.moment_at-clock.ensures.later
    (subst (λ (w : Waiting). IsNear c.moment_at-clock.result w.since) (sym c.self.view_is) (c.is_far.ensures c.if-is_far.false))
    (subst (λ (w : Waiting). KeepsUnproved was generations w all) (sym c.self.view_is) k)
