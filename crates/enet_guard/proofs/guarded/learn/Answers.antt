use Rattle.std.proofs.Common.{◌∙◌}
use Rattle.enet_guard.proofs.Learning.{learned_more}
use Rattle.enet_guard.proofs.guarded.learn.Goals as goal

pub loop-slot-preserved : goal.loop-slot-preserved
loop-slot-preserved c =
    let inv = c.loop-slot.invariant in
    (learned_more c.args.guard.now c.loop-slot.guard c.seat.new.self c.loop-slot.slot c.seated.result inv.0 c.seat.ensures.seated, c.seat.ensures.ruling ∙ inv.1)
