use Rattle.std.proofs.Common.{◌≡◌, ◌⊎◌, vec_len}
use Rattle.std.specs.List.{All, Contains}
use Rattle.crossbeam_queue.specs.Passes.{view, IsPassOf}
use Rattle.enet_submit.specs.Rule.{draining, seats_in, taken_in, log, Among}
use Rattle.enet_submit.specs.Private.Rule.{finished_in}
use Rattle.enet_submit.specs.Words.{seat_of, all_sent, IsFinishedOf}
use Rattle.enet_submit.proofs.settling.take_in.Given as goal

abbrev pub invariant-loop-last : goal.invariant-loop-last
invariant-loop-last l =
    IsPassOf l.queue.ring l.pass
    × (view l.pass ≡ draining (seats_in (view l.fn.pass)) (seats_in (view l.fn.pass)) (taken_in (view l.fn.pass)) (finished_in (view l.pass)))
    × All (IsFinishedOf l.queue) l.finished.items
    × ((f : _) → Contains l.fn.finished.items f → Contains l.finished.items f ⊎ Among (log (seat_of f) (all_sent f)) (finished_in (view l.pass)))

abbrev pub decreases-loop-last : goal.decreases-loop-last
decreases-loop-last l = vec_len l.finished
