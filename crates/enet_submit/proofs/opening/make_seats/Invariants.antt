use Rattle.std.proofs.Common.{◌≡◌, [], length}
use Rattle.std.specs.Vec.{vec_capacity}
use Rattle.crossbeam_queue.specs.Passes.{view, IsPassOf}
use Rattle.enet_submit.specs.Rule.{draining}
use Rattle.enet_submit.specs.Words.{seats_of, EachFrom, IsSeatOf, IsNew}
use Rattle.enet_submit.proofs.opening.make_seats.Given as goal

abbrev pub invariant-loop-number : goal.invariant-loop-number
invariant-loop-number l =
    IsPassOf l.queue.ring l.pass × (view l.pass ≡ draining (seats_of l.queue) l.number [] []) × (length l.all.items ≡ l.number)
    × EachFrom 0 (λ k s. IsSeatOf l.queue s × IsNew k s) l.all.items × (vec_capacity l.all ≡ seats_of l.queue)
