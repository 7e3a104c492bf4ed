use Rattle.std.proofs.Common.{◌≡◌, ◌⊎◌, vec_len}
use Rattle.std.specs.List.{All, Contains}
use Rattle.crossbeam_queue.specs.Passes.{view, IsPassOf}
use Rattle.enet_events.specs.Rule.{posting, takers_of, known_of, posted_of, share, Among}
use Rattle.enet_events.specs.Private.Rule.{made_of}
use Rattle.enet_events.proofs.takers.take_in.Given as goal

abbrev pub invariant-loop-last : goal.invariant-loop-last
invariant-loop-last l =
    IsPassOf l.ring l.pass
    × (view l.pass ≡ posting (takers_of (view l.fn.pass)) (made_of (view l.fn.pass)) (posted_of (view l.fn.pass)) (known_of (view l.pass)))
    × All (λ t. t.queue.table ≡ l.ring.table.shared.table_id) l.takers.items
    × ((t : _) → Contains l.fn.takers.items t → Contains l.takers.items t ⊎ Among (share t.index t.taken) (known_of (view l.pass)))

abbrev pub decreases-loop-last : goal.decreases-loop-last
decreases-loop-last l = vec_len l.takers
