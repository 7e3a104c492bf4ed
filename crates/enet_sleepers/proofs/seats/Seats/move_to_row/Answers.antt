use Rattle.std.proofs.Common.{◌+◌, ◌*◌, ◌<◌, ℕ, Bool, true, List, length, slice_set, sym, ap, subst, ◌∙◌, arith}
use Rattle.enet_sleepers.specs.Seating.{Seating}
use Rattle.enet_sleepers.specs.Private.Seating.{Moves}
use Rattle.enet_sleepers.specs.contracts.seats.Seats.{the_view}
use Rattle.enet_sleepers.proofs.Found.{moves}
use Rattle.enet_sleepers.proofs.seats.Seats.move_to_row.Goals as goal

pub returns : goal.returns
returns c =
    let v = the_view c.self.inside in
    let n = c.args.number in
    let inside : n < length v.others = subst (λ (x : Seating). n < length x.others) (sym c.self.view_is) c.requires in
    let low : c.row_of-row.result < 256 = omega arith in
    subst (λ (x : Seating). Moves x n c.args.ip (record v { rows = c.insert.new.self })) c.self.view_is
    (moves v c.insert.new.self n c.args.ip c.row_noted-left.result c.row_of-row.result (c.first_of_row.result + n) (c.first_of_row-2.result + n) c.self.invariant.rows inside c.row_of-row.ensures low
    (ap (λ (m : ℕ). m + n) (c.first_of_row.ensures.is ∙ ap (λ (m : ℕ). c.row_noted-left.result * m) c.len-slots.ensures))
    (ap (λ (m : ℕ). m + n) (c.first_of_row-2.ensures.is ∙ ap (λ (m : ℕ). c.row_of-row.result * m) c.len-slots.ensures))
    (c.insert.ensures ∙ ap (λ (rows : List Bool). slice_set rows (c.first_of_row-2.result + n) true) c.remove.ensures))
