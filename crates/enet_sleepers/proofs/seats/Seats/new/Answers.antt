use Rattle.std.proofs.Common.{Bool, false, List, length, sym, ap, ◌∙◌}
use Rattle.std.proofs.lemmas.List.{length-replicate}
use Rattle.enet_sleepers.specs.contracts.seats.Seats.{the_view}
use Rattle.enet_sleepers.proofs.Found.{seats-nobody}
use Rattle.enet_sleepers.proofs.seats.Seats.new.Goals as goal

pub returns-clause-kept : goal.returns-clause-kept
returns-clause-kept c = λ slots count nobody.
    let v = the_view (record { key = c.key_of.result; cells = c.in-Ok.cells; others = c.in-Ok-new.others; taken = c.in-Ok-vec.taken; rows = c.in-Ok-new-2.rows; row = c.in-Ok-vec-2.row }) in
    seats-nobody v slots (ap (λ (bits : List Bool). length bits) c.in-Ok-new.ensures ∙ length-replicate {A = Bool} c.from-3.result false ∙ c.from-3.ensures ∙ sym count) nobody
