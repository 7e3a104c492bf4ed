use Rattle.std.proofs.Common.{◌≡◌, ◌+◌, ℕ, List, length, ap, sym, subst, ◌∙◌}
use Rattle.enet_slot.specs.Slotted.{all_shown}
use Rattle.enet_sleepers.specs.Places.{first_cell}
use Rattle.enet_sleepers.specs.Seating.{Seating, KeepsSeats}
use Rattle.enet_sleepers.specs.Private.Seating.{KnownInNone}
use Rattle.enet_sleepers.specs.contracts.seats.Seats.{the_view}
use Rattle.enet_sleepers.proofs.Found.{known-nowhere, none-then}
use Rattle.enet_sleepers.proofs.seats.Seats.known_at.Goals as goal

pub returns-in-None-clause-none : goal.returns-in-None-clause-none
returns-in-None-clause-none c =
    let from = c.args.from in
    let word = c.args.connect_id in
    let slots = all_shown c.args.slots.now in
    let v = the_view c.self.inside in
    let first = c.first_cell-first.result in
    let kept = subst (λ (x : Seating). KeepsSeats x slots) (sym c.self.view_is) c.requires in
    let is : first ≡ first_cell v.key (length v.cells) from word = c.first_cell-first.ensures.is ∙ ap (λ (n : ℕ). first_cell v.key n from word) (c.len.ensures ∙ c.self.inside.cells.ok.0) in
    let cells = subst (λ (xs : List ℕ). KnownInNone from word slots xs first (first + 8)) c.deref.ensures.value c.in-None.ensures.none in
    none-then c.known_in.result (λ nowhere. known-nowhere from word first v slots kept is cells nowhere) c.known_in.ensures.none
