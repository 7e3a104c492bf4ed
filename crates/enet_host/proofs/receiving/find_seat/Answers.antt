use Rattle.std.proofs.Common.{sym, subst, arith}
use Rattle.enet_slot.specs.declared.all.Seat.{Seat}
use Rattle.enet_slot.specs.Giving.{basis_of}
use Rattle.enet_slot.specs.Seating.{IsSeat}
use Rattle.enet_slot.specs.Slotted.{all_shown}
use Rattle.enet_slot.proofs.Shown.{length-shown}
use Rattle.enet_host.specs.Private.Receiving.{IsSeatOf}
use Rattle.enet_host.proofs.Offering.{free-at, free-nowhere, seat-placed}
use Rattle.enet_host.proofs.receiving.find_seat.Goals as goal

pub seat_for-requires-clause-sleepers : goal.seat_for-requires-clause-sleepers
seat_for-requires-clause-sleepers c = (c.args.start.now.clock, c.requires.sleepers)

pub returns-in-Known-clause-seat : goal.returns-in-Known-clause-seat
returns-in-Known-clause-seat c = subst (λ (s : Seat). IsSeat c.args.from c.args.connect_id c.args.start.now.config.generations (all_shown c.args.slots.now) s) c.in-Known.is c.seat_for.ensures

-- ---- one is free

pub seat-requires-clause-free : goal.seat-requires-clause-free
seat-requires-clause-free c =
    free-at c.args.from c.args.connect_id c.args.start.now.config (all_shown c.args.slots.now) c.in-At.place
    (subst (λ (s : Seat). IsSeat c.args.from c.args.connect_id c.args.start.now.config.generations (all_shown c.args.slots.now) s) c.in-At.is c.seat_for.ensures)

pub seat-requires-clause-within : goal.seat-requires-clause-within
seat-requires-clause-within c =
    let found = subst (λ (s : Seat). IsSeat c.args.from c.args.connect_id c.args.start.now.config.generations (all_shown c.args.slots.now) s) c.in-At.is c.seat_for.ensures in
    let within = found.2 in
    let count = length-shown c.args.slots.now in
    omega (arith, within, count)

pub returns-in-At-clause-seat : goal.returns-in-At-clause-seat
returns-in-At-clause-seat c =
    let found = subst (λ (s : Seat). IsSeat c.args.from c.args.connect_id c.args.start.now.config.generations (all_shown c.args.slots.now) s) c.in-At.is c.seat_for.ensures in
    subst (λ (s : Seat). IsSeatOf (basis_of c.args.start.now) c.args.from c.args.connect_id (all_shown c.args.slots.now) s) (sym c.placed.ensures)
    (seat-placed (basis_of c.args.start.now) c.args.from c.args.connect_id c.args.slots.now c.seat.result found.0 c.seat.ensures.seat c.seat.ensures.within)

-- ---- none is

pub seat-requires-in-Full-clause-free : goal.seat-requires-in-Full-clause-free
seat-requires-in-Full-clause-free c =
    free-nowhere c.args.from c.args.connect_id c.args.start.now.config (all_shown c.args.slots.now)
    (subst (λ (s : Seat). IsSeat c.args.from c.args.connect_id c.args.start.now.config.generations (all_shown c.args.slots.now) s) c.in-Full.is c.seat_for.ensures)

pub returns-in-Full-clause-seat : goal.returns-in-Full-clause-seat
returns-in-Full-clause-seat c =
    let found = subst (λ (s : Seat). IsSeat c.args.from c.args.connect_id c.args.start.now.config.generations (all_shown c.args.slots.now) s) c.in-Full.is c.seat_for.ensures in
    subst (λ (s : Seat). IsSeatOf (basis_of c.args.start.now) c.args.from c.args.connect_id (all_shown c.args.slots.now) s) (sym c.placed-in-Full.ensures)
    (seat-placed (basis_of c.args.start.now) c.args.from c.args.connect_id c.args.slots.now c.seat-in-Full.result found.0 c.seat-in-Full.ensures.seat c.seat-in-Full.ensures.within)
