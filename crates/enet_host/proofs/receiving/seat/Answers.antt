use Rattle.std.proofs.Common.{Some, None, refl, sym, ◌∙◌}
use Rattle.enet_slot.specs.Giving.{basis_of}
use Rattle.enet_slot.specs.Slotted.{all_shown}
use Rattle.enet_host.proofs.Offering.{seat-any, seat-own}
use Rattle.enet_host.proofs.receiving.seat.Goals as goal

pub returns-then-is_address_full-clause-seat : goal.returns-then-is_address_full-clause-seat
returns-then-is_address_full-clause-seat c =
    seat-own (basis_of c.args.start.now) c.args.from (all_shown c.args.slots.now) c.is_address_full.result c.oldest_guest.result c.is_address_full.ensures c.if-is_address_full.true c.oldest_guest.ensures.oldest

pub returns-in-Some-clause-seat : goal.returns-in-Some-clause-seat
returns-in-Some-clause-seat c =
    seat-any (basis_of c.args.start.now) c.args.from (all_shown c.args.slots.now) c.is_address_full.result (Some c.in-Some.place) (Some c.in-Some.place) c.is_address_full.ensures c.if-is_address_full.false
    (sym c.in-Some.is ∙ c.requires.free) refl

pub returns-in-None-clause-seat : goal.returns-in-None-clause-seat
returns-in-None-clause-seat c =
    seat-any (basis_of c.args.start.now) c.args.from (all_shown c.args.slots.now) c.is_address_full.result None c.oldest_seat.result c.is_address_full.ensures c.if-is_address_full.false
    (sym c.in-None.is ∙ c.requires.free) c.oldest_seat.ensures.seat
