use Rattle.enet_slot.specs.Slotted.{all_shown}
use Rattle.enet_sleepers.proofs.Offered.{seat-known}
use Rattle.enet_sleepers.proofs.offers.seat_for.Goals as goal

pub returns-in-Some : goal.returns-in-Some
returns-in-Some c = seat-known c.args.from c.args.connect_id c.args.generations c.in-Some.place (all_shown c.args.slots.now) c.in-Some.ensures.found
