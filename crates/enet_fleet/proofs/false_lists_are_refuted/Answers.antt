use Rattle.enet_fleet.proofs.Refuting.{tied, alone, lied, swapped, lent, too-early, led-astray, mirrored, slipped, crossed, doubled, taken-twice}
use Rattle.enet_fleet.proofs.false_lists_are_refuted.Goals as goal

pub returns-clause-named : goal.returns-clause-named
returns-clause-named c = tied

pub returns-clause-own : goal.returns-clause-own
returns-clause-own c = alone

pub returns-clause-lie : goal.returns-clause-lie
returns-clause-lie c = lied

pub returns-clause-swap : goal.returns-clause-swap
returns-clause-swap c = swapped

pub returns-clause-loan : goal.returns-clause-loan
returns-clause-loan c = lent

pub returns-clause-early : goal.returns-clause-early
returns-clause-early c = too-early

pub returns-clause-astray : goal.returns-clause-astray
returns-clause-astray c = led-astray

pub returns-clause-mirror : goal.returns-clause-mirror
returns-clause-mirror c = mirrored

pub returns-clause-slip : goal.returns-clause-slip
returns-clause-slip c = slipped

pub returns-clause-cross : goal.returns-clause-cross
returns-clause-cross c = crossed

pub returns-clause-double : goal.returns-clause-double
returns-clause-double c = doubled

pub returns-clause-twice : goal.returns-clause-twice
returns-clause-twice c = taken-twice
