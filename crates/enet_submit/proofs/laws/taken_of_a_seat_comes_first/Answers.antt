use Rattle.enet_submit.proofs.Rules.{taken_first}
use Rattle.enet_submit.proofs.laws.taken_of_a_seat_comes_first.Goals as goal

pub returns : goal.returns
returns c = taken_first
