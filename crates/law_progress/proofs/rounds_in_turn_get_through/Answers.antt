use Rattle.law_progress.proofs.InTurn.{all-in-turn, begins-in-turn}
use Rattle.law_progress.proofs.rounds_in_turn_get_through.Goals as goal

pub returns-clause-through : goal.returns-clause-through
returns-clause-through c = all-in-turn

pub returns-clause-begins : goal.returns-clause-begins
returns-clause-begins c = begins-in-turn
