use Rattle.law_one_end.proofs.Confirming.{answering-confirmed}
use Rattle.law_one_end.proofs.who_is_told.Goals as goal

pub returns : goal.returns
returns c = answering-confirmed
