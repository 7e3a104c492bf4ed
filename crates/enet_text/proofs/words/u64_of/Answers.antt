use Rattle.enet_text.proofs.WordLemmas.{number_below-is}
use Rattle.enet_text.proofs.words.u64_of.Goals as goal

pub returns : goal.returns
returns c = number_below-is _ _ _ c.number.ensures
