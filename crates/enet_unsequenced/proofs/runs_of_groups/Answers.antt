use Rattle.enet_unsequenced.proofs.InOrderLemmas.{all_dispatched}
use Rattle.enet_unsequenced.proofs.OnceLemmas.{each_once}
use Rattle.enet_unsequenced.proofs.runs_of_groups.Goals as goal

pub returns : goal.returns
returns c = record { at_most_once = each_once; in_order = all_dispatched }
