use Rattle.enet_fleet.proofs.Told.{each-list}
use Rattle.enet_fleet.proofs.each_list_is_kept.Goals as goal

pub returns : goal.returns
returns c = each-list
