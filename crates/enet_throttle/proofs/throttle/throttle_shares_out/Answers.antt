use Rattle.enet_throttle.proofs.Sharing.{shares_out}
use Rattle.enet_throttle.proofs.throttle.throttle_shares_out.Goals as goal

pub returns : goal.returns
returns c = shares_out
