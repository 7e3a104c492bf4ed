use Rattle.enet_outbox.proofs.Spelled.{datagram-spelled}
use Rattle.enet_outbox.proofs.laws.what_goes_is_spelled.Goals as goal

pub returns : goal.returns
returns c = datagram-spelled
