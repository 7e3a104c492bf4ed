use Rattle.enet_peer.proofs.Each.{handles-each}
use Rattle.enet_peer.proofs.datagram.what_was_put_out_comes.Goals as goal

pub returns : goal.returns
returns c = handles-each
