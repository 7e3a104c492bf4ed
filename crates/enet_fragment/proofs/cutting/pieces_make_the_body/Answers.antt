use Rattle.std.proofs.Common.{arith}
use Rattle.enet_fragment.proofs.Cuts.{concat-pieces_of}
use Rattle.enet_fragment.proofs.cutting.pieces_make_the_body.Goals as goal

pub returns : goal.returns
returns c = concat-pieces_of c.args._mtu c.args._body.now (omega arith)
