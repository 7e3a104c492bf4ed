use Rattle.std.proofs.Common.{◌≡◌, length, refl, arith}
use Rattle.enet_fragment.specs.Collected.{contents}
use Rattle.enet_fragment.specs.PartialPacket.{count_of}
use Rattle.enet_fragment.specs.Stored.{stored}
use Rattle.enet_fragment.proofs.Views.{count_of-making}
use Rattle.enet_fragment.proofs.piece_store.PieceStore.count.Goals as goal

pub returns-clause-value : goal.returns-clause-value
returns-clause-value c =
    let many : count_of (stored c.args.self.now) ≡ length c.args.self.now.came = count_of-making (contents c.args.self.now.total c.args.self.now.bytes) c.args.self.now.came c.args.self.now.cut (stored c.args.self.now) refl in
    omega arith
