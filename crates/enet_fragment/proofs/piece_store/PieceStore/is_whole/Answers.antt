use Rattle.std.proofs.Common.{refl}
use Rattle.enet_fragment.specs.Stored.{stored}
use Rattle.enet_fragment.specs.Collected.{contents}
use Rattle.enet_fragment.proofs.Views.{IsWhole-counted}
use Rattle.enet_fragment.proofs.piece_store.PieceStore.is_whole.Goals as goal

pub returns : goal.returns
returns c = IsWhole-counted (contents c.args.self.now.total c.args.self.now.bytes) c.args.self.now.came c.args.self.now.missing c.args.self.now.cut (stored c.args.self.now) refl c.requires.kept.counted
