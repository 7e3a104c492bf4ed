use Rattle.std.proofs.Common.{sym}
use Rattle.enet_fragment.proofs.Collecting.{length-contents}
use Rattle.enet_fragment.proofs.piece_store.PieceStore.total.Goals as goal

pub returns : goal.returns
returns c = sym (length-contents c.args.self.now.total c.args.self.now.bytes c.requires.collected)
