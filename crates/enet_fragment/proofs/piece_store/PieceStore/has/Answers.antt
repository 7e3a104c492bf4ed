use Rattle.std.proofs.Common.{refl, sym, ◌∙◌}
use Rattle.enet_fragment.specs.Collected.{contents}
use Rattle.enet_fragment.specs.Stored.{stored}
use Rattle.enet_fragment.proofs.Views.{mark_of}
use Rattle.enet_fragment.proofs.piece_store.PieceStore.has.Goals as goal

pub returns : goal.returns
returns c = c.has.ensures ∙ sym (mark_of (contents c.args.self.now.total c.args.self.now.bytes) c.args.self.now.came c.args.self.now.cut (stored c.args.self.now) c.args.number refl)
