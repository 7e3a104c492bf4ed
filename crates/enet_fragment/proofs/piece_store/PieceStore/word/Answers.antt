use Rattle.std.proofs.Common.{◌+◌, ◌*◌, refl, sym, ◌∙◌}
use Rattle.enet_fragment.specs.Collected.{contents}
use Rattle.std.proofs.lemmas.Option.{IfSome_then}
use Rattle.enet_fragment.specs.Stored.{stored}
use Rattle.enet_fragment.proofs.Views.{mark_of, count_of-making}
use Rattle.enet_fragment.proofs.piece_store.PieceStore.word.Goals as goal

pub returns-clause-bits : goal.returns-clause-bits
returns-clause-bits c = IfSome_then c.word.result c.word.ensures.bits (λ w h i low. h i low ∙ sym (mark_of (contents c.args.self.now.total c.args.self.now.bytes) c.args.self.now.came c.args.self.now.cut (stored c.args.self.now) (32 * c.args.j + i) refl))

pub returns-clause-there : goal.returns-clause-there
returns-clause-there c = rw (count_of-making (contents c.args.self.now.total c.args.self.now.bytes) c.args.self.now.came c.args.self.now.cut (stored c.args.self.now) refl) c.word.ensures.there
