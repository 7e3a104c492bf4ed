use Rattle.std.proofs.Common.{◌≡◌, ◌∙◌, length, refl, sym, arith}
use Rattle.enet_fragment.specs.Collected.{contents}
use Rattle.enet_fragment.specs.Stored.{stored}
use Rattle.enet_fragment.proofs.Views.{is_of_size-making}
use Rattle.enet_fragment.proofs.Collecting.{length-contents}
use Rattle.enet_fragment.proofs.piece_store.PieceStore.is_of_size.Goals as goal

pub returns : goal.returns
returns c =
    let count : c.len.result ≡ length c.args.self.now.came = omega arith in
    let total = sym (length-contents c.args.self.now.total c.args.self.now.bytes c.requires.collected) in
    c.is_of_size.ensures ∙ is_of_size-making (contents c.args.self.now.total c.args.self.now.bytes) c.args.self.now.came c.args.self.now.cut (stored c.args.self.now) c.args.place _ _ refl count total
