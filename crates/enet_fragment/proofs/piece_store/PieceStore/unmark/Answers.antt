use Rattle.std.proofs.Common.{arith, false, refl, ap, ◌∙◌, sym}
use Rattle.std.proofs.Math.ListN.{set}
use Rattle.std.proofs.lemmas.List.{length-set}
use Rattle.enet_fragment.specs.Assembly.{making_of}
use Rattle.enet_fragment.specs.Collected.{contents}
use Rattle.enet_fragment.specs.Stored.{stored}
use Rattle.enet_fragment.proofs.Pieces.{missing_in-unset, missing_in-le}
use Rattle.enet_fragment.proofs.Views.{AreKept-unmarked, making_of-unmarked, mark_of, without_piece-missing, marked-inside}
use Rattle.enet_fragment.proofs.piece_store.PieceStore.unmark.Goals as goal

pub unmark-requires : goal.unmark-requires
unmark-requires c = marked-inside c.args.self.now.came c.args.number (sym c.has.ensures ∙ c.if-has.true)

pub overflow_add-self : goal.overflow_add-self
overflow_add-self c =
    let came = c.args.self.now.came in
    let marked = sym c.has.ensures ∙ c.if-has.true in
    let more = missing_in-unset came c.args.number (marked-inside came c.args.number marked) marked in
    let at_most = missing_in-le (set came c.args.number false) in
    omega (arith, length-set came c.args.number false, c.requires.kept.counted, c.requires.kept.small_count)

pub returns-then-has-clause-stored : goal.returns-then-has-clause-stored
returns-then-has-clause-stored c =
    let marked = sym c.has.ensures ∙ c.if-has.true in
    record {
      kept = rw c.unmark.ensures (AreKept-unmarked _ _ _ _ c.args.number c.requires.kept (marked-inside c.args.self.now.came c.args.number marked) marked);
      collected = c.requires.collected;
    }

pub returns-then-has-clause-ok : goal.returns-then-has-clause-ok
returns-then-has-clause-ok c =
    let s = c.args.self.now in
    ap (λ marks. making_of (contents s.total s.bytes) marks s.cut) c.unmark.ensures ∙ making_of-unmarked (contents s.total s.bytes) s.came s.cut (stored s) c.args.number refl

pub returns-else-has-clause-ok : goal.returns-else-has-clause-ok
returns-else-has-clause-ok c = without_piece-missing (stored c.args.self.now) c.args.number (mark_of (contents c.args.self.now.total c.args.self.now.bytes) c.args.self.now.came c.args.self.now.cut (stored c.args.self.now) c.args.number refl ∙ sym c.has.ensures ∙ c.if-has.false)
