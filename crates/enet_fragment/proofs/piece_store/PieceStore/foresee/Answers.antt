use Rattle.std.proofs.Common.{true, false, ◌≡◌, eqb, refl, sym, ◌∙◌, arith}
use Rattle.enet_fragment.specs.Collected.{contents}
use Rattle.std.proofs.lemmas.Bool.Decides.{nat_tests}
use Rattle.enet_fragment.specs.Stored.{stored}
use Rattle.enet_fragment.proofs.Places.{outcome_again, outcome_whole, outcome_new}
use Rattle.enet_fragment.proofs.Views.{mark_of, others_of, inside_of}
use Rattle.enet_fragment.proofs.piece_store.PieceStore.foresee.Goals as goal

pub returns-then-has : goal.returns-then-has
returns-then-has c =
    let m = stored c.args.self.now in
    let belongs = sym c.belongs.ensures ∙ c.if-not-belongs.false in
    let mark = sym c.has.ensures ∙ c.if-has.true in
    outcome_again m c.args.place belongs (mark_of (contents c.args.self.now.total c.args.self.now.bytes) c.args.self.now.came c.args.self.now.cut m c.args.place.number refl ∙ mark)

pub returns-then-self-eq1 : goal.returns-then-self-eq1
returns-then-self-eq1 c =
    let m = stored c.args.self.now in
    let belongs = sym c.belongs.ensures ∙ c.if-not-belongs.false in
    let inside = inside_of (contents c.args.self.now.total c.args.self.now.bytes) c.args.self.now.came c.args.self.now.cut m c.args.place refl belongs in
    let mark = sym c.has.ensures ∙ c.if-has.false in
    let one : eqb c.args.self.now.missing 1 ≡ true = grind (arith, nat_tests) in
    outcome_whole m c.args.place belongs (mark_of (contents c.args.self.now.total c.args.self.now.bytes) c.args.self.now.came c.args.self.now.cut m c.args.place.number refl ∙ mark)
    (others_of (contents c.args.self.now.total c.args.self.now.bytes) c.args.self.now.came c.args.self.now.missing c.args.self.now.cut m c.args.place.number refl c.requires.kept.counted inside mark ∙ one)

pub returns-else-self-eq1 : goal.returns-else-self-eq1
returns-else-self-eq1 c =
    let m = stored c.args.self.now in
    let belongs = sym c.belongs.ensures ∙ c.if-not-belongs.false in
    let inside = inside_of (contents c.args.self.now.total c.args.self.now.bytes) c.args.self.now.came c.args.self.now.cut m c.args.place refl belongs in
    let mark = sym c.has.ensures ∙ c.if-has.false in
    let more : eqb c.args.self.now.missing 1 ≡ false = grind (arith, nat_tests) in
    outcome_new m c.args.place belongs (mark_of (contents c.args.self.now.total c.args.self.now.bytes) c.args.self.now.came c.args.self.now.cut m c.args.place.number refl ∙ mark)
    (others_of (contents c.args.self.now.total c.args.self.now.bytes) c.args.self.now.came c.args.self.now.missing c.args.self.now.cut m c.args.place.number refl c.requires.kept.counted inside mark ∙ more)
