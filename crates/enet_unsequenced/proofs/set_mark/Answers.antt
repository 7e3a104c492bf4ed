use Rattle.std.proofs.Common.{◌≡◌, length, refl, arith}
use Rattle.enet_unsequenced.proofs.Words.{marks_in-set-at}
use Rattle.enet_unsequenced.proofs.set_mark.Goals as goal

pub returns : goal.returns
returns c = λ count.
    let words = c.args.words.now in
    let long : length words ≡ 16 = search in
    marks_in-set-at count words c.args.place c.from.result _ c.from.ensures (omega (arith, c.from.ensures, c.requires)) refl
