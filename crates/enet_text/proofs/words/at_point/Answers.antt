use Rattle.std.proofs.Common.{◌+◌, refl, sym, ◌∙◌, arith, length-drop}
use Rattle.std.proofs.lemmas.List.{take_all}
use Rattle.enet_text.proofs.WordLemmas.{parts-one, parts-more}
use Rattle.enet_text.proofs.words.at_point.Goals as goal

pub returns-in_err-point : goal.returns-in_err-point
returns-in_err-point c = rw c.from_residual.ensures (parts-one c.args.text.now (sym c.point_in.ensures ∙ c.in_err-point.was))

pub returns : goal.returns
returns c = parts-more c.args.text.now _ _ c.in_ok-point.point (sym c.point_in.ensures ∙ c.in_ok-point.was) refl
    (take_all _ _ (omega (arith, length-drop (c.in_ok-point.point + 1) c.args.text.now)))
