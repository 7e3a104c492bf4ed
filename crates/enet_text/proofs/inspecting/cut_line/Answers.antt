use Rattle.std.proofs.Common.{◌+◌, refl, sym, ◌∙◌, arith, length-drop}
use Rattle.std.proofs.lemmas.List.{take_all}
use Rattle.enet_text.proofs.WordLemmas.{lines-one, lines-more}
use Rattle.enet_text.proofs.inspecting.cut_line.Goals as goal

pub returns-in-Some-clause-lines : goal.returns-in-Some-clause-lines
returns-in-Some-clause-lines c = lines-more c.args.input.now _ _ c.in-Some.end (sym c.line_end.ensures ∙ c.in-Some.is) refl
    (take_all _ _ (omega (arith, length-drop (c.in-Some.end + 1) c.args.input.now)))

pub returns-in-None-clause-lines : goal.returns-in-None-clause-lines
returns-in-None-clause-lines c = lines-one c.args.input.now (sym c.line_end.ensures ∙ c.in-None.is)
