use Rattle.std.proofs.Common.{◌+◌, sym, ap, ◌∙◌, arith, length-drop}
use Rattle.std.proofs.lemmas.List.{take_all}
use Rattle.enet_console.specs.Seconds.{at_point, with_parts}
use Rattle.std.specs.Prelude.{take}
use Rattle.enet_console.proofs.seconds.microseconds_of.Goals as goal

pub returns-in-None : goal.returns-in-None
returns-in-None c = c.whole_of.ensures.value ∙ ap (at_point c.args.word.now) (sym (sym c.point_in.ensures ∙ c.in-None.is))

pub returns-in-Some : goal.returns-in-Some
returns-in-Some c =
    let word = c.args.word.now in
    let point = c.in-Some.point in
    c.with_parts.ensures ∙ ap (with_parts (take point word)) (take_all _ _ (omega (arith, length-drop (point + 1) word)))
    ∙ ap (at_point word) (sym (sym c.point_in.ensures ∙ c.in-Some.is))
