use Rattle.std.proofs.Common.{◌+◌, refl, sym, ◌∙◌, arith, length-drop}
use Rattle.std.proofs.lemmas.List.{take_all}
use Rattle.enet_console.proofs.PieceLemmas.{pieces-one, pieces-more}
use Rattle.enet_console.proofs.word.at_space.Goals as goal

pub returns-in_err-space-clause-pieces : goal.returns-in_err-space-clause-pieces
returns-in_err-space-clause-pieces c = rw c.from_residual.ensures (pieces-one c.args.text.now (sym c.space_in.ensures ∙ c.in_err-space.was))

pub returns-clause-pieces : goal.returns-clause-pieces
returns-clause-pieces c = pieces-more c.args.text.now _ _ c.in_ok-space.space (sym c.space_in.ensures ∙ c.in_ok-space.was) refl
    (take_all _ _ (omega (arith, length-drop (c.in_ok-space.space + 1) c.args.text.now)))
