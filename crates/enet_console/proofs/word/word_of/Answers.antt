use Rattle.std.proofs.Common.{◌≡◌, IfOk, subst}
use Rattle.enet_console.proofs.PieceLemmas.{spells-lone, spells-followed}
use Rattle.enet_console.proofs.word.word_of.Goals as goal

pub returns-in-None : goal.returns-in-None
returns-in-None c = spells-lone c.args.line.now c.lone.result c.in-None.ensures.pieces c.lone.ensures

pub returns-in-Some : goal.returns-in-Some
returns-in-Some c =
    subst (λ spelled. IfOk c.followed.result (λ word. word ≡ spelled))
    (spells-followed c.args.line.now c.in-Some.word.now c.in-Some.rest.now c.in-Some.ensures.pieces c.in-Some.ensures.behind) c.followed.ensures
