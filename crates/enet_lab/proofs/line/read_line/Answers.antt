use Rattle.std.proofs.Common.{◌≡◌, ◌∷◌, IfOk, rules, subst}
use Rattle.enet_text.specs.Words.{words}
use Rattle.enet_lab.specs.EnetLines.{line_of, spells}
use Rattle.enet_lab.proofs.line.read_line.Goals as goal

pub returns-then-starts_with : goal.returns-then-starts_with
unfolding spells
returns-then-starts_with c = search rules

pub returns-in-None : goal.returns-in-None
unfolding spells line_of
returns-in-None c = search rules

pub returns-in-Some : goal.returns-in-Some
unfolding spells
returns-in-Some c =
    let same : line_of (c.in-Some.form.now ∷ words c.in-Some.rest.now) ≡ spells c.args.line.now = search rules in
    subst (λ spelled. IfOk c.read_form.result (λ read. read ≡ spelled)) same c.read_form.ensures
