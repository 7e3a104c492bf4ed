use Rattle.std.proofs.Common.{◌≡◌, ◌∷◌, IfOk, rules, subst}
use Rattle.enet_text.specs.Words.{words}
use Rattle.enet_lab.specs.EnetLines.{event_of, line_of}
use Rattle.enet_lab.proofs.line.read_form.Goals as goal

pub returns-then-is : goal.returns-then-is
unfolding line_of
returns-then-is c = search rules

pub returns-then-is-2 : goal.returns-then-is-2
unfolding line_of
returns-then-is-2 c = search rules

pub returns-then-is-3 : goal.returns-then-is-3
unfolding line_of
returns-then-is-3 c = search rules

pub returns-then-is-4 : goal.returns-then-is-4
unfolding line_of
returns-then-is-4 c = search rules

pub returns-then-is-5 : goal.returns-then-is-5
unfolding line_of
returns-then-is-5 c = search rules

pub returns : goal.returns
unfolding line_of
returns c =
    let same : event_of c.args.form.now (words c.args.rest.now) ≡ line_of (c.args.form.now ∷ words c.args.rest.now) = search rules in
    subst (λ spelled. IfOk c.read_event.result (λ read. read ≡ spelled)) same c.read_event.ensures
