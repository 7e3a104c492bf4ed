use Rattle.std.proofs.Common.{◌≡◌, IfOk, rules, subst}
use Rattle.enet_text.specs.Words.{words}
use Rattle.enet_lab.specs.EnetLines.{submit_of, stranger_of, event_of}
use Rattle.enet_lab.proofs.line.read_event.Goals as goal

pub returns-then-is : goal.returns-then-is
unfolding event_of
returns-then-is c = search rules

pub returns-then-is-2 : goal.returns-then-is-2
unfolding event_of
returns-then-is-2 c =
    let same : submit_of (words c.args.rest.now) ≡ event_of c.args.form.now (words c.args.rest.now) = search rules in
    subst (λ spelled. IfOk c.submit.result (λ read. read ≡ spelled)) same c.submit.ensures

pub returns-then-is-3 : goal.returns-then-is-3
unfolding event_of
returns-then-is-3 c = search rules

pub returns-then-is-4 : goal.returns-then-is-4
unfolding event_of
returns-then-is-4 c =
    let same : stranger_of (words c.args.rest.now) ≡ event_of c.args.form.now (words c.args.rest.now) = search rules in
    subst (λ spelled. IfOk c.stranger.result (λ read. read ≡ spelled)) same c.stranger.ensures

pub returns-then-is-5 : goal.returns-then-is-5
unfolding event_of
returns-then-is-5 c = search rules

pub returns-then-is-6 : goal.returns-then-is-6
unfolding event_of
returns-then-is-6 c = search rules

pub returns-then-is-7 : goal.returns-then-is-7
unfolding event_of
returns-then-is-7 c = search rules

pub returns-then-is-8 : goal.returns-then-is-8
unfolding event_of
returns-then-is-8 c = search rules

pub returns-then-is-9 : goal.returns-then-is-9
unfolding event_of
returns-then-is-9 c = search rules

pub returns-then-is-10 : goal.returns-then-is-10
unfolding event_of
returns-then-is-10 c = search rules

pub returns-then-is-11 : goal.returns-then-is-11
unfolding event_of
returns-then-is-11 c = search rules

pub returns : goal.returns
unfolding event_of
returns c = search rules
