use Rattle.std.proofs.Common.{◌≡◌, ◌<◌, List, length, refl, sym, ap, subst, ◌∙◌, arith}
use Rattle.enet_sender.specs.Due.{SendingEnd, with_submitted}
use Rattle.enet_senders.specs.Made.{all_ends}
use Rattle.enet_senders.proofs.Each.{where-ok}
use Rattle.enet_senders.proofs.Sets.{slice_get-some}
use Rattle.enet_senders.proofs.Made.{all_length, all_made, made_there, made_set, same_long, where-err}
use Rattle.enet_senders.proofs.channels.Senders.submit.Goals.{After-make_up_to}
use Rattle.enet_senders.proofs.channels.Senders.submit.Goals as goal

pub make_up_to-requires-clause-there : goal.make_up_to-requires-clause-there
make_up_to-requires-clause-there c =
    let i = c.self.inside in
    let long : length c.args.self.now ≡ i.count = ap (λ (es : List SendingEnd). length es) (sym c.self.view_is) ∙ all_length i.count i.made c.self.invariant in
    subst (λ n. c.args.channel < n) long c.requires.channel

-- and all are as before
same : (c : After-make_up_to) → all_ends c.self.inside.count c.make_up_to.new.self ≡ c.args.self.now
same c = all_made c.self.inside.count c.self.inside.made c.make_up_to.new.self c.make_up_to.ensures.made c.make_up_to.ensures.within ∙ c.self.view_is

pub returns-then-not-make_up_to-clause-refused : goal.returns-then-not-make_up_to-clause-refused
returns-then-not-make_up_to-clause-refused c = (same (goal.at.returns-then-not-make_up_to-clause-refused c).After-make_up_to, refl)

pub invariant_of-self-2 : goal.invariant_of-self-2
invariant_of-self-2 c =
    let low = c.make_up_to.ensures.done c.if-not-make_up_to.false in
    let one = slice_get-some c.make_up_to.new.self c.args.channel low in
    let long = same_long _ c.submit.result c.make_up_to.new.self c.submit.new.self c.args.channel _ (c.submit.ensures.queued one.0 one.1) c.submit.ensures.refused in
    let most = c.make_up_to.ensures.within in
    omega arith

pub returns-clause-queued : goal.returns-clause-queued
returns-clause-queued c = λ s there.
    let i = c.self.inside in
    let at = (goal.at.returns-clause-queued c).After-make_up_to in
    let low = c.make_up_to.ensures.done c.if-not-make_up_to.false in
    where-ok c.submit.result (λ is. made_set i.count c.args.channel c.make_up_to.new.self c.submit.new.self c.args.self.now (with_submitted c.args.mtu s c.args.flags c.args.body.now) (same at) low is)
    (c.submit.ensures.queued s (made_there i.count c.args.channel c.make_up_to.new.self c.args.self.now s (same at) low there))

pub returns-clause-refused : goal.returns-clause-refused
returns-clause-refused c =
    let at = (goal.at.returns-clause-refused c).After-make_up_to in
    where-err c.submit.result (λ is. (ap (all_ends c.self.inside.count) is.0 ∙ same at, is.1)) c.submit.ensures.refused
