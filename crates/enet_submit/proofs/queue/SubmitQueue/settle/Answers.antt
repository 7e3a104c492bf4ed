use Rattle.std.proofs.Common.{refl, sym, subst, ◌∙◌}
use Rattle.std.proofs.lemmas.Bool.{false≢true}
use Rattle.enet_submit.specs.Parcels.{contents}
use Rattle.enet_submit.specs.Words.{AllBack}
use Rattle.enet_submit.proofs.Rules.{looks}
use Rattle.enet_submit.proofs.Settles.{ended}
use Rattle.enet_submit.proofs.queue.SubmitQueue.settle.Goals as goal

pub returns-then-not-all_back-clause-settled : goal.returns-then-not-all_back-clause-settled
returns-then-not-all_back-clause-settled c = ((λ z. absurd (false≢true z)), λ all. c.if-not-all_back.ensures.1 (subst (λ l. AllBack c.args.self.now c.args.drain l) (sym c.as_slice.ensures.value) all))

pub learn_as-requires-clause-rule : goal.learn_as-requires-clause-rule
learn_as-requires-clause-rule c = looks _ _ _ _ _ _ c.take_in-pass.ensures.pass.1

-- ---- the clauses
pub returns-clause-settled : goal.returns-clause-settled
returns-clause-settled c = ((λ z. subst (λ l. AllBack c.args.self.now c.args.drain l) c.as_slice.ensures.value (c.if-not-all_back.ensures.0 refl)), λ all. refl)

pub returns-clause-account : goal.returns-clause-account
returns-clause-account c =
    let all = subst (λ l. AllBack c.args.self.now c.args.drain l) c.as_slice.ensures.value (c.if-not-all_back.ensures.0 refl) in
    let end = ended c.args.self.now c.args.drain c.args.finished.items _ (contents c.learn_as.ensures.rule.0) c.total_of.ensures.len c.requires.drain.1 c.requires.seats all c.take_in-pass.ensures.pass.1 c.learn_as.ensures.rule.1 c.take_in-pass.ensures.known in
    (c.total_of.ensures.sum ∙ end.total, c.args.drain.counted)

pub returns-clause-all_taken : goal.returns-clause-all_taken
returns-clause-all_taken c =
    let all = subst (λ l. AllBack c.args.self.now c.args.drain l) c.as_slice.ensures.value (c.if-not-all_back.ensures.0 refl) in
    (ended c.args.self.now c.args.drain c.args.finished.items _ (contents c.learn_as.ensures.rule.0) c.total_of.ensures.len c.requires.drain.1 c.requires.seats all c.take_in-pass.ensures.pass.1 c.learn_as.ensures.rule.1 c.take_in-pass.ensures.known).each

pub returns-clause-empty : goal.returns-clause-empty
returns-clause-empty c =
    let all = subst (λ l. AllBack c.args.self.now c.args.drain l) c.as_slice.ensures.value (c.if-not-all_back.ensures.0 refl) in
    (ended c.args.self.now c.args.drain c.args.finished.items _ (contents c.learn_as.ensures.rule.0) c.total_of.ensures.len c.requires.drain.1 c.requires.seats all c.take_in-pass.ensures.pass.1 c.learn_as.ensures.rule.1 c.take_in-pass.ensures.known).empty
