use Rattle.std.proofs.Common.{refl}
use Rattle.enet_chat.proofs.Expansions.{expands_none, expands_on}
use Rattle.enet_chat.proofs.lone.LoneRelay.expand.Goals as goal

pub loop-self-init : goal.loop-self-init
loop-self-init c = expands_none _ _ refl refl refl refl refl

pub returns-in_err-expand_some-clause-expands : goal.returns-in_err-expand_some-clause-expands
returns-in_err-expand_some-clause-expands c = expands_on _ _ _ c.loop-self.invariant c.expand_some.ensures.expands

pub loop-self-smaller : goal.loop-self-smaller
loop-self-smaller c = c.in_ok-expand_some.ensures.fewer c.if-not-branch.false

pub loop-self-preserved : goal.loop-self-preserved
loop-self-preserved c = expands_on _ _ _ c.loop-self.invariant c.expand_some.ensures.expands

pub returns-then-not-branch-clause-expands : goal.returns-then-not-branch-clause-expands
returns-then-not-branch-clause-expands c = expands_on _ _ _ c.loop-self.invariant c.expand_some.ensures.expands
