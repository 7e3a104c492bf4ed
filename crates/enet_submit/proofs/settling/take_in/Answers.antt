use Rattle.std.proofs.Common.{rules}
use Rattle.enet_submit.specs.Words.{IsFinishedOf}
use Rattle.enet_submit.proofs.Rules.{joins}
use Rattle.enet_submit.proofs.Settles.{joined_view, All_front, still, none_left}
use Rattle.enet_submit.proofs.settling.take_in.Goals as goal

pub absorb-requires-clause-rule : goal.absorb-requires-clause-rule
absorb-requires-clause-rule c = joins _ _ _ _ _ _ _ _ _ _ _ c.loop-last.invariant.1 c.in-Some.last.sees

pub loop-last-preserved : goal.loop-last-preserved
loop-last-preserved c =
    let e = joined_view _ _ _ _ _ _ _ _ c.loop-last.invariant.1 c.in-Some.last.sees c.absorb.ensures.rule in (
      (search rules),
      e.0,
      All_front (IsFinishedOf c.args.queue.now) _ _ _ c.in-Some.ensures.items c.loop-last.invariant.2,
      λ f a. still _ _ _ _ _ c.in-Some.ensures.items e.1 f (c.loop-last.invariant.3 f a),
    )

pub returns-clause-known : goal.returns-clause-known
returns-clause-known c = λ f a. none_left _ _ _ _ c.in_default.ensures.cases c.loop-last.finished.ok.0 (c.loop-last.invariant.3 f a)
