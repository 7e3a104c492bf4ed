use Rattle.std.proofs.Common.{refl, inl, inr, ◌∙◌}
use Rattle.enet_serve.proofs.Partings.{off-more}
use Rattle.enet_serve.proofs.leaving.see_off.Goals as goal

pub loop-init : goal.loop-init
loop-init g c = (inl refl, refl)

pub returns-then-take_turn-clause-seen_off : goal.returns-then-take_turn-clause-seen_off
returns-then-take_turn-clause-seen_off g c = off-more _ _ _ _ _ c.loop.invariant.0 c.disconnect_all-peers.ensures.parts c.if-take_turn.ensures.idles

pub returns-then-peers-eq0-clause-seen_off : goal.returns-then-peers-eq0-clause-seen_off
returns-then-peers-eq0-clause-seen_off g c = off-more _ _ _ _ _ c.loop.invariant.0 c.disconnect_all-peers.ensures.parts c.if-take_turn.ensures.idles

pub loop-preserved : goal.loop-preserved
loop-preserved g c = (
  inr (off-more _ _ _ _ _ c.loop.invariant.0 c.disconnect_all-peers.ensures.parts c.if-take_turn.ensures.idles),
  c.if-take_turn.ensures.kept ∙ c.loop.invariant.1,
)
