use Rattle.std.proofs.Common.{◌∙◌}
use Rattle.enet_serve.proofs.Partings.{idles}
use Rattle.enet_serve.proofs.leaving.take_turn.Goals as goal

pub returns-clause-idles : goal.returns-clause-idles
returns-clause-idles g c = let r = c.run.ensures.run in idles _ _ r.0 _ _ _ _ (c.new-source.ensures ∙ c.new.ensures.items) r.1 r.2 r.4 r.5 c.run.ensures.faults c.is_err.ensures.value
