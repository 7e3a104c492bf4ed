use Rattle.std.proofs.Common.{rules}
use Rattle.std.proofs.lemmas.Fn.{filter_same}
use Rattle.enet_guard.specs.Guarding.{is_kept}
use Rattle.enet_guard.proofs.guard.keep_young.Goals as goal

pub returns-clause-kept : goal.returns-clause-kept
returns-clause-kept c = filter_same _ (is_kept c.args.clock) _ (λ x b q k. search rules) _ _ c.retain.ensures.filtered
