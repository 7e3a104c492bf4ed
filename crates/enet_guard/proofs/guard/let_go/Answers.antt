use Rattle.std.proofs.Common.{rules}
use Rattle.std.proofs.lemmas.Fn.{filter_same}
use Rattle.enet_guard.specs.Guarding.{is_other}
use Rattle.enet_guard.proofs.guard.let_go.Goals as goal

pub returns : goal.returns
returns c = filter_same _ (is_other c.args.ip) _ (λ x b q k. search rules) _ _ c.retain.ensures.filtered
