use Rattle.std.proofs.Common.{sym, ◌∙◌}
use Rattle.enet_range_coder.proofs.Codes.{some_packed}
use Rattle.enet_range_coder.proofs.coder.Coder.compress.Goals as goal

pub returns-clause-some : goal.returns-clause-some
returns-clause-some c = some_packed c.args.body.now c.pack.new.out c.pack.result (sym c.is_empty.ensures ∙ c.if-is_empty.false) c.pack.ensures.codes
