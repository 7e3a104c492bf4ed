use Rattle.std.proofs.Common.{length, sym, ◌∙◌}
use Rattle.enet_range_coder.proofs.Codes.{some_unpacked}
use Rattle.enet_range_coder.proofs.coder.Coder.decompress.Goals as goal

pub returns-clause-some : goal.returns-clause-some
returns-clause-some c = some_unpacked c.args.code.now c.unpack.new.out (length c.args.out.now) c.unpack.result (sym c.is_empty.ensures ∙ c.if-is_empty.false) c.unpack.ensures.opens
