use Rattle.std.proofs.Common.{◌*◌, arith}
use Rattle.std.proofs.Math.Nat.{div-le_self}
use Rattle.enet_outbox.proofs.allowance.share.Goals as goal

pub overflow_add-result : goal.overflow_add-result
overflow_add-result c = omega (arith, div-le_self (2048 * c.args.price) c.from.result, c.requires.small)

pub returns-clause-small : goal.returns-clause-small
returns-clause-small c = omega (arith, div-le_self (2048 * c.args.price) c.from.result, c.requires.small)
