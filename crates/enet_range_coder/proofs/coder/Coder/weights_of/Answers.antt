use Rattle.std.proofs.Common.{◌≡◌, ◌+◌, sym, ap, arith}
use Rattle.enet_range_coder.specs.Context.{Context, total, weigh}
use Rattle.enet_range_coder.specs.Memory.{context_at, chain}
use Rattle.enet_range_coder.proofs.Sharing.{context_other}
use Rattle.enet_range_coder.proofs.coder.Coder.weights_of.Goals as goal

pub returns-clause-unseen : goal.returns-clause-unseen
returns-clause-unseen c = sym (ap (λ (x : Context). x.unseen) (context_other c.args.self.now c.args.context c.at-cell.result c.if-context-eq0.false c.at-cell.ensures))

pub returns-clause-total : goal.returns-clause-total
returns-clause-total c =
    let e : total (context_at c.args.self.now c.args.context) ≡ c.at-cell.result.unseen + weigh (chain 256 c.args.self.now.cells c.at-cell.result.first) =
    ap total (context_other c.args.self.now c.args.context c.at-cell.result c.if-context-eq0.false c.at-cell.ensures) in
    omega (arith, e, c.weigh.ensures.weight)
