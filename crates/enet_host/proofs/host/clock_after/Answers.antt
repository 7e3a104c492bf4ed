use Rattle.std.proofs.Common.{ℕ, ◌+◌, ◌%◌, ap}
use Rattle.enet_host.proofs.host.clock_after.Goals as goal

pub returns : goal.returns
returns c = ap (λ (n : ℕ). (c.args.clock + n) % 4294967296) c.min.ensures
