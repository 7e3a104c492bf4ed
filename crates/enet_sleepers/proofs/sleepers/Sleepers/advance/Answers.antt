use Rattle.std.proofs.Common.{sym, subst}
use Rattle.enet_sleepers.specs.Sleeping.{Noted, KeepsSleepers}
use Rattle.enet_sleepers.proofs.sleepers.Sleepers.advance.Goals as goal

pub returns : goal.returns
returns c = λ was slots k. subst (λ (x : Noted). KeepsSleepers c.args.now x slots) (sym c.self.view_is) (c.go_on.ensures was slots k)
