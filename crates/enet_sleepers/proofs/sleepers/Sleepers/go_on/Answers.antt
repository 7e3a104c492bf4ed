use Rattle.std.proofs.Common.{◌≤◌, ap, sym, subst, arith}
use Rattle.enet_sleepers.specs.Sleeping.{Noted, KeepsSleepers}
use Rattle.enet_sleepers.proofs.Keeping.{keeps-later}
use Rattle.enet_sleepers.proofs.sleepers.Sleepers.go_on.Goals as goal

pub returns : goal.returns
returns c = λ was slots k.
    let clock = c.moment_at-clock.result in
    let w = c.wake_due.new.self in
    let later : w.clock ≤ clock = omega (arith, c.wake_due.ensures.clock, ap (λ (x : Noted). x.clock) c.self.view_is, c.moment_at-clock.ensures.later) in
    subst (λ (x : Noted). KeepsSleepers c.args.now (record x { clock = clock }) slots) (sym c.self-2.view_is)
    (keeps-later was c.args.now clock w slots c.moment_at-clock.ensures.shown later c.wake_due.ensures.ahead (c.wake_due.ensures.kept was slots k))
