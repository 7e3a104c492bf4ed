use Rattle.std.proofs.Common.{◌≡◌, nat_le, false, subst, arith}
use Rattle.std.proofs.lemmas.Bool.Decides.{nat_tests}
use Rattle.enet_sleepers.specs.Unproved.{Waiting}
use Rattle.enet_sleepers.specs.Private.Unproved.{IsNear}
use Rattle.enet_sleepers.proofs.Firsts.{near-none, near-first}
use Rattle.enet_sleepers.proofs.unproved.Unproved.is_far.Goals as goal

pub returns-in_default : goal.returns-in_default
returns-in_default c = λ e.
    subst (λ (v : Waiting). IsNear c.args.clock v.since) c.self.view_is (near-none c.args.clock c.self.inside.since (omega (arith, c.if-clock-ge-LAST_CLOCK.false)) c.in_default.ensures)

pub returns : goal.returns
returns c = λ e.
    subst (λ (v : Waiting). IsNear c.args.clock v.since) c.self.view_is
    (near-first c.args.clock c.in-Some.first c.self.inside.since (omega (arith, c.if-clock-ge-LAST_CLOCK.false)) c.in-Some.ensures
    (let far : nat_le 4294967296 c.saturating_sub.result ≡ false = e in let rest = c.saturating_sub.ensures in grind (arith, nat_tests, far, rest)))
