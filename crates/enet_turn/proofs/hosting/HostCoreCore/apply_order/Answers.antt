use Rattle.std.proofs.Common.{Some, None, Ok, Err, refl, sym, subst, rules}
use Rattle.enet_submit.specs.declared.order.Order.{Order}
use Rattle.enet_turn.specs.Hosting.{AppliesOrder}
use Rattle.enet_turn.proofs.hosting.HostCoreCore.apply_order.Goals as goal

pub returns-in-Ok : goal.returns-in-Ok
returns-in-Ok c =
    subst (λ (order : Order). AppliesOrder c.args.self.now order None c.submit.new.self) (sym c.in-Submit.is)
    (Ok tt, c.in-Ok.ensures.submits, c.in-Ok.ensures.rest, refl)

pub returns-in-Err : goal.returns-in-Err
returns-in-Err c =
    let refused = c.in-Err.ensures.submits in
    subst (λ (order : Order). AppliesOrder c.args.self.now order (Some c.in-Err.why) c.submit.new.self) (sym c.in-Submit.is)
    (Err c.in-Err.why, (refused.0, refused.2), c.in-Err.ensures.rest, refl)

pub returns-in-Later : goal.returns-in-Later
returns-in-Later c = search rules
