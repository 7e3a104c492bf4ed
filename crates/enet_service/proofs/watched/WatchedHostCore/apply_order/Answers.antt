use Rattle.std.proofs.Common.{None, Ok, refl, sym, subst}
use Rattle.enet_host.specs.Host.{Host}
use Rattle.enet_submit.specs.declared.order.Order.{Order}
use Rattle.enet_submit.specs.declared.order.Order.TheVariants.{Submit}
use Rattle.enet_turn.specs.Hosting.{AppliesOrder}
use Rattle.enet_service.proofs.watched.WatchedHostCore.apply_order.Goals as goal

pub returns-in-Ok : goal.returns-in-Ok
returns-in-Ok c =
    subst (λ (order : Order). AppliesOrder c.args.self.now order None c.submit.new.self) (sym c.in-Submit.is)
    (subst (λ (host : Host). AppliesOrder host (Submit c.in-Submit.peer c.in-Submit.channel c.in-Submit.flags c.in-Submit.body) None c.submit.new.self) c.self.view_is
    (Ok tt, c.in-Ok.ensures.submits, c.in-Ok.ensures.rest, refl))
