use Rattle.std.proofs.Common.{true, sym, subst}
use Rattle.law_network.specs.declared.event.Side.TheVariants.{A, B}
use Rattle.law_network.specs.Headline.{AreEnds}
use Rattle.law_network.specs.World.{World}
use Rattle.enet_world.proofs.hosts.Hosts.happen.Goals as goal

pub happen-requires-clause-owned : goal.happen-requires-clause-owned
happen-requires-clause-owned c = subst (λ (w : World). AreEnds (λ a. true) w.a) (sym c.self.view_is) (c.requires.owned A)

pub happen-requires-in-B-clause-owned : goal.happen-requires-in-B-clause-owned
happen-requires-in-B-clause-owned c = subst (λ (w : World). AreEnds (λ a. true) w.b) (sym c.self.view_is) (c.requires.owned B)
