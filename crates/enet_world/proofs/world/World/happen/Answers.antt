use Rattle.std.proofs.Common.{true, ap, sym, subst, ◌∙◌}
use Rattle.law_network.specs.Headline.{AreEnds}
use Rattle.law_network.specs.World.{site_of}
use Rattle.enet_world.specs.Worlds.{Begun, passed_by}
use Rattle.enet_world.proofs.Reaching.{reached-on}
use Rattle.enet_world.proofs.world.World.happen.Goals as goal

pub invariant_of-self : goal.invariant_of-self
invariant_of-self c =
    reached-on c.self.inside.passed c.passed_by-passed.result c.self.inside.joined c.self.inside.hosts c.happen.new.self c.args.event.now c.happen.result c.self.invariant c.happen.ensures c.passed_by-passed.ensures

pub happen-requires : goal.happen-requires
happen-requires c = record {
  owned = λ side. subst (λ (w : Begun). AreEnds (λ a. true) (site_of w.world side)) (sym c.self.view_is) (let h = c.headline.ensures.hosts side in h.all);
}

pub returns-clause-passed : goal.returns-clause-passed
returns-clause-passed c = c.passed_by-passed.ensures ∙ ap (λ (b : Begun). passed_by c.args.event.now b.passed) c.self.view_is
