use Rattle.std.proofs.Common.{ap, sym, ◌∙◌}
use Rattle.law_network.specs.declared.event.Side.{Side}
use Rattle.law_network.specs.World.{World, site_of}
use Rattle.enet_world.proofs.hosts.Hosts.site.Goals as goal

pub returns-in-A : goal.returns-in-A
returns-in-A c = ap (λ (w : World). w.a) c.self.view_is ∙ ap (λ (s : Side). site_of c.args.self.now s) (sym c.in-A.is)
