use Rattle.std.proofs.Common.{refl}
use Rattle.law_headline.specs.declared.node.Node.TheVariants.{Server}
use Rattle.enet_fleet.proofs.Reaching.{refuses-aside}
use Rattle.enet_fleet.proofs.delivering.deliver.Goals as goal

pub returns-in-Server-Server : goal.returns-in-Server-Server
returns-in-Server-Server c = (
  rw (c.in-Server-Server.is-0, c.in-Server-Server.is-1)
      (refuses-aside c.args.hosts.now Server Server c.args.hosts.now.server c.args.hosts.now.server c.args.k c.requires refl refl tt),
  refl,
)
