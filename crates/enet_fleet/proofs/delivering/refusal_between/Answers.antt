use Rattle.std.proofs.Common.{sym}
use Rattle.law_headline.specs.declared.node.Node.TheVariants.{Client}
use Rattle.enet_fleet.proofs.Reaching.{refuses-aside}
use Rattle.enet_fleet.proofs.delivering.refusal_between.Goals as goal

pub returns : goal.returns
returns c k =
    refuses-aside c.args.hosts.now (Client c.args.to) (Client c.args.from) c.in-Some._at.now c.in-Some-place._sender.now k c.requires (sym c.in-Some.ensures)
    (sym c.in-Some-place.ensures) tt
