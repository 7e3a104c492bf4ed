use Rattle.std.proofs.Common.{slice_get}
use Rattle.enet_site.proofs.Hears.{delivered}
use Rattle.enet_site.proofs.arriving.deliver.Goals as goal

pub returns-clause-delivers : goal.returns-clause-delivers
returns-clause-delivers c =
    delivered c.receive_datagram.result c.args.from c.args.far.now c.in-Some-logged.datagram.now (slice_get c.args.far.now.log c.args.k) c.args.host.now c.receive_datagram.new.host c.args.own.now c.receive_datagram.new.own c.in-Some-logged.ensures c.in_default.ensures c.receive_datagram.ensures.brings
