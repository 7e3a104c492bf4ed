use Rattle.std.proofs.Common.{arith}
use Rattle.enet_site.proofs.records.Records.connections.Goals as goal

pub returns-clause-few : goal.returns-clause-few
returns-clause-few c =
    let fits = c.self.inside.ends.ok.1 in
    let small = c.self.inside.ends.small in
    omega (arith, fits, small)
