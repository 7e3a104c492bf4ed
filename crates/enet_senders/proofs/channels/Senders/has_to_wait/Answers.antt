use Rattle.std.proofs.Common.{arith}
use Rattle.enet_senders.proofs.Made.{made_there}
use Rattle.enet_senders.proofs.channels.Senders.has_to_wait.Goals as goal

pub returns : goal.returns
returns c = λ s there waits.
    let i = c.self.inside in
    c.has_to_wait.ensures s (made_there i.count c.args.channel i.made c.args.self.now s c.self.view_is (omega arith) there) waits
