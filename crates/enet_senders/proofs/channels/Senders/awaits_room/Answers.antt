use Rattle.std.proofs.Common.{◌≡◌, false, refl, subst, arith}
use Rattle.enet_sender.specs.Sender.{awaits_room}
use Rattle.enet_sender.specs.Due.{SendingEnd}
use Rattle.enet_senders.proofs.Made.{made_there, new_there}
use Rattle.enet_senders.proofs.channels.Senders.awaits_room.Goals as goal

pub returns-then-from-len : goal.returns-then-from-len
returns-then-from-len c = λ s there.
    let i = c.self.inside in
    let is = new_there i.count c.args.channel i.made c.args.self.now s c.self.view_is c.self.invariant c.requires (omega arith) there in
    subst (λ (e : SendingEnd). false ≡ awaits_room e.sender) is refl

pub returns : goal.returns
returns c = λ s there.
    let i = c.self.inside in
    c.awaits_room.ensures s (made_there i.count c.args.channel i.made c.args.self.now s c.self.view_is (omega arith) there)
