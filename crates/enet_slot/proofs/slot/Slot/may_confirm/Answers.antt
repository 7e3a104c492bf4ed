use Rattle.std.proofs.Common.{ap}
use Rattle.enet_slot.specs.Slotted.{Slotted, peer_shown}
use Rattle.enet_slot.proofs.Changes.{alike-of, free-alike}
use Rattle.enet_slot.proofs.slot.Slot.may_confirm.Goals as goal

pub returns-in-Some : goal.returns-in-Some
returns-in-Some c = λ never'.
    alike-of c.args.commands.now _ c.args.self.now.slot c.in-Some.peer.peer (ap (λ (v : Slotted). v.slot) c.self.view_is) (ap peer_shown c.in-Some.is) (c.may_confirm.ensures never')

pub returns-in-None : goal.returns-in-None
returns-in-None c = λ never'. free-alike c.args.commands.now _ c.args.self.now.slot (ap (λ (v : Slotted). v.slot) c.self.view_is) (ap peer_shown c.in-None.is)
