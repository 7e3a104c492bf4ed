use Rattle.std.proofs.Common.{sym, ap, subst}
use Rattle.enet_slot.specs.Slotted.{Slotted, peer_shown}
use Rattle.enet_slot.specs.Waiting.{waits_in, Waits}
use Rattle.enet_slot.proofs.slot.Slot.only_waits.Goals as goal

pub returns-in-Some : goal.returns-in-Some
returns-in-Some c = λ waits.
    subst (λ (v : Slotted). Waits v.slot) c.self.view_is
    (subst waits_in (sym (ap peer_shown c.in-Some.is)) (c.only_waits.ensures waits))

pub returns-in-None : goal.returns-in-None
returns-in-None c = λ waits.
    subst (λ (v : Slotted). Waits v.slot) c.self.view_is
    (subst waits_in (sym (ap peer_shown c.in-None.is)) tt)
