use Rattle.std.proofs.Common.{◌≡◌, Option, sym, ap, subst}
use Rattle.enet_peer.specs.Held.{IsWithin}
use Rattle.enet_peer.specs.Peering.{Peering}
use Rattle.enet_slot.specs.Holding.{held_in, most_in}
use Rattle.enet_slot.specs.Slotted.{Slotted, peer_shown}
use Rattle.enet_slot.proofs.slot.Slot.held.Goals as goal

pub returns-in-Some-clause-value : goal.returns-in-Some-clause-value
returns-in-Some-clause-value c =
    subst (λ (v : Slotted). c.held.result ≡ held_in v.slot.peer) c.self.view_is
    (subst (λ (o : Option Peering). c.held.result ≡ held_in o) (sym (ap peer_shown c.in-Some.is)) c.held.ensures.value)

pub returns-in-Some-clause-bound : goal.returns-in-Some-clause-bound
returns-in-Some-clause-bound c =
    subst (λ (v : Slotted). IsWithin c.held.result (most_in v.slot.peer)) c.self.view_is
    (subst (λ (o : Option Peering). IsWithin c.held.result (most_in o)) (sym (ap peer_shown c.in-Some.is)) c.held.ensures.bound)
