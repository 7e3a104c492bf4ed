use Rattle.std.proofs.Common.{◌≡◌, Some, List, subst}
use Rattle.enet_slot.specs.declared.slot.Slot.{Slot}
use Rattle.enet_slot.specs.Slotted.{all_shown}
use Rattle.enet_host.specs.Host.{Host}
use Rattle.enet_host.specs.Foretelling.{next_name}
use Rattle.enet_host.specs.Private.Shown.{SlotIsNamed}
use Rattle.enet_host.proofs.Offering.{found-in}
use Rattle.enet_host.proofs.Foretold.{next-named}
use Rattle.enet_host.proofs.host.HostCore.next_peer.Goals as goal

pub returns : goal.returns
returns c =
    let inside = c.self.inside in
    subst (λ (h : Host). Some c.name_at.result ≡ next_name h.config h.slots) c.self.view_is
    (next-named inside.start.config (all_shown inside.slots.items) c.in_ok-place.place c.name_at.result
    (found-in inside.start.config inside.slots.items c.deref.result.now _ _ c.first_available.ensures.first c.deref.ensures.value c.in_ok-place.was)
    (subst (λ (xs : List Slot). SlotIsNamed (all_shown xs) c.in_ok-place.place c.name_at.result) c.deref-2.ensures.value c.name_at.ensures))
