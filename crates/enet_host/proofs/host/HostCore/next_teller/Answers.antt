use Rattle.std.proofs.Common.{List, IfSome, subst}
use Rattle.std.specs.Prelude.{IfNone}
use Rattle.enet_slot.specs.declared.slot.Slot.{Slot}
use Rattle.enet_slot.specs.Calls.{tells}
use Rattle.enet_slot.specs.Slotted.{all_shown}
use Rattle.enet_host.specs.Host.{Host}
use Rattle.enet_host.specs.Turns.{IsFirst, HoldsNowhere}
use Rattle.enet_host.proofs.host.HostCore.next_teller.Goals as goal

pub returns-clause-first : goal.returns-clause-first
returns-clause-first c =
    subst (λ (h : Host). IfSome c.teller.result (λ i. IsFirst tells h.slots h.event_from i)) c.self.view_is
    (subst (λ (xs : List Slot). IfSome c.teller.result (λ i. IsFirst tells (all_shown xs) c.self.inside.event_from i)) c.deref.ensures.value c.teller.ensures.first)

pub returns-clause-none : goal.returns-clause-none
returns-clause-none c =
    subst (λ (h : Host). IfNone c.teller.result (HoldsNowhere tells h.slots)) c.self.view_is
    (subst (λ (xs : List Slot). IfNone c.teller.result (HoldsNowhere tells (all_shown xs))) c.deref.ensures.value c.teller.ensures.none)
