use Rattle.std.proofs.Common.{Some, List, sym, subst}
use Rattle.enet_slot.specs.declared.slot.Slot.{Slot}
use Rattle.enet_host.specs.Host.{Host}
use Rattle.enet_host.specs.Turns.{IsFirst}
use Rattle.enet_slot.specs.Calls.{tells}
use Rattle.enet_slot.specs.Slotted.{all_shown}
use Rattle.enet_host.specs.Foretelling.{teller_of, Foretells, IsTeller}
use Rattle.enet_host.specs.Private.Shown.{SlotIsNamed}
use Rattle.enet_host.specs.contracts.host.HostCore.{the_view}
use Rattle.enet_host.proofs.Foretold.{is-teller, foretells-teller}
use Rattle.enet_host.proofs.host.HostCore.next_event_of.Goals.{After-name_at}
use Rattle.enet_host.proofs.host.HostCore.next_event_of.Goals as goal

told : (c : After-name_at) → IsTeller c.args.self.now c.name_at.result × Foretells teller_of c.args.self.now (Some c.name_at.result)
told c =
    let inside = c.self.inside in
    let first = subst (λ (h : Host). IsFirst tells h.slots h.event_from c.in_ok-slot.slot) (sym c.self.view_is) c.in_ok-slot.ensures.first in
    let named = subst (λ (xs : List Slot). SlotIsNamed (all_shown xs) c.in_ok-slot.slot c.name_at.result) c.deref.ensures.value c.name_at.ensures in (
      is-teller (the_view inside) c.args.self.now c.in_ok-slot.slot c.name_at.result c.self.view_is first named,
      foretells-teller (the_view inside) c.args.self.now c.in_ok-slot.slot c.name_at.result c.self.view_is first named,
    )

pub returns-clause-first : goal.returns-clause-first
returns-clause-first c = (told (goal.at.returns-clause-first c).After-name_at).0

pub returns-clause-foretells : goal.returns-clause-foretells
returns-clause-foretells c = (told (goal.at.returns-clause-foretells c).After-name_at).1
