use Rattle.std.proofs.Common.{List, refl, sym, subst}
use Rattle.std.specs.Option.{option_copied}
use Rattle.enet_slot.specs.declared.slot.Slot.{Slot}
use Rattle.enet_slot.specs.Calls.{tells}
use Rattle.enet_slot.specs.Slotted.{all_shown}
use Rattle.enet_host.specs.contracts.host.HostCore.{the_view}
use Rattle.enet_host.specs.Foretelling.{packet_of}
use Rattle.enet_host.specs.Host.{Host}
use Rattle.enet_host.specs.Turns.{IsFirst}
use Rattle.enet_host.specs.Private.Shown.{SlotShows}
use Rattle.enet_host.proofs.Foretold.{foretells-nothing, foretells-packet}
use Rattle.enet_host.proofs.host.HostCore.next_packet.Goals as goal

pub returns-in_default : goal.returns-in_default
returns-in_default c = foretells-nothing packet_of c.args.self.now c.args.self.now refl c.in_default.ensures.none

pub returns : goal.returns
returns c =
    foretells-packet (the_view c.self.inside) c.args.self.now c.in-Some.slot (option_copied c.packet_of.result) c.self.view_is
    (subst (λ (h : Host). IsFirst tells h.slots h.event_from c.in-Some.slot) (sym c.self.view_is) c.in-Some.ensures.first)
    (subst (λ (xs : List Slot). SlotShows (all_shown xs) c.in-Some.slot (option_copied c.packet_of.result)) c.deref.ensures.value c.packet_of.ensures)
