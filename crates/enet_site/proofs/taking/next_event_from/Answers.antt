use Rattle.std.proofs.Common.{Option, Some, None, sym, subst}
use Rattle.std.specs.Option.{option_and_then}
use Rattle.enet_codec.specs.declared.address.Addr.{Addr}
use Rattle.enet_host.specs.Calls.{address_named}
use Rattle.enet_host.specs.Foretelling.{teller_of, Foretells}
use Rattle.enet_site.proofs.Takes.{from-where}
use Rattle.enet_site.proofs.taking.next_event_from.Goals as goal

pub returns-in_default : goal.returns-in_default
returns-in_default c = from-where c.args.host.now.slots c.args.host.now None c.in_default.ensures.foretells

pub returns : goal.returns
returns c =
    subst (λ (o : Option Addr). Foretells (λ event. option_and_then (address_named c.args.host.now.slots) (teller_of event)) c.args.host.now o) (sym c.address.ensures)
    (from-where c.args.host.now.slots c.args.host.now (Some c.in-Some.teller) c.in-Some.ensures.foretells)
