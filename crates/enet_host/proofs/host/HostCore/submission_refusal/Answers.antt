use Rattle.std.proofs.Common.{◌≡◌, Option, List, ap, subst, ◌∙◌}
use Rattle.enet_peer.specs.Peering.{Peering}
use Rattle.enet_slot.specs.declared.slot.Slot.{Slot}
use Rattle.enet_slot.specs.Calls.{refused_in}
use Rattle.enet_slot.specs.Slotted.{all_shown}
use Rattle.enet_host.specs.Host.{Host, named}
use Rattle.enet_host.specs.Foretelling.{submission_refusal}
use Rattle.enet_host.proofs.Foretold.{agrees-named}
use Rattle.enet_host.proofs.host.HostCore.submission_refusal.Goals as goal

pub returns-clause-refusal : goal.returns-clause-refusal
returns-clause-refusal c =
    subst (λ (h : Host). c.submission_refusal.result ≡ submission_refusal h.send_limit h.slots c.args.peer c.args.channel c.args.len) c.self.view_is
    (c.submission_refusal.ensures ∙ ap (λ (o : Option Peering). refused_in c.self.inside.send_limit c.args.channel c.args.len o)
    (c.in-Some.ensures ∙ ap (λ (xs : List Slot). named (all_shown xs) c.args.peer) c.deref.ensures.value))

pub returns-clause-agrees : goal.returns-clause-agrees
returns-clause-agrees c = λ q len. returns-clause-refusal c ∙ agrees-named c.args.self.now.send_limit c.args.self.now.slots c.args.peer c.args.channel c.args.len q len
