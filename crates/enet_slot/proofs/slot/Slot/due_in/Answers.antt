use Rattle.std.proofs.Common.{ℕ, Option, sym, ap, subst}
use Rattle.enet_rtt.specs.Clock.{HappensIn}
use Rattle.enet_rtt.proofs.Waits.{never}
use Rattle.enet_peer.specs.Peering.{Peering}
use Rattle.enet_slot.specs.Slot.{is_due, is_due_in}
use Rattle.enet_slot.specs.Slotted.{Slotted, peer_shown}
use Rattle.enet_slot.proofs.slot.Slot.due_in.Goals as goal

pub returns-in-Some : goal.returns-in-Some
returns-in-Some c =
    subst (λ (v : Slotted). HappensIn (λ (later : ℕ). is_due later v.slot) c.args.now c.due_in.result) c.self.view_is
    (subst (λ (o : Option Peering). HappensIn (λ (later : ℕ). is_due_in o later) c.args.now c.due_in.result) (sym (ap peer_shown c.in-Some.is)) c.due_in.ensures.due)

pub returns-in-None : goal.returns-in-None
returns-in-None c =
    subst (λ (v : Slotted). HappensIn (λ (later : ℕ). is_due later v.slot) c.args.now 4294967295) c.self.view_is
    (subst (λ (o : Option Peering). HappensIn (λ (later : ℕ). is_due_in o later) c.args.now 4294967295) (sym (ap peer_shown c.in-None.is)) (never c.args.now))
