use Rattle.std.proofs.Common.{List, Result, sym, ◌∙◌}
use Rattle.enet_codec.specs.declared.refusal.Refusal.{Refusal}
use Rattle.enet_sender.specs.CommandChoice.{Packet}
use Rattle.enet_slot.specs.Slot.{SlotState}
use Rattle.enet_slot.specs.Calls.{submission, unless_full}
use Rattle.enet_host.specs.Calls.{on_named}
use Rattle.enet_c.proofs.Refusing.{settles-refused}
use Rattle.enet_c.proofs.held.Held.submit_shared.Goals as goal

pub returns-in-Some : goal.returns-in-Some
returns-in-Some c =
    let q : Packet = record { flags = c.args.flags; body = c.args.shared.now } in
    let call : (List SlotState → Result (List SlotState) Refusal) = λ slots. on_named slots c.args.name (unless_full c.args.self.now.host.send_limit (submission c.args.channel q)) in
    settles-refused call c.args.self.now c.in-Some.why c.number_of.result
    (sym c.in-Some.is ∙ c.submission_refusal.ensures.agrees q (sym c.len.ensures.value)) c.number_of.ensures
