use Rattle.std.proofs.Common.{ℕ, Option, List, Result, sym, subst, ◌∙◌}
use Rattle.enet_codec.specs.declared.refusal.Refusal.{Refusal}
use Rattle.enet_sender.specs.CommandChoice.{Packet}
use Rattle.enet_slot.specs.Slot.{SlotState}
use Rattle.enet_slot.specs.Calls.{submission, unless_full}
use Rattle.enet_host.specs.Calls.{on_named}
use Rattle.enet_c.specs.Border.{SubmitsBody}
use Rattle.enet_c.proofs.Refusing.{settles-refused}
use Rattle.enet_c.proofs.held.Held.submit_staged.Goals as goal

pub returns-in-Some-submission_refusal : goal.returns-in-Some-submission_refusal
returns-in-Some-submission_refusal c =
    let q : Packet = record { flags = c.args.flags; body = c.in-Some.staged } in
    let call : (List SlotState → Result (List SlotState) Refusal) = λ slots. on_named slots c.args.name (unless_full c.args.self.now.host.send_limit (submission c.args.channel q)) in
    subst (λ (o : Option (List ℕ)). SubmitsBody c.args.name c.args.channel c.args.flags o (record { before = c.args.self.now; number = c.number_of.result; after = c.args.self.now }))
    (sym c.in-Some.is)
    (settles-refused call c.args.self.now c.in-Some-submission_refusal.why c.number_of.result
    (sym c.in-Some-submission_refusal.is ∙ c.submission_refusal.ensures.agrees q (sym c.len.ensures.value)) c.number_of.ensures)
