use Rattle.std.proofs.Common.{◌≡◌, ℕ, Option, Some, ap, subst, ◌∙◌}
use Rattle.std.specs.List.{position}
use Rattle.enet_senders.specs.declared.control.SentControl.{SentControl}
use Rattle.enet_senders.specs.Controlling.{Controlling, Did, next_of}
use Rattle.enet_senders.proofs.outgoing.ControlChannel.next_due.Goals as goal

pub returns-in-Some-clause-written : goal.returns-in-Some-clause-written
returns-in-Some-clause-written c =
    let s = c.args.self.now.commands in
    let there : Some c.in-Some.place ≡ position (λ (p : SentControl). p.transmission.due) s.sent =
    c.in-Some.ensures.place ∙ ap (λ (v : Controlling). position (λ (p : SentControl). p.transmission.due) v.commands.sent) c.self.view_is in
    subst
    (λ (place : Option ℕ). Did (next_of c.args.now c.args.timeout s place) c.resend.result s c.resend.new.self.commands (record { old = c.args.buf.now; at = c.args.at; new = c.resend.new.buf }))
    there
    c.resend.ensures.written
