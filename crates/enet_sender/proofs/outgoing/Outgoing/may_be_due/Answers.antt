use Rattle.std.proofs.Common.{◌≡◌, ◌≤◌, false, length, sym, ap, ◌∙◌, arith}
use Rattle.std.proofs.lemmas.Bool.{ltb-false}
use Rattle.slab.specs.Slab.{get}
use Rattle.enet_sender.specs.declared.sent.Sent.{Sent}
use Rattle.enet_sender.specs.Pending.{vacant}
use Rattle.enet_sender.specs.Rings.{is_due}
use Rattle.enet_sender.proofs.Named.{named-all}
use Rattle.enet_sender.proofs.outgoing.Outgoing.may_be_due.Goals as goal

pub returns : goal.returns
returns c = λ past.
    let at = get c.args._pending.now.slab in
    let sent = c.args.self.now.sent.items in
    let most : length sent ≤ c.args.self.now.due_from = omega (arith, ltb-false c.args.self.now.due_from c.len.result past, c.len.ensures, c.args.self.now.sent.ok.0) in
    named-all (λ (p : Sent). p.transmission.due ≡ false) at sent vacant (λ i p inside there. ap is_due (sym there) ∙ c.requires.sent.not_due i (omega arith) (omega arith))
