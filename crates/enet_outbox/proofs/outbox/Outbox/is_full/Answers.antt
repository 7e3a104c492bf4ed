use Rattle.std.proofs.Common.{Option, ap, sym, ◌∙◌}
use Rattle.enet_outbox.specs.declared.parts.SendLimit.{SendLimit}
use Rattle.enet_outbox.specs.Outstanding.{is_full, outstanding_of}
use Rattle.enet_outbox.proofs.outbox.Outbox.is_full.Goals as goal

pub returns-in-Some : goal.returns-in-Some
returns-in-Some c =
    c.meets.ensures (outstanding_of c.args.self.now.outbox) c.outstanding.ensures ∙ ap (λ (l : Option SendLimit). is_full l c.args.self.now.outbox) (sym c.in-Some.is)
