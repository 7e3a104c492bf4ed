use Rattle.std.proofs.Common.{◌≡◌, ◌+◌, List, Bool, true, refl, ap, subst, ◌∙◌}
use Rattle.enet_wire.specs.declared.told.Told.{Told}
use Rattle.enet_turn.specs.declared.report.Fault.{Fault}
use Rattle.enet_turn.specs.Counts.{lost_in, count_of}
use Rattle.enet_turn.specs.Phases.{EmitsAll}
use Rattle.enet_turn.proofs.Reporting.{same_report}
use Rattle.enet_turn.proofs.service.Service.emit.Goals as goal

pub returns-then-sent-clause-fails : goal.returns-then-sent-clause-fails
returns-then-sent-clause-fails g c =
    let sent = c.emit_all-sent.ensures in
    let went : List Told = sent.0 in
    let lost : c.emit_all-sent.result.lost ≡ lost_in went + 1 = sent.4 ∙ ap (λ (b : Bool). lost_in went + count_of b) c.if-sent.true in (
      went,
      subst (λ (b : Bool). EmitsAll g.H.Core.calls 256 16 c.args.self.now.host went (record { host = c.emit_all-sent.new.host; failed = b })) c.if-sent.true sent.2,
      sent.1,
      ap (λ (f : Fault). f.report) c.fault.ensures ∙ same_report _ _ _ _ _ _ _ _ _ _ _ c.report_of-report.ensures refl refl sent.3 lost refl,
    )
