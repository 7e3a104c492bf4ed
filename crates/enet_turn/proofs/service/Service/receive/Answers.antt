use Rattle.std.proofs.Common.{List, [], ◌++◌, Bool, refl, ap, sym, subst, ◌∙◌}
use Rattle.std.proofs.lemmas.List.{append-nil}
use Rattle.enet_codec.specs.declared.event.Event.{Event}
use Rattle.enet_wire.specs.declared.told.Told.{Told}
use Rattle.enet_turn.specs.declared.report.Fault.{Fault}
use Rattle.enet_turn.specs.Phases.{ReceivesAll}
use Rattle.enet_turn.proofs.PhaseSteps.{chain_more, tells_then, tells_nothing}
use Rattle.enet_turn.proofs.Reporting.{same_report, then_taken}
use Rattle.enet_turn.proofs.service.Service.receive.Goals as goal

pub returns-clause-begins : goal.returns-clause-begins
returns-clause-begins g c =
    let offered = c.offer_again-again.ensures in
    let heard = c.receive_all-heard.ensures in
    let told = c.tell_all-told.ensures in
    let again : List (Event × Bool) = offered.0 in
    let of_events : List (Event × Bool) = told.0 in
    let came : List Told = heard.0 in (
      came,
      again ++ of_events,
      record {
        ticked = c.tick.new.self;
        tick = c.tick.ensures;
        again = again;
        waits = c.offer_again-again.new.waiting;
        offered = offered.2;
        heard = c.receive_all-heard.new.host;
        hearing = subst (λ (b : Bool). ReceivesAll g.H.Core.calls 256 c.tick.new.self came (record { host = c.receive_all-heard.new.host; failed = b })) c.if-heard.false heard.2;
        of_events = of_events;
        telling = tells_then _ _ _ _ _ told.2;
        put = refl;
      },
      heard.1,
      chain_more _ _ _ _ _ _ offered.1 told.1,
      same_report _ _ _ _ _ _ _ _ _ _ _ c.report_of-2.ensures refl heard.3 refl refl (c.saturating_add-events.ensures ∙ then_taken again of_events _ _ offered.3 told.3),
    )

pub returns-then-heard-clause-fails : goal.returns-then-heard-clause-fails
returns-then-heard-clause-fails g c =
    let offered = c.offer_again-again.ensures in
    let heard = c.receive_all-heard.ensures in
    let again : List (Event × Bool) = offered.0 in
    let came : List Told = heard.0 in (
      came,
      again,
      record {
        ticked = c.tick.new.self;
        tick = c.tick.ensures;
        again = again;
        waits = c.offer_again-again.new.waiting;
        offered = offered.2;
        heard = c.receive_all-heard.new.host;
        hearing = subst (λ (b : Bool). ReceivesAll g.H.Core.calls 256 c.tick.new.self came (record { host = c.receive_all-heard.new.host; failed = b })) c.if-heard.true heard.2;
        of_events = [];
        telling = tells_nothing _ _ _;
        put = sym (append-nil again);
      },
      heard.1,
      offered.1,
      ap (λ (f : Fault). f.report) c.fault.ensures ∙ same_report _ _ _ _ _ _ _ _ _ _ _ c.report_of.ensures refl heard.3 refl refl offered.3,
    )
