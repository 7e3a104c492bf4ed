use Rattle.std.proofs.Common.{◌≡◌, ℕ, ◌+◌, List, [], ◌++◌, Bool, true, false, Option, refl, ap, subst, ◌∙◌, sym, arith}
use Rattle.std.proofs.lemmas.List.{append-nil}
use Rattle.enet_codec.specs.declared.event.Event.{Event}
use Rattle.enet_submit.specs.declared.order.Submission.{Submission}
use Rattle.enet_wire.specs.declared.told.Told.{Told}
use Rattle.enet_turn.specs.Phases.{ReceivesAll, EmitsAll}
use Rattle.enet_turn.specs.Counts.{count_of, stopped, taken_in, lost_in}
use Rattle.enet_turn.proofs.PhaseSteps.{chain_more, sends_then, sends_nothing, tells_then, tells_nothing}
use Rattle.enet_turn.proofs.Tellings.{told_on}
use Rattle.enet_turn.proofs.Reporting.{same_report, all_taken, some_taken}
use Rattle.enet_turn.proofs.service.Service.turn_through.Goals as goal

pub returns-then-heard-clause-turn : goal.returns-then-heard-clause-turn
returns-then-heard-clause-turn g c =
    let offered = c.offer_again-again.ensures in
    let taken = c.take_orders-orders.ensures in
    let heard = c.receive_all-heard.ensures in
    let again : List (Event × Bool) = offered.0 in
    let of_orders : List (Event × Bool) = taken.2 in
    let gave : List (Option Submission) = taken.0 in
    let came : List Told = heard.0 in
    let hearing : ReceivesAll g.H.Core.calls 256 c.take_orders-orders.new.host came (record { host = c.receive_all-heard.new.host; failed = true }) =
    subst (λ (b : Bool). ReceivesAll g.H.Core.calls 256 c.take_orders-orders.new.host came (record { host = c.receive_all-heard.new.host; failed = b })) c.if-heard.true heard.2 in (
      record { ms = c.args.ms; gave = gave; told = came; puts = again ++ (of_orders ++ []); failed = true; report = c.report_of.result },
      refl,
      refl,
      taken.1,
      heard.1,
      chain_more _ _ _ _ _ _ offered.1 (chain_more _ _ _ _ [] _ taken.3 refl),
      record {
        ticked = c.tick.new.self;
        tick = c.tick.ensures;
        again = again;
        waits = c.offer_again-again.new.waiting;
        offered = offered.2;
        ordered = record { service = record { host = c.take_orders-orders.new.host; waiting = c.take_orders-orders.new.waiting }; puts = of_orders };
        orders = taken.4;
        came = came;
        heard = record { host = c.receive_all-heard.new.host; failed = true };
        hearing = hearing;
        went = [];
        sent = record { host = c.receive_all-heard.new.host; failed = true };
        sending = sends_nothing _ _;
        of_events = [];
        telling = tells_nothing _ _ _;
        told = sym (append-nil came);
        put = refl;
        failed = refl;
        counts = same_report _ _ _ _ _ _ _ _ _ _ _ c.report_of.ensures taken.5 heard.3 refl refl
            (c.saturating_add-before.ensures ∙ (some_taken again of_orders _ _ offered.3 taken.6 ∙ ap (λ (xs : List (Event × Bool)). stopped (taken_in (again ++ xs))) (sym (append-nil of_orders))));
      },
      c.fault.ensures,
    )

pub returns-then-sent-clause-turn : goal.returns-then-sent-clause-turn
returns-then-sent-clause-turn g c =
    let offered = c.offer_again-again.ensures in
    let taken = c.take_orders-orders.ensures in
    let heard = c.receive_all-heard.ensures in
    let sent = c.emit_all-sent.ensures in
    let again : List (Event × Bool) = offered.0 in
    let of_orders : List (Event × Bool) = taken.2 in
    let gave : List (Option Submission) = taken.0 in
    let came : List Told = heard.0 in
    let went : List Told = sent.0 in
    let hearing : ReceivesAll g.H.Core.calls 256 c.take_orders-orders.new.host came (record { host = c.receive_all-heard.new.host; failed = false }) =
    subst (λ (b : Bool). ReceivesAll g.H.Core.calls 256 c.take_orders-orders.new.host came (record { host = c.receive_all-heard.new.host; failed = b })) c.if-heard.false heard.2 in
    let sending : EmitsAll g.H.Core.calls 256 16 c.receive_all-heard.new.host went (record { host = c.emit_all-sent.new.host; failed = true }) =
    subst (λ (b : Bool). EmitsAll g.H.Core.calls 256 16 c.receive_all-heard.new.host went (record { host = c.emit_all-sent.new.host; failed = b })) c.if-sent.true sent.2 in
    let none_yet : g.W.Wire.faults c.receive_all-heard.new.wire ≡ g.W.Wire.faults c.args.wire.now + 0 =
    heard.4 ∙ ap (λ (b : Bool). g.W.Wire.faults c.args.wire.now + count_of b) c.if-heard.false in
    let sound : g.W.Wire.faults c.receive_all-heard.new.wire ≡ g.W.Wire.faults c.args.wire.now = omega (arith, none_yet) in
    let lost : c.emit_all-sent.result.lost ≡ lost_in went + 1 = sent.4 ∙ ap (λ (b : Bool). lost_in went + count_of b) c.if-sent.true in (
      record { ms = c.args.ms; gave = gave; told = came ++ went; puts = again ++ (of_orders ++ []); failed = true; report = c.report_of-report.result },
      refl,
      refl,
      taken.1,
      told_on _ _ _ _ _ came went heard.1 sound sent.1,
      chain_more _ _ _ _ _ _ offered.1 (chain_more _ _ _ _ [] _ taken.3 refl),
      record {
        ticked = c.tick.new.self;
        tick = c.tick.ensures;
        again = again;
        waits = c.offer_again-again.new.waiting;
        offered = offered.2;
        ordered = record { service = record { host = c.take_orders-orders.new.host; waiting = c.take_orders-orders.new.waiting }; puts = of_orders };
        orders = taken.4;
        came = came;
        heard = record { host = c.receive_all-heard.new.host; failed = false };
        hearing = hearing;
        went = went;
        sent = record { host = c.emit_all-sent.new.host; failed = true };
        sending = sends_then _ _ _ _ sending;
        of_events = [];
        telling = tells_nothing _ _ _;
        told = refl;
        put = refl;
        failed = refl;
        counts = same_report _ _ _ _ _ _ _ _ _ _ _ c.report_of-report.ensures taken.5 heard.3 sent.3 lost
            (c.saturating_add-before.ensures ∙ (some_taken again of_orders _ _ offered.3 taken.6 ∙ ap (λ (xs : List (Event × Bool)). stopped (taken_in (again ++ xs))) (sym (append-nil of_orders))));
      },
      c.fault-then-sent.ensures,
    )

pub returns-clause-turn : goal.returns-clause-turn
returns-clause-turn g c =
    let offered = c.offer_again-again.ensures in
    let taken = c.take_orders-orders.ensures in
    let heard = c.receive_all-heard.ensures in
    let sent = c.emit_all-sent.ensures in
    let told = c.tell_all-after.ensures in
    let again : List (Event × Bool) = offered.0 in
    let of_orders : List (Event × Bool) = taken.2 in
    let of_events : List (Event × Bool) = told.0 in
    let gave : List (Option Submission) = taken.0 in
    let came : List Told = heard.0 in
    let went : List Told = sent.0 in
    let hearing : ReceivesAll g.H.Core.calls 256 c.take_orders-orders.new.host came (record { host = c.receive_all-heard.new.host; failed = false }) =
    subst (λ (b : Bool). ReceivesAll g.H.Core.calls 256 c.take_orders-orders.new.host came (record { host = c.receive_all-heard.new.host; failed = b })) c.if-heard.false heard.2 in
    let sending : EmitsAll g.H.Core.calls 256 16 c.receive_all-heard.new.host went (record { host = c.emit_all-sent.new.host; failed = false }) =
    subst (λ (b : Bool). EmitsAll g.H.Core.calls 256 16 c.receive_all-heard.new.host went (record { host = c.emit_all-sent.new.host; failed = b })) c.if-sent.false sent.2 in
    let none_yet : g.W.Wire.faults c.receive_all-heard.new.wire ≡ g.W.Wire.faults c.args.wire.now + 0 =
    heard.4 ∙ ap (λ (b : Bool). g.W.Wire.faults c.args.wire.now + count_of b) c.if-heard.false in
    let sound : g.W.Wire.faults c.receive_all-heard.new.wire ≡ g.W.Wire.faults c.args.wire.now = omega (arith, none_yet) in
    let lost : c.emit_all-sent.result.lost ≡ lost_in went + 0 = sent.4 ∙ ap (λ (b : Bool). lost_in went + count_of b) c.if-sent.false in (
      record { ms = c.args.ms; gave = gave; told = came ++ went; puts = again ++ (of_orders ++ of_events); failed = false; report = c.report_of-2.result },
      refl,
      refl,
      taken.1,
      told_on _ _ _ _ _ came went heard.1 sound sent.1,
      chain_more _ _ _ _ _ _ offered.1 (chain_more _ _ _ _ _ _ taken.3 told.1),
      record {
        ticked = c.tick.new.self;
        tick = c.tick.ensures;
        again = again;
        waits = c.offer_again-again.new.waiting;
        offered = offered.2;
        ordered = record { service = record { host = c.take_orders-orders.new.host; waiting = c.take_orders-orders.new.waiting }; puts = of_orders };
        orders = taken.4;
        came = came;
        heard = record { host = c.receive_all-heard.new.host; failed = false };
        hearing = hearing;
        went = went;
        sent = record { host = c.emit_all-sent.new.host; failed = false };
        sending = sends_then _ _ _ _ sending;
        of_events = of_events;
        telling = tells_then _ _ _ _ _ told.2;
        told = refl;
        put = refl;
        failed = refl;
        counts = same_report _ _ _ _ _ _ _ _ _ _ _ c.report_of-2.ensures taken.5 heard.3 sent.3 lost
            (c.saturating_add-events.ensures ∙ (ap (λ (n : ℕ). stopped (n + c.tell_all-after.result)) c.saturating_add-before.ensures
            ∙ all_taken again of_orders of_events _ _ _ offered.3 taken.6 told.3));
      },
      refl,
    )
