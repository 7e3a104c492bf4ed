use Rattle.std.proofs.Common.{◌+◌, List, [], ◌∷◌, ◌++◌, Bool, true, false, inl, refl, sym, append-nil, arith}
use Rattle.std.proofs.lemmas.List.Elements.{All-nil}
use Rattle.std.proofs.lemmas.Result.{err_from_is_err_and}
use Rattle.enet_codec.specs.declared.event.Event.{Event}
use Rattle.enet_wire.specs.declared.told.Told.{Told}
use Rattle.enet_wire.specs.declared.told.Told.TheVariants.{Waited}
use Rattle.enet_chat.specs.declared.lone.LoneRelay.{LoneRelay}
use Rattle.enet_turn.specs.Counts.{stopped, given_in, came_in, went_in, lost_in, taken_in}
use Rattle.enet_turn.specs.LoneTurn.{Applied, LoneTurn, gave_in, puts_in}
use Rattle.enet_turn.specs.Run.{IsSound}
use Rattle.enet_turn.specs.Turn.{Round}
use Rattle.enet_turn.proofs.PhaseSteps.{sends_then, sends_nothing}
use Rattle.enet_turn.proofs.Tellings.{told_on}
use Rattle.enet_serve.proofs.Passing.{passes_by, passes_on, turn_report}
use Rattle.enet_serve.proofs.TurnByTurn.{cut_turn}
use Rattle.enet_serve.proofs.lone_turn.lone_turn.Goals as goal

pub returns-in-Ok-emit-clause-turn : goal.returns-in-Ok-emit-clause-turn
returns-in-Ok-emit-clause-turn g c =
    let begun = c.in_ok-heard.ensures.begins in
    let came : List Told = begun.0 in
    let first_puts : List (Event × Bool) = begun.1 in
    let orders = c.in-Ok-apply_all.ensures.applies in
    let applied : List Applied = orders.0 in
    let sent = c.in-Ok-emit.ensures.sends in
    let went : List Told = sent.0 in
    let first : LoneRelay = c.args.relay.now in
    let put : LoneRelay = record first { events = c.receive.new.sink } in (
      record { ms = c.in-Ok.ms; gave = gave_in applied; told = came ++ went; puts = first_puts ++ puts_in applied; failed = false; report = c.and-in-Ok-emit.result },
      refl,
      record {
        came = came;
        told_first = first_puts;
        begun = c.receive.new.self;
        early = false;
        begins = begun.2;
        applied = applied;
        ordered = c.apply_all.new.service;
        applies = orders.1;
        no_orders = λ e. absurd (cc);
        went = went;
        sends = sends_then _ _ _ _ sent.1;
        waits = c.in-Ok-emit.ensures.waits;
        gave = refl;
        told = refl;
        put = refl;
        counts = turn_report c.in_ok-heard.heard c.in-Ok-apply_all.report c.and-applied.result c.in-Ok-emit.report c.and-in-Ok-emit.result came went (gave_in applied) first_puts (puts_in applied)
            begun.5 orders.3 c.and-applied.ensures sent.3 c.and-in-Ok-emit.ensures;
      },
      passes_on first put c.apply_all.new.relay [] (gave_in applied) first_puts (puts_in applied) (passes_by first put [] first_puts refl refl begun.4) orders.2,
      told_on _ _ _ _ _ (Waited c.in-Ok.ms ∷ came) went (told_on _ _ _ _ _ (Waited c.in-Ok.ms ∷ []) came c.in-Ok.ensures.told c.in-Ok.ensures.faults begun.3)
          (omega (arith, c.in_ok-heard.ensures.faults, c.in-Ok.ensures.faults)) sent.2,
      refl,
    )

pub returns-in-Err-clause-cut : goal.returns-in-Err-clause-cut
returns-in-Err-clause-cut g c = λ is. ([], inl (All-nil IsSound), refl, passes_by c.args.relay.now c.args.relay.now [] [] refl refl refl, c.in-Err.ensures.told, omega arith)

pub returns-in_err-heard-clause-cut : goal.returns-in_err-heard-clause-cut
returns-in_err-heard-clause-cut g c =
    let out = err_from_is_err_and c.from_residual.result c.from_residual.ensures.1 in
    let begun = c.in_err-heard.ensures.fails in
    let came : List Told = begun.0 in
    let puts : List (Event × Bool) = begun.1 in
    let first : LoneRelay = c.args.relay.now in
    let put : LoneRelay = record first { events = c.receive.new.sink } in
    let r : Round = record {
      ms = c.in-Ok.ms;
      gave = [];
      told = came;
      puts = puts;
      failed = true;
      report = record { orders = stopped 0; received = stopped (came_in came); sent = stopped 0; lost = stopped (0 + 0); events = stopped (taken_in puts) };
    } in
    let turn : LoneTurn g.H.Core.calls c.args.service.now r c.receive.new.self = record {
      came = came;
      told_first = puts;
      begun = c.receive.new.self;
      early = true;
      begins = begun.2;
      applied = [];
      ordered = c.receive.new.self;
      applies = refl;
      no_orders = λ e. refl;
      went = [];
      sends = sends_nothing _ _;
      waits = refl;
      gave = refl;
      told = sym (append-nil came);
      put = sym (append-nil puts);
      counts = refl;
    } in
    rw (out.1) (λ is. cut_turn _ _ _ first put _ _ _ r refl turn (passes_by first put [] puts refl refl begun.4)
    (told_on _ _ _ _ _ (Waited c.in-Ok.ms ∷ []) came c.in-Ok.ensures.told c.in-Ok.ensures.faults begun.3))

pub returns-in-Err-emit-clause-cut : goal.returns-in-Err-emit-clause-cut
returns-in-Err-emit-clause-cut g c =
    let begun = c.in_ok-heard.ensures.begins in
    let came : List Told = begun.0 in
    let first_puts : List (Event × Bool) = begun.1 in
    let orders = c.in-Ok-apply_all.ensures.applies in
    let applied : List Applied = orders.0 in
    let sent = c.in-Err-emit.ensures.fails in
    let went : List Told = sent.0 in
    let first : LoneRelay = c.args.relay.now in
    let put : LoneRelay = record first { events = c.receive.new.sink } in
    let r : Round = record {
      ms = c.in-Ok.ms;
      gave = gave_in applied;
      told = came ++ went;
      puts = first_puts ++ puts_in applied;
      failed = true;
      report = record {
        orders = stopped (given_in (gave_in applied));
        received = stopped (came_in came);
        sent = stopped (went_in went);
        lost = stopped (lost_in went + 1);
        events = stopped (taken_in (first_puts ++ puts_in applied));
      };
    } in
    let turn : LoneTurn g.H.Core.calls c.args.service.now r c.emit.new.self = record {
      came = came;
      told_first = first_puts;
      begun = c.receive.new.self;
      early = false;
      begins = begun.2;
      applied = applied;
      ordered = c.apply_all.new.service;
      applies = orders.1;
      no_orders = λ e. absurd (cc);
      went = went;
      sends = sends_then _ _ _ _ sent.1;
      waits = c.in-Err-emit.ensures.waits;
      gave = refl;
      told = refl;
      put = refl;
      counts = refl;
    } in λ is. cut_turn _ _ _ first c.apply_all.new.relay _ _ _ r refl turn
    (passes_on first put c.apply_all.new.relay [] (gave_in applied) first_puts (puts_in applied) (passes_by first put [] first_puts refl refl begun.4) orders.2)
    (told_on _ _ _ _ _ (Waited c.in-Ok.ms ∷ came) went (told_on _ _ _ _ _ (Waited c.in-Ok.ms ∷ []) came c.in-Ok.ensures.told c.in-Ok.ensures.faults begun.3)
    (omega (arith, c.in_ok-heard.ensures.faults, c.in-Ok.ensures.faults)) sent.2)
