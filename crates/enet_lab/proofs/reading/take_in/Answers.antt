use Rattle.std.proofs.Common.{◌≡◌, ◌++◌, rules, subst, ◌∙◌, false}
use Rattle.std.proofs.lemmas.List.{take_all}
use Rattle.std.proofs.KnownBytes.{Appends-trans, Appends-kept}
use Rattle.std.specs.Io.KnownBytes.{Appends}
use Rattle.enet_lab.specs.Lines.{RunsLine, can_read}
use Rattle.enet_lab.specs.Scripts.{HasRun, written_for}
use Rattle.enet_lab.proofs.Ends.{of_any, through}
use Rattle.enet_lab.proofs.Running.{fed, grown, partly_at, stopped_at}
use Rattle.enet_lab.proofs.reading.take_in.Goals.{then-byte-eq10+in_ok-run_line, else-byte-eq10+in_ok-push}
use Rattle.enet_lab.proofs.reading.take_in.Goals as goal

pub returns-in_err-run_line-clause-stopped : goal.returns-in_err-run_line-clause-stopped
returns-in_err-run_line-clause-stopped g c =
    let past = c.loop-byte.invariant in
    through c.from_residual.result _ _ c.from_residual.ensures.1 (λ number is.
    let said = c.in_err-run_line.ensures.stopped number is in (
      past.0,
      Appends-kept _ _ _ past.0 past.1 said.2,
      λ seen wrote later h. stopped_at seen (wrote ++ past.0) c.args.bytes.now later c.loop-byte.byte-index _ c.loop-byte.script.lines _ number c.loop-byte-test.true
          c.if-byte-eq10.true (past.2 seen wrote h) (subst (λ l. can_read c.loop-byte.script.stage l ≡ false) c.as_slice.ensures.value said.1)
          (said.0 ∙ c.run_line.ensures.counted),
    ))

pub returns-in_err-run_line-clause-short : goal.returns-in_err-run_line-clause-short
returns-in_err-run_line-clause-short g c =
    let past = c.loop-byte.invariant in
    through c.from_residual.result _ _ c.from_residual.ensures.1 (λ is. (
      past.0,
      Appends-kept _ _ _ past.0 past.1 (c.in_err-run_line.ensures.short is),
      λ seen wrote later h. partly_at seen (wrote ++ past.0) c.args.bytes.now later c.loop-byte.byte-index _ c.loop-byte.script.lines _ (past.2 seen wrote h),
    ))

pub returns-in_err-push-clause-short : goal.returns-in_err-push-clause-short
returns-in_err-push-clause-short g c =
    let past = c.loop-byte.invariant in
    of_any _ (
      past.0,
      past.1,
      λ seen wrote later h. partly_at seen (wrote ++ past.0) c.args.bytes.now later c.loop-byte.byte-index _ c.loop-byte.script.lines _ (past.2 seen wrote h),
    )

pub returns-clause-ran : goal.returns-clause-ran
returns-clause-ran g c =
    let past = c.loop-byte.invariant in
    let all = take_all c.loop-byte.byte-index c.args.bytes.now (search rules) in (
      past.0,
      past.1,
      λ seen wrote h. subst (λ l. HasRun (seen ++ l) (wrote ++ past.0) c.loop-byte.script.stage c.loop-byte.script.lines c.loop-byte.line.items) all (past.2 seen wrote h),
    )

pub loop-byte-preserved : goal.loop-byte-preserved
loop-byte-preserved g c =
    let past = c.loop-byte.invariant in
    elim c.if-byte-eq10.branch [
      | then-byte-eq10+in_ok-run_line w ↦
          let ran = w.in_ok-run_line.ensures.ran in
          rw (w.writer-is, w.script-is, w.line-is, w.clear.ensures.items) (
            past.0 ++ written_for ran.2.0,
            Appends-trans _ _ _ past.0 (written_for ran.2.0) past.1 (subst (Appends _ _) ran.2.2 ran.1),
            λ seen wrote h. fed seen wrote past.0 c.args.bytes.now c.loop-byte.byte-index _ c.loop-byte.script.lines _ ran.2.0 _ w.run_line.new.script.lines
                c.loop-byte-test.true w.if-byte-eq10.true (past.2 seen wrote h) (subst (λ l. RunsLine c.loop-byte.script.stage l ran.2.0 w.run_line.new.script.stage) w.as_slice.ensures.value ran.2.1) w.run_line.ensures.counted,
          )
      | else-byte-eq10+in_ok-push w ↦
          rw (w.writer-is, w.script-is, w.line-is, w.in_ok-push.ensures.items) (
            past.0,
            past.1,
            λ seen wrote h. grown seen (wrote ++ past.0) c.args.bytes.now c.loop-byte.byte-index _ c.loop-byte.script.lines _ c.loop-byte-test.true
                w.if-byte-eq10.false (past.2 seen wrote h),
          )
    ]
