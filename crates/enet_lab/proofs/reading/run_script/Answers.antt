use Rattle.std.proofs.Common.{◌++◌, []}
use Rattle.std.proofs.KnownBytes.{Appends-nil, Appends-trans, Consumes-nil, Consumes-trans}
use Rattle.enet_lab.specs.Scripts.{IsPart, IsStopped}
use Rattle.enet_lab.proofs.Ends.{through}
use Rattle.enet_lab.proofs.Passages.{at_end, whole, last_short, last_stopped, within}
use Rattle.enet_lab.proofs.Running.{begin}
use Rattle.enet_lab.proofs.reading.run_script.Goals as goal

pub reads-init : goal.reads-init
reads-init g c = ([], Consumes-nil _, ([], Appends-nil _, rw (c.requires.empty, c.requires.first, c.new-line.ensures.items) begin))

pub returns-in_default-clause-whole : goal.returns-in_default-clause-whole
returns-in_default-clause-whole g c =
    let past = c.reads.invariant in
    let read = at_end _ _ _ _ _ past.0 c.in_default.not-Some past.1 c.in_ok-len.ensures.bytes c.in_ok-len.ensures.end in
    whole c.run_line.result _ _ _ _ _ past.0 past.2.0 _ _ _ _ read past.2.1 past.2.2 (rw c.as_slice.ensures.value at c.run_line.ensures.ran)

pub returns-in_default-clause-stopped : goal.returns-in_default-clause-stopped
returns-in_default-clause-stopped g c =
    let past = c.reads.invariant in
    let read = at_end _ _ _ _ _ past.0 c.in_default.not-Some past.1 c.in_ok-len.ensures.bytes c.in_ok-len.ensures.end in
    last_stopped c.run_line.result _ _ _ _ _ past.0 past.2.0 _ _ _ _ read past.2.1 past.2.2 c.run_line.ensures.counted
    (rw c.as_slice.ensures.value at c.run_line.ensures.stopped)

pub returns-in_err-take_in-clause-stopped : goal.returns-in_err-take_in-clause-stopped
returns-in_err-take_in-clause-stopped g c =
    let past = c.reads.invariant in
    through c.from_residual-in_err-take_in.result _ _ c.from_residual-in_err-take_in.ensures.1 (λ number is.
    within (λ script wrote. IsStopped script wrote number) _ _ _ _ _ _ past.0 _ past.2.0 _ _ _ past.1 (rw c.in-Some.is at c.in_ok-len.ensures.bytes) past.2.1 past.2.2
    (c.in_err-take_in.ensures.stopped number is))

pub returns-in_default-clause-short : goal.returns-in_default-clause-short
returns-in_default-clause-short g c =
    let past = c.reads.invariant in
    let read = at_end _ _ _ _ _ past.0 c.in_default.not-Some past.1 c.in_ok-len.ensures.bytes c.in_ok-len.ensures.end in
    last_short c.run_line.result _ _ _ _ _ past.0 past.2.0 _ _ _ read past.2.1 past.2.2 c.run_line.ensures.short

pub returns-in_err-take_in-clause-short : goal.returns-in_err-take_in-clause-short
returns-in_err-take_in-clause-short g c =
    let past = c.reads.invariant in
    through c.from_residual-in_err-take_in.result _ _ c.from_residual-in_err-take_in.ensures.1 (λ is.
    within IsPart _ _ _ _ _ _ past.0 _ past.2.0 _ _ _ past.1 (rw c.in-Some.is at c.in_ok-len.ensures.bytes) past.2.1 past.2.2
    (c.in_err-take_in.ensures.short is))

pub reads-preserved : goal.reads-preserved
reads-preserved g c =
    let past = c.reads.invariant in
    let ran = c.in_ok-take_in.ensures.ran in (
      past.0 ++ _,
      Consumes-trans _ _ _ past.0 _ past.1 (rw c.in-Some.is at c.in_ok-len.ensures.bytes),
      (past.2.0 ++ ran.0, Appends-trans _ _ _ past.2.0 ran.0 past.2.1 ran.1, ran.2 past.0 past.2.0 past.2.2),
    )
