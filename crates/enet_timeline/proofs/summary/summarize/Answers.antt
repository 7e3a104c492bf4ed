use Rattle.std.proofs.Common.{◌≡◌, ◌++◌, [], ap, sym, ◌∙◌, arith, subst, append_assoc, append-nil, length}
use Rattle.enet_timeline.specs.Summaries.{TellsParts, whole_text}
use Rattle.enet_timeline.proofs.Telling.{no_parts, parts_more}
use Rattle.enet_timeline.proofs.summary.summarize.Goals as goal

pub loop-index-init : goal.loop-index-init
loop-index-init c =
    let parts = c.args.parts.now in
    let whole = whole_text c.args.timeline.now c.args.asked (length parts) in (
      [],
      c.in_ok-push_whole.ensures ∙ ap (λ l. l ++ whole) c.new-text.ensures.bytes ∙ sym (append-nil _),
      no_parts parts c.args.timeline.now.source c.args.at,
    )

pub loop-index-preserved : goal.loop-index-preserved
loop-index-preserved c =
    let before = c.loop-index.invariant in
    let told = c.in_ok-push_part.ensures in (
      before.0 ++ told.0,
      told.1 ∙ ap (λ l. l ++ told.0) before.1 ∙ append_assoc _ before.0 told.0,
      parts_more c.args.parts.now c.args.timeline.now.source c.args.at c.loop-index.index before.0 told.0 _ c.loop-index-test.true c.index-parts-index.is before.2 told.2,
    )

pub returns : goal.returns
returns c =
    let past = c.loop-index.invariant in
    let all : c.loop-index.index ≡ length c.args.parts.now = omega arith in
    record { told_parts = past.0; told = past.1; each = subst (λ k. TellsParts c.args.parts.now c.args.timeline.now.source c.args.at k past.0) all past.2 }
