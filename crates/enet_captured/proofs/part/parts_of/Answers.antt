use Rattle.std.proofs.Common.{◌≡◌, length, arith, subst, sym}
use Rattle.enet_captured.specs.Parts.{AreParts}
use Rattle.enet_captured.proofs.PassLemmas.{no_parts, parts_more}
use Rattle.enet_captured.proofs.part.parts_of.Goals as goal

pub loop-index-init : goal.loop-index-init
loop-index-init c = subst (AreParts c.args.timeline.now c.args.asked 0) (sym c.new-parts.ensures.items) (no_parts c.args.timeline.now c.args.asked)

pub loop-index-preserved : goal.loop-index-preserved
loop-index-preserved c =
    let told = c.in_ok-push_part.ensures in
    parts_more c.args.timeline.now c.args.asked c.loop-index.index c.loop-index.parts.items told.0 _ c.loop-index.invariant told.2 told.1

pub returns : goal.returns
returns c =
    let all : c.loop-index.index ≡ length c.args.timeline.now.connections.items = omega arith in
    subst (λ k. AreParts c.args.timeline.now c.args.asked k c.loop-index.parts.items) all c.loop-index.invariant
