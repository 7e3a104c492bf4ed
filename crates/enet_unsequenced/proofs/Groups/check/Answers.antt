use Rattle.std.proofs.Common.{sym, ◌∙◌, arith, le-ltb, false}
use Rattle.std.proofs.Math.ListN.{get_or-eq_default}
use Rattle.enet_unsequenced.specs.Marks.{marks_in}
use Rattle.enet_unsequenced.proofs.Words.{length-marks_in, marks_in-at}
use Rattle.enet_unsequenced.proofs.MarksLemmas.{check_is}
use Rattle.enet_unsequenced.proofs.Groups.check.Goals as goal
use Rattle.enet_unsequenced.proofs.Groups.check.Goals.{then-past_base-lt-BLOCK_SIZE, else-past_base-lt-BLOCK_SIZE}

pub returns-after-past_base-lt-BLOCK_SIZE : goal.returns-after-past_base-lt-BLOCK_SIZE
returns-after-past_base-lt-BLOCK_SIZE c =
    let marks = marks_in 1024 c.self.inside.words in
    let long = length-marks_in 1024 c.self.inside.words in
    check_is c.self.inside.base c.args.group marks c.args.self.now c.if-past_base-lt-BLOCK_SIZE.result
    (omega arith) (omega arith) c.self.invariant long c.self.view_is c.if-past_base-lt-REACH.true
    (elim c.if-past_base-lt-BLOCK_SIZE.branch [
      | then-past_base-lt-BLOCK_SIZE w ↦
          w.result-is ∙ w.is_marked.ensures ∙ sym (marks_in-at 1024 c.self.inside.words _ false (omega (arith, w.if-past_base-lt-BLOCK_SIZE.true)))
      | else-past_base-lt-BLOCK_SIZE w ↦
          w.result-is ∙ le-ltb _ _ w.if-past_base-lt-BLOCK_SIZE.false ∙ sym (get_or-eq_default marks false (omega (arith, long, w.if-past_base-lt-BLOCK_SIZE.false)))
    ])
