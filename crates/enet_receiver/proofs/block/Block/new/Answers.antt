use Rattle.std.proofs.Common.{length, false, sym, ap, ◌∙◌}
use Rattle.std.proofs.lemmas.List.{length-replicate}
use Rattle.enet_fragment.specs.Assembly.{missing_in}
use Rattle.enet_fragment.proofs.Pieces.{missing_in-replicate}
use Rattle.enet_receiver.proofs.block.Block.new.Goals as goal

pub invariant_of-result : goal.invariant_of-result
invariant_of-result c = record {
  many = ap length c.in_ok-marks.ensures.ok ∙ length-replicate c.from.result false ∙ c.from.ensures;
  counted = sym (ap missing_in c.in_ok-marks.ensures.ok ∙ missing_in-replicate c.from.result ∙ c.from.ensures);
}
