use Rattle.std.proofs.Common.{arith, refl, ap, min, ◌∙◌}
use Rattle.enet_world.specs.Needed.{pieces_of, pieces_below}
use Rattle.enet_world.proofs.Commands.{pieces-next}
use Rattle.enet_world.proofs.world.World.pieces.Goals as goal

pub channels-init : goal.channels-init
unfolding pieces_below
channels-init c = record { counted = refl; end = omega arith }

pub channels-preserved : goal.channels-preserved
channels-preserved c = record {
  counted =
      pieces-next c.args.self.now.world c.args.conn c.args.side c.channels.channel c.channels.pieces c.pieces_of-more.result c.saturating_add-pieces.result c.channels.invariant.counted
      (c.pieces_of-more.ensures ∙ ap (λ ps. min (pieces_of ps) 18446744073709551615) c.submitted.ensures) c.saturating_add-pieces.ensures;
  end = omega (arith, c.channels-test.true);
}
