use Rattle.std.proofs.Common.{refl, ◌≡◌, ◌&&◌, true, [], rules}
use Rattle.enet_codec.specs.Config.{is_in_range}
use Rattle.enet_world.proofs.world.World.joined.Goals as goal

pub invariant_of-result : goal.invariant_of-result
invariant_of-result c =
    let in_range : is_in_range c.args.cfg_a && is_in_range c.args.cfg_b ≡ true = search rules in
    record {
      reached = record { a = c.args.cfg_a; b = c.args.cfg_b; in_range = in_range; events = []; answers = []; runs = c.in_ok-joined.ensures.fresh };
      counted = refl;
      clock_a = search rules;
      clock_b = search rules;
    }
