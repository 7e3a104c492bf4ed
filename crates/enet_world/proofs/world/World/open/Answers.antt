use Rattle.std.proofs.Common.{refl, ◌≡◌, ◌&&◌, true, false, [], ap, rules}
use Rattle.enet_codec.specs.Config.{is_in_range}
use Rattle.law_network.specs.World.{World}
use Rattle.enet_world.proofs.world.World.open.Goals as goal

pub returns-clause-fresh : goal.returns-clause-fresh
returns-clause-fresh c = ap (λ (w : World). record { joined = false; passed = 0; world = w }) c.in_ok-open.ensures.fresh

pub invariant_of-result : goal.invariant_of-result
invariant_of-result c =
    let in_range : is_in_range c.args.cfg_a && is_in_range c.args.cfg_b ≡ true = search rules in
    record {
      reached = record { a = c.args.cfg_a; b = c.args.cfg_b; in_range = in_range; events = []; answers = []; runs = c.in_ok-open.ensures.fresh };
      counted = refl;
      clock_a = search rules;
      clock_b = search rules;
    }
