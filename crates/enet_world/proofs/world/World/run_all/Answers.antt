use Rattle.std.proofs.Common.{arith, ap, sym, take, ◌∙◌}
use Rattle.std.proofs.lemmas.List.{take_more}
use Rattle.law_network.specs.World.{Steps}
use Rattle.law_network.proofs.Running.{runs-push}
use Rattle.enet_world.specs.Worlds.{passed_by}
use Rattle.enet_world.proofs.Reaching.{passed-push}
use Rattle.enet_world.proofs.world.World.run_all.Goals as goal

pub loop-event-preserved : goal.loop-event-preserved
loop-event-preserved c =
    let events = c.args.events.now in
    let event = c.event-item.result in
    record {
      runs = rw (take_more events c.loop-event.event-index event c.loop-event-test.true, ← c.event-item.is, c.push_reserved.ensures.items)
          (runs-push Steps _ _ _ _ _ _ _ c.loop-event.invariant.runs c.happen.ensures.steps);
      joined = c.happen.ensures.joined ∙ c.loop-event.invariant.joined;
      passed = rw (take_more events c.loop-event.event-index event c.loop-event-test.true, ← c.event-item.is)
          (c.happen.ensures.passed ∙ ap (passed_by event) c.loop-event.invariant.passed ∙ sym (passed-push (take c.loop-event.event-index events) event c.args.self.now.passed));
      len = omega arith;
      capacity = omega arith;
    }
