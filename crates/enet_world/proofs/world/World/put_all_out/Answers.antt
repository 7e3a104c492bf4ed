use Rattle.std.proofs.Common.{◌≤◌, ◌∙◌, arith, inr, refl, sym}
use Rattle.enet_world.proofs.Calming.{carries-more}
use Rattle.enet_world.proofs.world.World.put_all_out.Goals as goal

pub turns-preserved : goal.turns-preserved
turns-preserved c =
    let before : c.turns.refused ≤ c.turns.sent = c.turns.invariant.few in
    let now : c.refusals_in-refused.result ≤ 1 = c.refusals_in-refused.ensures.few in
    let before_stopped : c.turns.stopped ≤ c.turns.sent = c.turns.invariant.few_stopped in
    let stopped : c.stops_in-stopped.result ≤ 1 = c.stops_in-stopped.ensures.few in
    record {
      carried = carries-more c.args.side c.other.result c.turns.sent c.turns.refused c.turns.stopped c.refusals_in-refused.result c.stops_in-stopped.result c.in-Some.k c.args.self.now.world c.turns.self.world
          c.happen-told.new.self.world c.happen-answer.new.self.world c.happen-told.result c.happen-answer.result c.other.ensures c.turns.invariant.carried c.happen-told.ensures.steps
          (sym c.datagram_in.ensures ∙ c.in-Some.is) c.happen-answer.ensures.steps c.refusals_in-refused.ensures.counted c.stops_in-stopped.ensures.counted;
      few = omega arith;
      few_stopped = omega arith;
      end = omega (arith, c.turns-test.true);
      joined = c.happen-answer.ensures.joined ∙ c.happen-told.ensures.joined ∙ c.turns.invariant.joined;
      passed = c.happen-answer.ensures.passed ∙ c.happen-told.ensures.passed ∙ c.turns.invariant.passed;
    }

-- the same where what was told holds an event, of which nothing more is asked
pub turns-preserved-in-Some-5 : goal.turns-preserved-in-Some-5
turns-preserved-in-Some-5 c =
    let before : c.turns.refused ≤ c.turns.sent = c.turns.invariant.few in
    let now : c.refusals_in-refused.result ≤ 1 = c.refusals_in-refused.ensures.few in
    let before_stopped : c.turns.stopped ≤ c.turns.sent = c.turns.invariant.few_stopped in
    let stopped : c.stops_in-stopped.result ≤ 1 = c.stops_in-stopped.ensures.few in
    record {
      carried = carries-more c.args.side c.other.result c.turns.sent c.turns.refused c.turns.stopped c.refusals_in-refused.result c.stops_in-stopped.result c.in-Some.k c.args.self.now.world c.turns.self.world
          c.happen-told.new.self.world c.happen-answer.new.self.world c.happen-told.result c.happen-answer.result c.other.ensures c.turns.invariant.carried c.happen-told.ensures.steps
          (sym c.datagram_in.ensures ∙ c.in-Some.is) c.happen-answer.ensures.steps c.refusals_in-refused.ensures.counted c.stops_in-stopped.ensures.counted;
      few = omega arith;
      few_stopped = omega arith;
      end = omega (arith, c.turns-test.true);
      joined = c.happen-answer.ensures.joined ∙ c.happen-told.ensures.joined ∙ c.turns.invariant.joined;
      passed = c.happen-answer.ensures.passed ∙ c.happen-told.ensures.passed ∙ c.turns.invariant.passed;
    }

pub returns-clause-all : goal.returns-clause-all
returns-clause-all c = (c.turns.self.world, c.turns.invariant.carried, inr (omega (arith, c.turns-test.false, c.turns.invariant.end), refl, refl))
