use Rattle.std.proofs.Common.{◌≡◌, ◌∙◌, arith, subst}
use Rattle.enet_world.specs.Calm.{Rounds}
use Rattle.enet_world.specs.Worlds.{passed_by_rounds}
use Rattle.enet_world.proofs.AloneIsTold.{tells-alone}
use Rattle.enet_world.proofs.Calming.{rounds-more}
use Rattle.enet_world.proofs.EndsAreTold.{tells-ends, comes-or-ends}
use Rattle.enet_world.proofs.Habits.{habits}
use Rattle.enet_world.proofs.Reaching.{passed-more}
use Rattle.enet_world.proofs.Stands.{both-stand}
use Rattle.enet_world.proofs.Through.{gets-through}
use Rattle.enet_world.proofs.world.World.calm.Goals as goal

pub rounds-preserved : goal.rounds-preserved
rounds-preserved c = record {
  rounds = rounds-more c.args.ms c.rounds.played c.rounds.told c.round-now.result (record { a = c.plus-of_a.result; b = c.plus-of_b.result }) c.args.self.now.world c.rounds.self.world
      c.round-now.new.self.world c.rounds.invariant.rounds c.round-now.ensures.round (λ i. record { a = c.plus-of_a.ensures i; b = c.plus-of_b.ensures i });
  end = omega (arith, c.rounds-test.true);
  joined = c.round-now.ensures.joined ∙ c.rounds.invariant.joined;
  passed = passed-more c.rounds.played c.args.ms c.args.self.now.passed c.rounds.self.passed c.round-now.new.self.passed c.rounds.invariant.passed c.round-now.ensures.passed;
}

pub returns-clause-rounds : goal.returns-clause-rounds
returns-clause-rounds c =
    let all : c.rounds.played ≡ c.args.rounds = omega (arith, c.rounds-test.false, c.rounds.invariant.end) in
    subst (λ n. Rounds c.args.ms n c.rounds.told c.args.self.now.world c.rounds.self.world) all c.rounds.invariant.rounds

pub returns-clause-passed : goal.returns-clause-passed
returns-clause-passed c =
    let all : c.rounds.played ≡ c.args.rounds = omega (arith, c.rounds-test.false, c.rounds.invariant.end) in
    subst (λ n. c.rounds.self.passed ≡ passed_by_rounds n c.args.ms c.args.self.now.passed) all c.rounds.invariant.passed

pub returns-clause-progress : goal.returns-clause-progress
returns-clause-progress c = gets-through c.args.self.now.joined c.args.ms c.args.rounds c.rounds.told c.args.self.now.world c.rounds.self.world c.is_reached.ensures.reached
    (habits c.args.self.now.passed c.args.self.now.joined c.args.self.now.world c.is_reached.ensures) (returns-clause-rounds c)

pub returns-clause-told : goal.returns-clause-told
returns-clause-told c = tells-ends c.args.self.now.joined c.args.ms c.args.rounds c.rounds.told c.args.self.now.world c.rounds.self.world c.is_reached.ensures.reached (returns-clause-rounds c)

pub returns-clause-all : goal.returns-clause-all
returns-clause-all c = comes-or-ends c.args.self.now.joined c.args.ms c.args.rounds c.rounds.told c.args.self.now.world c.rounds.self.world c.is_reached.ensures.reached
    (habits c.args.self.now.passed c.args.self.now.joined c.args.self.now.world c.is_reached.ensures) (returns-clause-rounds c)

pub returns-clause-alone : goal.returns-clause-alone
returns-clause-alone c = tells-alone c.args.self.now.joined c.args.ms c.args.rounds c.args.self.now.passed c.rounds.told c.args.self.now.world c.rounds.self.world c.is_reached.ensures (returns-clause-rounds c)

pub returns-clause-stands : goal.returns-clause-stands
returns-clause-stands c = both-stand c.args.self.now.joined c.args.ms c.args.rounds c.args.self.now.world c.rounds.self.world c.is_reached.ensures.reached
    (habits c.args.self.now.passed c.args.self.now.joined c.args.self.now.world c.is_reached.ensures)
