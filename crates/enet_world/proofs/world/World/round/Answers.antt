use Rattle.std.proofs.Common.{ap, refl, ◌∙◌}
use Rattle.law_network.specs.declared.event.Side.TheVariants.{B}
use Rattle.law_network.specs.declared.event.WorldEvent.TheVariants as happen
use Rattle.enet_world.specs.Worlds.{passed_by}
use Rattle.enet_world.proofs.world.World.round.Goals as goal

pub returns-clause-round : goal.returns-clause-round
returns-clause-round c = record {
  ticked_a = c.happen-told_a.new.self.world;
  ticks_a = (c.happen-told_a.result, c.happen-told_a.ensures.steps);
  ticked = c.happen-told_b.new.self.world;
  ticks_b = (c.happen-told_b.result, c.happen-told_b.ensures.steps);
  cut_forth = c.put_all_out-out_a.result.cut;
  cut_back = c.put_all_out-out_b.result.cut;
  cut_a = c.take_all-taken_a.result.cut;
  cut_b = c.take_all-taken_b.result.cut;
  sent_a = c.put_all_out-out_a.new.self.world;
  forth = c.put_all_out-out_a.ensures.all;
  sent = c.put_all_out-out_b.new.self.world;
  back = c.put_all_out-out_b.ensures.all;
  taken_a = c.take_all-taken_a.new.self.world;
  takes_a = c.take_all-taken_a.ensures.all;
  takes_b = c.take_all-taken_b.ensures.all;
  all_a = refl;
  all_b = refl;
}

pub returns-clause-passed : goal.returns-clause-passed
returns-clause-passed c =
    c.take_all-taken_b.ensures.passed ∙ c.take_all-taken_a.ensures.passed ∙ c.put_all_out-out_b.ensures.passed ∙ c.put_all_out-out_a.ensures.passed
    ∙ c.happen-told_b.ensures.passed ∙ ap (passed_by (happen.Tick B c.args.ms)) c.happen-told_a.ensures.passed
