use Rattle.enet_senders.proofs.Sets.{keeps-marked}
use Rattle.enet_senders.proofs.senders.MadeSenders.mark.Goals as goal

pub invariant_of-self : goal.invariant_of-self
invariant_of-self c = record {
  kept = c.mark_late-late.ensures.kept;
  sets = keeps-marked c.self.inside.ready c.self.inside.flying _ c.args.tick _ _ c.mark_late-late.ensures.ends c.join.ensures c.self.invariant.sets;
}
