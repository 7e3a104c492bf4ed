use Rattle.enet_senders.proofs.Sets.{keeps-taken}
use Rattle.enet_senders.proofs.senders.MadeSenders.narrow.Goals as goal

pub invariant_of-self : goal.invariant_of-self
invariant_of-self c = record {
  kept = c.keep_first.ensures.kept;
  sets = keeps-taken c.self.inside.ready c.self.inside.flying c.args.count _ _ c.keep_first.ensures.ends c.self.invariant.sets;
}
