use Rattle.enet_senders.specs.Senders.{ends_in}
use Rattle.enet_senders.proofs.Sets.{keeps-cleared}
use Rattle.enet_senders.proofs.senders.MadeSenders.clear.Goals as goal

pub invariant_of-self : goal.invariant_of-self
invariant_of-self c = record {
  kept = c.clear_each.ensures.kept;
  sets = keeps-cleared _ _ (ends_in c.self.inside.pending c.self.inside.channels.items) _ c.clear_each.ensures.ends;
}
