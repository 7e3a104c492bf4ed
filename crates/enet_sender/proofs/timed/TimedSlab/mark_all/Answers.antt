use Rattle.std.proofs.Common.{rules}
use Rattle.enet_sender.proofs.Weighing.{bytes-all-marked}
use Rattle.enet_sender.proofs.timed.TimedSlab.mark_all.Goals as goal

pub invariant_of-self : goal.invariant_of-self
invariant_of-self c =
    (search rules, bytes-all-marked c.self.inside.slab c.mark_all.new.slab c.self.inside.bytes c.args.tick c.self.invariant.1 c.mark_all.ensures.marked)
