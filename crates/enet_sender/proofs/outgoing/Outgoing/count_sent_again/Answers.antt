use Rattle.std.proofs.Common.{ap, ◌∙◌}
use Rattle.slab.specs.Slab.{get}
use Rattle.enet_sender.specs.Counting.{added, is_sent_again}
use Rattle.enet_sender.proofs.Tallies.{count-named}
use Rattle.enet_sender.proofs.outgoing.Outgoing.count_sent_again.Goals as goal

pub returns : goal.returns
returns c = c.count_sent_again.ensures ∙ ap (added c.args.so_far) (count-named is_sent_again (get c.args.pending.now.slab) c.args.self.now.sent.items)
