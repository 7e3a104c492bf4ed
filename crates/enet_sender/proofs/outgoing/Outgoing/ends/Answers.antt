use Rattle.std.proofs.Common.{◌∙◌}
use Rattle.slab.specs.Slab.{get}
use Rattle.enet_sender.specs.Sender.{ends}
use Rattle.enet_sender.proofs.Rounds.{any-named}
use Rattle.enet_sender.proofs.outgoing.Outgoing.ends.Goals as goal

pub returns : goal.returns
returns c = c.any_ends.ensures ∙ any-named (ends c.args.now c.args.patience.now c.args.heard) (get c.args.pending.now.slab) c.args.self.now.sent.items
