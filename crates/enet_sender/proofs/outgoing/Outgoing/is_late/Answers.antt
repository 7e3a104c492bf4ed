use Rattle.std.proofs.Common.{◌∙◌}
use Rattle.slab.specs.Slab.{get}
use Rattle.enet_sender.specs.Sender.{is_late}
use Rattle.enet_sender.proofs.Rounds.{any-named}
use Rattle.enet_sender.proofs.outgoing.Outgoing.is_late.Goals as goal

pub returns : goal.returns
returns c = c.any_late.ensures ∙ any-named (is_late c.args.now) (get c.args.pending.now.slab) c.args.self.now.sent.items
