use Rattle.std.proofs.Common.{not, ap, sym, ◌∙◌}
use Rattle.std.specs.List.{list_any}
use Rattle.enet_sender.specs.Due.{SendingEnd}
use Rattle.enet_sender.specs.Sender as sender
use Rattle.enet_outbox.specs.Outbox.{Sending}
use Rattle.enet_outbox.proofs.Idle.{none_passes}
use Rattle.enet_outbox.proofs.outbox.Outbox.any_ends.Goals as goal

pub returns-else-not-self : goal.returns-else-not-self
returns-else-not-self c =
    ap not c.if-not-self.false ∙ sym (none_passes (sender.ends c.args.now c.args.patience.now c.args.heard) c.self.inside.senders (c.self.invariant.1 c.if-not-self.false).1)
    ∙ ap (λ (v : Sending). list_any (λ (s : SendingEnd). list_any (sender.ends c.args.now c.args.patience.now c.args.heard) s.sender.sent) v.outbox.senders) c.self.view_is
