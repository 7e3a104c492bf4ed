use Rattle.std.proofs.Common.{ℕ, false, sym, subst}
use Rattle.std.specs.List.{list_any}
use Rattle.enet_rtt.specs.Clock.{HappensIn}
use Rattle.enet_rtt.proofs.Waits.{never, same-in}
use Rattle.enet_sender.specs.Due.{SendingEnd}
use Rattle.enet_sender.specs.Sender.{is_late}
use Rattle.enet_outbox.specs.Outbox.{Sending}
use Rattle.enet_outbox.proofs.Idle.{none_passes}
use Rattle.enet_outbox.proofs.outbox.Outbox.next_late_of_channels.Goals as goal

pub returns-then-self : goal.returns-then-self
returns-then-self c =
    subst (λ (v : Sending). HappensIn (λ (later : ℕ). list_any (λ (s : SendingEnd). list_any (is_late later) s.sender.sent) v.outbox.senders) c.args.now 4294967295) c.self.view_is
    (same-in (λ (later : ℕ). false) (λ (later : ℕ). list_any (λ (s : SendingEnd). list_any (is_late later) s.sender.sent) c.self.inside.senders) c.args.now 4294967295
    (λ later. sym (none_passes (is_late later) c.self.inside.senders (c.self.invariant.1 c.if-self.true).1)) (never c.args.now))

pub returns : goal.returns
returns c =
    subst (λ (v : Sending). HappensIn (λ (later : ℕ). list_any (λ (s : SendingEnd). list_any (is_late later) s.sender.sent) v.outbox.senders) c.args.now c.next_late.result) c.self.view_is c.next_late.ensures
