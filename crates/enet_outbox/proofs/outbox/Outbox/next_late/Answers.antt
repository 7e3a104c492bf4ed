use Rattle.std.proofs.Common.{ℕ, sym, subst}
use Rattle.std.specs.List.{list_any}
use Rattle.enet_rtt.specs.Clock.{HappensIn}
use Rattle.enet_rtt.proofs.Waits.{either-in}
use Rattle.enet_senders.specs.Controlling as controlling
use Rattle.enet_sender.specs.Due.{SendingEnd}
use Rattle.enet_sender.specs.Sender as sender
use Rattle.enet_outbox.specs.Outbox.{Sending, has_late}
use Rattle.enet_outbox.proofs.outbox.Outbox.next_late.Goals as goal

pub returns : goal.returns
returns c =
    let o = c.args.self.now.outbox in
    let now = c.args.now in
    subst (λ (n : ℕ). HappensIn (λ (later : ℕ). has_late o later) now n) (sym c.min.ensures)
    (either-in (λ (later : ℕ). list_any (controlling.is_late later) o.control.sent) (λ (later : ℕ). list_any (λ (s : SendingEnd). list_any (sender.is_late later) s.sender.sent) o.senders)
    now c.next_late-control.result c.next_late_of_channels.result
    (subst (λ (v : Sending). HappensIn (λ (later : ℕ). list_any (controlling.is_late later) v.outbox.control.sent) now c.next_late-control.result) c.self.view_is c.next_late-control.ensures)
    c.next_late_of_channels.ensures)
