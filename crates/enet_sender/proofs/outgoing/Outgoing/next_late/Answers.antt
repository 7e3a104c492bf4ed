use Rattle.std.proofs.Common.{ℕ}
use Rattle.std.specs.List.{list_any}
use Rattle.slab.specs.Slab.{get}
use Rattle.enet_rtt.proofs.Waits.{same-in}
use Rattle.enet_sender.specs.Sender.{is_late}
use Rattle.enet_sender.specs.Private.Rounds.{test_at}
use Rattle.enet_sender.specs.Rings.{sender_in}
use Rattle.enet_sender.proofs.Rounds.{any-named}
use Rattle.enet_sender.proofs.outgoing.Outgoing.next_late.Goals as goal

pub returns : goal.returns
returns c =
    let at = get c.args.pending.now.slab in
    same-in (λ (later : ℕ). list_any (λ (key : ℕ). test_at (is_late later) (at key)) c.args.self.now.sent.items) (λ (later : ℕ). list_any (is_late later) (sender_in c.args.pending.now c.args.self.now).sent)
    c.args.now c.next_late.result (λ later. any-named (is_late later) at c.args.self.now.sent.items) c.next_late.ensures
