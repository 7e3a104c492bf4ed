use Rattle.std.proofs.Common.{ℕ, subst}
use Rattle.std.specs.List.{list_any}
use Rattle.enet_rtt.specs.Clock.{HappensIn}
use Rattle.enet_senders.specs.Controlling.{Controlling, is_late}
use Rattle.enet_senders.proofs.outgoing.ControlChannel.next_late.Goals as goal

pub returns : goal.returns
returns c =
    subst (λ (v : Controlling). HappensIn (λ (later : ℕ). list_any (is_late later) v.commands.sent) c.args.now c.next_late.result) c.self.view_is c.next_late.ensures
