use Rattle.std.proofs.Common.{rules}
use Rattle.enet_sender.proofs.Flags.{asks-reliable, asks-unsequenced}
use Rattle.enet_outbox.proofs.outbox.is_unsequenced.Goals as goal

pub returns-then-not-asks_for_reliable : goal.returns-then-not-asks_for_reliable
returns-then-not-asks_for_reliable c =
    let reliable = asks-reliable c.args.flags in
    let unsequenced = asks-unsequenced c.args.flags in
    search rules

pub returns-else-not-asks_for_reliable : goal.returns-else-not-asks_for_reliable
returns-else-not-asks_for_reliable c =
    let reliable = asks-reliable c.args.flags in
    let unsequenced = asks-unsequenced c.args.flags in
    search rules
