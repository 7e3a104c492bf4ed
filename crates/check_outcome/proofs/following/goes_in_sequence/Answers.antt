use Rattle.std.proofs.Common.{rules}
use Rattle.enet_sender.proofs.Flags.{asks-reliable, asks-unsequenced}
use Rattle.check_outcome.proofs.following.goes_in_sequence.Goals as goal

pub returns-then-packet-channel : goal.returns-then-packet-channel
returns-then-packet-channel c =
    let reliable = asks-reliable c.args.packet.now.flags in
    let unsequenced = asks-unsequenced c.args.packet.now.flags in
    search rules
