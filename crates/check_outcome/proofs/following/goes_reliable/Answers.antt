use Rattle.std.proofs.Common.{rules}
use Rattle.enet_sender.proofs.Flags.{asks-reliable, asks-fragments}
use Rattle.check_outcome.proofs.following.goes_reliable.Goals as goal

pub returns-then-is_long : goal.returns-then-is_long
returns-then-is_long c =
    let reliable = asks-reliable c.args.packet.now.flags in
    let fragments = asks-fragments c.args.packet.now.flags in
    search rules
