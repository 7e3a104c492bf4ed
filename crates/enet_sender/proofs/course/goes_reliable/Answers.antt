use Rattle.std.proofs.Common.{rules}
use Rattle.enet_sender.proofs.Flags.{asks-reliable, asks-fragments}
use Rattle.enet_sender.proofs.course.goes_reliable.Goals as goal

pub returns-else-is_long : goal.returns-else-is_long
returns-else-is_long c =
    let reliable = asks-reliable c.args.flags in
    let fragments = asks-fragments c.args.flags in
    search rules

pub returns-then-is_long : goal.returns-then-is_long
returns-then-is_long c =
    let reliable = asks-reliable c.args.flags in
    let fragments = asks-fragments c.args.flags in
    search rules
