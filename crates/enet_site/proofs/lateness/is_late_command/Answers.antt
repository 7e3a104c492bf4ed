use Rattle.std.proofs.Common.{rules}
use Rattle.enet_site.proofs.lateness.is_late_command.Goals as goal

pub returns : goal.returns
returns c = search rules
