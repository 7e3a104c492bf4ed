use Rattle.std.proofs.Common.{rules}
use Rattle.enet_bridge.proofs.waiting.pump.Goals as goal

pub returns-in-Full-clause-kept : goal.returns-in-Full-clause-kept
returns-in-Full-clause-kept c = search rules

pub returns-in_default-why : goal.returns-in_default-why
returns-in_default-why c = search rules
