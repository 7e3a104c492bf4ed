use Rattle.std.proofs.Common.{rules}
use Rattle.enet_outbox.proofs.outbox.Outbox.has_acknowledgements.Goals as goal

pub returns : goal.returns
returns c = search rules
