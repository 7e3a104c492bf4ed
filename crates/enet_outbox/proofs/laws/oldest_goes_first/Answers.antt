use Rattle.enet_outbox.proofs.Oldest.{oldest-first}
use Rattle.enet_outbox.proofs.laws.oldest_goes_first.Goals as goal

pub returns : goal.returns
returns c = oldest-first
