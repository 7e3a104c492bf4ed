use Rattle.std.proofs.Common.{rules}
use Rattle.enet_codec.proofs.refusal.Refusal.label.Goals as goal

pub returns-in-TooLarge : goal.returns-in-TooLarge
returns-in-TooLarge c = search rules
