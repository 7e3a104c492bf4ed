use Rattle.std.proofs.Common.{List, length, sym, ap, ◌∙◌}
use Rattle.enet_sender.specs.Due.{SendingEnd}
use Rattle.enet_senders.proofs.Made.{all_length}
use Rattle.enet_senders.proofs.channels.Senders.len.Goals as goal

pub returns : goal.returns
returns c = sym (all_length c.self.inside.count c.self.inside.made c.self.invariant) ∙ ap (λ (es : List SendingEnd). length es) c.self.view_is
