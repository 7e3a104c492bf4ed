use Rattle.std.proofs.Common.{List, ap, ◌∙◌}
use Rattle.enet_sender.specs.Due.{SendingEnd}
use Rattle.enet_senders.specs.Outstanding.{outstanding_over}
use Rattle.enet_senders.proofs.Made.{outstanding_of_all}
use Rattle.enet_senders.proofs.channels.Senders.outstanding.Goals as goal

pub returns : goal.returns
returns c = c.outstanding.ensures ∙ outstanding_of_all c.self.inside.count c.self.inside.made ∙ ap (λ (es : List SendingEnd). outstanding_over es) c.self.view_is
