use Rattle.std.proofs.Common.{Bool, not, refl, sym, ap, ◌∙◌}
use Rattle.std.specs.List.{list_all}
use Rattle.enet_sender.specs.Sender.{left}
use Rattle.enet_sender.specs.Due.{SendingEnd}
use Rattle.enet_senders.proofs.Made.{all_each}
use Rattle.enet_senders.proofs.channels.Senders.have_no_reliable.Goals as goal

pub returns : goal.returns
returns c =
    let one : SendingEnd → Bool = λ (s : SendingEnd). not (left s.sender).reliable in
    c.have_no_reliable.ensures ∙ sym (all_each c.self.inside.count c.self.inside.made one (λ n. refl)) ∙ ap (list_all one) c.self.view_is
