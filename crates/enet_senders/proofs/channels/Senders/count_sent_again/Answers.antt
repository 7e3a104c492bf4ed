use Rattle.std.proofs.Common.{List, refl, sym, ap, ◌∙◌}
use Rattle.enet_sender.specs.Counting.{added}
use Rattle.enet_sender.specs.Due.{SendingEnd}
use Rattle.enet_senders.specs.Counting.{count_on, count_over}
use Rattle.enet_senders.proofs.Made.{all_sum}
use Rattle.enet_senders.proofs.channels.Senders.count_sent_again.Goals as goal

pub returns : goal.returns
returns c =
    c.count_sent_again.ensures ∙ ap (added c.args.so_far) (sym (all_sum c.self.inside.count c.self.inside.made count_on (λ n. refl)) ∙ ap (λ (es : List SendingEnd). count_over es) c.self.view_is)
