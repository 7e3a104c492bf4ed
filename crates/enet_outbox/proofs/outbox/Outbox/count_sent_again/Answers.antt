use Rattle.std.proofs.Common.{ℕ, ap, ◌∙◌}
use Rattle.enet_sender.specs.Counting.{added}
use Rattle.enet_sender.proofs.Tallies.{added-more}
use Rattle.enet_senders.specs.Counting.{count_control, count_over}
use Rattle.enet_outbox.specs.Counting.{count_in}
use Rattle.enet_outbox.specs.Outbox.{Sending}
use Rattle.enet_outbox.proofs.outbox.Outbox.count_sent_again.Goals as goal

pub returns : goal.returns
returns c =
    let o = c.self.inside in
    c.count_sent_again.ensures
    ∙ ap (λ (n : ℕ). added n (count_over o.senders)) c.count_sent_again-control.ensures
    ∙ added-more c.args.so_far (count_control o.control.commands) (count_over o.senders)
    ∙ ap (λ (v : Sending). added c.args.so_far (count_in v.outbox)) c.self.view_is
