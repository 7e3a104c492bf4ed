use Rattle.std.proofs.Common.{List, ap, ◌∙◌}
use Rattle.enet_sender.specs.Counting.{added}
use Rattle.enet_slot.specs.declared.slot.Slot.{Slot}
use Rattle.enet_slot.specs.Counting.{count_sent_again}
use Rattle.enet_slot.specs.Slotted.{all_shown}
use Rattle.enet_host.specs.Host.{Host}
use Rattle.enet_host.proofs.host.HostCore.sent_again.Goals as goal

pub returns : goal.returns
returns c =
    c.count_sent_again.ensures
    ∙ ap (λ (xs : List Slot). added 0 (count_sent_again (all_shown xs))) c.deref.ensures.value
    ∙ ap (λ (h : Host). added 0 (count_sent_again h.slots)) c.self.view_is
