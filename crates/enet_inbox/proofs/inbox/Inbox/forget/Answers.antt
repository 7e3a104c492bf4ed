use Rattle.std.proofs.Common.{◌≡◌, ◌≤◌, length, List, sym, ap, subst, ◌∙◌}
use Rattle.std.proofs.lemmas.List.{length-map}
use Rattle.enet_receiver.specs.Foresight.{ReceivingEnd}
use Rattle.enet_inbox.specs.Inbox.{Inbox, cleared_receiver, forgotten}
use Rattle.enet_inbox.specs.Bounds.{IsBounded}
use Rattle.enet_inbox.specs.Invariant.{KeepsInbox, KeepsPackets}
use Rattle.enet_inbox.specs.InboxParts.{inbox_of}
use Rattle.enet_inbox.specs.Made.{with_all}
use Rattle.enet_inbox.proofs.Keeping.{keeps_forgotten}
use Rattle.enet_inbox.proofs.Counting.{counts_cleared}
use Rattle.enet_inbox.proofs.Limits.{bounded_forgotten}
use Rattle.enet_inbox.proofs.Made.{all_forgotten}
use Rattle.enet_inbox.proofs.inbox.Inbox.forget.Goals as goal

pub invariant_of-self : goal.invariant_of-self
invariant_of-self c =
    let i = c.self.inside in
    let b = inbox_of i.max_packet i.max_waiting i.receivers.items i.groups i.untaken.items in
    let now : inbox_of i.max_packet i.max_waiting c.clear_all.new.receivers.items i.groups c.clear.new.self.items ≡ forgotten b =
    λ j. inbox_of i.max_packet i.max_waiting (c.clear_all.ensures j) i.groups (c.clear.ensures.items j) in
    record {
      inbox = subst (λ (x : Inbox). KeepsInbox x 0) (sym now) (keeps_forgotten b i.waiting c.self.invariant.inbox);
      places = subst (λ (rs : List ReceivingEnd). KeepsPackets rs 0) (sym c.clear_all.ensures) (counts_cleared i.receivers.items);
      bounded = subst (λ (x : Inbox). IsBounded x) (sym now) (bounded_forgotten b c.self.invariant.bounded);
      within = subst (λ n. n ≤ i.channels) (sym (ap (λ (rs : List ReceivingEnd). length rs) c.clear_all.ensures ∙ length-map i.receivers.items cleared_receiver)) c.self.invariant.within;
    }

pub returns : goal.returns
returns c =
    let i = c.self.inside in
    let b = inbox_of i.max_packet i.max_waiting i.receivers.items i.groups i.untaken.items in
    (λ j. with_all i.channels (inbox_of i.max_packet i.max_waiting (c.clear_all.ensures j) i.groups (c.clear.ensures.items j)))
    ∙ sym (all_forgotten i.channels b) ∙ ap (λ (x : Inbox). forgotten x) c.self.view_is
