use Rattle.std.proofs.Common.{◌≡◌, ◌-◌, ◌≤◌, length, sym, ap, subst, ◌∙◌, List}
use Rattle.std.proofs.lemmas.List.{length-map}
use Rattle.enet_receiver.specs.Foresight.{ReceivingEnd}
use Rattle.enet_inbox.specs.Inbox.{Inbox, cleared, cleared_receiver}
use Rattle.enet_inbox.specs.Bounds.{IsBounded}
use Rattle.enet_inbox.specs.Invariant.{KeepsInbox, KeepsPackets}
use Rattle.enet_inbox.specs.Private.Invariant.{held_in}
use Rattle.enet_inbox.specs.InboxParts.{inbox_of}
use Rattle.enet_inbox.specs.Made.{with_all}
use Rattle.enet_inbox.proofs.Keeping.{keeps_cleared}
use Rattle.enet_inbox.proofs.Counting.{counts_cleared}
use Rattle.enet_inbox.proofs.Limits.{bounded_cleared}
use Rattle.enet_inbox.proofs.Made.{all_cleared}
use Rattle.enet_inbox.proofs.inbox.Inbox.clear.Goals as goal

pub invariant_of-self : goal.invariant_of-self
invariant_of-self c =
    let i = c.self.inside in
    let b = inbox_of i.max_packet i.max_waiting i.receivers.items i.groups i.untaken.items in
    let freed : c.held_in.result ≡ held_in i.receivers.items = c.held_in.ensures ∙ ap (λ (rs : List ReceivingEnd). held_in rs) c.deref.ensures.value in
    let now : inbox_of i.max_packet i.max_waiting c.clear_all.new.receivers.items i.groups i.untaken.items ≡ cleared b =
    ap (λ (rs : List ReceivingEnd). inbox_of i.max_packet i.max_waiting rs i.groups i.untaken.items) c.clear_all.ensures in
    record {
      inbox =
          subst (λ n. KeepsInbox (inbox_of i.max_packet i.max_waiting c.clear_all.new.receivers.items i.groups i.untaken.items) (i.waiting - n)) (sym freed)
          (subst (λ (x : Inbox). KeepsInbox x (i.waiting - held_in i.receivers.items)) (sym now) (keeps_cleared b i.waiting c.self.invariant.inbox));
      places = subst (λ (rs : List ReceivingEnd). KeepsPackets rs 0) (sym c.clear_all.ensures) (counts_cleared i.receivers.items);
      bounded = subst (λ (x : Inbox). IsBounded x) (sym now) (bounded_cleared b c.self.invariant.bounded);
      within = subst (λ n. n ≤ i.channels) (sym (ap (λ (rs : List ReceivingEnd). length rs) c.clear_all.ensures ∙ length-map i.receivers.items cleared_receiver)) c.self.invariant.within;
    }

pub returns : goal.returns
returns c =
    let i = c.self.inside in
    let b = inbox_of i.max_packet i.max_waiting i.receivers.items i.groups i.untaken.items in
    ap (λ (rs : List ReceivingEnd). with_all i.channels (inbox_of i.max_packet i.max_waiting rs i.groups i.untaken.items)) c.clear_all.ensures
    ∙ sym (all_cleared i.channels b) ∙ ap (λ (x : Inbox). cleared x) c.self.view_is
