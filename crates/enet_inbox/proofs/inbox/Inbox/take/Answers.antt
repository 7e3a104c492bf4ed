use Rattle.std.proofs.Common.{◌-◌, sym, subst}
use Rattle.enet_inbox.specs.Invariant.{KeepsInbox}
use Rattle.enet_inbox.specs.InboxParts.{inbox_of}
use Rattle.enet_inbox.proofs.Keeping.{keeps_popped}
use Rattle.enet_inbox.proofs.Limits.{bounded_popped}
use Rattle.enet_inbox.proofs.inbox.Inbox.take.Goals as goal

pub invariant_of-self-2 : goal.invariant_of-self-2
invariant_of-self-2 c =
    let i = c.self.inside in
    let b = inbox_of i.max_packet i.max_waiting i.receivers.items i.groups i.untaken.items in
    record {
      inbox =
          subst (λ n. KeepsInbox (inbox_of i.max_packet i.max_waiting i.receivers.items i.groups c.pop_front.new.self.items) (i.waiting - n)) (sym c.len.ensures.value)
          (keeps_popped b i.waiting c.in_ok-packet.packet c.pop_front.new.self.items c.self.invariant.inbox c.in_ok-packet.ensures.items);
      places = c.self.invariant.places;
      bounded = bounded_popped b c.in_ok-packet.packet c.pop_front.new.self.items c.self.invariant.bounded c.in_ok-packet.ensures.items;
      within = c.self.invariant.within;
    }
