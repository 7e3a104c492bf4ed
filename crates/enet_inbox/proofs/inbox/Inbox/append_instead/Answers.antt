use Rattle.std.proofs.Common.{◌≡◌, ◌+◌, ◌-◌, ◌<◌, ◌≤◌, ◌^◌, length, List, sym, ap, subst, ◌∙◌, arith}
use Rattle.std.proofs.lemmas.List.{length-map}
use Rattle.enet_codec.specs.declared.packet.Packet.{Packet}
use Rattle.enet_receiver.specs.Foresight.{ReceivingEnd}
use Rattle.enet_inbox.specs.Bounds.{IsBounded}
use Rattle.enet_inbox.specs.Inbox.{Inbox, is_full, given_way, given_way_receiver}
use Rattle.enet_inbox.specs.Invariant.{KeepsInbox, KeepsPackets}
use Rattle.enet_inbox.specs.DataEffect.{unsequenced_taken}
use Rattle.enet_inbox.specs.InboxParts.{inbox_of}
use Rattle.enet_inbox.specs.Made.{with_all}
use Rattle.enet_inbox.specs.Private.Invariant.{waiting_in, waiting_packets_in}
use Rattle.enet_inbox.proofs.Keeping.{keeps_pushed, push_fits}
use Rattle.enet_inbox.proofs.GivingWay.{keeps_given_way, waiting_counted}
use Rattle.enet_inbox.proofs.Counting.{counts_given_way, waiting_packets_counted}
use Rattle.enet_inbox.proofs.Limits.{bounded_given_way, bounded_unsequenced}
use Rattle.enet_inbox.proofs.Made.{made_of, all_full, all_given_way}
use Rattle.enet_inbox.proofs.inbox.Inbox.append_instead.Goals as goal

pub waiting_in-waiting-requires : goal.waiting_in-waiting-requires
waiting_in-waiting-requires c =
    let most = waiting_counted (made_of c.self.inside) c.self.inside.waiting c.self.invariant.inbox in
    let same : waiting_in c.deref.result.now ≡ waiting_in c.self.inside.receivers.items = ap (λ (rs : List ReceivingEnd). waiting_in rs) c.deref.ensures.value in
    let fits : c.self.inside.waiting < 2 ^ 128 = omega arith in
    omega arith

pub waiting_packets_in-packets-requires : goal.waiting_packets_in-packets-requires
waiting_packets_in-packets-requires c =
    let most = waiting_packets_counted c.self.inside.receivers.items c.self.inside.packets c.self.invariant.places in
    let same : waiting_packets_in c.deref-2.result.now ≡ waiting_packets_in c.self.inside.receivers.items = ap (λ (rs : List ReceivingEnd). waiting_packets_in rs) c.deref-2.ensures.value in
    let fits : c.self.inside.packets < 2 ^ 64 = omega arith in
    omega arith

pub overflow_sub-self : goal.overflow_sub-self
overflow_sub-self c =
    let most = waiting_counted (made_of c.self.inside) c.self.inside.waiting c.self.invariant.inbox in
    let same : c.waiting_in-waiting.result ≡ waiting_in c.self.inside.receivers.items = c.waiting_in-waiting.ensures ∙ ap (λ (rs : List ReceivingEnd). waiting_in rs) c.deref.ensures.value in
    omega arith

pub overflow_add-self : goal.overflow_add-self
overflow_add-self c =
    let i = c.self.inside in
    let few : length i.untaken.items < 2 ^ 63 = omega (arith, i.untaken.ok.0, i.untaken.small.0, i.untaken.small.1) in
    let short : length c.args.payload.now < 2 ^ 63 = omega arith in
    let fits = push_fits (made_of c.self.inside) c.self.inside.waiting (length c.args.payload.now) c.self.invariant.inbox few short in
    omega arith

pub overflow_sub-self-2 : goal.overflow_sub-self-2
overflow_sub-self-2 c =
    let most = waiting_packets_counted c.self.inside.receivers.items c.self.inside.packets c.self.invariant.places in
    let same : c.waiting_packets_in-packets.result ≡ waiting_packets_in c.self.inside.receivers.items = c.waiting_packets_in-packets.ensures ∙ ap (λ (rs : List ReceivingEnd). waiting_packets_in rs) c.deref-2.ensures.value in
    omega arith

pub invariant_of-self-2 : goal.invariant_of-self-2
invariant_of-self-2 c =
    let i = c.self.inside in
    let b = inbox_of i.max_packet i.max_waiting i.receivers.items i.groups i.untaken.items in
    let q : Packet = record { channel = c.args.channel; flags = 2; body = c.args.payload.now } in
    let short : length c.args.payload.now < 2 ^ 63 = omega arith in
    let freed : c.waiting_in-waiting.result ≡ waiting_in i.receivers.items = c.waiting_in-waiting.ensures ∙ ap (λ (rs : List ReceivingEnd). waiting_in rs) c.deref.ensures.value in
    let fewer : c.waiting_packets_in-packets.result ≡ waiting_packets_in i.receivers.items = c.waiting_packets_in-packets.ensures ∙ ap (λ (rs : List ReceivingEnd). waiting_packets_in rs) c.deref-2.ensures.value in
    let now : inbox_of i.max_packet i.max_waiting c.give_way.new.receivers.items c.mark.new.self c.append.new.untaken.items ≡ record (given_way b) { seen = c.mark.new.self; untaken = c.append.new.untaken.items } =
    ap (λ (rs : List ReceivingEnd). inbox_of i.max_packet i.max_waiting rs c.mark.new.self c.append.new.untaken.items) c.give_way.ensures in
    let added = c.append.ensures.added c.if-not-append.false in
    record {
      inbox =
          subst (λ n. KeepsInbox (inbox_of i.max_packet i.max_waiting c.give_way.new.receivers.items c.mark.new.self c.append.new.untaken.items) (i.waiting - n + length c.args.payload.now)) (sym freed)
          (subst (λ (x : Inbox). KeepsInbox x (i.waiting - waiting_in i.receivers.items + length c.args.payload.now)) (sym now)
          (keeps_pushed (given_way b) (i.waiting - waiting_in i.receivers.items) c.mark.new.self q c.append.new.untaken.items (keeps_given_way b i.waiting c.self.invariant.inbox) short added));
      places =
          subst (λ n. KeepsPackets c.give_way.new.receivers.items (i.packets - n)) (sym fewer)
          (subst (λ (rs : List ReceivingEnd). KeepsPackets rs (i.packets - waiting_packets_in i.receivers.items)) (sym c.give_way.ensures) (counts_given_way i.receivers.items i.packets c.self.invariant.places));
      bounded =
          subst (λ (x : Inbox). IsBounded x) (sym now)
          (bounded_unsequenced (given_way b) c.mark.new.self q c.append.new.untaken.items (bounded_given_way b c.self.invariant.bounded) (sym (all_full i.channels (given_way b)) ∙ ap (λ (x : Inbox). is_full x) (sym (all_given_way i.channels b)) ∙ ap (λ (x : Inbox). is_full (given_way x)) c.self.view_is ∙ c.requires.room) (subst (λ (x : Inbox). length c.args.payload.now ≤ x.max_packet) (sym c.self.view_is) c.requires.short) added);
      within = subst (λ n. n ≤ i.channels) (sym (ap (λ (rs : List ReceivingEnd). length rs) c.give_way.ensures ∙ length-map i.receivers.items given_way_receiver)) c.self.invariant.within;
    }

pub returns-clause-added : goal.returns-clause-added
returns-clause-added c = λ _.
    let i = c.self.inside in
    let added = c.append.ensures.added c.if-not-append.false in
    (λ j. with_all i.channels (inbox_of i.max_packet i.max_waiting (c.give_way.ensures j) (c.mark.ensures j) (added j)))
    ∙ ap (λ (x : Inbox). unsequenced_taken x c.args.channel c.args.group c.args.payload.now) (sym (all_given_way i.channels (made_of i)) ∙ ap (λ (x : Inbox). given_way x) c.self.view_is)
