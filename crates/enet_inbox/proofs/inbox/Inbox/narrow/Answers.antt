use Rattle.std.proofs.Common.{◌≡◌, ◌<◌, ◌^◌, ◌-◌, List, length, min, drop, length-take, sym, ap, subst, ◌∙◌, arith}
use Rattle.std.proofs.lemmas.List.{take_all}
use Rattle.enet_receiver.specs.Foresight.{ReceivingEnd}
use Rattle.enet_inbox.specs.Inbox.{Inbox, narrowed}
use Rattle.enet_inbox.specs.Bounds.{IsBounded}
use Rattle.enet_inbox.specs.Invariant.{KeepsInbox, KeepsPackets, packets_in}
use Rattle.enet_inbox.specs.Private.Invariant.{held_in}
use Rattle.enet_inbox.specs.InboxParts.{inbox_of}
use Rattle.enet_inbox.specs.Made.{with_all}
use Rattle.enet_inbox.proofs.Keeping.{keeps_narrowed, dropped_counted, rest_of}
use Rattle.enet_inbox.proofs.Counting.{counts_narrowed, dropped_packets_counted, packets_of_rest}
use Rattle.enet_inbox.proofs.Limits.{bounded_narrowed}
use Rattle.enet_inbox.proofs.Made.{all_length, all_narrowed}
use Rattle.enet_inbox.proofs.inbox.Inbox.narrow.Goals as goal

pub held_in-requires : goal.held_in-requires
held_in-requires c =
    let i = c.self.inside in
    let b = inbox_of i.max_packet i.max_waiting i.receivers.items i.groups i.untaken.items in
    let same = rest_of c.min-kept.result i.receivers.items c.deref.result.now c.deref.ensures.value in
    let most = dropped_counted b i.waiting c.min-kept.result c.self.invariant.inbox in
    let fits : i.waiting < 2 ^ 128 = omega arith in
    omega arith

pub overflow_sub-self : goal.overflow_sub-self
overflow_sub-self c =
    let i = c.self.inside in
    let b = inbox_of i.max_packet i.max_waiting i.receivers.items i.groups i.untaken.items in
    let same = rest_of c.min-kept.result i.receivers.items c.deref.result.now c.deref.ensures.value in
    let most = dropped_counted b i.waiting c.min-kept.result c.self.invariant.inbox in
    let freed = c.held_in.ensures in
    omega arith

pub invariant_of-self : goal.invariant_of-self
invariant_of-self c =
    let i = c.self.inside in
    let b = inbox_of i.max_packet i.max_waiting i.receivers.items i.groups i.untaken.items in
    let freed : c.held_in.result ≡ held_in (drop c.min-kept.result i.receivers.items) = c.held_in.ensures ∙ rest_of c.min-kept.result i.receivers.items c.deref.result.now c.deref.ensures.value in
    let now : inbox_of i.max_packet i.max_waiting c.keep_first.new.receivers.items i.groups i.untaken.items ≡ narrowed b c.min-kept.result =
    ap (λ (rs : List ReceivingEnd). inbox_of i.max_packet i.max_waiting rs i.groups i.untaken.items) c.keep_first.ensures in
    let fewer : c.packets_in.result ≡ packets_in (drop c.min-kept.result i.receivers.items) = c.packets_in.ensures ∙ packets_of_rest c.min-kept.result i.receivers.items c.deref-then-channels-self.result.now c.deref-then-channels-self.ensures.value in
    record {
      inbox =
          subst (λ n. KeepsInbox (inbox_of i.max_packet i.max_waiting c.keep_first.new.receivers.items i.groups i.untaken.items) (i.waiting - n)) (sym freed)
          (subst (λ (x : Inbox). KeepsInbox x (i.waiting - held_in (drop c.min-kept.result i.receivers.items))) (sym now) (keeps_narrowed b i.waiting c.min-kept.result c.self.invariant.inbox));
      places =
          subst (λ n. KeepsPackets c.keep_first.new.receivers.items (i.packets - n)) (sym fewer)
          (subst (λ (rs : List ReceivingEnd). KeepsPackets rs (i.packets - packets_in (drop c.min-kept.result i.receivers.items))) (sym c.keep_first.ensures) (counts_narrowed i.receivers.items i.packets c.min-kept.result c.self.invariant.places));
      bounded = subst (λ (x : Inbox). IsBounded x) (sym now) (bounded_narrowed b c.min-kept.result c.self.invariant.bounded);
      within = (let fewer = length-take c.min-kept.result i.receivers.items in let long = ap (λ (rs : List ReceivingEnd). length rs) c.keep_first.ensures in let least = c.min-kept.ensures in omega arith);
    }

pub packets_in-requires : goal.packets_in-requires
packets_in-requires c =
    let i = c.self.inside in
    let same = packets_of_rest c.min-kept.result i.receivers.items c.deref-then-channels-self.result.now c.deref-then-channels-self.ensures.value in
    let most = dropped_packets_counted i.receivers.items i.packets c.min-kept.result c.self.invariant.places in
    let fits : i.packets < 2 ^ 64 = omega arith in
    omega arith

pub overflow_sub-self-then-channels-self : goal.overflow_sub-self-then-channels-self
overflow_sub-self-then-channels-self c =
    let i = c.self.inside in
    let same = packets_of_rest c.min-kept.result i.receivers.items c.deref-then-channels-self.result.now c.deref-then-channels-self.ensures.value in
    let most = dropped_packets_counted i.receivers.items i.packets c.min-kept.result c.self.invariant.places in
    let freed = c.packets_in.ensures in
    omega arith

pub returns-then-channels-self : goal.returns-then-channels-self
returns-then-channels-self c =
    let i = c.self.inside in
    let b = inbox_of i.max_packet i.max_waiting i.receivers.items i.groups i.untaken.items in
    let least : c.min-kept.result ≡ min (length i.receivers.items) c.args.channels = omega arith in
    ap (λ (rs : List ReceivingEnd). with_all c.args.channels (inbox_of i.max_packet i.max_waiting rs i.groups i.untaken.items)) c.keep_first.ensures
    ∙ ap (λ n. with_all c.args.channels (narrowed b n)) least
    ∙ sym (all_narrowed c.args.channels i.channels b (omega arith) c.self.invariant.within) ∙ ap (λ (x : Inbox). narrowed x c.args.channels) c.self.view_is

pub returns-else-channels-self : goal.returns-else-channels-self
returns-else-channels-self c =
    let i = c.self.inside in
    let b = inbox_of i.max_packet i.max_waiting i.receivers.items i.groups i.untaken.items in
    let all : length c.args.self.now.receivers ≡ i.channels = ap (λ (x : Inbox). length x.receivers) (sym c.self.view_is) ∙ all_length i.max_packet i.channels i.receivers.items c.self.invariant.within in
    ap (λ (rs : List ReceivingEnd). record c.args.self.now { receivers = rs }) (sym (take_all c.args.channels c.args.self.now.receivers (omega arith)))
