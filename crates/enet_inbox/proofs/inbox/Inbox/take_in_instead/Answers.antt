use Rattle.std.proofs.Common.{◌≡◌, ◌<◌, ◌≤◌, ◌+◌, ◌-◌, ◌^◌, length, length-set, List, sym, ap, subst, ◌∙◌, arith, Some}
use Rattle.std.specs.Prelude.{slice_set}
use Rattle.std.proofs.lemmas.List.{length-map}
use Rattle.enet_receiver.specs.ArrivingData.{data_command}
use Rattle.enet_receiver.specs.Receiver.{held_bytes, held_packets}
use Rattle.enet_receiver.specs.Foresight.{ReceivingEnd}
use Rattle.enet_inbox.specs.Inbox.{Inbox, given_way, given_way_receiver}
use Rattle.enet_inbox.specs.Made.{with_all}
use Rattle.enet_inbox.specs.Bounds.{IsBounded}
use Rattle.enet_inbox.specs.Invariant.{KeepsInbox}
use Rattle.enet_inbox.specs.Private.Invariant.{waiting_in, waiting_packets_in}
use Rattle.enet_inbox.specs.Private.InboxParts.{given_way_but, FindsRoom}
use Rattle.enet_inbox.proofs.Keeping.{bounded}
use Rattle.enet_inbox.proofs.Counting.{packets_bounded, packets_alone, waiting_packets_counted, counts_made, made_packets_counted}
use Rattle.enet_inbox.proofs.GivingWay.{Room, room_at, new_in_place, held_alone, waiting_counted, made_after, made_keeps, made_counted, keeps_given_way}
use Rattle.enet_inbox.proofs.Limits.{bounded_sequenced, bounded_given_way}
use Rattle.enet_inbox.proofs.Made.{made_of, all_finds_room, after_all_given}
use Rattle.enet_inbox.proofs.inbox.Inbox.take_in_instead.Goals.{After-index_mut-receiver, After-from-2}
use Rattle.enet_inbox.proofs.inbox.Inbox.take_in_instead.Goals as goal

low : (c : After-index_mut-receiver) → c.args.arriving.head.channel < length c.self.inside.receivers.items
low c = omega (arith, c.self.inside.receivers.ok.0, c.self.inside.receivers.ok.1)

room : (c : After-index_mut-receiver) → Room (made_of c.self.inside) c.args.arriving.head.channel (data_command c.args.arriving) c.index_mut-receiver.result.now
room c =
    let i = c.self.inside in
    let b = made_of i in
    room_at b i.waiting c.args.arriving.head.channel (data_command c.args.arriving) c.index_mut-receiver.result.now c.self.invariant.inbox
    (all_finds_room i.channels b c.args.arriving.head.channel (data_command c.args.arriving) (low c)
    (subst (λ (x : Inbox). FindsRoom x c.args.arriving.head.channel (Some (data_command c.args.arriving))) (sym c.self.view_is) c.requires)) c.index_mut-receiver.ensures.value

-- the inbox keeps what it keeps, and the counter fits
kept : (c : After-from-2) → Room (made_of c.self.inside) c.args.arriving.head.channel (data_command c.args.arriving) c.index_mut-receiver.result.now
    → KeepsInbox (record (made_of c.self.inside) { receivers = c.give_way_but.new.receivers.items; untaken = c.take_in_instead.new.untaken.items })
    (c.self.inside.waiting - c.waiting_in-others.result - c.from.result + c.from-2.result + c.in-Some.bytes) × (c.self.inside.waiting - c.waiting_in-others.result - c.from.result + c.from-2.result + c.in-Some.bytes < 2 ^ 127)
kept c r =
    let d = c.index_mut-receiver.result.now in
    let new = c.take_in_instead.new.receiver in
    let qs = c.take_in_instead.new.untaken.items in
    let others : c.waiting_in-others.result ≡ waiting_in c.self.inside.receivers.items = c.waiting_in-others.ensures ∙ ap (λ (rs : List ReceivingEnd). waiting_in rs) c.deref.ensures.value in
    let all = held_alone d in
    let held = c.held.ensures in
    let waiting = c.waiting.ensures in
    let before = c.from.ensures in
    let was : c.from.result ≡ held_bytes (given_way_receiver d).receiver = omega arith in
    let now : c.from-2.result ≡ held_bytes new.receiver = c.from-2.ensures ∙ c.held-after.ensures in
    let k = made_keeps (made_of c.self.inside) c.self.inside.waiting c.args.arriving.head.channel (data_command c.args.arriving) d new c.give_way_but.new.receivers.items qs c.in-Some.bytes c.waiting_in-others.result c.from.result c.from-2.result
    c.self.invariant.inbox r c.index_mut-receiver.ensures.value c.in-Some.ensures.receiver c.give_way_but.ensures others was now (omega arith) c.in-Some.ensures.short c.in-Some.ensures.bytes in
    let few : length qs < 2 ^ 63 = omega (arith, c.take_in_instead.new.untaken.ok.0, c.take_in_instead.new.untaken.small.0, c.take_in_instead.new.untaken.small.1) in
    (k, bounded _ _ k few)

pub waiting_in-others-requires : goal.waiting_in-others-requires
waiting_in-others-requires c =
    let most = waiting_counted (made_of c.self.inside) c.self.inside.waiting c.self.invariant.inbox in
    let same : waiting_in c.deref.result.now ≡ waiting_in c.self.inside.receivers.items = ap (λ (rs : List ReceivingEnd). waiting_in rs) c.deref.ensures.value in
    let fits : c.self.inside.waiting < 2 ^ 128 = omega arith in
    omega arith

pub take_in_instead-requires-clause-held : goal.take_in_instead-requires-clause-held
take_in_instead-requires-clause-held c = (room (goal.at.take_in_instead-requires-clause-held c).After-index_mut-receiver).took

pub take_in_instead-requires-clause-none_left : goal.take_in_instead-requires-clause-none_left
take_in_instead-requires-clause-none_left c = (room (goal.at.take_in_instead-requires-clause-none_left c).After-index_mut-receiver).place.none_left

pub overflow_add-self : goal.overflow_add-self
overflow_add-self c =
    let at = goal.at.overflow_add-self c in
    let most = (kept at.After-from-2 (room at.After-index_mut-receiver)).1 in
    omega arith

pub overflow_add-self-2 : goal.overflow_add-self-2
overflow_add-self-2 c =
    let at = goal.at.overflow_add-self-2 c in
    let most = (kept at.After-from-2 (room at.After-index_mut-receiver)).1 in
    omega arith

pub invariant_of-self-2 : goal.invariant_of-self-2
invariant_of-self-2 c =
    let at = goal.at.invariant_of-self-2 c in
    let i = c.self.inside in
    let r = room at.After-index_mut-receiver in
    let d = c.index_mut-receiver.result.now in
    let own = new_in_place (made_of i) c.args.arriving.head.channel (data_command c.args.arriving) d c.take_in_instead.new.receiver r c.in-Some.ensures.receiver in
    let others : c.waiting_packets_in-other_packets.result ≡ waiting_packets_in i.receivers.items = c.waiting_packets_in-other_packets.ensures ∙ ap (λ (rs : List ReceivingEnd). waiting_packets_in rs) c.deref-2.ensures.value in
    let all = packets_alone d in
    let held = c.packets.ensures.packets in
    let waiting = c.waiting_packets.ensures in
    let was : c.packets.result - c.waiting_packets.result ≡ held_packets (given_way_receiver d).receiver = omega arith in
    record {
      inbox = (kept at.After-from-2 r).0;
      places = counts_made i.max_packet c.args.arriving.head.channel i.packets c.waiting_packets_in-other_packets.result (c.packets.result - c.waiting_packets.result) c.packets-packets_after.result i.receivers.items c.give_way_but.new.receivers.items d c.take_in_instead.new.receiver
          c.self.invariant.inbox.receivers c.self.invariant.places r.low c.index_mut-receiver.ensures.value own c.give_way_but.ensures others was c.packets-packets_after.ensures.packets c.packets-packets_after.ensures.few;
      bounded =
          subst (λ (x : Inbox). IsBounded x)
          (sym (made_after (made_of i) i.waiting c.args.arriving.head.channel (data_command c.args.arriving) d c.take_in_instead.new.receiver c.give_way_but.new.receivers.items c.take_in_instead.new.untaken.items
          c.self.invariant.inbox r c.in-Some.ensures.receiver c.in-Some.ensures.untaken c.give_way_but.ensures))
          (bounded_sequenced (given_way (made_of i)) (i.waiting - waiting_in i.receivers.items) c.args.arriving.head.channel (Some (data_command c.args.arriving)) (bounded_given_way (made_of i) c.self.invariant.bounded) (keeps_given_way (made_of i) i.waiting c.self.invariant.inbox));
      within = subst (λ n. n ≤ i.channels) (sym (ap (λ (rs : List ReceivingEnd). length rs) c.give_way_but.ensures ∙ length-map (slice_set i.receivers.items c.args.arriving.head.channel c.take_in_instead.new.receiver) (given_way_but c.args.arriving.head.channel) ∙ length-set i.receivers.items c.args.arriving.head.channel c.take_in_instead.new.receiver)) c.self.invariant.within;
    }

pub waiting_packets_in-other_packets-requires : goal.waiting_packets_in-other_packets-requires
waiting_packets_in-other_packets-requires c =
    let most = waiting_packets_counted c.self.inside.receivers.items c.self.inside.packets c.self.invariant.places in
    let same : waiting_packets_in c.deref-2.result.now ≡ waiting_packets_in c.self.inside.receivers.items = ap (λ (rs : List ReceivingEnd). waiting_packets_in rs) c.deref-2.ensures.value in
    let fits : c.self.inside.packets < 2 ^ 64 = omega arith in
    omega arith

pub overflow_sub-self-3 : goal.overflow_sub-self-3
overflow_sub-self-3 c =
    let most = waiting_packets_counted c.self.inside.receivers.items c.self.inside.packets c.self.invariant.places in
    let others : c.waiting_packets_in-other_packets.result ≡ waiting_packets_in c.self.inside.receivers.items = c.waiting_packets_in-other_packets.ensures ∙ ap (λ (rs : List ReceivingEnd). waiting_packets_in rs) c.deref-2.ensures.value in
    omega arith

pub overflow_sub-self-4 : goal.overflow_sub-self-4
overflow_sub-self-4 c =
    let d = c.index_mut-receiver.result.now in
    let r = room (goal.at.overflow_sub-self-4 c).After-index_mut-receiver in
    let others : c.waiting_packets_in-other_packets.result ≡ waiting_packets_in c.self.inside.receivers.items = c.waiting_packets_in-other_packets.ensures ∙ ap (λ (rs : List ReceivingEnd). waiting_packets_in rs) c.deref-2.ensures.value in
    let counted = made_packets_counted c.self.inside.receivers.items c.self.inside.packets c.args.arriving.head.channel d c.self.invariant.places r.low c.index_mut-receiver.ensures.value in
    let all = packets_alone d in
    let held = c.packets.ensures.packets in
    let waiting = c.waiting_packets.ensures in
    omega arith

pub overflow_add-self-3 : goal.overflow_add-self-3
overflow_add-self-3 c =
    let most = packets_bounded c.self.inside.receivers.items c.self.inside.packets c.self.invariant.places c.self.invariant.inbox.few in
    let few = c.packets-packets_after.ensures.few in
    omega arith

pub returns-clause-taken : goal.returns-clause-taken
returns-clause-taken c = λ _.
    let i = c.self.inside in
    let b = made_of i in
    let at = (goal.at.returns-clause-taken c).After-index_mut-receiver in
    let r = room at in
    ap (λ (x : Inbox). with_all i.channels x)
    (made_after b i.waiting c.args.arriving.head.channel (data_command c.args.arriving) c.index_mut-receiver.result.now c.take_in_instead.new.receiver c.give_way_but.new.receivers.items c.take_in_instead.new.untaken.items
    c.self.invariant.inbox r c.in-Some.ensures.receiver c.in-Some.ensures.untaken c.give_way_but.ensures)
    ∙ after_all_given i.channels b c.args.self.now c.args.arriving.head.channel (data_command c.args.arriving) c.self.view_is (low at)

pub overflow_sub-self : goal.overflow_sub-self
overflow_sub-self c =
    let most = waiting_counted (made_of c.self.inside) c.self.inside.waiting c.self.invariant.inbox in
    let others : c.waiting_in-others.result ≡ waiting_in c.self.inside.receivers.items = c.waiting_in-others.ensures ∙ ap (λ (rs : List ReceivingEnd). waiting_in rs) c.deref.ensures.value in
    omega arith

pub overflow_sub-self-2 : goal.overflow_sub-self-2
overflow_sub-self-2 c =
    let d = c.index_mut-receiver.result.now in
    let r = room (goal.at.overflow_sub-self-2 c).After-index_mut-receiver in
    let others : c.waiting_in-others.result ≡ waiting_in c.self.inside.receivers.items = c.waiting_in-others.ensures ∙ ap (λ (rs : List ReceivingEnd). waiting_in rs) c.deref.ensures.value in
    let counted = made_counted (made_of c.self.inside) c.self.inside.waiting c.args.arriving.head.channel (data_command c.args.arriving) d c.self.invariant.inbox r c.index_mut-receiver.ensures.value in
    let all = held_alone d in
    let held = c.held.ensures in
    let waiting = c.waiting.ensures in
    let before = c.from.ensures in
    omega arith
