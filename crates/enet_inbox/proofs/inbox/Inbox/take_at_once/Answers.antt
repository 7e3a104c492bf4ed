use Rattle.std.proofs.Common.{◌≡◌, ◌<◌, ◌≤◌, ◌+◌, ◌^◌, true, false, length, length-set, refl, sym, ap, subst, ◌∙◌, arith, Some}
use Rattle.std.specs.Prelude.{slice_get, slice_set}
use Rattle.std.proofs.lemmas.Option.{slice_get_read}
use Rattle.enet_receiver.specs.ArrivingData.{data_command}
use Rattle.enet_inbox.specs.Inbox.{Inbox, is_full, is_full_for}
use Rattle.enet_inbox.specs.DataEffect.{DataEffect, handled, sequenced}
use Rattle.enet_inbox.specs.Bounds.{IsBounded}
use Rattle.enet_inbox.specs.Invariant.{IsInPlace, KeepsInbox}
use Rattle.enet_inbox.proofs.Keeping.{in_place, kept_passed, bounded}
use Rattle.enet_inbox.proofs.Counting.{counts_passed}
use Rattle.enet_inbox.proofs.Limits.{bounded_sequenced}
use Rattle.enet_inbox.proofs.AtOnce.{GoesThrough, none_full, taken_at_once}
use Rattle.enet_inbox.proofs.Made.{made_of, all_full, all_sequenced, effect_on_all}
use Rattle.enet_inbox.proofs.inbox.Inbox.take_at_once.Goals.{In-Some}
use Rattle.enet_inbox.proofs.inbox.Inbox.take_at_once.Goals as goal

low : (c : In-Some) → c.args.arriving.head.channel < length c.self.inside.receivers.items
low c = omega (arith, c.self.inside.receivers.ok.0, c.self.inside.receivers.ok.1)

there : (c : In-Some) → slice_get c.self.inside.receivers.items c.args.arriving.head.channel ≡ Some c.index_mut-receiver.result.now
there c = slice_get_read c.self.inside.receivers.items (length c.self.inside.receivers.items) c.args.arriving.head.channel c.index_mut-receiver.result.now refl (low c) c.index_mut-receiver.ensures.value

place : (c : In-Some) → IsInPlace c.self.inside.max_packet c.args.arriving.head.channel c.index_mut-receiver.result.now
place c = in_place (made_of c.self.inside) c.self.inside.waiting c.args.arriving.head.channel c.index_mut-receiver.result.now c.self.invariant.inbox (there c)

-- so little waits that any packet may begin
room : (c : In-Some) → is_full_for (made_of c.self.inside) c.index_mut-receiver.result.now (data_command c.args.arriving) ≡ false
room c =
    let i = c.self.inside in
    let little : is_full (made_of i) ≡ false = sym (all_full i.channels (made_of i)) ∙ ap (λ (x : Inbox). is_full x) c.self.view_is ∙ sym c.is_full.ensures ∙ c.if-is_full.false in
    none_full (made_of i) c.index_mut-receiver.result.now (data_command c.args.arriving) little

through : (c : In-Some) → GoesThrough (made_of c.self.inside) c.args.arriving.head.channel (data_command c.args.arriving) c.index_mut-receiver.result.now
through c = record {
  there = there c;
  own = (place c).channel;
  room = room c;
  held = c.in-Some.ensures.held;
  acknowledged = c.in-Some.ensures.acknowledged;
}

-- the inbox after it
after : (c : In-Some) → sequenced (made_of c.self.inside) c.args.arriving.head.channel (Some (data_command c.args.arriving))
    ≡ handled (record (made_of c.self.inside) { receivers = slice_set c.self.inside.receivers.items c.args.arriving.head.channel c.take_at_once.new.receiver; untaken = c.take_at_once.new.untaken.items }) true
after c = taken_at_once (made_of c.self.inside) c.args.arriving.head.channel (data_command c.args.arriving) c.index_mut-receiver.result.now c.take_at_once.new.receiver c.take_at_once.new.untaken.items (through c) c.in-Some.ensures.receiver c.in-Some.ensures.untaken

-- it keeps what it keeps, and the counter fits
kept : (c : In-Some) → KeepsInbox (record (made_of c.self.inside) { receivers = slice_set c.self.inside.receivers.items c.args.arriving.head.channel c.take_at_once.new.receiver; untaken = c.take_at_once.new.untaken.items })
    (c.self.inside.waiting + c.in-Some.bytes) × (c.self.inside.waiting + c.in-Some.bytes < 2 ^ 127)
kept c =
    let qs = c.take_at_once.new.untaken.items in
    let k = kept_passed (made_of c.self.inside) c.self.inside.waiting c.args.arriving.head.channel c.index_mut-receiver.result.now c.take_at_once.new.receiver (Some (data_command c.args.arriving)) false qs c.in-Some.bytes
    c.self.invariant.inbox (low c) c.index_mut-receiver.ensures.value (place c) c.in-Some.ensures.receiver c.in-Some.ensures.as_much_held c.in-Some.ensures.short c.in-Some.ensures.bytes in
    let few : length qs < 2 ^ 63 = omega (arith, c.take_at_once.new.untaken.ok.0, c.take_at_once.new.untaken.small.0, c.take_at_once.new.untaken.small.1) in
    (k, bounded _ _ k few)

pub returns-clause-taken : goal.returns-clause-taken
returns-clause-taken c = λ _.
    let at = (goal.at.returns-clause-taken c).In-Some in
    let i = c.self.inside in
    let b = made_of i in
    ap (λ (x : Inbox). sequenced x c.args.arriving.head.channel (Some (data_command c.args.arriving))) (sym c.self.view_is)
    ∙ all_sequenced i.channels b c.args.arriving.head.channel (data_command c.args.arriving) (low at)
    ∙ ap (λ (e : DataEffect). effect_on_all i.channels e) (after at)

pub overflow_add-self : goal.overflow_add-self
overflow_add-self c =
    let most = (kept (goal.at.overflow_add-self c).In-Some).1 in
    omega arith

pub invariant_of-self-2 : goal.invariant_of-self-2
invariant_of-self-2 c =
    let at = (goal.at.invariant_of-self-2 c).In-Some in
    record {
      inbox = (kept at).0;
      places = counts_passed c.self.inside.receivers.items c.self.inside.packets c.args.arriving.head.channel c.index_mut-receiver.result.now c.take_at_once.new.receiver c.self.invariant.places (low at) c.index_mut-receiver.ensures.value c.in-Some.ensures.as_many_held;
      bounded =
          subst (λ (x : Inbox). IsBounded x) (ap (λ (e : DataEffect). e.after) (after at))
          (bounded_sequenced (made_of c.self.inside) c.self.inside.waiting c.args.arriving.head.channel (Some (data_command c.args.arriving)) c.self.invariant.bounded c.self.invariant.inbox);
      within = subst (λ n. n ≤ c.self.inside.channels) (sym (length-set c.self.inside.receivers.items c.args.arriving.head.channel c.take_at_once.new.receiver)) c.self.invariant.within;
    }
