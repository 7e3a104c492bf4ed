use Rattle.std.proofs.Common.{◌≡◌, ◌<◌, ◌≤◌, ◌+◌, ◌-◌, ◌^◌, length, length-set, refl, sym, ap, subst, ◌∙◌, arith, Some}
use Rattle.std.specs.Prelude.{slice_set}
use Rattle.enet_receiver.specs.ArrivingData.{data_command}
use Rattle.enet_receiver.specs.Receiver.{held_bytes}
use Rattle.enet_receiver.specs.Foresight.{ReceivingEnd}
use Rattle.enet_inbox.specs.Inbox.{Inbox, is_full_for}
use Rattle.enet_inbox.specs.Made.{with_all}
use Rattle.enet_inbox.specs.Bounds.{IsBounded}
use Rattle.enet_inbox.specs.Invariant.{KeepsInbox}
use Rattle.enet_inbox.proofs.Outcomes.{foresight_in}
use Rattle.enet_inbox.proofs.Counting.{counts_set, one_counted, packets_bounded}
use Rattle.enet_inbox.proofs.Keeping.{Reached, taken_at, looked_at_twice, handed_at, kept_after, held_counted, bounded}
use Rattle.enet_inbox.proofs.Limits.{bounded_sequenced}
use Rattle.enet_inbox.proofs.Made.{made_of, all_full_for, foreseen_made, after_all}
use Rattle.enet_inbox.proofs.inbox.Inbox.take_in_any.Goals.{After-index_mut-receiver, After-from-2}
use Rattle.enet_inbox.proofs.inbox.Inbox.take_in_any.Goals as goal

low : (c : After-index_mut-receiver) → c.args.arriving.head.channel < length c.self.inside.receivers.items
low c = omega (arith, c.self.inside.receivers.ok.0, c.self.inside.receivers.ok.1)

reached : (c : After-index_mut-receiver) → Reached (made_of c.self.inside) c.args.arriving.head c.args.arriving.head (Some (data_command c.args.arriving)) c.args.what c.index_mut-receiver.result.now c.is_full_for-full.result
reached c =
    let i = c.self.inside in
    let b = made_of i in
    let d = c.index_mut-receiver.result.now in
    let x = data_command c.args.arriving in
    let same : c.index.result.now ≡ d = looked_at_twice i.receivers.items c.args.arriving.head.channel c.index.result.now d (low c) c.index.ensures c.index_mut-receiver.ensures.value in
    let full : c.is_full_for-full.result ≡ is_full_for b d x =
    c.is_full_for-full.ensures ∙ ap (λ (r : ReceivingEnd). is_full_for c.args.self.now r x) same ∙ ap (λ (y : Inbox). is_full_for y d x) (sym c.self.view_is) ∙ all_full_for i.channels b d x in
    taken_at b i.waiting c.args.arriving.head c.args.arriving.head x c.args.what d c.is_full_for-full.result c.self.invariant.inbox refl c.index_mut-receiver.ensures.value full
    (foreseen_made i.channels b c.args.self.now c.args.arriving.head.channel x c.args.what c.self.view_is (low c) c.requires.foreseen) c.requires.kept

-- the inbox keeps what it keeps, with what the receiver holds counted anew, and the counter fits
kept : (c : After-from-2) → Reached (made_of c.self.inside) c.args.arriving.head c.args.arriving.head (Some (data_command c.args.arriving)) c.args.what c.index_mut-receiver.result.now c.is_full_for-full.result
    → KeepsInbox (record (made_of c.self.inside) { receivers = slice_set c.self.inside.receivers.items c.args.arriving.head.channel c.take_in.new.receiver; untaken = c.take_in.new.untaken.items })
    (c.self.inside.waiting - c.from.result + c.from-2.result + c.in-Some.bytes) × (c.self.inside.waiting - c.from.result + c.from-2.result + c.in-Some.bytes < 2 ^ 127)
kept c t =
    let new = c.take_in.new.receiver in
    let qs = c.take_in.new.untaken.items in
    let was : c.from.result ≡ held_bytes c.index_mut-receiver.result.now.receiver = c.from.ensures ∙ c.held-before.ensures in
    let now : c.from-2.result ≡ held_bytes new.receiver = c.from-2.ensures ∙ c.held.ensures in
    let k = kept_after (made_of c.self.inside) c.self.inside.waiting c.args.arriving.head.channel c.index_mut-receiver.result.now new (Some (data_command c.args.arriving)) c.is_full_for-full.result qs c.in-Some.bytes
    c.from.result c.from-2.result c.self.invariant.inbox t.0 c.index_mut-receiver.ensures.value t.2 c.in-Some.ensures.receiver was now (omega arith) c.in-Some.ensures.short c.in-Some.ensures.bytes in
    let few : length qs < 2 ^ 63 = omega (arith, c.take_in.new.untaken.ok.0, c.take_in.new.untaken.small.0, c.take_in.new.untaken.small.1) in
    (k, bounded _ _ k few)

pub take_in-requires-clause-held : goal.take_in-requires-clause-held
take_in-requires-clause-held c = (reached (goal.at.take_in-requires-clause-held c).After-index_mut-receiver).1.outcome

pub take_in-requires-clause-dispatches : goal.take_in-requires-clause-dispatches
take_in-requires-clause-dispatches c = (reached (goal.at.take_in-requires-clause-dispatches c).After-index_mut-receiver).1.dispatches

pub take_in-requires-clause-none_left : goal.take_in-requires-clause-none_left
take_in-requires-clause-none_left c = (reached (goal.at.take_in-requires-clause-none_left c).After-index_mut-receiver).2.none_left

pub overflow_sub-self : goal.overflow_sub-self
overflow_sub-self c =
    let d = c.index_mut-receiver.result.now in
    let t = reached (goal.at.overflow_sub-self c).After-index_mut-receiver in
    let was : c.from.result ≡ held_bytes d.receiver = c.from.ensures ∙ c.held-before.ensures in
    let counted = held_counted (made_of c.self.inside) c.self.inside.waiting c.args.arriving.head.channel d c.self.invariant.inbox t.0 c.index_mut-receiver.ensures.value in
    omega arith

pub overflow_add-self : goal.overflow_add-self
overflow_add-self c =
    let at = goal.at.overflow_add-self c in
    let most = (kept at.After-from-2 (reached at.After-index_mut-receiver)).1 in
    omega arith

pub overflow_add-self-2 : goal.overflow_add-self-2
overflow_add-self-2 c =
    let at = goal.at.overflow_add-self-2 c in
    let most = (kept at.After-from-2 (reached at.After-index_mut-receiver)).1 in
    omega arith

pub invariant_of-self-2 : goal.invariant_of-self-2
invariant_of-self-2 c =
    let at = goal.at.invariant_of-self-2 c in
    let t = reached at.After-index_mut-receiver in
    record {
      inbox = (kept at.After-from-2 t).0;
      places = counts_set c.self.inside.receivers.items c.self.inside.packets c.args.arriving.head.channel c.packets-packets_before.result c.packets.result c.index_mut-receiver.result.now c.take_in.new.receiver c.self.invariant.places t.0 c.index_mut-receiver.ensures.value c.packets-packets_before.ensures.packets c.packets.ensures.packets c.packets.ensures.few;
      bounded =
          subst (λ (x : Inbox). IsBounded x)
          (sym (handed_at (made_of c.self.inside) c.args.arriving.head c.args.arriving.head (Some (data_command c.args.arriving)) (foresight_in c.args.what) c.index_mut-receiver.result.now c.take_in.new.receiver c.is_full_for-full.result c.take_in.new.untaken.items refl t.1 t.2 c.in-Some.ensures.receiver c.in-Some.ensures.untaken))
          (bounded_sequenced (made_of c.self.inside) c.self.inside.waiting c.args.arriving.head.channel (Some (data_command c.args.arriving)) c.self.invariant.bounded c.self.invariant.inbox);
      within = subst (λ n. n ≤ c.self.inside.channels) (sym (length-set c.self.inside.receivers.items c.args.arriving.head.channel c.take_in.new.receiver)) c.self.invariant.within;
    }

pub overflow_sub-self-2 : goal.overflow_sub-self-2
overflow_sub-self-2 c =
    let t = reached (goal.at.overflow_sub-self-2 c).After-index_mut-receiver in
    let one = one_counted c.self.inside.receivers.items c.self.inside.packets c.args.arriving.head.channel c.index_mut-receiver.result.now c.self.invariant.places t.0 c.index_mut-receiver.ensures.value in
    let was = c.packets-packets_before.ensures.packets in
    omega arith

pub overflow_add-self-3 : goal.overflow_add-self-3
overflow_add-self-3 c =
    let most = packets_bounded c.self.inside.receivers.items c.self.inside.packets c.self.invariant.places c.self.invariant.inbox.few in
    let few = c.packets.ensures.few in
    omega arith

pub returns-clause-taken : goal.returns-clause-taken
returns-clause-taken c = λ _.
    let i = c.self.inside in
    let at = (goal.at.returns-clause-taken c).After-index_mut-receiver in
    let t = reached at in
    ap (λ (x : Inbox). with_all i.channels x) (handed_at (made_of i) c.args.arriving.head c.args.arriving.head (Some (data_command c.args.arriving)) (foresight_in c.args.what) c.index_mut-receiver.result.now c.take_in.new.receiver c.is_full_for-full.result c.take_in.new.untaken.items refl t.1 t.2 c.in-Some.ensures.receiver c.in-Some.ensures.untaken)
    ∙ after_all i.channels (made_of i) c.args.self.now c.args.arriving.head.channel (data_command c.args.arriving) c.self.view_is (low at)
