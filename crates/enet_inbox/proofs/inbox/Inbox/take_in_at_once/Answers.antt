use Rattle.std.proofs.Common.{◌<◌, ◌≤◌, ◌+◌, ◌^◌, length, length-set, refl, sym, ap, subst, ◌∙◌, arith, Some}
use Rattle.std.specs.Prelude.{slice_set}
use Rattle.enet_receiver.specs.ArrivingData.{data_command}
use Rattle.enet_inbox.specs.Inbox.{Inbox, is_full_for}
use Rattle.enet_inbox.specs.Made.{with_all}
use Rattle.enet_inbox.specs.Bounds.{IsBounded}
use Rattle.enet_inbox.specs.Invariant.{KeepsInbox}
use Rattle.enet_inbox.proofs.Outcomes.{foresight_in}
use Rattle.enet_inbox.proofs.Keeping.{Reached, taken_at, handed_at, kept_passed, bounded}
use Rattle.enet_inbox.proofs.Counting.{counts_passed}
use Rattle.enet_inbox.proofs.Limits.{bounded_sequenced}
use Rattle.enet_inbox.proofs.Made.{made_of, foreseen_made, after_all}
use Rattle.enet_inbox.proofs.inbox.Inbox.take_in_at_once.Goals.{After-index_mut-receiver, In-Some}
use Rattle.enet_inbox.proofs.inbox.Inbox.take_in_at_once.Goals as goal

low : (c : After-index_mut-receiver) → c.args.arriving.head.channel < length c.self.inside.receivers.items
low c = omega (arith, c.self.inside.receivers.ok.0, c.self.inside.receivers.ok.1)

reached : (c : After-index_mut-receiver) → Reached (made_of c.self.inside) c.args.arriving.head c.args.arriving.head (Some (data_command c.args.arriving)) c.args.what c.index_mut-receiver.result.now (is_full_for (made_of c.self.inside) c.index_mut-receiver.result.now (data_command c.args.arriving))
reached c =
    let i = c.self.inside in
    let b = made_of i in
    let d = c.index_mut-receiver.result.now in
    let x = data_command c.args.arriving in
    taken_at b i.waiting c.args.arriving.head c.args.arriving.head x c.args.what d (is_full_for b d x) c.self.invariant.inbox refl c.index_mut-receiver.ensures.value refl
    (foreseen_made i.channels b c.args.self.now c.args.arriving.head.channel x c.args.what c.self.view_is (low c) c.requires.foreseen) c.requires.kept

-- the inbox keeps what it keeps, and the counter fits
kept : (c : In-Some) → Reached (made_of c.self.inside) c.args.arriving.head c.args.arriving.head (Some (data_command c.args.arriving)) c.args.what c.index_mut-receiver.result.now (is_full_for (made_of c.self.inside) c.index_mut-receiver.result.now (data_command c.args.arriving))
    → KeepsInbox (record (made_of c.self.inside) { receivers = slice_set c.self.inside.receivers.items c.args.arriving.head.channel c.take_in_at_once.new.receiver; untaken = c.take_in_at_once.new.untaken.items })
    (c.self.inside.waiting + c.in-Some.bytes) × (c.self.inside.waiting + c.in-Some.bytes < 2 ^ 127)
kept c t =
    let qs = c.take_in_at_once.new.untaken.items in
    let k = kept_passed (made_of c.self.inside) c.self.inside.waiting c.args.arriving.head.channel c.index_mut-receiver.result.now c.take_in_at_once.new.receiver (Some (data_command c.args.arriving)) (is_full_for (made_of c.self.inside) c.index_mut-receiver.result.now (data_command c.args.arriving)) qs c.in-Some.bytes
    c.self.invariant.inbox t.0 c.index_mut-receiver.ensures.value t.2 (c.in-Some.ensures.receiver (is_full_for (made_of c.self.inside) c.index_mut-receiver.result.now (data_command c.args.arriving)) t.1.outcome) c.in-Some.ensures.as_much_held c.in-Some.ensures.short c.in-Some.ensures.bytes in
    let few : length qs < 2 ^ 63 = omega (arith, c.take_in_at_once.new.untaken.ok.0, c.take_in_at_once.new.untaken.small.0, c.take_in_at_once.new.untaken.small.1) in
    (k, bounded _ _ k few)

pub take_in_at_once-requires-clause-held : goal.take_in_at_once-requires-clause-held
take_in_at_once-requires-clause-held c = (is_full_for (made_of c.self.inside) c.index_mut-receiver.result.now (data_command c.args.arriving), (reached (goal.at.take_in_at_once-requires-clause-held c).After-index_mut-receiver).1.outcome)

pub returns-clause-taken : goal.returns-clause-taken
returns-clause-taken c = λ _.
    let i = c.self.inside in
    let b = made_of i in
    let at = (goal.at.returns-clause-taken c).After-index_mut-receiver in
    let d = c.index_mut-receiver.result.now in
    let full = is_full_for b d (data_command c.args.arriving) in
    let t = reached at in
    ap (λ (x : Inbox). with_all i.channels x)
    (handed_at b c.args.arriving.head c.args.arriving.head (Some (data_command c.args.arriving)) (foresight_in c.args.what) d c.take_in_at_once.new.receiver full c.take_in_at_once.new.untaken.items refl t.1 t.2
    (c.in-Some.ensures.receiver full t.1.outcome) (c.in-Some.ensures.untaken full t.1.outcome))
    ∙ after_all i.channels b c.args.self.now c.args.arriving.head.channel (data_command c.args.arriving) c.self.view_is (low at)

pub overflow_add-self : goal.overflow_add-self
overflow_add-self c =
    let at = goal.at.overflow_add-self c in
    let most = (kept at.In-Some (reached at.After-index_mut-receiver)).1 in
    omega arith

pub invariant_of-self-2 : goal.invariant_of-self-2
invariant_of-self-2 c =
    let at = goal.at.invariant_of-self-2 c in
    let t = reached at.After-index_mut-receiver in
    record {
      inbox = (kept at.In-Some t).0;
      places = counts_passed c.self.inside.receivers.items c.self.inside.packets c.args.arriving.head.channel c.index_mut-receiver.result.now c.take_in_at_once.new.receiver c.self.invariant.places t.0 c.index_mut-receiver.ensures.value c.in-Some.ensures.as_many_held;
      bounded =
          subst (λ (x : Inbox). IsBounded x)
          (sym (handed_at (made_of c.self.inside) c.args.arriving.head c.args.arriving.head (Some (data_command c.args.arriving)) (foresight_in c.args.what) c.index_mut-receiver.result.now c.take_in_at_once.new.receiver (is_full_for (made_of c.self.inside) c.index_mut-receiver.result.now (data_command c.args.arriving)) c.take_in_at_once.new.untaken.items refl t.1 t.2
          (c.in-Some.ensures.receiver (is_full_for (made_of c.self.inside) c.index_mut-receiver.result.now (data_command c.args.arriving)) t.1.outcome) (c.in-Some.ensures.untaken (is_full_for (made_of c.self.inside) c.index_mut-receiver.result.now (data_command c.args.arriving)) t.1.outcome)))
          (bounded_sequenced (made_of c.self.inside) c.self.inside.waiting c.args.arriving.head.channel (Some (data_command c.args.arriving)) c.self.invariant.bounded c.self.invariant.inbox);
      within = subst (λ n. n ≤ c.self.inside.channels) (sym (length-set c.self.inside.receivers.items c.args.arriving.head.channel c.take_in_at_once.new.receiver)) c.self.invariant.within;
    }
