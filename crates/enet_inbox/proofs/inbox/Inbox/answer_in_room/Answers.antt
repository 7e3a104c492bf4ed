use Rattle.std.proofs.Common.{◌≡◌, true, false, Option, Some, None, sym, ap, ◌∙◌}
use Rattle.std.specs.Prelude.{slice_get}
use Rattle.enet_codec.specs.declared.command.Head.{Head}
use Rattle.enet_codec.specs.Message.{view}
use Rattle.enet_receiver.specs.ArrivingData.{data_command}
use Rattle.enet_receiver.specs.Foresight.{ReceivingEnd}
use Rattle.enet_inbox.specs.Inbox.{is_full, given_way}
use Rattle.enet_inbox.proofs.Rooms.{full_answer, found_at, told_in_room}
use Rattle.enet_inbox.proofs.Made.{made_of, there_made, there_new}
use Rattle.enet_inbox.proofs.inbox.Inbox.answer_in_room.Goals as goal

pub returns-then-is_full_without_waiting : goal.returns-then-is_full_without_waiting
returns-then-is_full_without_waiting c =
    let full : is_full (given_way c.args.self.now) ≡ true = sym c.is_full_without_waiting.ensures ∙ c.if-is_full_without_waiting.true in
    sym (full_answer c.args.self.now (view c.args.command.now) c.requires full)

pub returns-in-Some-get : goal.returns-in-Some-get
returns-in-Some-get c =
    let i = c.self.inside in
    let h = c.in-Some.arriving.head in
    let r = c.in-Some-get.receiver.now in
    let look = c.in-Some-get.ensures.lookup in
    let room : is_full (given_way c.args.self.now) ≡ false = sym c.is_full_without_waiting.ensures ∙ c.if-is_full_without_waiting.false in
    let there = there_made i.channels (made_of i) c.args.self.now c.deref.result.now h.channel r c.self.view_is c.deref.ensures.value look.3.0 look.1 in
    c.answer_in_room.ensures ∙ told_in_room c.args.self.now (view c.args.command.now) h (data_command c.in-Some.arriving) r c.in-Some.ensures.head c.requires c.in-Some.ensures.data there room

pub returns-in-Some-new_receiver : goal.returns-in-Some-new_receiver
returns-in-Some-new_receiver c =
    let i = c.self.inside in
    let h = c.in-Some.arriving.head in
    let r = c.in-Some-new_receiver.receiver in
    let room : is_full (given_way c.args.self.now) ≡ false = sym c.is_full_without_waiting.ensures ∙ c.if-is_full_without_waiting.false in
    let there = there_new i.channels (made_of i) c.args.self.now c.deref.result.now h.channel c.self.view_is c.deref.ensures.value c.self.invariant.within c.in-None.ensures.lookup.3
    ∙ sym c.new_receiver.ensures ∙ c.in-Some-new_receiver.is in
    c.answer_in_room-in-Some-new_receiver.ensures
    ∙ told_in_room c.args.self.now (view c.args.command.now) h (data_command c.in-Some.arriving) r c.in-Some.ensures.head c.requires c.in-Some.ensures.data there room

pub returns-in-None-new_receiver : goal.returns-in-None-new_receiver
returns-in-None-new_receiver c =
    let i = c.self.inside in
    let h = c.in-Some.arriving.head in
    let b = c.args.self.now in
    let found = found_at b (view c.args.command.now) (data_command c.in-Some.arriving) c.requires (sym c.in-Some.ensures.data) in
    let none : slice_get b.receivers h.channel ≡ None = there_new i.channels (made_of i) b c.deref.result.now h.channel c.self.view_is c.deref.ensures.value c.self.invariant.within c.in-None.ensures.lookup.3
    ∙ sym c.new_receiver.ensures ∙ c.in-None-new_receiver.is in
    let some : ◌≡◌ {A = Option ReceivingEnd} None (Some found.0) = sym none ∙ ap (λ (x : Head). slice_get b.receivers x.channel) c.in-Some.ensures.head ∙ found.1.there in
    absurd (cc)
