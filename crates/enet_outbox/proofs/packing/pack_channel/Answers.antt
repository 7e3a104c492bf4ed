use Rattle.std.proofs.Common.{◌≡◌, ◌<◌, ◌∙◌, sym, ap, arith, length, List, Some}
use Rattle.std.specs.List.{slice_get}
use Rattle.std.proofs.lemmas.List.{length-set}
use Rattle.enet_sender.specs.declared.outgoing.Occasion.{Occasion}
use Rattle.enet_sender.specs.Due.{SendingEnd}
use Rattle.enet_senders.proofs.Sets.{get-set}
use Rattle.enet_sender.specs.declared.outgoing.Due.TheVariants as due
use Rattle.enet_outbox.proofs.ChannelTurns.{called, some-sender, settled, told-settled, turn-begin, turn-goes, turn-drop, turn-full, turn-none, turn-waits, turn-falls, skip-falls, turn-length, called-room, called-bytes, called-prices}
use Rattle.enet_outbox.proofs.packing.pack_channel.Goals as goal

pub commands-init : goal.commands-init
commands-init c = λ s there. turn-begin s there

pub next_due-requires : goal.next_due-requires
next_due-requires c =
    let first = some-sender c.args.senders.now c.args.channel c.requires in
    let same = turn-length (c.commands.invariant first.0 first.1) in
    omega (arith, c.requires)

pub commands-preserved : goal.commands-preserved
commands-preserved c = λ s there.
    let did = called c.args.pace c.args.channel (settled c.commands.flow c.commands.went c.args.channel) c.commands.progress c.commands.senders c.next_due.new.self c.commands.buf c.next_due.new.buf (due.Sent c.in-Sent.past c.in-Sent.added c.in-Sent.price c.in-Sent.kind c.in-Sent.again)
    c.occasion_of-occasion.result c.place-place.result (c.occasion_of-occasion.ensures ∙ told-settled c.args.pace c.args.channel c.commands.flow c.commands.went) c.place-place.ensures c.in-Sent.ensures in
    rw (c.refuses.ensures.asked, c.with-progress.ensures, c.went_with-went.ensures, c.traffic_with-flow.ensures) (turn-goes c.commands.flow c.in-Sent.added c.in-Sent.price c.in-Sent.kind c.in-Sent.again (c.commands.invariant s there) did (sym c.refuses.ensures.answer ∙ c.if-refuses.false))

pub commands-preserved-then-refuses : goal.commands-preserved-then-refuses
commands-preserved-then-refuses c = λ s there.
    let did = called c.args.pace c.args.channel (settled c.commands.flow c.commands.went c.args.channel) c.commands.progress c.commands.senders c.next_due.new.self c.commands.buf c.next_due.new.buf (due.Sent c.in-Sent.past c.in-Sent.added c.in-Sent.price c.in-Sent.kind c.in-Sent.again)
    c.occasion_of-occasion.result c.place-place.result (c.occasion_of-occasion.ensures ∙ told-settled c.args.pace c.args.channel c.commands.flow c.commands.went) c.place-place.ensures c.in-Sent.ensures in
    rw c.refuses.ensures.asked (turn-drop c.in-Sent.past c.in-Sent.added c.in-Sent.price c.in-Sent.kind c.in-Sent.again (c.commands.invariant s there) did (sym c.refuses.ensures.answer ∙ c.if-refuses.true) c.skip.ensures)

pub commands-smaller : goal.commands-smaller
commands-smaller c =
    let first = some-sender c.args.senders.now c.args.channel c.requires in
    let a = c.commands.invariant first.0 first.1 in
    turn-falls c.args.pace c.args.channel (settled c.commands.flow c.commands.went c.args.channel) c.commands.progress c.commands.senders c.next_due.new.self c.commands.buf c.next_due.new.buf c.in-Sent.past c.in-Sent.added c.in-Sent.price c.in-Sent.kind c.in-Sent.again a.s a.there
    (called c.args.pace c.args.channel (settled c.commands.flow c.commands.went c.args.channel) c.commands.progress c.commands.senders c.next_due.new.self c.commands.buf c.next_due.new.buf (due.Sent c.in-Sent.past c.in-Sent.added c.in-Sent.price c.in-Sent.kind c.in-Sent.again)
    c.occasion_of-occasion.result c.place-place.result (c.occasion_of-occasion.ensures ∙ told-settled c.args.pace c.args.channel c.commands.flow c.commands.went) c.place-place.ensures c.in-Sent.ensures)

pub skip-requires : goal.skip-requires
skip-requires c =
    let first = some-sender c.args.senders.now c.args.channel c.requires in
    let a = c.commands.invariant first.0 first.1 in
    let same = turn-length a in
    let r = c.in-Sent.ensures a.s a.there in
    let len : length c.next_due.new.self ≡ length c.commands.senders = ap (λ (xs : List SendingEnd). length xs) r.1.0 ∙ length-set c.commands.senders c.args.channel r.0 in
    omega (arith, c.requires)

pub commands-smaller-then-refuses : goal.commands-smaller-then-refuses
commands-smaller-then-refuses c =
    let first = some-sender c.args.senders.now c.args.channel c.requires in
    let a = c.commands.invariant first.0 first.1 in
    let did = called c.args.pace c.args.channel (settled c.commands.flow c.commands.went c.args.channel) c.commands.progress c.commands.senders c.next_due.new.self c.commands.buf c.next_due.new.buf (due.Sent c.in-Sent.past c.in-Sent.added c.in-Sent.price c.in-Sent.kind c.in-Sent.again)
    c.occasion_of-occasion.result c.place-place.result (c.occasion_of-occasion.ensures ∙ told-settled c.args.pace c.args.channel c.commands.flow c.commands.went) c.place-place.ensures c.in-Sent.ensures in
    let falls = turn-falls c.args.pace c.args.channel (settled c.commands.flow c.commands.went c.args.channel) c.commands.progress c.commands.senders c.next_due.new.self c.commands.buf c.next_due.new.buf c.in-Sent.past c.in-Sent.added c.in-Sent.price c.in-Sent.kind c.in-Sent.again a.s a.there did in
    let r = did a.s a.there in
    let there : slice_get c.next_due.new.self c.args.channel ≡ Some r.0 = ap (λ (xs : List SendingEnd). slice_get xs c.args.channel) r.1.0 ∙ get-set c.commands.senders c.args.channel a.s r.0 a.there in
    let skip = skip-falls c.args.channel c.next_due.new.self c.skip.new.self r.0 there c.skip.ensures in
    omega arith

pub overflow_add-flow : goal.overflow_add-flow
overflow_add-flow c =
    let first = some-sender c.args.senders.now c.args.channel c.requires in
    let a = c.commands.invariant first.0 first.1 in
    let o = c.occasion_of-occasion.result in
    let is : o.transit ≡ c.commands.flow.transit = ap (λ (x : Occasion). x.transit) c.occasion_of-occasion.ensures in
    let low : o.transit < 4294967296 = omega arith in
    let most : o.most < 4294967296 = omega arith in
    let fits = called-bytes c.args.channel o c.place-place.result c.commands.senders c.next_due.new.self c.commands.buf c.next_due.new.buf c.in-Sent.past c.in-Sent.added c.in-Sent.price c.in-Sent.kind c.in-Sent.again a.s a.there
    c.in-Sent.ensures 4294967296 low most in
    omega arith

pub overflow_add-flow-else-refuses : goal.overflow_add-flow-else-refuses
overflow_add-flow-else-refuses c =
    let first = some-sender c.args.senders.now c.args.channel c.requires in
    let a = c.commands.invariant first.0 first.1 in
    let o = c.occasion_of-occasion.result in
    let is : o.prices ≡ c.commands.flow.prices = ap (λ (x : Occasion). x.prices) c.occasion_of-occasion.ensures in
    let low : o.prices < 4294967296 = omega arith in
    let most : o.dearest < 4294967296 = omega arith in
    let fits = called-prices c.args.channel o c.place-place.result c.commands.senders c.next_due.new.self c.commands.buf c.next_due.new.buf c.in-Sent.past c.in-Sent.added c.in-Sent.price c.in-Sent.kind c.in-Sent.again a.s a.there
    c.in-Sent.ensures 4294967296 low most in
    omega arith

pub with-progress-requires-clause-within : goal.with-progress-requires-clause-within
with-progress-requires-clause-within c =
    let first = some-sender c.args.senders.now c.args.channel c.requires in
    let a = c.commands.invariant first.0 first.1 in
    (called-room c.args.pace c.args.channel (settled c.commands.flow c.commands.went c.args.channel) c.commands.progress c.commands.senders c.next_due.new.self c.commands.buf c.next_due.new.buf c.in-Sent.past c.in-Sent.added c.in-Sent.price c.in-Sent.kind c.in-Sent.again a.s a.there
    (called c.args.pace c.args.channel (settled c.commands.flow c.commands.went c.args.channel) c.commands.progress c.commands.senders c.next_due.new.self c.commands.buf c.next_due.new.buf (due.Sent c.in-Sent.past c.in-Sent.added c.in-Sent.price c.in-Sent.kind c.in-Sent.again)
    c.occasion_of-occasion.result c.place-place.result (c.occasion_of-occasion.ensures ∙ told-settled c.args.pace c.args.channel c.commands.flow c.commands.went) c.place-place.ensures c.in-Sent.ensures)).1

pub with-progress-requires-clause-more : goal.with-progress-requires-clause-more
with-progress-requires-clause-more c =
    let first = some-sender c.args.senders.now c.args.channel c.requires in
    let a = c.commands.invariant first.0 first.1 in
    (called-room c.args.pace c.args.channel (settled c.commands.flow c.commands.went c.args.channel) c.commands.progress c.commands.senders c.next_due.new.self c.commands.buf c.next_due.new.buf c.in-Sent.past c.in-Sent.added c.in-Sent.price c.in-Sent.kind c.in-Sent.again a.s a.there
    (called c.args.pace c.args.channel (settled c.commands.flow c.commands.went c.args.channel) c.commands.progress c.commands.senders c.next_due.new.self c.commands.buf c.next_due.new.buf (due.Sent c.in-Sent.past c.in-Sent.added c.in-Sent.price c.in-Sent.kind c.in-Sent.again)
    c.occasion_of-occasion.result c.place-place.result (c.occasion_of-occasion.ensures ∙ told-settled c.args.pace c.args.channel c.commands.flow c.commands.went) c.place-place.ensures c.in-Sent.ensures)).0

pub returns-in-NoRoom : goal.returns-in-NoRoom
returns-in-NoRoom c = λ s there.
    rw (c.shut.ensures, c.kept_after-flow.ensures) (turn-full (c.commands.invariant s there)
    (called c.args.pace c.args.channel (settled c.commands.flow c.commands.went c.args.channel) c.commands.progress c.commands.senders c.next_due.new.self c.commands.buf c.next_due.new.buf due.NoRoom
    c.occasion_of-occasion.result c.place-place.result (c.occasion_of-occasion.ensures ∙ told-settled c.args.pace c.args.channel c.commands.flow c.commands.went) c.place-place.ensures c.in-NoRoom.ensures))

pub returns-in-Full : goal.returns-in-Full
returns-in-Full c = λ s there.
    rw c.kept_after-flow-in-Full.ensures (turn-waits c.commands.flow (c.commands.invariant s there)
    (called c.args.pace c.args.channel (settled c.commands.flow c.commands.went c.args.channel) c.commands.progress c.commands.senders c.next_due.new.self c.commands.buf c.next_due.new.buf due.Full
    c.occasion_of-occasion.result c.place-place.result (c.occasion_of-occasion.ensures ∙ told-settled c.args.pace c.args.channel c.commands.flow c.commands.went) c.place-place.ensures c.in-Full.ensures))

pub returns-in-Nothing : goal.returns-in-Nothing
returns-in-Nothing c = λ s there.
    rw c.kept_after-flow-in-Nothing.ensures (turn-none (c.commands.invariant s there)
    (called c.args.pace c.args.channel (settled c.commands.flow c.commands.went c.args.channel) c.commands.progress c.commands.senders c.next_due.new.self c.commands.buf c.next_due.new.buf due.Nothing
    c.occasion_of-occasion.result c.place-place.result (c.occasion_of-occasion.ensures ∙ told-settled c.args.pace c.args.channel c.commands.flow c.commands.went) c.place-place.ensures c.in-Nothing.ensures))
