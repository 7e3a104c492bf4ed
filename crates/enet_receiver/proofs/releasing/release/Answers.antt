use Rattle.std.proofs.Common.{◌≡◌, ◌+◌, ◌<◌, ◌++◌, sym, ap, subst, ◌∙◌, arith, Some, None}
use Rattle.std.specs.FinMap.{get, len, entries}
use Rattle.enet_seq.specs.Numbering.{wire}
use Rattle.enet_seq.specs.Windows.{after}
use Rattle.enet_packets.specs.Packets.{line_at, fresh}
use Rattle.enet_receiver.specs.Receiver.{Receiver, next_whole, with_dispatched, all_released}
use Rattle.enet_receiver.specs.Laws.{HavePieces}
use Rattle.enet_receiver.specs.ReceiverParts.{receiver_of}
use Rattle.enet_receiver.proofs.Released.{all_released-some, all_released-none, wire_begins, HavePieces-dispatched}
use Rattle.enet_receiver.proofs.Turns.{due_first, taken_first, fewer_after, end_is}
use Rattle.enet_receiver.proofs.releasing.release.Goals as goal

pub dispatch_next-requires-clause-room : goal.dispatch_next-requires-clause-room
dispatch_next-requires-clause-room c =
    let room = c.loop-coming.invariant.room in
    let some_held = due_first c.loop-coming.held c.after.result c.in-Some.coming (sym c.in-Some.ensures.value) in
    omega arith

pub loop-coming-smaller : goal.loop-coming-smaller
loop-coming-smaller c =
    let less = fewer_after c.loop-coming.held c.take_whole.new.held c.dispatch_next.new.held c.after.result _ c.loop-coming.front c.in-Some.coming (sym c.in-Some.ensures.value) c.in-Some.ensures.some
    (ap (λ (r : Receiver). r.held) c.dispatch_next.ensures.is) in
    let smaller : len c.dispatch_next.new.held < len c.loop-coming.held = omega arith in
    smaller

pub loop-coming-preserved : goal.loop-coming-preserved
loop-coming-preserved c =
    let r : Receiver = receiver_of c.loop-coming.front c.loop-coming.unreliable c.loop-coming.held c.loop-coming.waiting c.loop-coming.dispatched.items in
    let coming = c.in-Some.coming in
    let after_turn : Receiver = receiver_of c.dispatch_next.new.front c.dispatch_next.new.unreliable c.dispatch_next.new.held c.dispatch_next.new.waiting c.dispatch_next.new.dispatched.items in
    let due : next_whole (get c.loop-coming.held (after c.loop-coming.front 1)) ≡ Some c.in-Some.coming =
    ap (λ k. next_whole (get c.loop-coming.held k)) (sym c.after.ensures) ∙ sym c.in-Some.ensures.value in
    let turn : after_turn ≡ with_dispatched wire r coming =
    c.dispatch_next.ensures.is ∙ taken_first r coming c.take_whole.new.held c.after.result c.after.ensures c.in-Some.ensures.some c.loop-coming.invariant.pieces due in
    let less = fewer_after c.loop-coming.held c.take_whole.new.held c.dispatch_next.new.held c.after.result _ c.loop-coming.front coming (sym c.in-Some.ensures.value) c.in-Some.ensures.some
    (ap (λ (r : Receiver). r.held) c.dispatch_next.ensures.is) in
    let room_was = c.loop-coming.invariant.room in
    record {
      same =
          ap (all_released wire) turn
          ∙ sym (all_released-some wire r coming wire_begins c.loop-coming.invariant.pieces due)
          ∙ c.loop-coming.invariant.same;
      pieces = subst HavePieces (sym turn) (HavePieces-dispatched wire r coming c.loop-coming.invariant.pieces);
      room = omega (arith, c.dispatch_next.ensures.room, c.dispatch_next.ensures.capacity);
    }

pub returns : goal.returns
returns c =
    let r : Receiver = receiver_of c.loop-coming.front c.loop-coming.unreliable c.loop-coming.held c.loop-coming.waiting c.loop-coming.dispatched.items in
    let none : next_whole (get c.loop-coming.held (after c.loop-coming.front 1)) ≡ None =
    ap (λ k. next_whole (get c.loop-coming.held k)) (sym c.after.ensures) ∙ sym c.in_default.ensures.value in
    end_is r c.flush.new.last c.take_whole.new.held c.flush.new.self c.flush.new.dispatched.items
    c.in_default.ensures.none
    (c.flush.ensures.items ∙ ap (λ n. c.loop-coming.dispatched.items ++ fresh (n + 1) (entries (line_at c.loop-coming.waiting c.loop-coming.front))) c.from-first.ensures)
    c.flush.ensures.last c.flush.ensures.rest
    ∙ sym (all_released-none wire r none)
    ∙ c.loop-coming.invariant.same
