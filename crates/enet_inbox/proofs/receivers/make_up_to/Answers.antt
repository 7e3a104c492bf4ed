use Rattle.std.proofs.Common.{◌≡◌, Result, Ok, List, length, sym, ap, ◌∙◌, arith}
use Rattle.enet_codec.specs.declared.refusal.Refusal.{Refusal}
use Rattle.enet_receiver.specs.Foresight.{ReceivingEnd, new_end}
use Rattle.enet_inbox.specs.Made.{all_receivers}
use Rattle.enet_inbox.proofs.Made.{all_begun, all_pushed}
use Rattle.enet_inbox.proofs.receivers.make_up_to.Goals as goal

same_ok : (r d : ReceivingEnd) → ◌≡◌ {A = Result ReceivingEnd Refusal} (Ok r) (Ok d) → r ≡ d
same_ok r d e = cc

pub loop-next-init : goal.loop-next-init
loop-next-init c =
    let rs = c.args.receivers.now.items in record {
      made = c.make_room.ensures.items ∙ all_begun c.args.max_packet c.len-made.result rs (omega arith);
      len = (let same : length c.make_room.new.receivers.items ≡ length c.args.receivers.now.items = ap (λ (xs : List ReceivingEnd). length xs) c.make_room.ensures.items in omega (arith, same));
      start = omega arith;
      past = omega arith;
      room = c.make_room.ensures.room c.if-not-make_room.false;
    }

pub loop-next-preserved : goal.loop-next-preserved
loop-next-preserved c =
    let rs = c.args.receivers.now.items in
    let l = c.loop-next in record {
      made = c.push_reserved.ensures.items ∙ all_pushed c.args.max_packet l.next rs l.receivers.items c.in-Ok.receiver (omega arith) l.invariant.made (same_ok c.in-Ok.receiver (new_end l.next c.args.max_packet) c.in-Ok.ensures);
      len = omega (arith, c.push_reserved.ensures.len, l.invariant.len);
      start = omega arith;
      past = omega arith;
      room = omega (arith, c.push_reserved.ensures.capacity, l.invariant.room);
    }

pub returns-then-not-make_room-clause-made : goal.returns-then-not-make_room-clause-made
returns-then-not-make_room-clause-made c =
    let long : length c.make_room.new.receivers.items ≡ length c.args.receivers.now.items = ap (λ (rs : List ReceivingEnd). length rs) c.make_room.ensures.items in
    c.make_room.ensures.items ∙ all_begun c.args.max_packet (length c.make_room.new.receivers.items) c.args.receivers.now.items long

pub returns-clause-made : goal.returns-clause-made
returns-clause-made c =
    let l = c.loop-next in
    let long : l.next ≡ length l.receivers.items = omega (arith, l.invariant.len) in
    l.invariant.made ∙ ap (λ n. all_receivers c.args.max_packet n c.args.receivers.now.items) long
