use Rattle.std.proofs.Common.{◌≡◌, List, length, sym, ap, ◌∙◌, arith}
use Rattle.enet_sender.specs.declared.outgoing.Outgoing.{Outgoing}
use Rattle.enet_sender.specs.Due.{SendingEnd}
use Rattle.enet_senders.specs.Senders.{ends_of}
use Rattle.enet_senders.specs.Made.{all_ends}
use Rattle.enet_senders.proofs.Each.{keeps-push, ends-push, ends-length}
use Rattle.enet_senders.proofs.Made.{all_begun, all_pushed}
use Rattle.enet_senders.proofs.senders.make_up_to.Goals as goal

pub loop-next-init : goal.loop-next-init
loop-next-init c =
    let s = c.args._pending.now.slab in
    let long = ends-length s c.args.channels.now.items in record {
      kept = rw c.make_room.ensures.items c.requires.kept;
      ends = ap (ends_of s) c.make_room.ensures.items ∙ all_begun c.len-made.result (ends_of s c.args.channels.now.items) (omega arith);
      len = (let same : length c.make_room.new.channels.items ≡ length c.args.channels.now.items = ap (λ (xs : List Outgoing). length xs) c.make_room.ensures.items in omega (arith, same));
      start = omega arith;
      past = omega arith;
      room = c.make_room.ensures.room c.if-not-make_room.false;
    }

pub loop-next-preserved : goal.loop-next-preserved
loop-next-preserved c =
    let s = c.args._pending.now.slab in
    let l = c.loop-next in
    let o = c.in-Ok.sender in
    let long = ends-length s c.args.channels.now.items in record {
      kept = rw c.push_reserved.ensures.items (keeps-push s l.channels.items o c.in-Ok.ensures.rings c.in-Ok.ensures.room l.invariant.kept);
      ends = ap (ends_of s) c.push_reserved.ensures.items ∙ ends-push s l.channels.items o l.next c.in-Ok.ensures.rings (ap (λ (e : SendingEnd). e.channel) (c.in-Ok.ensures.end c.args._pending.now))
          ∙ all_pushed l.next (ends_of s c.args.channels.now.items) (ends_of s l.channels.items) (omega arith) l.invariant.ends;
      len = omega (arith, c.push_reserved.ensures.len, l.invariant.len);
      start = omega arith;
      past = omega arith;
      room = omega (arith, c.push_reserved.ensures.capacity, l.invariant.room);
    }

pub returns-then-not-make_room-clause-ends : goal.returns-then-not-make_room-clause-ends
returns-then-not-make_room-clause-ends c =
    let s = c.args._pending.now.slab in
    let rs = c.make_room.new.channels.items in
    let same : length rs ≡ length c.args.channels.now.items = ap (λ (os : List Outgoing). length os) c.make_room.ensures.items in
    let long = ends-length s c.args.channels.now.items in
    ap (ends_of s) c.make_room.ensures.items ∙ all_begun (length rs) (ends_of s c.args.channels.now.items) (omega arith)

pub returns-clause-ends : goal.returns-clause-ends
returns-clause-ends c =
    let l = c.loop-next in
    let long : l.next ≡ length l.channels.items = omega (arith, l.invariant.len) in
    l.invariant.ends ∙ ap (λ n. all_ends n (ends_of c.args._pending.now.slab c.args.channels.now.items)) long
