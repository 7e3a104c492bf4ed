use Rattle.std.proofs.Common.{◌<◌, ◌≤◌, length, sym, ap, ◌∙◌, arith}
use Rattle.enet_senders.specs.Senders.{ends_of, cleared_end}
use Rattle.enet_senders.proofs.Dropping.{AreBare, one-bare}
use Rattle.enet_senders.proofs.Each.{ends-length, front-stays, ends-take, keeps-take}
use Rattle.enet_senders.proofs.senders.keep_first.Goals as goal

pub loop-dropped-preserved : goal.loop-dropped-preserved
loop-dropped-preserved c =
    let ys = ends_of c.loop-dropped.pending.slab c.loop-dropped.channels.items in
    let zs = ends_of c.clear_on.new.pending.slab c.clear_on.new.channels.items in
    let count = ends-length c.loop-dropped.pending.slab c.loop-dropped.channels.items in
    let inside : c.loop-dropped.dropped < length ys = omega (arith, c.loop-dropped-test.true, c.loop-dropped.invariant.end, c.loop-dropped.invariant.len) in
    let stays = front-stays c.args.count c.loop-dropped.dropped ys zs cleared_end c.loop-dropped.invariant.start inside c.clear_on.ensures.ends in
    record {
      kept = c.clear_on.ensures.kept;
      ends = stays.0 ∙ c.loop-dropped.invariant.ends;
      bare = one-bare c.args.count c.loop-dropped.dropped ys zs inside c.clear_on.ensures.ends c.loop-dropped.invariant.bare;
      len = sym (ends-length c.clear_on.new.pending.slab c.clear_on.new.channels.items) ∙ stays.1 ∙ count ∙ c.loop-dropped.invariant.len;
      start = omega (arith, c.loop-dropped.invariant.start);
      end = c.loop-dropped.invariant.end;
    }

pub returns-clause-ends : goal.returns-clause-ends
returns-clause-ends c =
    ap (ends_of c.loop-dropped.pending.slab) (c.shrink_to_fit.ensures.items ∙ c.truncate.ensures.items) ∙ ends-take c.loop-dropped.pending.slab c.args.count c.loop-dropped.channels.items ∙ c.loop-dropped.invariant.ends

pub returns-clause-kept : goal.returns-clause-kept
returns-clause-kept c =
    let slab = c.loop-dropped.pending.slab in
    let channels = c.loop-dropped.channels.items in
    let over : length channels ≤ c.loop-dropped.dropped = omega (arith, c.loop-dropped-test.false, c.loop-dropped.invariant.end, c.loop-dropped.invariant.len) in
    let bare : AreBare c.args.count (length channels) (ends_of slab channels) = λ j from until. c.loop-dropped.invariant.bare j from (omega arith) in
    rw (c.shrink_to_fit.ensures.items ∙ c.truncate.ensures.items) (keeps-take slab c.args.count channels c.loop-dropped.invariant.kept bare)
