use Rattle.std.proofs.Common.{refl, arith}
use Rattle.enet_fragment.specs.Collected.{laid}
use Rattle.enet_fragment.proofs.Collecting.{laid-next, piece-within}
use Rattle.enet_fragment.proofs.collected.lay.Goals as goal

pub loop-piece-init : goal.loop-piece-init
unfolding laid
loop-piece-init c = record { bytes = refl; len = c.requires.len; room = c.requires.room }

pub write_at-requires : goal.write_at-requires
write_at-requires c =
    let fits = piece-within c.args.total c.args.early.now c.loop-piece.piece-index c.piece-item.result c.loop-piece-test.true c.piece-item.is c.requires.within in
    omega (arith, c.deref.ensures.value, c.deref.ensures.len, c.loop-piece.invariant.room, fits)

pub loop-piece-preserved : goal.loop-piece-preserved
loop-piece-preserved c =
    let fits = piece-within c.args.total c.args.early.now c.loop-piece.piece-index c.piece-item.result c.loop-piece-test.true c.piece-item.is c.requires.within in
    record {
      bytes = laid-next c.args.total c.args.early.now c.loop-piece.piece-index c.piece-item.result _ c.loop-piece.buffer.items _ c.loop-piece-test.true c.piece-item.is c.requires.within c.loop-piece.invariant.bytes (rw (← c.deref.ensures.value) c.write_at.ensures.bytes);
      len = omega (arith, c.write_at.ensures.len, c.deref.ensures.len, c.loop-piece.invariant.len, fits);
      room = omega (arith, c.write_at.ensures.room, c.loop-piece.invariant.room);
    }
