use Rattle.std.proofs.Common.{arith, refl, ap, ◌∙◌, ◌<◌, Some}
use Rattle.enet_fragment.specs.Assembly.{making_of}
use Rattle.enet_fragment.specs.PartialPacket.{count_of}
use Rattle.enet_fragment.specs.Collected.{contents}
use Rattle.enet_fragment.proofs.Frugal.{thrifty-after, thrifty-still}
use Rattle.enet_fragment.specs.Stored.{stored}
use Rattle.enet_fragment.proofs.Places.{Fits, Fits-from_test}
use Rattle.enet_fragment.proofs.Views.{making_of-after, AreKept-after, missing-some, count_of-making}
use Rattle.enet_fragment.proofs.Collecting.{ends-within}
use Rattle.enet_fragment.proofs.piece_store.PieceStore.add.Goals as goal

pub told_piece_len-cut-requires : goal.told_piece_len-cut-requires
told_piece_len-cut-requires c = (Fits-from_test (stored c.args.self.now) c.args.place c.requires.belongs).sound.below

pub put-requires-clause-fits : goal.put-requires-clause-fits
put-requires-clause-fits c = ends-within c.args.self.now c.args.place c.args.bytes.now c.requires.stored c.requires.belongs c.requires.fits

pub mark-requires : goal.mark-requires
mark-requires c =
    let s = c.args.self.now in
    let fits : Fits (stored s) c.args.place = Fits-from_test (stored s) c.args.place c.requires.belongs in
    let count = count_of-making (contents s.total s.bytes) s.came s.cut (stored s) refl in
    omega (arith, fits.sound.below, fits.count, count)

pub overflow_sub-self : goal.overflow_sub-self
overflow_sub-self c =
    let s = c.args.self.now in
    missing-some (contents s.total s.bytes) s.came s.missing s.cut (stored s) c.args.place c.requires.stored.kept refl c.requires.belongs c.requires.missing

pub returns-clause-stored : goal.returns-clause-stored
returns-clause-stored c =
    let s = c.args.self.now in
    record {
      kept = rw c.mark.ensures (AreKept-after (contents s.total s.bytes) c.args.bytes.now _ s.came s.missing s.cut (stored s) c.args.place _ (c.put.ensures.written c.if-not-put.false) c.told_piece_len-cut.ensures c.requires.stored.kept refl c.requires.belongs c.requires.missing c.requires.fits);
      collected = c.put.ensures.collected;
    }

pub returns-clause-ok : goal.returns-clause-ok
returns-clause-ok c =
    let s = c.args.self.now in
    ap (λ marks. making_of (contents s.total c.put.new.self) marks (Some c.told_piece_len-cut.result)) c.mark.ensures
    ∙ making_of-after (contents s.total s.bytes) c.args.bytes.now _ s.came s.missing s.cut (stored s) c.args.place _ (c.put.ensures.written c.if-not-put.false) c.told_piece_len-cut.ensures c.requires.stored.kept refl c.requires.belongs c.requires.fits

pub returns-clause-frugal : goal.returns-clause-frugal
returns-clause-frugal c = λ frugal.
    let s = c.args.self.now in
    let fits : Fits (stored s) c.args.place = Fits-from_test (stored s) c.args.place c.requires.belongs in
    let below : c.args.place.number < count_of (stored s) = omega (arith, fits.sound.below, fits.count) in
    thrifty-after (stored s) _ c.args.place c.args.bytes.now c.put.new.self (returns-clause-ok c) c.requires.missing below (c.put.ensures.thrifty _ _ frugal c.if-not-put.false)

pub returns-then-not-put-clause-frugal : goal.returns-then-not-put-clause-frugal
returns-then-not-put-clause-frugal c = λ frugal.
    let s = c.args.self.now in
    thrifty-still (contents s.total s.bytes) (contents s.total c.put.new.self) s.came s.cut c.put.new.self (c.put.ensures.same c.if-not-put.true) (c.put.ensures.refused _ _ frugal c.if-not-put.true)
