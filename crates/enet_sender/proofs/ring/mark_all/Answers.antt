use Rattle.std.proofs.Common.{◌<◌, length, sym, ap, ◌∙◌, arith}
use Rattle.std.specs.Option.{option_map}
use Rattle.std.proofs.lemmas.List.{take_all, get_or_read}
use Rattle.slab.specs.Slab.{get}
use Rattle.enet_sender.specs.Sender.{marked}
use Rattle.enet_sender.specs.Pending.{times}
use Rattle.enet_sender.specs.Private.Rounds.{marked_at}
use Rattle.enet_sender.proofs.Rounds.{changed-more, marked-twice}
use Rattle.enet_sender.proofs.ring.mark_all.Goals as goal

pub loop-place-preserved : goal.loop-place-preserved
loop-place-preserved c =
    let ring = c.args.ring.now.items in
    let key = c.index-key.result.now in
    let inside : c.loop-place.place < length ring = omega (arith, c.loop-place-test.true, c.loop-place.invariant.end, c.args.ring.now.ok.0) in
    let key_is = sym (get_or_read ring c.loop-place.place key inside c.index-key.ensures 4294967295) in
    record {
      changed = changed-more (option_map (marked c.args.tick)) (marked-twice c.args.tick) (get c.args.pending.now.slab) (get c.loop-place.pending.slab) (get c.mark.new.self.slab)
          ring c.loop-place.place key inside key_is c.loop-place.invariant.changed c.mark.ensures.changed c.mark.ensures.others;
      end = c.loop-place.invariant.end;
    }

pub returns : goal.returns
returns c = λ key.
    c.loop-place.invariant.changed key
    ∙ ap (λ keys. marked_at c.args.tick (times key keys) (get c.args.pending.now.slab key))
    (take_all c.loop-place.place c.args.ring.now.items (omega (arith, c.loop-place-test.false, c.loop-place.invariant.end, c.args.ring.now.ok.0)))
