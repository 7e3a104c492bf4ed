use Rattle.std.proofs.Common.{ℕ, ◌+◌, ◌<◌, ◌≤◌, List, take, length, sym, ap, ◌∙◌, arith}
use Rattle.std.proofs.lemmas.List.{take_all}
use Rattle.std.proofs.lemmas.List.Sums.{sum_by_more}
use Rattle.enet_sender.specs.Counting.{added}
use Rattle.enet_sender.specs.Due.{SendingEnd}
use Rattle.enet_sender.specs.Rings.{end_of}
use Rattle.enet_sender.proofs.Tallies.{added-more}
use Rattle.enet_senders.specs.Counting.{count_on, count_over}
use Rattle.enet_senders.specs.Senders.{ends_of}
use Rattle.enet_senders.proofs.Each.{end-at, ends-length}
use Rattle.enet_senders.proofs.senders.count_each.Goals as goal

pub loop-place-preserved : goal.loop-place-preserved
loop-place-preserved c =
    let s = c.args.pending.now.slab in
    let channels = c.args.channels.now in
    let place = c.loop-place.place in
    let o = c.index-channels-place.result in
    let es = ends_of s channels in
    let len = ends-length s channels in
    let low : place < length channels = omega (arith, c.loop-place-test.true, c.loop-place.invariant.end) in
    let inside : place < length es = omega arith in
    let there = end-at s channels place o low (sym c.index-channels-place.is) in
    let more = sum_by_more count_on es place (end_of s o) inside in
    record {
      counted = c.count_sent_again-total.ensures
          ∙ ap (λ (n : ℕ). added n (count_on (end_of s o))) c.loop-place.invariant.counted
          ∙ added-more c.args.so_far (count_over (take place es)) (count_on (end_of s o))
          ∙ ap (added c.args.so_far) (ap (λ (e : SendingEnd). count_over (take place es) + count_on e) (sym there) ∙ sym more);
      end = c.loop-place.invariant.end;
    }

pub returns : goal.returns
returns c =
    let es = ends_of c.args.pending.now.slab c.args.channels.now in
    let len = ends-length c.args.pending.now.slab c.args.channels.now in
    let past : length es ≤ c.loop-place.place = omega (arith, c.loop-place-test.false, c.loop-place.invariant.end) in
    c.loop-place.invariant.counted ∙ ap (λ (xs : List SendingEnd). added c.args.so_far (count_over xs)) (take_all c.loop-place.place es past)
