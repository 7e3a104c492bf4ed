use Rattle.std.proofs.Common.{ℕ, ◌+◌, ◌<◌, Bool, cond, take, length, sym, ap, ap₂, ◌∙◌, arith}
use Rattle.std.specs.List.{count_by}
use Rattle.std.proofs.lemmas.List.{take_all, get_or_read}
use Rattle.std.proofs.lemmas.List.Sums.{sum_by_more}
use Rattle.slab.specs.Slab.{get}
use Rattle.enet_sender.specs.Counting.{added, is_sent_again}
use Rattle.enet_sender.specs.Private.Rounds.{test_at}
use Rattle.enet_sender.proofs.Tallies.{added-more}
use Rattle.enet_sender.proofs.tally.count_sent_again.Goals as goal

pub loop-place-preserved : goal.loop-place-preserved
loop-place-preserved c =
    let ring = c.args.ring.now.items in
    let is : ℕ → Bool = λ key. test_at is_sent_again (get c.args.pending.now.slab key) in
    let place = c.loop-place.place in
    let key = c.index.result.now in
    let inside : place < length ring = omega (arith, c.loop-place-test.true, c.loop-place.invariant.end, c.args.ring.now.ok.0) in
    let key_is = sym (get_or_read ring place key inside c.index.ensures 4294967295) in
    let more = sum_by_more (λ (k : ℕ). cond (is k) 1 0) ring place 4294967295 inside in
    record {
      counted = c.saturating_add-total.ensures
          ∙ ap₂ added c.loop-place.invariant.counted c.sent_again.ensures
          ∙ added-more c.args.so_far (count_by is (take place ring)) (cond (is key) 1 0)
          ∙ ap (added c.args.so_far) (ap (λ k. count_by is (take place ring) + cond (is k) 1 0) (sym key_is) ∙ sym more);
      end = c.loop-place.invariant.end;
    }

pub returns : goal.returns
returns c =
    c.loop-place.invariant.counted
    ∙ ap (λ keys. added c.args.so_far (count_by (λ (key : ℕ). test_at is_sent_again (get c.args.pending.now.slab key)) keys))
    (take_all c.loop-place.place c.args.ring.now.items (omega (arith, c.loop-place-test.false, c.loop-place.invariant.end, c.args.ring.now.ok.0)))
