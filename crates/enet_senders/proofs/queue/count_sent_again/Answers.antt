use Rattle.std.proofs.Common.{◌+◌, ◌<◌, Bool, cond, List, take, length, sym, ap, ap₂, ◌∙◌, arith}
use Rattle.std.specs.List.{count_by}
use Rattle.std.proofs.lemmas.List.{take_all, get_or_read}
use Rattle.std.proofs.lemmas.List.Sums.{sum_by_more}
use Rattle.enet_sender.specs.Counting.{added}
use Rattle.enet_sender.proofs.Tallies.{added-more}
use Rattle.enet_senders.specs.declared.control.SentControl.{SentControl}
use Rattle.enet_senders.specs.Counting.{is_sent_again}
use Rattle.enet_senders.proofs.queue.count_sent_again.Goals as goal

pub loop-place-preserved : goal.loop-place-preserved
loop-place-preserved c =
    let sent = c.args.sent.now.items in
    let is : SentControl → Bool = is_sent_again in
    let place = c.loop-place.place in
    let command = c.index-command.result.now in
    let inside : place < length sent = omega (arith, c.loop-place-test.true, c.loop-place.invariant.end, c.args.sent.now.ok.0) in
    let there = sym (get_or_read sent place command inside c.index-command.ensures command) in
    let more = sum_by_more (λ (p : SentControl). cond (is p) 1 0) sent place command inside in
    record {
      counted = c.saturating_add-total.ensures
          ∙ ap₂ added c.loop-place.invariant.counted c.sent_again.ensures
          ∙ added-more c.args.so_far (count_by is (take place sent)) (cond (is command) 1 0)
          ∙ ap (added c.args.so_far) (ap (λ (p : SentControl). count_by is (take place sent) + cond (is p) 1 0) (sym there) ∙ sym more);
      end = c.loop-place.invariant.end;
    }

pub returns : goal.returns
returns c =
    c.loop-place.invariant.counted
    ∙ ap (λ (sent : List SentControl). added c.args.so_far (count_by is_sent_again sent))
    (take_all c.loop-place.place c.args.sent.now.items (omega (arith, c.loop-place-test.false, c.loop-place.invariant.end, c.args.sent.now.ok.0)))
