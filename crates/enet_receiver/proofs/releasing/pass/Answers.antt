use Rattle.std.proofs.Common.{◌≡◌, ℕ, ◌<◌, ◌+◌, sym, ap, ◌∙◌, arith}
use Rattle.std.specs.FinMap.{remove}
use Rattle.enet_seq.specs.Numbering.{wire}
use Rattle.enet_seq.specs.Windows.{after}
use Rattle.enet_receiver.specs.Receiver.{without}
use Rattle.enet_receiver.proofs.Without.{without-none, without-more}
use Rattle.enet_receiver.proofs.releasing.pass.Goals as goal

none_passed : (front : ℕ) → front < 65536 → front ≡ after front 0
none_passed front low = omega arith

one_more : (next last front n : ℕ) → next ≡ after last 1 → last ≡ after front n → next ≡ after front (n + 1)
one_more next last front n e f = omega arith

one_past : (next last front n : ℕ) → next ≡ after last 1 → last ≡ after front n → next ≡ after (after front 1) n
one_past next last front n e f = omega arith

pub loop-passed-init : goal.loop-passed-init
loop-passed-init c = record {
  last = none_passed c.args.front (omega arith);
  held = sym (without-none wire c.args.held.now (after c.args.front 1));
  waiting = sym (without-none wire c.args.waiting.now c.args.front);
  fewer = omega arith;
}

pub loop-passed-preserved : goal.loop-passed-preserved
loop-passed-preserved c =
    let n = c.loop-passed._passed in
    let front = c.args.front in
    let last = c.loop-passed.last in
    let next = c.after-last.result in
    record {
      last = one_more next last front n c.after-last.ensures c.loop-passed.invariant.last;
      held = c.remove.ensures.rest
          ∙ ap (λ m. remove m c.after-last.result) c.loop-passed.invariant.held
          ∙ ap (remove (without wire c.args.held.now (after front 1) n)) (one_past next last front n c.after-last.ensures c.loop-passed.invariant.last)
          ∙ sym (without-more wire c.args.held.now (after front 1) n);
      waiting = c.forget.ensures.rest
          ∙ ap (λ m. remove m c.loop-passed.last) c.loop-passed.invariant.waiting
          ∙ ap (remove (without wire c.args.waiting.now front n)) c.loop-passed.invariant.last
          ∙ sym (without-more wire c.args.waiting.now front n);
      fewer = (let a = c.forget.ensures.fewer in let b = c.loop-passed.invariant.fewer in omega arith);
    }
