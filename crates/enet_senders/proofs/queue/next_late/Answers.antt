use Rattle.std.proofs.Common.{ℕ, ◌+◌, ◌<◌, take, length, sym, subst, arith}
use Rattle.std.specs.List.{list_any}
use Rattle.std.proofs.lemmas.List.{get_or_read}
use Rattle.enet_rtt.specs.Clock.{HappensIn}
use Rattle.enet_rtt.proofs.Waits.{never, more-in, all-in}
use Rattle.enet_senders.specs.Controlling.{is_late}
use Rattle.enet_senders.proofs.queue.next_late.Goals as goal

pub loop-place-init : goal.loop-place-init
loop-place-init c = record { first = never c.args.now; end = search }

pub loop-place-preserved : goal.loop-place-preserved
loop-place-preserved c =
    let sent = c.args.sent.now.items in
    let command = c.index-command.result.now in
    let inside : c.loop-place.place < length sent = omega (arith, c.loop-place-test.true, c.loop-place.invariant.end, c.args.sent.now.ok.0) in
    let there = sym (get_or_read sent c.loop-place.place command inside c.index-command.ensures command) in
    record {
      first = subst (λ (n : ℕ). HappensIn (λ (later : ℕ). list_any (is_late later) (take (c.loop-place.place + 1) sent)) c.args.now n) (sym c.min-wait.ensures)
          (more-in is_late sent c.loop-place.place command command c.args.now c.loop-place.wait c.next_late.result inside there c.loop-place.invariant.first c.next_late.ensures);
      end = c.loop-place.invariant.end;
    }

pub returns : goal.returns
returns c =
    all-in is_late c.args.sent.now.items c.loop-place.place c.args.now c.loop-place.wait
    (omega (arith, c.loop-place-test.false, c.loop-place.invariant.end, c.args.sent.now.ok.0)) c.loop-place.invariant.first
