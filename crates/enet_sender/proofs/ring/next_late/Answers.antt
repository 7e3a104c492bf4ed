use Rattle.std.proofs.Common.{ℕ, ◌+◌, ◌<◌, take, length, sym, subst, arith}
use Rattle.std.specs.List.{list_any}
use Rattle.std.proofs.lemmas.List.{get_or_read}
use Rattle.slab.specs.Slab.{get}
use Rattle.enet_rtt.specs.Clock.{HappensIn}
use Rattle.enet_rtt.proofs.Waits.{never, more-in, all-in}
use Rattle.enet_sender.specs.Sender.{is_late}
use Rattle.enet_sender.specs.Private.Rounds.{test_at}
use Rattle.enet_sender.proofs.ring.next_late.Goals as goal

pub loop-place-init : goal.loop-place-init
loop-place-init c = record { first = never c.args.now; end = search }

pub loop-place-preserved : goal.loop-place-preserved
loop-place-preserved c =
    let ring = c.args.ring.now.items in
    let at = get c.args.pending.now.slab in
    let key = c.index-key.result.now in
    let inside : c.loop-place.place < length ring = omega (arith, c.loop-place-test.true, c.loop-place.invariant.end, c.args.ring.now.ok.0) in
    let key_is = sym (get_or_read ring c.loop-place.place key inside c.index-key.ensures 4294967295) in
    record {
      first = subst (λ (n : ℕ). HappensIn (λ (later : ℕ). list_any (λ (k : ℕ). test_at (is_late later) (at k)) (take (c.loop-place.place + 1) ring)) c.args.now n) (sym c.min-wait.ensures)
          (more-in (λ (later k : ℕ). test_at (is_late later) (at k)) ring c.loop-place.place 4294967295 key c.args.now c.loop-place.wait c.next_late.result inside key_is c.loop-place.invariant.first c.next_late.ensures);
      end = c.loop-place.invariant.end;
    }

pub returns : goal.returns
returns c =
    all-in (λ (later key : ℕ). test_at (is_late later) (get c.args.pending.now.slab key)) c.args.ring.now.items c.loop-place.place c.args.now c.loop-place.wait
    (omega (arith, c.loop-place-test.false, c.loop-place.invariant.end, c.args.ring.now.ok.0)) c.loop-place.invariant.first
