use Rattle.std.proofs.Common.{inl, inr, ◌≡◌, ◌+◌, ◌-◌, ◌%◌, ◌<◌, length, sym, ap, ◌∙◌, arith}
use Rattle.std.specs.List.{slice_get}
use Rattle.std.proofs.Math.Nat.{mod-lt}
use Rattle.std.proofs.lemmas.Bool.{cases_lt}
use Rattle.enet_outbox.proofs.Passing.{turned}
use Rattle.enet_outbox.proofs.packing.next_turn.Goals as goal

pub turns-preserved : goal.turns-preserved
turns-preserved c =
    let senders = c.args.senders.now in
    let n = c.len-channels.result in
    let count : n ≡ length senders = c.len-channels.ensures in
    let begin = (c.args.first + c.turns.next) % n in
    let some : c.turns.next < n = c.turns-test.true in
    let inside : begin < n = mod-lt (c.args.first + c.turns.next) (omega arith) in
    let ready = c.min-ready.ensures in
    let goes = c.min-next.ensures in
    let low = c.turns.invariant.later in
    let high = c.turns.invariant.within in
    let ahead = c.next_ready.ensures.later in
    record {
      later = omega arith;
      within = omega arith;
      still = λ k e from less there. elim (cases_lt k c.turns.next) [
        | inl before ↦ c.turns.invariant.still k e from before there
        | inr past ↦
            let d = k - c.turns.next in
            let near : begin + d < c.min-ready.result = omega arith in
            let fits : begin + d < n = omega arith in
            let far : k ≡ c.turns.next + d = omega arith in
            let place : (c.args.first + k) % n ≡ begin + d =
            ap (λ m. m % n) (let e : c.args.first + k ≡ (c.args.first + c.turns.next) + d = omega arith in e) ∙ turned (c.args.first + c.turns.next) d n fits in
            c.next_ready.ensures.still (begin + d) e (omega arith) (omega arith) (ap (slice_get senders) (sym place) ∙ ap (λ m. slice_get senders ((c.args.first + k) % m)) count ∙ there)
      ];
    }
