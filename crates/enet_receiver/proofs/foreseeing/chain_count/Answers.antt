use Rattle.std.proofs.Common.{◌≡◌, ℕ, ◌+◌, ◌-◌, ◌%◌, ◌<◌, ◌≤◌, sym, ap, ◌∙◌, arith, zero-add, Some, None}
use Rattle.enet_seq.specs.Windows.{after}
use Rattle.enet_receiver.specs.Private.Walk.{walk, pieces_at, fresh_at}
use Rattle.enet_receiver.specs.declared.foreseeing.TheConstants.{MOST_TURNS}
use Rattle.enet_receiver.proofs.Steps.{walk-on, walk-off, walk-end}
use Rattle.enet_receiver.proofs.foreseeing.chain_count.Goals as goal

one_left : (total n : ℕ) → n < total → total - n ≡ (total - (n + 1)) + 1
one_left total n h = omega arith

all_gone : (total n : ℕ) → total ≤ n → total - n ≡ 0
all_gone total n h = omega arith

turn_sum : (before fresh after count : ℕ) → before ≡ 1 + fresh + after → after + (count + (1 + fresh)) ≡ before + count
turn_sum before fresh after count e = omega arith

read_off : (next last pieces : ℕ) → next ≡ after last (pieces % 65536) → next ≡ after last pieces
read_off next last pieces e = omega arith

pub returns-in_default : goal.returns-in_default
returns-in_default c =
    let absent : pieces_at c.args.completed c.args.held.now (after c.loop-turn.last 1) ≡ None =
    ap (pieces_at c.args.completed c.args.held.now) (sym c.after.ensures) ∙ sym c.in_default.ensures in
    sym (zero-add c.loop-turn.count)
    ∙ ap (λ x. x + c.loop-turn.count) (sym (walk-off (MOST_TURNS - c.loop-turn._turn) c.args.completed c.args.held.now c.args.waiting.now c.loop-turn.last absent))
    ∙ c.loop-turn.invariant.same

pub loop-turn-preserved : goal.loop-turn-preserved
loop-turn-preserved c =
    let o = c.args.completed in
    let held = c.args.held.now in
    let lines = c.args.waiting.now in
    let last = c.loop-turn.last in
    let n = c.loop-turn._turn in
    let there : pieces_at c.args.completed c.args.held.now (after c.loop-turn.last 1) ≡ Some c.in-Some.pieces =
    ap (pieces_at c.args.completed c.args.held.now) (sym c.after.ensures) ∙ sym c.in-Some.ensures in
    let next_is : c.after-last.result ≡ after c.loop-turn.last c.in-Some.pieces = read_off c.after-last.result last c.in-Some.pieces c.after-last.ensures in
    let fresh_is : fresh_at c.args.completed c.args.waiting.now (after c.loop-turn.last c.in-Some.pieces) 0 ≡ c.fresh_at.result =
    ap (λ k. fresh_at c.args.completed c.args.waiting.now k 0) (sym next_is) ∙ sym c.fresh_at.ensures.count in
    let rest_is : walk (MOST_TURNS - (c.loop-turn._turn + 1)) c.args.completed c.args.held.now c.args.waiting.now (after c.loop-turn.last c.in-Some.pieces) ≡ walk (MOST_TURNS - (c.loop-turn._turn + 1)) c.args.completed c.args.held.now c.args.waiting.now c.after-last.result =
    ap (walk (MOST_TURNS - (c.loop-turn._turn + 1)) c.args.completed c.args.held.now c.args.waiting.now) (sym next_is) in
    let step : walk (MOST_TURNS - c.loop-turn._turn) c.args.completed c.args.held.now c.args.waiting.now c.loop-turn.last ≡ 1 + c.fresh_at.result + walk (MOST_TURNS - (c.loop-turn._turn + 1)) c.args.completed c.args.held.now c.args.waiting.now c.after-last.result =
    walk-on (MOST_TURNS - n) (MOST_TURNS - (n + 1)) o held lines last c.in-Some.pieces (one_left MOST_TURNS n c.loop-turn-test.true) there ∙ (λ i. 1 + fresh_is i + rest_is i) in
    let few = c.fresh_at.ensures.few in
    record {
      same = turn_sum (walk (MOST_TURNS - n) o held lines last) c.fresh_at.result (walk (MOST_TURNS - (n + 1)) o held lines c.after-last.result) c.loop-turn.count step ∙ c.loop-turn.invariant.same;
      few = (let was = c.loop-turn.invariant.few in omega arith);
    }

pub returns : goal.returns
returns c =
    let n = c.loop-turn._turn in
    let last : MOST_TURNS ≤ n = omega (arith, c.loop-turn-test.false) in
    sym (zero-add c.loop-turn.count)
    ∙ ap (λ x. x + c.loop-turn.count) (sym (walk-end (MOST_TURNS - n) c.args.completed c.args.held.now c.args.waiting.now c.loop-turn.last (all_gone MOST_TURNS n last)))
    ∙ c.loop-turn.invariant.same
