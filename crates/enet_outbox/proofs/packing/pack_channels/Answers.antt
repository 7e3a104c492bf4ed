use Rattle.std.proofs.Common.{◌≡◌, ◌<◌, ◌≤◌, ◌+◌, ◌-◌, ◌%◌, ℕ, List, refl, sym, ap, subst, ◌∙◌, arith, length}
use Rattle.std.proofs.Math.Nat.{mod-lt}
use Rattle.std.proofs.lemmas.List.{length-set}
use Rattle.enet_sender.specs.Due.{SendingEnd}
use Rattle.enet_outbox.proofs.Channels.{ChannelsAt, channels-begin, channels-turn, channels-end, channels-shut}
use Rattle.enet_outbox.proofs.ChannelTurns.{some-sender}
use Rattle.enet_outbox.proofs.Passing.{channels-pass}
use Rattle.std.specs.List.{slice_get}
use Rattle.enet_outbox.proofs.packing.pack_channels.Goals as goal

-- whose turn it is there is
inside-of : (first turn channel n : ℕ) → (turn < n → channel ≡ (first + turn) % n) → turn < n → channel < n
inside-of first turn channel n is low =
    let e = is low in
    let below : (first + turn) % n < n = mod-lt (first + turn) (omega arith) in
    omega arith

pub turns-init : goal.turns-init
turns-init c =
    let turn = c.next_turn-next.ensures in record {
      len = refl;
      within = turn.within;
      channel = turn.channel;
      low = turn.low;
      stage = λ f h is e. channels-pass c.next_turn-next.result.turn 0 c.next_turn-next.result.turn (omega arith) turn.within (λ i s low less there. turn.still i s low less there) (channels-begin h is e);
    }

pub pack_turn-requires : goal.pack_turn-requires
pack_turn-requires c =
    let n : ℕ = length c.args.senders.now in
    let low : c.turns.next.turn < n = omega (arith, c.turns-test.true, c.len-channels.ensures) in
    let below = inside-of c.args.first c.turns.next.turn c.turns.next.channel n c.turns.invariant.channel low in
    omega (arith, c.turns.invariant.len)

pub next_turn-next-requires-in-turns-clause-turn : goal.next_turn-next-requires-in-turns-clause-turn
next_turn-next-requires-in-turns-clause-turn c =
    let n : ℕ = length c.args.senders.now in
    let i : ℕ = c.turns.next.channel in
    let low : c.turns.next.turn < n = omega (arith, c.turns-test.true, c.len-channels.ensures) in
    let below = inside-of c.args.first c.turns.next.turn i n c.turns.invariant.channel low in
    let s = some-sender c.turns.senders i (omega (arith, c.turns.invariant.len)) in
    let r = c.pack_turn.ensures s.0 s.1 in
    let long : length c.pack_turn.new.senders ≡ length c.turns.senders = ap (λ (xs : List SendingEnd). length xs) r.1.0 ∙ length-set c.turns.senders i r.0 in
    omega (arith, c.turns.invariant.len)

pub next_turn-next-requires-in-turns-clause-few : goal.next_turn-next-requires-in-turns-clause-few
next_turn-next-requires-in-turns-clause-few c =
    let n : ℕ = length c.args.senders.now in
    let i : ℕ = c.turns.next.channel in
    let low : c.turns.next.turn < n = omega (arith, c.turns-test.true, c.len-channels.ensures) in
    let below = inside-of c.args.first c.turns.next.turn i n c.turns.invariant.channel low in
    let s = some-sender c.turns.senders i (omega (arith, c.turns.invariant.len)) in
    let r = c.pack_turn.ensures s.0 s.1 in
    let long : length c.pack_turn.new.senders ≡ length c.turns.senders = ap (λ (xs : List SendingEnd). length xs) r.1.0 ∙ length-set c.turns.senders i r.0 in
    omega (arith, c.turns.invariant.len, c.requires.few)

pub turns-preserved : goal.turns-preserved
turns-preserved c =
    let n : ℕ = length c.args.senders.now in
    let count : c.len-channels.result ≡ n = c.len-channels.ensures in
    let i : ℕ = c.turns.next.channel in
    let low : c.turns.next.turn < n = omega (arith, c.turns-test.true, count) in
    let turns = c.turns.invariant.channel low in
    let below = inside-of c.args.first c.turns.next.turn i n c.turns.invariant.channel low in
    let same : length c.turns.senders ≡ n = c.turns.invariant.len in
    let inside : i < length c.turns.senders = omega arith in
    let s = some-sender c.turns.senders i inside in
    let r = c.pack_turn.ensures s.0 s.1 in
    let later = c.pack_turn.new.senders in
    let long : length later ≡ n = ap (λ (xs : List SendingEnd). length xs) r.1.0 ∙ length-set c.turns.senders i r.0 ∙ same in
    let turn = c.next_turn-next-in-turns.ensures in
    let next = c.next_turn-next-in-turns.result.turn in
    let ends : next ≤ n = omega (arith, turn.within, long) in
    let rest : (c.turns.next.turn + 1) + (next - (c.turns.next.turn + 1)) ≡ next = omega (arith, turn.later) in
    record {
      len = long;
      within = ends;
      channel = λ less. turn.channel (omega (arith, long)) ∙ ap (λ m. (c.args.first + next) % m) long;
      low = turn.low;
      stage = λ f h is e.
          channels-pass (next - (c.turns.next.turn + 1)) (c.turns.next.turn + 1) next rest ends
          (λ j s at less there. turn.still j s at less (ap (λ m. slice_get later ((c.args.first + j) % m)) long ∙ there))
          (subst (λ (ss : List SendingEnd). ChannelsAt c.args.pace c.args.first n (c.turns.next.turn + 1) f ss c.pack_turn.new.flow c.pack_turn.new.progress c.pack_turn.new.buf) (sym r.1.0)
          (channels-turn i s.0 r.0 (c.turns.invariant.stage f h is e) low turns s.1 c.if-progress.false r.1.1));
    }

pub returns-clause-packs : goal.returns-clause-packs
returns-clause-packs c =
    let count : c.len-channels.result ≡ length c.args.senders.now = c.len-channels.ensures in
    let past : length c.args.senders.now ≤ c.turns.next.turn = omega (arith, count, c.turns-test.false) in
    λ f h is e. channels-end (c.turns.invariant.stage f h is e) past

pub returns-then-progress-clause-packs : goal.returns-then-progress-clause-packs
returns-then-progress-clause-packs c = λ f h is e. channels-shut (c.turns.invariant.stage f h is e) c.if-progress.true
