use Rattle.std.proofs.Common.{inl, inr, ◌≡◌, ◌/◌, ◌%◌, length, get_or, ap, ◌∙◌, arith}
use Rattle.std.specs.Int.{bit_at}
use Rattle.std.proofs.lemmas.Bool.{cases_eq, cases_lt}
use Rattle.std.proofs.lemmas.List.{get_or_past}
use Rattle.std.proofs.lemmas.Nat.Bits.{bit_at-zero}
use Rattle.enet_senders.proofs.Sets.{join-word}
use Rattle.enet_senders.proofs.channel_set.ChannelSet.join.Goals as goal

pub loop-place-init : goal.loop-place-init
loop-place-init c = record { kept = λ i lacks. lacks; joined = λ i low lacks. absurd (omega arith) }

pub loop-place-preserved : goal.loop-place-preserved
loop-place-preserved c =
    let words = c.loop-place.self.words in
    let m = c.loop-place.place in
    let o = get_or c.args.other.now.words m 0 in
    let long : length words ≡ 4 = search in
    record {
      kept = λ i lacks. c.loop-place.invariant.kept i (join-word words m o i (omega (arith, c.loop-place-test.true)) lacks).0;
      joined = λ i low lacks.
          let parts = join-word words m o i (omega (arith, c.loop-place-test.true)) lacks in
          elim (cases_eq (i / 64) m) [
            | inl same ↦ ap (λ k. bit_at (get_or c.args.other.now.words k 0) (i % 64)) same ∙ parts.1 same
            | inr apart ↦ c.loop-place.invariant.joined i (omega arith) parts.0
          ];
    }

pub returns : goal.returns
returns c = λ i lacks.
    let long : length c.args.other.now.words ≡ 4 = search in (
      c.loop-place.invariant.kept i lacks,
      elim (cases_lt (i / 64) 4) [
        | inl low ↦ c.loop-place.invariant.joined i (omega (arith, c.loop-place-test.false)) lacks
        | inr past ↦ ap (λ w. bit_at w (i % 64)) (get_or_past c.args.other.now.words (i / 64) 0 (omega arith)) ∙ bit_at-zero (i % 64)
      ],
    )
