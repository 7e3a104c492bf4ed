use Rattle.std.proofs.Common.{inl, inr, ◌≡◌, ◌+◌, ◌-◌, ◌/◌, ◌^◌, ◌<◌, w64, ap, ◌∙◌, arith}
use Rattle.std.specs.Int.{bit_at, trailing_zeros}
use Rattle.std.proofs.lemmas.Bool.{cases_lt}
use Rattle.std.proofs.lemmas.Nat.Bits.{bit_at-zero, bit_at-trailing_zeros, bit_at_above}
use Rattle.std.proofs.Math.Nat.{div-le_self}
use Rattle.enet_senders.proofs.Sets.{bit_at-shifted}
use Rattle.enet_senders.proofs.channel_set.first_bit.Goals as goal

pub returns-then-rest-eq0-clause-none : goal.returns-then-rest-eq0-clause-none
returns-then-rest-eq0-clause-none c = λ i low high.
    bit_at-shifted c.args.word c.args.from i low ∙ ap (λ n. bit_at n (i - c.args.from)) c.if-rest-eq0.true ∙ bit_at-zero (i - c.args.from)

pub returns-clause-within : goal.returns-clause-within
returns-clause-within c =
    let rest = c.args.word / 2 ^ c.args.from in
    let some : 0 < rest = omega (arith, c.if-rest-eq0.false) in
    let first = bit_at-trailing_zeros w64 rest some (omega (arith, div-le_self c.args.word (2 ^ c.args.from), c.ranges.word.fits)) in
    let zeros = trailing_zeros w64 rest in
    let place = c.args.from + zeros in
    elim (cases_lt place 64) [
      | inl low ↦ low
      | inr past ↦
          let back : place - c.args.from ≡ zeros = omega arith in
          let one : bit_at c.args.word place ≡ 1 = bit_at-shifted c.args.word c.args.from place (omega arith) ∙ ap (λ k. bit_at rest k) back ∙ first.1 in
          let none : bit_at c.args.word place ≡ 0 = bit_at_above c.args.word 64 place (omega (arith, c.ranges.word.fits)) past in
          absurd (omega arith)
    ]

pub returns-clause-clear : goal.returns-clause-clear
returns-clause-clear c = λ i low high.
    let rest = c.args.word / 2 ^ c.args.from in
    let some : 0 < rest = omega (arith, c.if-rest-eq0.false) in
    let first = bit_at-trailing_zeros w64 rest some (omega (arith, div-le_self c.args.word (2 ^ c.args.from), c.ranges.word.fits)) in
    bit_at-shifted c.args.word c.args.from i low ∙ first.2 (i - c.args.from) (omega (arith, high))
