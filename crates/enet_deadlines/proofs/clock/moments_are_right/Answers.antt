use Rattle.std.proofs.Common.{◌≡◌, ℕ, ◌+◌, ◌%◌, ◌^◌, ◌<◌, ap, ◌∙◌, arith}
use Rattle.enet_rtt.specs.Clock.{elapsed_time}
use Rattle.enet_deadlines.proofs.clock.moments_are_right.Goals as goal

later-is : (now later : ℕ) → later < 2 ^ 32 → later ≡ (now + elapsed_time later (now % 2 ^ 32)) % 2 ^ 32
later-is now later fits = omega arith

pub returns-clause-told : goal.returns-clause-told
returns-clause-told c = λ happens since moment now h known begun ahead. record {
  before = λ later fits less.
      let t = now + elapsed_time later (now % 2 ^ 32) in
      ap happens (later-is now later fits) ∙ h.before t (omega arith) (omega arith);
  first = λ short later fits is.
      let e : later ≡ moment % 2 ^ 32 = later-is now later fits ∙ ap (λ k. k % 2 ^ 32) (omega arith) in
      ap happens e ∙ h.first known;
}
