-- How many sends were acknowledged.
use Rattle.std.proofs.Common.{◌≡◌, ◌≤◌, ◌+◌, ◌∙◌, ℕ, List, Option, Some, None, sym, ap, arith, subst, add-one}
use Rattle.enet_captured.specs.declared.timeline.Way.{Way}
use Rattle.enet_captured.specs.declared.timeline.Mark.{Mark}
use Rattle.enet_captured.specs.declared.delays.Delays.{Delays}
use Rattle.enet_captured.specs.Delays.{delay_to, delays_to, with_delay}

one_more : (d : Delays) (delay : Option ℕ) (n : ℕ) → d.count ≤ n → (with_delay d delay).count ≤ n + 1
one_more d None n h = omega (arith, h)
one_more d (Some took) n h = omega (arith, h)

-- no more than there are commands, and each command may be one more
pub delays_more : (marks : List Mark) (way : Way) (n : ℕ) (d new : Delays) → d ≡ delays_to marks way n → new ≡ with_delay d (delay_to marks way n)
    → new ≡ delays_to marks way (n + 1)
delays_more marks way n d new was is =
    is ∙ ap (λ (x : Delays). with_delay x (delay_to marks way n)) was ∙ ap (delays_to marks way) (sym (add-one n))

pub count_more : (d new : Delays) (delay : Option ℕ) (n : ℕ) → d.count ≤ n → new ≡ with_delay d delay → new.count ≤ n + 1
count_more d new delay n h is = subst (λ (x : Delays). x.count ≤ n + 1) (sym is) (one_more d delay n h)
