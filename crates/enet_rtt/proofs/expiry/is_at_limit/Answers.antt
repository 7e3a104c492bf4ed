-- From 32 doublings on the power is above every limit.
use Rattle.std.proofs.Common.{◌≡◌, ◌∙◌, sym, ◌-◌, ◌^◌, nat_le, ◌≤◌, true, arith}
use Rattle.std.proofs.lemmas.Bool.{le-leb}
use Rattle.std.proofs.Math.Pow.{pow_mono}
use Rattle.enet_rtt.proofs.expiry.is_at_limit.Goals as goal

pub returns-then-doublings-ge32 : goal.returns-then-doublings-ge32
returns-then-doublings-ge32 c =
    let many : 32 ≤ c.args.attempts - 1 = omega arith in
    let power : 2 ^ 32 ≤ 2 ^ (c.args.attempts - 1) = pow_mono many in
    let within : c.args.limit ≤ 2 ^ (c.args.attempts - 1) = omega arith in
    let left : nat_le 32 c.saturating_sub-doublings.result ≡ true = le-leb _ _ (omega arith) in
    left ∙ sym (le-leb _ _ within)
