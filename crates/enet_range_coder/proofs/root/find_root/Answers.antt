use Rattle.std.proofs.Common.{get_or, ap, ℕ, Some, max, ◌≡◌, ◌+◌, ◌<◌, length, take, arith}
use Rattle.enet_range_coder.specs.Context.{weigh}
use Rattle.enet_range_coder.specs.Memory.{all_from}
use Rattle.enet_range_coder.proofs.Sharing.{find_all}
use Rattle.enet_range_coder.proofs.root.find_root.Goals as goal

pub returns : goal.returns
returns c =
    let l : c.args.byte < length c.args.weights.now = omega arith in
    let f = find_all c.args.weights.now 0 c.args.byte 0 l in
    let z : 0 + c.args.byte ≡ c.args.byte = omega arith in
    let y : 0 + weigh (all_from 0 (take c.args.byte c.args.weights.now)) ≡ weigh (all_from 0 (take c.args.byte c.args.weights.now)) = omega arith in
    let one : get_or c.args.weights.now c.args.byte 0 + 1 ≡ max (get_or c.args.weights.now c.args.byte 0 + 1) 1 = omega arith in
    let g = rw (z, y) at f in
    rw g (rw c.weigh_all.ensures.weight (ap (λ (n : ℕ). Some (weigh (all_from 0 (take c.args.byte c.args.weights.now)), n)) one))
