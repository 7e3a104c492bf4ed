use Rattle.std.proofs.Common.{◌<◌, ◌^◌, length, arith}
use Rattle.enet_inbox.proofs.Keeping.{bytes_bounded}
use Rattle.enet_inbox.proofs.taking.hand_over.Goals as goal

pub overflow_add-bytes : goal.overflow_add-bytes
overflow_add-bytes c =
    let l = c.loop-packet in
    let few : length l.untaken.items < 2 ^ 63 = omega (arith, l.untaken.ok.0, l.untaken.small.0, l.untaken.small.1) in
    let most = bytes_bounded l.untaken.items l.invariant.short few in
    let sum = l.invariant.bytes in
    let one = c.len.ensures.bound in
    omega arith
