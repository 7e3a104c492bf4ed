use Rattle.std.proofs.Common.{rules, ◌-◌, sym, arith}
use Rattle.enet_sender.proofs.Foretelling.{keeps-cleared}
use Rattle.enet_sender.proofs.Weighing.{bytes-at-least, bytes-go}
use Rattle.enet_sender.proofs.timed.TimedSlab.take.Goals as goal

pub overflow_sub-self : goal.overflow_sub-self
overflow_sub-self c =
    let least = bytes-at-least c.self.inside.slab c.args.key c.self.inside.bytes c.in_ok-sent.sent c.self.invariant.1 (sym c.in_ok-sent.ensures.value) in
    omega (arith, c.len.ensures.value)

pub invariant_of-self-then-not-sent : goal.invariant_of-self-then-not-sent
invariant_of-self-then-not-sent c =
    let gone = c.try_remove.ensures.updates.changed in
    let there = sym c.in_ok-sent.ensures.value in
    let least = bytes-at-least c.self.inside.slab c.args.key c.self.inside.bytes c.in_ok-sent.sent c.self.invariant.1 there in
    let len = c.len.ensures.value in (
      keeps-cleared c.self.inside.slab c.try_remove.new.self c.self.inside.deadlines c.clear.new.self c.self.inside.clock c.args.key c.self.invariant.0
          (c.self.invariant.0.inside c.args.key c.in_ok-sent.sent there) c.try_remove.ensures.updates.others (λ p there. absurd (cc)) c.clear.ensures,
      bytes-go c.self.inside.slab c.try_remove.new.self c.args.key c.self.inside.bytes (c.self.inside.bytes - c.len.result) c.in_ok-sent.sent c.self.invariant.1 there c.try_remove.ensures.updates (omega (arith, least, len)),
    )

pub invariant_of-self-else-not-sent : goal.invariant_of-self-else-not-sent
invariant_of-self-else-not-sent c =
    let there = sym c.in_ok-sent.ensures.value in
    let least = bytes-at-least c.self.inside.slab c.args.key c.self.inside.bytes c.in_ok-sent.sent c.self.invariant.1 there in
    let len = c.len.ensures.value in (
      search rules,
      bytes-go c.self.inside.slab c.try_remove.new.self c.args.key c.self.inside.bytes (c.self.inside.bytes - c.len.result) c.in_ok-sent.sent c.self.invariant.1 there c.try_remove.ensures.updates (omega (arith, least, len)),
    )
