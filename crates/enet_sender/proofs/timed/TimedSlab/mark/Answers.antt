use Rattle.std.proofs.Common.{rules, sym, ◌∙◌}
use Rattle.slab.specs.Slab.{get}
use Rattle.enet_sender.specs.Sender.{is_late}
use Rattle.enet_sender.proofs.Foretelling.{keeps-cleared, some-tested, marked-due}
use Rattle.enet_sender.proofs.Weighing.{bytes-marked}
use Rattle.enet_sender.proofs.timed.TimedSlab.mark.Goals as goal

pub invariant_of-self : goal.invariant_of-self
invariant_of-self c =
    let s = c.self.inside.slab in
    let o = get s c.args.key in
    let late = sym c.mark_under.ensures.late ∙ c.if-mark_under.true in
    let found = some-tested (is_late c.args.tick.now) o late in (
      keeps-cleared s c.mark_under.new.slab c.self.inside.deadlines c.clear.new.self c.self.inside.clock c.args.key c.self.invariant.0 (c.self.invariant.0.inside c.args.key found.0 found.1) c.mark_under.ensures.updates.others
          (λ p there. marked-due c.args.tick o p late (sym c.mark_under.ensures.updates.changed ∙ there)) c.clear.ensures,
      bytes-marked s c.mark_under.new.slab c.args.key c.self.inside.bytes c.args.tick c.self.invariant.1 c.mark_under.ensures.updates,
    )

pub invariant_of-self-else-mark_under : goal.invariant_of-self-else-mark_under
invariant_of-self-else-mark_under c =
    (search rules, bytes-marked c.self.inside.slab c.mark_under.new.slab c.args.key c.self.inside.bytes c.args.tick c.self.invariant.1 c.mark_under.ensures.updates)
