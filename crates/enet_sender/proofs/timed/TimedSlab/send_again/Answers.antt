use Rattle.std.proofs.Common.{ap, refl, sym, arith}
use Rattle.enet_rtt.specs.declared.transmission.Transmission.{Transmission}
use Rattle.enet_sender.proofs.Foretelling.{keeps-sent}
use Rattle.enet_sender.proofs.Weighing.{bytes-written}
use Rattle.enet_sender.proofs.timed.TimedSlab.send_again.Goals as goal

pub invariant_of-self : goal.invariant_of-self
invariant_of-self c =
    let again = c.send_again.ensures in
    let clock = c.advance-self-inside.result in
    let last = ap (λ (t : Transmission). t.last) again in
    let now = c.ranges.now.fits in (
      keeps-sent c.self.inside.slab c.advance-self-inside.new.deadlines c.set.new.self clock c.args.now c.args.key c.moment_of-moment.result c.in-Some.sent.now
          (record { command = c.in-Some.sent.now.command; transmission = c.send_again.new.self }) c.advance-self-inside.ensures.kept (sym c.in-Some.ensures.value) c.advance-self-inside.ensures.shown
          (ap (λ (t : Transmission). t.due) again) last c.moment_of-moment.ensures.fits (omega (arith, c.moment_of-moment.ensures.is, last)) c.set.ensures,
      bytes-written c.self.inside.slab c.args.key c.self.inside.bytes c.in-Some.sent.now (record { command = c.in-Some.sent.now.command; transmission = c.send_again.new.self }) c.self.invariant.1 (sym c.in-Some.ensures.value) refl,
    )
