use Rattle.std.proofs.Common.{ap, ◌+◌, refl, sym, ◌∙◌, arith}
use Rattle.enet_rtt.specs.declared.transmission.Transmission.{Transmission}
use Rattle.enet_sender.proofs.Foretelling.{keeps-sent}
use Rattle.enet_sender.proofs.Weighing.{bytes-written}
use Rattle.enet_sender.proofs.timed.TimedSlab.begin.Goals as goal

pub invariant_of-self : goal.invariant_of-self
invariant_of-self c =
    let begun = c.begin-sent.ensures in
    let clock = c.advance-self-inside.result in
    let timeout = ap (λ (t : Transmission). t.timeout) begun in (
      keeps-sent c.self.inside.slab c.advance-self-inside.new.deadlines c.set.new.self clock c.args.now c.args.key (clock + c.from.result) c.in-Some.sent.now
          (record { command = c.in-Some.sent.now.command; transmission = c.begin-sent.result }) c.advance-self-inside.ensures.kept (sym c.in-Some.ensures.value) c.advance-self-inside.ensures.shown
          (ap (λ (t : Transmission). t.due) begun) (ap (λ (t : Transmission). t.last) begun) (omega (arith, timeout, c.ranges.timeout.fits)) (ap (λ n. clock + n) (c.from.ensures ∙ sym timeout)) c.set.ensures,
      bytes-written c.self.inside.slab c.args.key c.self.inside.bytes c.in-Some.sent.now (record { command = c.in-Some.sent.now.command; transmission = c.begin-sent.result }) c.self.invariant.1 (sym c.in-Some.ensures.value) refl,
    )
