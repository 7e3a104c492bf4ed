use Rattle.std.proofs.Common.{ℕ, Bool, false, not, ◌&&◌, leb, ap, sym, subst, ◌∙◌, ◌-◌, arith}
use Rattle.enet_rtt.specs.Clock.{elapsed_time, HappensIn}
use Rattle.enet_rtt.proofs.Waits.{never, passes-in, same-in}
use Rattle.enet_rtt.proofs.transmission.Transmission.next_late.Goals as goal

pub returns-then-self : goal.returns-then-self
returns-then-self c =
    let t = c.args.self.now in
    same-in (λ (later : ℕ). false) (λ (later : ℕ). not t.due && leb t.timeout (elapsed_time later t.last)) c.args.now 4294967295
    (λ later. ap (λ (b : Bool). not b && leb t.timeout (elapsed_time later t.last)) (sym c.if-self.true)) (never c.args.now)

pub returns : goal.returns
returns c =
    let t = c.args.self.now in
    same-in (λ (later : ℕ). leb t.timeout (elapsed_time later t.last)) (λ (later : ℕ). not t.due && leb t.timeout (elapsed_time later t.last)) c.args.now (c.saturating_sub.result)
    (λ later. ap (λ (b : Bool). not b && leb t.timeout (elapsed_time later t.last)) (sym c.if-self.false))
    (subst (λ (n : ℕ). HappensIn (λ (later : ℕ). leb t.timeout (elapsed_time later t.last)) c.args.now n) (sym (c.saturating_sub.ensures ∙ ap (λ (n : ℕ). t.timeout - n) c.elapsed.ensures)) (passes-in c.args.now t.last t.timeout (omega arith) (omega arith) (omega arith)))
