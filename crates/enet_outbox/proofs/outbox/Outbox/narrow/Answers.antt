use Rattle.std.proofs.Common.{◌≡◌, rules, sym, subst}
use Rattle.enet_outbox.specs.Outbox.{Sending, prices_of}
use Rattle.enet_outbox.specs.Invariant.{prices_over}
use Rattle.enet_outbox.proofs.Senders.{keeps-take}
use Rattle.enet_outbox.proofs.outbox.Outbox.narrow.Goals as goal

pub invariant_of-self : goal.invariant_of-self
invariant_of-self c =
    let none : prices_over c.self.inside.senders ≡ 0 = subst (λ (v : Sending). prices_of v.outbox ≡ 0) (sym c.self.view_is) c.requires in
    (rw c.narrow.ensures (keeps-take c.self.inside.transit c.self.inside.prices c.from.result c.self.inside.senders none c.self.invariant.0), λ idle. absurd (cc), c.self.invariant.2)

pub returns-clause-outbox : goal.returns-clause-outbox
returns-clause-outbox c = search rules
