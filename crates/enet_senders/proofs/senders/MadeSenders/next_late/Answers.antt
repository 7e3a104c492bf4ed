use Rattle.std.proofs.Common.{ℕ, List, ap, subst, ◌∙◌}
use Rattle.std.specs.List.{list_any}
use Rattle.enet_rtt.specs.Clock.{HappensIn}
use Rattle.enet_sender.specs.Sender.{is_late}
use Rattle.enet_sender.specs.Due.{SendingEnd}
use Rattle.enet_sender.specs.declared.outgoing.Outgoing.{Outgoing}
use Rattle.enet_senders.specs.Senders.{ends_in}
use Rattle.enet_senders.proofs.Lateness.{late-in}
use Rattle.enet_senders.proofs.senders.MadeSenders.next_late.Goals as goal

pub returns-in-Some : goal.returns-in-Some
returns-in-Some c =
    subst (λ (es : List SendingEnd). HappensIn (λ (later : ℕ). list_any (λ (s : SendingEnd). list_any (is_late later) s.sender.sent) es) c.args.now c.in-Some.wait) c.self.view_is
    (late-in c.args.now c.in-Some.wait c.self.inside.pending.slab c.self.inside.channels.items c.self.invariant.kept c.in-Some.ensures)

pub returns-in-None : goal.returns-in-None
returns-in-None c =
    subst (λ (es : List SendingEnd). HappensIn (λ (later : ℕ). list_any (λ (s : SendingEnd). list_any (is_late later) s.sender.sent) es) c.args.now c.look_for_late.result)
    (ap (λ (os : List Outgoing). ends_in c.self.inside.pending os) c.deref.ensures.value ∙ c.self.view_is) c.look_for_late.ensures
