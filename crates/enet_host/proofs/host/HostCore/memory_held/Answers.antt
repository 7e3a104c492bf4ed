use Rattle.std.proofs.Common.{◌≡◌, length, subst, ◌∙◌}
use Rattle.enet_slot.proofs.Shown.{length-shown}
use Rattle.enet_host.specs.Host.{Host}
use Rattle.enet_host.proofs.Weighing.{host-weighs}
use Rattle.enet_host.proofs.host.HostCore.memory_held.Goals as goal

pub returns-clause-bound : goal.returns-clause-bound
returns-clause-bound c =
    host-weighs c.args.self.now c.held_in_all.result
    (subst (λ (h : Host). length h.slots ≡ h.config.peers) c.self.view_is (length-shown c.self.inside.slots.items ∙ c.self.invariant.count))
    c.held_in_all.ensures.value
    c.held_in_all.ensures.bound
