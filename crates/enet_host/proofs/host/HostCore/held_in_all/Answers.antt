use Rattle.std.proofs.Common.{◌≡◌, ℕ, ◌≤◌, length, List, arith, subst, sym}
use Rattle.enet_codec.specs.declared.config.Config.{Config}
use Rattle.enet_peer.specs.Held.{most_of, IsWithin}
use Rattle.enet_slot.specs.declared.slot.Slot.{Slot}
use Rattle.enet_slot.specs.Slotted.{all_shown}
use Rattle.enet_host.specs.Host.{Host}
use Rattle.enet_host.specs.Held.{AreLimited, held_by, most_held, times}
use Rattle.enet_host.proofs.host.HostCore.held_in_all.Goals as goal

pub held_by-requires : goal.held_by-requires
held_by-requires c =
    let count = c.self.invariant.count in
    let many = c.self.invariant.many in
    subst (λ (xs : List Slot). length xs ≤ 4095) (sym c.deref.ensures.value) (omega (arith, count, many))

pub returns-clause-value : goal.returns-clause-value
returns-clause-value c =
    subst (λ (h : Host). c.held_by.result ≡ held_by h.slots) c.self.view_is
    (subst (λ (xs : List Slot). c.held_by.result ≡ held_by (all_shown xs)) c.deref.ensures.value c.held_by.ensures.value)

pub returns-clause-bound : goal.returns-clause-bound
returns-clause-bound c =
    let config : Config = c.self.inside.start.config in
    let within : AreLimited config.max_packet config.max_waiting (all_shown c.self.inside.slots.items) → IsWithin c.held_by.result (times (length c.self.inside.slots.items) (most_of config.max_packet config.max_waiting)) =
    subst (λ (xs : List Slot). AreLimited config.max_packet config.max_waiting (all_shown xs) → IsWithin c.held_by.result (times (length xs) (most_of config.max_packet config.max_waiting))) c.deref.ensures.value
    (c.held_by.ensures.bound config.max_packet config.max_waiting) in
    subst (λ (h : Host). IsWithin c.held_by.result (most_held h.config)) c.self.view_is
    (subst (λ (n : ℕ). IsWithin c.held_by.result (times n (most_of config.max_packet config.max_waiting))) c.self.invariant.count (within c.self.invariant.limited))
