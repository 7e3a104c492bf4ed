use Rattle.std.proofs.Common.{◌≡◌, Some, None, Option, List, sym, subst, arith, ◌∙◌}
use Rattle.enet_codec.specs.declared.event.PeerRef.{PeerRef}
use Rattle.enet_slot.specs.declared.slot.Slot.{Slot}
use Rattle.enet_slot.specs.Giving.{basis_of}
use Rattle.enet_slot.specs.Slotted.{shown, all_shown}
use Rattle.enet_slot.proofs.Shown.{get-shown}
use Rattle.enet_sleepers.specs.Seating.{KeepsSeats}
use Rattle.enet_sleepers.specs.Unproved.{KeepsUnproved}
use Rattle.enet_host.specs.Foretelling.{guest_name}
use Rattle.enet_host.specs.Host.{Host}
use Rattle.enet_host.specs.Opening.{host_basis, seat}
use Rattle.enet_host.proofs.Guests.{guest-at, guest-nowhere}
use Rattle.enet_host.proofs.Holding.{keeps-waiting}
use Rattle.enet_host.proofs.host.HostCore.next_guest.Goals as goal

pub seat-requires-clause-unproved : goal.seat-requires-clause-unproved
seat-requires-clause-unproved c =
    let start = c.self.inside.start in
    subst (λ (xs : List Slot). KeepsUnproved start.clock start.config.generations c.self.inside.unproved (all_shown xs)) (sym c.deref-2.ensures.value) c.self.invariant.waiting

pub seat-requires-clause-seats : goal.seat-requires-clause-seats
seat-requires-clause-seats c = subst (λ (xs : List Slot). KeepsSeats c.self.inside.seats (all_shown xs)) (sym c.deref-2.ensures.value) c.self.invariant.seated

pub returns-in_err-place-clause-guest : goal.returns-in_err-place-clause-guest
returns-in_err-place-clause-guest c =
    let start = c.self.inside.start in
    let xs = c.self.inside.slots.items in
    let found : None ≡ seat (basis_of start) c.args.from (all_shown xs) =
    subst (λ (ys : List Slot). None ≡ seat (basis_of start) c.args.from (all_shown ys)) c.deref-2.ensures.value (sym c.in_err-place.was ∙ c.seat.ensures.seat) in
    c.from_residual.ensures
    ∙ subst (λ (h : Host). ◌≡◌ {A = Option PeerRef} None (guest_name (host_basis h) c.args.from h.slots)) c.self.view_is (guest-nowhere (basis_of start) c.args.from (all_shown xs) found)

pub returns-clause-guest : goal.returns-clause-guest
returns-clause-guest c =
    let start = c.self.inside.start in
    let xs = c.self.inside.slots.items in
    let place = c.in_ok-place.place in
    let found : Some place ≡ seat (basis_of start) c.args.from (all_shown xs) =
    subst (λ (ys : List Slot). Some place ≡ seat (basis_of start) c.args.from (all_shown ys)) c.deref-2.ensures.value (sym c.in_ok-place.was ∙ c.seat.ensures.seat) in
    subst (λ (h : Host). Some (record { slot = place; generation = c.next_generation.result }) ≡ guest_name (host_basis h) c.args.from h.slots) c.self.view_is
    (guest-at (basis_of start) c.args.from (all_shown xs) place c.next_generation.result (shown c.index.result.now) found
    (get-shown xs place c.index.result.now (let within = c.in_ok-place.ensures.within in let len = c.deref-2.ensures.len in omega (arith, within, len)) c.index.ensures) c.next_generation.ensures)

pub invariant_of-self : goal.invariant_of-self
invariant_of-self c =
    let start = c.self.inside.start in
    keeps-waiting c.self.invariant
    (subst (λ (xs : List Slot). KeepsUnproved start.clock start.config.generations c.seat.new.unproved (all_shown xs)) c.deref-2.ensures.value c.seat.ensures.kept)
