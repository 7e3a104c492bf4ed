use Rattle.std.proofs.Common.{◌≡◌, ℕ, ◌-◌, min, leb, List, sym, ap, subst, ◌∙◌, arith}
use Rattle.std.specs.List.{list_any}
use Rattle.enet_rtt.specs.Clock.{elapsed_time, HappensIn}
use Rattle.enet_rtt.proofs.Waits.{either-in, passes-in}
use Rattle.enet_slot.specs.declared.slot.Slot.{Slot}
use Rattle.enet_sleepers.specs.Soon.{is_due_soon}
use Rattle.enet_slot.specs.Slotted.{all_shown}
use Rattle.enet_host.specs.Host.{Host}
use Rattle.enet_host.specs.Ticking.{brings, IsDueIn}
use Rattle.enet_host.specs.contracts.host.HostCore.{the_view}
use Rattle.enet_host.proofs.Bringing.{due-in, soon-all}
use Rattle.enet_host.proofs.host.HostCore.due_in.Goals as goal

pub returns : goal.returns
returns c =
    let s = c.self.inside in
    let clock = s.start.clock in
    let shared : c.saturating_sub.result ≡ 1000 - elapsed_time clock s.shared_at = c.saturating_sub.ensures ∙ ap (λ (n : ℕ). 1000 - n) c.elapsed.ensures in
    let slots : HappensIn (λ (later : ℕ). list_any (is_due_soon clock later) (all_shown s.slots.items)) clock c.due_in-peers.result =
    subst (λ (xs : List Slot). HappensIn (λ (later : ℕ). list_any (is_due_soon clock later) (all_shown xs)) clock c.due_in-peers.result) c.deref.ensures.value c.due_in-peers.ensures in
    let sharing : HappensIn (λ (later : ℕ). leb 1000 (elapsed_time later s.shared_at)) clock c.saturating_sub.result =
    subst (λ (n : ℕ). HappensIn (λ (later : ℕ). leb 1000 (elapsed_time later s.shared_at)) clock n) (sym shared) (passes-in clock s.shared_at 1000 (omega arith) (omega arith) (omega arith)) in
    let happens : HappensIn (brings (the_view s)) clock c.min.result =
    subst (λ (n : ℕ). HappensIn (brings (the_view s)) clock n) (sym c.min.ensures)
    (soon-all (all_shown s.slots.items) (λ (later : ℕ). leb 1000 (elapsed_time later s.shared_at)) clock (min c.due_in-peers.result c.saturating_sub.result) (omega (arith, shared))
    (either-in (λ (later : ℕ). list_any (is_due_soon clock later) (all_shown s.slots.items)) (λ (later : ℕ). leb 1000 (elapsed_time later s.shared_at)) clock c.due_in-peers.result c.saturating_sub.result slots sharing)) in
    subst (λ (h : Host). IsDueIn h c.min.result) c.self.view_is
    (due-in (the_view s) c.min.result (omega arith) c.self.invariant.held happens (omega (arith, c.min.ensures, shared)))
