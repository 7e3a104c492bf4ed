-- The first slot in turn gave its event, or its datagram.
use Rattle.std.proofs.Common.{◌≡◌, ℕ, Some, List, length, slice_get, ap, ap₂, subst, ◌∙◌}
use Rattle.enet_codec.specs.declared.address.Addr.{Addr}
use Rattle.enet_codec.specs.declared.event.Event.{Event}
use Rattle.enet_codec.specs.declared.event.PeerRef.{PeerRef}
use Rattle.enet_slot.specs.Slot.{SlotState}
use Rattle.enet_host.specs.Host.{Host}
use Rattle.enet_host.specs.Turns.{IsFirst, slot_after}
use Rattle.enet_slot.specs.Calls.{tells, GivesEvent}
use Rattle.enet_host.specs.Calls.{TakesOne}
use Rattle.enet_host.specs.declared.credits.Credit.{Credit}
use Rattle.enet_host.specs.declared.totals.Totals.{Totals}
use Rattle.enet_host.specs.Crediting.{with_went}
use Rattle.enet_host.specs.Serving.{served_of, EmitsInTurn, Serves, with_datagram_out}
use Rattle.enet_host.specs.Private.Shown.{SlotGivesEvent}
use Rattle.enet_sleepers.proofs.Keeping.{some-same}

-- `v` is what was seen of the host before
pub takes-at : (v old : Host) (after : List SlotState) (i n : ℕ) (event : Event) → v ≡ old → IsFirst tells v.slots v.event_from i → SlotGivesEvent v.slots i event after
    → n ≡ slot_after (length v.slots) i → TakesOne old event (record v { slots = after; event_from = n })
takes-at v old after i n event same first g next =
    let is : g.slot ≡ first.slot = some-same (slice_get v.slots i) g.slot first.slot g.there first.there in
    subst (λ (h : Host). TakesOne h event (record v { slots = after; event_from = n })) same
    (record {
      from = i;
      first = first;
      after = g.left;
      gives = subst (λ (s : SlotState). GivesEvent i event s g.left) is g.gives;
      rest = ap₂ (λ (ss : List SlotState) (m : ℕ). record v { slots = ss; event_from = m }) g.after next;
    })

pub serves-at : (v old : Host) (after : List SlotState) (n : ℕ) (t : Totals) (ks : List Credit) (gave : PeerRef × Addr × ℕ) (buf : List ℕ) → v ≡ old
    → EmitsInTurn v.clock v.service_from v.slots (served_of gave buf) after → n ≡ slot_after (length v.slots) gave.0.slot → t ≡ with_datagram_out v.totals gave.2
    → ks ≡ with_went v.credits gave.0.slot gave.2 → Serves old (Some gave) buf (record v { slots = after; service_from = n; totals = t; credits = ks })
serves-at v old after n t ks gave buf same gives next counted went =
    subst (λ (h : Host). Serves h (Some gave) buf (record v { slots = after; service_from = n; totals = t; credits = ks })) same (
      gives,
      ap₂ (λ (m : ℕ) (u : Totals). record v { slots = after; service_from = m; totals = u; credits = ks }) next counted
          ∙ ap (λ (xs : List Credit). record v { slots = after; service_from = slot_after (length v.slots) gave.0.slot; totals = with_datagram_out v.totals gave.2; credits = xs }) went,
    )
