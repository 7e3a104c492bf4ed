-- Peers that are parted from one after another.
use Rattle.std.proofs.Common.{◌≡◌, ◌≢◌, ℕ, zero, suc, ◌+◌, ◌≤◌, List, [], ◌∷◌, ◌++◌, length, Option, Some, None, slice_get, slice_set, refl, sym, ap, subst, ◌∙◌, append-nil, arith}
use Rattle.std.proofs.lemmas.List.{length-append, length-set}
use Rattle.enet_codec.specs.declared.event.DisconnectMode.{DisconnectMode}
use Rattle.enet_codec.specs.declared.event.PeerRef.{PeerRef}
use Rattle.enet_codec.specs.declared.refusal.Refusal.{Refusal}
use Rattle.enet_submit.specs.declared.order.Order.TheVariants.{Disconnect}
use Rattle.enet_slot.specs.Calls.{leaving}
use Rattle.enet_peer.specs.Peering.{Peering}
use Rattle.enet_slot.specs.Slot.{SlotState, name_of, with_peer}
use Rattle.enet_host.specs.Host.{Host, name_if, name_held, name_in, names_below, one_name}
use Rattle.enet_host.proofs.Holding.{does-over}
use Rattle.enet_turn.specs.Hosting.{AppliesOrder}
use Rattle.enet_service.specs.ServiceRuns.{PartsFrom}
use Rattle.enet_turn.proofs.PhaseSteps.{chain_step}

get-set-other : (xs : List SlotState) (i j : ℕ) (y : SlotState) → i ≢ j → slice_get (slice_set xs i y) j ≡ slice_get xs j
get-set-other [] i j y n = refl
get-set-other (x ∷ xs) zero zero y n = absurd (n refl)
get-set-other (x ∷ xs) zero (suc j) y n = refl
get-set-other (x ∷ xs) (suc i) zero y n = refl
get-set-other (x ∷ xs) (suc i) (suc j) y n = get-set-other xs i j y (λ e. n (ap (λ (k : ℕ). suc k) e))

-- from this slot on all are as they were
pub record Untouched (i : ℕ) (old new : List SlotState) : Type 0 where
  pub count : length new ≡ length old
  pub later : (j : ℕ) → i ≤ j → slice_get new j ≡ slice_get old j

pub passed-by : (i : ℕ) (old new : List SlotState) → Untouched i old new → Untouched (i + 1) old new
passed-by i old new u = record {
  count = u.count;
  later = λ j past. u.later j (omega (arith, past));
}

-- the peer in slot i is told that its connection ends
pub parted-by : (i : ℕ) (old : List SlotState) (h g : Host) (peer : PeerRef) (how : DisconnectMode) (why : Option Refusal) → Untouched i old h.slots → peer.slot ≡ i
    → AppliesOrder h (Disconnect peer how 0) why g → Untouched (i + 1) old g.slots
parted-by i old h g peer how why u at asked =
    does-over (Untouched (i + 1) old) h.slots g.slots peer (leaving how 0) asked.0 (passed-by i old h.slots u)
    (λ s q. record {
      count = length-set h.slots peer.slot (with_peer s q) ∙ u.count;
      later = λ j past. get-set-other h.slots peer.slot j (with_peer s q) (λ same. absurd (omega (arith, past, at, same))) ∙ u.later j (omega (arith, past));
    })
    asked.1

-- a name has the number of its slot
named-if : (i : ℕ) (s : SlotState) (p : Option Peering) (peer : PeerRef) → name_if i s p ≡ Some peer → peer.slot ≡ i
named-if i s None peer e = absurd (cc)
named-if i s (Some p) peer e = let same : name_of i s ≡ peer = cc in ap (λ (n : PeerRef). n.slot) (sym same)

named-held : (i : ℕ) (o : Option SlotState) (peer : PeerRef) → name_held i o ≡ Some peer → peer.slot ≡ i
named-held i None peer e = absurd (cc)
named-held i (Some s) peer e = named-if i s s.peer peer e

same-name : (i : ℕ) (old new : List SlotState) → Untouched i old new → name_in old i ≡ name_in new i
same-name i old new u = ap (name_held i) (sym (u.later i (omega arith)))

-- the peers of the first slots were parted from, and no other slot was touched
abbrev pub PartedBelow : DisconnectMode → Host → ℕ → ℕ → Host → Type 0
PartedBelow how old i parted new =
    (parted ≡ length (names_below old.slots i)) × (parted ≤ i) × PartsFrom how old (names_below old.slots i) new × Untouched i old.slots new.slots

more-names : (slots : List SlotState) (i : ℕ) (name : Option PeerRef) → name_in slots i ≡ name → names_below slots (i + 1) ≡ names_below slots i ++ one_name name
more-names slots i name e =
    let next : i + 1 ≡ suc i = omega arith in
    ap (names_below slots) next ∙ ap (λ (n : Option PeerRef). names_below slots i ++ one_name n) e

pub one-parted : (how : DisconnectMode) (old h g : Host) (i parted : ℕ) (peer : PeerRef) (why : Option Refusal) → PartedBelow how old i parted h → name_in h.slots i ≡ Some peer
    → AppliesOrder h (Disconnect peer how 0) why g → PartedBelow how old (i + 1) (parted + 1) g
one-parted how old h g i parted peer why b here asked =
    let names = more-names old.slots i (Some peer) (same-name i old.slots h.slots b.3 ∙ here) in (
      omega (arith, b.0, ap length names, length-append (names_below old.slots i) (peer ∷ [])),
      omega (arith, b.1),
      subst (λ (ps : List PeerRef). PartsFrom how old ps g) (sym names)
          (chain_step (λ (s : Host) (p : PeerRef) (t : Host). (w : Option Refusal) × AppliesOrder s (Disconnect p how 0) w t) old (names_below old.slots i) h peer g b.2 (why, asked)),
      parted-by i old.slots h g peer how why b.3 (named-held i (slice_get h.slots i) peer here) asked,
    )

pub none-parted : (how : DisconnectMode) (old h : Host) (i parted : ℕ) → PartedBelow how old i parted h → name_in h.slots i ≡ None → PartedBelow how old (i + 1) parted h
none-parted how old h i parted b here =
    let names = more-names old.slots i None (same-name i old.slots h.slots b.3 ∙ here) ∙ append-nil (names_below old.slots i) in
    (b.0 ∙ ap length (sym names), omega (arith, b.1), subst (λ (ps : List PeerRef). PartsFrom how old ps h) (sym names) b.2, passed-by i old.slots h.slots b.3)
