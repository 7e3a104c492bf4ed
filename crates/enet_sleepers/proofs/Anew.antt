-- What is noted anew, or for longer.
use Rattle.std.proofs.Common.{◌≡◌, ℕ, zero, suc, ◌+◌, ◌-◌, ◌%◌, ◌^◌, ◌<◌, ◌≤◌, Option, Some, None, List, length, slice_get, slice_set, get_or, refl, sym, ap, subst, ◌∙◌, inl, inr, Bool, true, false, arith}
use Rattle.std.proofs.lemmas.Bool.{cases_eq}
use Rattle.enet_rtt.specs.Clock.{elapsed_time}
use Rattle.enet_deadlines.specs.Moments.{IsAt}
use Rattle.enet_peer.specs.Peering.{Peering}
use Rattle.enet_slot.specs.Slot.{SlotState}
use Rattle.enet_slot.specs.Yielding.{yields}
use Rattle.std.proofs.lemmas.Option.{slice_get_within}
use Rattle.enet_sleepers.specs.Unproved.{IsNoted, KeepsUnproved, Waiting, YieldNowhere}
use Rattle.enet_sleepers.specs.Private.Unproved.{AreNoted, IsNear, moment_made}
use Rattle.enet_sleepers.proofs.Waited.{moments-other, moments-same}

-- none of the slots yields
pub fresh-kept : (now generations peers : ℕ) (v : Waiting) (slots : List SlotState) → length v.since ≡ peers → v.clock % 2 ^ 32 ≡ now → length slots ≡ peers → YieldNowhere generations slots → KeepsUnproved now generations v slots
fresh-kept now generations peers v slots size shown count nowhere = record {
  count = size ∙ sym count;
  shown = shown;
  noted = λ i s p there held is. absurd (let x : false ≡ true = sym (nowhere i s there) ∙ is in cc);
}

-- the clock goes on
pub later-kept : (was now clock generations : ℕ) (v : Waiting) (slots : List SlotState) → clock % 2 ^ 32 ≡ now → v.clock ≤ clock → IsNear clock v.since → KeepsUnproved was generations v slots
    → KeepsUnproved now generations (record v { clock = clock }) slots
later-kept was now clock generations v slots shown later near k = record {
  count = k.count;
  shown = shown;
  noted = λ i s p there held is.
      let n = k.noted i s p there held is in
      let past : n.moment ≤ v.clock = n.past in
      record { moment = n.moment; at = n.at; shown = n.shown; past = omega (arith, past, later); near = near.all i n.moment n.at };
}

-- the clock that is shown less what passed since is when it was
made-shown : (clock now made : ℕ) → clock % 2 ^ 32 ≡ now → 2 ^ 32 ≤ clock → made < 2 ^ 32 → (clock - elapsed_time now made) % 2 ^ 32 ≡ made
made-shown clock now made shown late low = omega arith

made-past : (clock now made : ℕ) → 2 ^ 32 ≤ clock → (clock - elapsed_time now made ≤ clock) × (clock < clock - elapsed_time now made + 2 ^ 32)
made-past clock now made late = (omega arith, omega arith)

-- all slots are noted anew
pub anew-kept : (now generations : ℕ) (v : Waiting) (slots : List SlotState) → length v.since ≡ length slots → v.clock % 2 ^ 32 ≡ now → 2 ^ 32 ≤ v.clock → AreNoted v.clock now v.since slots (length slots)
    → ((i : ℕ) (s : SlotState) (p : Peering) → slice_get slots i ≡ Some s → s.peer ≡ Some p → p.made < 2 ^ 32) → KeepsUnproved now generations v slots
anew-kept now generations v slots count shown late noted low = record {
  count = count;
  shown = shown;
  noted = λ i s p there held is.
      let within : i < length slots = slice_get_within slots i s there in
      let m : ℕ = v.clock - elapsed_time now p.made in
      record {
        moment = m;
        at = noted i s within there ∙ ap (moment_made v.clock now) held;
        shown = made-shown v.clock now p.made shown late (low i s p there held);
        past = (made-past v.clock now p.made late).0;
        near = (made-past v.clock now p.made late).1;
      };
}

pub none-noted : (clock now : ℕ) (since : List (Option ℕ)) (slots : List SlotState) → AreNoted clock now since slots 0
none-noted clock now since slots = λ i s low there. absurd (omega (arith, low))

pub one-noted : (clock now : ℕ) (since : List (Option ℕ)) (slots : List SlotState) (n : ℕ) (t : SlotState) → n < length since → slice_get slots n ≡ Some t → AreNoted clock now since slots n
    → AreNoted clock now (slice_set since n (moment_made clock now t.peer)) slots (n + 1)
one-noted clock now since slots n t within here old = λ i s low there. elim (cases_eq n i) [
  | inl same ↦
      let is : t ≡ s = (let x : ◌≡◌ {A = Option SlotState} (Some t) (Some s) = sym here ∙ ap (λ (j : ℕ). slice_get slots j) same ∙ there in cc) in
      subst (λ (j : ℕ). get_or (slice_set since n (moment_made clock now t.peer)) j None ≡ moment_made clock now s.peer) same
      (moments-same since n (moment_made clock now t.peer) within ∙ ap (λ (u : SlotState). moment_made clock now u.peer) is)
  | inr other ↦ moments-other since n i (moment_made clock now t.peer) other ∙ old i s (omega (arith, low, other)) there
]
