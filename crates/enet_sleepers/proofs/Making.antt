-- When peers were made is noted anew, slot by slot.
use Rattle.std.proofs.Common.{◌≡◌, ℕ, ◌+◌, ◌-◌, ◌^◌, ◌<◌, ◌≤◌, inl, inr, Option, None, Some, List, length, slice_get, slice_set, get_or, refl, sym, ap, subst, ◌∙◌, arith}
use Rattle.std.proofs.lemmas.Bool.{cases_lt}
use Rattle.std.proofs.lemmas.List.{length-set}
use Rattle.std.proofs.lemmas.Option.{slice_get-get_or}
use Rattle.std.specs.Option.{option_map}
use Rattle.enet_rtt.specs.Clock.{elapsed_time}
use Rattle.enet_peer.specs.Peering.{Peering}
use Rattle.enet_slot.specs.Giving.{unused_slot}
use Rattle.enet_slot.specs.Slot.{SlotState}
use Rattle.enet_sleepers.specs.Unproved.{Waiting}
use Rattle.enet_sleepers.specs.Private.Unproved.{AreNoted, moment_made}
use Rattle.enet_sleepers.proofs.Anew.{one-noted}

-- when a peer was made, if there is one
abbrev pub made_in : Option Peering → Option ℕ
made_in o = option_map (λ (p : Peering). p.made) o

moment-of : (clock now : ℕ) (made : Option ℕ) (o : Option Peering) → made ≡ made_in o → moment_made clock now o ≡ option_map (λ (m : ℕ). clock - elapsed_time now m) made
moment-of clock now made None e = sym (ap (λ (x : Option ℕ). option_map (λ (m : ℕ). clock - elapsed_time now m) x) e)
moment-of clock now made (Some p) e = sym (ap (λ (x : Option ℕ). option_map (λ (m : ℕ). clock - elapsed_time now m) x) e)

pub moment-there : (clock now n : ℕ) (made : Option ℕ) (slots : List SlotState) (t s : SlotState) → slice_get slots n ≡ Some t → slice_get slots n ≡ Some s → made ≡ made_in t.peer
    → moment_made clock now s.peer ≡ option_map (λ (m : ℕ). clock - elapsed_time now m) made
moment-there clock now n made slots t s here there e =
    let same : t ≡ s = (let x : ◌≡◌ {A = Option SlotState} (Some t) (Some s) = sym here ∙ there in cc) in
    moment-of clock now made s.peer (e ∙ ap (λ (u : SlotState). made_in u.peer) same)

pub set-as : (v : Waiting) (n : ℕ) (x y : Option ℕ) (since : List (Option ℕ)) → since ≡ slice_set v.since n x → y ≡ x → record v { since = since } ≡ record v { since = slice_set v.since n y }
set-as v n x y since e same = ap (λ (l : List (Option ℕ)). record v { since = l }) (e ∙ ap (λ (o : Option ℕ). slice_set v.since n o) (sym same))

low-of : (made : ℕ) (o : Option Peering) (p : Peering) → made < 2 ^ 32 → Some made ≡ made_in o → o ≡ Some p → p.made < 2 ^ 32
low-of made o p low e held =
    let same : ◌≡◌ {A = Option ℕ} (Some made) (Some p.made) = e ∙ ap made_in held in
    subst (λ (m : ℕ). m < 2 ^ 32) (let x : made ≡ p.made = cc in x) low

pub low-there : (n made : ℕ) (slots : List SlotState) (t s : SlotState) (p : Peering) → slice_get slots n ≡ Some t → slice_get slots n ≡ Some s → made < 2 ^ 32 → Some made ≡ made_in t.peer → s.peer ≡ Some p → p.made < 2 ^ 32
low-there n made slots t s p here there low e held =
    let same : t ≡ s = (let x : ◌≡◌ {A = Option SlotState} (Some t) (Some s) = sym here ∙ there in cc) in
    low-of made s.peer p low (e ∙ ap (λ (u : SlotState). made_in u.peer) same) held

pub none-there : {X : Type 0} (n : ℕ) (slots : List SlotState) (t s : SlotState) (p : Peering) → slice_get slots n ≡ Some t → slice_get slots n ≡ Some s → None ≡ made_in t.peer → s.peer ≡ Some p → X
none-there {X} n slots t s p here there e held =
    let same : t ≡ s = (let x : ◌≡◌ {A = Option SlotState} (Some t) (Some s) = sym here ∙ there in cc) in
    let no : ◌≡◌ {A = Option ℕ} None (Some p.made) = e ∙ ap (λ (u : SlotState). made_in u.peer) same ∙ ap made_in held in
    absurd (cc)

-- what a loop keeps that notes one slot after another
pub record NotedSo (now n : ℕ) (v w : Waiting) (slots : List SlotState) : Type 0 where
  pub count : length w.since ≡ length v.since
  pub clock : w.clock ≡ v.clock
  pub noted : AreNoted w.clock now w.since slots (n + 1)
  pub low : (i : ℕ) (s : SlotState) (p : Peering) → i < n + 1 → slice_get slots i ≡ Some s → s.peer ≡ Some p → p.made < 2 ^ 32

pub noted-more : (now n : ℕ) (v w : Waiting) (slots : List SlotState) → n < length slots → n < length v.since
    → ((s : SlotState) → slice_get slots n ≡ Some s → w ≡ record v { since = slice_set v.since n (moment_made v.clock now s.peer) })
    → ((s : SlotState) (p : Peering) → slice_get slots n ≡ Some s → s.peer ≡ Some p → p.made < 2 ^ 32)
    → AreNoted v.clock now v.since slots n → ((i : ℕ) (s : SlotState) (p : Peering) → i < n → slice_get slots i ≡ Some s → s.peer ≡ Some p → p.made < 2 ^ 32) → NotedSo now n v w slots
noted-more now n v w slots inside within anew low noted lows = subst (λ (x : Waiting). NotedSo now n v x slots) (sym (anew t there)) (record {
  count = length-set v.since n (moment_made v.clock now t.peer);
  clock = refl;
  noted = one-noted v.clock now v.since slots n t within there noted;
  low = λ i s p below at held. elim (cases_lt i n) [ inl less ↦ lows i s p less at held | inr past ↦ here i s p below past at held ];
})
  where
    t : SlotState
    t = get_or slots n unused_slot

    there : slice_get slots n ≡ Some t
    there = slice_get-get_or slots n unused_slot inside

    here : (i : ℕ) (s : SlotState) (p : Peering) → i < n + 1 → n ≤ i → slice_get slots i ≡ Some s → s.peer ≡ Some p → p.made < 2 ^ 32
    here i s p below past at held =
        let same : i ≡ n = omega (arith, below, past) in
        low s p (subst (λ (j : ℕ). slice_get slots j ≡ Some s) same at) held
