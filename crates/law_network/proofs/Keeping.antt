-- What is kept of each channel after one of them changes.
use Rattle.std.proofs.Common.{◌≡◌, ◌≢◌, ℕ, zero, suc, ◌<◌, ◌==◌, true, false, cond, List, [], ◌∷◌, ◌++◌, length, slice_set, refl, sym, ap, subst, ◌∙◌, inl, inr, ◌⊎◌, arith, append-nil}
use Rattle.std.proofs.lemmas.Bool.Decides.{nat_tests}
use Rattle.std.proofs.lemmas.List.{length-set}
use Rattle.std.proofs.lemmas.List.Elements.{filter-append}
use Rattle.enet_codec.specs.declared.packet.Packet.{Packet}
use Rattle.law_network.specs.Log.{ChannelPackets, packets_at, with_packets}
use Rattle.law_network.specs.Shown.{on_channel}

pub kept-there : (xs : List ChannelPackets) (i : ℕ) (y : ChannelPackets) → i < length xs → packets_at (slice_set xs i y) i ≡ y
kept-there [] i y h = absurd (omega arith)
kept-there (x ∷ xs) zero y h = refl
kept-there (x ∷ xs) (suc i) y h = kept-there xs i y (omega arith)

pub kept-other : (xs : List ChannelPackets) (i j : ℕ) (y : ChannelPackets) → i ≢ j → packets_at (slice_set xs i y) j ≡ packets_at xs j
kept-other [] i j y n = refl
kept-other (x ∷ xs) zero zero y n = absurd (n refl)
kept-other (x ∷ xs) zero (suc j) y n = refl
kept-other (x ∷ xs) (suc i) zero y n = refl
kept-other (x ∷ xs) (suc i) (suc j) y n = kept-other xs i j y (λ e. n (ap suc e))

pub equal-or-not : (i j : ℕ) → (i ≡ j) ⊎ (i ≢ j)
equal-or-not i j = elim (i == j) as (λ b. (i == j) ≡ b → (i ≡ j) ⊎ (i ≢ j)) [ true ↦ λ e. inl (let h : i ≡ j = grind (arith, nat_tests) in h) | false ↦ λ e. inr (λ h. grind (arith, nat_tests)) ] refl

-- a change that leaves a part of each channel as it was
pub part-stays : {A : Type 0} (part : ChannelPackets → A) (change : ChannelPackets → ChannelPackets) → ((k : ChannelPackets) → part (change k) ≡ part k) → (xs : List ChannelPackets) (i j : ℕ) → length xs ≡ 256 → j < 256
    → part (packets_at (with_packets xs i change) j) ≡ part (packets_at xs j)
part-stays part change same xs i j long low = elim (equal-or-not i j) [
  | inl e ↦ subst (λ (n : ℕ). part (packets_at (with_packets xs i change) n) ≡ part (packets_at xs n)) e (ap part (kept-there xs i (change (packets_at xs i)) (omega arith)) ∙ same (packets_at xs i))
  | inr n ↦ ap part (kept-other xs i j (change (packets_at xs i)) n)
]

on-append : (channel : ℕ) (xs ys : List Packet) → on_channel channel (xs ++ ys) ≡ on_channel channel xs ++ on_channel channel ys
on-append channel xs ys = filter-append (λ (q : Packet). q.channel == channel) xs ys

on-one : (q : Packet) → on_channel q.channel (q ∷ []) ≡ q ∷ []
on-one q = (let t : (q.channel == q.channel) ≡ true = grind (arith, nat_tests) in ap (λ b. cond b (q ∷ []) []) t)

on-none : (q : Packet) (channel : ℕ) → q.channel ≢ channel → on_channel channel (q ∷ []) ≡ []
on-none q channel n = (let t : (q.channel == channel) ≡ false = grind (arith, nat_tests) in ap (λ b. cond b (q ∷ []) []) t)

-- a change that adds a packet to a part of its channel
pub part-grows : (part : ChannelPackets → List Packet) (change : ChannelPackets → ChannelPackets) (q : Packet) → ((k : ChannelPackets) → part (change k) ≡ part k ++ q ∷ []) → (xs : List ChannelPackets) (j : ℕ) (old : List Packet) → length xs ≡ 256 → j < 256
    → part (packets_at xs j) ≡ on_channel j old → part (packets_at (with_packets xs q.channel change) j) ≡ on_channel j (old ++ q ∷ [])
part-grows part change q grows xs j old long low before = elim (equal-or-not q.channel j) [
  | inl e ↦ (let here : part (packets_at xs q.channel) ≡ on_channel q.channel old = subst (λ (n : ℕ). part (packets_at xs n) ≡ on_channel n old) (sym e) before in
      let new : part (packets_at (with_packets xs q.channel change) q.channel) ≡ on_channel q.channel (old ++ q ∷ []) =
      ap part (kept-there xs q.channel (change (packets_at xs q.channel)) (omega arith)) ∙ grows (packets_at xs q.channel) ∙ ap (λ (l : List Packet). l ++ q ∷ []) here
      ∙ ap (λ (l : List Packet). on_channel q.channel old ++ l) (sym (on-one q)) ∙ sym (on-append q.channel old (q ∷ [])) in
      subst (λ (n : ℕ). part (packets_at (with_packets xs q.channel change) n) ≡ on_channel n (old ++ q ∷ [])) e new)
  | inr n ↦ ap part (kept-other xs q.channel j (change (packets_at xs q.channel)) n) ∙ before ∙ sym (append-nil (on_channel j old))
      ∙ ap (λ (l : List Packet). on_channel j old ++ l) (sym (on-none q j n)) ∙ sym (on-append j old (q ∷ []))
]

pub with-long : (xs : List ChannelPackets) (i : ℕ) (change : ChannelPackets → ChannelPackets) → length xs ≡ 256 → length (with_packets xs i change) ≡ 256
with-long xs i change long = length-set xs i (change (packets_at xs i)) ∙ long
