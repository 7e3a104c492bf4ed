-- What is held, slot by slot.
use Rattle.std.proofs.Common.{◌≡◌, ℕ, suc, ◌<◌, ◌≤◌, ◌+◌, ◌*◌, Option, Some, None, List, [], ◌∷◌, ◌++◌, length, take, get_or, arith, sym, ap, subst, ◌∙◌, zero-add}
use Rattle.std.specs.Prelude.{sum_by}
use Rattle.std.proofs.Math.Nat.{mul-le-mul_right, suc-mul}
use Rattle.std.proofs.lemmas.List.{take_more, map-append}
use Rattle.std.proofs.lemmas.List.Sums.{sum_by-append}
use Rattle.enet_inbox.specs.Bounds.{most_places, most_bytes}
use Rattle.enet_inbox.specs.Inbox.{place_limit}
use Rattle.enet_peer.specs.declared.held.Held.{Held}
use Rattle.enet_peer.specs.Held.{most_of, IsLittle, IsWithin}
use Rattle.enet_peer.specs.Peering.{Peering}
use Rattle.enet_slot.specs.declared.slot.Slot.{Slot}
use Rattle.enet_slot.specs.Slot.{SlotState}
use Rattle.enet_slot.specs.Slotted.{shown, all_shown}
use Rattle.enet_slot.specs.Holding.{held_in, most_in, nothing_held}
use Rattle.enet_slot.proofs.Shown.{get-shown}
use Rattle.enet_host.specs.Held.{AreLimited, IsLimitedIn, held_by, times}
use Rattle.enet_host.specs.Private.Held.{IsLittleBy, together}

sum-one : (f : SlotState → ℕ) (s : SlotState) → sum_by f (s ∷ []) ≡ f s
sum-one f s = zero-add (f s)

-- a sum over the slots goes on by one
sum-more : (f : SlotState → ℕ) (xs : List Slot) (i : ℕ) (x : Slot) → i < length xs → x ≡ get_or xs i x → sum_by f (all_shown (take i xs)) + f (shown x) ≡ sum_by f (all_shown (take (i + 1) xs))
sum-more f xs i x inside read =
    let more : take (i + 1) xs ≡ take i xs ++ x ∷ [] = take_more xs i x inside ∙ ap (λ (y : Slot). take i xs ++ y ∷ []) (sym read) in
    let mapped : all_shown (take (i + 1) xs) ≡ all_shown (take i xs) ++ shown x ∷ [] = ap all_shown more ∙ map-append shown (take i xs) (x ∷ []) in
    sym
    (ap (λ (ss : List SlotState). sum_by f ss) mapped
    ∙ sum_by-append f (all_shown (take i xs)) (shown x ∷ [])
    ∙ ap (λ (n : ℕ). sum_by f (all_shown (take i xs)) + n) (sum-one f (shown x)))

-- what slots hold together with what the next one holds
pub held-more : (xs : List Slot) (i : ℕ) (x : Slot) (total one sum : Held) → i < length xs → x ≡ get_or xs i x → total ≡ held_by (all_shown (take i xs)) → one ≡ held_in (shown x).peer → sum ≡ together total one
    → sum ≡ held_by (all_shown (take (i + 1) xs))
held-more xs i x total one sum inside read so_far is added =
    let channels = sum-more (λ (s : SlotState). (held_in s.peer).channels) xs i x inside read in
    let senders = sum-more (λ (s : SlotState). (held_in s.peer).senders) xs i x inside read in
    let packets = sum-more (λ (s : SlotState). (held_in s.peer).packets) xs i x inside read in
    let undispatched = sum-more (λ (s : SlotState). (held_in s.peer).undispatched) xs i x inside read in
    let bytes = sum-more (λ (s : SlotState). (held_in s.peer).bytes) xs i x inside read in
    let acknowledgements = sum-more (λ (s : SlotState). (held_in s.peer).acknowledgements) xs i x inside read in
    let next : together (held_by (all_shown (take i xs))) (held_in (shown x).peer) ≡ held_by (all_shown (take (i + 1) xs)) =
    λ k. record { channels = channels k; senders = senders k; packets = packets k; undispatched = undispatched k; bytes = bytes k; acknowledgements = acknowledgements k } in
    added ∙ ap (λ (h : Held). together h one) so_far ∙ ap (λ (h : Held). together (held_by (all_shown (take i xs))) h) is ∙ next

-- it stays small enough to be added up
pub little-more : (i : ℕ) (total one sum : Held) → IsLittleBy i total → IsLittle one → sum ≡ together total one → IsLittleBy (i + 1) sum
little-more i total one sum so_far is added =
    subst (IsLittleBy (i + 1)) (sym added)
    (record {
      channels = omega (arith, so_far.channels, is.channels);
      senders = omega (arith, so_far.senders, is.senders);
      packets = omega (arith, so_far.packets, is.packets);
      undispatched = omega (arith, so_far.undispatched, is.undispatched);
      bytes = omega (arith, so_far.bytes, is.bytes);
      acknowledgements = omega (arith, so_far.acknowledgements, is.acknowledgements);
    })

-- each stays within what it holds at most
one-within : (x y : ℕ) (o : Option Peering) (one : Held) → IsLimitedIn x y o → IsWithin one (most_in o) → IsWithin one (most_of x y)
one-within x y None one h is = record {
  channels = omega (arith, is.channels);
  senders = omega (arith, is.senders);
  packets = omega (arith, is.packets);
  undispatched = omega (arith, is.undispatched);
  bytes = omega (arith, is.bytes);
  acknowledgements = omega (arith, is.acknowledgements);
}
one-within x y (Some p) one h is =
    subst (λ (n : ℕ). IsWithin one (most_of n y)) h.0 (subst (λ (n : ℕ). IsWithin one (most_of p.inbox.max_packet n)) h.1 is)

once-more : (i total one most : ℕ) → total ≤ i * most → one ≤ most → total + one ≤ (i + 1) * most
once-more i total one most a b =
    let up : i + 1 ≡ suc i = omega arith in
    let e : (i + 1) * most ≡ i * most + most = ap (λ n. n * most) up ∙ suc-mul i most in
    omega (arith, a, b, e)

pub within-more : (xs : List Slot) (i : ℕ) (s : Slot) (total one sum : Held) → i < length xs → s ≡ get_or xs i s → IsWithin one (most_in (shown s).peer) → sum ≡ together total one
    → ((x y : ℕ) → AreLimited x y (all_shown xs) → IsWithin total (times i (most_of x y))) → (x y : ℕ) → AreLimited x y (all_shown xs) → IsWithin sum (times (i + 1) (most_of x y))
within-more xs i s total one sum inside read is added so_far x y limited =
    let was : IsWithin total (times i (most_of x y)) = so_far x y limited in
    let new : IsWithin one (most_of x y) = one-within x y (shown s).peer one (limited i (shown s) (get-shown xs i s inside read)) is in
    subst (λ (h : Held). IsWithin h (times (i + 1) (most_of x y))) (sym added)
    (record {
      channels = once-more i total.channels one.channels 255 was.channels new.channels;
      senders = once-more i total.senders one.senders 255 was.senders new.senders;
      packets = once-more i total.packets one.packets (most_places y) was.packets new.packets;
      undispatched = once-more i total.undispatched one.undispatched (place_limit y + 255) was.undispatched new.undispatched;
      bytes = once-more i total.bytes one.bytes (most_bytes x y) was.bytes new.bytes;
      acknowledgements = once-more i total.acknowledgements one.acknowledgements 8192 was.acknowledgements new.acknowledgements;
    })

-- so many times less is less
fewer-times : (i n one total : ℕ) → i ≤ n → total ≤ i * one → total ≤ n * one
fewer-times i n one total le h = let more : i * one ≤ n * one = mul-le-mul_right one le in omega (arith, h, more)

pub within-done : (i n : ℕ) (total : Held) (x y : ℕ) → i ≤ n → IsWithin total (times i (most_of x y)) → IsWithin total (times n (most_of x y))
within-done i n total x y le h = record {
  channels = fewer-times i n 255 total.channels le h.channels;
  senders = fewer-times i n 255 total.senders le h.senders;
  packets = fewer-times i n (most_places y) total.packets le h.packets;
  undispatched = fewer-times i n (place_limit y + 255) total.undispatched le h.undispatched;
  bytes = fewer-times i n (most_bytes x y) total.bytes le h.bytes;
  acknowledgements = fewer-times i n 8192 total.acknowledgements le h.acknowledgements;
}

-- where nothing was added up yet
none-of : (n : ℕ) → 0 ≤ 0 * n
none-of n = omega arith

pub nothing-little : IsLittleBy 0 nothing_held
nothing-little = record { channels = none-of 255; senders = none-of 255; packets = none-of 134217728; undispatched = none-of 134217728; bytes = none-of 4398046511104; acknowledgements = none-of 8192 }

pub nothing-within : (x y : ℕ) → IsWithin nothing_held (times 0 (most_of x y))
nothing-within x y = record { channels = none-of 255; senders = none-of 255; packets = none-of (most_places y); undispatched = none-of (place_limit y + 255); bytes = none-of (most_bytes x y); acknowledgements = none-of 8192 }

-- it is little of all slots that there can be
all-times : (n one total : ℕ) → n ≤ 4095 → total ≤ n * one → total ≤ 4095 * one
all-times n one total le h = fewer-times n 4095 one total le h

pub little-done : (n : ℕ) (total : Held) → n ≤ 4095 → IsLittleBy n total → IsLittleBy 4095 total
little-done n total le h = record {
  channels = all-times n 255 total.channels le h.channels;
  senders = all-times n 255 total.senders le h.senders;
  packets = all-times n 134217728 total.packets le h.packets;
  undispatched = all-times n 134217728 total.undispatched le h.undispatched;
  bytes = all-times n 4398046511104 total.bytes le h.bytes;
  acknowledgements = all-times n 8192 total.acknowledgements le h.acknowledgements;
}
