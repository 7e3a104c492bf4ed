-- The counter of the packets at receivers is kept.
use Rattle.std.proofs.Common.{◌≡◌, ℕ, ◌+◌, ◌-◌, ◌^◌, ◌<◌, ◌≤◌, List, [], ◌∷◌, All, length, map, take, drop, get_or, set, refl, sym, ap, subst, ◌∙◌, inl, inr, ◌⊎◌, arith, length-set, length-take}
use Rattle.std.specs.List.{range_with_len}
use Rattle.std.proofs.lemmas.List.{get_or-set_same, get_or-set_other, get_or-map, get_or-take, length-map, length-drop, take_all}
use Rattle.std.proofs.lemmas.List.FromFn.{length-map-range_with_len, get_or-map-range_with_len}
use Rattle.std.proofs.lemmas.List.Sums.{sum_by-le, sum_by-set, sum_by-cons, sum_by-take-drop, get_or-le-sum_by}
use Rattle.std.specs.Ordering.{nat_cmp}
use Rattle.std.specs.FinMap.{FinMap, len, len-empty}
use Rattle.enet_packets.specs.declared.incoming_packet.IncomingPacket.{IncomingPacket}
use Rattle.enet_packets.specs.Packets as packets
use Rattle.enet_receiver.specs.Receiver.{held_packets}
use Rattle.enet_receiver.specs.Foresight.{ReceivingEnd, new_end}
use Rattle.enet_inbox.specs.Inbox.{cleared_receiver, given_way_receiver}
use Rattle.enet_inbox.specs.Invariant.{KeepsPackets, packets_in}
use Rattle.enet_inbox.specs.Private.Invariant.{waiting_packets_in}
use Rattle.enet_inbox.specs.Private.InboxParts.{given_way_but}
use Rattle.enet_inbox.proofs.Keeping.{sum_of_empty}
use Rattle.enet_inbox.proofs.GivingWay.{spared}
use Rattle.enet_inbox.specs.Invariant.{IsInPlace}

abbrev packets_of : ReceivingEnd → ℕ
packets_of r = held_packets r.receiver

-- the counter fits
pub packets_bounded : (rs : List ReceivingEnd) (n : ℕ) → KeepsPackets rs n → length rs ≤ 255 → n < 2 ^ 41
packets_bounded rs n k few =
    let low : All (λ (r : ReceivingEnd). held_packets r.receiver ≤ 2 ^ 32) rs = λ i d h. (let l = k.few i d h in omega arith) in
    let sum = sum_by-le packets_of (2 ^ 32) rs low in
    let counted = k.counted in
    omega arith

-- what is at one receiver is in the counter
pub one_counted : (rs : List ReceivingEnd) (n channel : ℕ) (old : ReceivingEnd) → KeepsPackets rs n → channel < length rs → old ≡ get_or rs channel old → held_packets old.receiver ≤ n
one_counted rs n channel old k inside at =
    let counted = k.counted in
    let was : packets_of (get_or rs channel old) ≡ packets_of old = ap packets_of (sym at) in
    let part = get_or-le-sum_by packets_of rs channel old inside in
    omega arith

less_or_not : (i n : ℕ) → (i ≡ n) ⊎ ((i < n) ⊎ (n < i))
less_or_not i n = grind arith

few-set : (rs : List ReceivingEnd) (channel : ℕ) (new : ReceivingEnd) → All (λ (r : ReceivingEnd). held_packets r.receiver < 2 ^ 32) rs → held_packets new.receiver < 2 ^ 32
    → All (λ (r : ReceivingEnd). held_packets r.receiver < 2 ^ 32) (set rs channel new)
few-set rs channel new old is = λ i d inside.
    let low : i < length rs = subst (λ n. i < n) (length-set rs channel new) inside in
    elim (less_or_not i channel) [
      | inl same ↦ (let at : get_or (set rs channel new) i d ≡ new = grind (arith, get_or-set_same) in
          subst (λ (x : ReceivingEnd). held_packets x.receiver < 2 ^ 32) (sym at) is)
      | inr other ↦ (let at : get_or (set rs channel new) i d ≡ get_or rs i d = grind (arith, get_or-set_other) in
          subst (λ (x : ReceivingEnd). held_packets x.receiver < 2 ^ 32) (sym at) (old i d low))
    ]

-- one receiver has other packets
pub counts_set : (rs : List ReceivingEnd) (n channel was now : ℕ) (old new : ReceivingEnd) → KeepsPackets rs n → channel < length rs → old ≡ get_or rs channel old
    → was ≡ held_packets old.receiver → now ≡ held_packets new.receiver → now < 2 ^ 32 → KeepsPackets (set rs channel new) (n - was + now)
counts_set rs n channel was now old new k inside at before after low = record {
  few = few-set rs channel new k.few (subst (λ m. m < 2 ^ 32) after low);
  counted =
      (let counted = k.counted in
      let sum = sum_by-set packets_of rs channel new old inside in
      let same : packets_of (get_or rs channel old) ≡ packets_of old = ap packets_of (sym at) in
      let part = get_or-le-sum_by packets_of rs channel old inside in
      omega arith);
}

-- a receiver that holds nothing
pub none_of_packets : (r : ReceivingEnd) → held_packets (cleared_receiver r).receiver ≡ 0
none_of_packets r =
    let one = len-empty nat_cmp IncomingPacket in
    let two = sum_of_empty {X = FinMap nat_cmp IncomingPacket} len in
    omega arith

none-held : (rs : List ReceivingEnd) → All (λ (r : ReceivingEnd). held_packets r.receiver ≤ 0) rs → KeepsPackets rs 0
none-held rs h = record {
  few = λ i d low. (let none = h i d low in omega arith);
  counted = (let sum = sum_by-le packets_of 0 rs h in omega arith);
}

pub counts_new : (channels most : ℕ) → KeepsPackets (map (λ channel. new_end channel most) (range_with_len 0 channels)) 0
counts_new channels most =
    let ends : ℕ → ReceivingEnd = λ channel. new_end channel most in
    let len : length (map ends (range_with_len 0 channels)) ≡ channels = length-map-range_with_len ends 0 channels in
    none-held (map ends (range_with_len 0 channels)) (λ i d h.
    let at : get_or (map ends (range_with_len 0 channels)) i d ≡ ends i = get_or-map-range_with_len ends 0 channels i i d (subst (λ n. i < n) len h) (omega arith) in
    subst (λ (r : ReceivingEnd). held_packets r.receiver ≤ 0) (sym at) (let z = none_of_packets (ends i) in omega arith))

pub counts_cleared : (rs : List ReceivingEnd) → KeepsPackets (map cleared_receiver rs) 0
counts_cleared rs = none-held (map cleared_receiver rs) (λ i d h.
    let low : i < length rs = subst (λ n. i < n) (length-map rs cleared_receiver) h in
    subst (λ (r : ReceivingEnd). held_packets r.receiver ≤ 0) (sym (get_or-map cleared_receiver rs i d d low)) (let z = none_of_packets (get_or rs i d) in omega arith))

-- the channels from one on go
pub counts_narrowed : (rs : List ReceivingEnd) (n channels : ℕ) → KeepsPackets rs n → KeepsPackets (take channels rs) (n - packets_in (drop channels rs))
counts_narrowed rs n channels k = record {
  few = λ i d inside.
      (let len = length-take channels rs in
      let low : i < channels = omega arith in
      subst (λ (r : ReceivingEnd). held_packets r.receiver < 2 ^ 32) (sym (get_or-take channels rs i d low)) (k.few i d (omega arith)));
  counted = (let counted = k.counted in let parts = sum_by-take-drop packets_of rs channels in omega arith);
}

pub dropped_packets_counted : (rs : List ReceivingEnd) (n channels : ℕ) → KeepsPackets rs n → packets_in (drop channels rs) ≤ n
dropped_packets_counted rs n channels k = let counted = k.counted in let parts = sum_by-take-drop packets_of rs channels in omega arith

-- a slice from an index on
pub packets_of_rest : (channels : ℕ) (rs all : List ReceivingEnd) → all ≡ rs → packets_in (take (length all - channels) (drop channels all)) ≡ packets_in (drop channels rs)
packets_of_rest channels rs all e =
    ap (λ (x : List ReceivingEnd). packets_in x) (take_all (length all - channels) (drop channels all) (let n = length-drop channels all in omega arith))
    ∙ ap (λ (x : List ReceivingEnd). packets_in (drop channels x)) e

-- ---- the unreliable packets that wait give way

pub packets_alone : (r : ReceivingEnd) → held_packets (given_way_receiver r).receiver + packets.packets_in r.receiver.waiting ≡ held_packets r.receiver
packets_alone r = let none = sum_of_empty {X = FinMap nat_cmp IncomingPacket} len in omega arith

packets-then : (rs : List ReceivingEnd) → packets_in (map given_way_receiver rs) + waiting_packets_in rs ≡ packets_in rs
packets-then [] = refl
packets-then (r ∷ rs) =
    let one = packets_alone r in
    let rest = packets-then rs in
    let alone = sum_by-cons packets_of (given_way_receiver r) (map given_way_receiver rs) in
    let waiting = sum_by-cons (λ (x : ReceivingEnd). packets.packets_in x.receiver.waiting) r rs in
    let all = sum_by-cons packets_of r rs in
    omega arith

pub counts_given_way : (rs : List ReceivingEnd) (n : ℕ) → KeepsPackets rs n → KeepsPackets (map given_way_receiver rs) (n - waiting_packets_in rs)
counts_given_way rs n k = record {
  few = λ i d inside.
      (let low : i < length rs = subst (λ m. i < m) (length-map rs given_way_receiver) inside in
      let fewer = packets_alone (get_or rs i d) in
      let was = k.few i d low in
      let now : held_packets (given_way_receiver (get_or rs i d)).receiver < 2 ^ 32 = omega arith in
      subst (λ (r : ReceivingEnd). held_packets r.receiver < 2 ^ 32) (sym (get_or-map given_way_receiver rs i d d low)) now);
  counted = (let counted = k.counted in let parts = packets-then rs in omega arith);
}

pub waiting_packets_counted : (rs : List ReceivingEnd) (n : ℕ) → KeepsPackets rs n → waiting_packets_in rs ≤ n
waiting_packets_counted rs n k = let counted = k.counted in let parts = packets-then rs in omega arith

-- and one receiver has other packets than it then had
pub counts_made : (most channel n others was now : ℕ) (rs after : List ReceivingEnd) (d new : ReceivingEnd) → ((i : ℕ) (x : ReceivingEnd) → i < length rs → IsInPlace most i (get_or rs i x)) → KeepsPackets rs n
    → channel < length rs → d ≡ get_or rs channel d → new.channel ≡ channel → after ≡ map (given_way_but channel) (set rs channel new) → others ≡ waiting_packets_in rs → was ≡ held_packets (given_way_receiver d).receiver
    → now ≡ held_packets new.receiver → now < 2 ^ 32 → KeepsPackets after (n - others - was + now)
counts_made most channel n others was now rs after d new is k inside at own spares gone before then low =
    let low_then : channel < length (map given_way_receiver rs) = subst (λ m. channel < m) (sym (length-map rs given_way_receiver)) inside in
    let there : given_way_receiver d ≡ get_or (map given_way_receiver rs) channel (given_way_receiver d) =
    ap given_way_receiver at ∙ sym (get_or-map given_way_receiver rs channel d (given_way_receiver d) inside) in
    let receivers : after ≡ set (map given_way_receiver rs) channel new = spares ∙ spared most channel rs new is own in
    let step = counts_set (map given_way_receiver rs) (n - waiting_packets_in rs) channel was now (given_way_receiver d) new (counts_given_way rs n k) low_then there before then low in
    subst (λ m. KeepsPackets after (n - m - was + now)) (sym gone)
    (subst (λ (xs : List ReceivingEnd). KeepsPackets xs (n - waiting_packets_in rs - was + now)) (sym receivers) step)

-- what is taken out of the counter is in it
pub made_packets_counted : (rs : List ReceivingEnd) (n channel : ℕ) (d : ReceivingEnd) → KeepsPackets rs n → channel < length rs → d ≡ get_or rs channel d
    → waiting_packets_in rs + held_packets (given_way_receiver d).receiver ≤ n
made_packets_counted rs n channel d k inside at =
    let low : channel < length (map given_way_receiver rs) = subst (λ m. channel < m) (sym (length-map rs given_way_receiver)) inside in
    let there : given_way_receiver d ≡ get_or (map given_way_receiver rs) channel (given_way_receiver d) =
    ap given_way_receiver at ∙ sym (get_or-map given_way_receiver rs channel d (given_way_receiver d) inside) in
    let one = one_counted (map given_way_receiver rs) (n - waiting_packets_in rs) channel (given_way_receiver d) (counts_given_way rs n k) low there in
    let all = waiting_packets_counted rs n k in
    omega arith

-- and where one receiver has as many packets as before
pub counts_passed : (rs : List ReceivingEnd) (n channel : ℕ) (old new : ReceivingEnd) → KeepsPackets rs n → channel < length rs → old ≡ get_or rs channel old → held_packets new.receiver ≡ held_packets old.receiver
    → KeepsPackets (set rs channel new) n
counts_passed rs n channel old new k inside at same =
    let low : held_packets (get_or rs channel old).receiver < 2 ^ 32 = k.few channel old inside in
    let was : packets_of (get_or rs channel old) ≡ packets_of old = ap packets_of (sym at) in
    let one = one_counted rs n channel old k inside at in
    let step = counts_set rs n channel (held_packets old.receiver) (held_packets new.receiver) old new k inside at refl refl (omega arith) in
    let counter : n - held_packets old.receiver + held_packets new.receiver ≡ n = omega arith in
    subst (λ m. KeepsPackets (set rs channel new) m) counter step
