-- An inbox in which the unreliable packets that wait give way keeps what it keeps.
use Rattle.std.proofs.Common.{◌≡◌, ◌≢◌, ℕ, ◌+◌, ◌-◌, ◌^◌, ◌<◌, ◌≤◌, Bool, true, false, cond, List, [], ◌∷◌, ◌++◌, All, length, map, get_or, set, refl, sym, ap, subst, ◌∙◌, inl, inr, ◌⊎◌, arith, length-set, Option, Some}
use Rattle.std.specs.Prelude.{slice_get}
use Rattle.std.proofs.lemmas.Bool.{eq-eqb}
use Rattle.std.proofs.lemmas.Bool.Decides.{eqb_tells}
use Rattle.std.proofs.lemmas.List.{ext_get_or, get_or-set_same, get_or-set_other, get_or-map, length-map}
use Rattle.std.proofs.lemmas.List.Sums.{sum_by-cons}
use Rattle.std.proofs.lemmas.Option.{slice_get_read, slice_get_within}
use Rattle.std.specs.Ordering.{nat_cmp}
use Rattle.std.specs.FinMap.{FinMap}
use Rattle.enet_codec.specs.declared.packet.Packet.{Packet}
use Rattle.enet_fragment.specs.declared.data.DataCommand.{DataCommand}
use Rattle.enet_packets.specs.declared.incoming_packet.IncomingPacket.{IncomingPacket}
use Rattle.enet_packets.specs.Packets.{bytes_of}
use Rattle.enet_packets.specs.Packets as packets
use Rattle.enet_receiver.specs.Receiver.{held_bytes}
use Rattle.enet_receiver.proofs.Rooming.{made_alone}
use Rattle.enet_receiver.specs.declared.took.Took.TheVariants.{Held, Waiting}
use Rattle.enet_receiver.specs.Foresight.{ReceivingEnd, outcome_for, after_command}
use Rattle.enet_inbox.specs.Inbox.{Inbox, is_full_for, given_way, given_way_receiver}
use Rattle.enet_inbox.specs.DataEffect.{by_took, emptied, packet_of, sequenced, handed_over}
use Rattle.enet_inbox.specs.Invariant.{IsShort, IsInPlace, KeepsInbox}
use Rattle.enet_inbox.specs.Private.Invariant.{held_in, waiting_in, bytes_in}
use Rattle.enet_inbox.specs.Private.InboxParts.{given_way_but, FindsRoom}
use Rattle.enet_inbox.proofs.Keeping.{sum_of_empty, in_place, held_counted, kept_after}
use Rattle.enet_inbox.proofs.Rooms.{makes, given_way_to, outcome_then}

pub held_alone : (r : ReceivingEnd) → held_bytes (given_way_receiver r).receiver + packets.bytes_in r.receiver.waiting ≡ held_bytes r.receiver
held_alone r = let none = sum_of_empty {X = FinMap nat_cmp IncomingPacket} bytes_of in omega arith

-- what is held once those that wait have given way
pub held_then : (rs : List ReceivingEnd) → held_in (map given_way_receiver rs) + waiting_in rs ≡ held_in rs
held_then [] = refl
held_then (r ∷ rs) =
    let one = held_alone r in
    let rest = held_then rs in
    let alone = sum_by-cons (λ (x : ReceivingEnd). held_bytes x.receiver) (given_way_receiver r) (map given_way_receiver rs) in
    let waiting = sum_by-cons (λ (x : ReceivingEnd). packets.bytes_in x.receiver.waiting) r rs in
    let all = sum_by-cons (λ (x : ReceivingEnd). held_bytes x.receiver) r rs in
    omega arith

pub alone_in_place : (most channel : ℕ) (r : ReceivingEnd) → IsInPlace most channel r → IsInPlace most channel (given_way_receiver r)
alone_in_place most channel r is = record {
  channel = is.channel;
  max_packet = is.max_packet;
  front = is.front;
  none_left = is.none_left;
  light = (let light = is.light in let less = held_alone r in omega arith);
  small = is.small;
  made = made_alone most r.receiver is.made;
}

placed_alone : (most : ℕ) (rs : List ReceivingEnd) → ((i : ℕ) (d : ReceivingEnd) → i < length rs → IsInPlace most i (get_or rs i d)) → (i : ℕ) (d : ReceivingEnd) → i < length (map given_way_receiver rs)
    → IsInPlace most i (get_or (map given_way_receiver rs) i d)
placed_alone most rs is i d inside =
    let low : i < length rs = subst (λ n. i < n) (length-map rs given_way_receiver) inside in
    subst (λ (r : ReceivingEnd). IsInPlace most i r) (sym (get_or-map given_way_receiver rs i d d low)) (alone_in_place most i (get_or rs i d) (is i d low))

-- those that wait are given up
pub keeps_given_way : (b : Inbox) (waiting : ℕ) → KeepsInbox b waiting → KeepsInbox (given_way b) (waiting - waiting_in b.receivers)
keeps_given_way b waiting k = record {
  receivers = placed_alone b.max_packet b.receivers k.receivers;
  few = (let few = k.few in let len = length-map b.receivers given_way_receiver in omega arith);
  short = k.short;
  counted = (let counted = k.counted in let parts = held_then b.receivers in omega arith);
}

pub waiting_counted : (b : Inbox) (waiting : ℕ) → KeepsInbox b waiting → waiting_in b.receivers ≤ waiting
waiting_counted b waiting k = let counted = k.counted in let parts = held_then b.receivers in omega arith

-- on all channels but one
but-same : (own : ℕ) (r : ReceivingEnd) → r.channel ≡ own → given_way_but own r ≡ r
but-same own r e = ap (λ t. cond t r (given_way_receiver r)) (eq-eqb r.channel own e)

but-other : (own : ℕ) (r : ReceivingEnd) → r.channel ≢ own → given_way_but own r ≡ given_way_receiver r
but-other own r n = elim (eqb_tells r.channel own) [ inl same ↦ absurd (n same.1) | inr other ↦ ap (λ t. cond t r (given_way_receiver r)) other.0 ]

same_or_not : (i n : ℕ) → (i ≡ n) ⊎ (i ≢ n)
same_or_not i n = elim (eqb_tells i n) [ inl same ↦ inl same.1 | inr other ↦ inr other.1 ]

spared-at : (most own : ℕ) (rs : List ReceivingEnd) (x : ReceivingEnd) → ((i : ℕ) (d : ReceivingEnd) → i < length rs → IsInPlace most i (get_or rs i d)) → x.channel ≡ own → (i : ℕ) → i < length rs
    → get_or (map (given_way_but own) (set rs own x)) i x ≡ get_or (set (map given_way_receiver rs) own x) i x
spared-at most own rs x is e i low =
    let inside : i < length (set rs own x) = subst (λ n. i < n) (sym (length-set rs own x)) low in
    let mapped : i < length (map given_way_receiver rs) = subst (λ n. i < n) (sym (length-map rs given_way_receiver)) low in
    get_or-map (given_way_but own) (set rs own x) i x x inside
    ∙ elim (same_or_not i own) [
      | inl same ↦ (let left : get_or (set rs own x) i x ≡ x = grind (arith, get_or-set_same) in
          let right : get_or (set (map given_way_receiver rs) own x) i x ≡ x = grind (arith, get_or-set_same) in
          ap (given_way_but own) left ∙ but-same own x e ∙ sym right)
      | inr other ↦ (let left : get_or (set rs own x) i x ≡ get_or rs i x = grind (arith, get_or-set_other) in
          let right : get_or (set (map given_way_receiver rs) own x) i x ≡ get_or (map given_way_receiver rs) i x = grind (arith, get_or-set_other) in
          let apart : (get_or rs i x).channel ≢ own = λ c. other (sym (is i x low).channel ∙ c) in
          ap (given_way_but own) left ∙ but-other own (get_or rs i x) apart ∙ sym (get_or-map given_way_receiver rs i x x low) ∙ sym right)
    ]

-- all but the receiver of this channel give way
pub spared : (most own : ℕ) (rs : List ReceivingEnd) (x : ReceivingEnd) → ((i : ℕ) (d : ReceivingEnd) → i < length rs → IsInPlace most i (get_or rs i d)) → x.channel ≡ own
    → map (given_way_but own) (set rs own x) ≡ set (map given_way_receiver rs) own x
spared most own rs x is e =
    let left : length (map (given_way_but own) (set rs own x)) ≡ length rs = length-map (set rs own x) (given_way_but own) ∙ length-set rs own x in
    let right : length (set (map given_way_receiver rs) own x) ≡ length rs = length-set (map given_way_receiver rs) own x ∙ length-map rs given_way_receiver in
    ext_get_or x (map (given_way_but own) (set rs own x)) (set (map given_way_receiver rs) own x) (left ∙ sym right)
    (λ i h. spared-at most own rs x is e i (subst (λ n. i < n) left h))

-- ---- a command that makes room is taken in

-- the receiver of its channel, read at its place
pub record Room (b : Inbox) (channel : ℕ) (c : DataCommand) (d : ReceivingEnd) : Type 0 where
  pub low : channel < length b.receivers
  pub place : IsInPlace b.max_packet channel d
  pub took : outcome_for (given_way_receiver d) (Some c) false ≡ Held
  pub after : (sequenced (given_way b) channel (Some c)).after ≡ handed_over (given_way b) channel (after_command (given_way_receiver d) (Some c) false)

same-some : (d e : ReceivingEnd) → ◌≡◌ {A = Option ReceivingEnd} (Some d) (Some e) → d ≡ e
same-some d e h = cc

held-after : (full : Bool) (b : Inbox) (channel : ℕ) (r : ReceivingEnd) (c : DataCommand) → full ≡ is_full_for b r c → full ≡ false
    → (by_took (cond full Waiting Held) b channel r c).after ≡ handed_over b channel (after_command r (Some c) false)
held-after true b channel r c is e = absurd (cc)
held-after false b channel r c is e = ap (λ f. handed_over b channel (after_command r (Some c) f)) (sym is)

pub has_channel : (b : Inbox) (channel : ℕ) (c : DataCommand) → FindsRoom b channel (Some c) → channel < length b.receivers
has_channel b channel c h = let k = makes b channel c h in slice_get_within b.receivers channel k.receiver k.at.there

pub room_at : (b : Inbox) (waiting channel : ℕ) (c : DataCommand) (d : ReceivingEnd) → KeepsInbox b waiting → FindsRoom b channel (Some c) → d ≡ get_or b.receivers channel d → Room b channel c d
room_at b waiting channel c d kept h at =
    let k = makes b channel c h in
    let low = has_channel b channel c h in
    let there : slice_get b.receivers channel ≡ Some d = slice_get_read b.receivers (length b.receivers) channel d refl low at in
    let same : k.receiver ≡ d = same-some k.receiver d (sym k.at.there ∙ there) in
    record {
      low = low;
      place = in_place b waiting channel d kept there;
      took = ap (λ (r : ReceivingEnd). outcome_for (given_way_receiver r) (Some c) false) (sym same) ∙ outcome_then b channel c k;
      after =
          ap (λ x. x.after) (given_way_to b channel c k.receiver k.at)
          ∙ held-after (is_full_for (given_way b) (given_way_receiver k.receiver) c) (given_way b) channel (given_way_receiver k.receiver) c refl k.room
          ∙ ap (λ (r : ReceivingEnd). handed_over (given_way b) channel (after_command (given_way_receiver r) (Some c) false)) same;
    }

-- the receiver after it
pub new_in_place : (b : Inbox) (channel : ℕ) (c : DataCommand) (d new : ReceivingEnd) → Room b channel c d → new ≡ emptied (after_command (given_way_receiver d) (Some c) false) → new.channel ≡ channel
new_in_place b channel c d new room is = ap (λ (r : ReceivingEnd). r.channel) is ∙ room.place.channel

-- the inbox after it
pub made_after : (b : Inbox) (waiting channel : ℕ) (c : DataCommand) (d new : ReceivingEnd) (rs : List ReceivingEnd) (qs : List Packet) → KeepsInbox b waiting → Room b channel c d
    → new ≡ emptied (after_command (given_way_receiver d) (Some c) false) → qs ≡ b.untaken ++ map (packet_of d.channel) (after_command (given_way_receiver d) (Some c) false).receiver.dispatched
    → rs ≡ map (given_way_but channel) (set b.receivers channel new)
    → record b { receivers = rs; untaken = qs } ≡ (sequenced (given_way b) channel (Some c)).after
made_after b waiting channel c d new rs qs kept room is more others =
    let receivers : rs ≡ set (map given_way_receiver b.receivers) channel new = others ∙ spared b.max_packet channel b.receivers new kept.receivers (new_in_place b channel c d new room is) in
    let after : ReceivingEnd = after_command (given_way_receiver d) (Some c) false in
    (λ i. record b { receivers = receivers i; untaken = more i })
    ∙ (λ i. record b { receivers = set (map given_way_receiver b.receivers) channel (is i); untaken = b.untaken ++ map (packet_of (room.place.channel i)) after.receiver.dispatched })
    ∙ sym room.after

-- it keeps what it keeps
pub made_keeps : (b : Inbox) (waiting channel : ℕ) (c : DataCommand) (d new : ReceivingEnd) (rs : List ReceivingEnd) (qs : List Packet) (bytes others was now : ℕ) → KeepsInbox b waiting → Room b channel c d
    → d ≡ get_or b.receivers channel d → new ≡ emptied (after_command (given_way_receiver d) (Some c) false) → rs ≡ map (given_way_but channel) (set b.receivers channel new)
    → others ≡ waiting_in b.receivers → was ≡ held_bytes (given_way_receiver d).receiver → now ≡ held_bytes new.receiver → now < 2 ^ 64 → All IsShort qs → bytes_in qs ≡ bytes_in b.untaken + bytes
    → KeepsInbox (record b { receivers = rs; untaken = qs }) (waiting - others - was + now + bytes)
made_keeps b waiting channel c d new rs qs bytes others was now kept room at is spares gone before after light short more =
    let receivers : rs ≡ set (map given_way_receiver b.receivers) channel new = spares ∙ spared b.max_packet channel b.receivers new kept.receivers (new_in_place b channel c d new room is) in
    let low : channel < length (map given_way_receiver b.receivers) = subst (λ n. channel < n) (sym (length-map b.receivers given_way_receiver)) room.low in
    let there : given_way_receiver d ≡ get_or (map given_way_receiver b.receivers) channel (given_way_receiver d) =
    ap given_way_receiver at ∙ sym (get_or-map given_way_receiver b.receivers channel d (given_way_receiver d) room.low) in
    let step = kept_after (given_way b) (waiting - waiting_in b.receivers) channel (given_way_receiver d) new (Some c) false qs bytes was now
    (keeps_given_way b waiting kept) low there (alone_in_place b.max_packet channel d room.place) is before after light short more in
    subst (λ n. KeepsInbox (record b { receivers = rs; untaken = qs }) (waiting - n - was + now + bytes)) (sym gone)
    (subst (λ (xs : List ReceivingEnd). KeepsInbox (record b { receivers = xs; untaken = qs }) (waiting - waiting_in b.receivers - was + now + bytes)) (sym receivers) step)

-- what is taken out of the counter is in it
pub made_counted : (b : Inbox) (waiting channel : ℕ) (c : DataCommand) (d : ReceivingEnd) → KeepsInbox b waiting → Room b channel c d → d ≡ get_or b.receivers channel d
    → waiting_in b.receivers + held_bytes (given_way_receiver d).receiver ≤ waiting
made_counted b waiting channel c d kept room at =
    let low : channel < length (map given_way_receiver b.receivers) = subst (λ n. channel < n) (sym (length-map b.receivers given_way_receiver)) room.low in
    let there : given_way_receiver d ≡ get_or (map given_way_receiver b.receivers) channel (given_way_receiver d) =
    ap given_way_receiver at ∙ sym (get_or-map given_way_receiver b.receivers channel d (given_way_receiver d) room.low) in
    let one = held_counted (given_way b) (waiting - waiting_in b.receivers) channel (given_way_receiver d) (keeps_given_way b waiting kept) low there in
    let all = waiting_counted b waiting kept in
    omega arith
