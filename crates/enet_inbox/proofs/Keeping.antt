-- The fields of an inbox keep what they keep.
use Rattle.std.proofs.Common.{◌≡◌, ℕ, ◌+◌, ◌-◌, ◌*◌, ◌^◌, ◌<◌, ◌≤◌, Bool, true, List, [], ◌∷◌, ◌++◌, All, length, map, take, drop, get_or, set, sum_by, refl, sym, ap, subst, ◌∙◌, inl, inr, ◌⊎◌, arith, length-set, length-take, Option, Some, None, Ok}
use Rattle.std.specs.Prelude.{slice_get}
use Rattle.std.specs.List.{range_with_len}
use Rattle.std.proofs.lemmas.List.{get_or-set_same, get_or-set_other, get_or-map, get_or-take, length-map, length-drop, take_all}
use Rattle.std.proofs.lemmas.List.FromFn.{length-map-range_with_len, get_or-map-range_with_len}
use Rattle.std.proofs.lemmas.List.Elements.{All-push, All-tail}
use Rattle.std.proofs.lemmas.List.Sums.{sum_by-le, sum_by-set, sum_by_push, sum_by-cons, sum_by-take-drop, get_or-le-sum_by}
use Rattle.std.proofs.lemmas.Option.{slice_get_within, slice_get_read, get_or_from_slice_get}
use Rattle.std.specs.Ordering.{nat_cmp}
use Rattle.std.specs.FinMap.{FinMap, empty, entries, values, len-entries, len-empty}
use Rattle.enet_codec.specs.declared.command.Head.{Head}
use Rattle.enet_codec.specs.declared.packet.Packet.{Packet}
use Rattle.enet_unsequenced.specs.Groups.{Seen}
use Rattle.enet_fragment.specs.declared.data.DataCommand.{DataCommand}
use Rattle.enet_seq.specs.Numbering.{wire}
use Rattle.enet_receiver.specs.Room.{HasMade}
use Rattle.enet_receiver.specs.DataOutcome.{received}
use Rattle.enet_receiver.proofs.Rooming.{keeps_made, made_cleared}
use Rattle.enet_packets.specs.declared.incoming_packet.IncomingPacket.{IncomingPacket}
use Rattle.enet_packets.specs.Packets.{bytes_of}
use Rattle.enet_receiver.specs.Receiver.{Receiver, held_bytes, nothing_received}
use Rattle.enet_receiver.specs.declared.took.Foresight.{Foresight}
use Rattle.enet_receiver.specs.Foresight.{ReceivingEnd, new_end, after_command}
use Rattle.enet_inbox.specs.declared.arriving.Foreseen.{Foreseen}
use Rattle.enet_inbox.specs.Inbox.{Inbox, empty_inbox, is_full_for, cleared, cleared_receiver, forgotten, narrowed}
use Rattle.enet_inbox.specs.DataEffect.{emptied, packet_of, sequenced}
use Rattle.enet_inbox.specs.InboxParts.{foresight_on, foresight_of, foreseen_sequenced}
use Rattle.enet_inbox.specs.Invariant.{IsShort, IsInPlace, KeepsInbox}
use Rattle.enet_inbox.specs.Private.Invariant.{held_in, bytes_in}
use Rattle.enet_inbox.proofs.Fronts.{front_received}
use Rattle.enet_inbox.proofs.Outcomes.{Taken, taken, foresight_in, foresight_is}

-- the receiver of a channel is in its place
pub in_place : (b : Inbox) (waiting channel : ℕ) (r : ReceivingEnd) → KeepsInbox b waiting → slice_get b.receivers channel ≡ Some r → IsInPlace b.max_packet channel r
in_place b waiting channel r k at =
    subst (λ (x : ReceivingEnd). IsInPlace b.max_packet channel x) (get_or_from_slice_get b.receivers channel r r at)
    (k.receivers channel r (slice_get_within b.receivers channel r at))

pub held_bounded : (b : Inbox) (waiting : ℕ) → KeepsInbox b waiting → held_in b.receivers ≤ 255 * 2 ^ 64
held_bounded b waiting k =
    let few = k.few in
    let light : All (λ (r : ReceivingEnd). held_bytes r.receiver ≤ 2 ^ 64) b.receivers = λ i d h. (let l = (k.receivers i d h).light in omega arith) in
    let sum = sum_by-le (λ (r : ReceivingEnd). held_bytes r.receiver) (2 ^ 64) b.receivers light in
    omega arith

pub bytes_bounded : (qs : List Packet) → All IsShort qs → length qs < 2 ^ 63 → bytes_in qs ≤ 2 ^ 126
bytes_bounded qs short few =
    let light : All (λ (q : Packet). length q.body ≤ 2 ^ 63) qs = λ i d h. (let l = short i d h in omega arith) in
    let sum = sum_by-le (λ (q : Packet). length q.body) (2 ^ 63) qs light in
    omega arith

-- the counter fits
pub bounded : (b : Inbox) (waiting : ℕ) → KeepsInbox b waiting → length b.untaken < 2 ^ 63 → waiting < 2 ^ 127
bounded b waiting k few =
    let held = held_bounded b waiting k in
    let bytes = bytes_bounded b.untaken k.short few in
    let counted = k.counted in
    omega arith

less_or_not : (i n : ℕ) → (i ≡ n) ⊎ ((i < n) ⊎ (n < i))
less_or_not i n = grind arith

placed_set : (most channel : ℕ) (rs : List ReceivingEnd) (new : ReceivingEnd) → ((i : ℕ) (d : ReceivingEnd) → i < length rs → IsInPlace most i (get_or rs i d)) → IsInPlace most channel new
    → (i : ℕ) (d : ReceivingEnd) → i < length (set rs channel new) → IsInPlace most i (get_or (set rs channel new) i d)
placed_set most channel rs new old is i d inside =
    let low : i < length rs = subst (λ n. i < n) (length-set rs channel new) inside in
    elim (less_or_not i channel) [
      | inl same ↦ (let at : get_or (set rs channel new) i d ≡ new = grind (arith, get_or-set_same) in
          subst (λ (x : ReceivingEnd). IsInPlace most i x) (sym at) (subst (λ n. IsInPlace most n new) (sym same) is))
      | inr other ↦ (let at : get_or (set rs channel new) i d ≡ get_or rs i d = grind (arith, get_or-set_other) in
          subst (λ (x : ReceivingEnd). IsInPlace most i x) (sym at) (old i d low))
    ]

-- a receiver takes a command in, and what it dispatches is handed over
pub keeps_taken : (b : Inbox) (waiting channel : ℕ) (old new : ReceivingEnd) (qs : List Packet) (bytes : ℕ) → KeepsInbox b waiting → channel < length b.receivers
    → old ≡ get_or b.receivers channel old → IsInPlace b.max_packet channel new → All IsShort qs → bytes_in qs ≡ bytes_in b.untaken + bytes
    → KeepsInbox (record b { receivers = set b.receivers channel new; untaken = qs }) (waiting - held_bytes old.receiver + held_bytes new.receiver + bytes)
keeps_taken b waiting channel old new qs bytes k inside at is short more = record {
  receivers = placed_set b.max_packet channel b.receivers new k.receivers is;
  few = (let few = k.few in let len = length-set b.receivers channel new in omega arith);
  short = short;
  counted =
      (let counted = k.counted in
      let sum = sum_by-set (λ (r : ReceivingEnd). held_bytes r.receiver) b.receivers channel new old inside in
      let was : held_bytes (get_or b.receivers channel old).receiver ≡ held_bytes old.receiver = ap (λ (r : ReceivingEnd). held_bytes r.receiver) (sym at) in
      let part = get_or-le-sum_by (λ (r : ReceivingEnd). held_bytes r.receiver) b.receivers channel old inside in
      omega arith);
}

-- what is held at one receiver is in the counter
pub held_counted : (b : Inbox) (waiting channel : ℕ) (old : ReceivingEnd) → KeepsInbox b waiting → channel < length b.receivers → old ≡ get_or b.receivers channel old → held_bytes old.receiver ≤ waiting
held_counted b waiting channel old k inside at =
    let counted = k.counted in
    let was : held_bytes (get_or b.receivers channel old).receiver ≡ held_bytes old.receiver = ap (λ (r : ReceivingEnd). held_bytes r.receiver) (sym at) in
    let part = get_or-le-sum_by (λ (r : ReceivingEnd). held_bytes r.receiver) b.receivers channel old inside in
    omega arith

-- what is dispatched makes no difference to what is held
emptied_made : (most : ℕ) (r : Receiver) → HasMade most r → HasMade most (record r { dispatched = [] })
emptied_made most r k = record { held = k.held; waiting = k.waiting }

-- the receiver of a channel after a command
pub after_in_place : (most channel : ℕ) (r : ReceivingEnd) (o : Option DataCommand) (full : Bool) → IsInPlace most channel r → held_bytes (after_command r o full).receiver < 2 ^ 64
    → IsInPlace most channel (emptied (after_command r o full))
after_in_place most channel r None full is light = record { channel = is.channel; max_packet = is.max_packet; front = is.front; none_left = refl; light = light; small = is.small; made = emptied_made most r.receiver is.made }
after_in_place most channel r (Some c) full is light = record {
  channel = is.channel;
  max_packet = is.max_packet;
  front = front_received r.max_packet r.receiver c full is.front;
  none_left = refl;
  light = light;
  small = is.small;
  made =
      emptied_made most (received wire r.max_packet r.receiver c full)
      (subst (λ n. HasMade n (received wire r.max_packet r.receiver c full)) is.max_packet
      (keeps_made r.max_packet r.receiver c full (subst (λ n. n < 2 ^ 32) (sym is.max_packet) is.small) (subst (λ n. HasMade n r.receiver) (sym is.max_packet) is.made)));
}

-- an unsequenced packet is dispatched
pub keeps_pushed : (b : Inbox) (waiting : ℕ) (seen : Seen) (q : Packet) (qs : List Packet) → KeepsInbox b waiting → length q.body < 2 ^ 63 → qs ≡ b.untaken ++ q ∷ []
    → KeepsInbox (record b { seen = seen; untaken = qs }) (waiting + length q.body)
keeps_pushed b waiting seen q qs k short e = record {
  receivers = k.receivers;
  few = k.few;
  short = subst (λ (x : List Packet). All IsShort x) (sym e) (All-push IsShort b.untaken q k.short short);
  counted =
      (let counted = k.counted in
      let sum = sum_by_push (λ (x : Packet). length x.body) b.untaken q in
      let same : bytes_in qs ≡ bytes_in (b.untaken ++ q ∷ []) = ap (λ (x : List Packet). bytes_in x) e in
      omega arith);
}

pub push_fits : (b : Inbox) (waiting len : ℕ) → KeepsInbox b waiting → length b.untaken < 2 ^ 63 → len < 2 ^ 63 → waiting + len < 2 ^ 128
push_fits b waiting len k few short = let now = bounded b waiting k few in omega arith

-- the next packet is taken
pub keeps_popped : (b : Inbox) (waiting : ℕ) (q : Packet) (qs : List Packet) → KeepsInbox b waiting → b.untaken ≡ q ∷ qs → KeepsInbox (record b { untaken = qs }) (waiting - length q.body)
keeps_popped b waiting q qs k e = record {
  receivers = k.receivers;
  few = k.few;
  short = All-tail IsShort q qs (subst (λ (x : List Packet). All IsShort x) e k.short);
  counted =
      (let counted = k.counted in
      let sum = sum_by-cons (λ (x : Packet). length x.body) q qs in
      let same : bytes_in b.untaken ≡ bytes_in (q ∷ qs) = ap (λ (x : List Packet). bytes_in x) e in
      omega arith);
}

pub pop_counted : (b : Inbox) (waiting : ℕ) (q : Packet) (qs : List Packet) → KeepsInbox b waiting → b.untaken ≡ q ∷ qs → length q.body ≤ waiting
pop_counted b waiting q qs k e =
    let counted = k.counted in
    let sum = sum_by-cons (λ (x : Packet). length x.body) q qs in
    let same : bytes_in b.untaken ≡ bytes_in (q ∷ qs) = ap (λ (x : List Packet). bytes_in x) e in
    omega arith

-- a receiver that holds nothing
sum_of_none : {X : Type 0} (f : X → ℕ) (es : List (ℕ × X)) → length es ≡ 0 → sum_by f (map (λ (e : ℕ × X). e.1) es) ≡ 0
sum_of_none f [] e = refl
sum_of_none f (x ∷ es) e = absurd (omega arith)

pub sum_of_empty : {X : Type 0} (f : X → ℕ) → sum_by f (values (empty {X = X} {R = nat_cmp})) ≡ 0
sum_of_empty {X = X} f = sum_of_none f (entries (empty {X = X} {R = nat_cmp})) (sym (len-entries (empty {X = X} {R = nat_cmp})) ∙ len-empty nat_cmp X)

pub nothing_held : (r : ReceivingEnd) → held_bytes (cleared_receiver r).receiver ≡ 0
nothing_held r =
    let one = sum_of_empty {X = IncomingPacket} (λ c. c.making.total) in
    let two = sum_of_empty {X = FinMap nat_cmp IncomingPacket} bytes_of in
    omega arith

pub new_in_place : (most channel : ℕ) → most < 2 ^ 32 → IsInPlace most channel (new_end channel most)
new_in_place most channel small = record {
  channel = refl;
  max_packet = refl;
  front = omega arith;
  none_left = refl;
  light = (let none = nothing_held (new_end channel most) in omega arith);
  small = small;
  made = made_cleared most nothing_received;
}

cleared_in_place : (most channel : ℕ) (r : ReceivingEnd) → IsInPlace most channel r → IsInPlace most channel (cleared_receiver r)
cleared_in_place most channel r is = record {
  channel = is.channel;
  max_packet = is.max_packet;
  front = is.front;
  none_left = is.none_left;
  light = (let none = nothing_held r in omega arith);
  small = is.small;
  made = made_cleared most r.receiver;
}

pub none_held : (rs : List ReceivingEnd) → All (λ (r : ReceivingEnd). held_bytes r.receiver ≤ 0) rs → held_in rs ≡ 0
none_held rs h = let sum = sum_by-le (λ (r : ReceivingEnd). held_bytes r.receiver) 0 rs h in omega arith

-- an inbox to which nothing came
pub keeps_new : (channels most limit : ℕ) → channels < 256 → most < 2 ^ 32 → KeepsInbox (empty_inbox channels most limit) 0
keeps_new channels most limit few small =
    let ends : ℕ → ReceivingEnd = λ channel. new_end channel most in
    let at : (i : ℕ) (d : ReceivingEnd) → i < channels → get_or (map ends (range_with_len 0 channels)) i d ≡ ends i = λ i d h. get_or-map-range_with_len ends 0 channels i i d h (omega arith) in
    let len : length (map ends (range_with_len 0 channels)) ≡ channels = length-map-range_with_len ends 0 channels in
    record {
      receivers = λ i d h. subst (λ (r : ReceivingEnd). IsInPlace most i r) (sym (at i d (subst (λ n. i < n) len h))) (new_in_place most i small);
      few = omega arith;
      short = λ i d h. absurd (omega arith);
      counted =
          (let none = none_held (map ends (range_with_len 0 channels))
          (λ i d h. subst (λ (r : ReceivingEnd). held_bytes r.receiver ≤ 0) (sym (at i d (subst (λ n. i < n) len h))) (let z = nothing_held (ends i) in omega arith)) in
          omega arith);
    }

placed_cleared : (most : ℕ) (rs : List ReceivingEnd) → ((i : ℕ) (d : ReceivingEnd) → i < length rs → IsInPlace most i (get_or rs i d)) → (i : ℕ) (d : ReceivingEnd) → i < length (map cleared_receiver rs)
    → IsInPlace most i (get_or (map cleared_receiver rs) i d)
placed_cleared most rs is i d inside =
    let low : i < length rs = subst (λ n. i < n) (length-map rs cleared_receiver) inside in
    subst (λ (r : ReceivingEnd). IsInPlace most i r) (sym (get_or-map cleared_receiver rs i d d low)) (cleared_in_place most i (get_or rs i d) (is i d low))

pub cleared_none : (rs : List ReceivingEnd) → held_in (map cleared_receiver rs) ≡ 0
cleared_none rs = none_held (map cleared_receiver rs) (λ i d h.
    let low : i < length rs = subst (λ n. i < n) (length-map rs cleared_receiver) h in
    subst (λ (r : ReceivingEnd). held_bytes r.receiver ≤ 0) (sym (get_or-map cleared_receiver rs i d d low)) (let z = nothing_held (get_or rs i d) in omega arith))

-- all that is undispatched is dropped
pub keeps_cleared : (b : Inbox) (waiting : ℕ) → KeepsInbox b waiting → KeepsInbox (cleared b) (waiting - held_in b.receivers)
keeps_cleared b waiting k = record {
  receivers = placed_cleared b.max_packet b.receivers k.receivers;
  few = (let few = k.few in let len = length-map b.receivers cleared_receiver in omega arith);
  short = k.short;
  counted = (let counted = k.counted in let none = cleared_none b.receivers in omega arith);
}

pub all_held_counted : (b : Inbox) (waiting : ℕ) → KeepsInbox b waiting → held_in b.receivers ≤ waiting
all_held_counted b waiting k = let counted = k.counted in omega arith

-- and what wasn't taken
pub keeps_forgotten : (b : Inbox) (waiting : ℕ) → KeepsInbox b waiting → KeepsInbox (forgotten b) 0
keeps_forgotten b waiting k = record {
  receivers = placed_cleared b.max_packet b.receivers k.receivers;
  few = (let few = k.few in let len = length-map b.receivers cleared_receiver in omega arith);
  short = λ i d h. absurd (omega arith);
  counted = (let none = cleared_none b.receivers in omega arith);
}

placed_take : (most channels : ℕ) (rs : List ReceivingEnd) → ((i : ℕ) (d : ReceivingEnd) → i < length rs → IsInPlace most i (get_or rs i d)) → (i : ℕ) (d : ReceivingEnd) → i < length (take channels rs)
    → IsInPlace most i (get_or (take channels rs) i d)
placed_take most channels rs is i d inside =
    let len = length-take channels rs in
    let low : i < channels = omega arith in
    subst (λ (r : ReceivingEnd). IsInPlace most i r) (sym (get_or-take channels rs i d low)) (is i d (omega arith))

-- the channels from one on go
pub keeps_narrowed : (b : Inbox) (waiting channels : ℕ) → KeepsInbox b waiting → KeepsInbox (narrowed b channels) (waiting - held_in (drop channels b.receivers))
keeps_narrowed b waiting channels k = record {
  receivers = placed_take b.max_packet channels b.receivers k.receivers;
  few = (let few = k.few in let len = length-take channels b.receivers in omega arith);
  short = k.short;
  counted = (let counted = k.counted in let parts = sum_by-take-drop (λ (r : ReceivingEnd). held_bytes r.receiver) b.receivers channels in omega arith);
}

pub dropped_counted : (b : Inbox) (waiting channels : ℕ) → KeepsInbox b waiting → held_in (drop channels b.receivers) ≤ waiting
dropped_counted b waiting channels k = let counted = k.counted in let parts = sum_by-take-drop (λ (r : ReceivingEnd). held_bytes r.receiver) b.receivers channels in omega arith

-- a slice from an index on
pub rest_of : (channels : ℕ) (rs all : List ReceivingEnd) → all ≡ rs → held_in (take (length all - channels) (drop channels all)) ≡ held_in (drop channels rs)
rest_of channels rs all e =
    ap (λ (x : List ReceivingEnd). held_in x) (take_all (length all - channels) (drop channels all) (let n = length-drop channels all in omega arith))
    ∙ ap (λ (x : List ReceivingEnd). held_in (drop channels x)) e

has_on : (b : Inbox) (channel : ℕ) (c : DataCommand) (f : Foresight) (o : Option ReceivingEnd) → slice_get b.receivers channel ≡ o → foresight_on b c o ≡ Ok f → channel < length b.receivers
has_on b channel c f None at e = absurd (cc)
has_on b channel c f (Some r) at e = slice_get_within b.receivers channel r at

-- what is foreseen is of a channel
has_receiver : (b : Inbox) (channel : ℕ) (o : Option DataCommand) (f : Foresight) → foresight_of b channel o ≡ Ok f → channel < length b.receivers
has_receiver b channel None f e = absurd (cc)
has_receiver b channel (Some c) f e = has_on b channel c f (slice_get b.receivers channel) refl e

-- the receiver of a command's channel, where it takes the command in as was foreseen
abbrev pub Reached : Inbox → Head → Head → Option DataCommand → Foreseen → ReceivingEnd → Bool → Type 0
Reached b own h o what d full = (own.channel < length b.receivers) × Taken b h.channel o (foresight_in what) d full × IsInPlace b.max_packet own.channel d

-- what is kept is of a channel, and its receiver takes it in
pub taken_at : (b : Inbox) (waiting : ℕ) (own h : Head) (c : DataCommand) (what : Foreseen) (d : ReceivingEnd) (full : Bool) → KeepsInbox b waiting → own ≡ h
    → d ≡ get_or b.receivers own.channel d → full ≡ is_full_for b d c → foreseen_sequenced b h.channel (Some c) ≡ Ok what → what.kept ≡ true → Reached b own h (Some c) what d full
taken_at b waiting own h c what d full k is at same foreseen kept =
    let f = foresight_in what in
    let inner : foresight_of b h.channel (Some c) ≡ Ok f = foresight_is b h.channel (Some c) what foreseen kept in
    let channel : own.channel ≡ h.channel = ap (λ (x : Head). x.channel) is in
    let low : own.channel < length b.receivers = subst (λ n. n < length b.receivers) (sym channel) (has_receiver b h.channel (Some c) f inner) in
    let there : slice_get b.receivers own.channel ≡ Some d = slice_get_read b.receivers (length b.receivers) own.channel d refl low at in
    (low, taken b h.channel c f d full inner refl (ap (slice_get b.receivers) (sym channel) ∙ there) same, in_place b waiting own.channel d k there)

same_some : (d e : ReceivingEnd) → ◌≡◌ {A = Option ReceivingEnd} (Some d) (Some e) → d ≡ e
same_some d e h = cc

-- a receiver that is looked at twice
pub looked_at_twice : (rs : List ReceivingEnd) (channel : ℕ) (d e : ReceivingEnd) → channel < length rs → d ≡ get_or rs channel d → e ≡ get_or rs channel e → d ≡ e
looked_at_twice rs channel d e low at also =
    same_some d e (sym (slice_get_read rs (length rs) channel d refl low at) ∙ slice_get_read rs (length rs) channel e refl low also)

-- what is kept after it, where what the receiver holds is counted anew
pub kept_after : (b : Inbox) (waiting channel : ℕ) (d new : ReceivingEnd) (o : Option DataCommand) (full : Bool) (qs : List Packet) (bytes was now : ℕ) → KeepsInbox b waiting
    → channel < length b.receivers → d ≡ get_or b.receivers channel d → IsInPlace b.max_packet channel d → new ≡ emptied (after_command d o full)
    → was ≡ held_bytes d.receiver → now ≡ held_bytes new.receiver → now < 2 ^ 64 → All IsShort qs → bytes_in qs ≡ bytes_in b.untaken + bytes
    → KeepsInbox (record b { receivers = set b.receivers channel new; untaken = qs }) (waiting - was + now + bytes)
kept_after b waiting channel d new o full qs bytes was now k low at place is held holds light short more =
    let same : held_bytes new.receiver ≡ held_bytes (after_command d o full).receiver = ap (λ (r : ReceivingEnd). held_bytes r.receiver) is in
    let after = after_in_place b.max_packet channel d o full place (subst (λ n. n < 2 ^ 64) (holds ∙ same) light) in
    let new_place : IsInPlace b.max_packet channel new = subst (λ (r : ReceivingEnd). IsInPlace b.max_packet channel r) (sym is) after in
    let kept = keeps_taken b waiting channel d new qs bytes k low at new_place short more in
    subst (λ n. KeepsInbox (record b { receivers = set b.receivers channel new; untaken = qs }) (waiting - was + n + bytes)) (sym holds)
    (subst (λ n. KeepsInbox (record b { receivers = set b.receivers channel new; untaken = qs }) (waiting - n + held_bytes new.receiver + bytes)) (sym held) kept)

-- and where the receiver holds as much as before
pub kept_passed : (b : Inbox) (waiting channel : ℕ) (d new : ReceivingEnd) (o : Option DataCommand) (full : Bool) (qs : List Packet) (bytes : ℕ) → KeepsInbox b waiting
    → channel < length b.receivers → d ≡ get_or b.receivers channel d → IsInPlace b.max_packet channel d → new ≡ emptied (after_command d o full)
    → held_bytes new.receiver ≡ held_bytes d.receiver → All IsShort qs → bytes_in qs ≡ bytes_in b.untaken + bytes
    → KeepsInbox (record b { receivers = set b.receivers channel new; untaken = qs }) (waiting + bytes)
kept_passed b waiting channel d new o full qs bytes k low at place is same short more =
    let light = place.light in
    let counted = held_counted b waiting channel d k low at in
    let kept = kept_after b waiting channel d new o full qs bytes (held_bytes d.receiver) (held_bytes new.receiver) k low at place is refl refl (omega arith) short more in
    let counter : waiting - held_bytes d.receiver + held_bytes new.receiver + bytes ≡ waiting + bytes = omega arith in
    subst (λ n. KeepsInbox (record b { receivers = set b.receivers channel new; untaken = qs }) n) counter kept

-- the inbox after it
pub handed_at : (inside : Inbox) (own h : Head) (o : Option DataCommand) (f : Foresight) (d new : ReceivingEnd) (full : Bool) (qs : List Packet) → own ≡ h → Taken inside h.channel o f d full
    → IsInPlace inside.max_packet own.channel d → new ≡ emptied (after_command d o full) → qs ≡ inside.untaken ++ map (packet_of d.channel) (after_command d o full).receiver.dispatched
    → record inside { receivers = set inside.receivers own.channel new; untaken = qs } ≡ (sequenced inside h.channel o).after
handed_at inside own h o f d new full qs is t place e q =
    let channel : own.channel ≡ h.channel = ap (λ (x : Head). x.channel) is in
    let wire : d.channel ≡ h.channel = place.channel ∙ channel in
    (λ i. record inside { receivers = set inside.receivers (channel i) (e i); untaken = q i })
    ∙ ap (λ n. record inside { receivers = set inside.receivers h.channel (emptied (after_command d o full)); untaken = inside.untaken ++ map (packet_of n) (after_command d o full).receiver.dispatched }) wire
    ∙ sym t.after
