-- An inbox holds no more bytes than its bound.
use Rattle.std.proofs.Common.{◌≡◌, ℕ, suc, ◌+◌, ◌*◌, ◌^◌, ◌<◌, ◌≤◌, leb, Bool, true, false, cond, ◌||◌, Option, Some, None, List, [], ◌∷◌, ◌++◌, All, length, map, take, get_or, set, sum_by, refl, sym, ap, subst, arith}
use Rattle.std.specs.Prelude.{slice_get}
use Rattle.std.specs.List.{range_with_len}
use Rattle.std.proofs.Math.Nat.{mul-le-mul_right}
use Rattle.std.proofs.lemmas.Bool.Decides.{nat_tests}
use Rattle.std.proofs.lemmas.List.Elements.{All-head, All-tail}
use Rattle.std.proofs.lemmas.List.FromFn.{length-map-range_with_len, get_or-map-range_with_len}
use Rattle.std.proofs.lemmas.List.Sums.{sum_by-set, sum_by-cons, sum_by-append, sum_by_push, sum_by-take-drop}
use Rattle.std.proofs.lemmas.Option.{slice_get_within, get_or_from_slice_get}
use Rattle.std.specs.Ordering.{nat_cmp}
use Rattle.std.specs.FinMap.{FinMap}
use Rattle.enet_codec.specs.declared.packet.Packet.{Packet}
use Rattle.enet_unsequenced.specs.Groups.{Seen}
use Rattle.enet_fragment.specs.declared.data.DataCommand.{DataCommand}
use Rattle.enet_packets.specs.declared.incoming_packet.IncomingPacket.{IncomingPacket}
use Rattle.enet_packets.specs.declared.incoming_packet.Dispatched.{Dispatched}
use Rattle.enet_packets.specs.Packets.{bytes_of}
use Rattle.enet_receiver.specs.declared.took.Took.{Took}
use Rattle.enet_receiver.specs.declared.took.Took.TheVariants.{Held, Again, Outside, Bad, Waiting, Memory}
use Rattle.enet_receiver.specs.Receiver.{held_bytes}
use Rattle.enet_receiver.specs.DataOutcome.{is_next}
use Rattle.enet_receiver.specs.Foresight.{ReceivingEnd, new_end, outcome_for, after_command}
use Rattle.enet_receiver.specs.Room.{HasMade, dispatched_bytes, early_bytes, TakesRoom}
use Rattle.enet_receiver.proofs.Rooming.{takes_room, early_least, early_or_next}
use Rattle.enet_inbox.specs.Inbox.{Inbox, empty_inbox, is_full, is_full_for, is_full_of_untaken, is_at_limit, place_limit, places_of, untaken_of, waiting_of, cleared, cleared_receiver, forgotten, narrowed, given_way, given_way_receiver}
use Rattle.enet_inbox.specs.Bounds.{early_bytes_of, FewBytes}
use Rattle.enet_inbox.specs.DataEffect.{by_took, emptied, packet_of, sequenced, sequenced_on, handed_over}
use Rattle.enet_inbox.specs.Invariant.{IsInPlace, KeepsInbox}
use Rattle.enet_inbox.specs.Private.Invariant.{held_in, bytes_in}
use Rattle.enet_inbox.proofs.Keeping.{sum_of_empty, in_place, none_held, nothing_held, cleared_none}
use Rattle.enet_inbox.proofs.GivingWay.{held_then}

abbrev early_at : ReceivingEnd → ℕ
early_at r = early_bytes r.receiver

abbrev bytes_at : ReceivingEnd → ℕ
bytes_at r = held_bytes r.receiver

abbrev early_in : List ReceivingEnd → ℕ
early_in rs = sum_by early_at rs

abbrev MadeAt : ℕ → ReceivingEnd → Type 0
MadeAt most r = HasMade most r.receiver

-- ---- the packet that is dispatched next, and the others

early_leasts : (rs : List ReceivingEnd) → early_in rs ≤ held_in rs
early_leasts [] = omega arith
early_leasts (r ∷ rs) =
    let one = early_least r.receiver in
    let rest = early_leasts rs in
    let early = sum_by-cons early_at r rs in
    let all = sum_by-cons bytes_at r rs in
    omega arith

next_step : (a b e s n most : ℕ) → a ≤ e + most → b ≤ s + n * most → a + b ≤ e + s + suc n * most
next_step a b e s n most one rest = omega arith

early_or_nexts : (most : ℕ) (rs : List ReceivingEnd) → All (MadeAt most) rs → held_in rs ≤ early_in rs + length rs * most
early_or_nexts most [] made = omega arith
early_or_nexts most (r ∷ rs) made =
    let one = early_or_next most r.receiver (All-head (MadeAt most) r rs made) in
    let rest = early_or_nexts most rs (All-tail (MadeAt most) r rs made) in
    let early = sum_by-cons early_at r rs in
    let all = sum_by-cons bytes_at r rs in
    let step = next_step (bytes_at r) (held_in rs) (early_at r) (early_in rs) (length rs) most one rest in
    omega arith

all_made : (b : Inbox) (waiting : ℕ) → KeepsInbox b waiting → All (MadeAt b.max_packet) b.receivers
all_made b waiting k = λ i d h. (k.receivers i d h).made

nexts_most : (b : Inbox) (waiting : ℕ) → KeepsInbox b waiting → held_in b.receivers ≤ early_in b.receivers + 255 * b.max_packet
nexts_most b waiting k =
    let parts = early_or_nexts b.max_packet b.receivers (all_made b waiting k) in
    let few : length b.receivers * b.max_packet ≤ 255 * b.max_packet = mul-le-mul_right b.max_packet k.few in
    omega arith

-- what is at the receivers is of early packets, or of the next one of its channel
pub light_held : (b : Inbox) (waiting : ℕ) → KeepsInbox b waiting → FewBytes b → waiting_of b ≤ b.max_waiting + (length b.receivers + 1) * b.max_packet + untaken_of b
light_held b waiting k f =
    let parts = early_or_nexts b.max_packet b.receivers (all_made b waiting k) in
    let early = f.early in
    omega arith

-- ---- where there is room

room_left : (most bytes packets : ℕ) → is_at_limit most bytes packets ≡ false → bytes < most
room_left most bytes packets e = below most bytes (left (leb most bytes) (leb (place_limit most) packets) e)
  where
    left : (a b : Bool) → (a || b) ≡ false → a ≡ false
    left true b e = absurd (cc)
    left false b e = refl

    below : (limit n : ℕ) → leb limit n ≡ false → n < limit
    below limit n t = grind (arith, nat_tests)

-- ---- a command comes to a receiver

-- what changes at one receiver
record Changes (b : Inbox) (rs : List ReceivingEnd) (untaken more early : ℕ) : Type 0 where
  all : held_in rs + untaken ≤ waiting_of b + more
  early_too : early_in rs ≤ early_bytes_of b + early

-- so many more bytes, where there is room for a packet
light_by : (b : Inbox) (waiting : ℕ) (rs : List ReceivingEnd) (qs : List Packet) (full next : Bool) → FewBytes b → KeepsInbox b waiting
    → full ≡ cond next (is_full_of_untaken b) (is_full b) → Changes b rs (bytes_in qs) (cond full 0 b.max_packet) (cond (full || next) 0 b.max_packet)
    → FewBytes (record b { receivers = rs; untaken = qs })
light_by b waiting rs qs true next k kept is c = (let all = c.all in let early = c.early_too in let was = k.bytes in let was_early = k.early in record { early = omega arith; bytes = omega arith })
light_by b waiting rs qs false true k kept is c =
    let room : untaken_of b < b.max_waiting = room_left b.max_waiting (untaken_of b) (length b.untaken) (sym is) in
    let parts = nexts_most b waiting kept in
    let all = c.all in
    let early = c.early_too in
    let was_early = k.early in
    record { early = omega arith; bytes = omega arith }
light_by b waiting rs qs false false k kept is c =
    let room : waiting_of b < b.max_waiting = room_left b.max_waiting (waiting_of b) (places_of b) (sym is) in
    let parts = early_leasts b.receivers in
    let all = c.all in
    let early = c.early_too in
    record { early = omega arith; bytes = omega arith }

handed_bytes : (channel : ℕ) (ds : List Dispatched) → bytes_in (map (packet_of channel) ds) ≡ dispatched_bytes ds
handed_bytes channel [] = refl
handed_bytes channel (d ∷ ds) =
    let rest = handed_bytes channel ds in
    let one = sum_by-cons (λ (q : Packet). length q.body) (packet_of channel d) (map (packet_of channel) ds) in
    let all = sum_by-cons (λ (x : Dispatched). length x.body) d ds in
    omega arith

-- the receiver of a channel after a command
changed : (b : Inbox) (channel : ℕ) (r new : ReceivingEnd) (more early : ℕ) → channel < length b.receivers → get_or b.receivers channel r ≡ r → r.receiver.dispatched ≡ []
    → held_bytes new.receiver + dispatched_bytes new.receiver.dispatched ≤ held_bytes r.receiver + dispatched_bytes r.receiver.dispatched + more → early_bytes new.receiver ≤ early_bytes r.receiver + early
    → Changes b (set b.receivers channel (emptied new)) (bytes_in (b.untaken ++ map (packet_of channel) new.receiver.dispatched)) more early
changed b channel r new more early low at none all fewer =
    let out = sum_by-append (λ (q : Packet). length q.body) b.untaken (map (packet_of channel) new.receiver.dispatched) in
    let same = handed_bytes channel new.receiver.dispatched in
    let nothing : dispatched_bytes r.receiver.dispatched ≡ 0 = ap (λ (ds : List Dispatched). dispatched_bytes ds) none in
    let was : bytes_at (get_or b.receivers channel r) ≡ bytes_at r = ap bytes_at at in
    let was_early : early_at (get_or b.receivers channel r) ≡ early_at r = ap early_at at in
    let bytes = sum_by-set bytes_at b.receivers channel (emptied new) r low in
    let earlies = sum_by-set early_at b.receivers channel (emptied new) r low in
    record { all = omega arith; early_too = omega arith }

takes_at : (b : Inbox) (channel : ℕ) (r : ReceivingEnd) (c : DataCommand) (full : Bool) → IsInPlace b.max_packet channel r → TakesRoom b.max_packet full r.receiver c (after_command r (Some c) full).receiver
takes_at b channel r c full place =
    subst (λ n. TakesRoom n full r.receiver c (after_command r (Some c) full).receiver) place.max_packet
    (takes_room r.max_packet r.receiver c full (subst (λ n. n < 2 ^ 32) (sym place.max_packet) place.small) (subst (λ n. HasMade n r.receiver) (sym place.max_packet) place.made))

light_taken : (b : Inbox) (waiting channel : ℕ) (r : ReceivingEnd) (c : DataCommand) → FewBytes b → KeepsInbox b waiting → slice_get b.receivers channel ≡ Some r → IsInPlace b.max_packet channel r
    → FewBytes (handed_over b channel (after_command r (Some c) (is_full_for b r c)))
light_taken b waiting channel r c k kept at place =
    let full : Bool = is_full_for b r c in
    let new : ReceivingEnd = after_command r (Some c) (is_full_for b r c) in
    let takes = takes_at b channel r c (is_full_for b r c) place in
    light_by b waiting (set b.receivers channel (emptied new)) (b.untaken ++ map (packet_of channel) new.receiver.dispatched) full (is_next r.receiver c) k kept refl
    (changed b channel r new (cond full 0 b.max_packet) (cond (full || is_next r.receiver c) 0 b.max_packet) (slice_get_within b.receivers channel r at) (get_or_from_slice_get b.receivers channel r r at) place.none_left takes.all takes.early)

light_took : (t : Took) (b : Inbox) (waiting channel : ℕ) (r : ReceivingEnd) (c : DataCommand) → FewBytes b → KeepsInbox b waiting → slice_get b.receivers channel ≡ Some r → IsInPlace b.max_packet channel r
    → FewBytes (by_took t b channel r c).after
light_took Held b waiting channel r c k kept at place = light_taken b waiting channel r c k kept at place
light_took Again b waiting channel r c k kept at place = k
light_took Outside b waiting channel r c k kept at place = k
light_took Bad b waiting channel r c k kept at place = k
light_took Waiting b waiting channel r c k kept at place = k
light_took Memory b waiting channel r c k kept at place = k

light_on : (b : Inbox) (waiting channel : ℕ) (c : DataCommand) (o : Option ReceivingEnd) → FewBytes b → KeepsInbox b waiting → slice_get b.receivers channel ≡ o → FewBytes (sequenced_on b channel c o).after
light_on b waiting channel c None k kept at = k
light_on b waiting channel c (Some r) k kept at =
    light_took (outcome_for r (Some c) (is_full_for b r c)) b waiting channel r c k kept at (in_place b waiting channel r kept at)

-- a sequenced command comes
pub light_sequenced : (b : Inbox) (waiting channel : ℕ) (o : Option DataCommand) → FewBytes b → KeepsInbox b waiting → FewBytes (sequenced b channel o).after
light_sequenced b waiting channel None k kept = k
light_sequenced b waiting channel (Some c) k kept = light_on b waiting channel c (slice_get b.receivers channel) k kept refl

-- an unsequenced packet comes
pub light_unsequenced : (b : Inbox) (seen : Seen) (q : Packet) (qs : List Packet) → FewBytes b → is_full b ≡ false → length q.body ≤ b.max_packet → qs ≡ b.untaken ++ q ∷ [] → FewBytes (record b { seen = seen; untaken = qs })
light_unsequenced b seen q qs k full short e =
    let room : waiting_of b < b.max_waiting = room_left b.max_waiting (waiting_of b) (places_of b) full in
    let one = sum_by_push (λ (x : Packet). length x.body) b.untaken q in
    let more : bytes_in qs ≡ bytes_in (b.untaken ++ q ∷ []) = ap (λ (x : List Packet). bytes_in x) e in
    record { early = k.early; bytes = omega arith }

-- ---- what leaves room

-- an inbox that holds no more than one that is bounded
fewer_bytes : (b : Inbox) (rs : List ReceivingEnd) (qs : List Packet) → FewBytes b → held_in rs ≤ held_in b.receivers → early_in rs ≤ early_in b.receivers → bytes_in qs ≤ bytes_in b.untaken
    → FewBytes (record b { receivers = rs; untaken = qs })
fewer_bytes b rs qs k fewer earlier short = (let was = k.bytes in let was_early = k.early in record { early = omega arith; bytes = omega arith })

-- the next packet is taken
pub light_popped : (b : Inbox) (q : Packet) (qs : List Packet) → FewBytes b → b.untaken ≡ q ∷ qs → FewBytes (record b { untaken = qs })
light_popped b q qs k e =
    let sum = sum_by-cons (λ (x : Packet). length x.body) q qs in
    let same : bytes_in b.untaken ≡ bytes_in (q ∷ qs) = ap (λ (x : List Packet). bytes_in x) e in
    fewer_bytes b b.receivers qs k (omega arith) (omega arith) (omega arith)

pub light_cleared : (b : Inbox) → FewBytes b → FewBytes (cleared b)
light_cleared b k =
    let none = cleared_none b.receivers in
    let early = early_leasts (map cleared_receiver b.receivers) in
    fewer_bytes b (map cleared_receiver b.receivers) b.untaken k (omega arith) (omega arith) (omega arith)

pub light_forgotten : (b : Inbox) → FewBytes b → FewBytes (forgotten b)
light_forgotten b k =
    let none = cleared_none b.receivers in
    let early = early_leasts (map cleared_receiver b.receivers) in
    fewer_bytes b (map cleared_receiver b.receivers) [] k (omega arith) (omega arith) (omega arith)

pub light_narrowed : (b : Inbox) (channels : ℕ) → FewBytes b → FewBytes (narrowed b channels)
light_narrowed b channels k =
    let bytes = sum_by-take-drop bytes_at b.receivers channels in
    let earlies = sum_by-take-drop early_at b.receivers channels in
    fewer_bytes b (take channels b.receivers) b.untaken k (omega arith) (omega arith) (omega arith)

-- nothing came yet
pub light_new : (channels most limit : ℕ) → FewBytes (empty_inbox channels most limit)
light_new channels most limit =
    let ends : ℕ → ReceivingEnd = λ channel. new_end channel most in
    let count : length (map ends (range_with_len 0 channels)) ≡ channels = length-map-range_with_len ends 0 channels in
    let none : held_in (map ends (range_with_len 0 channels)) ≡ 0 = none_held (map ends (range_with_len 0 channels)) (λ i d h.
    let at : get_or (map ends (range_with_len 0 channels)) i d ≡ ends i = get_or-map-range_with_len ends 0 channels i i d (subst (λ n. i < n) count h) (omega arith) in
    subst (λ (r : ReceivingEnd). bytes_at r ≤ 0) (sym at) (let z = nothing_held (ends i) in omega arith)) in
    let early = early_leasts (map ends (range_with_len 0 channels)) in
    record { early = omega arith; bytes = omega arith }

-- the unreliable packets that wait give way
given_way_early : (rs : List ReceivingEnd) → early_in (map given_way_receiver rs) ≤ early_in rs
given_way_early [] = omega arith
given_way_early (r ∷ rs) =
    let nothing = sum_of_empty {X = FinMap nat_cmp IncomingPacket} bytes_of in
    let rest = given_way_early rs in
    let early_then = sum_by-cons early_at (given_way_receiver r) (map given_way_receiver rs) in
    let early = sum_by-cons early_at r rs in
    omega arith

pub light_given_way : (b : Inbox) → FewBytes b → FewBytes (given_way b)
light_given_way b k =
    let fewer = held_then b.receivers in
    let early = given_way_early b.receivers in
    fewer_bytes b (map given_way_receiver b.receivers) b.untaken k (omega arith) early (omega arith)
