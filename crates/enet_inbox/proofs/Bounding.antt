-- An inbox holds no more packets than its bound.
use Rattle.std.proofs.Common.{◌≡◌, ℕ, suc, ◌+◌, ◌-◌, ◌<◌, ◌≤◌, leb, Bool, true, false, cond, ◌||◌, Option, Some, None, List, [], ◌∷◌, ◌++◌, All, length, map, take, get_or, set, sum_by, refl, sym, ap, subst, arith, length-append}
use Rattle.std.specs.Prelude.{slice_get}
use Rattle.std.specs.List.{range_with_len}
use Rattle.std.proofs.lemmas.Bool.Decides.{nat_tests}
use Rattle.std.proofs.lemmas.List.{get_or-map, length-map}
use Rattle.std.proofs.lemmas.List.FromFn.{length-map-range_with_len, get_or-map-range_with_len}
use Rattle.std.proofs.lemmas.List.Sums.{sum_by-le, sum_by-set, sum_by-cons, sum_by-take-drop}
use Rattle.std.proofs.lemmas.Option.{slice_get_within, get_or_from_slice_get}
use Rattle.std.specs.Ordering.{nat_cmp}
use Rattle.std.specs.Cmp.{nat_cmp_total}
use Rattle.std.specs.FinMap.{FinMap, len, remove, contains_key, len-remove, len-empty}
use Rattle.enet_codec.specs.declared.packet.Packet.{Packet}
use Rattle.enet_seq.specs.Windows.{after}
use Rattle.enet_unsequenced.specs.Groups.{Seen}
use Rattle.enet_fragment.specs.declared.data.DataCommand.{DataCommand}
use Rattle.enet_packets.specs.declared.incoming_packet.IncomingPacket.{IncomingPacket}
use Rattle.enet_packets.specs.declared.incoming_packet.Dispatched.{Dispatched}
use Rattle.enet_receiver.specs.declared.took.Took.{Took}
use Rattle.enet_receiver.specs.declared.took.Took.TheVariants.{Held, Again, Outside, Bad, Waiting, Memory}
use Rattle.enet_receiver.specs.Receiver.{Receiver, held_packets}
use Rattle.enet_receiver.specs.DataOutcome.{is_next}
use Rattle.enet_receiver.specs.Foresight.{ReceivingEnd, new_end, outcome_for, after_command}
use Rattle.enet_receiver.specs.Places.{early_packets, TakesAPlace}
use Rattle.enet_receiver.proofs.Placing.{takes_a_place}
use Rattle.enet_receiver.proofs.Rooming.{have_pieces}
use Rattle.enet_inbox.specs.Inbox.{Inbox, empty_inbox, is_full, is_full_for, is_full_of_untaken, is_at_limit, place_limit, places_of, untaken_of, waiting_of, cleared, cleared_receiver, forgotten, narrowed, given_way, given_way_receiver}
use Rattle.enet_inbox.specs.Bounds.{early_of, FewPackets}
use Rattle.enet_inbox.specs.DataEffect.{by_took, emptied, packet_of, sequenced, sequenced_on, handed_over}
use Rattle.enet_inbox.specs.Invariant.{IsInPlace, KeepsInbox, packets_in}
use Rattle.enet_inbox.proofs.Keeping.{sum_of_empty, in_place}
use Rattle.enet_inbox.proofs.Counting.{packets_alone}

abbrev early_at : ReceivingEnd → ℕ
early_at r = early_packets r.receiver

abbrev packets_at : ReceivingEnd → ℕ
packets_at r = held_packets r.receiver

-- ---- the packet that is dispatched next, and the others

removed_by : (b : Bool) (n : ℕ) → (cond b (n - 1) n ≤ n) × (n ≤ cond b (n - 1) n + 1)
removed_by true n = (omega arith, omega arith)
removed_by false n = (omega arith, omega arith)

pub early_or_next : (r : Receiver) → (early_packets r ≤ held_packets r) × (held_packets r ≤ early_packets r + 1)
early_or_next r =
    let k : ℕ = after r.front 1 in
    let parts = removed_by (contains_key r.held (after r.front 1)) (len r.held) in
    let is = len-remove nat_cmp_total r.held (after r.front 1) in
    let low : len (remove r.held (after r.front 1)) ≤ len r.held = subst (λ n. n ≤ len r.held) (sym is) parts.0 in
    let high : len r.held ≤ len (remove r.held (after r.front 1)) + 1 = subst (λ n. len r.held ≤ n + 1) (sym is) parts.1 in
    (omega arith, omega arith)

early_or_nexts : (rs : List ReceivingEnd) → (sum_by early_at rs ≤ packets_in rs) × (packets_in rs ≤ sum_by early_at rs + length rs)
early_or_nexts [] = (omega arith, omega arith)
early_or_nexts (r ∷ rs) =
    let one = early_or_next r.receiver in
    let rest = early_or_nexts rs in
    let early = sum_by-cons early_at r rs in
    let all = sum_by-cons packets_at r rs in
    let a = one.0 in
    let b = one.1 in
    let c = rest.0 in
    let d = rest.1 in
    (omega arith, omega arith)

-- what is at the receivers is an early packet, or the next one of its channel
pub few_held : (b : Inbox) → FewPackets b → packets_in b.receivers ≤ place_limit b.max_waiting + length b.receivers
few_held b k = (let parts = (early_or_nexts b.receivers).1 in let early = k.early in omega arith)

-- ---- where there is room

room_left : (most bytes packets : ℕ) → is_at_limit most bytes packets ≡ false → packets < place_limit most
room_left most bytes packets e =
    let test : leb (place_limit most) packets ≡ false = right (leb most bytes) (leb (place_limit most) packets) e in
    below (place_limit most) packets test
  where
    right : (a b : Bool) → (a || b) ≡ false → b ≡ false
    right true b e = absurd (cc)
    right false b e = e

    below : (limit n : ℕ) → leb limit n ≡ false → n < limit
    below limit n t = grind (arith, nat_tests)

-- ---- a command comes to a receiver

-- what changes at one receiver
pub record Changes (b : Inbox) (rs : List ReceivingEnd) (untaken more early : ℕ) : Type 0 where
  pub all : packets_in rs + untaken ≤ places_of b + more
  pub early_too : sum_by early_at rs ≤ early_of b + early

-- so many more packets, where there is room for so many
few_by : (b : Inbox) (rs : List ReceivingEnd) (qs : List Packet) (full next : Bool) → FewPackets b → length b.receivers ≤ 255
    → full ≡ cond next (is_full_of_untaken b) (is_full b) → Changes b rs (length qs) (cond full 0 1) (cond (full || next) 0 1)
    → FewPackets (record b { receivers = rs; untaken = qs })
few_by b rs qs true next k few is c = (let all = c.all in let early = c.early_too in let was = k.places in let was_early = k.early in record { early = omega arith; places = omega arith })
few_by b rs qs false true k few is c =
    let room : length b.untaken < place_limit b.max_waiting = room_left b.max_waiting (untaken_of b) (length b.untaken) (sym is) in
    let parts = (early_or_nexts b.receivers).1 in
    let all = c.all in
    let early = c.early_too in
    let was_early = k.early in
    record { early = omega arith; places = omega arith }
few_by b rs qs false false k few is c =
    let room : places_of b < place_limit b.max_waiting = room_left b.max_waiting (waiting_of b) (places_of b) (sym is) in
    let parts = (early_or_nexts b.receivers).0 in
    let all = c.all in
    let early = c.early_too in
    record { early = omega arith; places = omega arith }

-- the receiver of a channel after a command
changed : (b : Inbox) (channel : ℕ) (r new : ReceivingEnd) (more early : ℕ) → channel < length b.receivers → get_or b.receivers channel r ≡ r → r.receiver.dispatched ≡ []
    → held_packets new.receiver + length new.receiver.dispatched ≤ held_packets r.receiver + length r.receiver.dispatched + more → early_packets new.receiver ≤ early_packets r.receiver + early
    → Changes b (set b.receivers channel (emptied new)) (length (b.untaken ++ map (packet_of channel) new.receiver.dispatched)) more early
changed b channel r new more early low at none all fewer =
    let out = length-append b.untaken (map (packet_of channel) new.receiver.dispatched) in
    let same = length-map new.receiver.dispatched (packet_of channel) in
    let nothing : length r.receiver.dispatched ≡ 0 = ap (λ (ds : List Dispatched). length ds) none in
    let was : packets_at (get_or b.receivers channel r) ≡ packets_at r = ap packets_at at in
    let was_early : early_at (get_or b.receivers channel r) ≡ early_at r = ap early_at at in
    let packets = sum_by-set packets_at b.receivers channel (emptied new) r low in
    let earlies = sum_by-set early_at b.receivers channel (emptied new) r low in
    record { all = omega arith; early_too = omega arith }

pub few_taken : (b : Inbox) (channel : ℕ) (r : ReceivingEnd) (c : DataCommand) → FewPackets b → length b.receivers ≤ 255 → slice_get b.receivers channel ≡ Some r → IsInPlace b.max_packet channel r
    → FewPackets (handed_over b channel (after_command r (Some c) (is_full_for b r c)))
few_taken b channel r c k few at place =
    let full : Bool = is_full_for b r c in
    let new : ReceivingEnd = after_command r (Some c) (is_full_for b r c) in
    let takes : TakesAPlace (is_full_for b r c) r.receiver c (after_command r (Some c) (is_full_for b r c)).receiver = takes_a_place r.max_packet r.receiver c (is_full_for b r c) (have_pieces b.max_packet r.receiver place.made) in
    few_by b (set b.receivers channel (emptied new)) (b.untaken ++ map (packet_of channel) new.receiver.dispatched) full (is_next r.receiver c) k few refl
    (changed b channel r new (cond full 0 1) (cond (full || is_next r.receiver c) 0 1) (slice_get_within b.receivers channel r at) (get_or_from_slice_get b.receivers channel r r at) place.none_left takes.all takes.early)

few_took : (t : Took) (b : Inbox) (channel : ℕ) (r : ReceivingEnd) (c : DataCommand) → FewPackets b → length b.receivers ≤ 255 → slice_get b.receivers channel ≡ Some r → IsInPlace b.max_packet channel r
    → FewPackets (by_took t b channel r c).after
few_took Held b channel r c k few at place = few_taken b channel r c k few at place
few_took Again b channel r c k few at place = k
few_took Outside b channel r c k few at place = k
few_took Bad b channel r c k few at place = k
few_took Waiting b channel r c k few at place = k
few_took Memory b channel r c k few at place = k

few_on : (b : Inbox) (waiting channel : ℕ) (c : DataCommand) (o : Option ReceivingEnd) → FewPackets b → KeepsInbox b waiting → slice_get b.receivers channel ≡ o → FewPackets (sequenced_on b channel c o).after
few_on b waiting channel c None k kept at = k
few_on b waiting channel c (Some r) k kept at =
    few_took (outcome_for r (Some c) (is_full_for b r c)) b channel r c k kept.few at (in_place b waiting channel r kept at)

-- a sequenced command comes
pub few_sequenced : (b : Inbox) (waiting channel : ℕ) (o : Option DataCommand) → FewPackets b → KeepsInbox b waiting → FewPackets (sequenced b channel o).after
few_sequenced b waiting channel None k kept = k
few_sequenced b waiting channel (Some c) k kept = few_on b waiting channel c (slice_get b.receivers channel) k kept refl

-- an unsequenced packet comes
pub few_unsequenced : (b : Inbox) (seen : Seen) (q : Packet) (qs : List Packet) → FewPackets b → is_full b ≡ false → qs ≡ b.untaken ++ q ∷ [] → FewPackets (record b { seen = seen; untaken = qs })
few_unsequenced b seen q qs k full e =
    let room : places_of b < place_limit b.max_waiting = room_left b.max_waiting (waiting_of b) (places_of b) full in
    let one = length-append b.untaken (q ∷ []) in
    let more : length qs ≡ length (b.untaken ++ q ∷ []) = ap (λ (x : List Packet). length x) e in
    record { early = k.early; places = omega arith }

-- ---- what leaves room

-- an inbox that holds no more than one that is bounded
pub fewer_bounded : (b : Inbox) (rs : List ReceivingEnd) (qs : List Packet) → FewPackets b → packets_in rs ≤ packets_in b.receivers → sum_by early_at rs ≤ sum_by early_at b.receivers → length qs ≤ length b.untaken
    → FewPackets (record b { receivers = rs; untaken = qs })
fewer_bounded b rs qs k fewer earlier short = (let was = k.places in let was_early = k.early in record { early = omega arith; places = omega arith })

-- the next packet is taken
pub few_popped : (b : Inbox) (q : Packet) (qs : List Packet) → FewPackets b → b.untaken ≡ q ∷ qs → FewPackets (record b { untaken = qs })
few_popped b q qs k e =
    let one : length b.untaken ≡ suc (length qs) = ap (λ (x : List Packet). length x) e in
    fewer_bounded b b.receivers qs k (omega arith) (omega arith) (omega arith)

nothing_at : (r : ReceivingEnd) → packets_at (cleared_receiver r) ≡ 0
nothing_at r =
    let one = len-empty nat_cmp IncomingPacket in
    let two = sum_of_empty {X = FinMap nat_cmp IncomingPacket} len in
    omega arith

none_in : (rs : List ReceivingEnd) → All (λ (r : ReceivingEnd). packets_at r ≤ 0) rs → (packets_in rs ≡ 0) × (sum_by early_at rs ≡ 0)
none_in rs h =
    let sum = sum_by-le packets_at 0 rs h in
    let parts = (early_or_nexts rs).0 in
    (omega arith, omega arith)

cleared_in : (rs : List ReceivingEnd) → (packets_in (map cleared_receiver rs) ≡ 0) × (sum_by early_at (map cleared_receiver rs) ≡ 0)
cleared_in rs = none_in (map cleared_receiver rs) (λ i d h.
    let low : i < length rs = subst (λ n. i < n) (length-map rs cleared_receiver) h in
    subst (λ (r : ReceivingEnd). packets_at r ≤ 0) (sym (get_or-map cleared_receiver rs i d d low)) (let z = nothing_at (get_or rs i d) in omega arith))

pub few_cleared : (b : Inbox) → FewPackets b → FewPackets (cleared b)
few_cleared b k =
    let none = cleared_in b.receivers in
    let no_packets = none.0 in
    let no_early = none.1 in
    fewer_bounded b (map cleared_receiver b.receivers) b.untaken k (omega arith) (omega arith) (omega arith)

pub few_forgotten : (b : Inbox) → FewPackets b → FewPackets (forgotten b)
few_forgotten b k =
    let none = cleared_in b.receivers in
    let no_packets = none.0 in
    let no_early = none.1 in
    fewer_bounded b (map cleared_receiver b.receivers) [] k (omega arith) (omega arith) (omega arith)

pub few_narrowed : (b : Inbox) (channels : ℕ) → FewPackets b → FewPackets (narrowed b channels)
few_narrowed b channels k =
    let packets = sum_by-take-drop packets_at b.receivers channels in
    let earlies = sum_by-take-drop early_at b.receivers channels in
    fewer_bounded b (take channels b.receivers) b.untaken k (omega arith) (omega arith) (omega arith)

-- nothing came yet
pub few_new : (channels most limit : ℕ) → FewPackets (empty_inbox channels most limit)
few_new channels most limit =
    let ends : ℕ → ReceivingEnd = λ channel. new_end channel most in
    let count : length (map ends (range_with_len 0 channels)) ≡ channels = length-map-range_with_len ends 0 channels in
    let none = none_in (map ends (range_with_len 0 channels)) (λ i d h.
    let at : get_or (map ends (range_with_len 0 channels)) i d ≡ ends i = get_or-map-range_with_len ends 0 channels i i d (subst (λ n. i < n) count h) (omega arith) in
    subst (λ (r : ReceivingEnd). packets_at r ≤ 0) (sym at) (let z = nothing_at (ends i) in omega arith)) in
    let no_packets = none.0 in
    let no_early = none.1 in
    record { early = omega arith; places = omega arith }

-- the unreliable packets that wait give way
given_way_in : (rs : List ReceivingEnd) → (packets_in (map given_way_receiver rs) ≤ packets_in rs) × (sum_by early_at (map given_way_receiver rs) ≤ sum_by early_at rs)
given_way_in [] = (omega arith, omega arith)
given_way_in (r ∷ rs) =
    let one = packets_alone r in
    let nothing = sum_of_empty {X = FinMap nat_cmp IncomingPacket} len in
    let rest = given_way_in rs in
    let a = rest.0 in
    let b = rest.1 in
    let packets_then = sum_by-cons packets_at (given_way_receiver r) (map given_way_receiver rs) in
    let packets = sum_by-cons packets_at r rs in
    let early_then = sum_by-cons early_at (given_way_receiver r) (map given_way_receiver rs) in
    let early = sum_by-cons early_at r rs in
    (omega arith, omega arith)

pub few_given_way : (b : Inbox) → FewPackets b → FewPackets (given_way b)
few_given_way b k =
    let fewer = given_way_in b.receivers in
    let a = fewer.0 in
    let e = fewer.1 in
    fewer_bounded b (map given_way_receiver b.receivers) b.untaken k a e (omega arith)
