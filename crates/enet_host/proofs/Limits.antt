-- What is true of each peer of a host, and lasts, whatever a call does: that it keeps the limits of the host's settings, and that it is noted
-- when a peer that waits for its client was made, and where its connection is found.
use Rattle.std.proofs.Common.{◌≡◌, ℕ, zero, suc, ◌+◌, ◌%◌, ◌^◌, ◌<◌, ◌&&◌, ◌==◌, Bool, true, false, cond, nat_lt, if◌then◌else◌, Option, Some, None, Result, Ok, Err, List, [], ◌∷◌, length, map, replicate, slice_set, get_or, arith, refl, sym, ap, subst, ◌∙◌}
use Rattle.std.proofs.lemmas.Bool.Decides.{nat_tests}
use Rattle.std.proofs.lemmas.List.{length-set}
use Rattle.std.proofs.lemmas.Option.{slice_get_within, slice_get-get_or}
use Rattle.std.specs.List.{slice_get, count_by}
use Rattle.enet_codec.specs.declared.address.Addr.{Addr}
use Rattle.enet_codec.specs.declared.config.Config.{Config}
use Rattle.enet_codec.specs.declared.event.DisconnectMode.{DisconnectMode}
use Rattle.enet_codec.specs.declared.event.DisconnectMode.TheVariants.{Now, Ask, Later}
use Rattle.enet_codec.specs.declared.event.Event.{Event}
use Rattle.enet_codec.specs.declared.event.PeerRef.{PeerRef}
use Rattle.enet_codec.specs.declared.event.Received.{Received}
use Rattle.enet_codec.specs.declared.refusal.Refusal.{Refusal}
use Rattle.enet_codec.specs.declared.command.Offer.{Offer}
use Rattle.enet_sender.specs.CommandChoice.{Packet}
use Rattle.enet_peer.specs.declared.parts.PeerState.{PeerState}
use Rattle.enet_peer.specs.declared.parts.PeerState.TheVariants as state
use Rattle.enet_peer.specs.Peering.{Peering}
use Rattle.enet_peer.specs.Peering as peers
use Rattle.enet_peer.specs.Calls.{is_answering, is_connected, with_throttle, with_throttle_limit, with_ping_interval, with_timeout}
use Rattle.enet_peer.specs.Calls as calls
use Rattle.enet_peer.specs.Handling.{Arrival}
use Rattle.enet_peer.specs.Held.{HasLimits}
use Rattle.enet_peer.specs.CommandEffect.{is_connecting}
use Rattle.enet_peer.proofs.Limited.{Mark, IsOf, Follows, untold, hears-lasts, left-lasts, put-out-lasts, taken-lasts, moved-lasts}
use Rattle.enet_slot.specs.Slot.{SlotState, with_peer, with_peer_in, with_changed, changed}
use Rattle.enet_slot.specs.Giving.{limits_of, unused_slot, joined_terms, given, Basis, asking, answering}
use Rattle.enet_slot.specs.Receiving.{PeerReceives}
use Rattle.enet_slot.specs.Yielding.{answers_in, readied, yields}
use Rattle.enet_slot.specs.declared.giving.Question.{Question}
use Rattle.enet_slot.specs.Emitting.{PeerEmits, passes_by, with_emitted}
use Rattle.enet_slot.specs.Sharing.{is_standing, limit_for, with_limit, shared}
use Rattle.enet_outbox.specs.declared.parts.SendLimit.{SendLimit}
use Rattle.enet_slot.proofs.Fullness.{unless_full-ok}
use Rattle.enet_slot.specs.Calls.{kept, on_peer_in, Submits, Does, DoesWithMemory, GivesEvent, submission, submitted_unless, unless_full, leaving, left_by, or_not_connected, throttling, pinging, waiting}
use Rattle.enet_host.specs.Calls.{put_back, on_slot, on_named}
use Rattle.enet_host.specs.Held.{AreLimited, IsLimitedIn}
use Rattle.enet_sleepers.specs.Seating.{Seating, IsFound, IsSeated, KeepsSeats}
use Rattle.enet_sleepers.specs.Unproved.{Waiting, KeepsUnproved, IsNoted, YieldNowhere}
use Rattle.enet_host.specs.Host.{with_generation}
use Rattle.enet_host.specs.Opening.{joined, seat, Connects, no_channel, no_slot, no_memory, asks}
use Rattle.enet_host.specs.Private.Shown.{SlotGivesEvent}
use Rattle.enet_host.specs.Receiving as receiving
use Rattle.enet_host.specs.Receiving.{Offers, Arrives}
use Rattle.enet_host.specs.Serving.{InTurn, Served, EmitsInTurn, AllPass}
use Rattle.enet_host.specs.Turns.{turn_of}
use Rattle.enet_host.specs.Ticking.{all_moved}
use Rattle.enet_host.proofs.Moving.{slot_moved}
use Rattle.enet_host.proofs.Turning.{turns-apart}

-- ---- one slot

-- of a slot's peer: its generation and its address
pub record Tag : Type 0 where
  pub generation : ℕ
  pub address : Addr

abbrev pub tag_of : SlotState → Tag
tag_of s = record { generation = s.generation; address = s.address }

-- what is said of a slot's peer, by the slot's number and this
abbrev HoldsIn : (ℕ → Tag → Peering → Type 0) → ℕ → Tag → Option Peering → Type 0
HoldsIn P i g None = Unit {0}
HoldsIn P i g (Some p) = P i g p

abbrev Holds : (ℕ → Tag → Peering → Type 0) → ℕ → SlotState → Type 0
Holds P i s = HoldsIn P i (tag_of s) s.peer

abbrev pub AllHold : (ℕ → Tag → Peering → Type 0) → List SlotState → Type 0
AllHold P slots = (i : ℕ) (s : SlotState) → slice_get slots i ≡ Some s → Holds P i s

-- it lasts with the peer
abbrev pub Lasting : (ℕ → Tag → Peering → Type 0) → Type 0
Lasting P = (i : ℕ) (g : Tag) (p q : Peering) → Follows p q → P i g p → P i g q

holds-as : (P : ℕ → Tag → Peering → Type 0) (st : PeerState) (i : ℕ) (s : SlotState) (q : Peering) → P i (tag_of s) q → Holds P i (with_peer_in st s q)
holds-as P state.Free i s q h = tt
holds-as P state.Connecting i s q h = h
holds-as P state.Answering i s q h = h
holds-as P state.Connected i s q h = h
holds-as P state.DisconnectLater i s q h = h
holds-as P state.Disconnecting i s q h = h
holds-as P state.AckDisconnect i s q h = h
holds-as P state.Ended i s q h = h
holds-as P state.Parting i s q h = h

peer-holds : (P : ℕ → Tag → Peering → Type 0) (i : ℕ) (s : SlotState) (q : Peering) → P i (tag_of s) q → Holds P i (with_peer s q)
peer-holds P i s q h = holds-as P q.state i s q h

-- what a slot holds, said of its peer
of-peer : (P : ℕ → Tag → Peering → Type 0) (i : ℕ) (s : SlotState) (p : Peering) → s.peer ≡ Some p → Holds P i s → P i (tag_of s) p
of-peer P i s p e h = subst (HoldsIn P i (tag_of s)) e h

-- ---- one of the slots, or each

set-holds : (P : ℕ → Tag → Peering → Type 0) (slots : List SlotState) (i : ℕ) (t : SlotState) → AllHold P slots → Holds P i t → AllHold P (slice_set slots i t)
set-holds P [] i t old one j s there = old j s there
set-holds P (z ∷ slots) zero t old one zero s there = let same : t ≡ s = cc in subst (Holds P zero) same one
set-holds P (z ∷ slots) zero t old one (suc j) s there = old (suc j) s there
set-holds P (z ∷ slots) (suc i) t old one zero s there = old zero s there
set-holds P (z ∷ slots) (suc i) t old one (suc j) s there = set-holds (λ k g p. P (suc k) g p) slots i t (λ k u a. old (suc k) u a) one j s there

map-holds : (P : ℕ → Tag → Peering → Type 0) (f : SlotState → SlotState) (slots : List SlotState) → ((i : ℕ) (s : SlotState) → Holds P i s → Holds P i (f s)) → AllHold P slots → AllHold P (map f slots)
map-holds P f [] each old i s there = absurd (cc)
map-holds P f (z ∷ slots) each old zero s there = let same : f z ≡ s = cc in subst (Holds P zero) same (each zero z (old zero z refl))
map-holds P f (z ∷ slots) each old (suc i) s there = map-holds (λ k g p. P (suc k) g p) f slots (λ k u h. each (suc k) u h) (λ k u a. old (suc k) u a) i s there

changed-in : (P : ℕ → Tag → Peering → Type 0) (change : Peering → Peering) (i : ℕ) (s : SlotState) (o : Option Peering) → ((p : Peering) → P i (tag_of s) p → P i (tag_of s) (change p)) → s.peer ≡ o → HoldsIn P i (tag_of s) o
    → Holds P i (with_changed change s o)
changed-in P change i s None each e h = subst (HoldsIn P i (tag_of s)) (sym e) tt
changed-in P change i s (Some p) each e h = peer-holds P i s (change p) (each p h)

pub changed-holds : (P : ℕ → Tag → Peering → Type 0) → Lasting P → (change : Peering → Peering) (slots : List SlotState) → ((p : Peering) → Follows p (change p)) → AllHold P slots → AllHold P (map (changed change) slots)
changed-holds P lasts change slots each old = map-holds P (changed change) slots (λ i s h. changed-in P change i s s.peer (λ p was. lasts i (tag_of s) p (change p) (each p) was) refl h) old

shared-in : (P : ℕ → Tag → Peering → Type 0) → Lasting P → (i : ℕ) (g : Tag) (outgoing standing emitted : ℕ) (o : Option Peering) → HoldsIn P i g o → HoldsIn P i g (with_limit outgoing standing emitted o)
shared-in P lasts i g outgoing standing emitted None h = tt
shared-in P lasts i g outgoing standing emitted (Some p) h = by (is_connected p.state)
  where
    limited : Peering
    limited = with_throttle_limit p (limit_for outgoing standing emitted p)

    by : (b : Bool) → P i g (cond b limited p)
    by true = lasts i g p limited (λ k was. was) h
    by false = h

shared-holds : (P : ℕ → Tag → Peering → Type 0) → Lasting P → (outgoing standing : ℕ) (slots : List SlotState) → AllHold P slots → AllHold P (map (shared outgoing standing) slots)
shared-holds P lasts outgoing standing slots old = map-holds P (shared outgoing standing) slots (λ i s h. shared-in P lasts i (tag_of s) outgoing standing s.emitted s.peer h) old

-- ---- a call of the user on the peer that a name means

-- what such a call keeps
abbrev pub Keeps : (Peering → Result Peering Refusal) → Type 0
Keeps call = (p q : Peering) → call p ≡ Ok q → Follows p q

done : (p q r : Peering) → Follows p q → ◌≡◌ {A = Result Peering Refusal} (Ok q) (Ok r) → Follows p r
done p q r h e = let same : q ≡ r = cc in subst (Follows p) same h

pub submission-keeps : (channel : ℕ) (packet : Packet) → Keeps (submission channel packet)
submission-keeps channel packet p q e = by (calls.submission_refusal p channel (length packet.body)) e
  where
    by : (o : Option Refusal) → submitted_unless p channel packet o ≡ Ok q → Follows p q
    by None e = done p (calls.submitted p channel packet) q (λ k h. h) e
    by (Some why) e = absurd (cc)

pub unless_full-keeps : (limit : Option SendLimit) (call : Peering → Result Peering Refusal) → Keeps call → Keeps (unless_full limit call)
unless_full-keeps limit call keeps p q e = keeps p q (unless_full-ok limit call p q e)

left-of : (p : Peering) (o : Option Peering) (q : Peering) → ((r : Peering) → o ≡ Some r → Follows p r) → or_not_connected o ≡ Ok q → Follows p q
left-of p None q each e = absurd (cc)
left-of p (Some r) q each e = done p r q (each r refl) e

pub leaving-keeps : (mode : DisconnectMode) (info : ℕ) → Keeps (leaving mode info)
leaving-keeps Now info p q e = left-of p (left_by Now p info) q (λ r is k h. left-lasts k (calls.leave_now p.state) p r info h is) e
leaving-keeps Ask info p q e = left-of p (left_by Ask p info) q (λ r is k h. left-lasts k (calls.leave_by_asking p.state) p r info h is) e
leaving-keeps Later info p q e = left-of p (left_by Later p info) q (λ r is k h. left-lasts k (calls.leave_later p.state) p r info h is) e

pub throttling-keeps : (interval acceleration deceleration : ℕ) → Keeps (throttling interval acceleration deceleration)
throttling-keeps interval acceleration deceleration p q e = by (is_connected p.state) e
  where
    by : (b : Bool) → ◌≡◌ {A = Result Peering Refusal} (cond b (Ok (with_throttle p interval acceleration deceleration)) (Err Rattle.enet_codec.specs.declared.refusal.Refusal.TheVariants.NotConnected)) (Ok q) → Follows p q
    by true e = done p (with_throttle p interval acceleration deceleration) q (λ k h. h) e
    by false e = absurd (cc)

pub pinging-keeps : (ms : ℕ) → Keeps (pinging ms)
pinging-keeps ms p q e = done p (with_ping_interval p ms) q (λ k h. h) e

pub waiting-keeps : (limit minimum maximum : ℕ) → Keeps (waiting limit minimum maximum)
waiting-keeps limit minimum maximum p q e = done p (with_timeout p limit minimum maximum) q (λ k h. h) e

put-holds : (P : ℕ → Tag → Peering → Type 0) (slots new : List SlotState) (i : ℕ) (s : SlotState) (r : Result Peering Refusal) → AllHold P slots → ((q : Peering) → r ≡ Ok q → P i (tag_of s) q)
    → put_back slots i (kept s r) ≡ Ok new → AllHold P new
put-holds P slots new i s (Ok q) old each e = let same : slice_set slots i (with_peer s q) ≡ new = cc in subst (AllHold P) same (set-holds P slots i (with_peer s q) old (peer-holds P i s q (each q refl)))
put-holds P slots new i s (Err why) old each e = absurd (cc)

on-peer-holds : (P : ℕ → Tag → Peering → Type 0) → Lasting P → (slots new : List SlotState) (i : ℕ) (s : SlotState) (call : Peering → Result Peering Refusal) (o : Option Peering) → AllHold P slots → Keeps call → HoldsIn P i (tag_of s) o
    → put_back slots i (on_peer_in s call o) ≡ Ok new → AllHold P new
on-peer-holds P lasts slots new i s call None old keeps h e = absurd (cc)
on-peer-holds P lasts slots new i s call (Some p) old keeps h e = put-holds P slots new i s (call p) old (λ q is. lasts i (tag_of s) p q (keeps p q is) h) e

on-slot-holds : (P : ℕ → Tag → Peering → Type 0) → Lasting P → (slots new : List SlotState) (i : ℕ) (call : Peering → Result Peering Refusal) (o : Option SlotState) → AllHold P slots → Keeps call
    → ((s : SlotState) → o ≡ Some s → Holds P i s) → on_slot slots i call o ≡ Ok new → AllHold P new
on-slot-holds P lasts slots new i call None old keeps each e = absurd (cc)
on-slot-holds P lasts slots new i call (Some s) old keeps each e = on-peer-holds P lasts slots new i s call s.peer old keeps (each s refl) e

of-generation : (generation : ℕ) (o : Option SlotState) (s : SlotState) → with_generation generation o ≡ Some s → o ≡ Some s
of-generation generation None s e = e
of-generation generation (Some t) s e = by (t.generation == generation) e
  where
    by : (b : Bool) → cond b (Some t) None ≡ Some s → Some t ≡ Some s
    by true e = e
    by false e = absurd (cc)

named-holds : (P : ℕ → Tag → Peering → Type 0) → Lasting P → (slots new : List SlotState) (name : PeerRef) (call : Peering → Result Peering Refusal) → AllHold P slots → Keeps call → on_named slots name call ≡ Ok new → AllHold P new
named-holds P lasts slots new name call old keeps e =
    on-slot-holds P lasts slots new name.slot call (with_generation name.generation (slice_get slots name.slot)) old keeps
    (λ s is. old name.slot s (of-generation name.generation (slice_get slots name.slot) s is)) e

pub does-holds : {T : Type 0} (P : ℕ → Tag → Peering → Type 0) → Lasting P → (slots new : List SlotState) (name : PeerRef) (call : Peering → Result Peering Refusal) (r : Result T Refusal) → AllHold P slots → Keeps call
    → Does r (on_named slots name call) slots new → AllHold P new
does-holds P lasts slots new name call (Ok done) old keeps d = named-holds P lasts slots new name call old keeps d
does-holds P lasts slots new name call (Err why) old keeps d = subst (AllHold P) (sym d.1) old

pub does-with-memory-holds : {T : Type 0} (P : ℕ → Tag → Peering → Type 0) → Lasting P → (slots new : List SlotState) (name : PeerRef) (call : Peering → Result Peering Refusal) (r : Result T Refusal) → AllHold P slots → Keeps call
    → DoesWithMemory r (on_named slots name call) slots new → AllHold P new
does-with-memory-holds P lasts slots new name call (Ok done) old keeps d = named-holds P lasts slots new name call old keeps d
does-with-memory-holds P lasts slots new name call (Err why) old keeps d = subst (AllHold P) (sym d.1) old

pub submits-holds : {T : Type 0} (P : ℕ → Tag → Peering → Type 0) → Lasting P → (slots new : List SlotState) (name : PeerRef) (q : Packet) (call : Peering → Result Peering Refusal) (r : Result T (Refusal × List ℕ)) → AllHold P slots
    → Keeps call → Submits r q (on_named slots name call) slots new → AllHold P new
submits-holds P lasts slots new name q call (Ok done) old keeps d = named-holds P lasts slots new name call old keeps d
submits-holds P lasts slots new name q call (Err e) old keeps d = subst (AllHold P) (sym d.2) old

-- ---- a connection begins, and datagrams come

pub connects-holds : (P : ℕ → Tag → Peering → Type 0) (basis : Basis) (slots new : List SlotState) (question : Question) (r : Result PeerRef Refusal) → AllHold P slots
    → ((i : ℕ) (s : SlotState) → Holds P i (asking basis i s question)) → Connects basis slots question r new → AllHold P new
connects-holds P basis slots new question r old first (no_channel none) = old
connects-holds P basis slots new question r old first (no_slot some none) = old
connects-holds P basis slots new question r old first (no_memory i some at) = old
connects-holds P basis slots new question r old first (asks i s some at there) = set-holds P slots i (asking basis i s question) old (first i s)

-- what is true of each but the one whose slot was given out, of that one too
offers-holds : (P : ℕ → Tag → Peering → Type 0) (basis : Basis) (slots new : List SlotState) (from : Addr) (o : Offer) (answer : Received) → AllHold P slots
    → ((i : ℕ) (s : SlotState) → seat basis from slots ≡ Some i → Holds P i (answering basis i (readied s) from o))
    → Offers (record { basis = basis; slots = slots }) from o answer new → AllHold P new
offers-holds P basis slots new from o answer old first (receiving.refused why is) = old
offers-holds P basis slots new from o answer old first (receiving.repeated is known) = old
offers-holds P basis slots new from o answer old first (receiving.no_slot is known none) = old
offers-holds P basis slots new from o answer old first (receiving.no_memory i is known at) = old
offers-holds P basis slots new from o answer old first (receiving.answers i s is known at there) = set-holds P slots i (answering basis i (readied s) from o) old (first i s at)

pub arrives-holds : (P : ℕ → Tag → Peering → Type 0) → Lasting P → (basis : Basis) (slots new : List SlotState) (from : Addr) (bytes : List ℕ) (answer : Received) → AllHold P slots
    → ((i : ℕ) (s : SlotState) (o : Offer) → seat basis from slots ≡ Some i → Holds P i (answering basis i (readied s) from o))
    → Arrives (record { basis = basis; slots = slots }) from bytes answer new → AllHold P new
arrives-holds P lasts basis slots new from bytes answer old first (receiving.unreadable why is) = old
arrives-holds P lasts basis slots new from bytes answer old first (receiving.no_offer header commands read stranger none) = old
arrives-holds P lasts basis slots new from bytes answer old first (receiving.offered header commands o a after read stranger offer offers) =
    offers-holds P basis slots new from o answer old (λ i s at. first i s o at) offers
arrives-holds P lasts basis slots new from bytes answer old first (receiving.turned_away header commands why read known refused) = old
arrives-holds P lasts basis slots new from bytes answer old first (receiving.heard header commands s t a read known taken there hears) =
    let i : ℕ = header.peer in
    let was : P i (tag_of s) hears.peer = of-peer P i s hears.peer hears.held (old i s there) in
    set-holds P slots i t old
    (subst (Holds P i) (sym hears.left) (peer-holds P i s hears.after (lasts i (tag_of s) hears.peer hears.after (λ k h. hears-lasts k _ commands hears.peer answer hears.after h hears.heard) was)))

-- ---- slots are asked for a datagram

gives-holds : (P : ℕ → Tag → Peering → Type 0) → Lasting P → (i now len : ℕ) (buf : List ℕ) (s t : SlotState) → Holds P i s → PeerEmits now len buf s t → Holds P i t
gives-holds P lasts i now len buf s t old g =
    subst (Holds P i) (sym g.left) (peer-holds P i (with_emitted s len) g.after (lasts i (tag_of s) g.peer g.after (λ k h. put-out-lasts k now (Some len) g.peer g.after buf h g.puts) (of-peer P i s g.peer g.held old)))

passes-holds : (P : ℕ → Tag → Peering → Type 0) → Lasting P → (i now : ℕ) (s t : SlotState) (o : Option Peering) → Holds P i s → HoldsIn P i (tag_of s) o → passes_by now s t o → Holds P i t
passes-holds P lasts i now s t None old h e = subst (Holds P i) (sym e) old
passes-holds P lasts i now s t (Some p) old h n = subst (Holds P i) (sym n.left) (peer-holds P i s n.after (lasts i (tag_of s) p n.after (λ k was. put-out-lasts k now None p n.after n.buf was n.puts) h))

turned-holds : (P : ℕ → Tag → Peering → Type 0) → Lasting P → (now from count : ℕ) (gave : Served) (i : ℕ) (s t : SlotState) → i < count → gave.name.slot < count → Holds P i s
    → InTurn (record { now = now; turn = turn_of count from; gave = gave }) i s t → Holds P i t
turned-holds P lasts now from count gave i s t within given old asked = by (nat_lt (turn i) (turn gave.name.slot)) (nat_lt (turn gave.name.slot) (turn i)) refl refl
  where
    turn : ℕ → ℕ
    turn j = turn_of count from j

    by : (a b : Bool) → nat_lt (turn i) (turn gave.name.slot) ≡ a → nat_lt (turn gave.name.slot) (turn i) ≡ b → Holds P i t
    by true b e f = passes-holds P lasts i now s t s.peer old old (asked.before (grind (arith, nat_tests)))
    by false true e f = subst (Holds P i) (sym (asked.after (grind (arith, nat_tests)))) old
    by false false e f = gives-holds P lasts i now gave.len gave.buf s t old (asked.here (turns-apart count from i gave.name.slot within given (grind (arith, nat_tests))))

pub served-holds : (P : ℕ → Tag → Peering → Type 0) → Lasting P → (now from : ℕ) (old new : List SlotState) (gave : Served) → AllHold P old → EmitsInTurn now from old gave new → AllHold P new
served-holds P lasts now from old new gave held turned i t there =
    let within : i < length new = slice_get_within new i t there in
    let same : length new ≡ length old = turned.count in
    let low : i < length old = omega arith in
    let was : slice_get old i ≡ Some (get_or old i t) = slice_get-get_or old i t low in
    turned-holds P lasts now from (length old) gave i (get_or old i t) t low (slice_get_within old gave.name.slot turned.slot turned.there) (held i (get_or old i t) was) (turned.slots i (get_or old i t) t was there)

pub passed-holds : (P : ℕ → Tag → Peering → Type 0) → Lasting P → (now : ℕ) (old new : List SlotState) → AllHold P old → AllPass now old new → AllHold P new
passed-holds P lasts now old new held passed i t there =
    let within : i < length new = slice_get_within new i t there in
    let same : length new ≡ length old = passed.count in
    let low : i < length old = omega arith in
    let was : slice_get old i ≡ Some (get_or old i t) = slice_get-get_or old i t low in
    let of : Holds P i (get_or old i t) = held i (get_or old i t) was in
    passes-holds P lasts i now (get_or old i t) t (get_or old i t).peer of of (passed.slots i (get_or old i t) t was there)

-- ---- an event is taken, and time goes on

pub gave-holds : (P : ℕ → Tag → Peering → Type 0) → Lasting P → (slots new : List SlotState) (i : ℕ) (event : Event) → AllHold P slots → SlotGivesEvent slots i event new → AllHold P new
gave-holds P lasts slots new i event old gave =
    let g : GivesEvent i event gave.slot gave.left = gave.gives in
    let was : P i (tag_of gave.slot) g.peer = of-peer P i gave.slot g.peer g.held (old i gave.slot gave.there) in
    subst (AllHold P) (sym gave.after)
    (set-holds P slots i gave.left old
    (subst (Holds P i) (sym g.left) (peer-holds P i gave.slot g.taken.after (lasts i (tag_of gave.slot) g.peer g.taken.after (λ k h. taken-lasts k g.peer g.taken h g.next) was))))

-- what is true of each slot as it was left is true of all
each-at : (P : ℕ → Tag → Peering → Type 0) (now : ℕ) (short : ℕ → Bool) (slots : List SlotState) → ((i : ℕ) (s : SlotState) → slice_get slots i ≡ Some s → Holds P i (slot_moved now (short i) s)) → AllHold P (all_moved now short slots)
each-at P now short [] each i t there = absurd (cc)
each-at P now short (x ∷ slots) each zero t there = let same : slot_moved now (short 0) x ≡ t = cc in subst (Holds P zero) same (each 0 x refl)
each-at P now short (x ∷ slots) each (suc i) t there = each-at (λ k g p. P (suc k) g p) now (λ j. short (suc j)) slots (λ j s at. each (suc j) s at) i t there

pub holds-after : (P : ℕ → Tag → Peering → Type 0) → Lasting P → (now : ℕ) (short : ℕ → Bool) (slots new : List SlotState) → new ≡ all_moved now short slots → AllHold P slots → AllHold P new
holds-after P lasts now short slots new e old =
    subst (AllHold P) (sym e)
    (each-at P now short slots (λ i s at. changed-in P (λ (p : Peering). calls.moved (short i) p now) i s s.peer
    (λ p h. lasts i (tag_of s) p (calls.moved (short i) p now) (λ k was. moved-lasts k (short i) p now was) h) refl (old i s at)))

pub told-after : (P : ℕ → Tag → Peering → Type 0) → Lasting P → (incoming outgoing : ℕ) (slots new : List SlotState) → new ≡ map (changed (λ (p : Peering). calls.with_bandwidth p incoming outgoing)) slots → AllHold P slots → AllHold P new
told-after P lasts incoming outgoing slots new e old =
    subst (AllHold P) (sym e) (changed-holds P lasts (λ (p : Peering). calls.with_bandwidth p incoming outgoing) slots (λ p k h. h) old)

holds-if : (P : ℕ → Tag → Peering → Type 0) (due : Bool) (ss ts : List SlotState) → AllHold P ss → AllHold P ts → AllHold P (cond due ss ts)
holds-if P true ss ts a b = a
holds-if P false ss ts a b = b

pub shared-if-holds : (P : ℕ → Tag → Peering → Type 0) → Lasting P → (due : Bool) (outgoing : ℕ) (slots new : List SlotState) → new ≡ (if due then map (shared outgoing (count_by is_standing slots)) slots else slots) → AllHold P slots
    → AllHold P new
shared-if-holds P lasts due outgoing slots new e old =
    subst (AllHold P) (sym e)
    (holds-if P due (map (shared outgoing (count_by is_standing slots)) slots) slots (shared-holds P lasts outgoing (count_by is_standing slots) slots old) old)

-- ---- what is said of a host's peers

-- where it waits for its client and its slot has another generation left, it is noted when it was made
abbrev NotedAt : ℕ → Waiting → ℕ → Tag → Peering → Type 0
NotedAt generations v i g p = (is_answering p.state && nat_lt (g.generation + 1) generations) ≡ true → IsNoted v i p.made

-- so it is, it keeps the limits, and its connection is found
abbrev pub Minds : ℕ → ℕ → ℕ → Waiting → Seating → ℕ → Tag → Peering → Type 0
Minds packet waiting generations v f i g p = HasLimits packet waiting p × NotedAt generations v i g p × IsSeated f i g.address p

and-left : (a b : Bool) → (a && b) ≡ true → a ≡ true
and-left true b e = refl
and-left false b e = absurd (let x : false ≡ true = e in cc)

and-right : (a b : Bool) → (a && b) ≡ true → b ≡ true
and-right true b e = e
and-right false b e = absurd (let x : false ≡ true = e in cc)

still-noted : (generations : ℕ) (v : Waiting) (i : ℕ) (g : Tag) (p q : Peering) → (is_answering q.state ≡ true → (is_answering p.state ≡ true) × (q.made ≡ p.made)) → NotedAt generations v i g p → NotedAt generations v i g q
still-noted generations v i g p q k h = λ e.
    let answers = k (and-left (is_answering q.state) (nat_lt (g.generation + 1) generations) e) in
    subst (IsNoted v i) (sym answers.1)
    (h (ap (λ b. b && nat_lt (g.generation + 1) generations) answers.0 ∙ and-right (is_answering q.state) (nat_lt (g.generation + 1) generations) e))

still-seated : (f : Seating) (i : ℕ) (a : Addr) (p q : Peering) → IsOf p.terms.connect_id q → IsSeated f i a p → IsSeated f i a q
still-seated f i a p q of h = record { found = subst (IsFound f i a) (sym of.0) h.found; asked = λ asks. of.1 asks ∙ sym of.0 }

-- what is known of a peer
abbrev marked : (packet waiting : ℕ) (p : Peering) → Mark
marked packet waiting p = record { packet = packet; waiting = waiting; answers = is_answering p.state; made = p.made; word = Some p.terms.connect_id }

of-itself : (p : Peering) → (is_connecting p.state ≡ true → p.offer.connect_id ≡ p.terms.connect_id) → (word : ℕ) → ◌≡◌ {A = Option ℕ} (Some p.terms.connect_id) (Some word) → IsOf word p
of-itself p asked word told = let same : p.terms.connect_id ≡ word = cc in (same, λ asks. asked asks ∙ same)

pub minds-lasts : (packet waiting generations : ℕ) (v : Waiting) (f : Seating) → Lasting (Minds packet waiting generations v f)
minds-lasts packet waiting generations v f i g p q follows h =
    let k = follows (marked packet waiting p) (h.0, (λ e. (e, refl)), of-itself p h.2.asked) in
    (k.0, still-noted generations v i g p q k.1 h.1, still-seated f i g.address p q (k.2 p.terms.connect_id refl) h.2)

-- slots as they are at first
pub unused-limited : (packet waiting n : ℕ) → AreLimited packet waiting (replicate n unused_slot)
unused-limited packet waiting zero i s there = absurd (cc)
unused-limited packet waiting (suc n) zero s there = let same : unused_slot ≡ s = cc in subst (λ (x : SlotState). IsLimitedIn packet waiting x.peer) same tt
unused-limited packet waiting (suc n) (suc i) s there = unused-limited packet waiting n i s there

pub unused-nowhere : (generations n : ℕ) → YieldNowhere generations (replicate n unused_slot)
unused-nowhere generations zero i s there = absurd (cc)
unused-nowhere generations (suc n) zero s there = let same : unused_slot ≡ s = cc in subst (λ (x : SlotState). yields generations x ≡ false) same refl
unused-nowhere generations (suc n) (suc i) s there = unused-nowhere generations n i s there

first-limited : (packet waiting : ℕ) (slots : List SlotState) (t : SlotState) → AreLimited packet waiting slots → IsLimitedIn packet waiting t.peer → AreLimited packet waiting (slice_set slots 0 t)
first-limited packet waiting [] t old one i s there = old i s there
first-limited packet waiting (z ∷ slots) t old one zero s there = let same : t ≡ s = cc in subst (λ (x : SlotState). IsLimitedIn packet waiting x.peer) same one
first-limited packet waiting (z ∷ slots) t old one (suc i) s there = old (suc i) s there

first-nowhere : (generations : ℕ) (slots : List SlotState) (t : SlotState) → YieldNowhere generations slots → yields generations t ≡ false → YieldNowhere generations (slice_set slots 0 t)
first-nowhere generations [] t old one i s there = old i s there
first-nowhere generations (z ∷ slots) t old one zero s there = let same : t ≡ s = cc in subst (λ (x : SlotState). yields generations x ≡ false) same one
first-nowhere generations (z ∷ slots) t old one (suc i) s there = old (suc i) s there

pub joined-limited : (c : Config) (address : Addr) → AreLimited c.max_packet c.max_waiting (joined c address).slots
joined-limited c address =
    let q : Peering = peers.joined c.clock (joined_terms c) (limits_of c) in
    first-limited c.max_packet c.max_waiting (replicate c.peers unused_slot) (given unused_slot address q) (unused-limited c.max_packet c.max_waiting c.peers) (refl, refl)

pub joined-nowhere : (c : Config) (address : Addr) → YieldNowhere c.generations (joined c address).slots
joined-nowhere c address =
    let q : Peering = peers.joined c.clock (joined_terms c) (limits_of c) in
    first-nowhere c.generations (replicate c.peers unused_slot) (given unused_slot address q) (unused-nowhere c.generations c.peers) refl

-- of what a host keeps, and back
pub minds-all : (packet waiting generations now : ℕ) (v : Waiting) (f : Seating) (slots : List SlotState) → AreLimited packet waiting slots → KeepsUnproved now generations v slots → KeepsSeats f slots
    → AllHold (Minds packet waiting generations v f) slots
minds-all packet waiting generations now v f slots limited keeps seats i s there = by s.peer refl
  where
    by : (o : Option Peering) → s.peer ≡ o → HoldsIn (Minds packet waiting generations v f) i (tag_of s) o
    by None held = tt
    by (Some p) held = (
      subst (IsLimitedIn packet waiting) held (limited i s there),
      (λ e. keeps.noted i s p there held (ap (λ o. answers_in o && nat_lt (s.generation + 1) generations) held ∙ e)),
      seats.seated i s p there held,
    )

pub limited-of : (packet waiting generations : ℕ) (v : Waiting) (f : Seating) (slots : List SlotState) → AllHold (Minds packet waiting generations v f) slots → AreLimited packet waiting slots
limited-of packet waiting generations v f slots all i s there = by s.peer (all i s there)
  where
    by : (o : Option Peering) → HoldsIn (Minds packet waiting generations v f) i (tag_of s) o → IsLimitedIn packet waiting o
    by None h = tt
    by (Some p) h = h.0

pub keeps-of : (packet waiting generations now : ℕ) (v : Waiting) (f : Seating) (slots : List SlotState) → length v.since ≡ length slots → v.clock % 2 ^ 32 ≡ now → AllHold (Minds packet waiting generations v f) slots
    → KeepsUnproved now generations v slots
keeps-of packet waiting generations now v f slots count shown all = record {
  count = count;
  shown = shown;
  noted = λ i s p there held yields.
      (let h = of-peer (Minds packet waiting generations v f) i s p held (all i s there) in h.1 (ap (λ o. answers_in o && nat_lt (s.generation + 1) generations) (sym held) ∙ yields));
}

pub seats-of : (packet waiting generations : ℕ) (v : Waiting) (f : Seating) (slots : List SlotState) → length f.others ≡ length slots → AllHold (Minds packet waiting generations v f) slots → KeepsSeats f slots
seats-of packet waiting generations v f slots count all = record { count = count; seated = λ i s p there held. (of-peer (Minds packet waiting generations v f) i s p held (all i s there)).2 }

-- a datagram comes to a slot: what is noted of peers stays true
abbrev Noting : ℕ → Waiting → Seating → ℕ → Tag → Peering → Type 0
Noting generations v f i g p = NotedAt generations v i g p × IsSeated f i g.address p

noting-lasts : (generations : ℕ) (v : Waiting) (f : Seating) → Lasting (Noting generations v f)
noting-lasts generations v f i g p q follows h =
    let k = minds-lasts p.inbox.max_packet p.inbox.max_waiting generations v f i g p q follows ((refl, refl), h.0, h.1) in
    (k.1, k.2)

noting-all : (generations now : ℕ) (v : Waiting) (f : Seating) (slots : List SlotState) → KeepsUnproved now generations v slots → KeepsSeats f slots → AllHold (Noting generations v f) slots
noting-all generations now v f slots keeps seats i s there = by s.peer refl
  where
    by : (o : Option Peering) → s.peer ≡ o → HoldsIn (Noting generations v f) i (tag_of s) o
    by None held = tt
    by (Some p) held = ((λ e. keeps.noted i s p there held (ap (λ o. answers_in o && nat_lt (s.generation + 1) generations) held ∙ e)), seats.seated i s p there held)

pub heard-noted : (now generations n : ℕ) (v : Waiting) (f : Seating) (slots : List SlotState) (s t : SlotState) (a : Arrival) (commands : List ℕ) (answer : Received) → slice_get slots n ≡ Some s → PeerReceives a commands s answer t
    → KeepsUnproved now generations v slots → KeepsSeats f slots → KeepsUnproved now generations v (slice_set slots n t) × KeepsSeats f (slice_set slots n t)
heard-noted now generations n v f slots s t a commands answer there hears keeps seats = (
  record {
    count = keeps.count ∙ sym (length-set slots n t);
    shown = keeps.shown;
    noted = λ i u p at held yields. (of-peer (Noting generations v f) i u p held (all i u at)).0 (ap (λ o. answers_in o && nat_lt (u.generation + 1) generations) (sym held) ∙ yields);
  },
  record { count = seats.count ∙ sym (length-set slots n t); seated = λ i u p at held. (of-peer (Noting generations v f) i u p held (all i u at)).1 },
)
  where
    old : AllHold (Noting generations v f) slots
    old = noting-all generations now v f slots keeps seats

    was : Noting generations v f n (tag_of s) hears.peer
    was = of-peer (Noting generations v f) n s hears.peer hears.held (old n s there)

    one : Holds (Noting generations v f) n t
    one = subst (Holds (Noting generations v f) n) (sym hears.left)
        (peer-holds (Noting generations v f) n s hears.after (noting-lasts generations v f n (tag_of s) hears.peer hears.after (λ k h. hears-lasts k a commands hears.peer answer hears.after h hears.heard) was))

    all : AllHold (Noting generations v f) (slice_set slots n t)
    all = set-holds (Noting generations v f) slots n t old one

-- a connection is asked for: what is noted of when peers were made stays true
pub connects-noted : (now generations : ℕ) (v : Waiting) (basis : Basis) (slots new : List SlotState) (question : Question) (r : Result PeerRef Refusal) → length new ≡ length slots → KeepsUnproved now generations v slots
    → Connects basis slots question r new → KeepsUnproved now generations v new
connects-noted now generations v basis slots new question r count keeps connects = record {
  count = keeps.count ∙ sym count;
  shown = keeps.shown;
  noted = λ i s p there held yields. of-peer (NotedAt generations v) i s p held (all i s there) (ap (λ o. answers_in o && nat_lt (s.generation + 1) generations) (sym held) ∙ yields);
}
  where
    by : (i : ℕ) (s : SlotState) (o : Option Peering) → slice_get slots i ≡ Some s → s.peer ≡ o → HoldsIn (NotedAt generations v) i (tag_of s) o
    by i s None there held = tt
    by i s (Some p) there held = λ e. keeps.noted i s p there held (ap (λ o. answers_in o && nat_lt (s.generation + 1) generations) held ∙ e)

    all : AllHold (NotedAt generations v) new
    all = connects-holds (NotedAt generations v) basis slots new question r (λ i s there. by i s s.peer there refl) (λ i s. λ e. absurd (let no : false ≡ true = e in cc)) connects

-- the limits last, and one that begins has those of the settings
abbrev Limited : ℕ → ℕ → ℕ → Tag → Peering → Type 0
Limited packet waiting i g p = HasLimits packet waiting p

limited-lasts : (packet waiting : ℕ) → Lasting (Limited packet waiting)
limited-lasts packet waiting i g p q follows h =
    (follows (record { packet = packet; waiting = waiting; answers = is_answering p.state; made = p.made; word = None }) (h, (λ e. (e, refl)), untold p)).0

limited-all : (packet waiting : ℕ) (slots : List SlotState) → AreLimited packet waiting slots → AllHold (Limited packet waiting) slots
limited-all packet waiting slots limited i s there = by s.peer (limited i s there)
  where
    by : (o : Option Peering) → IsLimitedIn packet waiting o → HoldsIn (Limited packet waiting) i (tag_of s) o
    by None h = tt
    by (Some p) h = h

all-limited : (packet waiting : ℕ) (slots : List SlotState) → AllHold (Limited packet waiting) slots → AreLimited packet waiting slots
all-limited packet waiting slots all i s there = by s.peer (all i s there)
  where
    by : (o : Option Peering) → HoldsIn (Limited packet waiting) i (tag_of s) o → IsLimitedIn packet waiting o
    by None h = tt
    by (Some p) h = h

pub arrives-limited : (basis : Basis) (slots new : List SlotState) (from : Addr) (bytes : List ℕ) (answer : Received) → AreLimited basis.config.max_packet basis.config.max_waiting slots
    → Arrives (record { basis = basis; slots = slots }) from bytes answer new → AreLimited basis.config.max_packet basis.config.max_waiting new
arrives-limited basis slots new from bytes answer old arrives =
    let x : ℕ = basis.config.max_packet in
    let y : ℕ = basis.config.max_waiting in
    all-limited x y new
    (arrives-holds (Limited x y) (limited-lasts x y) basis slots new from bytes answer (limited-all x y slots old) (λ i s o at. (refl, refl)) arrives)

pub connects-limited : (basis : Basis) (slots new : List SlotState) (question : Question) (r : Result PeerRef Refusal) → AreLimited basis.config.max_packet basis.config.max_waiting slots
    → Connects basis slots question r new → AreLimited basis.config.max_packet basis.config.max_waiting new
connects-limited basis slots new question r old connects =
    let x : ℕ = basis.config.max_packet in
    let y : ℕ = basis.config.max_waiting in
    all-limited x y new (connects-holds (Limited x y) basis slots new question r (limited-all x y slots old) (λ i s. (refl, refl)) connects)
