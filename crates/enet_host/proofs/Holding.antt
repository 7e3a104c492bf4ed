-- No call leaves a slot that holds a free peer.
use Rattle.std.proofs.Common.{◌≡◌, ◌≢◌, ℕ, zero, suc, ◌<◌, ◌≤◌, Bool, true, false, cond, if◌then◌else◌, nat_lt, Option, Some, None, Result, Ok, Err, List, [], ◌∷◌, length, map, replicate, slice_set, get_or, arith, refl, sym, ap, subst, ◌∙◌}
use Rattle.std.proofs.lemmas.Bool.Decides.{nat_tests}
use Rattle.std.proofs.lemmas.List.{length-replicate, length-set}
use Rattle.std.proofs.lemmas.Option.{slice_get_within, slice_get-get_or}
use Rattle.std.specs.List.{slice_get, count_by}
use Rattle.enet_codec.specs.declared.address.Addr.{Addr}
use Rattle.enet_codec.specs.declared.config.Admission.{Admission}
use Rattle.enet_codec.specs.declared.config.Admission.TheVariants as admission
use Rattle.enet_codec.specs.declared.config.Config.{Config}
use Rattle.enet_codec.specs.Config.{admitting, is_in_range}
use Rattle.enet_codec.specs.declared.event.Event.{Event}
use Rattle.enet_codec.specs.declared.event.PeerRef.{PeerRef}
use Rattle.enet_codec.specs.declared.event.Received.{Received}
use Rattle.enet_codec.specs.declared.refusal.Refusal.{Refusal}
use Rattle.enet_codec.specs.declared.command.Offer.{Offer}
use Rattle.enet_sender.specs.CommandChoice.{Packet}
use Rattle.enet_peer.specs.declared.parts.PeerState.{PeerState}
use Rattle.enet_peer.specs.declared.parts.PeerState.TheVariants as state
use Rattle.enet_peer.specs.Peering.{Peering}
use Rattle.enet_peer.specs.Peering as peers
use Rattle.enet_peer.specs.Calls.{is_connected, with_throttle_limit}
use Rattle.enet_peer.specs.Calls as calls
use Rattle.enet_slot.specs.declared.slot.Slot.{Slot}
use Rattle.enet_slot.specs.Slotted.{all_shown}
use Rattle.enet_host.specs.Shown.{HostNumbers, KeepsHost}
use Rattle.enet_host.specs.Private.Shown.{SlotGivesEvent}
use Rattle.enet_deadlines.specs.Sets.{IsIn}
use Rattle.enet_sleepers.specs.Seating.{Seating, KeepsSeats, HoldNobody, Enters}
use Rattle.enet_sleepers.specs.Sleeping.{Noted, KeepsSleepers}
use Rattle.enet_sleepers.proofs.Keeping.{keeps-set}
use Rattle.enet_slot.proofs.Shown.{length-shown}
use Rattle.enet_slot.specs.Giving.{limits_of, unused_slot, joined_terms, joined_slots, given, drawn_for, offer_from, server_from, Basis, asking, answering}
use Rattle.enet_slot.specs.declared.giving.Question.{Question}
use Rattle.enet_slot.specs.Slot.{greatest, SlotState, with_peer, with_peer_in, with_changed, changed}
use Rattle.enet_slot.specs.Yielding.{readied}
use Rattle.enet_sleepers.specs.Unproved.{Waiting, KeepsUnproved, YieldNowhere}
use Rattle.enet_host.specs.Held.{AreLimited}
use Rattle.enet_host.specs.Host.{Host, HoldsNoFree, with_generation}
use Rattle.enet_host.specs.Opening.{joined, Connects, no_channel, no_slot, no_memory, asks}
use Rattle.enet_host.specs.Receiving as receiving
use Rattle.enet_host.specs.Receiving.{Offers, Arrives}
use Rattle.enet_slot.specs.Emitting.{PeerEmits, passes_by}
use Rattle.enet_host.specs.Serving.{InTurn, Served, EmitsInTurn, AllPass}
use Rattle.enet_host.specs.Turns.{turn_of}
use Rattle.enet_slot.specs.Sharing.{is_standing, limit_for, with_limit, shared}
use Rattle.enet_host.specs.Crediting.{is_short_at}
use Rattle.enet_host.specs.Ticking.{all_moved, clock_after, with_time, is_due, ticked}
use Rattle.enet_slot.specs.Calls.{kept, on_peer_in, Submits, Does, DoesWithMemory, GivesEvent}
use Rattle.enet_host.specs.Calls.{put_back, on_slot, on_named}
use Rattle.enet_host.proofs.Limits.{AllHold, Minds, joined-limited, joined-nowhere, keeps-of, limited-of, minds-all, seats-of, unused-limited, unused-nowhere}
use Rattle.enet_host.proofs.Seated.{joined-seats, unused-nobody}
use Rattle.enet_host.proofs.Moving.{each-moved}
use Rattle.enet_host.proofs.Turning.{turns-apart}

-- a slot doesn't hold a free peer
abbrev pub IsHeld : SlotState → Type 0
IsHeld s = (p : Peering) → s.peer ≡ Some p → p.state ≢ state.Free

empty-held : (s : SlotState) → s.peer ≡ None → IsHeld s
empty-held s e p f = let x : ◌≡◌ {A = Option Peering} None (Some p) = sym e ∙ f in absurd (cc)

one-held : (s : SlotState) (q : Peering) → s.peer ≡ Some q → q.state ≢ state.Free → IsHeld s
one-held s q e live p f = let x : ◌≡◌ {A = Option Peering} (Some q) (Some p) = sym e ∙ f in let same : q ≡ p = cc in subst (λ (y : Peering). y.state ≢ state.Free) same live

held-in : (st : PeerState) (s : SlotState) (q : Peering) → q.state ≡ st → IsHeld (with_peer_in st s q)
held-in state.Free s q e = empty-held (with_peer_in state.Free s q) refl
held-in st s q e = one-held (with_peer_in st s q) q refl (λ f. let x : st ≡ state.Free = sym e ∙ f in absurd (cc))

pub peer-held : (s : SlotState) (q : Peering) → IsHeld (with_peer s q)
peer-held s q = held-in q.state s q refl

-- one slot is as it was given, the others are as they were
set-held : (slots : List SlotState) (i : ℕ) (t : SlotState) → HoldsNoFree slots → IsHeld t → HoldsNoFree (slice_set slots i t)
set-held [] i t old one j s p there held = old j s p there held
set-held (x ∷ slots) zero t old one zero s p there held = let same : t ≡ s = cc in one p (ap (λ (y : SlotState). y.peer) same ∙ held)
set-held (x ∷ slots) zero t old one (suc j) s p there held = old (suc j) s p there held
set-held (x ∷ slots) (suc i) t old one zero s p there held = old zero s p there held
set-held (x ∷ slots) (suc i) t old one (suc j) s p there held = set-held slots i t (λ k y q a b. old (suc k) y q a b) one j s p there held

-- the same change on each slot
pub map-held : (f : SlotState → SlotState) (slots : List SlotState) → ((s : SlotState) → IsHeld s → IsHeld (f s)) → HoldsNoFree slots → HoldsNoFree (map f slots)
map-held f [] each old i s p there held = absurd (cc)
map-held f (x ∷ slots) each old zero s p there held = let same : f x ≡ s = cc in each x (λ q e. old zero x q refl e) p (ap (λ (y : SlotState). y.peer) same ∙ held)
map-held f (x ∷ slots) each old (suc i) s p there held = map-held f slots each (λ k y q a b. old (suc k) y q a b) i s p there held

changed-in : (change : Peering → Peering) (s : SlotState) (o : Option Peering) → s.peer ≡ o → IsHeld (with_changed change s o)
changed-in change s None e = empty-held s e
changed-in change s (Some p) e = peer-held s (change p)

pub changed-held : (change : Peering → Peering) (slots : List SlotState) → HoldsNoFree slots → HoldsNoFree (map (changed change) slots)
changed-held change slots old = map-held (changed change) slots (λ s h. changed-in change s s.peer refl) old

limited-if : (b : Bool) (p t q : Peering) → t.state ≡ p.state → p.state ≢ state.Free → ◌≡◌ {A = Option Peering} (Some (cond b t p)) (Some q) → q.state ≢ state.Free
limited-if true p t q kept live e = let same : t ≡ q = cc in subst (λ (y : Peering). y.state ≢ state.Free) same (subst (λ (st : PeerState). st ≢ state.Free) (sym kept) live)
limited-if false p t q kept live e = let same : p ≡ q = cc in subst (λ (y : Peering). y.state ≢ state.Free) same live

limited-in : (outgoing standing emitted : ℕ) (o : Option Peering) (q : Peering) → ((p : Peering) → o ≡ Some p → p.state ≢ state.Free) → with_limit outgoing standing emitted o ≡ Some q → q.state ≢ state.Free
limited-in outgoing standing emitted None q old e = absurd (cc)
limited-in outgoing standing emitted (Some p) q old e = limited-if (is_connected p.state) p (with_throttle_limit p (limit_for outgoing standing emitted p)) q refl (old p refl) e

pub shared-held : (outgoing standing : ℕ) (slots : List SlotState) → HoldsNoFree slots → HoldsNoFree (map (shared outgoing standing) slots)
shared-held outgoing standing slots old = map-held (shared outgoing standing) slots (λ s h q e. limited-in outgoing standing s.emitted s.peer q h e) old

-- slots that were never given
pub unused-held : (n : ℕ) → HoldsNoFree (replicate n unused_slot)
unused-held zero i s p there held = absurd (cc)
unused-held (suc n) zero s p there held = let same : unused_slot ≡ s = cc in empty-held unused_slot refl p (ap (λ (y : SlotState). y.peer) same ∙ held)
unused-held (suc n) (suc i) s p there held = unused-held n i s p there held

-- A call on a name changes the slot of that number alone: what holds of the slots as they were, and with whatever that slot then
-- holds, holds after it.
put-over : (K : List SlotState → Type 0) (slots new : List SlotState) (i : ℕ) (s : SlotState) (r : Result Peering Refusal) → ((q : Peering) → K (slice_set slots i (with_peer s q)))
    → put_back slots i (kept s r) ≡ Ok new → K new
put-over K slots new i s (Ok q) each e = subst K (let same : slice_set slots i (with_peer s q) ≡ new = cc in same) (each q)
put-over K slots new i s (Err why) each e = absurd (cc)

on-peer-over : (K : List SlotState → Type 0) (slots new : List SlotState) (i : ℕ) (s : SlotState) (call : Peering → Result Peering Refusal) (o : Option Peering)
    → ((q : Peering) → K (slice_set slots i (with_peer s q))) → put_back slots i (on_peer_in s call o) ≡ Ok new → K new
on-peer-over K slots new i s call None each e = absurd (cc)
on-peer-over K slots new i s call (Some p) each e = put-over K slots new i s (call p) each e

on-slot-over : (K : List SlotState → Type 0) (slots new : List SlotState) (i : ℕ) (call : Peering → Result Peering Refusal) (o : Option SlotState)
    → ((s : SlotState) (q : Peering) → K (slice_set slots i (with_peer s q))) → on_slot slots i call o ≡ Ok new → K new
on-slot-over K slots new i call None each e = absurd (cc)
on-slot-over K slots new i call (Some s) each e = on-peer-over K slots new i s call s.peer (each s) e

named-over : (K : List SlotState → Type 0) (slots new : List SlotState) (name : PeerRef) (call : Peering → Result Peering Refusal)
    → ((s : SlotState) (q : Peering) → K (slice_set slots name.slot (with_peer s q))) → on_named slots name call ≡ Ok new → K new
named-over K slots new name call each e = on-slot-over K slots new name.slot call (with_generation name.generation (slice_get slots name.slot)) each e

pub does-over : {T : Type 0} (K : List SlotState → Type 0) (slots new : List SlotState) (name : PeerRef) (call : Peering → Result Peering Refusal) (r : Result T Refusal) → K slots
    → ((s : SlotState) (q : Peering) → K (slice_set slots name.slot (with_peer s q))) → Does r (on_named slots name call) slots new → K new
does-over K slots new name call (Ok done) old each d = named-over K slots new name call each d
does-over K slots new name call (Err why) old each d = subst K (sym d.1) old

does-with-memory-over : {T : Type 0} (K : List SlotState → Type 0) (slots new : List SlotState) (name : PeerRef) (call : Peering → Result Peering Refusal) (r : Result T Refusal) → K slots
    → ((s : SlotState) (q : Peering) → K (slice_set slots name.slot (with_peer s q))) → DoesWithMemory r (on_named slots name call) slots new → K new
does-with-memory-over K slots new name call (Ok done) old each d = named-over K slots new name call each d
does-with-memory-over K slots new name call (Err why) old each d = subst K (sym d.1) old

submits-over : {T : Type 0} (K : List SlotState → Type 0) (slots new : List SlotState) (name : PeerRef) (q : Packet) (call : Peering → Result Peering Refusal)
    (r : Result T (Refusal × List ℕ)) → K slots → ((s : SlotState) (p : Peering) → K (slice_set slots name.slot (with_peer s p))) → Submits r q (on_named slots name call) slots new → K new
submits-over K slots new name q call (Ok done) old each d = named-over K slots new name call each d
submits-over K slots new name q call (Err e) old each d = subst K (sym d.2) old

each-held : (slots : List SlotState) (i : ℕ) → HoldsNoFree slots → (s : SlotState) (q : Peering) → HoldsNoFree (slice_set slots i (with_peer s q))
each-held slots i old s q = set-held slots i (with_peer s q) old (peer-held s q)

pub does-held : {T : Type 0} (slots new : List SlotState) (name : PeerRef) (call : Peering → Result Peering Refusal) (r : Result T Refusal) → HoldsNoFree slots → Does r (on_named slots name call) slots new → HoldsNoFree new
does-held slots new name call r old d = does-over HoldsNoFree slots new name call r old (each-held slots name.slot old) d

pub does-with-memory-held : {T : Type 0} (slots new : List SlotState) (name : PeerRef) (call : Peering → Result Peering Refusal) (r : Result T Refusal) → HoldsNoFree slots → DoesWithMemory r (on_named slots name call) slots new → HoldsNoFree new
does-with-memory-held slots new name call r old d = does-with-memory-over HoldsNoFree slots new name call r old (each-held slots name.slot old) d

pub submits-held : {T : Type 0} (slots new : List SlotState) (name : PeerRef) (q : Packet) (call : Peering → Result Peering Refusal) (r : Result T (Refusal × List ℕ)) → HoldsNoFree slots
    → Submits r q (on_named slots name call) slots new → HoldsNoFree new
submits-held slots new name q call r old d = submits-over HoldsNoFree slots new name q call r old (each-held slots name.slot old) d

-- What a host keeps of its slots: none holds a free peer, and those that sleep do so rightly. A call keeps that where the slot that
-- it names is awake.
abbrev pub IsKept : ℕ → Noted → List SlotState → Type 0
IsKept now v slots = HoldsNoFree slots × KeepsSleepers now v slots

each-kept : (now : ℕ) (v : Noted) (slots : List SlotState) (i : ℕ) → IsKept now v slots → (i < length slots → IsIn v.awake i) → (s : SlotState) (q : Peering) → IsKept now v (slice_set slots i (with_peer s q))
each-kept now v slots i old awake s q = (each-held slots i old.0 s q, keeps-set now i v slots (with_peer s q) awake old.1)

pub does-kept : {T : Type 0} (now : ℕ) (v : Noted) (slots new : List SlotState) (name : PeerRef) (call : Peering → Result Peering Refusal) (r : Result T Refusal) → IsKept now v slots
    → (name.slot < length slots → IsIn v.awake name.slot) → Does r (on_named slots name call) slots new → IsKept now v new
does-kept now v slots new name call r old awake d = does-over (IsKept now v) slots new name call r old (each-kept now v slots name.slot old awake) d

pub does-with-memory-kept : {T : Type 0} (now : ℕ) (v : Noted) (slots new : List SlotState) (name : PeerRef) (call : Peering → Result Peering Refusal) (r : Result T Refusal) → IsKept now v slots
    → (name.slot < length slots → IsIn v.awake name.slot) → DoesWithMemory r (on_named slots name call) slots new → IsKept now v new
does-with-memory-kept now v slots new name call r old awake d = does-with-memory-over (IsKept now v) slots new name call r old (each-kept now v slots name.slot old awake) d

pub submits-kept : {T : Type 0} (now : ℕ) (v : Noted) (slots new : List SlotState) (name : PeerRef) (q : Packet) (call : Peering → Result Peering Refusal) (r : Result T (Refusal × List ℕ))
    → IsKept now v slots → (name.slot < length slots → IsIn v.awake name.slot) → Submits r q (on_named slots name call) slots new → IsKept now v new
submits-kept now v slots new name q call r old awake d = submits-over (IsKept now v) slots new name q call r old (each-kept now v slots name.slot old awake) d

-- a connection begins
given-held : (s : SlotState) (address : Addr) (q : Peering) → q.state ≢ state.Free → IsHeld (given s address q)
given-held s address q live = one-held (given s address q) q refl live

pub connects-held : (basis : Basis) (slots new : List SlotState) (question : Question) (r : Result PeerRef Refusal) → HoldsNoFree slots → Connects basis slots question r new → HoldsNoFree new
connects-held basis slots new question r old (no_channel none) = old
connects-held basis slots new question r old (no_slot some none) = old
connects-held basis slots new question r old (no_memory i some at) = old
connects-held basis slots new question r old (asks i s some at there) =
    set-held slots i (asking basis i s question) old
    (given-held s question.address (peers.connecting basis.clock (drawn_for basis.config i s).offsets.time (offer_from basis.config i s question) (limits_of basis.config)) (λ e. absurd (cc)))

offers-held : (basis : Basis) (slots new : List SlotState) (from : Addr) (o : Offer) (answer : Received) → HoldsNoFree slots → Offers (record { basis = basis; slots = slots }) from o answer new → HoldsNoFree new
offers-held basis slots new from o answer old (receiving.refused why is) = old
offers-held basis slots new from o answer old (receiving.repeated is known) = old
offers-held basis slots new from o answer old (receiving.no_slot is known none) = old
offers-held basis slots new from o answer old (receiving.no_memory i is known at) = old
offers-held basis slots new from o answer old (receiving.answers i s is known at there) =
    let t : SlotState = readied s in
    set-held slots i (answering basis i t from o) old (given-held t from (peers.answering basis.clock (drawn_for basis.config i t).offsets o (server_from basis.config i t o) (limits_of basis.config)) (λ e. absurd (cc)))

-- a datagram comes
pub arrives-held : (basis : Basis) (slots new : List SlotState) (from : Addr) (bytes : List ℕ) (answer : Received) → HoldsNoFree slots → Arrives (record { basis = basis; slots = slots }) from bytes answer new → HoldsNoFree new
arrives-held basis slots new from bytes answer old (receiving.unreadable why is) = old
arrives-held basis slots new from bytes answer old (receiving.no_offer header commands read stranger none) = old
arrives-held basis slots new from bytes answer old (receiving.offered header commands o a after read stranger offer offers) = offers-held basis slots new from o answer old offers
arrives-held basis slots new from bytes answer old (receiving.turned_away header commands why read known refused) = old
arrives-held basis slots new from bytes answer old (receiving.heard header commands s t a read known taken there hears) =
    set-held slots header.peer t old (subst IsHeld (sym hears.left) (peer-held s hears.after))

-- slots are asked for a datagram
gives-held : (now len : ℕ) (buf : List ℕ) (s t : SlotState) → PeerEmits now len buf s t → IsHeld t
gives-held now len buf s t g = subst IsHeld (sym g.left) (peer-held _ g.after)

passes-held : (now : ℕ) (s t : SlotState) (o : Option Peering) → IsHeld s → passes_by now s t o → IsHeld t
passes-held now s t None old e = subst IsHeld (sym e) old
passes-held now s t (Some p) old n = subst IsHeld (sym n.left) (peer-held s n.after)

turned-held : (now from count : ℕ) (gave : Served) (i : ℕ) (s t : SlotState) → i < count → gave.name.slot < count → IsHeld s → InTurn (record { now = now; turn = turn_of count from; gave = gave }) i s t → IsHeld t
turned-held now from count gave i s t within given old x = by (nat_lt (turn i) (turn gave.name.slot)) (nat_lt (turn gave.name.slot) (turn i)) refl refl
  where
    turn : ℕ → ℕ
    turn j = turn_of count from j

    by : (a b : Bool) → nat_lt (turn i) (turn gave.name.slot) ≡ a → nat_lt (turn gave.name.slot) (turn i) ≡ b → IsHeld t
    by true b e f = passes-held now s t s.peer old (x.before (grind (arith, nat_tests)))
    by false true e f = subst IsHeld (sym (x.after (grind (arith, nat_tests)))) old
    by false false e f = gives-held now gave.len gave.buf s t (x.here (turns-apart count from i gave.name.slot within given (grind (arith, nat_tests))))

pub served-held : (now from : ℕ) (old new : List SlotState) (gave : Served) → HoldsNoFree old → EmitsInTurn now from old gave new → HoldsNoFree new
served-held now from old new gave held x i t p there =
    let within : i < length new = slice_get_within new i t there in
    let same : length new ≡ length old = x.count in
    let low : i < length old = omega arith in
    let was : slice_get old i ≡ Some (get_or old i t) = slice_get-get_or old i t low in
    turned-held now from (length old) gave i (get_or old i t) t low (slice_get_within old gave.name.slot x.slot x.there) (λ q e. held i (get_or old i t) q was e) (x.slots i (get_or old i t) t was there) p

pub passed-held : (now : ℕ) (old new : List SlotState) → HoldsNoFree old → AllPass now old new → HoldsNoFree new
passed-held now old new held x i t p there =
    let within : i < length new = slice_get_within new i t there in
    let same : length new ≡ length old = x.count in
    let low : i < length old = omega arith in
    let was : slice_get old i ≡ Some (get_or old i t) = slice_get-get_or old i t low in
    passes-held now (get_or old i t) t (get_or old i t).peer (λ q e. held i (get_or old i t) q was e) (x.slots i (get_or old i t) t was there) p

-- an event is taken
pub event-held : (slots : List SlotState) (i : ℕ) (event : Event) (s t : SlotState) → HoldsNoFree slots → GivesEvent i event s t → HoldsNoFree (slice_set slots i t)
event-held slots i event s t old g = set-held slots i t old (subst IsHeld (sym g.left) (peer-held s g.taken.after))

-- a host that is connected from the start
pub joined-held : (c : Config) (address : Addr) → HoldsNoFree (joined c address).slots
joined-held c address =
    let q : Peering = peers.joined c.clock (joined_terms c) (limits_of c) in
    set-held (replicate c.peers unused_slot) 0 (given unused_slot address q) (unused-held c.peers) (given-held unused_slot address q (λ e. absurd (cc)))

-- time goes on
held-if : (due : Bool) (xs ys : List SlotState) → HoldsNoFree xs → HoldsNoFree ys → HoldsNoFree (cond due xs ys)
held-if true xs ys a b = a
held-if false xs ys a b = b

pub moved-held : (now : ℕ) (short : ℕ → Bool) (slots : List SlotState) → HoldsNoFree slots → HoldsNoFree (all_moved now short slots)
moved-held now short slots old i t p there held =
    each-moved IsHeld now short slots (λ j s at. changed-in (λ (q : Peering). calls.moved (short j) q now) s s.peer refl) i t there p held

pub ticked-held : (h : Host) (ms : ℕ) → HoldsNoFree h.slots → HoldsNoFree (ticked h ms).slots
ticked-held h ms old =
    let now : ℕ = clock_after h.clock ms in
    let timed : Host = with_time h now in
    let outgoing : ℕ = timed.config.outgoing in
    let standing : ℕ = count_by is_standing timed.slots in
    let held : HoldsNoFree timed.slots = moved-held now (is_short_at h.credits) h.slots old in
    held-if (is_due timed) (map (shared outgoing standing) timed.slots) timed.slots (shared-held outgoing standing timed.slots held) held

-- a slot is given
pub gave-held : (slots new : List SlotState) (i : ℕ) (event : Event) → HoldsNoFree slots → SlotGivesEvent slots i event new → HoldsNoFree new
gave-held slots new i event old x = subst HoldsNoFree (sym x.after) (event-held slots i event x.slot x.left old x.gives)

pub changed-after : (change : Peering → Peering) (slots new : List SlotState) → new ≡ map (changed change) slots → HoldsNoFree slots → HoldsNoFree new
changed-after change slots new e old = subst HoldsNoFree (sym e) (changed-held change slots old)

pub moved-after : (now : ℕ) (short : ℕ → Bool) (slots new : List SlotState) → new ≡ all_moved now short slots → HoldsNoFree slots → HoldsNoFree new
moved-after now short slots new e old = subst HoldsNoFree (sym e) (moved-held now short slots old)

pub shared-if-held : (due : Bool) (outgoing : ℕ) (slots new : List SlotState) → new ≡ (if due then map (shared outgoing (count_by is_standing slots)) slots else slots) → HoldsNoFree slots
    → HoldsNoFree new
shared-if-held due outgoing slots new e old =
    subst HoldsNoFree (sym e) (held-if due (map (shared outgoing (count_by is_standing slots)) slots) slots (shared-held outgoing (count_by is_standing slots) slots old) old)

-- what a host keeps once its slots and turns have changed
pub keeps-after : (peers was now generations packet waiting from event first last : ℕ) (v w : Noted) (f g : Seating) (t u : Waiting) (xs ys : List Slot)
    → KeepsHost (record { peers = peers; clock = was; generations = generations; max_packet = packet; max_waiting = waiting; service_from = from; event_from = event }) v f t xs → length ys ≡ length xs
    → first < peers → last < peers → IsKept now w (all_shown ys) → AreLimited packet waiting (all_shown ys) × KeepsUnproved now generations u (all_shown ys) × KeepsSeats g (all_shown ys)
    → KeepsHost (record { peers = peers; clock = now; generations = generations; max_packet = packet; max_waiting = waiting; service_from = first; event_from = last }) w g u ys
keeps-after peers was now generations packet waiting from event first last v w f g t u xs ys k e a b after of_peers =
    record { count = e ∙ k.count; many = k.many; service = a; event = b; few = k.few; held = after.0; sleeping = after.1; seated = of_peers.2; waiting = of_peers.1; limited = of_peers.0 }

-- what is noted of who waits for a client may change
pub keeps-waiting : {n : HostNumbers} {v : Noted} {f : Seating} {t u : Waiting} {xs : List Slot} → KeepsHost n v f t xs → KeepsUnproved n.clock n.generations u (all_shown xs) → KeepsHost n v f u xs
keeps-waiting {n} {v} {f} {t} {u} {xs} k waiting = record {
  count = k.count;
  many = k.many;
  service = k.service;
  event = k.event;
  few = k.few;
  held = k.held;
  sleeping = k.sleeping;
  seated = k.seated;
  waiting = waiting;
  limited = k.limited;
}

-- so may where connections are found
pub keeps-seating : {n : HostNumbers} {v : Noted} {f g : Seating} {u : Waiting} {xs : List Slot} → KeepsHost n v f u xs → KeepsSeats g (all_shown xs) → KeepsHost n v g u xs
keeps-seating {n} {v} {f} {g} {u} {xs} k seated = record {
  count = k.count;
  many = k.many;
  service = k.service;
  event = k.event;
  few = k.few;
  held = k.held;
  sleeping = k.sleeping;
  seated = seated;
  waiting = k.waiting;
  limited = k.limited;
}

-- whom a host lets in may change
pub keeps-admitting : (c : Config) (what : Admission) (clock from event : ℕ) (v : Noted) (f : Seating) (u : Waiting) (xs : List Slot)
    → KeepsHost (record { peers = c.peers; clock = clock; generations = c.generations; max_packet = c.max_packet; max_waiting = c.max_waiting; service_from = from; event_from = event }) v f u xs
    → KeepsHost (record { peers = (admitting c what).peers; clock = clock; generations = (admitting c what).generations; max_packet = (admitting c what).max_packet; max_waiting = (admitting c what).max_waiting; service_from = from; event_from = event }) v f u xs
keeps-admitting c admission.GiveWay clock from event v f u xs k = k
keeps-admitting c (admission.Most peers) clock from event v f u xs k = k
keeps-admitting c (admission.OfAddress peers) clock from event v f u xs k = k

-- what it keeps of its peers
abbrev pub Minded : HostNumbers → Waiting → Seating → List Slot → Type 0
Minded n u f xs = AllHold (Minds n.max_packet n.max_waiting n.generations u f) (all_shown xs)

pub all-minded : {n : HostNumbers} {v : Noted} {f : Seating} {u : Waiting} {xs : List Slot} → KeepsHost n v f u xs → Minded n u f xs
all-minded {n} {v} {f} {u} {xs} k = minds-all n.max_packet n.max_waiting n.generations n.clock u f (all_shown xs) k.limited k.waiting k.seated

pub minded : {n : HostNumbers} {v : Noted} {f : Seating} {u : Waiting} {xs : List Slot} (ys : List Slot) → KeepsHost n v f u xs → length ys ≡ length xs → Minded n u f ys
    → AreLimited n.max_packet n.max_waiting (all_shown ys) × KeepsUnproved n.clock n.generations u (all_shown ys) × KeepsSeats f (all_shown ys)
minded {n} {v} {f} {u} {xs} ys k e all = (
  limited-of n.max_packet n.max_waiting n.generations u f (all_shown ys) all,
  (let w = k.waiting in keeps-of n.max_packet n.max_waiting n.generations n.clock u f (all_shown ys) (w.count ∙ length-shown xs ∙ sym e ∙ sym (length-shown ys)) w.shown all),
  (let w = k.seated in seats-of n.max_packet n.max_waiting n.generations u f (all_shown ys) (w.count ∙ length-shown xs ∙ sym e ∙ sym (length-shown ys)) all),
)

-- and once a slot was woken
pub woken-kept : (peers now generations packet waiting from event : ℕ) (v w : Noted) (f : Seating) (t : Waiting) (xs : List Slot) → KeepsHost (record { peers = peers; clock = now; generations = generations; max_packet = packet; max_waiting = waiting; service_from = from; event_from = event }) v f t xs
    → ((n : ℕ) (slots : List SlotState) → KeepsSleepers n v slots → KeepsSleepers n w slots) → IsKept now w (all_shown xs)
woken-kept peers now generations packet waiting from event v w f t xs k woken = (k.held, woken now (all_shown xs) k.sleeping)

-- what it keeps at first
pub in-range : (c : Config) → is_in_range c ≡ true → (0 < c.peers) × (c.peers ≤ 4095) × (c.generations ≤ greatest)
in-range c h = (grind (arith, nat_tests), grind (arith, nat_tests), grind (arith, nat_tests))

keeps-fresh : (c : Config) (r : Bool) (v : Noted) (f : Seating) (u : Waiting) (xs : List Slot) (slots : List SlotState) → r ≡ is_in_range c → r ≡ true → ((slots : List SlotState) → length slots ≡ c.peers → KeepsSleepers c.clock v slots) → all_shown xs ≡ slots
    → length slots ≡ c.peers → HoldsNoFree slots → AreLimited c.max_packet c.max_waiting slots → KeepsUnproved c.clock c.generations u slots → KeepsSeats f slots → KeepsHost (record { peers = c.peers; clock = c.clock; generations = c.generations; max_packet = c.max_packet; max_waiting = c.max_waiting; service_from = 0; event_from = 0 }) v f u xs
keeps-fresh c r v f u xs slots is go fresh e count held limited unproved seated =
    let h : (0 < c.peers) × (c.peers ≤ 4095) × (c.generations ≤ greatest) = in-range c (sym is ∙ go) in
    record {
      count = sym (length-shown xs) ∙ ap length e ∙ count;
      many = h.1;
      service = h.0;
      event = h.0;
      few = h.2;
      held = subst HoldsNoFree (sym e) held;
      sleeping = fresh (all_shown xs) (ap length e ∙ count);
      seated = subst (KeepsSeats f) (sym e) seated;
      waiting = subst (KeepsUnproved c.clock c.generations u) (sym e) unproved;
      limited = subst (AreLimited c.max_packet c.max_waiting) (sym e) limited;
    }

pub keeps-opened : (c : Config) (r : Bool) (v : Noted) (f : Seating) (u : Waiting) (xs : List Slot) → r ≡ is_in_range c → r ≡ true → ((slots : List SlotState) → length slots ≡ c.peers → KeepsSleepers c.clock v slots)
    → ((slots : List SlotState) → length slots ≡ c.peers → YieldNowhere c.generations slots → KeepsUnproved c.clock c.generations u slots) → ((slots : List SlotState) → length slots ≡ c.peers → HoldNobody slots → KeepsSeats f slots) → all_shown xs ≡ replicate c.peers unused_slot
    → KeepsHost (record { peers = c.peers; clock = c.clock; generations = c.generations; max_packet = c.max_packet; max_waiting = c.max_waiting; service_from = 0; event_from = 0 }) v f u xs
keeps-opened c r v f u xs is go fresh none nobody e =
    keeps-fresh c r v f u xs (replicate c.peers unused_slot) is go fresh e (length-replicate c.peers unused_slot) (unused-held c.peers) (unused-limited c.max_packet c.max_waiting c.peers)
    (none (replicate c.peers unused_slot) (length-replicate c.peers unused_slot) (unused-nowhere c.generations c.peers))
    (nobody (replicate c.peers unused_slot) (length-replicate c.peers unused_slot) (unused-nobody c.peers))

pub keeps-joined : (c : Config) (address : Addr) (r : Bool) (v : Noted) (f g : Seating) (u : Waiting) (xs : List Slot) → r ≡ is_in_range c → r ≡ true → ((slots : List SlotState) → length slots ≡ c.peers → KeepsSleepers c.clock v slots)
    → ((slots : List SlotState) → length slots ≡ c.peers → YieldNowhere c.generations slots → KeepsUnproved c.clock c.generations u slots)
    → ((slots : List SlotState) → length slots ≡ c.peers → HoldNobody slots → KeepsSeats f slots) → Enters f 0 address 0 g
    → all_shown xs ≡ joined_slots c address → KeepsHost (record { peers = c.peers; clock = c.clock; generations = c.generations; max_packet = c.max_packet; max_waiting = c.max_waiting; service_from = 0; event_from = 0 }) v g u xs
keeps-joined c address r v f g u xs is go fresh none nobody enters e =
    let count = length-set (replicate c.peers unused_slot) 0 (given unused_slot address (peers.joined c.clock (joined_terms c) (limits_of c))) ∙ length-replicate c.peers unused_slot in
    keeps-fresh c r v g u xs (joined_slots c address) is go fresh e count (joined-held c address) (joined-limited c address) (none (joined_slots c address) count (joined-nowhere c address))
    (joined-seats c address f g (nobody (replicate c.peers unused_slot) (length-replicate c.peers unused_slot) (unused-nobody c.peers)) enters)
