-- A datagram leaves no more peers of an address than may be, where no more were there.
use Rattle.std.proofs.Common.{◌≡◌, ◌≤◌, ◌<◌, ℕ, zero, suc, ◌+◌, ◌==◌, ◌&&◌, nat_le, Bool, true, false, cond, Option, Some, List, [], ◌∷◌, slice_get, slice_set, sum_by, arith, refl, sym, ap, subst, ◌∙◌}
use Rattle.std.specs.List.{count_by}
use Rattle.std.proofs.lemmas.Bool.{eqb-true}
use Rattle.std.proofs.lemmas.Bool.Decides.{nat_tests}
use Rattle.std.proofs.lemmas.List.Quantifiers.{position-Some}
use Rattle.std.proofs.lemmas.List.Sums.{sum_by-cons}
use Rattle.std.proofs.lemmas.Option.{get_or_from_slice_get}
use Rattle.enet_codec.specs.declared.address.Addr.{Addr}
use Rattle.enet_codec.specs.declared.command.Offer.{Offer}
use Rattle.enet_codec.specs.declared.event.Received.{Received}
use Rattle.enet_peer.specs.Handling.{Arrival}
use Rattle.enet_peer.specs.Peering.{Peering}
use Rattle.enet_peer.specs.declared.parts.PeerState.{PeerState}
use Rattle.enet_peer.specs.declared.parts.PeerState.TheVariants as state
use Rattle.enet_slot.specs.Giving.{Basis, answering}
use Rattle.enet_slot.specs.Receiving.{PeerReceives}
use Rattle.enet_slot.specs.Slot.{SlotState, with_peer, with_peer_in}
use Rattle.enet_slot.specs.Yielding.{age, guests_of, is_guest_in, is_guest_of, longest_of, oldest_of, readied, yields, yields_to}
use Rattle.enet_host.specs.Opening.{available, is_most, or_oldest, seat}
use Rattle.enet_host.specs.Receiving.{Arrives, Listener, Offers, refuses_at}
use Rattle.enet_host.specs.Receiving as receiving
use Rattle.enet_host.proofs.Servers.{hears-began}

abbrev one_if : Bool → ℕ
one_if b = cond b 1 0

-- a sum and a count after one place was given anew
sum-set : (f : SlotState → ℕ) (xs : List SlotState) (i : ℕ) (x y : SlotState) → slice_get xs i ≡ Some x → sum_by f (slice_set xs i y) + f x ≡ sum_by f xs + f y
sum-set f [] i x y e = cc
sum-set f (z ∷ xs) zero x y e =
    let is : f z ≡ f x = let same : z ≡ x = cc in ap f same in
    let a = sum_by-cons f y xs in
    let b = sum_by-cons f z xs in
    omega arith
sum-set f (z ∷ xs) (suc i) x y e =
    let h = sum-set f xs i x y e in
    let a = sum_by-cons f z (slice_set xs i y) in
    let b = sum_by-cons f z xs in
    omega arith

count-set : (p : SlotState → Bool) (xs : List SlotState) (i : ℕ) (x y : SlotState) → slice_get xs i ≡ Some x → count_by p (slice_set xs i y) + one_if (p x) ≡ count_by p xs + one_if (p y)
count-set p xs i x y there = sum-set (λ (s : SlotState). one_if (p s)) xs i x y there

at-most-one : (b : Bool) → one_if b ≤ 1
at-most-one true = omega arith
at-most-one false = omega arith

at-least-one : (b : Bool) → b ≡ true → 1 ≤ one_if b
at-least-one true e = omega arith
at-least-one false e = absurd (cc)

and-left : (a b : Bool) → (a && b) ≡ true → a ≡ true
and-left true b h = refl
and-left false b h = h

-- at the limit the slot that it gets was one of the address
own-guest : (basis : Basis) (from : Addr) (slots : List SlotState) (i : ℕ) (s : SlotState) → oldest_of (yields_to from.ip basis.config.generations) basis.clock slots ≡ Some i → slice_get slots i ≡ Some s
    → is_guest_of from.ip s ≡ true
own-guest basis from slots i s found there =
    let waits : SlotState → Bool = yields_to from.ip basis.config.generations in
    let at = position-Some (λ (x : SlotState). waits x && nat_le (longest_of waits basis.clock slots) (age basis.clock x)) slots i s found in
    and-left (is_guest_of from.ip s) (yields basis.config.generations s)
    (and-left (waits s) (nat_le (longest_of waits basis.clock slots) (age basis.clock s))
    (ap (λ (x : SlotState). waits x && nat_le (longest_of waits basis.clock slots) (age basis.clock x)) (sym (get_or_from_slice_get slots i s s there)) ∙ at.1))

given-few : (basis : Basis) (from : Addr) (slots : List SlotState) (o : Offer) (n i : ℕ) (s : SlotState) (b : Bool) → basis.config.of_address ≡ Some n → is_most basis.config.of_address (guests_of from.ip slots) ≡ b → guests_of from.ip slots ≤ n
    → seat basis from slots ≡ Some i → slice_get slots i ≡ Some s → guests_of from.ip (slice_set slots i (answering basis i (readied s) from o)) ≤ n
given-few basis from slots o n i s true limit most few found there =
    let own : oldest_of (yields_to from.ip basis.config.generations) basis.clock slots ≡ Some i = ap (λ (c : Bool). cond c (oldest_of (yields_to from.ip basis.config.generations) basis.clock slots) (or_oldest basis slots (available basis.config slots))) (sym most) ∙ found in
    let was = at-least-one (is_guest_of from.ip s) (own-guest basis from slots i s own there) in
    let set = count-set (is_guest_of from.ip) slots i s (answering basis i (readied s) from o) there in
    let one = at-most-one (is_guest_of from.ip (answering basis i (readied s) from o)) in
    omega (arith, set, was, one, few)
given-few basis from slots o n i s false limit most few found there =
    let below : nat_le n (guests_of from.ip slots) ≡ false = ap (λ (l : Option ℕ). is_most l (guests_of from.ip slots)) (sym limit) ∙ most in
    let less : guests_of from.ip slots < n = grind (arith, nat_tests, below) in
    let set = count-set (is_guest_of from.ip) slots i s (answering basis i (readied s) from o) there in
    let one = at-most-one (is_guest_of from.ip (answering basis i (readied s) from o)) in
    omega (arith, set, one, less)

-- an offer leaves no more of its own address
offers-own : (h : Listener) (from : Addr) (o : Offer) (answer : Received) (after : List SlotState) (n : ℕ) → h.basis.config.of_address ≡ Some n → guests_of from.ip h.slots ≤ n → Offers h from o answer after → guests_of from.ip after ≤ n
offers-own h from o answer after n limit few (receiving.refused why r) = few
offers-own h from o answer after n limit few (receiving.repeated r k) = few
offers-own h from o answer after n limit few (receiving.no_slot r k none) = few
offers-own h from o answer after n limit few (receiving.no_memory i r k at) = few
offers-own h from o answer after n limit few (receiving.answers i s r k found there) =
    given-few h.basis from h.slots o n i s (is_most h.basis.config.of_address (guests_of from.ip h.slots)) limit refl few found there

-- nor of any other
offers-other : (h : Listener) (from : Addr) (o : Offer) (answer : Received) (after : List SlotState) (ip n : ℕ) → (from.ip == ip) ≡ false → guests_of ip h.slots ≤ n → Offers h from o answer after → guests_of ip after ≤ n
offers-other h from o answer after ip n other few (receiving.refused why r) = few
offers-other h from o answer after ip n other few (receiving.repeated r k) = few
offers-other h from o answer after ip n other few (receiving.no_slot r k none) = few
offers-other h from o answer after ip n other few (receiving.no_memory i r k at) = few
offers-other h from o answer after ip n other few (receiving.answers i s r k found there) =
    let new : SlotState = answering h.basis i (readied s) from o in
    let set = count-set (is_guest_of ip) h.slots i s new there in
    let none : one_if (is_guest_of ip new) ≡ 0 = ap one_if other in
    omega (arith, set, none, few)

offers-few : (h : Listener) (from : Addr) (o : Offer) (answer : Received) (after : List SlotState) (ip n : ℕ) (b : Bool) → (from.ip == ip) ≡ b → h.basis.config.of_address ≡ Some n → guests_of ip h.slots ≤ n → Offers h from o answer after
    → guests_of ip after ≤ n
offers-few h from o answer after ip n true own limit few offers =
    let same : from.ip ≡ ip = eqb-true from.ip ip own in
    subst (λ (x : ℕ). guests_of x after ≤ n) same (offers-own h from o answer after n limit (subst (λ (x : ℕ). guests_of x h.slots ≤ n) (sym same) few) offers)
offers-few h from o answer after ip n false other limit few offers = offers-other h from o answer after ip n other few offers

-- what comes to a peer leaves its slot no guest that it wasn't
peer-less : (st : PeerState) (ip : ℕ) (s : SlotState) (q : Peering) → one_if (is_guest_of ip (with_peer_in st s q)) ≤ one_if (q.is_server && s.address.ip == ip)
peer-less state.Free ip s q = omega arith
peer-less state.Connecting ip s q = omega arith
peer-less state.Answering ip s q = omega arith
peer-less state.Connected ip s q = omega arith
peer-less state.DisconnectLater ip s q = omega arith
peer-less state.Disconnecting ip s q = omega arith
peer-less state.AckDisconnect ip s q = omega arith
peer-less state.Ended ip s q = omega arith
peer-less state.Parting ip s q = omega arith

heard-less : (ip : ℕ) (a : Arrival) (commands : List ℕ) (s : SlotState) (answer : Received) (t : SlotState) → PeerReceives a commands s answer t → one_if (is_guest_of ip t) ≤ one_if (is_guest_of ip s)
heard-less ip a commands s answer t h =
    let began = hears-began a commands h.peer answer h.after h.heard in
    let left : one_if (is_guest_of ip t) ≡ one_if (is_guest_of ip (with_peer s h.after)) = ap (λ (x : SlotState). one_if (is_guest_of ip x)) h.left in
    let less = peer-less h.after.state ip s h.after in
    let was : one_if (h.after.is_server && s.address.ip == ip) ≡ one_if (is_guest_of ip s) =
    ap (λ (k : Bool). one_if (k && s.address.ip == ip)) began ∙ ap (λ (o : Option Peering). one_if (is_guest_in ip s o)) (sym h.held) in
    omega (arith, left, less, was)

-- so a datagram leaves no more
pub arrives-few : (h : Listener) (from : Addr) (bytes : List ℕ) (answer : Received) (after : List SlotState) → Arrives h from bytes answer after → (ip n : ℕ) → h.basis.config.of_address ≡ Some n → guests_of ip h.slots ≤ n
    → guests_of ip after ≤ n
arrives-few h from bytes answer after (receiving.unreadable why is) ip n limit few = few
arrives-few h from bytes answer after (receiving.no_offer header commands read stranger none) ip n limit few = few
arrives-few h from bytes answer after (receiving.offered header commands o told new read stranger offer offers) ip n limit few = offers-few h from o told new ip n (from.ip == ip) refl limit few offers
arrives-few h from bytes answer after (receiving.turned_away header commands why read named refused) ip n limit few = few
arrives-few h from bytes answer after (receiving.heard header commands s t told read named taken there receives) ip n limit few =
    let set = count-set (is_guest_of ip) h.slots header.peer s t there in
    let less = heard-less ip (record { now = h.basis.clock; sent = header.sent; full = refuses_at h s }) commands s told t receives in
    omega (arith, set, less, few)
