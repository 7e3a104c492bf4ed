-- Where connections are found, as slots are given out.
use Rattle.std.proofs.Common.{◌≡◌, ℕ, zero, suc, ◌<◌, inl, inr, ◌&&◌, Bool, true, false, nat_lt, Option, Some, None, Result, Ok, Err, OnOk, OnErr, List, length, replicate, slice_get, slice_set, get_or, refl, sym, ap, subst, ◌∙◌, arith}
use Rattle.std.proofs.lemmas.Bool.{cases_eq}
use Rattle.std.proofs.lemmas.List.{length-set}
use Rattle.std.proofs.lemmas.List.Quantifiers.{position-Some}
use Rattle.std.proofs.lemmas.Option.{get_or_from_slice_get, slice_get_within}
use Rattle.enet_codec.specs.declared.address.Addr.{Addr}
use Rattle.enet_codec.specs.declared.command.Offer.{Offer}
use Rattle.enet_codec.specs.declared.config.Config.{Config}
use Rattle.enet_codec.specs.declared.event.PeerRef.{PeerRef}
use Rattle.enet_codec.specs.declared.refusal.Refusal.{Refusal}
use Rattle.enet_peer.specs.CommandEffect.{is_connecting}
use Rattle.enet_peer.specs.Peering.{Peering}
use Rattle.enet_peer.specs.Peering as peers
use Rattle.enet_slot.specs.declared.giving.Question.{Question}
use Rattle.enet_slot.specs.declared.slot.Slot.{Slot}
use Rattle.enet_slot.specs.Giving.{Basis, answering, asking, drawn_for, given, is_available, is_vacant, joined_slots, joined_terms, limits_of, offer_from, server_from, unused_slot}
use Rattle.enet_slot.specs.Slot.{SlotState}
use Rattle.enet_slot.specs.Slotted.{shown, all_shown}
use Rattle.enet_slot.specs.Yielding.{readied}
use Rattle.enet_slot.proofs.Shown.{get-shown, same-shown, set-shown}
use Rattle.enet_sleepers.specs.Seating.{Seating, IsSeated, KeepsSeats, HoldNobody, Enters}
use Rattle.enet_sleepers.proofs.Keeping.{get-set-other, get-set-same, some-same, vacant-none}
use Rattle.enet_host.specs.Opening.{available}

-- slot n was given to a peer with this connection
pub seats-given : (v w : Seating) (slots : List SlotState) (n : ℕ) (t : SlotState) (q : Peering) → KeepsSeats v slots → Enters v n t.address q.terms.connect_id w → t.peer ≡ Some q
    → (is_connecting q.state ≡ true → q.offer.connect_id ≡ q.terms.connect_id) → KeepsSeats w (slice_set slots n t)
seats-given v w slots n t q k e held asked = record {
  count = e.count ∙ k.count ∙ sym (length-set slots n t);
  seated = λ i s p there is. elim (cases_eq i n) [
    | inl same ↦ subst (λ (j : ℕ). IsSeated w j s.address p) (sym same) (here s p (subst (λ (j : ℕ). slice_get (slice_set slots n t) j ≡ Some s) same there) is)
    | inr other ↦
        let was : slice_get slots i ≡ Some s = get-set-other slots n i t s other there in
        let h = k.seated i s p was is in
        record { found = e.others i s.address p.terms.connect_id (omega (arith, slice_get_within slots i s was, k.count)) other h.found; asked = h.asked }
  ];
}
  where
    of-it : (p : Peering) → q ≡ p → IsSeated w n t.address p
    of-it p same = subst (IsSeated w n t.address) same (record { found = e.here; asked = asked })

    here : (s : SlotState) (p : Peering) → slice_get (slice_set slots n t) n ≡ Some s → s.peer ≡ Some p → IsSeated w n s.address p
    here s p there is =
        let inside : n < length slots = omega (arith, slice_get_within (slice_set slots n t) n s there, length-set slots n t) in
        let same : t ≡ s = get-set-same slots n t s inside there in
        let both : ◌≡◌ {A = Option Peering} (Some q) (Some p) = sym held ∙ ap (λ (x : SlotState). x.peer) same ∙ is in
        subst (λ (x : SlotState). IsSeated w n x.address p) same (of-it p (let it_is : q ≡ p = cc in it_is))

-- to one that answers an offer
pub seats-answered : (basis : Basis) (xs : List Slot) (from : Addr) (o : Offer) (i : ℕ) (x y : Slot) (v w : Seating) → shown y ≡ answering basis i (readied (shown x)) from o → Enters v i from o.connect_id w
    → KeepsSeats v (all_shown xs) → KeepsSeats w (all_shown (slice_set xs i y))
seats-answered basis xs from o i x y v w answered e k =
    let s : SlotState = readied (shown x) in
    let q : Peering = peers.answering basis.clock (drawn_for basis.config i s).offsets o (server_from basis.config i s o) (limits_of basis.config) in
    subst (KeepsSeats w) (sym (set-shown xs i y))
    (subst (λ (t : SlotState). KeepsSeats w (slice_set (all_shown xs) i t)) (sym answered)
    (seats-given v w (all_shown xs) i (answering basis i s from o) q k e refl (λ asks. absurd (let no : false ≡ true = asks in cc))))

-- a slot that holds no peer is noted with any connection
seats-noted : (v w : Seating) (slots : List SlotState) (n : ℕ) (s : SlotState) (a : Addr) (word : ℕ) → KeepsSeats v slots → Enters v n a word w → slice_get slots n ≡ Some s → s.peer ≡ None → KeepsSeats w slots
seats-noted v w slots n s a word k e here empty = record {
  count = e.count ∙ k.count;
  seated = λ i t p there is. elim (cases_eq i n) [
    | inl same ↦
        let it_is : s ≡ t = some-same (slice_get slots n) s t here (subst (λ (j : ℕ). slice_get slots j ≡ Some t) same there) in
        let no : ◌≡◌ {A = Option Peering} None (Some p) = sym empty ∙ ap (λ (x : SlotState). x.peer) it_is ∙ is in
        absurd (cc)
    | inr other ↦
        let h = k.seated i t p there is in
        record { found = e.others i t.address p.terms.connect_id (omega (arith, slice_get_within slots i t there, k.count)) other h.found; asked = h.asked }
  ];
}

vacant-of : (generations : ℕ) (s : SlotState) → is_available generations s ≡ true → s.peer ≡ None
vacant-of generations s e = by (is_vacant s.peer) refl e
  where
    by : (b : Bool) → is_vacant s.peer ≡ b → (b && nat_lt s.generation generations) ≡ true → s.peer ≡ None
    by true is e = vacant-none s.peer is
    by false is e = absurd (let no : false ≡ true = e in cc)

-- the first that can be given out holds no peer
pub available-empty : (c : Config) (xs : List Slot) (i : ℕ) (x : Slot) → available c (all_shown xs) ≡ Some i → i < length xs → x ≡ get_or xs i x → (shown x).peer ≡ None
available-empty c xs i x found inside read =
    let h = position-Some (is_available c.generations) (all_shown xs) i (shown x) found in
    let is : get_or (all_shown xs) i (shown x) ≡ shown x = get_or_from_slice_get (all_shown xs) i (shown x) (shown x) (get-shown xs i x inside read) in
    vacant-of c.generations (shown x) (subst (λ (s : SlotState). is_available c.generations s ≡ true) is h.1)

-- one that asks for a connection is given out, unless memory is refused
pub seats-asked : (basis : Basis) (xs : List Slot) (question : Question) (i : ℕ) (x y : Slot) (result : Result PeerRef Refusal) (v w : Seating) → available basis.config (all_shown xs) ≡ Some i → i < length xs → x ≡ get_or xs i x
    → OnOk result (shown y ≡ asking basis i (shown x) question) → OnErr result (shown y ≡ shown x) → Enters v i question.address question.word w
    → KeepsSeats v (all_shown xs) → KeepsSeats w (all_shown (slice_set xs i y))
seats-asked basis xs question i x y (Ok name) v w found inside read asked same e k =
    let o = offer_from basis.config i (shown x) question in
    let q : Peering = peers.connecting basis.clock (drawn_for basis.config i (shown x)).offsets.time o (limits_of basis.config) in
    subst (KeepsSeats w) (sym (set-shown xs i y))
    (subst (λ (t : SlotState). KeepsSeats w (slice_set (all_shown xs) i t)) (sym asked)
    (seats-given v w (all_shown xs) i (asking basis i (shown x) question) q k e refl (λ asks. refl)))
seats-asked basis xs question i x y (Err why) v w found inside read asked same e k =
    subst (KeepsSeats w) (sym (same-shown xs i x y read same))
    (seats-noted v w (all_shown xs) i (shown x) question.address question.word k e (get-shown xs i x inside read) (available-empty basis.config xs i x found inside read))

-- slots as they are at first
pub unused-nobody : (n : ℕ) → HoldNobody (replicate n unused_slot)
unused-nobody zero i s there = absurd (cc)
unused-nobody (suc n) zero s there = let same : unused_slot ≡ s = cc in subst (λ (x : SlotState). x.peer ≡ None) same refl
unused-nobody (suc n) (suc i) s there = unused-nobody n i s there

pub joined-seats : (c : Config) (address : Addr) (f g : Seating) → KeepsSeats f (replicate c.peers unused_slot) → Enters f 0 address 0 g → KeepsSeats g (joined_slots c address)
joined-seats c address f g k e =
    let q : Peering = peers.joined c.clock (joined_terms c) (limits_of c) in
    seats-given f g (replicate c.peers unused_slot) 0 (given unused_slot address q) q k e refl (λ asks. absurd (let no : false ≡ true = asks in cc))
