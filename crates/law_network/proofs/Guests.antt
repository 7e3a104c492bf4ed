-- Who a CONNECT that is answered brings: the peer of the slot that an offer gets, as it was readied.
use Rattle.std.proofs.Common.{◌≡◌, ◌≢◌, ◌<◌, ◌≤◌, ℕ, ◌⊎◌, inl, inr, List, [], ◌∷◌, refl, sym, ap, subst, ◌∙◌, arith, Option, Some, None, slice_get}
use Rattle.std.specs.Option.{option_map, option_and_then}
use Rattle.enet_codec.specs.declared.address.Addr.{Addr}
use Rattle.enet_codec.specs.declared.event.PeerRef.{PeerRef}
use Rattle.enet_peer.specs.declared.parts.PeerState.{PeerState}
use Rattle.enet_peer.specs.declared.parts.PeerState.TheVariants as state
use Rattle.enet_peer.specs.Peering.{Peering}
use Rattle.enet_slot.specs.Giving.{Basis}
use Rattle.enet_slot.specs.Slot.{SlotState, name_of, with_peer, with_peer_in, greatest}
use Rattle.enet_slot.specs.Yielding.{readied}
use Rattle.enet_host.specs.Foretelling.{guest_name}
use Rattle.enet_host.specs.Host.{Host, named}
use Rattle.enet_host.specs.Opening.{host_basis, seat}
use Rattle.law_connection.specs.LinkSteps.{Has}
use Rattle.law_network.specs.Calls.{Call, Acts}
use Rattle.law_network.specs.Common.{common_of}
use Rattle.law_network.specs.Falling.{Begins, counted}
use Rattle.law_network.specs.IsolationLaw.{Fares, untouched, goes_on, takes_over, begins, having_emitted}
use Rattle.law_network.specs.Network.{HostEnd, fresh_end}
use Rattle.law_network.specs.Steps.{end_of_guest, begun_by, begun}
use Rattle.law_network.proofs.Names.{IsThere, named-there, there-named, begun-generation}
use Rattle.law_network.proofs.OneCall.{one-call}
use Rattle.law_network.proofs.Seats.{IsOpen, readied-new, seat-open, seat-there}

same-some : {X : Type 0} (x y : X) → ◌≡◌ {A = Option X} (Some x) (Some y) → x ≡ y
same-some x y e = cc

-- the name that a guest gets
pub guest-named : (basis : Basis) (from : Addr) (slots : List SlotState) (i : ℕ) (s : SlotState) → seat basis from slots ≡ Some i → slice_get slots i ≡ Some s → guest_name basis from slots ≡ Some (name_of i (readied s))
guest-named basis from slots i s at there =
    ap (λ (o : Option ℕ). option_and_then (λ j. option_map (λ (z : SlotState). name_of j (readied z)) (slice_get slots j)) o) at ∙ ap (λ (o : Option SlotState). option_map (λ (z : SlotState). name_of i (readied z)) o) there

pub guest-none : (basis : Basis) (from : Addr) (slots : List SlotState) → seat basis from slots ≡ None → guest_name basis from slots ≡ None
guest-none basis from slots none = ap (λ (o : Option ℕ). option_and_then (λ j. option_map (λ (z : SlotState). name_of j (readied z)) (slice_get slots j)) o) none

-- the end that begins is of that name
pub record IsGuest (x : ℕ) (from : Addr) (old new : Host) (f : HostEnd) : Type 0 where
  pub number : ℕ
  pub before : SlotState
  pub at : seat (host_basis old) from old.slots ≡ Some number
  pub there : slice_get old.slots number ≡ Some before
  pub peer : Peering
  pub held : IsThere new.slots (name_of number (readied before)) peer
  pub is : f ≡ fresh_end x (name_of number (readied before))

pub guest : (x : ℕ) (from : Addr) (old new : Host) (f : HostEnd) → Has (begun x from old new) f → IsGuest x from old new f
guest x from old new f h = by (seat (host_basis old) from old.slots) refl
  where
    held : (i : ℕ) (s : SlotState) → seat (host_basis old) from old.slots ≡ Some i → slice_get old.slots i ≡ Some s → (o : Option Peering) → named new.slots (name_of i (readied s)) ≡ o → Has (end_of_guest x (name_of i (readied s)) o) f → IsGuest x from old new f
    held i s at there None is y = absurd y
    held i s at there (Some p) is (inl same) = record { number = i; before = s; at = at; there = there; peer = p; held = named-there new.slots (name_of i (readied s)) p is; is = sym same }
    held i s at there (Some p) is (inr y) = absurd y

    by : (o : Option ℕ) → seat (host_basis old) from old.slots ≡ o → IsGuest x from old new f
    by None e = absurd (subst (λ (o : Option PeerRef). Has (begun_by x o new) f) (guest-none (host_basis old) from old.slots e) h)
    by (Some i) e =
        let s = seat-there (host_basis old) from old.slots i e in
        held i s.0 e s.1 (named new.slots (name_of i (readied s.0))) refl (subst (λ (o : Option PeerRef). Has (begun_by x o new) f) (guest-named (host_basis old) from old.slots i s.0 e s.1) h)

-- and where the host holds a peer of that name then, an end begins
pub guest-begun : (x : ℕ) (from : Addr) (old new : Host) (i : ℕ) (s : SlotState) (p : Peering) → seat (host_basis old) from old.slots ≡ Some i → slice_get old.slots i ≡ Some s → IsThere new.slots (name_of i (readied s)) p → Has (begun x from old new) (fresh_end x (name_of i (readied s)))
guest-begun x from old new i s p at there held =
    subst (λ (o : Option PeerRef). Has (begun_by x o new) (fresh_end x (name_of i (readied s)))) (sym (guest-named (host_basis old) from old.slots i s at there))
    (subst (λ (o : Option Peering). Has (end_of_guest x (name_of i (readied s)) o) (fresh_end x (name_of i (readied s)))) (sym (there-named new.slots (name_of i (readied s)) p held)) (inl refl))

-- the end as its slot has it afterwards
pub begun-is : (x : ℕ) (from : Addr) (old new : Host) (f : HostEnd) → Has (begun x from old new) f
    → (i : ℕ) × (s : SlotState) × (seat (host_basis old) from old.slots ≡ Some i) × (slice_get new.slots i ≡ Some s) × (f ≡ fresh_end x (name_of i s))
begun-is x from old new f h =
    let g = guest x from old new f h in
    (g.number, g.held.slot, g.at, g.held.there, g.is ∙ ap (λ (n : ℕ). fresh_end x (record { slot = g.number; generation = n })) (sym g.held.same))

-- ---- how it came

-- a slot that holds a peer once one went on has the generation that it had
pub kept-name : (st : PeerState) (s : SlotState) (q p : Peering) → (with_peer_in st s q).peer ≡ Some p → (with_peer_in st s q).generation ≡ s.generation
kept-name state.Free s q p has = absurd (let e : ◌≡◌ {A = Option Peering} None (Some p) = has in cc)
kept-name st s q p has = refl

-- such a slot has no guest
no-guest : (n : ℕ) (s t : SlotState) (p : Peering) → n ≤ greatest → IsOpen n s → t.generation ≡ (readied s).generation → t.peer ≡ Some p → t.generation ≡ s.generation → (s.peer ≡ None → ⊥) ⊎ (t.peer ≡ s.peer) → ⊥
no-guest n s t p few open' new has same kept = by (readied-new n s few open') kept
  where
    by : ((s.peer ≡ None) × ((readied s).generation ≡ s.generation)) ⊎ (s.generation < (readied s).generation) → (s.peer ≡ None → ⊥) ⊎ (t.peer ≡ s.peer) → ⊥
    by (inl none) (inl some) = some none.0
    by (inl none) (inr e) = absurd (let y : ◌≡◌ {A = Option Peering} None (Some p) = sym none.0 ∙ sym e ∙ has in cc)
    by (inr past) e = absurd (let a : t.generation ≡ (readied s).generation = new in let b : t.generation ≡ s.generation = same in let c : s.generation < (readied s).generation = past in omega arith)

guest-fared : (c : Call) (h : Host) (i : ℕ) (s t : SlotState) (p : Peering) → h.config.generations ≤ greatest → IsOpen h.config.generations s → t.generation ≡ (readied s).generation → t.peer ≡ Some p → Fares c (common_of h) i s t
    → (u : SlotState) × Begins c (common_of h) i u t
guest-fared c h i s t p few open' new has (untouched fell not' e) =
    absurd (no-guest h.config.generations s t p few open' new has (ap (λ (z : SlotState). z.generation) e) (inr (ap (λ (z : SlotState). z.peer) e)))
guest-fared c h i s t p few open' new has (goes_on r q ds was fell alone none e) =
    let held : (with_peer s q).peer ≡ Some p = ap (λ (z : SlotState). z.peer) (sym e) ∙ has in
    absurd (no-guest h.config.generations s t p few open' new has (ap (λ (z : SlotState). z.generation) e ∙ kept-name q.state s q p held)
    (inl (λ empty. absurd (let y : ◌≡◌ {A = Option Peering} None (Some r) = sym empty ∙ was in cc))))
guest-fared c h i s t p few open' new has (takes_over r q ds was fell alone gone left b) = (with_peer s q, b)
guest-fared c h i s t p few open' new has (begins none left b) = (s, b)

-- by any call where an end begins, its peer begins in its slot
pub guest-begins : (c : Call) (x : ℕ) (from : Addr) (old new : Host) (f : HostEnd) → old.config.generations ≤ greatest → Acts c old new → (g : IsGuest x from old new f) → (u : SlotState) × Begins c (common_of old) g.number u g.held.slot
guest-begins c x from old new f few acts g =
    let t : (t : SlotState) × (slice_get new.slots g.number ≡ Some t) × Fares c (common_of old) g.number g.before t = one-call c old new acts g.number g.before g.there in
    let same : t.0 ≡ g.held.slot = same-some t.0 g.held.slot (sym t.1 ∙ g.held.there) in
    guest-fared c old g.number g.before g.held.slot g.peer few (seat-open (host_basis old) from old.slots g.number g.before g.at g.there) g.held.same g.held.peer
    (subst (λ (y : SlotState). Fares c (common_of old) g.number g.before y) same t.2)
