-- Each peer of a host that is at a host's address is that of an end.
use Rattle.std.proofs.Common.{◌≡◌, ℕ, zero, suc, Bool, true, false, inl, List, replicate, refl, sym, ap, subst, ◌∙◌, Option, Some, None, slice_get, slice_set}
use Rattle.enet_codec.specs.declared.address.Addr.{Addr}
use Rattle.enet_codec.specs.declared.event.PeerRef.{PeerRef}
use Rattle.enet_codec.specs.declared.event.Received.{Received}
use Rattle.enet_peer.specs.declared.parts.PeerState.{PeerState}
use Rattle.enet_peer.specs.declared.parts.PeerState.TheVariants as state
use Rattle.enet_peer.specs.Peering.{Peering}
use Rattle.law_connection.specs.LinkSteps.{Has}
use Rattle.enet_slot.specs.Slot.{SlotState, name_of, with_peer, with_peer_in}
use Rattle.enet_slot.specs.Yielding.{readied}
use Rattle.enet_host.specs.Host.{Host, slot_named, peer_in, named}
use Rattle.enet_host.specs.Calls.{address_of, address_in}
use Rattle.enet_slot.specs.Giving.{unused_slot}
use Rattle.enet_host.specs.Receiving.{handled_one}
use Rattle.law_network.specs.Calls.{Call, Done, Acts}
use Rattle.law_network.specs.Calls as call
use Rattle.law_network.specs.Common.{common_of}
use Rattle.law_network.specs.Falling as falling
use Rattle.law_network.specs.IsolationLaw.{Fares, untouched, goes_on, takes_over, begins}
use Rattle.law_network.proofs.Counts.{fares-back}
use Rattle.law_network.proofs.Guests.{guest-begun, kept-name}
use Rattle.law_network.proofs.Names.{IsThere, named-there, there-slot, begun-generation}
use Rattle.law_network.proofs.Seats.{readied-free, readied-left}
use Rattle.law_network.proofs.Single.{begins-at}
use Rattle.law_network.specs.Headline.{AreEnds}
use Rattle.law_network.specs.Log.{Logged}
use Rattle.law_network.specs.Network.{HostEnd, Site, fresh_end}
use Rattle.law_network.specs.Steps.{Around, Happening, Calls, Delivers, HappensAmong, Called, BringsOne, begun}
use Rattle.law_network.proofs.Growing.{more_of, more_in, Grows, grows, stays-there, begins-there}
use Rattle.law_network.proofs.Submitting.{same-some}
use Rattle.law_network.proofs.Worlds.{acts-of}

-- slot by slot

abbrev pub IsOwned : List HostEnd → ℕ → SlotState → Type 0
IsOwned ends i t = (e : HostEnd) × Has ends e × (e.name ≡ name_of i t)

abbrev pub AreOwned : (Addr → Bool) → Site → Type 0
AreOwned is_host s = (i : ℕ) (t : SlotState) (p : Peering) → slice_get s.host.slots i ≡ Some t → t.peer ≡ Some p → is_host t.address ≡ true → IsOwned s.ends i t

-- a slot that holds a peer after one went on has the same address
kept-place : (st : PeerState) (s : SlotState) (q p : Peering) → (with_peer_in st s q).peer ≡ Some p → (with_peer_in st s q).address ≡ s.address
kept-place state.Free s q p has = absurd (let e : ◌≡◌ {A = Option Peering} None (Some p) = has in cc)
kept-place st s q p has = refl

fared : (is_host : Addr → Bool) (c : Call) (old new : Site) (more : List HostEnd) → Grows old new more → AreOwned is_host old → (i : ℕ) (s t : SlotState) (p : Peering) → slice_get old.host.slots i ≡ Some s → t.peer ≡ Some p → is_host t.address ≡ true
    → Fares c (common_of old.host) i s t
    → ((u : SlotState) → u.generation ≡ (readied s).generation → falling.Begins c (common_of old.host) i u t → IsOwned more i t) → IsOwned new.ends i t
fared is_host c old new more g k i s t p there has at (untouched fell not' e) new-end =
    let o = k i s p there (ap (λ (z : SlotState). z.peer) (sym e) ∙ has) (ap (λ (z : SlotState). is_host z.address) (sym e) ∙ at) in
    (g.change o.0, stays-there old new more g o.0 o.1, g.name o.0 ∙ o.2 ∙ ap (λ (n : ℕ). record { slot = i; generation = n }) (ap (λ (z : SlotState). z.generation) (sym e)))
fared is_host c old new more g k i s t p there has at (goes_on r q ds was fell alone none e) new-end =
    let held : (with_peer s q).peer ≡ Some p = ap (λ (z : SlotState). z.peer) (sym e) ∙ has in
    let generation : (with_peer s q).generation ≡ s.generation = kept-name q.state s q p held in
    let place : (with_peer s q).address ≡ s.address = kept-place q.state s q p held in
    let o = k i s r there was (ap is_host (sym place ∙ ap (λ (z : SlotState). z.address) (sym e)) ∙ at) in
    (g.change o.0, stays-there old new more g o.0 o.1, g.name o.0 ∙ o.2 ∙ ap (λ (n : ℕ). record { slot = i; generation = n }) (sym generation ∙ ap (λ (z : SlotState). z.generation) (sym e)))
fared is_host c old new more g k i s t p there has at (takes_over r q ds was fell alone gone left b) new-end = (let f = new-end (with_peer s q) (readied-left s r q was gone) b in (f.0, begins-there old new more g f.0 f.1, f.2))
fared is_host c old new more g k i s t p there has at (begins none left b) new-end = (let f = new-end s (ap (λ (z : SlotState). z.generation) (sym (readied-free s none))) b in (f.0, begins-there old new more g f.0 f.1, f.2))

-- a peer that answers a stranger is at no host's address
called : (w : Around) (from old new : Site) (c : Call) → HappensAmong w from (Calls c) old new → (i : ℕ) (s t : SlotState) → w.is_host t.address ≡ true → falling.Begins c (common_of old.host) i s t → IsOwned (more_of w.count from old new (Calls c)) i t
called w from old new c x i s t at (falling.asks address channels info word is some free) =
    (fresh_end w.count (name_of i s), subst (λ (d : Call). Has (more_of w.count from old new (Calls d)) (fresh_end w.count (name_of i s))) (sym is) (inl refl), refl)
called w from old new c x i s t at (falling.answers address bytes commands header o is read stranger offer taken unknown free) =
    let y : (w.is_host address ≡ false) × Called w.count (call.Receive address bytes handled_one) old new = subst (λ (d : Call). HappensAmong w from (Calls d) old new) is x in
    absurd (let z : true ≡ false = sym at ∙ y.0 in cc)

brought : (x : ℕ) (from : Addr) (bytes : List ℕ) (answer : Received) (old new : Host) (i : ℕ) (s u t : SlotState) (p : Peering) → slice_get old.slots i ≡ Some s → slice_get new.slots i ≡ Some t → t.peer ≡ Some p → u.generation ≡ (readied s).generation → falling.Begins (call.Receive from bytes answer) (common_of old) i u t
    → IsOwned (begun x from old new) i t
brought x from bytes answer old new i s u t p was there has same b =
    let c : Call = call.Receive from bytes answer in
    let generation : t.generation ≡ (readied s).generation = begun-generation c old i u t b ∙ same in (
      fresh_end x (name_of i (readied s)),
      guest-begun x from old new i s p (begins-at c old i u t b) was (record { slot = t; there = there; same = generation; peer = has }),
      ap (λ (n : ℕ). record { slot = i; generation = n }) (sym generation),
    )

-- a host by one call
by-call : (is_host : Addr → Bool) (c : Call) (old new : Site) (more : List HostEnd) → Acts c old.host new.host → Grows old new more → AreOwned is_host old
    → ((i : ℕ) (s u t : SlotState) (p : Peering) → slice_get old.host.slots i ≡ Some s → slice_get new.host.slots i ≡ Some t → t.peer ≡ Some p → is_host t.address ≡ true → u.generation ≡ (readied s).generation → falling.Begins c (common_of old.host) i u t → IsOwned more i t)
    → AreOwned is_host new
by-call is_host c old new more acts g k new-end i t p there has at =
    let s = fares-back c old.host new.host acts i t there in fared is_host c old new more g k i s.0 t p s.1 has at s.2 (λ u same b. new-end i s.0 u t p s.1 there has at same b)

pub owned-goes : (w : Around) (from old new : Site) (what : Happening) → HappensAmong w from what old new → AreOwned w.is_host old → AreOwned w.is_host new
owned-goes w from old new (Calls c) x k =
    by-call w.is_host c old new (more_of w.count from old new (Calls c)) (acts-of w from old new c x) (grows w from old new (Calls c) x) k
    (λ i s u t p was there has at same b. called w from old new c x i u t at b)
owned-goes w from old new (Delivers n answer) x k = by (slice_get from.log n) x (grows w from old new (Delivers n answer) x)
  where
    by : (found : Option Logged) → BringsOne from found answer old new → Grows old new (more_in from.address old new found) → AreOwned w.is_host new
    by None y g = absurd y
    by (Some d) y g =
        by-call w.is_host (call.Receive from.address d.text answer) old new (begun d.connection from.address old.host new.host) y.1.0 g k
        (λ i s u t p was there has at same b. brought d.connection from.address d.text answer old.host new.host i s u t p was there has same b)

-- at first

pub none-held : (n i : ℕ) (t : SlotState) (p : Peering) → slice_get (replicate n unused_slot) i ≡ Some t → t.peer ≡ Some p → ⊥
none-held zero i t p there has = absurd (let e : ◌≡◌ {A = Option SlotState} None (Some t) = there in cc)
none-held (suc n) zero t p there has = absurd (let same : unused_slot ≡ t = same-some unused_slot t there in let e : ◌≡◌ {A = Option Peering} None (Some p) = ap (λ (z : SlotState). z.peer) same ∙ has in cc)
none-held (suc n) (suc i) t p there has = none-held n i t p there has

pub one-held : (n i : ℕ) (s t : SlotState) (p : Peering) → slice_get (slice_set (replicate n unused_slot) 0 s) i ≡ Some t → t.peer ≡ Some p → name_of 0 s ≡ name_of i t
one-held zero i s t p there has = absurd (let e : ◌≡◌ {A = Option SlotState} None (Some t) = there in cc)
one-held (suc n) zero s t p there has = ap (λ (z : SlotState). name_of 0 z) (same-some s t there)
one-held (suc n) (suc i) s t p there has = absurd (none-held n i t p there has)

-- so it is of each name
pub are-ends : (is_host : Addr → Bool) (s : Site) → AreOwned is_host s → AreEnds is_host s
are-ends is_host s k name address at host = by (slot_named s.host.slots name) refl at
  where
    by-peer : (t : SlotState) (o : Option Peering) → slot_named s.host.slots name ≡ Some t → t.peer ≡ o → address_of t o ≡ Some address → (e : HostEnd) × Has s.ends e × (e.name ≡ name)
    by-peer t None is has h = absurd (let y : ◌≡◌ {A = Option Addr} None (Some address) = h in cc)
    by-peer t (Some p) is has h =
        let x : IsThere s.host.slots name p = named-there s.host.slots name p (ap peer_in is ∙ has) in
        let slot : x.slot ≡ t = same-some x.slot t (sym (there-slot s.host.slots name p x) ∙ is) in
        let place : x.slot.address ≡ address = ap (λ (z : SlotState). z.address) slot ∙ same-some t.address address h in
        let o = k name.slot x.slot p x.there x.peer (ap is_host place ∙ host) in
        (o.0, o.1, o.2 ∙ ap (λ (n : ℕ). record { slot = name.slot; generation = n }) x.same)

    by : (o : Option SlotState) → slot_named s.host.slots name ≡ o → address_in o ≡ Some address → (e : HostEnd) × Has s.ends e × (e.name ≡ name)
    by None is h = absurd (let y : ◌≡◌ {A = Option Addr} None (Some address) = h in cc)
    by (Some t) is h = by-peer t t.peer is refl h

-- where there is no stranger, of each peer
pub named-ends : (s : Site) → AreOwned (λ a. true) s → (name : PeerRef) (p : Peering) → named s.host.slots name ≡ Some p → (e : HostEnd) × Has s.ends e × (e.name ≡ name)
named-ends s k name p is =
    let x : IsThere s.host.slots name p = named-there s.host.slots name p is in
    let o = k name.slot x.slot p x.there x.peer refl in
    (o.0, o.1, o.2 ∙ ap (λ (n : ℕ). record { slot = name.slot; generation = n }) x.same)
