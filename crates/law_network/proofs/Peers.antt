-- The peer of an end through one call of its host.
use Rattle.std.proofs.Common.{◌≡◌, ◌≢◌, ◌≤◌, ℕ, ◌⊎◌, inl, inr, List, refl, sym, ap, subst, ◌∙◌, arith, Option, Some, None}
use Rattle.std.specs.List.{slice_get}
use Rattle.enet_codec.specs.declared.event.PeerRef.{PeerRef}
use Rattle.enet_peer.specs.declared.parts.PeerState.{PeerState}
use Rattle.enet_peer.specs.declared.parts.PeerState.TheVariants as state
use Rattle.enet_peer.specs.Peering.{Peering}
use Rattle.enet_slot.specs.Slot.{SlotState, greatest}
use Rattle.enet_host.specs.Host.{Host, named}
use Rattle.law_network.specs.Calls.{Call, Acts}
use Rattle.law_network.specs.Common.{common_of}
use Rattle.law_network.specs.Deeds.{Deed, AllAlone}
use Rattle.law_network.specs.Falling.{Fell, counted}
use Rattle.law_network.specs.IsolationLaw.{Stays, Fares, untouched, goes_on, takes_over, begins, having_emitted, held_if}
use Rattle.law_network.proofs.Names.{free-or, IsThere, named-there, there-named, IsSpent, same-generations, past-freed, over-past, spent-step, spent-nobody}
use Rattle.law_network.proofs.OneCall.{one-call}
use Rattle.law_network.proofs.Slots.{held}
use Rattle.law_network.specs.Shown.{IsGone, ShowsPeer}

-- what a peer that isn't free is held as
held-live : (st : PeerState) (p : Peering) → st ≢ state.Free → held_if st p ≡ Some p
held-live state.Free p n = absurd (n refl)
held-live st p n = refl

pub shows-held : (h : Host) (name : PeerRef) (p : Peering) → p.state ≢ state.Free → IsThere h.slots name p → ShowsPeer h name p
shows-held h name p live x = record {
  is = there-named h.slots name p x ∙ sym (held-live p.state p live);
  gone = λ free. absurd (live free);
}

pub shows-gone : (h : Host) (name : PeerRef) (p : Peering) → p.state ≡ state.Free → IsSpent h name → ShowsPeer h name p
shows-gone h name p free x = record {
  is = spent-nobody h name x ∙ sym (ap (λ (st : PeerState). held_if st p) free);
  gone = λ f. (x.slot, x.there, x.past);
}

-- it is there, or it is free and gone
pub there-or : (h : Host) (name : PeerRef) (p : Peering) → ShowsPeer h name p → ((p.state ≢ state.Free) × IsThere h.slots name p) ⊎ ((p.state ≡ state.Free) × IsSpent h name)
there-or h name p k = by (free-or p.state)
  where
    by : (p.state ≡ state.Free) ⊎ (p.state ≢ state.Free) → ((p.state ≢ state.Free) × IsThere h.slots name p) ⊎ ((p.state ≡ state.Free) × IsSpent h name)
    by (inl free) = inr (let g : IsGone h name = k.gone free in (free, record { slot = g.0; there = g.1; past = g.2 }))
    by (inr live) = inl (live, named-there h.slots name p (k.is ∙ held-live p.state p live))

-- a peer that went on in its slot, or left it free
pub shows-after : (c : Call) (old new : Host) (name : PeerRef) (p q : Peering) (x : IsThere old.slots name p) (t : SlotState) (n : ℕ) → old.config.generations ≤ greatest → new.config.generations ≡ old.config.generations
    → slice_get new.slots name.slot ≡ Some t → t ≡ having_emitted (Rattle.enet_slot.specs.Slot.with_peer x.slot q) n → ShowsPeer new name q
shows-after c old new name p q x t n low same there e = by (free-or q.state)
  where
    by : (q.state ≡ state.Free) ⊎ (q.state ≢ state.Free) → ShowsPeer new name q
    by (inl free) = shows-gone new name q free (record {
      slot = t;
      there = there;
      past = past-freed new name x.slot t q n (let g : new.config.generations ≡ old.config.generations = same in let l : old.config.generations ≤ greatest = low in omega arith) (let g : x.slot.generation ≡ name.generation = x.same in omega arith) free e;
    })
    by (inr live) =
        let f : t ≡ having_emitted (record x.slot { peer = Some q }) n = e ∙ ap (λ (s : SlotState). having_emitted s n) (held x.slot q live) in
        shows-held new name q live (record { slot = t; there = there; same = ap (λ (s : SlotState). s.generation) f ∙ x.same; peer = ap (λ (s : SlotState). s.peer) f })

-- one call: the peer is gone, or does alone what falls to it
pub data Moved (c : Call) (old new : Host) (name : PeerRef) (p : Peering) : Type 0 where
  is_gone : ShowsPeer new name p → ((q : Peering) → IsThere old.slots name q → ⊥) → Moved c old new name p
  goes : (x : IsThere old.slots name p) (ds : List Deed) (q : Peering) → Fell (common_of old) (record { number = name.slot; slot = x.slot; peer = p }) c ds → AllAlone ds p q → ShowsPeer new name q → Moved c old new name p

moved-there : (c : Call) (old new : Host) (name : PeerRef) (p : Peering) → old.config.generations ≤ greatest → new.config.generations ≡ old.config.generations → p.state ≢ state.Free → (x : IsThere old.slots name p)
    → (t : SlotState) → slice_get new.slots name.slot ≡ Some t → Fares c (common_of old) name.slot x.slot t → Moved c old new name p
moved-there c old new name p low same live x t there (untouched none not' e) =
    let k : Stays c (common_of old) name.slot x.slot p = none p x.peer in
    goes x k.deeds p k.fell k.alone (shows-held new name p live (record {
      slot = t;
      there = there;
      same = ap (λ (s : SlotState). s.generation) e ∙ x.same;
      peer = ap (λ (s : SlotState). s.peer) e ∙ x.peer;
    }))
moved-there c old new name p low same live x t there (goes_on r q ds has fell alone none e) =
    let is : r ≡ p = (let y : ◌≡◌ {A = Option Peering} (Some r) (Some p) = sym has ∙ x.peer in cc) in
    goes x ds q (subst (λ (y : Peering). Fell (common_of old) (record { number = name.slot; slot = x.slot; peer = y }) c ds) is fell) (subst (λ (y : Peering). AllAlone ds y q) is alone) (shows-after c old new name p q x t (counted c (common_of old) name.slot x.slot) low same there e)
moved-there c old new name p low same live x t there (takes_over r q ds has fell alone gone left b) =
    let is : r ≡ p = (let y : ◌≡◌ {A = Option Peering} (Some r) (Some p) = sym has ∙ x.peer in cc) in
    goes x ds q (subst (λ (y : Peering). Fell (common_of old) (record { number = name.slot; slot = x.slot; peer = y }) c ds) is fell) (subst (λ (y : Peering). AllAlone ds y q) is alone)
    (shows-gone new name q gone (record { slot = t; there = there; past = inl (over-past c old name.slot x.slot t q low gone left b name.generation (let g : x.slot.generation ≡ name.generation = x.same in omega arith)) }))
moved-there c old new name p low same live x t there (begins none left b) = absurd (let y : ◌≡◌ {A = Option Peering} None (Some p) = sym none ∙ x.peer in cc)

some-none : (h : Host) (name : PeerRef) (q : Peering) → named h.slots name ≡ None → IsThere h.slots name q → ⊥
some-none h name q none x = let y : ◌≡◌ {A = Option Peering} None (Some q) = sym none ∙ there-named h.slots name q x in absurd (cc)

pub moved : (c : Call) (old new : Host) (name : PeerRef) (p : Peering) → old.config.generations ≤ greatest → Acts c old new → ShowsPeer old name p → Moved c old new name p
moved c old new name p low acts k = by (there-or old name p k)
  where
    by : ((p.state ≢ state.Free) × IsThere old.slots name p) ⊎ ((p.state ≡ state.Free) × IsSpent old name) → Moved c old new name p
    by (inl live) =
        let x : IsThere old.slots name p = live.1 in
        let y : (t : SlotState) × (slice_get new.slots name.slot ≡ Some t) × Fares c (common_of old) name.slot x.slot t = one-call c old new acts name.slot x.slot x.there in
        moved-there c old new name p low (same-generations c old new acts) live.0 x y.0 y.1 y.2
    by (inr gone) = is_gone (shows-gone new name p gone.0 (spent-step c old new name low acts gone.1)) (λ q. some-none old name q (spent-nobody old name gone.1))
