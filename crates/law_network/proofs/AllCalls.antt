-- Lists of calls, one call after another.
use Rattle.std.proofs.Common.{◌≡◌, ◌≢◌, ◌≤◌, ℕ, ◌⊎◌, inl, inr, List, [], ◌∷◌, ◌++◌, refl, sym, ap, subst, ◌∙◌, arith, Option, Some, None}
use Rattle.std.specs.List.{slice_get}
use Rattle.enet_codec.specs.declared.event.PeerRef.{PeerRef}
use Rattle.enet_peer.specs.declared.parts.PeerState.{PeerState}
use Rattle.enet_peer.specs.declared.parts.PeerState.TheVariants as state
use Rattle.enet_peer.specs.Peering.{Peering}
use Rattle.enet_slot.specs.Slot.{SlotState, greatest}
use Rattle.enet_host.specs.Host.{Host, slot_named, named}
use Rattle.law_network.specs.Calls.{Call, Steps}
use Rattle.law_network.specs.Common.{common_of}
use Rattle.law_network.specs.Deeds.{Deed, AllAlone}
use Rattle.law_network.specs.Falling.{Fell, occupied_in, fell_in, fell_to, FellAll, counted}
use Rattle.law_network.specs.IsolationLaw.{Stays, Fares, untouched, goes_on, takes_over, begins, having_emitted, held_if, IsIsolated, Isolation}
use Rattle.law_network.proofs.Slots.{held}
use Rattle.law_network.proofs.OneCall.{one-call}
use Rattle.law_network.proofs.Names.{free-or, IsThere, named-there, there-slot, there-named, IsSpent, same-generations, past-freed, over-past, spent-step, spent-fell, spent-nobody}

-- deeds, and then more
pub alone-append : (ds es : List Deed) (p q r : Peering) → AllAlone ds p q → AllAlone es q r → AllAlone (ds ++ es) p r
alone-append [] es p q r a b = subst (λ (x : Peering). AllAlone es x r) (sym a) b
alone-append (d ∷ ds) es p q r a b = (a.0, a.1, alone-append ds es a.0 q r a.2 b)

-- nothing falls to a name that is spent, and nobody has it
pub spent-all : (cs : List Call) (old new : Host) (steps : Steps cs old new) (name : PeerRef) → old.config.generations ≤ greatest → IsSpent old name → FellAll name cs (record { before = old; after = new; steps = steps }) [] × (named new.slots name ≡ None)
spent-all [] old new steps name low x = (refl, ap (λ (h : Host). named h.slots name) (sym steps) ∙ spent-nobody old name x)
spent-all (c ∷ cs) old new steps name low x =
    let r : FellAll name cs (record { before = steps.0; after = new; steps = steps.2 }) [] × (named new.slots name ≡ None) =
    spent-all cs steps.0 new steps.2 name (let e : steps.0.config.generations ≡ old.config.generations = same-generations c old steps.0 steps.1 in omega arith) (spent-step c old steps.0 name low steps.1 x) in
    (([], [], refl, spent-fell old name c x, r.0), r.1)

live-in : (st : PeerState) (p : Peering) → st ≢ state.Free → held_if st p ≡ Some p
live-in state.Free p n = absurd (n refl)
live-in st p n = refl

-- the deeds of one call of a name
pub fell-there : (h : Host) (name : PeerRef) (p : Peering) (c : Call) (ds : List Deed) (x : IsThere h.slots name p) → Fell (common_of h) (record { number = name.slot; slot = x.slot; peer = p }) c ds → fell_to (common_of h) name.slot (slot_named h.slots name) c ds
fell-there h name p c ds x f =
    subst (λ (o : Option SlotState). fell_to (common_of h) name.slot o c ds) (sym (there-slot h.slots name p x)) (subst (λ (o : Option Peering). fell_in (common_of h) (occupied_in name.slot x.slot o) c ds) (sym x.peer) f)

-- a peer that a call left free, after which its name is spent
isolated-gone : (c : Call) (cs : List Call) (old new : Host) (steps : Steps (c ∷ cs) old new) (name : PeerRef) (p q : Peering) (ds : List Deed) → old.config.generations ≤ greatest → fell_to (common_of old) name.slot (slot_named old.slots name) c ds → AllAlone ds p q
    → q.state ≡ state.Free → IsSpent steps.0 name → IsIsolated (c ∷ cs) (record { before = old; after = new; steps = steps }) name p
isolated-gone c cs old new steps name p q ds low fell alone free spent =
    let few : steps.0.config.generations ≤ greatest = (let g : steps.0.config.generations ≡ old.config.generations = same-generations c old steps.0 steps.1 in let l : old.config.generations ≤ greatest = low in omega arith) in
    let r : FellAll name cs (record { before = steps.0; after = new; steps = steps.2 }) [] × (named new.slots name ≡ None) = spent-all cs steps.0 new steps.2 name few spent in
    record { deeds = ds ++ []; fell = (ds, [], refl, fell, r.0); after = q; alone = alone-append ds [] p q q alone refl; is = r.1 ∙ sym (ap (λ (st : PeerState). held_if st q) free) }

-- one call and those after it
isolated-step : (c : Call) (cs : List Call) (old new : Host) (steps : Steps (c ∷ cs) old new) (name : PeerRef) (p : Peering) → old.config.generations ≤ greatest → p.state ≢ state.Free → (x : IsThere old.slots name p)
    → (t : SlotState) → slice_get steps.0.slots name.slot ≡ Some t → Fares c (common_of old) name.slot x.slot t
    → ((q : Peering) → q.state ≢ state.Free → IsThere steps.0.slots name q → IsIsolated cs (record { before = steps.0; after = new; steps = steps.2 }) name q) → IsIsolated (c ∷ cs) (record { before = old; after = new; steps = steps }) name p
isolated-step c cs old new steps name p low live x t there (untouched none not' e) later =
    let r : IsIsolated cs (record { before = steps.0; after = new; steps = steps.2 }) name p = later p live (record { slot = t; there = there; same = ap (λ (s : SlotState). s.generation) e ∙ x.same; peer = ap (λ (s : SlotState). s.peer) e ∙ x.peer }) in
    let k : Stays c (common_of old) name.slot x.slot p = none p x.peer in
    record { deeds = k.deeds ++ r.deeds; fell = (k.deeds, r.deeds, refl, fell-there old name p c k.deeds x k.fell, r.fell); after = r.after; alone = alone-append k.deeds r.deeds p p r.after k.alone r.alone; is = r.is }
isolated-step c cs old new steps name p low live x t there (goes_on p2 q ds has fell alone none e) later = by (free-or q.state)
  where
    n : ℕ
    n = counted c (common_of old) name.slot x.slot

    same : p2 ≡ p
    same = let y : ◌≡◌ {A = Option Peering} (Some p2) (Some p) = sym has ∙ x.peer in cc

    fell2 : fell_to (common_of old) name.slot (slot_named old.slots name) c ds
    fell2 = fell-there old name p c ds x (subst (λ (y : Peering). Fell (common_of old) (record { number = name.slot; slot = x.slot; peer = y }) c ds) same fell)

    alone2 : AllAlone ds p q
    alone2 = subst (λ (y : Peering). AllAlone ds y q) same alone

    by : (q.state ≡ state.Free) ⊎ (q.state ≢ state.Free) → IsIsolated (c ∷ cs) (record { before = old; after = new; steps = steps }) name p
    by (inl free) =
        let few : steps.0.config.generations ≤ greatest = (let g : steps.0.config.generations ≡ old.config.generations = same-generations c old steps.0 steps.1 in let l : old.config.generations ≤ greatest = low in omega arith) in
        isolated-gone c cs old new steps name p q ds low fell2 alone2 free
        (record { slot = t; there = there; past = past-freed steps.0 name x.slot t q n few (let g : x.slot.generation ≡ name.generation = x.same in omega arith) free e })
    by (inr stays) =
        let f : t ≡ having_emitted (record x.slot { peer = Some q }) n = e ∙ ap (λ (s : SlotState). having_emitted s n) (held x.slot q stays) in
        let r : IsIsolated cs (record { before = steps.0; after = new; steps = steps.2 }) name q = later q stays (record { slot = t; there = there; same = ap (λ (s : SlotState). s.generation) f ∙ x.same; peer = ap (λ (s : SlotState). s.peer) f }) in
        record { deeds = ds ++ r.deeds; fell = (ds, r.deeds, refl, fell2, r.fell); after = r.after; alone = alone-append ds r.deeds p q r.after alone2 r.alone; is = r.is }
isolated-step c cs old new steps name p low live x t there (takes_over p2 q ds has fell alone gone left b) later =
    let same : p2 ≡ p = (let y : ◌≡◌ {A = Option Peering} (Some p2) (Some p) = sym has ∙ x.peer in cc) in
    isolated-gone c cs old new steps name p q ds low (fell-there old name p c ds x (subst (λ (y : Peering). Fell (common_of old) (record { number = name.slot; slot = x.slot; peer = y }) c ds) same fell))
    (subst (λ (y : Peering). AllAlone ds y q) same alone) gone
    (record { slot = t; there = there; past = inl (over-past c old name.slot x.slot t q low gone left b name.generation (let g : x.slot.generation ≡ name.generation = x.same in omega arith)) })
isolated-step c cs old new steps name p low live x t there (begins none left b) later = absurd (let y : ◌≡◌ {A = Option Peering} None (Some p) = sym none ∙ x.peer in cc)

isolated : (cs : List Call) (old new : Host) (steps : Steps cs old new) (name : PeerRef) (p : Peering) → old.config.generations ≤ greatest → p.state ≢ state.Free → IsThere old.slots name p → IsIsolated cs (record { before = old; after = new; steps = steps }) name p
isolated [] old new steps name p low live x =
    record { deeds = []; fell = refl; after = p; alone = refl; is = ap (λ (h : Host). named h.slots name) (sym steps) ∙ there-named old.slots name p x ∙ sym (live-in p.state p live) }
isolated (c ∷ cs) old new steps name p low live x =
    let y : (t : SlotState) × (slice_get steps.0.slots name.slot ≡ Some t) × Fares c (common_of old) name.slot x.slot t = one-call c old steps.0 steps.1 name.slot x.slot x.there in
    isolated-step c cs old new steps name p low live x y.0 y.1 y.2
    (λ q stays z. isolated cs steps.0 new steps.2 name q (let g : steps.0.config.generations ≡ old.config.generations = same-generations c old steps.0 steps.1 in omega arith) stays z)

pub isolation : Isolation
isolation h keeps cs new steps name p is =
    let x : IsThere h.slots name p = named-there h.slots name p is in
    isolated cs h new steps name p keeps.generations (keeps.held name.slot x.slot p x.there x.peer) x
