-- Who a name means, and names that are spent.
use Rattle.std.proofs.Common.{◌≡◌, ◌≢◌, ◌<◌, ◌≤◌, ℕ, ◌+◌, min, ◌⊎◌, inl, inr, Bool, true, false, cond, ◌==◌, nat_lt, List, [], refl, sym, ap, subst, ◌∙◌, arith, Option, Some, None, Ok, Err}
use Rattle.std.proofs.lemmas.Bool.Decides.{nat_tests}
use Rattle.std.specs.List.{slice_get}
use Rattle.enet_codec.specs.declared.event.PeerRef.{PeerRef}
use Rattle.enet_peer.specs.declared.parts.PeerState.{PeerState}
use Rattle.enet_peer.specs.declared.parts.PeerState.TheVariants as state
use Rattle.enet_peer.specs.Peering.{Peering}
use Rattle.enet_slot.specs.Slot.{SlotState, with_peer, vacated, greatest}
use Rattle.enet_host.specs.Host.{Host, with_generation, slot_named, peer_in, named}
use Rattle.enet_codec.specs.Config.{admitting}
use Rattle.enet_codec.specs.declared.config.Admission.{Admission}
use Rattle.enet_codec.specs.declared.config.Admission.TheVariants as admission
use Rattle.enet_codec.specs.declared.config.Config.{Config}
use Rattle.law_network.specs.Calls.{Call, Acts}
use Rattle.law_network.specs.Calls as call
use Rattle.law_network.specs.Common.{common_of}
use Rattle.law_network.specs.Falling.{occupied_in, fell_in, fell_to, Begins, asks, answers, counted}
use Rattle.law_network.specs.IsolationLaw.{Fares, untouched, goes_on, takes_over, begins, having_emitted}
use Rattle.law_network.proofs.Seats.{next-generation}
use Rattle.law_network.proofs.Slots.{held, freed-in}
use Rattle.law_network.proofs.OneCall.{one-call}

pub free-or : (st : PeerState) → (st ≡ state.Free) ⊎ (st ≢ state.Free)
free-or state.Free = inl refl
free-or st = inr (λ e. absurd (cc))

-- the slot of a peer's name
pub record IsThere (slots : List SlotState) (name : PeerRef) (p : Peering) : Type 0 where
  pub slot : SlotState
  pub there : slice_get slots name.slot ≡ Some slot
  pub same : slot.generation ≡ name.generation
  pub peer : slot.peer ≡ Some p

there-if : (slots : List SlotState) (name : PeerRef) (p : Peering) (s : SlotState) (b : Bool) → slice_get slots name.slot ≡ Some s → (s.generation == name.generation) ≡ b → peer_in (cond b (Some s) None) ≡ Some p → IsThere slots name p
there-if slots name p s true there t h = record { slot = s; there = there; same = grind (arith, nat_tests); peer = h }
there-if slots name p s false there t h = absurd (cc)

there-at : (slots : List SlotState) (name : PeerRef) (p : Peering) (o : Option SlotState) → slice_get slots name.slot ≡ o → peer_in (with_generation name.generation o) ≡ Some p → IsThere slots name p
there-at slots name p None there h = absurd (cc)
there-at slots name p (Some s) there h = there-if slots name p s (s.generation == name.generation) there refl h

pub named-there : (slots : List SlotState) (name : PeerRef) (p : Peering) → named slots name ≡ Some p → IsThere slots name p
named-there slots name p h = there-at slots name p (slice_get slots name.slot) refl h

pub slot-named : (slots : List SlotState) (name : PeerRef) (s : SlotState) → slice_get slots name.slot ≡ Some s → s.generation ≡ name.generation → slot_named slots name ≡ Some s
slot-named slots name s there same =
    ap (λ (o : Option SlotState). with_generation name.generation o) there
    ∙ ap (λ (b : Bool). cond b (Some s) None) (let g : s.generation ≡ name.generation = same in let e : (s.generation == name.generation) ≡ true = grind (arith, nat_tests) in e)

pub there-slot : (slots : List SlotState) (name : PeerRef) (p : Peering) (x : IsThere slots name p) → slot_named slots name ≡ Some x.slot
there-slot slots name p x = slot-named slots name x.slot x.there x.same

pub there-named : (slots : List SlotState) (name : PeerRef) (p : Peering) → IsThere slots name p → named slots name ≡ Some p
there-named slots name p x = ap (λ (o : Option SlotState). peer_in o) (there-slot slots name p x) ∙ x.peer

-- a name that nobody has again
abbrev pub IsSpentIn : Host → PeerRef → SlotState → Type 0
IsSpentIn h name s = (name.generation < s.generation) ⊎ ((h.config.generations ≤ s.generation) × (s.peer ≡ None))

pub record IsSpent (h : Host) (name : PeerRef) : Type 0 where
  pub slot : SlotState
  pub there : slice_get h.slots name.slot ≡ Some slot
  pub past : IsSpentIn h name slot

-- no call changes how many generations a slot has
admitted-generations : (c : Config) (what : Admission) → (admitting c what).generations ≡ c.generations
admitted-generations c admission.GiveWay = refl
admitted-generations c (admission.Most peers) = refl
admitted-generations c (admission.OfAddress peers) = refl

pub same-generations : (c : Call) (old new : Host) → Acts c old new → new.config.generations ≡ old.config.generations
same-generations (call.Connect address channels info word answer) old new acts = ap (λ (h : Host). h.config.generations) acts.1
same-generations (call.Submit name channel q answer) old new acts = ap (λ (h : Host). h.config.generations) acts.1
same-generations (call.Receive from bytes answer) old new acts = ap (λ (h : Host). h.config.generations) acts.rest
same-generations (call.Service None buf) old new acts = ap (λ (h : Host). h.config.generations) acts.1
same-generations (call.Service (Some gave) buf) old new acts = ap (λ (h : Host). h.config.generations) acts.1
same-generations (call.Tick ms) old new acts = ap (λ (h : Host). h.config.generations) acts
same-generations (call.Disconnect m name info answer) old new acts = ap (λ (h : Host). h.config.generations) acts.1
same-generations (call.SetBandwidth incoming outgoing (Ok done)) old new acts = ap (λ (h : Host). h.config.generations) acts
same-generations (call.SetBandwidth incoming outgoing (Err why)) old new acts = ap (λ (h : Host). h.config.generations) acts.1
same-generations (call.ConfigureThrottle name interval acceleration deceleration answer) old new acts = ap (λ (h : Host). h.config.generations) acts.1
same-generations (call.SetPingInterval name ms answer) old new acts = ap (λ (h : Host). h.config.generations) acts.1
same-generations (call.SetTimeout name limit minimum maximum answer) old new acts = ap (λ (h : Host). h.config.generations) acts.1
same-generations (call.NextEvent None) old new acts = ap (λ (h : Host). h.config.generations) acts.1
same-generations (call.NextEvent (Some event)) old new acts = ap (λ (h : Host). h.config.generations) acts.rest
same-generations (call.Admit what (Ok done)) old new acts = ap (λ (h : Host). h.config.generations) acts.1 ∙ admitted-generations old.config what
same-generations (call.Admit what (Err why)) old new acts = ap (λ (h : Host). h.config.generations) acts.2
same-generations (call.SetSendLimit bytes commands) old new acts = ap (λ (h : Host). h.config.generations) acts

none-some : {X : Type 0} (o : Option X) (x : X) → o ≡ None → o ≡ Some x → ⊥
none-some o x e f = let y : ◌≡◌ {A = Option _} None (Some x) = sym e ∙ f in absurd (cc)

-- a slot that a peer has left has the next generation, or none is left
pub past-freed : (new : Host) (name : PeerRef) (s t : SlotState) (q : Peering) (n : ℕ) → new.config.generations ≤ greatest → name.generation ≤ s.generation → q.state ≡ state.Free → t ≡ having_emitted (with_peer s q) n → IsSpentIn new name t
past-freed new name s t q n low reached free e = by (nat_lt s.generation greatest) refl
  where
    same : t ≡ having_emitted (vacated s q) n
    same = e ∙ ap (λ (x : SlotState). having_emitted x n) (freed-in s q free)

    generation : t.generation ≡ min (s.generation + 1) greatest
    generation = ap (λ (x : SlotState). x.generation) same

    by : (b : Bool) → nat_lt s.generation greatest ≡ b → IsSpentIn new name t
    by true f = inl (let g : t.generation ≡ min (s.generation + 1) greatest = generation in let r : name.generation ≤ s.generation = reached in let l : s.generation < greatest = grind (arith, nat_tests) in omega arith)
    by false f =
        let g : t.generation ≡ min (s.generation + 1) greatest = generation in
        let l : greatest ≤ s.generation = grind (arith, nat_tests) in
        let few : new.config.generations ≤ greatest = low in
        inr (omega arith, ap (λ (x : SlotState). x.peer) same)

-- a slot that is given keeps its generation
pub begun-generation : (c : Call) (h : Host) (i : ℕ) (s t : SlotState) → Begins c (common_of h) i s t → t.generation ≡ s.generation
begun-generation c h i s t (asks address channels info word is some at) = refl
begun-generation c h i s t (answers from bytes commands header o is read stranger offer taken new at) = refl

-- and one whose peer left it first has the next
pub over-generation : (c : Call) (h : Host) (i : ℕ) (s t : SlotState) (q : Peering) → h.config.generations ≤ greatest → q.state ≡ state.Free → (with_peer s q).generation < h.config.generations → Begins c (common_of h) i (with_peer s q) t → t.generation ≡ s.generation + 1
over-generation c h i s t q low gone left b = begun-generation c h i (with_peer s q) t b ∙ next-generation s q h.config.generations low gone left

pub over-past : (c : Call) (h : Host) (i : ℕ) (s t : SlotState) (q : Peering) → h.config.generations ≤ greatest → q.state ≡ state.Free → (with_peer s q).generation < h.config.generations → Begins c (common_of h) i (with_peer s q) t
    → (n : ℕ) → n ≤ s.generation → n < t.generation
over-past c h i s t q low gone left b n reached = let g : t.generation ≡ s.generation + 1 = over-generation c h i s t q low gone left b in let r : n ≤ s.generation = reached in omega arith

-- a spent name stays so
spent-in : (c : Call) (old new : Host) (name : PeerRef) (s t : SlotState) → new.config.generations ≡ old.config.generations → old.config.generations ≤ greatest → Fares c (common_of old) name.slot s t → IsSpentIn old name s → IsSpentIn new name t
spent-in c old new name s t same low (untouched none not' e) (inl past) = inl (let g : t.generation ≡ s.generation = ap (λ (x : SlotState). x.generation) e in omega arith)
spent-in c old new name s t same low (untouched none not' e) (inr over) =
    let g : t.generation ≡ s.generation = ap (λ (x : SlotState). x.generation) e in
    let least : old.config.generations ≤ s.generation = over.0 in
    inr (omega arith, ap (λ (x : SlotState). x.peer) e ∙ over.1)
spent-in c old new name s t same low (goes_on p q ds has fell alone none e) (inl past) = by (free-or q.state)
  where
    n : ℕ
    n = counted c (common_of old) name.slot s

    by : (q.state ≡ state.Free) ⊎ (q.state ≢ state.Free) → IsSpentIn new name t
    by (inl free) = past-freed new name s t q n (let a : new.config.generations ≡ old.config.generations = same in let b : old.config.generations ≤ greatest = low in omega arith) (let a : name.generation < s.generation = past in omega arith) free e
    by (inr live) = inl (let g : t.generation ≡ s.generation = ap (λ (x : SlotState). x.generation) (e ∙ ap (λ (x : SlotState). having_emitted x n) (held s q live)) in let a : name.generation < s.generation = past in omega arith)
spent-in c old new name s t same low (goes_on p q ds has fell alone none e) (inr over) = absurd (none-some s.peer p over.1 has)
spent-in c old new name s t same low (takes_over p q ds has fell alone gone left b) (inl past) = inl (over-past c old name.slot s t q low gone left b name.generation (let a : name.generation < s.generation = past in omega arith))
spent-in c old new name s t same low (takes_over p q ds has fell alone gone left b) (inr over) = absurd (none-some s.peer p over.1 has)
spent-in c old new name s t same low (begins none left b) (inl past) = inl (let g : t.generation ≡ s.generation = begun-generation c old name.slot s t b in omega arith)
spent-in c old new name s t same low (begins none left b) (inr over) = absurd (let least : old.config.generations ≤ s.generation = over.0 in let a : s.generation < old.config.generations = left in omega arith)

pub spent-step : (c : Call) (old new : Host) (name : PeerRef) → old.config.generations ≤ greatest → Acts c old new → IsSpent old name → IsSpent new name
spent-step c old new name low acts x =
    let y : (t : SlotState) × (slice_get new.slots name.slot ≡ Some t) × Fares c (common_of old) name.slot x.slot t = one-call c old new acts name.slot x.slot x.there in
    record { slot = y.0; there = y.1; past = spent-in c old new name x.slot y.0 (same-generations c old new acts) low y.2 x.past }

-- a spent name means nobody, and nothing falls to it
empty-if : (h : Host) (name : PeerRef) (s : SlotState) → IsSpentIn h name s → (s.generation == name.generation) ≡ true → s.peer ≡ None
empty-if h name s (inl past) t = absurd (let e : s.generation ≡ name.generation = grind (arith, nat_tests) in omega arith)
empty-if h name s (inr over) t = over.1

fell-if : (h : Host) (i : ℕ) (s : SlotState) (c : Call) (b : Bool) → (b ≡ true → s.peer ≡ None) → fell_to (common_of h) i (cond b (Some s) None) c []
fell-if h i s c true none = subst (λ (o : Option Peering). fell_in (common_of h) (occupied_in i s o) c []) (sym (none refl)) refl
fell-if h i s c false none = refl

nobody-if : (s : SlotState) (b : Bool) → (b ≡ true → s.peer ≡ None) → peer_in (cond b (Some s) None) ≡ None
nobody-if s true none = none refl
nobody-if s false none = refl

pub spent-fell : (h : Host) (name : PeerRef) (c : Call) → IsSpent h name → fell_to (common_of h) name.slot (slot_named h.slots name) c []
spent-fell h name c x =
    subst (λ (o : Option SlotState). fell_to (common_of h) name.slot (with_generation name.generation o) c []) (sym x.there)
    (fell-if h name.slot x.slot c (x.slot.generation == name.generation) (empty-if h name x.slot x.past))

pub spent-nobody : (h : Host) (name : PeerRef) → IsSpent h name → named h.slots name ≡ None
spent-nobody h name x =
    ap (λ (o : Option SlotState). peer_in (with_generation name.generation o)) x.there ∙ nobody-if x.slot (x.slot.generation == name.generation) (empty-if h name x.slot x.past)
