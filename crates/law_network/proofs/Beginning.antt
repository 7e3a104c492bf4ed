-- How each peer began, from any host on, and whose sessions each slot has.
use Rattle.std.proofs.Common.{◌≡◌, ◌≢◌, ◌<◌, ◌≤◌, ℕ, zero, suc, ◌+◌, min, ◌⊎◌, inl, inr, true, List, [], ◌∷◌, ◌++◌, replicate, refl, sym, ap, subst, ◌∙◌, arith, Option, Some, None, slice_set}
use Rattle.std.proofs.lemmas.Bool.Decides.{nat_tests}
use Rattle.std.specs.List.{slice_get}
use Rattle.enet_codec.specs.declared.address.Addr.{Addr}
use Rattle.enet_codec.specs.declared.config.Config.{Config}
use Rattle.enet_codec.specs.Config.{is_in_range}
use Rattle.enet_codec.specs.declared.event.PeerRef.{PeerRef}
use Rattle.enet_peer.specs.declared.parts.PeerState.TheVariants as state
use Rattle.enet_peer.specs.Peering.{Peering}
use Rattle.enet_peer.specs.Peering as peers
use Rattle.enet_slot.specs.Slot.{SlotState, name_of, with_peer, vacated, greatest}
use Rattle.enet_slot.specs.Giving.{limits_of, unused_slot, joined_terms, given}
use Rattle.enet_host.specs.Host.{Host, Keeps, named}
use Rattle.enet_host.specs.Opening as opening
use Rattle.law_network.specs.Calls.{Call, Acts, Steps}
use Rattle.law_network.specs.Common.{common_of}
use Rattle.law_network.specs.Deeds.{Deed, AllAlone}
use Rattle.law_network.specs.Falling.{Fell, Begins, asks, answers, FellAll, counted}
use Rattle.law_network.specs.IsolationLaw.{Stays, Fares, untouched, goes_on, takes_over, begins, having_emitted}
use Rattle.law_network.specs.Beginnings.{IsReady, was_free, was_left, WasThere, BeganBy, Lived, IsAfter, IsFirst, IsBeginning, Beginnings}
use Rattle.law_network.proofs.AllCalls.{alone-append, spent-all, fell-there}
use Rattle.law_network.proofs.Counts.{fares-back}
use Rattle.law_network.proofs.IsolationKeeping.{each-keeps}
use Rattle.law_network.proofs.Names.{free-or, IsThere, named-there, there-named, same-generations, past-freed, begun-generation, over-generation, over-past}
use Rattle.law_network.proofs.Slots.{held, freed-in}

-- what a host keeps: a slot holds a peer only where it has a generation left
record IsSound (h : Host) : Type 0 where
  keeps : Keeps h
  left : (i : ℕ) (s : SlotState) (p : Peering) → slice_get h.slots i ≡ Some s → s.peer ≡ Some p → s.generation < h.config.generations

-- the slot of a peer that went on
record WentOn (s t : SlotState) (q : Peering) : Type 0 where
  live : q.state ≢ state.Free
  generation : t.generation ≡ s.generation
  peer : t.peer ≡ Some q
  incoming : t.incoming_session ≡ s.incoming_session
  outgoing : t.outgoing_session ≡ s.outgoing_session
  ending : t.ending ≡ s.ending

went-on : (s t : SlotState) (q : Peering) (n : ℕ) → q.state ≢ state.Free → t ≡ having_emitted (with_peer s q) n → WentOn s t q
went-on s t q n live e =
    let f : t ≡ having_emitted (record s { peer = Some q }) n = e ∙ ap (λ (x : SlotState). having_emitted x n) (held s q live) in
    record {
      live = live;
      generation = ap (λ (x : SlotState). x.generation) f;
      peer = ap (λ (x : SlotState). x.peer) f;
      incoming = ap (λ (x : SlotState). x.incoming_session) f;
      outgoing = ap (λ (x : SlotState). x.outgoing_session) f;
      ending = ap (λ (x : SlotState). x.ending) f;
    }

-- and of one that is gone
record WentOut (s t : SlotState) (q : Peering) : Type 0 where
  free : q.state ≡ state.Free
  generation : t.generation ≡ min (s.generation + 1) greatest
  peer : t.peer ≡ None
  incoming : t.incoming_session ≡ q.terms.incoming_session
  outgoing : t.outgoing_session ≡ q.terms.outgoing_session
  ending : t.ending ≡ q.ending

went-out : (s t : SlotState) (q : Peering) (n : ℕ) → q.state ≡ state.Free → t ≡ having_emitted (with_peer s q) n → WentOut s t q
went-out s t q n free e =
    let f : t ≡ having_emitted (vacated s q) n = e ∙ ap (λ (x : SlotState). having_emitted x n) (freed-in s q free) in
    record {
      free = free;
      generation = ap (λ (x : SlotState). x.generation) f;
      peer = ap (λ (x : SlotState). x.peer) f;
      incoming = ap (λ (x : SlotState). x.incoming_session) f;
      outgoing = ap (λ (x : SlotState). x.outgoing_session) f;
      ending = ap (λ (x : SlotState). x.ending) f;
    }

went : (s t : SlotState) (q : Peering) (n : ℕ) → t ≡ having_emitted (with_peer s q) n → WentOn s t q ⊎ WentOut s t q
went s t q n e = by (free-or q.state)
  where
    by : (q.state ≡ state.Free) ⊎ (q.state ≢ state.Free) → WentOn s t q ⊎ WentOut s t q
    by (inl free) = inr (went-out s t q n free e)
    by (inr live) = inl (went-on s t q n live e)

none-some : {A : Type 0} (o : Option Peering) (p : Peering) → o ≡ None → o ≡ Some p → A
none-some o p e f = absurd (let y : ◌≡◌ {A = Option Peering} None (Some p) = sym e ∙ f in cc)

one-peer : (o : Option Peering) (p q : Peering) → o ≡ Some p → o ≡ Some q → p ≡ q
one-peer o p q e f = let y : ◌≡◌ {A = Option Peering} (Some p) (Some q) = sym e ∙ f in cc

-- it stays sound
left-after : (c : Call) (old new : Host) (i : ℕ) (s t : SlotState) (p : Peering) → IsSound old → new.config.generations ≡ old.config.generations → slice_get old.slots i ≡ Some s → t.peer ≡ Some p → Fares c (common_of old) i s t
    → t.generation < new.config.generations
left-after c old new i s t p sound same there has (untouched stays not' e) =
    let low : s.generation < old.config.generations = sound.left i s p there (ap (λ (x : SlotState). x.peer) (sym e) ∙ has) in
    let g : t.generation ≡ s.generation = ap (λ (x : SlotState). x.generation) e in
    let k : new.config.generations ≡ old.config.generations = same in omega arith
left-after c old new i s t p sound same there has (goes_on r q ds was fell alone none e) = by (went s t q (counted c (common_of old) i s) e)
  where
    by : WentOn s t q ⊎ WentOut s t q → t.generation < new.config.generations
    by (inl on) =
        let low : s.generation < old.config.generations = sound.left i s r there was in
        let g : t.generation ≡ s.generation = on.generation in
        let k : new.config.generations ≡ old.config.generations = same in omega arith
    by (inr out) = none-some t.peer p out.peer has
left-after c old new i s t p sound same there has (takes_over r q ds was fell alone gone left b) =
    let low : (with_peer s q).generation < old.config.generations = left in
    let g : t.generation ≡ (with_peer s q).generation = begun-generation c old i (with_peer s q) t b in
    let k : new.config.generations ≡ old.config.generations = same in omega arith
left-after c old new i s t p sound same there has (begins none left b) =
    let low : s.generation < old.config.generations = left in
    let g : t.generation ≡ s.generation = begun-generation c old i s t b in
    let k : new.config.generations ≡ old.config.generations = same in omega arith

sound-goes : (c : Call) (old new : Host) → Acts c old new → IsSound old → IsSound new
sound-goes c old new acts sound = record {
  keeps = each-keeps.call c old new acts sound.keeps;
  left = λ i t p there has.
      let s : (s : SlotState) × (slice_get old.slots i ≡ Some s) × Fares c (common_of old) i s t = fares-back c old new acts i t there in
      left-after c old new i s.0 t p sound (same-generations c old new acts) s.1 has s.2;
}

-- the life of a peer that was there before a call and did alone what fell to it
lived-on : (c : Call) (cs : List Call) (old new : Host) (steps : Steps (c ∷ cs) old new) (name : PeerRef) (p r q : Peering) (ds es : List Deed) (x : IsThere old.slots name p) → Fell (common_of old) (record { number = name.slot; slot = x.slot; peer = p }) c ds → AllAlone ds p r
    → FellAll name cs (record { before = steps.0; after = new; steps = steps.2 }) es → AllAlone es r q → Lived name (c ∷ cs) (record { before = old; after = new; steps = steps }) q
lived-on c cs old new steps name p r q ds es x fell alone later more = record {
  first = p;
  deeds = ds ++ es;
  began = inl (there-named old.slots name p x, (ds, es, refl, fell-there old name p c ds x fell, later));
  alone = alone-append ds es p r q alone more;
}

-- the life of a peer that began by a call
lived-from : (c : Call) (cs : List Call) (old new : Host) (steps : Steps (c ∷ cs) old new) (name : PeerRef) (s u : SlotState) → slice_get old.slots name.slot ≡ Some s → (first q : Peering) (es : List Deed) (x : IsThere steps.0.slots name first)
    → IsReady c (common_of old) name.slot s u → Begins c (common_of old) name.slot u x.slot → FellAll name cs (record { before = steps.0; after = new; steps = steps.2 }) es → AllAlone es first q → Lived name (c ∷ cs) (record { before = old; after = new; steps = steps }) q
lived-from c cs old new steps name s u there first q es x ready b later more = record {
  first = first;
  deeds = es;
  began = inr (inl (
    record {
      before = s;
      there = there;
      slot = u;
      ready = ready;
      same = sym (begun-generation c old name.slot u x.slot b) ∙ x.same;
      given = x.slot;
      begins = b;
      peer = x.peer;
    },
    later,
  ));
  alone = more;
}

-- the life of a peer that was there after a call
lived-since : (c : Call) (cs : List Call) (old new : Host) (steps : Steps (c ∷ cs) old new) (name : PeerRef) (s : SlotState) → slice_get old.slots name.slot ≡ Some s → (first q : Peering) (es : List Deed) (x : IsThere steps.0.slots name first)
    → Fares c (common_of old) name.slot s x.slot → FellAll name cs (record { before = steps.0; after = new; steps = steps.2 }) es → AllAlone es first q → Lived name (c ∷ cs) (record { before = old; after = new; steps = steps }) q
lived-since c cs old new steps name s there first q es x (untouched stays not' e) later more =
    let has : s.peer ≡ Some first = ap (λ (y : SlotState). y.peer) (sym e) ∙ x.peer in
    let k : Stays c (common_of old) name.slot s first = stays first has in
    lived-on c cs old new steps name first first q k.deeds es (record { slot = s; there = there; same = ap (λ (y : SlotState). y.generation) (sym e) ∙ x.same; peer = has }) k.fell k.alone later more
lived-since c cs old new steps name s there first q es x (goes_on p r ds was fell alone none e) later more = by (went s x.slot r (counted c (common_of old) name.slot s) e)
  where
    by : WentOn s x.slot r ⊎ WentOut s x.slot r → Lived name (c ∷ cs) (record { before = old; after = new; steps = steps }) q
    by (inl on) =
        lived-on c cs old new steps name p r q ds es (record { slot = s; there = there; same = sym on.generation ∙ x.same; peer = was }) fell alone later
        (subst (λ (y : Peering). AllAlone es y q) (one-peer x.slot.peer first r x.peer on.peer) more)
    by (inr out) = none-some x.slot.peer first out.peer x.peer
lived-since c cs old new steps name s there first q es x (takes_over p r ds was fell alone gone left b) later more =
    lived-from c cs old new steps name s (with_peer s r) there first q es x (was_left p r ds was fell alone gone) b later more
lived-since c cs old new steps name s there first q es x (begins none left b) later more = lived-from c cs old new steps name s s there first q es x (was_free none) b later more

lived-before : (c : Call) (cs : List Call) (old new : Host) (steps : Steps (c ∷ cs) old new) (name : PeerRef) (q : Peering) → Lived name cs (record { before = steps.0; after = new; steps = steps.2 }) q → Lived name (c ∷ cs) (record { before = old; after = new; steps = steps }) q
lived-before c cs old new steps name q life = by life.began
  where
    by : WasThere name cs (record { before = steps.0; after = new; steps = steps.2 }) life.first life.deeds ⊎ BeganBy name cs (record { before = steps.0; after = new; steps = steps.2 }) life.first life.deeds → Lived name (c ∷ cs) (record { before = old; after = new; steps = steps }) q
    by (inl was) =
        let x : IsThere steps.0.slots name life.first = named-there steps.0.slots name life.first was.0 in
        let s : (s : SlotState) × (slice_get old.slots name.slot ≡ Some s) × Fares c (common_of old) name.slot s x.slot = fares-back c old steps.0 steps.1 name.slot x.slot x.there in
        lived-since c cs old new steps name s.0 s.1 life.first q life.deeds x s.2 was.1 life.alone
    by (inr began) = record { first = life.first; deeds = life.deeds; began = inr (inr began); alone = life.alone }

-- a slot has the sessions and the ending that it had, or those of a peer that ended since
abbrev HasSessions : ℕ → (cs : List Call) (old new : Host) → Steps cs old new → SlotState → SlotState → Type 0
HasSessions i cs old new steps s t =
    ((t.generation ≡ s.generation) × (t.incoming_session ≡ s.incoming_session) × (t.outgoing_session ≡ s.outgoing_session) × (t.ending ≡ s.ending)) ⊎ IsAfter i cs (record { before = old; after = new; steps = steps }) t

after-before : (c : Call) (cs : List Call) (old new : Host) (steps : Steps (c ∷ cs) old new) (i : ℕ) (t : SlotState) → IsAfter i cs (record { before = steps.0; after = new; steps = steps.2 }) t → IsAfter i (c ∷ cs) (record { before = old; after = new; steps = steps }) t
after-before c cs old new steps i t k = record {
  generation = k.generation;
  next = k.next;
  last = k.last;
  lived = lived-before c cs old new steps (record { slot = i; generation = k.generation }) k.last k.lived;
  ended = k.ended;
  incoming = k.incoming;
  outgoing = k.outgoing;
  ending = k.ending;
}

begun-sessions : (c : Call) (h : Host) (i : ℕ) (s t : SlotState) → Begins c (common_of h) i s t → (t.incoming_session ≡ s.incoming_session) × (t.outgoing_session ≡ s.outgoing_session) × (t.ending ≡ s.ending)
begun-sessions c h i s t (asks address channels info word is some at) = (refl, refl, refl)
begun-sessions c h i s t (answers from bytes commands header o is read stranger offer taken new at) = (refl, refl, refl)

-- by one call and those after it, `m` being the slot between
sessions-since : (c : Call) (cs : List Call) (old new : Host) (steps : Steps (c ∷ cs) old new) (i : ℕ) (s m t : SlotState) → IsSound old → slice_get old.slots i ≡ Some s → slice_get steps.0.slots i ≡ Some m → Fares c (common_of old) i s m
    → t.generation ≡ m.generation → t.incoming_session ≡ m.incoming_session → t.outgoing_session ≡ m.outgoing_session → t.ending ≡ m.ending → HasSessions i (c ∷ cs) old new steps s t
sessions-since c cs old new steps i s m t sound there mid (untouched stays not' e) g a b z =
    inl (g ∙ ap (λ (y : SlotState). y.generation) e, a ∙ ap (λ (y : SlotState). y.incoming_session) e, b ∙ ap (λ (y : SlotState). y.outgoing_session) e, z ∙ ap (λ (y : SlotState). y.ending) e)
sessions-since c cs old new steps i s m t sound there mid (goes_on p q ds was fell alone none e) g a b z = by (went s m q (counted c (common_of old) i s) e)
  where
    name : PeerRef
    name = name_of i s

    few : steps.0.config.generations ≤ greatest
    few = let k : steps.0.config.generations ≡ old.config.generations = same-generations c old steps.0 steps.1 in let l : old.config.generations ≤ greatest = sound.keeps.generations in omega arith

    by : WentOn s m q ⊎ WentOut s m q → HasSessions i (c ∷ cs) old new steps s t
    by (inl on) = inl (g ∙ on.generation, a ∙ on.incoming, b ∙ on.outgoing, z ∙ on.ending)
    by (inr out) = inr (record {
      generation = s.generation;
      next =
          let low : s.generation < old.config.generations = sound.left i s p there was in
          let l : old.config.generations ≤ greatest = sound.keeps.generations in
          let k : t.generation ≡ m.generation = g in
          let n : m.generation ≡ min (s.generation + 1) greatest = out.generation in omega arith;
      last = q;
      lived =
          lived-on c cs old new steps name p q q ds [] (record { slot = s; there = there; same = refl; peer = was }) fell alone
          (spent-all cs steps.0 new steps.2 name few (record { slot = m; there = mid; past = past-freed steps.0 name s m q (counted c (common_of old) i s) few (let r : s.generation ≡ s.generation = refl in omega arith) out.free e })).0 refl;
      ended = out.free;
      incoming = a ∙ out.incoming;
      outgoing = b ∙ out.outgoing;
      ending = z ∙ out.ending;
    })
sessions-since c cs old new steps i s m t sound there mid (takes_over p q ds was fell alone gone left b) g a o z =
    let k : (m.incoming_session ≡ (with_peer s q).incoming_session) × (m.outgoing_session ≡ (with_peer s q).outgoing_session) × (m.ending ≡ (with_peer s q).ending) = begun-sessions c old i (with_peer s q) m b in
    let few : old.config.generations ≤ greatest = sound.keeps.generations in
    let low : steps.0.config.generations ≤ greatest = (let n : steps.0.config.generations ≡ old.config.generations = same-generations c old steps.0 steps.1 in omega arith) in
    inr (record {
      generation = s.generation;
      next = g ∙ over-generation c old i s m q few gone left b;
      last = q;
      lived =
          lived-on c cs old new steps (name_of i s) p q q ds [] (record { slot = s; there = there; same = refl; peer = was }) fell alone
          (spent-all cs steps.0 new steps.2 (name_of i s) low (record { slot = m; there = mid; past = inl (over-past c old i s m q few gone left b s.generation (let r : s.generation ≡ s.generation = refl in omega arith)) })).0 refl;
      ended = gone;
      incoming = a ∙ k.0 ∙ ap (λ (y : SlotState). y.incoming_session) (freed-in s q gone);
      outgoing = o ∙ k.1 ∙ ap (λ (y : SlotState). y.outgoing_session) (freed-in s q gone);
      ending = z ∙ k.2 ∙ ap (λ (y : SlotState). y.ending) (freed-in s q gone);
    })
sessions-since c cs old new steps i s m t sound there mid (begins none left b) g a o z =
    let k : (m.incoming_session ≡ s.incoming_session) × (m.outgoing_session ≡ s.outgoing_session) × (m.ending ≡ s.ending) = begun-sessions c old i s m b in
    inl (g ∙ begun-generation c old i s m b, a ∙ k.0, o ∙ k.1, z ∙ k.2)

sessions-all : (cs : List Call) (old new : Host) (steps : Steps cs old new) → IsSound old → (i : ℕ) (t : SlotState) → slice_get new.slots i ≡ Some t → (s : SlotState) × (slice_get old.slots i ≡ Some s) × HasSessions i cs old new steps s t
sessions-all [] old new steps sound i t there = (t, ap (λ (h : Host). slice_get h.slots i) steps ∙ there, inl (refl, refl, refl, refl))
sessions-all (c ∷ cs) old new steps sound i t there =
    let m : (m : SlotState) × (slice_get steps.0.slots i ≡ Some m) × HasSessions i cs steps.0 new steps.2 m t = sessions-all cs steps.0 new steps.2 (sound-goes c old steps.0 steps.1 sound) i t there in
    let s : (s : SlotState) × (slice_get old.slots i ≡ Some s) × Fares c (common_of old) i s m.0 = fares-back c old steps.0 steps.1 i m.0 m.1 in (
      s.0,
      s.1,
      elim m.2 [
        | inl k ↦ sessions-since c cs old new steps i s.0 m.0 t sound s.1 m.1 s.2 k.0 k.1 k.2 k.3
        | inr k ↦ inr (after-before c cs old new steps i t k)
      ],
    )

pub lived-all : (cs : List Call) (old new : Host) (steps : Steps cs old new) (name : PeerRef) (p : Peering) → named new.slots name ≡ Some p → Lived name cs (record { before = old; after = new; steps = steps }) p
lived-all [] old new steps name p is = record { first = p; deeds = []; began = inl (ap (λ (h : Host). named h.slots name) steps ∙ is, refl); alone = refl }
lived-all (c ∷ cs) old new steps name p is = lived-before c cs old new steps name p (lived-all cs steps.0 new steps.2 name p is)

-- from an opening on

beginning : (old : Host) → IsSound old → ((i : ℕ) (s : SlotState) → slice_get old.slots i ≡ Some s → IsFirst s) → IsBeginning old
beginning old sound first = record {
  lived = λ cs new steps name p is. lived-all cs old new steps name p is;
  sessions = λ cs new steps i t there.
      let s : (s : SlotState) × (slice_get old.slots i ≡ Some s) × HasSessions i cs old new steps s t = sessions-all cs old new steps sound i t there in
      let f : IsFirst s.0 = first i s.0 s.1 in
      elim s.2 [
        | inl k ↦ inl (record { generation = k.0 ∙ f.generation; incoming = k.1 ∙ f.incoming; outgoing = k.2 ∙ f.outgoing; ending = k.3 ∙ f.ending })
        | inr k ↦ inr k
      ];
}

none-there : (n i : ℕ) (s : SlotState) → slice_get (replicate n unused_slot) i ≡ Some s → s ≡ unused_slot
none-there zero i s there = absurd (cc)
none-there (suc n) zero s there = let same : unused_slot ≡ s = cc in sym same
none-there (suc n) (suc i) s there = none-there n i s there

one-there : (n i : ℕ) (t s : SlotState) → slice_get (slice_set (replicate n unused_slot) 0 t) i ≡ Some s → ((i ≡ 0) × (s ≡ t)) ⊎ (s ≡ unused_slot)
one-there zero i t s there = absurd (cc)
one-there (suc n) zero t s there = let same : t ≡ s = cc in inl (refl, sym same)
one-there (suc n) (suc i) t s there = inr (none-there n i s there)

first-of : (s : SlotState) → s ≡ unused_slot → IsFirst s
first-of s e = subst IsFirst (sym e) (record { generation = refl; incoming = refl; outgoing = refl; ending = refl })

begins-opened : (c : Config) → is_in_range c ≡ true → IsBeginning (opening.opened c)
begins-opened c h =
    beginning (opening.opened c)
    (record { keeps = each-keeps.opened c h; left = λ i s p there has. none-some s.peer p (ap (λ (y : SlotState). y.peer) (none-there c.peers i s there)) has })
    (λ i s there. first-of s (none-there c.peers i s there))

joined_slot : Config → Addr → SlotState
joined_slot c address = given unused_slot address (peers.joined c.clock (joined_terms c) (limits_of c))

begins-joined : (c : Config) (address : Addr) → is_in_range c ≡ true → IsBeginning (opening.joined c address)
unfolding joined_slot
begins-joined c address h =
    beginning (opening.joined c address)
    (record {
      keeps = each-keeps.joined c address h;
      left = λ i s p there has.
          elim (one-there c.peers i (joined_slot c address) s there) [
            | inl at ↦ (let g : s.generation ≡ 0 = ap (λ (y : SlotState). y.generation) at.1 in let l : 1 ≤ c.generations = grind (arith, nat_tests) in omega arith)
            | inr none ↦ none-some s.peer p (ap (λ (y : SlotState). y.peer) none) has
          ];
    })
    (λ i s there.
    elim (one-there c.peers i (joined_slot c address) s there) [
      | inl at ↦ subst IsFirst (sym at.1) (record { generation = refl; incoming = refl; outgoing = refl; ending = refl })
      | inr none ↦ first-of s none
    ])

begins-nobody : (c : Config) (name : PeerRef) → named (opening.opened c).slots name ≡ None
begins-nobody c name = by (named (opening.opened c).slots name) refl
  where
    by : (o : Option Peering) → named (opening.opened c).slots name ≡ o → o ≡ None
    by None e = refl
    by (Some p) e =
        let x : IsThere (opening.opened c).slots name p = named-there (opening.opened c).slots name p e in
        none-some x.slot.peer p (ap (λ (y : SlotState). y.peer) (none-there c.peers name.slot x.slot x.there)) x.peer

begins-one : (c : Config) (address : Addr) (name : PeerRef) (p : Peering) → named (opening.joined c address).slots name ≡ Some p → (name ≡ record { slot = 0; generation = 0 }) × (p ≡ peers.joined c.clock (joined_terms c) (limits_of c))
unfolding joined_slot
begins-one c address name p e =
    let x : IsThere (opening.joined c address).slots name p = named-there (opening.joined c address).slots name p e in
    elim (one-there c.peers name.slot (joined_slot c address) x.slot x.there) [
      | inl at ↦ (
        (let g : name.generation ≡ 0 = sym x.same ∙ ap (λ (y : SlotState). y.generation) at.1 in λ i. record { slot = at.0 i; generation = g i }),
        one-peer x.slot.peer p (peers.joined c.clock (joined_terms c) (limits_of c)) x.peer (ap (λ (y : SlotState). y.peer) at.1),
      )
      | inr none ↦ none-some x.slot.peer p (ap (λ (y : SlotState). y.peer) none) x.peer
    ]

pub each-beginning : Beginnings
each-beginning = record { opened = begins-opened; nobody = begins-nobody; joined = begins-joined; one = begins-one }
