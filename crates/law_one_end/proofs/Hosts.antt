-- Each peer of a host is one end, by the calls of the host.
use Rattle.std.proofs.Common.{◌≡◌, ◌≢◌, ◌≤◌, ℕ, List, [], ◌∷◌, ◌++◌, false, refl, sym, ap, subst, ◌∙◌, inl, inr, ◌⊎◌, arith, Option, Some, None}
use Rattle.std.specs.Prelude.{flat_map}
use Rattle.std.specs.List.{slice_get}
use Rattle.std.proofs.lemmas.List.Concat.{flat_map-append}
use Rattle.enet_codec.specs.declared.address.Addr.{Addr}
use Rattle.enet_codec.specs.declared.command.Offer.{Offer}
use Rattle.enet_codec.specs.declared.event.PeerRef.{PeerRef}
use Rattle.enet_connect.specs.Verification.{verification_of}
use Rattle.enet_senders.specs.declared.control.Control.TheVariants as control
use Rattle.enet_host.specs.Host.{Host, Keeps, slot_named, peer_in, named}
use Rattle.enet_host.specs.Calls.{address_in, address_of, address_named}
use Rattle.enet_peer.specs.declared.parts.PeerState.TheVariants as state
use Rattle.enet_peer.specs.Peering.{Peering, connecting, answering}
use Rattle.enet_slot.specs.Giving.{limits_of, offer_from, drawn_for, server_from}
use Rattle.enet_slot.specs.Slot.{SlotState, with_peer, greatest}
use Rattle.law_network.specs.Beginnings.{was_free, was_left, BeginsAs}
use Rattle.law_network.specs.Calls.{Call, Acts, Steps, Series}
use Rattle.law_network.specs.Common.{Common, common_of}
use Rattle.law_network.specs.Deeds.{Deed, AllAlone}
use Rattle.law_network.specs.Falling.{Fell, FellAll, Begins, asks, answers, counted}
use Rattle.law_network.specs.IsolationLaw.{Stays, Fares, untouched, goes_on, takes_over, begins, having_emitted}
use Rattle.law_network.proofs.AllCalls.{spent-all, fell-there}
use Rattle.law_network.proofs.Counts.{fares-back}
use Rattle.law_network.proofs.IsolationKeeping.{each-keeps}
use Rattle.law_network.proofs.Names.{free-or, IsThere, named-there, there-slot, there-named, IsSpent, same-generations, begun-generation, past-freed, over-past, spent-step, spent-nobody}
use Rattle.law_network.proofs.OneCall.{one-call}
use Rattle.law_network.proofs.Slots.{held, freed-in}
use Rattle.law_one_end.specs.OneEnd.{OneEnd, Event, Runs, beginning}
use Rattle.law_one_end.specs.Law.{HasOneLife, IsHeard, OfEachRun, OfEachAnswering, OfEachAsking}
use Rattle.law_one_end.specs.Sent.{IsSent, TellsSlot}
use Rattle.law_one_end.specs.Hosts.{told_by, accepted_by, brought_by, given_by, message_in, event_in, CameBy, AreOf, StaysAt, IsEnd, IsNobody, EachIsOneEnd}
use Rattle.law_one_end.specs.Confirmed.{IsToldConfirmed}
use Rattle.law_one_end.proofs.Confirming.{answering-confirmed}
use Rattle.law_one_end.proofs.Calls.{AddsNothing, adds-nothing, Adds, adds, came-none, came-append}
use Rattle.law_one_end.proofs.Deeds.{told_in, accepted_in, given_in, Led, led-nothing, led-both, led-deeds}
use Rattle.law_one_end.proofs.Laws.{answering-heard, asking-heard}
use Rattle.law_one_end.proofs.Lives.{answering-life, asking-life}
use Rattle.law_one_end.proofs.Queues.{tells-slot, one-queued}
use Rattle.law_one_end.proofs.SentRuns.{answering-sent, asking-sent}

-- where nobody has a name

both-nothing : {X : Type 0} (a b : List X) → a ≡ [] → b ≡ [] → a ++ b ≡ []
both-nothing a b e f = ap (λ (l : List _). l ++ b) e ∙ f

nobody-more : (name : PeerRef) (c : Call) (cs : List Call) → AddsNothing name c → IsNobody name cs → IsNobody name (c ∷ cs)
nobody-more name c cs n k = record {
  told = both-nothing (told_by name c) (flat_map (told_by name) cs) n.told k.told;
  accepted = both-nothing (accepted_by name c) (flat_map (accepted_by name) cs) n.accepted k.accepted;
  given = both-nothing (given_by name c) (flat_map (given_by name) cs) n.given k.given;
}

few-after : (c : Call) (old new : Host) → Acts c old new → old.config.generations ≤ greatest → new.config.generations ≤ greatest
few-after c old new acts low = (let e : new.config.generations ≡ old.config.generations = same-generations c old new acts in let l : old.config.generations ≤ greatest = low in omega arith)

-- where a host has nobody it has nobody at an address
nowhere : {A : Type 0} (slots : List SlotState) (name : PeerRef) (b : Addr) → named slots name ≡ None → address_named slots name ≡ Some b → A
nowhere slots name b none e = by (slot_named slots name) none e
  where
    free : {A : Type 0} (s : SlotState) (o : Option Peering) → o ≡ None → address_of s o ≡ Some b → A
    free s None n f = absurd (cc)
    free s (Some p) n f = absurd (cc)

    by : {A : Type 0} (o : Option SlotState) → peer_in o ≡ None → address_in o ≡ Some b → A
    by None n f = absurd (cc)
    by (Some s) n f = free s s.peer n f

-- and where it has somebody, at that slot's address
somewhere : (slots : List SlotState) (name : PeerRef) (p : Peering) (x : IsThere slots name p) (a b : Addr) → x.slot.address ≡ a → address_named slots name ≡ Some b → b ≡ a
somewhere slots name p x a b at e =
    let is : address_named slots name ≡ Some x.slot.address = ap address_in (there-slot slots name p x) ∙ ap (address_of x.slot) x.peer in
    (let y : Some b ≡ Some x.slot.address = sym e ∙ is in let same : b ≡ x.slot.address = cc in same ∙ at)

-- once its peer is gone, nothing is of it
gone : (cs : List Call) (old new : Host) (steps : Steps cs old new) (name : PeerRef) (a : Addr) → old.config.generations ≤ greatest → IsSpent old name → IsNobody name cs × StaysAt name a cs (record { before = old; after = new; steps = steps })
gone [] old new steps name a low x = (record { told = refl; accepted = refl; given = refl }, λ b e. nowhere old.slots name b (spent-nobody old name x) e)
gone (c ∷ cs) old new steps name a low x =
    let r = gone cs steps.0 new steps.2 name a (few-after c old steps.0 steps.1 low) (spent-step c old steps.0 name low steps.1 x) in
    (nobody-more name c cs (adds-nothing c old steps.0 name steps.1 (spent-nobody old name x)) r.0, ((λ b e. nowhere old.slots name b (spent-nobody old name x) e), r.1))

-- where somebody has it

-- by these calls these deeds fell to the peer of this name, at this address, and led its end on
pub record Lives (name : PeerRef) (a : Addr) (cs : List Call) (series : Series cs) (e : OneEnd) : Type 0 where
  pub deeds : List Deed
  pub fell : FellAll name cs series deeds
  pub came : CameBy name.slot (flat_map (brought_by a) cs) (flat_map message_in deeds)
  pub after : Peering
  pub led : Led a e (flat_map event_in deeds) (flat_map (told_by name) cs) (flat_map (accepted_by name) cs) (flat_map (given_by name) cs) after

-- one call
called : (c : Call) (old new : Host) (name : PeerRef) (p q : Peering) (x : IsThere old.slots name p) (a : Addr) (ds : List Deed) (e : OneEnd) → x.slot.address ≡ a → e.peer ≡ p → Acts c old new
    → Fell (common_of old) (record { number = name.slot; slot = x.slot; peer = p }) c ds → AllAlone ds p q → Led a e (flat_map event_in ds) (told_by name c) (accepted_by name c) (given_by name c) q
called c old new name p q x a ds e at is acts fell alone =
    let k : Adds name a c ds = adds c old new name p x a ds at acts fell in
    let es : List Event = flat_map event_in ds in
    let l : Led a e es (flat_map told_in ds) (flat_map accepted_in ds) (flat_map (given_in a) ds) q = led-deeds a ds e q (subst (λ (y : Peering). AllAlone ds y q) (sym is) alone) k.sound in
    subst (λ t. Led a e es t (accepted_by name c) (given_by name c) q) k.told
    (subst (λ s. Led a e es (flat_map told_in ds) s (given_by name c) q) k.accepted (subst (λ g. Led a e es (flat_map told_in ds) (flat_map accepted_in ds) g q) k.given l))

-- and those after it
lives-on : (c : Call) (cs : List Call) (old new : Host) (steps : Steps (c ∷ cs) old new) (name : PeerRef) (p q : Peering) (x : IsThere old.slots name p) (a : Addr) (ds : List Deed) (e : OneEnd) → x.slot.address ≡ a → e.peer ≡ p
    → (fell : Fell (common_of old) (record { number = name.slot; slot = x.slot; peer = p }) c ds) → (one : Led a e (flat_map event_in ds) (told_by name c) (accepted_by name c) (given_by name c) q)
    → Lives name a cs (record { before = steps.0; after = new; steps = steps.2 }) one.end → Lives name a (c ∷ cs) (record { before = old; after = new; steps = steps }) e
lives-on c cs old new steps name p q x a ds e at is fell one r =
    let k : Adds name a c ds = adds c old steps.0 name p x a ds at steps.1 fell in
    record {
      deeds = ds ++ r.deeds;
      fell = (ds, r.deeds, refl, fell-there old name p c ds x fell, r.fell);
      came =
          subst (CameBy name.slot (brought_by a c ++ flat_map (brought_by a) cs)) (sym (flat_map-append message_in ds r.deeds))
          (came-append name.slot (brought_by a c) (flat_map (brought_by a) cs) (flat_map message_in ds) (flat_map message_in r.deeds) k.came r.came);
      after = r.after;
      led =
          subst (λ es. Led a e es (told_by name c ++ flat_map (told_by name) cs) (accepted_by name c ++ flat_map (accepted_by name) cs) (given_by name c ++ flat_map (given_by name) cs) r.after) (sym (flat_map-append event_in ds r.deeds))
          (led-both a e (flat_map event_in ds) (flat_map event_in r.deeds) (told_by name c) (flat_map (told_by name) cs) (accepted_by name c) (flat_map (accepted_by name) cs) (given_by name c) (flat_map (given_by name) cs) q r.after one r.led);
    }

-- no call that comes later is of it
lives-no-more : (name : PeerRef) (a : Addr) (cs : List Call) (series : Series cs) (e : OneEnd) → FellAll name cs series [] → IsNobody name cs → Lives name a cs series e
lives-no-more name a cs series e fell n = record {
  deeds = [];
  fell = fell;
  came = came-none name.slot (flat_map (brought_by a) cs);
  after = e.peer;
  led =
      subst (λ t. Led a e [] t (flat_map (accepted_by name) cs) (flat_map (given_by name) cs) e.peer) (sym n.told)
      (subst (λ s. Led a e [] [] s (flat_map (given_by name) cs) e.peer) (sym n.accepted) (subst (λ g. Led a e [] [] [] g e.peer) (sym n.given) (led-nothing a e e.peer refl)));
}

-- a slot that its peer didn't leave
record Stands (s t : SlotState) (q : Peering) : Type 0 where
  generation : t.generation ≡ s.generation
  address : t.address ≡ s.address
  peer : t.peer ≡ Some q

stands : (s t : SlotState) (q : Peering) (n : ℕ) → q.state ≢ state.Free → t ≡ having_emitted (with_peer s q) n → Stands s t q
stands s t q n live e =
    let f : t ≡ having_emitted (record s { peer = Some q }) n = e ∙ ap (λ (x : SlotState). having_emitted x n) (held s q live) in
    record { generation = ap (λ (x : SlotState). x.generation) f; address = ap (λ (x : SlotState). x.address) f; peer = ap (λ (x : SlotState). x.peer) f }

one-peer : (o : Option Peering) (p q : Peering) → o ≡ Some p → o ≡ Some q → p ≡ q
one-peer o p q e f = (let y : ◌≡◌ {A = Option Peering} (Some p) (Some q) = sym e ∙ f in cc)

no-peer : {A : Type 0} (o : Option Peering) (p : Peering) → o ≡ None → o ≡ Some p → A
no-peer o p e f = absurd (let y : ◌≡◌ {A = Option Peering} None (Some p) = sym e ∙ f in cc)

-- and stayed where it is
abbrev Stayed : PeerRef → Addr → (cs : List Call) (old new : Host) → Steps cs old new → OneEnd → Type 0
Stayed name a cs old new steps e = Lives name a cs (record { before = old; after = new; steps = steps }) e × StaysAt name a cs (record { before = old; after = new; steps = steps })

lives-step : (c : Call) (cs : List Call) (old new : Host) (steps : Steps (c ∷ cs) old new) (name : PeerRef) (a : Addr) (p : Peering) (x : IsThere old.slots name p) → x.slot.address ≡ a → old.config.generations ≤ greatest → (e : OneEnd) → e.peer ≡ p
    → ((q : Peering) (y : IsThere steps.0.slots name q) → y.slot.address ≡ a → (f : OneEnd) → f.peer ≡ q → Stayed name a cs steps.0 new steps.2 f)
    → (t : SlotState) → slice_get steps.0.slots name.slot ≡ Some t → Fares c (common_of old) name.slot x.slot t → Stayed name a (c ∷ cs) old new steps e
lives-step c cs old new steps name a p x at low e is later = by
  where
    few : steps.0.config.generations ≤ greatest
    few = few-after c old steps.0 steps.1 low

    here : (b : Addr) → address_named old.slots name ≡ Some b → b ≡ a
    here b f = somewhere old.slots name p x a b at f

    on : (q : Peering) (t : SlotState) (ds : List Deed) → slice_get steps.0.slots name.slot ≡ Some t → t.generation ≡ x.slot.generation → t.address ≡ x.slot.address → t.peer ≡ Some q
        → Fell (common_of old) (record { number = name.slot; slot = x.slot; peer = p }) c ds → AllAlone ds p q → Stayed name a (c ∷ cs) old new steps e
    on q t ds there generation address peer fell alone =
        let one = called c old steps.0 name p q x a ds e at is steps.1 fell alone in
        let r = later q (record { slot = t; there = there; same = generation ∙ x.same; peer = peer }) (address ∙ at) one.end one.peer in
        (lives-on c cs old new steps name p q x a ds e at is fell one r.0, (here, r.1))

    -- the peer in the slot is that of the name
    owned : (r q : Peering) (ds : List Deed) → x.slot.peer ≡ Some r → Fell (common_of old) (record { number = name.slot; slot = x.slot; peer = r }) c ds → AllAlone ds r q
        → Fell (common_of old) (record { number = name.slot; slot = x.slot; peer = p }) c ds × AllAlone ds p q
    owned r q ds has fell alone =
        let own : r ≡ p = one-peer x.slot.peer r p has x.peer in
        (subst (λ (z : Peering). Fell (common_of old) (record { number = name.slot; slot = x.slot; peer = z }) c ds) own fell, subst (λ (z : Peering). AllAlone ds z q) own alone)

    -- it is gone after the call
    ends : (r q : Peering) (ds : List Deed) → x.slot.peer ≡ Some r → Fell (common_of old) (record { number = name.slot; slot = x.slot; peer = r }) c ds → AllAlone ds r q → IsSpent steps.0 name → Stayed name a (c ∷ cs) old new steps e
    ends r q ds has fell alone spent =
        let own = owned r q ds has fell alone in
        let one = called c old steps.0 name p q x a ds e at is steps.1 own.0 own.1 in
        let r = gone cs steps.0 new steps.2 name a few spent in
        let none = spent-all cs steps.0 new steps.2 name few spent in
        (lives-on c cs old new steps name p q x a ds e at is own.0 one (lives-no-more name a cs (record { before = steps.0; after = new; steps = steps.2 }) one.end none.0 r.0), (here, r.1))

    by : (t : SlotState) → slice_get steps.0.slots name.slot ≡ Some t → Fares c (common_of old) name.slot x.slot t → Stayed name a (c ∷ cs) old new steps e
    by t there (untouched none not' same) =
        let k : Stays c (common_of old) name.slot x.slot p = none p x.peer in
        on p t k.deeds there (ap (λ (s : SlotState). s.generation) same) (ap (λ (s : SlotState). s.address) same) (ap (λ (s : SlotState). s.peer) same ∙ x.peer) k.fell k.alone
    by t there (goes_on r q ds has fell alone none same) =
        let n : ℕ = counted c (common_of old) name.slot x.slot in
        elim (free-or q.state) [
          | inl free ↦
              ends r q ds has fell alone
              (record { slot = t; there = there; past = past-freed steps.0 name x.slot t q n few (let g : x.slot.generation ≡ name.generation = x.same in omega arith) free same })
          | inr live ↦ (let z = stands x.slot t q n live same in let own = owned r q ds has fell alone in on q t ds there z.generation z.address z.peer own.0 own.1)
        ]
    by t there (takes_over r q ds has fell alone free left b) =
        ends r q ds has fell alone
        (record { slot = t; there = there; past = inl (over-past c old name.slot x.slot t q low free left b name.generation (let g : x.slot.generation ≡ name.generation = x.same in omega arith)) })
    by t there (begins none left b) = no-peer x.slot.peer p none x.peer

lives : (cs : List Call) (old new : Host) (steps : Steps cs old new) (name : PeerRef) (a : Addr) (p : Peering) (x : IsThere old.slots name p) → x.slot.address ≡ a → old.config.generations ≤ greatest → (e : OneEnd) → e.peer ≡ p → Stayed name a cs old new steps e
lives [] old new steps name a p x at low e is = (record { deeds = []; fell = refl; came = refl; after = p; led = led-nothing a e p (sym is) }, λ b f. somewhere old.slots name p x a b at f)
lives (c ∷ cs) old new steps name a p x at low e is =
    let y : (t : SlotState) × (slice_get steps.0.slots name.slot ≡ Some t) × Fares c (common_of old) name.slot x.slot t = one-call c old steps.0 steps.1 name.slot x.slot x.there in
    lives-step c cs old new steps name a p x at low e is (λ q z w f here. lives cs steps.0 new steps.2 name a q z w (few-after c old steps.0 steps.1 low) f here) y.0 y.1 y.2

-- how it began

not-there : {A : Type 0} (slots : List SlotState) (name : PeerRef) (p : Peering) → named slots name ≡ None → IsThere slots name p → A
not-there slots name p none x = no-peer (named slots name) p none (there-named slots name p x)

begun : (c : Call) (old : Host) (name : PeerRef) (s t : SlotState) (p : Peering) → slice_get old.slots name.slot ≡ Some s → t.generation ≡ name.generation → t.peer ≡ Some p → named old.slots name ≡ None
    → Fares c (common_of old) name.slot s t → (x : BeginsAs c old name p) × (x.given ≡ t)
begun c old name s t p there same has none (untouched stays not' e) =
    not-there old.slots name p none (record { slot = s; there = there; same = sym (ap (λ (x : SlotState). x.generation) e) ∙ same; peer = sym (ap (λ (x : SlotState). x.peer) e) ∙ has })
begun c old name s t p there same has none (goes_on r q ds was fell alone not' e) = elim (free-or q.state) [
  | inl free ↦ no-peer t.peer p (ap (λ (x : SlotState). x.peer) (e ∙ ap (λ (x : SlotState). having_emitted x (counted c (common_of old) name.slot s)) (freed-in s q free))) has
  | inr live ↦ (let z = stands s t q (counted c (common_of old) name.slot s) live e in not-there old.slots name r none (record { slot = s; there = there; same = sym z.generation ∙ same; peer = was }))
]
begun c old name s t p there same has none (takes_over r q ds was fell alone free left b) = (
  record {
    before = s;
    there = there;
    slot = with_peer s q;
    ready = was_left r q ds was fell alone free;
    same = sym (begun-generation c old name.slot (with_peer s q) t b) ∙ same;
    given = t;
    begins = b;
    peer = has;
  },
  refl,
)
begun c old name s t p there same has none (begins free left b) =
    (record { before = s; there = there; slot = s; ready = was_free free; same = sym (begun-generation c old name.slot s t b) ∙ same; given = t; begins = b; peer = has }, refl)

-- so the laws of one end hold of it

by-beginning : (P : OneEnd → Type 0) → OfEachAsking P → OfEachAnswering P → (c : Call) (h : Common) (i : ℕ) (s t : SlotState) → Begins c h i s t → (p : Peering) → t.peer ≡ Some p → OfEachRun p P
by-beginning P one two c h i s t (asks address channels info word is some at) p has =
    let q : Peering = connecting h.clock (drawn_for h.config i s).offsets.time (offer_from h.config i s (record { address = address; channels = channels; info = info; word = word })) (limits_of h.config) in
    subst (λ (x : Peering). OfEachRun x P) (one-peer (Some q) q p refl has) (one h.clock (drawn_for h.config i s).offsets.time (offer_from h.config i s (record { address = address; channels = channels; info = info; word = word })) (limits_of h.config))
by-beginning P one two c h i s t (answers from bytes commands header o is read stranger offer taken new at) p has =
    let q : Peering = answering h.clock (drawn_for h.config i s).offsets o (server_from h.config i s o) (limits_of h.config) in
    subst (λ (x : Peering). OfEachRun x P) (one-peer (Some q) q p refl has) (two h.clock (drawn_for h.config i s).offsets o (server_from h.config i s o) (limits_of h.config))

-- and its user is told only once its answer was confirmed
by-answer : (c : Call) (h : Common) (i : ℕ) (s t : SlotState) → Begins c h i s t → (p : Peering) → t.peer ≡ Some p → p.state ≡ state.Answering → (events : List Event) (e : OneEnd) → Runs events (beginning p) e → IsToldConfirmed p events e
by-answer c h i s t (asks address channels info word is some at) p has on events e runs =
    let q : Peering = connecting h.clock (drawn_for h.config i s).offsets.time (offer_from h.config i s (record { address = address; channels = channels; info = info; word = word })) (limits_of h.config) in
    let same : q ≡ p = one-peer (Some q) q p refl has in
    absurd (let z : state.Connecting ≡ state.Answering = ap (λ (x : Peering). x.state) same ∙ on in cc)
by-answer c h i s t (answers from bytes commands header o is read stranger offer taken new at) p has on events e runs =
    let q : Peering = answering h.clock (drawn_for h.config i s).offsets o (server_from h.config i s o) (limits_of h.config) in
    let same : q ≡ p = one-peer (Some q) q p refl has in
    subst (λ (x : Peering). IsToldConfirmed x events e) same
    (answering-confirmed h.clock (drawn_for h.config i s).offsets o (server_from h.config i s o) (limits_of h.config) events e (subst (λ (x : Peering). Runs events (beginning x) e) (sym same) runs))

-- and its answer tells its slot
by-slot : (c : Call) (h : Common) (i : ℕ) (s t : SlotState) → Begins c h i s t → (p : Peering) → t.peer ≡ Some p → OfEachRun p (TellsSlot i)
by-slot c h i s t (asks address channels info word is some at) p has =
    let offer : Offer = offer_from h.config i s (record { address = address; channels = channels; info = info; word = word }) in
    let q : Peering = connecting h.clock (drawn_for h.config i s).offsets.time offer (limits_of h.config) in
    subst (λ (x : Peering). OfEachRun x (TellsSlot i)) (one-peer (Some q) q p refl has) (λ events e runs. tells-slot i q events e (one-queued i 0 (control.Connect offer) tt) runs)
by-slot c h i s t (answers from bytes commands header o is read stranger offer taken new at) p has =
    let q : Peering = answering h.clock (drawn_for h.config i s).offsets o (server_from h.config i s o) (limits_of h.config) in
    subst (λ (x : Peering). OfEachRun x (TellsSlot i)) (one-peer (Some q) q p refl has)
    (λ events e runs. tells-slot i q events e (one-queued i (drawn_for h.config i s).offsets.number (control.VerifyConnect (verification_of o (server_from h.config i s o))) refl) runs)

-- the first call, and more

none-before : {X : Type 0} (a b c : List X) → a ≡ [] → c ≡ b → c ≡ a ++ b
none-before a b c e f = f ∙ ap (λ (l : List _). l ++ b) (sym e)

end-begins : (name : PeerRef) (c : Call) (cs : List Call) (old new : Host) (steps : Steps (c ∷ cs) old new) (p : Peering) → AddsNothing name c → named old.slots name ≡ None → (first : BeginsAs c old name p)
    → Lives name first.given.address cs (record { before = steps.0; after = new; steps = steps.2 }) (beginning p) → StaysAt name first.given.address cs (record { before = steps.0; after = new; steps = steps.2 })
    → IsEnd name (c ∷ cs) (record { before = old; after = new; steps = steps })
end-begins name c cs old new steps p none nobody first l stays =
    let a : Addr = first.given.address in
    let k = l.led in
    record {
      address = a;
      first = p;
      deeds = l.deeds;
      began = inl (first, refl, l.fell, l.came);
      end = k.end;
      runs = k.runs;
      taken = none-before (told_by name c) (flat_map (told_by name) cs) k.end.taken none.told k.taken;
      submitted = none-before (accepted_by name c) (flat_map (accepted_by name) cs) k.end.submitted none.accepted k.submitted;
      put = subst (AreOf a (given_by name c ++ flat_map (given_by name) cs)) (sym k.put) (subst (λ (g : List (Addr × List ℕ)). AreOf a (g ++ flat_map (given_by name) cs) k.messages) (sym none.given) k.puts);
      stays = ((λ b e. nowhere old.slots name b nobody e), stays);
      life = by-beginning (HasOneLife false) asking-life answering-life c (common_of old) name.slot first.slot first.given first.begins p first.peer (flat_map event_in l.deeds) k.end k.runs;
      heard = by-beginning IsHeard asking-heard answering-heard c (common_of old) name.slot first.slot first.given first.begins p first.peer (flat_map event_in l.deeds) k.end k.runs;
      slot = by-slot c (common_of old) name.slot first.slot first.given first.begins p first.peer (flat_map event_in l.deeds) k.end k.runs;
      sent = by-beginning IsSent asking-sent answering-sent c (common_of old) name.slot first.slot first.given first.begins p first.peer (flat_map event_in l.deeds) k.end k.runs;
      confirmed = λ on. by-answer c (common_of old) name.slot first.slot first.given first.begins p first.peer on (flat_map event_in l.deeds) k.end k.runs;
    }

end-more : (name : PeerRef) (c : Call) (cs : List Call) (old new : Host) (steps : Steps (c ∷ cs) old new) → AddsNothing name c → named old.slots name ≡ None → IsEnd name cs (record { before = steps.0; after = new; steps = steps.2 })
    → IsEnd name (c ∷ cs) (record { before = old; after = new; steps = steps })
end-more name c cs old new steps none nobody k = record {
  address = k.address;
  first = k.first;
  deeds = k.deeds;
  began = inr k.began;
  end = k.end;
  runs = k.runs;
  taken = none-before (told_by name c) (flat_map (told_by name) cs) k.end.taken none.told k.taken;
  submitted = none-before (accepted_by name c) (flat_map (accepted_by name) cs) k.end.submitted none.accepted k.submitted;
  put = subst (λ (g : List (Addr × List ℕ)). AreOf k.address (g ++ flat_map (given_by name) cs) k.end.put) (sym none.given) k.put;
  stays = ((λ b e. nowhere old.slots name b nobody e), k.stays);
  life = k.life;
  heard = k.heard;
  sent = k.sent;
  slot = k.slot;
  confirmed = k.confirmed;
}

-- whoever a name is
abbrev IsKnown : PeerRef → (cs : List Call) (old new : Host) → Steps cs old new → Type 0
IsKnown name cs old new steps = IsNobody name cs ⊎ IsEnd name cs (record { before = old; after = new; steps = steps })

known-step : (c : Call) (cs : List Call) (old new : Host) (steps : Steps (c ∷ cs) old new) → Keeps steps.0 → (name : PeerRef) → named old.slots name ≡ None → (named steps.0.slots name ≡ None → IsKnown name cs steps.0 new steps.2)
    → (o : Option Peering) → named steps.0.slots name ≡ o → IsKnown name (c ∷ cs) old new steps
known-step c cs old new steps keeps name none rest None e =
    let nothing : AddsNothing name c = adds-nothing c old steps.0 name steps.1 none in
    elim (rest e) [ inl k ↦ inl (nobody-more name c cs nothing k) | inr k ↦ inr (end-more name c cs old new steps nothing none k) ]
known-step c cs old new steps keeps name none rest (Some p) e =
    let x : IsThere steps.0.slots name p = named-there steps.0.slots name p e in
    let f : (s : SlotState) × (slice_get old.slots name.slot ≡ Some s) × Fares c (common_of old) name.slot s x.slot = fares-back c old steps.0 steps.1 name.slot x.slot x.there in
    let first : (z : BeginsAs c old name p) × (z.given ≡ x.slot) = begun c old name f.0 x.slot p f.1 x.same x.peer none f.2 in
    let r = lives cs steps.0 new steps.2 name first.0.given.address p x (ap (λ (s : SlotState). s.address) (sym first.1)) keeps.generations (beginning p) refl in
    inr (end-begins name c cs old new steps p (adds-nothing c old steps.0 name steps.1 none) none first.0 r.0 r.1)

each-known : (cs : List Call) (old new : Host) (steps : Steps cs old new) → Keeps old → (name : PeerRef) → named old.slots name ≡ None → IsKnown name cs old new steps
each-known [] old new steps keeps name none = inl (record { told = refl; accepted = refl; given = refl })
each-known (c ∷ cs) old new steps keeps name none =
    let later : Keeps steps.0 = each-keeps.call c old steps.0 steps.1 keeps in
    known-step c cs old new steps later name none (λ e. each-known cs steps.0 new steps.2 later name e) (named steps.0.slots name) refl

-- the law
pub are-ends : (h : Host) → Keeps h → EachIsOneEnd h
are-ends h keeps cs new steps name none = each-known cs h new steps keeps name none
