-- Whoever is named is an end's peer, as long as no stranger's datagram is taken in.
use Rattle.std.proofs.Common.{◌≡◌, ◌≢◌, ℕ, ◌⊎◌, inl, inr, Bool, true, false, cond, ◌==◌, ◌&&◌, List, [], ◌∷◌, ◌++◌, refl, sym, ap, subst, ◌∙◌, Option, Some, None, Result, Ok, Err, slice_get}
use Rattle.std.proofs.lemmas.Bool.Decides.{nat_tests}
use Rattle.enet_codec.specs.declared.address.Addr.{Addr}
use Rattle.enet_codec.specs.declared.event.Event.{Event}
use Rattle.enet_codec.specs.declared.event.PeerRef.{PeerRef}
use Rattle.enet_codec.specs.declared.event.Received.{Received}
use Rattle.enet_codec.specs.declared.packet.Packet.{Packet}
use Rattle.enet_sender.specs.CommandChoice as command_choice
use Rattle.enet_peer.specs.declared.parts.PeerEvent.{PeerEvent}
use Rattle.enet_peer.specs.declared.parts.PeerState.{PeerState}
use Rattle.enet_peer.specs.declared.parts.PeerState.TheVariants as state
use Rattle.enet_peer.specs.Peering.{Peering}
use Rattle.law_connection.specs.LinkSteps.{Has}
use Rattle.enet_slot.specs.Slot.{SlotState, name_of, with_peer, with_peer_in}
use Rattle.enet_slot.specs.Calls.{submission, unless_full, event_of}
use Rattle.enet_host.specs.Host.{Host}
use Rattle.enet_host.specs.Calls.{TakesOne, address_of, address_in, address_named}
use Rattle.enet_host.specs.Receiving.{handled_one}
use Rattle.law_network.specs.Calls.{Call, Acts}
use Rattle.law_network.specs.Calls as call
use Rattle.law_network.specs.Common.{common_of}
use Rattle.law_network.specs.Falling as falling
use Rattle.law_network.specs.Headline as owned
use Rattle.law_network.specs.IsolationLaw.{Fares, untouched, goes_on, takes_over, begins, having_emitted}
use Rattle.law_network.specs.Log.{Logged}
use Rattle.law_network.specs.Network.{HostEnd, Site, is_same_name}
use Rattle.law_network.specs.Steps.{Around, Happening, Calls, Delivers, HappensAmong, Called, BringsOne}
use Rattle.law_network.proofs.Counts.{fares-back}
use Rattle.law_network.proofs.Growing.{more_of, Grows, grows, stays-there}
use Rattle.law_network.proofs.Names.{IsThere, there-slot}
use Rattle.law_network.proofs.Single.{Does, does-named}
use Rattle.law_network.proofs.Worlds.{acts-of}
use Rattle.law_headline.specs.Page.{is_of}
use Rattle.law_headline.specs.Kept.{submitted_by, taken_by, is_guest, AreHosts, AreEnds, IsCovered, and_submitted, and_taken, StaysCovered}
use Rattle.law_headline.proofs.Kept.{name-slot, name-generation, of-event}

-- peers are at hosts' addresses

kept-place : (st : PeerState) (s : SlotState) (q p : Peering) → (with_peer_in st s q).peer ≡ Some p → (with_peer_in st s q).address ≡ s.address
kept-place state.Free s q p has = absurd (let e : ◌≡◌ {A = Option Peering} None (Some p) = has in cc)
kept-place st s q p has = refl

-- by a call that speaks of a host's address where a connection begins
abbrev Speaks : (Addr → Bool) → Call → Type 0
Speaks is_host (call.Connect address channels info word answer) = is_host address ≡ true
Speaks is_host (call.Receive address bytes answer) = (is_host address ≡ true) ⊎ ((answer.handled == 1) ≡ false)
Speaks is_host c = Unit {0}

begun-there : (is_host : Addr → Bool) (c : Call) (h : Host) (i : ℕ) (s t : SlotState) → Speaks is_host c → falling.Begins c (common_of h) i s t → is_host t.address ≡ true
begun-there is_host c h i s t k (falling.asks address channels info word is some at) = subst (Speaks is_host) is k
begun-there is_host c h i s t k (falling.answers from bytes commands header o is read stranger offer taken new at) = elim (subst (Speaks is_host) is k) [
  | inl host ↦ host
  | inr none ↦ absurd (let z : true ≡ false = none in cc)
]

hosts-by : (is_host : Addr → Bool) (c : Call) (old new : Host) → Acts c old new → Speaks is_host c → AreHosts is_host old → AreHosts is_host new
hosts-by is_host c old new acts speaks k i t p there has = by f.2
  where
    f : (s : SlotState) × (slice_get old.slots i ≡ Some s) × Fares c (common_of old) i s t
    f = fares-back c old new acts i t there

    by : Fares c (common_of old) i f.0 t → is_host t.address ≡ true
    by (untouched fell not' e) = ap (λ (z : SlotState). is_host z.address) e ∙ k i f.0 p f.1 (ap (λ (z : SlotState). z.peer) (sym e) ∙ has)
    by (goes_on r q ds was fell alone not' e) =
        let held : (with_peer f.0 q).peer ≡ Some p = ap (λ (z : SlotState). z.peer) (sym e) ∙ has in
        ap (λ (z : SlotState). is_host z.address) e ∙ ap is_host (kept-place q.state f.0 q p held) ∙ k i f.0 r f.1 was
    by (takes_over r q ds was fell alone gone left b) = begun-there is_host c old i (with_peer f.0 q) t speaks b
    by (begins none left b) = begun-there is_host c old i f.0 t speaks b

call-speaks : (w : Around) (from old new : Site) (c : Call) → HappensAmong w from (Calls c) old new → is_guest (Calls c) ≡ false → w.is_host from.address ≡ true → Speaks w.is_host c
call-speaks w from old new (call.Connect address channels info word answer) x none host = ap w.is_host x.0 ∙ host
call-speaks w from old new (call.Receive address bytes answer) x none host = inr none
call-speaks w from old new c x none host = tt

hosts-on : (w : Around) (from old new : Site) (what : Happening) → HappensAmong w from what old new → is_guest what ≡ false → w.is_host from.address ≡ true → AreHosts w.is_host old.host → AreHosts w.is_host new.host
hosts-on w from old new (Calls c) x none host k = hosts-by w.is_host c old.host new.host (acts-of w from old new c x) (call-speaks w from old new c x none host) k
hosts-on w from old new (Delivers n answer) x none host k = by (slice_get from.log n) x
  where
    by : (found : Option Logged) → BringsOne from found answer old new → AreHosts w.is_host new.host
    by None y = absurd y
    by (Some d) y = hosts-by w.is_host (call.Receive from.address d.text answer) old.host new.host y.1.0 (inl host) k

-- so each that is named has an end

same-peer-name : (a b : PeerRef) → is_same_name a b ≡ true → a ≡ b
same-peer-name a b e = (λ i. record { slot = name-slot a b e i; generation = name-generation a b e i })

end-of : (is_host : Addr → Bool) (s : Site) → owned.AreEnds is_host s → AreHosts is_host s.host → (name : PeerRef) (t : SlotState) (p : Peering) → slice_get s.host.slots name.slot ≡ Some t → t.generation ≡ name.generation → t.peer ≡ Some p
    → (e : HostEnd) × Has s.ends e × (e.name ≡ name)
end-of is_host s owns k name t p there same has =
    let x : IsThere s.host.slots name p = record { slot = t; there = there; same = same; peer = has } in
    owns name t.address (ap address_in (there-slot s.host.slots name p x) ∙ ap (address_of t) has) (k name.slot t p there has)

-- what a thing names is a peer that stands
named-by : (w : Around) (from old new : Site) (what : Happening) → HappensAmong w from what old new → owned.AreEnds w.is_host old → AreHosts w.is_host old.host → (name : PeerRef)
    → ((channel : ℕ) × (submitted_by name channel what ≢ [])) ⊎ (taken_by name what ≢ []) → (e : HostEnd) × Has old.ends e × (e.name ≡ name)
named-by w from old new (Calls (call.Submit to number q (Ok done))) x owns k name (inl some) = by (is_same_name name to) refl
  where
    d : Does old.host.slots to (unless_full old.host.send_limit (submission number q)) new.host.slots
    d = does-named old.host.slots to (unless_full old.host.send_limit (submission number q)) new.host.slots x.0.0

    by : (b : Bool) → is_same_name name to ≡ b → (e : HostEnd) × Has old.ends e × (e.name ≡ name)
    by true e = (let r = end-of w.is_host old owns k to d.slot d.peer d.there d.same d.held in (r.0, r.1, r.2 ∙ sym (same-peer-name name to e)))
    by false e = absurd (some.1 (ap (λ (b : Bool). cond (b && number == some.0) ((record { channel = number; flags = q.flags; body = q.body }) ∷ []) []) e))
named-by w from old new (Calls (call.NextEvent (Some event))) x owns k name (inr some) = by (is_of name event) refl
  where
    a : TakesOne old.host event new.host
    a = x.0

    other : PeerRef
    other = name_of a.from a.first.slot

    by : (b : Bool) → is_of name event ≡ b → (e : HostEnd) × Has old.ends e × (e.name ≡ name)
    by true e =
        let same : is_same_name name other ≡ true = sym (ap (is_of name) a.gives.told ∙ of-event name other a.gives.taken.event) ∙ e in
        let r = end-of w.is_host old owns k other a.first.slot a.gives.peer a.first.there refl a.gives.held in
        (r.0, r.1, r.2 ∙ sym (same-peer-name name other same))
    by false e = absurd (some (ap (λ (b : Bool). cond b (event ∷ []) []) e))
named-by w from old new (Calls c) x owns k name (inl some) = absurd (some.1 refl)
named-by w from old new (Calls c) x owns k name (inr some) = absurd (some refl)
named-by w from old new (Delivers n answer) x owns k name (inl some) = absurd (some.1 refl)
named-by w from old new (Delivers n answer) x owns k name (inr some) = absurd (some refl)

-- one of two lists has something
either : {X : Type 0} (xs ys : List X) → xs ++ ys ≢ [] → (xs ≢ []) ⊎ (ys ≢ [])
either [] ys h = inr h
either (x ∷ xs) ys h = inl (λ e. absurd (let z : ◌≡◌ {A = List _} (x ∷ xs) [] = e in cc))

pub stays-covered : StaysCovered
stays-covered submitted taken w from old new what x none host owns k = record {
  hosts = hosts-on w from old new what x none host k.hosts;
  ends = λ name some. elim (before name some) [
    | inl was ↦ grown (k.ends name was)
    | inr now ↦ grown (named-by w from old new what x owns k.hosts name now)
  ];
}
  where
    g : Grows old new (more_of w.count from old new what)
    g = grows w from old new what x

    grown : {name : PeerRef} → (e : HostEnd) × Has old.ends e × (e.name ≡ name) → (e : HostEnd) × Has new.ends e × (e.name ≡ name)
    grown e = (g.change e.0, stays-there old new (more_of w.count from old new what) g e.0 e.1, g.name e.0 ∙ e.2)

    before : (name : PeerRef) → ((channel : ℕ) × (and_submitted submitted what name channel ≢ [])) ⊎ (and_taken taken what name ≢ [])
        → (((channel : ℕ) × (submitted name channel ≢ [])) ⊎ (taken name ≢ [])) ⊎ (((channel : ℕ) × (submitted_by name channel what ≢ [])) ⊎ (taken_by name what ≢ []))
    before name (inl s) = elim (either (submitted name s.0) (submitted_by name s.0 what) s.1) [ inl a ↦ inl (inl (s.0, a)) | inr b ↦ inr (inl (s.0, b)) ]
    before name (inr s) = elim (either (taken name) (taken_by name what) s) [ inl a ↦ inl (inr a) | inr b ↦ inr (inr b) ]
