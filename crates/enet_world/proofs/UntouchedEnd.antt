-- What becomes of an end of a connection at its host, whose user only takes.
use Rattle.std.proofs.Common.{◌≡◌, ◌≢◌, ◌≤◌, ◌==◌, ◌⊎◌, inl, inr, ℕ, Bool, true, false, cond, List, [], ◌∷◌, ◌++◌, append_assoc, map, refl, sym, ap, subst, ◌∙◌, arith, Option, Some, None, nat_lt}
use Rattle.std.proofs.lemmas.Bool.Decides.{nat_tests}
use Rattle.enet_codec.specs.declared.address.Addr.{Addr}
use Rattle.enet_codec.specs.declared.event.Event.{Event}
use Rattle.enet_codec.specs.declared.event.Event.TheVariants as events
use Rattle.enet_codec.specs.declared.event.PeerRef.{PeerRef}
use Rattle.enet_codec.specs.declared.event.Received.{Received}
use Rattle.enet_peer.specs.declared.parts.PeerEvent.{PeerEvent}
use Rattle.enet_peer.specs.declared.parts.PeerEvent.TheVariants as told
use Rattle.enet_peer.specs.declared.parts.PeerState.{PeerState}
use Rattle.enet_peer.specs.declared.parts.PeerState.TheVariants as state
use Rattle.enet_peer.specs.Peering.{Peering}
use Rattle.enet_slot.specs.Slot.{SlotState, name_of, greatest}
use Rattle.enet_slot.specs.Calls.{event_of, peer_tells}
use Rattle.enet_host.specs.Calls.{TakesOne}
use Rattle.enet_host.specs.Host.{Host, named}
use Rattle.enet_host.specs.Serving.{served_of}
use Rattle.law_network.specs.Calls.{Call, Acts}
use Rattle.law_network.specs.Calls as call
use Rattle.law_network.specs.Common.{Common, common_of}
use Rattle.law_network.specs.Deeds.{Deed, AllAlone}
use Rattle.law_network.specs.Deeds as deed
use Rattle.law_network.specs.Falling.{Fell, Occupied, deeds_if, taken_from}
use Rattle.law_network.specs.IsolationLaw.{held_if}
use Rattle.law_network.specs.Log.{Logged}
use Rattle.law_network.specs.Network.{HostEnd, Site, end_of, is_same_name, numbers_of, with_end}
use Rattle.law_network.specs.Shown.{IsGone, ShowsPeer}
use Rattle.law_network.specs.Steps.{Happens, Calls, BringsOne, Logs, after_event, with_event, begun}
use Rattle.law_network.proofs.IsolationServing.{taken-event}
use Rattle.law_network.proofs.Lists.{same-or}
use Rattle.law_network.proofs.Names.{IsThere, named-there, there-named, IsSpent, spent-step, spent-nobody}
use Rattle.law_network.proofs.OneThing.{event-ends, same-part}
use Rattle.law_network.proofs.Peers as peers
use Rattle.law_network.proofs.Peers.{Moved, shows-held}
use Rattle.law_network.proofs.Submitting.{same-name, other-slot, not-there, same-some, same-slot}
use Rattle.enet_world.proofs.Untouched.{is_up, gone_by, emitted-state, Rises, IsQuiet, deed-rises, taken-or-over, not-ended}
use Rattle.enet_world.proofs.Fallen.{Each, kept-by-each, each-if, each-up-to, each-reaches}

-- ---- an end at a host
-- the end of connection x, whose user took events since it was this one, and whose peer is in one of these states
pub record Stays (f : PeerState → Bool) (was : HostEnd) (s : Site) (x : ℕ) : Type 0 where
  pub e : HostEnd
  pub there : end_of x s.ends ≡ Some e
  pub more : List Event
  pub called : e.name ≡ was.name
  pub took : e.events ≡ was.events ++ more
  pub p : Peering
  pub is : named s.host.slots e.name ≡ Some p
  pub up : f p.state ≡ true

-- or the last of them is a Disconnect, and the peer is gone for good
pub record IsOver (was : HostEnd) (s : Site) (x : ℕ) : Type 0 where
  pub e : HostEnd
  pub there : end_of x s.ends ≡ Some e
  pub more : List Event
  pub info : ℕ
  pub called : e.name ≡ was.name
  pub took : e.events ≡ was.events ++ more ++ events.Disconnect was.name info ∷ []
  pub spent : IsSpent s.host e.name

abbrev pub IsEither : (PeerState → Bool) → HostEnd → Site → ℕ → Type 0
IsEither f was s x = Stays f was s x ⊎ IsOver was s x

pub weaker : (f g : PeerState → Bool) (was : HostEnd) (s : Site) (x : ℕ) → ((t : PeerState) → f t ≡ true → g t ≡ true) → IsEither f was s x → IsEither g was s x
weaker f g was s x h (inl k) = inl (record { e = k.e; there = k.there; more = k.more; called = k.called; took = k.took; p = k.p; is = k.is; up = h k.p.state k.up })
weaker f g was s x h (inr k) = inr k

-- ---- the ends of a host after something happened
-- the end of connection x is still there, with its name and events
abbrev pub Remains : ℕ → Site → Site → Type 0
Remains x old new = (e : HostEnd) → end_of x old.ends ≡ Some e → (f : HostEnd) × (end_of x new.ends ≡ Some f) × (f.name ≡ e.name) × (f.events ≡ e.events)

no-end : {A : Type 0} (e : HostEnd) → ◌≡◌ {A = Option HostEnd} None (Some e) → A
no-end e h = absurd (cc)

end-kept : (ends more : List HostEnd) (x : ℕ) (e : HostEnd) → end_of x ends ≡ Some e → end_of x (ends ++ more) ≡ Some e
end-kept [] more x e h = no-end e h
end-kept (f ∷ ends) more x e h = by (f.connection == x) (end-kept ends more x e) h
  where
    by : (b : Bool) → (end_of x ends ≡ Some e → end_of x (ends ++ more) ≡ Some e) → cond b (Some f) (end_of x ends) ≡ Some e → cond b (Some f) (end_of x (ends ++ more)) ≡ Some e
    by true rest k = k
    by false rest k = rest k

end-mapped : (change : HostEnd → HostEnd) → ((e : HostEnd) → (change e).connection ≡ e.connection) → (ends : List HostEnd) (x : ℕ) (e : HostEnd) → end_of x ends ≡ Some e → end_of x (map change ends) ≡ Some (change e)
end-mapped change same [] x e h = no-end e h
end-mapped change same (f ∷ ends) x e h =
    ap (λ (n : ℕ). cond (n == x) (Some (change f)) (end_of x (map change ends))) (same f) ∙ by (f.connection == x) (end-mapped change same ends x e) h
  where
    by : (b : Bool) → (end_of x ends ≡ Some e → end_of x (map change ends) ≡ Some (change e)) → cond b (Some f) (end_of x ends) ≡ Some e → cond b (Some (change f)) (end_of x (map change ends)) ≡ Some (change e)
    by true rest k = ap (λ (y : HostEnd). Some (change y)) (same-some f e k)
    by false rest k = rest k

end-with : (change : HostEnd → HostEnd) (name : PeerRef) → ((e : HostEnd) → (change e).connection ≡ e.connection) → (ends : List HostEnd) (x : ℕ) (e : HostEnd) → end_of x ends ≡ Some e
    → end_of x (with_end change name ends) ≡ Some (cond (is_same_name e.name name) (change e) e)
end-with change name same ends x e h =
    end-mapped (λ (y : HostEnd). cond (is_same_name y.name name) (change y) y) (λ y. same-part (λ (z : HostEnd). z.connection) (is_same_name y.name name) (change y) y (same y)) ends x e h

pub remains-same : (x : ℕ) (old new : Site) → new.ends ≡ old.ends → Remains x old new
remains-same x old new same e there = (e, ap (end_of x) same ∙ there, refl, refl)

remains-more : (x : ℕ) (old new : Site) (more : List HostEnd) → new.ends ≡ old.ends ++ more → Remains x old new
remains-more x old new more grown e there = (e, ap (end_of x) grown ∙ end-kept old.ends more x e there, refl, refl)

remains-counted : (x : ℕ) (old new : Site) (numbers : List ℕ) (name : PeerRef) → new.ends ≡ with_end (λ (e : HostEnd). record e { greatest = numbers }) name old.ends → Remains x old new
remains-counted x old new numbers name is e there = (
  cond (is_same_name e.name name) (record e { greatest = numbers }) e,
  ap (end_of x) is ∙ end-with (λ (y : HostEnd). record y { greatest = numbers }) name (λ y. refl) old.ends x e there,
  same-part (λ (y : HostEnd). y.name) (is_same_name e.name name) (record e { greatest = numbers }) e refl,
  same-part (λ (y : HostEnd). y.events) (is_same_name e.name name) (record e { greatest = numbers }) e refl,
)

-- ---- what falls to a peer by what isn't its user's
abbrev pub IsQuietCall : Call → Type 0
IsQuietCall (call.Tick ms) = Unit {0}
IsQuietCall (call.Service answer buf) = Unit {0}
IsQuietCall (call.Receive from bytes answer) = Unit {0}
IsQuietCall c = ⊥

fell-quiet : (h : Common) (x : Occupied) (c : Call) (ds : List Deed) → IsQuietCall c → Fell h x c ds → Each IsQuiet ds
fell-quiet h x (call.Tick ms) ds k f = subst (Each IsQuiet) (sym f) (tt, each-if IsQuiet _ _ tt)
fell-quiet h x (call.Service None buf) ds k f = subst (Each IsQuiet) (sym f) (tt, tt)
fell-quiet h x (call.Service (Some gave) buf) ds k f = subst (Each IsQuiet) (sym f) (each-up-to IsQuiet h.turn gave.0.slot x.number _ _ tt tt)
fell-quiet h x (call.Receive from bytes answer) ds k f = each-reaches IsQuiet x.number x.slot _ ds (λ sent full m told. tt) tt tt f
fell-quiet h x c ds k f = absurd k

-- ---- a peer that is up
not-free : (s : PeerState) → is_up s ≡ true → s ≢ state.Free
not-free s up free = (let z : true ≡ false = sym up ∙ ap is_up free in cc)

held-up : (s : PeerState) (q : Peering) → is_up s ≡ true → held_if s q ≡ Some q
held-up state.Free q up = absurd (cc)
held-up s q up = refl

shows-up : (h : Host) (name : PeerRef) (p : Peering) → named h.slots name ≡ Some p → is_up p.state ≡ true → ShowsPeer h name p
shows-up h name p is up = shows-held h name p (not-free p.state up) (named-there h.slots name p is)

-- a call makes of it what falls to it
record Became (c : Call) (old new : Host) (name : PeerRef) (p : Peering) : Type 0 where
  number : ℕ
  slot : SlotState
  ds : List Deed
  q : Peering
  fell : Fell (common_of old) (record { number = number; slot = slot; peer = p }) c ds
  alone : AllAlone ds p q
  shows : ShowsPeer new name q

became : (c : Call) (old new : Host) (name : PeerRef) (p : Peering) → old.config.generations ≤ greatest → Acts c old new → named old.slots name ≡ Some p → is_up p.state ≡ true → Became c old new name p
became c old new name p few acts is up = by (peers.moved c old new name p few acts (shows-up old name p is up))
  where
    by : Moved c old new name p → Became c old new name p
    by (peers.is_gone shows never) = absurd (never p (named-there old.slots name p is))
    by (peers.goes x ds q fell alone shows) = record { number = name.slot; slot = x.slot; ds = ds; q = q; fell = fell; alone = alone; shows = shows }

-- ---- nothing is the user's: a tick, a turn, a datagram
pub keeps-site : (f : PeerState → Bool) → Rises f → (was : HostEnd) (x : ℕ) (c : Call) (old new : Site) → old.host.config.generations ≤ greatest → Acts c old.host new.host → IsQuietCall c → Remains x old new → IsEither f was old x → IsEither f was new x
keeps-site f rises was x c old new few acts quiet remains (inl k) = inl (record {
  e = g.0;
  there = g.1;
  more = k.more;
  called = g.2 ∙ k.called;
  took = g.3 ∙ k.took;
  p = b.q;
  is = ap (named new.host.slots) g.2 ∙ b.shows.is ∙ held-up b.q.state b.q (rises.only b.q.state up);
  up = up;
})
  where
    g : (f : HostEnd) × (end_of x new.ends ≡ Some f) × (f.name ≡ k.e.name) × (f.events ≡ k.e.events)
    g = remains k.e k.there

    b : Became c old.host new.host k.e.name k.p
    b = became c old.host new.host k.e.name k.p few acts k.is (rises.only k.p.state k.up)

    up : f b.q.state ≡ true
    up = kept-by-each IsQuiet (λ (p : Peering). f p.state ≡ true) (deed-rises f rises) b.ds k.p b.q (fell-quiet (common_of old.host) (record { number = b.number; slot = b.slot; peer = k.p }) c b.ds quiet b.fell) b.alone k.up
keeps-site f rises was x c old new few acts quiet remains (inr k) = inr (record {
  e = g.0;
  there = g.1;
  more = k.more;
  info = k.info;
  called = g.2 ∙ k.called;
  took = g.3 ∙ k.took;
  spent = subst (IsSpent new.host) (sym g.2) (spent-step c old.host new.host k.e.name few acts k.spent);
})
  where
    g : (f : HostEnd) × (end_of x new.ends ≡ Some f) × (f.name ≡ k.e.name) × (f.events ≡ k.e.events)
    g = remains k.e k.there

-- a datagram is put out
pub serves-site : (f : PeerState → Bool) → Rises f → (was : HostEnd) (x next : ℕ) (gave : PeerRef × Addr × ℕ) (buf : List ℕ) (far old new : Site) → old.host.config.generations ≤ greatest
    → Happens next far (Calls (call.Service (Some gave) buf)) old new → IsEither f was old x → IsEither f was new x
serves-site f rises was x next gave buf far old new few h k =
    let logs : Logs (numbers_of far) (served_of gave buf) old new = h.1 in
    keeps-site f rises was x (call.Service (Some gave) buf) old new few h.0 tt (remains-counted x old new logs.greatest gave.0 (ap (λ (s : Site). s.ends) logs.rest)) k

-- a datagram comes
pub delivers-site : (f : PeerState → Bool) → Rises f → (was : HostEnd) (x : ℕ) (from old new : Site) (answer : Received) (o : Option Logged) → old.host.config.generations ≤ greatest → BringsOne from o answer old new
    → IsEither f was old x → IsEither f was new x
delivers-site f rises was x from old new answer None few h k = absurd h
delivers-site f rises was x from old new answer (Some d) few h k =
    keeps-site f rises was x (call.Receive from.address d.text answer) old new few h.1.0 tt (remains-more x old new (begun d.connection from.address old.host new.host) (ap (λ (s : Site). s.ends) h.1.1)) k

-- ---- the user takes
-- an event, which may be another end's
remains-if : (b : Bool) (ds : List Deed) (p r : Peering) → ds ≡ deeds_if b (deed.Take None) → AllAlone ds p r → p ≡ r
remains-if true ds p r is alone = let a : AllAlone (deed.Take None ∷ []) p r = subst (λ (l : List Deed). AllAlone l p r) is alone in sym a.1.1 ∙ a.2
remains-if false ds p r is alone = subst (λ (l : List Deed). AllAlone l p r) is alone

takes-event : (f : PeerState → Bool) → ((s : PeerState) → f s ≡ true → is_up s ≡ true) → (was : HostEnd) (x : ℕ) (event : Event) (old new : Site) → old.host.config.generations ≤ greatest → (acts : TakesOne old.host event new.host)
    → new.ends ≡ after_event event old.ends → IsEither f was old x → IsEither f was new x
takes-event f only was x event old new few acts grown k = by k
  where
    c : Call
    c = call.NextEvent (Some event)

    name : PeerRef
    name = name_of acts.from acts.first.slot

    t : PeerEvent
    t = acts.gives.taken.event

    is : event ≡ event_of name t
    is = acts.gives.told

    h : Common
    h = common_of old.host

    ends : new.ends ≡ with_end (with_event event) name old.ends
    ends = grown ∙ subst (λ (y : Event). after_event y old.ends ≡ with_end (with_event y) name old.ends) (sym is) (event-ends name t old.ends)

    after : (e : HostEnd) → end_of x old.ends ≡ Some e → end_of x new.ends ≡ Some (cond (is_same_name e.name name) (with_event event e) e)
    after e there = ap (end_of x) ends ∙ end-with (with_event event) name (λ y. refl) old.ends x e there

    -- another's
    passed : (e : HostEnd) → end_of x old.ends ≡ Some e → is_same_name e.name name ≡ false → end_of x new.ends ≡ Some e
    passed e there never = after e there ∙ ap (λ (b : Bool). Some (cond b (with_event event e) e)) never

    -- its own
    given : (e : HostEnd) → end_of x old.ends ≡ Some e → is_same_name e.name name ≡ true → end_of x new.ends ≡ Some (with_event event e)
    given e there sure = after e there ∙ ap (λ (b : Bool). Some (cond b (with_event event e) e)) sure

    before : HostEnd → Bool
    before e = nat_lt (h.event_turn e.name.slot) (h.event_turn acts.from)

    fallen : (e : HostEnd) (b : Bool) → (acts.from == e.name.slot) ≡ b → taken_from h e.name.slot (Some event) ≡ cond b (deed.Take (Some t) ∷ []) (deeds_if (before e) (deed.Take None))
    fallen e b z = ap (λ (y : Event). taken_from h e.name.slot (Some y)) is ∙ taken-event h e.name.slot name t ∙ ap (λ (y : Bool). cond y (deed.Take (Some t) ∷ []) (deeds_if (before e) (deed.Take None))) z

    grew : (e : HostEnd) (more : List Event) → e.events ≡ was.events ++ more → e.events ++ event ∷ [] ≡ was.events ++ more ++ event ∷ []
    grew e more took = ap (λ (l : List Event). l ++ event ∷ []) took

    by : IsEither f was old x → IsEither f was new x
    by (inr k) =
        let nobody = spent-nobody old.host k.e.name k.spent in
        let never : is_same_name k.e.name name ≡ false =
        not-there old.host.slots k.e.name name acts.first.slot acts.gives.peer acts.first.there refl acts.gives.held (λ q y. (let z : ◌≡◌ {A = Option Peering} None (Some q) = sym nobody ∙ there-named old.host.slots k.e.name q y in cc)) in
        inr (record { e = k.e; there = passed k.e k.there never; more = k.more; info = k.info; called = k.called; took = k.took; spent = spent-step c old.host new.host k.e.name few acts k.spent })
    by (inl k) = goes (peers.moved c old.host new.host k.e.name k.p few acts (shows-up old.host k.e.name k.p k.is (only k.p.state k.up)))
      where
        stays : (r : Peering) → r.state ≡ k.p.state → ShowsPeer new.host k.e.name r → named new.host.slots k.e.name ≡ Some r
        stays r same shows = shows.is ∙ held-up r.state r (ap is_up same ∙ only k.p.state k.up)

        goes : Moved c old.host new.host k.e.name k.p → IsEither f was new x
        goes (peers.is_gone shows never) = absurd (never k.p (named-there old.host.slots k.e.name k.p k.is))
        goes (peers.goes y ds r fell alone shows) = at (same-or acts.from k.e.name.slot)
          where
            at : (acts.from ≡ k.e.name.slot) ⊎ (acts.from ≢ k.e.name.slot) → IsEither f was new x
            at (inr n) =
                let remains : k.p ≡ r = remains-if (before k.e) ds k.p r (fell ∙ fallen k.e false (grind (arith, nat_tests))) alone in
                let same : r.state ≡ k.p.state = ap (λ (q : Peering). q.state) (sym remains) in
                inl (record { e = k.e; there = passed k.e k.there (other-slot k.e.name name (λ z. n (sym z))); more = k.more; called = k.called; took = k.took; p = r; is = stays r same shows; up = ap f same ∙ k.up })
            at (inl here) = told-or (taken-or-over k.p a.0 t a.1)
              where
                one : ds ≡ deed.Take (Some t) ∷ []
                one = fell ∙ fallen k.e true (grind (arith, nat_tests))

                a : AllAlone (deed.Take (Some t) ∷ []) k.p r
                a = subst (λ (l : List Deed). AllAlone l k.p r) one alone

                slot : acts.first.slot ≡ y.slot
                slot = same-slot old.host.slots acts.from k.e.name.slot acts.first.slot y.slot here acts.first.there y.there

                g : k.e.name.generation ≡ name.generation
                g = sym y.same ∙ ap (λ (s : SlotState). s.generation) (sym slot)

                called : name ≡ k.e.name
                called = λ i. record { slot = here i; generation = sym g i }

                sure : is_same_name k.e.name name ≡ true
                sure = same-name k.e.name name (sym here) g

                told-or : (a.0.state ≡ k.p.state) ⊎ ((info : ℕ) × (t ≡ told.Disconnect info) × (a.0.state ≡ state.Free)) → IsEither f was new x
                told-or (inl same) =
                    let same' : r.state ≡ k.p.state = ap (λ (q : Peering). q.state) (sym a.2) ∙ same in
                    inl (record { e = with_event event k.e; there = given k.e k.there sure; more = k.more ++ event ∷ []; called = k.called; took = grew k.e k.more k.took ∙ append_assoc was.events k.more (event ∷ []); p = r; is = stays r same' shows; up = ap f same' ∙ k.up })
                told-or (inr (info, last, free)) =
                    let event' : event ≡ events.Disconnect was.name info = is ∙ ap (λ (n : PeerRef). event_of n t) (called ∙ k.called) ∙ ap (event_of was.name) last in
                    let gone : IsGone new.host k.e.name = shows.gone (ap (λ (q : Peering). q.state) (sym a.2) ∙ free) in
                    inr (record {
                      e = with_event event k.e;
                      there = given k.e k.there sure;
                      more = k.more;
                      info = info;
                      called = k.called;
                      took = grew k.e k.more k.took ∙ ap (λ (y : Event). was.events ++ k.more ++ y ∷ []) event';
                      spent = record { slot = gone.0; there = gone.1; past = gone.2 };
                    })

-- the host has no event to give
pub takes-nothing : (f g : PeerState → Bool) → ((s : PeerState) → f s ≡ true → s ≢ state.Ended → g s ≡ true) → (was : HostEnd) (x : ℕ) (old new : Site) → old.host.config.generations ≤ greatest
    → Acts (call.NextEvent None) old.host new.host → new.ends ≡ old.ends → IsEither f was old x → IsEither g was new x
takes-nothing f g unended was x old new few acts same (inl k) = inl (record {
  e = k.e;
  there = ap (end_of x) same ∙ k.there;
  more = k.more;
  called = k.called;
  took = k.took;
  p = k.p;
  is = ap (λ (h : Host). named h.slots k.e.name) acts.1 ∙ k.is;
  up = unended k.p.state k.up (not-ended k.p (ap peer_tells (sym there.peer) ∙ acts.0 k.e.name.slot there.slot there.there));
})
  where
    there : IsThere old.host.slots k.e.name k.p
    there = named-there old.host.slots k.e.name k.p k.is
takes-nothing f g unended was x old new few acts same (inr k) =
    inr (record { e = k.e; there = ap (end_of x) same ∙ k.there; more = k.more; info = k.info; called = k.called; took = k.took; spent = spent-step (call.NextEvent None) old.host new.host k.e.name few acts k.spent })

pub takes-maybe : (f : PeerState → Bool) → ((s : PeerState) → f s ≡ true → is_up s ≡ true) → (was : HostEnd) (x next : ℕ) (event : Option Event) (far old new : Site) → old.host.config.generations ≤ greatest
    → Happens next far (Calls (call.NextEvent event)) old new → IsEither f was old x → IsEither f was new x
takes-maybe f only was x next None far old new few h k = takes-nothing f f (λ s up over. up) was x old new few h.0 (ap (λ (s : Site). s.ends) h.1) k
takes-maybe f only was x next (Some event) far old new few h k = takes-event f only was x event old new few h.0 (ap (λ (s : Site). s.ends) h.1) k

-- ---- all are asked for a datagram, and none has one
pub rests-site : (f g : PeerState → Bool) → ((s : PeerState) → f s ≡ true → is_up s ≡ true) → ((s : PeerState) → f s ≡ true → g (gone_by s) ≡ true) → ((s : PeerState) → g s ≡ true → is_up s ≡ true) → (was : HostEnd) (x next : ℕ) (buf : List ℕ)
    (far old new : Site) → old.host.config.generations ≤ greatest → Happens next far (Calls (call.Service None buf)) old new → IsEither f was old x → IsEither g was new x
rests-site f g only goes up-too was x next buf far old new few h (inl k) = inl (record {
  e = k.e;
  there = ap (end_of x) same ∙ k.there;
  more = k.more;
  called = k.called;
  took = k.took;
  p = b.q;
  is = b.shows.is ∙ held-up b.q.state b.q (up-too b.q.state up);
  up = up;
})
  where
    same : new.ends ≡ old.ends
    same = ap (λ (s : Site). s.ends) h.1

    b : Became (call.Service None buf) old.host new.host k.e.name k.p
    b = became (call.Service None buf) old.host new.host k.e.name k.p few h.0 k.is (only k.p.state k.up)

    a : AllAlone (deed.Emit old.host.clock None ∷ []) k.p b.q
    a = subst (λ (l : List Deed). AllAlone l k.p b.q) b.fell b.alone

    after : b.q.state ≡ gone_by k.p.state
    after = ap (λ (q : Peering). q.state) (sym a.2 ∙ a.1.1) ∙ emitted-state k.p old.host.clock (only k.p.state k.up)

    up : g b.q.state ≡ true
    up = ap g after ∙ goes k.p.state k.up
rests-site f g only goes up-too was x next buf far old new few h (inr k) = inr (record {
  e = k.e;
  there = ap (λ (s : Site). end_of x s.ends) h.1 ∙ k.there;
  more = k.more;
  info = k.info;
  called = k.called;
  took = k.took;
  spent = spent-step (call.Service None buf) old.host new.host k.e.name few h.0 k.spent;
})
