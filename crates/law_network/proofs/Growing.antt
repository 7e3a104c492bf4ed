-- Which ends a host has after something happened.
use Rattle.std.proofs.Common.{◌≡◌, ℕ, ◌⊎◌, inl, inr, Bool, true, false, cond, List, [], ◌∷◌, ◌++◌, map, refl, sym, ap, subst, ◌∙◌, append-nil, Option, Some, None, Ok, Err, slice_get}
use Rattle.enet_codec.specs.declared.address.Addr.{Addr}
use Rattle.enet_codec.specs.declared.event.Event.{Event as Told}
use Rattle.enet_codec.specs.declared.event.PeerRef.{PeerRef}
use Rattle.enet_codec.specs.declared.event.Received.{Received}
use Rattle.law_connection.specs.LinkSteps.{Has}
use Rattle.law_connection.proofs.Lists.{Has-append_cases}
use Rattle.law_connection.specs.Law.{mtu_in}
use Rattle.enet_slot.specs.Slot.{name_of}
use Rattle.enet_host.specs.Host.{named}
use Rattle.enet_host.specs.Calls.{TakesOne}
use Rattle.enet_host.specs.Serving.{served_of}
use Rattle.law_network.specs.Calls.{Call}
use Rattle.law_network.specs.Calls as call
use Rattle.law_network.specs.Log.{Logged}
use Rattle.law_network.specs.Network.{HostEnd, Site, fresh_end, is_same_name, with_end}
use Rattle.law_network.specs.Steps.{Around, Happening, Calls, Delivers, HappensAmong, Called, Logs, LogsIf, BringsOne, ends_after, after_event, with_packet, with_event, begun}
use Rattle.law_network.proofs.OneThing.{Has-append_left, event-ends}
pub use Rattle.law_network.proofs.Guests.{begun-is}

-- the ends that begin
abbrev pub more_in : Addr → Site → Site → Option Logged → List HostEnd
more_in from old new None = []
more_in from old new (Some d) = begun d.connection from old.host new.host

abbrev pub more_of : ℕ → Site → Site → Site → Happening → List HostEnd
more_of next other old new (Calls (call.Connect address channels info word (Ok name))) = fresh_end next name ∷ []
more_of next other old new (Calls c) = []
more_of next other old new (Delivers k answer) = more_in other.address old new (slice_get other.log k)

-- all others are those of before, each changed alone, with the same name and connection
pub record Grows (old new : Site) (more : List HostEnd) : Type 0 where
  pub change : HostEnd → HostEnd
  pub name : (e : HostEnd) → (change e).name ≡ e.name
  pub connection : (e : HostEnd) → (change e).connection ≡ e.connection
  pub ends : new.ends ≡ map change old.ends ++ more

map-same : (xs : List HostEnd) → map (λ (e : HostEnd). e) xs ≡ xs
map-same [] = refl
map-same (x ∷ xs) = ap (λ (l : List HostEnd). x ∷ l) (map-same xs)

same-part : {A : Type 0} (part : HostEnd → A) (b : Bool) (f e : HostEnd) → part f ≡ part e → part (cond b f e) ≡ part e
same-part part true f e same = same
same-part part false f e same = refl

grows-same : (old new : Site) (more : List HostEnd) → new.ends ≡ old.ends ++ more → Grows old new more
grows-same old new more e = record { change = λ x. x; name = λ x. refl; connection = λ x. refl; ends = e ∙ ap (λ (l : List HostEnd). l ++ more) (sym (map-same old.ends)) }

grows-none : (old new : Site) → new.ends ≡ old.ends → Grows old new []
grows-none old new e = grows-same old new [] (e ∙ sym (append-nil old.ends))

grows-one : (old new : Site) (change : HostEnd → HostEnd) (name : PeerRef) → ((e : HostEnd) → (change e).name ≡ e.name) → ((e : HostEnd) → (change e).connection ≡ e.connection) → new.ends ≡ with_end change name old.ends → Grows old new []
grows-one old new change name n c e = record {
  change = λ x. cond (is_same_name x.name name) (change x) x;
  name = λ x. same-part (λ (y : HostEnd). y.name) (is_same_name x.name name) (change x) x (n x);
  connection = λ x. same-part (λ (y : HostEnd). y.connection) (is_same_name x.name name) (change x) x (c x);
  ends = e ∙ sym (append-nil (with_end change name old.ends));
}

called : (next : ℕ) (c : Call) (old new : Site) → Called next c old new → ends_after next old c ≡ old.ends → Grows old new []
called next c old new x same = grows-none old new (ap (λ (s : Site). s.ends) x.1 ∙ same)

served : (b : Bool) (far : ℕ → List ℕ) (gave : PeerRef × Addr × ℕ) (buf : List ℕ) (old new : Site) → LogsIf b far (served_of gave buf) old new → Grows old new []
served true far gave buf old new l =
    let logs : Logs far (served_of gave buf) old new = l in
    grows-one old new (λ (y : HostEnd). record y { greatest = logs.greatest }) gave.0 (λ e. refl) (λ e. refl) (ap (λ (s : Site). s.ends) logs.rest)
served false far gave buf old new l = grows-none old new (let rest : new ≡ record old { host = new.host } = l in ap (λ (s : Site). s.ends) rest)

calls-grow : (w : Around) (from old new : Site) (c : Call) → HappensAmong w from (Calls c) old new → Grows old new (more_of w.count from old new (Calls c))
calls-grow w from old new (call.Connect address channels info word (Ok name)) x = grows-same old new (fresh_end w.count name ∷ []) (ap (λ (s : Site). s.ends) x.1.1)
calls-grow w from old new (call.Connect address channels info word (Err why)) x = called w.count (call.Connect address channels info word (Err why)) old new x.1 refl
calls-grow w from old new (call.Submit name channel q (Ok done)) x =
    grows-one old new (with_packet (mtu_in (named old.host.slots name)) (record { channel = channel; flags = q.flags; body = q.body })) name (λ e. refl) (λ e. refl) (ap (λ (s : Site). s.ends) x.1)
calls-grow w from old new (call.Submit name channel q (Err why)) x = called w.count (call.Submit name channel q (Err why)) old new x refl
calls-grow w from old new (call.Receive address bytes answer) x = called w.count (call.Receive address bytes answer) old new x.1 refl
calls-grow w from old new (call.Service None buf) x = called w.count (call.Service None buf) old new x refl
calls-grow w from old new (call.Service (Some gave) buf) x = served (w.is_host gave.1) w.numbers gave buf old new x.1
calls-grow w from old new (call.Tick ms) x = called w.count (call.Tick ms) old new x refl
calls-grow w from old new (call.Disconnect mode name info answer) x = called w.count (call.Disconnect mode name info answer) old new x refl
calls-grow w from old new (call.SetBandwidth incoming outgoing answer) x = called w.count (call.SetBandwidth incoming outgoing answer) old new x refl
calls-grow w from old new (call.ConfigureThrottle name interval acceleration deceleration answer) x = called w.count (call.ConfigureThrottle name interval acceleration deceleration answer) old new x refl
calls-grow w from old new (call.SetPingInterval name ms answer) x = called w.count (call.SetPingInterval name ms answer) old new x refl
calls-grow w from old new (call.SetTimeout name limit minimum maximum answer) x = called w.count (call.SetTimeout name limit minimum maximum answer) old new x refl
calls-grow w from old new (call.NextEvent None) x = called w.count (call.NextEvent None) old new x refl
calls-grow w from old new (call.Admit what answer) x = called w.count (call.Admit what answer) old new x refl
calls-grow w from old new (call.SetSendLimit bytes commands) x = called w.count (call.SetSendLimit bytes commands) old new x refl
calls-grow w from old new (call.NextEvent (Some event)) x =
    let a : TakesOne old.host event new.host = x.0 in
    let name : PeerRef = name_of a.from a.first.slot in
    let ends : after_event event old.ends ≡ with_end (with_event event) name old.ends =
    subst (λ (t : Told). after_event t old.ends ≡ with_end (with_event t) name old.ends) (sym a.gives.told) (event-ends name a.gives.taken.event old.ends) in
    grows-one old new (with_event event) name (λ e. refl) (λ e. refl) (ap (λ (s : Site). s.ends) x.1 ∙ ends)

brings-grow : (other old new : Site) (answer : Received) (found : Option Logged) → BringsOne other found answer old new → Grows old new (more_in other.address old new found)
brings-grow other old new answer None x = absurd x
brings-grow other old new answer (Some d) x = grows-same old new (begun d.connection other.address old.host new.host) (ap (λ (s : Site). s.ends) x.1.1)

pub grows : (w : Around) (from old new : Site) (what : Happening) → HappensAmong w from what old new → Grows old new (more_of w.count from old new what)
grows w from old new (Calls c) x = calls-grow w from old new c x
grows w from old new (Delivers k answer) x = brings-grow from old new answer (slice_get from.log k) x

-- each end is one of before, or begins

Has-mapped : (f : HostEnd → HostEnd) (xs : List HostEnd) (y : HostEnd) → Has (map f xs) y → (x : HostEnd) × Has xs x × (f x ≡ y)
Has-mapped f [] y h = absurd h
Has-mapped f (x ∷ xs) y (inl e) = (x, inl refl, e)
Has-mapped f (x ∷ xs) y (inr h) = let r = Has-mapped f xs y h in (r.0, inr r.1, r.2)

pub from-before : (old new : Site) (more : List HostEnd) (g : Grows old new more) (f : HostEnd) → Has new.ends f → ((e : HostEnd) × Has old.ends e × (g.change e ≡ f)) ⊎ Has more f
from-before old new more g f h = elim (Has-append_cases (map g.change old.ends) more f (subst (λ (l : List HostEnd). Has l f) g.ends h)) [ inl k ↦ inl (Has-mapped g.change old.ends f k) | inr k ↦ inr k ]

Has-map : (f : HostEnd → HostEnd) (xs : List HostEnd) (x : HostEnd) → Has xs x → Has (map f xs) (f x)
Has-map f [] x h = absurd h
Has-map f (y ∷ xs) x (inl e) = inl (ap f e)
Has-map f (y ∷ xs) x (inr h) = inr (Has-map f xs x h)

Has-append_right : {X : Type 0} (a b : List X) (x : X) → Has b x → Has (a ++ b) x
Has-append_right [] b x h = h
Has-append_right (y ∷ a) b x h = inr (Has-append_right a b x h)

pub stays-there : (old new : Site) (more : List HostEnd) (g : Grows old new more) (e : HostEnd) → Has old.ends e → Has new.ends (g.change e)
stays-there old new more g e h = subst (λ (l : List HostEnd). Has l (g.change e)) (sym g.ends) (Has-append_left (map g.change old.ends) more (g.change e) (Has-map g.change old.ends e h))

pub begins-there : (old new : Site) (more : List HostEnd) (g : Grows old new more) (f : HostEnd) → Has more f → Has new.ends f
begins-there old new more g f h = subst (λ (l : List HostEnd). Has l f) (sym g.ends) (Has-append_right (map g.change old.ends) more f h)
