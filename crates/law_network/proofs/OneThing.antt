-- Each thing that happens at a host, end by end.
use Rattle.std.proofs.Common.{◌≡◌, ◌≤◌, ℕ, ◌⊎◌, inl, inr, Bool, true, false, cond, List, [], ◌∷◌, ◌++◌, refl, sym, ap, subst, ◌∙◌, Option, Some, None, Ok, Err, slice_get}
use Rattle.enet_codec.specs.declared.address.Addr.{Addr}
use Rattle.enet_codec.specs.declared.event.Event.{Event as Told}
use Rattle.enet_codec.specs.declared.event.PeerRef.{PeerRef}
use Rattle.enet_codec.specs.declared.event.Received.{Received}
use Rattle.enet_peer.specs.declared.parts.PeerEvent.{PeerEvent}
use Rattle.enet_peer.specs.declared.parts.PeerEvent.TheVariants as told
use Rattle.law_connection.specs.LinkSteps.{Has}
use Rattle.law_connection.proofs.Lists.{Has-slice_get}
use Rattle.law_connection.specs.Connection.{End}
use Rattle.law_connection.specs.Law.{mtu_in}
use Rattle.enet_slot.specs.Slot.{name_of, greatest}
use Rattle.enet_host.specs.Host.{Host, Keeps, named}
use Rattle.enet_slot.specs.Calls.{event_of}
use Rattle.enet_host.specs.Serving.{served_of}
use Rattle.law_network.specs.Calls.{Call, Acts}
use Rattle.law_network.specs.Calls as call
use Rattle.law_network.specs.Log.{Logged}
use Rattle.law_network.specs.Law.{AreNamed, GoesOn, IsElsewhere, IsBetween, Faces, OneThing, GoOnAt}
use Rattle.law_network.specs.Network.{HostEnd, Site, is_same_name, with_end, is_earlier, is_late}
use Rattle.law_network.specs.Shown.{Shows, ShowsFar, Went, IsApart}
use Rattle.law_network.specs.Steps.{Around, Happening, Calls, Delivers, CallsAmong, Called, Logs, LogsIf, BringsOne, Brought, ends_after, after_event, with_packet, with_event, begun}
use Rattle.law_network.proofs.Quiet.{KeepsLog, same-log, is_quiet_call, goes-quiet}
use Rattle.law_network.proofs.Submitting.{goes-submitted, goes-taken}
use Rattle.law_network.proofs.Serving.{goes-passed, goes-served, goes-unserved}
use Rattle.law_network.proofs.Delivering.{goes-brought, goes-elsewhere}

-- the ends afterwards

pub Has-append_left : {X : Type 0} (a b : List X) (x : X) → Has a x → Has (a ++ b) x
Has-append_left [] b x h = absurd h
Has-append_left (y ∷ a) b x (inl e) = inl e
Has-append_left (y ∷ a) b x (inr h) = inr (Has-append_left a b x h)

pub Has-changed : (change : HostEnd → HostEnd) (name : PeerRef) (ends : List HostEnd) (e : HostEnd) → Has ends e → Has (with_end change name ends) (cond (is_same_name e.name name) (change e) e)
Has-changed change name [] e h = absurd h
Has-changed change name (f ∷ ends) e (inl same) = inl (ap (λ (x : HostEnd). cond (is_same_name x.name name) (change x) x) same)
Has-changed change name (f ∷ ends) e (inr h) = inr (Has-changed change name ends e h)

pub same-part : {A : Type 0} (part : HostEnd → A) (b : Bool) (f e : HostEnd) → part f ≡ part e → part (cond b f e) ≡ part e
same-part part true f e same = same
same-part part false f e same = refl

-- an end that is as it was
on-same : (own far : End) (new : Site) (e : HostEnd) (ends : List HostEnd) → new.ends ≡ ends → Has ends e → Went own far new e → GoesOn own far new e
on-same own far new e ends is h w = record { after = e; there = subst (λ (l : List HostEnd). Has l e) (sym is) h; connection = refl; name = refl; went = w }

-- an end among those of which one was changed
on-changed : (own far : End) (new : Site) (e : HostEnd) (ends : List HostEnd) (change : HostEnd → HostEnd) (name : PeerRef) → new.ends ≡ with_end change name ends → Has ends e → (change e).connection ≡ e.connection → (change e).name ≡ e.name
    → Went own far new (cond (is_same_name e.name name) (change e) e) → GoesOn own far new e
on-changed own far new e ends change name is h connection named' w = record {
  after = cond (is_same_name e.name name) (change e) e;
  there = subst (λ (l : List HostEnd). Has l (cond (is_same_name e.name name) (change e) e)) (sym is) (Has-changed change name ends e h);
  connection = same-part (λ (x : HostEnd). x.connection) (is_same_name e.name name) (change e) e connection;
  name = same-part (λ (x : HostEnd). x.name) (is_same_name e.name name) (change e) e named';
  went = w;
}

-- an event is one of the end that it names
pub event-ends : (name : PeerRef) (t : PeerEvent) (ends : List HostEnd) → after_event (event_of name t) ends ≡ with_end (with_event (event_of name t)) name ends
event-ends name (told.Connect info) ends = refl
event-ends name (told.Receive q) ends = refl
event-ends name (told.Disconnect info) ends = refl

-- calls that change no end

quiet : (next : ℕ) (c : Call) (old new : Site) (e : HostEnd) (own far : End) → is_quiet_call c ≡ true → ((ends : List HostEnd) × (ends_after next old c ≡ old.ends ++ ends)) ⊎ (ends_after next old c ≡ old.ends) → Called next c old new
    → old.host.config.generations ≤ greatest → Has old.ends e → Shows old e own → GoesOn own far new e
quiet next c old new e own far q (inl more) called low h k =
    on-same own far new e (old.ends ++ more.0) (ap (λ (s : Site). s.ends) called.1 ∙ more.1) (Has-append_left old.ends more.0 e h) (goes-quiet c old new e own far q low called.0 (same-log old new e.connection (ap (λ (s : Site). s.log) called.1)) k)
quiet next c old new e own far q (inr same) called low h k =
    on-same own far new e old.ends (ap (λ (s : Site). s.ends) called.1 ∙ same) h (goes-quiet c old new e own far q low called.0 (same-log old new e.connection (ap (λ (s : Site). s.log) called.1)) k)

-- a datagram that was given to a host, or to a stranger
serving : (w : Around) (b : Bool) (gave : PeerRef × Addr × ℕ) (buf : List ℕ) (old new : Site) → LogsIf b w.numbers (served_of gave buf) old new → w.is_host gave.1 ≡ b → Acts (call.Service (Some gave) buf) old.host new.host → old.host.config.generations ≤ greatest
    → (from : Site) (what : Happening) (e : HostEnd) → Has old.ends e → IsApart old.ends e → (own far : End) → Shows old e own → Faces w old e far → GoesOn own far new e
serving w true gave buf old new l is acts low from what e h apart own far k faces =
    let logs : Logs w.numbers (served_of gave buf) old new = l in
    on-changed own far new e old.ends (λ (y : HostEnd). record y { greatest = logs.greatest }) gave.0 (ap (λ (s : Site). s.ends) logs.rest) h refl refl
    (goes-served w.numbers gave buf old new e own far low acts logs apart faces.numbers k)
serving w false gave buf old new l is acts low from what e h apart own far k faces =
    let rest : new ≡ record old { host = new.host } = l in
    on-same own far new e old.ends (ap (λ (s : Site). s.ends) rest) h (goes-unserved gave buf old new e own far low acts (same-log old new e.connection (ap (λ (s : Site). s.log) rest)) (faces.strangers gave.1 is) k)

calling : (w : Around) (from old new : Site) (c : Call) → CallsAmong w from c old new → old.host.config.generations ≤ greatest → (e : HostEnd) → Has old.ends e → IsApart old.ends e → (own far : End) → Shows old e own → Faces w old e far
    → GoesOn own far new e
calling w from old new (call.Connect address channels info word (Ok name)) x low e h apart own far k faces = quiet w.count (call.Connect address channels info word (Ok name)) old new e own far refl (inl (_, refl)) x.1 low h k
calling w from old new (call.Connect address channels info word (Err why)) x low e h apart own far k faces = quiet w.count (call.Connect address channels info word (Err why)) old new e own far refl (inr refl) x.1 low h k
calling w from old new (call.Submit name channel q (Ok done)) x low e h apart own far k faces =
    on-changed own far new e old.ends (with_packet (mtu_in (named old.host.slots name)) (record { channel = channel; flags = q.flags; body = q.body })) name (ap (λ (s : Site). s.ends) x.1) h refl refl
    (goes-submitted name channel (mtu_in (named old.host.slots name)) q done old new e own far low x.0 (same-log old new e.connection (ap (λ (s : Site). s.log) x.1)) k refl)
calling w from old new (call.Submit name channel q (Err why)) x low e h apart own far k faces = quiet w.count (call.Submit name channel q (Err why)) old new e own far refl (inr refl) x low h k
calling w from old new (call.Receive address bytes answer) x low e h apart own far k faces =
    on-same own far new e old.ends (ap (λ (s : Site). s.ends) x.1.1) h (goes-elsewhere address bytes answer old new e own far low x.1.0 (same-log old new e.connection (ap (λ (s : Site). s.log) x.1.1)) (faces.strangers address x.0) k)
calling w from old new (call.Service None buf) x low e h apart own far k faces =
    on-same own far new e old.ends (ap (λ (s : Site). s.ends) x.1) h (goes-passed buf old new e own far low x.0 (same-log old new e.connection (ap (λ (s : Site). s.log) x.1)) k)
calling w from old new (call.Service (Some gave) buf) x low e h apart own far k faces = serving w (w.is_host gave.1) gave buf old new x.1 refl x.0 low from (Calls (call.Service (Some gave) buf)) e h apart own far k faces
calling w from old new (call.Tick ms) x low e h apart own far k faces = quiet w.count (call.Tick ms) old new e own far refl (inr refl) x low h k
calling w from old new (call.Disconnect mode name info answer) x low e h apart own far k faces = quiet w.count (call.Disconnect mode name info answer) old new e own far refl (inr refl) x low h k
calling w from old new (call.SetBandwidth incoming outgoing answer) x low e h apart own far k faces = quiet w.count (call.SetBandwidth incoming outgoing answer) old new e own far refl (inr refl) x low h k
calling w from old new (call.ConfigureThrottle name interval acceleration deceleration answer) x low e h apart own far k faces =
    quiet w.count (call.ConfigureThrottle name interval acceleration deceleration answer) old new e own far refl (inr refl) x low h k
calling w from old new (call.SetPingInterval name ms answer) x low e h apart own far k faces = quiet w.count (call.SetPingInterval name ms answer) old new e own far refl (inr refl) x low h k
calling w from old new (call.SetTimeout name limit minimum maximum answer) x low e h apart own far k faces = quiet w.count (call.SetTimeout name limit minimum maximum answer) old new e own far refl (inr refl) x low h k
calling w from old new (call.NextEvent None) x low e h apart own far k faces = quiet w.count (call.NextEvent None) old new e own far refl (inr refl) x low h k
calling w from old new (call.Admit what answer) x low e h apart own far k faces = quiet w.count (call.Admit what answer) old new e own far refl (inr refl) x low h k
calling w from old new (call.SetSendLimit bytes commands) x low e h apart own far k faces = quiet w.count (call.SetSendLimit bytes commands) old new e own far refl (inr refl) x low h k
calling w from old new (call.NextEvent (Some event)) x low e h apart own far k faces =
    let a : Rattle.enet_host.specs.Calls.TakesOne old.host event new.host = x.0 in
    let name : PeerRef = name_of a.from a.first.slot in
    let ends : after_event event old.ends ≡ with_end (with_event event) name old.ends =
    subst (λ (t : Told). after_event t old.ends ≡ with_end (with_event t) name old.ends) (sym a.gives.told) (event-ends name a.gives.taken.event old.ends) in
    on-changed own far new e old.ends (with_event event) name (ap (λ (s : Site). s.ends) x.1 ∙ ends) h refl refl
    (goes-taken event old new e own far low a (same-log old new e.connection (ap (λ (s : Site). s.log) x.1)) k)

-- a datagram that comes

pub in-none : (earlier late : Bool) → cond earlier (Some Rattle.enet_codec.specs.declared.refusal.Refusal.TheVariants.Earlier) (cond late (Some Rattle.enet_codec.specs.declared.refusal.Refusal.TheVariants.Late) None) ≡ None → (earlier ≡ false) × (late ≡ false)
in-none true late h = absurd (cc)
in-none false true h = absurd (cc)
in-none false false h = (refl, refl)

bringing : (k : ℕ) (answer : Received) (from old new : Site) (found : Option Logged) → slice_get from.log k ≡ found → BringsOne from found answer old new → old.host.config.generations ≤ greatest → AreNamed from.log
    → (e : HostEnd) → Has old.ends e → IsApart old.ends e → (own far : End) → Shows old e own → IsBetween from (Delivers k answer) old e far → GoesOn own far new e
bringing k answer from old new None is x low named' e h apart own far shows met = absurd x
bringing k answer from old new (Some d) is x low named' e h apart own far shows met =
    on-same own far new e (old.ends ++ begun d.connection from.address old.host new.host) (ap (λ (s : Site). s.ends) b.1) (Has-append_left old.ends (begun d.connection from.address old.host new.host) e h) (by met)
  where
    b : Brought from.address d answer old new
    b = x.1

    log : KeepsLog old new e.connection
    log = same-log old new e.connection (ap (λ (s : Site). s.log) b.1)

    by : ShowsFar from e.connection far ⊎ IsElsewhere old e from.address → Went own far new e
    by (inl shown) =
        let passed = in-none (is_earlier old from.address d) (is_late from old d) x.0 in
        goes-brought from k d answer old new e own far low b.0 log is h apart shown (named' d (Has-slice_get from.log k d is)) passed.0 passed.1 shows
    by (inr away) = goes-elsewhere from.address d.text answer old new e own far low b.0 log away shows

pub one-thing : OneThing
one-thing old low w from new (Calls c) x named' e h apart own far k faces sender = calling w from old new c x low e h apart own far k faces
one-thing old low w from new (Delivers i answer) x named' e h apart own far k faces sender = bringing i answer from old new (slice_get from.log i) refl x low named' e h apart own far k sender

pub go-on-at : (h : Host) → Keeps h → GoOnAt h
go-on-at h keeps old is = one-thing old (subst (λ (x : Host). x.config.generations ≤ greatest) (sym is) keeps.generations)
