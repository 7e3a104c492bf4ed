-- Each event that a host tells leaves fewer.
use Rattle.std.proofs.Common.{◌≡◌, ℕ, ◌<◌, ◌≤◌, List, [], ◌∷◌, Option, Some, None, length, get_or, slice_set, sum_by, refl, sym, ap, subst, arith}
use Rattle.std.specs.Prelude.{IfSome}
use Rattle.std.proofs.lemmas.List.Sums.{sum_by-set}
use Rattle.std.proofs.lemmas.Option.{slice_get_within, get_or_from_slice_get}
use Rattle.enet_codec.specs.declared.event.Event.{Event}
use Rattle.enet_codec.specs.declared.packet.Packet.{Packet}
use Rattle.enet_peer.specs.declared.parts.PeerState.{PeerState}
use Rattle.enet_peer.specs.declared.parts.PeerState.TheVariants.{Free, Connecting, Answering, Connected, DisconnectLater, Disconnecting, AckDisconnect, Ended, Parting}
use Rattle.enet_peer.specs.declared.parts.PeerEvent.TheVariants as told
use Rattle.enet_peer.specs.Peering.{Peering}
use Rattle.enet_peer.specs.Calls.{Taken, last_event, packet_event, event_after}
use Rattle.enet_slot.specs.Slot.{SlotState, with_peer, with_peer_in}
use Rattle.enet_host.specs.Host.{Host}
use Rattle.enet_host.specs.Calls.{Takes, TakesOne}
use Rattle.enet_turn.specs.Hosting.{greetings, endings, untold_by, untold_in, untold}

-- a slot that is freed has none
no_more_in : (state : PeerState) (s : SlotState) (p : Peering) → untold_in (with_peer_in state s p).peer ≤ untold_by p
no_more_in Free s p = omega arith
no_more_in Connecting s p = omega arith
no_more_in Answering s p = omega arith
no_more_in Connected s p = omega arith
no_more_in DisconnectLater s p = omega arith
no_more_in Disconnecting s p = omega arith
no_more_in AckDisconnect s p = omega arith
no_more_in Ended s p = omega arith
no_more_in Parting s p = omega arith

-- the one event that ends a connection
last_fewer : (state : PeerState) (p : Peering) (t : Taken) → p.state ≡ state → p.inbox.untaken ≡ [] → last_event state p ≡ Some t → untold_by t.after < untold_by p
last_fewer Ended p t is none e =
    let ends : endings p.state ≡ 1 = ap endings is in
    let same : t ≡ record { event = told.Disconnect p.info; after = record p { state = Free } } = cc in
    subst (λ (u : Taken). untold_by u.after < untold_by p) (sym same) (omega (arith, ends))
last_fewer Free p t is none e = absurd cc
last_fewer Connecting p t is none e = absurd cc
last_fewer Answering p t is none e = absurd cc
last_fewer Connected p t is none e = absurd cc
last_fewer DisconnectLater p t is none e = absurd cc
last_fewer Disconnecting p t is none e = absurd cc
last_fewer AckDisconnect p t is none e = absurd cc
last_fewer Parting p t is none e = absurd cc

packet_fewer : (untaken : List Packet) (p : Peering) (t : Taken) → p.inbox.untaken ≡ untaken → packet_event p untaken ≡ Some t → untold_by t.after < untold_by p
packet_fewer [] p t is e = last_fewer p.state p t refl is e
packet_fewer (q ∷ rest) p t is e =
    let count : length p.inbox.untaken ≡ length (q ∷ rest) = ap length is in
    let same : t ≡ record { event = told.Receive q; after = record p { inbox = record p.inbox { untaken = rest } } } = cc in
    subst (λ (u : Taken). untold_by u.after < untold_by p) (sym same) (omega (arith, count))

event_fewer : (greeting : Option ℕ) (p : Peering) (t : Taken) → p.greeting ≡ greeting → event_after p greeting ≡ Some t → untold_by t.after < untold_by p
event_fewer None p t is e = packet_fewer p.inbox.untaken p t refl e
event_fewer (Some info) p t is e =
    let one : greetings p.greeting ≡ 1 = ap greetings is in
    let same : t ≡ record { event = told.Connect info; after = record p { greeting = None } } = cc in
    subst (λ (u : Taken). untold_by u.after < untold_by p) (sym same) (omega (arith, one))

one_fewer : (old new : Host) (event : Event) → TakesOne old event new → untold new < untold old
one_fewer old new event one =
    let s : SlotState = one.first.slot in
    let g = one.gives in
    let t : SlotState = one.after in
    let inside = slice_get_within old.slots one.from s one.first.there in
    let sum = sum_by-set (λ (s : SlotState). untold_in s.peer) old.slots one.from t s inside in
    let at : untold_in (get_or old.slots one.from s).peer ≡ untold_in s.peer = ap (λ (s : SlotState). untold_in s.peer) (get_or_from_slice_get old.slots one.from s s one.first.there) in
    let before : untold_in s.peer ≡ untold_by g.peer = ap untold_in g.held in
    let fewer : untold_by g.taken.after < untold_by g.peer = event_fewer g.peer.greeting g.peer g.taken refl g.next in
    let left : untold_in t.peer ≡ untold_in (with_peer s g.taken.after).peer = ap (λ (s : SlotState). untold_in s.peer) g.left in
    let few : untold_in (with_peer s g.taken.after).peer ≤ untold_by g.taken.after = no_more_in g.taken.after.state s g.taken.after in
    let now : untold new ≡ sum_by (λ (s : SlotState). untold_in s.peer) (slice_set old.slots one.from t) = ap untold one.rest in
    omega (arith, sum, at, before, fewer, left, few, now)

pub fewer : (result : Option Event) (old new : Host) → Takes result old new → IfSome result (λ event. untold new < untold old)
fewer None old new t = tt
fewer (Some event) old new t = one_fewer old new event t
