-- A datagram of another host that comes to a host and is refused for no reason.
use Rattle.std.proofs.Common.{◌≡◌, ◌≢◌, ◌≤◌, ◌<◌, ℕ, ◌==◌, ◌⊎◌, ◌||◌, ◌&&◌, not, Bool, true, false, cond, inl, inr, List, [], ◌∷◌, refl, sym, ap, subst, ◌∙◌, arith, Option, Some, None, slice_get, slice_set, ◌+◌}
use Rattle.std.proofs.lemmas.Bool.Decides.{nat_tests}
use Rattle.std.specs.List.{list_any}
use Rattle.enet_codec.specs.declared.address.Addr.{Addr}
use Rattle.enet_codec.specs.declared.stop.Stop.{Stop}
use Rattle.enet_codec.specs.declared.stop.Stop.TheVariants as stop
use Rattle.enet_codec.specs.declared.event.Received.{Received}
use Rattle.enet_codec.specs.declared.command.Head.{Head}
use Rattle.enet_codec.specs.declared.command.Offer.{Offer}
use Rattle.enet_codec.specs.declared.header.Header.{Header}
use Rattle.enet_codec.specs.Message.{Body, acknowledge, send_reliable, send_unreliable, send_fragment, send_unreliable_fragment}
use Rattle.enet_fragment.specs.declared.data.DataCommand.{DataCommand}
use Rattle.enet_fragment.specs.DataCommand.{data_of, read_of}
use Rattle.enet_peer.specs.declared.parts.PeerState.TheVariants as state
use Rattle.enet_peer.specs.Peering.{Peering}
use Rattle.enet_peer.specs.Calls.{is_answering}
use Rattle.enet_peer.specs.CommandEffect.{Outcome, Stops, wants_memory}
use Rattle.enet_peer.specs.Endings.{freed}
use Rattle.enet_peer.specs.Handling.{Arrival, Handles, HandlesEach, HearsIf, one_more}
use Rattle.enet_peer.specs.Heading.{IsRead}
use Rattle.enet_peer.specs.Refusing.{heeded, is_turned_away, reminded}
use Rattle.enet_peer.proofs.Each.{handles-each}
use Rattle.law_connection.specs.Link as link
use Rattle.law_connection.specs.LinkSteps.{Has}
use Rattle.law_connection.specs.Connection.{Put, End, messages_of, sent_on}
use Rattle.law_connection.specs.Steps.{Event, Come, GiveWay, TellAgain, InTime, with_peer}
use Rattle.enet_slot.specs.Receiving.{is_same_address, no_peer, is_deaf, fits_session, refused_by_peer, refused_by_slot, PeerReceives}
use Rattle.enet_slot.specs.Slot.{SlotState, greatest, with_peer as slot_with_peer}
use Rattle.enet_host.specs.Calls.{address_named}
use Rattle.enet_slot.specs.Giving.{answering}
use Rattle.enet_slot.specs.Yielding.{readied}
use Rattle.enet_host.specs.Host.{Host}
use Rattle.enet_host.specs.Opening.{host_basis, seat}
use Rattle.enet_host.specs.Receiving.{Offers, Arrives, listener_of, refuses_at}
use Rattle.enet_host.specs.Receiving as receiving
use Rattle.law_network.specs.Calls.{Call, Acts}
use Rattle.law_network.specs.Calls as call
use Rattle.law_network.proofs.Lists.{get-set, get-set_other, same-or}
use Rattle.law_network.proofs.Names.{IsThere, IsSpent, same-generations, spent-step}
use Rattle.law_network.proofs.Seats.{IsOpen, holds_none, holds_waiting, freed-low, next-generation, readied-waits, seat-open}
use Rattle.law_network.specs.declared.mark.Mark.{Mark}
use Rattle.law_network.specs.declared.mark.MarkKind.TheVariants.{Data, Acknowledgement}
use Rattle.law_network.specs.Lateness as lateness
use Rattle.law_network.specs.Lateness.{has_late}
use Rattle.law_network.specs.Log.{Logged, greatest_at}
use Rattle.law_network.specs.Marks.{mark_as, mark_by_body, mark_of}
use Rattle.law_network.specs.Network.{HostEnd, Site, end_of, numbers_in, numbers_of, is_at, holds_another, has_ended, is_earlier, is_late}
use Rattle.law_network.specs.Shown.{ShowsPeer, IsLogged, Shows, ShowsFar, RunsAt, Went, IsApart}
use Rattle.law_network.proofs.Addresses.{there-at}
use Rattle.law_network.proofs.Marked.{behind}
use Rattle.law_network.proofs.Peers.{there-or, shows-held, shows-gone, shows-after}
use Rattle.law_network.proofs.Quiet.{KeepsLog, same-peer, goes-still, shows-with}
use Rattle.law_network.proofs.Submitting.{same-some}

-- what isn't late

or-left : (a b : Bool) → (a || b) ≡ false → a ≡ false
or-left true b e = e
or-left false b e = refl

or-right : (a b : Bool) → (a || b) ≡ false → b ≡ false
or-right true b e = absurd (cc)
or-right false b e = e

pub none-of : {X : Type 0} (p : X → Bool) (xs : List X) (x : X) → list_any p xs ≡ false → Has xs x → p x ≡ false
none-of p [] x e h = absurd h
none-of p (y ∷ xs) x e (inl same) = ap p (sym same) ∙ or-left (p y) (list_any p xs) e
none-of p (y ∷ xs) x e (inr h) = none-of p xs x (or-right (p y) (list_any p xs) e) h

some-number : (h : Head) (d c : DataCommand) → Some d ≡ Some c → d.number ≡ h.number → Some (mark_as Data h.channel h.number) ≡ Some (mark_as Data h.channel c.number)
some-number h d c e number = (let same : d ≡ c = cc in ap (λ (n : ℕ). Some (mark_as Data h.channel n)) (sym number ∙ ap (λ (x : DataCommand). x.number) same))

data-mark-by : (h : Head) (b : Body) (c : DataCommand) → read_of h b ≡ Some c → mark_by_body h b ≡ Some (mark_as Data h.channel c.number)
data-mark-by h (send_reliable p) c e = some-number h (record { reliable = true; number = h.number; unreliable = 0; fragment = None; body = p }) c e refl
data-mark-by h (send_unreliable n p) c e = some-number h (record { reliable = false; number = h.number; unreliable = n; fragment = None; body = p }) c e refl
data-mark-by h (send_fragment f p) c e = some-number h (record { reliable = true; number = h.number; unreliable = 0; fragment = Some f; body = p }) c e refl
data-mark-by h (send_unreliable_fragment f p) c e = some-number h (record { reliable = false; number = h.number; unreliable = f.start; fragment = Some f; body = p }) c e refl
data-mark-by h _ c e = absurd (cc)

-- numbers that an end's are on the channels below 255
abbrev AreOf : List ℕ → End → Type 0
AreOf numbers e = (channel : ℕ) → channel < 255 → greatest_at numbers channel ≡ sent_on channel e

pub in-time : (senders takers : List ℕ) (own far : End) (d : Logged) (k : IsLogged far.log d) → AreOf senders far → AreOf takers own → has_late (greatest_at senders) (greatest_at takers) d.marks ≡ false
    → (x : Put) → Has k.puts x → InTime own far x
in-time senders takers own far d k f t late x there = record {
  logged = k.logged x there;
  of_data = λ low c is. data-in-time c is low;
  of_acknowledgement = λ low number time is. answer-in-time number time is low;
}
  where
    channel : ℕ
    channel = x.message.head.channel

    not-late : (mark : Mark) → channel < 255 → mark_of x.message ≡ Some mark → lateness.is_late_command (greatest_at senders) (greatest_at takers) (record mark { sent_then = x.sent_then }) ≡ false
    not-late mark low is = none-of (lateness.is_late_command (greatest_at senders) (greatest_at takers)) d.marks (record mark { sent_then = x.sent_then }) late (k.marked x mark there low is)

    data-in-time : (c : DataCommand) → data_of x.message ≡ Some c → channel < 255 → link.is_late (sent_on channel far) x.sent_then c.number ≡ false
    data-in-time c is low = ap (λ (g : ℕ). link.is_late g x.sent_then c.number) (sym (f channel low)) ∙ not-late (mark_as Data channel c.number) low (data-mark-by x.message.head x.message.body c is)

    answer-in-time : (number time : ℕ) → x.message.body ≡ acknowledge number time → channel < 255 → link.is_late (sent_on channel own) x.sent_then number ≡ false
    answer-in-time number time is low =
        ap (λ (g : ℕ). link.is_late g x.sent_then number) (sym (t channel low)) ∙ not-late (mark_as Acknowledgement channel number) low (ap (mark_by_body x.message.head) is)

-- the commands that are looked at

-- another peer changes no log
pub later : (own far : End) (q : Peering) (x : Put) → InTime own far x → InTime (with_peer own q) far x
later own far q x t = record { logged = t.logged; of_data = t.of_data; of_acknowledgement = t.of_acknowledgement }

-- a stopped command has no effect, or that which it is to have
stopped : (why : Stop) (wants : Bool) (o : Outcome) (p q : Peering) → Stops why wants o p q → (q ≡ p) ⊎ (q ≡ o.after)
stopped stop.Memory wants o p q h = inl h.2
stopped _ wants o p q h = inr h.1

AllInTime : End → End → List Put → Type 0
AllInTime own far ps = (x : Put) → Has ps x → InTime own far x

comes : (a : Arrival) (ps : List Put) (handled : ℕ) (p : Peering) (answer : Received) (q : Peering) (own far : End) → own.peer ≡ Some p → AllInTime own far ps
    → HandlesEach a (record { handled = handled; peer = p }) (messages_of ps) answer q → (es : List Event) × RunsAt es own far (with_peer own q)
unfolding AllInTime
comes a [] handled p answer q own far is times h = ([], same-peer own p is ∙ ap (with_peer own) (sym h.1))
comes a (x ∷ ps) handled p answer q own far is times (inl s) = elim (stopped s.0 (wants_memory p a.now a.sent x.message) (heeded a.full p a.now a.sent x.message) p q s.1) [
  | inl stays ↦ ([], same-peer own p is ∙ ap (with_peer own) (sym stays))
  | inr after ↦ (Come x a.now a.sent ∷ [], (with_peer own q, (p, is, times x (inl refl), a.full, ap (with_peer own) after), refl))
]
comes a (x ∷ ps) handled p answer q own far is times (inr g) =
    let next = comes a ps (one_more handled) g.0 answer q (with_peer own g.0) far refl (λ y h. later own far g.0 y (times y (inr h))) g.2 in
    (Come x a.now a.sent ∷ next.0, (with_peer own g.0, (p, is, times x (inl refl), a.full, ap (with_peer own) g.1.1), next.1))

-- an end whose slot is as it was

apart-shows : (c : Call) (old new : Site) (e : HostEnd) (own : End) (k : Shows old e own) → old.host.config.generations ≤ greatest → Acts c old.host new.host
    → ((x : IsThere old.host.slots e.name k.peer) → slice_get new.host.slots e.name.slot ≡ Some x.slot) → ShowsPeer new.host e.name k.peer
apart-shows c old new e own k low acts still = by (there-or old.host e.name k.peer k.shows)
  where
    by : ((k.peer.state ≢ state.Free) × IsThere old.host.slots e.name k.peer) ⊎ ((k.peer.state ≡ state.Free) × IsSpent old.host e.name) → ShowsPeer new.host e.name k.peer
    by (inr gone) = shows-gone new.host e.name k.peer gone.0 (spent-step c old.host new.host e.name low acts gone.1)
    by (inl live) = let x : IsThere old.host.slots e.name k.peer = live.1 in shows-held new.host e.name k.peer live.0 (record { slot = x.slot; there = still x; same = x.same; peer = x.peer })

-- whose end the addressed slot is

-- a slot that takes a datagram in is at its sender's address
at-address : (s : SlotState) (from : Addr) (session : ℕ) (p : Peering) → refused_by_peer s from session (Some p) ≡ None → is_same_address s.address from ≡ true
at-address s from session p h = by (is_deaf p.state) (is_same_address s.address from) (fits_session p session) h
  where
    by : (deaf same fits : Bool) → cond deaf (Some stop.UnknownPeer) (cond (not same) (Some stop.WrongAddress) (cond (not fits) (Some stop.WrongSession) None)) ≡ None → same ≡ true
    by true same fits e = absurd (cc)
    by false true fits e = refl
    by false false fits e = absurd (cc)

the-middle : (a b c : Bool) → (a && b && c) ≡ false → a ≡ true → c ≡ true → b ≡ false
the-middle a false c e f g = refl
the-middle false true c e f g = absurd (cc)
the-middle true true false e f g = absurd (cc)
the-middle true true true e f g = absurd (cc)

equal-if : (a b : ℕ) → not (a == b) ≡ false → a ≡ b
equal-if a b e = grind (arith, nat_tests)

-- the end in the slot that a datagram addresses, and which its sender's peer is in, is of the datagram's connection
pub same-connection : (s : Site) (from : Addr) (d : Logged) (e : HostEnd) (p : Peering) (x : IsThere s.host.slots e.name p) → Has s.ends e → d.peer ≢ no_peer → d.peer ≡ e.name.slot → is_same_address x.slot.address from ≡ true
    → is_earlier s from d ≡ false → e.connection ≡ d.connection
same-connection s from d e p x has n here at earlier = equal-if e.connection d.connection (the-middle (e.name.slot == d.peer) (not (e.connection == d.connection)) (is_at from (address_named s.host.slots e.name)) one slot there)
  where
    other : (d.peer == no_peer) ≡ false
    other = grind (arith, nat_tests)

    another : holds_another s from d.peer d.connection ≡ false
    another = ap (λ (b : Bool). cond b (has_ended s d.connection) (holds_another s from d.peer d.connection)) (sym other) ∙ earlier

    one : (e.name.slot == d.peer && not (e.connection == d.connection) && is_at from (address_named s.host.slots e.name)) ≡ false
    one = none-of (λ (f : HostEnd). f.name.slot == d.peer && not (f.connection == d.connection) && is_at from (address_named s.host.slots f.name)) s.ends e another has

    slot : (e.name.slot == d.peer) ≡ true
    slot = grind (arith, nat_tests)

    there : is_at from (address_named s.host.slots e.name) ≡ true
    there = there-at from s.host.slots e.name p x at

-- the end of a connection among those of its host

end-at : (f : HostEnd) (ends : List HostEnd) (e : HostEnd) → (f ≡ e) ⊎ Has ends e → IsApart (f ∷ ends) e → (Has ends e → end_of e.connection ends ≡ Some e) → cond (f.connection == e.connection) (Some f) (end_of e.connection ends) ≡ Some e
end-at f ends e h apart rest = by (same-or f.connection e.connection)
  where
    later-one : f.connection ≢ e.connection → (f ≡ e) ⊎ Has ends e → Has ends e
    later-one n (inl same) = absurd (n (ap (λ (x : HostEnd). x.connection) same))
    later-one n (inr y) = y

    by : (f.connection ≡ e.connection) ⊎ (f.connection ≢ e.connection) → cond (f.connection == e.connection) (Some f) (end_of e.connection ends) ≡ Some e
    by (inl same) = ap (λ (b : Bool). cond b (Some f) (end_of e.connection ends)) (let t : (f.connection == e.connection) ≡ true = grind (arith, nat_tests) in t) ∙ ap (λ (x : HostEnd). Some x) (apart f (inl refl) (inr same))
    by (inr n) = ap (λ (b : Bool). cond b (Some f) (end_of e.connection ends)) (let t : (f.connection == e.connection) ≡ false = grind (arith, nat_tests) in t) ∙ rest (later-one n h)

pub end-there : (ends : List HostEnd) (e : HostEnd) → Has ends e → IsApart ends e → end_of e.connection ends ≡ Some e
end-there [] e h apart = absurd h
end-there (f ∷ ends) e h apart = end-at f ends e h apart (λ y. end-there ends e y (λ g z w. apart g (inr z) w))

-- the peer in whose slot commands were heard
pub heard-peer : (c : Call) (old new : Site) (e : HostEnd) (p q : Peering) → old.host.config.generations ≤ greatest → Acts c old.host new.host → (s t : SlotState) → slice_get old.host.slots e.name.slot ≡ Some s → IsThere old.host.slots e.name p
    → t ≡ slot_with_peer s q → slice_get new.host.slots e.name.slot ≡ Some t → ShowsPeer new.host e.name q
heard-peer c old new e p q low acts s t there x left there' = shows-after c old.host new.host e.name p q x t (slot_with_peer x.slot q).emitted low (same-generations c old.host new.host acts) there'
    (left ∙ ap (λ (y : SlotState). slot_with_peer y q) (same-some s x.slot (sym there ∙ x.there)))

-- what a host knows of a datagram that comes to a slot of it
abbrev pub arrival : Host → Header → SlotState → Arrival
arrival h header s = record { now = h.clock; sent = header.sent; full = refuses_at (listener_of h) s }

-- the peer of an end that was refused is told again if the datagram tells a sent time
reminded-runs : (sent : Option ℕ) (own far : End) (p q : Peering) → own.peer ≡ Some p → is_turned_away p ≡ true → q ≡ reminded sent p → (es : List Event) × RunsAt es own far (with_peer own q)
reminded-runs None own far p q has away is = ([], same-peer own p has ∙ ap (with_peer own) (sym is))
reminded-runs (Some time) own far p q has away is = (TellAgain ∷ [], (with_peer own q, (p, has, away, ap (with_peer own) is), refl))

-- the commands of a datagram come to the end in whose slot they are heard, or its peer, who was refused, is told so again
heard-there : (from : Site) (i : ℕ) (d : Logged) (answer : Received) (old new : Site) (e : HostEnd) (own far : End) (k : Shows old e own) → old.host.config.generations ≤ greatest
    → Acts (call.Receive from.address d.text answer) old.host new.host → KeepsLog old new e.connection → slice_get from.log i ≡ Some d → Has old.ends e → IsApart old.ends e → ShowsFar from e.connection far
    → is_earlier old from.address d ≡ false → is_late from old d ≡ false
    → (header : Header) (commands : List ℕ) (s t : SlotState) → IsRead d.text header commands → header.peer ≢ no_peer → header.peer ≡ e.name.slot → refused_by_slot from.address header.session (Some s) ≡ None
    → slice_get old.host.slots e.name.slot ≡ Some s → (x : IsThere old.host.slots e.name k.peer) → PeerReceives (arrival old.host header s) commands s answer t → slice_get new.host.slots e.name.slot ≡ Some t → d.connection ≡ e.connection → Went own far new e
unfolding AllInTime
heard-there from i d answer old new e own far k low acts same sent has apart shown earlier late header commands s t read n here taken there x hears there' of = record {
  new = with_peer own hears.after;
  events = run.0;
  runs = run.1;
  shows = shows-with old new e own far hears.after run.0 run.1 same k (heard-peer (call.Receive from.address d.text answer) old new e k.peer hears.after low acts s t there x hears.left there');
}
  where
    slot : s ≡ x.slot
    slot = same-some s x.slot (sym there ∙ x.there)

    p : hears.peer ≡ k.peer
    p = same-some hears.peer k.peer (sym hears.held ∙ ap (λ (y : SlotState). y.peer) slot ∙ x.peer)

    l : IsLogged far.log d
    l = shown.log i d sent of

    numbers : numbers_of old e.connection ≡ e.greatest
    numbers = ap numbers_in (end-there old.ends e has apart)

    not-late : has_late (greatest_at (numbers_of from e.connection)) (greatest_at e.greatest) d.marks ≡ false
    not-late = subst (λ (ns : List ℕ). has_late (greatest_at (numbers_of from e.connection)) (greatest_at ns) d.marks ≡ false) numbers
        (subst (λ (c : ℕ). has_late (greatest_at (numbers_of from c)) (greatest_at (numbers_of old c)) d.marks ≡ false) of late)

    by : (b : Bool) → is_turned_away hears.peer ≡ b → HearsIf b (arrival old.host header s) commands hears.peer answer hears.after → (es : List Event) × RunsAt es own far (with_peer own hears.after)
    by true is again = reminded-runs header.sent own far hears.peer hears.after (k.has ∙ ap (λ (y : Peering). Some y) (sym p)) is again.1
    by false is handles =
        comes (arrival old.host header s) l.puts 0 k.peer answer hears.after own far k.has (in-time (numbers_of from e.connection) e.greatest own far d l shown.greatest k.greatest not-late)
        (handles-each (arrival old.host header s) (record { handled = 0; peer = k.peer }) commands (messages_of l.puts) answer hears.after (behind d.text l.header header read.front commands (messages_of l.puts) read.split read.spelled l.spelled)
        (subst (λ (y : Peering). Handles (arrival old.host header s) (record { handled = 0; peer = y }) commands answer hears.after) p handles))

    run : (es : List Event) × RunsAt es own far (with_peer own hears.after)
    run = by (is_turned_away hears.peer) refl hears.heard

-- a datagram comes

-- the commands of a datagram that comes from an address are heard in the slot of an end
pub record IsHeard (from : Addr) (text : List ℕ) (answer : Received) (old new : Site) (e : HostEnd) (p : Peering) : Type 0 where
  pub header : Header
  pub commands : List ℕ
  pub slot : SlotState
  pub after : SlotState
  pub read : IsRead text header commands
  pub some : header.peer ≢ no_peer
  pub here : header.peer ≡ e.name.slot
  pub taken : refused_by_slot from header.session (Some slot) ≡ None
  pub was : slice_get old.host.slots e.name.slot ≡ Some slot
  pub there : IsThere old.host.slots e.name p
  pub hears : PeerReceives (arrival old.host header slot) commands slot answer after
  pub is : slice_get new.host.slots e.name.slot ≡ Some after

-- the slot in which a datagram is heard is at its sender's address
pub heard-at-address : (from : Addr) (text : List ℕ) (answer : Received) (old new : Site) (e : HostEnd) (p : Peering) (h : IsHeard from text answer old new e p) → is_same_address h.there.slot.address from ≡ true
heard-at-address from text answer old new e p h =
    let slot : h.slot ≡ h.there.slot = same-some h.slot h.there.slot (sym h.was ∙ h.there.there) in
    subst (λ (y : SlotState). is_same_address y.address from ≡ true) slot
    (at-address h.slot from h.header.session h.hears.peer (ap (λ (o : Option Peering). refused_by_peer h.slot from h.header.session o) (sym h.hears.held) ∙ h.taken))

-- so a datagram is heard in the slot of an end, or its peer is let go for another, or nothing happens to it
pub received-by : (M : Type 0) (from : Addr) (text : List ℕ) (answer : Received) (old new : Site) (e : HostEnd) (own : End) → old.host.config.generations ≤ greatest
    → Acts (call.Receive from text answer) old.host new.host → (k : Shows old e own) → (ShowsPeer new.host e.name k.peer → M)
    → ((header : Header) (commands : List ℕ) → IsRead text header commands → header.peer ≡ no_peer → seat (host_basis old.host) from old.host.slots ≡ Some e.name.slot → is_answering k.peer.state ≡ true → ShowsPeer new.host e.name (freed k.peer) → M)
    → (IsHeard from text answer old new e k.peer → M) → M
received-by M from text answer old new e own low acts k quiet let-go heard-here = by old.host.slots answer new.host.slots refl refl refl acts.arrives
  where
    c : Call
    c = call.Receive from text answer

    apart-by : ((x : IsThere old.host.slots e.name k.peer) → slice_get new.host.slots e.name.slot ≡ Some x.slot) → M
    apart-by still = quiet (apart-shows c old new e own k low acts still)

    unchanged : (slots after : List SlotState) → slots ≡ old.host.slots → after ≡ new.host.slots → after ≡ slots → M
    unchanged slots after was is none = apart-by (λ x. ap (λ (xs : List SlotState). slice_get xs e.name.slot) (sym is ∙ none ∙ was) ∙ x.there)

    -- the slot j alone changed
    elsewhere : (slots after : List SlotState) (j : ℕ) (t : SlotState) → slots ≡ old.host.slots → after ≡ new.host.slots → after ≡ slice_set slots j t → j ≢ e.name.slot → M
    elsewhere slots after j t was is set n = apart-by (λ x. ap (λ (xs : List SlotState). slice_get xs e.name.slot) (sym is ∙ set) ∙ get-set_other slots j e.name.slot t n ∙ ap (λ (xs : List SlotState). slice_get xs e.name.slot) was ∙ x.there)

    -- the slot of the end was given out
    seated : (is_answering k.peer.state ≡ true → ShowsPeer new.host e.name (freed k.peer) → M) → (s t : SlotState) → slice_get old.host.slots e.name.slot ≡ Some s → slice_get new.host.slots e.name.slot ≡ Some t → t.generation ≡ (readied s).generation → IsOpen old.host.config.generations s → M
    seated goes s t was now same open' = among (there-or old.host e.name k.peer k.shows) open'
      where
        among : ((k.peer.state ≢ state.Free) × IsThere old.host.slots e.name k.peer) ⊎ ((k.peer.state ≡ state.Free) × IsSpent old.host e.name) → IsOpen old.host.config.generations s → M
        among (inr gone) given = quiet (shows-gone new.host e.name k.peer gone.0 (spent-step c old.host new.host e.name low acts gone.1))
        among (inl live) (holds_none none left) =
            let x : IsThere old.host.slots e.name k.peer = live.1 in
            absurd (let y : ◌≡◌ {A = Option Peering} None (Some k.peer) = sym none ∙ ap (λ (v : SlotState). v.peer) (same-some s x.slot (sym was ∙ x.there)) ∙ x.peer in cc)
        among (inl live) (holds_waiting p held on left) =
            let x : IsThere old.host.slots e.name k.peer = live.1 in
            let slot : s ≡ x.slot = same-some s x.slot (sym was ∙ x.there) in
            let own' : p ≡ k.peer = same-some p k.peer (sym held ∙ ap (λ (v : SlotState). v.peer) slot ∙ x.peer) in
            let next : (readied s).generation ≡ s.generation + 1 =
            ap (λ (v : SlotState). v.generation) (readied-waits s p held) ∙ next-generation s (freed p) old.host.config.generations low refl (freed-low old.host.config.generations s p left) in
            let past : e.name.generation < t.generation =
            (let a : t.generation ≡ (readied s).generation = same in let b : s.generation ≡ e.name.generation = ap (λ (v : SlotState). v.generation) slot ∙ x.same in omega arith) in
            goes (ap (λ (v : Peering). is_answering v.state) (sym own') ∙ on) (shows-gone new.host e.name (freed k.peer) refl (record { slot = t; there = now; past = inl past }))

    offered : (header : Header) (commands : List ℕ) → IsRead text header commands → header.peer ≡ no_peer → (slots : List SlotState) (reply : Received) (o : Offer) (after : List SlotState) → slots ≡ old.host.slots → after ≡ new.host.slots → Offers (record { basis = host_basis old.host; slots = slots }) from o reply after → M
    offered header commands read stranger slots reply o after was is (receiving.refused why r) = unchanged slots after was is refl
    offered header commands read stranger slots reply o after was is (receiving.repeated r known) = unchanged slots after was is refl
    offered header commands read stranger slots reply o after was is (receiving.no_slot r known none) = unchanged slots after was is refl
    offered header commands read stranger slots reply o after was is (receiving.no_memory j r known free) = unchanged slots after was is refl
    offered header commands read stranger slots reply o after was is (receiving.answers j s r known found there) = at (same-or j e.name.slot)
      where
        at : (j ≡ e.name.slot) ⊎ (j ≢ e.name.slot) → M
        at (inr other) = elsewhere slots after j (answering (host_basis old.host) j (readied s) from o) was is refl other
        at (inl here) = seated (let-go header commands read stranger (ap (λ (xs : List SlotState). seat (host_basis old.host) from xs) (sym was) ∙ found ∙ ap (λ (l : ℕ). Some l) here)) s (answering (host_basis old.host) j (readied s) from o)
            (subst (λ (l : ℕ). slice_get old.host.slots l ≡ Some s) here (ap (λ (xs : List SlotState). slice_get xs j) (sym was) ∙ there))
            (ap (λ (xs : List SlotState). slice_get xs e.name.slot) (sym is) ∙ ap (λ (l : ℕ). slice_get (slice_set slots j (answering (host_basis old.host) j (readied s) from o)) l) (sym here) ∙ get-set slots j s (answering (host_basis old.host) j (readied s) from o) there)
            refl (seat-open (host_basis old.host) from old.host.slots j s (ap (λ (xs : List SlotState). seat (host_basis old.host) from xs) (sym was) ∙ found) (ap (λ (xs : List SlotState). slice_get xs j) (sym was) ∙ there))

    heard-at : (header : Header) (commands : List ℕ) (s t : SlotState) → IsRead text header commands → header.peer ≢ no_peer → refused_by_slot from header.session (Some s) ≡ None
        → slice_get old.host.slots header.peer ≡ Some s → PeerReceives (arrival old.host header s) commands s answer t → new.host.slots ≡ slice_set old.host.slots header.peer t → header.peer ≡ e.name.slot
        → ((k.peer.state ≢ state.Free) × IsThere old.host.slots e.name k.peer) ⊎ ((k.peer.state ≡ state.Free) × IsSpent old.host e.name) → M
    heard-at header commands s t read n taken there hears set here (inr gone) = quiet (shows-gone new.host e.name k.peer gone.0 (spent-step c old.host new.host e.name low acts gone.1))
    heard-at header commands s t read n taken there hears set here (inl live) = heard-here (record {
      header = header;
      commands = commands;
      slot = s;
      after = t;
      read = read;
      some = n;
      here = here;
      taken = taken;
      was = ap (λ (l : ℕ). slice_get old.host.slots l) (sym here) ∙ there;
      there = live.1;
      hears = hears;
      is = ap (λ (xs : List SlotState). slice_get xs e.name.slot) set ∙ ap (λ (l : ℕ). slice_get (slice_set old.host.slots header.peer t) l) (sym here) ∙ get-set old.host.slots header.peer s t there;
    })

    by : (slots : List SlotState) (said : Received) (after : List SlotState) → slots ≡ old.host.slots → after ≡ new.host.slots → said ≡ answer → Arrives (record { basis = host_basis old.host; slots = slots }) from text said after → M
    by slots said after was is as-said (receiving.unreadable why u) = unchanged slots after was is refl
    by slots said after was is as-said (receiving.no_offer header commands read none never) = unchanged slots after was is refl
    by slots said after was is as-said (receiving.offered header commands o reply left read none offer comes') = offered header commands read none slots reply o left was is comes'
    by slots said after was is as-said (receiving.turned_away header commands why read n r) = unchanged slots after was is refl
    by slots said after was is as-said (receiving.heard header commands s t reply read n open' there hears) = at (same-or header.peer e.name.slot)
      where
        at : (header.peer ≡ e.name.slot) ⊎ (header.peer ≢ e.name.slot) → M
        at (inr other) = elsewhere slots after header.peer t was is refl other
        at (inl here) =
            let old-there : slice_get old.host.slots header.peer ≡ Some s = ap (λ (xs : List SlotState). slice_get xs header.peer) (sym was) ∙ there in
            let taken : refused_by_slot from header.session (Some s) ≡ None = ap (λ (o : Option SlotState). refused_by_slot from header.session o) (sym there) ∙ open' in
            heard-at header commands s t read n taken old-there
            (subst (λ (r : Received). PeerReceives (arrival old.host header s) commands s r t) as-said
            (subst (λ (xs : List SlotState). PeerReceives (record { now = old.host.clock; sent = header.sent; full = refuses_at (record { basis = host_basis old.host; slots = xs }) s }) commands s reply t) was hears)) (sym is ∙ ap (λ (xs : List SlotState). slice_set xs header.peer t) was) here (there-or old.host e.name k.peer k.shows)

-- an end whose peer is let go
goes-let-go : (old new : Site) (e : HostEnd) (own far : End) (k : Shows old e own) → KeepsLog old new e.connection → is_answering k.peer.state ≡ true → ShowsPeer new.host e.name (freed k.peer) → Went own far new e
goes-let-go old new e own far k same on shows = record { new = with_peer own (freed k.peer); events = GiveWay ∷ []; runs = runs; shows = shows-with old new e own far (freed k.peer) (GiveWay ∷ []) runs same k shows }
  where
    runs : RunsAt (GiveWay ∷ []) own far (with_peer own (freed k.peer))
    runs = (with_peer own (freed k.peer), (k.peer, k.has, on, refl), refl)

goes-received : (from : Addr) (text : List ℕ) (answer : Received) (old new : Site) (e : HostEnd) (own far : End) → old.host.config.generations ≤ greatest
    → Acts (call.Receive from text answer) old.host new.host → KeepsLog old new e.connection → (k : Shows old e own) → (IsHeard from text answer old new e k.peer → Went own far new e) → Went own far new e
goes-received from text answer old new e own far low acts same k heard-here =
    received-by (Went own far new e) from text answer old new e own low acts k (λ shows. goes-still old new e own far k same shows) (λ header commands read stranger at on shows. goes-let-go old new e own far k same on shows) heard-here

-- a datagram of the host that has the other end
pub goes-brought : (from : Site) (i : ℕ) (d : Logged) (answer : Received) (old new : Site) (e : HostEnd) (own far : End) → old.host.config.generations ≤ greatest
    → Acts (call.Receive from.address d.text answer) old.host new.host → KeepsLog old new e.connection → slice_get from.log i ≡ Some d → Has old.ends e → IsApart old.ends e → ShowsFar from e.connection far
    → ((h : Header) (commands : List ℕ) → IsRead d.text h commands → d.peer ≡ h.peer) → is_earlier old from.address d ≡ false → is_late from old d ≡ false → Shows old e own → Went own far new e
goes-brought from i d answer old new e own far low acts same sent has apart shown names earlier late k = goes-received from.address d.text answer old new e own far low acts same k by
  where
    by : IsHeard from.address d.text answer old new e k.peer → Went own far new e
    by h =
        let named : d.peer ≡ h.header.peer = names h.header h.commands h.read in
        let of : e.connection ≡ d.connection =
        same-connection old from.address d e k.peer h.there has (λ z. h.some (sym named ∙ z)) (named ∙ h.here) (heard-at-address from.address d.text answer old new e k.peer h) earlier in
        heard-there from i d answer old new e own far k low acts same sent has apart shown earlier late h.header h.commands h.slot h.after h.read h.some h.here h.taken h.was h.there h.hears h.is (sym of)

-- a datagram from an address at which the end's peer isn't is refused by S4, if it comes to its slot at all
pub goes-elsewhere : (from : Addr) (text : List ℕ) (answer : Received) (old new : Site) (e : HostEnd) (own far : End) → old.host.config.generations ≤ greatest
    → Acts (call.Receive from text answer) old.host new.host → KeepsLog old new e.connection → is_at from (address_named old.host.slots e.name) ≡ false → Shows old e own → Went own far new e
goes-elsewhere from text answer old new e own far low acts same away k = goes-received from text answer old new e own far low acts same k by
  where
    by : IsHeard from text answer old new e k.peer → Went own far new e
    by h =
        let z : true ≡ false = sym (there-at from old.host.slots e.name k.peer h.there (heard-at-address from text answer old new e k.peer h)) ∙ away in absurd (cc)
