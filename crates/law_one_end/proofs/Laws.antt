-- The law of one end, by induction over what happens there.
use Rattle.std.proofs.Common.{◌≡◌, ℕ, zero, suc, ◌+◌, ◌<◌, ◌≤◌, Bool, true, List, [], ◌∷◌, ◌++◌, take, refl, sym, ap, subst, ◌∙◌, inl, inr, ◌⊎◌, arith, Option, Some, None, append_assoc}
use Rattle.std.proofs.lemmas.List.{append-nil, map-append}
use Rattle.std.specs.List.{slice_get, range_with_len}
use Rattle.enet_codec.specs.declared.packet.Packet.{Packet}
use Rattle.enet_codec.specs.Message.{Message, IsMessage}
use Rattle.enet_connect.specs.Terms.{granted}
use Rattle.enet_connect.specs.Verification.{asked}
use Rattle.enet_fragment.specs.declared.data.DataCommand.{DataCommand}
use Rattle.enet_fragment.specs.DataCommand.{data_of}
use Rattle.enet_packets.specs.declared.incoming_packet.Dispatched.{Dispatched}
use Rattle.enet_receiver.specs.Foresight.{ReceivingEnd, new_end}
use Rattle.enet_receiver.specs.Members.{Has}
use Rattle.enet_receiver.specs.Receiver.{nothing_received}
use Rattle.enet_receiver.proofs.Sequenced.{sequenced-nothing}
use Rattle.enet_inbox.specs.Inbox.{Inbox, empty_inbox}
use Rattle.enet_inbox.specs.DataEffect.{arrival}
use Rattle.enet_outbox.specs.Emission.{filled}
use Rattle.enet_peer.specs.declared.parts.PeerEvent.{PeerEvent}
use Rattle.enet_peer.specs.declared.parts.PeerEvent.TheVariants as told
use Rattle.enet_peer.specs.declared.parts.PeerState.TheVariants as state
use Rattle.enet_peer.specs.Peering.{Peering, joined, connecting, answering}
use Rattle.enet_peer.specs.Endings.{freed}
use Rattle.enet_peer.specs.Refusing.{heeded, told_again}
use Rattle.enet_peer.specs.Calls.{moved, next_event, pace_of}
use Rattle.law_connection.specs.Connection.{packets_of, in_sequence}
use Rattle.law_connection.specs.Follows.{FollowsCarried}
use Rattle.law_connection.specs.Linked.{dispatches_in}
use Rattle.law_connection.specs.LinkSteps.{bodies_of}
use Rattle.law_connection.specs.Steps.{with_setting}
use Rattle.law_connection.proofs.CarriageLemmas.{Follows-front, Has-append_left, Has-append_right}
use Rattle.law_connection.proofs.Events.{took}
use Rattle.enet_receiver.specs.Sequenced.{HasSequenced}
use Rattle.law_connection.specs.Image.{ShowsReceiver}
use Rattle.law_connection.proofs.InboxMoves.{grown, in_sequence-append}
use Rattle.law_connection.proofs.Lists.{Has-append_cases}
use Rattle.law_connection.proofs.Moves.{packets-push}
use Rattle.law_connection.proofs.Runs.{get-map}
use Rattle.law_connection.proofs.WireReceiver.{Shows-nothing}
use Rattle.law_one_end.specs.OneEnd.{Heard, OneEnd, Event, Submit, Emit, Come, Tick, Take, Disconnect, Set, GiveWay, TellAgain, heard_as, reliable_taken, with_peer, with_come, with_submission, with_emission, loose_of, Happens, Runs, beginning}
use Rattle.law_one_end.specs.Carried.{AreCarried}
use Rattle.law_one_end.specs.Law.{taken_on, HasNumber, StoodBetween, IsHeard, OfEachRun, OfEachAnswering, OfEachAsking, OfEachJoined}
use Rattle.law_one_end.proofs.Rows.{carried-front, reliable_in, reliable-front}
use Rattle.law_one_end.proofs.Gathering.{hears-nothing}
use Rattle.law_one_end.proofs.Following.{all-cut, ready-nothing}
use Rattle.law_one_end.proofs.Turns.{core, StaysAt, stays, moved-stays, left-stays, set-stays, gone_on-stays, freed-stays, told_again-stays, heeded-becomes}
use Rattle.law_one_end.proofs.Loose.{arrival-loose}
use Rattle.law_one_end.proofs.Ears.{Told, IsEar, AllHear, told-stays, told-taken, told-arrival, told-passed, after}

abbrev told_of : OneEnd → Told
told_of e = record { came = e.came; fronts = e.fronts; taken = e.taken; opens = dispatches_in e.peer.state; inbox = e.peer.inbox }

-- what was taken, and what is to be
abbrev told_packets : OneEnd → List Packet
told_packets e = packets_of e.taken ++ e.peer.inbox.untaken

-- the receivers stood well whenever one of these commands came
abbrev AllStood : List Heard → Type 0
AllStood came = (k : ℕ) (h : Heard) → slice_get came k ≡ Some h → StoodBetween (take k came) h

-- also when one more came

last-or-before : (hs : List Heard) (x : Heard) (k : ℕ) (h : Heard) → slice_get (hs ++ x ∷ []) k ≡ Some h → ((slice_get hs k ≡ Some h) × (take k (hs ++ x ∷ []) ≡ take k hs)) ⊎ ((x ≡ h) × (take k (hs ++ x ∷ []) ≡ hs))
last-or-before [] x zero h e = inr ((let f : Some x ≡ Some h = e in cc), refl)
last-or-before [] x (suc k) h e = absurd (let f : None ≡ Some h = e in cc)
last-or-before (y ∷ hs) x zero h e = inl (e, refl)
last-or-before (y ∷ hs) x (suc k) h e = elim (last-or-before hs x k h e) [
  | inl old ↦ inl (old.0, ap (λ (l : List Heard). y ∷ l) old.1)
  | inr new ↦ inr (new.0, ap (λ (l : List Heard). y ∷ l) new.1)
]

stood-more : (hs : List Heard) (x : Heard) → AllStood hs → StoodBetween hs x → AllStood (hs ++ x ∷ [])
stood-more hs x all new k h e = elim (last-or-before hs x k h e) [
  | inl old ↦ subst (λ (l : List Heard). StoodBetween l h) (sym old.1) (all k h old.0)
  | inr last ↦ subst (λ (l : List Heard). StoodBetween l h) (sym last.1) (subst (StoodBetween hs) last.0 new)
]

stood-as : (hs : List Heard) (channel front taken : ℕ) (o : Option DataCommand) → AllStood hs → taken ≤ front → ((n : ℕ) → n < front → HasNumber hs channel (n + 1)) → AllStood (hs ++ heard_as channel front taken o)
stood-as hs channel front taken None all low most = subst AllStood (sym (append-nil hs)) all
stood-as hs channel front taken (Some c) all low most = stood-more hs (record { channel = channel; command = c; front = front; taken = taken }) all (record { least = low; most = most })

-- what every run keeps
record Kept (e : OneEnd) : Type 0 where
  hears : AllHear (told_of e)
  stood : AllStood e.came
  loose : (q : Packet) → Has (told_packets e) q → q.flags ≡ 2 → Has e.loose q

-- the law comes of it
heard : (e : OneEnd) → Kept e → IsHeard e
heard e k = record {
  carried = λ channel. (let a = k.hears in let h = a.each channel in carried-front e.came channel 0 1 (taken_on channel e) (in_sequence channel e.peer.inbox.untaken) h.carried);
  follows = λ channel mtu cs rules. (let a = k.hears in let h = a.each channel in Follows-front cs (bodies_of (taken_on channel e)) (bodies_of (in_sequence channel e.peer.inbox.untaken))
      (subst (FollowsCarried cs) (map-append (λ (d : Dispatched). d.body) (taken_on channel e) (in_sequence channel e.peer.inbox.untaken)) (h.follows mtu cs rules)));
  stood = k.stood;
  loose = λ q there two. k.loose q (Has-append_left (packets_of e.taken) e.peer.inbox.untaken q there) two;
}

-- a peer that stays keeps it
loose-stays : (e : OneEnd) (q : Peering) → StaysAt e.peer q → Kept e → (x : Packet) → Has (packets_of e.taken ++ q.inbox.untaken) x → x.flags ≡ 2 → Has e.loose x
loose-stays e q s k x there two = elim s.untaken [
  | inl same ↦ k.loose x (subst (λ l. Has (packets_of e.taken ++ l) x) same there) two
  | inr none ↦ k.loose x (Has-append_left (packets_of e.taken) e.peer.inbox.untaken x (subst (λ l. Has l x) (ap (λ l. packets_of e.taken ++ l) none.0 ∙ append-nil (packets_of e.taken)) there)) two
]

-- also where what it submitted or put out is more
kept-stays : (e new : OneEnd) → new.came ≡ e.came → new.fronts ≡ e.fronts → new.taken ≡ e.taken → new.loose ≡ e.loose → StaysAt e.peer new.peer → Kept e → Kept new
kept-stays e new came fronts taken loose s k = record {
  hears = told-stays (told_of e) (told_of new) (λ h there. subst (λ l. Has l h) (sym came) there) taken s (λ channel wires. ap (λ f. f channel) fronts) k.hears;
  stood = subst AllStood (sym came) k.stood;
  loose = λ x there two. subst (λ l. Has l x) (sym loose) (loose-stays e new.peer s k x (subst (λ l. Has (packets_of l ++ new.peer.inbox.untaken) x) taken there) two);
}

-- a command comes
kept-come : (e : OneEnd) (full : Bool) (m : Message) (now : ℕ) (sent : Option ℕ) → IsMessage m → Kept e → Kept (with_come e m (heeded full e.peer now sent m).after)
kept-come e full m now sent is k = by (heeded-becomes full e.peer m.head now sent m.body)
  where
    q : Peering
    q = (heeded full e.peer now sent m).after

    u : Told
    u = told_of (with_come e m q)

    came : List Packet
    came = loose_of m.head.channel m.body

    stood : AllStood (with_come e m q).came
    stood =
        let a = k.hears in
        let h = a.each m.head.channel in
        let least = h.least in
        let some' : reliable_taken m.head.channel e.taken ≤ reliable_in (taken_on m.head.channel e ++ in_sequence m.head.channel e.peer.inbox.untaken) = reliable-front (taken_on m.head.channel e) (in_sequence m.head.channel e.peer.inbox.untaken) in
        stood-as e.came m.head.channel (e.fronts m.head.channel) (reliable_taken m.head.channel e.taken) (data_of m) k.stood (omega arith) h.most

    by : StaysAt e.peer q ⊎ ((dispatches_in e.peer.state ≡ true) × (q.state ≡ e.peer.state) × (q.inbox ≡ (arrival e.peer.inbox m).after)) → Kept (with_come e m q)
    by (inl s) = record {
      hears = told-passed (told_of e) u m.head.channel (data_of m) s refl k.hears;
      stood = stood;
      loose = λ x there two. Has-append_left e.loose came x (loose-stays e q s k x there two);
    }
    by (inr h) = record {
      hears = subst (λ (b : Inbox). AllHear (record (after (told_of e) m.head.channel (data_of m) b) { opens = dispatches_in q.state })) (sym h.2)
          (subst (λ o. AllHear (record (after (told_of e) m.head.channel (data_of m) (arrival e.peer.inbox m).after) { opens = o })) (sym (ap dispatches_in h.1))
          (told-arrival (told_of e) m.head m.body is h.0 k.hears));
      stood = stood;
      loose = λ x there two. elim (Has-append_cases (packets_of e.taken) q.inbox.untaken x there) [
        | inl old ↦ Has-append_left e.loose came x (k.loose x (Has-append_left (packets_of e.taken) e.peer.inbox.untaken x old) two)
        | inr new ↦ (let a = k.hears in elim (arrival-loose e.peer.inbox m.head m.body (a.flat h.0) x (subst (λ (b : Inbox). Has b.untaken x) h.2 new) two) [
          | inl was ↦ Has-append_left e.loose came x (k.loose x (Has-append_right (packets_of e.taken) e.peer.inbox.untaken x was) two)
          | inr now' ↦ Has-append_right e.loose came x now'
        ])
      ];
    }

-- the user takes an event
kept-told : (e : OneEnd) (q : Peering) (event : PeerEvent) → dispatches_in q.state ≡ dispatches_in e.peer.state → q.inbox.receivers ≡ e.peer.inbox.receivers
    → packets_of (e.taken ++ event ∷ []) ++ q.inbox.untaken ≡ told_packets e
    → ((channel : ℕ) → in_sequence channel (packets_of (e.taken ++ event ∷ [])) ++ in_sequence channel q.inbox.untaken ≡ in_sequence channel (packets_of e.taken) ++ in_sequence channel e.peer.inbox.untaken)
    → Kept e → Kept (record e { peer = q; taken = e.taken ++ event ∷ [] })
kept-told e q event opens receivers all each k = record {
  hears = told-taken (told_of e) (told_of (record e { peer = q; taken = e.taken ++ event ∷ [] })) refl refl opens receivers each k.hears;
  stood = k.stood;
  loose = λ x there two. k.loose x (subst (λ l. Has l x) all there) two;
}

kept-took : (e : OneEnd) (q : Peering) (event : PeerEvent) → next_event e.peer ≡ Some (record { event = event; after = q }) → Kept e → Kept (record e { peer = q; taken = e.taken ++ event ∷ [] })
kept-took e q event next k = took (λ q event. Kept (record e { peer = q; taken = e.taken ++ event ∷ [] })) e.peer q event next
    (λ info g. kept-told e (record e.peer { greeting = None }) (told.Connect info) refl refl (same (told.Connect info) refl) (λ channel. quiet (told.Connect info) refl channel) k)
    (λ x rest g u. kept-told e (record e.peer { inbox = record e.peer.inbox { untaken = rest } }) (told.Receive x) refl refl (handed x rest u) (λ channel. packet x rest u channel) k)
    (λ g u at. kept-told e (record e.peer { state = state.Free }) (told.Disconnect e.peer.info) (sym (ap dispatches_in at)) refl (same (told.Disconnect e.peer.info) refl) (λ channel. quiet (told.Disconnect e.peer.info) refl channel) k)
  where
    untaken : List Packet
    untaken = e.peer.inbox.untaken

    -- an event without a packet
    none : (event : PeerEvent) → packets_of (event ∷ []) ≡ [] → packets_of (e.taken ++ event ∷ []) ≡ packets_of e.taken
    none event e' = packets-push e.taken event ∙ ap (λ qs. packets_of e.taken ++ qs) e' ∙ append-nil (packets_of e.taken)

    same : (event : PeerEvent) → packets_of (event ∷ []) ≡ [] → packets_of (e.taken ++ event ∷ []) ++ untaken ≡ packets_of e.taken ++ untaken
    same event e' = ap (λ qs. qs ++ untaken) (none event e')

    quiet : (event : PeerEvent) → packets_of (event ∷ []) ≡ [] → (channel : ℕ) → in_sequence channel (packets_of (e.taken ++ event ∷ [])) ++ in_sequence channel untaken ≡ in_sequence channel (packets_of e.taken) ++ in_sequence channel untaken
    quiet event e' channel = ap (λ qs. in_sequence channel qs ++ in_sequence channel untaken) (none event e')

    -- a packet
    handed : (x : Packet) (rest : List Packet) → untaken ≡ x ∷ rest → packets_of (e.taken ++ told.Receive x ∷ []) ++ rest ≡ packets_of e.taken ++ untaken
    handed x rest is = ap (λ qs. qs ++ rest) (packets-push e.taken (told.Receive x)) ∙ append_assoc (packets_of e.taken) (x ∷ []) rest ∙ ap (λ qs. packets_of e.taken ++ qs) (sym is)

    packet : (x : Packet) (rest : List Packet) → untaken ≡ x ∷ rest → (channel : ℕ)
        → in_sequence channel (packets_of (e.taken ++ told.Receive x ∷ [])) ++ in_sequence channel rest ≡ in_sequence channel (packets_of e.taken) ++ in_sequence channel untaken
    packet x rest is channel =
        sym (in_sequence-append channel (packets_of (e.taken ++ told.Receive x ∷ [])) rest) ∙ ap (in_sequence channel) (handed x rest is) ∙ in_sequence-append channel (packets_of e.taken) untaken

kept-happens : (e new : OneEnd) (event : Event) → Happens e event new → Kept e → Kept new
kept-happens e new (Submit q) h k = subst Kept (sym h.1) (kept-stays e (with_submission e q) refl refl refl refl (stays (core e.peer)) k)
kept-happens e new (Emit now) h k = subst Kept (sym h) (kept-stays e (with_emission e now) refl refl refl refl (gone_on-stays (record e.peer { outbox = (filled (pace_of e.peer now) e.peer.outbox).outbox })) k)
kept-happens e new (Come m now sent) h k = subst Kept (sym h.2) (kept-come e h.1 m now sent h.0 k)
kept-happens e new (Tick now) h k = subst Kept (sym h.1) (kept-stays e (with_peer e (moved h.0 e.peer now)) refl refl refl refl (moved-stays h.0 e.peer now) k)
kept-happens e new Take h k = subst Kept (sym h.3) (kept-took e h.1 h.0 h.2 k)
kept-happens e new (Disconnect way info) h k = subst Kept (sym h.2) (kept-stays e (with_peer e h.0) refl refl refl refl (left-stays e.peer h.0 way info h.1) k)
kept-happens e new (Set setting) h k = subst Kept (sym h.1) (kept-stays e (with_peer e (with_setting setting e.peer)) refl refl refl refl (set-stays e.peer setting) k)
kept-happens e new GiveWay h k = subst Kept (sym h.1) (kept-stays e (with_peer e (freed e.peer)) refl refl refl refl (freed-stays e.peer) k)
kept-happens e new TellAgain h k = subst Kept (sym h.1) (kept-stays e (with_peer e (told_again e.peer)) refl refl refl refl (told_again-stays e.peer) k)

kept-runs : (events : List Event) (e new : OneEnd) → Runs events e new → Kept e → Kept new
kept-runs [] e new r k = subst Kept r k
kept-runs (event ∷ events) e new r k = kept-runs events r.0 new r.2 (kept-happens e r.0 event r.1 k)

-- nothing came to a new end
kept-beginning : (p : Peering) (channels max_packet max_waiting : ℕ) → p.inbox ≡ empty_inbox channels max_packet max_waiting → Kept (beginning p)
kept-beginning p channels max_packet max_waiting is = record {
  hears = record {
    flat = λ o i r there. (let x = new-at i r there in subst (λ (y : ReceivingEnd). (y.receiver.dispatched ≡ []) × HasSequenced y.receiver) x.1 (refl, sequenced-nothing));
    each = λ channel. record {
      carried = subst (AreCarried [] channel 0 1) (sym (none channel)) tt;
      follows = λ mtu cs rules. subst (λ ds. FollowsCarried cs (bodies_of ds)) (sym (none channel)) tt;
      ear = λ o r there. (let x = new-at channel r there in
          subst (IsEar (told_of (beginning p)) channel) x.1 (record {
            whole = nothing_received;
            shows = subst (λ ds. ShowsReceiver (grown ds nothing_received) nothing_received) (sym (none channel)) Shows-nothing;
            hears = hears-nothing channel;
            ready = λ mtu cs rules. ready-nothing mtu cs (all-cut mtu cs channel [] rules);
            front = refl;
          }));
      least = subst (λ ds. reliable_in ds ≤ 0) (sym (none channel)) (let z : reliable_in [] ≤ 0 = omega arith in z);
      most = λ n low. absurd (let z : n < 0 = low in omega arith);
      wired = λ r there. (let x = new-at channel r there in ap (λ (y : ReceivingEnd). y.receiver.front) x.1);
    };
  };
  stood = λ k h there. absurd (let z : None ≡ Some h = there in cc);
  loose = λ q there two. absurd (subst (λ (b : Inbox). Has b.untaken q) is there);
}
  where
    none : (channel : ℕ) → in_sequence channel p.inbox.untaken ≡ []
    none channel = ap (λ (b : Inbox). in_sequence channel b.untaken) is

    new-at : (i : ℕ) (r : ReceivingEnd) → slice_get p.inbox.receivers i ≡ Some r → (channel : ℕ) × (new_end channel max_packet ≡ r)
    new-at i r there = (let c = get-map (λ channel. new_end channel max_packet) (range_with_len 0 channels) i r (ap (λ (b : Inbox). slice_get b.receivers i) (sym is) ∙ there) in (c.0, c.2))

heard-runs : (p : Peering) (channels max_packet max_waiting : ℕ) → p.inbox ≡ empty_inbox channels max_packet max_waiting → OfEachRun p IsHeard
heard-runs p channels max_packet max_waiting is events e r = heard e (kept-runs events (beginning p) e r (kept-beginning p channels max_packet max_waiting is))

pub answering-heard : OfEachAnswering IsHeard
answering-heard now offsets offer server limits = heard-runs (answering now offsets offer server limits) (granted offer server).channels limits.max_packet limits.max_waiting refl

pub asking-heard : OfEachAsking IsHeard
asking-heard now offset offer limits = heard-runs (connecting now offset offer limits) (asked offer).channels limits.max_packet limits.max_waiting refl

pub joined-heard : OfEachJoined IsHeard
joined-heard now terms limits = heard-runs (joined now terms limits) terms.channels limits.max_packet limits.max_waiting refl
