-- A host of one slot, which a peer holds that is of connection 0: what its calls come to.
use Rattle.std.proofs.Common.{◌≡◌, ◌≢◌, ◌≤◌, ℕ, zero, suc, ◌+◌, min, Bool, false, true, cond, not, ◌&&◌, inl, inr, List, [], ◌∷◌, ◌++◌, length, map, take, refl, sym, ap, subst, ◌∙◌, arith, Option, Some, None, Ok, slice_get}
use Rattle.std.proofs.lemmas.List.{append-nil}
use Rattle.std.specs.Option.{is_some}
use Rattle.enet_codec.specs.declared.address.Addr.{Addr}
use Rattle.enet_codec.specs.declared.event.Event.{Event}
use Rattle.enet_codec.specs.declared.refusal.Refusal.{Refusal}
use Rattle.enet_codec.specs.declared.stop.Stop.TheVariants as stop
use Rattle.enet_codec.specs.declared.stop.Stop.TheVariants.{Short}
use Rattle.enet_codec.specs.declared.command.Head.{Head}
use Rattle.enet_codec.specs.declared.command.Offer.{Offer}
use Rattle.enet_codec.specs.declared.header.Header.{Header}
use Rattle.enet_codec.specs.Header.{masked}
use Rattle.enet_codec.specs.Message.{Message, IsMessage, Spells, connect}
use Rattle.enet_codec.specs.Datagram.{SpellsAll, SpellsDatagram}
use Rattle.enet_codec.proofs.Datagrams.{some-bytes}
use Rattle.enet_peer.specs.Handling.{Handles, HearsIf, nothing_left, goes_on}
use Rattle.enet_peer.specs.Heading.{is_compressed, too_short, IsRead, IsOffer}
use Rattle.enet_sender.specs.CommandChoice.{Packet}
use Rattle.enet_outbox.specs.Emission.{Filling, datagram, header_for, filled, HasDatagram}
use Rattle.enet_outbox.proofs.Spelled.{datagram-spelled}
use Rattle.enet_peer.specs.declared.parts.PeerEvent.{PeerEvent}
use Rattle.enet_peer.specs.declared.parts.PeerEvent.TheVariants as told
use Rattle.enet_peer.specs.declared.parts.PeerState.TheVariants as state
use Rattle.enet_peer.specs.Peering.{Peering}
use Rattle.enet_peer.specs.Peering as peers
use Rattle.enet_peer.specs.CommandEffect.{obeyed}
use Rattle.enet_peer.specs.Refusing.{is_turned_away}
use Rattle.enet_peer.specs.Calls.{Taken, submission_refusal, submitted, pace_of, destination_of, gone_on, next_event}
use Rattle.enet_slot.specs.Entering.{awaits}
use Rattle.enet_slot.specs.Slot.{SlotState, greatest}
use Rattle.enet_slot.specs.Calls.{event_of, submitted_unless, kept}
use Rattle.enet_slot.specs.Giving.{no_address, unused_slot, limits_of, offer_from, server_from}
use Rattle.enet_slot.specs.Receiving.{is_deaf, is_same_address, fits_session, refused_by_slot, no_peer, stopped, PeerReceives}
use Rattle.enet_slot.specs.Receiving as receiving
use Rattle.enet_slot.specs.Emitting.{with_emitted, PeerEmits}
use Rattle.enet_host.specs.declared.credits.Credit.{Credit}
use Rattle.enet_host.specs.declared.totals.Totals.{Totals}
use Rattle.enet_host.specs.Crediting.{came, no_credit, went}
use Rattle.enet_host.specs.Host.{Host}
use Rattle.enet_host.specs.Calls.{put_back}
use Rattle.enet_host.specs.Opening.{no_totals, asks}
use Rattle.enet_host.specs.Receiving.{Arrives, refuses_at, unreadable, heard, offered, answers, Listener, Nowhere, More, First, answered, Credits, offer_refused, handled_one, with_datagram_in}
use Rattle.enet_host.specs.Receiving as counting
use Rattle.enet_host.specs.Turns.{turn_of}
use Rattle.enet_host.specs.Serving.{served_of, InTurn, with_datagram_out}
use Rattle.law_network.specs.Calls as call
use Rattle.law_network.proofs.Slots.{held}
use Rattle.law_network.specs.declared.event.Answer.TheVariants as answer
use Rattle.law_network.specs.declared.event.Side.{Side}
use Rattle.law_network.specs.declared.event.Side.TheVariants.{A, B}
use Rattle.law_network.specs.declared.event.WorldEvent.TheVariants as happen
use Rattle.law_network.specs.Examples.{example_config, first_name}
use Rattle.law_network.specs.Log.{Logged, ChannelPackets, fresh_channels, fresh_greatest, with_packets, with_submitted_packet, counted_all, reached}
use Rattle.law_network.specs.Marks.{MarksOf}
use Rattle.law_network.specs.Network.{HostEnd, Site, fresh_end, numbers_of, delivery_refusal}
use Rattle.law_network.specs.Numbers.{Stands}
use Rattle.law_network.specs.Steps.{Calls, Delivers as HearsIt, Called, Logs, LogsIf, Around, packets_by, after_event, beside, BringsOne, Happens, HappensAmong}
use Rattle.law_network.specs.World.{World, other, address_of, Steps, open_site, open_world}
use Rattle.law_network.proofs.Marked.{marks_of}
use Rattle.law_network.proofs.Submitting.{same-some}

-- all of it that changes: its totals, what its peer's address sent and got, how many bytes the peer put out, the peer, the log, and what
-- is kept of its end
pub record Lone : Type 0 where
  pub totals : Totals
  pub credit : Credit
  pub emitted : ℕ
  pub peer : Peering
  pub log : List Logged
  pub mtu : ℕ
  pub numbers : List ℕ
  pub channels : List ChannelPackets
  pub events : List Event

abbrev pub slot_of : Side → Lone → SlotState
slot_of side x = record { generation = 0; address = address_of (other side); incoming_session = 0xFF; outgoing_session = 0xFF; emitted = x.emitted; ending = None; peer = Some x.peer }

abbrev pub end_of : Lone → HostEnd
end_of x = record { connection = 0; name = first_name; mtu = x.mtu; greatest = x.numbers; channels = x.channels; events = x.events }

abbrev pub host_with : Totals → Credit → SlotState → Host
host_with t c s = record { config = example_config; clock = 0; shared_at = 0; service_from = 0; event_from = 0; totals = t; slots = s ∷ []; credits = c ∷ []; send_limit = None }

abbrev pub site : Side → Lone → Site
site side x = record { address = address_of side; host = host_with x.totals x.credit (slot_of side x); log = x.log; ends = end_of x ∷ [] }

-- its end stands
pub stands : (side : Side) (x : Lone) → Stands (site side x) 0
stands side x = record { end = end_of x; there = refl; peer = x.peer; is = refl }

-- the user submits a packet

abbrev pub after_submission : Lone → ℕ → Packet → Lone
after_submission x channel q = record x {
  peer = submitted x.peer channel q;
  mtu = x.peer.terms.mtu;
  channels = with_packets x.channels channel (with_submitted_packet (record { channel = channel; flags = q.flags; body = q.body }));
}

pub submits : (next : ℕ) (side : Side) (far : Site) (x : Lone) (channel : ℕ) (q : Packet) → submission_refusal x.peer channel (length q.body) ≡ None → x.peer.state ≢ state.Free
    → Happens next far (Calls (call.Submit first_name channel q (Ok tt))) (site side x) (site side (after_submission x channel q))
submits next side far x channel q fits live = (
  (
    ap (λ (r : Option Refusal). put_back (slot_of side x ∷ []) 0 (kept (slot_of side x) (submitted_unless x.peer channel q r))) fits
        ∙ ap (λ (s : SlotState). Ok (s ∷ [])) (held (slot_of side x) (submitted x.peer channel q) live),
    refl,
  ),
  refl,
)

-- the user takes an event

abbrev pub after_taking : Lone → Event → Peering → Lone
after_taking x event q = record x { peer = q; channels = packets_by event x.channels; events = x.events ++ event ∷ [] }

ends-taken : (x : Lone) (q : Peering) (e : PeerEvent) → end_of (after_taking x (event_of first_name e) q) ∷ [] ≡ after_event (event_of first_name e) (end_of x ∷ [])
ends-taken x q (told.Connect info) = refl
ends-taken x q (told.Receive packet) = refl
ends-taken x q (told.Disconnect info) = refl

pub takes : (next : ℕ) (side : Side) (far : Site) (x : Lone) (q : Peering) (e : PeerEvent) → next_event x.peer ≡ Some (record { event = e; after = q }) → q.state ≢ state.Free
    → Happens next far (Calls (call.NextEvent (Some (event_of first_name e)))) (site side x) (site side (after_taking x (event_of first_name e) q))
takes next side far x q e tells live = (
  record {
    from = 0;
    first = record { slot = slot_of side x; there = refl; here = ap (λ (o : Option Taken). is_some o) tells; before = λ j s there less. absurd (omega arith) };
    after = slot_of side (record x { peer = q });
    gives = record { peer = x.peer; held = refl; taken = record { event = e; after = q }; next = tells; told = refl; left = sym (held (slot_of side x) q live) };
    rest = refl;
  },
  ap (λ (l : List HostEnd). record (site side (record x { peer = q })) { ends = l }) (ends-taken x q e),
)

-- a datagram is put out

-- the bytes of a datagram with the command m, its header, and what is logged of it
abbrev pub text_of : Peering → Message → List ℕ
text_of p m = datagram 0 (destination_of p) (m ∷ [])

abbrev pub header_of : Peering → Message → Header
header_of p m = masked (header_for 0 (destination_of p) (m ∷ []))

abbrev pub numbers_after : List ℕ → Message → List ℕ
numbers_after numbers m = counted_all numbers (marks_of (m ∷ []))

abbrev pub logged : Side → Site → Lone → Message → Logged
logged side far x m = record {
  connection = 0;
  to = address_of (other side);
  peer = (header_of x.peer m).peer;
  text = text_of x.peer m;
  marks = map (reached (numbers_after x.numbers m) (numbers_of far 0)) (marks_of (m ∷ []));
}

-- what a peer puts out next, and the peer then
abbrev pub filling : Peering → Filling
filling p = filled (pace_of p 0) p.outbox

abbrev pub put_out : Peering → Peering
put_out p = gone_on (record p { outbox = (filling p).outbox })

-- it puts out the command m alone
pub record PutsOne (p : Peering) (m : Message) : Type 0 where
  pub messages : (filling p).messages ≡ m ∷ []
  pub live : (put_out p).state ≢ state.Free
  pub ranges : IsMessage m
  pub plain : is_compressed (text_of p m) ≡ false

abbrev pub after_putting : Side → Site → Lone → Message → Lone
after_putting side far x m = record x {
  totals = with_datagram_out x.totals (length (text_of x.peer m));
  credit = went (length (text_of x.peer m)) x.credit;
  emitted = min (x.emitted + length (text_of x.peer m)) greatest;
  peer = put_out x.peer;
  log = x.log ++ logged side far x m ∷ [];
  numbers = numbers_after x.numbers m;
}

take-all : {X : Type 0} (xs : List X) → take (length xs) xs ≡ xs
take-all [] = refl
take-all (x ∷ xs) = ap (λ ys. x ∷ ys) (take-all xs)

fills : (p : Peering) (m : Message) → PutsOne p m → HasDatagram 0 (destination_of p) (m ∷ []) (length (text_of p m)) (text_of p m)
fills p m k = record { some = omega arith; few = omega arith; ranges = (k.ranges, tt); ends = refl; text = take-all (text_of p m) }

pub spells : (p : Peering) (m : Message) → PutsOne p m → SpellsDatagram (text_of p m) (header_of p m) (m ∷ [])
spells p m k =
    subst (λ (l : List ℕ). SpellsDatagram l (header_of p m) (m ∷ [])) (take-all (text_of p m))
    (datagram-spelled 0 (destination_of p) (m ∷ []) (length (text_of p m)) (text_of p m) (fills p m k))

marks-spelled : (most : ℕ) (ms : List Message) (bytes : List ℕ) → length ms ≤ most → SpellsAll bytes ms → MarksOf most bytes (marks_of ms)
unfolding MarksOf
marks-spelled zero [] bytes few s = refl
marks-spelled zero (m ∷ ms) bytes few s = absurd (omega arith)
marks-spelled (suc most) [] bytes few s = inl ((λ m text rest e spelled. some-bytes text rest m spelled (sym e ∙ s)), refl)
marks-spelled (suc most) (m ∷ ms) bytes few s = inr (record {
  message = m;
  text = s.0;
  rest = s.1;
  later = marks_of ms;
  split = s.2;
  spelled = s.3;
  follow = marks-spelled most ms s.1 (omega arith) s.4;
  joined = refl;
})

pub puts-out : (w : Around) (from : Site) (side : Side) (far : Site) (x : Lone) (m : Message) → w.is_host (address_of (other side)) ≡ true → w.numbers 0 ≡ numbers_of far 0 → PutsOne x.peer m
    → HappensAmong w from (Calls (call.Service (Some (first_name, address_of (other side), length (text_of x.peer m))) (text_of x.peer m))) (site side x) (site side (after_putting side far x m))
puts-out w from side far x m host numbers k = (
  (record { slot = old; there = refl; named = refl; addressed = refl; slots = in-turn; count = refl }, refl),
  subst (λ (b : Bool). LogsIf b w.numbers (served_of (first_name, address_of (other side), length text) text) (site side x) (site side (after_putting side far x m))) (sym host) logs,
)
  where
    text : List ℕ
    text = text_of x.peer m

    all : take (length text) text ≡ text
    all = take-all text

    old : SlotState
    old = slot_of side x

    new : SlotState
    new = slot_of side (after_putting side far x m)

    spelled : SpellsDatagram (take (length text) text) (header_of x.peer m) (m ∷ [])
    spelled = subst (λ (l : List ℕ). SpellsDatagram l (header_of x.peer m) (m ∷ [])) (sym all) (spells x.peer m k)

    gives : PeerEmits 0 (length text) text old new
    gives = record {
      peer = x.peer;
      after = put_out x.peer;
      held = refl;
      puts = record {
        emits = subst (λ (l : List Message). HasDatagram 0 (destination_of x.peer) l (length text) text) (sym k.messages) (fills x.peer m k);
        after = refl;
      };
      left = sym (held (with_emitted old (length text)) (put_out x.peer) k.live);
    }

    in-turn : (i : ℕ) (s u : SlotState) → slice_get (old ∷ []) i ≡ Some s → slice_get (new ∷ []) i ≡ Some u → InTurn (record { now = 0; turn = turn_of 1 0; gave = served_of (first_name, address_of (other side), length text) text }) i s u
    in-turn zero s u a b = record {
      before = λ less. absurd (omega arith);
      here = λ e. subst (λ (z : SlotState). PeerEmits 0 (length text) text z u) (same-some old s a) (subst (λ (z : SlotState). PeerEmits 0 (length text) text old z) (same-some new u b) gives);
      after = λ less. absurd (omega arith);
    }
    in-turn (suc i) s u a b = absurd (let e : ◌≡◌ {A = Option SlotState} None (Some s) = a in cc)

    logs : Logs w.numbers (served_of (first_name, address_of (other side), length text) text) (site side x) (site side (after_putting side far x m))
    logs = record {
      own = end_of x;
      there = inl refl;
      name = refl;
      header = header_of x.peer m;
      commands = spelled.commands;
      read = record { front = spelled.front; split = spelled.split; spelled = spelled.header; plain = ap is_compressed all ∙ k.plain };
      greatest = numbers_after x.numbers m;
      marks = (logged side far x m).marks;
      counts = record {
        read = marks_of (m ∷ []);
        marked = inl (record {
          header = header_of x.peer m;
          front = spelled.front;
          commands = spelled.commands;
          split = spelled.split;
          spelled = spelled.header;
          marked = marks-spelled 32 (m ∷ []) spelled.commands (omega arith) spelled.messages;
        });
        counted = refl;
        noted = ap (λ (other : List ℕ). map (reached (numbers_after x.numbers m) other) (marks_of (m ∷ []))) (sym numbers);
      };
      rest = ap (λ (bytes : List ℕ). record (site side (after_putting side far x m)) { log = x.log ++ (record (logged side far x m) { text = bytes }) ∷ [] }) (sym all);
    }

-- datagram k of the other host comes, which has the command m alone and is refused for no reason

pub record Brings (from to : Site) (side : Side) (k peer session : ℕ) (sent : Option ℕ) (d : Logged) (m : Message) : Type 0 where
  pub there : slice_get from.log k ≡ Some d
  pub at : from.address ≡ address_of (other side)
  pub of : d.connection ≡ 0
  pub in_time : delivery_refusal from to (Some d) ≡ None
  pub spelled : SpellsDatagram d.text (record { peer = peer; session = session; compressed = false; sent = sent }) (m ∷ [])
  pub plain : is_compressed d.text ≡ false

read-of : (from to : Site) (side : Side) (k peer session : ℕ) (sent : Option ℕ) (d : Logged) (m : Message) (b : Brings from to side k peer session sent d m)
    → IsRead d.text (record { peer = peer; session = session; compressed = false; sent = sent }) b.spelled.commands
read-of from to side k peer session sent d m b = record { front = b.spelled.front; split = b.spelled.split; spelled = b.spelled.header; plain = b.plain }

-- it comes to the peer
abbrev pub after_hearing : Lone → List ℕ → Peering → Lone
after_hearing x text q = record x { totals = with_datagram_in x.totals (length text); credit = came (length text) x.credit; peer = q }

-- which the command leaves as q
pub record Obeys (side : Side) (x : Lone) (session : ℕ) (sent : Option ℕ) (m : Message) (q : Peering) : Type 0 where
  pub let_in : refused_by_slot (address_of (other side)) session (Some (slot_of side x)) ≡ None
  pub kept : is_turned_away x.peer ≡ false
  pub goes : (obeyed x.peer 0 sent m).stop ≡ None
  pub after : q ≡ (obeyed x.peer 0 sent m).after
  pub live : q.state ≢ state.Free

-- a slot that takes a datagram in holds a peer at its address
let-in : (deaf near fits : Bool) → cond deaf (Some stop.UnknownPeer) (cond (not near) (Some stop.WrongAddress) (cond (not fits) (Some stop.WrongSession) None)) ≡ None → (not deaf && near) ≡ true
let-in true near fits e = absurd (cc)
let-in false false fits e = absurd (cc)
let-in false true fits e = refl

-- a host without such a setting is never full
never : (b : Bool) → (b && false) ≡ false
never true = refl
never false = refl

-- nor has it a limit for an address
unlimited : {M : Type 0} (n : ℕ) → ◌≡◌ {A = Option ℕ} None (Some n) → M
unlimited n is = absurd (cc)

pub hears : (next : ℕ) (side : Side) (from : Site) (x : Lone) (k session : ℕ) (sent : Option ℕ) (d : Logged) (m : Message) (q : Peering) → Brings from (site side x) side k 0 session sent d m → Obeys side x session sent m q
    → Happens next from (HearsIt k handled_one) (site side x) (site side (after_hearing x d.text q))
hears next side from x k session sent d m q b o =
    subst (λ (found : Option Logged). BringsOne from found handled_one (site side x) (site side (after_hearing x d.text q))) (sym b.there) (b.in_time, (record { arrives = arrives; credits = credits; rest = refl; few = λ ip n is low. unlimited n is }, refl))
  where
    old : SlotState
    old = slot_of side x

    new : SlotState
    new = slot_of side (record x { peer = q })

    s : SpellsDatagram d.text (record { peer = 0; session = session; compressed = false; sent = sent }) (m ∷ [])
    s = b.spelled

    h : Listener
    h = record { basis = record { config = example_config; clock = 0 }; slots = old ∷ [] }

    handles : Handles (record { now = 0; sent = sent; full = false }) (record { handled = 0; peer = x.peer }) s.commands handled_one q
    handles =
        subst (λ (l : List ℕ). Handles (record { now = 0; sent = sent; full = false }) (record { handled = 0; peer = x.peer }) l handled_one q) (sym (s.messages.2 ∙ ap (λ (l : List ℕ). s.messages.0 ++ l) s.messages.4))
        (goes_on (record { handled = 0; peer = x.peer }) s.messages.0 [] m handled_one q q s.messages.3 (o.goes, o.after) (nothing_left (record { handled = 1; peer = q })))

    hears-it : PeerReceives (record { now = 0; sent = sent; full = refuses_at h old }) s.commands old handled_one new
    hears-it = record {
      peer = x.peer;
      after = q;
      held = refl;
      heard = subst (λ (b : Bool). HearsIf b (record { now = 0; sent = sent; full = refuses_at h old }) s.commands x.peer handled_one q) (sym o.kept)
          (subst (λ (f : Bool). Handles (record { now = 0; sent = sent; full = f }) (record { handled = 0; peer = x.peer }) s.commands handled_one q) (sym (never (awaits old))) handles);
      left = sym (held old q o.live);
    }

    arrives : Arrives h from.address d.text handled_one (new ∷ [])
    arrives = subst (λ (a : Addr). Arrives h a d.text handled_one (new ∷ [])) (sym b.at)
        (heard (record { peer = 0; session = session; compressed = false; sent = sent }) s.commands old new handled_one (read-of from (site side x) side k 0 session sent d m b) (λ e. omega arith) o.let_in refl hears-it)

    its : receiving.hears (address_of (other side)) old ≡ true
    its = let-in (is_deaf x.peer.state) (is_same_address (address_of (other side)) (address_of (other side))) (fits_session x.peer session) o.let_in

    credits : Credits h from.address d.text handled_one (x.credit ∷ []) (came (length d.text) x.credit ∷ [])
    credits = subst (λ (a : Addr). Credits h a d.text handled_one (x.credit ∷ []) (came (length d.text) x.credit ∷ [])) (sym b.at)
        (record { counted = More 0; counts = counting.here (record { peer = 0; session = session; compressed = false; sent = sent }) s.commands (read-of from (site side x) side k 0 session sent d m b) (λ e. omega arith) its handled_one; after = refl })

-- a stranger's datagram without a byte
abbrev pub after_nothing : Lone → Lone
after_nothing x = record x { totals = with_datagram_in x.totals 0 }

pub hears-nothing : (next : ℕ) (side : Side) (x : Lone) (from : Addr) → Called next (call.Receive from [] (stopped Short)) (site side x) (site side (after_nothing x))
hears-nothing next side x from = (
  record { arrives = unreadable Short (too_short (omega arith)); credits = record { counted = Nowhere; counts = unreadable Short (too_short (omega arith)) (stopped Short); after = refl }; rest = refl; few = λ ip n is low. unlimited n is },
  refl,
)

-- an end begins, where the user asks for a connection or an offer comes

abbrev pub free_site : Side → Site
free_site side = open_site side example_config

abbrev pub beginning : Totals → Credit → Peering → Lone
beginning t c p = record { totals = t; credit = c; emitted = 0; peer = p; log = []; mtu = 0; numbers = fresh_greatest; channels = fresh_channels; events = [] }

-- the offer with this word for the other's user and this connect id
abbrev pub offer_with : (info word : ℕ) → Offer
offer_with info word = offer_from example_config 0 unused_slot (record { address = no_address; channels = 1; info = info; word = word })

abbrev pub asking_peer : Offer → Peering
asking_peer o = peers.connecting 0 0 o (limits_of example_config)

abbrev pub answering_peer : Offer → Peering
answering_peer o = peers.answering 0 (record { time = 0; number = 0 }) o (server_from example_config 0 unused_slot o) (limits_of example_config)

pub asks-first : (side : Side) (far : Site) (info word : ℕ) → far.address ≡ address_of (other side)
    → Happens 0 far (Calls (call.Connect (address_of (other side)) 1 info word (Ok first_name))) (free_site side) (site side (beginning no_totals no_credit (asking_peer (offer_with info word))))
asks-first side far info word at = (sym at, ((asks 0 unused_slot (λ e. omega arith) refl refl, refl), refl))

pub answers-first : (side : Side) (from : Site) (k session : ℕ) (sent : Option ℕ) (d : Logged) (head : Head) (o : Offer) → offer_refused o ≡ None
    → Brings from (free_site side) side k no_peer session sent d (record { head = head; body = connect o })
    → Happens 1 from (HearsIt k handled_one) (free_site side) (site side (beginning (with_datagram_in no_totals (length d.text)) (came (length d.text) no_credit) (answering_peer o)))
answers-first side from k session sent d head o fits b =
    subst (λ (found : Option Logged). BringsOne from found handled_one (free_site side) (site side new)) (sym b.there)
    (b.in_time, (record { arrives = arrives; credits = credits; rest = refl; few = λ ip n is low. unlimited n is }, ap (λ (x : ℕ). record (site side new) { ends = fresh_end x first_name ∷ [] }) (sym b.of)))
  where
    new : Lone
    new = beginning (with_datagram_in no_totals (length d.text)) (came (length d.text) no_credit) (answering_peer o)

    s : SpellsDatagram d.text (record { peer = no_peer; session = session; compressed = false; sent = sent }) ((record { head = head; body = connect o }) ∷ [])
    s = b.spelled

    alone : s.commands ≡ s.messages.0
    alone = s.messages.2 ∙ ap (λ (l : List ℕ). s.messages.0 ++ l) s.messages.4 ∙ append-nil s.messages.0

    offer : IsOffer s.commands o
    offer = (head, subst (λ (l : List ℕ). Spells l (record { head = head; body = connect o })) (sym alone) s.messages.3)

    h : Listener
    h = record { basis = record { config = example_config; clock = 0 }; slots = unused_slot ∷ [] }

    header : Header
    header = record { peer = no_peer; session = session; compressed = false; sent = sent }

    read : IsRead d.text header s.commands
    read = read-of from (free_site side) side k no_peer session sent d (record { head = head; body = connect o }) b

    credits : Credits h from.address d.text handled_one (no_credit ∷ []) (came (length d.text) no_credit ∷ [])
    credits = record { counted = First 0; counts = answered header s.commands o 0 read refl offer refl refl; after = refl }

    arrives : Arrives h from.address d.text handled_one (slot_of side new ∷ [])
    arrives = subst (λ (a : Addr). Arrives h a d.text handled_one (slot_of side new ∷ [])) (sym b.at)
        (offered header s.commands o handled_one (slot_of side new ∷ []) read refl offer (answers 0 unused_slot fits refl refl refl))

-- so in a world that has connection 0

-- the host at a side, and the other one
abbrev pub between : Side → Site → Site → World
between A here there = record { a = here; b = there; count = 1 }
between B here there = record { a = there; b = here; count = 1 }

pub submit : (side : Side) (far : Site) (x : Lone) (channel : ℕ) (q : Packet) → submission_refusal x.peer channel (length q.body) ≡ None → x.peer.state ≢ state.Free
    → Steps (between side (site side x) far) (happen.Submit side first_name channel q.flags q.body) (Ok answer.Done) (between side (site side (after_submission x channel q)) far)
submit A far x channel q fits live = (Calls (call.Submit first_name channel q (Ok tt)), refl, record { here = submits 1 A far x channel q fits live; there = refl; count = refl })
submit B far x channel q fits live = (Calls (call.Submit first_name channel q (Ok tt)), refl, record { here = submits 1 B far x channel q fits live; there = refl; count = refl })

pub turn : (side : Side) (far : Site) (x : Lone) (m : Message) (k : ℕ) → PutsOne x.peer m → k ≡ length x.log
    → Steps (between side (site side x) far) (happen.Turn side) (Ok (answer.Sent (Some k))) (between side (site side (after_putting side far x m)) far)
turn A far x m k puts number = (
  Calls (call.Service (Some (first_name, address_of B, length (text_of x.peer m))) (text_of x.peer m)),
  ((first_name, address_of B, length (text_of x.peer m)), text_of x.peer m, refl, number),
  record { here = puts-out (beside 1 far) far A far x m refl refl puts; there = refl; count = refl },
)
turn B far x m k puts number = (
  Calls (call.Service (Some (first_name, address_of A, length (text_of x.peer m))) (text_of x.peer m)),
  ((first_name, address_of A, length (text_of x.peer m)), text_of x.peer m, refl, number),
  record { here = puts-out (beside 1 far) far B far x m refl refl puts; there = refl; count = refl },
)

pub deliver : (side : Side) (from : Site) (x : Lone) (k session : ℕ) (sent : Option ℕ) (d : Logged) (m : Message) (q : Peering) → Brings from (site side x) side k 0 session sent d m → Obeys side x session sent m q
    → Steps (between side (site side x) from) (happen.Deliver side k) (Ok (answer.Received handled_one)) (between side (site side (after_hearing x d.text q)) from)
deliver A from x k session sent d m q b o = (HearsIt k handled_one, refl, record { here = hears 1 A from x k session sent d m q b o; there = refl; count = refl })
deliver B from x k session sent d m q b o = (HearsIt k handled_one, refl, record { here = hears 1 B from x k session sent d m q b o; there = refl; count = refl })

pub take_event : (side : Side) (far : Site) (x : Lone) (q : Peering) (e : PeerEvent) → next_event x.peer ≡ Some (record { event = e; after = q }) → q.state ≢ state.Free
    → Steps (between side (site side x) far) (happen.Take side) (Ok (answer.Taken (Some (event_of first_name e)))) (between side (site side (after_taking x (event_of first_name e) q)) far)
take_event A far x q e tells live = (Calls (call.NextEvent (Some (event_of first_name e))), refl, record { here = takes 1 A far x q e tells live; there = refl; count = refl })
take_event B far x q e tells live = (Calls (call.NextEvent (Some (event_of first_name e))), refl, record { here = takes 1 B far x q e tells live; there = refl; count = refl })

-- and where B asks for it, and its CONNECT comes to A

pub connect_event : (info word : ℕ)
    → Steps (open_world example_config example_config) (happen.Connect B 1 info word) (Ok (answer.Peer first_name)) (between B (site B (beginning no_totals no_credit (asking_peer (offer_with info word)))) (free_site A))
connect_event info word = (Calls (call.Connect (address_of A) 1 info word (Ok first_name)), refl, record { here = asks-first B (free_site A) info word refl; there = refl; count = refl })

pub deliver_offer : (from : Site) (k session : ℕ) (sent : Option ℕ) (d : Logged) (head : Head) (o : Offer) → offer_refused o ≡ None → Brings from (free_site A) A k no_peer session sent d (record { head = head; body = connect o })
    → Steps (between A (free_site A) from) (happen.Deliver A k) (Ok (answer.Received handled_one)) (between A (site A (beginning (with_datagram_in no_totals (length d.text)) (came (length d.text) no_credit) (answering_peer o))) from)
deliver_offer from k session sent d head o fits b = (HearsIt k handled_one, refl, record { here = answers-first A from k session sent d head o fits b; there = refl; count = refl })
