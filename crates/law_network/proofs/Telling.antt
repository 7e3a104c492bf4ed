-- Which events a turn, a datagram that is brought, a tick and a take are to an end.
use Rattle.std.proofs.Common.{◌≡◌, ◌≢◌, ◌≤◌, ◌<◌, ℕ, ◌⊎◌, ◌&&◌, inl, inr, Bool, true, false, not, cond, List, [], ◌∷◌, ◌++◌, refl, sym, ap, subst, ◌∙◌, append-nil, arith, length, Option, Some, None, Ok, slice_get, slice_set}
use Rattle.std.proofs.lemmas.Option.{slice_get_within}
use Rattle.enet_codec.specs.declared.address.Addr.{Addr}
use Rattle.enet_codec.specs.declared.event.Event.{Event as Told}
use Rattle.enet_codec.specs.declared.event.PeerRef.{PeerRef}
use Rattle.enet_codec.specs.declared.event.Received.{Received}
use Rattle.enet_codec.specs.declared.header.Header.{Header}
use Rattle.enet_codec.specs.declared.stop.Stop.{Stop}
use Rattle.enet_codec.specs.declared.stop.Stop.TheVariants as stop
use Rattle.enet_codec.specs.Message.{Message}
use Rattle.enet_peer.specs.declared.parts.PeerState.TheVariants as state
use Rattle.enet_peer.specs.Peering.{Peering}
use Rattle.enet_peer.specs.Calls as peers
use Rattle.enet_peer.specs.Calls.{is_answering, is_connected}
use Rattle.enet_peer.specs.Endings.{freed}
use Rattle.enet_peer.specs.Handling.{Arrival, HandlesEach, Handles, HearsIf, one_more}
use Rattle.enet_peer.specs.Heading.{IsRead}
use Rattle.enet_peer.specs.Refusing.{heeded, is_turned_away}
use Rattle.enet_peer.proofs.Each.{handles-each}
use Rattle.enet_peer.proofs.Refusals.{heeded-obeyed}
use Rattle.enet_peer.specs.CommandEffect.{Outcome}
use Rattle.law_connection.specs.LinkSteps.{Has}
use Rattle.law_connection.proofs.Lists.{Has-slice_get}
use Rattle.law_connection.proofs.PeerChanges.{Core, Changes, kept-heeded}
use Rattle.law_connection.specs.Connection.{Put, End, messages_of}
use Rattle.law_connection.specs.Steps.{Event, Happens, InTime, with_peer, with_messages, with_emission}
use Rattle.law_connection.specs.Steps as event
use Rattle.enet_slot.specs.Entering.{awaits, awaits_in}
use Rattle.enet_slot.specs.Receiving.{no_peer, refused_by_slot, stopped, PeerReceives}
use Rattle.enet_slot.specs.Slot.{SlotState, name_of, greatest}
use Rattle.enet_slot.specs.Emitting.{HasNothing, passes_by, Passes}
use Rattle.enet_slot.specs.Sharing.{limit_for}
use Rattle.enet_host.specs.Opening.{host_basis, seat}
use Rattle.enet_host.specs.Receiving.{Arrives, is_full, listener_of, refuses_at}
use Rattle.enet_host.specs.Receiving as receiving
use Rattle.enet_host.specs.Serving.{served_of, AllPass}
use Rattle.enet_host.specs.Ticking.{clock_after}
use Rattle.law_network.specs.Calls.{Call, Acts}
use Rattle.law_network.specs.Calls as call
use Rattle.law_network.specs.Common.{Common, common_of}
use Rattle.law_network.specs.Deeds.{Deed, AllAlone, Tick, Take, Set}
use Rattle.law_network.specs.Falling.{deeds_if}
use Rattle.law_network.specs.Lateness.{has_late}
use Rattle.law_network.specs.Log.{Logged, greatest_at}
use Rattle.law_network.specs.Network.{HostEnd, Site, is_same_name, with_end, numbers_in, numbers_of, is_earlier, is_late}
use Rattle.law_network.specs.Shown.{Shows, ShowsPeer, RunsAt}
use Rattle.law_network.specs.Steps.{Logs, LogsIf, Brought, after_event, with_event, begun}
use Rattle.law_network.specs.Telling.{IsShownAs, HasNothingNew, IsPassedBy, Gave, AllHeeded, Ticks, Turns, Rests, Brings, GoesTo, PassesOver, Times, TakesOne}
use Rattle.law_network.proofs.Delivering.{IsHeard, arrival, in-time, later, heard-peer, end-there, received-by, same-connection, heard-at-address}
use Rattle.law_network.proofs.Lists.{get-set, get-within}
use Rattle.law_network.proofs.Marked.{behind}
use Rattle.law_network.proofs.Matching.{was-set}
use Rattle.law_network.proofs.Names.{IsThere, IsSpent}
use Rattle.law_network.proofs.OneThing.{Has-append_left, Has-changed, same-part, event-ends, in-none}
use Rattle.law_network.proofs.Peers.{there-or, Moved, is_gone, goes, moved}
use Rattle.law_network.proofs.Quiet.{KeepsLog, same-log, same-peer, shows-with}
use Rattle.law_network.proofs.Serving.{IsServed, vain-shows, turned-by, given_datagram, given-logged, given-others, served-end, served-logs, same-header}
use Rattle.law_network.proofs.Submitting.{same-some, taken-by}

-- an end that is shown so
abbrev Seen : (End → Type 0) → Site → HostEnd → Type 0
Seen R new f = (end : End) × Shows new f end × R end

seen-same : (R : End → Type 0) (new : Site) (e : HostEnd) (ends : List HostEnd) → new.ends ≡ ends → Has ends e → Seen R new e → IsShownAs new e R
seen-same R new e ends is h s = record { after = e; there = subst (λ (l : List HostEnd). Has l e) (sym is) h; connection = refl; name = refl; end = s.0; shows = s.1; holds = s.2 }

seen-changed : (R : End → Type 0) (new : Site) (e : HostEnd) (ends : List HostEnd) (change : HostEnd → HostEnd) (name : PeerRef) → new.ends ≡ with_end change name ends → Has ends e → (change e).connection ≡ e.connection → (change e).name ≡ e.name
    → Seen R new (cond (is_same_name e.name name) (change e) e) → IsShownAs new e R
seen-changed R new e ends change name is h connection named' s = record {
  after = cond (is_same_name e.name name) (change e) e;
  there = subst (λ (l : List HostEnd). Has l (cond (is_same_name e.name name) (change e) e)) (sym is) (Has-changed change name ends e h);
  connection = same-part (λ (x : HostEnd). x.connection) (is_same_name e.name name) (change e) e connection;
  name = same-part (λ (x : HostEnd). x.name) (is_same_name e.name name) (change e) e named';
  end = s.0;
  shows = s.1;
  holds = s.2;
}

-- an end whose peer is as it was
still : (old new : Site) (e : HostEnd) (own far : End) (k : Shows old e own) → KeepsLog old new e.connection → ShowsPeer new.host e.name k.peer → Seen (λ end. end ≡ own) new e
still old new e own far k same shows = (with_peer own k.peer, shows-with old new e own far k.peer [] (same-peer own k.peer k.has) same k shows, sym (same-peer own k.peer k.has))

-- ---- a turn
-- an end that is asked in vain puts nothing out
vainly : (old new : Site) (e : HostEnd) (own far : End) (c : Call) (k : Shows old e own) → old.host.config.generations ≤ greatest → Acts c old.host new.host → KeepsLog old new e.connection → (x : IsThere old.host.slots e.name k.peer) (t : SlotState)
    → slice_get new.host.slots e.name.slot ≡ Some t → Passes old.host.clock x.slot t → Seen (λ end. Happens own far (event.Emit old.host.clock) end × (end.log ≡ own.log)) new e
vainly old new e own far c k low acts same x t there passes =
    let n : HasNothing old.host.clock x.slot t k.peer = subst (λ (o : Option Peering). passes_by old.host.clock x.slot t o) x.peer passes in (
      with_emission own far k.peer old.host.clock,
      vain-shows old new e own far c k low acts same x t there n,
      ((k.peer, k.has, refl), ap (λ (ms : List Message). (with_messages own far ms).log) n.puts.emits ∙ append-nil own.log),
    )

pub turns : Turns
turns w from old new gave buf x is e own far at faces = seen-changed R new e old.ends (λ (y : HostEnd). record y { greatest = l.greatest }) gave.0 (ap (λ (s : Site). s.ends) l.rest) at.there refl refl
    (turned-by (Seen R new) gave buf old new e own (record e { greatest = l.greatest }) at.few x.0 at.shows quiet passed served)
  where
    R : End → Type 0
    R end = Gave old.host.clock old new e.connection own far end ⊎ (IsPassedBy old.host.clock own far end × HasNothingNew old new e.connection)

    l : Logs w.numbers (served_of gave buf) old new
    l = subst (λ (b : Bool). LogsIf b w.numbers (served_of gave buf) old new) is x.1

    others : is_same_name e.name gave.0 ≡ false → KeepsLog old new e.connection
    others never = given-others w.numbers gave buf old new e l at.apart never

    quiet : is_same_name e.name gave.0 ≡ false → ShowsPeer new.host e.name at.shows.peer → Seen R new e
    quiet never shows = let s = still old new e own far at.shows (others never) shows in (s.0, s.1, inr ((inl s.2, ap (λ (z : End). z.log) s.2), others never))

    passed : is_same_name e.name gave.0 ≡ false → (y : IsThere old.host.slots e.name at.shows.peer) (t : SlotState) → slice_get new.host.slots e.name.slot ≡ Some t → Passes old.host.clock y.slot t → Seen R new e
    passed never y t there passes = let s = vainly old new e own far (call.Service (Some gave) buf) at.shows at.few x.0 (others never) y t there passes in (s.0, s.1, inr ((inr s.2.0, s.2.1), others never))

    served : IsServed gave buf old new e at.shows.peer → Seen R new (record e { greatest = l.greatest })
    served h =
        let g = served-logs w.numbers gave buf old new e own far at.few x.0 l at.apart faces.numbers at.shows h in (
          with_emission own far at.shows.peer old.host.clock,
          g.shows,
          inl (record {
            datagram = given_datagram w.numbers gave buf old new l;
            logged = given-logged w.numbers gave buf old new l;
            of = ap (λ (z : HostEnd). z.connection) (served-end w.numbers gave buf old new e at.shows.peer l at.apart h);
            emits = (at.shows.peer, at.shows.has, refl);
            has = g.put;
          }),
        )

passed-now : (old new : Site) → AllPass old.host.clock old.host.slots new.host.slots → (i : ℕ) (s : SlotState) → slice_get old.host.slots i ≡ Some s → (t : SlotState) × (slice_get new.host.slots i ≡ Some t)
passed-now old new all i s e = get-within new.host.slots i (let few : i < length old.host.slots = slice_get_within old.host.slots i s e in let as' : length new.host.slots ≡ length old.host.slots = all.count in omega arith)

pub rests : Rests
rests w from old new buf x e own far at live = by (there-or old.host e.name k.peer k.shows)
  where
    k : Shows old e own
    k = at.shows

    same : new.log ≡ old.log
    same = ap (λ (s : Site). s.log) x.1

    by : ((k.peer.state ≢ state.Free) × IsThere old.host.slots e.name k.peer) ⊎ ((k.peer.state ≡ state.Free) × IsSpent old.host e.name)
        → IsShownAs new e (λ end. Happens own far (event.Emit old.host.clock) end × (end.log ≡ own.log) × (new.log ≡ old.log))
    by (inr gone) = absurd (live k.peer k.has gone.0)
    by (inl lives) =
        let y : IsThere old.host.slots e.name k.peer = lives.1 in
        let all : AllPass old.host.clock old.host.slots new.host.slots = x.0.0 in
        let there : (t : SlotState) × (slice_get new.host.slots e.name.slot ≡ Some t) = passed-now old new all e.name.slot y.slot y.there in
        let s = vainly old new e own far (call.Service None buf) k at.few x.0 (same-log old new e.connection same) y there.0 there.1 (all.slots e.name.slot y.slot there.0 y.there there.1) in
        seen-same (λ end. Happens own far (event.Emit old.host.clock) end × (end.log ≡ own.log) × (new.log ≡ old.log)) new e old.ends (ap (λ (z : Site). z.ends) x.1) at.there (s.0, s.1, (s.2.0, s.2.1, same))

-- ---- a datagram is brought
all-heeded : (a : Arrival) (ps : List Put) (handled : ℕ) (p : Peering) (answer : Received) (q : Peering) (own far : End) → own.peer ≡ Some p → ((x : Put) → Has ps x → InTime own far x)
    → HandlesEach a (record { handled = handled; peer = p }) (messages_of ps) answer q → answer.stop ≡ None → AllHeeded a.full a.now a.sent ps own far (with_peer own q)
all-heeded a [] handled p answer q own far is times h none = ap (with_peer own) h.1 ∙ sym (same-peer own p is)
all-heeded a (x ∷ ps) handled p answer q own far is times (inl s) none = absurd (let z : ◌≡◌ {A = Option Stop} (Some s.0) None = sym (ap (λ (r : Received). r.stop) s.2) ∙ none in cc)
all-heeded a (x ∷ ps) handled p answer q own far is times (inr g) none = (
  p,
  is,
  times x (inl refl),
  g.1.0,
  subst (λ (y : Peering). AllHeeded a.full a.now a.sent ps (with_peer own y) far (with_peer own q)) g.1.1
      (all-heeded a ps (one_more handled) g.0 answer q (with_peer own g.0) far refl (λ y h. later own far g.0 y (times y (inr h))) g.2 none),
)

heeded-runs : (full : Bool) (now : ℕ) (sent : Option ℕ) (ps : List Put) (own far new : End) → AllHeeded full now sent ps own far new → (es : List Event) × RunsAt es own far new
heeded-runs full now sent [] own far new a = ([], sym a)
heeded-runs full now sent (x ∷ ps) own far new a =
    let b : End = with_peer own (heeded full a.0 now sent x.message).after in
    let rest = heeded-runs full now sent ps b far new a.4 in (event.Come x now sent ∷ rest.0, (b, (a.0, a.1, a.2, full, refl), rest.1))

-- a peer that doesn't wait for its client never does again
abbrev IsAway : Peering → Type 0
IsAway p = is_answering p.state ≡ false

aways : Changes IsAway
aways = record {
  quiet = λ p q same h. ap (λ (c : Core). is_answering c.state) same ∙ h;
  controls = λ p what none on h. h;
  ends = λ p why info none h. refl;
  cuts = λ p why now gone over h. refl;
  frees = λ p h. refl;
  parts = λ p info h. refl;
  disconnects = λ p info on h. refl;
  answers = λ p info on h. refl;
  waits = λ p info on h. refl;
  greets = λ p at h. refl;
  welcomes = λ p v terms at many same h. refl;
  acknowledges = λ p channel number none h. h;
  marks = λ p tick h. h;
  holds_back = λ p tick at h. h;
  refuses = λ p at h. h;
  gives_way = λ p on h. h;
  takes = λ p channel r c on at h. h;
  takes_unsequenced = λ p channel group payload on h. h;
  puts_control = λ p now timeout n next h. h;
  puts_data = λ p k occasion s n at next h. h;
  drops_data = λ p k occasion s n at next h. h;
}

-- to such a peer it is all one whether its host is full
heeded-anyway : (was full : Bool) (now : ℕ) (sent : Option ℕ) (ps : List Put) (own far new : End) (p : Peering) → own.peer ≡ Some p → IsAway p → AllHeeded was now sent ps own far new → AllHeeded full now sent ps own far new
heeded-anyway was full now sent [] own far new p is none a = a
heeded-anyway was full now sent (x ∷ ps) own far new p is none a =
    let away : IsAway a.0 = subst IsAway (same-some p a.0 (sym is ∙ a.1)) none in
    let same : heeded was a.0 now sent x.message ≡ heeded full a.0 now sent x.message =
    heeded-obeyed was a.0 now sent x.message away ∙ sym (heeded-obeyed full a.0 now sent x.message away) in
    let more : AllHeeded full now sent ps (with_peer own (heeded was a.0 now sent x.message).after) far new =
    heeded-anyway was full now sent ps (with_peer own (heeded was a.0 now sent x.message).after) far new (heeded was a.0 now sent x.message).after refl
    (kept-heeded IsAway aways was a.0 x.message.head now sent x.message.body away) a.4 in
    let rest : ((heeded full a.0 now sent x.message).stop ≡ None) × AllHeeded full now sent ps (with_peer own (heeded full a.0 now sent x.message).after) far new =
    subst (λ (o : Outcome). (o.stop ≡ None) × AllHeeded full now sent ps (with_peer own o.after) far new) same (a.3, more) in
    (a.0, a.1, a.2, rest.0, rest.1)

stopped-not : (why : Stop) (answer : Received) → stopped why ≡ answer → answer.stop ≡ None → ⊥
stopped-not why answer e none = let z : ◌≡◌ {A = Option Stop} (Some why) None = ap (λ (r : Received). r.stop) e ∙ none in cc

-- a datagram that names the slot of an end, and isn't stopped, is heard there
heard-so : (from : Addr) (text : List ℕ) (answer : Received) (old new : Site) (e : HostEnd) (p : Peering) → Acts (call.Receive from text answer) old.host new.host → IsThere old.host.slots e.name p
    → ((header : Header) (commands : List ℕ) → IsRead text header commands → header.peer ≡ e.name.slot) → e.name.slot ≢ no_peer → answer.stop ≡ None → IsHeard from text answer old new e p
heard-so from text answer old new e p acts x named' some none = by old.host.slots answer new.host.slots refl refl refl acts.arrives
  where
    by : (slots : List SlotState) (said : Received) (after : List SlotState) → slots ≡ old.host.slots → after ≡ new.host.slots → said ≡ answer → Arrives (record { basis = host_basis old.host; slots = slots }) from text said after
        → IsHeard from text answer old new e p
    by slots said after was is as-said (receiving.unreadable why u) = absurd (stopped-not why answer as-said none)
    by slots said after was is as-said (receiving.no_offer header commands read nobody never) = absurd (stopped-not stop.UnknownPeer answer as-said none)
    by slots said after was is as-said (receiving.offered header commands o reply left read nobody offer comes') = absurd (some (sym (named' header commands read) ∙ nobody))
    by slots said after was is as-said (receiving.turned_away header commands why read n r) = absurd (stopped-not why answer as-said none)
    by slots said after was is as-said (receiving.heard header commands s t reply read n open' there hears) =
        let here : header.peer ≡ e.name.slot = named' header commands read in
        let old-there : slice_get old.host.slots header.peer ≡ Some s = ap (λ (xs : List SlotState). slice_get xs header.peer) (sym was) ∙ there in
        let set : new.host.slots ≡ slice_set old.host.slots header.peer t = sym is ∙ ap (λ (xs : List SlotState). slice_set xs header.peer t) was in
        record {
          header = header;
          commands = commands;
          slot = s;
          after = t;
          read = read;
          some = n;
          here = here;
          taken = ap (λ (o : Option SlotState). refused_by_slot from header.session o) (sym there) ∙ open';
          was = ap (λ (l : ℕ). slice_get old.host.slots l) (sym here) ∙ old-there;
          there = x;
          hears =
              subst (λ (r : Received). PeerReceives (arrival old.host header s) commands s r t) as-said
              (subst (λ (xs : List SlotState). PeerReceives (record { now = old.host.clock; sent = header.sent; full = refuses_at (record { basis = host_basis old.host; slots = xs }) s }) commands s reply t) was hears);
          is = ap (λ (xs : List SlotState). slice_get xs e.name.slot) set ∙ ap (λ (l : ℕ). slice_get (slice_set old.host.slots header.peer t) l) (sym here) ∙ get-set old.host.slots header.peer s t old-there;
        }

brought-log : (from old new : Site) (d : Logged) (answer : Received) (x : ℕ) → Brought from.address d answer old new → KeepsLog old new x
brought-log from old new d answer x b = same-log old new x (ap (λ (s : Site). s.log) b.1)

brought-ends : (R : End → Type 0) (from old new : Site) (d : Logged) (answer : Received) (e : HostEnd) → Brought from.address d answer old new → Has old.ends e → Seen R new e → IsShownAs new e R
brought-ends R from old new d answer e b h s = seen-same R new e (old.ends ++ begun d.connection from.address old.host new.host) (ap (λ (z : Site). z.ends) b.1) (Has-append_left old.ends (begun d.connection from.address old.host new.host) e h) s

pub brings : Brings
brings i answer d from old new x sent named' e own far at shown live l of slot some none = brought-ends R from old new d answer e x.1 at.there (by (there-or old.host e.name k.peer k.shows))
  where
    full : Bool
    full = is_full (listener_of old.host)

    R : End → Type 0
    R end = AllHeeded full old.host.clock l.header.sent l.puts own far end

    k : Shows old e own
    k = at.shows

    passed : (is_earlier old from.address d ≡ false) × (is_late from old d ≡ false)
    passed = in-none (is_earlier old from.address d) (is_late from old d) x.0

    numbers : numbers_of old e.connection ≡ e.greatest
    numbers = ap numbers_in (end-there old.ends e at.there at.apart)

    not-late : has_late (greatest_at (numbers_of from e.connection)) (greatest_at e.greatest) d.marks ≡ false
    not-late = subst (λ (ns : List ℕ). has_late (greatest_at (numbers_of from e.connection)) (greatest_at ns) d.marks ≡ false) numbers
        (subst (λ (c : ℕ). has_late (greatest_at (numbers_of from c)) (greatest_at (numbers_of old c)) d.marks ≡ false) of passed.1)

    -- a refused peer stops the datagram
    handled : (a : Arrival) (commands : List ℕ) (q after : Peering) (b : Bool) → HearsIf b a commands q answer after → Handles a (record { handled = 0; peer = q }) commands answer after
    handled a commands q after true again = absurd (stopped-not stop.NotConnected answer (sym again.0) none)
    handled a commands q after false handles = handles

    -- whether the host is full matters to a peer that waits for its client alone
    exactly : (h : IsHeard from.address d.text answer old new e k.peer) → h.hears.peer ≡ k.peer → (end : End) → AllHeeded (arrival old.host h.header h.slot).full old.host.clock l.header.sent l.puts own far end → R end
    exactly h p end all = by (is_answering h.hears.peer.state) h.hears.peer.refused refl refl
      where
        a : Arrival
        a = arrival old.host h.header h.slot

        by : (waits away : Bool) → is_answering h.hears.peer.state ≡ waits → h.hears.peer.refused ≡ away → R end
        by false away idle is = heeded-anyway a.full full old.host.clock l.header.sent l.puts own far end h.hears.peer (k.has ∙ ap (λ (y : Peering). Some y) (sym p)) idle all
        by true false on is =
            let waits : awaits h.slot ≡ true = ap awaits_in h.hears.held ∙ ap (λ (b : Bool). b && not h.hears.peer.refused) on ∙ ap (λ (b : Bool). not b) is in
            subst (λ (b : Bool). AllHeeded b old.host.clock l.header.sent l.puts own far end) (ap (λ (b : Bool). b && full) waits) all
        by true true on is =
            let gone : is_turned_away h.hears.peer ≡ true = ap (λ (b : Bool). b && h.hears.peer.refused) on ∙ is in
            let again : HearsIf true a h.commands h.hears.peer answer h.hears.after = subst (λ (b : Bool). HearsIf b a h.commands h.hears.peer answer h.hears.after) gone h.hears.heard in
            absurd (stopped-not stop.NotConnected answer (sym again.0) none)

    heard : (h : IsHeard from.address d.text answer old new e k.peer) → Seen R new e
    heard h =
        let p : h.hears.peer ≡ k.peer = same-some h.hears.peer k.peer (sym h.hears.held ∙ ap (λ (y : SlotState). y.peer) (same-some h.slot h.there.slot (sym h.was ∙ h.there.there)) ∙ h.there.peer) in
        let same : h.header.sent ≡ l.header.sent = ap (λ (y : Header). y.sent) (same-header d.text h.header l.header h.commands (messages_of l.puts) h.read l.spelled) in
        let a : Arrival = arrival old.host h.header h.slot in
        let all : AllHeeded a.full old.host.clock h.header.sent l.puts own far (with_peer own h.hears.after) = all-heeded a l.puts 0 k.peer answer h.hears.after own far k.has
        (in-time (numbers_of from e.connection) e.greatest own far d l shown.greatest k.greatest not-late)
        (handles-each a (record { handled = 0; peer = k.peer }) h.commands (messages_of l.puts) answer h.hears.after (behind d.text l.header h.header h.read.front h.commands (messages_of l.puts) h.read.split h.read.spelled l.spelled)
        (subst (λ (y : Peering). Handles a (record { handled = 0; peer = y }) h.commands answer h.hears.after) p (handled a h.commands h.hears.peer h.hears.after (is_turned_away h.hears.peer) h.hears.heard))) none in
        let run = heeded-runs a.full old.host.clock h.header.sent l.puts own far (with_peer own h.hears.after) all in (
          with_peer own h.hears.after,
          shows-with old new e own far h.hears.after run.0 run.1 (brought-log from old new d answer e.connection x.1) k
              (heard-peer (call.Receive from.address d.text answer) old new e k.peer h.hears.after at.few x.1.0 h.slot h.after h.was h.there h.hears.left h.is),
          exactly h p (with_peer own h.hears.after) (subst (λ (o : Option ℕ). AllHeeded a.full old.host.clock o l.puts own far (with_peer own h.hears.after)) same all),
        )

    by : ((k.peer.state ≢ state.Free) × IsThere old.host.slots e.name k.peer) ⊎ ((k.peer.state ≡ state.Free) × IsSpent old.host e.name) → Seen R new e
    by (inr gone) = absurd (live k.peer k.has gone.0)
    by (inl lives) =
        heard (heard-so from.address d.text answer old new e k.peer x.1.0 lives.1 (λ g commands r. sym (named' d (Has-slice_get from.log i d sent) g commands r) ∙ slot) (λ z. some (slot ∙ z)) none)

pub passes-over : PassesOver
passes-over i answer d from old new x sent named' e own far at shown apart = brought-ends R from old new d answer e x.1 at.there (received-by (Seen R new e) from.address d.text answer old new e own at.few x.1.0 at.shows quiet let-go heard)
  where
    R : End → Type 0
    R end = (end ≡ own) ⊎ GoesTo from.address old e d own far end

    same : KeepsLog old new e.connection
    same = brought-log from old new d answer e.connection x.1

    quiet : ShowsPeer new.host e.name at.shows.peer → Seen R new e
    quiet shows = let s = still old new e own far at.shows same shows in (s.0, s.1, inl s.2)

    let-go : (header : Header) (commands : List ℕ) → IsRead d.text header commands → header.peer ≡ no_peer → seat (host_basis old.host) from.address old.host.slots ≡ Some e.name.slot → is_answering at.shows.peer.state ≡ true
        → ShowsPeer new.host e.name (freed at.shows.peer) → Seen R new e
    let-go header commands read stranger seats on shows =
        let one : Happens own far event.GiveWay (with_peer own (freed at.shows.peer)) = (at.shows.peer, at.shows.has, on, refl) in (
          with_peer own (freed at.shows.peer),
          shows-with old new e own far (freed at.shows.peer) (event.GiveWay ∷ []) (with_peer own (freed at.shows.peer), one, refl) same at.shows shows,
          inr (named' d (Has-slice_get from.log i d sent) header commands read ∙ stranger, seats, one),
        )

    heard : IsHeard from.address d.text answer old new e at.shows.peer → Seen R new e
    heard h =
        let passed = in-none (is_earlier old from.address d) (is_late from old d) x.0 in
        let named : d.peer ≡ h.header.peer = named' d (Has-slice_get from.log i d sent) h.header h.commands h.read in
        let of : e.connection ≡ d.connection =
        same-connection old from.address d e at.shows.peer h.there at.there (λ z. h.some (sym named ∙ z)) (named ∙ h.here) (heard-at-address from.address d.text answer old new e at.shows.peer h) passed.0 in
        absurd (apart (sym of))

-- ---- time, and a user's take
runs-ticks : (now : ℕ) (own far new : End) → Ticks now own far new → (es : List Event) × RunsAt es own far new
runs-ticks now own far new (inl t) = (event.Tick now ∷ [], (new, t, refl))
runs-ticks now own far new (inr t) = (event.Tick now ∷ event.Set (event.ThrottleLimit t.0) ∷ [], (t.1, t.2, (new, t.3, refl)))

ticks-so : (now limit : ℕ) (short b : Bool) (own far : End) (p q : Peering) → own.peer ≡ Some p → AllAlone (Tick now short ∷ deeds_if b (Set (event.ThrottleLimit limit) (Ok tt))) p q → Ticks now own far (with_peer own q)
ticks-so now limit short false own far p q is a = inl (p, is, short, ap (with_peer own) (sym a.2 ∙ a.1))
ticks-so now limit short true own far p q is a =
    let set = was-set (event.ThrottleLimit limit) tt a.0 a.2.0 a.2.1 in
    inr (limit, with_peer own a.0, (p, is, short, ap (with_peer own) a.1), (a.0, refl, set.0, ap (with_peer own) (sym a.2.2 ∙ set.1)))

pub times : Times
times w from old new ms x e own far at live = by (moved (call.Tick ms) old.host new.host e.name k.peer at.few x.0 k.shows) (there-or old.host e.name k.peer k.shows)
  where
    k : Shows old e own
    k = at.shows

    h : Common
    h = common_of old.host

    R : End → Type 0
    R end = Ticks (clock_after old.host.clock ms) own far end

    by : Moved (call.Tick ms) old.host new.host e.name k.peer → ((k.peer.state ≢ state.Free) × IsThere old.host.slots e.name k.peer) ⊎ ((k.peer.state ≡ state.Free) × IsSpent old.host e.name) → IsShownAs new e R
    by moves (inr gone) = absurd (live k.peer k.has gone.0)
    by (is_gone shows never) (inl lives) = absurd (never k.peer lives.1)
    by (goes y ds q fell alone shows) (inl lives) =
        let a = subst (λ (l : List Deed). AllAlone l k.peer q) fell alone in
        let now : ℕ = clock_after old.host.clock ms in
        let short : Bool = h.short e.name.slot in
        let t : Ticks now own far (with_peer own q) = ticks-so now (limit_for h.config.outgoing (h.standing now) y.slot.emitted (peers.moved short k.peer now)) short (h.is_due now && is_connected (peers.moved short k.peer now).state) own far k.peer q k.has a in
        let run = runs-ticks (clock_after old.host.clock ms) own far (with_peer own q) t in
        seen-same R new e old.ends (ap (λ (z : Site). z.ends) x.1) at.there
        (with_peer own q, shows-with old new e own far q run.0 run.1 (same-log old new e.connection (ap (λ (z : Site). z.log) x.1)) k shows, t)

none-taken : (old new : Site) (e : HostEnd) (own far : End) → old.host.config.generations ≤ greatest → Acts (call.NextEvent None) old.host new.host → KeepsLog old new e.connection → Shows old e own
    → Seen (λ end. (end ≡ own) ⊎ Happens own far event.Take end) new e
none-taken old new e own far low acts same k = by (moved (call.NextEvent None) old.host new.host e.name k.peer low acts k.shows)
  where
    so : ShowsPeer new.host e.name k.peer → Seen (λ end. (end ≡ own) ⊎ Happens own far event.Take end) new e
    so shows = let s = still old new e own far k same shows in (s.0, s.1, inl s.2)

    by : Moved (call.NextEvent None) old.host new.host e.name k.peer → Seen (λ end. (end ≡ own) ⊎ Happens own far event.Take end) new e
    by (is_gone shows never) = so shows
    by (goes y ds q fell alone shows) =
        let a : AllAlone (Take None ∷ []) k.peer q = subst (λ (l : List Deed). AllAlone l k.peer q) fell alone in
        so (subst (λ (z : Peering). ShowsPeer new.host e.name z) (sym (sym a.1.1 ∙ a.2)) shows)

pub takes-one : TakesOne
takes-one w from old new None x e own far at =
    let same : KeepsLog old new e.connection = same-log old new e.connection (ap (λ (z : Site). z.log) x.1) in
    seen-same (λ end. (end ≡ own) ⊎ Happens own far event.Take end) new e old.ends (ap (λ (z : Site). z.ends) x.1) at.there (none-taken old new e own far at.few x.0 same at.shows)
takes-one w from old new (Some told') x e own far at =
    let a : Rattle.enet_host.specs.Calls.TakesOne old.host told' new.host = x.0 in
    let name : PeerRef = name_of a.from a.first.slot in
    let ends = subst (λ (t : Told). after_event t old.ends ≡ with_end (with_event t) name old.ends) (sym a.gives.told) (event-ends name a.gives.taken.event old.ends) in
    seen-changed R new e old.ends (with_event told') name (ap (λ (s : Site). s.ends) x.1 ∙ ends) at.there refl refl
    (taken-by (Seen R new) told' old new e own far at.few a same at.shows (λ shows. let s = still old new e own far at.shows same shows in (s.0, s.1, inl s.2)) (λ end takes shows. (end, shows, inr takes)))
  where
    R : End → Type 0
    R end = (end ≡ own) ⊎ Happens own far event.Take end

    same : KeepsLog old new e.connection
    same = same-log old new e.connection (ap (λ (z : Site). z.log) x.1)
