-- A call of service: each end that is asked puts a datagram out or has none.
use Rattle.std.proofs.Common.{◌≡◌, ◌≢◌, ◌≤◌, ◌<◌, ◌||◌, ℕ, zero, suc, ◌⊎◌, inl, inr, Bool, true, false, cond, List, [], ◌∷◌, ◌++◌, length, map, take, refl, sym, ap, subst, ◌∙◌, arith, Option, Some, None, slice_get}
use Rattle.std.proofs.lemmas.List.{map-append}
use Rattle.std.specs.List.{list_any}
use Rattle.std.proofs.lemmas.Bool.Decides.{nat_tests}
use Rattle.std.proofs.lemmas.Option.{slice_get_within}
use Rattle.enet_codec.specs.declared.address.Addr.{Addr}
use Rattle.enet_codec.specs.declared.event.PeerRef.{PeerRef}
use Rattle.enet_codec.specs.declared.command.Head.{Head}
use Rattle.enet_codec.specs.declared.header.Header.{Header}
use Rattle.enet_codec.specs.Header.{masked}
use Rattle.enet_codec.specs.Datagram.{SpellsDatagram}
use Rattle.enet_codec.proofs.HeaderLaws.{one_header}
use Rattle.enet_peer.specs.Heading.{IsRead}
use Rattle.enet_codec.specs.Message.{Message, Body, acknowledge, connect, verify_connect, disconnect, ping, send_reliable, send_unreliable, send_fragment, send_unsequenced, bandwidth_limit, throttle_configure, send_unreliable_fragment}
use Rattle.enet_fragment.specs.declared.data.DataCommand.{DataCommand}
use Rattle.enet_fragment.specs.DataCommand.{data_of}
use Rattle.enet_outbox.specs.Emission.{header_for, filled, HasDatagram}
use Rattle.enet_outbox.proofs.Spelled.{datagram-spelled}
use Rattle.enet_rtt.specs.Clock.{told_time}
use Rattle.enet_peer.specs.declared.parts.PeerState.TheVariants as state
use Rattle.enet_peer.specs.Peering.{Peering}
use Rattle.enet_peer.specs.Calls.{PutsOut, pace_of, destination_of}
use Rattle.law_connection.specs.LinkSteps.{Has}
use Rattle.law_connection.specs.Connection.{Put, End, messages_of, sent_on, put_by}
use Rattle.law_connection.specs.Connection as connection
use Rattle.law_connection.specs.Law.{offset_in}
use Rattle.law_connection.specs.Steps.{Emit, with_emission}
use Rattle.law_connection.proofs.Emits.{Has-from_map}
use Rattle.law_connection.proofs.Runs.{reached-append, reached-none}
use Rattle.enet_slot.specs.Slot.{SlotState, with_peer, greatest}
use Rattle.enet_host.specs.Turns.{turn_of}
use Rattle.enet_slot.specs.Emitting.{PeerEmits, HasNothing, passes_by, Passes}
use Rattle.enet_host.specs.Calls.{address_named}
use Rattle.enet_host.specs.Serving.{served_of, InTurn, EmitsInTurn, AllPass}
use Rattle.law_network.specs.Calls.{Call, Acts}
use Rattle.law_network.specs.Calls as call
use Rattle.law_network.proofs.Lists.{get-within}
use Rattle.law_network.proofs.Names.{IsThere, IsSpent, same-generations, spent-step, spent-nobody, there-named}
use Rattle.law_network.proofs.Slots.{emitted-apart}
use Rattle.law_network.specs.declared.mark.Mark.{Mark}
use Rattle.law_network.specs.declared.mark.MarkKind.{MarkKind}
use Rattle.law_network.specs.declared.mark.MarkKind.TheVariants.{Data, Acknowledgement, Control}
use Rattle.law_network.specs.Log.{Logged, greatest_at, counted_all, numbers_for, reached}
use Rattle.law_network.specs.Marks.{mark_as, mark_by_body, mark_of, Counts}
use Rattle.law_network.specs.Network.{HostEnd, Site, is_same_name, is_at}
use Rattle.law_network.specs.Shown.{ShowsPeer, IsLogged, Shows, RunsAt, Went, IsApart}
use Rattle.law_network.specs.Telling.{HasPut}
use Rattle.law_network.specs.Steps.{Logs}
use Rattle.law_network.proofs.Marked.{marks_of, marked-datagram, Has-marks}
use Rattle.law_network.proofs.Addresses.{same-address, there-at}
use Rattle.law_network.proofs.Counting.{counted-long, counts-all}
use Rattle.law_network.proofs.PutOut.{plain-filled}
use Rattle.law_network.proofs.Peers.{there-or, shows-held, shows-gone, shows-after}
use Rattle.law_network.proofs.Quiet.{KeepsLog, goes-still}
use Rattle.law_network.proofs.Steady.{mtu-stays}
use Rattle.law_network.proofs.Submitting.{same-name, same-some, not-there, other-slot}

-- lists

Has-left : {X : Type 0} (a b : List X) (x : X) → Has a x → Has (a ++ b) x
Has-left [] b x h = absurd h
Has-left (y ∷ a) b x (inl e) = inl e
Has-left (y ∷ a) b x (inr h) = inr (Has-left a b x h)

Has-right : {X : Type 0} (a b : List X) (x : X) → Has b x → Has (a ++ b) x
Has-right [] b x h = h
Has-right (y ∷ a) b x h = inr (Has-right a b x h)

Has-map : {X Y : Type 0} (f : X → Y) (xs : List X) (x : X) → Has xs x → Has (map f xs) (f x)
Has-map f [] x h = absurd h
Has-map f (y ∷ xs) x (inl e) = inl (ap f e)
Has-map f (y ∷ xs) x (inr h) = inr (Has-map f xs x h)

get-push : {X : Type 0} (xs : List X) (y : X) (k : ℕ) (z : X) → slice_get (xs ++ y ∷ []) k ≡ Some z → (slice_get xs k ≡ Some z) ⊎ (y ≡ z)
get-push [] y zero z e = inr (cc)
get-push [] y (suc k) z e = absurd (cc)
get-push (x ∷ xs) y zero z e = inl e
get-push (x ∷ xs) y (suc k) z e = get-push xs y k z e

still-logged : (log more : List Put) (d : Logged) → IsLogged log d → IsLogged (log ++ more) d
still-logged log more d k = record {
  header = k.header;
  peer = k.peer;
  puts = k.puts;
  spelled = k.spelled;
  logged = λ x h. Has-left log more x (k.logged x h);
  marked = k.marked;
  alike = k.alike;
}

-- what goes into a log

put-messages : (g : Message → Put) (ms : List Message) → ((m : Message) → (g m).message ≡ m) → messages_of (map g ms) ≡ ms
put-messages g [] same = refl
put-messages g (m ∷ ms) same = (λ i. same m i ∷ put-messages g ms same i)

sent-with : (channel : ℕ) (own : End) (g : Message → Put) (ms : List Message) → ((m : Message) → (g m).message ≡ m)
    → sent_on channel (record own { log = own.log ++ map g ms }) ≡ connection.reached channel (sent_on channel own) ms
sent-with channel own g ms same =
    ap (connection.reached channel 0) (map-append (λ (p : Put). p.message) own.log (map g ms) ∙ ap (λ (l : List Message). messages_of own.log ++ l) (put-messages g ms same))
    ∙ reached-append channel 0 (messages_of own.log) ms

-- the reach of a mark

noted-as : (kind : MarkKind) (channel number : ℕ) (mark : Mark) (sent_then : ℕ) (xs os : List ℕ) → Some (mark_as kind channel number) ≡ Some mark → greatest_at (numbers_for kind xs os) channel ≡ sent_then
    → reached xs os mark ≡ record mark { sent_then = sent_then }
noted-as kind channel number mark sent_then xs os e far =
    let same : mark_as kind channel number ≡ mark = cc in
    subst (λ (x : Mark). reached xs os x ≡ record x { sent_then = sent_then }) same
    (ap (λ (r : ℕ). record (mark_as kind channel number) { sent_then = r }) far)

noted-by : (h : Head) (b : Body) (mark : Mark) (own other : End) (xs os : List ℕ) → greatest_at xs h.channel ≡ sent_on h.channel own → greatest_at os h.channel ≡ sent_on h.channel other → mark_by_body h b ≡ Some mark
    → reached xs os mark ≡ record mark { sent_then = (put_by own other (record { head = h; body = b })).sent_then }
noted-by h (acknowledge number time) mark own other xs os here there e = noted-as Acknowledgement h.channel number mark (sent_on h.channel other) xs os e there
noted-by h (connect o) mark own other xs os here there e = noted-as Control h.channel h.number mark (sent_on h.channel own) xs os e here
noted-by h (verify_connect v) mark own other xs os here there e = noted-as Control h.channel h.number mark (sent_on h.channel own) xs os e here
noted-by h (disconnect i) mark own other xs os here there e = noted-as Control h.channel h.number mark (sent_on h.channel own) xs os e here
noted-by h ping mark own other xs os here there e = noted-as Control h.channel h.number mark (sent_on h.channel own) xs os e here
noted-by h (send_reliable p) mark own other xs os here there e = noted-as Data h.channel h.number mark (sent_on h.channel own) xs os e here
noted-by h (send_unreliable n p) mark own other xs os here there e = noted-as Data h.channel h.number mark (sent_on h.channel own) xs os e here
noted-by h (send_fragment f p) mark own other xs os here there e = noted-as Data h.channel h.number mark (sent_on h.channel own) xs os e here
noted-by h (send_unsequenced g p) mark own other xs os here there e = absurd (cc)
noted-by h (bandwidth_limit i o) mark own other xs os here there e = noted-as Control h.channel h.number mark (sent_on h.channel own) xs os e here
noted-by h (throttle_configure i a d) mark own other xs os here there e = noted-as Control h.channel h.number mark (sent_on h.channel own) xs os e here
noted-by h (send_unreliable_fragment f p) mark own other xs os here there e = noted-as Data h.channel h.number mark (sent_on h.channel own) xs os e here

-- data commands have the mark of the end that puts them out
data-put : (own other : End) (h : Head) (b : Body) (c : DataCommand) → data_of (record { head = h; body = b }) ≡ Some c → (put_by own other (record { head = h; body = b })).sent_then ≡ sent_on h.channel own
data-put own other h (acknowledge number time) c e = absurd (cc)
data-put own other h b c e = refl

-- one text has one header
pub same-header : (text : List ℕ) (g h : Header) (commands : List ℕ) (ms : List Message) → IsRead text g commands → SpellsDatagram text h ms → g ≡ h
same-header text g h commands ms r s = let one = one_header r.front s.front commands s.commands g h r.spelled s.header (sym r.split ∙ s.split) in one.1

-- an end's peer is asked in vain

unlogged-shows : (old new : Site) (e : HostEnd) (own far : End) (now : ℕ) (q : Peering) (buf : List ℕ) (k : Shows old e own) → PutsOut now None k.peer q buf → KeepsLog old new e.connection → ShowsPeer new.host e.name q → Shows new e (with_emission own far k.peer now)
unlogged-shows old new e own far now q buf k out same shows = record {
  peer = q;
  has = has;
  shows = shows;
  long = k.long;
  numbers = k.numbers;
  log = λ n d there of. still-logged own.log (map put ms) d (k.log n d (same n d there of) of);
  greatest = λ channel low. k.greatest channel low ∙ sym (reached-none channel (sent_on channel own)) ∙ ap (connection.reached channel (sent_on channel own)) (sym out.emits) ∙ sym (sent-with channel own put ms (λ m. refl));
  submitted = k.submitted;
  mtu = mtu-stays e.mtu (Emit now ∷ []) own far (with_emission own far k.peer now) k.peer q k.has runs has refl k.mtu;
  taken = k.taken;
  events = k.events;
}
  where
    runs : RunsAt (Emit now ∷ []) own far (with_emission own far k.peer now)
    runs = (with_emission own far k.peer now, (k.peer, k.has, refl), refl)

    has : (with_emission own far k.peer now).peer ≡ Some q
    has = ap (λ (x : Peering). Some x) (sym out.after)

    ms : List Message
    ms = (filled (pace_of k.peer now) k.peer.outbox).messages

    put : Message → Put
    put = put_by (record own { log = own.log ++ map (λ (m : Message). record { message = m; sent_then = 0 }) ms }) far

goes-unlogged : (old new : Site) (e : HostEnd) (own far : End) (now : ℕ) (q : Peering) (buf : List ℕ) (k : Shows old e own) → PutsOut now None k.peer q buf → KeepsLog old new e.connection → ShowsPeer new.host e.name q → Went own far new e
goes-unlogged old new e own far now q buf k out same shows = record {
  new = with_emission own far k.peer now;
  events = Emit now ∷ [];
  runs = (with_emission own far k.peer now, (k.peer, k.has, refl), refl);
  shows = unlogged-shows old new e own far now q buf k out same shows;
}

-- or puts out a datagram, which is logged last

-- what comes of it: the end that put the datagram out is shown, and all that it put out is in the datagram
pub record Logging (now : ℕ) (new : Site) (f : HostEnd) (own far : End) (p : Peering) (d : Logged) : Type 0 where
  pub runs : RunsAt (Emit now ∷ []) own far (with_emission own far p now)
  pub shows : Shows new f (with_emission own far p now)
  pub put : HasPut now own (with_emission own far p now) d

went-logged : (now : ℕ) (new : Site) (f : HostEnd) (own far : End) (p : Peering) (d : Logged) → Logging now new f own far p d → Went own far new f
went-logged now new f own far p d g = record { new = with_emission own far p now; events = Emit now ∷ []; runs = g.runs; shows = g.shows }

any-of : {X : Type 0} (p : X → Bool) (xs : List X) (x : X) → Has xs x → p x ≡ true → list_any p xs ≡ true
any-of p [] x h t = absurd h
any-of p (y ∷ xs) x (inl e) t = ap (λ (b : Bool). b || list_any p xs) (ap p e ∙ t)
any-of p (y ∷ xs) x (inr h) t = or-true (p y) (list_any p xs) (any-of p xs x h t)
  where
    or-true : (a b : Bool) → b ≡ true → (a || b) ≡ true
    or-true true b e = refl
    or-true false b e = e

logs-one : (old new : Site) (e : HostEnd) (own far : End) (now len : ℕ) (q : Peering) (buf : List ℕ) (k : Shows old e own) → PutsOut now (Some len) k.peer q buf → ShowsPeer new.host e.name q
    → (numbers others : List ℕ) (marks : List Mark) (d : Logged) → Counts (take len buf) e.greatest numbers others marks → ((channel : ℕ) → channel < 255 → greatest_at others channel ≡ sent_on channel far)
    → (h : Header) (commands : List ℕ) → IsRead (take len buf) h commands → d.peer ≡ h.peer → d.text ≡ take len buf → d.marks ≡ marks → new.log ≡ old.log ++ d ∷ [] → Logging now new (record e { greatest = numbers }) own far k.peer d
logs-one old new e own far now len q buf k out shows numbers others noted' d counts theirs h commands front names text marked' logs = record {
  runs = runs;
  shows = record {
    peer = q;
    has = has;
    shows = shows;
    long = k.long;
    numbers = ap length counted ∙ counted-long (marks_of ms) e.greatest ∙ k.numbers;
    log = λ n x there of. elim (get-push old.log d n x (subst (λ (l : List Logged). slice_get l n ≡ Some x) logs there)) [
      | inl before ↦ still-logged own.log (map put ms) x (k.log n x before of)
      | inr is ↦ subst (λ (y : Logged). IsLogged (own.log ++ map put ms) y) is logged
    ];
    greatest = λ channel low. far-as channel low ∙ sym (sent-with channel own put ms (λ m. refl));
    submitted = k.submitted;
    mtu = mtu-stays e.mtu (Emit now ∷ []) own far (with_emission own far k.peer now) k.peer q k.has runs has refl k.mtu;
    taken = k.taken;
    events = k.events;
  };
  put = record {
    is = logged;
    all = refl;
    sent = λ y there asks. (let r = Has-from_map put ms y there in
        ap (λ (b : Bool). cond b (Some (told_time now k.peer.offset)) None) (any-of (λ (m : Message). m.head.acknowledge) ms r.0 r.1 (ap (λ (z : Put). z.message.head.acknowledge) r.2 ∙ asks))
        ∙ ap (λ (o : Option Peering). Some (told_time now (offset_in o))) (sym k.has));
  };
}
  where
    runs : RunsAt (Emit now ∷ []) own far (with_emission own far k.peer now)
    runs = (with_emission own far k.peer now, (k.peer, k.has, refl), refl)

    has : (with_emission own far k.peer now).peer ≡ Some q
    has = ap (λ (x : Peering). Some x) (sym out.after)

    ms : List Message
    ms = (filled (pace_of k.peer now) k.peer.outbox).messages

    marking : End
    marking = record own { log = own.log ++ map (λ (m : Message). record { message = m; sent_then = 0 }) ms }

    put : Message → Put
    put = put_by marking far

    datagram : HasDatagram now (destination_of k.peer) ms len buf
    datagram = out.emits

    header : Header
    header = masked (header_for now (destination_of k.peer) ms)

    spelled : SpellsDatagram (take len buf) header ms
    spelled = datagram-spelled now (destination_of k.peer) ms len buf datagram

    read : counts.read ≡ marks_of ms
    read = marked-datagram header ms (take len buf) counts.read datagram.few spelled counts.marked

    counted : numbers ≡ counted_all e.greatest (marks_of ms)
    counted = counts.counted ∙ ap (counted_all e.greatest) read

    marks : d.marks ≡ map (reached numbers others) (marks_of ms)
    marks = marked' ∙ counts.noted ∙ ap (map (reached numbers others)) read

    far-as : (channel : ℕ) → channel < 255 → greatest_at numbers channel ≡ connection.reached channel (sent_on channel own) ms
    far-as channel low =
        ap (λ (l : List ℕ). greatest_at l channel) counted ∙ counts-all ms e.greatest channel k.numbers low (plain-filled (pace_of k.peer now) k.peer.outbox)
        ∙ ap (λ (g : ℕ). connection.reached channel g ms) (k.greatest channel low)

    noted : (m : Message) (mark : Mark) → m.head.channel < 255 → mark_of m ≡ Some mark → reached numbers others mark ≡ record mark { sent_then = (put m).sent_then }
    noted m mark low is =
        noted-by m.head m.body mark marking far numbers others (far-as m.head.channel low ∙ sym (sent-with m.head.channel own (λ (m : Message). record { message = m; sent_then = 0 }) ms (λ m. refl)))
        (theirs m.head.channel low) is

    marked : (m : Message) (mark : Mark) → Has ms m → m.head.channel < 255 → mark_of m ≡ Some mark → Has d.marks (record mark { sent_then = (put m).sent_then })
    marked m mark there low is =
        subst (λ (l : List Mark). Has l (record mark { sent_then = (put m).sent_then })) (sym marks)
        (subst (Has (map (reached numbers others) (marks_of ms))) (noted m mark low is) (Has-map (reached numbers others) (marks_of ms) mark (Has-marks ms m mark there is)))

    alike : (m : Message) (c : DataCommand) (mark : Mark) → m.head.channel < 255 → data_of m ≡ Some c → Has d.marks mark → mark.kind ≡ Data → mark.channel ≡ m.head.channel → mark.sent_then ≡ (put m).sent_then
    alike m c mark low is there kind on =
        let r = Has-from_map (reached numbers others) (marks_of ms) mark (subst (λ (l : List Mark). Has l mark) marks there) in
        let kind-of : r.0.kind ≡ Data = ap (λ (x : Mark). x.kind) r.2 ∙ kind in
        let on-it : r.0.channel ≡ m.head.channel = ap (λ (x : Mark). x.channel) r.2 ∙ on in
        ap (λ (x : Mark). x.sent_then) (sym r.2)
        ∙ (λ i. greatest_at (numbers_for (kind-of i) numbers others) (on-it i))
        ∙ far-as m.head.channel low ∙ sym (sent-with m.head.channel own (λ (m : Message). record { message = m; sent_then = 0 }) ms (λ m. refl))
        ∙ sym (data-put marking far m.head m.body c is)

    logged : IsLogged (own.log ++ map put ms) d
    logged = record {
      header = header;
      peer = names ∙ ap (λ (x : Header). x.peer) (same-header (take len buf) h header commands ms front spelled);
      puts = map put ms;
      spelled = subst (λ (l : List ℕ). SpellsDatagram l header (messages_of (map put ms))) (sym text) (subst (SpellsDatagram (take len buf) header) (sym (put-messages put ms (λ m. refl))) spelled);
      logged = λ y there. Has-right own.log (map put ms) y there;
      marked = λ y mark there low is. (let r = Has-from_map put ms y there in
          subst (λ (z : Put). z.message.head.channel < 255 → mark_of z.message ≡ Some mark → Has d.marks (record mark { sent_then = z.sent_then })) r.2 (λ low' is'. marked r.0 mark r.1 low' is') low is);
      alike = λ y c mark there low is here kind on. (let r = Has-from_map put ms y there in
          subst (λ (z : Put). z.message.head.channel < 255 → data_of z.message ≡ Some c → mark.channel ≡ z.message.head.channel → mark.sent_then ≡ z.sent_then) r.2
          (λ low' is' on'. alike r.0 c mark low' is' here kind on') low is on);
    }

-- each slot is asked in vain

pub vain-shows : (old new : Site) (e : HostEnd) (own far : End) (c : Call) (k : Shows old e own) → old.host.config.generations ≤ greatest → Acts c old.host new.host → KeepsLog old new e.connection → (x : IsThere old.host.slots e.name k.peer) (t : SlotState)
    → slice_get new.host.slots e.name.slot ≡ Some t → HasNothing old.host.clock x.slot t k.peer → Shows new e (with_emission own far k.peer old.host.clock)
vain-shows old new e own far c k low acts same x t there n = unlogged-shows old new e own far old.host.clock n.after n.buf k n.puts same
    (shows-after c old.host new.host e.name k.peer n.after x t (with_peer x.slot n.after).emitted low (same-generations c old.host new.host acts) there n.left)

vain : (old new : Site) (e : HostEnd) (own far : End) (c : Call) (k : Shows old e own) → old.host.config.generations ≤ greatest → Acts c old.host new.host → KeepsLog old new e.connection → (x : IsThere old.host.slots e.name k.peer) (t : SlotState)
    → slice_get new.host.slots e.name.slot ≡ Some t → Passes old.host.clock x.slot t → Went own far new e
vain old new e own far c k low acts same x t there passes =
    let n : HasNothing old.host.clock x.slot t k.peer = subst (λ (o : Option Peering). passes_by old.host.clock x.slot t o) x.peer passes in
    goes-unlogged old new e own far old.host.clock n.after n.buf k n.puts same
    (shows-after c old.host new.host e.name k.peer n.after x t (with_peer x.slot n.after).emitted low (same-generations c old.host new.host acts) there n.left)

pub goes-passed : (buf : List ℕ) (old new : Site) (e : HostEnd) (own far : End) → old.host.config.generations ≤ greatest → Acts (call.Service None buf) old.host new.host → KeepsLog old new e.connection → Shows old e own → Went own far new e
goes-passed buf old new e own far low acts same k = by (there-or old.host e.name k.peer k.shows)
  where
    by : ((k.peer.state ≢ state.Free) × IsThere old.host.slots e.name k.peer) ⊎ ((k.peer.state ≡ state.Free) × IsSpent old.host e.name) → Went own far new e
    by (inr gone) = goes-still old new e own far k same (shows-gone new.host e.name k.peer gone.0 (spent-step (call.Service None buf) old.host new.host e.name low acts gone.1))
    by (inl live) =
        let x : IsThere old.host.slots e.name k.peer = live.1 in
        let all : AllPass old.host.clock old.host.slots new.host.slots = acts.0 in
        let there : (t : SlotState) × (slice_get new.host.slots e.name.slot ≡ Some t) =
        get-within new.host.slots e.name.slot (let few : e.name.slot < length old.host.slots = slice_get_within old.host.slots e.name.slot x.slot x.there in let as' : length new.host.slots ≡ length old.host.slots = all.count in omega arith) in
        vain old new e own far (call.Service None buf) k low acts same x there.0 there.1 (all.slots e.name.slot x.slot there.0 x.there there.1)

-- one slot gives a datagram

-- two slots have the same place in turn only if they are the same
turns-apart : (n from i j : ℕ) → i < n → j < n → turn_of n from i ≡ turn_of n from j → i ≡ j
turns-apart n from i j a b e = grind (arith, nat_tests)

data Order (a b : ℕ) : Type 0 where
  before : a < b → Order a b
  equal : a ≡ b → Order a b
  after : b < a → Order a b

order : (a b : ℕ) → Order a b
order zero zero = equal refl
order zero (suc b) = before (omega arith)
order (suc a) zero = after (omega arith)
order (suc a) (suc b) = by (order a b)
  where
    by : Order a b → Order (suc a) (suc b)
    by (before h) = before (omega arith)
    by (equal h) = equal (ap (λ (n : ℕ). suc n) h)
    by (after h) = after (omega arith)

pub there-now : (gave : PeerRef × Addr × ℕ) (buf : List ℕ) (old new : Site) → EmitsInTurn old.host.clock old.host.service_from old.host.slots (served_of gave buf) new.host.slots
    → (i : ℕ) (s : SlotState) → slice_get old.host.slots i ≡ Some s → (t : SlotState) × (slice_get new.host.slots i ≡ Some t)
there-now gave buf old new given i s e = get-within new.host.slots i (let few : i < length old.host.slots = slice_get_within old.host.slots i s e in let as' : length new.host.slots ≡ length old.host.slots = given.count in omega arith)

-- it is the slot of an end, or the end puts nothing out
pub record IsServed (gave : PeerRef × Addr × ℕ) (buf : List ℕ) (old new : Site) (e : HostEnd) (p : Peering) : Type 0 where
  pub there : IsThere old.host.slots e.name p
  pub after : SlotState
  pub is : slice_get new.host.slots e.name.slot ≡ Some after
  pub gives : PeerEmits old.host.clock gave.2 buf there.slot after
  pub slot : e.name.slot ≡ gave.0.slot
  pub generation : e.name.generation ≡ gave.0.generation

-- whatever is to be shown of an end after the turn: by its peer, which is as it was, is asked in vain, or gives the datagram
pub turned-by : (M : HostEnd → Type 0) (gave : PeerRef × Addr × ℕ) (buf : List ℕ) (old new : Site) (e : HostEnd) (own : End) (f : HostEnd) → old.host.config.generations ≤ greatest → Acts (call.Service (Some gave) buf) old.host new.host → (k : Shows old e own)
    → (is_same_name e.name gave.0 ≡ false → ShowsPeer new.host e.name k.peer → M e)
    → (is_same_name e.name gave.0 ≡ false → (x : IsThere old.host.slots e.name k.peer) (t : SlotState) → slice_get new.host.slots e.name.slot ≡ Some t → Passes old.host.clock x.slot t → M e)
    → (IsServed gave buf old new e k.peer → M f) → M (cond (is_same_name e.name gave.0) f e)
turned-by M gave buf old new e own f low acts k still passed served = by (there-or old.host e.name k.peer k.shows)
  where
    c : Call
    c = call.Service (Some gave) buf

    given : EmitsInTurn old.host.clock old.host.service_from old.host.slots (served_of gave buf) new.host.slots
    given = acts.0

    stays : is_same_name e.name gave.0 ≡ false → M e → M (cond (is_same_name e.name gave.0) f e)
    stays never m = subst (λ (b : Bool). M (cond b f e)) (sym never) m

    changes : is_same_name e.name gave.0 ≡ true → M f → M (cond (is_same_name e.name gave.0) f e)
    changes sure m = subst (λ (b : Bool). M (cond b f e)) (sym sure) m

    turn : ℕ → ℕ
    turn j = turn_of (length old.host.slots) old.host.service_from j

    by : ((k.peer.state ≢ state.Free) × IsThere old.host.slots e.name k.peer) ⊎ ((k.peer.state ≡ state.Free) × IsSpent old.host e.name) → M (cond (is_same_name e.name gave.0) f e)
    by (inr gone) =
        let t = there-now gave buf old new given gave.0.slot given.slot given.there in
        let g : PeerEmits old.host.clock gave.2 buf given.slot t.0 = (given.slots gave.0.slot given.slot t.0 given.there t.1).here refl in
        let never : is_same_name e.name gave.0 ≡ false =
        not-there old.host.slots e.name gave.0 given.slot g.peer given.there (ap (λ (z : PeerRef). z.generation) (sym given.named)) g.held
        (λ q y. let z : ◌≡◌ {A = Option Peering} None (Some q) = sym (spent-nobody old.host e.name gone.1) ∙ there-named old.host.slots e.name q y in absurd (cc)) in
        stays never (still never (shows-gone new.host e.name k.peer gone.0 (spent-step c old.host new.host e.name low acts gone.1)))
    by (inl live) = at (order (turn e.name.slot) (turn gave.0.slot))
      where
        x : IsThere old.host.slots e.name k.peer
        x = live.1

        t : (t : SlotState) × (slice_get new.host.slots e.name.slot ≡ Some t)
        t = there-now gave buf old new given e.name.slot x.slot x.there

        turned : InTurn (record { now = old.host.clock; turn = turn_of (length old.host.slots) old.host.service_from; gave = served_of gave buf }) e.name.slot x.slot t.0
        turned = given.slots e.name.slot x.slot t.0 x.there t.1

        at : Order (turn e.name.slot) (turn gave.0.slot) → M (cond (is_same_name e.name gave.0) f e)
        at (before h) =
            let n : e.name.slot ≢ gave.0.slot = (λ z. let y : turn e.name.slot ≡ turn gave.0.slot = ap turn z in omega arith) in
            stays (other-slot e.name gave.0 n) (passed (other-slot e.name gave.0 n) x t.0 t.1 (turned.before h))
        at (after h) =
            let n : e.name.slot ≢ gave.0.slot = (λ z. let y : turn e.name.slot ≡ turn gave.0.slot = ap turn z in omega arith) in
            let same : t.0 ≡ x.slot = turned.after h in
            stays (other-slot e.name gave.0 n)
            (still (other-slot e.name gave.0 n) (shows-held new.host e.name k.peer live.0 (record {
              slot = t.0;
              there = t.1;
              same = ap (λ (s : SlotState). s.generation) same ∙ x.same;
              peer = ap (λ (s : SlotState). s.peer) same ∙ x.peer;
            })))
        at (equal h) =
            let here : e.name.slot ≡ gave.0.slot = turns-apart (length old.host.slots) old.host.service_from e.name.slot gave.0.slot
            (slice_get_within old.host.slots e.name.slot x.slot x.there) (slice_get_within old.host.slots gave.0.slot given.slot given.there) h in
            let slot : given.slot ≡ x.slot = same-some given.slot x.slot (sym given.there ∙ ap (λ (i : ℕ). slice_get old.host.slots i) (sym here) ∙ x.there) in
            let generation : e.name.generation ≡ gave.0.generation = sym x.same ∙ ap (λ (s : SlotState). s.generation) (sym slot) ∙ ap (λ (z : PeerRef). z.generation) (sym given.named) in
            changes (same-name e.name gave.0 here generation)
            (served (record { there = x; after = t.0; is = t.1; gives = turned.here here; slot = here; generation = generation }))

goes-turned : (gave : PeerRef × Addr × ℕ) (buf : List ℕ) (old new : Site) (e : HostEnd) (own far : End) (f : HostEnd) → old.host.config.generations ≤ greatest → Acts (call.Service (Some gave) buf) old.host new.host
    → (is_same_name e.name gave.0 ≡ false → KeepsLog old new e.connection) → (k : Shows old e own) → (IsServed gave buf old new e k.peer → Went own far new f)
    → Went own far new (cond (is_same_name e.name gave.0) f e)
goes-turned gave buf old new e own far f low acts others k served =
    turned-by (Went own far new) gave buf old new e own f low acts k (λ never shows. goes-still old new e own far k (others never) shows)
    (λ never x t there passes. vain old new e own far (call.Service (Some gave) buf) k low acts (others never) x t there passes) served

-- the datagram that is logged
abbrev pub given_datagram : (fars : ℕ → List ℕ) (gave : PeerRef × Addr × ℕ) (buf : List ℕ) (old new : Site) → Logs fars (served_of gave buf) old new → Logged
given_datagram fars gave buf old new l = record { connection = l.own.connection; to = gave.1; peer = l.header.peer; text = take gave.2 buf; marks = l.marks }

pub given-logged : (fars : ℕ → List ℕ) (gave : PeerRef × Addr × ℕ) (buf : List ℕ) (old new : Site) (l : Logs fars (served_of gave buf) old new) → new.log ≡ old.log ++ given_datagram fars gave buf old new l ∷ []
given-logged fars gave buf old new l = ap (λ (s : Site). s.log) l.rest

-- it is of another connection than an end's that didn't give it
pub given-others : (fars : ℕ → List ℕ) (gave : PeerRef × Addr × ℕ) (buf : List ℕ) (old new : Site) (e : HostEnd) (l : Logs fars (served_of gave buf) old new) → IsApart old.ends e → is_same_name e.name gave.0 ≡ false → KeepsLog old new e.connection
given-others fars gave buf old new e l apart never n y there of =
    elim (get-push old.log (given_datagram fars gave buf old new l) n y (subst (λ (m : List Logged). slice_get m n ≡ Some y) (given-logged fars gave buf old new l) there)) [
      | inl h ↦ h
      | inr is ↦ (let same : l.own ≡ e = apart l.own l.there (inr (ap (λ (z : Logged). z.connection) is ∙ of)) in
          let named : e.name ≡ gave.0 = ap (λ (z : HostEnd). z.name) (sym same) ∙ l.name in
          absurd (let sure : is_same_name e.name gave.0 ≡ true = same-name e.name gave.0 (ap (λ (z : PeerRef). z.slot) named) (ap (λ (z : PeerRef). z.generation) named) in let z : true ≡ false = sym sure ∙ never in cc))
    ]

-- the end that gave it
pub served-end : (fars : ℕ → List ℕ) (gave : PeerRef × Addr × ℕ) (buf : List ℕ) (old new : Site) (e : HostEnd) (p : Peering) (l : Logs fars (served_of gave buf) old new) → IsApart old.ends e → IsServed gave buf old new e p → l.own ≡ e
served-end fars gave buf old new e p l apart h = let named : gave.0 ≡ e.name = (λ i. record { slot = sym h.slot i; generation = sym h.generation i }) in apart l.own l.there (inl (l.name ∙ named))

pub served-logs : (fars : ℕ → List ℕ) (gave : PeerRef × Addr × ℕ) (buf : List ℕ) (old new : Site) (e : HostEnd) (own far : End) → old.host.config.generations ≤ greatest
    → Acts (call.Service (Some gave) buf) old.host new.host → (l : Logs fars (served_of gave buf) old new) → IsApart old.ends e
    → ((channel : ℕ) → channel < 255 → greatest_at (fars e.connection) channel ≡ sent_on channel far) → (k : Shows old e own) → IsServed gave buf old new e k.peer
    → Logging old.host.clock new (record e { greatest = l.greatest }) own far k.peer (given_datagram fars gave buf old new l)
served-logs fars gave buf old new e own far low acts l apart theirs k h =
    let x : IsThere old.host.slots e.name k.peer = h.there in
    let g : PeerEmits old.host.clock gave.2 buf x.slot h.after = h.gives in
    let p : g.peer ≡ k.peer = same-some g.peer k.peer (sym g.held ∙ x.peer) in
    let same : l.own ≡ e = served-end fars gave buf old new e k.peer l apart h in
    let counts : Counts (take gave.2 buf) e.greatest l.greatest (fars e.connection) l.marks = subst (λ (z : HostEnd). Counts (take gave.2 buf) z.greatest l.greatest (fars z.connection) l.marks) same l.counts in
    let shows : ShowsPeer new.host e.name g.after =
    shows-after (call.Service (Some gave) buf) old.host new.host e.name k.peer g.after x h.after (Rattle.enet_slot.specs.Emitting.with_emitted x.slot gave.2).emitted low (same-generations (call.Service (Some gave) buf) old.host new.host acts) h.is
    (g.left ∙ emitted-apart x.slot g.after (Rattle.enet_slot.specs.Emitting.with_emitted x.slot gave.2).emitted) in
    logs-one old new e own far old.host.clock gave.2 g.after buf k (subst (λ (y : Peering). PutsOut old.host.clock (Some gave.2) y g.after buf) p g.puts) shows l.greatest (fars e.connection) l.marks (given_datagram fars gave buf old new l) counts theirs l.header l.commands
    l.read refl refl refl (given-logged fars gave buf old new l)

-- an end whose host gave a datagram that is logged
pub goes-served : (fars : ℕ → List ℕ) (gave : PeerRef × Addr × ℕ) (buf : List ℕ) (old new : Site) (e : HostEnd) (own far : End) → old.host.config.generations ≤ greatest
    → Acts (call.Service (Some gave) buf) old.host new.host → (l : Logs fars (served_of gave buf) old new) → IsApart old.ends e
    → ((channel : ℕ) → channel < 255 → greatest_at (fars e.connection) channel ≡ sent_on channel far) → Shows old e own
    → Went own far new (cond (is_same_name e.name gave.0) (record e { greatest = l.greatest }) e)
goes-served fars gave buf old new e own far low acts l apart theirs k =
    goes-turned gave buf old new e own far (record e { greatest = l.greatest }) low acts (given-others fars gave buf old new e l apart) k
    (λ h. went-logged old.host.clock new (record e { greatest = l.greatest }) own far k.peer (given_datagram fars gave buf old new l) (served-logs fars gave buf old new e own far low acts l apart theirs k h))

-- where a datagram was given to an address at which the end's peer isn't, the end puts nothing out
pub goes-unserved : (gave : PeerRef × Addr × ℕ) (buf : List ℕ) (old new : Site) (e : HostEnd) (own far : End) → old.host.config.generations ≤ greatest
    → Acts (call.Service (Some gave) buf) old.host new.host → KeepsLog old new e.connection → is_at gave.1 (address_named old.host.slots e.name) ≡ false → Shows old e own → Went own far new e
goes-unserved gave buf old new e own far low acts same away k = subst (Went own far new) (same-either (is_same_name e.name gave.0) e) (goes-turned gave buf old new e own far e low acts (λ never. same) k served)
  where
    same-either : (b : Bool) (f : HostEnd) → cond b f f ≡ f
    same-either true f = refl
    same-either false f = refl

    given : EmitsInTurn old.host.clock old.host.service_from old.host.slots (served_of gave buf) new.host.slots
    given = acts.0

    served : IsServed gave buf old new e k.peer → Went own far new e
    served h =
        let x : IsThere old.host.slots e.name k.peer = h.there in
        let slot : given.slot ≡ x.slot = same-some given.slot x.slot (sym given.there ∙ ap (λ (i : ℕ). slice_get old.host.slots i) (sym h.slot) ∙ x.there) in
        let at : x.slot.address ≡ gave.1 = ap (λ (s : SlotState). s.address) (sym slot) ∙ sym given.addressed in
        let z : true ≡ false = sym (there-at gave.1 old.host.slots e.name k.peer x (same-address x.slot.address gave.1 at)) ∙ away in absurd (cc)
