-- A reliable command that its sender waits for, and that isn't stopped where it comes, is acknowledged there.
use Rattle.std.proofs.Common.{◌≡◌, ℕ, ◌+◌, ◌%◌, ◌<◌, ◌≤◌, Bool, true, false, cond, zero, suc, List, [], ◌∷◌, length, map, refl, sym, ap, subst, ◌∙◌, inl, inr, arith, Option, Some, None, Result, Ok, Err}
use Rattle.std.specs.List.{slice_get}
use Rattle.std.specs.Prelude.{is_ok}
use Rattle.enet_codec.specs.declared.command.Fragment.{Fragment}
use Rattle.enet_codec.specs.declared.stop.Stop.{Stop}
use Rattle.enet_codec.specs.declared.stop.Stop.TheVariants as stop
use Rattle.enet_codec.specs.Message.{Message}
use Rattle.enet_seq.specs.Windows.{acknowledges}
use Rattle.enet_seq.specs.Numbering.{wire}
use Rattle.enet_fragment.specs.declared.data.DataCommand.{DataCommand}
use Rattle.enet_fragment.specs.DataCommand.{data_of, message_of, wire_body}
use Rattle.enet_receiver.specs.declared.took.Took.{Took}
use Rattle.enet_receiver.specs.declared.took.Took.TheVariants.{Held, Again, Outside, Bad, Waiting, Memory}
use Rattle.enet_receiver.specs.DataOutcome.{outcome, is_handled, acknowledged}
use Rattle.enet_receiver.specs.Receiver.{Receiver, without_waiting}
use Rattle.enet_receiver.specs.Foresight.{ReceivingEnd}
use Rattle.enet_sender.specs.CommandChoice.{Packet}
use Rattle.enet_sender.specs.Sender.{Sender}
use Rattle.enet_sender.specs.declared.sent.Sent.{Sent}
use Rattle.enet_inbox.specs.Inbox.{Inbox, is_full_for, given_way_receiver, given_way}
use Rattle.enet_inbox.specs.DataEffect.{DataEffect, plain_arrival, makes_room, arrival, sequenced, sequenced_on, by_took, passed_over}
use Rattle.enet_peer.specs.declared.parts.PeerState.TheVariants as state
use Rattle.enet_peer.specs.Endings.{is_later}
use Rattle.enet_peer.specs.Peering.{Peering}
use Rattle.enet_peer.specs.CommandEffect.{Outcome, obeyed, unless_refused, is_crowded_out, is_unasked, on_data, by_arrival, by_answer, is_allowed, stopped}
use Rattle.law_connection.specs.Link.{PutOut, is_late}
use Rattle.law_connection.specs.LinkSteps.{Has}
use Rattle.law_connection.specs.LinkSteps as link
use Rattle.law_connection.specs.Connection.{Put, End, Connection, sent_on}
use Rattle.law_connection.specs.Invariant.{Invariant}
use Rattle.law_connection.specs.Linked.{IsLinked, ShowsSending, ShowsReceiving, sends_in, dispatches_in, dispatched_on, sender_in, receiver_in}
use Rattle.law_connection.proofs.LinkRuns.{keeps, Sound-runs, Sound-fresh}
use Rattle.law_progress.specs.Links.{Waits, AreShort}
use Rattle.law_progress.specs.Peers.{IsAnswered}
use Rattle.law_progress.proofs.Answered as answering
use Rattle.law_progress.proofs.Arrivals.{Met, given_way-there}
use Rattle.law_progress.proofs.PeerAnswers.{took-answers, both-of}

ok-took : (t : Took) (b : Inbox) (channel : ℕ) (r : ReceivingEnd) (c : DataCommand) → is_ok (by_took t b channel r c).answer ≡ true → is_handled t ≡ true
ok-took Held b channel r c h = refl
ok-took Again b channel r c h = refl
ok-took Outside b channel r c h = refl
ok-took Bad b channel r c h = absurd (cc)
ok-took Waiting b channel r c h = absurd (cc)
ok-took Memory b channel r c h = absurd (cc)

none-mapped : (rs : List ReceivingEnd) (i : ℕ) → slice_get rs i ≡ None → slice_get (map given_way_receiver rs) i ≡ None
none-mapped [] i e = refl
none-mapped (x ∷ rs) zero e = absurd (let z : ◌≡◌ {A = Option ReceivingEnd} (Some x) None = e in cc)
none-mapped (x ∷ rs) (suc i) e = none-mapped rs i e

-- a data command of a channel comes to an inbox, which doesn't stop it
record Goes (b : Inbox) (channel : ℕ) (c : DataCommand) (m : Message) : Type 0 where
  plain : (x : Inbox) → plain_arrival x m ≡ sequenced_on x channel c (slice_get x.receivers channel)
  ok : is_ok (arrival b m).answer ≡ true

-- so the channel is there
no-channel : (b : Inbox) (channel : ℕ) (c : DataCommand) (m : Message) → Goes b channel c m → slice_get b.receivers channel ≡ None → ⊥
no-channel b channel c m k none = by (makes_room b m) refl
  where
    at : (x : Inbox) → slice_get x.receivers channel ≡ None → is_ok (plain_arrival x m).answer ≡ false
    at x e = ap (λ (a : DataEffect). is_ok a.answer) (k.plain x ∙ ap (sequenced_on x channel c) e)

    by : (w : Bool) → makes_room b m ≡ w → ⊥
    by true e = let z : true ≡ false = sym k.ok ∙ ap (λ (v : Bool). is_ok (plain_arrival (cond v (given_way b) b) m).answer) e ∙ at (given_way b) (none-mapped b.receivers channel none) in cc
    by false e = let z : true ≡ false = sym k.ok ∙ ap (λ (v : Bool). is_ok (plain_arrival (cond v (given_way b) b) m).answer) e ∙ at b none in cc

-- and the inbox handles it
meets-it : (b : Inbox) (channel : ℕ) (c : DataCommand) (r : ReceivingEnd) (m : Message) → slice_get b.receivers channel ≡ Some r → Goes b channel c m → Met b channel c r m
meets-it b channel c r m there k = by (makes_room b m) refl
  where
    by : (w : Bool) → makes_room b m ≡ w → Met b channel c r m
    by true e =
        let took : Took = outcome wire r.max_packet (without_waiting r.receiver) c (is_full_for (given_way b) (given_way_receiver r) c) in
        let is : arrival b m ≡ by_took took (given_way b) channel (given_way_receiver r) c =
        ap (λ (v : Bool). plain_arrival (cond v (given_way b) b) m) e ∙ k.plain (given_way b) ∙ ap (sequenced_on (given_way b) channel c) (given_way-there b.receivers channel r there) in
        record { inbox = given_way b; end = given_way_receiver r; took = took; handled = ok-took took (given_way b) channel (given_way_receiver r) c (sym (ap (λ (a : DataEffect). is_ok a.answer) is) ∙ k.ok); front = refl; is = is }
    by false e =
        let took : Took = outcome wire r.max_packet r.receiver c (is_full_for b r c) in
        let is : arrival b m ≡ by_took took b channel r c = ap (λ (v : Bool). plain_arrival (cond v (given_way b) b) m) e ∙ k.plain b ∙ ap (sequenced_on b channel c) there in
        record { inbox = b; end = r; took = took; handled = ok-took took b channel r c (sym (ap (λ (a : DataEffect). is_ok a.answer) is) ∙ k.ok); front = refl; is = is }

-- ---- so does the peer
not-refused : (q : Peering) (m : Message) (o : Outcome) → (unless_refused q m o).stop ≡ None → unless_refused q m o ≡ o
not-refused q m o none = by (is_unasked q m.body) (is_crowded_out q m) none
  where
    by : (a b : Bool) → (cond a (stopped q stop.NotConnected) (cond b (stopped q stop.Waiting) o)).stop ≡ None → cond a (stopped q stop.NotConnected) (cond b (stopped q stop.Waiting) o) ≡ o
    by true b e = absurd (let z : ◌≡◌ {A = Option Stop} (Some stop.NotConnected) None = e in cc)
    by false true e = absurd (let z : ◌≡◌ {A = Option Stop} (Some stop.Waiting) None = e in cc)
    by false false e = refl

is-ok : (q : Peering) (m : Message) (sent : Option ℕ) (a : DataEffect) → (by_arrival q m sent a).stop ≡ None → is_ok a.answer ≡ true
is-ok q m sent a none = by a.answer none
  where
    by : (r : Result Bool Stop) → (by_answer (record q { inbox = a.after }) m sent r).stop ≡ None → is_ok r ≡ true
    by (Ok may) e = refl
    by (Err why) e = absurd (let z : ◌≡◌ {A = Option Stop} (Some why) None = e in cc)

-- a data command with the acknowledgement's flag, as a peer obeys it
record Asks (q : Peering) (now channel time : ℕ) (c : DataCommand) (m : Message) : Type 0 where
  asks : m.head.acknowledge ≡ true
  on : m.head.channel ≡ channel
  number : m.head.number ≡ c.number
  plain : (x : Inbox) → plain_arrival x m ≡ sequenced_on x channel c (slice_get x.receivers channel)
  obeys : obeyed q now (Some time) m ≡ cond (is_allowed q.state m.body) (unless_refused q m (on_data q m (Some time))) (stopped q stop.NotConnected)
  allowed : is_allowed state.Connected m.body ≡ true

obeys-it : (q : Peering) (now channel time : ℕ) (c : DataCommand) (m : Message) → q.state ≡ state.Connected → ((r : ReceivingEnd) → slice_get q.inbox.receivers channel ≡ Some r → acknowledges r.receiver.front c.number ≡ true)
    → Asks q now channel time c m → (obeyed q now (Some time) m).stop ≡ None → IsAnswered q channel time c (obeyed q now (Some time) m)
obeys-it q now channel time c m connected ack k none = subst (λ (o : Outcome). IsAnswered q channel time c o) (sym whole) (by (slice_get q.inbox.receivers channel) refl)
  where
    data_so : Outcome
    data_so = on_data q m (Some time)

    unrefused : obeyed q now (Some time) m ≡ unless_refused q m data_so
    unrefused = k.obeys ∙ ap (λ (b : Bool). cond b (unless_refused q m data_so) (stopped q stop.NotConnected)) (ap (λ s. is_allowed s m.body) connected ∙ k.allowed)

    whole : obeyed q now (Some time) m ≡ by_arrival q m (Some time) (arrival q.inbox m)
    whole =
        unrefused ∙ not-refused q m data_so (sym (ap (λ (o : Outcome). o.stop) unrefused) ∙ none)
        ∙ ap (λ (b : Bool). cond b (by_answer q m (Some time) (passed_over q.inbox m)) (by_arrival q m (Some time) (arrival q.inbox m))) (ap is_later connected)

    goes : Goes q.inbox channel c m
    goes = record { plain = k.plain; ok = is-ok q m (Some time) (arrival q.inbox m) (sym (ap (λ (o : Outcome). o.stop) whole) ∙ none) }

    by : (o : Option ReceivingEnd) → slice_get q.inbox.receivers channel ≡ o → IsAnswered q channel time c (by_arrival q m (Some time) (arrival q.inbox m))
    by None e = absurd (no-channel q.inbox channel c m goes e)
    by (Some r) e =
        let met = meets-it q.inbox channel c r m e goes in
        subst (λ (x : DataEffect). IsAnswered q channel time c (by_arrival q m (Some time) x)) (sym met.is)
        (took-answers q channel time c met.inbox met.end m connected k.asks k.on k.number met.took met.handled (ap (λ n. acknowledges n c.number) met.front ∙ ack r e))

answers-it : (q : Peering) (now channel time : ℕ) (c : DataCommand) → q.state ≡ state.Connected → c.reliable ≡ true → ((r : ReceivingEnd) → slice_get q.inbox.receivers channel ≡ Some r → acknowledges r.receiver.front c.number ≡ true)
    → data_of (message_of channel c) ≡ Some c → (obeyed q now (Some time) (message_of channel c)).stop ≡ None → IsAnswered q channel time c (obeyed q now (Some time) (message_of channel c))
answers-it q now channel time c connected reliable ack reads none = by c.reliable reliable c.fragment reads none
  where
    message : Bool → Option Fragment → Message
    message b f = record { head = record { acknowledge = b; unsequenced = false; channel = channel; number = c.number }; body = wire_body b f c.unreliable c.body }

    by : (b : Bool) → b ≡ true → (f : Option Fragment) → data_of (message b f) ≡ Some c → (obeyed q now (Some time) (message b f)).stop ≡ None → IsAnswered q channel time c (obeyed q now (Some time) (message b f))
    by false e f is n = absurd (cc)
    by true e None is n = obeys-it q now channel time c (message true None) connected ack (record { asks = refl; on = refl; number = refl; plain = λ x. ap (sequenced x channel) is; obeys = refl; allowed = refl }) n
    by true e (Some f) is n = obeys-it q now channel time c (message true (Some f)) connected ack (record { asks = refl; on = refl; number = refl; plain = λ x. ap (sequenced x channel) is; obeys = refl; allowed = refl }) n

-- ---- by the link of the channel
longest : List Packet → ℕ
longest [] = 0
longest (x ∷ xs) = length x.body + longest xs

all-short : (xs : List Packet) → AreShort (longest xs) xs
unfolding longest
all-short [] x h = absurd h
all-short (y ∷ ys) x (inl e) = let n : length y.body ≡ length x.body = ap (λ (p : Packet). length p.body) e in omega arith
all-short (y ∷ ys) x (inr h) = let n : length x.body ≤ longest ys = all-short ys x h in omega arith

-- a reliable data command that the end `from` put out, with the peer p, waits there for its acknowledgement, and isn't late; the other
-- end's peer q is connected
pub record Reaches (from to : End) (p q : Peering) (put : Put) (channel : ℕ) (c : DataCommand) : Type 0 where
  pub from_is : from.peer ≡ Some p
  pub to_is : to.peer ≡ Some q
  pub sends : sends_in p.state ≡ true
  pub connected : q.state ≡ state.Connected
  pub logged : Has from.log put
  pub message : put.message ≡ message_of channel c
  pub reads : data_of (message_of channel c) ≡ Some c
  pub reliable : c.reliable ≡ true
  pub waits : Has (map (λ (s : Sent). s.command.number) (sender_in (slice_get p.outbox.senders channel)).sent) c.number
  pub in_time : is_late (sent_on channel from) put.sent_then c.number ≡ false

pub not-stopped : (joined : Bool) (d : Connection) (p q : Peering) (put : Put) (channel : ℕ) (c : DataCommand) (now time : ℕ) → Invariant joined d → channel < 255 → Reaches d.one d.two p q put channel c
    → (obeyed q now (Some time) put.message).stop ≡ None → IsAnswered q channel time c (obeyed q now (Some time) put.message)
not-stopped joined d p q put channel c now time i low a none = subst (λ m. IsAnswered q channel time c (obeyed q now (Some time) m)) (sym a.message)
    (answers-it q now channel time c a.connected a.reliable ack a.reads (subst (λ m. (obeyed q now (Some time) m).stop ≡ None) a.message none))
  where
    k : IsLinked d.one d.two channel
    k = i.both.out channel low

    ack : (r : ReceivingEnd) → slice_get q.inbox.receivers channel ≡ Some r → acknowledges r.receiver.front c.number ≡ true
    ack r there =
        let v = k.link in
        let s = Sound-runs k.mtu k.events link.fresh_link v k.big (Sound-fresh k.mtu) k.runs in
        let sending = subst (λ o. ShowsSending o channel v) a.from_is k.sending in
        let receiving = subst (λ o. ShowsReceiving d.two o channel v) a.to_is k.receiving in
        let sends = sending.0 a.sends in
        let up : v.is_open ≡ true = sym receiving.0 ∙ ap dispatches_in a.connected in
        let now_is : v.incoming ≡ record (receiver_in (slice_get q.inbox.receivers channel)) { dispatched = dispatched_on channel d.two q } = receiving.1 up in
        let is : v.incoming ≡ record r.receiver { dispatched = dispatched_on channel d.two q } = now_is ∙ ap (λ o. record (receiver_in o) { dispatched = dispatched_on channel d.two q }) there in
        let on : put.message.head.channel ≡ channel = ap (λ (m : Message). m.head.channel) a.message in
        let reads : data_of put.message ≡ Some c = ap data_of a.message ∙ a.reads in
        let e : PutOut = record { command = c; sent_then = put.sent_then } in
        let w : Waits v e = record {
          logged = k.commands put c a.logged on reads;
          reliable = a.reliable;
          waits = subst (λ (o : Sender). Has (map (λ (x : Sent). x.command.number) o.sent) c.number) (sym sends.1) a.waits;
          in_time = ap (λ z. is_late z put.sent_then c.number) k.greatest ∙ a.in_time;
        } in
        let here : acknowledged wire (longest v.submitted) v.incoming c false ≡ true = answering.answered k.mtu (longest v.submitted) v s sends.0 up (all-short v.submitted) e w in
        let both = both-of (is_handled (outcome wire (longest v.submitted) v.incoming c false)) (acknowledges (v.incoming.front % 65536) c.number) here in
        let kept = keeps k.mtu k.events v k.big k.runs in
        let shown = (kept.shows up).front in
        let same_front : v.incoming.front ≡ r.receiver.front = ap (λ (x : Receiver). x.front) is in
        let small : v.incoming.front % 65536 ≡ r.receiver.front = omega arith in
        ap (λ n. acknowledges n c.number) (sym small) ∙ both.1
