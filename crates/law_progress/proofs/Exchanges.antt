-- What two connected ends make of each other's commands where nothing is lost: what goes is acknowledged, over all channels.
use Rattle.std.proofs.Common.{◌≡◌, ℕ, zero, suc, ◌%◌, ◌^◌, ◌<◌, Bool, true, false, cond, List, [], ◌∷◌, ◌++◌, length, map, refl, sym, ap, subst, ◌∙◌, inl, inr, ◌==◌, arith, Option, Some, None, ◌&&◌}
use Rattle.std.specs.List.{slice_get}
use Rattle.enet_codec.specs.declared.command.Fragment.{Fragment}
use Rattle.enet_codec.specs.declared.packet.Packet.{Packet}
use Rattle.enet_codec.specs.Message.{Message, acknowledge}
use Rattle.enet_rtt.specs.Clock.{meant_time}
use Rattle.enet_fragment.specs.declared.data.DataCommand.{DataCommand}
use Rattle.enet_fragment.specs.DataCommand.{data_of, message_of, read_of, wire_body}
use Rattle.enet_receiver.specs.Members.{Has}
use Rattle.enet_rtt.specs.Transmission.{went_at}
use Rattle.enet_rtt.specs.declared.transmission.Transmission.{Transmission}
use Rattle.enet_sender.specs.Sender.{Sender, position_of}
use Rattle.enet_sender.specs.declared.sent.Sent.{Sent}
use Rattle.enet_sender.specs.Due.{SendingEnd}
use Rattle.enet_outbox.specs.Room.{RoomIsAwaited}
use Rattle.enet_outbox.specs.declared.parts.Acknowledgement.{Acknowledgement}
use Rattle.enet_outbox.specs.Outbox.{Outbox, is_done}
use Rattle.enet_outbox.specs.Emission.{filled, acknowledgement_of}
use Rattle.enet_peer.specs.declared.parts.PeerState.TheVariants as state
use Rattle.enet_peer.specs.Endings.{is_later, disconnecting}
use Rattle.enet_peer.specs.Peering.{Peering}
use Rattle.enet_peer.specs.CommandEffect.{Outcome, obeyed}
use Rattle.enet_peer.specs.Refusing.{heeded}
use Rattle.enet_peer.specs.Calls.{Taken, pace_of, gone_on, gone_on_in, next_event, event_after, is_answering, packet_event, last_event}
use Rattle.enet_peer.proofs.Refusals.{heeded-obeyed}
use Rattle.law_connection.specs.Link.{is_late}
use Rattle.law_connection.specs.LinkSteps.{fresh_link}
use Rattle.law_connection.specs.WireLink.{WireLink}
use Rattle.law_connection.specs.Connection.{Put, End, is_acknowledgement, messages_of, reached, sent_on, put_by}
use Rattle.law_connection.specs.Steps.{Event, Emit, Come, Happens, InTime, One, with_peer, with_emission, Take}
use Rattle.law_connection.specs.Invariant.{Invariant, IsTidy}
use Rattle.law_connection.specs.Linked.{ShowsSending, sends_in, sender_in}
use Rattle.law_connection.proofs.Firsts.{drop_first, without-first}
use Rattle.law_connection.proofs.FitEnds.{fit-peer}
use Rattle.law_connection.proofs.Laws.{kept-at}
use Rattle.law_connection.proofs.LinkRuns.{Sound-runs, Sound-fresh}
use Rattle.law_connection.proofs.Offsets.{offset-taken}
use Rattle.law_connection.proofs.Shown.{Sound}
use Rattle.law_progress.specs.Exchanges.{HasRoomFor, Comes, AllCome, outstanding_over, HasSent, Takes}
use Rattle.law_progress.specs.Peers.{Awaits, IsAnswered, IsRemoved}
use Rattle.law_progress.proofs.Carried.{nums, Has-nums, waits-in_time, none-left}
use Rattle.law_progress.proofs.Emitted.{AreReliable, AreSound, Waits}
use Rattle.law_progress.proofs.Filling.{Has-push}
use Rattle.law_progress.proofs.Found.{placed}
use Rattle.law_progress.proofs.NotStopped.{Reaches, not-stopped}
use Rattle.law_progress.proofs.Obeyed.{Kept, kept-self, kept-least, kept-then, hears-kept}
use Rattle.law_progress.proofs.PeerAnswers.{answers-forth}
use Rattle.law_progress.proofs.Removed.{removed-at}
use Rattle.law_progress.proofs.SomethingGoes.{below-length}
use Rattle.law_progress.proofs.Trips.{Has-map, Images-has}
use Rattle.law_progress.proofs.Waiting.{Has-mapped}

-- ---- the two ends
abbrev pub Joint : Bool → End → End → Type 0
Joint joined a b = Invariant joined (record { one = a; two = b })

pub joint-swap : (joined : Bool) (a b : End) → Joint joined a b → Joint joined b a
joint-swap joined a b k = record { both = record { out = k.both.back; back = k.both.out }; one = k.two; two = k.one; life_one = k.life_two; life_two = k.life_one }

pub joint-event : (joined : Bool) (own other new : End) (e : Event) → Happens own other e new → Joint joined own other → Joint joined new other
joint-event joined own other new e h k = kept-at joined One e (record { one = own; two = other }) (record { one = new; two = other }) (h, refl) k

some-is : {X : Type 0} {x y : X} → Some x ≡ Some y → x ≡ y
some-is {X} {x} {y} e = cc

pub same-peer : (e : End) (p q : Peering) → e.peer ≡ Some p → e.peer ≡ Some q → p ≡ q
same-peer e p q a b = some-is (sym a ∙ b)

-- the link of a channel of a connected peer
pub record Linked (own : End) (channel : ℕ) (p : Peering) : Type 0 where
  mtu : ℕ
  link : WireLink
  sound : Sound mtu link
  sending : link.is_sending ≡ true
  outgoing : link.outgoing ≡ sender_in (slice_get p.outbox.senders channel)
  greatest : link.greatest ≡ sent_on channel own

linked : (joined : Bool) (own other : End) (p : Peering) (channel : ℕ) → Joint joined own other → own.peer ≡ Some p → p.state ≡ state.Connected → channel < 255 → Linked own channel p
linked joined own other p channel j is connected low =
    let k = j.both.out channel low in
    let shows = subst (λ (o : Option Peering). ShowsSending o channel k.link) is k.sending in
    let sends = shows.0 (ap sends_in connected) in
    record {
      mtu = k.mtu;
      link = k.link;
      sound = Sound-runs k.mtu k.events fresh_link k.link k.big (Sound-fresh k.mtu) k.runs;
      sending = sends.0;
      outgoing = sends.1;
      greatest = k.greatest;
    }

-- no other command that waits has its number
pub alone : (joined : Bool) (own other : End) (p : Peering) (channel : ℕ) (t : Sent) → Joint joined own other → own.peer ≡ Some p → p.state ≡ state.Connected → channel < 255 → (h : HasSent p.outbox.senders channel t)
    → (i : ℕ) × (position_of t.command.number h.0.sender.sent ≡ Some i) × (slice_get h.0.sender.sent i ≡ Some t)
alone joined own other p channel t j is connected low h =
    let k = linked joined own other p channel j is connected low in
    let here : k.link.outgoing ≡ h.0.sender = k.outgoing ∙ ap sender_in h.1 in
    let near = k.sound.numbers.unacked in
    placed h.0.sender.sent t h.2
    (λ u behind e.
    none-left k.mtu k.sound.link.sent t.command.number k.sound.link.carried k.sound.link.unacked k.link.outgoing.sent k.sound.shows.rising (λ m i. (let n = near m i in (n.1, n.2))) (k.sound.shows.images k.sending) u
    (subst (λ (o : Sender). Has (drop_first (λ (q : Sent). q.command.number == t.command.number) o.sent) u) (sym here) behind) e)

-- so two that have the same are one
pub one-sent : (joined : Bool) (own other : End) (p : Peering) (channel : ℕ) (t u : Sent) → Joint joined own other → own.peer ≡ Some p → p.state ≡ state.Connected → channel < 255
    → HasSent p.outbox.senders channel t → HasSent p.outbox.senders channel u → u.command.number ≡ t.command.number → u ≡ t
one-sent joined own other p channel t u j is connected low h k same =
    let a = alone joined own other p channel t j is connected low h in
    let b = alone joined own other p channel u j is connected low k in
    let end : k.0 ≡ h.0 = some-is (sym k.1 ∙ h.1) in
    let place : Some b.0 ≡ Some a.0 = sym b.1 ∙ (λ i. position_of (same i) (end i).sender.sent) ∙ a.1 in
    let at : b.0 ≡ a.0 = some-is place in
    some-is (sym b.2 ∙ (λ i. slice_get (end i).sender.sent (at i)) ∙ a.2)

-- what waits is in time, as far as the numbers have come
pub timely : (joined : Bool) (own other : End) (p : Peering) (channel number : ℕ) → Joint joined own other → own.peer ≡ Some p → p.state ≡ state.Connected → channel < 255 → Waits p.outbox.senders channel number
    → is_late (sent_on channel own) (sent_on channel own) number ≡ false
timely joined own other p channel number j is connected low w =
    let k = linked joined own other p channel j is connected low in
    let here : k.link.outgoing ≡ w.0.sender = k.outgoing ∙ ap sender_in w.1 in
    let m = Has-mapped (λ (t : Sent). t.command.number) w.0.sender.sent number w.2 in
    let has : Has k.link.outgoing.sent m.0 = subst (λ o. Has o.sent m.0) (sym here) m.1 in
    let fresh = waits-in_time k.mtu k.link m.0 k.sound k.sending has in
    ap (λ g. is_late g g number) (sym k.greatest) ∙ ap (is_late k.link.greatest k.link.greatest) (sym m.2) ∙ fresh

-- its senders have the channels of their places, and what waits is reliable
pub sound-of : (joined : Bool) (own other : End) (p : Peering) → Joint joined own other → own.peer ≡ Some p → p.state ≡ state.Connected → AreSound p.outbox.senders
sound-of joined own other p j is connected k s there = (tidy.places k s there, all)
  where
    tidy : IsTidy own.submitted p
    tidy = (fit-peer own p is j.one).0

    all : AreReliable s.sender.sent
    all t h =
        let few = tidy.few in
        let inside : k < length p.outbox.senders = below-length p.outbox.senders k s there in
        let l = linked joined own other p k j is connected (omega arith) in
        let here : l.link.outgoing ≡ s.sender = l.outgoing ∙ ap sender_in there in
        let im = Images-has l.mtu l.sound.link.carried l.sound.link.unacked l.link.outgoing.sent t (l.sound.shows.images l.sending) (subst (λ o. Has o.sent t) (sym here) h) in
        ap (λ (c : DataCommand). c.reliable) im.2.command ∙ im.2.reliable

pub low-channel : (joined : Bool) (own other : End) (p : Peering) (channel number : ℕ) → Joint joined own other → own.peer ≡ Some p → Waits p.outbox.senders channel number → channel < 255
low-channel joined own other p channel number j is w =
    let tidy : IsTidy own.submitted p = (fit-peer own p is j.one).0 in
    let few = tidy.few in
    let inside : channel < length p.outbox.senders = below-length p.outbox.senders channel w.0 w.1 in
    omega arith

-- ---- a reliable command as it is read
abbrev pub as_read : DataCommand → DataCommand
as_read c = record { reliable = true; number = c.number; unreliable = 0; fragment = c.fragment; body = c.body }

pub reads-itself : (channel : ℕ) (c : DataCommand) → data_of (message_of channel (as_read c)) ≡ Some (as_read c)
reads-itself channel c = by c.fragment
  where
    by : (f : Option Fragment) → data_of (message_of channel (record { reliable = true; number = c.number; unreliable = 0; fragment = f; body = c.body })) ≡ Some (record { reliable = true; number = c.number; unreliable = 0; fragment = f; body = c.body })
    by None = refl
    by (Some f) = refl

pub same-message : (channel : ℕ) (c : DataCommand) → c.reliable ≡ true → message_of channel c ≡ message_of channel (as_read c)
same-message channel c e = (λ i. record { head = record { acknowledge = e i; unsequenced = false; channel = channel; number = c.number }; body = wire_body (e i) c.fragment c.unreliable c.body }) ∙ by c.fragment
  where
    with_fragment : Option Fragment → ℕ → Message
    with_fragment f n = record { head = record { acknowledge = true; unsequenced = false; channel = channel; number = c.number }; body = wire_body true f n c.body }

    by : (f : Option Fragment) → with_fragment f c.unreliable ≡ with_fragment f 0
    by None = refl
    by (Some f) = refl

pub no-acknowledgement : (channel : ℕ) (c : DataCommand) → is_acknowledgement (message_of channel (as_read c)).body ≡ false
no-acknowledgement channel c = by c.fragment
  where
    by : (f : Option Fragment) → is_acknowledgement (wire_body true f 0 c.body) ≡ false
    by None = refl
    by (Some f) = refl

-- ---- a datagram is put out
same-messages : (log : List Put) (a b : End) (ms : List Message) → messages_of (log ++ map (put_by a b) ms) ≡ messages_of (log ++ map (λ (m : Message). record { message = m; sent_then = 0 }) ms)
same-messages [] a b [] = refl
same-messages [] a b (m ∷ ms) = ap (λ (l : List Message). m ∷ l) (same-messages [] a b ms)
same-messages (x ∷ log) a b ms = ap (λ (l : List Message). x.message ∷ l) (same-messages log a b ms)

cancel : (a b c : List Put) → a ++ b ≡ a ++ c → b ≡ c
cancel [] b c e = e
cancel (x ∷ a) b c e = cancel a b c (let z : a ++ b ≡ a ++ c = cc in z)

has-right : (xs ys : List Put) (x : Put) → Has ys x → Has (xs ++ ys) x
has-right [] ys x h = h
has-right (z ∷ xs) ys x h = inr (has-right xs ys x h)

pub goes-on : (q : Peering) → q.state ≡ state.Connected → gone_on q ≡ q
goes-on q e = ap (λ s. gone_on_in s q) e ∙ ap (λ s. cond (is_later s && is_done q.outbox) (disconnecting q q.info) q) e

abbrev pub put_out : Peering → ℕ → Peering
put_out p now = record p { outbox = (filled (pace_of p now) p.outbox).outbox }

pub record Gone (now : ℕ) (from to from' : End) (p : Peering) (new : List Put) : Type 0 where
  pub peer : from'.peer ≡ Some (put_out p now)
  -- each message is in the log, with how far the numbers have come
  pub put : (m : Message) → Has (filled (pace_of p now) p.outbox).messages m → (x : Put) × Has new x × Has from'.log x × (x.message ≡ m)
      × (is_acknowledgement m.body ≡ false → x.sent_then ≡ sent_on m.head.channel from') × (is_acknowledgement m.body ≡ true → x.sent_then ≡ sent_on m.head.channel to)

pub gone : (now : ℕ) (from to from' : End) (p : Peering) (new : List Put) → Happens from to (Emit now) from' → from.peer ≡ Some p → p.state ≡ state.Connected → from'.log ≡ from.log ++ new → Gone now from to from' p new
gone now from to from' p new h is connected logged = record {
  peer = ap (λ (e : End). e.peer) after ∙ ap Some (goes-on (put_out p now) connected);
  put = λ m k. (
    put m,
    subst (λ (l : List Put). Has l (put m)) (sym new-is) (Has-map put ms m k),
    subst (λ (l : List Put). Has l (put m)) (sym logged) (has-right from.log new (put m) (subst (λ (l : List Put). Has l (put m)) (sym new-is) (Has-map put ms m k))),
    refl,
    (λ e. ap (λ b. cond b (sent_on m.head.channel to) (sent_on m.head.channel marked)) e ∙ ap (reached m.head.channel 0) same),
    (λ e. ap (λ b. cond b (sent_on m.head.channel to) (sent_on m.head.channel marked)) e),
  );
}
  where
    ms : List Message
    ms = (filled (pace_of p now) p.outbox).messages

    after : from' ≡ with_emission from to p now
    after = subst (λ (x : Peering). from' ≡ with_emission from to x now) (same-peer from h.0 p h.1 is) h.2

    marked : End
    marked = record from { log = from.log ++ map (λ (m : Message). record { message = m; sent_then = 0 }) ms }

    put : Message → Put
    put = put_by marked to

    log_is : from'.log ≡ from.log ++ map put ms
    log_is = ap (λ (e : End). e.log) after

    new-is : new ≡ map put ms
    new-is = cancel from.log new (map put ms) (sym logged ∙ log_is)

    same : messages_of marked.log ≡ messages_of from'.log
    same = sym (same-messages from.log marked to ms) ∙ ap messages_of (sym log_is)

-- ---- what was put out comes

-- a connected peer obeys, whether its host is full or not
came-obeys : (to new : End) (full : Bool) (p q : Peering) (now : ℕ) (sent : Option ℕ) (m : Message) → p ≡ q → q.state ≡ state.Connected → new ≡ with_peer to (heeded full p now sent m).after
    → new ≡ with_peer to (obeyed q now sent m).after
came-obeys to new full p q now sent m same connected e =
    subst (λ (o : Outcome). new ≡ with_peer to o.after) (heeded-obeyed full q now sent m (ap is_answering connected))
    (subst (λ (x : Peering). new ≡ with_peer to (heeded full x now sent m).after) same e)

pub record Came (to new : End) (q : Peering) : Type 0 where
  pub peer : Peering
  pub is : new.peer ≡ Some peer
  pub connected : peer.state ≡ state.Connected
  pub kept : Kept q peer
  pub log : new.log ≡ to.log

one-came : (now time : ℕ) (from : End) (put : Put) (to new : End) (q : Peering) → Comes now time from put to new → to.peer ≡ Some q → Came to new q
one-came now time from put to new q c is = elim c.after [
  | inl h ↦
      let same : h.0 ≡ q = same-peer to h.0 q h.1 is in
      let after : new ≡ with_peer to (obeyed q now (Some time) put.message).after = came-obeys to new h.3 h.0 q now (Some time) put.message same connected h.4 in
      let peer : new.peer ≡ Some (obeyed q now (Some time) put.message).after = ap (λ (e : End). e.peer) after in
      let stays = c.stays (obeyed q now (Some time) put.message).after peer in
      record { peer = (obeyed q now (Some time) put.message).after; is = peer; connected = stays; kept = hears-kept q now (Some time) put.message connected stays; log = ap (λ (e : End). e.log) after }
  | inr k ↦ record { peer = q; is = ap (λ (e : End). e.peer) k.1 ∙ is; connected = connected; kept = kept-self q; log = ap (λ (e : End). e.log) k.1 }
]
  where
    connected : q.state ≡ state.Connected
    connected = subst (λ (x : Peering). x.state ≡ state.Connected) (same-peer to c.peer q c.is is) c.connected

pub all-came : (now time : ℕ) (from : End) (puts : List Put) (to new : End) (q : Peering) → AllCome now time from puts to new → to.peer ≡ Some q → q.state ≡ state.Connected → Came to new q
all-came now time from [] to new q c is connected = record { peer = q; is = ap (λ (e : End). e.peer) c ∙ is; connected = connected; kept = kept-self q; log = ap (λ (e : End). e.log) c }
all-came now time from (put ∷ puts) to new q c is connected =
    let a = one-came now time from put to c.0 q c.1 is in
    let b = all-came now time from puts c.0 new a.peer c.2 a.is a.connected in
    record { peer = b.peer; is = b.is; connected = b.connected; kept = kept-then q a.peer b.peer a.kept b.kept; log = b.log ∙ a.log }

-- what is taken changes nothing of what is sent
took-one : (own other new : End) (p : Peering) → Happens own other Take new → own.peer ≡ Some p → p.state ≡ state.Connected → Came own new p
took-one own other new p h is on = record {
  peer = h.1;
  is = ap (λ (e : End). e.peer) h.5;
  connected = left.1 ∙ on;
  kept = record { senders = inl (ap (λ (o : Outbox). o.senders) left.0); mtu = left.2; offset = offset-taken p (record { event = h.2; after = h.1 }) gives; acknowledgements = λ a k. subst (λ (o : Outbox). Has o.acknowledgements a) (sym left.0) k; sent = λ channel t k. subst (λ (o : Outbox). HasSent o.senders channel t) left.0 k; awaited = λ a. subst (λ (o : Outbox). RoomIsAwaited o) (sym left.0) a };
  log = ap (λ (e : End). e.log) h.5;
}
  where
    it : h.0 ≡ p
    it = same-peer own h.0 p h.3 is

    gives : next_event p ≡ Some (record { event = h.2; after = h.1 })
    gives = subst (λ (x : Peering). next_event x ≡ Some (record { event = h.2; after = h.1 })) it h.4

    left : (h.1.outbox ≡ p.outbox) × (h.1.state ≡ p.state) × (h.1.terms.mtu ≡ p.terms.mtu)
    left = by p.greeting gives
      where
        after : Taken → Peering
        after t = t.after

        same : (q : Peering) → q ≡ h.1 → q.outbox ≡ p.outbox → q.state ≡ p.state → q.terms.mtu ≡ p.terms.mtu → (h.1.outbox ≡ p.outbox) × (h.1.state ≡ p.state) × (h.1.terms.mtu ≡ p.terms.mtu)
        same q e a b c = subst (λ (x : Peering). (x.outbox ≡ p.outbox) × (x.state ≡ p.state) × (x.terms.mtu ≡ p.terms.mtu)) e (a, b, c)

        packets : (untaken : List Packet) → packet_event p untaken ≡ Some (record { event = h.2; after = h.1 }) → (h.1.outbox ≡ p.outbox) × (h.1.state ≡ p.state) × (h.1.terms.mtu ≡ p.terms.mtu)
        packets [] e = absurd (let z : None ≡ Some (record { event = h.2; after = h.1 }) = sym (ap (λ s. last_event s p) on) ∙ e in cc)
        packets (x ∷ rest) e = same (record p { inbox = record p.inbox { untaken = rest } }) (ap after (some-is e)) refl refl refl

        by : (greeting : Option ℕ) → event_after p greeting ≡ Some (record { event = h.2; after = h.1 }) → (h.1.outbox ≡ p.outbox) × (h.1.state ≡ p.state) × (h.1.terms.mtu ≡ p.terms.mtu)
        by (Some info) e = same (record p { greeting = None }) (ap after (some-is e)) refl refl refl
        by None e = packets p.inbox.untaken e

abbrev pub then-came : (to mid new : End) (q : Peering) → (a : Came to mid q) → Came mid new a.peer → Came to new q
then-came to mid new q a b = record { peer = b.peer; is = b.is; connected = b.connected; kept = kept-then q a.peer b.peer a.kept b.kept; log = b.log ∙ a.log }

pub took-all : (n : ℕ) (own other new : End) (p : Peering) → Takes n own other new → own.peer ≡ Some p → p.state ≡ state.Connected → Came own new p
took-all zero own other new p t is on = record { peer = p; is = ap (λ (e : End). e.peer) t ∙ is; connected = on; kept = kept-self p; log = ap (λ (e : End). e.log) t }
took-all (suc n) own other new p t is on = (let a = took-one own other t.0 p t.1 is on in then-came own t.0 new p a (took-all n t.0 other new a.peer t.2 a.is a.connected))

pub takes-joint : (joined : Bool) (n : ℕ) (own other new : End) → Takes n own other new → Joint joined own other → Joint joined new other
takes-joint joined zero own other new t j = subst (λ (e : End). Joint joined e other) (sym t) j
takes-joint joined (suc n) own other new t j = takes-joint joined n t.0 other new t.2 (joint-event joined own other t.0 Take t.1 j)

one-joint : (joined : Bool) (now time : ℕ) (from : End) (put : Put) (to new : End) → Comes now time from put to new → Joint joined from to → Joint joined from new
one-joint joined now time from put to new c j = elim c.after [
  | inl h ↦ joint-swap joined new from (joint-event joined to from new (Come put now (Some time)) h (joint-swap joined from to j))
  | inr k ↦ subst (λ (e : End). Joint joined from e) (sym k.1) j
]

pub all-joint : (joined : Bool) (now time : ℕ) (from : End) (puts : List Put) (to new : End) → AllCome now time from puts to new → Joint joined from to → Joint joined from new
all-joint joined now time from [] to new c j = subst (λ (e : End). Joint joined from e) (sym c) j
all-joint joined now time from (put ∷ puts) to new c j = all-joint joined now time from puts c.0 new c.2 (one-joint joined now time from put to c.0 c.1 j)

-- a reliable data command that waits is acknowledged
pub came-answers : (joined : Bool) (now time : ℕ) (from : End) (puts : List Put) (to new : End) (p : Peering) (put : Put) (channel : ℕ) (c : DataCommand) → AllCome now time from puts to new → Has puts put → Joint joined from to
    → from.peer ≡ Some p → p.state ≡ state.Connected → channel < 255 → Waits p.outbox.senders channel c.number → c.reliable ≡ true → put.message ≡ message_of channel c → data_of (message_of channel c) ≡ Some c
    → Has from.log put → put.sent_then ≡ sent_on channel from → (q : Peering) × (new.peer ≡ Some q) × Has q.outbox.acknowledgements (record { channel = channel; number = c.number; time = time })
came-answers joined now time from [] to new p put channel c come has j is connected low w reliable message reads logged marked = absurd has
came-answers joined now time from (x ∷ puts) to new p put channel c come (inr has) j is connected low w reliable message reads logged marked =
    came-answers joined now time from puts come.0 new p put channel c come.2 has (one-joint joined now time from x to come.0 come.1 j) is connected low w reliable message reads logged marked
came-answers joined now time from (x ∷ puts) to new p put channel c come (inl same) j is connected low w reliable message reads logged marked = elim k.after [
  | inl h ↦
      let it : h.0 ≡ q = same-peer to h.0 q h.1 k.is in
      let after : come.0 ≡ with_peer to (obeyed q now (Some time) put.message).after =
      came-obeys to come.0 h.3 h.0 q now (Some time) put.message it k.connected (subst (λ (y : Put). come.0 ≡ with_peer to (heeded h.3 h.0 now (Some time) y.message).after) same h.4) in
      let peer : come.0.peer ≡ Some (obeyed q now (Some time) put.message).after = ap (λ (e : End). e.peer) after in
      let waits = answered.waits in
      let there : Has (obeyed q now (Some time) put.message).after.outbox.acknowledgements a = subst (λ o. Has o.acknowledgements a) (sym waits) (Has-push q.outbox.acknowledgements a) in
      let rest = all-came now time from puts come.0 new (obeyed q now (Some time) put.message).after come.2 peer (k.stays (obeyed q now (Some time) put.message).after peer) in
      (rest.peer, rest.is, rest.kept.acknowledgements a there)
  | inr late ↦ absurd (late.0 (subst (λ (y : Put). InTime to from y) (sym same) in-time))
]
  where
    k : Comes now time from x to come.0
    k = come.1

    q : Peering
    q = k.peer

    a : Acknowledgement
    a = record { channel = channel; number = c.number; time = time }

    fresh : is_late (sent_on channel from) put.sent_then c.number ≡ false
    fresh = ap (λ g. is_late (sent_on channel from) g c.number) marked ∙ timely joined from to p channel c.number j is connected low w

    on : put.message.head.channel ≡ channel
    on = ap (λ (m : Message). m.head.channel) message

    reads_so : data_of put.message ≡ Some c
    reads_so = ap data_of message ∙ reads

    in-time : InTime to from put
    in-time = record {
      logged = logged;
      of_data = λ small d e. (let z : d ≡ c = some-is (sym e ∙ reads_so) in
          subst (λ (y : DataCommand). is_late (sent_on put.message.head.channel from) put.sent_then y.number ≡ false) (sym z) (subst (λ n. is_late (sent_on n from) put.sent_then c.number ≡ false) (sym on) fresh));
      of_acknowledgement = λ small number t e. absurd (no-data put.message number t c e reads_so);
    }
      where
        no-data : (m : Message) (number t : ℕ) (d : DataCommand) → m.body ≡ acknowledge number t → data_of m ≡ Some d → ⊥
        no-data m number t d e r = (let z : None ≡ Some d = ap (read_of m.head) (sym e) ∙ r in cc)

    awaits : HasRoomFor from x q → Awaits from to p q put channel c
    awaits has_room = (let room = has_room.there c (ap (λ (y : Put). data_of y.message) same ∙ reads_so) in record {
      from_is = is;
      to_is = k.is;
      sends = ap sends_in connected;
      connected = k.connected;
      logged = logged;
      message = message;
      reads = reads;
      reliable = reliable;
      waits = subst (λ (o : Option SendingEnd). Has (nums (sender_in o).sent) c.number) (sym w.1) w.2;
      in_time = fresh;
      end = room.0;
      there = subst (λ n. slice_get q.inbox.receivers n ≡ Some room.0) (ap (λ (y : Put). y.message.head.channel) same ∙ on) room.1;
      room = room.2;
      free = has_room.free;
      short = room.3;
    })

    reaches : Reaches from to p q put channel c
    reaches = record {
      from_is = is;
      to_is = k.is;
      sends = ap sends_in connected;
      connected = k.connected;
      logged = logged;
      message = message;
      reads = reads;
      reliable = reliable;
      waits = subst (λ (o : Option SendingEnd). Has (nums (sender_in o).sent) c.number) (sym w.1) w.2;
      in_time = fresh;
    }

    answered : IsAnswered q channel time c (obeyed q now (Some time) put.message)
    answered = elim k.room [
      | inl has_room ↦ answers-forth joined (record { one = from; two = to }) p q put channel c now time j low (awaits has_room)
      | inr goes ↦ not-stopped joined (record { one = from; two = to }) p q put channel c now time j low reaches (subst (λ (y : Put). (obeyed q now (Some time) y.message).stop ≡ None) same goes)
    ]

-- an acknowledgement that waits is in time
acknowledged-in-time : (joined : Bool) (from to : End) (p : Peering) (put : Put) (a : Acknowledgement) → Joint joined from to → to.peer ≡ Some p → p.state ≡ state.Connected → a.channel < 255 → Waits p.outbox.senders a.channel a.number
    → put.message ≡ acknowledgement_of a → Has from.log put → put.sent_then ≡ sent_on a.channel to → InTime to from put
acknowledged-in-time joined from to p put a j is connected low w message logged marked = record {
  logged = logged;
  of_data = λ small d e. absurd (let z : None ≡ Some d = ap data_of (sym message) ∙ e in cc);
  of_acknowledgement = λ small number time e. (let z : number ≡ a.number = one-number (sym e ∙ ap (λ (m : Message). m.body) message) in
      subst (λ n. is_late (sent_on put.message.head.channel to) put.sent_then n ≡ false) (sym z) (subst (λ n. is_late (sent_on n to) put.sent_then a.number ≡ false) (sym on) fresh));
}
  where
    on : put.message.head.channel ≡ a.channel
    on = ap (λ (m : Message). m.head.channel) message

    fresh : is_late (sent_on a.channel to) put.sent_then a.number ≡ false
    fresh = ap (λ g. is_late (sent_on a.channel to) g a.number) marked ∙ timely joined to from p a.channel a.number (joint-swap joined from to j) is connected low w

    one-number : {m n t u : ℕ} → acknowledge m t ≡ acknowledge n u → m ≡ n
    one-number {m} {n} {t} {u} e = cc

-- a command that was sent waits
abbrev pub waits-of : (senders : List SendingEnd) (channel number : ℕ) (t : Sent) → HasSent senders channel t → t.command.number ≡ number → Waits senders channel number
waits-of senders channel number t h same = (h.0, h.1, subst (λ n. Has (nums h.0.sender.sent) n) same (Has-nums h.0.sender.sent t h.2))

-- a told time is that of a send, where so much is added to the times that are told
abbrev pub IsToldTime : (offset told : ℕ) → Transmission → Type 0
IsToldTime offset told t = went_at (meant_time told (offset % 2 ^ 16)) t ≡ true

pub told-still : (p q : Peering) (told : ℕ) (t : Transmission) → q.offset ≡ p.offset → IsToldTime p.offset told t → IsToldTime q.offset told t
told-still p q told t e h = subst (λ n. IsToldTime n told t) (sym e) h

-- an acknowledgement that comes takes its command away
took-away : (joined : Bool) (now time : ℕ) (from to : End) (p : Peering) (m : Message) (a : Acknowledgement) (t : Sent) → Joint joined from to → to.peer ≡ Some p → p.state ≡ state.Connected → a.channel < 255
    → (h : HasSent p.outbox.senders a.channel t) → t.command.number ≡ a.number → IsToldTime p.offset a.time t.transmission → m ≡ acknowledgement_of a → IsRemoved p a.channel a.number h.0 (obeyed p now (Some time) m)
took-away joined now time from to p m a t j is connected low h same went message =
    let placed = alone joined to from p a.channel t (joint-swap joined from to j) is connected low h in
    subst (λ (m : Message). IsRemoved p a.channel a.number h.0 (obeyed p now (Some time) m)) (sym message)
    (removed-at p now (Some time) (acknowledgement_of a) a.number a.time h.0 connected refl refl low h.1 placed.0 t (ap (λ n. position_of n h.0.sender.sent) (sym same) ∙ placed.1) placed.2 went)

pub came-less : (joined : Bool) (now time : ℕ) (from : End) (puts : List Put) (to new : End) (p : Peering) (put : Put) (a : Acknowledgement) (t : Sent) → AllCome now time from puts to new → Has puts put → Joint joined from to
    → to.peer ≡ Some p → p.state ≡ state.Connected → a.channel < 255 → HasSent p.outbox.senders a.channel t → t.command.number ≡ a.number → IsToldTime p.offset a.time t.transmission
    → put.message ≡ acknowledgement_of a → Has from.log put → put.sent_then ≡ sent_on a.channel to
    → (q : Peering) × (new.peer ≡ Some q) × (outstanding_over q.outbox.senders < outstanding_over p.outbox.senders)
came-less joined now time from [] to new p put a t come has j is connected low w number went message logged marked = absurd has
came-less joined now time from (x ∷ puts) to new p put a t come (inr has) j is connected low w number went message logged marked =
    let k = one-came now time from x to come.0 p come.1 is in
    elim k.kept.senders [
      | inl same ↦
          let still : HasSent k.peer.outbox.senders a.channel t = subst (λ (l : List SendingEnd). HasSent l a.channel t) (sym same) w in
          let rest = came-less joined now time from puts come.0 new k.peer put a t come.2 has (one-joint joined now time from x to come.0 come.1 j) k.is k.connected low still number (told-still p k.peer a.time t.transmission k.kept.offset went) message logged (marked ∙ ap (λ (l : List Put). reached a.channel 0 (messages_of l)) (sym k.log)) in
          (rest.0, rest.1, subst (λ (l : List SendingEnd). outstanding_over rest.0.outbox.senders < outstanding_over l) same rest.2)
      | inr less ↦
          let rest = all-came now time from puts come.0 new k.peer come.2 k.is k.connected in
          let least = kept-least k.peer rest.peer rest.kept in
          (rest.peer, rest.is, omega arith)
    ]
came-less joined now time from (x ∷ puts) to new p put a t come (inl same) j is connected low w number went message logged marked = elim come.1.after [
  | inl h ↦
      let k = one-came now time from x to come.0 p come.1 is in
      let it : h.0 ≡ p = same-peer to h.0 p h.1 is in
      let after : come.0 ≡ with_peer to (obeyed p now (Some time) x.message).after = came-obeys to come.0 h.3 h.0 p now (Some time) x.message it connected h.4 in
      let peer : k.peer ≡ (obeyed p now (Some time) x.message).after = same-peer come.0 k.peer (obeyed p now (Some time) x.message).after k.is (ap (λ (e : End). e.peer) after) in
      let away : IsRemoved p a.channel a.number w.0 (obeyed p now (Some time) x.message) = took-away joined now time from to p x.message a t j is connected low w number went (ap (λ (y : Put). y.message) same ∙ message) in
      let rest = all-came now time from puts come.0 new k.peer come.2 k.is k.connected in
      let least = kept-least k.peer rest.peer rest.kept in
      elim k.kept.senders [
        | inl stays ↦
            let there : slice_get k.peer.outbox.senders a.channel ≡ Some away.after = ap (λ (y : Peering). slice_get y.outbox.senders a.channel) peer ∙ away.there in
            let one : Some w.0 ≡ Some away.after = sym w.1 ∙ ap (λ (l : List SendingEnd). slice_get l a.channel) (sym stays) ∙ there in
            let equal : length w.0.sender.sent ≡ length away.after.sender.sent = ap (λ (s : SendingEnd). length s.sender.sent) (some-is one) in
            let less = away.less in
            absurd (omega arith)
        | inr less ↦ (rest.peer, rest.is, omega arith)
      ]
  | inr late ↦ absurd (late.0 (subst (λ (y : Put). InTime to from y) (sym same) (acknowledged-in-time joined from to p put a j is connected low (waits-of p.outbox.senders a.channel a.number t w number) message logged marked)))
]

abbrev NoneOf : List SendingEnd → ℕ → ℕ → Type 0
NoneOf senders channel number = (t : Sent) → HasSent senders channel t → t.command.number ≡ number → ⊥

-- an acknowledgement that comes takes its command away: the only one of its number
away-none : (joined : Bool) (from to : End) (p : Peering) (a : Acknowledgement) (w : Waits p.outbox.senders a.channel a.number) (o : Outcome) → Joint joined from to → to.peer ≡ Some p → p.state ≡ state.Connected → a.channel < 255
    → IsRemoved p a.channel a.number w.0 o → NoneOf o.after.outbox.senders a.channel a.number
away-none joined from to p a w o j is connected low away t h e =
    let k = linked joined to from p a.channel (joint-swap joined from to j) is connected low in
    let here : k.link.outgoing ≡ w.0.sender = k.outgoing ∙ ap sender_in w.1 in
    let one : Some away.after ≡ Some h.0 = sym away.there ∙ h.1 in
    let left : Has away.after.sender.sent t = subst (λ (y : SendingEnd). Has y.sender.sent t) (sym (some-is one)) h.2 in
    let gone : away.after.sender.sent ≡ drop_first (λ (q : Sent). q.command.number == a.number) w.0.sender.sent = ap (λ o. o.sent) away.is ∙ without-first (λ (q : Sent). q.command.number == a.number) w.0.sender.sent in
    let there : Has (drop_first (λ (q : Sent). q.command.number == a.number) k.link.outgoing.sent) t = subst (λ o. Has (drop_first (λ (q : Sent). q.command.number == a.number) o.sent) t) (sym here) (subst (λ (l : List Sent). Has l t) gone left) in
    let near = k.sound.numbers.unacked in
    none-left k.mtu k.sound.link.sent a.number k.sound.link.carried k.sound.link.unacked k.link.outgoing.sent k.sound.shows.rising (λ m i. (let n = near m i in (n.1, n.2))) (k.sound.shows.images k.sending) t there e

pub came-none : (joined : Bool) (now time : ℕ) (from : End) (puts : List Put) (to new : End) (p : Peering) (put : Put) (a : Acknowledgement) (t : Sent) → AllCome now time from puts to new → Has puts put → Joint joined from to
    → to.peer ≡ Some p → p.state ≡ state.Connected → a.channel < 255 → t.command.number ≡ a.number → IsToldTime p.offset a.time t.transmission → put.message ≡ acknowledgement_of a → Has from.log put → put.sent_then ≡ sent_on a.channel to
    → (q : Peering) × (new.peer ≡ Some q) × (HasSent q.outbox.senders a.channel t → ⊥)
came-none joined now time from [] to new p put a t come has j is connected low number went message logged marked = absurd has
came-none joined now time from (x ∷ puts) to new p put a t come (inr has) j is connected low number went message logged marked =
    let k = one-came now time from x to come.0 p come.1 is in
    came-none joined now time from puts come.0 new k.peer put a t come.2 has (one-joint joined now time from x to come.0 come.1 j) k.is k.connected low number (told-still p k.peer a.time t.transmission k.kept.offset went) message logged (marked ∙ ap (λ (l : List Put). reached a.channel 0 (messages_of l)) (sym k.log))
came-none joined now time from (x ∷ puts) to new p put a t come (inl same) j is connected low number went message logged marked =
    (rest.peer, rest.is, λ h. let there = rest.kept.sent a.channel t h in gone there (k.kept.sent a.channel t there))
  where
    k : Came to come.0 p
    k = one-came now time from x to come.0 p come.1 is

    rest : Came come.0 new k.peer
    rest = all-came now time from puts come.0 new k.peer come.2 k.is k.connected

    -- it isn't there once the acknowledgement came
    gone : HasSent k.peer.outbox.senders a.channel t → HasSent p.outbox.senders a.channel t → ⊥
    gone there w = elim come.1.after [
      | inl h ↦
          let it : h.0 ≡ p = same-peer to h.0 p h.1 is in
          let after : come.0 ≡ with_peer to (obeyed p now (Some time) x.message).after = came-obeys to come.0 h.3 h.0 p now (Some time) x.message it connected h.4 in
          let peer : k.peer ≡ (obeyed p now (Some time) x.message).after = same-peer come.0 k.peer (obeyed p now (Some time) x.message).after k.is (ap (λ (e : End). e.peer) after) in
          let away : IsRemoved p a.channel a.number w.0 (obeyed p now (Some time) x.message) = took-away joined now time from to p x.message a t j is connected low w number went (ap (λ (y : Put). y.message) same ∙ message) in
          away-none joined from to p a (waits-of p.outbox.senders a.channel a.number t w number) (obeyed p now (Some time) x.message) j is connected low away t
          (subst (λ (y : Peering). HasSent y.outbox.senders a.channel t) peer there) number
      | inr late ↦ absurd (late.0 (subst (λ (y : Put). InTime to from y) (sym same) (acknowledged-in-time joined from to p put a j is connected low (waits-of p.outbox.senders a.channel a.number t w number) message logged marked)))
    ]
