-- A connected peer with room answers each command that its sender waits for.
use Rattle.std.proofs.Common.{◌≡◌, ℕ, ◌%◌, ◌<◌, ◌≤◌, ◌&&◌, Bool, true, false, cond, not, List, [], ◌∷◌, length, map, refl, sym, ap, subst, ◌∙◌, inl, inr, arith, Option, Some, None, ◌==◌}
use Rattle.std.specs.List.{slice_get}
use Rattle.std.specs.FinMap.{get}
use Rattle.enet_codec.specs.declared.packet.Packet.{Packet}
use Rattle.enet_codec.specs.declared.command.Fragment.{Fragment}
use Rattle.enet_codec.specs.declared.stop.Stop.TheVariants as stop
use Rattle.enet_codec.specs.Message.{Message, Body, send_reliable, send_fragment}
use Rattle.enet_seq.specs.Windows.{acknowledges}
use Rattle.enet_seq.specs.Numbering.{wire, number_read}
use Rattle.enet_fragment.specs.declared.data.DataCommand.{DataCommand}
use Rattle.enet_fragment.specs.DataCommand.{data_of, message_of, wire_body}
use Rattle.enet_receiver.specs.declared.took.Took.{Took}
use Rattle.enet_receiver.specs.declared.took.Took.TheVariants.{Held, Again, Outside, Bad, Waiting, Memory}
use Rattle.enet_packets.specs.Packets.{line_at}
use Rattle.enet_receiver.specs.DataOutcome.{outcome, outcome_at, outcome_of, is_handled, acknowledged, is_piece, agrees_with, own_place, place_read, came_at, came_if}
use Rattle.enet_receiver.specs.Receiver.{Receiver, without_waiting}
use Rattle.enet_receiver.specs.Foresight.{ReceivingEnd}
use Rattle.enet_sender.specs.CommandChoice as command_choice
use Rattle.enet_sender.specs.Sender.{Sender}
use Rattle.enet_sender.specs.declared.sent.Sent.{Sent}
use Rattle.enet_inbox.specs.Inbox.{Inbox, is_full_for, given_way_receiver, given_way}
use Rattle.enet_inbox.specs.DataEffect.{DataEffect, plain_arrival, arrival, sequenced, sequenced_on, by_took, passed_over}
use Rattle.enet_outbox.specs.Outbox.{with_acknowledgement, is_unsequenced}
use Rattle.enet_peer.specs.declared.parts.PeerState.TheVariants as state
use Rattle.enet_peer.specs.Endings.{is_later}
use Rattle.enet_peer.specs.Peering.{Peering}
use Rattle.enet_outbox.specs.Outbox.{is_crowded}
use Rattle.enet_peer.specs.CommandEffect.{obeyed, drops_acknowledgements, is_crowded_out, is_unasked, unless_refused, on_data, by_arrival, by_answer, answered, answered_at, is_allowed, is_answered_in, stopped}
use Rattle.law_connection.specs.Link.{PutOut, is_late}
use Rattle.law_connection.specs.LinkSteps.{Has}
use Rattle.law_connection.specs.Connection.{Put, End, Connection, of_channel}
use Rattle.law_connection.specs.Invariant.{Invariant}
use Rattle.law_connection.specs.Linked.{IsLinked, dispatches_in, receiver_in}
use Rattle.law_connection.proofs.LinkRuns.{keeps, Sound-runs, Sound-fresh}
use Rattle.law_connection.specs.LinkSteps as link
use Rattle.law_progress.specs.Links.{Waits, AreShort}
use Rattle.law_progress.specs.Peers.{Awaits, IsAnswered}
use Rattle.law_progress.proofs.Answered as answering
use Rattle.law_progress.proofs.Arrivals.{Coming, meets}

-- an inbox handles it
pub took-answers : (q : Peering) (channel time : ℕ) (c : DataCommand) (b : Inbox) (r : ReceivingEnd) (m : Message) → q.state ≡ state.Connected → m.head.acknowledge ≡ true → m.head.channel ≡ channel → m.head.number ≡ c.number
    → (t : Took) → is_handled t ≡ true → acknowledges r.receiver.front c.number ≡ true → IsAnswered q channel time c (by_arrival q m (Some time) (by_took t b channel r c))
took-answers q channel time c b r m connected asks on number t ok ack = by t ok
  where
    answers : (a : Inbox) → IsAnswered q channel time c (answered (record q { inbox = a }) m (Some time) (acknowledges r.receiver.front c.number))
    answers a =
        let in_state : is_answered_in q.state m.body ≡ true = ap (λ s. is_answered_in s m.body) connected in
        let all : (m.head.acknowledge && acknowledges r.receiver.front c.number && is_answered_in q.state m.body) ≡ true = (λ i. asks i && ack i && in_state i) in
        subst (λ x. IsAnswered q channel time c (cond x (answered_at (record q { inbox = a }) m.head (Some time)) (record { stop = None; after = record q { inbox = a } }))) (sym all)
        (record { stop = refl; waits = (λ i. with_acknowledgement q.outbox (record { channel = on i; number = number i; time = time })) })

    by : (t : Took) → is_handled t ≡ true → IsAnswered q channel time c (by_arrival q m (Some time) (by_took t b channel r c))
    by Held e = answers _
    by Again e = answers b
    by Outside e = answers b
    by Bad e = absurd (cc)
    by Waiting e = absurd (cc)
    by Memory e = absurd (cc)

-- what becomes of a reliable command doesn't go by the unreliable packets that wait
same-came : (r : Receiver) (c : DataCommand) (place : ℕ) → c.reliable ≡ true → came_at (without_waiting r) c place ≡ came_at r c place
same-came r c place reliable =
    ap (λ b. cond b (get r.held place) (get (line_at (without_waiting r).waiting place) c.unreliable)) reliable
    ∙ sym (ap (λ b. cond b (get r.held place) (get (line_at r.waiting place) c.unreliable)) reliable)

same-outcome : (most : ℕ) (r : Receiver) (c : DataCommand) (full : Bool) → c.reliable ≡ true → outcome wire most (without_waiting r) c full ≡ outcome wire most r c full
same-outcome most r c full reliable = (λ i. cond (is_piece most c && agrees_with (before (number_read wire r.front (own_place c)) i) c) (at (place_read wire r c) i) Bad)
  where
    before : (o : Option ℕ) → came_if (without_waiting r) c o ≡ came_if r c o
    before None = refl
    before (Some place) = same-came r c place reliable

    at : (o : Option ℕ) → outcome_at (without_waiting r) c full o ≡ outcome_at r c full o
    at None = refl
    at (Some place) = ap (outcome_of r c full place) (same-came r c place reliable)

-- the inbox that the command meets handles it
met-answers : (q : Peering) (channel time : ℕ) (c : DataCommand) (r : ReceivingEnd) (m : Message) → q.state ≡ state.Connected → m.head.acknowledge ≡ true → m.head.channel ≡ channel → m.head.number ≡ c.number
    → acknowledges r.receiver.front c.number ≡ true → Coming q.inbox channel c r m → IsAnswered q channel time c (by_arrival q m (Some time) (arrival q.inbox m))
met-answers q channel time c r m connected asks on number ack k =
    let met = meets q.inbox channel c r m k in
    subst (λ (x : DataEffect). IsAnswered q channel time c (by_arrival q m (Some time) x)) (sym met.is)
    (took-answers q channel time c met.inbox met.end m connected asks on number met.took met.handled (ap (λ n. acknowledges n c.number) met.front ∙ ack))

-- so does the peer
peer-answers : (q : Peering) (now channel time : ℕ) (c : DataCommand) (r : ReceivingEnd) → q.state ≡ state.Connected → c.reliable ≡ true → slice_get q.inbox.receivers channel ≡ Some r → data_of (message_of channel c) ≡ Some c
    → is_handled (outcome wire r.max_packet r.receiver c false) ≡ true → acknowledges r.receiver.front c.number ≡ true → is_full_for (given_way q.inbox) (given_way_receiver r) c ≡ false → is_crowded q.outbox ≡ false
    → IsAnswered q channel time c (obeyed q now (Some time) (message_of channel c))
peer-answers q now channel time c r connected reliable there reads ok ack room free = by c.reliable reliable c.fragment reads
  where
    obeys : (m : Message) → m.head.acknowledge ≡ true → m.head.channel ≡ channel → m.head.number ≡ c.number → ((b : Inbox) → plain_arrival b m ≡ sequenced_on b channel c (slice_get b.receivers channel))
        → IsAnswered q channel time c (on_data q m (Some time))
    obeys m asks on number plain =
        let alone = ap is_handled (same-outcome r.max_packet r.receiver c false reliable) ∙ ok in
        subst (λ b. IsAnswered q channel time c (cond b (by_answer q m (Some time) (passed_over q.inbox m)) (by_arrival q m (Some time) (arrival q.inbox m)))) (sym (ap is_later connected))
        (met-answers q channel time c r m connected asks on number ack (record { plain = plain; there = there; handled = ok; handled_alone = alone; room = room }))

    allows : (m : Message) (body : Body) → is_allowed state.Connected body ≡ true → is_unasked q m.body ≡ false → IsAnswered q channel time c (on_data q m (Some time)) → IsAnswered q channel time c (cond (is_allowed q.state body) (unless_refused q m (on_data q m (Some time))) (stopped q stop.NotConnected))
    allows m body e other h =
        subst (λ b. IsAnswered q channel time c (cond b (unless_refused q m (on_data q m (Some time))) (stopped q stop.NotConnected))) (sym (ap (λ s. is_allowed s body) connected ∙ e))
        (subst (λ u. IsAnswered q channel time c (cond u (stopped q stop.NotConnected) (cond (is_crowded_out q m) (stopped q stop.Waiting) (on_data q m (Some time))))) (sym other)
        (uncrowded (m.head.acknowledge) (not (drops_acknowledgements q.state m.body)) (is_crowded q.outbox) free))
      where
        uncrowded : (a b x : Bool) → x ≡ false → IsAnswered q channel time c (cond (a && b && x) (stopped q stop.Waiting) (on_data q m (Some time)))
        uncrowded true true true e = absurd (cc)
        uncrowded true true false e = h
        uncrowded true false x e = h
        uncrowded false b x e = h

    by : (b : Bool) → b ≡ true → (f : Option Fragment) → data_of (record { head = record { acknowledge = b; unsequenced = false; channel = channel; number = c.number }; body = wire_body b f c.unreliable c.body }) ≡ Some c
        → IsAnswered q channel time c (obeyed q now (Some time) (record { head = record { acknowledge = b; unsequenced = false; channel = channel; number = c.number }; body = wire_body b f c.unreliable c.body }))
    by false e f is = absurd (cc)
    by true e None is =
        let m : Message = record { head = record { acknowledge = true; unsequenced = false; channel = channel; number = c.number }; body = send_reliable c.body } in
        allows m (send_reliable c.body) refl refl (obeys m refl refl refl (λ b. ap (sequenced b channel) is))
    by true e (Some f) is =
        let m : Message = record { head = record { acknowledge = true; unsequenced = false; channel = channel; number = c.number }; body = send_fragment f c.body } in
        allows m (send_fragment f c.body) refl refl (obeys m refl refl refl (λ b. ap (sequenced b channel) is))

-- what goes on a channel was submitted
pub on-channel : (mtu channel most : ℕ) (qs : List Packet) → ((x : Packet) → Has qs x → length x.body ≤ most) → AreShort most (of_channel mtu channel qs)
on-channel mtu channel most [] short x h = absurd h
on-channel mtu channel most (q ∷ qs) short x h =
    elim (q.channel == channel && not (is_unsequenced mtu (record { flags = q.flags; body = q.body }))) as (λ b. Has (cond b ((record { flags = q.flags; body = q.body }) ∷ of_channel mtu channel qs) (of_channel mtu channel qs)) x → length x.body ≤ most) [
      | true ↦ elim [
        | inl e ↦ subst (λ (y : command_choice.Packet). length y.body ≤ most) e (short q (inl refl))
        | inr k ↦ on-channel mtu channel most qs (λ y j. short y (inr j)) x k
      ]
      | false ↦ λ k. on-channel mtu channel most qs (λ y j. short y (inr j)) x k
    ] h

pub both-of : (a b : Bool) → (a && b) ≡ true → (a ≡ true) × (b ≡ true)
both-of true b h = (refl, h)
both-of false b h = absurd (cc)

-- by the link of the channel
linked-answers : (from to : End) (channel : ℕ) (p q : Peering) (put : Put) (c : DataCommand) (now time : ℕ) → IsLinked from to channel → (a : Awaits from to p q put channel c) → IsAnswered q channel time c (obeyed q now (Some time) put.message)
linked-answers from to channel p q put c now time k a =
    let v = k.link in
    let s = Sound-runs k.mtu k.events link.fresh_link v k.big (Sound-fresh k.mtu) k.runs in
    let sending = subst (λ o. Rattle.law_connection.specs.Linked.ShowsSending o channel v) a.from_is k.sending in
    let receiving = subst (λ o. Rattle.law_connection.specs.Linked.ShowsReceiving to o channel v) a.to_is k.receiving in
    let sends = sending.0 a.sends in
    let up : v.is_open ≡ true = sym receiving.0 ∙ ap dispatches_in a.connected in
    let r = a.end in
    let now_is : v.incoming ≡ record (receiver_in (slice_get q.inbox.receivers channel)) { dispatched = Rattle.law_connection.specs.Linked.dispatched_on channel to q } = receiving.1 up in
    let is : v.incoming ≡ record r.receiver { dispatched = Rattle.law_connection.specs.Linked.dispatched_on channel to q } = now_is ∙ ap (λ o. record (receiver_in o) { dispatched = Rattle.law_connection.specs.Linked.dispatched_on channel to q }) a.there in
    let on : put.message.head.channel ≡ channel = ap (λ (m : Message). m.head.channel) a.message in
    let reads : data_of put.message ≡ Some c = ap data_of a.message ∙ a.reads in
    let e : PutOut = record { command = c; sent_then = put.sent_then } in
    let w : Waits v e = record {
      logged = k.commands put c a.logged on reads;
      reliable = a.reliable;
      waits = subst (λ (o : Sender). Has (map (λ (x : Sent). x.command.number) o.sent) c.number) (sym sends.1) a.waits;
      in_time = ap (λ z. is_late z put.sent_then c.number) k.greatest ∙ a.in_time;
    } in
    let short : AreShort r.max_packet v.submitted = subst (λ qs. AreShort r.max_packet qs) (sym k.submitted) (on-channel k.mtu channel r.max_packet from.submitted a.short) in
    let here = answering.answered k.mtu r.max_packet v s sends.0 up short e w in
    let there : acknowledged wire r.max_packet r.receiver c false ≡ true = sym (ap (λ x. acknowledged wire r.max_packet x c false) is) ∙ here in
    let both = both-of (is_handled (outcome wire r.max_packet r.receiver c false)) (acknowledges (r.receiver.front % 65536) c.number) there in
    let kept = keeps k.mtu k.events v k.big k.runs in
    let shown = (kept.shows up).front in
    let same_front : v.incoming.front ≡ r.receiver.front = ap (λ (x : Receiver). x.front) is in
    let small : r.receiver.front % 65536 ≡ r.receiver.front = omega arith in
    subst (λ m. IsAnswered q channel time c (obeyed q now (Some time) m)) (sym a.message)
    (peer-answers q now channel time c r a.connected a.reliable a.there a.reads both.0 (ap (λ n. acknowledges n c.number) (sym small) ∙ both.1) a.room a.free)

pub answers-forth : (joined : Bool) (d : Connection) (p q : Peering) (put : Put) (channel : ℕ) (c : DataCommand) (now time : ℕ) → Invariant joined d → channel < 255 → Awaits d.one d.two p q put channel c → IsAnswered q channel time c (obeyed q now (Some time) put.message)
answers-forth joined d p q put channel c now time i low a = linked-answers d.one d.two channel p q put c now time (i.both.out channel low) a

pub answers-back : (joined : Bool) (d : Connection) (p q : Peering) (put : Put) (channel : ℕ) (c : DataCommand) (now time : ℕ) → Invariant joined d → channel < 255 → Awaits d.two d.one p q put channel c → IsAnswered q channel time c (obeyed q now (Some time) put.message)
answers-back joined d p q put channel c now time i low a = linked-answers d.two d.one channel p q put c now time (i.both.back channel low) a
