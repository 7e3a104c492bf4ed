-- A connected peer with room takes in each data command of the other end, reliable or not, without a stop.
use Rattle.std.proofs.Common.{◌≡◌, ℕ, ◌<◌, ◌&&◌, ◌||◌, Bool, true, false, cond, refl, sym, ap, subst, ◌∙◌, Option, Some, None, Result, Ok, Err}
use Rattle.std.specs.List.{slice_get}
use Rattle.std.specs.FinMap.{get, empty, get-empty}
use Rattle.std.specs.Ordering.{nat_cmp}
use Rattle.std.specs.Option.{is_none}
use Rattle.std.specs.Prelude.{is_ok}
use Rattle.enet_codec.specs.declared.command.Fragment.{Fragment}
use Rattle.enet_codec.specs.declared.stop.Stop.{Stop}
use Rattle.enet_codec.specs.Message.{Message, send_unreliable, send_unreliable_fragment}
use Rattle.enet_seq.specs.Numbering.{wire, number_read}
use Rattle.enet_fragment.specs.declared.data.DataCommand.{DataCommand}
use Rattle.enet_fragment.specs.DataCommand.{data_of, message_of, wire_body}
use Rattle.enet_packets.specs.declared.incoming_packet.IncomingPacket.{IncomingPacket}
use Rattle.enet_packets.specs.Packets.{line_at}
use Rattle.enet_receiver.specs.declared.took.Took.TheVariants.{Held, Again, Bad, Waiting}
use Rattle.enet_receiver.specs.DataOutcome.{outcome, outcome_at, is_handled, is_piece, agrees_with, own_place, place_read, came, came_at, came_if, came_before, is_behind}
use Rattle.enet_receiver.specs.Receiver.{Receiver, without_waiting}
use Rattle.enet_receiver.specs.Foresight.{ReceivingEnd}
use Rattle.enet_inbox.specs.Inbox.{Inbox, is_full_for, given_way_receiver, given_way}
use Rattle.enet_inbox.specs.DataEffect.{DataEffect, plain_arrival, arrival, sequenced, sequenced_on}
use Rattle.enet_peer.specs.declared.parts.PeerState.TheVariants as state
use Rattle.enet_peer.specs.Peering.{Peering}
use Rattle.enet_peer.specs.CommandEffect.{obeyed, by_arrival, by_answer, answered_at, is_answered_in}
use Rattle.law_connection.specs.Link.{PutOut, is_late}
use Rattle.law_connection.specs.Connection.{Put, End, Connection}
use Rattle.law_connection.specs.Invariant.{Invariant}
use Rattle.law_connection.specs.Linked.{IsLinked, dispatches_in, receiver_in, dispatched_on, ShowsReceiving}
use Rattle.law_connection.proofs.LinkRuns.{Sound-runs, Sound-fresh}
use Rattle.law_connection.specs.LinkSteps as link
use Rattle.law_progress.specs.Links.{AreShort}
use Rattle.law_progress.specs.Peers.{Comes}
use Rattle.law_progress.proofs.Handled as handling
use Rattle.law_progress.proofs.Arrivals.{Coming, meets, took-ok}
use Rattle.law_progress.proofs.PeerAnswers.{on-channel}

-- where what waits gave way, nothing came of an unreliable packet, so its command is handled where it can be a piece of it
none-came : (r : Receiver) (c : DataCommand) (place : ℕ) → c.reliable ≡ false → came_at (without_waiting r) c place ≡ None
none-came r c place unreliable = ap (λ b. cond b (get r.held place) (get (line_at empty place) c.unreliable)) unreliable ∙ empty-line
  where
    line : line_at empty place ≡ empty
    line = ap (λ (o : Option (Rattle.std.specs.FinMap.FinMap nat_cmp IncomingPacket)). Rattle.std.specs.Prelude.unwrap_or o empty) (get-empty nat_cmp place)

    empty-line : get (line_at empty place) c.unreliable ≡ None
    empty-line = ap (λ (l : Rattle.std.specs.FinMap.FinMap nat_cmp IncomingPacket). get l c.unreliable) line ∙ get-empty nat_cmp c.unreliable

still-handled : (most : ℕ) (r : Receiver) (c : DataCommand) → c.reliable ≡ false → is_handled (outcome wire most r c false) ≡ true → is_handled (outcome wire most (without_waiting r) c false) ≡ true
still-handled most r c unreliable ok = by (is_piece most c) refl
  where
    agrees : agrees_with (came_before wire (without_waiting r) c) c ≡ true
    agrees = ap (λ o. agrees_with o c) (none (number_read wire r.front (own_place c)))
      where
        none : (o : Option ℕ) → came_if (without_waiting r) c o ≡ None
        none None = refl
        none (Some place) = none-came r c place unreliable

    at : (o : Option ℕ) → is_handled (outcome_at (without_waiting r) c false o) ≡ true
    at None = refl
    at (Some place) = elim (is_behind (without_waiting r) c place || came (came_at (without_waiting r) c place) c) as (λ b. is_handled (cond b Again (cond (false && is_none (came_at (without_waiting r) c place)) Waiting Held)) ≡ true) [ true ↦ refl | false ↦ refl ]

    by : (b : Bool) → is_piece most c ≡ b → is_handled (outcome wire most (without_waiting r) c false) ≡ true
    by true e =
        let fits : (is_piece most c && agrees_with (came_before wire (without_waiting r) c) c) ≡ true = (λ i. e i && agrees i) in
        ap (λ b. is_handled (cond b (outcome_at (without_waiting r) c false (place_read wire r c)) Bad)) fits ∙ at (place_read wire r c)
    by false e = absurd (let z : is_handled (outcome wire most r c false) ≡ false = ap (λ b. is_handled (cond (b && agrees_with (came_before wire r c) c) (outcome_at r c false (place_read wire r c)) Bad)) e in
        let y : true ≡ false = sym ok ∙ z in cc)

-- the inbox takes the command in, as it is, or once what waits gave way
arrives : (b : Inbox) (channel : ℕ) (c : DataCommand) (r : ReceivingEnd) (m : Message) → Coming b channel c r m → is_ok (arrival b m).answer ≡ true
arrives b channel c r m k =
    let met = meets b channel c r m k in
    ap (λ (a : DataEffect). is_ok a.answer) met.is ∙ took-ok met.took met.inbox channel met.end c met.handled

-- so does the peer
unstopped : (q : Peering) (now : ℕ) (sent : Option ℕ) (channel : ℕ) (c : DataCommand) (r : ReceivingEnd) → q.state ≡ state.Connected → c.reliable ≡ false → slice_get q.inbox.receivers channel ≡ Some r → data_of (message_of channel c) ≡ Some c
    → is_handled (outcome wire r.max_packet r.receiver c false) ≡ true → is_full_for (given_way q.inbox) (given_way_receiver r) c ≡ false → (obeyed q now sent (message_of channel c)).stop ≡ None
unstopped q now sent channel c r connected unreliable there reads ok room = subst (λ (x : Peering). (obeyed x now sent (message_of channel c)).stop ≡ None) at (by c.reliable unreliable c.fragment reads)
  where
    open' : Peering
    open' = record q { state = state.Connected }

    at : open' ≡ q
    at = ap (λ s. record q { state = s }) (sym connected)

    goes : (m : Message) → m.head.acknowledge ≡ false → ((b : Inbox) → plain_arrival b m ≡ sequenced_on b channel c (slice_get b.receivers channel)) → (by_arrival open' m sent (arrival q.inbox m)).stop ≡ None
    goes m asks plain = answers (arrival q.inbox m) (arrives q.inbox channel c r m (record { plain = plain; there = there; handled = ok; handled_alone = still-handled r.max_packet r.receiver c unreliable ok; room = room }))
      where
        answers : (a : DataEffect) → is_ok a.answer ≡ true → (by_arrival open' m sent a).stop ≡ None
        answers a e = by a.answer e
          where
            by : (x : Result Bool Stop) → is_ok x ≡ true → (by_answer (record open' { inbox = a.after }) m sent x).stop ≡ None
            by (Ok may) h = ap (λ asked. (cond (asked && may && is_answered_in state.Connected m.body) (answered_at (record open' { inbox = a.after }) m.head sent) (record { stop = None; after = record open' { inbox = a.after } })).stop) asks
            by (Err why) h = absurd (cc)

    by : (b : Bool) → b ≡ false → (f : Option Fragment) → data_of (record { head = record { acknowledge = b; unsequenced = false; channel = channel; number = c.number }; body = wire_body b f c.unreliable c.body }) ≡ Some c
        → (obeyed open' now sent (record { head = record { acknowledge = b; unsequenced = false; channel = channel; number = c.number }; body = wire_body b f c.unreliable c.body })).stop ≡ None
    by true e f is = absurd (cc)
    by false e None is =
        let m : Message = record { head = record { acknowledge = false; unsequenced = false; channel = channel; number = c.number }; body = send_unreliable c.unreliable c.body } in
        goes m refl (λ b. ap (sequenced b channel) is)
    by false e (Some f) is =
        let m : Message = record { head = record { acknowledge = false; unsequenced = false; channel = channel; number = c.number }; body = send_unreliable_fragment f c.body } in
        goes m refl (λ b. ap (sequenced b channel) is)

-- by the link of the channel
linked-unstopped : (from to : End) (channel : ℕ) (q : Peering) (put : Put) (c : DataCommand) (now : ℕ) (sent : Option ℕ) → IsLinked from to channel → (a : Comes from to q put channel c) → (obeyed q now sent put.message).stop ≡ None
linked-unstopped from to channel q put c now sent k a =
    let v = k.link in
    let s = Sound-runs k.mtu k.events link.fresh_link v k.big (Sound-fresh k.mtu) k.runs in
    let receiving = subst (λ o. ShowsReceiving to o channel v) a.to_is k.receiving in
    let up : v.is_open ≡ true = sym receiving.0 ∙ ap dispatches_in a.connected in
    let r = a.end in
    let now_is : v.incoming ≡ record (receiver_in (slice_get q.inbox.receivers channel)) { dispatched = dispatched_on channel to q } = receiving.1 up in
    let is : v.incoming ≡ record r.receiver { dispatched = dispatched_on channel to q } = now_is ∙ ap (λ o. record (receiver_in o) { dispatched = dispatched_on channel to q }) a.there in
    let on : put.message.head.channel ≡ channel = ap (λ (m : Message). m.head.channel) a.message in
    let reads : data_of put.message ≡ Some c = ap data_of a.message ∙ a.reads in
    let e : PutOut = record { command = c; sent_then = put.sent_then } in
    let short : AreShort r.max_packet v.submitted = subst (λ qs. AreShort r.max_packet qs) (sym k.submitted) (on-channel k.mtu channel r.max_packet from.submitted a.short) in
    let here = handling.handled k.mtu r.max_packet v s up short e (k.commands put c a.logged on reads) (ap (λ z. is_late z put.sent_then c.number) k.greatest ∙ a.in_time) in
    let there : is_handled (outcome wire r.max_packet r.receiver c false) ≡ true = sym (ap (λ x. is_handled (outcome wire r.max_packet x c false)) is) ∙ here in
    subst (λ m. (obeyed q now sent m).stop ≡ None) (sym a.message) (unstopped q now sent channel c r a.connected a.unreliable a.there a.reads there a.room)

pub unstopped-forth : (joined : Bool) (d : Connection) (q : Peering) (put : Put) (channel : ℕ) (c : DataCommand) (now : ℕ) (sent : Option ℕ) → Invariant joined d → channel < 255 → Comes d.one d.two q put channel c → (obeyed q now sent put.message).stop ≡ None
unstopped-forth joined d q put channel c now sent i low a = linked-unstopped d.one d.two channel q put c now sent (i.both.out channel low) a

pub unstopped-back : (joined : Bool) (d : Connection) (q : Peering) (put : Put) (channel : ℕ) (c : DataCommand) (now : ℕ) (sent : Option ℕ) → Invariant joined d → channel < 255 → Comes d.two d.one q put channel c → (obeyed q now sent put.message).stop ≡ None
unstopped-back joined d q put channel c now sent i low a = linked-unstopped d.two d.one channel q put c now sent (i.both.back channel low) a
