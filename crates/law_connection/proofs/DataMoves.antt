-- A data command of the log that comes is a move of the link on its channel, whether it is taken in or passed over.
use Rattle.std.proofs.Common.{◌≡◌, ◌≢◌, ℕ, Bool, true, false, cond, List, [], ◌∷◌, ◌++◌, refl, sym, ap, ◌∙◌, Option, Some}
use Rattle.std.specs.List.{slice_get}
use Rattle.enet_seq.specs.Numbering.{wire}
use Rattle.enet_fragment.specs.declared.data.DataCommand.{DataCommand}
use Rattle.enet_fragment.specs.DataCommand.{data_of}
use Rattle.enet_packets.specs.declared.incoming_packet.Dispatched.{Dispatched}
use Rattle.enet_receiver.specs.Receiver.{Receiver}
use Rattle.enet_receiver.specs.DataOutcome.{received, acknowledged}
use Rattle.enet_receiver.specs.Foresight.{ReceivingEnd}
use Rattle.enet_inbox.specs.Inbox.{Inbox, is_full_for}
use Rattle.enet_inbox.specs.DataEffect.{sequenced_on}
use Rattle.enet_peer.specs.Peering.{Peering}
use Rattle.law_connection.specs.Link.{PutOut, is_late}
use Rattle.law_connection.specs.WireLink.{WireLink, arrives}
use Rattle.law_connection.specs.LinkSteps.{Has, Arrive, ArriveAnswered}
use Rattle.law_connection.specs.Connection.{Put, End, sent_on, packets_of, in_sequence}
use Rattle.law_connection.specs.Steps.{with_peer}
use Rattle.law_connection.specs.Linked.{IsLinked, dispatches_in, numbers_on, ShowsReceiving}
use Rattle.enet_receiver.proofs.Released.{does_the_same}
use Rattle.enet_receiver.proofs.Sequenced.{sequenced-received}
use Rattle.enet_receiver.specs.Sequenced.{HasSequenced}
use Rattle.law_connection.proofs.InboxMoves.{shown_in, arrival-own, arrival-other}
use Rattle.law_connection.proofs.Relinking.{Moved, stays, relinks, receiving-of, sending-by}

-- the move, acknowledged or not
arrives-moved : (mtu most : ℕ) (v : WireLink) (e : PutOut) (full answer : Bool) → Has v.commands e → is_late v.greatest e.sent_then e.command.number ≡ false
    → (answer ≡ true → (e.command.reliable ≡ true) × (v.is_open ≡ true → acknowledged wire most v.incoming e.command full ≡ true)) → Moved mtu v (arrives v most e.command full answer)
arrives-moved mtu most v e full true there late rule =
    let w : WireLink = arrives v most e.command full true in
    record { events = ArriveAnswered e most full ∷ []; runs = (w, record { comes = record { logged = there; in_time = late }; reliable = (rule refl).0; rule = (rule refl).1; after = refl }, refl); same = refl }
arrives-moved mtu most v e full false there late rule =
    let w : WireLink = arrives v most e.command full false in
    record { events = Arrive e most full ∷ []; runs = (w, record { comes = record { logged = there; in_time = late }; after = refl }, refl); same = refl }

-- a command of the log that comes: what it is, and that it isn't late
pub record Comes (own other : End) (put : Put) (c : DataCommand) : Type 0 where
  pub logged : Has other.log put
  pub is : data_of put.message ≡ Some c
  pub in_time : is_late (sent_on put.message.head.channel other) put.sent_then c.number ≡ false

-- it is taken in
pub back-taken_in : (own other : End) (p q : Peering) (put : Put) (c : DataCommand) (r : ReceivingEnd) (answer : Bool) (k : IsLinked other own put.message.head.channel) → own.peer ≡ Some p
    → dispatches_in p.state ≡ true → dispatches_in q.state ≡ true → Comes own other put c → slice_get p.inbox.receivers put.message.head.channel ≡ Some r → r.receiver.dispatched ≡ [] → HasSequenced r.receiver
    → q.inbox ≡ (sequenced_on p.inbox put.message.head.channel c (slice_get p.inbox.receivers put.message.head.channel)).after
    → (answer ≡ true → (c.reliable ≡ true) × (acknowledged wire r.max_packet k.link.incoming c (is_full_for p.inbox r c) ≡ true))
    → numbers_on put.message.head.channel q.outbox.acknowledgements ≡ cond answer (numbers_on put.message.head.channel p.outbox.acknowledgements ++ c.number ∷ []) (numbers_on put.message.head.channel p.outbox.acknowledgements)
    → IsLinked other (with_peer own q) put.message.head.channel
back-taken_in own other p q put c r answer k is opens open2 comes there none flagged box rule numbers =
    relinks other own other (with_peer own q) channel k w moved refl refl refl k.agreed (sending-by other.peer channel k.link w refl refl k.sending)
    (open2 ∙ sym opened, (λ t. shown), ap (λ (x : Receiver). x.dispatched) shown, ap (λ (ns : List ℕ). cond answer (ns ++ c.number ∷ []) ns) h.3 ∙ sym numbers)
  where
    channel : ℕ
    channel = put.message.head.channel

    full : Bool
    full = is_full_for p.inbox r c

    e : PutOut
    e = record { command = c; sent_then = put.sent_then }

    w : WireLink
    w = arrives k.link r.max_packet c full answer

    h : ShowsReceiving own (Some p) channel k.link
    h = receiving-of own p channel k.link is k.receiving

    opened : k.link.is_open ≡ true
    opened = sym h.0 ∙ opens

    late : is_late k.link.greatest put.sent_then c.number ≡ false
    late = ap (λ g. is_late g put.sent_then c.number) k.greatest ∙ comes.in_time

    moved : Moved k.mtu k.link w
    moved = arrives-moved k.mtu r.max_packet k.link e full answer (k.commands put c comes.logged refl comes.is) late (λ t. let x = rule t in (x.0, λ o. x.1))

    taken : List Dispatched
    taken = in_sequence channel (packets_of own.events)

    now : k.link.incoming ≡ shown_in channel taken p.inbox
    now = h.1 opened

    after' : shown_in channel taken q.inbox ≡ received wire r.max_packet (shown_in channel taken p.inbox) c full
    after' = ap (shown_in channel taken) box ∙ arrival-own channel taken p.inbox r c there none (does_the_same wire r.max_packet r.receiver c full (taken ++ in_sequence channel p.inbox.untaken))
        (let f = sequenced-received wire r.max_packet r.receiver c full flagged in f.dispatched)

    shown : w.incoming ≡ shown_in channel taken q.inbox
    shown = ap (λ b. cond b (received wire r.max_packet k.link.incoming c full) k.link.incoming) opened ∙ ap (λ (x : Receiver). received wire r.max_packet x c full) now ∙ sym after'

-- on another channel nothing happens
pub back-elsewhere : (own other : End) (p q : Peering) (j : ℕ) (c : DataCommand) (o : Option ReceivingEnd) (channel : ℕ) (k : IsLinked other own channel) → own.peer ≡ Some p → dispatches_in q.state ≡ dispatches_in p.state
    → j ≢ channel → q.inbox ≡ (sequenced_on p.inbox j c o).after → numbers_on channel q.outbox.acknowledgements ≡ numbers_on channel p.outbox.acknowledgements → IsLinked other (with_peer own q) channel
back-elsewhere own other p q j c o channel k is states apart box numbers =
    let h = receiving-of own p channel k.link is k.receiving in
    let taken : List Dispatched = in_sequence channel (packets_of own.events) in
    let same : shown_in channel taken q.inbox ≡ shown_in channel taken p.inbox = ap (shown_in channel taken) box ∙ arrival-other j channel taken p.inbox c o apart in
    relinks other own other (with_peer own q) channel k k.link (stays k.mtu k.link) refl refl refl k.agreed k.sending
    (states ∙ h.0, (λ t. h.1 t ∙ sym same), h.2 ∙ ap (λ (x : Receiver). x.dispatched) (sym same), h.3 ∙ sym numbers)

-- it is passed over by an end that no longer dispatches, and acknowledged
pub back-passed : (own other : End) (p q : Peering) (put : Put) (c : DataCommand) (k : IsLinked other own put.message.head.channel) → own.peer ≡ Some p
    → dispatches_in p.state ≡ false → dispatches_in q.state ≡ false → Comes own other put c → q.inbox ≡ p.inbox → c.reliable ≡ true
    → numbers_on put.message.head.channel q.outbox.acknowledgements ≡ numbers_on put.message.head.channel p.outbox.acknowledgements ++ c.number ∷ []
    → IsLinked other (with_peer own q) put.message.head.channel
back-passed own other p q put c k is shut shut2 comes box reliable numbers =
    let channel : ℕ = put.message.head.channel in
    let e : PutOut = record { command = c; sent_then = put.sent_then } in
    let w : WireLink = arrives k.link 0 c false true in
    let h = receiving-of own p channel k.link is k.receiving in
    let closed : k.link.is_open ≡ false = sym h.0 ∙ shut in
    let late : is_late k.link.greatest put.sent_then c.number ≡ false = ap (λ g. is_late g put.sent_then c.number) k.greatest ∙ comes.in_time in
    let moved = arrives-moved k.mtu 0 k.link e false true (k.commands put c comes.logged refl comes.is) late (λ t. (reliable, λ o. absurd (let x : true ≡ false = sym o ∙ closed in cc))) in
    let same : w.incoming ≡ k.link.incoming = ap (λ b. cond b (received wire 0 k.link.incoming c false) k.link.incoming) closed in
    relinks other own other (with_peer own q) channel k w moved refl refl refl k.agreed (sending-by other.peer channel k.link w refl refl k.sending) (
      shut2 ∙ sym closed,
      (λ t. absurd (let x : true ≡ false = sym t ∙ closed in cc)),
      ap (λ (x : Receiver). x.dispatched) same ∙ h.2 ∙ ap (λ (b : Inbox). in_sequence channel (packets_of own.events) ++ in_sequence channel b.untaken) (sym box),
      ap (λ ns. ns ++ c.number ∷ []) h.3 ∙ sym numbers,
    )
