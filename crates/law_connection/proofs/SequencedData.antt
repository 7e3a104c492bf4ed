-- Sequenced data that comes to a peer keeps all links.
use Rattle.std.proofs.Common.{◌≡◌, ◌≢◌, ℕ, ◌%◌, ◌<◌, Bool, true, false, cond, ◌==◌, ◌&&◌, [], ◌∷◌, ◌++◌, refl, sym, ap, subst, ◌∙◌, inl, inr, arith, Option, Some, None, Ok, Err, length, ltb}
use Rattle.std.proofs.lemmas.Bool.Decides.{nat_tests}
use Rattle.std.specs.List.{slice_get}
use Rattle.enet_codec.specs.Message.{Message}
use Rattle.enet_codec.specs.declared.stop.Stop.TheVariants as stop
use Rattle.enet_seq.specs.Numbering.{wire}
use Rattle.enet_seq.specs.Windows.{acknowledges}
use Rattle.enet_fragment.specs.declared.data.DataCommand.{DataCommand}
use Rattle.enet_fragment.specs.DataCommand.{data_of}
use Rattle.enet_receiver.specs.declared.took.Took.{Took}
use Rattle.enet_receiver.specs.declared.took.Took.TheVariants.{Held, Again, Outside, Bad, Waiting, Memory}
use Rattle.enet_receiver.specs.Receiver.{Receiver}
use Rattle.enet_receiver.specs.DataOutcome.{outcome, is_handled}
use Rattle.enet_receiver.specs.Foresight.{ReceivingEnd}
use Rattle.enet_inbox.specs.Inbox.{Inbox, is_full_for}
use Rattle.enet_inbox.specs.DataEffect.{DataEffect, by_took, sequenced_on, passed_over_on}
use Rattle.enet_outbox.specs.declared.parts.Acknowledgement.{Acknowledgement}
use Rattle.enet_outbox.specs.Outbox.{with_acknowledgement}
use Rattle.enet_peer.specs.Peering.{Peering}
use Rattle.enet_peer.specs.CommandEffect.{answered, answered_at, is_answered_in, by_answer, by_arrival}
use Rattle.law_connection.specs.Link.{is_late}
use Rattle.law_connection.specs.LinkSteps.{Has}
use Rattle.law_connection.proofs.LinkRuns.{keeps}
use Rattle.law_connection.specs.Connection.{Put, End, sent_on, packets_of, in_sequence}
use Rattle.law_connection.specs.Steps.{with_peer}
use Rattle.law_connection.specs.Linked.{IsLinked, sends_in, dispatches_in, receiver_in, numbers_on}
use Rattle.enet_receiver.specs.Sequenced.{HasSequenced}
use Rattle.law_connection.proofs.InboxMoves.{grown}
use Rattle.law_connection.proofs.Relinking.{out-quiet, receiving-of, back-quiet}
use Rattle.law_connection.proofs.DataMoves.{back-taken_in, back-elsewhere, back-passed}
use Rattle.law_connection.proofs.Commands.{Holds, numbers-push, numbers-push_own}
use Rattle.law_connection.proofs.Runs.{either, and-left, and-right}

both-true : (a b : Bool) → a ≡ true → b ≡ true → (a && b) ≡ true
both-true a b e f = λ i. e i && f i

-- a command of the log, with what it says
pub record Logged (other : End) (put : Put) (c : DataCommand) : Type 0 where
  pub logged : Has other.log put
  pub is : data_of put.message ≡ Some c
  pub in_time : is_late (sent_on put.message.head.channel other) put.sent_then c.number ≡ false
  pub number : put.message.head.number ≡ c.number
  pub asks : put.message.head.acknowledge ≡ true → c.reliable ≡ true
  pub low : put.message.head.channel < 255

-- the peer after the command, acknowledged or not
pub record After (p : Peering) (put : Put) (number : ℕ) (b : Inbox) (answer : Bool) (q : Peering) : Type 0 where
  pub same : q.state ≡ p.state
  pub mtu : q.terms.mtu ≡ p.terms.mtu
  pub senders : q.outbox.senders ≡ p.outbox.senders
  pub inbox : q.inbox ≡ b
  pub own : numbers_on put.message.head.channel q.outbox.acknowledgements ≡ cond answer (numbers_on put.message.head.channel p.outbox.acknowledgements ++ number ∷ []) (numbers_on put.message.head.channel p.outbox.acknowledgements)
  pub others : (channel : ℕ) → put.message.head.channel ≢ channel → numbers_on channel q.outbox.acknowledgements ≡ numbers_on channel p.outbox.acknowledgements

-- all the ways in which a command may be acknowledged
after-answered : (P : Peering → Type 0) (p : Peering) (put : Put) (number : ℕ) (b : Inbox) (sent : Option ℕ) (may : Bool) → put.message.head.number ≡ number
    → ((answer : Bool) (q : Peering) → (answer ≡ true → (put.message.head.acknowledge ≡ true) × (may ≡ true)) → After p put number b answer q → P q)
    → P (answered (record p { inbox = b }) put.message sent may).after
after-answered P p put number b sent may is k = by-if (m.head.acknowledge && may && is_answered_in p.state m.body) refl
  where
    m : Message
    m = put.message

    none : P (record p { inbox = b })
    none = k false (record p { inbox = b }) (λ t. absurd (let e : false ≡ true = t in cc)) (record { same = refl; mtu = refl; senders = refl; inbox = refl; own = refl; others = λ i n. refl })

    by-time : (m.head.acknowledge && may && is_answered_in p.state m.body) ≡ true → (o : Option ℕ) → P (answered_at (record p { inbox = b }) m.head o).after
    by-time t None = none
    by-time t (Some time) =
        let a : Acknowledgement = record { channel = m.head.channel; number = m.head.number; time = time } in
        let l : (m.head.acknowledge && may) ≡ true = and-left (m.head.acknowledge && may) (is_answered_in p.state m.body) t in
        k true (record p { inbox = b; outbox = with_acknowledgement p.outbox a }) (λ _. (and-left m.head.acknowledge may l, and-right m.head.acknowledge may l))
        (record {
          same = refl;
          mtu = refl;
          senders = refl;
          inbox = refl;
          own = numbers-push_own m.head.channel p.outbox.acknowledgements a refl ∙ ap (λ n. numbers_on m.head.channel p.outbox.acknowledgements ++ n ∷ []) is;
          others = λ i n. numbers-push i p.outbox.acknowledgements a n;
        })

    by-if : (t : Bool) → (m.head.acknowledge && may && is_answered_in p.state m.body) ≡ t → P (cond t (answered_at (record p { inbox = b }) m.head sent) (record { stop = None; after = record p { inbox = b } })).after
    by-if true e = by-time e sent
    by-if false e = none

-- a receiver that dispatches has a front of 16 bits
front-small : (own other : End) (channel : ℕ) (k : IsLinked other own channel) → k.link.is_open ≡ true → k.link.incoming.front < 65536
front-small own other channel k open' = let f = keeps k.mtu k.events k.link k.big k.runs in let s = f.shows open' in let e = s.front in omega arith

-- it is taken in
pub holds-taken_in : (own other : End) (p q : Peering) (put : Put) (c : DataCommand) (r : ReceivingEnd) (answer : Bool) → dispatches_in p.state ≡ true → Logged other put c
    → slice_get p.inbox.receivers put.message.head.channel ≡ Some r → r.receiver.dispatched ≡ [] → HasSequenced r.receiver
    → (answer ≡ true → (c.reliable ≡ true) × (is_handled (outcome wire r.max_packet r.receiver c (is_full_for p.inbox r c)) ≡ true) × (acknowledges r.receiver.front c.number ≡ true))
    → After p put c.number (sequenced_on p.inbox put.message.head.channel c (slice_get p.inbox.receivers put.message.head.channel)).after answer q → Holds own other p → Holds own other q
holds-taken_in own other p q put c r answer opens logged there none flagged rule after' b = record {
  out = λ channel few. out-quiet (with_peer own p) other p q channel refl (record { sends = ap sends_in after'.same; mtu = after'.mtu; senders = after'.senders }) (b.out channel few);
  back = λ channel few. elim (either (j == channel)) [
    | inl on ↦ (let at : j ≡ channel = grind (arith, nat_tests) in subst (λ i. IsLinked other (with_peer own q) i) at (here (b.back j logged.low)))
    | inr off ↦ (let n : j ≢ channel = (λ at. grind (arith, nat_tests)) in
        back-elsewhere (with_peer own p) other p q j c (slice_get p.inbox.receivers j) channel (b.back channel few) refl (ap dispatches_in after'.same) n after'.inbox (after'.others channel n))
  ];
}
  where
    j : ℕ
    j = put.message.head.channel

    here : IsLinked other (with_peer own p) j → IsLinked other (with_peer own q) j
    here k =
        let full = is_full_for p.inbox r c in
        let h = receiving-of (with_peer own p) p j k.link refl k.receiving in
        let open' : k.link.is_open ≡ true = sym h.0 ∙ opens in
        let now : k.link.incoming ≡ grown (in_sequence j (packets_of own.events) ++ in_sequence j p.inbox.untaken) r.receiver = h.1 open' ∙ ap (λ (o : Option ReceivingEnd). grown (in_sequence j (packets_of own.events) ++ in_sequence j p.inbox.untaken) (receiver_in o)) there in
        let front : k.link.incoming.front ≡ r.receiver.front = ap (λ (x : Receiver). x.front) now in
        let small = front-small (with_peer own p) other j k open' in
        let same : k.link.incoming.front % 65536 ≡ r.receiver.front = omega arith in
        back-taken_in (with_peer own p) other p q put c r answer k refl opens (ap dispatches_in after'.same ∙ opens) (record { logged = logged.logged; is = logged.is; in_time = logged.in_time }) there none flagged after'.inbox
        (λ t. let u = rule t in (
          u.0,
          both-true (is_handled (outcome wire r.max_packet k.link.incoming c full)) (acknowledges (k.link.incoming.front % 65536) c.number)
              (ap (λ (x : Receiver). is_handled (outcome wire r.max_packet x c full)) now ∙ u.1) (ap (λ n. acknowledges n c.number) same ∙ u.2),
        ))
        after'.own

-- sequenced data comes to a peer that dispatches
pub holds-sequenced : (own other : End) (p : Peering) (put : Put) (c : DataCommand) (sent : Option ℕ) → dispatches_in p.state ≡ true → Logged other put c
    → ((i : ℕ) (r : ReceivingEnd) → slice_get p.inbox.receivers i ≡ Some r → (r.receiver.dispatched ≡ []) × HasSequenced r.receiver)
    → Holds own other p → Holds own other (by_arrival p put.message sent (sequenced_on p.inbox put.message.head.channel c (slice_get p.inbox.receivers put.message.head.channel))).after
holds-sequenced own other p put c sent opens logged tidy b = by (slice_get p.inbox.receivers j) refl
  where
    j : ℕ
    j = put.message.head.channel

    Good : DataEffect → Type 0
    Good a = Holds own other (by_arrival p put.message sent a).after

    -- an outcome that is handled
    handles : (r : ReceivingEnd) → slice_get p.inbox.receivers j ≡ Some r → (t : Took) → outcome wire r.max_packet r.receiver c (is_full_for p.inbox r c) ≡ t → is_handled t ≡ true
        → Holds own other (answered (record p { inbox = (by_took t p.inbox j r c).after }) put.message sent (acknowledges r.receiver.front c.number)).after
    handles r there t e handled =
        after-answered (Holds own other) p put c.number (by_took t p.inbox j r c).after sent (acknowledges r.receiver.front c.number) logged.number
        (λ answer q rule after'. holds-taken_in own other p q put c r answer opens logged there (tidy j r there).0 (tidy j r there).1
        (λ x. let y = rule x in (logged.asks y.0, ap is_handled e ∙ handled, y.1))
        (record {
          same = after'.same;
          mtu = after'.mtu;
          senders = after'.senders;
          inbox = after'.inbox ∙ ap (λ (t : Took). (by_took t p.inbox j r c).after) (sym e) ∙ ap (λ (o : Option ReceivingEnd). (sequenced_on p.inbox j c o).after) (sym there);
          own = after'.own;
          others = after'.others;
        }) b)

    took : (r : ReceivingEnd) → slice_get p.inbox.receivers j ≡ Some r → (t : Took) → outcome wire r.max_packet r.receiver c (is_full_for p.inbox r c) ≡ t → Holds own other (by_arrival p put.message sent (by_took t p.inbox j r c)).after
    took r there Bad e = b
    took r there Waiting e = b
    took r there Memory e = b
    took r there Outside e = handles r there Outside e refl
    took r there Again e = handles r there Again e refl
    took r there Held e = handles r there Held e refl

    by : (o : Option ReceivingEnd) → slice_get p.inbox.receivers j ≡ o → Holds own other (by_arrival p put.message sent (sequenced_on p.inbox j c o)).after
    by None there = b
    by (Some r) there = took r there (outcome wire r.max_packet r.receiver c (is_full_for p.inbox r c)) refl

-- sequenced data is passed over
pub holds-passed : (own other : End) (p : Peering) (put : Put) (c : DataCommand) (sent : Option ℕ) → dispatches_in p.state ≡ false → Logged other put c
    → Holds own other p → Holds own other (by_answer p put.message sent (passed_over_on p.inbox c (slice_get p.inbox.receivers put.message.head.channel))).after
holds-passed own other p put c sent shut logged b = by (slice_get p.inbox.receivers j)
  where
    j : ℕ
    j = put.message.head.channel

    passes : (may answer : Bool) (q : Peering) → (answer ≡ true → (put.message.head.acknowledge ≡ true) × (may ≡ true)) → After p put c.number p.inbox answer q → Holds own other q
    passes may answer q rule after' = record {
      out = λ channel few. out-quiet (with_peer own p) other p q channel refl (record { sends = ap sends_in after'.same; mtu = after'.mtu; senders = after'.senders }) (b.out channel few);
      back = λ channel few. elim (either (j == channel)) [
        | inl on ↦ (let at : j ≡ channel = grind (arith, nat_tests) in subst (λ i. IsLinked other (with_peer own q) i) at (here answer rule after'.own (b.back j logged.low)))
        | inr off ↦ (let n : j ≢ channel = (λ at. grind (arith, nat_tests)) in
            back-elsewhere (with_peer own p) other p q j c None channel (b.back channel few) refl (ap dispatches_in after'.same) n after'.inbox (after'.others channel n))
      ];
    }
      where
        here : (answer : Bool) → (answer ≡ true → (put.message.head.acknowledge ≡ true) × (may ≡ true))
            → numbers_on j q.outbox.acknowledgements ≡ cond answer (numbers_on j p.outbox.acknowledgements ++ c.number ∷ []) (numbers_on j p.outbox.acknowledgements)
            → IsLinked other (with_peer own p) j → IsLinked other (with_peer own q) j
        here true rule numbers k =
            back-passed (with_peer own p) other p q put c k refl shut (ap dispatches_in after'.same ∙ shut) (record { logged = logged.logged; is = logged.is; in_time = logged.in_time }) after'.inbox (logged.asks (rule refl).0) numbers
        here false rule numbers k =
            back-quiet (with_peer own p) other p q j logged.low refl (record {
              dispatches = ap dispatches_in after'.same;
              receivers = ap (λ (x : Inbox). x.receivers) after'.inbox;
              untaken = λ i few. ap (λ (x : Inbox). in_sequence i x.untaken) after'.inbox;
              numbers = λ i few. elim (either (j == i)) [
                | inl on ↦ (let at : j ≡ i = grind (arith, nat_tests) in subst (λ x. numbers_on x q.outbox.acknowledgements ≡ numbers_on x p.outbox.acknowledgements) at numbers)
                | inr off ↦ after'.others i (λ at. grind (arith, nat_tests))
              ];
            }) k

    by-length : (t may : Bool) → Holds own other (by_answer p put.message sent (cond t (Err stop.BadFragment) (Ok may))).after
    by-length true may = b
    by-length false may = after-answered (Holds own other) p put c.number p.inbox sent may logged.number (λ answer q rule after'. passes may answer q rule after')

    by : (o : Option ReceivingEnd) → Holds own other (by_answer p put.message sent (passed_over_on p.inbox c o)).after
    by None = b
    by (Some r) = by-length (ltb p.inbox.max_packet (length c.body)) (acknowledges r.receiver.front c.number)
