-- What the two threads of a run did. Events are left only where the relay found its queue full: then it submitted as many orders as the queue
-- has places.
use Rattle.std.proofs.Common.{◌≡◌, ◌⊎◌, ℕ, suc, ◌+◌, ◌<◌, ◌≤◌, inl, inr, List, [], ◌∷◌, ◌++◌, length, Option, Some, None, Result, Ok, Err, IfOk, refl, sym, ◌∙◌, ap, subst, arith}
use Rattle.std.specs.Prelude.{IfErr}
use Rattle.std.proofs.lemmas.List.{length-append, length-map}
use Rattle.std.proofs.lemmas.Result.{IfOk-at_ok}
use Rattle.enet_codec.specs.declared.refusal.Refusal.{Refusal}
use Rattle.enet_codec.specs.declared.event.Event.{Event}
use Rattle.enet_submit.specs.declared.order.Order.{Order}
use Rattle.enet_submit.specs.declared.order.Submission.{Submission}
use Rattle.enet_submit.specs.declared.token.Drain.{Drain}
use Rattle.enet_submit.specs.declared.order.Parcel.{Parcel}
use Rattle.enet_submit.specs.History.{of}
use Rattle.enet_submit.specs.Parcels.{numbered, spelled, contents}
use Rattle.enet_submit.specs.Requests.{orders_of}
use Rattle.enet_submit.specs.Words.{seats_of, capacity_of, all_sent, taken, SeatSees}
use Rattle.enet_events.specs.Words.{PosterState}
use Rattle.enet_bridge.specs.declared.order_sender.OrderSender.{OrderSender}
use Rattle.enet_bridge.specs.Ends.{orders}
use Rattle.enet_bridge.specs.Holding.{sender_queue, waiting_at, submitted_at, asked, FoundFull}
use Rattle.enet_codec.specs.declared.event.PeerRef.{PeerRef}
use Rattle.enet_bridge.specs.declared.event_receiver.EventReceiver.{EventReceiver}
use Rattle.enet_bridge.specs.Holding.{received}
use Rattle.enet_events.specs.declared.numbered.Numbered.{Numbered}
use Rattle.enet_service.proofs.Settled.{of_one_seat}
use Rattle.enet_turn.specs.declared.report.Report.{Report}
use Rattle.enet_service.specs.declared.run_length.RunLength.{RunLength}
use Rattle.enet_turn.specs.LoneTurn.{beside}
use Rattle.enet_service.specs.Queues.{given, accepted}
use Rattle.enet_turn.specs.Run.{all_gave, all_told, all_puts}
use Rattle.enet_turn.specs.Turn.{Round}
use Rattle.enet_host.specs.Host.{Host}
use Rattle.enet_turn.specs.declared.service.Service.{Service}
use Rattle.enet_service.specs.ServiceRuns.{HasTurned, Advances, IsCut, IsNotSettled, Standing, TakesTurns}
use Rattle.enet_chat.specs.declared.relaying.Relay.{Relay}
use Rattle.enet_chat.specs.declared.relaying.RelayParts.{RelayParts}
use Rattle.enet_chat.specs.Relaying.{AreBehind, AreFarBehind, IsThrough, Relays, SameForEach, events, noted_all, relayed_all, peers_of, backlog_of, sender_of, receiver_of}
use Rattle.enet_serve.specs.declared.threads.Carryover.{Carryover}
use Rattle.enet_serve.specs.declared.server.ChatServer.{ChatServer}
use Rattle.enet_wire.specs.Wires.{unless_spent}
use Rattle.enet_serve.proofs.TurnByTurn.{told_in}
use Rattle.enet_serve.specs.Serving.{Serves, IsRelayed, KeepsNothing, IsCutOffBeside, told_of, faults_of, unsettled_of}
use Rattle.enet_serve.specs.Private.Threads.{IsBegun, IsLeft, IsNothing}

numbered_length : (seat number : ℕ) (os : List Order) → length (numbered seat number os) ≡ length os
numbered_length seat number [] = refl
numbered_length seat number (o ∷ os) = ap suc (numbered_length seat (number + 1) os)

-- each place of the queue holds at least one order
places_hold : (ps : List Parcel) → length ps ≤ length (contents ps)
places_hold [] = omega arith
places_hold (p ∷ ps) = omega (arith, places_hold ps, p.some, numbered_length p.seat p.number (orders_of p.request), length-append (spelled p) (contents ps))

submitted_places : (s : OrderSender) → seats_of (sender_queue s) ≡ 1 → FoundFull s → capacity_of (sender_queue s) ≤ length (submitted_at s)
submitted_places s one full =
    let held : List Submission = contents full.0 in
    let many : capacity_of (sender_queue s) ≤ length held = omega (arith, full.1, places_hold full.0) in
    let sees : SeatSees (sender_queue s) s.seat held = full.2 in
    let all : List Submission = sees.0 ++ held in
    let fits = s.fits in
    let inside = s.seat.within in
    let first : s.seat.number ≡ 0 = omega (arith, fits.1, inside, one) in
    let others : (seat : ℕ) → 1 ≤ seat → of seat all ≡ [] = λ seat least. sees.1.of_these_seats seat (omega (arith, one, least)) in
    let mine : submitted_at s ≡ all = sym sees.2 ∙ (ap (λ (k : ℕ). of k all) first ∙ of_one_seat all others) in
    omega (arith, ap length mine, length-append sees.0 held, many)

-- as many orders were asked for as the queue has places, and one more
asked_more : (s : OrderSender) (capacity : ℕ) → seats_of (sender_queue s) ≡ 1 → capacity_of (sender_queue s) ≡ capacity → 0 < length (waiting_at s) → FoundFull s → capacity + 1 ≤ length (asked s)
asked_more s capacity one places waits full =
    omega (arith, submitted_places s one full, places, waits, length-append (orders (submitted_at s)) (waiting_at s), length-map (submitted_at s) (λ (x : Submission). x.order))

pub left_behind : (relay : Relay) (parts : RelayParts) (drain : Drain) (poster : PosterState) (kept : Carryover) (gave : List Submission) (capacity : ℕ)
    → IsThrough relay → seats_of (sender_queue (sender_of relay)) ≡ 1 → capacity_of (sender_queue (sender_of relay)) ≡ capacity
    → asked (sender_of relay) ≡ orders (all_sent parts.seat) ++ parts.orders.items → parts.backlog.items ≡ backlog_of relay
    → IsLeft parts drain poster kept → taken drain ≡ gave → AreFarBehind (capacity + 1) kept.backlog.items (orders gave ++ kept.orders.items)
left_behind relay parts drain poster kept gave capacity (inl through) one places asks backlog left took = inl (left.backlog ∙ (backlog ∙ through.0))
left_behind relay parts drain poster kept gave capacity (inr through) one places asks backlog left took =
    let same : asked (sender_of relay) ≡ orders gave ++ kept.orders.items =
    asks ∙ (left.orders_kept ∙ ap (λ (xs : List Submission). orders xs ++ kept.orders.items) took) in
    inr (omega (arith, ap length same, asked_more (sender_of relay) capacity one places through.0 through.1))

pub left_waiting : (relay : Relay) (parts : RelayParts) (drain : Drain) (poster : PosterState) (kept : Carryover)
    → IsThrough relay → parts.backlog.items ≡ backlog_of relay → parts.orders.items ≡ waiting_at (sender_of relay) → IsLeft parts drain poster kept
    → AreBehind kept.backlog.items kept.orders.items
left_waiting relay parts drain poster kept (inl through) backlog orders_are left = inl (left.backlog ∙ (backlog ∙ through.0))
left_waiting relay parts drain poster kept (inr through) backlog orders_are left = inr (omega (arith, ap length orders_are, left.more_orders, through.0))

-- what the relay leaves
pub record Leaves (relay : Relay) (parts : RelayParts) : Type 0 where
  pub peers : parts.table ≡ peers_of relay
  pub backlog : parts.backlog.items ≡ backlog_of relay
  pub waits : parts.orders.items ≡ waiting_at (sender_of relay)
  pub asks : asked (sender_of relay) ≡ orders (all_sent parts.seat) ++ parts.orders.items
  pub took : parts.taker.taken ≡ received (receiver_of relay)

-- between two queues with one seat, through which nothing went
pub record IsFirst (capacity : ℕ) (from : Standing) (sender : OrderSender) (receiver : EventReceiver) : Type 0 where
  pub none_asked : asked sender ≡ []
  pub none_received : received receiver ≡ []
  pub none_taken : taken from.drain ≡ []
  pub none_posted : from.poster.posted ≡ []
  pub one_seat : seats_of (sender_queue sender) ≡ 1
  pub places : capacity_of (sender_queue sender) ≡ capacity

-- what the relay made beside such turns, once the queues were settled
relayed_beside : (old new : ChatServer) (rounds : List Round) (from to : Standing) (sender : OrderSender) (receiver : EventReceiver) (begun ended : Relay) (parts : RelayParts)
    → Advances from rounds to → Relays begun ended → IsFirst old.queue_capacity from sender receiver → IsBegun old.kept sender receiver begun → Leaves ended parts → IsLeft parts to.drain to.poster new.kept
    → IsRelayed old rounds new
relayed_beside old new rounds from to sender receiver begun ended parts t r first b leaves left =
    let gave : taken to.drain ≡ given (all_gave rounds) =
    t.gave ∙ ap (λ (xs : List Submission). xs ++ given (all_gave rounds)) first.none_taken in
    let put : events to.poster.posted ≡ accepted (all_puts rounds) =
    t.put.grown ∙ ap (λ (xs : List Numbered). events xs ++ accepted (all_puts rounds)) first.none_posted in
    let none : received (receiver_of begun) ≡ [] = ap received b.receiver_is ∙ first.none_received in
    let took : r.taken ≡ accepted (all_puts rounds) =
    sym (r.took ∙ ap (λ (xs : List Numbered). events xs ++ r.taken) none) ∙ (ap events (sym leaves.took ∙ left.all_taken) ∙ put) in
    let asked_first : asked (sender_of begun) ≡ old.kept.orders.items = b.orders_asked ∙ ap (λ (os : List Order). os ++ old.kept.orders.items) first.none_asked in
    record {
      expanded = r.expanded;
      asked_for = r.asked_for;
      events = ap (λ (es : List Event). es ++ accepted (all_puts rounds)) (sym b.backlog) ∙ (ap (λ (es : List Event). backlog_of begun ++ es) (sym took)
          ∙ (r.in_order ∙ ap (λ (es : List Event). r.expanded ++ es) (sym (left.backlog ∙ leaves.backlog))));
      peers = left.peers ∙ (leaves.peers ∙ (r.peers ∙ ap (λ (ps : List PeerRef). noted_all ps r.expanded) b.peers));
      for_each = subst (λ (ps : List PeerRef). SameForEach r.asked_for (relayed_all ps r.expanded)) b.peers r.for_each;
      orders_done = ap (λ (os : List Order). os ++ r.asked_for) (sym asked_first) ∙ (sym r.orders ∙ (leaves.asks ∙ (left.orders_kept
          ∙ ap (λ (xs : List Submission). orders xs ++ new.kept.orders.items) gave)));
    }

-- what the wire told in them
told_beside : (old new : ChatServer) (rounds : List Round) (from to : Standing) → Advances from rounds to → from.told ≡ Some (told_of old) → to.told ≡ Some (told_of new) → from.faults ≡ faults_of old
    → told_of new ≡ told_of old ++ unless_spent (faults_of old) (all_told rounds)
told_beside old new rounds from to t told told_after faults =
    told_in (told_of old) (told_of new) from.faults (all_told rounds) from.told to.told told told_after t.told ∙ ap (λ (f : ℕ). told_of old ++ unless_spent f (all_told rounds)) faults

turns_beside : (old new : ChatServer) (rounds : List Round) (from to : Standing) → Advances from rounds to → from.service ≡ old.bound.service → to.service ≡ new.bound.service → TakesTurns old.bound.service rounds new.bound.service
turns_beside old new rounds from to t service service_after =
    subst (λ (s : Service Host). TakesTurns s rounds new.bound.service) service (subst (λ (s : Service Host). TakesTurns from.service rounds s) service_after t.turns)

-- the turns, the relay beside them and the settling are a run of the server
pub serves_beside : (old new : ChatServer) (run_length : RunLength) (report : Report) (from to : Standing) (sender : OrderSender) (receiver : EventReceiver) (begun ended : Relay) (relayed : Result (Unit {0}) Refusal) (done : Unit {0}) (parts : RelayParts)
    → HasTurned run_length from to report → from.service ≡ old.bound.service → to.service ≡ new.bound.service → from.told ≡ Some (told_of old) → to.told ≡ Some (told_of new) → from.faults ≡ faults_of old → to.faults ≡ faults_of new → Relays begun ended → relayed ≡ Ok done → IfOk relayed (λ _. IsThrough ended)
    → IsFirst old.queue_capacity from sender receiver → IsBegun old.kept sender receiver begun → Leaves ended parts → IsLeft parts to.drain to.poster new.kept
    → new.queue_capacity ≡ old.queue_capacity → Serves beside (old.queue_capacity + 1) old run_length new report
serves_beside old new run_length report from to sender receiver begun ended relayed done parts t service service_after told told_after faults faults_after r is_done on_done first b leaves left capacity =
    let through : IsThrough ended = IfOk-at_ok (λ (x : Unit {0}). IsThrough ended) is_done on_done in
    let rounds = t.rounds in
    let gave : taken to.drain ≡ given (all_gave rounds) =
    t.spell.advances.gave ∙ ap (λ (xs : List Submission). xs ++ given (all_gave rounds)) first.none_taken in
    let queue = r.same_queues.0 ∙ b.queue in
    let made : IsRelayed old rounds new = relayed_beside old new rounds from to sender receiver begun ended parts t.spell.advances r first b leaves left in
    record {
      rounds = rounds;
      expanded = made.expanded;
      asked_for = made.asked_for;
      lasts = t.lasts;
      turns = turns_beside old new rounds from to t.spell.advances service service_after;
      sound = t.spell.sound;
      faults = sym faults_after ∙ (t.spell.faults ∙ faults);
      told = told_beside old new rounds from to t.spell.advances told told_after faults;
      queue_capacity = capacity;
      totals = t.spell.totals;
      events = made.events;
      behind = left_waiting ended parts to.drain to.poster new.kept through leaves.backlog leaves.waits left;
      far_behind = left_behind ended parts to.drain to.poster new.kept (given (all_gave rounds)) old.queue_capacity through (ap seats_of queue ∙ first.one_seat) (ap capacity_of queue ∙ first.places)
          leaves.asks leaves.backlog left gave;
      peers = made.peers;
      for_each = made.for_each;
      orders_done = made.orders_done;
      settled = left.settled;
    }

no_reason : (why : Refusal) → ◌≡◌ {A = Option Refusal} None (Some why) → ⊥
no_reason why e = cc

one_reason : (why other : Refusal) → ◌≡◌ {A = Option Refusal} (Some why) (Some other) → why ≡ other
one_reason why other e = cc

-- what is kept of a run that was cut off, by whether its queues were settled
abbrev Keeps : ChatServer → List Round → ChatServer → Type 0
Keeps old rounds new = (unsettled_of new ≡ None → IsRelayed old rounds new) × ((why : Refusal) → unsettled_of new ≡ Some why → IsNotSettled why × KeepsNothing new)

kept_or_nothing : (old new : ChatServer) (rounds : List Round) (from to : Standing) (sender : OrderSender) (receiver : EventReceiver) (begun ended : Relay) (parts : RelayParts) (settled : Result Carryover Refusal)
    → Advances from rounds to → Relays begun ended → IsFirst old.queue_capacity from sender receiver → IsBegun old.kept sender receiver begun → Leaves ended parts
    → IfOk settled (IsLeft parts to.drain to.poster) → IfErr settled IsNotSettled → IfOk settled (λ kept. new.kept ≡ kept) → IfErr settled (IsNothing new.kept) → Keeps old rounds new
kept_or_nothing old new rounds from to sender receiver begun ended parts (Ok kept) t r first b leaves left refused same nothing =
    let stays : IsLeft parts to.drain to.poster new.kept = subst (λ (k : Carryover). IsLeft parts to.drain to.poster k) (sym same) left in
    (λ none. relayed_beside old new rounds from to sender receiver begun ended parts t r first b leaves stays, λ why some. absurd (no_reason why (sym stays.settled ∙ some)))
kept_or_nothing old new rounds from to sender receiver begun ended parts (Err why) t r first b leaves left refused same nothing =
    (λ none. absurd (no_reason why (sym none ∙ nothing.unsettled)), λ other some. (subst IsNotSettled (one_reason why other (sym nothing.unsettled ∙ some)) refused, (nothing.peers, nothing.backlog, nothing.orders_are)))

pub cut_beside : (old new : ChatServer) (run_length : RunLength) (from to : Standing) (sender : OrderSender) (receiver : EventReceiver) (begun ended : Relay) (parts : RelayParts) (settled : Result Carryover Refusal)
    → IsCut run_length from to → from.service ≡ old.bound.service → to.service ≡ new.bound.service → from.told ≡ Some (told_of old) → to.told ≡ Some (told_of new) → from.faults ≡ faults_of old → Relays begun ended
    → IsFirst old.queue_capacity from sender receiver → IsBegun old.kept sender receiver begun → Leaves ended parts → IfOk settled (IsLeft parts to.drain to.poster) → IfErr settled IsNotSettled → IfOk settled (λ kept. new.kept ≡ kept)
    → IfErr settled (IsNothing new.kept) → new.queue_capacity ≡ old.queue_capacity → IsCutOffBeside run_length old new
cut_beside old new run_length from to sender receiver begun ended parts settled t service service_after told told_after faults r first b leaves left refused same nothing capacity =
    let keeps : Keeps old t.rounds new = kept_or_nothing old new t.rounds from to sender receiver begun ended parts settled t.advances r first b leaves left refused same nothing in
    record {
      off = record {
        rounds = t.rounds;
        within = t.within;
        turns = turns_beside old new t.rounds from to t.advances service service_after;
        cut = t.cut;
        told = told_beside old new t.rounds from to t.advances told told_after faults;
        queue_capacity = capacity;
      };
      kept = keeps.0;
      lost = keeps.1;
    }
