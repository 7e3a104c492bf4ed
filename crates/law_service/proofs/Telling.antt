-- What turns were given and what they put, beside the calls that they made.
use Rattle.std.proofs.Common.{◌≡◌, ◌≢◌, ◌⊎◌, inl, inr, ℕ, zero, suc, ◌+◌, ◌-◌, ◌<◌, ◌≤◌, ◌==◌, ◌&&◌, ◌||◌, Bool, true, false, cond, List, [], ◌∷◌, ◌++◌, map, Option, Some, None, option_to_list, Result, Ok, Err, refl, sym, ap, subst, ◌∙◌, append_assoc, append-nil, arith}
use Rattle.std.specs.Prelude.{IsSome, filter, flat_map}
use Rattle.std.specs.List.{list_any, filter_map}
use Rattle.std.proofs.lemmas.Bool.Decides.{nat_tests}
use Rattle.std.proofs.lemmas.List.{map-append}
use Rattle.std.proofs.lemmas.List.Elements.{filter-append, filter_map-append}
use Rattle.std.proofs.lemmas.Grind.{flat_map-append}
use Rattle.enet_codec.specs.declared.event.Event.{Event}
use Rattle.enet_codec.specs.declared.event.Event.TheVariants as events
use Rattle.enet_codec.specs.declared.event.PeerRef.{PeerRef}
use Rattle.enet_codec.specs.declared.packet.Packet.{Packet}
use Rattle.enet_codec.specs.declared.refusal.Refusal.{Refusal}
use Rattle.enet_submit.specs.declared.order.Order.{Order}
use Rattle.enet_submit.specs.declared.order.Order.TheVariants as orders
use Rattle.enet_submit.specs.declared.order.Submission.{Submission}
use Rattle.enet_submit.specs.History.{of, CountsFrom}
use Rattle.enet_wire.specs.declared.told.Told.{Told}
use Rattle.enet_wire.specs.declared.told.Told.TheVariants.{Came, NothingCame, Went, Lost, Blocked, Waited}
use Rattle.enet_peer.specs.declared.parts.PeerEvent.{PeerEvent}
use Rattle.enet_peer.specs.declared.parts.PeerEvent.TheVariants as told
use Rattle.enet_slot.specs.Calls.{event_of}
use Rattle.enet_slot.specs.Slot.{name_of}
use Rattle.enet_outbox.specs.declared.parts.SendLimit.{SendLimit}
use Rattle.enet_host.specs.Host.{Host}
use Rattle.enet_host.specs.Calls.{TakesOne}
use Rattle.law_connection.specs.LinkSteps.{Has}
use Rattle.law_network.specs.Calls.{Call}
use Rattle.law_network.specs.Calls as call
use Rattle.law_network.specs.Network.{is_same_name}
use Rattle.law_network.specs.Steps.{Calls}
use Rattle.law_network.proofs.Lists.{same-or}
use Rattle.enet_turn.specs.declared.service.Service.{Service}
use Rattle.enet_turn.specs.declared.waiting.Waiting.{Waiting}
use Rattle.enet_turn.specs.Phases.{Ordered, Wired, Offers, OffersWaiting, nothing_waits, AppliesSubmission, refusal_event, left_over, Orders, ReceivesAll, EndsEmitting, at_limit, has_none, fails, EmitsAll, TellsAll}
use Rattle.enet_service.specs.Queues.{given, accepted}
use Rattle.enet_turn.specs.LoneTurn.{Kind, beside, lone, either, Applied, AppliesAll, Begins, LoneTurn, TurnOf, RoundsOf, gave_in, puts_in}
use Rattle.enet_turn.specs.Run.{all_gave, all_puts}
use Rattle.enet_turn.specs.Turn.{Round, AfterReceiving, AfterEmitting, Turn}
use Rattle.law_headline.specs.Kept.{submitted_by, taken_by}
use Rattle.law_headline.specs.Page.{is_of}
use Rattle.law_service.specs.Noting.{Noted, Notes, IsOrder, noting, why_submitted}
use Rattle.law_service.specs.Told.{told as told_by, held_in, is_refusal_of, packet_in, packet_unless, packets_of, submitted, taken, submitted_in, taken_in, Answered, refusal, is_refused, unless_refused, settled}
use Rattle.law_service.specs.Law.{noted, setting, AreNumbered, EachRunTells}
use Rattle.enet_turn.specs.Spans.{Span, Parts, Spans, rounds_in}
use Rattle.law_service.proofs.Merging.{AreMerged, merged-left, merged-right, merged-append, both-none, first-of, second-of}
use Rattle.law_service.proofs.Simulation.{over}
use Rattle.enet_codec.specs.declared.event.DisconnectMode.{DisconnectMode}

-- from one state of a service to a later one: its calls, the events that these made, and the orders with what was answered. What was put is the
-- host's events and refusals, those of each kind in order: with what waits then, what waited before and what was made
pub record Ledger (old new : Service Noted) (gave : List (Option Submission)) (puts : List (Event × Bool)) : Type 0 where
  pub calls : List Call
  pub made : List Event
  pub answered : List Answered
  pub calls_are : new.host.calls ≡ old.host.calls ++ calls
  pub of_host : List Event
  pub of_orders : List Event
  pub puts_are : AreMerged of_host of_orders (accepted puts)
  pub host_put : option_to_list old.waiting.event ++ made ≡ of_host ++ option_to_list new.waiting.event
  pub orders_put : option_to_list old.waiting.refusal ++ flat_map refusal answered ≡ of_orders ++ option_to_list new.waiting.refusal
  pub given_are : given gave ≡ map (λ (w : Answered). w.0) answered
  pub packets : (name : PeerRef) (channel : ℕ) → submitted_in calls name channel ≡ flat_map (settled name channel) answered
  pub taken_are : (name : PeerRef) → filter (is_of name) made ≡ taken_in calls name
  pub plain : filter is_refused made ≡ []

pub accepted-append : (p q : List (Event × Bool)) → accepted (p ++ q) ≡ accepted p ++ accepted q
accepted-append p q = ap (map (λ (x : Event × Bool). x.0)) (filter-append (λ (x : Event × Bool). x.1) p q) ∙ map-append (λ (x : Event × Bool). x.0) (filter (λ (x : Event × Bool). x.1) p) (filter (λ (x : Event × Bool). x.1) q)

-- what is put, and then more
put-on : (o m p n m_2 p_2 n_2 : List Event) → o ++ m ≡ p ++ n → n ++ m_2 ≡ p_2 ++ n_2 → o ++ (m ++ m_2) ≡ (p ++ p_2) ++ n_2
put-on o m p n m_2 p_2 n_2 e f =
    sym (append_assoc o m m_2) ∙ ap (λ (x : List Event). x ++ m_2) e ∙ append_assoc p n m_2 ∙ ap (λ (x : List Event). p ++ x) f ∙ sym (append_assoc p p_2 n_2)

join : (a b c : Service Noted) (g h : List (Option Submission)) (p q : List (Event × Bool)) → Ledger a b g p → Ledger b c h q → Ledger a c (g ++ h) (p ++ q)
join a b c g h p q k l = record {
  calls = k.calls ++ l.calls;
  made = k.made ++ l.made;
  answered = k.answered ++ l.answered;
  calls_are = l.calls_are ∙ ap (λ (x : List Call). x ++ l.calls) k.calls_are ∙ append_assoc a.host.calls k.calls l.calls;
  of_host = k.of_host ++ l.of_host;
  of_orders = k.of_orders ++ l.of_orders;
  puts_are = subst (λ (x : List Event). AreMerged (k.of_host ++ l.of_host) (k.of_orders ++ l.of_orders) x) (sym (accepted-append p q))
      (merged-append k.of_host k.of_orders (accepted p) l.of_host l.of_orders (accepted q) k.puts_are l.puts_are);
  host_put = put-on (option_to_list a.waiting.event) k.made k.of_host (option_to_list b.waiting.event) l.made l.of_host (option_to_list c.waiting.event) k.host_put l.host_put;
  orders_put = ap (λ (x : List Event). option_to_list a.waiting.refusal ++ x) (flat_map-append refusal k.answered l.answered)
      ∙ put-on (option_to_list a.waiting.refusal) (flat_map refusal k.answered) k.of_orders (option_to_list b.waiting.refusal) (flat_map refusal l.answered) l.of_orders (option_to_list c.waiting.refusal)
      k.orders_put l.orders_put;
  given_are = filter_map-append (λ (x : Option Submission). x) g h ∙ (λ i. k.given_are i ++ l.given_are i) ∙ sym (map-append (λ (w : Answered). w.0) k.answered l.answered);
  packets = λ name channel. flat_map-append (λ (c : Call). submitted_by name channel (Calls c)) k.calls l.calls ∙ (λ i. k.packets name channel i ++ l.packets name channel i)
      ∙ sym (flat_map-append (settled name channel) k.answered l.answered);
  taken_are = λ name. filter-append (is_of name) k.made l.made ∙ (λ i. k.taken_are name i ++ l.taken_are name i) ∙ sym (flat_map-append (λ (c : Call). taken_by name (Calls c)) k.calls l.calls);
  plain = filter-append is_refused k.made l.made ∙ (λ i. k.plain i ++ l.plain i);
}

-- nothing happened
nothing : (s : Service Noted) (gave : List (Option Submission)) → given gave ≡ [] → Ledger s s gave []
nothing s gave none = record {
  calls = [];
  made = [];
  answered = [];
  calls_are = sym (append-nil s.host.calls);
  of_host = [];
  of_orders = [];
  puts_are = (refl, refl);
  host_put = append-nil (option_to_list s.waiting.event);
  orders_put = append-nil (option_to_list s.waiting.refusal);
  given_are = none;
  packets = λ name channel. refl;
  taken_are = λ name. refl;
  plain = refl;
}

-- a call that is no order and tells nothing
quiet : (k l : Noted) (waiting : Waiting) (c : Call) → Notes k c l → ((name : PeerRef) (channel : ℕ) → submitted_by name channel (Calls c) ≡ []) → ((name : PeerRef) → taken_by name (Calls c) ≡ []) → Ledger (over k waiting) (over l waiting) [] []
quiet k l waiting c n none none' = record {
  calls = c ∷ [];
  made = [];
  answered = [];
  calls_are = n.1;
  of_host = [];
  of_orders = [];
  puts_are = (refl, refl);
  host_put = append-nil (option_to_list waiting.event);
  orders_put = append-nil (option_to_list waiting.refusal);
  given_are = refl;
  packets = λ name channel. ap (λ (x : List Packet). x ++ []) (none name channel);
  taken_are = λ name. sym (ap (λ (x : List Event). x ++ []) (none' name));
  plain = refl;
}

-- no refusal
abbrev is_plain : Event → Bool
is_plain (events.Refused seat number why) = false
is_plain e = true

-- an event, if there is one, is offered
offered : (o : Option Event) (puts : List (Event × Bool)) (after : Option Event) → Offers o puts after → accepted puts ++ option_to_list after ≡ option_to_list o
offered None puts after h = (λ i. accepted (h.0 i) ++ option_to_list (h.1 i))
offered (Some e) puts after h = (λ i. accepted (h.1 i) ++ option_to_list (h.2 i)) ∙ by h.0
  where
    by : (t : Bool) → accepted ((e, t) ∷ []) ++ option_to_list (left_over e t) ≡ e ∷ []
    by true = refl
    by false = refl

offers-again : (k : Noted) (waiting after : Waiting) (puts : List (Event × Bool)) → OffersWaiting waiting puts after → Ledger (over k waiting) (over k after) [] puts
offers-again k waiting after puts h =
    let offers : Ledger (over k waiting) (over k after) [] (h.0 ++ h.1) = record {
      calls = [];
      made = [];
      answered = [];
      calls_are = sym (append-nil k.calls);
      of_host = accepted h.1;
      of_orders = accepted h.0 ++ [];
      puts_are = subst (λ (x : List Event). AreMerged (accepted h.1) (accepted h.0 ++ []) x) (sym (accepted-append h.0 h.1))
          (merged-append [] (accepted h.0) (accepted h.0) (accepted h.1) [] (accepted h.1) (merged-right (accepted h.0)) (merged-left (accepted h.1)));
      host_put = append-nil (option_to_list waiting.event) ∙ sym (offered waiting.event h.1 after.event h.3);
      orders_put = append-nil (option_to_list waiting.refusal) ∙ sym (offered waiting.refusal h.0 after.refusal h.2)
          ∙ ap (λ (x : List Event). x ++ option_to_list after.refusal) (sym (append-nil (accepted h.0)));
      given_are = refl;
      packets = λ name channel. refl;
      taken_are = λ name. refl;
      plain = refl;
    } in
    subst (λ (p : List (Event × Bool)). Ledger (over k waiting) (over k after) [] p) (sym h.4) offers

-- an order

order-packets : (order : Order) (why : Option Refusal) (c : Call) → IsOrder order why c → (name : PeerRef) (channel : ℕ) → submitted_by name channel (Calls c) ≡ unless_refused why (packet_in name channel order)
order-packets (orders.Connect addr channels info word) why c h name channel = ap (λ (d : Call). submitted_by name channel (Calls d)) h.1 ∙ sym (none why)
  where
    none : (why : Option Refusal) → unless_refused why [] ≡ []
    none None = refl
    none (Some w) = refl
order-packets (orders.Submit peer number flags body) why c h name channel = ap (λ (d : Call). submitted_by name channel (Calls d)) h.1 ∙ by h.0 ∙ ap (λ (w : Option Refusal). unless_refused w (packet_in name channel (orders.Submit peer number flags body))) (sym h.2)
  where
    by : (answer : Result (Unit {0}) (Refusal × List ℕ))
        → submitted_by name channel (Calls (call.Submit peer number (record { flags = flags; body = body }) answer)) ≡ unless_refused (why_submitted answer) (packet_in name channel (orders.Submit peer number flags body))
    by (Ok done) = refl
    by (Err e) = refl
order-packets (orders.Disconnect peer how info) why c h name channel = ap (λ (d : Call). submitted_by name channel (Calls d)) h.1 ∙ sym (none why)
  where
    none : (why : Option Refusal) → unless_refused why [] ≡ []
    none None = refl
    none (Some w) = refl

order-taken : (order : Order) (why : Option Refusal) (c : Call) → IsOrder order why c → (name : PeerRef) → taken_by name (Calls c) ≡ []
order-taken (orders.Connect addr channels info word) why c h name = ap (λ (d : Call). taken_by name (Calls d)) h.1
order-taken (orders.Submit peer number flags body) why c h name = ap (λ (d : Call). taken_by name (Calls d)) h.1
order-taken (orders.Disconnect peer how info) why c h name = ap (λ (d : Call). taken_by name (Calls d)) h.1

refused-of : (x : Submission) (why : Option Refusal) (name : PeerRef) → filter (is_of name) (option_to_list (refusal_event x why)) ≡ []
refused-of x None name = refl
refused-of x (Some w) name = refl

carries : (old : Service Noted) (x : Submission) (puts : List (Event × Bool)) (new : Service Noted) → old.waiting.refusal ≡ None → AppliesSubmission noting old x puts new → Ledger old new (Some x ∷ []) puts
carries old x puts new none h = record {
  calls = c ∷ [];
  made = [];
  answered = (x, h.why) ∷ [];
  calls_are = h.applied.2.1;
  of_host = [];
  of_orders = accepted puts;
  puts_are = merged-right (accepted puts);
  host_put = append-nil (option_to_list old.waiting.event) ∙ ap option_to_list (sym h.stays);
  orders_put = ap (λ (o : Option Event). option_to_list o ++ (option_to_list (refusal_event x h.why) ++ [])) none ∙ append-nil (option_to_list (refusal_event x h.why))
      ∙ sym (offered (refusal_event x h.why) puts new.waiting.refusal h.told);
  given_are = refl;
  packets = λ name channel. ap (λ (l : List Packet). l ++ []) (order-packets x.order h.why c h.applied.1 name channel);
  taken_are = λ name. sym (ap (λ (l : List Event). l ++ []) (order-taken x.order h.why c h.applied.1 name));
  plain = refl;
}
  where
    c : Call
    c = h.applied.0

orders-ledger : (left : ℕ) (old : Service Noted) (gave : List (Option Submission)) (after : Ordered Noted) → Orders noting left old gave after → Ledger old after.service gave after.puts
orders-ledger left old [] after h = subst (λ (p : List (Event × Bool)). Ledger old after.service [] p) (sym h.1) (subst (λ (s : Service Noted). Ledger old s [] []) (sym h.2) (nothing old [] refl))
orders-ledger left old (None ∷ rest) after h =
    subst (λ (p : List (Event × Bool)). Ledger old after.service (None ∷ rest) p) (sym h.3) (subst (λ (s : Service Noted). Ledger old s (None ∷ rest) []) (sym h.4) (nothing old (None ∷ rest) (ap given h.2)))
orders-ledger left old (Some x ∷ rest) after h =
    subst (λ (p : List (Event × Bool)). Ledger old after.service (Some x ∷ rest) p) (sym h.4)
    (join old h.5 after.service (Some x ∷ []) rest h.2 h.3 (carries old x h.2 h.5 h.0 h.6) (orders-ledger (left - 1) h.5 rest (record after { puts = h.3 }) h.7))

-- datagrams

hears-ledger : (waiting : Waiting) (left : ℕ) (old : Noted) (came : List Told) (after : Wired Noted) → ReceivesAll noting left old came after → Ledger (over old waiting) (over after.host waiting) [] []
hears-ledger waiting left old [] after h = subst (λ (k : Noted). Ledger (over old waiting) (over k waiting) [] []) (sym h.1) (nothing (over old waiting) [] refl)
hears-ledger waiting left old (NothingCame ∷ rest) after h = subst (λ (k : Noted). Ledger (over old waiting) (over k waiting) [] []) (sym h.3) (nothing (over old waiting) [] refl)
hears-ledger waiting left old (Came from bytes ∷ rest) after h =
    join (over old waiting) (over h.1 waiting) (over after.host waiting) [] [] [] []
    (quiet old h.1 waiting (call.Receive from bytes h.2.0) h.2.1 (λ name channel. refl) (λ name. refl)) (hears-ledger waiting (left - 1) h.1 rest after h.3)
hears-ledger waiting left old (x ∷ rest) after h = absurd h

gives-ledger : (waiting : Waiting) (old : Noted) (given : Option (Rattle.enet_codec.specs.declared.address.Addr.Addr × List ℕ)) (new : Noted) → Rattle.law_service.specs.Noting.EmitsDatagram old given new → Ledger (over old waiting) (over new waiting) [] []
gives-ledger waiting old given new h = quiet old new waiting (call.Service h.0 h.1) h.3 (λ name channel. refl) (λ name. refl)

sends-ledger : (waiting : Waiting) (left losses : ℕ) (old : Noted) (went : List Told) (after : Wired Noted) → EmitsAll noting left losses old went after → Ledger (over old waiting) (over after.host waiting) [] []
sends-ledger waiting left losses old [] after (at_limit none sound same) = subst (λ (k : Noted). Ledger (over old waiting) (over k waiting) [] []) (sym same) (nothing (over old waiting) [] refl)
sends-ledger waiting left losses old [] after (has_none some few sound gives) = gives-ledger waiting old None after.host gives
sends-ledger waiting left losses old [] after (fails some few failed to bytes gives) = gives-ledger waiting old (Some (to, bytes)) after.host gives
sends-ledger waiting left losses old (Went to bytes ∷ rest) after h =
    join (over old waiting) (over h.2 waiting) (over after.host waiting) [] [] [] [] (gives-ledger waiting old (Some (to, bytes)) h.2 h.3) (sends-ledger waiting (left - 1) losses h.2 rest after h.4)
sends-ledger waiting left losses old (Lost to bytes ∷ rest) after h =
    join (over old waiting) (over h.2 waiting) (over after.host waiting) [] [] [] [] (gives-ledger waiting old (Some (to, bytes)) h.2 h.3) (sends-ledger waiting (left - 1) (losses - 1) h.2 rest after h.4)
sends-ledger waiting left losses old (Blocked to bytes ∷ rest) after h = gives-ledger waiting old (Some (to, bytes)) after.host h.2
sends-ledger waiting left losses old (x ∷ rest) after h = absurd h

sending-ledger : (waiting : Waiting) (heard : Wired Noted) (went : List Told) (sent : Wired Noted) (b : Bool) → heard.failed ≡ b → AfterReceiving noting heard went sent → Ledger (over heard.host waiting) (over sent.host waiting) [] []
sending-ledger waiting heard went sent false is h = sends-ledger waiting 256 16 heard.host went sent (h.sound is)
sending-ledger waiting heard went sent true is h =
    subst (λ (w : Wired Noted). Ledger (over heard.host waiting) (over w.host waiting) [] []) (sym (h.failed is).1) (nothing (over heard.host waiting) [] refl)

-- events

told-plain : (name : PeerRef) (t : PeerEvent) → is_refused (event_of name t) ≡ false
told-plain name (told.Connect info) = refl
told-plain name (told.Receive q) = refl
told-plain name (told.Disconnect info) = refl

one-told : (k l : Noted) (e : Event) (t : Bool) (refused : Option Event) → Notes k (call.NextEvent (Some e)) l
    → Ledger (over k (record { event = None; refusal = refused })) (over l (record { event = left_over e t; refusal = refused })) [] ((e, t) ∷ [])
one-told k l e t refused n = record {
  calls = call.NextEvent (Some e) ∷ [];
  made = e ∷ [];
  answered = [];
  calls_are = n.1;
  of_host = accepted ((e, t) ∷ []);
  of_orders = [];
  puts_are = merged-left (accepted ((e, t) ∷ []));
  host_put = by t;
  orders_put = append-nil (option_to_list refused);
  given_are = refl;
  packets = λ name channel. refl;
  taken_are = λ name. sym (append-nil (cond (is_of name e) (e ∷ []) []));
  plain = ap (λ (b : Bool). cond b (e ∷ []) []) (ap is_refused a.gives.told ∙ told-plain (name_of a.from a.first.slot) a.gives.taken.event);
}
  where
    a : TakesOne k.host e l.host
    a = n.0

    by : (t : Bool) → e ∷ [] ≡ accepted ((e, t) ∷ []) ++ option_to_list (left_over e t)
    by true = refl
    by false = refl

tells-ledger : (old : Service Noted) (puts : List (Event × Bool)) (new : Service Noted) → TellsAll noting old puts new → Ledger old new [] puts
tells-ledger old [] new (inl waits) = subst (λ (s : Service Noted). Ledger old s [] []) (sym waits.1) (nothing old [] refl)
tells-ledger old [] new (inr none) =
    subst (λ (w : Waiting). Ledger old (over new.host w) [] []) (sym none.2) (quiet old.host new.host old.waiting (call.NextEvent None) none.1 (λ name channel. refl) (λ name. refl))
tells-ledger old (x ∷ rest) new h =
    let refused : Option Event = old.waiting.refusal in
    let after : Service Noted = over h.1 (record { event = left_over x.0 x.1; refusal = refused }) in
    subst (λ (o : Option Event). Ledger (over old.host (record { event = o; refusal = refused })) new [] (x ∷ rest)) (sym h.0)
    (join (over old.host (record { event = None; refusal = refused })) after new [] [] (x ∷ []) rest (one-told old.host h.1 x.0 x.1 refused h.2) (tells-ledger after rest new h.3))

telling-ledger : (sent : Wired Noted) (waiting : Waiting) (puts : List (Event × Bool)) (new : Service Noted) (b : Bool) → sent.failed ≡ b → AfterEmitting noting sent waiting puts new → Ledger (over sent.host waiting) new [] puts
telling-ledger sent waiting puts new false is h = tells-ledger (over sent.host waiting) puts new (h.sound is)
telling-ledger sent waiting puts new true is h =
    subst (λ (p : List (Event × Bool)). Ledger (over sent.host waiting) new [] p) (sym (h.failed is).0)
    (subst (λ (s : Service Noted). Ledger (over sent.host waiting) s [] []) (sym (h.failed is).1) (nothing (over sent.host waiting) [] refl))

-- a turn

turn-ledger : (old : Service Noted) (round : Round) (new : Service Noted) → Turn noting old round new → Ledger old new round.gave round.puts
turn-ledger old round new t =
    let orders : Service Noted = t.ordered.service in
    let e : Ledger (over t.sent.host orders.waiting) new [] t.of_events = telling-ledger t.sent orders.waiting t.of_events new t.sent.failed refl t.telling in
    let d : Ledger (over t.heard.host orders.waiting) new [] t.of_events = join (over t.heard.host orders.waiting) (over t.sent.host orders.waiting) new [] [] [] t.of_events (sending-ledger orders.waiting t.heard t.went t.sent t.heard.failed refl t.sending) e in
    let c : Ledger orders new [] t.of_events = join orders (over t.heard.host orders.waiting) new [] [] [] t.of_events (hears-ledger orders.waiting 256 orders.host t.came t.heard t.hearing) d in
    let b : Ledger (over t.ticked t.waits) new (round.gave ++ []) (t.ordered.puts ++ t.of_events) = join (over t.ticked t.waits) orders new round.gave [] t.ordered.puts t.of_events (orders-ledger 256 (over t.ticked t.waits) round.gave t.ordered t.orders) c in
    let a : Ledger (over t.ticked old.waiting) new (round.gave ++ []) (t.again ++ (t.ordered.puts ++ t.of_events)) =
    join (over t.ticked old.waiting) (over t.ticked t.waits) new [] (round.gave ++ []) t.again (t.ordered.puts ++ t.of_events) (offers-again t.ticked old.waiting t.waits t.again t.offered) b in
    let all : Ledger old new (round.gave ++ []) (t.again ++ (t.ordered.puts ++ t.of_events)) =
    join old (over t.ticked old.waiting) new [] (round.gave ++ []) [] (t.again ++ (t.ordered.puts ++ t.of_events)) (quiet old.host t.ticked old.waiting (call.Tick round.ms) t.tick (λ name channel. refl) (λ name. refl)) a in
    subst (λ (p : List (Event × Bool)). Ledger old new round.gave p) (sym t.put) (subst (λ (g : List (Option Submission)). Ledger old new g (t.again ++ (t.ordered.puts ++ t.of_events))) (append-nil round.gave) all)

-- a turn whose orders its own thread makes

begins-ledger : (old : Service Noted) (ms : ℕ) (came : List Told) (puts : List (Event × Bool)) (new : Service Noted) (failed : Bool) → Begins noting old ms came puts new failed → Ledger old new [] puts
begins-ledger old ms came puts new failed t =
    let d : Ledger (over t.heard t.waits) new [] t.of_events = telling-ledger (record { host = t.heard; failed = failed }) t.waits t.of_events new failed refl t.telling in
    let c : Ledger (over t.ticked t.waits) new [] t.of_events =
    join (over t.ticked t.waits) (over t.heard t.waits) new [] [] [] t.of_events (hears-ledger t.waits 256 t.ticked came (record { host = t.heard; failed = failed }) t.hearing) d in
    let b : Ledger (over t.ticked old.waiting) new [] (t.again ++ t.of_events) =
    join (over t.ticked old.waiting) (over t.ticked t.waits) new [] [] t.again t.of_events (offers-again t.ticked old.waiting t.waits t.again t.offered) c in
    let all : Ledger old new [] (t.again ++ t.of_events) =
    join old (over t.ticked old.waiting) new [] [] [] (t.again ++ t.of_events) (quiet old.host t.ticked old.waiting (call.Tick ms) t.tick (λ name channel. refl) (λ name. refl)) b in
    subst (λ (p : List (Event × Bool)). Ledger old new [] p) (sym t.put) all

obeys-ledger : (old : Service Noted) (applied : List Applied) (new : Service Noted) → AppliesAll noting old applied new → Ledger old new (gave_in applied) (puts_in applied)
obeys-ledger old [] new r = subst (λ (s : Service Noted). Ledger old s [] []) (sym r) (nothing old [] refl)
obeys-ledger old (o ∷ applied) new r =
    join old r.0 new o.gave (gave_in applied) o.puts (puts_in applied) (orders-ledger 256 old o.gave (record { service = r.0; puts = o.puts }) r.1) (obeys-ledger r.0 applied new r.2)

lone-ledger : (old : Service Noted) (round : Round) (new : Service Noted) → LoneTurn noting old round new → Ledger old new round.gave round.puts
lone-ledger old round new t =
    let c : Ledger t.ordered new [] [] =
    subst (λ (w : Waiting). Ledger t.ordered (over new.host w) [] []) (sym t.waits)
    (sending-ledger t.ordered.waiting (record { host = t.ordered.host; failed = t.early }) t.went (record { host = new.host; failed = round.failed }) t.early refl t.sends) in
    let b : Ledger t.begun new (gave_in t.applied ++ []) (puts_in t.applied ++ []) = join t.begun t.ordered new (gave_in t.applied) [] (puts_in t.applied) [] (obeys-ledger t.begun t.applied t.ordered t.applies) c in
    let a : Ledger old new (gave_in t.applied ++ []) (t.told_first ++ (puts_in t.applied ++ [])) =
    join old t.begun new [] (gave_in t.applied ++ []) t.told_first (puts_in t.applied ++ []) (begins-ledger old round.ms t.came t.told_first t.begun t.early t.begins) b in
    subst (λ (p : List (Event × Bool)). Ledger old new round.gave p) (ap (λ (p : List (Event × Bool)). t.told_first ++ p) (append-nil (puts_in t.applied)) ∙ sym t.put)
    (subst (λ (g : List (Option Submission)). Ledger old new g (t.told_first ++ (puts_in t.applied ++ []))) (append-nil (gave_in t.applied) ∙ sym t.gave) a)

-- a turn of any kind
turn-of-ledger : (kind : Kind) (old : Service Noted) (round : Round) (new : Service Noted) → TurnOf kind noting old round new → Ledger old new round.gave round.puts
turn-of-ledger beside old round new t = turn-ledger old round new t
turn-of-ledger lone old round new t = lone-ledger old round new t
turn-of-ledger either old round new (inl t) = turn-ledger old round new t
turn-of-ledger either old round new (inr t) = lone-ledger old round new t

pub rounds-ledger : (kind : Kind) (old : Service Noted) (rounds : List Round) (new : Service Noted) → RoundsOf kind noting old rounds new → Ledger old new (all_gave rounds) (all_puts rounds)
rounds-ledger kind old [] new r = subst (λ (s : Service Noted). Ledger old s [] []) (sym r) (nothing old [] refl)
rounds-ledger kind old (x ∷ rounds) new r = join old r.0 new x.gave (all_gave rounds) x.puts (all_puts rounds) (turn-of-ledger kind old x r.0 r.1) (rounds-ledger kind r.0 rounds new r.2)

-- partings, which submit nothing and tell nothing
parted : (how : DisconnectMode) (old : Service Noted) (peer : PeerRef) (new : Service Noted) (why : Option Refusal) → noting.applies old.host (orders.Disconnect peer how 0) why new.host → new.waiting ≡ old.waiting → Ledger old new [] []
parted how old peer new why h same = subst (λ (w : Waiting). Ledger old (over new.host w) [] []) (sym same)
    (quiet old.host new.host old.waiting h.0 h.2 (λ name channel. ap (λ (d : Call). submitted_by name channel (Calls d)) h.1.1) (λ name. ap (λ (d : Call). taken_by name (Calls d)) h.1.1))

parts-ledger : (how : DisconnectMode) (old : Service Noted) (peers : List PeerRef) (new : Service Noted) → Parts noting how old peers new → Ledger old new [] []
parts-ledger how old [] new r = subst (λ (s : Service Noted). Ledger old s [] []) (sym r) (nothing old [] refl)
parts-ledger how old (p ∷ peers) new r = join old r.0 new [] [] [] [] (parted how old p r.0 r.1.0 r.1.1 r.1.2) (parts-ledger how r.0 peers new r.2)

pub spans-ledger : (old : Service Noted) (spans : List Span) (new : Service Noted) → Spans noting old spans new → Ledger old new (all_gave (rounds_in spans)) (all_puts (rounds_in spans))
spans-ledger old [] new r = subst (λ (s : Service Noted). Ledger old s [] []) (sym r) (nothing old [] refl)
spans-ledger old (x ∷ spans) new r =
    let rest : Ledger r.1.0 new (all_gave (rounds_in spans)) (all_puts (rounds_in spans)) =
    join r.1.0 r.0 new [] (all_gave (rounds_in spans)) [] (all_puts (rounds_in spans)) (parts-ledger x.how r.1.0 x.parted r.0 r.1.2) (spans-ledger r.0 spans new r.2) in
    let all : Ledger old new (all_gave x.rounds ++ all_gave (rounds_in spans)) (all_puts x.rounds ++ all_puts (rounds_in spans)) =
    join old r.1.0 new (all_gave x.rounds) (all_gave (rounds_in spans)) (all_puts x.rounds) (all_puts (rounds_in spans)) (rounds-ledger x.kind old x.rounds r.1.0 r.1.1) rest in
    subst (λ (g : List (Option Submission)). Ledger old new g (all_puts (x.rounds ++ rounds_in spans))) (sym (flat_map-append (λ (t : Round). t.gave) x.rounds (rounds_in spans)))
    (subst (λ (p : List (Event × Bool)). Ledger old new (all_gave x.rounds ++ all_gave (rounds_in spans)) p) (sym (flat_map-append (λ (t : Round). t.puts) x.rounds (rounds_in spans))) all)

-- which orders were refused

-- numbers after the first
tail-counts : (y : Submission) (xs : List Submission) (from : ℕ → ℕ) → ((seat : ℕ) → CountsFrom (from seat) (of seat (y ∷ xs))) → (seat : ℕ) → CountsFrom (cond (y.seat == seat) (from seat + 1) (from seat)) (of seat xs)
tail-counts y xs from counts seat = by (y.seat == seat) (counts seat)
  where
    by : (b : Bool) → CountsFrom (from seat) (cond b (y ∷ of seat xs) (of seat xs)) → CountsFrom (cond b (from seat + 1) (from seat)) (of seat xs)
    by true c = c.1
    by false c = c

first-number : (y : Submission) (xs : List Submission) (from : ℕ → ℕ) → ((seat : ℕ) → CountsFrom (from seat) (of seat (y ∷ xs))) → y.number ≡ from y.seat
first-number y xs from counts =
    let t : (y.seat == y.seat) ≡ true = grind (arith, nat_tests) in
    let c : CountsFrom (from y.seat) (y ∷ of y.seat xs) = subst (λ (b : Bool). CountsFrom (from y.seat) (cond b (y ∷ of y.seat xs) (of y.seat xs))) t (counts y.seat) in
    c.0

-- of a list with numbers from these on, each has at least its seat's first
at-least : (b : Bool) (n m : ℕ) → cond b (n + 1) n ≤ m → n ≤ m
at-least true n m h = (let l : n + 1 ≤ m = h in omega arith)
at-least false n m h = h

above : (xs : List Submission) (from : ℕ → ℕ) → ((seat : ℕ) → CountsFrom (from seat) (of seat xs)) → (x : Submission) → Has xs x → from x.seat ≤ x.number
above [] from counts x h = absurd h
above (y ∷ xs) from counts x (inl e) = subst (λ (z : Submission). from z.seat ≤ z.number) e (let n : y.number ≡ from y.seat = first-number y xs from counts in omega arith)
above (y ∷ xs) from counts x (inr h) =
    at-least (y.seat == x.seat) (from x.seat) x.number (above xs (λ seat. cond (y.seat == seat) (from seat + 1) (from seat)) (tail-counts y xs from counts) x h)

-- the first has a number below that of each later one of its seat
below : (y : Submission) (xs : List Submission) (from : ℕ → ℕ) → ((seat : ℕ) → CountsFrom (from seat) (of seat (y ∷ xs))) → (x : Submission) → Has xs x → y.seat ≡ x.seat → y.number < x.number
below y xs from counts x h same =
    let n : y.number ≡ from y.seat = first-number y xs from counts in
    let t : (y.seat == x.seat) ≡ true = grind (arith, nat_tests) in
    let l : cond (y.seat == x.seat) (from x.seat + 1) (from x.seat) ≤ x.number = above xs (λ seat. cond (y.seat == seat) (from seat + 1) (from seat)) (tail-counts y xs from counts) x h in
    let m : from x.seat + 1 ≤ x.number = subst (λ (b : Bool). cond b (from x.seat + 1) (from x.seat) ≤ x.number) t l in
    let k : from y.seat ≡ from x.seat = ap from same in
    omega arith

apart : (a b c d : ℕ) → (a ≡ c → b < d) → ((a == c) && (b == d)) ≡ false
apart a b c d low = by (same-or a c)
  where
    by : (a ≡ c) ⊎ (a ≢ c) → ((a == c) && (b == d)) ≡ false
    by (inl e) = (let l : b < d = low e in let t : (b == d) ≡ false = grind (arith, nat_tests) in let u : (a == c) ≡ true = grind (arith, nat_tests) in (λ i. u i && t i))
    by (inr n) = (let u : (a == c) ≡ false = grind (arith, nat_tests) in (λ i. u i && (b == d)))

apart-back : (a b c d : ℕ) → (a ≡ c → b < d) → ((c == a) && (d == b)) ≡ false
apart-back a b c d low = by (same-or a c)
  where
    by : (a ≡ c) ⊎ (a ≢ c) → ((c == a) && (d == b)) ≡ false
    by (inl e) = (let l : b < d = low e in let t : (d == b) ≡ false = grind (arith, nat_tests) in let u : (c == a) ≡ true = grind (arith, nat_tests) in (λ i. u i && t i))
    by (inr n) = (let u : (c == a) ≡ false = grind (arith, nat_tests) in (λ i. u i && (d == b)))

-- whether one of these orders was refused that is this one
Has-map : {X Y : Type 0} (f : X → Y) (xs : List X) (x : X) → Has xs x → Has (map f xs) (f x)
Has-map f [] x h = absurd h
Has-map f (y ∷ xs) x (inl e) = inl (ap f e)
Has-map f (y ∷ xs) x (inr h) = inr (Has-map f xs x h)

submissions : List Answered → List Submission
submissions ws = map (λ (w : Answered). w.0) ws

-- no event says that it was
one-none : (x : Submission) (w : Answered) → ((x.seat == w.0.seat) && (x.number == w.0.number)) ≡ false → list_any (is_refusal_of x) (refusal w) ≡ false
one-none x w h = by w.1
  where
    by : (why : Option Refusal) → list_any (is_refusal_of x) (option_to_list (refusal_event w.0 why)) ≡ false
    by None = refl
    by (Some why) = ap (λ (b : Bool). b || false) h

any-append : (x : Submission) (es fs : List Event) → list_any (is_refusal_of x) es ≡ false → list_any (is_refusal_of x) (es ++ fs) ≡ list_any (is_refusal_of x) fs
any-append x [] fs h = refl
any-append x (e ∷ es) fs h = by (is_refusal_of x e) h (any-append x es fs)
  where
    by : (b : Bool) → (b || list_any (is_refusal_of x) es) ≡ false → (list_any (is_refusal_of x) es ≡ false → list_any (is_refusal_of x) (es ++ fs) ≡ list_any (is_refusal_of x) fs)
        → (b || list_any (is_refusal_of x) (es ++ fs)) ≡ list_any (is_refusal_of x) fs
    by true e rest = absurd (let y : true ≡ false = e in cc)
    by false e rest = rest e

none-of : (x : Submission) (ws : List Answered) → ((w : Answered) → Has ws w → ((x.seat == w.0.seat) && (x.number == w.0.number)) ≡ false) → list_any (is_refusal_of x) (flat_map refusal ws) ≡ false
none-of x [] other = refl
none-of x (w ∷ ws) other = any-append x (refusal w) (flat_map refusal ws) (one-none x w (other w (inl refl))) ∙ none-of x ws (λ v h. other v (inr h))

abbrev is_refused_for : Option Refusal → Bool
is_refused_for None = false
is_refused_for (Some why) = true

-- each event of a refusal is of the order that was refused
own-refusal : (w : Answered) (rest : List Event) → list_any (is_refusal_of w.0) rest ≡ false → list_any (is_refusal_of w.0) (refusal w ++ rest) ≡ is_refused_for w.1
own-refusal w rest none = by w.1
  where
    by : (why : Option Refusal) → list_any (is_refusal_of w.0) (option_to_list (refusal_event w.0 why) ++ rest) ≡ is_refused_for why
    by None = none
    by (Some why) = (let s : (w.0.seat == w.0.seat) ≡ true = grind (arith, nat_tests) in let n : (w.0.number == w.0.number) ≡ true = grind (arith, nat_tests) in
        (λ i. (s i && n i) || list_any (is_refusal_of w.0) rest))

only-own : (ws : List Answered) (from : ℕ → ℕ) → ((seat : ℕ) → CountsFrom (from seat) (of seat (map (λ (w : Answered). w.0) ws))) → (w : Answered) → Has ws w → list_any (is_refusal_of w.0) (flat_map refusal ws) ≡ is_refused_for w.1
only-own [] from counts w h = absurd h
only-own (u ∷ ws) from counts w (inl e) = subst (λ (z : Answered). list_any (is_refusal_of z.0) (refusal u ++ flat_map refusal ws) ≡ is_refused_for z.1) e
    (own-refusal u (flat_map refusal ws) (none-of u.0 ws (λ v h. apart u.0.seat u.0.number v.0.seat v.0.number (below u.0 (map (λ (z : Answered). z.0) ws) from counts v.0 (Has-map (λ (z : Answered). z.0) ws v h)))))
only-own (u ∷ ws) from counts w (inr h) =
    any-append w.0 (refusal u) (flat_map refusal ws)
    (one-none w.0 u (apart-back u.0.seat u.0.number w.0.seat w.0.number (below u.0 (map (λ (z : Answered). z.0) ws) from counts w.0 (Has-map (λ (z : Answered). z.0) ws w h))))
    ∙ only-own ws (λ seat. cond (u.0.seat == seat) (from seat + 1) (from seat)) (tail-counts u.0 (map (λ (z : Answered). z.0) ws) from counts) w h

any-filtered : (x : Submission) (es : List Event) → list_any (is_refusal_of x) es ≡ list_any (is_refusal_of x) (filter is_refused es)
any-filtered x [] = refl
any-filtered x (events.Refused seat number why ∷ es) = ap (λ (b : Bool). ((x.seat == seat) && (x.number == number)) || b) (any-filtered x es)
any-filtered x (events.Connect p info ∷ es) = any-filtered x es
any-filtered x (events.Receive p q ∷ es) = any-filtered x es
any-filtered x (events.Disconnect p info ∷ es) = any-filtered x es

flat-same : (f : Submission → List Packet) (g : Answered → List Packet) (ws : List Answered) → ((w : Answered) → Has ws w → f w.0 ≡ g w) → flat_map f (map (λ (w : Answered). w.0) ws) ≡ flat_map g ws
flat-same f g [] same = refl
flat-same f g (w ∷ ws) same = (λ i. same w (inl refl) i ++ flat-same f g ws (λ v h. same v (inr h)) i)

settled-is : (es : List Event) (name : PeerRef) (channel : ℕ) (w : Answered) → list_any (is_refusal_of w.0) es ≡ is_refused_for w.1 → packet_unless es name channel w.0 ≡ settled name channel w
settled-is es name channel w h = ap (λ (b : Bool). cond b [] (packet_in name channel w.0.order)) h ∙ by w.1
  where
    by : (why : Option Refusal) → cond (is_refused_for why) [] (packet_in name channel w.0.order) ≡ unless_refused why (packet_in name channel w.0.order)
    by None = refl
    by (Some r) = refl

-- which packets were accepted, by events that refuse the others
pub sent-by : (old new : Service Noted) (gave : List (Option Submission)) (puts : List (Event × Bool)) (l : Ledger old new gave puts) (es : List Event)
    → ((x : Submission) → list_any (is_refusal_of x) es ≡ list_any (is_refusal_of x) (flat_map refusal l.answered)) → AreNumbered (given gave)
    → (name : PeerRef) (channel : ℕ) → packets_of es name channel (given gave) ≡ submitted_in l.calls name channel
sent-by old new gave puts l es told-is numbered name channel =
    ap (flat_map (packet_unless es name channel)) l.given_are
    ∙ flat-same (packet_unless es name channel) (settled name channel) l.answered (λ w h. settled-is es name channel w (refused w h))
    ∙ sym (l.packets name channel)
  where
    refused : (w : Answered) → Has l.answered w → list_any (is_refusal_of w.0) es ≡ is_refused_for w.1
    refused w h =
        told-is w.0
        ∙ only-own l.answered (λ seat. 0) (λ seat. subst (λ (xs : List Submission). CountsFrom 0 (of seat xs)) l.given_are (numbered seat)) w h

-- so much is told by the calls
abbrev AreTold : List Round → Service Host → List Call → Type 0
AreTold rounds new calls =
    (AreNumbered (given (all_gave rounds)) → (name : PeerRef) (channel : ℕ) → submitted rounds new.waiting name channel ≡ submitted_in calls name channel)
    × ((name : PeerRef) → taken rounds new.waiting name ≡ taken_in calls name)

-- ---- kinds of events

-- what waits is where its kind waits
pub record Sorted (w : Waiting) : Type 0 where
  pub plain : filter is_refused (option_to_list w.event) ≡ []
  pub refused : filter is_plain (option_to_list w.refusal) ≡ []

pub nothing-sorted : Sorted nothing_waits
nothing-sorted = record { plain = refl; refused = refl }

-- refusals are of no peer, and of no other kind
none-of-peer : (name : PeerRef) (ws : List Answered) → filter (is_of name) (flat_map refusal ws) ≡ []
none-of-peer name [] = refl
none-of-peer name (w ∷ ws) = filter-append (is_of name) (refusal w) (flat_map refusal ws) ∙ (λ i. refused-of w.0 w.1 name i ++ none-of-peer name ws i)

none-plain : (ws : List Answered) → filter is_plain (flat_map refusal ws) ≡ []
none-plain [] = refl
none-plain (w ∷ ws) = filter-append is_plain (refusal w) (flat_map refusal ws) ∙ (λ i. by w.1 i ++ none-plain ws i)
  where
    by : (why : Option Refusal) → filter is_plain (option_to_list (refusal_event w.0 why)) ≡ []
    by None = refl
    by (Some why) = refl

all-refused : (es : List Event) → filter is_plain es ≡ [] → filter is_refused es ≡ es
all-refused [] none = refl
all-refused (events.Refused seat number why ∷ es) none = ap (λ (l : List Event). events.Refused seat number why ∷ l) (all-refused es none)
all-refused (events.Connect p info ∷ es) none = absurd (let y : ◌≡◌ {A = List Event} (events.Connect p info ∷ filter is_plain es) [] = none in cc)
all-refused (events.Receive p q ∷ es) none = absurd (let y : ◌≡◌ {A = List Event} (events.Receive p q ∷ filter is_plain es) [] = none in cc)
all-refused (events.Disconnect p info ∷ es) none = absurd (let y : ◌≡◌ {A = List Event} (events.Disconnect p info ∷ filter is_plain es) [] = none in cc)

module _ (old new : Service Noted) (gave : List (Option Submission)) (puts : List (Event × Bool)) (l : Ledger old new gave puts) where
  -- of the host's events none is a refusal, and each refusal is one
  host-plain : Sorted old.waiting → filter is_refused (l.of_host ++ option_to_list new.waiting.event) ≡ []
  host-plain s = ap (filter is_refused) (sym l.host_put) ∙ filter-append is_refused (option_to_list old.waiting.event) l.made ∙ (λ i. s.plain i ++ l.plain i)

  orders-refused : Sorted old.waiting → filter is_plain (option_to_list old.waiting.refusal ++ flat_map refusal l.answered) ≡ []
  orders-refused s = filter-append is_plain (option_to_list old.waiting.refusal) (flat_map refusal l.answered) ∙ (λ i. s.refused i ++ none-plain l.answered i)

  pub sorted-on : Sorted old.waiting → Sorted new.waiting
  sorted-on s = record {
    plain = (both-none (filter is_refused l.of_host) (filter is_refused (option_to_list new.waiting.event)) (sym (filter-append is_refused l.of_host (option_to_list new.waiting.event)) ∙ host-plain s)).1;
    refused = (both-none (filter is_plain l.of_orders) (filter is_plain (option_to_list new.waiting.refusal))
        (sym (filter-append is_plain l.of_orders (option_to_list new.waiting.refusal)) ∙ ap (filter is_plain) (sym l.orders_put) ∙ orders-refused s)).1;
  }

  -- the refusals that were put, or wait, are those that waited and those of the orders
  pub told-refusals : Sorted old.waiting → filter is_refused (accepted puts ++ held_in new.waiting) ≡ option_to_list old.waiting.refusal ++ flat_map refusal l.answered
  told-refusals s =
      second-of is_refused l.of_host l.of_orders (accepted puts) (option_to_list new.waiting.event) (option_to_list new.waiting.refusal) l.puts_are (host-plain s)
      ∙ ap (filter is_refused) (sym l.orders_put) ∙ all-refused (option_to_list old.waiting.refusal ++ flat_map refusal l.answered) (orders-refused s)

  -- a peer's events that were put, or wait, are those that were made, where no refusal waited
  pub told-of : (name : PeerRef) → old.waiting.refusal ≡ None → filter (is_of name) (accepted puts ++ held_in new.waiting) ≡ filter (is_of name) (option_to_list old.waiting.event ++ l.made)
  told-of name none =
      first-of (is_of name) l.of_host l.of_orders (accepted puts) (option_to_list new.waiting.event) (option_to_list new.waiting.refusal) l.puts_are
      (ap (filter (is_of name)) (sym l.orders_put ∙ ap (λ (o : Option Event). option_to_list o ++ flat_map refusal l.answered) none) ∙ none-of-peer name l.answered)
      ∙ ap (filter (is_of name)) (sym l.host_put)

-- calls that submit nothing, and take nothing
pub record AreSilent (first : List Call) : Type 0 where
  pub sent : (name : PeerRef) (channel : ℕ) → submitted_in first name channel ≡ []
  pub got : (name : PeerRef) → taken_in first name ≡ []

none-silent : AreSilent []
none-silent = record { sent = λ name channel. refl; got = λ name. refl }

-- the call that sets a limit is one
pub setting-silent : (limit : Option SendLimit) → AreSilent (setting limit)
setting-silent None = record { sent = λ name channel. refl; got = λ name. refl }
setting-silent (Some limit) = record { sent = λ name channel. refl; got = λ name. refl }

-- so with them other calls submit, and take, what they do
pub sent-behind : (first calls all : List Call) → AreSilent first → all ≡ first ++ calls → (name : PeerRef) (channel : ℕ) → submitted_in all name channel ≡ submitted_in calls name channel
sent-behind first calls all s are name channel =
    ap (λ (cs : List Call). submitted_in cs name channel) are ∙ flat_map-append (λ (c : Call). submitted_by name channel (Calls c)) first calls
    ∙ ap (λ (ps : List Packet). ps ++ submitted_in calls name channel) (s.sent name channel)

got-behind : (first calls all : List Call) → AreSilent first → all ≡ first ++ calls → (name : PeerRef) → taken_in all name ≡ taken_in calls name
got-behind first calls all s are name =
    ap (λ (cs : List Call). taken_in cs name) are ∙ flat_map-append (λ (c : Call). taken_by name (Calls c)) first calls ∙ ap (λ (es : List Event). es ++ taken_in calls name) (s.got name)

tells-by : (old : Service Host) (first : List Call) (rounds : List Round) (new : Service Host) (calls : List Call) → AreSilent first → old.waiting ≡ nothing_waits → Ledger (noted old first) (noted new calls) (all_gave rounds) (all_puts rounds)
    → AreTold rounds new calls
tells-by old first rounds new calls silent none l = (sends, takes)
  where
    sorted : Sorted old.waiting
    sorted = subst Sorted (sym none) nothing-sorted

    refusals : filter is_refused (told_by rounds new.waiting) ≡ flat_map refusal l.answered
    refusals = told-refusals (noted old first) (noted new calls) (all_gave rounds) (all_puts rounds) l sorted ∙ ap (λ (w : Waiting). option_to_list w.refusal ++ flat_map refusal l.answered) none

    takes : (name : PeerRef) → taken rounds new.waiting name ≡ taken_in calls name
    takes name =
        told-of (noted old first) (noted new calls) (all_gave rounds) (all_puts rounds) l name (ap (λ (w : Waiting). w.refusal) none)
        ∙ ap (λ (w : Waiting). filter (is_of name) (option_to_list w.event ++ l.made)) none ∙ l.taken_are name ∙ sym (got-behind first l.calls calls silent l.calls_are name)

    sends : AreNumbered (given (all_gave rounds)) → (name : PeerRef) (channel : ℕ) → submitted rounds new.waiting name channel ≡ submitted_in calls name channel
    sends numbered name channel =
        sent-by (noted old first) (noted new calls) (all_gave rounds) (all_puts rounds) l (told_by rounds new.waiting) (λ x. any-filtered x (told_by rounds new.waiting) ∙ ap (list_any (is_refusal_of x)) refusals) numbered name channel
        ∙ sym (sent-behind first l.calls calls silent l.calls_are name channel)

pub each-tells : EachRunTells
each-tells kind old rounds new calls none r = tells-by old [] rounds new calls none-silent none (rounds-ledger kind (noted old []) rounds (noted new calls) r)

pub life-tells : (old : Service Host) (first : List Call) (spans : List Span) (new : Service Host) (calls : List Call) → AreSilent first → old.waiting ≡ nothing_waits → Spans noting (noted old first) spans (noted new calls)
    → (AreNumbered (given (all_gave (rounds_in spans))) → (name : PeerRef) (channel : ℕ) → submitted (rounds_in spans) new.waiting name channel ≡ submitted_in calls name channel)
    × ((name : PeerRef) → taken (rounds_in spans) new.waiting name ≡ taken_in calls name)
life-tells old first spans new calls silent none r = tells-by old first (rounds_in spans) new calls silent none (spans-ledger (noted old first) spans (noted new calls) r)
