-- What passes a relay that shares its service's thread: step by step.
use Rattle.std.proofs.Common.{◌≡◌, ℕ, ◌+◌, List, [], ◌∷◌, ◌++◌, Bool, true, false, Option, Some, None, refl, sym, ◌∙◌, ap, subst, append_assoc, arith}
use Rattle.std.specs.Prelude.{map}
use Rattle.std.proofs.lemmas.List.{append-nil, map-append}
use Rattle.std.proofs.lemmas.List.Elements.{filter-append, filter_map-append}
use Rattle.std.proofs.lemmas.Grind.{flat_map-append}
use Rattle.enet_codec.specs.declared.event.PeerRef.{PeerRef}
use Rattle.enet_codec.specs.declared.event.Event.{Event}
use Rattle.enet_submit.specs.declared.order.Order.{Order}
use Rattle.enet_submit.specs.declared.order.Submission.{Submission}
use Rattle.enet_wire.specs.declared.told.Told.{Told}
use Rattle.enet_bridge.specs.Ends.{orders}
use Rattle.enet_chat.specs.Lists.{IsGiven, IsPut}
use Rattle.enet_chat.specs.Lone.{Expands}
use Rattle.enet_chat.specs.declared.lone.LoneRelay.{LoneRelay}
use Rattle.enet_chat.specs.Relaying.{noted_all}
use Rattle.enet_chat.proofs.Relays.{noted_more, on_for_each, joined}
use Rattle.enet_turn.specs.declared.report.Report.{Report}
use Rattle.enet_turn.specs.Counts.{stopped, given_in, came_in, went_in, lost_in, taken_in}
use Rattle.enet_turn.specs.LoneTurn.{Applied, gave_in, puts_in}
use Rattle.enet_turn.specs.Phases.{Chain}
use Rattle.enet_service.specs.Queues.{given, accepted}
use Rattle.enet_turn.proofs.Reporting.{same_report}
use Rattle.enet_turn.proofs.Tellings.{taken_more, given_more}
use Rattle.enet_serve.specs.Private.Passing.{Passes}

abbrev pub Puts : List Event → List (Event × Bool) → List Event → Type 0
Puts before puts after = Chain (λ s x t. IsPut s x.0 x.1 t) before puts after

-- what a list of orders gave was its front
pub given_front : (before : List Order) (gave : List (Option Submission)) (after : List Order) → Chain IsGiven before gave after → before ≡ orders (given gave) ++ after
given_front before [] after same = sym same
given_front before (Some x ∷ gave) after (between, first, rest) = first ∙ ap (λ (os : List Order). x.order ∷ os) (given_front between gave after rest)
given_front before (None ∷ gave) after (between, none, rest) = none.0 ∙ (sym none.1 ∙ given_front between gave after rest)

-- what was put into a list of events is its end
pub put_behind : (before : List Event) (puts : List (Event × Bool)) (after : List Event) → Puts before puts after → after ≡ before ++ accepted puts
put_behind before [] after same = same ∙ sym (append-nil before)
put_behind before ((event, true) ∷ puts) after (between, put, rest) =
    put_behind between puts after rest ∙ (ap (λ (es : List Event). es ++ accepted puts) put.0 ∙ append_assoc before (event ∷ []) (accepted puts))
put_behind before ((event, false) ∷ puts) after (between, put, rest) = put_behind between puts after rest ∙ ap (λ (es : List Event). es ++ accepted puts) put

-- what was given and taken first and then
pub given_then : (xs ys : List (Option Submission)) → orders (given (xs ++ ys)) ≡ orders (given xs) ++ orders (given ys)
given_then xs ys = ap orders (filter_map-append (λ (x : Option Submission). x) xs ys) ∙ map-append (λ (x : Submission). x.order) (given xs) (given ys)

pub accepted_then : (xs ys : List (Event × Bool)) → accepted (xs ++ ys) ≡ accepted xs ++ accepted ys
accepted_then xs ys = ap (map (λ (x : Event × Bool). x.0)) (filter-append (λ (x : Event × Bool). x.1) xs ys) ∙ map-append (λ (x : Event × Bool). x.0) _ _

-- only orders and events pass
pub passes_by : (a b : LoneRelay) (gave : List (Option Submission)) (puts : List (Event × Bool)) → b.table ≡ a.table → Chain IsGiven a.orders gave b.orders → Puts a.events puts b.events → Passes a gave puts b
passes_by a b gave puts table gives put = record {
  expanded = [];
  asked_for = [];
  events = sym (put_behind a.events puts b.events put);
  peers = table;
  for_each = λ (peer : PeerRef). refl;
  orders_done = append-nil a.orders ∙ given_front a.orders gave b.orders gives;
}

-- only the relay works
pub passes_expanded : (a b : LoneRelay) → Expands a b → Passes a [] [] b
passes_expanded a b expands = record {
  expanded = expands.expanded;
  asked_for = expands.asked_for;
  events = append-nil a.events ∙ expands.in_order;
  peers = expands.peers;
  for_each = expands.for_each;
  orders_done = sym expands.orders;
}

-- one after another
pub passes_on : (a b c : LoneRelay) (g h : List (Option Submission)) (p q : List (Event × Bool)) → Passes a g p b → Passes b h q c → Passes a (g ++ h) (p ++ q) c
passes_on a b c g h p q one two = record {
  expanded = one.expanded ++ two.expanded;
  asked_for = one.asked_for ++ two.asked_for;
  events = ap (λ (es : List Event). a.events ++ es) (accepted_then p q) ∙ joined a.events b.events c.events (accepted p) (accepted q) one.expanded two.expanded one.events two.events;
  peers = two.peers ∙ (ap (λ (ps : List PeerRef). noted_all ps two.expanded) one.peers ∙ sym (noted_more a.table one.expanded two.expanded));
  for_each = on_for_each one.asked_for two.asked_for a.table b.table one.expanded two.expanded one.peers one.for_each two.for_each;
  orders_done = joined a.orders b.orders c.orders one.asked_for two.asked_for (orders (given g)) (orders (given h)) one.orders_done two.orders_done
      ∙ ap (λ (os : List Order). os ++ c.orders) (sym (given_then g h));
}

-- orders pass, and the relay works on
pub passes_then : (a b c d : LoneRelay) (g h : List (Option Submission)) (p q : List (Event × Bool)) → Passes a g p b → c.table ≡ b.table → Chain IsGiven b.orders h c.orders → Puts b.events q c.events → Expands c d
    → Passes a (g ++ h) (p ++ q) d
passes_then a b c d g h p q one table gives put expands =
    let two : Passes b (h ++ []) (q ++ []) d = passes_on b c d h [] q [] (passes_by b c h q table gives put) (passes_expanded c d expands) in
    passes_on a b d g h p q one (subst (λ (y : List (Event × Bool)). Passes b h y d) (append-nil q) (subst (λ (x : List (Option Submission)). Passes b x (q ++ []) d) (append-nil h) two))

-- orders one more time
pub gave_more : (os : List Applied) (o : Applied) → gave_in (os ++ o ∷ []) ≡ gave_in os ++ o.gave
gave_more os o = flat_map-append (λ (x : Applied). x.gave) os (o ∷ []) ∙ ap (λ (xs : List (Option Submission)). gave_in os ++ xs) (append-nil o.gave)

pub puts_more : (os : List Applied) (o : Applied) → puts_in (os ++ o ∷ []) ≡ puts_in os ++ o.puts
puts_more os o = flat_map-append (λ (x : Applied). x.puts) os (o ∷ []) ∙ ap (λ (xs : List (Event × Bool)). puts_in os ++ xs) (append-nil o.puts)

-- what so many orders report
abbrev pub of_orders : List (Option Submission) → List (Event × Bool) → Report
of_orders gave puts = record { orders = stopped (given_in gave); received = 0; sent = 0; lost = 0; events = stopped (taken_in puts) }

abbrev pub both : Report → Report → Report
both t d = record { orders = stopped (t.orders + d.orders); received = stopped (t.received + d.received); sent = stopped (t.sent + d.sent); lost = stopped (t.lost + d.lost); events = stopped (t.events + d.events) }

given_sum : (g h : List (Option Submission)) (a b : ℕ) → a ≡ stopped (given_in g) → b ≡ given_in h → stopped (a + b) ≡ stopped (given_in (g ++ h))
given_sum g h a b ea eb = omega (arith, given_more g h, ea, eb)

taken_sum : (p q : List (Event × Bool)) (a b : ℕ) → a ≡ stopped (taken_in p) → b ≡ taken_in q → stopped (a + b) ≡ stopped (taken_in (p ++ q))
taken_sum p q a b ea eb = omega (arith, taken_more p q, ea, eb)

taken_sums : (p q : List (Event × Bool)) (a b : ℕ) → a ≡ stopped (taken_in p) → b ≡ stopped (taken_in q) → stopped (a + b) ≡ stopped (taken_in (p ++ q))
taken_sums p q a b ea eb = omega (arith, taken_more p q, ea, eb)

no_more : (a b : ℕ) → a ≡ 0 → b ≡ 0 → stopped (a + b) ≡ 0
no_more a b ea eb = omega (arith, ea, eb)

pub orders_report : (t d u : Report) (g h : List (Option Submission)) (p q : List (Event × Bool)) → t ≡ of_orders g p
    → d ≡ record { orders = given_in h; received = 0; sent = 0; lost = 0; events = taken_in q } → u ≡ both t d → u ≡ of_orders (g ++ h) (p ++ q)
orders_report t d u g h p q et ed eu =
    same_report u _ _ _ _ _ _ _ _ _ _ eu
    (given_sum g h _ _ (ap (λ (r : Report). r.orders) et) (ap (λ (r : Report). r.orders) ed))
    (no_more _ _ (ap (λ (r : Report). r.received) et) (ap (λ (r : Report). r.received) ed))
    (no_more _ _ (ap (λ (r : Report). r.sent) et) (ap (λ (r : Report). r.sent) ed))
    (no_more _ _ (ap (λ (r : Report). r.lost) et) (ap (λ (r : Report). r.lost) ed))
    (taken_sum p q _ _ (ap (λ (r : Report). r.events) et) (ap (λ (r : Report). r.events) ed))

-- what a whole turn reports
pub turn_report : (h o b s u : Report) (came went : List Told) (g : List (Option Submission)) (p q : List (Event × Bool))
    → h ≡ record { orders = 0; received = came_in came; sent = 0; lost = 0; events = stopped (taken_in p) } → o ≡ of_orders g q → b ≡ both h o
    → s ≡ record { orders = 0; received = 0; sent = went_in went; lost = lost_in went; events = 0 } → u ≡ both b s
    → u ≡ record { orders = stopped (given_in g); received = stopped (came_in came); sent = stopped (went_in went); lost = stopped (lost_in went + 0); events = stopped (taken_in (p ++ q)) }
turn_report h o b s u came went g p q eh eo eb es eu =
    same_report u _ _ _ _ _ _ _ _ _ _ eu
    (orders_then _ _ _ _ _ (ap (λ (r : Report). r.orders) eh) (ap (λ (r : Report). r.orders) eo) (ap (λ (r : Report). r.orders) eb) (ap (λ (r : Report). r.orders) es))
    (received_then _ _ _ _ _ (ap (λ (r : Report). r.received) eh) (ap (λ (r : Report). r.received) eo) (ap (λ (r : Report). r.received) eb) (ap (λ (r : Report). r.received) es))
    (sent_then _ _ _ _ _ (ap (λ (r : Report). r.sent) eh) (ap (λ (r : Report). r.sent) eo) (ap (λ (r : Report). r.sent) eb) (ap (λ (r : Report). r.sent) es))
    (lost_then _ _ _ _ _ (ap (λ (r : Report). r.lost) eh) (ap (λ (r : Report). r.lost) eo) (ap (λ (r : Report). r.lost) eb) (ap (λ (r : Report). r.lost) es))
    (events_then _ _ _ _ (taken_sums p q _ _ (ap (λ (r : Report). r.events) eh) (ap (λ (r : Report). r.events) eo)) (ap (λ (r : Report). r.events) eb) (ap (λ (r : Report). r.events) es))
  where
    orders_then : (a c d e n : ℕ) → a ≡ 0 → c ≡ stopped n → d ≡ stopped (a + c) → e ≡ 0 → stopped (d + e) ≡ stopped n
    orders_then a c d e n ea ec ed ee = omega (arith, ea, ec, ed, ee)

    received_then : (a c d e n : ℕ) → a ≡ n → c ≡ 0 → d ≡ stopped (a + c) → e ≡ 0 → stopped (d + e) ≡ stopped n
    received_then a c d e n ea ec ed ee = omega (arith, ea, ec, ed, ee)

    sent_then : (a c d e n : ℕ) → a ≡ 0 → c ≡ 0 → d ≡ stopped (a + c) → e ≡ n → stopped (d + e) ≡ stopped n
    sent_then a c d e n ea ec ed ee = omega (arith, ea, ec, ed, ee)

    lost_then : (a c d e n : ℕ) → a ≡ 0 → c ≡ 0 → d ≡ stopped (a + c) → e ≡ n → stopped (d + e) ≡ stopped (n + 0)
    lost_then a c d e n ea ec ed ee = omega (arith, ea, ec, ed, ee)

    events_then : (x d e n : ℕ) → x ≡ stopped n → d ≡ x → e ≡ 0 → stopped (d + e) ≡ stopped n
    events_then x d e n ex ed ee = omega (arith, ex, ed, ee)

pub obeyed_more : (P : List (Option Submission) → List (Event × Bool) → Type 0) (os : List Applied) (o : Applied) → P (gave_in os ++ o.gave) (puts_in os ++ o.puts) → P (gave_in (os ++ o ∷ [])) (puts_in (os ++ o ∷ []))
obeyed_more P os o h =
    subst (λ (p : List (Event × Bool)). P (gave_in (os ++ o ∷ [])) p) (sym (puts_more os o)) (subst (λ (g : List (Option Submission)). P g (puts_in os ++ o.puts)) (sym (gave_more os o)) h)
