-- A run whose relay shares its service's thread: turn by turn.
use Rattle.std.proofs.Common.{◌≡◌, ℕ, inl, inr, arith, List, [], ◌∷◌, ◌++◌, Bool, true, false, cond, Option, Some, None, refl, sym, ◌∙◌, ap, subst, append_assoc}
use Rattle.std.specs.Prelude.{unwrap_or, length, ◌≤◌}
use Rattle.std.specs.List.{sum_by}
use Rattle.std.proofs.lemmas.List.{append-nil, length-append}
use Rattle.std.proofs.lemmas.List.Elements.{All-nil, All-append, All-push}
use Rattle.std.proofs.lemmas.Grind.{flat_map-append}
use Rattle.enet_codec.specs.declared.event.PeerRef.{PeerRef}
use Rattle.enet_codec.specs.declared.event.Event.{Event}
use Rattle.enet_submit.specs.declared.order.Order.{Order}
use Rattle.enet_submit.specs.declared.order.Submission.{Submission}
use Rattle.enet_bridge.specs.Ends.{orders}
use Rattle.enet_wire.specs.declared.told.Told.{Told}
use Rattle.enet_wire.specs.declared.told.Told.TheVariants.{Waited}
use Rattle.enet_wire.specs.Wires.{also, unless_spent, is_spent}
use Rattle.enet_chat.specs.Lone.{Expands}
use Rattle.enet_chat.specs.declared.lone.LoneRelay.{LoneRelay}
use Rattle.enet_chat.specs.Relaying.{noted_all, relayed_all, SameForEach, AreBehind, AreFarBehind}
use Rattle.enet_turn.specs.Counts.{stopped, given_in, came_in, went_in, taken_in}
use Rattle.enet_turn.specs.Hosting.{host_calls}
use Rattle.enet_turn.specs.LoneTurn.{LoneTurn, lone, RoundsOf}
use Rattle.enet_service.specs.Queues.{given, accepted}
use Rattle.enet_turn.specs.Turn.{Round}
use Rattle.enet_turn.specs.Run.{IsSound, AreCut, all_gave, all_told, all_puts, total}
use Rattle.enet_service.specs.ServiceRuns.{Lasts, LastsAtMost}
use Rattle.enet_turn.proofs.PhaseSteps.{chain_more}
use Rattle.enet_turn.proofs.Reporting.{same_report}
use Rattle.enet_turn.proofs.Runs.{cut_later}
use Rattle.enet_turn.specs.Calls.{Calls}
use Rattle.enet_turn.specs.declared.service.Service.{Service}
use Rattle.enet_turn.specs.declared.report.Report.{Report}
use Rattle.enet_service.specs.declared.run_length.RunLength.{RunLength}
use Rattle.enet_serve.specs.declared.server.ChatServer.{ChatServer}
use Rattle.enet_serve.specs.Serving.{Serves, IsCutOffAlone, told_of, faults_of}
use Rattle.enet_serve.specs.Private.Alone.{Pair, Goes, GoesOff, IsOf, pair}
use Rattle.enet_serve.specs.Private.Passing.{Passes}
use Rattle.enet_serve.proofs.Passing.{passes_expanded, passes_on}

-- what a wire told grows with the turns
pub told_none : (spent : Bool) (l : List Told) → l ≡ l ++ cond spent [] []
told_none true l = sym (append-nil l)
told_none false l = sym (append-nil l)

told_both : (spent : Bool) (l xs ys : List Told) → (l ++ cond spent [] xs) ++ cond spent [] ys ≡ l ++ cond spent [] (xs ++ ys)
told_both true l xs ys = append-nil (l ++ [])
told_both false l xs ys = append_assoc l xs ys

pub told_further : (f g : ℕ) (l m n : List Told) (xs ys : List Round) → g ≡ f → m ≡ l ++ unless_spent f (all_told xs) → n ≡ m ++ unless_spent g (all_told ys) → n ≡ l ++ unless_spent f (all_told (xs ++ ys))
told_further f g l m n xs ys same first then =
    then ∙ ((λ i. first i ++ unless_spent (same i) (all_told ys)) ∙ (told_both (is_spent f) l (all_told xs) (all_told ys)
    ∙ ap (λ (zs : List Told). l ++ unless_spent f zs) (sym (flat_map-append (λ (r : Round). Waited r.ms ∷ r.told) xs ys))))

pub told_in : (l m : List Told) (f : ℕ) (more : List Told) (o p : Option (List Told)) → o ≡ Some l → p ≡ Some m → p ≡ also o (unless_spent f more) → m ≡ l ++ unless_spent f more
told_in l m f more o p before after grown = ap (λ (x : Option (List Told)). unwrap_or x []) (sym after ∙ (grown ∙ ap (λ (x : Option (List Told)). also x (unless_spent f more)) before))

-- no turn yet
pub goes_nowhere : (a b : Pair) → b.service ≡ a.service → b.told ≡ a.told → b.faults ≡ a.faults → Expands a.relay b.relay → AreBehind b.relay.events b.relay.orders → AreFarBehind 256 b.relay.events b.relay.orders
    → Goes a [] b
goes_nowhere a b same told faults expands behind far_behind = record {
  turns = same;
  sound = All-nil IsSound;
  passes = passes_expanded a.relay b.relay expands;
  behind = behind;
  far_behind = far_behind;
  told = told ∙ told_none (is_spent a.faults) a.told;
  faults = faults;
}

-- turns after turns
passes_both : (a b c : LoneRelay) (xs ys : List Round) → Passes a (all_gave xs) (all_puts xs) b → Passes b (all_gave ys) (all_puts ys) c → Passes a (all_gave (xs ++ ys)) (all_puts (xs ++ ys)) c
passes_both a b c xs ys p q =
    subst (λ (puts : List (Event × Bool)). Passes a (all_gave (xs ++ ys)) puts c) (sym (flat_map-append (λ (r : Round). r.puts) xs ys))
    (subst (λ (gave : List (Option Submission)). Passes a gave (all_puts xs ++ all_puts ys) c) (sym (flat_map-append (λ (r : Round). r.gave) xs ys))
    (passes_on a b c (all_gave xs) (all_gave ys) (all_puts xs) (all_puts ys) p q))

pub goes_on : (a b c : Pair) (xs ys : List Round) → Goes a xs b → Goes b ys c → Goes a (xs ++ ys) c
goes_on a b c xs ys p q = record {
  turns = chain_more _ a.service xs b.service ys c.service p.turns q.turns;
  sound = All-append IsSound xs ys p.sound q.sound;
  passes = passes_both a.relay b.relay c.relay xs ys p.passes q.passes;
  behind = q.behind;
  far_behind = q.far_behind;
  told = told_further a.faults b.faults a.told b.told c.told xs ys p.faults p.told q.told;
  faults = q.faults ∙ p.faults;
}

-- what passes in one turn
passes_one : (x y : LoneRelay) (r : Round) → Passes x r.gave r.puts y → Passes x (all_gave (r ∷ [])) (all_puts (r ∷ [])) y
passes_one x y r passes =
    subst (λ (puts : List (Event × Bool)). Passes x (r.gave ++ []) puts y) (sym (append-nil r.puts))
    (subst (λ (gave : List (Option Submission)). Passes x gave r.puts y) (sym (append-nil r.gave)) passes)

-- one turn
pub goes_turn : (a b : Pair) (r : Round) → LoneTurn host_calls a.service r b.service → r.failed ≡ false → Passes a.relay r.gave r.puts b.relay → AreBehind b.relay.events b.relay.orders
    → AreFarBehind 256 b.relay.events b.relay.orders → Some b.told ≡ also (Some a.told) (unless_spent a.faults (Waited r.ms ∷ r.told)) → b.faults ≡ a.faults → Goes a (r ∷ []) b
goes_turn a b r turn sound passes behind far_behind told faults = record {
  turns = (b.service, turn, refl);
  sound = All-push IsSound [] r (All-nil IsSound) sound;
  passes = passes_one a.relay b.relay r passes;
  behind = behind;
  far_behind = far_behind;
  told = told_in a.told b.told a.faults (Waited r.ms ∷ r.told) _ _ refl refl told ∙ ap (λ (zs : List Told). a.told ++ unless_spent a.faults zs) (sym (append-nil (Waited r.ms ∷ r.told)));
  faults = faults;
}

-- a turn in which the wire failed
pub cut_turn : {H : Type 0} (calls : Calls H) (a b : Service H) (x y : LoneRelay) (o p : Option (List Told)) (f : ℕ) (r : Round) → r.failed ≡ true → LoneTurn calls a r b → Passes x r.gave r.puts y
    → p ≡ also o (unless_spent f (Waited r.ms ∷ r.told))
    → (rounds : List Round) × AreCut rounds × RoundsOf lone calls a rounds b × Passes x (all_gave rounds) (all_puts rounds) y × (p ≡ also o (unless_spent f (all_told rounds))) × (length rounds ≤ 1)
cut_turn calls a b x y o p f r failed turn passes told = (
  r ∷ [],
  inr ([], r, refl, All-nil IsSound, failed),
  (b, turn, refl),
  passes_one x y r passes,
  told ∙ ap (λ (zs : List Told). also o (unless_spent f zs)) (sym (append-nil (Waited r.ms ∷ r.told))),
  omega arith,
)

pub goes_cut : (a b : Pair) → ((rounds : List Round) × AreCut rounds × RoundsOf lone host_calls a.service rounds b.service × Passes a.relay (all_gave rounds) (all_puts rounds) b.relay
    × (Some b.told ≡ also (Some a.told) (unless_spent a.faults (all_told rounds))) × (length rounds ≤ 1)) → (rounds : List Round) × (length rounds ≤ 1) × GoesOff a rounds b
goes_cut a b h = (h.0, h.5, record { turns = h.2; cut = h.1; passes = h.3; told = told_in a.told b.told a.faults (all_told h.0) (Some a.told) (Some b.told) refl refl h.4 })

-- turns, and then those that the wire cut off
pub goes_off : (a b c : Pair) (xs ys : List Round) → Goes a xs b → GoesOff b ys c → GoesOff a (xs ++ ys) c
goes_off a b c xs ys p q = record {
  turns = chain_more _ a.service xs b.service ys c.service p.turns q.turns;
  cut = cut_later xs ys p.sound q.cut;
  passes = passes_both a.relay b.relay c.relay xs ys p.passes q.passes;
  told = told_further a.faults b.faults a.told b.told c.told xs ys p.faults p.told q.told;
}

-- its report is the sum of one
sum_one : (f : Round → ℕ) (r : Round) (n : ℕ) → f r ≡ stopped n → f r ≡ stopped (sum_by f (r ∷ []))
sum_one f r n e = omega (arith, e)

pub one_total : (r : Round) (came went : List Told) (lost : ℕ) → r.report ≡ record { orders = stopped (given_in r.gave); received = stopped (came_in came); sent = stopped (went_in went); lost = stopped lost; events = stopped (taken_in r.puts) }
    → r.report ≡ total (r ∷ [])
one_total r came went lost e =
    same_report r.report _ _ _ _ _ _ _ _ _ _ refl
    (sum_one (λ (t : Round). t.report.orders) r _ (ap (λ (t : Report). t.orders) e))
    (sum_one (λ (t : Round). t.report.received) r _ (ap (λ (t : Report). t.received) e))
    (sum_one (λ (t : Round). t.report.sent) r _ (ap (λ (t : Report). t.sent) e))
    (sum_one (λ (t : Round). t.report.lost) r _ (ap (λ (t : Report). t.lost) e))
    (sum_one (λ (t : Round). t.report.events) r _ (ap (λ (t : Report). t.events) e))

-- more orders than those that wait
pub far_behind_more : (many : ℕ) (events : List Event) (before waiting : List Order) → AreFarBehind many events waiting → AreFarBehind many events (before ++ waiting)
far_behind_more many events before waiting (inl none) = inl none
far_behind_more many events before waiting (inr enough) = inr (omega (arith, enough, length-append before waiting))

-- what the relay began with was kept by the server, and what it leaves is
pub serves : (old new : ChatServer) (began ended : LoneRelay) (run_length : RunLength) (rounds : List Round) (report : Report)
    → IsOf old.kept began → IsOf new.kept ended → new.kept.unsettled ≡ None → new.queue_capacity ≡ old.queue_capacity → Lasts run_length rounds → report ≡ total rounds
    → Goes (pair old.bound.service began (told_of old) (faults_of old)) rounds (pair new.bound.service ended (told_of new) (faults_of new)) → Serves lone 256 old run_length new report
serves old new began ended run_length rounds report i o settled capacity lasts totals g = record {
  rounds = rounds;
  expanded = g.passes.expanded;
  asked_for = g.passes.asked_for;
  lasts = lasts;
  turns = g.turns;
  sound = g.sound;
  faults = g.faults;
  told = g.told;
  queue_capacity = capacity;
  totals = totals;
  events = ap (λ (es : List Event). es ++ accepted (all_puts rounds)) (sym i.events) ∙ (g.passes.events ∙ ap (λ (es : List Event). g.passes.expanded ++ es) o.events);
  behind = subst (λ (es : List Event). AreBehind es new.kept.orders.items) o.events (subst (λ (os : List Order). AreBehind ended.events os) o.orders_are g.behind);
  far_behind = far_behind_more 256 new.kept.backlog.items (orders (given (all_gave rounds))) new.kept.orders.items
      (subst (λ (es : List Event). AreFarBehind 256 es new.kept.orders.items) o.events (subst (λ (os : List Order). AreFarBehind 256 ended.events os) o.orders_are g.far_behind));
  peers = sym o.peers ∙ (g.passes.peers ∙ ap (λ (ps : List PeerRef). noted_all ps g.passes.expanded) i.peers);
  for_each = subst (λ (ps : List PeerRef). SameForEach g.passes.asked_for (relayed_all ps g.passes.expanded)) i.peers g.passes.for_each;
  orders_done = ap (λ (os : List Order). os ++ g.passes.asked_for) (sym i.orders_are) ∙ (g.passes.orders_done ∙ ap (λ (os : List Order). orders (given (all_gave rounds)) ++ os) o.orders_are);
  settled = settled;
}

pub cut_alone : (old new : ChatServer) (began ended : LoneRelay) (run_length : RunLength) (rounds : List Round) → IsOf old.kept began → IsOf new.kept ended → new.kept.unsettled ≡ None → new.queue_capacity ≡ old.queue_capacity
    → LastsAtMost run_length rounds
    → GoesOff (pair old.bound.service began (told_of old) (faults_of old)) rounds (pair new.bound.service ended (told_of new) (faults_of new)) → IsCutOffAlone run_length old new
cut_alone old new began ended run_length rounds i o settled capacity within g = record {
  off = record { rounds = rounds; within = within; turns = g.turns; cut = g.cut; told = g.told; queue_capacity = capacity };
  kept = record {
    expanded = g.passes.expanded;
    asked_for = g.passes.asked_for;
    events = ap (λ (es : List Event). es ++ accepted (all_puts rounds)) (sym i.events) ∙ (g.passes.events ∙ ap (λ (es : List Event). g.passes.expanded ++ es) o.events);
    peers = sym o.peers ∙ (g.passes.peers ∙ ap (λ (ps : List PeerRef). noted_all ps g.passes.expanded) i.peers);
    for_each = subst (λ (ps : List PeerRef). SameForEach g.passes.asked_for (relayed_all ps g.passes.expanded)) i.peers g.passes.for_each;
    orders_done = ap (λ (os : List Order). os ++ g.passes.asked_for) (sym i.orders_are) ∙ (g.passes.orders_done ∙ ap (λ (os : List Order). orders (given (all_gave rounds)) ++ os) o.orders_are);
  };
  settled = settled;
}
