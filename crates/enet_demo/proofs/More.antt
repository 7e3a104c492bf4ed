-- One event more, what both threads of a client did, and the visits of all clients.
use Rattle.std.proofs.Common.{◌≡◌, ℕ, zero, suc, ◌+◌, ◌<◌, ◌≤◌, ◌⊎◌, inl, inr, List, [], ◌∷◌, ◌++◌, length, map, Option, Result, Ok, Err, Vec, IfOk, IfErr, refl, sym, ap, ◌∙◌, subst, append_assoc, arith}
use Rattle.std.specs.Option.{option_or}
use Rattle.std.specs.List.{Contains}
use Rattle.std.proofs.lemmas.List.{map-append, length-append}
use Rattle.std.proofs.lemmas.Bool.{cases_lt}
use Rattle.std.proofs.lemmas.Result.{IfOk-weaker}
use Rattle.std.proofs.Math.ListN.{get_or-append}
use Rattle.std.proofs.Math.Seq.{get_or-append_seam}
use Rattle.std.specs.declared.alloc.Global.{Global}
use Rattle.std.specs.Prelude.{slice_index_or}
use Rattle.enet_codec.specs.declared.refusal.Refusal.{Refusal}
use Rattle.enet_codec.specs.declared.refusal.Refusal.TheVariants.{Memory}
use Rattle.enet_codec.specs.declared.event.PeerRef.{PeerRef}
use Rattle.enet_codec.specs.declared.event.Event.{Event}
use Rattle.enet_codec.specs.declared.event.Event.TheVariants.{Connect, Receive, Disconnect, Refused}
use Rattle.enet_submit.specs.declared.order.Order.{Order}
use Rattle.enet_submit.specs.declared.order.Submission.{Submission}
use Rattle.enet_submit.specs.declared.queue.SubmitQueue.{SubmitQueue}
use Rattle.enet_submit.specs.Words.{taken}
use Rattle.enet_events.specs.declared.numbered.Numbered.{Numbered}
use Rattle.enet_events.specs.Words.{QueueId}
use Rattle.enet_bridge.specs.Ends.{orders}
use Rattle.enet_bridge.specs.Holding.{asked, received}
use Rattle.enet_serve.specs.Serving.{EndsRun}
use Rattle.enet_turn.specs.declared.report.Report.{Report}
use Rattle.enet_turn.specs.Counts.{stopped}
use Rattle.enet_service.specs.Queues.{given, accepted}
use Rattle.enet_turn.specs.Run.{all_gave, all_puts}
use Rattle.enet_chat.specs.Relaying.{events}
use Rattle.enet_service.specs.declared.run_length.RunLength.TheVariants.{Turns}
use Rattle.enet_service.specs.ServiceRuns.{Standing, HasTurned}
use Rattle.enet_demo.specs.declared.client.Guest.{Guest}
use Rattle.enet_demo.specs.declared.demonstration.Demonstration.{Demonstration}
use Rattle.enet_demo.specs.declared.orders.Plan.{Plan}
use Rattle.enet_demo.specs.declared.player.Player.{Player}
use Rattle.enet_demo.specs.declared.player.Played.{Played}
use Rattle.enet_demo.specs.declared.player.Visit.{Visit}
use Rattle.enet_demo.specs.Plans.{asks}
use Rattle.enet_demo.specs.Visits.{first_peer, packets, peer_of, IsToldBy, plan_of, beginning, Visits, AreVisits}
use Rattle.enet_demo.specs.Private.Visits.{AreOutcomes}
use Rattle.enet_demo.specs.Private.Playing.{told, HasPlayed, HasVisited, IsSettled, IsGuest}

-- ---- one event more
first_peer_more : (es : List Event) (e : Event) → first_peer (es ++ e ∷ []) ≡ option_or (first_peer es) (first_peer (e ∷ []))
first_peer_more [] e = refl
first_peer_more (Connect peer info ∷ es) e = refl
first_peer_more (Receive peer packet ∷ es) e = first_peer_more es e
first_peer_more (Disconnect peer info ∷ es) e = first_peer_more es e
first_peer_more (Refused seat number why ∷ es) e = first_peer_more es e

packets_more : (es : List Event) (e : Event) → packets (es ++ e ∷ []) ≡ packets es + packets (e ∷ [])
packets_more [] e = omega arith
packets_more (Connect peer info ∷ es) e = packets_more es e
packets_more (Receive peer packet ∷ es) e = let more = packets_more es e in omega (arith, more)
packets_more (Disconnect peer info ∷ es) e = packets_more es e
packets_more (Refused seat number why ∷ es) e = packets_more es e

stopped_more : (n k before after sum : ℕ) → before ≡ stopped n → after ≡ stopped (before + k) → sum ≡ n + k → after ≡ stopped sum
stopped_more n k before after sum e f g = omega (arith, e, f, g)

pub plays_on : (p q : Player) (x : Numbered) → HasPlayed p → received q.receiver ≡ received p.receiver ++ x ∷ [] → q.plan ≡ p.plan → asked q.sender ≡ asked p.sender
    → peer_of q.stage ≡ option_or (peer_of p.stage) (first_peer (x.event ∷ [])) → asks q.plan q.stage ≡ asks q.plan p.stage
    → q.received ≡ stopped (p.received + packets (x.event ∷ [])) → HasPlayed q
plays_on p q x has took plan sender stage asking counted =
    let more : told q ≡ told p ++ x.event ∷ [] = ap events took ∙ map-append (λ (y : Numbered). y.event) (received p.receiver) (x ∷ []) in
    record {
      digit = subst (λ (r : Plan). r.number < 10) (sym plan) has.digit;
      connected = stage ∙ (ap (λ (known : Option PeerRef). option_or known (first_peer (x.event ∷ []))) has.connected
          ∙ (sym (first_peer_more (told p) x.event) ∙ ap first_peer (sym more)));
      asked_for = sender ∙ (has.asked_for ∙ (ap (λ (r : Plan). asks r p.stage) (sym plan) ∙ sym asking));
      received_all = stopped_more (packets (told p)) (packets (x.event ∷ [])) p.received q.received (packets (told q)) has.received_all counted (ap packets more ∙ packets_more (told p) x.event);
    }

-- ---- both threads
visited : (queue : SubmitQueue) (id : QueueId) (plan : Plan) (turns : ℕ) (old new : Standing)
    (report : Report) (played : Played) (visit : Visit)
    → taken old.drain ≡ [] → old.poster.posted ≡ [] → HasTurned (Turns turns) old new report → HasVisited queue id plan played
    → IsSettled played new.drain new.poster visit → Visits old.service plan turns visit
visited queue id plan turns old new report played visit none_taken none_posted t v s =
    let all : events played.taker.taken ≡ accepted (all_puts t.rounds) =
    ap events s.all_taken ∙ (t.spell.advances.put.grown ∙ ap (λ (ns : List Numbered). events ns ++ accepted (all_puts t.rounds)) none_posted) in
    let gave : taken new.drain ≡ given (all_gave t.rounds) =
    t.spell.advances.gave ∙ ap (λ (xs : List Submission). xs ++ given (all_gave t.rounds)) none_taken in
    record {
      rounds = t.rounds;
      new = new.service;
      lasts = t.lasts;
      turns_are = t.spell.advances.turns;
      sound = t.spell.sound;
      stage = v.stage;
      left = s.rest ++ v.left;
      connected = v.connected ∙ ap first_peer all;
      asked = v.asked_for ∙ (ap (λ (os : List Order). os ++ v.left) (s.front ∙ ap (λ (xs : List Submission). orders xs ++ s.rest) gave)
          ∙ append_assoc (orders (given (all_gave t.rounds))) s.rest v.left);
      told = subst (λ (es : List Event). IsToldBy es visit) all (subst (IsToldBy (events played.taker.taken)) (sym s.visit_is) v.tells);
    }

pub visited_or_fault : (queue : SubmitQueue) (id : QueueId) (plan : Plan) (turns : ℕ) (old new : Standing)
    (report : Report) (played : Played) (result : Result Visit Refusal)
    → taken old.drain ≡ [] → old.poster.posted ≡ [] → HasTurned (Turns turns) old new report → HasVisited queue id plan played
    → IfOk result (IsSettled played new.drain new.poster) → IfOk result (Visits old.service plan turns)
visited_or_fault queue id plan turns old new report played result none_taken none_posted t v s =
    IfOk-weaker result (IsSettled played new.drain new.poster) (Visits old.service plan turns)
    (λ visit settled. visited queue id plan turns old new report played visit none_taken none_posted t v settled) s

-- ---- all clients
guests_more : (shown : Demonstration) (n : ℕ) (guests : List Guest) (guest : Guest) → length guests ≡ n → ((k : ℕ) (d : Guest) → k < n → IsGuest (plan_of shown k) shown.turns (slice_index_or guests k d))
    → IsGuest (plan_of shown n) shown.turns guest → (k : ℕ) (d : Guest) → k < n + 1 → (k < n) ⊎ (n ≤ k) → IsGuest (plan_of shown k) shown.turns (slice_index_or (guests ++ guest ∷ []) k d)
guests_more shown n guests guest many are new k d l (inl before) =
    subst (IsGuest (plan_of shown k) shown.turns) (sym (get_or-append guests (guest ∷ []) d k (omega (arith, many, before)))) (are k d before)
guests_more shown n guests guest many are new k d l (inr last) =
    let same : length guests ≡ k = omega (arith, many, l, last) in
    subst (λ (i : ℕ). IsGuest (plan_of shown i) shown.turns (slice_index_or (guests ++ guest ∷ []) i d)) same
    (subst (IsGuest (plan_of shown (length guests)) shown.turns) (sym (get_or-append_seam guests guest [] d)) (subst (λ (i : ℕ). IsGuest (plan_of shown i) shown.turns guest) (sym many) new))

pub one_guest_more : (shown : Demonstration) (n : ℕ) (guests more : List Guest) (guest : Guest) → more ≡ guests ++ guest ∷ []
    → (length guests ≡ n) × ((k : ℕ) (d : Guest) → k < n → IsGuest (plan_of shown k) shown.turns (slice_index_or guests k d)) → IsGuest (plan_of shown n) shown.turns guest
    → (length more ≡ n + 1) × ((k : ℕ) (d : Guest) → k < n + 1 → IsGuest (plan_of shown k) shown.turns (slice_index_or more k d))
one_guest_more shown n guests more guest e are new = (
  omega (arith, ap length e, length-append guests (guest ∷ []), are.0),
  λ k d l. subst (λ (xs : List Guest). IsGuest (plan_of shown k) shown.turns (slice_index_or xs k d)) (sym e) (guests_more shown n guests guest are.0 are.1 new k d l (cases_lt k n)),
)

abbrev oks : List Visit → List (Result Visit Refusal)
oks visits = map Ok visits

indexed : (visits : List Visit) (k : ℕ) (d : Visit) → slice_index_or (oks visits) k (Ok d) ≡ Ok (slice_index_or visits k d)
indexed [] k d = refl
indexed (v ∷ vs) zero d = refl
indexed (v ∷ vs) (suc k) d = indexed vs k d

as_many : (visits : List Visit) → length (oks visits) ≡ length visits
as_many [] = refl
as_many (v ∷ vs) = ap suc (as_many vs)

all_visits : (shown : Demonstration) (visits : List Visit) (outcomes : List (Result Visit Refusal)) → oks visits ≡ outcomes → AreOutcomes shown outcomes → AreVisits shown visits
all_visits shown visits outcomes e are = (
  sym (as_many visits) ∙ (ap length e ∙ are.0),
  λ k d l. subst (λ (r : Result Visit Refusal). IfOk r (Visits (beginning shown.secret) (plan_of shown k) shown.turns)) (indexed visits k d)
      (subst (λ (os : List (Result Visit Refusal)). IfOk (slice_index_or os k (Ok d)) (Visits (beginning shown.secret) (plan_of shown k) shown.turns)) (sym e) ((are.1 k (Ok d) l).0)),
)

pub all_or_fault : (shown : Demonstration) (result : Result (Vec Visit Global) Refusal) (outcomes : List (Result Visit Refusal))
    → IfOk result (λ visits. oks visits.items ≡ outcomes) → AreOutcomes shown outcomes → IfOk result (λ visits. AreVisits shown visits.items)
all_or_fault shown result outcomes all are =
    IfOk-weaker result (λ visits. oks visits.items ≡ outcomes) (λ visits. AreVisits shown visits.items) (λ visits e. all_visits shown visits.items outcomes e are) all

-- the refusal of one of the clients is what ended it
fault_of_one : (shown : Demonstration) (outcomes : List (Result Visit Refusal)) (why : Refusal) → AreOutcomes shown outcomes → (why ≡ Memory) ⊎ Contains outcomes (Err why) → EndsRun why
fault_of_one shown outcomes why are (inl memory) = inr (inl memory)
fault_of_one shown outcomes why are (inr (k, l, e)) =
    subst (λ (r : Result Visit Refusal). IfErr r EndsRun) e ((are.1 k (Err why) (omega (arith, l, are.0))).1)

pub fault_of_client : (shown : Demonstration) (result : Result (Vec Visit Global) Refusal) (outcomes : List (Result Visit Refusal))
    → IfErr result (λ why. (why ≡ Memory) ⊎ Contains outcomes (Err why)) → AreOutcomes shown outcomes → IfErr result EndsRun
fault_of_client shown (Ok visits) outcomes fault are = tt
fault_of_client shown (Err why) outcomes fault are = fault_of_one shown outcomes why are fault
