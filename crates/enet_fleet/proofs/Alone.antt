-- The calls of each host of a run.
use Rattle.std.proofs.Common.{◌≡◌, ◌≢◌, ℕ, ◌==◌, Bool, true, false, cond, ◌⊎◌, inl, inr, ◌||◌, List, [], ◌∷◌, ◌++◌, refl, sym, ap, subst, ◌∙◌, arith, Option, Some, None, is_none, Result, Ok, Err, slice_get}
use Rattle.std.proofs.lemmas.Bool.Decides.{nat_tests}
use Rattle.enet_codec.specs.declared.refusal.Refusal.{Refusal}
use Rattle.enet_host.specs.Host.{Host}
use Rattle.law_network.specs.Calls.{Call}
use Rattle.law_network.specs.Calls as call
use Rattle.law_network.proofs.Lists.{same-or, get-set, get-set_other}
use Rattle.enet_fleet.specs.declared.answer.Answer.{Answer}
use Rattle.law_network.specs.Alone.{call_by}
use Rattle.law_network.specs.Steps.{Happening}
use Rattle.law_network.proofs.Alone.{by-call, steps-append, alone}
use Rattle.law_network.proofs.Submitting.{same-some}
use Rattle.law_network.specs.Places.{Place}
use Rattle.enet_fleet.specs.declared.event.FleetEvent.{FleetEvent}
use Rattle.enet_fleet.specs.declared.event.FleetEvent.TheVariants as happen
use Rattle.law_headline.specs.declared.node.Node.{Node}
use Rattle.law_headline.specs.declared.node.Node.TheVariants.{Server, Client}
use Rattle.enet_fleet.specs.Alone.{refused_call, call_of, at_node, calls_at, LeadAlone, EachAlone}
use Rattle.law_headline.specs.Nets as nets
use Rattle.enet_fleet.specs.Fleets.{Fleet, place_of, address_of, node_of, from_of, lacks, RefusesAt, RefusesIf, Refuses, Steps, Runs}
use Rattle.enet_fleet.specs.Private.Around.{around}

abbrev pub HappensAt : Node → Node → Happening → Fleet → Fleet → Type 0
HappensAt n from what old new = nets.HappensAt address_of n from what old new

-- a host afterwards, and how it got there
abbrev pub Leads : List Call → Place → Fleet → Node → Type 0
Leads calls was new n = (is : Place) × (place_of new n ≡ Some is) × call.Steps calls was.site.host is.site.host

pub stays-there : (was : Place) (new : Fleet) (n : Node) → place_of new n ≡ Some was → Leads [] was new n
stays-there was new n there = (was, there, refl)

-- calls at a client, as they are seen from one
same-client : (i k : ℕ) (calls : List Call) → k ≡ i → at_node (Client i) (Client k) calls ≡ calls
same-client i k calls e = (let t : (i == k) ≡ true = grind (arith, nat_tests) in ap (λ (b : Bool). cond b calls []) t)

other-client : (i k : ℕ) (calls : List Call) → k ≢ i → at_node (Client i) (Client k) calls ≡ []
other-client i k calls n = by (i == k) refl
  where
    by : (b : Bool) → (i == k) ≡ b → cond b calls [] ≡ []
    by true e = absurd (n (let same : (i == k) ≡ true = e in grind (arith, nat_tests)))
    by false e = refl

-- the host where a thing happens, of which `was` is what was there
made-there : (m from : Node) (what : Happening) (old new : Fleet) (h : HappensAt m from what old new) (was : Place) → h.was ≡ was → place_of new m ≡ Some h.is → Leads (call_by h.sender.site what) was new m
made-there m from what old new h was same there =
    subst (λ (p : Place). Leads (call_by h.sender.site what) p new m) same (h.is, there, by-call (around old m) h.sender.site h.was.site h.is.site what h.here)

-- at a client
set-there : (k i : ℕ) (from : Node) (what : Happening) (old new : Fleet) (h : HappensAt (Client k) from what old new) (was : Place) → slice_get old.clients i ≡ Some was
    → (k ≡ i) ⊎ (k ≢ i) → Leads (at_node (Client i) (Client k) (call_by h.sender.site what)) was new (Client i)
set-there k i from what old new h was there (inl e) =
    subst (λ (cs : List Call). Leads cs was new (Client i)) (sym (same-client i k (call_by h.sender.site what) e))
    (subst (λ (j : ℕ). Leads (call_by h.sender.site what) was new (Client j)) e
    (made-there (Client k) from what old new h was (same-some h.was was (sym h.there ∙ ap (slice_get old.clients) e ∙ there))
    (ap (λ (f : Fleet). place_of f (Client k)) h.rest ∙ get-set old.clients k h.was h.is h.there)))
set-there k i from what old new h was there (inr n) =
    subst (λ (cs : List Call). Leads cs was new (Client i)) (sym (other-client i k (call_by h.sender.site what) n))
    (stays-there was new (Client i) (ap (λ (f : Fleet). place_of f (Client i)) h.rest ∙ get-set_other old.clients k i h.is n ∙ there))

pub led-at : (n m from : Node) (what : Happening) (old new : Fleet) (h : HappensAt m from what old new) (was : Place) → place_of old n ≡ Some was → Leads (at_node n m (call_by h.sender.site what)) was new n
led-at Server Server from what old new h was there =
    made-there Server from what old new h was (same-some h.was was (sym h.there ∙ there)) (ap (λ (f : Fleet). place_of f Server) h.rest)
led-at (Client i) Server from what old new h was there = stays-there was new (Client i) (ap (λ (f : Fleet). place_of f (Client i)) h.rest ∙ there)
led-at Server (Client k) from what old new h was there = stays-there was new Server (ap (λ (f : Fleet). place_of f Server) h.rest ∙ there)
led-at (Client i) (Client k) from what old new h was there = set-there k i from what old new h was there (same-or k i)

-- a host that is there refuses what its call refuses

at-there : (f : Fleet) (n : Node) (c : Call) (event : FleetEvent) (why : Refusal) (was : Place) → place_of f n ≡ Some was → lacks f event ≡ is_none (place_of f n)
    → (RefusesIf false f event why → RefusesAt (place_of f n) c) → Refuses f event why → call.Steps (c ∷ []) was.site.host was.site.host
at-there f n c event why was there lacking by r = (
  was.site.host,
  subst (λ (o : Option Place). RefusesAt o c) there (by (subst (λ (b : Bool). RefusesIf b f event why) (lacking ∙ ap is_none there) r)),
  refl,
)

refuses : (f : Fleet) (event : FleetEvent) (why : Refusal) (was : Place) → place_of f (node_of event) ≡ Some was → Refuses f event why → call.Steps (refused_call event why) was.site.host was.site.host
refuses f (happen.Connect client channels info word) why was there r = at-there f (Client client) _ (happen.Connect client channels info word) why was there refl (λ x. x) r
refuses f (happen.Submit node peer channel flags body) why was there r = at-there f node _ (happen.Submit node peer channel flags body) why was there refl (λ x. x) r
refuses f (happen.Disconnect node peer how info) why was there r = at-there f node _ (happen.Disconnect node peer how info) why was there refl (λ x. x) r
refuses f (happen.Admit node what') why was there r = at-there f node _ (happen.Admit node what') why was there refl (λ x. x) r
refuses f (happen.Deliver to from k) why was there r = refl
refuses f (happen.Stranger to addr bytes) why was there r = refl
refuses f (happen.Turn node) why was there r = refl
refuses f (happen.Tick node ms) why was there r = refl
refuses f (happen.Take node) why was there r = refl
refuses f (happen.SetSendLimit node bytes commands) why was there r = refl

-- and all stay as they were
refused-at : (n m : Node) (f : Fleet) (calls : List Call) (was : Place) → place_of f n ≡ Some was → ((at : Place) → place_of f m ≡ Some at → call.Steps calls at.site.host at.site.host) → call.Steps (at_node n m calls) was.site.host was.site.host
refused-at Server Server f calls was there h = h was there
refused-at (Client i) Server f calls was there h = refl
refused-at Server (Client k) f calls was there h = refl
refused-at (Client i) (Client k) f calls was there h = by (same-or k i)
  where
    by : (k ≡ i) ⊎ (k ≢ i) → call.Steps (at_node (Client i) (Client k) calls) was.site.host was.site.host
    by (inl e) = subst (λ (cs : List Call). call.Steps cs was.site.host was.site.host) (sym (same-client i k calls e)) (h was (ap (slice_get f.clients) e ∙ there))
    by (inr n) = subst (λ (cs : List Call). call.Steps cs was.site.host was.site.host) (sym (other-client i k calls n)) refl

-- one event, and all of a list

led : (n : Node) (old new : Fleet) (event : FleetEvent) (answer : Result Answer Refusal) (step : Steps old event answer new) (was : Place) → place_of old n ≡ Some was → Leads (at_node n (node_of event) (call_of old event answer new step)) was new n
led n old new event (Ok answer) step was there = led-at n (node_of event) (from_of event) step.0 old new step.2.happens was there
led n old new event (Err why) step was there = (
  was,
  ap (λ (f : Fleet). place_of f n) step.1 ∙ there,
  refused-at n (node_of event) old (refused_call event why) was there (λ at here. refuses old event why at here step.0),
)

pub leads-on : (cs ds : List Call) (was : Place) (between new : Fleet) (n : Node) → Leads cs was between n → ((at : Place) → place_of between n ≡ Some at → Leads ds at new n) → Leads (cs ++ ds) was new n
leads-on cs ds was between new n one more =
    let two = more one.0 one.1 in (two.0, two.1, steps-append cs ds was.site.host one.0.site.host two.0.site.host one.2 two.2)

led-all : (n : Node) (events : List FleetEvent) (answers : List (Result Answer Refusal)) (old new : Fleet) (run : Runs old events answers new) (was : Place) → place_of old n ≡ Some was → Leads (calls_at n events answers old new run) was new n
led-all n [] [] old new run was there = stays-there was new n (ap (λ (f : Fleet). place_of f n) run ∙ there)
led-all n [] (a ∷ more) old new run was there = absurd run
led-all n (e ∷ es) [] old new run was there = absurd run
led-all n (e ∷ es) (a ∷ more) old new run was there =
    leads-on (at_node n (node_of e) (call_of old e a run.0 run.1)) (calls_at n es more run.0 new run.2) was run.0 new n (led n old run.0 e a run.1 was there)
    (λ at here. led-all n es more run.0 new run.2 at here)

pub live-alone : (calls : List Call) (was : Place) (new : Fleet) (n : Node) → Leads calls was new n → LeadAlone calls was new n
live-alone calls was new n l = (l.0, l.1, alone calls was.site.host l.0.site.host l.2)

pub each-alone : EachAlone
each-alone old events answers new run n was there = live-alone (calls_at n events answers old new run) was new n (led-all n events answers old new run was there)
