-- Whatever happens in a fleet, the law of one connection holds of each connection.
use Rattle.std.proofs.Common.{◌≡◌, ℕ, zero, suc, ◌+◌, Bool, true, false, cond, List, [], ◌∷◌, length, refl, sym, ap, subst, ◌∙◌, arith, Option, Some, None, Result, Ok, Err, slice_get}
use Rattle.std.specs.Option.{option_map}
use Rattle.enet_codec.specs.declared.address.Addr.{Addr}
use Rattle.enet_codec.specs.declared.event.Received.{Received}
use Rattle.enet_codec.specs.declared.refusal.Refusal.{Refusal}
use Rattle.law_connection.specs.LinkSteps.{Has}
use Rattle.enet_slot.specs.Receiving.{is_same_address}
use Rattle.law_network.specs.Calls.{Call}
use Rattle.law_network.specs.Calls as call
use Rattle.enet_fleet.specs.declared.answer.Answer.{Answer}
use Rattle.enet_fleet.specs.declared.answer.Answer.TheVariants as answers
use Rattle.law_network.specs.Log.{Logged}
use Rattle.law_network.specs.Steps.{Happening, Calls, Delivers}
use Rattle.law_network.proofs.Addresses.{equal-address}
use Rattle.law_network.proofs.Submitting.{same-some}
use Rattle.law_network.proofs.Running.{runs-keep}
use Rattle.law_network.specs.declared.put_out.Sent.{Sent}
use Rattle.law_network.specs.declared.put_out.Sent.TheVariants.{Of, Away}
use Rattle.law_network.specs.Places.{Place}
use Rattle.law_headline.specs.declared.node.Node.{Node}
use Rattle.law_headline.specs.declared.node.Node.TheVariants.{Server, Client}
use Rattle.enet_fleet.specs.declared.event.FleetEvent.{FleetEvent}
use Rattle.enet_fleet.specs.declared.event.FleetEvent.TheVariants as happen
use Rattle.enet_fleet.specs.Fleets.{Fleet, place_of, address_of, far_address, gone_to, logged_in, brings, node_of, from_of, Makes, Steps, Runs, open_fleet}
use Rattle.enet_fleet.specs.Law.{AreLawful, AreAcross, OfEachRun}
use Rattle.law_headline.specs.Nets as nets
use Rattle.law_headline.specs.Nets.{AllowsCall}
use Rattle.law_headline.proofs.Net as net
use Rattle.enet_fleet.proofs.Places.{apart, Sound}

-- where the other host of a connection is
pub far-known : (f : Fleet) (n : Node) (x : ℕ) → (i : ℕ) × (slice_get f.asked x ≡ Some i) → far_address f n x ≡ Some (net.place address_of apart f.asked n x)
far-known f Server x a = ap (option_map (λ (i : ℕ). address_of (Client i))) a.1 ∙ sym (ap (λ (o : Option ℕ). Some (net.place_in address_of apart o)) a.1)
far-known f (Client i) x a = refl

-- an event makes what is allowed

abbrev pub IsAllowed : Fleet → Node → Node → Happening → Type 0
IsAllowed f n m what = nets.IsAllowed address_of f n m what

abbrev pub is_connect : Call → Bool
is_connect (call.Connect address channels info word answer) = true
is_connect c = false

pub plain : (n : Node) (c : Call) → is_connect c ≡ false → AllowsCall n Server c
plain (Client i) c h = refl
plain Server (call.Connect address channels info word answer) h = absurd (let e : true ≡ false = h in cc)
plain Server c h = refl

plain-call : (f : Fleet) (n : Node) (c : Call) (e : Happening) → is_connect c ≡ false → e ≡ Calls c → IsAllowed f n Server e
plain-call f n c e h is = subst (IsAllowed f n Server) (sym is) (plain n c h)

-- a datagram that is brought went to the host to which it is brought
gone-there : (to : Addr) (n k : ℕ) (found : Option Logged) → gone_to to n found ≡ Some k → (d : Logged) × (found ≡ Some d) × (n ≡ k) × (d.to ≡ to)
gone-there to n k None h = absurd (let e : ◌≡◌ {A = Option ℕ} None (Some k) = h in cc)
gone-there to n k (Some d) h = by (is_same_address d.to to) refl h
  where
    by : (b : Bool) → is_same_address d.to to ≡ b → cond b (Some n) None ≡ Some k → (d' : Logged) × (Some d ≡ Some d') × (n ≡ k) × (d'.to ≡ to)
    by true is e = (d, refl, same-some n k e, equal-address d.to to is)
    by false is e = absurd (let z : ◌≡◌ {A = Option ℕ} None (Some k) = e in cc)

went : (to : Addr) (p : Place) (k : ℕ) (found : Option Sent) → logged_in to p found ≡ Some k → (d : Logged) → slice_get p.site.log k ≡ Some d → d.to ≡ to
went to p k None h d is = absurd (let e : ◌≡◌ {A = Option ℕ} None (Some k) = h in cc)
went to p k (Some (Away address text)) h d is = absurd (let e : ◌≡◌ {A = Option ℕ} None (Some k) = h in cc)
went to p k (Some (Of n)) h d is =
    let g = gone-there to n k (slice_get p.site.log n) h in
    let same : g.0 ≡ d = same-some g.0 d (sym g.1 ∙ ap (slice_get p.site.log) g.2 ∙ is) in
    ap (λ (z : Logged). z.to) (sym same) ∙ g.3

brought : (f : Fleet) (to from : Node) (k n : ℕ) (answer : Received) → brings to (place_of f from) k ≡ Some n → IsAllowed f to from (Delivers n answer)
brought f to from k n answer h p there d is =
    went (address_of to) p n (slice_get p.sent k) (ap (λ (o : Option Place). brings to o k) (sym there) ∙ h) d is

pub allowed-of : (f : Fleet) (event : FleetEvent) (answer : Answer) (e : Happening) → Makes f event answer e → IsAllowed f (node_of event) (from_of event) e
allowed-of f (happen.Connect client channels info word) (answers.Peer name) e m = subst (IsAllowed f (Client client) Server) (sym m) refl
allowed-of f (happen.Submit node peer channel flags body) answers.Done e m = plain-call f node (call.Submit peer channel (record { flags = flags; body = body }) (Ok tt)) e refl m
allowed-of f (happen.Deliver to from k) (answers.Received answer) e m = subst (IsAllowed f to from) (sym m.2) (brought f to from k m.0 answer m.1)
allowed-of f (happen.Stranger to addr bytes) (answers.Received answer) e m = plain-call f to (call.Receive addr bytes answer) e refl m
allowed-of f (happen.Turn node) (answers.Sent None) e m = plain-call f node (call.Service None m.0) e refl m.1
allowed-of f (happen.Turn node) (answers.Sent (Some k)) e m = plain-call f node (call.Service (Some m.0) m.1) e refl m.2
allowed-of f (happen.Tick node ms) answers.Done e m = plain-call f node (call.Tick ms) e refl m
allowed-of f (happen.Take node) (answers.Taken None) e m = plain-call f node (call.NextEvent None) e refl m
allowed-of f (happen.Take node) (answers.Taken (Some told)) e m = plain-call f node (call.NextEvent (Some told.0)) e refl m.0
allowed-of f (happen.Disconnect node peer how info) answers.Done e m = plain-call f node (call.Disconnect how peer info (Ok tt)) e refl m
allowed-of f (happen.Admit node what') answers.Done e m = plain-call f node (call.Admit what' (Ok tt)) e refl m
allowed-of f (happen.SetSendLimit node bytes commands) answers.Done e m = plain-call f node (call.SetSendLimit bytes commands) e refl m
allowed-of f event answer e m = absurd m

pub sound-step : (f g : Fleet) (event : FleetEvent) (answer : Result Answer Refusal) → Steps f event answer g → Sound f → Sound g
sound-step f g e (Ok a) r s = net.sound-goes address_of apart (node_of e) (from_of e) r.0 f g r.2.happens (allowed-of f e a r.0 r.1) s
sound-step f g e (Err why) r s = subst Sound (sym r.1) s

sound-runs : (events : List FleetEvent) (answers : List (Result Answer Refusal)) (f g : Fleet) → Runs f events answers g → Sound f → Sound g
sound-runs events answers f g r s = runs-keep Steps Sound sound-step events answers f g r s

pub sound-run : OfEachRun Sound
sound-run server clients one all events answers f r = sound-runs events answers (open_fleet server clients) f r (net.open-sound address_of apart server clients one all)

-- so the law holds
pub are-lawful : (f : Fleet) → Sound f → AreLawful f
are-lawful f s = net.are-lawful address_of apart f s

pub each-run : OfEachRun AreLawful
each-run server clients one all events answers f r = are-lawful f (sound-run server clients one all events answers f r)

-- and what is put out goes across: the server's to clients, a client's to the server
abbrev pub IsAcross : Node → Addr → Type 0
IsAcross Server to = (i : ℕ) × (to ≡ address_of (Client i))
IsAcross (Client i) to = to ≡ address_of Server

pub goes-across : (f : Fleet) → Sound f → (n : Node) (p : Place) → place_of f n ≡ Some p → (d : Logged) → Has p.site.log d → IsAcross n d.to
goes-across f s n p there d h = by n (net.each-holds address_of apart f s n p there)
  where
    by : (n : Node) → net.Holds address_of apart f.asked (length f.clients) n p.site → IsAcross n d.to
    by Server k = (let a = net.asked-sent address_of apart f.asked (length f.clients) Server p.site d k h in (a.0, k.sent d h ∙ ap (net.place_in address_of apart) a.1))
    by (Client i) k = k.sent d h

pub are-across : (f : Fleet) → Sound f → AreAcross f
are-across f s n p there d h =
    let k = net.each-holds address_of apart f s n p there in
    far-known f n d.connection (net.asked-sent address_of apart f.asked (length f.clients) n p.site d k h) ∙ ap (λ (a : Addr). Some a) (sym (k.sent d h))

pub across-run : OfEachRun AreAcross
across-run server clients one all events answers f r = are-across f (sound-run server clients one all events answers f r)
