-- Each peer of which it was told that it is at a host's address is that of a connection with this host.
use Rattle.std.proofs.Common.{◌≡◌, ◌≢◌, ℕ, zero, suc, ◌+◌, ◌<◌, ◌⊎◌, inl, inr, ◌&&◌, Bool, true, false, cond, List, [], ◌∷◌, ◌++◌, length, refl, sym, ap, subst, ◌∙◌, append-nil, Option, Some, None, Result, Ok, Err, slice_get}
use Rattle.std.specs.Prelude.{zip}
use Rattle.std.specs.Option.{option_map, option_and_then}
use Rattle.std.specs.List.{list_all}
use Rattle.enet_codec.specs.declared.address.Addr.{Addr}
use Rattle.enet_codec.specs.declared.config.Config.{Config}
use Rattle.enet_codec.specs.declared.event.Event.{Event}
use Rattle.enet_codec.specs.declared.event.Event.TheVariants as events
use Rattle.enet_codec.specs.declared.event.PeerRef.{PeerRef}
use Rattle.enet_codec.specs.declared.refusal.Refusal.{Refusal}
use Rattle.enet_codec.specs.Config.{is_in_range}
use Rattle.enet_host.specs.Calls.{address_named}
use Rattle.enet_host.specs.Foretelling.{teller_of}
use Rattle.law_connection.specs.LinkSteps.{Has}
use Rattle.law_network.specs.Calls as call
use Rattle.law_network.specs.Network.{HostEnd, end_of, is_same_name}
use Rattle.law_network.specs.Steps.{Happening, Calls}
use Rattle.law_network.proofs.Growing.{Grows, grows, more_of, stays-there}
use Rattle.law_network.proofs.Lists.{same-or, get-set, get-set_other, get-map}
use Rattle.law_network.proofs.Submitting.{same-some}
use Rattle.law_network.specs.Places.{Place, all_opened}
use Rattle.law_headline.specs.declared.node.Node.{Node}
use Rattle.law_headline.specs.declared.node.Node.TheVariants.{Server, Client}
use Rattle.law_headline.specs.Page.{IsHeadline, is_of}
use Rattle.law_headline.proofs.Kept.{name-slot, name-generation}
use Rattle.law_headline.proofs.Net as net
use Rattle.law_headline.proofs.Net.{get-before}
use Rattle.law_headline.proofs.Page.{called}
use Rattle.law_headline.proofs.Telling.{push, runs-on, get-either, get-unmapped}
use Rattle.enet_fleet.specs.declared.answer.Answer.{Answer}
use Rattle.enet_fleet.specs.declared.answer.Answer.TheVariants as answers
use Rattle.enet_fleet.specs.declared.event.FleetEvent.{FleetEvent}
use Rattle.enet_fleet.specs.declared.event.FleetEvent.TheVariants as happen
use Rattle.enet_fleet.specs.Fleets.{Fleet, place_of, is_host, address_of, far_address, asked_after, node_of, from_of, IsFrom, Makes, Steps, Runs, open_fleet}
use Rattle.enet_fleet.specs.Private.Around.{around}
use Rattle.enet_fleet.specs.Headline.{HasHeadline}
use Rattle.enet_fleet.specs.Told.{IsToldBy}
use Rattle.enet_fleet.specs.Transcript.{Happened, is_node, places, placed, asked, user}
use Rattle.enet_fleet.proofs.Places.{server-apart, apart, Sound}
use Rattle.enet_fleet.proofs.Runs.{sound-step, sound-run}
use Rattle.enet_fleet.proofs.Headlines.{has-headline, headline-run}
use Rattle.enet_fleet.proofs.Told.{HappensAt, same-node, length-with, each-list}
use Rattle.enet_fleet.proofs.Page.{headline-on}

-- ---- an end stays, with its name and connection, whatever happens

pub record Stays (g : Fleet) (n : Node) (e : HostEnd) : Type 0 where
  pub place : Place
  pub there : place_of g n ≡ Some place
  pub end : HostEnd
  pub has : Has place.site.ends end
  pub name : end.name ≡ e.name
  pub connection : end.connection ≡ e.connection

grown : (m from : Node) (what : Happening) (f g : Fleet) (h : HappensAt m from what f g) (e : HostEnd) → Has h.was.site.ends e → place_of g m ≡ Some h.is → Stays g m e
grown m from what f g h e has there = record {
  place = h.is;
  there = there;
  end = k.change e;
  has = stays-there h.was.site h.is.site (more_of (around f m).count h.sender.site h.was.site h.is.site what) k e has;
  name = k.name e;
  connection = k.connection e;
}
  where
    k : Grows h.was.site h.is.site (more_of (around f m).count h.sender.site h.was.site h.is.site what)
    k = grows (around f m) h.sender.site h.was.site h.is.site what h.here

as-it-was : (g : Fleet) (n : Node) (q : Place) (e : HostEnd) → place_of g n ≡ Some q → Has q.site.ends e → Stays g n e
as-it-was g n q e there has = record { place = q; there = there; end = e; has = has; name = refl; connection = refl }

pub stays : (m n from : Node) (what : Happening) (f g : Fleet) (h : HappensAt m from what f g) (q : Place) → place_of f n ≡ Some q → (e : HostEnd) → Has q.site.ends e → Stays g n e
stays Server Server from what f g h q there e has =
    grown Server from what f g h e (subst (λ (z : Place). Has z.site.ends e) (same-some q h.was (sym there ∙ h.there)) has) (ap (λ (x : Fleet). place_of x Server) h.rest)
stays Server (Client i) from what f g h q there e has = as-it-was g (Client i) q e (ap (λ (x : Fleet). place_of x (Client i)) h.rest ∙ there) has
stays (Client k) Server from what f g h q there e has = as-it-was g Server q e (ap (λ (x : Fleet). place_of x Server) h.rest ∙ there) has
stays (Client k) (Client i) from what f g h q there e has = by (same-or k i)
  where
    by : (k ≡ i) ⊎ (k ≢ i) → Stays g (Client i) e
    by (inl same) = subst (λ (j : ℕ). Stays g (Client j) e) same
        (grown (Client k) from what f g h e
        (subst (λ (z : Place). Has z.site.ends e) (same-some q h.was (sym there ∙ subst (λ (j : ℕ). slice_get f.clients j ≡ Some h.was) same h.there)) has)
        (ap (λ (x : Fleet). slice_get x.clients k) h.rest ∙ get-set f.clients k h.was h.is h.there))
    by (inr other) = as-it-was g (Client i) q e (ap (λ (x : Fleet). slice_get x.clients i) h.rest ∙ get-set_other f.clients k i h.is other ∙ there) has

asked-stays : (m : Node) (what : Happening) (l : List ℕ) (x i : ℕ) → slice_get l x ≡ Some i → slice_get (asked_after m what l) x ≡ Some i
asked-stays Server what l x i h = h
asked-stays (Client j) (Calls (call.Connect address channels info word (Ok name))) l x i h = get-before l j x i h
asked-stays (Client j) what l x i h = h

pub far-stays : (n m : Node) (what : Happening) (f g : Fleet) → g.asked ≡ asked_after m what f.asked → (x : ℕ) (a : Addr) → far_address f n x ≡ Some a → far_address g n x ≡ Some a
far-stays (Client i) m what f g rest x a h = h
far-stays Server m what f g rest x a h = by (slice_get f.asked x) refl h
  where
    by : (o : Option ℕ) → slice_get f.asked x ≡ o → option_map (λ (i : ℕ). address_of (Client i)) o ≡ Some a → far_address g Server x ≡ Some a
    by None is y = absurd (let z : ◌≡◌ {A = Option Addr} None (Some a) = y in cc)
    by (Some i) is y = ap (option_map (λ (i : ℕ). address_of (Client i))) (ap (λ (l : List ℕ). slice_get l x) rest ∙ asked-stays m what f.asked x i is) ∙ y

-- ---- what is told

same-name : (a b : PeerRef) → is_same_name a b ≡ true → a ≡ b
same-name a b e = (λ i. record { slot = name-slot a b e i; generation = name-generation a b e i })

of-teller : (name : PeerRef) (event : Event) → is_of name event ≡ true → Some name ≡ teller_of event
of-teller name (events.Connect peer info) e = ap (λ (p : PeerRef). Some p) (same-name name peer e)
of-teller name (events.Receive peer q) e = ap (λ (p : PeerRef). Some p) (same-name name peer e)
of-teller name (events.Disconnect peer info) e = ap (λ (p : PeerRef). Some p) (same-name name peer e)
of-teller name (events.Refused seat number why) e = absurd (let z : false ≡ true = e in cc)

-- the address that comes with an event is that of its peer, before it is taken
abbrev pub IsTold : Fleet → FleetEvent → Answer → Type 0
IsTold f (happen.Take n) (answers.Taken (Some told)) = (p : Place) → place_of f n ≡ Some p → (name : PeerRef) → is_of name told.0 ≡ true → address_named p.site.host.slots name ≡ Some told.1
IsTold f event answer = Unit {0}

pub is-told : (f : Fleet) (event : FleetEvent) (answer : Answer) (what : Happening) → Makes f event answer what → IsTold f event answer
is-told f (happen.Take n) (answers.Taken (Some told)) what m = λ p there name is.
    ap (option_and_then (address_named p.site.host.slots)) (of-teller name told.0 is) ∙ subst (λ (o : Option Place). IsFrom o told.0 told.1) there m.1
is-told f event answer what m = tt

-- ---- who is tied

-- a peer of host n has an end, whose other end's host is at this address
record Tied (f : Fleet) (n : Node) (p : PeerRef) (a : Addr) : Type 0 where
  place : Place
  there : place_of f n ≡ Some place
  end : HostEnd
  has : Has place.site.ends end
  name : end.name ≡ p
  far : far_address f n end.connection ≡ Some a

tied-stays : (m n from : Node) (what : Happening) (f g : Fleet) (h : HappensAt m from what f g) (p : PeerRef) (a : Addr) → Tied f n p a → Tied g n p a
tied-stays m n from what f g h p a t = record {
  place = s.place;
  there = s.there;
  end = s.end;
  has = s.has;
  name = s.name ∙ t.name;
  far = far-stays n m what f g (ap (λ (x : Fleet). x.asked) h.rest) s.end.connection a (subst (λ (x : ℕ). far_address f n x ≡ Some a) (sym s.connection) t.far);
}
  where
    s : Stays g n t.end
    s = stays m n from what f g h t.place t.there t.end t.has

-- the peer of an event that is taken, which is told to be at a host's address
new-tied : (f : Fleet) (event : FleetEvent) (answer : Answer) → Sound f → IsTold f event answer → (q : Place) → place_of f (node_of event) ≡ Some q → (n : Node) (p : PeerRef) (k : ℕ) (a : Addr)
    → slice_get (places n p event (Ok answer)) k ≡ Some a → is_host (length f.clients) a ≡ true → Tied f n p a
new-tied f (happen.Take m) (answers.Taken (Some told)) s is q there n p k a at host = by (is_node m n) refl (is_of p told.0) refl k at
  where
    h : HasHeadline f
    h = has-headline f s

    by : (b : Bool) → is_node m n ≡ b → (c : Bool) → is_of p told.0 ≡ c → (k : ℕ) → slice_get (cond (b && c) (told.1 ∷ []) []) k ≡ Some a → Tied f n p a
    by true e true d zero y =
        let there' : address_named q.site.host.slots p ≡ Some a = is q there p d ∙ y in
        let x = (h.hosts m q there).all p a there' host in
        subst (λ (z : Node). Tied f z p a) (same-node m n e) (record {
          place = q;
          there = there;
          end = x.0;
          has = x.1;
          name = x.2;
          far = h.far m q there x.0 x.1 a (subst (λ (z : PeerRef). address_named q.site.host.slots z ≡ Some a) (sym x.2) there');
        })
    by true e true d (suc k) y = absurd (let z : ◌≡◌ {A = Option Addr} None (Some a) = y in cc)
    by true e false d k y = absurd (let z : ◌≡◌ {A = Option Addr} None (Some a) = y in cc)
    by false e c d k y = absurd (let z : ◌≡◌ {A = Option Addr} None (Some a) = y in cc)
new-tied f event answer s is q there n p k a at host = absurd (let z : ◌≡◌ {A = Option Addr} None (Some a) = at in cc)

pub refused-places : (n : Node) (q : PeerRef) (event : FleetEvent) (why : Refusal) → places n q event (Err why) ≡ []
refused-places n q (happen.Take m) why = refl
refused-places n q event why = refl

-- all that was told
record AreTied (count : ℕ) (hs : List Happened) (f : Fleet) : Type 0 where
  sound : Sound f
  counted : length f.clients ≡ count
  tied : (n : Node) (p : PeerRef) (k : ℕ) (a : Addr) → slice_get (placed n p hs) k ≡ Some a → is_host count a ≡ true → Tied f n p a

goes : (count : ℕ) (hs : List Happened) (f g : Fleet) (event : FleetEvent) (answer : Answer) (what : Happening) (from : Node) (h : HappensAt (node_of event) from what f g) → IsTold f event answer → AreTied count hs f
    → (n : Node) (p : PeerRef) (k : ℕ) (a : Addr) → slice_get (placed n p (hs ++ (event, Ok answer) ∷ [])) k ≡ Some a → is_host count a ≡ true → Tied g n p a
goes count hs f g event answer what from h is t n p k a at host =
    by (get-either (placed n p hs) (places n p event (Ok answer)) k a (ap (λ (l : List Addr). slice_get l k) (sym (push (λ (z : Happened). places n p z.0 z.1) hs (event, Ok answer))) ∙ at))
  where
    by : (slice_get (placed n p hs) k ≡ Some a) ⊎ ((j : ℕ) × (slice_get (places n p event (Ok answer)) j ≡ Some a) × (k ≡ length (placed n p hs) + j)) → Tied g n p a
    by (inl before) = tied-stays (node_of event) n from what f g h p a (t.tied n p k a before host)
    by (inr new) = tied-stays (node_of event) n from what f g h p a
        (new-tied f event answer t.sound is h.was h.there n p new.0 a new.1 (subst (λ (c : ℕ). is_host c a ≡ true) (sym t.counted) host))

tied-step : (count : ℕ) (hs : List Happened) (f g : Fleet) (event : FleetEvent) (answer : Result Answer Refusal) → Steps f event answer g → AreTied count hs f → AreTied count (hs ++ (event, answer) ∷ []) g
tied-step count hs f g event (Ok answer) r t = record {
  sound = sound-step f g event (Ok answer) r t.sound;
  counted = ap (λ (x : Fleet). length x.clients) r.2.happens.rest ∙ length-with f (node_of event) r.2.happens.is ∙ t.counted;
  tied = λ n p k a at host. goes count hs f g event answer r.0 (from_of event) r.2.happens (is-told f event answer r.0 r.1) t n p k a at host;
}
tied-step count hs f g event (Err why) r t = subst (AreTied count (hs ++ (event, Err why) ∷ [])) (sym r.1) (record {
  sound = t.sound;
  counted = t.counted;
  tied = λ n p k a at host. t.tied n p k a (ap (λ (l : List Addr). slice_get l k) (sym (same n p)) ∙ at) host;
})
  where
    same : (n : Node) (p : PeerRef) → placed n p (hs ++ (event, Err why) ∷ []) ≡ placed n p hs
    same n p = push (λ (z : Happened). places n p z.0 z.1) hs (event, Err why) ∙ ap (λ (l : List Addr). placed n p hs ++ l) (refused-places n p event why) ∙ append-nil (placed n p hs)

length-opened : (address : ℕ → Addr) (i : ℕ) (cs : List Config) → length (all_opened address i cs) ≡ length cs
length-opened address i [] = refl
length-opened address i (c ∷ cs) = ap (λ (n : ℕ). suc n) (length-opened address (i + 1) cs)

are-tied : (server : Config) (clients : List Config) → is_in_range server ≡ true → list_all is_in_range clients ≡ true
    → (events : List FleetEvent) (answers : List (Result Answer Refusal)) (f : Fleet) → Runs (open_fleet server clients) events answers f → AreTied (length clients) (zip events answers) f
are-tied server clients one all events answers f r = runs-on Steps (AreTied (length clients)) (tied-step (length clients)) events answers [] (open_fleet server clients) f r (record {
  sound = sound-run server clients one all [] [] (open_fleet server clients) refl;
  counted = length-opened (λ i. address_of (Client i)) 0 clients;
  tied = λ n p k a at host. absurd (let z : ◌≡◌ {A = Option Addr} None (Some a) = at in cc);
})

-- ---- the page, with the names that the server's ends give

client-number : (k i : ℕ) → Client k ≡ Client i → k ≡ i
client-number k i e = cc

pub record IsNamed (clients : ℕ) (hs : List Happened) (f : Fleet) : Type 0 where
  pub headline : IsHeadline (user Server hs) (λ i. user (Client i) hs) (asked hs)
  pub names : (x : ℕ) → headline.here x ≡ called (end_of x f.server.site.ends)
  pub at_client : (p : PeerRef) (k i : ℕ) → slice_get (placed Server p hs) k ≡ Some (address_of (Client i)) → i < clients
      → (x : ℕ) × (headline.here x ≡ Some p) × (there : PeerRef) × (slice_get (asked hs) x ≡ Some (i, there))
  pub at_server : (p : PeerRef) (k i : ℕ) → slice_get (placed (Client i) p hs) k ≡ Some (address_of Server) → (x : ℕ) × (slice_get (asked hs) x ≡ Some (i, p))
  pub no_server : (p : PeerRef) (k : ℕ) → slice_get (placed Server p hs) k ≢ Some (address_of Server)
  pub no_client : (p : PeerRef) (k i j : ℕ) → j < clients → slice_get (placed (Client i) p hs) k ≢ Some (address_of (Client j))

-- the other host of a connection of the server is no server
not-server : (o : Option ℕ) → option_map (λ (i : ℕ). address_of (Client i)) o ≡ Some (address_of Server) → ⊥
not-server None e = absurd (let z : ◌≡◌ {A = Option Addr} None (Some (address_of Server)) = e in cc)
not-server (Some i) e = server-apart i (sym (same-some (address_of (Client i)) (address_of Server) e))

pub is-named : (server : Config) (clients : List Config) → is_in_range server ≡ true → list_all is_in_range clients ≡ true
    → (events : List FleetEvent) (answers : List (Result Answer Refusal)) (f : Fleet) → Runs (open_fleet server clients) events answers f → IsNamed (length clients) (zip events answers) f
is-named server clients one all events answers f r =
    record { headline = head.0; names = head.1; at_client = at-client; at_server = at-server; no_server = no-server; no_client = no-client }
  where
    k : HasHeadline f
    k = headline-run server clients one all events answers f r

    told : IsToldBy (zip events answers) f
    told = each-list server clients one all events answers f r

    ties : AreTied (length clients) (zip events answers) f
    ties = are-tied server clients one all events answers f r

    head : (h : IsHeadline (user Server (zip events answers)) (λ i. user (Client i) (zip events answers)) (asked (zip events answers))) × ((x : ℕ) → h.here x ≡ called (end_of x f.server.site.ends))
    head = headline-on f (zip events answers) k told

    at-client : (p : PeerRef) (j i : ℕ) → slice_get (placed Server p (zip events answers)) j ≡ Some (address_of (Client i)) → i < length clients
        → (x : ℕ) × (head.0.here x ≡ Some p) × (there : PeerRef) × (slice_get (asked (zip events answers)) x ≡ Some (i, there))
    at-client p j i at low =
        let t : Tied f Server p (address_of (Client i)) = ties.tied Server p j (address_of (Client i)) at (net.client-host address_of apart (length clients) i low) in
        let has : Has f.server.site.ends t.end = subst (λ (q : Place). Has q.site.ends t.end) (sym (same-some f.server t.place t.there)) t.has in
        let a = k.asked t.end has in
        let far : address_of (Client a.0) ≡ address_of (Client i) =
        same-some (address_of (Client a.0)) (address_of (Client i)) (sym (ap (option_map (λ (n : ℕ). address_of (Client n))) a.1) ∙ t.far) in
        let who : a.0 ≡ i = client-number a.0 i (apart (Client a.0) (Client i) far) in
        let g = get-unmapped (λ (z : ℕ × PeerRef). z.0) (asked (zip events answers)) t.end.connection i (ap (λ (l : List ℕ). slice_get l t.end.connection) (sym told.asked_is) ∙ a.1 ∙ ap (λ (n : ℕ). Some n) who) in (
          t.end.connection,
          head.1 t.end.connection ∙ ap called ((k.hosts Server f.server refl).only t.end has) ∙ ap (λ (q : PeerRef). Some q) t.name,
          g.0.1,
          g.1 ∙ ap (λ (n : ℕ). Some (n, g.0.1)) g.2,
        )

    at-server : (p : PeerRef) (j i : ℕ) → slice_get (placed (Client i) p (zip events answers)) j ≡ Some (address_of Server) → (x : ℕ) × (slice_get (asked (zip events answers)) x ≡ Some (i, p))
    at-server p j i at =
        let t : Tied f (Client i) p (address_of Server) = ties.tied (Client i) p j (address_of Server) at (net.server-host address_of apart (length clients)) in
        let own : slice_get f.asked t.end.connection ≡ Some i = k.own i t.place t.there t.end t.has in
        let g = get-unmapped (λ (z : ℕ × PeerRef). z.0) (asked (zip events answers)) t.end.connection i (ap (λ (l : List ℕ). slice_get l t.end.connection) (sym told.asked_is) ∙ own) in
        let is : slice_get (asked (zip events answers)) t.end.connection ≡ Some (i, g.0.1) = g.1 ∙ ap (λ (n : ℕ). Some (n, g.0.1)) g.2 in
        let b = told.begun t.end.connection i g.0.1 is in
        let site : b.0 ≡ t.place = same-some b.0 t.place (sym b.1 ∙ t.there) in
        let has : Has t.place.site.ends b.2 = subst (λ (q : Place). Has q.site.ends b.2) site b.3 in
        let two : end_of t.end.connection t.place.site.ends ≡ Some b.2 =
        subst (λ (n : ℕ). end_of n t.place.site.ends ≡ Some b.2) b.4 ((k.hosts (Client i) t.place t.there).only b.2 has) in
        let end : b.2 ≡ t.end = same-some b.2 t.end (sym two ∙ (k.hosts (Client i) t.place t.there).only t.end t.has) in
        let name : g.0.1 ≡ p = sym b.5 ∙ ap (λ (e : HostEnd). e.name) end ∙ t.name in
        (t.end.connection, is ∙ ap (λ (q : PeerRef). Some (i, q)) name)

    no-server : (p : PeerRef) (j : ℕ) → slice_get (placed Server p (zip events answers)) j ≢ Some (address_of Server)
    no-server p j = λ at. (let t : Tied f Server p (address_of Server) = ties.tied Server p j (address_of Server) at (net.server-host address_of apart (length clients)) in
        not-server (slice_get f.asked t.end.connection) t.far)

    no-client : (p : PeerRef) (j i c : ℕ) → c < length clients → slice_get (placed (Client i) p (zip events answers)) j ≢ Some (address_of (Client c))
    no-client p j i c low = λ at. (let t : Tied f (Client i) p (address_of (Client c)) = ties.tied (Client i) p j (address_of (Client c)) at (net.client-host address_of apart (length clients) c low) in
        server-apart c (same-some (address_of Server) (address_of (Client c)) t.far))

-- a connection that was asked for is its client's, with an end there
pub client-of : (server : Config) (clients : List Config) → is_in_range server ≡ true → list_all is_in_range clients ≡ true
    → (events : List FleetEvent) (answers : List (Result Answer Refusal)) (f : Fleet) → Runs (open_fleet server clients) events answers f
    → (x i : ℕ) (there : PeerRef) → slice_get (asked (zip events answers)) x ≡ Some (i, there)
    → (slice_get f.asked x ≡ Some i) × (p : Place) × (slice_get f.clients i ≡ Some p) × (e : HostEnd) × Has p.site.ends e × (e.connection ≡ x) × (e.name ≡ there)
client-of server clients one all events answers f r x i there is = (
  ap (λ (l : List ℕ). slice_get l x) told.asked_is ∙ get-map (λ (a : ℕ × PeerRef). a.0) (asked (zip events answers)) x (i, there) is,
  b.0,
  b.1,
  b.2,
  b.3,
  b.4,
  b.5,
)
  where
    told : IsToldBy (zip events answers) f
    told = each-list server clients one all events answers f r

    b : (p : Place) × (slice_get f.clients i ≡ Some p) × (e : HostEnd) × Has p.site.ends e × (e.connection ≡ x) × (e.name ≡ there)
    b = told.begun x i there is
