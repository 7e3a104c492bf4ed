-- The peer of a connection is nowhere but at the other host's address, wherever it was told where it is.
use Rattle.std.proofs.Common.{◌≡◌, ◌≢◌, ◌<◌, ◌≤◌, ℕ, zero, suc, ◌+◌, ◌⊎◌, inl, inr, ◌&&◌, Bool, true, false, cond, List, [], ◌∷◌, ◌++◌, length, refl, sym, ap, subst, ◌∙◌, append-nil, arith, Option, Some, None, Result, Ok, Err, slice_get}
use Rattle.std.specs.Prelude.{zip}
use Rattle.std.specs.Option.{option_map}
use Rattle.std.specs.List.{list_all}
use Rattle.enet_codec.specs.declared.address.Addr.{Addr}
use Rattle.enet_codec.specs.declared.config.Config.{Config}
use Rattle.enet_codec.specs.declared.event.PeerRef.{PeerRef}
use Rattle.enet_codec.specs.declared.refusal.Refusal.{Refusal}
use Rattle.enet_codec.specs.Config.{is_in_range}
use Rattle.enet_peer.specs.Peering.{Peering}
use Rattle.enet_slot.specs.Slot.{SlotState, greatest}
use Rattle.enet_host.specs.Host.{Host, peer_in, slot_named}
use Rattle.enet_host.specs.Calls.{address_in, address_named}
use Rattle.enet_host.specs.Calls as host_calls
use Rattle.law_connection.specs.LinkSteps.{Has}
use Rattle.law_network.specs.Calls.{Call, Acts}
use Rattle.law_network.specs.Network.{HostEnd, Site, end_of}
use Rattle.law_network.specs.Steps.{Happening}
use Rattle.law_network.proofs.Growing.{Grows, grows, more_of, from-before}
use Rattle.law_network.proofs.Names.{IsThere, named-there}
use Rattle.law_network.proofs.Submitting.{same-some}
use Rattle.law_network.proofs.Worlds.{IsFresh, fresh-more, some-acts}
use Rattle.law_network.specs.Places.{Place}
use Rattle.law_headline.specs.declared.node.Node.{Node}
use Rattle.law_headline.specs.declared.node.Node.TheVariants.{Server, Client}
use Rattle.law_headline.specs.Kept.{IsUnborn}
use Rattle.law_headline.specs.Page.{is_of}
use Rattle.law_headline.proofs.Kept.{unborn-back}
use Rattle.law_headline.proofs.Net as net
use Rattle.law_headline.proofs.Page.{called, called-some, has-end}
use Rattle.law_headline.proofs.Telling.{push, runs-on, get-either}
use Rattle.enet_fleet.specs.declared.answer.Answer.{Answer}
use Rattle.enet_fleet.specs.declared.answer.Answer.TheVariants as answers
use Rattle.enet_fleet.specs.declared.event.FleetEvent.{FleetEvent}
use Rattle.enet_fleet.specs.declared.event.FleetEvent.TheVariants as happen
use Rattle.enet_fleet.specs.Fleets.{Fleet, place_of, address_of, far_address, asked_after, node_of, from_of, Steps, Runs, open_fleet}
use Rattle.enet_fleet.specs.Private.Around.{around}
use Rattle.enet_fleet.specs.Headline.{HasHeadline}
use Rattle.enet_fleet.specs.Transcript.{Happened, IsOnTranscript, is_node, places, placed, asked}
use Rattle.enet_fleet.proofs.Places.{apart, Sound}
use Rattle.enet_fleet.proofs.Runs.{sound-step, sound-run}
use Rattle.enet_fleet.proofs.Headlines.{has-headline}
use Rattle.enet_fleet.proofs.Told.{HappensAt, Placed, is_here, is_away, where-is, same-node}
use Rattle.enet_fleet.proofs.Tying.{IsTold, is-told, far-stays, refused-places, IsNamed, is-named, client-of}

-- it has had its name, and an end that has this name is of a connection with the host there
abbrev AtSite : Fleet → Node → PeerRef → Addr → Site → Type 0
AtSite f n p a s = (IsUnborn s.host p → ⊥) × ((e : HostEnd) → Has s.ends e → e.name ≡ p → far_address f n e.connection ≡ Some a)

abbrev Fact : Fleet → Node → PeerRef → Addr → Type 0
Fact f n p a = (q : Place) → place_of f n ≡ Some q → AtSite f n p a q.site

there-of : (slots : List SlotState) (name : PeerRef) (a : Addr) → address_named slots name ≡ Some a → (p : Peering) × IsThere slots name p
there-of slots name a at = by (slot_named slots name) refl at
  where
    by-peer : (t : SlotState) (o : Option Peering) → slot_named slots name ≡ Some t → t.peer ≡ o → host_calls.address_of t o ≡ Some a → (p : Peering) × IsThere slots name p
    by-peer t None is has y = absurd (let z : ◌≡◌ {A = Option Addr} None (Some a) = y in cc)
    by-peer t (Some p) is has y = (p, named-there slots name p (ap peer_in is ∙ has))

    by : (o : Option SlotState) → slot_named slots name ≡ o → address_in o ≡ Some a → (p : Peering) × IsThere slots name p
    by None is y = absurd (let z : ◌≡◌ {A = Option Addr} None (Some a) = y in cc)
    by (Some t) is y = by-peer t t.peer is refl y

born : (h : Host) (name : PeerRef) (a : Addr) → address_named h.slots name ≡ Some a → IsUnborn h name → ⊥
born h name a at u = by (there-of h.slots name a at).0 (there-of h.slots name a at).1
  where
    by : (p : Peering) → IsThere h.slots name p → ⊥
    by p x =
        let slot : x.slot ≡ u.slot = same-some x.slot u.slot (sym x.there ∙ u.there) in
        let g : u.slot.generation ≡ name.generation = ap (λ (z : SlotState). z.generation) (sym slot) ∙ x.same in
        elim u.future [
          | inl before ↦ (let l : u.slot.generation < name.generation = before in omega arith)
          | inr none ↦ (let z : ◌≡◌ {A = Option Peering} None (Some p) = sym none.1 ∙ ap (λ (y : SlotState). y.peer) (sym slot) ∙ x.peer in cc)
        ]

unborn-fresh : (h : Host) (name : PeerRef) → IsFresh h name → IsUnborn h name
unborn-fresh h name f = record {
  slot = f.slot;
  there = f.there;
  left = f.left;
  future = f.future;
}

fact-stays : (f g : Fleet) (m from : Node) (what : Happening) → Sound f → (h : HappensAt m from what f g) → (n : Node) (p : PeerRef) (a : Addr) → Fact f n p a → Fact g n p a
fact-stays f g m from what s h n p a k q there = by (where-is m n from what f g h q there)
  where
    rest : g.asked ≡ asked_after m what f.asked
    rest = ap (λ (x : Fleet). x.asked) h.rest

    few : h.was.site.host.config.generations ≤ greatest
    few = (net.each-holds address_of apart f s m h.was h.there).host.few

    acts : (c : Call) × Acts c h.was.site.host h.is.site.host
    acts = some-acts (around f m) h.sender.site h.was.site h.is.site what h.here

    grown : Grows h.was.site h.is.site (more_of (around f m).count h.sender.site h.was.site h.is.site what)
    grown = grows (around f m) h.sender.site h.was.site h.is.site what h.here

    ends : AtSite f n p a h.was.site → (e : HostEnd) → ((b : HostEnd) × Has h.was.site.ends b × (grown.change b ≡ e)) ⊎ Has (more_of (around f m).count h.sender.site h.was.site h.is.site what) e → e.name ≡ p
        → far_address g n e.connection ≡ Some a
    ends was e (inl b) name =
        let old : far_address f n b.0.connection ≡ Some a = was.1 b.0 b.1 (sym (grown.name b.0) ∙ ap (λ (z : HostEnd). z.name) b.2 ∙ name) in
        let same : b.0.connection ≡ e.connection = sym (grown.connection b.0) ∙ ap (λ (z : HostEnd). z.connection) b.2 in
        far-stays n m what f g rest e.connection a (subst (λ (x : ℕ). far_address f n x ≡ Some a) same old)
    ends was e (inr new) name =
        absurd (was.0 (subst (λ (z : PeerRef). IsUnborn h.was.site.host z) name (unborn-fresh h.was.site.host e.name (fresh-more (around f m) h.sender.site h.was.site h.is.site what few h.here e new))))

    by : Placed m n what f h.was h.is q → AtSite g n p a q.site
    by (is_here same was is) = subst (λ (z : Place). AtSite g n p a z.site) is (
      λ u. (k h.was was).0 (unborn-back acts.0 h.was.site.host h.is.site.host p few acts.1 u),
      λ e has name. ends (k h.was was) e (from-before h.was.site h.is.site (more_of (around f m).count h.sender.site h.was.site h.is.site what) grown e has) name,
    )
    by (is_away other was) = ((k q was).0, λ e has name. far-stays n m what f g rest e.connection a ((k q was).1 e has name))

new-fact : (f : Fleet) (event : FleetEvent) (answer : Answer) → Sound f → IsTold f event answer → (n : Node) (p : PeerRef) (k : ℕ) (a : Addr) → slice_get (places n p event (Ok answer)) k ≡ Some a → Fact f n p a
new-fact f (happen.Take m) (answers.Taken (Some told)) s is n p k a at q there = by (is_node m n) refl (is_of p told.0) refl k at
  where
    h : HasHeadline f
    h = has-headline f s

    by : (b : Bool) → is_node m n ≡ b → (c : Bool) → is_of p told.0 ≡ c → (k : ℕ) → slice_get (cond (b && c) (told.1 ∷ []) []) k ≡ Some a → AtSite f n p a q.site
    by true e true d zero y =
        let there' : address_named q.site.host.slots p ≡ Some a = is q (ap (place_of f) (same-node m n e) ∙ there) p d ∙ y in
        (born q.site.host p a there', λ x has name. h.far n q there x has a (subst (λ (z : PeerRef). address_named q.site.host.slots z ≡ Some a) (sym name) there'))
    by true e true d (suc k) y = absurd (let z : ◌≡◌ {A = Option Addr} None (Some a) = y in cc)
    by true e false d k y = absurd (let z : ◌≡◌ {A = Option Addr} None (Some a) = y in cc)
    by false e c d k y = absurd (let z : ◌≡◌ {A = Option Addr} None (Some a) = y in cc)
new-fact f event answer s is n p k a at q there = absurd (let z : ◌≡◌ {A = Option Addr} None (Some a) = at in cc)

record AreFacts (hs : List Happened) (f : Fleet) : Type 0 where
  sound : Sound f
  facts : (n : Node) (p : PeerRef) (k : ℕ) (a : Addr) → slice_get (placed n p hs) k ≡ Some a → Fact f n p a

facts-go : (hs : List Happened) (f g : Fleet) (event : FleetEvent) (answer : Answer) (what : Happening) (from : Node) (h : HappensAt (node_of event) from what f g) → IsTold f event answer → AreFacts hs f
    → (n : Node) (p : PeerRef) (k : ℕ) (a : Addr) → slice_get (placed n p (hs ++ (event, Ok answer) ∷ [])) k ≡ Some a → Fact g n p a
facts-go hs f g event answer what from h is t n p k a at =
    by (get-either (placed n p hs) (places n p event (Ok answer)) k a (ap (λ (l : List Addr). slice_get l k) (sym (push (λ (z : Happened). places n p z.0 z.1) hs (event, Ok answer))) ∙ at))
  where
    by : (slice_get (placed n p hs) k ≡ Some a) ⊎ ((j : ℕ) × (slice_get (places n p event (Ok answer)) j ≡ Some a) × (k ≡ length (placed n p hs) + j)) → Fact g n p a
    by (inl before) = fact-stays f g (node_of event) from what t.sound h n p a (t.facts n p k a before)
    by (inr new) = fact-stays f g (node_of event) from what t.sound h n p a (new-fact f event answer t.sound is n p new.0 a new.1)

facts-step : (hs : List Happened) (f g : Fleet) (event : FleetEvent) (answer : Result Answer Refusal) → Steps f event answer g → AreFacts hs f → AreFacts (hs ++ (event, answer) ∷ []) g
facts-step hs f g event (Ok answer) r t = record {
  sound = sound-step f g event (Ok answer) r t.sound;
  facts = λ n p k a at. facts-go hs f g event answer r.0 (from_of event) r.2.happens (is-told f event answer r.0 r.1) t n p k a at;
}
facts-step hs f g event (Err why) r t = subst (AreFacts (hs ++ (event, Err why) ∷ [])) (sym r.1) (record {
  sound = t.sound;
  facts = λ n p k a at. t.facts n p k a (ap (λ (l : List Addr). slice_get l k) (sym (same n p)) ∙ at);
})
  where
    same : (n : Node) (p : PeerRef) → placed n p (hs ++ (event, Err why) ∷ []) ≡ placed n p hs
    same n p = push (λ (z : Happened). places n p z.0 z.1) hs (event, Err why) ∙ ap (λ (l : List Addr). placed n p hs ++ l) (refused-places n p event why) ∙ append-nil (placed n p hs)

are-facts : (server : Config) (clients : List Config) → is_in_range server ≡ true → list_all is_in_range clients ≡ true
    → (events : List FleetEvent) (answers : List (Result Answer Refusal)) (f : Fleet) → Runs (open_fleet server clients) events answers f → AreFacts (zip events answers) f
are-facts server clients one all events answers f r = runs-on Steps AreFacts facts-step events answers [] (open_fleet server clients) f r (record {
  sound = sound-run server clients one all [] [] (open_fleet server clients) refl;
  facts = λ n p k a at. absurd (let z : ◌≡◌ {A = Option Addr} None (Some a) = at in cc);
})

-- so the page holds of each run, with the names that the server's ends have in the end
abbrev pub IsOn : ℕ → Fleet → List Happened → Type 0
IsOn clients f hs = (t : IsOnTranscript clients hs) × ((x : ℕ) → t.headline.here x ≡ called (end_of x f.server.site.ends))

pub on-transcript : (server : Config) (clients : List Config) → is_in_range server ≡ true → list_all is_in_range clients ≡ true
    → (events : List FleetEvent) (answers : List (Result Answer Refusal)) (f : Fleet) → Runs (open_fleet server clients) events answers f → IsOn (length clients) f (zip events answers)
on-transcript server clients one all events answers f r = (
  record {
    headline = page.headline;
    at_client = page.at_client;
    at_server = page.at_server;
    here_at = here-at;
    there_at = there-at;
    no_server = page.no_server;
    no_client = page.no_client;
  },
  page.names,
)
  where
    page : IsNamed (length clients) (zip events answers) f
    page = is-named server clients one all events answers f r

    facts : AreFacts (zip events answers) f
    facts = are-facts server clients one all events answers f r

    here-at : (x i k : ℕ) (there p : PeerRef) (a : Addr) → slice_get (asked (zip events answers)) x ≡ Some (i, there) → page.headline.here x ≡ Some p → slice_get (placed Server p (zip events answers)) k ≡ Some a
        → a ≡ address_of (Client i)
    here-at x i k there p a is here at =
        let c = client-of server clients one all events answers f r x i there is in
        let t = called-some (end_of x f.server.site.ends) p (sym (page.names x) ∙ here) in
        let h = has-end x f.server.site.ends t.0 t.1 in
        let far : far_address f Server x ≡ Some a = subst (λ (n : ℕ). far_address f Server n ≡ Some a) h.1 ((facts.facts Server p k a at f.server refl).1 t.0 h.0 t.2) in
        same-some a (address_of (Client i)) (sym far ∙ ap (option_map (λ (j : ℕ). address_of (Client j))) c.0)

    there-at : (x i k : ℕ) (there : PeerRef) (a : Addr) → slice_get (asked (zip events answers)) x ≡ Some (i, there) → slice_get (placed (Client i) there (zip events answers)) k ≡ Some a → a ≡ address_of Server
    there-at x i k there a is at =
        let c = client-of server clients one all events answers f r x i there is in
        let far : far_address f (Client i) c.3.connection ≡ Some a = (facts.facts (Client i) there k a at c.1 c.2).1 c.3 c.4 c.6 in
        same-some a (address_of Server) (sym far)
