-- By one event, and by a list of them, what a fleet keeps is what its transcript tells.
use Rattle.std.proofs.Common.{◌≡◌, ◌≢◌, ℕ, zero, suc, ◌+◌, ◌<◌, ◌⊎◌, inl, inr, ◌==◌, ◌&&◌, ◌||◌, Bool, true, false, cond, List, [], ◌∷◌, ◌++◌, map, length, refl, sym, ap, subst, ◌∙◌, append-nil, arith, Option, Some, None, Result, Ok, Err, slice_get, slice_set}
use Rattle.std.specs.List.{list_all, list_any}
use Rattle.std.proofs.lemmas.Bool.Decides.{nat_tests}
use Rattle.std.proofs.lemmas.List.{map-append, length-set}
use Rattle.std.proofs.lemmas.Option.{slice_get_within}
use Rattle.enet_codec.specs.declared.address.Addr.{Addr}
use Rattle.enet_codec.specs.declared.config.Config.{Config}
use Rattle.enet_codec.specs.declared.event.Event.{Event}
use Rattle.enet_codec.specs.declared.event.PeerRef.{PeerRef}
use Rattle.enet_codec.specs.declared.packet.Packet.{Packet}
use Rattle.enet_codec.specs.declared.refusal.Refusal.{Refusal}
use Rattle.enet_codec.specs.Config.{is_in_range}
use Rattle.law_connection.specs.LinkSteps.{Has}
use Rattle.law_connection.proofs.Lists.{Has-push}
use Rattle.law_network.specs.Calls as call
use Rattle.enet_fleet.specs.declared.answer.Answer.{Answer}
use Rattle.enet_fleet.specs.declared.answer.Answer.TheVariants as answers
use Rattle.law_network.specs.Network.{HostEnd, Site, fresh_end, is_same_name}
use Rattle.law_network.specs.Steps.{Around, Happening, Calls, HappensAmong}
use Rattle.law_network.proofs.Growing.{Grows, grows, more_of, stays-there}
use Rattle.law_network.proofs.Lists.{same-or, get-set, get-set_other, get-within}
use Rattle.law_network.proofs.Owned.{are-ends, none-held}
use Rattle.law_network.proofs.Runs.{few-of}
use Rattle.law_network.proofs.Submitting.{same-some}
use Rattle.law_network.specs.Places.{Place, opened_at}
use Rattle.law_headline.specs.declared.node.Node.{Node}
use Rattle.law_headline.specs.declared.node.Node.TheVariants.{Server, Client}
use Rattle.enet_fleet.specs.declared.event.FleetEvent.{FleetEvent}
use Rattle.enet_fleet.specs.declared.event.FleetEvent.TheVariants as happen
use Rattle.enet_fleet.specs.Fleets.{Fleet, place_of, with_place, is_host, address_of, asked_after, node_of, from_of, Makes, Steps, open_fleet}
use Rattle.enet_fleet.specs.Private.Around.{around}
use Rattle.law_headline.specs.Nets as nets
use Rattle.law_headline.proofs.Net as net
use Rattle.enet_fleet.proofs.Places.{apart, Sound}
use Rattle.enet_fleet.proofs.Runs.{sound-step, sound-run}
use Rattle.law_headline.specs.Page.{is_of}
use Rattle.law_headline.specs.Kept.{submitted_by, taken_by, is_guest, IsRecorded, IsCovered}
use Rattle.law_headline.proofs.Telling as telling
use Rattle.law_headline.proofs.Telling.{push, runs-on, get-either, length-mapped}
use Rattle.enet_fleet.specs.Transcript.{Happened, is_node, submits, takes, asks, submitted, taken, asked, brings_guest, guests}
use Rattle.enet_fleet.specs.Told.{IsToldBy, EachListIsKept}

abbrev pub HappensAt : Node → Node → Happening → Fleet → Fleet → Type 0
HappensAt n from what old new = nets.HappensAt address_of n from what old new

-- what one event adds

-- one that is refused adds nothing
refused-submits : (n : Node) (q : PeerRef) (channel : ℕ) (event : FleetEvent) (why : Refusal) → submits n q channel event (Err why) ≡ []
refused-submits n q channel (happen.Submit m p number flags body) why = refl
refused-submits n q channel event why = refl

refused-takes : (n : Node) (q : PeerRef) (event : FleetEvent) (why : Refusal) → takes n q event (Err why) ≡ []
refused-takes n q (happen.Take m) why = refl
refused-takes n q event why = refl

refused-asks : (event : FleetEvent) (why : Refusal) → asks event (Err why) ≡ []
refused-asks (happen.Connect client channels info word) why = refl
refused-asks event why = refl

-- one that isn't adds at its host what the call adds that it makes
pub record Adds (n : Node) (q : PeerRef) (event : FleetEvent) (answer : Answer) (what : Happening) : Type 0 where
  pub packets : (channel : ℕ) → submits n q channel event (Ok answer) ≡ submitted_by q channel what
  pub events : takes n q event (Ok answer) ≡ taken_by q what

adds-none : (n : Node) (q : PeerRef) (event : FleetEvent) (answer : Answer) (what is : Happening) → what ≡ is → ((channel : ℕ) → submits n q channel event (Ok answer) ≡ []) → takes n q event (Ok answer) ≡ []
    → ((channel : ℕ) → submitted_by q channel is ≡ []) → taken_by q is ≡ [] → Adds n q event answer what
adds-none n q event answer what is same a b c d = subst (Adds n q event answer) (sym same) (record { packets = λ channel. a channel ∙ sym (c channel); events = b ∙ sym d })

adds : (f : Fleet) (event : FleetEvent) (answer : Answer) (what : Happening) → Makes f event answer what → (n : Node) (q : PeerRef) → is_node (node_of event) n ≡ true → Adds n q event answer what
adds f (happen.Connect client channels info word) (answers.Peer name) what m n q here = adds-none n q _ _ what _ m (λ channel. refl) refl (λ channel. refl) refl
adds f (happen.Submit node peer number flags body) answers.Done what m n q here = subst (Adds n q (happen.Submit node peer number flags body) answers.Done) (sym m) (record {
  packets = λ channel. ap (λ (b : Bool). cond (b && (is_same_name q peer && number == channel)) ((record { channel = number; flags = flags; body = body }) ∷ []) []) here;
  events = refl;
})
adds f (happen.Deliver to from k) (answers.Received answer) what m n q here = adds-none n q _ _ what _ m.2 (λ channel. refl) refl (λ channel. refl) refl
adds f (happen.Stranger to addr bytes) (answers.Received answer) what m n q here = adds-none n q _ _ what _ m (λ channel. refl) refl (λ channel. refl) refl
adds f (happen.Turn node) (answers.Sent None) what m n q here = adds-none n q _ _ what _ m.1 (λ channel. refl) refl (λ channel. refl) refl
adds f (happen.Turn node) (answers.Sent (Some k)) what m n q here = adds-none n q _ _ what _ m.2 (λ channel. refl) refl (λ channel. refl) refl
adds f (happen.Tick node ms) answers.Done what m n q here = adds-none n q _ _ what _ m (λ channel. refl) refl (λ channel. refl) refl
adds f (happen.Take node) (answers.Taken None) what m n q here = adds-none n q _ _ what _ m (λ channel. refl) refl (λ channel. refl) refl
adds f (happen.Take node) (answers.Taken (Some told)) what m n q here = subst (Adds n q (happen.Take node) (answers.Taken (Some told))) (sym m.0) (record {
  packets = λ channel. refl;
  events = ap (λ (b : Bool). cond (b && is_of q told.0) (told.0 ∷ []) []) here;
})
adds f (happen.Disconnect node peer how info) answers.Done what m n q here = adds-none n q _ _ what _ m (λ channel. refl) refl (λ channel. refl) refl
adds f (happen.Admit node what') answers.Done what m n q here = adds-none n q _ _ what _ m (λ channel. refl) refl (λ channel. refl) refl
adds f (happen.SetSendLimit node bytes commands) answers.Done what m n q here = adds-none n q _ _ what _ m (λ channel. refl) refl (λ channel. refl) refl
adds f event answer what m n q here = absurd m

-- nor a guest
brings : (f : Fleet) (event : FleetEvent) (answer : Answer) (what : Happening) → Makes f event answer what → (n : Node) → is_node (node_of event) n ≡ true → brings_guest n event (Ok answer) ≡ false → is_guest what ≡ false
brings f (happen.Connect client channels info word) (answers.Peer name) what m n here none = ap is_guest m
brings f (happen.Submit node peer number flags body) answers.Done what m n here none = ap is_guest m
brings f (happen.Deliver to from k) (answers.Received answer) what m n here none = ap is_guest m.2
brings f (happen.Stranger to addr bytes) (answers.Received answer) what m n here none = ap is_guest m ∙ sym (ap (λ (b : Bool). b && answer.handled == 1) here) ∙ none
brings f (happen.Turn node) (answers.Sent None) what m n here none = ap is_guest m.1
brings f (happen.Turn node) (answers.Sent (Some k)) what m n here none = ap is_guest m.2
brings f (happen.Tick node ms) answers.Done what m n here none = ap is_guest m
brings f (happen.Take node) (answers.Taken None) what m n here none = ap is_guest m
brings f (happen.Take node) (answers.Taken (Some told)) what m n here none = ap is_guest m.0
brings f (happen.Disconnect node peer how info) answers.Done what m n here none = ap is_guest m
brings f (happen.Admit node what') answers.Done what m n here none = ap is_guest m
brings f (happen.SetSendLimit node bytes commands) answers.Done what m n here none = ap is_guest m
brings f event answer what m n here none = absurd m

any-push : {X : Type 0} (g : X → Bool) (xs : List X) (x : X) → list_any g (xs ++ x ∷ []) ≡ false → (list_any g xs ≡ false) × (g x ≡ false)
any-push g [] x h = (refl, or-first (g x) false h)
  where
    or-first : (a b : Bool) → (a || b) ≡ false → a ≡ false
    or-first true b h = absurd (let y : true ≡ false = h in cc)
    or-first false b h = refl
any-push g (y ∷ xs) x h = by (any-push g xs x) (g y) h
  where
    by : (list_any g (xs ++ x ∷ []) ≡ false → (list_any g xs ≡ false) × (g x ≡ false)) → (a : Bool) → (a || list_any g (xs ++ x ∷ [])) ≡ false → ((a || list_any g xs) ≡ false) × (g x ≡ false)
    by more true e = absurd (let y : true ≡ false = e in cc)
    by more false e = more e

-- and elsewhere nothing
elsewhere-submits : (n : Node) (q : PeerRef) (channel : ℕ) (event : FleetEvent) (answer : Result Answer Refusal) → is_node (node_of event) n ≡ false → submits n q channel event answer ≡ []
elsewhere-submits n q channel (happen.Submit m p number flags body) (Ok answers.Done) away =
    ap (λ (b : Bool). cond (b && (is_same_name q p && number == channel)) ((record { channel = number; flags = flags; body = body }) ∷ []) []) away
elsewhere-submits n q channel event answer away = refl

elsewhere-takes : (n : Node) (q : PeerRef) (event : FleetEvent) (answer : Result Answer Refusal) → is_node (node_of event) n ≡ false → takes n q event answer ≡ []
elsewhere-takes n q (happen.Take m) (Ok (answers.Taken (Some told))) away = ap (λ (b : Bool). cond (b && is_of q told.0) (told.0 ∷ []) []) away
elsewhere-takes n q event answer away = refl

-- connections

-- whether a thing is no Connect
abbrev is_plain : Happening → Bool
is_plain (Calls (call.Connect address channels info word answer)) = false
is_plain what = true

asked-same : (n : Node) (what : Happening) (l : List ℕ) → is_plain what ≡ true → asked_after n what l ≡ l
asked-same Server what l e = refl
asked-same (Client i) (Calls (call.Connect address channels info word answer)) l e = absurd (let y : false ≡ true = e in cc)
asked-same (Client i) what l e = refl

asks-none : (f : Fleet) (n : Node) (what is : Happening) (more : List (ℕ × PeerRef)) → what ≡ is → is_plain is ≡ true → more ≡ [] → asked_after n what f.asked ≡ f.asked ++ map (λ (a : ℕ × PeerRef). a.0) more
asks-none f n what is more same plain none =
    ap (λ (h : Happening). asked_after n h f.asked) same ∙ asked-same n is f.asked plain ∙ sym (append-nil f.asked)
    ∙ ap (λ (l : List (ℕ × PeerRef)). f.asked ++ map (λ (a : ℕ × PeerRef). a.0) l) (sym none)

asks-on : (f : Fleet) (event : FleetEvent) (answer : Answer) (what : Happening) → Makes f event answer what → asked_after (node_of event) what f.asked ≡ f.asked ++ map (λ (a : ℕ × PeerRef). a.0) (asks event (Ok answer))
asks-on f (happen.Connect client channels info word) (answers.Peer name) what m = ap (λ (h : Happening). asked_after (Client client) h f.asked) m
asks-on f (happen.Submit node peer number flags body) answers.Done what m = asks-none f node what _ [] m refl refl
asks-on f (happen.Deliver to from k) (answers.Received answer) what m = asks-none f to what _ [] m.2 refl refl
asks-on f (happen.Stranger to addr bytes) (answers.Received answer) what m = asks-none f to what _ [] m refl refl
asks-on f (happen.Turn node) (answers.Sent None) what m = asks-none f node what _ [] m.1 refl refl
asks-on f (happen.Turn node) (answers.Sent (Some k)) what m = asks-none f node what _ [] m.2 refl refl
asks-on f (happen.Tick node ms) answers.Done what m = asks-none f node what _ [] m refl refl
asks-on f (happen.Take node) (answers.Taken None) what m = asks-none f node what _ [] m refl refl
asks-on f (happen.Take node) (answers.Taken (Some told)) what m = asks-none f node what _ [] m.0 refl refl
asks-on f (happen.Disconnect node peer how info) answers.Done what m = asks-none f node what _ [] m refl refl
asks-on f (happen.Admit node what') answers.Done what m = asks-none f node what _ [] m refl refl
asks-on f (happen.SetSendLimit node bytes commands) answers.Done what m = asks-none f node what _ [] m refl refl
asks-on f event answer what m = absurd m

-- a connection that begins is its client's, whose end it begins
record Begins (f : Fleet) (event : FleetEvent) (what : Happening) (i : ℕ) (name : PeerRef) : Type 0 where
  node : node_of event ≡ Client i
  ends : (from old new : Site) → more_of (length f.asked) from old new what ≡ fresh_end (length f.asked) name ∷ []

begins-of : (f : Fleet) (event : FleetEvent) (answer : Answer) (what : Happening) → Makes f event answer what → (i : ℕ) (name : PeerRef) → (k : ℕ) → slice_get (asks event (Ok answer)) k ≡ Some (i, name) → Begins f event what i name
begins-of f (happen.Connect client channels info word) (answers.Peer given) what m i name zero h =
    let same : ◌≡◌ {A = ℕ × PeerRef} (client, given) (i, name) = same-some (client, given) (i, name) h in
    record {
      node = ap (λ (a : ℕ × PeerRef). Client a.0) same;
      ends = λ from old new. ap (λ (h : Happening). more_of (length f.asked) from old new h) m ∙ ap (λ (a : ℕ × PeerRef). fresh_end (length f.asked) a.1 ∷ []) same;
    }
begins-of f (happen.Connect client channels info word) (answers.Peer given) what m i name (suc k) h = absurd (let e : ◌≡◌ {A = Option (ℕ × PeerRef)} None (Some (i, name)) = h in cc)
begins-of f (happen.Connect client channels info word) answer what m i name k h = absurd m
begins-of f event answer what m i name k h = absurd (let e : ◌≡◌ {A = Option (ℕ × PeerRef)} None (Some (i, name)) = h in cc)

-- hosts

-- a host after something happened at the host m: it is the one where it happened, or as it was
pub data Placed (m n : Node) (what : Happening) (f : Fleet) (was is p : Place) : Type 0 where
  is_here : is_node m n ≡ true → place_of f n ≡ Some was → is ≡ p → Placed m n what f was is p
  is_away : is_node m n ≡ false → place_of f n ≡ Some p → Placed m n what f was is p

at-client : (k i : ℕ) (from : Node) (what : Happening) (f g : Fleet) (h : HappensAt (Client k) from what f g) (p : Place) → slice_get g.clients i ≡ Some p → (k ≡ i) ⊎ (k ≢ i) → Placed (Client k) (Client i) what f h.was h.is p
at-client k i from what f g h p there (inl e) =
    let moved : slice_get g.clients i ≡ Some h.is =
    ap (λ (x : Fleet). slice_get x.clients i) h.rest ∙ subst (λ (j : ℕ). slice_get (slice_set f.clients k h.is) j ≡ Some h.is) e (get-set f.clients k h.was h.is h.there) in
    is_here (let t : (k == i) ≡ true = grind (arith, nat_tests) in t) (subst (λ (j : ℕ). slice_get f.clients j ≡ Some h.was) e h.there) (same-some h.is p (sym moved ∙ there))
at-client k i from what f g h p there (inr n) =
    is_away (let t : (k == i) ≡ false = grind (arith, nat_tests) in t) (sym (get-set_other f.clients k i h.is n) ∙ sym (ap (λ (x : Fleet). slice_get x.clients i) h.rest) ∙ there)

pub where-is : (m n from : Node) (what : Happening) (f g : Fleet) (h : HappensAt m from what f g) (p : Place) → place_of g n ≡ Some p → Placed m n what f h.was h.is p
where-is Server Server from what f g h p there = is_here refl h.there (same-some h.is p (sym (ap (λ (x : Fleet). place_of x Server) h.rest) ∙ there))
where-is Server (Client i) from what f g h p there = is_away refl (sym (ap (λ (x : Fleet). place_of x (Client i)) h.rest) ∙ there)
where-is (Client k) Server from what f g h p there = is_away refl (sym (ap (λ (x : Fleet). place_of x Server) h.rest) ∙ there)
where-is (Client k) (Client i) from what f g h p there = at-client k i from what f g h p there (same-or k i)

pub same-node : (m n : Node) → is_node m n ≡ true → m ≡ n
same-node Server Server e = refl
same-node (Client i) (Client k) e = ap (λ (j : ℕ). Client j) (let s : i ≡ k = grind (arith, nat_tests) in s)
same-node Server (Client k) e = absurd (let z : false ≡ true = e in cc)
same-node (Client i) Server e = absurd (let z : false ≡ true = e in cc)

-- one event

abbrev submits-all : Node → PeerRef → ℕ → Happened → List Packet
submits-all n q channel h = submits n q channel h.0 h.1

abbrev takes-all : Node → PeerRef → Happened → List Event
takes-all n q h = takes n q h.0 h.1

abbrev Recorded : Node → List Happened → Site → Type 0
Recorded n hs s = IsRecorded (λ q channel. submitted n q channel hs) (λ q. taken n q hs) s

each-goes : (f g : Fleet) (hs : List Happened) (event : FleetEvent) (answer : Answer) (what : Happening) (from : Node) → Makes f event answer what → (h : HappensAt (node_of event) from what f g) → IsToldBy hs f
    → (n : Node) (p : Place) → place_of g n ≡ Some p → Recorded n (hs ++ (event, Ok answer) ∷ []) p.site
each-goes f g hs event answer what from m h k n p there = by (where-is (node_of event) n from what f g h p there)
  where
    by : Placed (node_of event) n what f h.was h.is p → Recorded n (hs ++ (event, Ok answer) ∷ []) p.site
    by (is_here same was is) =
        subst (λ (q : Place). Recorded n (hs ++ (event, Ok answer) ∷ []) q.site) is
        (telling.told-goes (submits-all n) (takes-all n) hs (event, Ok answer) (around f (node_of event)) h.sender.site h.was.site h.is.site what (λ q channel. (adds f event answer what m n q same).packets channel)
        (λ q. (adds f event answer what m n q same).events) h.here (k.each n h.was was))
    by (is_away other was) =
        telling.told-stays (submits-all n) (takes-all n) hs (event, Ok answer) p.site (λ q channel. elsewhere-submits n q channel event (Ok answer) other) (λ q. elsewhere-takes n q event (Ok answer) other) (k.each n p was)

-- a client's end of a connection
abbrev HasEndOf : Fleet → ℕ → ℕ → PeerRef → Type 0
HasEndOf f x i name = (p : Place) × (slice_get f.clients i ≡ Some p) × (e : HostEnd) × Has p.site.ends e × (e.connection ≡ x) × (e.name ≡ name)

end-stays : (m from : Node) (what : Happening) (f g : Fleet) (h : HappensAt m from what f g) (x i : ℕ) (name : PeerRef) → HasEndOf f x i name → HasEndOf g x i name
end-stays Server from what f g h x i name p = (p.0, ap (λ (y : Fleet). place_of y (Client i)) h.rest ∙ p.1, p.2, p.3, p.4, p.5)
end-stays (Client k) from what f g h x i name p = by (same-or k i)
  where
    grown : Grows h.was.site h.is.site (more_of (around f (Client k)).count h.sender.site h.was.site h.is.site what)
    grown = grows (around f (Client k)) h.sender.site h.was.site h.is.site what h.here

    by : (k ≡ i) ⊎ (k ≢ i) → HasEndOf g x i name
    by (inl e) =
        let was : p.0 ≡ h.was = same-some p.0 h.was (sym p.1 ∙ subst (λ (j : ℕ). slice_get f.clients j ≡ Some h.was) e h.there) in
        let has : Has h.was.site.ends p.2 = subst (λ (q : Place). Has q.site.ends p.2) was p.3 in (
          h.is,
          ap (λ (y : Fleet). slice_get y.clients i) h.rest ∙ subst (λ (j : ℕ). slice_get (slice_set f.clients k h.is) j ≡ Some h.is) e (get-set f.clients k h.was h.is h.there),
          grown.change p.2,
          stays-there h.was.site h.is.site (more_of (around f (Client k)).count h.sender.site h.was.site h.is.site what) grown p.2 has,
          grown.connection p.2 ∙ p.4,
          grown.name p.2 ∙ p.5,
        )
    by (inr n) = (p.0, ap (λ (y : Fleet). slice_get y.clients i) h.rest ∙ get-set_other f.clients k i h.is n ∙ p.1, p.2, p.3, p.4, p.5)

end-begins : (m from : Node) (what : Happening) (f g : Fleet) (h : HappensAt m from what f g) (i : ℕ) (name : PeerRef) → m ≡ Client i → ((a b c : Site) → more_of (length f.asked) a b c what ≡ fresh_end (length f.asked) name ∷ [])
    → HasEndOf g (length f.asked) i name
end-begins Server from what f g h i name e more = absurd (let y : Server ≡ Client i = e in cc)
end-begins (Client k) from what f g h i name e more =
    let same : k ≡ i = client-number k i e in
    let grown : Grows h.was.site h.is.site (more_of (length f.asked) h.sender.site h.was.site h.is.site what) = grows (around f (Client k)) h.sender.site h.was.site h.is.site what h.here in (
      h.is,
      ap (λ (y : Fleet). slice_get y.clients i) h.rest ∙ subst (λ (j : ℕ). slice_get (slice_set f.clients k h.is) j ≡ Some h.is) same (get-set f.clients k h.was h.is h.there),
      fresh_end (length f.asked) name,
      subst (λ (l : List HostEnd). Has l (fresh_end (length f.asked) name)) (sym (grown.ends ∙ ap (λ (l : List HostEnd). map grown.change h.was.site.ends ++ l) (more h.sender.site h.was.site h.is.site)))
          (Has-push (map grown.change h.was.site.ends) (fresh_end (length f.asked) name)),
      refl,
      refl,
    )
  where
    client-number : (k i : ℕ) → Client k ≡ Client i → k ≡ i
    client-number k i e = cc

at-most-one : (event : FleetEvent) (answer : Result Answer Refusal) (j : ℕ) (a : ℕ × PeerRef) → slice_get (asks event answer) j ≡ Some a → j ≡ 0
at-most-one (happen.Connect client channels info word) (Ok (answers.Peer p)) zero a h = refl
at-most-one (happen.Connect client channels info word) (Ok (answers.Peer p)) (suc j) a h = absurd (let e : ◌≡◌ {A = Option (ℕ × PeerRef)} None (Some a) = h in cc)
at-most-one event answer j a h = absurd (let e : ◌≡◌ {A = Option (ℕ × PeerRef)} None (Some a) = h in cc)

begun-goes : (f g : Fleet) (hs : List Happened) (event : FleetEvent) (answer : Answer) (what : Happening) (from : Node) → Makes f event answer what → (h : HappensAt (node_of event) from what f g) → IsToldBy hs f
    → (x i : ℕ) (name : PeerRef) → slice_get (asked (hs ++ (event, Ok answer) ∷ [])) x ≡ Some (i, name) → HasEndOf g x i name
begun-goes f g hs event answer what from m h k x i name is =
    by (get-either (asked hs) (asks event (Ok answer)) x (i, name) (ap (λ (l : List (ℕ × PeerRef)). slice_get l x) (sym (push (λ (z : Happened). asks z.0 z.1) hs (event, Ok answer))) ∙ is))
  where
    by : (slice_get (asked hs) x ≡ Some (i, name)) ⊎ ((j : ℕ) × (slice_get (asks event (Ok answer)) j ≡ Some (i, name)) × (x ≡ length (asked hs) + j)) → HasEndOf g x i name
    by (inl before) = end-stays (node_of event) from what f g h x i name (k.begun x i name before)
    by (inr new) =
        let b : Begins f event what i name = begins-of f event answer what m i name new.0 new.1 in
        let long : length f.asked ≡ length (asked hs) = ap length k.asked_is ∙ length-mapped (λ (a : ℕ × PeerRef). a.0) (asked hs) in
        let first : new.0 ≡ 0 = at-most-one event (Ok answer) new.0 (i, name) new.1 in
        let place : length f.asked ≡ x = (let e : x ≡ length (asked hs) + new.0 = new.2 in omega arith) in
        subst (λ (n : ℕ). HasEndOf g n i name) place (end-begins (node_of event) from what f g h i name b.node b.ends)

-- who is covered

abbrev Covered : Fleet → Node → List Happened → Site → Type 0
Covered f n hs s = IsCovered (is_host (length f.clients)) (λ q channel. submitted n q channel hs) (λ q. taken n q hs) s

pub node-host : (f : Fleet) (n : Node) (p : Place) → place_of f n ≡ Some p → is_host (length f.clients) (address_of n) ≡ true
node-host f Server p h = net.server-host address_of apart (length f.clients)
node-host f (Client i) p h = net.client-host address_of apart (length f.clients) i (slice_get_within f.clients i p h)

covered-goes : (f : Fleet) (n from : Node) (hs : List Happened) (event : FleetEvent) (answer : Answer) (what : Happening) (sender was is : Place) → Sound f → Makes f event answer what → is_node (node_of event) n ≡ true
    → place_of f from ≡ Some sender → place_of f n ≡ Some was → HappensAmong (around f n) sender.site what was.site is.site → brings_guest n event (Ok answer) ≡ false → Covered f n hs was.site → Covered f n (hs ++ (event, Ok answer) ∷ []) is.site
covered-goes f n from hs event answer what sender was is s m here sends there happens none k =
    telling.covered-goes (submits-all n) (takes-all n) hs (event, Ok answer) (around f n) sender.site was.site is.site what (λ q channel. (adds f event answer what m n q here).packets channel)
    (λ q. (adds f event answer what m n q here).events) happens (brings f event answer what m n here none) (ap (is_host (length f.clients)) by.address ∙ node-host f from sender sends)
    (are-ends (is_host (length f.clients)) was.site own.owned) k
  where
    by : net.Holds address_of apart f.asked (length f.clients) from sender.site
    by = net.each-holds address_of apart f s from sender sends

    own : net.Holds address_of apart f.asked (length f.clients) n was.site
    own = net.each-holds address_of apart f s n was there

pub length-with : (f : Fleet) (n : Node) (p : Place) → length (with_place f n p).clients ≡ length f.clients
length-with f Server p = refl
length-with f (Client i) p = length-set f.clients i p

covered-each : (f g : Fleet) (hs : List Happened) (event : FleetEvent) (answer : Answer) (what : Happening) (from : Node) → Sound f → Makes f event answer what → (h : HappensAt (node_of event) from what f g) → IsToldBy hs f
    → (n : Node) (p : Place) → place_of g n ≡ Some p → guests n (hs ++ (event, Ok answer) ∷ []) ≡ false → Covered g n (hs ++ (event, Ok answer) ∷ []) p.site
covered-each f g hs event answer what from s m h k n p there quiet =
    subst (λ (c : ℕ). IsCovered (is_host c) (λ q channel. submitted n q channel (hs ++ (event, Ok answer) ∷ [])) (λ q. taken n q (hs ++ (event, Ok answer) ∷ [])) p.site)
    (sym (ap (λ (x : Fleet). length x.clients) h.rest ∙ length-with f (node_of event) h.is))
    (by (where-is (node_of event) n from what f g h p there))
  where
    calm : (guests n hs ≡ false) × (brings_guest n event (Ok answer) ≡ false)
    calm = any-push (λ (z : Happened). brings_guest n z.0 z.1) hs (event, Ok answer) quiet

    by : Placed (node_of event) n what f h.was h.is p → Covered f n (hs ++ (event, Ok answer) ∷ []) p.site
    by (is_here same was is) = subst (λ (q : Place). Covered f n (hs ++ (event, Ok answer) ∷ []) q.site) is
        (covered-goes f n from hs event answer what h.sender h.was h.is s m same h.sends was
        (subst (λ (w : Around). HappensAmong w h.sender.site what h.was.site h.is.site) (ap (around f) (same-node (node_of event) n same)) h.here) calm.1 (k.covered n h.was was calm.0))
    by (is_away other was) = telling.covered-stays (submits-all n) (takes-all n) (is_host (length f.clients)) hs (event, Ok answer) p.site (λ q channel. elsewhere-submits n q channel event (Ok answer) other) (λ q. elsewhere-takes n q event (Ok answer) other) (k.covered n p was calm.0)

-- a host that isn't there takes nothing

absent-before : (f : Fleet) (m : Node) (p : Place) (i : ℕ) → place_of (with_place f m p) (Client i) ≡ None → slice_get f.clients i ≡ None
absent-before f m p i none = by (slice_get f.clients i) refl
  where
    by : (o : Option Place) → slice_get f.clients i ≡ o → slice_get f.clients i ≡ None
    by None e = e
    by (Some q) e =
        let low : i < length f.clients = slice_get_within f.clients i q e in
        let same : length (with_place f m p).clients ≡ length f.clients = length-with f m p in
        let there = get-within (with_place f m p).clients i (let l : i < length (with_place f m p).clients = omega arith in l) in
        absurd (let z : ◌≡◌ {A = Option Place} None (Some there.0) = sym none ∙ there.1 in cc)

not-there : (f g : Fleet) (m from : Node) (what : Happening) (h : HappensAt m from what f g) (n : Node) → place_of g n ≡ None → (place_of f n ≡ None) × (is_node m n ≡ false)
not-there f g m from what h Server none = absurd (let z : ◌≡◌ {A = Option Place} None (Some g.server) = sym none in cc)
not-there f g m from what h (Client i) none =
    let before : slice_get f.clients i ≡ None = absent-before f m h.is i (sym (ap (λ (x : Fleet). place_of x (Client i)) h.rest) ∙ none) in
    (before, by (is_node m (Client i)) refl before)
  where
    by : (b : Bool) → is_node m (Client i) ≡ b → slice_get f.clients i ≡ None → is_node m (Client i) ≡ false
    by false e before = e
    by true e before = absurd (let z : ◌≡◌ {A = Option Place} None (Some h.was) = sym before ∙ ap (place_of f) (sym (same-node m (Client i) e)) ∙ h.there in cc)

told-step : (hs : List Happened) (f g : Fleet) (event : FleetEvent) (answer : Result Answer Refusal) → Steps f event answer g → Sound f → IsToldBy hs f → IsToldBy (hs ++ (event, answer) ∷ []) g
told-step hs f g event (Ok answer) r s k = record {
  covered = λ n p there quiet. covered-each f g hs event answer r.0 (from_of event) s r.1 r.2.happens k n p there quiet;
  absent = λ n none q. (let b = not-there f g (node_of event) (from_of event) r.0 r.2.happens n none in
      push (λ (h : Happened). takes n q h.0 h.1) hs (event, Ok answer) ∙ (λ i. k.absent n b.0 q i ++ elsewhere-takes n q event (Ok answer) b.1 i));
  each = λ n p there. each-goes f g hs event answer r.0 (from_of event) r.1 r.2.happens k n p there;
  asked_is = ap (λ (x : Fleet). x.asked) r.2.happens.rest ∙ asks-on f event answer r.0 r.1 ∙ ap (λ (l : List ℕ). l ++ map (λ (a : ℕ × PeerRef). a.0) (asks event (Ok answer))) k.asked_is
      ∙ sym (ap (map (λ (a : ℕ × PeerRef). a.0)) (push (λ (z : Happened). asks z.0 z.1) hs (event, Ok answer)) ∙ map-append (λ (a : ℕ × PeerRef). a.0) (asked hs) (asks event (Ok answer)));
  begun = λ x i name is. begun-goes f g hs event answer r.0 (from_of event) r.1 r.2.happens k x i name is;
}
told-step hs f g event (Err why) r s k = subst (IsToldBy (hs ++ (event, Err why) ∷ [])) (sym r.1) (record {
  covered = λ n p there quiet. telling.covered-stays (submits-all n) (takes-all n) (is_host (length f.clients)) hs (event, Err why) p.site (λ q channel. refused-submits n q channel event why) (λ q. refused-takes n q event why)
      (k.covered n p there (any-push (λ (z : Happened). brings_guest n z.0 z.1) hs (event, Err why) quiet).0);
  absent = λ n none q. push (λ (h : Happened). takes n q h.0 h.1) hs (event, Err why) ∙ (λ i. k.absent n none q i ++ refused-takes n q event why i);
  each = λ n p there. telling.told-stays (submits-all n) (takes-all n) hs (event, Err why) p.site (λ q channel. refused-submits n q channel event why) (λ q. refused-takes n q event why) (k.each n p there);
  asked_is = k.asked_is ∙ ap (map (λ (a : ℕ × PeerRef). a.0)) (sym same);
  begun = λ x i name is. k.begun x i name (ap (λ (l : List (ℕ × PeerRef)). slice_get l x) (sym same) ∙ is);
})
  where
    same : asked (hs ++ (event, Err why) ∷ []) ≡ asked hs
    same = push (λ (z : Happened). asks z.0 z.1) hs (event, Err why) ∙ ap (λ (l : List (ℕ × PeerRef)). asked hs ++ l) (refused-asks event why) ∙ append-nil (asked hs)

-- at first

open-recorded : (n : Node) (a : Rattle.enet_codec.specs.declared.address.Addr.Addr) (c : Config) → is_in_range c ≡ true → Recorded n [] (opened_at a c).site
open-recorded n a c fits = record { few = few-of c fits; ends = λ e h. absurd h; unborn = λ name u. (λ channel. refl, refl) }

open-told : (server : Config) (clients : List Config) → is_in_range server ≡ true → list_all is_in_range clients ≡ true → IsToldBy [] (open_fleet server clients)
open-told server clients one all = record { each = each; covered = λ n p there quiet. covered n p there; absent = λ n none q. refl; asked_is = refl; begun = λ x i name h. absurd (let e : ◌≡◌ {A = Option (ℕ × PeerRef)} None (Some (i, name)) = h in cc) }
  where
    each : (n : Node) (p : Place) → place_of (open_fleet server clients) n ≡ Some p → Recorded n [] p.site
    each Server p h = subst (λ (q : Place). Recorded Server [] q.site) (same-some (opened_at (address_of Server) server) p h) (open-recorded Server (address_of Server) server one)
    each (Client i) p h =
        let r = net.open-client address_of apart clients 0 i p all h in
        subst (λ (q : Place). Recorded (Client i) [] q.site) r.2 (open-recorded (Client i) (address_of (Client (0 + i))) r.0 r.1)

    covered-open : (n : Node) (a : Addr) (c : Config) → Covered (open_fleet server clients) n [] (opened_at a c).site
    covered-open n a c = record {
      hosts = λ i t p there has. absurd (none-held c.peers i t p there has);
      ends = λ name some. absurd (elim some [ inl s ↦ s.1 refl | inr s ↦ s refl ]);
    }

    covered : (n : Node) (p : Place) → place_of (open_fleet server clients) n ≡ Some p → Covered (open_fleet server clients) n [] p.site
    covered Server p h = subst (λ (q : Place). Covered (open_fleet server clients) Server [] q.site) (same-some (opened_at (address_of Server) server) p h) (covered-open Server (address_of Server) server)
    covered (Client i) p h =
        let r = net.open-client address_of apart clients 0 i p all h in
        subst (λ (q : Place). Covered (open_fleet server clients) (Client i) [] q.site) r.2 (covered-open (Client i) (address_of (Client (0 + i))) r.0)

both-step : (hs : List Happened) (f g : Fleet) (event : FleetEvent) (answer : Result Answer Refusal) → Steps f event answer g → Sound f × IsToldBy hs f → Sound g × IsToldBy (hs ++ (event, answer) ∷ []) g
both-step hs f g event answer r k = (sound-step f g event answer r k.0, told-step hs f g event answer r k.0 k.1)

pub each-list : EachListIsKept
each-list server clients one all events answers f r =
    (runs-on Steps (λ hs g. Sound g × IsToldBy hs g) both-step events answers [] (open_fleet server clients) f r (sound-run server clients one all [] [] (open_fleet server clients) refl, open-told server clients one all)).1
