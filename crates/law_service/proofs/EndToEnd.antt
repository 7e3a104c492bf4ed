-- The headline of services, from that of the net of their hosts.
use Rattle.std.proofs.Common.{◌≡◌, ◌≢◌, ℕ, zero, suc, ◌+◌, ◌<◌, ◌≤◌, ◌⊎◌, inl, inr, ◌==◌, ◌&&◌, ◌||◌, not, Bool, true, false, cond, List, [], ◌∷◌, ◌++◌, map, length, refl, sym, ap, subst, ◌∙◌, append-nil, append_assoc, arith, Option, Some, None, Ok, Err, slice_get, slice_set}
use Rattle.std.specs.Prelude.{flat_map, filter, take}
use Rattle.std.specs.List.{list_all, list_any}
use Rattle.std.specs.Option.{option_map}
use Rattle.std.proofs.lemmas.Bool.Decides.{nat_tests}
use Rattle.std.proofs.lemmas.List.{map-append, length-set}
use Rattle.std.proofs.lemmas.Option.{slice_get_within}
use Rattle.std.proofs.lemmas.List.Elements.{filter-append}
use Rattle.std.proofs.lemmas.Grind.{flat_map-append}
use Rattle.enet_codec.specs.declared.address.Addr.{Addr}
use Rattle.enet_codec.specs.declared.config.Config.{Config}
use Rattle.enet_codec.specs.declared.event.Event.{Event}
use Rattle.enet_codec.specs.declared.event.PeerRef.{PeerRef}
use Rattle.enet_codec.specs.declared.packet.Packet.{Packet}
use Rattle.enet_codec.specs.Config.{is_in_range}
use Rattle.law_connection.specs.LinkSteps.{Has}
use Rattle.law_connection.proofs.Lists.{Has-push}
use Rattle.law_headline.specs.declared.node.Node.{Node}
use Rattle.law_headline.specs.declared.node.Node.TheVariants.{Server, Client}
use Rattle.law_network.specs.Calls.{Call}
use Rattle.law_network.specs.Calls as call
use Rattle.law_network.specs.Headline.{HasHeadlineAt, HasHeadlineBetween}
use Rattle.law_network.specs.Network.{HostEnd, Site, fresh_end, end_of}
use Rattle.law_network.specs.Steps.{Around, Happening, Calls, Delivers, HappensAmong}
use Rattle.law_network.proofs.Growing.{Grows, grows, more_of, stays-there}
use Rattle.law_network.proofs.Lists.{same-or, get-set, get-set_other, get-map, get-within}
use Rattle.law_network.proofs.Owned.{are-ends, none-held}
use Rattle.law_network.proofs.Runs.{few-of, both}
use Rattle.law_network.proofs.Submitting.{same-some}
use Rattle.law_network.specs.Places.{Place, opened_at, all_opened}
use Rattle.law_headline.specs.Nets.{Net, place_of, with_place, around, asked_after, HappensAt, IsAllowed, AreApart, is_host, client_in, open_net}
use Rattle.law_headline.specs.Law.{HasHeadline, end_in}
use Rattle.law_headline.proofs.Net.{Sound, Holds, each-holds, server-host, client-host, sound-goes, open-sound, has-headline}
use Rattle.law_headline.specs.Kept.{is_guest, submitted_by, taken_by, IsRecorded, IsCovered, and_submitted, and_taken}
use Rattle.law_headline.specs.Page.{User, IsHeadline, IsBehind, is_of}
use Rattle.law_headline.proofs.Kept.{stays-recorded}
use Rattle.law_headline.proofs.Covered.{stays-covered}
use Rattle.law_headline.proofs.Page.{IsUsers, IsBegun, called, called-some, has-end, named-page, holds-behind}
use Rattle.enet_service.specs.ServiceRuns.{beginning, limited}
use Rattle.enet_turn.specs.Spans.{Span, rounds_in}
use Rattle.law_service.specs.Told.{told, submitted_in, taken_in}
use Rattle.law_service.specs.Law.{noted, setting, begun}
use Rattle.law_service.specs.EndToEnd.{rounds_of, Running, brings_guest, user_of, user_in, user_of_calls, user_if, HoldsThroughout, AtEachMoment, configs, IsCall, Makes, AllMake, is_node, call_at, calls_at, asks, asked, EndToEnd, Part, Threads, ThreadsAt, user_by, user_at, BetweenThreads}
use Rattle.law_service.proofs.Lives.{Behind, all-behind}
use Rattle.law_service.proofs.Telling.{nothing-sorted, setting-silent, sent-behind, life-tells}

push : {X Y : Type 0} (g : X → List Y) (hs : List X) (h : X) → flat_map g (hs ++ h ∷ []) ≡ flat_map g hs ++ g h
push g hs h = flat_map-append g hs (h ∷ []) ∙ ap (λ (l : List _). flat_map g hs ++ l) (append-nil (g h))

-- what a thing adds is what its call adds
adds-packets : (what : Happening) (from : Site) (c : Call) → IsCall what from c → (q : PeerRef) (channel : ℕ) → submitted_by q channel what ≡ submitted_by q channel (Calls c)
adds-packets (Calls d) from c is q channel = ap (λ (x : Call). submitted_by q channel (Calls x)) (sym is)
adds-packets (Delivers k answer) from c is q channel = sym (ap (λ (x : Call). submitted_by q channel (Calls x)) is.2)

adds-events : (what : Happening) (from : Site) (c : Call) → IsCall what from c → (q : PeerRef) → taken_by q what ≡ taken_by q (Calls c)
adds-events (Calls d) from c is q = ap (λ (x : Call). taken_by q (Calls x)) (sym is)
adds-events (Delivers k answer) from c is q = sym (ap (λ (x : Call). taken_by q (Calls x)) is.2)

adds-asked : (n : Node) (what : Happening) (from : Site) (c : Call) → IsCall what from c → (l : List ℕ) → asked_after n what l ≡ l ++ map (λ (a : ℕ × PeerRef). a.0) (asks n c)
adds-asked Server (Calls d) from c is l = sym (append-nil l)
adds-asked (Client i) (Calls d) from c is l = ap (λ (x : Call). asked_after (Client i) (Calls x) l) (sym is) ∙ by c
  where
    by : (c : Call) → asked_after (Client i) (Calls c) l ≡ l ++ map (λ (a : ℕ × PeerRef). a.0) (asks (Client i) c)
    by (call.Connect address channels info word (Ok name)) = refl
    by (call.Connect address channels info word (Err why)) = sym (append-nil l)
    by c = sym (append-nil l)
adds-asked Server (Delivers k answer) from c is l = sym (append-nil l)
adds-asked (Client i) (Delivers k answer) from c is l = sym (ap (λ (x : Call). l ++ map (λ (a : ℕ × PeerRef). a.0) (asks (Client i) x)) is.2 ∙ append-nil l)

-- an end begins with it
begins-of : (n : Node) (what : Happening) (from : Site) (c : Call) → IsCall what from c → (j i : ℕ) (name : PeerRef) → slice_get (asks n c) j ≡ Some (i, name)
    → (n ≡ Client i) × (j ≡ 0) × ((next : ℕ) (a b d : Site) → more_of next a b d what ≡ fresh_end next name ∷ [])
begins-of n (Calls d) from c is j i name h = subst (λ (x : Call). (n ≡ Client i) × (j ≡ 0) × ((next : ℕ) (a b d : Site) → more_of next a b d (Calls x) ≡ fresh_end next name ∷ [])) is (by n c j h)
  where
    by : (n : Node) (c : Call) (j : ℕ) → slice_get (asks n c) j ≡ Some (i, name) → (n ≡ Client i) × (j ≡ 0) × ((next : ℕ) (a b d : Site) → more_of next a b d (Calls c) ≡ fresh_end next name ∷ [])
    by (Client k) (call.Connect address channels info word (Ok given)) zero h =
        let same : ◌≡◌ {A = ℕ × PeerRef} (k, given) (i, name) = same-some (k, given) (i, name) h in
        (ap (λ (a : ℕ × PeerRef). Client a.0) same, refl, λ next a b d. ap (λ (x : ℕ × PeerRef). fresh_end next x.1 ∷ []) same)
    by (Client k) (call.Connect address channels info word (Ok given)) (suc j) h = absurd (let e : ◌≡◌ {A = Option (ℕ × PeerRef)} None (Some (i, name)) = h in cc)
    by Server c j h = absurd (let e : ◌≡◌ {A = Option (ℕ × PeerRef)} None (Some (i, name)) = h in cc)
    by (Client k) c j h = absurd (let e : ◌≡◌ {A = Option (ℕ × PeerRef)} None (Some (i, name)) = h in cc)
begins-of Server (Delivers k answer) from c is j i name h = absurd (let e : ◌≡◌ {A = Option (ℕ × PeerRef)} None (Some (i, name)) = h in cc)
begins-of (Client m) (Delivers k answer) from c is j i name h = absurd (let e : ◌≡◌ {A = Option (ℕ × PeerRef)} None (Some (i, name)) = ap (λ (x : Call). slice_get (asks (Client m) x) j) (sym is.2) ∙ h in cc)

-- hosts

data Placed (m n : Node) (f : Net) (was is p : Place) : Type 0 where
  is_here : is_node m n ≡ true → place_of f n ≡ Some was → is ≡ p → Placed m n f was is p
  is_away : is_node m n ≡ false → place_of f n ≡ Some p → Placed m n f was is p

at-client : (home : Node → Addr) (k i : ℕ) (from : Node) (what : Happening) (f g : Net) (h : HappensAt home (Client k) from what f g) (p : Place) → slice_get g.clients i ≡ Some p → (k ≡ i) ⊎ (k ≢ i) → Placed (Client k) (Client i) f h.was h.is p
at-client home k i from what f g h p there (inl e) =
    let moved : slice_get g.clients i ≡ Some h.is =
    ap (λ (x : Net). slice_get x.clients i) h.rest ∙ subst (λ (j : ℕ). slice_get (slice_set f.clients k h.is) j ≡ Some h.is) e (get-set f.clients k h.was h.is h.there) in
    is_here (let t : (k == i) ≡ true = grind (arith, nat_tests) in t) (subst (λ (j : ℕ). slice_get f.clients j ≡ Some h.was) e h.there) (same-some h.is p (sym moved ∙ there))
at-client home k i from what f g h p there (inr n) =
    is_away (let t : (k == i) ≡ false = grind (arith, nat_tests) in t) (sym (get-set_other f.clients k i h.is n) ∙ sym (ap (λ (x : Net). slice_get x.clients i) h.rest) ∙ there)

placed : (home : Node → Addr) (m n from : Node) (what : Happening) (f g : Net) (h : HappensAt home m from what f g) (p : Place) → place_of g n ≡ Some p → Placed m n f h.was h.is p
placed home Server Server from what f g h p there = is_here refl h.there (same-some h.is p (sym (ap (λ (x : Net). place_of x Server) h.rest) ∙ there))
placed home Server (Client i) from what f g h p there = is_away refl (sym (ap (λ (x : Net). place_of x (Client i)) h.rest) ∙ there)
placed home (Client k) Server from what f g h p there = is_away refl (sym (ap (λ (x : Net). place_of x Server) h.rest) ∙ there)
placed home (Client k) (Client i) from what f g h p there = at-client home k i from what f g h p there (same-or k i)

abbrev pub HasEndOf : Net → ℕ → ℕ → PeerRef → Type 0
HasEndOf f x i name = (p : Place) × (slice_get f.clients i ≡ Some p) × (e : HostEnd) × Has p.site.ends e × (e.connection ≡ x) × (e.name ≡ name)

end-stays : (home : Node → Addr) (m from : Node) (what : Happening) (f g : Net) (h : HappensAt home m from what f g) (x i : ℕ) (name : PeerRef) → HasEndOf f x i name → HasEndOf g x i name
end-stays home Server from what f g h x i name p = (p.0, ap (λ (y : Net). place_of y (Client i)) h.rest ∙ p.1, p.2, p.3, p.4, p.5)
end-stays home (Client k) from what f g h x i name p = by (same-or k i)
  where
    grown : Grows h.was.site h.is.site (more_of (length f.asked) h.sender.site h.was.site h.is.site what)
    grown = grows (around home f (Client k)) h.sender.site h.was.site h.is.site what h.here

    by : (k ≡ i) ⊎ (k ≢ i) → HasEndOf g x i name
    by (inl e) =
        let was : p.0 ≡ h.was = same-some p.0 h.was (sym p.1 ∙ subst (λ (j : ℕ). slice_get f.clients j ≡ Some h.was) e h.there) in
        let has : Has h.was.site.ends p.2 = subst (λ (q : Place). Has q.site.ends p.2) was p.3 in (
          h.is,
          ap (λ (y : Net). slice_get y.clients i) h.rest ∙ subst (λ (j : ℕ). slice_get (slice_set f.clients k h.is) j ≡ Some h.is) e (get-set f.clients k h.was h.is h.there),
          grown.change p.2,
          stays-there h.was.site h.is.site (more_of (length f.asked) h.sender.site h.was.site h.is.site what) grown p.2 has,
          grown.connection p.2 ∙ p.4,
          grown.name p.2 ∙ p.5,
        )
    by (inr n) = (p.0, ap (λ (y : Net). slice_get y.clients i) h.rest ∙ get-set_other f.clients k i h.is n ∙ p.1, p.2, p.3, p.4, p.5)

client-number : (k i : ℕ) → Client k ≡ Client i → k ≡ i
client-number k i e = cc

end-begins : (home : Node → Addr) (m from : Node) (what : Happening) (f g : Net) (h : HappensAt home m from what f g) (i : ℕ) (name : PeerRef) → m ≡ Client i → ((next : ℕ) (a b c : Site) → more_of next a b c what ≡ fresh_end next name ∷ [])
    → HasEndOf g (length f.asked) i name
end-begins home Server from what f g h i name e more = absurd (let y : Server ≡ Client i = e in cc)
end-begins home (Client k) from what f g h i name e more =
    let same : k ≡ i = client-number k i e in
    let grown : Grows h.was.site h.is.site (more_of (length f.asked) h.sender.site h.was.site h.is.site what) = grows (around home f (Client k)) h.sender.site h.was.site h.is.site what h.here in (
      h.is,
      ap (λ (y : Net). slice_get y.clients i) h.rest ∙ subst (λ (j : ℕ). slice_get (slice_set f.clients k h.is) j ≡ Some h.is) same (get-set f.clients k h.was h.is h.there),
      fresh_end (length f.asked) name,
      subst (λ (l : List HostEnd). Has l (fresh_end (length f.asked) name)) (sym (grown.ends ∙ ap (λ (l : List HostEnd). map grown.change h.was.site.ends ++ l) (more (length f.asked) h.sender.site h.was.site h.is.site)))
          (Has-push (map grown.change h.was.site.ends) (fresh_end (length f.asked) name)),
      refl,
      refl,
    )

-- what holds so far

abbrev pub Recorded : Node → List (Node × Call) → Site → Type 0
Recorded n ms s = IsRecorded (submitted_in (calls_at n ms)) (taken_in (calls_at n ms)) s

-- whether a stranger's datagram was taken in at a host
abbrev pub guests : (Node → Addr) → ℕ → Node → List (Node × Call) → Bool
guests home total n ms = list_any (brings_guest (is_host home total)) (calls_at n ms)

pub record IsTold (home : Node → Addr) (apart : AreApart home) (total : ℕ) (ms : List (Node × Call)) (f : Net) : Type 0 where
  count : length f.clients ≡ total
  pub sound : Sound home apart f
  each : (n : Node) (p : Place) → place_of f n ≡ Some p → Recorded n ms p.site
  covered : (n : Node) (p : Place) → place_of f n ≡ Some p → guests home total n ms ≡ false → IsCovered (is_host home total) (submitted_in (calls_at n ms)) (taken_in (calls_at n ms)) p.site
  asked_is : f.asked ≡ map (λ (a : ℕ × PeerRef). a.0) (asked ms)
  begun : (x i : ℕ) (name : PeerRef) → slice_get (asked ms) x ≡ Some (i, name) → HasEndOf f x i name

same-recorded : (s t : PeerRef → ℕ → List Packet) (u v : PeerRef → List Event) (x : Site) → ((q : PeerRef) (channel : ℕ) → s q channel ≡ t q channel) → ((q : PeerRef) → u q ≡ v q) → IsRecorded s u x → IsRecorded t v x
same-recorded s t u v x a b k = subst (λ (r : PeerRef → ℕ → List Packet). IsRecorded r v x) (λ i q channel. a q channel i) (subst (λ (r : PeerRef → List Event). IsRecorded s r x) (λ i q. b q i) k)

recorded-away : (n m : Node) (ms : List (Node × Call)) (c : Call) (s : Site) → is_node m n ≡ false → Recorded n ms s → Recorded n (ms ++ (m, c) ∷ []) s
recorded-away n m ms c s away k = subst (λ (l : List Call). IsRecorded (submitted_in l) (taken_in l) s) (sym same) k
  where
    same : calls_at n (ms ++ (m, c) ∷ []) ≡ calls_at n ms
    same = push (call_at n) ms (m, c) ∙ ap (λ (b : Bool). calls_at n ms ++ cond b (c ∷ []) []) away ∙ append-nil (calls_at n ms)

recorded-here : (home : Node → Addr) (n m : Node) (ms : List (Node × Call)) (c : Call) (w : Around) (what : Happening) (from old new : Site) → is_node m n ≡ true → HappensAmong w from what old new → IsCall what from c
    → Recorded n ms old → Recorded n (ms ++ (m, c) ∷ []) new
recorded-here home n m ms c w what from old new here happens is k =
    same-recorded (and_submitted (submitted_in l) what) (submitted_in (calls_at n (ms ++ (m, c) ∷ []))) (and_taken (taken_in l) what) (taken_in (calls_at n (ms ++ (m, c) ∷ []))) new
    (λ q channel. ap (λ (x : List Packet). submitted_in l q channel ++ x) (adds-packets what from c is q channel) ∙ sym (push (λ (d : Call). submitted_by q channel (Calls d)) l c) ∙ ap (λ (x : List Call). submitted_in x q channel) (sym same))
    (λ q. ap (λ (x : List Event). taken_in l q ++ x) (adds-events what from c is q) ∙ sym (push (λ (d : Call). taken_by q (Calls d)) l c) ∙ ap (λ (x : List Call). taken_in x q) (sym same))
    (stays-recorded (submitted_in l) (taken_in l) w from old new what happens k)
  where
    l : List Call
    l = calls_at n ms

    same : calls_at n (ms ++ (m, c) ∷ []) ≡ calls_at n ms ++ c ∷ []
    same = push (call_at n) ms (m, c) ∙ ap (λ (b : Bool). calls_at n ms ++ cond b (c ∷ []) []) here

any-push : {X : Type 0} (g : X → Bool) (xs : List X) (x : X) → list_any g (xs ++ x ∷ []) ≡ false → (list_any g xs ≡ false) × (g x ≡ false)
any-push g [] x h = (refl, or-first (g x) false h)
  where
    or-first : (a b : Bool) → (a || b) ≡ false → a ≡ false
    or-first true b h = absurd (let y : true ≡ false = h in cc)
    or-first false b h = refl
any-push g (y ∷ xs) x h = by (any-push g xs x) (g y) h
  where
    by : (list_any g (xs ++ x ∷ []) ≡ false → (list_any g xs ≡ false) × (g x ≡ false)) → (a : Bool) → (a || list_any g (xs ++ x ∷ [])) ≡ false → ((a || list_any g xs) ≡ false) × (g x ≡ false)
    by more true e = absurd (let y : true ≡ false = e in cc)
    by more false e = more e

-- who is covered

same-covered : (h : Addr → Bool) (s t : PeerRef → ℕ → List Packet) (u v : PeerRef → List Event) (x : Site) → ((q : PeerRef) (channel : ℕ) → s q channel ≡ t q channel) → ((q : PeerRef) → u q ≡ v q) → IsCovered h s u x → IsCovered h t v x
same-covered h s t u v x a b k = subst (λ (r : PeerRef → ℕ → List Packet). IsCovered h r v x) (λ i q channel. a q channel i) (subst (λ (r : PeerRef → List Event). IsCovered h s r x) (λ i q. b q i) k)

node-host : (home : Node → Addr) (apart : AreApart home) (f : Net) (n : Node) (p : Place) → place_of f n ≡ Some p → is_host home (length f.clients) (home n) ≡ true
node-host home apart f Server p h = server-host home apart (length f.clients)
node-host home apart f (Client i) p h = client-host home apart (length f.clients) i (slice_get_within f.clients i p h)

-- a thing brings a guest only where its call does
calm-thing : (w : Around) (what : Happening) (from old new : Site) (c : Call) → HappensAmong w from what old new → IsCall what from c → brings_guest w.is_host c ≡ false → is_guest what ≡ false
calm-thing w (Calls d) from old new c x is none = by d x (ap (brings_guest w.is_host) (sym is) ∙ none)
  where
    by : (d : Call) → HappensAmong w from (Calls d) old new → brings_guest w.is_host d ≡ false → is_guest (Calls d) ≡ false
    by (call.Receive address bytes answer) x none = ap (λ (b : Bool). not b && answer.handled == 1) (sym x.0) ∙ none
    by d x none = refl
calm-thing w (Delivers k answer) from old new c x is none = refl

covered-away : (home : Node → Addr) (total : ℕ) (n m : Node) (ms : List (Node × Call)) (c : Call) (s : Site) → is_node m n ≡ false → (guests home total n ms ≡ false → IsCovered (is_host home total) (submitted_in (calls_at n ms)) (taken_in (calls_at n ms)) s)
    → guests home total n (ms ++ (m, c) ∷ []) ≡ false → IsCovered (is_host home total) (submitted_in (calls_at n (ms ++ (m, c) ∷ []))) (taken_in (calls_at n (ms ++ (m, c) ∷ []))) s
covered-away home total n m ms c s away k =
    subst (λ (l : List Call). list_any (brings_guest (is_host home total)) l ≡ false → IsCovered (is_host home total) (submitted_in l) (taken_in l) s) (sym same) k
  where
    same : calls_at n (ms ++ (m, c) ∷ []) ≡ calls_at n ms
    same = push (call_at n) ms (m, c) ∙ ap (λ (b : Bool). calls_at n ms ++ cond b (c ∷ []) []) away ∙ append-nil (calls_at n ms)

covered-here : (home : Node → Addr) (apart : AreApart home) (f : Net) (n from : Node) (ms : List (Node × Call)) (c : Call) (what : Happening) (sender was is : Place) → Sound home apart f → place_of f from ≡ Some sender → place_of f n ≡ Some was
    → HappensAmong (around home f n) sender.site what was.site is.site → IsCall what sender.site c
    → (guests home (length f.clients) n ms ≡ false → IsCovered (is_host home (length f.clients)) (submitted_in (calls_at n ms)) (taken_in (calls_at n ms)) was.site)
    → guests home (length f.clients) n (ms ++ (n, c) ∷ []) ≡ false
    → IsCovered (is_host home (length f.clients)) (submitted_in (calls_at n (ms ++ (n, c) ∷ []))) (taken_in (calls_at n (ms ++ (n, c) ∷ []))) is.site
covered-here home apart f n from ms c what sender was is s sends there happens call k quiet =
    same-covered hosts (and_submitted (submitted_in l) what) (submitted_in (calls_at n (ms ++ (n, c) ∷ []))) (and_taken (taken_in l) what) (taken_in (calls_at n (ms ++ (n, c) ∷ []))) is.site
    (λ q channel. ap (λ (x : List Packet). submitted_in l q channel ++ x) (adds-packets what sender.site c call q channel) ∙ sym (push (λ (d : Call). submitted_by q channel (Calls d)) l c) ∙ ap (λ (x : List Call). submitted_in x q channel) (sym same))
    (λ q. ap (λ (x : List Event). taken_in l q ++ x) (adds-events what sender.site c call q) ∙ sym (push (λ (d : Call). taken_by q (Calls d)) l c) ∙ ap (λ (x : List Call). taken_in x q) (sym same))
    (stays-covered (submitted_in l) (taken_in l) (around home f n) sender.site was.site is.site what happens (calm-thing (around home f n) what sender.site was.site is.site c happens call calm.1)
    (ap hosts by.address ∙ node-host home apart f from sender sends) (are-ends hosts was.site own.owned) (k calm.0))
  where
    hosts : Addr → Bool
    hosts = is_host home (length f.clients)

    l : List Call
    l = calls_at n ms

    same : calls_at n (ms ++ (n, c) ∷ []) ≡ calls_at n ms ++ c ∷ []
    same = push (call_at n) ms (n, c) ∙ ap (λ (b : Bool). calls_at n ms ++ cond b (c ∷ []) []) (self n)
      where
        self : (n : Node) → is_node n n ≡ true
        self Server = refl
        self (Client i) = (let t : (i == i) ≡ true = grind (arith, nat_tests) in t)

    calm : (list_any (brings_guest hosts) l ≡ false) × (brings_guest hosts c ≡ false)
    calm = any-push (brings_guest hosts) l c (subst (λ (x : List Call). list_any (brings_guest hosts) x ≡ false) same quiet)

    by : Holds home apart f.asked (length f.clients) from sender.site
    by = each-holds home apart f s from sender sends

    own : Holds home apart f.asked (length f.clients) n was.site
    own = each-holds home apart f s n was there

same-node : (m n : Node) → is_node m n ≡ true → m ≡ n
same-node Server Server e = refl
same-node (Client i) (Client k) e = ap (λ (j : ℕ). Client j) (let s : i ≡ k = grind (arith, nat_tests) in s)
same-node Server (Client k) e = absurd (let z : false ≡ true = e in cc)
same-node (Client i) Server e = absurd (let z : false ≡ true = e in cc)

get-either : {X : Type 0} (xs ys : List X) (k : ℕ) (x : X) → slice_get (xs ++ ys) k ≡ Some x → (slice_get xs k ≡ Some x) ⊎ ((j : ℕ) × (slice_get ys j ≡ Some x) × (k ≡ length xs + j))
get-either [] ys k x h = inr (k, h, (let e : k ≡ 0 + k = omega arith in e))
get-either (z ∷ xs) ys zero x h = inl h
get-either (z ∷ xs) ys (suc k) x h = elim (get-either xs ys k x h) [ inl e ↦ inl e | inr e ↦ inr (e.0, e.1, (let s : k ≡ length xs + e.0 = e.2 in omega arith)) ]

length-mapped : {X Y : Type 0} (g : X → Y) (xs : List X) → length (map g xs) ≡ length xs
length-mapped g [] = refl
length-mapped g (x ∷ xs) = ap (λ (n : ℕ). suc n) (length-mapped g xs)

length-with : (f : Net) (n : Node) (p : Place) → length (with_place f n p).clients ≡ length f.clients
length-with f Server p = refl
length-with f (Client i) p = length-set f.clients i p

told-on : (home : Node → Addr) (apart : AreApart home) (total : ℕ) (ms : List (Node × Call)) (n : Node) (c : Call) (f g : Net) → Makes home n c f g → IsTold home apart total ms f → IsTold home apart total (ms ++ (n, c) ∷ []) g
told-on home apart total ms n c f g m k = record {
  count = ap (λ (x : Net). length x.clients) m.happens.rest ∙ length-with f n m.happens.is ∙ k.count;
  sound = sound-goes home apart n m.from m.what f g m.happens m.allowed k.sound;
  each = λ v p there. each v p (placed home n v m.from m.what f g m.happens p there);
  covered = λ v p there. covered v p (placed home n v m.from m.what f g m.happens p there);
  asked_is = ap (λ (x : Net). x.asked) m.happens.rest ∙ adds-asked n m.what m.happens.sender.site c m.is f.asked ∙ ap (λ (l : List ℕ). l ++ map (λ (a : ℕ × PeerRef). a.0) (asks n c)) k.asked_is
      ∙ sym (ap (map (λ (a : ℕ × PeerRef). a.0)) (push (λ (z : Node × Call). asks z.0 z.1) ms (n, c)) ∙ map-append (λ (a : ℕ × PeerRef). a.0) (asked ms) (asks n c));
  begun = λ x i name is. begun x i name (get-either (asked ms) (asks n c) x (i, name) (ap (λ (l : List (ℕ × PeerRef)). slice_get l x) (sym (push (λ (z : Node × Call). asks z.0 z.1) ms (n, c))) ∙ is));
}
  where
    each : (v : Node) (p : Place) → Placed n v f m.happens.was m.happens.is p → Recorded v (ms ++ (n, c) ∷ []) p.site
    each v p (is_here same was is) = subst (λ (q : Place). Recorded v (ms ++ (n, c) ∷ []) q.site) is
        (recorded-here home v n ms c (around home f n) m.what m.happens.sender.site m.happens.was.site m.happens.is.site same m.happens.here m.is (k.each v m.happens.was was))
    each v p (is_away other was) = recorded-away v n ms c p.site other (k.each v p was)

    covered : (v : Node) (p : Place) → Placed n v f m.happens.was m.happens.is p → guests home total v (ms ++ (n, c) ∷ []) ≡ false → IsCovered (is_host home total) (submitted_in (calls_at v (ms ++ (n, c) ∷ []))) (taken_in (calls_at v (ms ++ (n, c) ∷ []))) p.site
    covered v p (is_here same was is) =
        subst (λ (q : Place). guests home total v (ms ++ (n, c) ∷ []) ≡ false → IsCovered (is_host home total) (submitted_in (calls_at v (ms ++ (n, c) ∷ []))) (taken_in (calls_at v (ms ++ (n, c) ∷ []))) q.site) is
        (subst (λ (u : Node). guests home total u (ms ++ (n, c) ∷ []) ≡ false → IsCovered (is_host home total) (submitted_in (calls_at u (ms ++ (n, c) ∷ []))) (taken_in (calls_at u (ms ++ (n, c) ∷ []))) m.happens.is.site) (same-node n v same)
        (subst (λ (t : ℕ). guests home t n (ms ++ (n, c) ∷ []) ≡ false → IsCovered (is_host home t) (submitted_in (calls_at n (ms ++ (n, c) ∷ []))) (taken_in (calls_at n (ms ++ (n, c) ∷ []))) m.happens.is.site) k.count
        (covered-here home apart f n m.from ms c m.what m.happens.sender m.happens.was m.happens.is k.sound m.happens.sends m.happens.there m.happens.here m.is
        (subst (λ (t : ℕ). guests home t n ms ≡ false → IsCovered (is_host home t) (submitted_in (calls_at n ms)) (taken_in (calls_at n ms)) m.happens.was.site) (sym k.count) (k.covered n m.happens.was m.happens.there)))))
    covered v p (is_away other was) = covered-away home total v n ms c p.site other (k.covered v p was)

    begun : (x i : ℕ) (name : PeerRef) → (slice_get (asked ms) x ≡ Some (i, name)) ⊎ ((j : ℕ) × (slice_get (asks n c) j ≡ Some (i, name)) × (x ≡ length (asked ms) + j)) → HasEndOf g x i name
    begun x i name (inl before) = end-stays home n m.from m.what f g m.happens x i name (k.begun x i name before)
    begun x i name (inr new) =
        let b = begins-of n m.what m.happens.sender.site c m.is new.0 i name new.1 in
        let long : length f.asked ≡ length (asked ms) = ap length k.asked_is ∙ length-mapped (λ (a : ℕ × PeerRef). a.0) (asked ms) in
        let first : new.0 ≡ 0 = b.1 in
        let place : length f.asked ≡ x = (let e : x ≡ length (asked ms) + new.0 = new.2 in omega arith) in
        subst (λ (z : ℕ). HasEndOf g z i name) place (end-begins home n m.from m.what f g m.happens i name b.0 b.2)

pub all-told : (home : Node → Addr) (apart : AreApart home) (total : ℕ) (before ms : List (Node × Call)) (f g : Net) → AllMake home ms f g → IsTold home apart total before f → IsTold home apart total (before ++ ms) g
all-told home apart total before [] f g r k = subst (λ (l : List (Node × Call)). IsTold home apart total l g) (sym (append-nil before)) (subst (IsTold home apart total before) (sym r) k)
all-told home apart total before (m ∷ ms) f g r k =
    subst (λ (l : List (Node × Call)). IsTold home apart total l g) (append_assoc before (m ∷ []) ms) (all-told home apart total (before ++ m ∷ []) ms r.0 g r.2 (told-on home apart total before m.0 m.1 f r.0 r.1 k))

-- at first
open-recorded : (n : Node) (a : Addr) (c : Config) → is_in_range c ≡ true → Recorded n [] (opened_at a c).site
open-recorded n a c fits = record { few = few-of c fits; ends = λ e h. absurd h; unborn = λ name u. (λ channel. refl, refl) }

open-client : (home : ℕ → Addr) (cs : List Config) (first i : ℕ) (p : Place) → list_all is_in_range cs ≡ true → slice_get (all_opened home first cs) i ≡ Some p → (a : Addr) × (c : Config) × (is_in_range c ≡ true) × (opened_at a c ≡ p)
open-client home [] first i p fits h = absurd (let e : ◌≡◌ {A = Option Place} None (Some p) = h in cc)
open-client home (c ∷ cs) first zero p fits h = (home first, c, (both (is_in_range c) (list_all is_in_range cs) fits).0, same-some (opened_at (home first) c) p h)
open-client home (c ∷ cs) first (suc i) p fits h = open-client home cs (first + 1) i p (both (is_in_range c) (list_all is_in_range cs) fits).1 h

length-opened : (home : ℕ → Addr) (i : ℕ) (cs : List Config) → length (all_opened home i cs) ≡ length cs
length-opened home i [] = refl
length-opened home i (c ∷ cs) = ap (λ (n : ℕ). suc n) (length-opened home (i + 1) cs)

pub open-told : (home : Node → Addr) (apart : AreApart home) (server : Config) (clients : List Config) → is_in_range server ≡ true → list_all is_in_range clients ≡ true → IsTold home apart (length clients) [] (open_net home server clients)
open-told home apart server clients one all = record {
  count = length-opened (λ (k : ℕ). home (Client k)) 0 clients;
  sound = open-sound home apart server clients one all;
  each = each;
  covered = λ n p there quiet. covered n p there;
  asked_is = refl;
  begun = λ x i name h. absurd (let e : ◌≡◌ {A = Option (ℕ × PeerRef)} None (Some (i, name)) = h in cc);
}
  where
    each : (n : Node) (p : Place) → place_of (open_net home server clients) n ≡ Some p → Recorded n [] p.site
    each Server p h = subst (λ (q : Place). Recorded Server [] q.site) (same-some (opened_at (home Server) server) p h) (open-recorded Server (home Server) server one)
    each (Client i) p h =
        let r = open-client (λ (k : ℕ). home (Client k)) clients 0 i p all h in
        subst (λ (q : Place). Recorded (Client i) [] q.site) r.3 (open-recorded (Client i) r.0 r.1 r.2)

    none : (a : Addr) (c : Config) → IsCovered (is_host home (length clients)) (submitted_in []) (taken_in []) (opened_at a c).site
    none a c = record { hosts = λ i t p there has. absurd (none-held c.peers i t p there has); ends = λ name some. absurd (elim some [ inl s ↦ s.1 refl | inr s ↦ s refl ]) }

    covered : (n : Node) (p : Place) → place_of (open_net home server clients) n ≡ Some p → IsCovered (is_host home (length clients)) (submitted_in []) (taken_in []) p.site
    covered Server p h = subst (λ (q : Place). IsCovered (is_host home (length clients)) (submitted_in []) (taken_in []) q.site) (same-some (opened_at (home Server) server) p h) (none (home Server) server)
    covered (Client i) p h =
        let r = open-client (λ (k : ℕ). home (Client k)) clients 0 i p all h in
        subst (λ (q : Place). IsCovered (is_host home (length clients)) (submitted_in []) (taken_in []) q.site) r.3 (none r.0 r.1)

-- end to end

abbrev site-of : Option Place → Option Site
site-of o = option_map (λ (p : Place). p.site) o

get-map-none : {X Y : Type 0} (g : X → Y) (xs : List X) (k : ℕ) → slice_get xs k ≡ None → slice_get (map g xs) k ≡ None
get-map-none g [] k h = refl
get-map-none g (x ∷ xs) zero h = absurd (let e : ◌≡◌ {A = Option _} None (Some x) = sym h in cc)
get-map-none g (x ∷ xs) (suc k) h = get-map-none g xs k h

has-site : (o : Option Place) (s : Site) → site-of o ≡ Some s → (p : Place) × (o ≡ Some p) × (p.site ≡ s)
has-site None s h = absurd (let y : ◌≡◌ {A = Option Site} None (Some s) = h in cc)
has-site (Some p) s h = (p, refl, same-some p.site s h)

get-unmapped : {X Y : Type 0} (g : X → Y) (xs : List X) (k : ℕ) (y : Y) → slice_get (map g xs) k ≡ Some y → (x : X) × (slice_get xs k ≡ Some x) × (g x ≡ y)
get-unmapped g [] k y h = absurd (let e : ◌≡◌ {A = Option _} None (Some y) = h in cc)
get-unmapped g (z ∷ xs) zero y h = (z, refl, same-some (g z) y h)
get-unmapped g (z ∷ xs) (suc k) y h = get-unmapped g xs k y h

-- what a host's calls tell is kept of it
users-calls : (hosts : Addr → Bool) (s : Site) (l : List Call) → IsRecorded (submitted_in l) (taken_in l) s → HasHeadlineAt false hosts s
    → (list_any (brings_guest hosts) l ≡ false → IsCovered hosts (submitted_in l) (taken_in l) s) → IsUsers hosts (user_of_calls hosts l) s
users-calls hosts s l k headline covers = record { recorded = k; headline = headline; covered = covers }

-- the headline, with the names that the server's ends have
abbrev Named : List HostEnd → User → (ℕ → User) → List (ℕ × PeerRef) → Type 0
Named ends server clients asked = (h : IsHeadline server clients asked) × ((x : ℕ) → h.here x ≡ called (end_of x ends))

calls-in-order : (home : Node → Addr) → AreApart home → (server : Config) (clients : List Config) → is_in_range server ≡ true → list_all is_in_range clients ≡ true → (ms : List (Node × Call)) (f : Net) → AllMake home ms (open_net home server clients) f
    → Named f.server.site.ends (user_of_calls (is_host home (length clients)) (calls_at Server ms)) (λ i. user_if (is_host home (length clients)) (slice_get clients i) (calls_at (Client i) ms)) (asked ms)
calls-in-order home apart server clients one all ms f r =
    named-page hosts f.server.site (user_of_calls hosts (calls_at Server ms)) (λ i. site-of (slice_get f.clients i)) (λ i. user_if hosts (slice_get clients i) (calls_at (Client i) ms)) (asked ms)
    (users-calls hosts f.server.site (calls_at Server ms) (k.each Server f.server refl) (headlined Server f.server refl) (covers Server f.server refl))
    (λ i s is. (let p = has-site (slice_get f.clients i) s is in
    subst (IsUsers hosts (user_if hosts (slice_get clients i) (calls_at (Client i) ms))) p.2 (runs i p.0 p.1 (slice_get clients i) refl)))
    begun below absent own
  where
    hosts : Addr → Bool
    hosts = is_host home (length clients)

    k : IsTold home apart (length clients) ms f
    k = all-told home apart (length clients) [] ms (open-net-at) f r (open-told home apart server clients one all)
      where
        open-net-at : Net
        open-net-at = open_net home server clients

    h : HasHeadline home f
    h = has-headline home apart f k.sound

    headlined : (n : Node) (p : Place) → place_of f n ≡ Some p → HasHeadlineAt false hosts p.site
    headlined n p there = subst (λ (t : ℕ). HasHeadlineAt false (is_host home t) p.site) k.count (h.hosts n p there)

    covers : (n : Node) (p : Place) → place_of f n ≡ Some p → list_any (brings_guest hosts) (calls_at n ms) ≡ false → IsCovered hosts (submitted_in (calls_at n ms)) (taken_in (calls_at n ms)) p.site
    covers n p there = k.covered n p there

    -- there are as many clients as settings
    runs : (i : ℕ) (p : Place) → slice_get f.clients i ≡ Some p → (o : Option Config) → slice_get clients i ≡ o → IsUsers hosts (user_if hosts o (calls_at (Client i) ms)) p.site
    runs i p there None none =
        let count : length f.clients ≡ length clients = k.count in
        let low : i < length f.clients = slice_get_within f.clients i p there in
        let there' : (q : Config) × (slice_get clients i ≡ Some q) = get-within clients i (omega arith) in
        absurd (let z : ◌≡◌ {A = Option Config} None (Some there'.0) = sym none ∙ there'.1 in cc)
    runs i p there (Some c) is = users-calls hosts p.site (calls_at (Client i) ms) (k.each (Client i) p there) (headlined (Client i) p there) (covers (Client i) p there)

    -- and no hosts of others
    absent : (i : ℕ) (p : PeerRef) → site-of (slice_get f.clients i) ≡ None → (user_if hosts (slice_get clients i) (calls_at (Client i) ms)).taken p ≡ []
    absent i p none = by (slice_get clients i) refl (slice_get f.clients i) refl none
      where
        by : (o : Option Config) → slice_get clients i ≡ o → (u : Option Place) → slice_get f.clients i ≡ u → site-of u ≡ None → (user_if hosts o (calls_at (Client i) ms)).taken p ≡ []
        by None is u at none = refl
        by (Some q) is (Some place) at none = absurd (let z : ◌≡◌ {A = Option Site} None (Some place.site) = sym none in cc)
        by (Some q) is None at none =
            let low : i < length clients = slice_get_within clients i q is in
            let count : length f.clients ≡ length clients = k.count in
            let there = get-within f.clients i (let l : i < length f.clients = omega arith in l) in
            absurd (let z : ◌≡◌ {A = Option Place} None (Some there.0) = sym at ∙ there.1 in cc)

    below : (e : HostEnd) → Has f.server.site.ends e → e.connection < length (asked ms)
    below e has =
        let a = h.asked e has in
        let low : e.connection < length f.asked = slice_get_within f.asked e.connection a.0 a.1 in
        let same : length f.asked ≡ length (asked ms) = ap length k.asked_is ∙ length-mapped (λ (a : ℕ × PeerRef). a.0) (asked ms) in
        omega arith

    own : (i : ℕ) (s : Site) → site-of (slice_get f.clients i) ≡ Some s → (e : HostEnd) → Has s.ends e → (name : PeerRef) × (slice_get (asked ms) e.connection ≡ Some (i, name))
    own i s is e has =
        let p = has-site (slice_get f.clients i) s is in
        let x : slice_get f.asked e.connection ≡ Some i = h.own i p.0 p.1 e (subst (λ (z : Site). Has z.ends e) (sym p.2) has) in
        let a = get-unmapped (λ (a : ℕ × PeerRef). a.0) (asked ms) e.connection i (ap (λ (l : List ℕ). slice_get l e.connection) (sym k.asked_is) ∙ x) in
        (a.0.1, a.1 ∙ ap (λ (j : ℕ). Some (j, a.0.1)) a.2)

    begun : (x i : ℕ) (name : PeerRef) → slice_get (asked ms) x ≡ Some (i, name) → IsBegun (λ j. site-of (slice_get f.clients j)) f.server.site x i name
    begun x i name is =
        let b = k.begun x i name is in
        let e : HostEnd = b.2 in
        let own : end_of x b.0.site.ends ≡ Some e = subst (λ (n : ℕ). end_of n b.0.site.ends ≡ Some e) b.4 ((h.hosts (Client i) b.0 b.1).only e b.3) in
        let by : slice_get f.asked x ≡ Some i = ap (λ (l : List ℕ). slice_get l x) k.asked_is ∙ get-map (λ (a : ℕ × PeerRef). a.0) (asked ms) x (i, name) is in
        let here : end_in x (client_in f.clients (slice_get f.asked x)) ≡ Some e = ap (λ (o : Option ℕ). end_in x (client_in f.clients o)) by ∙ ap (end_in x) b.1 ∙ own in
        record {
          site = b.0.site;
          is = ap site-of b.1;
          end = e;
          has = b.3;
          connection = b.4;
          named = b.5;
          between = subst (λ (o : Option HostEnd). HasHeadlineBetween o (end_of x f.server.site.ends)) here (h.ends x);
        }

-- a front of an interleaving is one
front-of : (home : Node → Addr) (n : ℕ) (ms : List (Node × Call)) (f g : Net) → AllMake home ms f g → (h : Net) × AllMake home (take n ms) f h
front-of home zero ms f g r = (f, refl)
front-of home (suc n) [] f g r = (g, r)
front-of home (suc n) (m ∷ ms) f g r = (let k = front-of home n ms r.0 g r.2 in (k.0, (r.0, r.1, k.1)))

-- the front of so many calls is all of them
front-all : (home : Node → Addr) (ms : List (Node × Call)) (f g : Net) (r : AllMake home ms f g) → (front-of home (length ms) ms f g r).0 ≡ g
unfolding front-of
front-all home [] f g r = sym r
front-all home (m ∷ ms) f g r = front-all home ms r.0 g r.2

-- what each call keeps, and holds after one front, holds after each longer one
calls-keep : (home : Node → Addr) (P : Net → Type 0) → ((n : Node) (c : Call) (f g : Net) → Makes home n c f g → P f → P g) → (ms : List (Node × Call)) (f g : Net) → AllMake home ms f g → P f → P g
calls-keep home P step [] f g r k = subst P (sym r) k
calls-keep home P step (m ∷ ms) f g r k = calls-keep home P step ms r.0 g r.2 (step m.0 m.1 f r.0 r.1 k)

front-keeps : (home : Node → Addr) (P : Net → Type 0) → ((n : Node) (c : Call) (f g : Net) → Makes home n c f g → P f → P g)
    → (n m : ℕ) → n ≤ m → (ms : List (Node × Call)) (f g : Net) (r : AllMake home ms f g) → P (front-of home n ms f g r).0 → P (front-of home m ms f g r).0
unfolding front-of
front-keeps home P step zero m le ms f g r k = (let t = front-of home m ms f g r in calls-keep home P step (take m ms) f t.0 t.1 k)
front-keeps home P step (suc n) zero le ms f g r k = absurd (let l : suc n ≤ 0 = le in omega arith)
front-keeps home P step (suc n) (suc m) le [] f g r k = k
front-keeps home P step (suc n) (suc m) le (x ∷ ms) f g r k = front-keeps home P step n m (let l : suc n ≤ suc m = le in omega arith) ms r.0 g r.2 k

-- the server has an end of connection x, which has this name, and keeps it
abbrev HasName : ℕ → PeerRef → Net → Type 0
HasName x p f = (e : HostEnd) × Has f.server.site.ends e × (e.connection ≡ x) × (e.name ≡ p)

name-stays : (home : Node → Addr) (m from : Node) (what : Happening) (f g : Net) (h : HappensAt home m from what f g) (x : ℕ) (p : PeerRef) → HasName x p f → HasName x p g
name-stays home Server from what f g h x p k =
    let was : f.server ≡ h.was = same-some f.server h.was h.there in
    let has : Has h.was.site.ends k.0 = subst (λ (q : Place). Has q.site.ends k.0) was k.1 in (
      grown.change k.0,
      subst (λ (q : Place). Has q.site.ends (grown.change k.0)) (sym (ap (λ (y : Net). y.server) h.rest))
          (stays-there h.was.site h.is.site (more_of (length f.asked) h.sender.site h.was.site h.is.site what) grown k.0 has),
      grown.connection k.0 ∙ k.2,
      grown.name k.0 ∙ k.3,
    )
  where
    grown : Grows h.was.site h.is.site (more_of (length f.asked) h.sender.site h.was.site h.is.site what)
    grown = grows (around home f Server) h.sender.site h.was.site h.is.site what h.here
name-stays home (Client i) from what f g h x p k = (k.0, subst (λ (q : Place). Has q.site.ends k.0) (sym (ap (λ (y : Net). y.server) h.rest)) k.1, k.2, k.3)

-- the headline of each front has the names of the server's ends, and they stay
throughout : (home : Node → Addr) → AreApart home → (server : Config) (clients : List Config) → is_in_range server ≡ true → list_all is_in_range clients ≡ true
    → (ms : List (Node × Call)) (f : Net) → AllMake home ms (open_net home server clients) f → (h : HoldsThroughout home clients ms) × ((x : ℕ) → (h.front (length ms)).here x ≡ called (end_of x f.server.site.ends))
throughout home apart server clients one all ms f r =
    (record { front = λ n. (page n).0; stays = keeps }, λ x. (page (length ms)).1 x ∙ ap (λ (g : Net). called (end_of x g.server.site.ends)) (front-all home ms (open_net home server clients) f r))
  where
    at : (n : ℕ) → (g : Net) × AllMake home (take n ms) (open_net home server clients) g
    at n = front-of home n ms (open_net home server clients) f r

    page : (n : ℕ) → Named (at n).0.server.site.ends (user_of_calls (is_host home (length clients)) (calls_at Server (take n ms)))
        (λ i. user_if (is_host home (length clients)) (slice_get clients i) (calls_at (Client i) (take n ms))) (asked (take n ms))
    page n = calls-in-order home apart server clients one all (take n ms) (at n).0 (at n).1

    has : (n x : ℕ) (p : PeerRef) → (page n).0.here x ≡ Some p → HasName x p (at n).0
    has n x p is =
        let t = called-some (end_of x (at n).0.server.site.ends) p (sym ((page n).1 x) ∙ is) in
        let h = has-end x (at n).0.server.site.ends t.0 t.1 in
        (t.0, h.0, h.1, t.2)

    keeps : (n m x : ℕ) (p : PeerRef) → n ≤ m → (page n).0.here x ≡ Some p → (page m).0.here x ≡ Some p
    keeps n m x p le is =
        let k : HasName x p (at m).0 = front-keeps home (HasName x p) (λ i c f g made. name-stays home i made.from made.what f g made.happens x p) n m le ms (open_net home server clients) f r (has n x p is) in
        let told : IsTold home apart (length clients) (take m ms) (at m).0 = all-told home apart (length clients) [] (take m ms) (open_net home server clients) (at m).0 (at m).1 (open-told home apart server clients one all) in
        let h : HasHeadline home (at m).0 = has-headline home apart (at m).0 told.sound in
        let only : end_of k.0.connection (at m).0.server.site.ends ≡ Some k.0 = (h.hosts Server (at m).0.server refl).only k.0 k.1 in
        (page m).1 x ∙ ap called (subst (λ (y : ℕ). end_of y (at m).0.server.site.ends ≡ Some k.0) k.2 only) ∙ ap (λ (q : PeerRef). Some q) k.3

pub at-each-moment : AtEachMoment
at-each-moment home apart server clients one all ms f r = (throughout home apart server clients one all ms f r).0

-- what a service was given, and accepted, and told is what its calls tell
user-calls : (hosts : Addr → Bool) (r : Running) → user_of_calls hosts r.calls ≡ user_of hosts r
user-calls hosts r = (λ i. record { submitted = submitted_in r.calls; taken = λ q. takes q i; guests = list_any (brings_guest hosts) r.calls })
  where
    takes : (q : PeerRef) → taken_in r.calls q ≡ (user_of hosts r).taken q
    takes q = sym ((life-tells (limited r.limit (beginning r.config)) (setting r.limit) r.spans r.left r.calls (setting-silent r.limit) refl r.turns).1 q)

pub end-to-end : EndToEnd
end-to-end home apart server clients one all ms f r at-server at-clients = (named.0, (all-moments.0, λ x. named.1 x ∙ sym (all-moments.1 x)))
  where
    all-moments : (h : HoldsThroughout home (configs clients) ms) × ((x : ℕ) → (h.front (length ms)).here x ≡ called (end_of x f.server.site.ends))
    all-moments = throughout home apart server.config (configs clients) one all ms f r

    hosts : Addr → Bool
    hosts = is_host home (length clients)

    each : (i : ℕ) (o : Option Running) → slice_get clients i ≡ o → user_if hosts (slice_get (configs clients) i) (calls_at (Client i) ms) ≡ user_in hosts (slice_get clients i)
    each i None none = ap (λ (c : Option Config). user_if hosts c (calls_at (Client i) ms)) (get-map-none (λ (q : Running). q.config) clients i none) ∙ ap (user_in hosts) (sym none)
    each i (Some q) is =
        ap (λ (c : Option Config). user_if hosts c (calls_at (Client i) ms)) (get-map (λ (x : Running). x.config) clients i q is) ∙ ap (user_of_calls hosts) (at-clients i q is) ∙ user-calls hosts q ∙ ap (user_in hosts) (sym is)

    named : Named f.server.site.ends (user_of hosts server) (λ i. user_in hosts (slice_get clients i)) (asked ms)
    named =
        subst (λ (u : User). Named f.server.site.ends u (λ i. user_in hosts (slice_get clients i)) (asked ms)) (ap (user_of_calls hosts) at-server ∙ user-calls hosts server)
        (subst (λ (us : ℕ → User). Named f.server.site.ends (user_of_calls hosts (calls_at Server ms)) us (asked ms)) (λ j i. each i (slice_get clients i) refl j)
        (subst (λ (t : ℕ). Named f.server.site.ends (user_of_calls (is_host home t) (calls_at Server ms)) (λ i. user_if (is_host home t) (slice_get (configs clients) i) (calls_at (Client i) ms)) (asked ms)) (length-mapped (λ (q : Running). q.config) clients)
        (calls-in-order home apart server.config (configs clients) one all ms f r)))

-- game threads

behind : (hosts : Addr → Bool) (r : Running) (t : Threads r) → IsBehind (user_of hosts r) (user_by hosts r t)
behind hosts r t = record {
  same = refl;
  more = λ p channel. (let m = k.more p channel in
      (m.0, m.1 ∙ ap (λ (ps : List Packet). ps ++ m.0) (sym (sent-behind (setting r.limit) k.calls r.calls (setting-silent r.limit) k.calls_are p channel))));
  fewer = λ p. (
    filter (is_of p) k.left,
    ap (λ (spans : List Span). filter (is_of p) (told (rounds_in spans) r.left.waiting)) t.spans_are ∙ ap (filter (is_of p)) k.got ∙ filter-append (is_of p) (flat_map (λ (x : Part). x.got) t.parts) k.left,
  );
}
  where
    k : Behind (begun r.config r.limit) t.parts (noted r.left r.calls)
    k = all-behind (begun r.config r.limit) t.parts (noted r.left r.calls) nothing-sorted t.in_order t.over

pub behind-at : (hosts : Addr → Bool) (o : Option Running) (t : ThreadsAt o) → IsBehind (user_in hosts o) (user_at hosts o t)
behind-at hosts None t = record { more = λ p channel. ([], refl); fewer = λ p. ([], refl); same = refl }
behind-at hosts (Some r) t = behind hosts r t

pub between-threads : BetweenThreads
between-threads hosts server clients asked h here threads =
    holds-behind (user_of hosts server) (user_by hosts server here) (λ i. user_in hosts (slice_get clients i)) (λ i. user_at hosts (slice_get clients i) (threads i)) asked
    (behind hosts server here) (λ i. behind-at hosts (slice_get clients i) (threads i)) h
