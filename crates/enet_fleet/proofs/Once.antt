-- What comes unsequenced to the end of a connection at a host of a fleet, along a run, and that none of it is taken twice.
use Rattle.std.proofs.Common.{◌≡◌, ◌≢◌, ℕ, zero, suc, ◌+◌, ◌<◌, ◌≤◌, Bool, true, false, List, [], ◌∷◌, ◌++◌, map, length, get_or, refl, sym, ap, subst, ◌∙◌, append-nil, append_assoc, arith, eq-eqb, inl, inr, ◌⊎◌, Option, Some, None, Result, Ok, Err, slice_get}
use Rattle.std.specs.Prelude.{zip, flat_map, IfOk}
use Rattle.std.specs.List.{list_all}
use Rattle.std.proofs.lemmas.List.{length-append}
use Rattle.std.proofs.lemmas.List.Elements.{filter-append}
use Rattle.std.proofs.lemmas.List.Quantifiers.{all_pairs_push}
use Rattle.enet_codec.specs.declared.address.Addr.{Addr}
use Rattle.enet_codec.specs.declared.config.Config.{Config}
use Rattle.enet_codec.specs.declared.header.Header.{Header}
use Rattle.enet_codec.specs.declared.event.PeerRef.{PeerRef}
use Rattle.enet_codec.specs.declared.event.Received.{Received}
use Rattle.enet_codec.specs.declared.packet.Packet.{Packet}
use Rattle.enet_codec.specs.declared.refusal.Refusal.{Refusal}
use Rattle.enet_codec.specs.Config.{is_in_range}
use Rattle.enet_outbox.specs.declared.parts.Unsequenced.{Unsequenced}
use Rattle.enet_outbox.specs.Outbox.{is_unsequenced}
use Rattle.enet_peer.specs.declared.parts.PeerEvent.{PeerEvent}
use Rattle.enet_peer.specs.declared.parts.PeerEvent.TheVariants as told
use Rattle.enet_peer.specs.Heading.{IsRead}
use Rattle.enet_peer.specs.Peering.{Peering}
use Rattle.enet_slot.specs.Calls.{event_of}
use Rattle.enet_slot.specs.Giving.{limits_of}
use Rattle.law_connection.specs.LinkSteps.{Has}
use Rattle.law_connection.specs.Connection.{Put, End, packets_of, messages_of}
use Rattle.law_connection.specs.Invariant.{IsFit}
use Rattle.law_connection.specs.Steps.{Event, Come, Happens, no_end, asking_pair}
use Rattle.law_connection.proofs.CleanLogs.{clean-nothing}
use Rattle.law_connection.proofs.FitEnds.{fit-happens}
use Rattle.law_connection.proofs.Laws.{asking-kept}
use Rattle.law_connection.proofs.Lists.{Has-append_cases, Has-slice_get}
use Rattle.law_unsequenced.specs.Law.{AreInTime}
use Rattle.law_unsequenced.specs.Unsequenced.{going_unsequenced, come_unsequenced, come_by, carried, IsNth, ComeAs, Each}
use Rattle.law_unsequenced.proofs.Parts.{nth-more}
use Rattle.law_unsequenced.proofs.Taking.{Gets}
use Rattle.law_network.specs.Calls.{Call}
use Rattle.law_network.specs.Calls as call
use Rattle.law_network.specs.Headline.{received}
use Rattle.law_network.specs.Law.{AreNamed, time_drawn, GoesOn, IsElsewhere, IsBetween, Faces, Begins}
use Rattle.law_network.specs.Log.{Logged, greatest_at}
use Rattle.law_network.specs.Network.{HostEnd, Site, end_of, numbers_of}
use Rattle.law_network.specs.Shown.{IsLogged, Shows, ShowsFar, RunsAt}
use Rattle.law_network.specs.Steps.{Around, Happening, Calls, Delivers, HappensAmong, BringsOne}
use Rattle.law_network.proofs.Beginnings.{asked, answered}
use Rattle.law_network.proofs.Delivering.{end-there}
use Rattle.law_network.proofs.Growing.{Grows, grows, more_of, more_in, from-before, begun-is}
use Rattle.law_network.proofs.Lists.{same-or}
use Rattle.law_network.proofs.OneThing.{one-thing}
use Rattle.law_network.proofs.Submitting.{same-some}
use Rattle.law_network.proofs.Worlds.{IsHost, AreAllOf, far-shown, nothing-of}
use Rattle.law_network.specs.Places.{Place}
use Rattle.law_headline.specs.declared.node.Node.{Node}
use Rattle.law_headline.specs.declared.node.Node.TheVariants.{Server, Client}
use Rattle.law_headline.specs.Nets.{client_in, numbers_at}
use Rattle.law_headline.proofs.Net as net
use Rattle.law_headline.proofs.Page.{has-end}
use Rattle.law_headline.proofs.Telling.{push}
use Rattle.enet_fleet.specs.declared.answer.Answer.{Answer}
use Rattle.enet_fleet.specs.declared.answer.Answer.TheVariants as answers
use Rattle.enet_fleet.specs.declared.event.FleetEvent.{FleetEvent}
use Rattle.enet_fleet.specs.declared.event.FleetEvent.TheVariants as happen
use Rattle.enet_fleet.specs.Fleets.{Fleet, place_of, address_of, brings, node_of, from_of, Makes, Steps, Runs, open_fleet}
use Rattle.enet_fleet.specs.Private.Around.{around}
use Rattle.enet_fleet.specs.Reached.{fit}
use Rattle.enet_fleet.specs.Told.{IsToldBy}
use Rattle.enet_fleet.specs.Transcript.{Happened, is_node, taken}
use Rattle.enet_fleet.specs.Once.{submits_any, going, IsRecent, Carries, datagram_in, BringsRecent, AreRecent, AreTakenOnce, HasEnd, NoneIsTakenTwice}
use Rattle.enet_fleet.proofs.Getting.{into, comes-of, taken-once, gets-first}
use Rattle.enet_fleet.proofs.Places.{apart, Sound}
use Rattle.enet_fleet.proofs.Reaching.{fit-server, fit-clients}
use Rattle.enet_fleet.proofs.Runs.{sound-step, sound-run}
use Rattle.enet_fleet.proofs.Told.{HappensAt, Placed, is_here, is_away, where-is, same-node, node-host, each-list}
use Rattle.enet_fleet.proofs.Trimmed.{trimmed, sent-trimmed, logged-trimmed, kept-put}

-- what comes has numbers, none of which is late

number-low : (qs : List Packet) (n : ℕ) (u : Unsequenced) → ComeAs qs n u → n ≤ length qs
number-low qs n u c =
    let k : IsNth qs n u.channel u.body = c.1 in
    let long : length qs ≡ length k.before + length (k.packet ∷ k.later) = ap length k.split ∙ length-append k.before (k.packet ∷ k.later) in
    let number : n ≡ length k.before + 1 = k.number in
    omega arith

numbers-low : (qs : List Packet) (numbers : List ℕ) (come : List Unsequenced) → Each (ComeAs qs) numbers come → (k d : ℕ) → k < length numbers → get_or numbers k d ≤ length qs
numbers-low qs [] come e k d low = absurd (omega arith)
numbers-low qs (n ∷ numbers) [] e k d low = absurd e
numbers-low qs (n ∷ numbers) (u ∷ come) e zero d low = number-low qs n u e.0
numbers-low qs (n ∷ numbers) (u ∷ come) e (suc k) d low = numbers-low qs numbers come e.1 k d (omega arith)

each-push : (qs : List Packet) (numbers : List ℕ) (come : List Unsequenced) (n : ℕ) (u : Unsequenced) → Each (ComeAs qs) numbers come → ComeAs qs n u → Each (ComeAs qs) (numbers ++ n ∷ []) (come ++ u ∷ [])
each-push qs [] [] n u e c = (c, tt)
each-push qs [] (v ∷ come) n u e c = absurd e
each-push qs (m ∷ numbers) [] n u e c = absurd e
each-push qs (m ∷ numbers) (v ∷ come) n u e c = (e.0, each-push qs numbers come n u e.1 c)

-- the numbers of what came
record HasNumbers (qs : List Packet) (come : List Unsequenced) : Type 0 where
  numbers : List ℕ
  each : Each (ComeAs qs) numbers come
  in_time : AreInTime numbers

more-numbers : (qs : List Packet) (more come : List Unsequenced) → HasNumbers qs come → ((u : Unsequenced) → Has more u → IsRecent qs u) → HasNumbers qs (come ++ more)
more-numbers qs [] come k recent = subst (HasNumbers qs) (sym (append-nil come)) k
more-numbers qs (u ∷ more) come k recent = (let r = recent u (inl refl) in
    subst (HasNumbers qs) (append_assoc come (u ∷ []) more) (more-numbers qs more (come ++ u ∷ []) (record {
      numbers = k.numbers ++ r.0 ∷ [];
      each = each-push qs k.numbers come r.0 u k.each r.1;
      in_time = all_pairs_push (λ earlier later. earlier ≤ later + 32768) k.numbers r.0 k.in_time
          (λ i d low. let below : get_or k.numbers i d ≤ length qs = numbers-low qs k.numbers come k.each i d low in let last = r.2 in omega arith);
    }) (λ v h. recent v (inr h))))

-- more packets were submitted
each-more : (qs more : List Packet) (numbers : List ℕ) (come : List Unsequenced) → Each (ComeAs qs) numbers come → Each (ComeAs (qs ++ more)) numbers come
each-more qs more [] [] e = tt
each-more qs more [] (u ∷ come) e = absurd e
each-more qs more (n ∷ numbers) [] e = absurd e
each-more qs more (n ∷ numbers) (u ∷ come) e = ((e.0.0, nth-more qs more n u.channel u.body e.0.1), each-more qs more numbers come e.1)

-- an end that a host shows, with all that came to it unsequenced

record Track (s : Site) (t : HostEnd) (qs : List Packet) : Type 0 where
  own : End
  shows : Shows s t own
  fit : IsFit own
  come : List Unsequenced
  gets : Gets come own.events own.peer
  numbers : HasNumbers qs come

track-more : (s : Site) (t : HostEnd) (qs more all : List Packet) → all ≡ qs ++ more → Track s t qs → Track s t all
track-more s t qs more all e k = subst (Track s t) (sym e) (record {
  own = k.own;
  shows = k.shows;
  fit = k.fit;
  come = k.come;
  gets = k.gets;
  numbers = (let n = k.numbers in record { numbers = n.numbers; each = each-more qs more n.numbers k.come n.each; in_time = n.in_time });
})

-- events at one end

abbrev come_all : List Event → List Unsequenced
come_all [] = []
come_all (e ∷ es) = come_by e ++ come_all es

gets-ran : (es : List Event) (own far new : End) (come : List Unsequenced) → RunsAt es own far new → IsFit own → Gets come own.events own.peer → IsFit new × Gets (come ++ come_all es) new.events new.peer
gets-ran [] own far new come r f g = subst (λ (x : End). IsFit x × Gets (come ++ []) x.events x.peer) r (f, subst (λ (l : List Unsequenced). Gets l own.events own.peer) (sym (append-nil come)) g)
gets-ran (e ∷ es) own far new come r f g =
    let n = gets-ran es r.0 far new (come ++ come_by e) r.2 (fit-happens own far r.0 e f r.1) (into own far r.0 e come f r.1 g) in
    (n.0, subst (λ (l : List Unsequenced). Gets l new.events new.peer) (append_assoc come (come_by e) (come_all es)) n.1)

come-put : (es : List Event) (own far new : End) → RunsAt es own far new → (u : Unsequenced) → Has (come_all es) u → (x : Put) × Has far.log x × Has (carried x.message) u
come-put [] own far new r u h = absurd h
come-put (e ∷ es) own far new r u h = elim (Has-append_cases (come_by e) (come_all es) u h) [ inl now ↦ comes-of own far r.0 e r.1 u now | inr later ↦ come-put es r.0 far new r.2 u later ]

only-one : (d c : Logged) (j : ℕ) → slice_get (d ∷ []) j ≡ Some c → d ≡ c
only-one d c zero h = same-some d c h
only-one d c (suc j) h = absurd (let e : ◌≡◌ {A = Option Logged} None (Some c) = h in cc)

Has-mapped : (xs : List Put) (x : Put) → Has xs x → Has (messages_of xs) x.message
Has-mapped [] x h = absurd h
Has-mapped (y ∷ xs) x (inl e) = inl (ap (λ (z : Put). z.message) e)
Has-mapped (y ∷ xs) x (inr h) = inr (Has-mapped xs x h)

-- what a host shows of an end's other one, and what is around it
record Beside (w : Around) (from s : Site) (x : ℕ) : Type 0 where
  other : Site
  far : End
  shown : ShowsFar other x far
  numbers : w.numbers x ≡ numbers_of other x
  strangers : AreAllOf s x (λ e. (a : Addr) → w.is_host a ≡ false → IsElsewhere s e a)
  sender : (from ≡ other) ⊎ AreAllOf s x (λ e. IsElsewhere s e from.address)

-- what is brought of connection x is recent
abbrev BroughtRecent : ℕ → List Packet → Site → Happening → Type 0
BroughtRecent x qs from (Calls c) = Unit {0}
BroughtRecent x qs from (Delivers k answer) = (d : Logged) → slice_get from.log k ≡ Some d → d.connection ≡ x → (u : Unsequenced) → Carries d.text u → IsRecent qs u

-- an end goes on
record TracksOn (new : Site) (x : ℕ) (qs : List Packet) : Type 0 where
  after : HostEnd
  there : Has new.ends after
  of : after.connection ≡ x
  track : Track new after qs

module _ (w : Around) (from old new : Site) (qs : List Packet) (count : ℕ) (k : IsHost old count) (named : AreNamed from.log) (e : HostEnd) (h : Has old.ends e) (t : Track old e qs) (b : Beside w from old e.connection) where
  facing : (keep : List Put) → Faces w old e (trimmed keep b.far)
  facing keep = record {
    numbers = λ channel low. ap (λ (l : List ℕ). greatest_at l channel) b.numbers ∙ b.shown.greatest channel low ∙ sym (sent-trimmed channel keep b.far);
    strangers = λ a strange. b.strangers e h refl a strange;
  }

  went-on : (keep : List Put) → ((x : Put) (u : Unsequenced) → Has keep x → Has (carried x.message) u → IsRecent qs u) → GoesOn t.own (trimmed keep b.far) new e → TracksOn new e.connection qs
  went-on keep recent g = (let far : End = trimmed keep b.far in let es : List Event = g.went.events in
      let r = gets-ran es t.own far g.went.new t.come g.went.runs t.fit t.gets in
      record {
        after = g.after;
        there = g.there;
        of = g.connection;
        track = record {
          own = g.went.new;
          shows = g.went.shows;
          fit = r.0;
          come = t.come ++ come_all es;
          gets = r.1;
          numbers = more-numbers qs (come_all es) t.come t.numbers (λ u c. let p = come-put es t.own far g.went.new g.went.runs u c in recent p.0 u (kept-put keep b.far p.0 u p.1 p.2) p.2);
        };
      })

  none-kept : (x : Put) (u : Unsequenced) → Has [] x → Has (carried x.message) u → IsRecent qs u
  none-kept x u there c = absurd there

  -- a datagram of the connection, by which its commands come, or another
  abbrev alone : Logged → Site
  alone d = record from { log = d ∷ [] }

  named-alone : (d : Logged) → Has from.log d → AreNamed (alone d).log
  named-alone d there c i = elim i [
    | inl same ↦ subst (λ (z : Logged). (hd : Header) (commands : List ℕ) → IsRead z.text hd commands → z.peer ≡ hd.peer) same (named d there)
    | inr none ↦ absurd none
  ]

  shows-alone : (d : Logged) (keep : List Put) → from ≡ b.other → (d.connection ≡ e.connection → IsLogged (trimmed keep b.far).log d) → ShowsFar (alone d) e.connection (trimmed keep b.far)
  shows-alone d keep same logged = record {
    log = λ j c at of. (let is : d ≡ c = only-one d c j at in
        subst (IsLogged (trimmed keep b.far).log) is (logged (ap (λ (z : Logged). z.connection) is ∙ of)));
    greatest = λ channel low. ap (λ (s : Site). greatest_at (numbers_of s e.connection) channel) same ∙ b.shown.greatest channel low ∙ sym (sent-trimmed channel keep b.far);
  }

  brought : (i : ℕ) (answer : Received) (found : Option Logged) → slice_get from.log i ≡ found → BringsOne from found answer old new
      → ((d : Logged) → slice_get from.log i ≡ Some d → d.connection ≡ e.connection → (u : Unsequenced) → Carries d.text u → IsRecent qs u) → TracksOn new e.connection qs
  brought i answer None is x recent = absurd x
  brought i answer (Some d) is x recent = elim b.sender [ inl same ↦ of-other same (same-or d.connection e.connection) | inr away ↦ going-on [] none-kept (inr (away e h refl)) ]
    where
      going-on : (keep : List Put) → ((y : Put) (u : Unsequenced) → Has keep y → Has (carried y.message) u → IsRecent qs u) → IsBetween (alone d) (Delivers 0 answer) old e (trimmed keep b.far) → TracksOn new e.connection qs
      going-on keep kept between = went-on keep kept
          (one-thing old k.few w (alone d) new (Delivers 0 answer) x (named-alone d (Has-slice_get from.log i d is)) e h (k.apart e h) t.own (trimmed keep b.far) t.shows (facing keep) between)

      of-other : from ≡ b.other → (d.connection ≡ e.connection) ⊎ (d.connection ≢ e.connection) → TracksOn new e.connection qs
      of-other same (inr other) = going-on [] none-kept (inl (shows-alone d [] same (λ of. absurd (other of))))
      of-other same (inl of) =
          let l : IsLogged b.far.log d = b.shown.log i d (subst (λ (s : Site). slice_get s.log i ≡ Some d) same is) of in
          going-on l.puts (λ y u there c. recent d is of u (l.header, messages_of l.puts, l.spelled, y.message, Has-mapped l.puts y there, c)) (inl (shows-alone d l.puts same (λ of'. logged-trimmed b.far d l)))

  goes : (what : Happening) → HappensAmong w from what old new → BroughtRecent e.connection qs from what → TracksOn new e.connection qs
  goes (Calls c) x recent = went-on [] none-kept (one-thing old k.few w from new (Calls c) x named e h (k.apart e h) t.own (trimmed [] b.far) t.shows (facing []) tt)
  goes (Delivers i answer) x recent = brought i answer (slice_get from.log i) refl x recent

-- what is around an end of a fleet's host

node-self : (n : Node) → is_node n n ≡ true
node-self Server = refl
node-self (Client i) = eq-eqb i i refl

-- a host of a fleet, which something of another comes to
module _ (f : Fleet) (s : Sound f) (m : Node) (was : Place) (there : place_of f m ≡ Some was) where
  own : net.Holds address_of apart f.asked (length f.clients) m was.site
  own = net.each-holds address_of apart f s m was there

  -- its other host
  module _ (from : Node) (sender : Place) (sends : place_of f from ≡ Some sender) (x : ℕ) (n : Node) (p : Place) (is : place_of f n ≡ Some p) (at : net.place address_of apart f.asked m x ≡ address_of n) where
    far-from : is_node from n ≡ false → address_of n ≢ sender.site.address
    far-from other same =
        let by : sender.site.address ≡ address_of from = (net.each-holds address_of apart f s from sender sends).address in
        let node : n ≡ from = apart n from (same ∙ by) in
        let z : true ≡ false = sym (node-self n) ∙ ap (λ (y : Node). is_node y n) node ∙ other in cc

    sent-by : (b : Bool) → is_node from n ≡ b → (sender.site ≡ p.site) ⊎ AreAllOf was.site x (λ e. IsElsewhere was.site e sender.site.address)
    sent-by true same = inl (ap (λ (q : Place). q.site) (same-some sender p (sym sends ∙ ap (place_of f) (same-node from n same) ∙ is)))
    sent-by false other = inr (net.ends-elsewhere address_of apart f.asked (length f.clients) m was.site x (address_of n) own at sender.site.address (far-from other))

    beside : (far : End) → ShowsFar p.site x far → (around f m).numbers x ≡ numbers_of p.site x → Beside (around f m) sender.site was.site x
    beside far shown numbers = record {
      other = p.site;
      far = far;
      shown = shown;
      numbers = numbers;
      strangers = net.no-strangers address_of apart f.asked (length f.clients) m was.site x (address_of n) own at (node-host f n p is);
      sender = sent-by (is_node from n) refl;
    }

beside-at : (f : Fleet) (s : Sound f) (m from : Node) (was sender : Place) → place_of f m ≡ Some was → place_of f from ≡ Some sender → (e : HostEnd) → Has was.site.ends e → Beside (around f m) sender.site was.site e.connection
beside-at f s Server from was sender there sends e h =
    let x : ℕ = e.connection in
    let a = net.asked-end address_of apart f.asked (length f.clients) Server was.site e (own f s Server was there) h in
    let r = s.pairs x a.0 a.1 in
    beside f s Server was there from sender sends x (Client a.0) r.0 r.1 (ap (net.place_in address_of apart) a.1) r.2.one (far-shown r.0.site (length f.asked) x r.2.one (s.clients a.0 r.0 r.1).host r.2.here)
    (ap (λ (o : Option ℕ). numbers_at x (client_in f.clients o)) a.1 ∙ ap (numbers_at x) r.1)
beside-at f s (Client i) from was sender there sends e h =
    let x : ℕ = e.connection in
    let k = s.clients i was there in
    let r = s.pairs x i (k.own e h) in
    beside f s (Client i) was there from sender sends x Server f.server refl refl r.2.two (far-shown f.server.site (length f.asked) x r.2.two s.server.host r.2.there) refl

-- an end that begins

-- a host shows from afar the end of a connection of which it put a datagram out
any-far : (f : Fleet) (s : Sound f) (n : Node) (p : Place) → place_of f n ≡ Some p → (d : Logged) → Has p.site.log d → (far : End) × ShowsFar p.site d.connection far
any-far f s Server p there d h =
    let a = net.asked-sent address_of apart f.asked (length f.clients) Server p.site d (own f s Server p there) h in
    let r = s.pairs d.connection a.0 a.1 in
    subst (λ (q : Place). (far : End) × ShowsFar q.site d.connection far) (same-some f.server p there) (r.2.two, far-shown f.server.site (length f.asked) d.connection r.2.two s.server.host r.2.there)
any-far f s (Client i) p there d h =
    let k = s.clients i p there in
    let l = k.host.logged d h in
    let r = s.pairs d.connection i (subst (λ (x : ℕ). slice_get f.asked x ≡ Some i) l.2 (k.own l.0 l.1)) in
    subst (λ (q : Place). (far : End) × ShowsFar q.site d.connection far) (same-some r.0 p (sym r.1 ∙ there)) (r.2.one, far-shown r.0.site (length f.asked) d.connection r.2.one (s.clients i r.0 r.1).host r.2.here)

fit-none : IsFit no_end
fit-none = record { clean = clean-nothing no_end refl; taken = λ channel far. refl; peer = refl }

no-numbers : (qs : List Packet) → HasNumbers qs []
no-numbers qs = record { numbers = []; each = tt; in_time = λ i j d low within. absurd (omega arith) }

-- nothing comes to nobody
begins-quiet : (own far new : End) (e : Event) → own.peer ≡ None → Happens own far e new → come_by e ≡ []
begins-quiet own far new (Come put now sent) none h = absurd (let z : ◌≡◌ {A = Option Peering} None (Some h.0) = sym none ∙ h.1 in cc)
begins-quiet own far new e none h = refl

begun-track : (w : Around) (from old new : Site) (count : ℕ) → IsHost old count → (x : ℕ) (qs : List Packet) → ((e : HostEnd) → Has old.ends e → e.connection ≢ x) → ((d : Logged) → Has from.log d → (far : End) × ShowsFar from d.connection far)
    → (what : Happening) → HappensAmong w from what old new → (t : HostEnd) → Has (more_of w.count from old new what) t → t.connection ≡ x → Track new t qs
begun-track w from old new count k x qs none shown (Calls (call.Connect address channels info word (Ok name))) happens t (inl is) of =
    let at : w.count ≡ x = ap (λ (z : HostEnd). z.connection) is ∙ of in
    let y = asked w from old new address channels info word name happens (nothing-of old count w.count k (λ e h same. none e h (same ∙ at))) in
    subst (λ (z : HostEnd). Track new z qs) is (record {
      own = (asking_pair old.host.clock (time_drawn old.host.config name) y.0 (limits_of old.host.config)).one;
      shows = y.3;
      fit = (asking-kept old.host.clock (time_drawn old.host.config name) y.0 (limits_of old.host.config)).one;
      come = [];
      gets = gets-first (asking_pair old.host.clock (time_drawn old.host.config name) y.0 (limits_of old.host.config)).one refl refl refl;
      numbers = no-numbers qs;
    })
begun-track w from old new count k x qs none shown (Calls (call.Connect address channels info word (Ok name))) happens t (inr more) of = absurd more
begun-track w from old new count k x qs none shown (Calls c) happens t h of = absurd h
begun-track w from old new count k x qs none shown (Delivers i answer) happens t h of = by (slice_get from.log i) refl happens h
  where
    by : (found : Option Logged) → slice_get from.log i ≡ found → BringsOne from found answer old new → Has (more_in from.address old new found) t → Track new t qs
    by None is brings y = absurd y
    by (Some d) is brings y =
        let b = begun-is d.connection from.address old.host new.host t y in
        let at : d.connection ≡ x = ap (λ (z : HostEnd). z.connection) (sym b.4) ∙ of in
        let far = shown d (Has-slice_get from.log i d is) in
        let z : Begins far.0 new t = answered i answer d from old new k.few brings is (nothing-of old count d.connection k (λ e h same. none e h (same ∙ at))) t y far.0 far.1 in
        record {
          own = z.own;
          shows = z.shows;
          fit = fit-happens no_end far.0 z.own z.event fit-none z.answers;
          come = come_by z.event;
          gets = into no_end far.0 z.own z.event [] fit-none z.answers (gets-first no_end refl refl refl);
          numbers = subst (HasNumbers qs) (sym (begins-quiet no_end far.0 z.own z.event refl z.answers)) (no-numbers qs);
        }

-- one thing at a host

-- all ends of connection x at a host
abbrev Tracks : Site → ℕ → List Packet → Type 0
Tracks s x qs = (t : HostEnd) → Has s.ends t → t.connection ≡ x → Track s t qs

host-goes : (f : Fleet) (s : Sound f) (m from : Node) (what : Happening) (sender was is : Place) (count x : ℕ) (qs : List Packet) → place_of f m ≡ Some was → place_of f from ≡ Some sender → HappensAmong (around f m) sender.site what was.site is.site
    → IsHost is.site count → BroughtRecent x qs sender.site what → Tracks was.site x qs → Tracks is.site x qs
host-goes f s m from what sender was is count x qs there sends happens after recent k t h of = by (end_of x was.site.ends) refl
  where
    w : Around
    w = around f m

    host : IsHost was.site (length f.asked)
    host = (own f s m was there).host

    grown : Grows was.site is.site (more_of w.count sender.site was.site is.site what)
    grown = grows w sender.site was.site is.site what happens

    on : (e : HostEnd) → Has was.site.ends e → e.connection ≡ x → TracksOn is.site e.connection qs
    on e there' same = goes w sender.site was.site is.site qs (length f.asked) host (own f s from sender sends).host.named e there' (k e there' same) (beside-at f s m from was sender there sends e there') what happens
        (subst (λ (y : ℕ). BroughtRecent y qs sender.site what) (sym same) recent)

    begins : ((e : HostEnd) → Has was.site.ends e → e.connection ≢ x) → Track is.site t qs
    begins none = elim (from-before was.site is.site (more_of w.count sender.site was.site is.site what) grown t h) [
      | inl old ↦ absurd (none old.0 old.1 (sym (grown.connection old.0) ∙ ap (λ (z : HostEnd). z.connection) old.2 ∙ of))
      | inr new' ↦ begun-track w sender.site was.site is.site (length f.asked) host x qs none (any-far f s from sender sends) what happens t new' of
    ]

    by : (o : Option HostEnd) → end_of x was.site.ends ≡ o → Track is.site t qs
    by (Some e) found =
        let here = has-end x was.site.ends e found in
        let r : TracksOn is.site e.connection qs = on e here.0 here.1 in
        subst (λ (z : HostEnd). Track is.site z qs) (after.apart t h r.after r.there (inr (r.of ∙ here.1 ∙ sym of))) r.track
    by None found = begins (λ e h' same. absurd (let z : ◌≡◌ {A = Option HostEnd} None (Some e) = sym found ∙ ap (λ (y : ℕ). end_of y was.site.ends) (sym same) ∙ end-there was.site.ends e h' (host.apart e h') in cc))

-- what an event brings

brought-by : (f : Fleet) (v : FleetEvent) (a : Answer) (what : Happening) (m : Node) (sender : Place) (x : ℕ) (qs : List Packet) → place_of f (from_of v) ≡ Some sender → node_of v ≡ m → Makes f v a what → BringsRecent f m x qs v (Ok a) → BroughtRecent x qs sender.site what
brought-by f (happen.Connect client channels info word) (answers.Peer name) what m sender x qs sends here mk r = subst (BroughtRecent x qs sender.site) (sym mk) tt
brought-by f (happen.Submit node peer channel flags body) answers.Done what m sender x qs sends here mk r = subst (BroughtRecent x qs sender.site) (sym mk) tt
brought-by f (happen.Deliver to from k) (answers.Received answer) what m sender x qs sends here mk r =
    subst (BroughtRecent x qs sender.site) (sym mk.2) (λ d is of u c. r here d (ap (λ (o : Option Place). datagram_in o (brings to (place_of f from) k)) sends ∙ ap (datagram_in (Some sender)) mk.1 ∙ is) of u c)
brought-by f (happen.Stranger to addr bytes) (answers.Received answer) what m sender x qs sends here mk r = subst (BroughtRecent x qs sender.site) (sym mk) tt
brought-by f (happen.Turn node) (answers.Sent None) what m sender x qs sends here mk r = subst (BroughtRecent x qs sender.site) (sym mk.1) tt
brought-by f (happen.Turn node) (answers.Sent (Some k)) what m sender x qs sends here mk r = subst (BroughtRecent x qs sender.site) (sym mk.2) tt
brought-by f (happen.Tick node ms) answers.Done what m sender x qs sends here mk r = subst (BroughtRecent x qs sender.site) (sym mk) tt
brought-by f (happen.Take node) (answers.Taken None) what m sender x qs sends here mk r = subst (BroughtRecent x qs sender.site) (sym mk) tt
brought-by f (happen.Take node) (answers.Taken (Some told')) what m sender x qs sends here mk r = subst (BroughtRecent x qs sender.site) (sym mk.0) tt
brought-by f (happen.Disconnect node peer how info) answers.Done what m sender x qs sends here mk r = subst (BroughtRecent x qs sender.site) (sym mk) tt
brought-by f (happen.Admit node what') answers.Done what m sender x qs sends here mk r = subst (BroughtRecent x qs sender.site) (sym mk) tt
brought-by f (happen.SetSendLimit node bytes commands) answers.Done what m sender x qs sends here mk r = subst (BroughtRecent x qs sender.site) (sym mk) tt
brought-by f v a what m sender x qs sends here mk r = absurd mk

-- a run

module _ (n m : Node) (e : HostEnd) where
  going-more : (hs : List Happened) (h : Happened) → going n e (hs ++ h ∷ []) ≡ going n e hs ++ going_unsequenced e.mtu (submits_any n e.name h.0 h.1)
  going-more hs h =
      ap (going_unsequenced e.mtu) (push (λ (y : Happened). submits_any n e.name y.0 y.1) hs h)
      ∙ filter-append (λ (q : Packet). is_unsequenced e.mtu (record { flags = q.flags; body = q.body })) (flat_map (λ (y : Happened). submits_any n e.name y.0 y.1) hs) (submits_any n e.name h.0 h.1)

  abbrev AreTracked : List Happened → Fleet → Type 0
  AreTracked hs f = (p : Place) → place_of f m ≡ Some p → Tracks p.site e.connection (going n e hs)

  one-more : (hs : List Happened) (h : Happened) (s : Site) → Tracks s e.connection (going n e hs) → Tracks s e.connection (going n e (hs ++ h ∷ []))
  one-more hs h s k t there of = track-more s t (going n e hs) (going_unsequenced e.mtu (submits_any n e.name h.0 h.1)) (going n e (hs ++ h ∷ [])) (going-more hs h) (k t there of)

  step-tracked : (hs : List Happened) (f g : Fleet) (v : FleetEvent) (a : Result Answer Refusal) → Steps f v a g → Sound f → Sound g → BringsRecent f m e.connection (going n e hs) v a → AreTracked hs f → AreTracked (hs ++ (v, a) ∷ []) g
  step-tracked hs f g v (Err why) r s after recent k p there = one-more hs (v, Err why) p.site (k p (ap (λ (z : Fleet). place_of z m) (sym r.1) ∙ there))
  step-tracked hs f g v (Ok a) r s after recent k p there = one-more hs (v, Ok a) p.site (by (where-is (node_of v) m (from_of v) r.0 f g r.2.happens p there))
    where
      by : Placed (node_of v) m r.0 f r.2.happens.was r.2.happens.is p → Tracks p.site e.connection (going n e hs)
      by (is_away other was) = k p was
      by (is_here same was is) =
          let h : HappensAt (node_of v) (from_of v) r.0 f g = r.2.happens in
          let node : node_of v ≡ m = same-node (node_of v) m same in
          host-goes f s m (from_of v) r.0 h.sender h.was p (length g.asked) e.connection (going n e hs) was h.sends
          (subst (λ (q : Place). HappensAmong (around f m) h.sender.site r.0 h.was.site q.site) is (subst (λ (z : Node). HappensAmong (around f z) h.sender.site r.0 h.was.site h.is.site) node h.here))
          (own g after m p there).host (brought-by f v a r.0 m h.sender e.connection (going n e hs) h.sends node r.1 recent) (k h.was was)

  run-tracked : (hs : List Happened) (events : List FleetEvent) (answers : List (Result Answer Refusal)) (f g : Fleet) (run : Runs f events answers g) → Sound f → AreRecent n m e hs events answers f g run → AreTracked hs f → AreTracked (hs ++ zip events answers) g
  run-tracked hs [] [] f g run s recent k = subst (λ (l : List Happened). AreTracked l g) (sym (append-nil hs)) (subst (AreTracked hs) (sym run) k)
  run-tracked hs [] (a ∷ more) f g run s recent k = absurd run
  run-tracked hs (v ∷ events) [] f g run s recent k = absurd run
  run-tracked hs (v ∷ events) (a ∷ more) f g run s recent k =
      let after : Sound run.0 = sound-step f run.0 v a run.1 s in
      subst (λ (l : List Happened). AreTracked l g) (append_assoc hs ((v, a) ∷ []) (zip events more))
      (run-tracked (hs ++ (v, a) ∷ []) events more run.0 g run.2 after recent.1 (step-tracked hs f run.0 v a run.1 s after recent.0 k))

-- all of it

received-packets : (name : PeerRef) (es : List PeerEvent) → received (map (event_of name) es) ≡ packets_of es
received-packets name [] = refl
received-packets name (told.Connect info ∷ es) = received-packets name es
received-packets name (told.Receive q ∷ es) = ap (λ (qs : List Packet). q ∷ qs) (received-packets name es)
received-packets name (told.Disconnect info ∷ es) = received-packets name es

none-twice : (server : Config) (clients : List Config) → is_in_range server ≡ true → list_all is_in_range clients ≡ true → (events : List FleetEvent) (answers : List (Result Answer Refusal)) (f : Fleet) → Runs (open_fleet server clients) events answers f
    → NoneIsTakenTwice server clients events answers
none-twice server clients one all events answers f run = (f, run, each)
  where
    hs : List Happened
    hs = zip events answers

    opened : Sound (open_fleet server clients)
    opened = sound-run server clients one all [] [] (open_fleet server clients) refl

    at-first : (n m : Node) (e : HostEnd) → AreTracked n m e [] (open_fleet server clients)
    at-first n m e p there t h of = absurd (let low : t.connection < 0 = (own (open_fleet server clients) opened m p there).host.below t h in omega arith)

    told-to : IsToldBy hs f
    told-to = each-list server clients one all events answers f run

    each : (n m : Node) (e t : HostEnd) → HasEnd f n e → HasEnd f m t → e.connection ≡ t.connection → AreRecent n m e [] events answers (open_fleet server clients) f run
        → AreTakenOnce (going n e hs) (come_unsequenced (received (taken m t.name hs)))
    each n m e t h there of recent =
        let k : Track there.0.site t (going n e hs) = run-tracked n m e [] events answers (open_fleet server clients) f run opened recent (at-first n m e) there.0 there.1 t there.2 (sym of) in
        let numbers = k.numbers in
        let tells = (told-to.each m there.0 there.1).ends t there.2 in
        subst (λ (qs : List Packet). AreTakenOnce (going n e hs) (come_unsequenced qs)) (sym (received-packets t.name k.own.events) ∙ ap received (sym k.shows.events ∙ tells.events_is))
        (taken-once (going n e hs) k.come k.own.events k.own.peer k.gets numbers.numbers numbers.each numbers.in_time)

pub taken-once-each : {V : Type 0} (items : V → List (Result Answer Refusal)) (server : Config) (clients : List Config) (events : List FleetEvent) (r : Result V Refusal) (first f : Fleet) → fit server clients ≡ true → first ≡ open_fleet server clients
    → IfOk r (λ a. Runs first events (items a) f) → IfOk r (λ a. NoneIsTakenTwice server clients events (items a))
taken-once-each items server clients events (Ok a) first f fits fresh runs = none-twice server clients (fit-server server clients fits) (fit-clients server clients fits) events (items a) f (subst (λ (g : Fleet). Runs g events (items a) f) fresh runs)
taken-once-each items server clients events (Err why) first f fits fresh runs = tt
