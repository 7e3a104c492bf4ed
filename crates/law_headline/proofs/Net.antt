-- What holds of each host of a net, and of each connection.
use Rattle.enet_codec.specs.Config.{is_in_range}
use Rattle.enet_codec.specs.declared.address.Addr.{Addr}
use Rattle.enet_codec.specs.declared.config.Config.{Config}
use Rattle.enet_codec.specs.declared.event.Received.{Received}
use Rattle.law_headline.specs.declared.node.Node.{Node}
use Rattle.law_headline.specs.declared.node.Node.TheVariants.{Server, Client}
use Rattle.enet_slot.specs.Receiving.{is_same_address}
use Rattle.law_connection.proofs.Lists.{Has-slice_get, Has-push}
use Rattle.law_connection.specs.LinkSteps.{Has}
use Rattle.law_network.proofs.Addresses.{is-elsewhere, same-address}
use Rattle.law_network.proofs.Agreed.{agree-between}
use Rattle.law_network.proofs.Delivering.{end-there}
use Rattle.law_network.proofs.Growing.{more_of, Grows, grows, from-before, stays-there}
use Rattle.law_network.proofs.Headlines.{ArePaired, headline-at, headline-between, headline-none, swapped-pair}
use Rattle.law_network.proofs.Lists.{get-within, same-or, get-set, get-set_other}
use Rattle.law_network.proofs.Once.{AreAt, IsOfSender, at-goes, begins-once}
use Rattle.law_network.proofs.Owned.{AreOwned, owned-goes, none-held}
use Rattle.law_network.proofs.Runs.{wider, stays-put, new-pair, few-of, both, none-at, lawful-either, submitted-either}
use Rattle.law_network.proofs.WhereSent.{AreSent, sent-goes, more-brought}
use Rattle.law_network.proofs.Submitting.{same-some}
use Rattle.law_network.proofs.Worlds.{IsHost, Pair, AreAllOf, BeginsOnce, AreShown, ComesOf, IsJoined, swapped, pair-goes, host-goes, shown-end, count-grows, end-none}
use Rattle.law_network.specs.Calls.{Call}
use Rattle.law_network.specs.Headline.{HasHeadlineBetween}
use Rattle.law_network.specs.Law.{IsElsewhere, IsPaired}
use Rattle.law_network.specs.Log.{Logged}
use Rattle.law_network.specs.Network.{HostEnd, Site, fresh_end, end_of}
use Rattle.law_network.specs.Numbers.{AgreeBetween}
use Rattle.law_network.specs.Steps.{Happening, Calls, Delivers, count_after, Around, HappensAmong}
use Rattle.std.proofs.Common.{◌≡◌, ◌≢◌, ℕ, zero, suc, ◌+◌, ◌<◌, ◌⊎◌, inl, inr, ◌||◌, true, false, List, [], ◌∷◌, ◌++◌, length, refl, sym, ap, ◌∙◌, arith, Option, Some, None, slice_get, ◌≤◌, subst, map, Ok, slice_set, Bool}
use Rattle.std.proofs.lemmas.List.{length-set}
use Rattle.std.proofs.lemmas.Option.{slice_get_within}
use Rattle.std.specs.List.{list_all}
use Rattle.law_network.specs.Calls as call
use Rattle.law_headline.specs.Nets as nets
use Rattle.law_network.specs.Places.{Place, opened_at, all_opened}
use Rattle.law_headline.specs.Nets.{Net, place_of, with_place, AreApart, is_client, numbers_at, client_in, client_of, asked_after, HappensAt, AllowsCall, IsAllowed, Thing, AllHappen, open_net}
use Rattle.law_headline.specs.Law.{end_in, HasHeadline, OfEachNet}
use Rattle.law_headline.specs.Delivered.{HasDelivered}
use Rattle.law_headline.proofs.Delivering.{arrives-between}

-- lists

pub get-before : {X : Type 0} (xs : List X) (y : X) (k : ℕ) (x : X) → slice_get xs k ≡ Some x → slice_get (xs ++ y ∷ []) k ≡ Some x
get-before [] y k x h = absurd (let e : ◌≡◌ {A = Option _} None (Some x) = h in cc)
get-before (z ∷ xs) y zero x h = h
get-before (z ∷ xs) y (suc k) x h = get-before xs y k x h

pub get-last : {X : Type 0} (xs : List X) (y : X) → slice_get (xs ++ y ∷ []) (length xs) ≡ Some y
get-last [] y = refl
get-last (z ∷ xs) y = get-last xs y

pub get-cases : {X : Type 0} (xs : List X) (y : X) (k : ℕ) (x : X) → slice_get (xs ++ y ∷ []) k ≡ Some x → (slice_get xs k ≡ Some x) ⊎ ((k ≡ length xs) × (y ≡ x))
get-cases [] y zero x h = inr (refl, same-some y x h)
get-cases [] y (suc k) x h = absurd (let e : ◌≡◌ {A = Option _} None (Some x) = h in cc)
get-cases (z ∷ xs) y zero x h = inl h
get-cases (z ∷ xs) y (suc k) x h = elim (get-cases xs y k x h) [ inl e ↦ inl e | inr e ↦ inr (ap (λ (n : ℕ). suc n) e.0, e.1) ]

pub length-push : {X : Type 0} (xs : List X) (y : X) → length (xs ++ y ∷ []) ≡ length xs + 1
length-push [] y = refl
length-push (z ∷ xs) y = let e : length (xs ++ y ∷ []) ≡ length xs + 1 = length-push xs y in omega arith

module _ (home : Node → Addr) (apart : AreApart home) where
  abbrev address_of : Node → Addr
  address_of = home

  abbrev is_host : ℕ → Addr → Bool
  is_host = nets.is_host home

  abbrev around : Net → Node → Around
  around = nets.around home

  client-number : (i k : ℕ) → Client i ≡ Client k → i ≡ k
  client-number i k e = cc

  client-apart : (i k : ℕ) → address_of (Client i) ≡ address_of (Client k) → i ≡ k
  client-apart i k e = client-number i k (apart (Client i) (Client k) e)

  server-apart : (i : ℕ) → address_of Server ≡ address_of (Client i) → ⊥
  server-apart i e = absurd (let z : Server ≡ Client i = apart Server (Client i) e in cc)

  pub server-host : (n : ℕ) → is_host n (address_of Server) ≡ true
  server-host n = ap (λ (b : Bool). b || is_client home n (home Server)) (same-address (home Server) (home Server) refl)

  or-right : (a : Bool) → (a || true) ≡ true
  or-right true = refl
  or-right false = refl

  is-client : (n i : ℕ) → i < n → is_client home n (home (Client i)) ≡ true
  is-client zero i low = absurd (omega arith)
  is-client (suc n) i low = elim (same-or i n) [
    | inl e ↦ ap (λ (b : Bool). b || is_client home n (home (Client i))) (same-address (home (Client i)) (home (Client n)) (ap (λ (k : ℕ). home (Client k)) e))
    | inr other ↦ ap (λ (b : Bool). is_same_address (home (Client i)) (home (Client n)) || b) (is-client n i (omega arith)) ∙ or-right (is_same_address (home (Client i)) (home (Client n)))
  ]

  pub client-host : (n i : ℕ) → i < n → is_host n (address_of (Client i)) ≡ true
  client-host n i low = ap (λ (b : Bool). is_same_address (home (Client i)) (home Server) || b) (is-client n i low) ∙ or-right (is_same_address (home (Client i)) (home Server))

  -- a host's address is no stranger's
  host-stranger : (n : ℕ) (a b : Addr) → is_host n a ≡ true → is_host n b ≡ false → a ≢ b
  host-stranger n a b host strange same = let z : true ≡ false = sym host ∙ ap (is_host n) same ∙ strange in cc

  -- where the other host of a connection is, for a host
  abbrev pub place_in : Option ℕ → Addr
  place_in None = address_of Server
  place_in (Some i) = address_of (Client i)

  abbrev pub place : List ℕ → Node → ℕ → Addr
  place asked Server x = place_in (slice_get asked x)
  place asked (Client i) x = address_of Server

  -- a client's ends are of the connections for which it asked
  abbrev pub AreOwn : List ℕ → Node → Site → Type 0
  AreOwn asked Server s = Unit {0}
  AreOwn asked (Client i) s = (e : HostEnd) → Has s.ends e → slice_get asked e.connection ≡ Some i

  pub record Holds (asked : List ℕ) (clients : ℕ) (n : Node) (s : Site) : Type 0 where
    pub host : IsHost s (length asked)
    pub address : s.address ≡ address_of n
    pub far : AreAt (place asked n) s
    pub sent : AreSent (place asked n) s
    pub own : AreOwn asked n s
    pub owned : AreOwned (is_host clients) s

  -- a host has an end of a connection
  abbrev pub HasEnd : Site → ℕ → Type 0
  HasEnd s x = (e : HostEnd) × Has s.ends e × (e.connection ≡ x)

  pub record Sound (f : Net) : Type 0 where
    pub server : Holds f.asked (length f.clients) Server f.server.site
    pub clients : (i : ℕ) (p : Place) → slice_get f.clients i ≡ Some p → Holds f.asked (length f.clients) (Client i) p.site
    pub pairs : (x i : ℕ) → slice_get f.asked x ≡ Some i → (p : Place) × (slice_get f.clients i ≡ Some p) × Pair false p.site f.server.site x
    pub begun : (x i : ℕ) → slice_get f.asked x ≡ Some i → (p : Place) × (slice_get f.clients i ≡ Some p) × HasEnd p.site x

  pub each-holds : (f : Net) → Sound f → (n : Node) (p : Place) → place_of f n ≡ Some p → Holds f.asked (length f.clients) n p.site
  each-holds f k Server p h = subst (λ (q : Place). Holds f.asked (length f.clients) Server q.site) (same-some f.server p h) k.server
  each-holds f k (Client i) p h = k.clients i p h

  -- the connection of each end and of each datagram is known
  pub asked-end : (asked : List ℕ) (clients : ℕ) (n : Node) (s : Site) (e : HostEnd) → Holds asked clients n s → Has s.ends e → (i : ℕ) × (slice_get asked e.connection ≡ Some i)
  asked-end asked clients n s e k h = get-within asked e.connection (k.host.below e h)

  pub asked-sent : (asked : List ℕ) (clients : ℕ) (n : Node) (s : Site) (d : Logged) → Holds asked clients n s → Has s.log d → (i : ℕ) × (slice_get asked d.connection ≡ Some i)
  asked-sent asked clients n s d k h =
      let l = k.host.logged d h in
      subst (λ (x : ℕ). (i : ℕ) × (slice_get asked x ≡ Some i)) l.2 (asked-end asked clients n s l.0 k l.1)

  -- more connections
  same-place : (asked more : List ℕ) (n : Node) (x : ℕ) → ((x i : ℕ) → slice_get asked x ≡ Some i → slice_get more x ≡ Some i) → (i : ℕ) × (slice_get asked x ≡ Some i) → place asked n x ≡ place more n x
  same-place asked more Server x up at = ap place_in (at.1 ∙ sym (up x at.0 at.1))
  same-place asked more (Client i) x up at = refl

  same-own : (asked more : List ℕ) (n : Node) (s : Site) → ((x i : ℕ) → slice_get asked x ≡ Some i → slice_get more x ≡ Some i) → AreOwn asked n s → AreOwn more n s
  same-own asked more Server s up k = tt
  same-own asked more (Client i) s up k = λ e h. up e.connection i (k e h)

  pub holds-wider : (asked more : List ℕ) (clients fleet : ℕ) (n : Node) (s : Site) → ((x i : ℕ) → slice_get asked x ≡ Some i → slice_get more x ≡ Some i) → length asked ≤ length more → clients ≡ fleet → Holds asked clients n s → Holds more fleet n s
  holds-wider asked more clients fleet n s up low same k = record {
    host = wider s (length asked) (length more) low k.host;
    address = k.address;
    far = λ e h p x. k.far e h p x ∙ same-place asked more n e.connection up (asked-end asked clients n s e k h);
    sent = λ d h. k.sent d h ∙ same-place asked more n d.connection up (asked-sent asked clients n s d k h);
    own = same-own asked more n s up k.own;
    owned = subst (λ (c : ℕ). AreOwned (is_host c) s) same k.owned;
  }

  -- an end is elsewhere than at another address than its other host's
  pub ends-elsewhere : (asked : List ℕ) (clients : ℕ) (n : Node) (s : Site) (x : ℕ) (at : Addr) → Holds asked clients n s → place asked n x ≡ at → (from : Addr) → at ≢ from → AreAllOf s x (λ e. IsElsewhere s e from)
  ends-elsewhere asked clients n s x at k is from other e h of =
      is-elsewhere at from s.host.slots e.name (λ p y. k.far e h p y ∙ ap (place asked n) of ∙ is) other

  -- where strangers are, too
  pub no-strangers : (asked : List ℕ) (clients : ℕ) (n : Node) (s : Site) (x : ℕ) (at : Addr) → Holds asked clients n s → place asked n x ≡ at → is_host clients at ≡ true
      → AreAllOf s x (λ e. (a : Addr) → is_host clients a ≡ false → IsElsewhere s e a)
  no-strangers asked clients n s x at k is host e h of a strange = ends-elsewhere asked clients n s x at k is a (host-stranger clients at a host strange) e h of

  -- the server's number of connections stays
  pub server-count : (f : Net) (m : Node) (what : Happening) (n : ℕ) → IsAllowed home f Server m what → count_after n what ≡ n
  server-count f m (Delivers k answer) n allowed = refl
  server-count f m (Calls (call.Connect address channels info word answer)) n allowed = absurd allowed
  server-count f m (Calls c) n allowed = refl

  -- a datagram that is brought to the server is of a client that asked for its connection
  record IsClients (f : Net) (m : Node) (x : ℕ) : Type 0 where
    client : ℕ
    is : m ≡ Client client
    asked : slice_get f.asked x ≡ Some client

  of-client : (f : Net) → Sound f → (m : Node) (sender : Place) → place_of f m ≡ Some sender → (k : ℕ) (answer : Received) → IsAllowed home f Server m (Delivers k answer) → (d : Logged) → slice_get sender.site.log k ≡ Some d → IsClients f m d.connection
  of-client f s Server sender sends k answer allowed d is =
      let own : Holds f.asked (length f.clients) Server sender.site = each-holds f s Server sender sends in
      let h : Has sender.site.log d = Has-slice_get sender.site.log k d is in
      let a = asked-sent f.asked (length f.clients) Server sender.site d own h in
      absurd (server-apart a.0 (sym (allowed sender sends d is) ∙ own.sent d h ∙ ap place_in a.1))
  of-client f s (Client i) sender sends k answer allowed d is =
      let own : Holds f.asked (length f.clients) (Client i) sender.site = each-holds f s (Client i) sender sends in
      let l = own.host.logged d (Has-slice_get sender.site.log k d is) in
      record { client = i; is = refl; asked = subst (λ (x : ℕ). slice_get f.asked x ≡ Some i) l.2 (own.own l.0 l.1) }

  -- so its sender has the connection's other end
  the-sender : (f : Net) (m : Node) (sender p : Place) (i : ℕ) → place_of f m ≡ Some sender → m ≡ Client i → slice_get f.clients i ≡ Some p → sender ≡ p
  the-sender f m sender p i sends is there = same-some sender p (sym sends ∙ ap (place_of f) is ∙ there)

  -- all that holds of the server afterwards
  pub record ServerGone (f : Net) (new : Site) : Type 0 where
    pub holds : Holds f.asked (length f.clients) Server new
    pub pairs : (x i : ℕ) → slice_get f.asked x ≡ Some i → (p : Place) × (slice_get f.clients i ≡ Some p) × Pair false p.site new x

  pub server-goes : (f : Net) (m : Node) (what : Happening) (sender : Place) (new : Site) → place_of f m ≡ Some sender → HappensAmong (around f Server) sender.site what f.server.site new → IsAllowed home f Server m what → Sound f → ServerGone f new
  server-goes f m what sender new sends here allowed s = record {
    holds = record {
      host = subst (IsHost new) (server-count f m what (length f.asked) allowed) (host-goes w from old new what here own.host sent-by.host once shown);
      address = stays-put w from old new what here ∙ own.address;
      far = at-goes at w from old new what here own.host shown begin own.far;
      sent = sent-goes at w from old new what here own.far own.sent;
      own = tt;
      owned = owned-goes w from old new what here own.owned;
    };
    pairs = λ x i asked. (let r = s.pairs x i asked in (
      r.0,
      r.1,
      swapped false new r.0.site x
          (pair-goes false w from old new what r.0.site x here own.host (s.clients i r.0 r.1).host sent-by.host.named (joins x i asked r.0 r.1) (slice_get_within f.asked x i asked) (swapped false r.0.site old x r.2)),
    ));
  }
    where
      w : Around
      w = around f Server

      from : Site
      from = sender.site

      old : Site
      old = f.server.site

      at : ℕ → Addr
      at = place f.asked Server

      own : Holds f.asked (length f.clients) Server old
      own = s.server

      sent-by : Holds f.asked (length f.clients) m from
      sent-by = each-holds f s m sender sends

      shown : AreShown old
      shown e h =
          let a = asked-end f.asked (length f.clients) Server old e own h in
          let r = s.pairs e.connection a.0 a.1 in
          let p = swapped false r.0.site old e.connection r.2 in
          (p.one, shown-end false old r.0.site (length f.asked) e own.host h p)

      place-is : (x i : ℕ) → slice_get f.asked x ≡ Some i → at x ≡ address_of (Client i)
      place-is x i asked = ap place_in asked

      of-sender : (what : Happening) → IsAllowed home f Server m what → IsOfSender (λ x. false) at from old what
      of-sender (Calls c) allowed = tt
      of-sender (Delivers k answer) allowed = λ d sent e h same.
          let c = of-client f s m sender sends k answer allowed d sent in
          let asked : slice_get f.asked e.connection ≡ Some c.client = ap (slice_get f.asked) same ∙ c.asked in
          let r = s.pairs e.connection c.client asked in
          let is : sender ≡ r.0 = the-sender f m sender r.0 c.client sends c.is r.1 in (
            subst (λ (p : Place). Pair false old p.site e.connection) (sym is) (swapped false r.0.site old e.connection r.2),
            place-is e.connection c.client asked ∙ ap address_of (sym c.is) ∙ sym sent-by.address,
          )

      once : BeginsOnce from old new what
      once = begins-once (λ x. false) at w from old new what here own.host sent-by.host (of-sender what allowed) own.far

      begin : (g : HostEnd) → Has (more_of w.count from old new what) g → at g.connection ≡ from.address
      begin = by what allowed
        where
          by : (what : Happening) → IsAllowed home f Server m what → (g : HostEnd) → Has (more_of w.count from old new what) g → at g.connection ≡ from.address
          by (Delivers k answer) allowed g h =
              let b = more-brought w.count from old new k answer g h in
              let c = of-client f s m sender sends k answer allowed b.0 b.1 in
              place-is g.connection c.client (ap (slice_get f.asked) b.2 ∙ c.asked) ∙ ap address_of (sym c.is) ∙ sym sent-by.address
          by (Calls (call.Connect address channels info word answer)) allowed g h = absurd allowed
          by (Calls c) allowed g h = absurd h

      joins : (x i : ℕ) → slice_get f.asked x ≡ Some i → (p : Place) → slice_get f.clients i ≡ Some p → IsJoined w from what old p.site x
      joins x i asked p there = record {
        numbers = ap (λ (o : Option ℕ). numbers_at x (client_in f.clients o)) asked ∙ ap (numbers_at x) there;
        strangers = no-strangers f.asked (length f.clients) Server old x (address_of (Client i)) own (place-is x i asked) (client-host (length f.clients) i (slice_get_within f.clients i p there));
        sender = by-sender m sends sent-by.address;
        comes = comes what allowed;
      }
        where
          elsewhere : (a : Addr) → address_of (Client i) ≢ a → AreAllOf old x (λ e. IsElsewhere old e a)
          elsewhere a n = ends-elsewhere f.asked (length f.clients) Server old x (address_of (Client i)) own (place-is x i asked) a n

          by-sender : (m : Node) → place_of f m ≡ Some sender → from.address ≡ address_of m → (from ≡ p.site) ⊎ AreAllOf old x (λ e. IsElsewhere old e from.address)
          by-sender Server is there' = inr (elsewhere from.address (λ e. server-apart i (sym there' ∙ sym e)))
          by-sender (Client k) is there' = elim (same-or k i) [
            | inl same ↦ inl (ap (λ (q : Place). q.site) (same-some sender p (sym is ∙ ap (slice_get f.clients) same ∙ there)))
            | inr other ↦ inr (elsewhere from.address (λ e. other (client-apart k i (sym there' ∙ sym e))))
          ]

          comes : (what : Happening) → IsAllowed home f Server m what → ComesOf from what p.site x
          comes (Calls c) allowed = tt
          comes (Delivers k answer) allowed = λ d is of.
              let c = of-client f s m sender sends k answer allowed d is in
              let same : c.client ≡ i = same-some c.client i (sym c.asked ∙ ap (slice_get f.asked) of ∙ asked) in
              ap (λ (q : Place). q.site) (the-sender f m sender p i sends (c.is ∙ ap (λ (n : ℕ). Client n) same) there)

  -- the connections after it: those of before, and one for which the client asked, or none
  pub record Asks (asked more : List ℕ) (i next : ℕ) : Type 0 where
    pub before : (x k : ℕ) → slice_get asked x ≡ Some k → slice_get more x ≡ Some k
    pub after : (x k : ℕ) → slice_get more x ≡ Some k → (slice_get asked x ≡ Some k) ⊎ ((length asked ≤ x) × (x < next) × (k ≡ i))
    pub count : next ≡ length more

  asks-none : (asked : List ℕ) (i : ℕ) → Asks asked asked i (length asked)
  asks-none asked i = record { before = λ x k h. h; after = λ x k h. inl h; count = refl }

  asks-one : (asked : List ℕ) (i : ℕ) → Asks asked (asked ++ i ∷ []) i (length asked + 1)
  asks-one asked i = record {
    before = λ x k h. get-before asked i x k h;
    after = λ x k h. elim (get-cases asked i x k h) [
      | inl e ↦ inl e
      | inr e ↦ inr ((let a : x ≡ length asked = e.0 in omega arith), (let a : x ≡ length asked = e.0 in omega arith), sym e.1)
    ];
    count = sym (length-push asked i);
  }

  asks : (asked : List ℕ) (i : ℕ) (what : Happening) → Asks asked (asked_after (Client i) what asked) i (count_after (length asked) what)
  asks asked i (Calls (call.Connect address channels info word (Ok name))) = asks-one asked i
  asks asked i (Calls c) = asks-none asked i
  asks asked i (Delivers k answer) = asks-none asked i

  -- the one that is new is its
  asked-new : (asked : List ℕ) (i : ℕ) (from old new : Site) (c : Call) (g : HostEnd) → Has (more_of (length asked) from old new (Calls c)) g → slice_get (asked_after (Client i) (Calls c) asked) g.connection ≡ Some i
  asked-new asked i from old new (call.Connect address channels info word (Ok name)) g (inl e) = ap (slice_get (asked ++ i ∷ [])) (ap (λ (z : HostEnd). z.connection) (sym e)) ∙ get-last asked i
  asked-new asked i from old new (call.Connect address channels info word (Ok name)) g (inr e) = absurd e
  asked-new asked i from old new c g h = absurd h

  -- and begins an end
  begins-end : (asked : List ℕ) (from old new : Site) (what : Happening) (x : ℕ) → Grows old new (more_of (length asked) from old new what) → length asked ≤ x → x < count_after (length asked) what → HasEnd new x
  begins-end asked from old new (Calls (call.Connect address channels info word (Ok name))) x g least most =
      let is : length asked ≡ x = (let lo : length asked ≤ x = least in let hi : x < length asked + 1 = most in omega arith) in
      let e : HostEnd = fresh_end (length asked) name in
      (e, subst (λ (l : List HostEnd). Has l e) (sym g.ends) (Has-push (map g.change old.ends) e), is)
  begins-end asked from old new (Calls c) x g least most = absurd (let lo : length asked ≤ x = least in let hi : x < length asked = most in omega arith)
  begins-end asked from old new (Delivers k answer) x g least most = absurd (let lo : length asked ≤ x = least in let hi : x < length asked = most in omega arith)

  -- a datagram that is brought to a client is the server's, and of a connection for which this client asked
  record IsServers (f : Net) (m : Node) (i x : ℕ) : Type 0 where
    is : m ≡ Server
    asked : slice_get f.asked x ≡ Some i

  of-server : (f : Net) → Sound f → (i : ℕ) (m : Node) (sender : Place) → place_of f m ≡ Some sender → (k : ℕ) (answer : Received) → IsAllowed home f (Client i) m (Delivers k answer) → (d : Logged) → slice_get sender.site.log k ≡ Some d → IsServers f m i d.connection
  of-server f s i Server sender sends k answer allowed d is =
      let own : Holds f.asked (length f.clients) Server sender.site = each-holds f s Server sender sends in
      let h : Has sender.site.log d = Has-slice_get sender.site.log k d is in
      let a = asked-sent f.asked (length f.clients) Server sender.site d own h in
      let same : a.0 ≡ i = client-apart a.0 i (ap place_in (sym a.1) ∙ sym (own.sent d h) ∙ allowed sender sends d is) in
      record { is = refl; asked = a.1 ∙ ap (λ (n : ℕ). Some n) same }
  of-server f s i (Client j) sender sends k answer allowed d is =
      let own : Holds f.asked (length f.clients) (Client j) sender.site = each-holds f s (Client j) sender sends in
      absurd (server-apart i (sym (own.sent d (Has-slice_get sender.site.log k d is)) ∙ allowed sender sends d is))

  -- all that holds afterwards
  pub record ClientGone (f : Net) (i : ℕ) (more : List ℕ) (new : Place) : Type 0 where
    pub server : Holds more (length (slice_set f.clients i new)) Server f.server.site
    pub clients : (k : ℕ) (p : Place) → slice_get (slice_set f.clients i new) k ≡ Some p → Holds more (length (slice_set f.clients i new)) (Client k) p.site
    pub pairs : (x k : ℕ) → slice_get more x ≡ Some k → (p : Place) × (slice_get (slice_set f.clients i new) k ≡ Some p) × Pair false p.site f.server.site x
    pub begun : (x k : ℕ) → slice_get more x ≡ Some k → (p : Place) × (slice_get (slice_set f.clients i new) k ≡ Some p) × HasEnd p.site x

  pub client-goes : (f : Net) (i : ℕ) (m : Node) (what : Happening) (sender was is : Place) → place_of f m ≡ Some sender → slice_get f.clients i ≡ Some was → HappensAmong (around f (Client i)) sender.site what was.site is.site → IsAllowed home f (Client i) m what
      → Sound f → ClientGone f i (asked_after (Client i) what f.asked) is
  client-goes f i m what sender was is sends there here allowed s = record {
    server = holds-wider f.asked more (length f.clients) (length set) Server f.server.site a.before low same s.server;
    clients = each;
    pairs = pairs;
    begun = begun;
  }
    where
      w : Around
      w = around f (Client i)

      from : Site
      from = sender.site

      old : Site
      old = was.site

      new : Site
      new = is.site

      more : List ℕ
      more = asked_after (Client i) what f.asked

      set : List Place
      set = slice_set f.clients i is

      same : length f.clients ≡ length set
      same = sym (length-set f.clients i is)

      a : Asks f.asked more i (count_after (length f.asked) what)
      a = asks f.asked i what

      low : length f.asked ≤ length more
      low = (let g : length f.asked ≤ count_after (length f.asked) what = count-grows (length f.asked) what in let c : count_after (length f.asked) what ≡ length more = a.count in omega arith)

      own : Holds f.asked (length f.clients) (Client i) old
      own = s.clients i was there

      sent-by : Holds f.asked (length f.clients) m from
      sent-by = each-holds f s m sender sends

      -- the pair of an end of the client
      pair : (x : ℕ) → slice_get f.asked x ≡ Some i → Pair false old f.server.site x
      pair x asked = (let r = s.pairs x i asked in subst (λ (p : Place). Pair false p.site f.server.site x) (same-some r.0 was (sym r.1 ∙ there)) r.2)

      shown : AreShown old
      shown e h = (let p = pair e.connection (own.own e h) in (p.one, shown-end false old f.server.site (length f.asked) e own.host h p))

      the-server : m ≡ Server → sender ≡ f.server
      the-server is' = same-some sender f.server (sym sends ∙ ap (place_of f) is')

      address-server : m ≡ Server → address_of Server ≡ from.address
      address-server is' = ap address_of (sym is') ∙ sym sent-by.address

      of-sender : (what : Happening) → IsAllowed home f (Client i) m what → IsOfSender (λ x. false) (λ x. address_of Server) from old what
      of-sender (Calls c) allowed' = tt
      of-sender (Delivers k answer) allowed' = λ d sent e h same'.
          let c = of-server f s i m sender sends k answer allowed' d sent in (
            subst (λ (p : Place). Pair false old p.site e.connection) (sym (the-server c.is)) (pair e.connection (own.own e h)),
            address-server c.is,
          )

      once : BeginsOnce from old new what
      once = begins-once (λ x. false) (λ x. address_of Server) w from old new what here own.host sent-by.host (of-sender what allowed) own.far

      begin : (g : HostEnd) → Has (more_of w.count from old new what) g → address_of Server ≡ from.address
      begin = by what allowed
        where
          by : (what : Happening) → IsAllowed home f (Client i) m what → (g : HostEnd) → Has (more_of w.count from old new what) g → address_of Server ≡ from.address
          by (Delivers k answer) allowed' g h = (let b = more-brought w.count from old new k answer g h in address-server (of-server f s i m sender sends k answer allowed' b.0 b.1).is)
          by (Calls c) allowed' g h = address-server allowed'

      own-new : (what : Happening) → IsAllowed home f (Client i) m what → (g : HostEnd) → Has (more_of w.count from old new what) g → slice_get (asked_after (Client i) what f.asked) g.connection ≡ Some i
      own-new (Delivers k answer) allowed' g h = (let b = more-brought w.count from old new k answer g h in ap (slice_get f.asked) b.2 ∙ (of-server f s i m sender sends k answer allowed' b.0 b.1).asked)
      own-new (Calls c) allowed' g h = asked-new f.asked i from old new c g h

      grown : Grows old new (more_of w.count from old new what)
      grown = grows w from old new what here

      own-after : (g : HostEnd) → Has new.ends g → slice_get more g.connection ≡ Some i
      own-after g h = elim (from-before old new (more_of w.count from old new what) grown g h) [
        | inl b ↦ subst (λ (x : ℕ). slice_get more x ≡ Some i) (sym (grown.connection b.0) ∙ ap (λ (z : HostEnd). z.connection) b.2) (a.before b.0.connection i (own.own b.0 b.1))
        | inr n ↦ own-new what allowed g n
      ]

      holds : Holds more (length set) (Client i) new
      holds = record {
        host = subst (IsHost new) a.count (host-goes w from old new what here own.host sent-by.host once shown);
        address = stays-put w from old new what here ∙ own.address;
        far = at-goes (λ x. address_of Server) w from old new what here own.host shown begin own.far;
        sent = sent-goes (λ x. address_of Server) w from old new what here own.far own.sent;
        own = own-after;
        owned = subst (λ (c : ℕ). AreOwned (is_host c) new) same (owned-goes w from old new what here own.owned);
      }

      each : (k : ℕ) (p : Place) → slice_get set k ≡ Some p → Holds more (length set) (Client k) p.site
      each k p h = by (same-or i k)
        where
          by : (i ≡ k) ⊎ (i ≢ k) → Holds more (length set) (Client k) p.site
          by (inl e) =
              let is-p : is ≡ p = same-some is p (sym (get-set f.clients i was is there) ∙ ap (slice_get set) e ∙ h) in
              subst (λ (n : ℕ). Holds more (length set) (Client n) p.site) e (subst (λ (q : Place). Holds more (length set) (Client i) q.site) is-p holds)
          by (inr n) = holds-wider f.asked more (length f.clients) (length set) (Client k) p.site a.before low same (s.clients k p (sym (get-set_other f.clients i k is n) ∙ h))

      joins : (x : ℕ) → IsJoined w from what old f.server.site x
      joins x = record {
        numbers = refl;
        strangers = no-strangers f.asked (length f.clients) (Client i) old x (address_of Server) own refl (server-host (length f.clients));
        sender = by-sender m sends sent-by.address;
        comes = comes what allowed;
      }
        where
          by-sender : (m : Node) → place_of f m ≡ Some sender → from.address ≡ address_of m → (from ≡ f.server.site) ⊎ AreAllOf old x (λ e. IsElsewhere old e from.address)
          by-sender Server is' there' = inl (ap (λ (q : Place). q.site) (sym (same-some f.server sender is')))
          by-sender (Client k) is' there' = inr (ends-elsewhere f.asked (length f.clients) (Client i) old x (address_of Server) own refl from.address (λ e. server-apart k (e ∙ there')))

          comes : (what : Happening) → IsAllowed home f (Client i) m what → ComesOf from what f.server.site x
          comes (Calls c) allowed' = tt
          comes (Delivers k answer) allowed' = λ d is' of. ap (λ (q : Place). q.site) (the-server (of-server f s i m sender sends k answer allowed' d is').is)

      -- a connection for which the client asked
      begun-pair : (what : Happening) → IsAllowed home f (Client i) m what → HappensAmong w from what old new → (x : ℕ) → length f.asked ≤ x → x < count_after (length f.asked) what → Pair false new f.server.site x
      begun-pair (Calls c) allowed' happens x least most = subst (λ (p : Place). Pair false new p.site x) (the-server allowed') (new-pair w from old new (Calls c) x happens own.host sent-by.host least most)
      begun-pair (Delivers k answer) allowed' happens x least most = absurd (let lo : length f.asked ≤ x = least in let hi : x < length f.asked = most in omega arith)

      pairs : (x k : ℕ) → slice_get more x ≡ Some k → (p : Place) × (slice_get set k ≡ Some p) × Pair false p.site f.server.site x
      pairs x k asked = by (a.after x k asked)
        where
          at-i : Pair false new f.server.site x → k ≡ i → (p : Place) × (slice_get set k ≡ Some p) × Pair false p.site f.server.site x
          at-i p e = (is, ap (slice_get set) e ∙ get-set f.clients i was is there, p)

          other : (asked-before : slice_get f.asked x ≡ Some k) → (i ≡ k) ⊎ (i ≢ k) → (p : Place) × (slice_get set k ≡ Some p) × Pair false p.site f.server.site x
          other before (inl e) =
              let mine : slice_get f.asked x ≡ Some i = before ∙ ap (λ (n : ℕ). Some n) (sym e) in
              at-i (pair-goes false w from old new what f.server.site x here own.host s.server.host sent-by.host.named (joins x) (slice_get_within f.asked x i mine) (pair x mine)) (sym e)
          other before (inr n) = (let r = s.pairs x k before in (r.0, get-set_other f.clients i k is n ∙ r.1, r.2))

          by : (slice_get f.asked x ≡ Some k) ⊎ ((length f.asked ≤ x) × (x < count_after (length f.asked) what) × (k ≡ i)) → (p : Place) × (slice_get set k ≡ Some p) × Pair false p.site f.server.site x
          by (inl before) = other before (same-or i k)
          by (inr more') = at-i (begun-pair what allowed here x more'.0 more'.1) more'.2

      begun : (x k : ℕ) → slice_get more x ≡ Some k → (p : Place) × (slice_get set k ≡ Some p) × HasEnd p.site x
      begun x k asked = by (a.after x k asked)
        where
          at-i : HasEnd new x → k ≡ i → (p : Place) × (slice_get set k ≡ Some p) × HasEnd p.site x
          at-i h e = (is, ap (slice_get set) e ∙ get-set f.clients i was is there, h)

          goes-on : HasEnd old x → HasEnd new x
          goes-on h = (grown.change h.0, stays-there old new (more_of w.count from old new what) grown h.0 h.1, grown.connection h.0 ∙ h.2)

          other : slice_get f.asked x ≡ Some k → (i ≡ k) ⊎ (i ≢ k) → (p : Place) × (slice_get set k ≡ Some p) × HasEnd p.site x
          other before (inl e) =
              let r = s.begun x k before in
              let same' : r.0 ≡ was = same-some r.0 was (sym r.1 ∙ ap (slice_get f.clients) (sym e) ∙ there) in
              at-i (goes-on (subst (λ (p : Place). HasEnd p.site x) same' r.2)) (sym e)
          other before (inr n) = (let r = s.begun x k before in (r.0, get-set_other f.clients i k is n ∙ r.1, r.2))

          by : (slice_get f.asked x ≡ Some k) ⊎ ((length f.asked ≤ x) × (x < count_after (length f.asked) what) × (k ≡ i)) → (p : Place) × (slice_get set k ≡ Some p) × HasEnd p.site x
          by (inl before) = other before (same-or i k)
          by (inr more') = at-i (begins-end f.asked from old new what x grown more'.0 more'.1) more'.2

  -- one thing at a host

  at-server : (m : Node) (what : Happening) (f g : Net) (h : HappensAt home Server m what f g) → IsAllowed home f Server m what → Sound f → Sound g
  at-server m what f g h allowed s = subst Sound (sym h.rest) (record { server = gone.holds; clients = s.clients; pairs = gone.pairs; begun = s.begun })
    where
      here : HappensAmong (around f Server) h.sender.site what f.server.site h.is.site
      here = subst (λ (p : Place). HappensAmong (around f Server) h.sender.site what p.site h.is.site) (sym (same-some f.server h.was h.there)) h.here

      gone : ServerGone f h.is.site
      gone = server-goes f m what h.sender h.is.site h.sends here allowed s

  at-client : (i : ℕ) (m : Node) (what : Happening) (f g : Net) (h : HappensAt home (Client i) m what f g) → IsAllowed home f (Client i) m what → Sound f → Sound g
  at-client i m what f g h allowed s =
      let gone : ClientGone f i (asked_after (Client i) what f.asked) h.is = client-goes f i m what h.sender h.was h.is h.sends h.there h.here allowed s in
      subst Sound (sym h.rest) (record { server = gone.server; clients = gone.clients; pairs = gone.pairs; begun = gone.begun })

  pub sound-goes : (n m : Node) (what : Happening) (f g : Net) → HappensAt home n m what f g → IsAllowed home f n m what → Sound f → Sound g
  sound-goes Server m what f g h allowed s = at-server m what f g h allowed s
  sound-goes (Client i) m what f g h allowed s = at-client i m what f g h allowed s

  -- at first

  open-holds : (clients : ℕ) (n : Node) (c : Config) → is_in_range c ≡ true → Holds [] clients n (opened_at (address_of n) c).site
  open-holds clients n c fits = record {
    host = record { few = few-of c fits; apart = λ e i. absurd i; below = λ e i. absurd i; logged = λ d i. absurd i; named = λ d i. absurd i };
    address = refl;
    far = none-at (place [] n) (opened_at (address_of n) c).site refl;
    sent = λ d i. absurd i;
    own = own n;
    owned = λ i t p there has at. absurd (none-held c.peers i t p there has);
  }
    where
      own : (m : Node) → AreOwn [] m (opened_at (address_of n) c).site
      own Server = tt
      own (Client k) = λ e i. absurd i

  pub open-client : (cs : List Config) (first i : ℕ) (p : Place) → list_all is_in_range cs ≡ true → slice_get (all_opened (λ k. address_of (Client k)) first cs) i ≡ Some p → (c : Config) × (is_in_range c ≡ true) × (opened_at (address_of (Client (first + i))) c ≡ p)
  open-client [] first i p fits h = absurd (let e : ◌≡◌ {A = Option Place} None (Some p) = h in cc)
  open-client (c ∷ cs) first zero p fits h =
      let n : first ≡ first + 0 = omega arith in
      (c, (both (is_in_range c) (list_all is_in_range cs) fits).0, ap (λ (k : ℕ). opened_at (address_of (Client k)) c) (sym n) ∙ same-some (opened_at (address_of (Client first)) c) p h)
  open-client (c ∷ cs) first (suc i) p fits h =
      let r = open-client cs (first + 1) i p (both (is_in_range c) (list_all is_in_range cs) fits).1 h in
      let n : first + 1 + i ≡ first + suc i = omega arith in
      (r.0, r.1, ap (λ (k : ℕ). opened_at (address_of (Client k)) r.0) (sym n) ∙ r.2)

  pub open-sound : (server : Config) (clients : List Config) → is_in_range server ≡ true → list_all is_in_range clients ≡ true → Sound (open_net home server clients)
  open-sound server clients one all = record {
    server = open-holds (length (open_net home server clients).clients) Server server one;
    clients = λ i p h. (let r = open-client clients 0 i p all h in
        let n : 0 + i ≡ i = omega arith in
        subst (λ (k : ℕ). Holds [] (length (open_net home server clients).clients) (Client k) p.site) n
        (subst (λ (q : Place). Holds [] (length (open_net home server clients).clients) (Client (0 + i)) q.site) r.2 (open-holds (length (open_net home server clients).clients) (Client (0 + i)) r.0 r.1)));
    pairs = λ x i h. absurd (let e : ◌≡◌ {A = Option ℕ} None (Some i) = h in cc);
    begun = λ x i h. absurd (let e : ◌≡◌ {A = Option ℕ} None (Some i) = h in cc);
  }

  -- so the law holds
  pub are-lawful : (f : Net) → Sound f → (x i : ℕ) → slice_get f.asked x ≡ Some i → (p : Place) × (slice_get f.clients i ≡ Some p) × IsPaired false p.site f.server.site x
  are-lawful f s x i asked =
      let r = s.pairs x i asked in
      (r.0, r.1, record { one = r.2.one; two = r.2.two; here = r.2.here; there = r.2.there; lawful = lawful-either false r.2.one r.2.two r.2.kept; unsequenced = submitted-either false r.2.one r.2.two r.2.kept })

  -- a connection that hasn't begun has no end
  none-asked : (f : Net) → Sound f → (x : ℕ) → slice_get f.asked x ≡ None → end_of x f.server.site.ends ≡ None
  none-asked f s x none = end-none f.server.site.ends x (λ e h of.
      let a = asked-end f.asked (length f.clients) Server f.server.site e s.server h in
      let z : ◌≡◌ {A = Option ℕ} None (Some a.0) = sym none ∙ ap (slice_get f.asked) (sym of) ∙ a.1 in cc)

  at-ends : (f : Net) → Sound f → (x : ℕ) → HasHeadlineBetween (end_in x (client_of f x)) (end_of x f.server.site.ends)
  at-ends f s x = by (slice_get f.asked x) refl
    where
      at-client : (o : Option ℕ) → slice_get f.asked x ≡ o → HasHeadlineBetween (end_in x (client_in f.clients o)) (end_of x f.server.site.ends) → HasHeadlineBetween (end_in x (client_of f x)) (end_of x f.server.site.ends)
      at-client o asked h = subst (λ (u : Option ℕ). HasHeadlineBetween (end_in x (client_in f.clients u)) (end_of x f.server.site.ends)) (sym asked) h

      by : (o : Option ℕ) → slice_get f.asked x ≡ o → HasHeadlineBetween (end_in x (client_of f x)) (end_of x f.server.site.ends)
      by None asked = at-client None asked (subst (HasHeadlineBetween None) (sym (none-asked f s x asked)) headline-none)
      by (Some i) asked =
          let r = are-lawful f s x i asked in
          at-client (Some i) asked (subst (λ (u : Option Place). HasHeadlineBetween (end_in x u) (end_of x f.server.site.ends)) (sym r.1)
          (headline-between false r.0.site f.server.site (length f.asked) x (s.clients i r.0 r.1).host s.server.host r.2))

  are-paired : (f : Net) → Sound f → (n : Node) (p : Place) → place_of f n ≡ Some p → ArePaired false p.site
  are-paired f s Server p there = subst (λ (q : Place). ArePaired false q.site) (same-some f.server p there) (λ e h.
      let a = asked-end f.asked (length f.clients) Server f.server.site e s.server h in
      let r = are-lawful f s e.connection a.0 a.1 in
      (r.0.site, swapped-pair false r.0.site f.server.site e.connection r.2))
  are-paired f s (Client i) p there = λ e h.
      let k : Holds f.asked (length f.clients) (Client i) p.site = each-holds f s (Client i) p there in
      let r = are-lawful f s e.connection i (k.own e h) in
      (f.server.site, subst (λ (q : Place). IsPaired false q.site f.server.site e.connection) (same-some r.0 p (sym r.1 ∙ there)) r.2)

  -- the client that asked for a connection shows the one end, the server the other
  pair-of : (f : Net) → Sound f → (x : ℕ) (p : Place) → client_of f x ≡ Some p → IsHost p.site (length f.asked) × Pair false p.site f.server.site x
  pair-of f s x p there = by (slice_get f.asked x) refl there
    where
      by : (o : Option ℕ) → slice_get f.asked x ≡ o → client_in f.clients o ≡ Some p → IsHost p.site (length f.asked) × Pair false p.site f.server.site x
      by None asked at = absurd (cc)
      by (Some i) asked at =
          let r = s.pairs x i asked in
          ((s.clients i p at).host, subst (λ (q : Place). Pair false q.site f.server.site x) (same-some r.0 p (sym r.1 ∙ at)) r.2)

  pub agreed : (f : Net) → Sound f → (x : ℕ) (p : Place) → client_of f x ≡ Some p → AgreeBetween p.site f.server.site x
  agreed f s x p there = let e = pair-of f s x p there in agree-between false p.site f.server.site (length f.asked) x e.0 s.server.host e.1

  pub has-delivered : (f : Net) → Sound f → HasDelivered f
  has-delivered f s x p there = let e = pair-of f s x p there in arrives-between false p.site f.server.site (length f.asked) x e.0 s.server.host e.1

  -- the client that asked for a connection has an end of it
  begun-end : (f : Net) → Sound f → (x i : ℕ) → slice_get f.asked x ≡ Some i → (e : HostEnd) × (end_in x (client_of f x) ≡ Some e)
  begun-end f s x i asked =
      let r = s.begun x i asked in
      let e : HostEnd = r.2.0 in
      let here : end_of x r.0.site.ends ≡ Some e = subst (λ (n : ℕ). end_of n r.0.site.ends ≡ Some e) r.2.2 (end-there r.0.site.ends e r.2.1 ((s.clients i r.0 r.1).host.apart e r.2.1)) in
      (e, ap (λ (o : Option ℕ). end_in x (client_in f.clients o)) asked ∙ ap (end_in x) r.1 ∙ here)

  pub has-headline : (f : Net) → Sound f → HasHeadline home f
  has-headline f s = record {
    hosts = λ n p there. (let k = each-holds f s n p there in headline-at false (is_host (length f.clients)) p.site (length f.asked) k.host k.owned (are-paired f s n p there));
    own = λ i p there e h. (let k = s.clients i p there in k.own e h);
    begun = begun-end f s;
    asked = λ e h. asked-end f.asked (length f.clients) Server f.server.site e s.server h;
    ends = at-ends f s;
  }

  pub all-sound : (ts : List Thing) (f g : Net) → AllHappen home ts f g → Sound f → Sound g
  all-sound [] f g r s = subst Sound (sym r) s
  all-sound (t ∷ ts) f g r s = all-sound ts r.0 g r.3 (sound-goes t.node t.from t.what f r.0 r.1 r.2 s)

sound-net : (home : Node → Addr) (apart : AreApart home) (server : Config) (clients : List Config) → is_in_range server ≡ true → list_all is_in_range clients ≡ true
    → (ts : List Thing) (f : Net) → AllHappen home ts (open_net home server clients) f → Sound home apart f
sound-net home apart server clients one all ts f r = all-sound home apart ts (open_net home server clients) f r (open-sound home apart server clients one all)

pub headline-net : OfEachNet HasHeadline
headline-net home apart server clients one all ts f r = has-headline home apart f (sound-net home apart server clients one all ts f r)

pub delivered-net : OfEachNet (λ at. HasDelivered)
delivered-net home apart server clients one all ts f r = has-delivered home apart f (sound-net home apart server clients one all ts f r)
