-- The page follows from the headline of the lists that are kept, and from their being those of the users.
use Rattle.std.proofs.Common.{◌≡◌, ◌≢◌, ℕ, zero, suc, ◌+◌, ◌/◌, ◌%◌, ◌<◌, ◌≤◌, ◌⊎◌, inl, inr, ◌==◌, ◌&&◌, ◌||◌, nat_le, nat_lt, not, Bool, true, false, cond, List, [], ◌∷◌, ◌++◌, map, length, refl, sym, ap, subst, ◌∙◌, arith, Option, Some, None, Result, slice_get}
use Rattle.std.proofs.lemmas.Bool.Decides.{nat_tests}
use Rattle.std.proofs.lemmas.List.Elements.{filter-append}
use Rattle.enet_codec.specs.declared.event.Event.{Event}
use Rattle.enet_codec.specs.declared.event.Event.TheVariants as events
use Rattle.enet_codec.specs.declared.event.PeerRef.{PeerRef}
use Rattle.enet_codec.specs.declared.packet.Packet.{Packet}
use Rattle.enet_fragment.specs.Cutting.{piece_length}
use Rattle.enet_fragment.proofs.Cuts.{at-least, at-most}
use Rattle.enet_sender.specs.CommandChoice as command_choice
use Rattle.enet_sender.specs.CommandChoice.{goes_reliable, carried_from, is_long, is_flagged_unreliable_fragment}
use Rattle.enet_outbox.specs.Outbox.{is_unsequenced, is_flagged_unsequenced}
use Rattle.enet_packets.specs.declared.incoming_packet.Dispatched.{Dispatched}
use Rattle.enet_peer.specs.declared.parts.PeerEvent.{PeerEvent}
use Rattle.enet_peer.specs.declared.parts.PeerEvent.TheVariants as told
use Rattle.enet_slot.specs.Calls.{event_of}
use Rattle.law_connection.specs.Follows.{FollowsCarried}
use Rattle.law_connection.specs.LinkSteps.{Has, bodies_of}
use Rattle.law_connection.specs.Connection.{of_channel, in_sequence}
use Rattle.law_connection.specs.Law as law
use Rattle.law_connection.proofs.Lists.{Has-filter}
use Rattle.enet_codec.specs.declared.address.Addr.{Addr}
use Rattle.law_network.specs.Headline as kept
use Rattle.law_network.specs.Headline.{submitted_at, taken_at, mtu_at, received, AreOn, HasHeadlineAt, HasHeadlineBetween}
use Rattle.law_network.specs.Log.{packets_at}
use Rattle.law_network.specs.Network.{HostEnd, Site, end_of}
use Rattle.law_network.specs.Shown.{on_channel}
use Rattle.law_network.proofs.Channels.{same-come}
use Rattle.law_network.proofs.Submitting.{same-some}
use Rattle.law_headline.specs.Kept.{Tells, IsRecorded, IsCovered}
use Rattle.law_headline.proofs.Telling.{get-front}
use Rattle.law_headline.specs.Page.{Follows, came, goes_unsequenced, in_order, unsequenced, WereSubmitted, AreLast, IsOneLife, User, submitted_if, taken_if, IsRoom, IsInOrder, IsHeadline, IsBehind, HoldsBehind}

-- ---- order

-- a packet that doesn't go reliable isn't flagged so
even : (n : ℕ) → (n % 2 == 1) ≡ false → n % 2 ≡ 0
even n h = grind (arith, nat_tests)

or-left : (a b : Bool) → (a || b) ≡ false → a ≡ false
or-left true b h = absurd (let y : true ≡ false = h in cc)
or-left false b h = refl

unflagged : (mtu count : ℕ) (p : command_choice.Packet) → goes_reliable mtu count p ≡ false → p.flags % 2 ≡ 0
unflagged mtu count p h = even p.flags (or-left (p.flags % 2 == 1) (count == 65535) (or-left ((p.flags % 2 == 1) || count == 65535) (is_long mtu p && not (is_flagged_unreliable_fragment p)) h))

-- what goes unsequenced on the page is what the outbox sends so

abbrev content : Packet → command_choice.Packet
content p = record { flags = p.flags; body = p.body }

flags-are : (n : ℕ) → ((n / 2 % 2 == 1) && not (n % 2 == 1)) ≡ (n % 4 == 2)
flags-are n = by (n / 2 % 2 == 1) (n % 2 == 1) (n % 4 == 2) refl refl refl
  where
    by : (a b c : Bool) → (n / 2 % 2 == 1) ≡ a → (n % 2 == 1) ≡ b → (n % 4 == 2) ≡ c → (a && not b) ≡ c
    by true true true x y z = (let one : n % 2 ≡ 1 = grind (arith, nat_tests) in let two : n % 4 ≡ 2 = grind (arith, nat_tests) in absurd (omega arith))
    by true true false x y z = refl
    by true false true x y z = refl
    by true false false x y z =
        let one : n / 2 % 2 ≡ 1 = grind (arith, nat_tests) in
        let none : n % 2 ≡ 0 = even n y in
        let two : n % 4 ≢ 2 = grind (arith, nat_tests) in absurd (two (omega arith))
    by false b true x y z = (let no-two : n / 2 % 2 ≢ 1 = grind (arith, nat_tests) in let two : n % 4 ≡ 2 = grind (arith, nat_tests) in absurd (no-two (omega arith)))
    by false b false x y z = refl

fits-are : (a b : ℕ) → not (nat_lt a b) ≡ nat_le b a
fits-are a b = by (nat_lt a b) (nat_le b a) refl refl
  where
    by : (x y : Bool) → nat_lt a b ≡ x → nat_le b a ≡ y → not x ≡ y
    by true true e f = (let above : a < b = grind (arith, nat_tests) in let below : b ≤ a = grind (arith, nat_tests) in absurd (omega arith))
    by true false e f = refl
    by false true e f = refl
    by false false e f = (let below : b ≤ a = grind (arith, nat_tests) in let above : a < b = grind (arith, nat_tests) in absurd (omega arith))

each-is : (a b c d e : Bool) → (a && not b) ≡ d → not c ≡ e → (a && not b && not c) ≡ (d && e)
each-is true true c d e x y = ap (λ z. z && e) x
each-is true false c d e x y = (λ i. x i && y i)
each-is false b c d e x y = ap (λ z. z && e) x

goes-are : (mtu : ℕ) (p : Packet) → is_unsequenced mtu (content p) ≡ goes_unsequenced (piece_length mtu) p
goes-are mtu p = each-is (is_flagged_unsequenced (content p)) (p.flags % 2 == 1) (is_long mtu (content p)) (p.flags % 4 == 2) (nat_le (length p.body) (piece_length mtu))
    (flags-are p.flags) (fits-are (piece_length mtu) (length p.body))

-- what goes in order is what the outbox sends in sequence
in-order-are : (mtu channel : ℕ) (ps : List Packet) → AreOn channel ps → of_channel mtu channel ps ≡ map content (in_order (piece_length mtu) ps)
in-order-are mtu channel [] all = refl
in-order-are mtu channel (p ∷ ps) all =
    by (p.channel == channel && not (is_unsequenced mtu (content p))) (not (goes_unsequenced (piece_length mtu) p)) same (in-order-are mtu channel ps (λ q has. all q (inr has)))
  where
    same : (p.channel == channel && not (is_unsequenced mtu (content p))) ≡ not (goes_unsequenced (piece_length mtu) p)
    same =
        let on : p.channel ≡ channel = all p (inl refl) in
        let here : (p.channel == channel) ≡ true = grind (arith, nat_tests) in
        ap (λ b. b && not (is_unsequenced mtu (content p))) here ∙ ap not (goes-are mtu p)

    by : (t u : Bool) → t ≡ u → of_channel mtu channel ps ≡ map content (in_order (piece_length mtu) ps)
        → cond t (content p ∷ of_channel mtu channel ps) (of_channel mtu channel ps) ≡ map content (cond u (p ∷ in_order (piece_length mtu) ps) (in_order (piece_length mtu) ps))
    by true true e rest = ap (λ (l : List command_choice.Packet). content p ∷ l) rest
    by true false e rest = absurd (let y : true ≡ false = e in cc)
    by false true e rest = absurd (let y : false ≡ true = e in cc)
    by false false e rest = rest

follows : (mtu count : ℕ) (ps : List Packet) (bs : List (List ℕ)) → FollowsCarried (carried_from mtu count (map content ps)) bs → Follows ps bs
follows mtu count ps [] h = tt
follows mtu count [] (b ∷ bs) h = absurd h
follows mtu count (p ∷ ps) (b ∷ bs) (inl here) = inl (here.0, follows mtu (cond (goes_reliable mtu count (content p)) 0 (count + 1)) ps bs here.1)
follows mtu count (p ∷ ps) (b ∷ bs) (inr skip) = inr (unflagged mtu count (content p) skip.0, follows mtu (cond (goes_reliable mtu count (content p)) 0 (count + 1)) ps (b ∷ bs) skip.1)

came-is : (channel : ℕ) (es : List Event) → bodies_of (in_sequence channel (received es)) ≡ came channel es
came-is channel [] = refl
came-is channel (events.Connect p info ∷ es) = came-is channel es
came-is channel (events.Receive p q ∷ es) = by (q.channel == channel && not (q.flags == 2)) (came-is channel es)
  where
    one : Dispatched
    one = record { flags = q.flags; body = q.body }

    by : (t : Bool) → bodies_of (in_sequence channel (received es)) ≡ came channel es
        → bodies_of (cond t (one ∷ in_sequence channel (received es)) (in_sequence channel (received es))) ≡ cond t (q.body ∷ came channel es) (came channel es)
    by true rest = ap (λ (l : List (List ℕ)). q.body ∷ l) rest
    by false rest = rest
came-is channel (events.Disconnect p info ∷ es) = came-is channel es
came-is channel (events.Refused seat number why ∷ es) = came-is channel es

-- what follows, of the lists that are the transcript's
order : (channel : ℕ) (from to : Option HostEnd) (sent : List Packet) (es : List Event) → submitted_at channel from ≡ sent → taken_at channel to ≡ on_channel channel (received es) → kept.IsInOrder from to channel
    → Follows (in_order (piece_length (mtu_at from)) sent) (came channel es)
order channel from to sent es a b k =
    let got : bodies_of (in_sequence channel (taken_at channel to)) ≡ came channel es = ap (λ (l : List Packet). bodies_of (in_sequence channel l)) b ∙ ap bodies_of (same-come channel (received es)) ∙ came-is channel es in
    let f : Follows (in_order (piece_length (mtu_at from)) (submitted_at channel from)) (bodies_of (in_sequence channel (taken_at channel to))) =
    follows (mtu_at from) 0 (in_order (piece_length (mtu_at from)) (submitted_at channel from)) (bodies_of (in_sequence channel (taken_at channel to)))
    (subst (λ (l : List command_choice.Packet). FollowsCarried (carried_from (mtu_at from) 0 l) (bodies_of (in_sequence channel (taken_at channel to)))) (in-order-are (mtu_at from) channel (submitted_at channel from) k.submitted) k.follows) in
    subst (λ (l : List (List ℕ)). Follows (in_order (piece_length (mtu_at from)) sent) l) got
    (subst (λ (l : List Packet). Follows (in_order (piece_length (mtu_at from)) l) (bodies_of (in_sequence channel (taken_at channel to)))) a f)

-- what follows those that go in order follows all
skipped : (room : ℕ) (p : Packet) → goes_unsequenced room p ≡ true → p.flags % 2 ≡ 0
skipped room p h = (let two : p.flags % 4 ≡ 2 = grind (arith, nat_tests) in omega arith)
  where
    first : (a b : Bool) → (a && b) ≡ true → a ≡ true
    first true b e = refl
    first false b e = e

    flagged-so : (p.flags % 4 == 2) ≡ true
    flagged-so = first (p.flags % 4 == 2) (nat_le (length p.body) room) h

pub all-follow : (room : ℕ) (ps : List Packet) (bs : List (List ℕ)) → Follows (in_order room ps) bs → Follows ps bs
all-follow room ps [] h = tt
all-follow room [] (b ∷ bs) h = absurd h
all-follow room (p ∷ ps) (b ∷ bs) h = by (goes_unsequenced room p) refl (λ cs k. all-follow room ps cs k) h
  where
    by : (t : Bool) → goes_unsequenced room p ≡ t → ((cs : List (List ℕ)) → Follows (in_order room ps) cs → Follows ps cs)
        → Follows (cond (not t) (p ∷ in_order room ps) (in_order room ps)) (b ∷ bs) → Follows (p ∷ ps) (b ∷ bs)
    by true e rest k = inr (skipped room p e, rest (b ∷ bs) k)
    by false e rest (inl same) = inl (same.0, rest bs same.1)
    by false e rest (inr skip) = inr (skip.0, rest (b ∷ bs) skip.1)

-- ---- packets without order

-- one that goes unsequenced is flagged so, and not reliable
flagged : (mtu : ℕ) (p : command_choice.Packet) → is_unsequenced mtu p ≡ true → p.flags % 4 ≡ 2
flagged mtu p h = by (both-of (is_flagged_unsequenced p) (p.flags % 2 == 1) (is_long mtu p) h)
  where
    both-of : (a b c : Bool) → (a && not b && not c) ≡ true → (a ≡ true) × (b ≡ false)
    both-of true true c h = absurd (let y : false ≡ true = h in cc)
    both-of true false c h = (refl, refl)
    both-of false b c h = absurd (let y : false ≡ true = h in cc)

    by : (is_flagged_unsequenced p ≡ true) × ((p.flags % 2 == 1) ≡ false) → p.flags % 4 ≡ 2
    by k =
        let a : (p.flags / 2 % 2 == 1) ≡ true = k.0 in
        let b : (p.flags % 2 == 1) ≡ false = k.1 in
        let one : p.flags / 2 % 2 ≡ 1 = grind (arith, nat_tests) in
        let none : p.flags % 2 ≡ 0 = grind (arith, nat_tests) in
        omega arith

get-of : {X : Type 0} (xs : List X) (x : X) → Has xs x → (k : ℕ) × (slice_get xs k ≡ Some x)
get-of [] x h = absurd h
get-of (y ∷ ys) x (inl e) = (zero, ap (λ (z : _). Some z) e)
get-of (y ∷ ys) x (inr h) = (let k = get-of ys x h in (suc k.0, k.1))

received-has : (es : List Event) (k : ℕ) (p : PeerRef) (q : Packet) → slice_get es k ≡ Some (events.Receive p q) → Has (received es) q
received-has [] k p q h = absurd (let e : ◌≡◌ {A = Option Event} None (Some (events.Receive p q)) = h in cc)
received-has (e ∷ es) zero p q h = subst (λ (z : Event). Has (received (z ∷ es)) q) (sym (same-some e (events.Receive p q) h)) (inl refl)
received-has (events.Connect a info ∷ es) (suc k) p q h = received-has es k p q h
received-has (events.Receive a b ∷ es) (suc k) p q h = inr (received-has es k p q h)
received-has (events.Disconnect a info ∷ es) (suc k) p q h = received-has es k p q h
received-has (events.Refused seat number why ∷ es) (suc k) p q h = received-has es k p q h

-- what was submitted, of the lists that are the transcript's
were-submitted : (channel : ℕ) (from to : Option HostEnd) (sent : List Packet) (es : List Event) → submitted_at channel from ≡ sent → taken_at channel to ≡ on_channel channel (received es)
    → kept.WereSubmitted from to channel → WereSubmitted (unsequenced (piece_length (mtu_at from)) sent) channel es
were-submitted channel from to sent es a b w k p q at on flags =
    let test : (q.channel == channel) ≡ true = grind (arith, nat_tests) in
    let has : Has (taken_at channel to) q = subst (λ (l : List Packet). Has l q) (sym b) (Has-filter (λ (z : Packet). z.channel == channel) (received es) q (received-has es k p q at) test) in
    let s = w q has flags in
    let goes : goes_unsequenced (piece_length (mtu_at from)) s.0 ≡ true = sym (goes-are (mtu_at from) s.0) ∙ s.2.unsequenced in
    let g = get-of (unsequenced (piece_length (mtu_at from)) sent) s.0
    (Has-filter (goes_unsequenced (piece_length (mtu_at from))) sent s.0 (subst (λ (l : List Packet). Has l s.0) a s.1) goes) in
    (g.0, s.0, g.1, s.2.body, flagged (mtu_at from) (record { flags = s.0.flags; body = s.0.body }) s.2.unsequenced)

-- ---- life

last : (name : PeerRef) (es : List PeerEvent) → law.AreLast es → AreLast (map (event_of name) es)
last name [] h = tt
last name (told.Connect info ∷ es) h = absurd h
last name (told.Receive q ∷ es) h = last name es h
last name (told.Disconnect info ∷ es) h = ap (map (event_of name)) h

lives : (name : PeerRef) (es : List PeerEvent) → law.IsOneLife false es → IsOneLife (map (event_of name) es)
lives name [] h = tt
lives name (told.Connect info ∷ es) h = last name es h
lives name (told.Receive q ∷ es) h = absurd h
lives name (told.Disconnect info ∷ es) h = ap (map (event_of name)) h

-- ---- ends

pub has-end : (x : ℕ) (ends : List HostEnd) (e : HostEnd) → end_of x ends ≡ Some e → Has ends e × (e.connection ≡ x)
has-end x [] e h = absurd (let y : ◌≡◌ {A = Option HostEnd} None (Some e) = h in cc)
has-end x (f ∷ ends) e h = by (λ k. has-end x ends e k) (f.connection == x) refl h
  where
    by : (end_of x ends ≡ Some e → Has ends e × (e.connection ≡ x)) → (t : Bool) → (f.connection == x) ≡ t → cond t (Some f) (end_of x ends) ≡ Some e → Has (f ∷ ends) e × (e.connection ≡ x)
    by more true is y = (let same : f ≡ e = same-some f e y in (inl same, ap (λ (z : HostEnd). z.connection) (sym same) ∙ (let n : f.connection ≡ x = grind (arith, nat_tests) in n)))
    by more false is y = (let r = more y in (inr r.0, r.1))

-- an end of a host whose user this is
pub record IsEnd (u : User) (e : HostEnd) : Type 0 where
  submitted_is : (channel : ℕ) → channel < 256 → submitted_at channel (Some e) ≡ u.submitted e.name channel
  taken_is : (channel : ℕ) → channel < 256 → taken_at channel (Some e) ≡ on_channel channel (received (u.taken e.name))
  life : IsOneLife (u.taken e.name)

-- what is kept of a host is its user's, and has the headline
pub record IsUsers (is_host : Addr → Bool) (u : User) (s : Site) : Type 0 where
  pub recorded : IsRecorded u.submitted u.taken s
  pub headline : HasHeadlineAt false is_host s
  pub covered : u.guests ≡ false → IsCovered is_host u.submitted u.taken s

pub is-end : (is_host : Addr → Bool) (u : User) (s : Site) → IsUsers is_host u s → (e : HostEnd) → Has s.ends e → IsEnd u e
is-end is_host u s k e has =
    let tells : Tells u.submitted u.taken e = k.recorded.ends e has in
    let life = k.headline.one_life e has in
    record {
      submitted_is = λ channel low. tells.submitted_is channel low;
      taken_is = λ channel low. k.headline.told e has channel low ∙ ap (λ (l : List Event). on_channel channel (received l)) tells.events_is;
      life = subst IsOneLife (sym life.told ∙ tells.events_is) (lives e.name life.events life.life);
    }

-- what the server calls the peer of a connection
abbrev pub called : Option HostEnd → Option PeerRef
called None = None
called (Some e) = Some e.name

is-room : (mtu : ℕ) → IsRoom (piece_length mtu)
is-room mtu = record { least = at-least mtu; most = at-most mtu }

pub kept-by : (client server : User) (e : HostEnd) (o : Option HostEnd) → IsEnd client e → ((t : HostEnd) → o ≡ Some t → IsEnd server t) → HasHeadlineBetween (Some e) o → IsInOrder client server e.name (called o)
kept-by client server e None one two k = record {
  room_forth = piece_length e.mtu;
  room_back = piece_length 0;
  is_room_forth = is-room e.mtu;
  is_room_back = is-room 0;
  forth = λ channel low. tt;
  back = λ channel low. order channel None (Some e) [] (client.taken e.name) refl (one.taken_is channel low) (k.back channel);
  unsequenced_forth = λ channel low n p q at on flags. absurd (let y : ◌≡◌ {A = Option Event} None (Some (events.Receive p q)) = at in cc);
  unsequenced_back = λ channel low. were-submitted channel None (Some e) [] (client.taken e.name) refl (one.taken_is channel low) (k.unsequenced_back channel);
  client_life = one.life;
  server_life = tt;
}
kept-by client server e (Some t) one two k =
    let far : IsEnd server t = two t refl in
    record {
      room_forth = piece_length e.mtu;
      room_back = piece_length t.mtu;
      is_room_forth = is-room e.mtu;
      is_room_back = is-room t.mtu;
      forth = λ channel low. order channel (Some e) (Some t) (client.submitted e.name channel) (server.taken t.name) (one.submitted_is channel low) (far.taken_is channel low) (k.forth channel);
      back = λ channel low. order channel (Some t) (Some e) (server.submitted t.name channel) (client.taken e.name) (far.submitted_is channel low) (one.taken_is channel low) (k.back channel);
      unsequenced_forth = λ channel low. were-submitted channel (Some e) (Some t) (client.submitted e.name channel) (server.taken t.name) (one.submitted_is channel low) (far.taken_is channel low) (k.unsequenced_forth channel);
      unsequenced_back = λ channel low. were-submitted channel (Some t) (Some e) (server.submitted t.name channel) (client.taken e.name) (far.submitted_is channel low) (one.taken_is channel low) (k.unsequenced_back channel);
      client_life = one.life;
      server_life = far.life;
    }

pub called-some : (o : Option HostEnd) (p : PeerRef) → called o ≡ Some p → (t : HostEnd) × (o ≡ Some t) × (t.name ≡ p)
called-some None p h = absurd (let y : ◌≡◌ {A = Option PeerRef} None (Some p) = h in cc)
called-some (Some t) p h = (t, refl, same-some t.name p h)

-- connection x of a client that calls its peer so, and of the server
pub record IsBegun (client : ℕ → Option Site) (server : Site) (x i : ℕ) (name : PeerRef) : Type 0 where
  pub site : Site
  pub is : client i ≡ Some site
  pub end : HostEnd
  pub has : Has site.ends end
  pub connection : end.connection ≡ x
  pub named : end.name ≡ name
  pub between : HasHeadlineBetween (Some end) (end_of x server.ends)

-- each connection has the name that the server's end gives it
pub named-page : (is_host : Addr → Bool) (server : Site) (su : User) (client : ℕ → Option Site) (cu : ℕ → User) (asked : List (ℕ × PeerRef)) → IsUsers is_host su server → ((i : ℕ) (s : Site) → client i ≡ Some s → IsUsers is_host (cu i) s)
    → ((x i : ℕ) (name : PeerRef) → slice_get asked x ≡ Some (i, name) → IsBegun client server x i name)
    → ((e : HostEnd) → Has server.ends e → e.connection < length asked) → ((i : ℕ) (p : PeerRef) → client i ≡ None → (cu i).taken p ≡ [])
    → ((i : ℕ) (s : Site) → client i ≡ Some s → (e : HostEnd) → Has s.ends e → (name : PeerRef) × (slice_get asked e.connection ≡ Some (i, name)))
    → (h : IsHeadline su cu asked) × ((x : ℕ) → h.here x ≡ called (end_of x server.ends))
named-page is_host server su client cu asked ks kc begun below none own = (record { here = here; each = each; apart = apart; apart_here = apart-here; all_here = all-here; all_there = all-there }, λ x. refl)
  where
    here : ℕ → Option PeerRef
    here x = called (end_of x server.ends)

    each : (x i : ℕ) (there : PeerRef) → slice_get asked x ≡ Some (i, there) → IsInOrder (cu i) su there (here x)
    each x i there is =
        let b : IsBegun client server x i there = begun x i there is in
        subst (λ (p : PeerRef). IsInOrder (cu i) su p (here x)) b.named
        (kept-by (cu i) su b.end (end_of x server.ends) (is-end is_host (cu i) b.site (kc i b.site b.is) b.end b.has) (λ t at. is-end is_host su server ks t (has-end x server.ends t at).0) b.between)

    apart : (x y i : ℕ) (there : PeerRef) → slice_get asked x ≡ Some (i, there) → slice_get asked y ≡ Some (i, there) → x ≡ y
    apart x y i there a b =
        let one : IsBegun client server x i there = begun x i there a in
        let two : IsBegun client server y i there = begun y i there b in
        let same : two.site ≡ one.site = same-some two.site one.site (sym two.is ∙ one.is) in
        let has : Has one.site.ends two.end = subst (λ (s : Site). Has s.ends two.end) same two.has in
        let is : one.end ≡ two.end = (kc i one.site one.is).headline.named one.end two.end one.has has (one.named ∙ sym two.named) in
        sym one.connection ∙ ap (λ (e : HostEnd). e.connection) is ∙ two.connection

    all-here : su.guests ≡ false → (p : PeerRef) → su.taken p ≢ [] → (x : ℕ) × (here x ≡ Some p) × (x < length asked)
    all-here quiet p some =
        let e = (ks.covered quiet).ends p (inr some) in
        (e.0.connection, ap called (ks.headline.only e.0 e.1) ∙ ap (λ (q : PeerRef). Some q) e.2, below e.0 e.1)

    there-by : (i : ℕ) (p : PeerRef) → (cu i).guests ≡ false → (cu i).taken p ≢ [] → (o : Option Site) → client i ≡ o → (x : ℕ) × (slice_get asked x ≡ Some (i, p))
    there-by i p quiet some None is = absurd (some (none i p is))
    there-by i p quiet some (Some s) is =
        let e = ((kc i s is).covered quiet).ends p (inr some) in
        let o = own i s is e.0 e.1 in
        let b : IsBegun client server e.0.connection i o.0 = begun e.0.connection i o.0 o.1 in
        let site : b.site ≡ s = same-some b.site s (sym b.is ∙ is) in
        let same : b.end ≡ e.0 = same-some b.end e.0 (sym (subst (λ (n : ℕ). end_of n b.site.ends ≡ Some b.end) b.connection ((kc i b.site b.is).headline.only b.end b.has)) ∙ ap (λ (z : Site). end_of e.0.connection z.ends) site
        ∙ (kc i s is).headline.only e.0 e.1) in
        let name : o.0 ≡ p = sym b.named ∙ ap (λ (z : HostEnd). z.name) same ∙ e.2 in
        (e.0.connection, o.1 ∙ ap (λ (q : PeerRef). Some (i, q)) name)

    all-there : (i : ℕ) → (cu i).guests ≡ false → (p : PeerRef) → (cu i).taken p ≢ [] → (x : ℕ) × (slice_get asked x ≡ Some (i, p))
    all-there i quiet p some = there-by i p quiet some (client i) refl

    apart-here : (x y : ℕ) (p : PeerRef) → here x ≡ Some p → here y ≡ Some p → x ≡ y
    apart-here x y p a b =
        let one = called-some (end_of x server.ends) p a in
        let two = called-some (end_of y server.ends) p b in
        let h1 = has-end x server.ends one.0 one.1 in
        let h2 = has-end y server.ends two.0 two.1 in
        let is : one.0 ≡ two.0 = ks.headline.named one.0 two.0 h1.0 h2.0 (one.2 ∙ sym two.2) in
        sym h1.1 ∙ ap (λ (e : HostEnd). e.connection) is ∙ h2.1

pub page : (is_host : Addr → Bool) (server : Site) (su : User) (client : ℕ → Option Site) (cu : ℕ → User) (asked : List (ℕ × PeerRef)) → IsUsers is_host su server → ((i : ℕ) (s : Site) → client i ≡ Some s → IsUsers is_host (cu i) s)
    → ((x i : ℕ) (name : PeerRef) → slice_get asked x ≡ Some (i, name) → IsBegun client server x i name)
    → ((e : HostEnd) → Has server.ends e → e.connection < length asked) → ((i : ℕ) (p : PeerRef) → client i ≡ None → (cu i).taken p ≡ [])
    → ((i : ℕ) (s : Site) → client i ≡ Some s → (e : HostEnd) → Has s.ends e → (name : PeerRef) × (slice_get asked e.connection ≡ Some (i, name)))
    → IsHeadline su cu asked
page is_host server su client cu asked ks kc begun below none own = (named-page is_host server su client cu asked ks kc begun below none own).0

-- ---- what follows those that go in order follows all that was submitted

pub forth-follows : (client server : User) (there : PeerRef) (here : Option PeerRef) → IsInOrder client server there here → (channel : ℕ) → channel < 256 → Follows (client.submitted there channel) (came channel (taken_if server here))
forth-follows client server there here k channel low = all-follow k.room_forth (client.submitted there channel) (came channel (taken_if server here)) (k.forth channel low)

pub back-follows : (client server : User) (there : PeerRef) (here : Option PeerRef) → IsInOrder client server there here → (channel : ℕ) → channel < 256 → Follows (submitted_if server here channel) (came channel (client.taken there))
back-follows client server there here k channel low = all-follow k.room_back (submitted_if server here channel) (came channel (client.taken there)) (k.back channel low)

-- ---- users of whom less is known

pub longer : (ps qs : List Packet) (bs : List (List ℕ)) → Follows ps bs → Follows (ps ++ qs) bs
longer ps qs [] h = tt
longer [] qs (b ∷ bs) h = absurd h
longer (p ∷ ps) qs (b ∷ bs) (inl same) = inl (same.0, longer ps qs bs same.1)
longer (p ∷ ps) qs (b ∷ bs) (inr skip) = inr (skip.0, longer ps qs (b ∷ bs) skip.1)

pub shorter : (ps : List Packet) (bs cs : List (List ℕ)) → Follows ps (bs ++ cs) → Follows ps bs
shorter ps [] cs h = tt
shorter [] (b ∷ bs) cs h = absurd h
shorter (p ∷ ps) (b ∷ bs) cs (inl same) = inl (same.0, shorter ps bs cs same.1)
shorter (p ∷ ps) (b ∷ bs) cs (inr skip) = inr (skip.0, shorter ps (b ∷ bs) cs skip.1)

pub came-append : (channel : ℕ) (es fs : List Event) → came channel (es ++ fs) ≡ came channel es ++ came channel fs
came-append channel [] fs = refl
came-append channel (events.Connect p info ∷ es) fs = came-append channel es fs
came-append channel (events.Receive p q ∷ es) fs = by (q.channel == channel && not (q.flags == 2)) (came-append channel es fs)
  where
    by : (t : Bool) → came channel (es ++ fs) ≡ came channel es ++ came channel fs
        → cond t (q.body ∷ came channel (es ++ fs)) (came channel (es ++ fs)) ≡ cond t (q.body ∷ came channel es) (came channel es) ++ came channel fs
    by true rest = ap (λ (l : List (List ℕ)). q.body ∷ l) rest
    by false rest = rest
came-append channel (events.Disconnect p info ∷ es) fs = came-append channel es fs
came-append channel (events.Refused seat number why ∷ es) fs = came-append channel es fs

none-first : (es fs : List Event) → es ++ fs ≡ [] → es ≡ []
none-first [] fs h = refl
none-first (e ∷ es) fs h = absurd (let y : ◌≡◌ {A = List Event} (e ∷ (es ++ fs)) [] = h in cc)

last-first : (es fs : List Event) → AreLast (es ++ fs) → AreLast es
last-first [] fs h = tt
last-first (events.Connect p info ∷ es) fs h = absurd h
last-first (events.Receive p q ∷ es) fs h = last-first es fs h
last-first (events.Disconnect p info ∷ es) fs h = none-first es fs h
last-first (events.Refused seat number why ∷ es) fs h = absurd h

pub life-first : (es fs : List Event) → IsOneLife (es ++ fs) → IsOneLife es
life-first [] fs h = tt
life-first (events.Connect p info ∷ es) fs h = last-first es fs h
life-first (events.Receive p q ∷ es) fs h = absurd h
life-first (events.Disconnect p info ∷ es) fs h = none-first es fs h
life-first (events.Refused seat number why ∷ es) fs h = absurd h

-- order between users of whom less is known
order-behind : (room channel : ℕ) (ps qs rest : List Packet) (es fs more : List Event) → qs ≡ ps ++ rest → es ≡ fs ++ more → Follows (in_order room ps) (came channel es) → Follows (in_order room qs) (came channel fs)
order-behind room channel ps qs rest es fs more a b h =
    subst (λ (l : List Packet). Follows l (came channel fs)) (sym (ap (in_order room) a ∙ filter-append (λ (p : Packet). not (goes_unsequenced room p)) ps rest))
    (longer (in_order room ps) (in_order room rest) (came channel fs) (shorter (in_order room ps) (came channel fs) (came channel more)
    (subst (λ (l : List (List ℕ)). Follows (in_order room ps) l) (ap (came channel) b ∙ came-append channel fs more) h)))

submitted-behind : (room channel : ℕ) (ps qs rest : List Packet) (es fs more : List Event) → qs ≡ ps ++ rest → es ≡ fs ++ more → WereSubmitted (unsequenced room ps) channel es → WereSubmitted (unsequenced room qs) channel fs
submitted-behind room channel ps qs rest es fs more a b w k p q at on flags =
    let s = w k p q (ap (λ (l : List Event). slice_get l k) b ∙ get-front fs more k (events.Receive p q) at) on flags in (
      s.0,
      s.1,
      ap (λ (l : List Packet). slice_get l s.0) (ap (unsequenced room) a ∙ filter-append (goes_unsequenced room) ps rest) ∙ get-front (unsequenced room ps) (unsequenced room rest) s.0 s.1 s.2,
      s.3,
      s.4,
    )

life-behind : (es fs more : List Event) → es ≡ fs ++ more → IsOneLife es → IsOneLife fs
life-behind es fs more b h = life-first fs more (subst IsOneLife b h)

more-if : (u v : User) (o : Option PeerRef) (channel : ℕ) → IsBehind u v → (rest : List Packet) × (submitted_if v o channel ≡ submitted_if u o channel ++ rest)
more-if u v None channel k = ([], refl)
more-if u v (Some p) channel k = k.more p channel

fewer-if : (u v : User) (o : Option PeerRef) → IsBehind u v → (rest : List Event) × (taken_if u o ≡ taken_if v o ++ rest)
fewer-if u v None k = ([], refl)
fewer-if u v (Some p) k = k.fewer p

in-order-behind : (client server c s : User) (there : PeerRef) (here : Option PeerRef) → IsBehind client c → IsBehind server s → IsInOrder client server there here → IsInOrder c s there here
in-order-behind client server c s there here kc ks h = record {
  room_forth = h.room_forth;
  room_back = h.room_back;
  is_room_forth = h.is_room_forth;
  is_room_back = h.is_room_back;
  forth = λ channel low. (let a = kc.more there channel in let b = fewer-if server s here ks in
      order-behind h.room_forth channel (client.submitted there channel) (c.submitted there channel) a.0 (taken_if server here) (taken_if s here) b.0 a.1 b.1 (h.forth channel low));
  back = λ channel low. (let a = more-if server s here channel ks in let b = kc.fewer there in
      order-behind h.room_back channel (submitted_if server here channel) (submitted_if s here channel) a.0 (client.taken there) (c.taken there) b.0 a.1 b.1 (h.back channel low));
  unsequenced_forth = λ channel low. (let a = kc.more there channel in let b = fewer-if server s here ks in
      submitted-behind h.room_forth channel (client.submitted there channel) (c.submitted there channel) a.0 (taken_if server here) (taken_if s here) b.0 a.1 b.1 (h.unsequenced_forth channel low));
  unsequenced_back = λ channel low. (let a = more-if server s here channel ks in let b = kc.fewer there in
      submitted-behind h.room_back channel (submitted_if server here channel) (submitted_if s here channel) a.0 (client.taken there) (c.taken there) b.0 a.1 b.1 (h.unsequenced_back channel low));
  client_life = (let b = kc.fewer there in life-behind (client.taken there) (c.taken there) b.0 b.1 h.client_life);
  server_life = (let b = fewer-if server s here ks in life-behind (taken_if server here) (taken_if s here) b.0 b.1 h.server_life);
}

pub holds-behind : HoldsBehind
holds-behind server later clients laters asked ks kc h = record {
  here = h.here;
  each = λ x i there is. in-order-behind (clients i) server (laters i) later there (h.here x) (kc i) ks (h.each x i there is);
  apart = h.apart;
  apart_here = h.apart_here;
  all_here = λ quiet p some. h.all_here (sym ks.same ∙ quiet) p (not-none server later p ks some);
  all_there = λ i quiet p some. h.all_there i (sym (kc i).same ∙ quiet) p (not-none (clients i) (laters i) p (kc i) some);
}
  where
    not-none : (u v : User) (p : PeerRef) → IsBehind u v → v.taken p ≢ [] → u.taken p ≢ []
    not-none u v p k some none = some (none-first (v.taken p) (k.fewer p).0 (sym (k.fewer p).1 ∙ none))
