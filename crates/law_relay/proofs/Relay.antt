-- The chat for one peer.
use Rattle.std.proofs.Common.{◌≡◌, ℕ, zero, suc, ◌<◌, ◌==◌, ◌&&◌, ◌||◌, not, eqb, Bool, true, false, cond, List, [], ◌∷◌, ◌++◌, map, refl, sym, ap, subst, ◌∙◌, arith, append-nil, inl, inr, Option, Some, None}
use Rattle.std.specs.Prelude.{flat_map, filter}
use Rattle.std.proofs.lemmas.Bool.Decides.{nat_tests}
use Rattle.std.proofs.lemmas.Grind.{flat_map-append}
use Rattle.enet_codec.specs.declared.event.Event.{Event}
use Rattle.enet_codec.specs.declared.event.Event.TheVariants as events
use Rattle.enet_codec.specs.declared.event.PeerRef.{PeerRef}
use Rattle.enet_codec.specs.declared.packet.Packet.{Packet}
use Rattle.enet_submit.specs.declared.order.Order.{Order}
use Rattle.enet_submit.specs.declared.order.Order.TheVariants as order
use Rattle.enet_chat.specs.Peers.{is_same, has, has_each_once, others}
use Rattle.enet_chat.specs.Chat.{noted, relayed, to_each, chat}
use Rattle.enet_chat.specs.Relaying.{relayed_all, is_for, those_for, SameForEach}
use Rattle.enet_chat.proofs.PeersLemmas.{and_both, not_true, others_once, added_once, same_is}
use Rattle.law_network.specs.Network.{is_same_name}
use Rattle.enet_bridge.specs.Ends.{orders}
use Rattle.enet_service.specs.Queues.{given}
use Rattle.enet_turn.specs.Run.{all_gave}
use Rattle.law_service.specs.Told.{packet_in}
use Rattle.law_headline.specs.Page.{User, IsHeadline, Follows, came, submitted_if}
use Rattle.law_headline.proofs.Page.{longer, back-follows}
use Rattle.law_service.specs.EndToEnd.{rounds_of, Running, user_of}
use Rattle.law_relay.specs.Relay.{AreEnds, AreMerged, Relaying, hears, heard, chat_flags, as_chat, chat_for, RelayRule, IsPart, BetweenClients}

-- the two ways to compare names
pub same-names : (a b : PeerRef) → is_same_name a b ≡ is_same b a
same-names a b = by (is_same_name a b) (is_same b a) refl refl
  where
    by : (s t : Bool) → is_same_name a b ≡ s → is_same b a ≡ t → is_same_name a b ≡ is_same b a
    by true true e f = e ∙ sym f
    by false false e f = e ∙ sym f
    by true false e f = absurd (let x : a.slot ≡ b.slot = grind (arith, nat_tests) in let y : a.generation ≡ b.generation = grind (arith, nat_tests) in let z : is_same b a ≡ true = grind (arith, nat_tests) in let w : true ≡ false = sym z ∙ f in cc)
    by false true e f = absurd (let p : b ≡ a = same_is b a f in let z : is_same_name a b ≡ true = subst (λ (q : PeerRef). is_same_name a q ≡ true) (sym p) (let s : is_same_name a a ≡ true = grind (arith, nat_tests) in s) in let w : true ≡ false = sym z ∙ e in cc)

-- only the orders for a peer have packets for it
packets-for : (q : PeerRef) (channel : ℕ) (os : List Order) → flat_map (packet_in q channel) os ≡ flat_map (packet_in q channel) (those_for q os)
packets-for q channel [] = refl
packets-for q channel (order.Connect addr channels info word ∷ os) = packets-for q channel os
packets-for q channel (order.Submit to number flags body ∷ os) = by (is_same to q) (same-names q to) (packets-for q channel os)
  where
    one : List Packet
    one = (record { channel = number; flags = flags; body = body }) ∷ []

    by : (b : Bool) → is_same_name q to ≡ b → flat_map (packet_in q channel) os ≡ flat_map (packet_in q channel) (those_for q os)
        → packet_in q channel (order.Submit to number flags body) ++ flat_map (packet_in q channel) os ≡ flat_map (packet_in q channel) (cond b (order.Submit to number flags body ∷ those_for q os) (those_for q os))
    by true e rest = ap (λ (l : List Packet). packet_in q channel (order.Submit to number flags body) ++ l) rest
    by false e rest = ap (λ (b : Bool). cond (b && number == channel) ((record { channel = number; flags = flags; body = body }) ∷ []) [] ++ flat_map (packet_in q channel) os) e ∙ rest
packets-for q channel (order.Disconnect to how info ∷ os) = by (is_same to q) (packets-for q channel os)
  where
    by : (b : Bool) → flat_map (packet_in q channel) os ≡ flat_map (packet_in q channel) (those_for q os)
        → flat_map (packet_in q channel) os ≡ flat_map (packet_in q channel) (cond b (order.Disconnect to how info ∷ those_for q os) (those_for q os))
    by true rest = rest
    by false rest = rest

-- one packet to each of some peers
no-one : (q : PeerRef) (channel number flags : ℕ) (body : List ℕ) (peers : List PeerRef) → has peers q ≡ false → flat_map (packet_in q channel) (to_each peers number flags body) ≡ []
no-one q channel number flags body [] h = refl
no-one q channel number flags body (p ∷ ps) h =
    let both = Rattle.enet_chat.proofs.PeersLemmas.or_none (is_same p q) (has ps q) h in
    ap (λ (b : Bool). cond (b && number == channel) ((record { channel = number; flags = flags; body = body }) ∷ []) [] ++ flat_map (packet_in q channel) (to_each ps number flags body)) (same-names q p ∙ both.0)
    ∙ no-one q channel number flags body ps both.1

to-one : (q : PeerRef) (channel number flags : ℕ) (body : List ℕ) (peers : List PeerRef) → has_each_once peers ≡ true
    → flat_map (packet_in q channel) (to_each peers number flags body) ≡ cond (has peers q && number == channel) ((record { channel = number; flags = flags; body = body }) ∷ []) []
to-one q channel number flags body [] once = refl
to-one q channel number flags body (p ∷ ps) once = by (is_same p q) refl (to-one q channel number flags body ps both.1)
  where
    both : (not (has ps p) ≡ true) × (has_each_once ps ≡ true)
    both = and_both (not (has ps p)) (has_each_once ps) once

    one : List Packet
    one = (record { channel = number; flags = flags; body = body }) ∷ []

    by : (b : Bool) → is_same p q ≡ b → flat_map (packet_in q channel) (to_each ps number flags body) ≡ cond (has ps q && number == channel) one []
        → cond (is_same_name q p && number == channel) one [] ++ flat_map (packet_in q channel) (to_each ps number flags body) ≡ cond ((is_same p q || has ps q) && number == channel) one []
    by true e rest =
        let gone : has ps q ≡ false = subst (λ (x : PeerRef). has ps x ≡ false) (same_is p q e) (not_true (has ps p) both.0) in
        ap (λ (l : List Packet). cond (is_same_name q p && number == channel) one [] ++ l) (no-one q channel number flags body ps gone) ∙ append-nil (cond (is_same_name q p && number == channel) one [])
        ∙ (λ i. cond ((same-names q p ∙ e) i && number == channel) one []) ∙ sym (ap (λ (b : Bool). cond ((b || has ps q) && number == channel) one []) e)
    by false e rest =
        ap (λ (b : Bool). cond (b && number == channel) one [] ++ flat_map (packet_in q channel) (to_each ps number flags body)) (same-names q p ∙ e) ∙ rest
        ∙ sym (ap (λ (b : Bool). cond ((b || has ps q) && number == channel) one []) e)

-- the others
has-cond : (b : Bool) (p : PeerRef) (rest : List PeerRef) (q : PeerRef) → has (cond b (p ∷ rest) rest) q ≡ ((b && is_same p q) || has rest q)
has-cond true p rest q = refl
has-cond false p rest q = refl

merge : (a s h t : Bool) → (s ≡ true → a ≡ t) → ((not a && s) || (h && not t)) ≡ ((s || h) && not t)
merge a true h t e = (λ i. (not (e refl i) && true) || (h && not t)) ∙ by t h
  where
    by : (t h : Bool) → ((not t && true) || (h && not t)) ≡ not t
    by true true = refl
    by true false = refl
    by false h = refl
merge true false h t e = refl
merge false false h t e = refl

pub has-others : (peers : List PeerRef) (gone q : PeerRef) → has (others peers gone) q ≡ (has peers q && not (is_same q gone))
has-others [] gone q = refl
has-others (p ∷ ps) gone q =
    has-cond (not (is_same p gone)) p (others ps gone) q ∙ ap (λ (b : Bool). (not (is_same p gone) && is_same p q) || b) (has-others ps gone q)
    ∙ merge (is_same p gone) (is_same p q) (has ps q) (is_same q gone) (λ e. ap (λ (x : PeerRef). is_same x gone) (same_is p q e))

-- one event
one-event : (q : PeerRef) (channel : ℕ) (peers : List PeerRef) (e : Event) → channel < 2 → has_each_once peers ≡ true → flat_map (packet_in q channel) (relayed peers e) ≡ flat_map (as_chat channel) (hears q channel peers e)
one-event q channel peers (events.Connect p info) low once = refl
one-event q channel peers (events.Disconnect p info) low once = refl
one-event q channel peers (events.Refused seat number why) low once = refl
one-event q channel peers (events.Receive p packet) low once = by packet.channel refl
  where
    swap : (h c : Bool) (x : List Packet) → cond {A = List Packet} (h && c) x [] ≡ cond {A = List Packet} (c && h) x []
    swap true true x = refl
    swap true false x = refl
    swap false true x = refl
    swap false false x = refl

    -- a packet on this channel
    sends : (n : ℕ) (flags : ℕ) → (n ≡ channel → flags ≡ chat_flags channel) → flat_map (packet_in q channel) (to_each (others peers p) n flags packet.body)
        ≡ cond {A = List Packet} (n == channel && (has peers q && not (is_same q p))) ((record { channel = channel; flags = chat_flags channel; body = packet.body }) ∷ []) []
    sends n flags same = to-one q channel n flags packet.body (others peers p) (others_once peers p once)
        ∙ ap (λ (b : Bool). cond {A = List Packet} (b && n == channel) ((record { channel = n; flags = flags; body = packet.body }) ∷ []) []) (has-others peers p q)
        ∙ swap (has peers q && not (is_same q p)) (n == channel) ((record { channel = n; flags = flags; body = packet.body }) ∷ []) ∙ fits (n == channel) refl
      where
        fits : (b : Bool) → (n == channel) ≡ b → cond {A = List Packet} (b && (has peers q && not (is_same q p))) ((record { channel = n; flags = flags; body = packet.body }) ∷ []) []
            ≡ cond {A = List Packet} (b && (has peers q && not (is_same q p))) ((record { channel = channel; flags = chat_flags channel; body = packet.body }) ∷ []) []
        fits true e = (let s : n ≡ channel = grind (arith, nat_tests) in
            ap (λ (x : Packet). cond {A = List Packet} (has peers q && not (is_same q p)) (x ∷ []) []) (λ i. record { channel = s i; flags = same s i; body = packet.body }))
        fits false e = refl

    mapped : (b : Bool) → flat_map (as_chat channel) (cond b (events.Receive p packet ∷ []) []) ≡ cond {A = List Packet} b ((record { channel = channel; flags = chat_flags channel; body = packet.body }) ∷ []) []
    mapped true = refl
    mapped false = refl

    by : (n : ℕ) → packet.channel ≡ n → flat_map (packet_in q channel) (chat (others peers p) packet.channel packet.body) ≡ flat_map (as_chat channel) (hears q channel peers (events.Receive p packet))
    by zero e = ap (λ (n : ℕ). flat_map (packet_in q channel) (chat (others peers p) n packet.body)) e ∙ sends 0 1 (λ s. ap chat_flags s)
        ∙ sym (mapped (packet.channel == channel && (has peers q && not (is_same q p)))
        ∙ ap (λ (n : ℕ). cond {A = List Packet} (n == channel && (has peers q && not (is_same q p))) ((record { channel = channel; flags = chat_flags channel; body = packet.body }) ∷ []) []) e)
    by (suc zero) e = ap (λ (n : ℕ). flat_map (packet_in q channel) (chat (others peers p) n packet.body)) e ∙ sends 1 0 (λ s. ap chat_flags s)
        ∙ sym (mapped (packet.channel == channel && (has peers q && not (is_same q p)))
        ∙ ap (λ (n : ℕ). cond {A = List Packet} (n == channel && (has peers q && not (is_same q p))) ((record { channel = channel; flags = chat_flags channel; body = packet.body }) ∷ []) []) e)
    by (suc (suc n)) e = ap (λ (n : ℕ). flat_map (packet_in q channel) (chat (others peers p) n packet.body)) e
        ∙ sym (mapped (packet.channel == channel && (has peers q && not (is_same q p)))
        ∙ (let t : (packet.channel == channel) ≡ false = grind (arith, nat_tests) in
        ap (λ (b : Bool). cond {A = List Packet} (b && (has peers q && not (is_same q p))) ((record { channel = channel; flags = chat_flags channel; body = packet.body }) ∷ []) []) t))

-- the table has each once
noted-once : (peers : List PeerRef) (e : Event) → has_each_once peers ≡ true → has_each_once (noted peers e) ≡ true
noted-once peers (events.Connect p info) once = by (has peers p) refl
  where
    by : (b : Bool) → has peers p ≡ b → has_each_once (cond b peers (peers ++ p ∷ [])) ≡ true
    by true e = once
    by false e = added_once true peers (peers ++ p ∷ []) p refl e once
noted-once peers (events.Receive p packet) once = once
noted-once peers (events.Disconnect p info) once = others_once peers p once
noted-once peers (events.Refused seat number why) once = once

all-events : (q : PeerRef) (channel : ℕ) (peers : List PeerRef) (es : List Event) → channel < 2 → has_each_once peers ≡ true → flat_map (packet_in q channel) (relayed_all peers es) ≡ flat_map (as_chat channel) (heard q channel peers es)
all-events q channel peers [] low once = refl
all-events q channel peers (e ∷ es) low once =
    let more : has_each_once (noted peers e) ≡ true = noted-once peers e once in
    flat_map-append (packet_in q channel) (relayed (noted peers e) e) (relayed_all (noted peers e) es)
    ∙ (λ i. one-event q channel (noted peers e) e low more i ++ all-events q channel (noted peers e) es low more i)
    ∙ sym (flat_map-append (as_chat channel) (hears q channel (noted peers e) e) (heard q channel (noted peers e) es))

-- orders that end connections have no packets
packets-merged : (q : PeerRef) (channel : ℕ) (xs ys zs : List Order) → AreEnds ys → AreMerged xs ys zs → flat_map (packet_in q channel) zs ≡ flat_map (packet_in q channel) xs
packets-merged q channel xs ys [] ends p = ap (flat_map (packet_in q channel)) (sym p.0)
packets-merged q channel xs ys (z ∷ zs) ends (inl p) =
    ap (λ (ps : List Packet). packet_in q channel z ++ ps) (packets-merged q channel p.0 ys zs ends p.2) ∙ ap (flat_map (packet_in q channel)) (sym p.1)
packets-merged q channel xs ys (z ∷ zs) ends (inr p) =
    let e : AreEnds (z ∷ p.0) = subst AreEnds p.1 ends in
    ap (λ (ps : List Packet). ps ++ flat_map (packet_in q channel) zs) (no-packet z p.0 e) ∙ packets-merged q channel xs p.0 zs (and-rest z p.0 e) p.2
  where
    no-packet : (z : Order) (os : List Order) → AreEnds (z ∷ os) → packet_in q channel z ≡ []
    no-packet (order.Connect addr channels info word) os e = absurd e
    no-packet (order.Submit to number flags body) os e = absurd e
    no-packet (order.Disconnect to how info) os e = refl

    and-rest : (z : Order) (os : List Order) → AreEnds (z ∷ os) → AreEnds os
    and-rest (order.Connect addr channels info word) os e = absurd e
    and-rest (order.Submit to number flags body) os e = absurd e
    and-rest (order.Disconnect to how info) os e = e

pub relay-rule : RelayRule
relay-rule r l q channel low =
    sym (flat_map-append (packet_in q channel) (orders (given (all_gave (rounds_of r)))) l.waits)
    ∙ packets-merged q channel l.asked_for l.ordered (orders (given (all_gave (rounds_of r))) ++ l.waits) l.ends l.orders_done ∙ packets-for q channel l.asked_for
    ∙ ap (flat_map (packet_in q channel)) (l.for_each q) ∙ sym (packets-for q channel (relayed_all [] l.expanded)) ∙ all-events q channel [] l.expanded low refl

-- order

pub skipped : {X : Type 0} (xs : List X) (y : X) (ys : List X) → IsPart xs ys → IsPart xs (y ∷ ys)
skipped [] y ys h = tt
skipped (x ∷ xs) y ys h = inr h

-- each event that is heard is one of those that came, once and in order
pub heard-part : (q : PeerRef) (channel : ℕ) (peers : List PeerRef) (es : List Event) → IsPart (heard q channel peers es) es
heard-part q channel peers [] = tt
heard-part q channel peers (e ∷ es) = by e (heard-part q channel (noted peers e) es)
  where
    by : (e : Event) → IsPart (heard q channel (noted peers e) es) es → IsPart (hears q channel (noted peers e) e ++ heard q channel (noted peers e) es) (e ∷ es)
    by (events.Receive p packet) rest = at (packet.channel == channel && (has peers q && not (is_same q p)))
      where
        at : (b : Bool) → IsPart (cond b (events.Receive p packet ∷ []) [] ++ heard q channel peers es) (events.Receive p packet ∷ es)
        at true = inl (refl, rest)
        at false = skipped (heard q channel peers es) (events.Receive p packet) es rest
    by (events.Connect p info) rest = skipped (heard q channel (noted peers (events.Connect p info)) es) (events.Connect p info) es rest
    by (events.Disconnect p info) rest = skipped (heard q channel (noted peers (events.Disconnect p info)) es) (events.Disconnect p info) es rest
    by (events.Refused seat number why) rest = skipped (heard q channel peers es) (events.Refused seat number why) es rest

pub between-clients : BetweenClients
between-clients hosts server l cu asked h x j there q is here channel low none =
    let back : Follows ((user_of hosts server).submitted q channel) (came channel ((cu j).taken there)) =
    subst (λ (o : Option PeerRef). Follows (submitted_if (user_of hosts server) o channel) (came channel ((cu j).taken there))) here
    (back-follows (cu j) (user_of hosts server) there (h.here x) (h.each x j there is) channel (omega arith)) in
    let asked-for : chat_for q channel l.expanded ≡ (user_of hosts server).submitted q channel ++ flat_map (packet_in q channel) l.waits =
    sym (relay-rule server l q channel low) ∙ ap (λ (ps : List Packet). ps ++ flat_map (packet_in q channel) l.waits) (sym none) in (
      subst (λ (ps : List Packet). Follows ps (came channel ((cu j).taken there))) (sym asked-for) (longer ((user_of hosts server).submitted q channel) (flat_map (packet_in q channel) l.waits) (came channel ((cu j).taken there)) back),
      heard-part q channel [] l.expanded,
    )
