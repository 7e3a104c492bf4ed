-- The chat between two clients.
use Rattle.std.proofs.Common.{◌≡◌, ◌≢◌, ℕ, zero, suc, ◌%◌, ◌<◌, ◌==◌, ◌&&◌, ◌||◌, not, Bool, true, false, cond, List, [], ◌∷◌, ◌++◌, map, length, refl, sym, ap, subst, ◌∙◌, arith, append-nil, append_assoc, inl, inr, Option, Some, None, option_to_list, slice_get}
use Rattle.std.specs.Prelude.{flat_map, filter}
use Rattle.std.proofs.lemmas.Bool.Decides.{nat_tests}
use Rattle.std.proofs.lemmas.Grind.{flat_map-append}
use Rattle.std.proofs.lemmas.List.Folds.{list_any-append}
use Rattle.std.proofs.lemmas.List.Elements.{filter-append}
use Rattle.enet_codec.specs.declared.address.Addr.{Addr}
use Rattle.enet_codec.specs.declared.event.Event.{Event}
use Rattle.enet_codec.specs.declared.event.Event.TheVariants as events
use Rattle.enet_codec.specs.declared.event.PeerRef.{PeerRef}
use Rattle.enet_codec.specs.declared.packet.Packet.{Packet}
use Rattle.enet_chat.specs.Peers.{is_same, has, others}
use Rattle.enet_chat.specs.Chat.{noted}
use Rattle.enet_chat.proofs.PeersLemmas.{same_is}
use Rattle.law_network.specs.Network.{is_same_name}
use Rattle.enet_bridge.specs.Ends.{orders}
use Rattle.enet_service.specs.Queues.{given, accepted}
use Rattle.enet_turn.specs.Run.{all_gave, all_puts}
use Rattle.law_service.specs.Told.{packet_in, held_in, told}
use Rattle.law_headline.specs.Page.{User, IsHeadline, Follows, came, AreLast, IsOneLife, submitted_if, taken_if, is_of}
use Rattle.law_headline.proofs.Page.{longer, shorter, came-append, life-first, forth-follows}
use Rattle.law_service.specs.EndToEnd.{rounds_of, Running, user_of}
use Rattle.law_relay.specs.Relay.{Relaying, hears, heard, as_chat, chat_for, IsPart, BetweenClients}
use Rattle.law_relay.specs.Pairs.{body_of, FollowsFrom, IsFront, TakesChat, BetweenPairs}
use Rattle.law_relay.proofs.Relay.{same-names, has-others, heard-part, between-clients}

-- ---- names

self-name : (a : PeerRef) → is_same_name a a ≡ true
self-name a = grind (arith, nat_tests)

name-is : (a b : PeerRef) → is_same_name a b ≡ true → b ≡ a
name-is a b h = same_is b a (sym (same-names a b) ∙ h)

-- ---- a window of the events

-- the packets on a channel that came of others than q
abbrev of_others : PeerRef → ℕ → Event → List Event
of_others q channel (events.Receive p packet) = cond (packet.channel == channel && not (is_same q p)) (events.Receive p packet ∷ []) []
of_others q channel e = []

-- what is heard for q is what came of others between its Connect and its Disconnect
record Window (q : PeerRef) (channel : ℕ) (es heard_is : List Event) : Type 0 where
  before : List Event
  during : List Event
  after : List Event
  all : es ≡ before ++ (during ++ after)
  is : heard_is ≡ flat_map (of_others q channel) during

-- from the beginning
record Front (q : PeerRef) (channel : ℕ) (es heard_is : List Event) : Type 0 where
  during : List Event
  after : List Event
  all : es ≡ during ++ after
  is : heard_is ≡ flat_map (of_others q channel) during

has-added : (peers : List PeerRef) (p q : PeerRef) → has (peers ++ p ∷ []) q ≡ (has peers q || (is_same p q || false))
has-added peers p q = list_any-append (λ r. is_same r q) peers (p ∷ [])

or-true : (b : Bool) → (b || true) ≡ true
or-true true = refl
or-true false = refl

-- the table after another one's Connect
connects-other : (peers : List PeerRef) (p q : PeerRef) (s : Bool) → has peers q ≡ s → is_same_name q p ≡ false → has (cond (has peers p) peers (peers ++ p ∷ [])) q ≡ s
connects-other peers p q s h other = by (has peers p)
  where
    by : (b : Bool) → has (cond b peers (peers ++ p ∷ [])) q ≡ s
    by true = h
    by false = has-added peers p q ∙ (λ i. h i || ((sym (same-names q p) ∙ other) i || false)) ∙ same s
      where
        same : (s : Bool) → (s || (false || false)) ≡ s
        same true = refl
        same false = refl

-- after its own
connects-own : (peers : List PeerRef) (p q : PeerRef) → is_same_name q p ≡ true → has (cond (has peers p) peers (peers ++ p ∷ [])) q ≡ true
connects-own peers p q own = by (has peers p) refl
  where
    by : (b : Bool) → has peers p ≡ b → has (cond b peers (peers ++ p ∷ [])) q ≡ true
    by true h = subst (λ (r : PeerRef). has peers r ≡ true) (name-is q p own) h
    by false h = has-added peers p q ∙ ap (λ (b : Bool). has peers q || (b || false)) (sym (same-names q p) ∙ own) ∙ or-true (has peers q)

-- after a Disconnect
parts-other : (peers : List PeerRef) (p q : PeerRef) (s : Bool) → has peers q ≡ s → is_same_name q p ≡ false → has (others peers p) q ≡ s
parts-other peers p q s h other = has-others peers p q ∙ (λ i. h i && not ((sym (same-names p q) ∙ flip) i)) ∙ same s
  where
    flip : is_same_name p q ≡ false
    flip = by (is_same_name p q) refl
      where
        by : (b : Bool) → is_same_name p q ≡ b → is_same_name p q ≡ false
        by true e = absurd (let w : is_same_name q p ≡ true = subst (λ (r : PeerRef). is_same_name q r ≡ true) (name-is p q e) (self-name q) in let y : true ≡ false = sym w ∙ other in cc)
        by false e = e

    same : (s : Bool) → (s && true) ≡ s
    same true = refl
    same false = refl

parts-own : (peers : List PeerRef) (p q : PeerRef) → is_same_name q p ≡ true → has (others peers p) q ≡ false
parts-own peers p q own = has-others peers p q ∙ ap (λ (b : Bool). has peers q && not b) same ∙ none (has peers q)
  where
    same : is_same q p ≡ true
    same = sym (same-names p q) ∙ subst (λ (r : PeerRef). is_same_name r q ≡ true) (sym (name-is q p own)) (self-name q)

    none : (b : Bool) → (b && false) ≡ false
    none true = refl
    none false = refl

-- who isn't there hears nothing
deaf : (q : PeerRef) (channel : ℕ) (peers : List PeerRef) (p : PeerRef) (packet : Packet) → has peers q ≡ false → hears q channel peers (events.Receive p packet) ≡ []
deaf q channel peers p packet h = ap (λ (b : Bool). cond {A = List Event} (packet.channel == channel && (b && not (is_same q p))) (events.Receive p packet ∷ []) []) h ∙ none (packet.channel == channel)
  where
    none : (b : Bool) → cond {A = List Event} (b && false) (events.Receive p packet ∷ []) [] ≡ []
    none true = refl
    none false = refl

present : (q : PeerRef) (channel : ℕ) (peers : List PeerRef) (p : PeerRef) (packet : Packet) → has peers q ≡ true → hears q channel peers (events.Receive p packet) ≡ of_others q channel (events.Receive p packet)
present q channel peers p packet h = ap (λ (b : Bool). cond {A = List Event} (packet.channel == channel && (b && not (is_same q p))) (events.Receive p packet ∷ []) []) h

none-cons : (e : Event) (es : List Event) → e ∷ es ≡ [] → ⊥
none-cons e es h = absurd (let y : ◌≡◌ {A = List Event} (e ∷ es) [] = h in cc)

-- nothing more of q
gone : (q : PeerRef) (channel : ℕ) (peers : List PeerRef) (es : List Event) → has peers q ≡ false → filter (is_of q) es ≡ [] → heard q channel peers es ≡ []
gone q channel peers [] h none = refl
gone q channel peers (events.Connect p info ∷ es) h none = by (is_same_name q p) refl none (λ t k. gone q channel (noted peers (events.Connect p info)) es t k)
  where
    by : (b : Bool) → is_same_name q p ≡ b → cond b (events.Connect p info ∷ filter (is_of q) es) (filter (is_of q) es) ≡ []
        → (has (noted peers (events.Connect p info)) q ≡ false → filter (is_of q) es ≡ [] → heard q channel (noted peers (events.Connect p info)) es ≡ []) → heard q channel (noted peers (events.Connect p info)) es ≡ []
    by true e k more = absurd (none-cons (events.Connect p info) (filter (is_of q) es) k)
    by false e k more = more (connects-other peers p q false h e) k
gone q channel peers (events.Receive p packet ∷ es) h none = ap (λ (l : List Event). l ++ heard q channel peers es) (deaf q channel peers p packet h) ∙ by (is_same_name q p) none (λ k. gone q channel peers es h k)
  where
    by : (b : Bool) → cond b (events.Receive p packet ∷ filter (is_of q) es) (filter (is_of q) es) ≡ [] → (filter (is_of q) es ≡ [] → heard q channel peers es ≡ []) → heard q channel peers es ≡ []
    by true k more = absurd (none-cons (events.Receive p packet) (filter (is_of q) es) k)
    by false k more = more k
gone q channel peers (events.Disconnect p info ∷ es) h none = by (is_same_name q p) refl none (λ t k. gone q channel (others peers p) es t k)
  where
    by : (b : Bool) → is_same_name q p ≡ b → cond b (events.Disconnect p info ∷ filter (is_of q) es) (filter (is_of q) es) ≡ []
        → (has (others peers p) q ≡ false → filter (is_of q) es ≡ [] → heard q channel (others peers p) es ≡ []) → heard q channel (others peers p) es ≡ []
    by true e k more = absurd (none-cons (events.Disconnect p info) (filter (is_of q) es) k)
    by false e k more = more (parts-other peers p q false h e) k
gone q channel peers (events.Refused seat number why ∷ es) h none = gone q channel peers es h none

longer-front : (q : PeerRef) (channel : ℕ) (e : Event) (es now rest : List Event) → now ≡ of_others q channel e → Front q channel es rest → Front q channel (e ∷ es) (now ++ rest)
longer-front q channel e es now rest is f = record { during = e ∷ f.during; after = f.after; all = ap (λ (l : List Event). e ∷ l) f.all; is = (λ i. is i ++ f.is i) }

-- while q is there
there-front : (q : PeerRef) (channel : ℕ) (peers : List PeerRef) (es : List Event) → has peers q ≡ true → AreLast (filter (is_of q) es) → Front q channel es (heard q channel peers es)
there-front q channel peers [] h life = record { during = []; after = []; all = refl; is = refl }
there-front q channel peers (events.Connect p info ∷ es) h life = by (is_same_name q p) refl life (λ t k. there-front q channel (noted peers (events.Connect p info)) es t k)
  where
    by : (b : Bool) → is_same_name q p ≡ b → AreLast (cond b (events.Connect p info ∷ filter (is_of q) es) (filter (is_of q) es))
        → (has (noted peers (events.Connect p info)) q ≡ true → AreLast (filter (is_of q) es) → Front q channel es (heard q channel (noted peers (events.Connect p info)) es))
        → Front q channel (events.Connect p info ∷ es) (heard q channel (noted peers (events.Connect p info)) es)
    by true e k more = absurd k
    by false e k more = longer-front q channel (events.Connect p info) es [] (heard q channel (noted peers (events.Connect p info)) es) refl (more (connects-other peers p q true h e) k)
there-front q channel peers (events.Receive p packet ∷ es) h life = by (is_same_name q p) life (λ k. there-front q channel peers es h k)
  where
    by : (b : Bool) → AreLast (cond b (events.Receive p packet ∷ filter (is_of q) es) (filter (is_of q) es))
        → (AreLast (filter (is_of q) es) → Front q channel es (heard q channel peers es)) → Front q channel (events.Receive p packet ∷ es) (hears q channel peers (events.Receive p packet) ++ heard q channel peers es)
    by true k more = longer-front q channel (events.Receive p packet) es (hears q channel peers (events.Receive p packet)) (heard q channel peers es) (present q channel peers p packet h) (more k)
    by false k more = longer-front q channel (events.Receive p packet) es (hears q channel peers (events.Receive p packet)) (heard q channel peers es) (present q channel peers p packet h) (more k)
there-front q channel peers (events.Disconnect p info ∷ es) h life = by (is_same_name q p) refl life (λ t k. there-front q channel (others peers p) es t k)
  where
    by : (b : Bool) → is_same_name q p ≡ b → AreLast (cond b (events.Disconnect p info ∷ filter (is_of q) es) (filter (is_of q) es))
        → (has (others peers p) q ≡ true → AreLast (filter (is_of q) es) → Front q channel es (heard q channel (others peers p) es)) → Front q channel (events.Disconnect p info ∷ es) (heard q channel (others peers p) es)
    by true e k more = record { during = []; after = events.Disconnect p info ∷ es; all = refl; is = gone q channel (others peers p) es (parts-own peers p q e) k }
    by false e k more = longer-front q channel (events.Disconnect p info) es [] (heard q channel (others peers p) es) refl (more (parts-other peers p q true h e) k)
there-front q channel peers (events.Refused seat number why ∷ es) h life =
    longer-front q channel (events.Refused seat number why) es [] (heard q channel peers es) refl (there-front q channel peers es h life)

later : (q : PeerRef) (channel : ℕ) (e : Event) (es now rest : List Event) → now ≡ [] → Window q channel es rest → Window q channel (e ∷ es) (now ++ rest)
later q channel e es now rest none w = record { before = e ∷ w.before; during = w.during; after = w.after; all = ap (λ (l : List Event). e ∷ l) w.all; is = (λ i. none i ++ w.is i) }

-- what is heard by one who isn't there yet
window : (q : PeerRef) (channel : ℕ) (peers : List PeerRef) (es : List Event) → has peers q ≡ false → IsOneLife (filter (is_of q) es) → Window q channel es (heard q channel peers es)
window q channel peers [] h life = record { before = []; during = []; after = []; all = refl; is = refl }
window q channel peers (events.Connect p info ∷ es) h life = by (is_same_name q p) refl life (λ t k. window q channel (noted peers (events.Connect p info)) es t k)
  where
    by : (b : Bool) → is_same_name q p ≡ b → IsOneLife (cond b (events.Connect p info ∷ filter (is_of q) es) (filter (is_of q) es))
        → (has (noted peers (events.Connect p info)) q ≡ false → IsOneLife (filter (is_of q) es) → Window q channel es (heard q channel (noted peers (events.Connect p info)) es))
        → Window q channel (events.Connect p info ∷ es) (heard q channel (noted peers (events.Connect p info)) es)
    by true e k more =
        let f : Front q channel es (heard q channel (noted peers (events.Connect p info)) es) = there-front q channel (noted peers (events.Connect p info)) es (connects-own peers p q e) k in
        record { before = events.Connect p info ∷ []; during = f.during; after = f.after; all = ap (λ (l : List Event). events.Connect p info ∷ l) f.all; is = f.is }
    by false e k more = later q channel (events.Connect p info) es [] (heard q channel (noted peers (events.Connect p info)) es) refl (more (connects-other peers p q false h e) k)
window q channel peers (events.Receive p packet ∷ es) h life = by (is_same_name q p) life (λ k. window q channel peers es h k)
  where
    by : (b : Bool) → IsOneLife (cond b (events.Receive p packet ∷ filter (is_of q) es) (filter (is_of q) es))
        → (IsOneLife (filter (is_of q) es) → Window q channel es (heard q channel peers es)) → Window q channel (events.Receive p packet ∷ es) (hears q channel peers (events.Receive p packet) ++ heard q channel peers es)
    by true k more = absurd k
    by false k more = later q channel (events.Receive p packet) es (hears q channel peers (events.Receive p packet)) (heard q channel peers es) (deaf q channel peers p packet h) (more k)
window q channel peers (events.Disconnect p info ∷ es) h life = by (is_same_name q p) refl life (λ t k. window q channel (others peers p) es t k)
  where
    by : (b : Bool) → is_same_name q p ≡ b → IsOneLife (cond b (events.Disconnect p info ∷ filter (is_of q) es) (filter (is_of q) es))
        → (has (others peers p) q ≡ false → IsOneLife (filter (is_of q) es) → Window q channel es (heard q channel (others peers p) es)) → Window q channel (events.Disconnect p info ∷ es) (heard q channel (others peers p) es)
    by true e k more = record { before = events.Disconnect p info ∷ es; during = []; after = []; all = sym (append-nil (events.Disconnect p info ∷ es)); is = gone q channel (others peers p) es (parts-own peers p q e) k }
    by false e k more = later q channel (events.Disconnect p info) es [] (heard q channel (others peers p) es) refl (more (parts-other peers p q false h e) k)
window q channel peers (events.Refused seat number why ∷ es) h life = later q channel (events.Refused seat number why) es [] (heard q channel peers es) refl (window q channel peers es h life)

-- ---- of one other

-- the packets of one of the others are the same before and after
one-of : (p q : PeerRef) (channel : ℕ) (es : List Event) → is_same q p ≡ false → came channel (filter (is_of p) (flat_map (of_others q channel) es)) ≡ came channel (filter (is_of p) es)
one-of p q channel [] other = refl
one-of p q channel (events.Connect r info ∷ es) other = one-of p q channel es other ∙ by (is_same_name p r)
  where
    by : (b : Bool) → came channel (filter (is_of p) es) ≡ came channel (cond b (events.Connect r info ∷ filter (is_of p) es) (filter (is_of p) es))
    by true = refl
    by false = refl
one-of p q channel (events.Disconnect r info ∷ es) other = one-of p q channel es other ∙ by (is_same_name p r)
  where
    by : (b : Bool) → came channel (filter (is_of p) es) ≡ came channel (cond b (events.Disconnect r info ∷ filter (is_of p) es) (filter (is_of p) es))
    by true = refl
    by false = refl
one-of p q channel (events.Refused seat number why ∷ es) other = one-of p q channel es other
one-of p q channel (events.Receive r packet ∷ es) other = by (is_same_name p r) (packet.channel == channel) (is_same q r) refl refl refl (one-of p q channel es other)
  where
    e : Event
    e = events.Receive r packet

    us : List Event
    us = filter (is_of p) (flat_map (of_others q channel) es)

    vs : List Event
    vs = filter (is_of p) es

    shape : (n b s : Bool) → is_same_name p r ≡ n → (packet.channel == channel) ≡ b → is_same q r ≡ s
        → came channel (filter (is_of p) (flat_map (of_others q channel) (e ∷ es))) ≡ came channel (filter (is_of p) (cond (b && not s) (e ∷ []) [] ++ flat_map (of_others q channel) es))
    shape n b s x y z = (λ i. came channel (filter (is_of p) (cond (y i && not (z i)) (e ∷ []) [] ++ flat_map (of_others q channel) es)))

    right : (n : Bool) → is_same_name p r ≡ n → came channel (filter (is_of p) (e ∷ es)) ≡ came channel (cond n (e ∷ vs) vs)
    right n x = ap (λ (t : Bool). came channel (cond t (e ∷ vs) vs)) x

    left : (n : Bool) → is_same_name p r ≡ n → came channel (cond (is_same_name p r) (e ∷ us) us) ≡ came channel (cond n (e ∷ us) us)
    left n x = ap (λ (t : Bool). came channel (cond t (e ∷ us) us)) x

    -- one that came, or not
    head : (xs ys : List Event) → came channel xs ≡ came channel ys → came channel (e ∷ xs) ≡ came channel (e ∷ ys)
    head xs ys k = ap (λ (l : List (List ℕ)). cond (packet.channel == channel && not (packet.flags == 2)) (packet.body ∷ l) l) k

    skip : (xs : List Event) → (packet.channel == channel) ≡ false → came channel (e ∷ xs) ≡ came channel xs
    skip xs y = ap (λ (t : Bool). cond (t && not (packet.flags == 2)) (packet.body ∷ came channel xs) (came channel xs)) y

    by : (n b s : Bool) → is_same_name p r ≡ n → (packet.channel == channel) ≡ b → is_same q r ≡ s → came channel us ≡ came channel vs
        → came channel (filter (is_of p) (flat_map (of_others q channel) (e ∷ es))) ≡ came channel (filter (is_of p) (e ∷ es))
    by true b true x y z rest = absurd (let w : is_same q p ≡ true = subst (λ (t : PeerRef). is_same q t ≡ true) (name-is p r x) z in let v : true ≡ false = sym w ∙ other in cc)
    by true true false x y z rest = shape true true false x y z ∙ left true x ∙ head us vs rest ∙ sym (right true x)
    by true false false x y z rest = shape true false false x y z ∙ rest ∙ sym (skip vs y) ∙ sym (right true x)
    by false true false x y z rest = shape false true false x y z ∙ left false x ∙ rest ∙ sym (right false x)
    by false true true x y z rest = shape false true true x y z ∙ rest ∙ sym (right false x)
    by false false s x y z rest = shape false false s x y z ∙ rest ∙ sym (right false x)

-- of q itself there is nothing
none-of : (q : PeerRef) (channel : ℕ) (es : List Event) → filter (is_of q) (flat_map (of_others q channel) es) ≡ []
none-of q channel [] = refl
none-of q channel (events.Connect r info ∷ es) = none-of q channel es
none-of q channel (events.Disconnect r info ∷ es) = none-of q channel es
none-of q channel (events.Refused seat number why ∷ es) = none-of q channel es
none-of q channel (events.Receive r packet ∷ es) = by (is_same q r) (packet.channel == channel) refl (none-of q channel es)
  where
    e : Event
    e = events.Receive r packet

    by : (s b : Bool) → is_same q r ≡ s → filter (is_of q) (flat_map (of_others q channel) es) ≡ [] → filter (is_of q) (cond (b && not (is_same q r)) (e ∷ []) [] ++ flat_map (of_others q channel) es) ≡ []
    by s false z rest = rest
    by true true z rest = ap (λ (t : Bool). filter (is_of q) (cond (not t) (e ∷ []) [] ++ flat_map (of_others q channel) es)) z ∙ rest
    by false true z rest = ap (λ (t : Bool). filter (is_of q) (cond (not t) (e ∷ []) [] ++ flat_map (of_others q channel) es)) z
        ∙ ap (λ (t : Bool). cond t (e ∷ filter (is_of q) (flat_map (of_others q channel) es)) (filter (is_of q) (flat_map (of_others q channel) es))) other ∙ rest
      where
        other : is_same_name q r ≡ false
        other = at (is_same_name q r) refl
          where
            at : (t : Bool) → is_same_name q r ≡ t → is_same_name q r ≡ false
            at true k = absurd (let w : is_same q r ≡ true = sym (same-names r q) ∙ subst (λ (t : PeerRef). is_same_name t q ≡ true) (sym (name-is q r k)) (self-name q) in let v : true ≡ false = sym w ∙ z in cc)
            at false k = k

-- ---- following from some packet on

follows-from : (ps : List Packet) (xs ys : List (List ℕ)) → Follows ps (xs ++ ys) → FollowsFrom ps ys
follows-from ps [] ys h = ([], ps, refl, h)
follows-from [] (b ∷ xs) ys h = absurd h
follows-from (p ∷ ps) (b ∷ xs) ys (inl same) = (let r = follows-from ps xs ys same.1 in (p ∷ r.0, r.1, ap (λ (l : List Packet). p ∷ l) r.2, r.3))
follows-from (p ∷ ps) (b ∷ xs) ys (inr skip) = (let r = follows-from ps (b ∷ xs) ys skip.1 in (p ∷ r.0, r.1, ap (λ (l : List Packet). p ∷ l) r.2, r.3))

front-from : (ps : List Packet) (xs ys : List (List ℕ)) → FollowsFrom ps (xs ++ ys) → FollowsFrom ps xs
front-from ps xs ys f = (f.0, f.1, f.2, shorter f.1 xs ys f.3)

first-none : (l m : List Event) → l ++ m ≡ [] → l ≡ []
first-none [] m k = refl
first-none (x ∷ l) m k = absurd (none-cons x (l ++ m) k)

-- of a front of what is heard for q, those of p follow from some packet on what p's are of
pub pair-from : (p q : PeerRef) (channel : ℕ) (es more chat : List Event) (ps : List Packet) → IsOneLife (filter (is_of q) (es ++ more)) → Follows ps (came channel (filter (is_of p) (es ++ more)))
    → IsFront chat (heard q channel [] es) → FollowsFrom ps (came channel (filter (is_of p) chat))
pair-from p q channel es more chat ps life follows front = by (is_same q p) refl
  where
    w : Window q channel es (heard q channel [] es)
    w = window q channel [] es refl (life-first (filter (is_of q) es) (filter (is_of q) more) (subst IsOneLife (filter-append (is_of q) es more) life))

    rest : List Event
    rest = front.0

    chat-is : flat_map (of_others q channel) w.during ≡ chat ++ rest
    chat-is = sym w.is ∙ front.1

    of-p : List Event → List (List ℕ)
    of-p l = came channel (filter (is_of p) l)

    split : (l m : List Event) → of-p (l ++ m) ≡ of-p l ++ of-p m
    split l m = ap (came channel) (filter-append (is_of p) l m) ∙ came-append channel (filter (is_of p) l) (filter (is_of p) m)

    all : of-p (es ++ more) ≡ of-p w.before ++ (of-p w.during ++ of-p (w.after ++ more))
    all = ap (λ (l : List Event). of-p (l ++ more)) w.all ∙ ap of-p (append_assoc w.before (w.during ++ w.after) more ∙ ap (λ (l : List Event). w.before ++ l) (append_assoc w.during w.after more))
        ∙ split w.before (w.during ++ (w.after ++ more)) ∙ ap (λ (l : List (List ℕ)). of-p w.before ++ l) (split w.during (w.after ++ more))

    by : (b : Bool) → is_same q p ≡ b → FollowsFrom ps (of-p chat)
    by true e = ([], ps, refl, subst (λ (l : List (List ℕ)). Follows ps l) (sym none) tt)
      where
        empty : filter (is_of p) chat ++ filter (is_of p) rest ≡ []
        empty = sym (filter-append (is_of p) chat rest) ∙ ap (filter (is_of p)) (sym chat-is)
            ∙ ap (λ (r : PeerRef). filter (is_of r) (flat_map (of_others q channel) w.during)) (sym (same_is q p e)) ∙ none-of q channel w.during

        none : of-p chat ≡ []
        none = ap (came channel) (first-none (filter (is_of p) chat) (filter (is_of p) rest) empty)
    by false e =
        front-from ps (of-p chat) (of-p rest) (subst (λ (l : List (List ℕ)). FollowsFrom ps l) (sym (one-of p q channel w.during e) ∙ ap of-p chat-is ∙ split chat rest)
        (front-from ps (of-p w.during) (of-p (w.after ++ more)) (follows-from ps (of-p w.before) (of-p w.during ++ of-p (w.after ++ more)) (subst (λ (l : List (List ℕ)). Follows ps l) all follows))))

-- ---- the chat

record IsTaken (es : List Event) (bs : List (List ℕ)) : Type 0 where
  chat : List Event
  front : IsFront chat es
  got_is : flat_map body_of chat ≡ bs

onto : (e : Event) (es : List Event) (bs now rest : List (List ℕ)) → body_of e ≡ now → now ++ rest ≡ bs → IsTaken es rest → IsTaken (e ∷ es) bs
onto e es bs now rest body all t =
    record { chat = e ∷ t.chat; front = (t.front.0, ap (λ (l : List Event). e ∷ l) t.front.1); got_is = (λ i. body i ++ t.got_is i) ∙ all }

-- what is all flagged RELIABLE is taken from the front
all-reliable : (es : List Event) (bs : List (List ℕ)) → Follows (flat_map (as_chat 0) es) bs → IsTaken es bs
all-reliable es [] h = record { chat = []; front = (es, refl); got_is = refl }
all-reliable [] (b ∷ bs) h = absurd h
all-reliable (events.Connect p info ∷ es) (b ∷ bs) h = onto (events.Connect p info) es (b ∷ bs) [] (b ∷ bs) refl refl (all-reliable es (b ∷ bs) h)
all-reliable (events.Disconnect p info ∷ es) (b ∷ bs) h = onto (events.Disconnect p info) es (b ∷ bs) [] (b ∷ bs) refl refl (all-reliable es (b ∷ bs) h)
all-reliable (events.Refused seat number why ∷ es) (b ∷ bs) h = onto (events.Refused seat number why) es (b ∷ bs) [] (b ∷ bs) refl refl (all-reliable es (b ∷ bs) h)
all-reliable (events.Receive p packet ∷ es) (b ∷ bs) (inl same) = onto (events.Receive p packet) es (b ∷ bs) (b ∷ []) bs (ap (λ (l : List ℕ). l ∷ []) same.0) refl (all-reliable es bs same.1)
all-reliable (events.Receive p packet ∷ es) (b ∷ bs) (inr skip) = absurd (let y : 1 % 2 ≡ 0 = skip.0 in omega arith)

-- what the server was told, beside what it expanded
pub record Told (r : Running) (l : Relaying r) : Type 0 where
  pub more : List Event
  pub all : told (rounds_of r) r.left.waiting ≡ l.expanded ++ more

pub told-is : (r : Running) (l : Relaying r) → Told r l
told-is r l = record { more = l.backlog ++ held_in r.left.waiting; all = ap (λ (es : List Event). es ++ held_in r.left.waiting) l.events ∙ append_assoc l.expanded l.backlog (held_in r.left.waiting) }

-- for each other client
pub each-other : (hosts : Addr → Bool) (server : Running) (l : Relaying server) (cu : ℕ → User) (asked : List (ℕ × PeerRef)) (h : IsHeadline (user_of hosts server) cu asked)
    → (x j : ℕ) (there q : PeerRef) → slice_get asked x ≡ Some (j, there) → h.here x ≡ Some q → (channel : ℕ) → channel < 256 → (chat : List Event) → IsFront chat (heard q channel [] l.expanded)
    → (y i : ℕ) (away p : PeerRef) → slice_get asked y ≡ Some (i, away) → h.here y ≡ Some p → FollowsFrom ((cu i).submitted away channel) (came channel (filter (is_of p) chat))
each-other hosts server l cu asked h x j there q is here channel low chat front y i away p is' here' =
    pair-from p q channel l.expanded t.more chat ((cu i).submitted away channel) life follows front
  where
    t : Told server l
    t = told-is server l

    life : IsOneLife (filter (is_of q) (l.expanded ++ t.more))
    life = subst IsOneLife (ap (filter (is_of q)) t.all) (subst (λ (o : Option PeerRef). IsOneLife (taken_if (user_of hosts server) o)) here (h.each x j there is).server_life)

    follows : Follows ((cu i).submitted away channel) (came channel (filter (is_of p) (l.expanded ++ t.more)))
    follows = subst (λ (es : List Event). Follows ((cu i).submitted away channel) (came channel (filter (is_of p) es))) t.all
        (subst (λ (o : Option PeerRef). Follows ((cu i).submitted away channel) (came channel (taken_if (user_of hosts server) o))) here'
        (forth-follows (cu i) (user_of hosts server) away (h.here y) (h.each y i away is') channel low))

-- what none is of, no part is of
none-tail : (b : Bool) (y : Event) (l : List Event) → cond b (y ∷ l) l ≡ [] → (b ≡ false) × (l ≡ [])
none-tail true y l k = absurd (none-cons y l k)
none-tail false y l k = (refl, k)

part-none : (f : Event → Bool) (xs ys : List Event) → IsPart xs ys → filter f ys ≡ [] → filter f xs ≡ []
part-none f [] ys h k = refl
part-none f (x ∷ xs) [] h k = absurd h
part-none f (x ∷ xs) (y ∷ ys) (inl same) k =
    (let t = none-tail (f y) y (filter f ys) k in
    ap (λ (b : Bool). cond b (x ∷ filter f xs) (filter f xs)) (ap f same.0 ∙ t.0) ∙ part-none f xs ys same.1 t.1)
part-none f (x ∷ xs) (y ∷ ys) (inr more) k = part-none f (x ∷ xs) ys more (none-tail (f y) y (filter f ys) k).1

-- of whom the server took nothing, nothing is heard
heard-none : (server : Running) (hosts : Addr → Bool) (l : Relaying server) (q : PeerRef) (channel : ℕ) (p : PeerRef) → (user_of hosts server).taken p ≡ [] → filter (is_of p) (heard q channel [] l.expanded) ≡ []
heard-none server hosts l q channel p none = part-none (is_of p) (heard q channel [] l.expanded) l.expanded (heard-part q channel [] l.expanded) expanded
  where
    t : Told server l
    t = told-is server l

    expanded : filter (is_of p) l.expanded ≡ []
    expanded = first-none (filter (is_of p) l.expanded) (filter (is_of p) t.more) (sym (filter-append (is_of p) l.expanded t.more) ∙ ap (filter (is_of p)) (sym t.all) ∙ none)

-- so where no stranger is, each is of a connection
pub all-part : (hosts : Addr → Bool) (server : Running) (l : Relaying server) (cu : ℕ → User) (asked : List (ℕ × PeerRef)) (h : IsHeadline (user_of hosts server) cu asked)
    → (q : PeerRef) (channel : ℕ) (chat : List Event) → IsPart chat (heard q channel [] l.expanded)
    → (user_of hosts server).guests ≡ false → (p : PeerRef) → filter (is_of p) chat ≢ [] → (y : ℕ) × (h.here y ≡ Some p) × (y < length asked)
all-part hosts server l cu asked h q channel chat part quiet p some =
    h.all_here quiet p (λ none. some (part-none (is_of p) chat (heard q channel [] l.expanded) part (heard-none server hosts l q channel p none)))

pub all-other : (hosts : Addr → Bool) (server : Running) (l : Relaying server) (cu : ℕ → User) (asked : List (ℕ × PeerRef)) (h : IsHeadline (user_of hosts server) cu asked)
    → (q : PeerRef) (channel : ℕ) (chat : List Event) → IsFront chat (heard q channel [] l.expanded)
    → (user_of hosts server).guests ≡ false → (p : PeerRef) → filter (is_of p) chat ≢ [] → (y : ℕ) × (h.here y ≡ Some p) × (y < length asked)
all-other hosts server l cu asked h q channel chat front quiet p some = h.all_here quiet p (λ none. some (empty none))
  where
    empty : (user_of hosts server).taken p ≡ [] → filter (is_of p) chat ≡ []
    empty none = first-none (filter (is_of p) chat) (filter (is_of p) front.0) (sym (filter-append (is_of p) chat front.0) ∙ ap (filter (is_of p)) (sym front.1) ∙ heard-none server hosts l q channel p none)

pub between-pairs : BetweenPairs
between-pairs hosts server l cu asked h x j there q is here none =
    let t : IsTaken (heard q 0 [] l.expanded) (came 0 ((cu j).taken there)) = all-reliable (heard q 0 [] l.expanded) (came 0 ((cu j).taken there)) (between-clients hosts server l cu asked h x j there q is here 0 (omega arith) none).0 in
    record {
      chat = t.chat;
      front = t.front;
      got_is = t.got_is;
      each = λ y i away p is' here'. each-other hosts server l cu asked h x j there q is here 0 (omega arith) t.chat t.front y i away p is' here';
      all = λ quiet p some. all-other hosts server l cu asked h q 0 t.chat t.front quiet p some;
    }
