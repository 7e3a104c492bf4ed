-- Packets for several peers are their orders, receiver by receiver.
use Rattle.std.proofs.Common.{◌≡◌, ℕ, zero, suc, ◌+◌, ◌==◌, Bool, true, false, not, ◌&&◌, cond, Some, List, [], ◌∷◌, ◌++◌, length, take, get_or, map, flat_map, refl, sym, ◌∙◌, ap, subst, arith}
use Rattle.std.specs.Prelude.{eqb}
use Rattle.std.specs.List.{filter}
use Rattle.std.proofs.lemmas.List.{map-append}
use Rattle.std.proofs.lemmas.List.Elements.{filter-append}
use Rattle.std.proofs.lemmas.Bool.Decides.{nat_tests}
use native.Mathlib.Decide.{ℕ_discrete}
use Rattle.enet_codec.specs.declared.event.PeerRef.{PeerRef}
use Rattle.enet_codec.specs.declared.event.Event.{Event}
use Rattle.enet_codec.specs.declared.event.Event.TheVariants.{Connect, Receive, Disconnect, Refused}
use Rattle.enet_codec.specs.declared.event.Outward.{Outward}
use Rattle.enet_codec.specs.Outward.{is_same_peer, goes_to, Errand, errands, errands_for}
use Rattle.enet_submit.specs.Broadcast.{errand, order_of}
use Rattle.enet_submit.specs.declared.order.Order.{Order}
use Rattle.enet_submit.specs.declared.order.Order.TheVariants.{Submit}
use Rattle.enet_chat.specs.Peers.{is_same}
use Rattle.enet_chat.specs.Chat.{chat, relayed}
use Rattle.enet_chat.specs.Private.Grouping.{relayed_to, grouped, outward, outwards, chat_outward}

eqb-turned : (a b : ℕ) → eqb a b ≡ eqb b a
eqb-turned a b = by (ℕ_discrete a b)
  where
    by : Dec (a ≡ b) → eqb a b ≡ eqb b a
    by (yes e) = (let t : (a == b) ≡ true = grind (arith, nat_tests) in let u : (b == a) ≡ true = grind (arith, nat_tests) in t ∙ sym u)
    by (no d) = (let t : (a == b) ≡ false = grind (arith, nat_tests) in let u : (b == a) ≡ false = grind (arith, nat_tests) in t ∙ sym u)

same-turned : (p q : PeerRef) → is_same_peer p q ≡ is_same q p
same-turned p q = λ i. eqb-turned p.slot q.slot i && eqb-turned p.generation q.generation i

-- ---- one packet for one peer
errands-append : (peer : PeerRef) (ps qs : List Outward) → errands_for (ps ++ qs) peer ≡ errands_for ps peer ++ errands_for qs peer
errands-append peer ps qs = ap (map (errand peer)) (filter-append (λ (q : Outward). goes_to q peer) ps qs) ∙ map-append (errand peer) (filter (λ (q : Outward). goes_to q peer) ps) (filter (λ (q : Outward). goes_to q peer) qs)

one-packet : (p from : PeerRef) (channel flags : ℕ) (body : List ℕ) (b : Bool) → is_same_peer from p ≡ b → is_same p from ≡ b
    → map order_of (errands_for ((record { except = Some from; channel = channel; flags = flags; body = body }) ∷ []) p) ≡ map (λ (q : PeerRef). Submit q channel flags body) (filter (λ q. not (is_same q from)) (p ∷ []))
one-packet p from channel flags body true e f = (λ i. map order_of (map (errand p) (cond (not (e i)) ((record { except = Some from; channel = channel; flags = flags; body = body }) ∷ []) []))) ∙ (λ i. map (λ (q : PeerRef). Submit q channel flags body) (cond (not (sym f i)) (p ∷ []) []))
one-packet p from channel flags body false e f = (λ i. map order_of (map (errand p) (cond (not (e i)) ((record { except = Some from; channel = channel; flags = flags; body = body }) ∷ []) []))) ∙ (λ i. map (λ (q : PeerRef). Submit q channel flags body) (cond (not (sym f i)) (p ∷ []) []))

chat-one : (p from : PeerRef) (channel : ℕ) (body : List ℕ) → map order_of (errands_for (chat_outward from channel body) p) ≡ chat (filter (λ q. not (is_same q from)) (p ∷ [])) channel body
chat-one p from zero body = one-packet p from 0 1 body (is_same p from) (same-turned from p) refl
chat-one p from (suc zero) body = one-packet p from 1 0 body (is_same p from) (same-turned from p) refl
chat-one p from (suc (suc n)) body = refl

event-one : (p : PeerRef) (e : Event) → map order_of (errands_for (outward e) p) ≡ relayed (p ∷ []) e
event-one p (Connect peer info) = refl
event-one p (Receive from packet) = chat-one p from packet.channel packet.body
event-one p (Disconnect peer info) = refl
event-one p (Refused seat number why) = refl

-- ---- all packets for one peer, and for all
peer-all : (p : PeerRef) (es : List Event) → map order_of (errands_for (outwards es) p) ≡ relayed_to p es
peer-all p [] = refl
peer-all p (e ∷ es) =
    ap (map order_of) (errands-append p (outward e) (outwards es))
    ∙ (map-append order_of (errands_for (outward e) p) (errands_for (outwards es) p)
    ∙ (λ i. event-one p e i ++ peer-all p es i))

pub all-grouped : (peers : List PeerRef) (es : List Event) → map order_of (errands peers (outwards es)) ≡ grouped peers es
all-grouped [] es = refl
all-grouped (p ∷ ps) es = map-append order_of (errands_for (outwards es) p) (errands ps (outwards es)) ∙ (λ i. peer-all p es i ++ all-grouped ps es i)
