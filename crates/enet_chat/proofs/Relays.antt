-- Steps of a relay, one after another.
use Rattle.std.proofs.Common.{◌≡◌, List, [], ◌∷◌, ◌++◌, refl, sym, ◌∙◌, ap, append_assoc}
use Rattle.std.proofs.lemmas.List.{append-nil}
use Rattle.std.proofs.lemmas.List.Elements.{filter-append}
use Rattle.enet_codec.specs.declared.event.PeerRef.{PeerRef}
use Rattle.enet_codec.specs.declared.event.Event.{Event}
use Rattle.enet_codec.specs.declared.event.Event.TheVariants.{Connect, Receive, Disconnect, Refused}
use Rattle.enet_submit.specs.declared.order.Order.{Order}
use Rattle.enet_events.specs.declared.numbered.Numbered.{Numbered}
use Rattle.enet_bridge.specs.Ends.{orders}
use Rattle.enet_bridge.specs.Holding.{asked, received, waiting_at, submitted_at}
use Rattle.enet_chat.specs.Chat.{noted, IsNewcomer, relayed}
use Rattle.enet_chat.specs.declared.relaying.Relay.{Relay}
use Rattle.enet_chat.specs.Relaying.{events, noted_all, relayed_all, is_for, those_for, SameForEach, SameQueues, Relays}
use Rattle.enet_chat.specs.Private.Relaying.{SubmitsOn, ArePackets}
use Rattle.enet_chat.proofs.GroupingLemmas.{packets_note}

pub noted_more : (peers : List PeerRef) (es fs : List Event) → noted_all peers (es ++ fs) ≡ noted_all (noted_all peers es) fs
noted_more peers [] fs = refl
noted_more peers (e ∷ es) fs = noted_more (noted peers e) es fs

pub relayed_more : (peers : List PeerRef) (es fs : List Event) → relayed_all peers (es ++ fs) ≡ relayed_all peers es ++ relayed_all (noted_all peers es) fs
relayed_more peers [] fs = refl
relayed_more peers (e ∷ es) fs =
    ap (λ (os : List Order). relayed (noted peers e) e ++ os) (relayed_more (noted peers e) es fs)
    ∙ sym (append_assoc (relayed (noted peers e) e) (relayed_all (noted peers e) es) (relayed_all (noted_all (noted peers e) es) fs))

pub joined : {A : Type 0} (a b c p q x y : List A) → a ++ p ≡ x ++ b → b ++ q ≡ y ++ c → a ++ (p ++ q) ≡ (x ++ y) ++ c
joined {A} a b c p q x y e f =
    sym (append_assoc a p q) ∙ ap (λ es. es ++ q) e ∙ append_assoc x b q ∙ ap (λ es. x ++ es) f ∙ sym (append_assoc x y c)

for_each_more : (os ps xs ys : List Order) → SameForEach os xs → SameForEach ps ys → SameForEach (os ++ ps) (xs ++ ys)
for_each_more os ps xs ys f g peer =
    filter-append (is_for peer) os ps
    ∙ ap (λ (l : List Order). l ++ those_for peer ps) (f peer)
    ∙ ap (λ (l : List Order). those_for peer xs ++ l) (g peer)
    ∙ sym (filter-append (is_for peer) xs ys)

pub on_for_each : (os ps : List Order) (a b : List PeerRef) (es fs : List Event) → b ≡ noted_all a es → SameForEach os (relayed_all a es) → SameForEach ps (relayed_all b fs) → SameForEach (os ++ ps) (relayed_all a (es ++ fs))
on_for_each os ps a b es fs e f g peer =
    for_each_more os ps (relayed_all a es) (relayed_all b fs) f g peer
    ∙ ap (λ (peers : List PeerRef). those_for peer (relayed_all a es ++ relayed_all peers fs)) e
    ∙ ap (those_for peer) (sym (relayed_more a es fs))

pub relays_on : (a b c : Relay) → Relays a b → Relays b c → Relays a c
relays_on a b c p q = record {
  taken = p.taken ++ q.taken;
  expanded = p.expanded ++ q.expanded;
  asked_for = p.asked_for ++ q.asked_for;
  took = q.took ∙ ap (λ (es : List Event). es ++ q.taken) p.took ∙ append_assoc (events (received a.receiver)) p.taken q.taken;
  in_order = joined a.backlog.items b.backlog.items c.backlog.items p.taken q.taken p.expanded q.expanded p.in_order q.in_order;
  peers = q.peers ∙ ap (λ (ps : List PeerRef). noted_all ps q.expanded) p.peers ∙ sym (noted_more a.table p.expanded q.expanded);
  orders = q.orders ∙ ap (λ (os : List Order). os ++ q.asked_for) p.orders ∙ append_assoc (asked a.sender) p.asked_for q.asked_for;
  for_each = on_for_each p.asked_for q.asked_for a.table b.table p.expanded q.expanded p.peers p.for_each q.for_each;
  same_queues = (q.same_queues.0 ∙ p.same_queues.0, q.same_queues.1 ∙ p.same_queues.1);
}

-- nothing was taken or expanded
pub relays_none : (a b : Relay) → SameQueues a b → received b.receiver ≡ received a.receiver → b.backlog.items ≡ a.backlog.items → b.table ≡ a.table → asked b.sender ≡ asked a.sender → Relays a b
relays_none a b same receiver backlog table sender = record {
  same_queues = same;
  taken = [];
  expanded = [];
  asked_for = [];
  took = ap events receiver ∙ sym (append-nil (events (received a.receiver)));
  in_order = append-nil a.backlog.items ∙ sym backlog;
  peers = table;
  orders = sender ∙ sym (append-nil (asked a.sender));
  for_each = λ (peer : PeerRef). refl;
}

-- ---- an event
after_noted : (peers : List PeerRef) (e : Event) → relayed peers e ≡ relayed (noted peers e) e
after_noted peers (Connect peer info) = refl
after_noted peers (Receive from packet) = refl
after_noted peers (Disconnect peer info) = refl
after_noted peers (Refused seat number why) = refl

pub for_event : (peers : List PeerRef) (e : Event) → SameForEach (relayed peers e) (relayed_all peers (e ∷ []))
for_event peers e peer = ap (those_for peer) (after_noted peers e ∙ sym (append-nil (relayed (noted peers e) e)))

-- one that finds no memory gave no orders
pub none_added : (peers : List PeerRef) (e : Event) (before now : List Order) → IsNewcomer peers e → now ≡ before ++ relayed peers e → now ≡ before
none_added peers (Connect peer info) before now new added = added ∙ append-nil before
none_added peers (Receive from packet) before now new added = absurd new
none_added peers (Disconnect peer info) before now new added = absurd new
none_added peers (Refused seat number why) before now new added = absurd new

-- it was expanded
pub relays_expanded : (a b : Relay) (e : Event) → SameQueues a b → received b.receiver ≡ received a.receiver → a.backlog.items ≡ e ∷ b.backlog.items → b.table ≡ noted a.table e
    → asked b.sender ≡ asked a.sender ++ relayed a.table e → Relays a b
relays_expanded a b e same receiver backlog table sender = record {
  same_queues = same;
  taken = [];
  expanded = e ∷ [];
  asked_for = relayed a.table e;
  took = ap events receiver ∙ sym (append-nil (events (received a.receiver)));
  in_order = append-nil a.backlog.items ∙ backlog;
  peers = table;
  orders = sender;
  for_each = for_event a.table e;
}

events_more : (xs : List Numbered) (n : Numbered) → events (xs ++ n ∷ []) ≡ events xs ++ n.event ∷ []
events_more [] n = refl
events_more (x ∷ xs) n = ap (λ (es : List Event). x.event ∷ es) (events_more xs n)

-- an event was taken
pub relays_taken : (a b : Relay) (n : Numbered) → SameQueues a b → received b.receiver ≡ received a.receiver ++ n ∷ [] → b.backlog.items ≡ a.backlog.items ++ n.event ∷ [] → b.table ≡ a.table → asked b.sender ≡ asked a.sender → Relays a b
relays_taken a b n same receiver backlog table sender = record {
  same_queues = same;
  taken = n.event ∷ [];
  expanded = [];
  asked_for = [];
  took = ap events receiver ∙ events_more (received a.receiver) n;
  in_order = sym backlog;
  peers = table;
  orders = sender ∙ sym (append-nil (asked a.sender));
  for_each = λ (peer : PeerRef). refl;
}

-- packets were expanded
pub relays_packets : (a b : Relay) (es : List Event) (os : List Order) → ArePackets es → SameForEach os (relayed_all a.table es) → SameQueues a b → received b.receiver ≡ received a.receiver
    → a.backlog.items ≡ es ++ b.backlog.items → b.table ≡ a.table → asked b.sender ≡ asked a.sender ++ os → Relays a b
relays_packets a b es os packets each same receiver backlog table sender = record {
  same_queues = same;
  taken = [];
  expanded = es;
  asked_for = os;
  took = ap events receiver ∙ sym (append-nil (events (received a.receiver)));
  in_order = append-nil a.backlog.items ∙ backlog;
  peers = table ∙ sym (packets_note a.table es packets);
  orders = sender;
  for_each = each;
}

-- ---- what was submitted
-- where no order waits, before and after
pub submits_on : (a b : Relay) (os : List Order) → waiting_at a.sender ≡ [] → waiting_at b.sender ≡ [] → asked b.sender ≡ asked a.sender ++ os → SubmitsOn a b
submits_on a b os none still is =
    let before : asked a.sender ≡ orders (submitted_at a.sender) = ap (λ (zs : List Order). orders (submitted_at a.sender) ++ zs) none ∙ append-nil (orders (submitted_at a.sender)) in
    let after : asked b.sender ≡ orders (submitted_at b.sender) = ap (λ (zs : List Order). orders (submitted_at b.sender) ++ zs) still ∙ append-nil (orders (submitted_at b.sender)) in
    (os, sym after ∙ (is ∙ ap (λ (zs : List Order). zs ++ os) before))

pub submits_none : (a b : Relay) → waiting_at a.sender ≡ [] → waiting_at b.sender ≡ [] → asked b.sender ≡ asked a.sender → SubmitsOn a b
submits_none a b none still is = submits_on a b [] none still (is ∙ sym (append-nil (asked a.sender)))

pub submits_same : (a b : Relay) → submitted_at b.sender ≡ submitted_at a.sender → SubmitsOn a b
submits_same a b e = ([], ap orders e ∙ sym (append-nil (orders (submitted_at a.sender))))

pub submits_then : (a b c : Relay) → SubmitsOn a b → submitted_at c.sender ≡ submitted_at b.sender → SubmitsOn a c
submits_then a b c s e = (s.0, ap orders e ∙ s.1)

-- what had been asked for was submitted, and then some more
pub submits_first : (a b c : Relay) → asked b.sender ≡ asked a.sender → waiting_at b.sender ≡ [] → SubmitsOn b c → (more : List Order) × (orders (submitted_at c.sender) ≡ asked a.sender ++ more)
submits_first a b c kept none s =
    let all : orders (submitted_at b.sender) ≡ asked a.sender =
    sym (ap (λ (zs : List Order). orders (submitted_at b.sender) ++ zs) none ∙ append-nil (orders (submitted_at b.sender))) ∙ kept in
    (s.0, s.1 ∙ ap (λ (zs : List Order). zs ++ s.0) all)
