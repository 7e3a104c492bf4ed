-- What a relay expands that shares its service's thread.
use Rattle.std.proofs.Common.{◌≡◌, ℕ, List, [], ◌∷◌, ◌++◌, length, refl, sym, ◌∙◌, ap, append_assoc, arith}
use Rattle.std.proofs.lemmas.List.{append-nil, length-append}
use Rattle.enet_codec.specs.declared.event.PeerRef.{PeerRef}
use Rattle.enet_codec.specs.declared.event.Event.{Event}
use Rattle.enet_submit.specs.declared.order.Order.{Order}
use Rattle.enet_chat.specs.Chat.{noted, relayed}
use Rattle.enet_chat.specs.declared.lone.LoneRelay.{LoneRelay}
use Rattle.enet_chat.specs.Relaying.{noted_all, relayed_all, SameForEach}
use Rattle.enet_chat.specs.Lone.{Expands, counted_on, expanded_by, asked_by}
use Rattle.enet_chat.specs.Private.Relaying.{ArePackets}
use Rattle.enet_chat.proofs.GroupingLemmas.{packets_note}
use Rattle.enet_chat.proofs.Relays.{noted_more, on_for_each, for_event}

counted_none : (count : ℕ) → count ≡ counted_on count 0
counted_none count = omega arith

counted_both : (a b c : ℕ) {A : Type 0} (xs ys : List A) → b ≡ counted_on a (length xs) → c ≡ counted_on b (length ys) → c ≡ counted_on a (length (xs ++ ys))
counted_both a b c xs ys e f = omega (arith, length-append xs ys, e, f)

pub expands_on : (a b c : LoneRelay) → Expands a b → Expands b c → Expands a c
expands_on a b c p q = record {
  expanded = p.expanded ++ q.expanded;
  asked_for = p.asked_for ++ q.asked_for;
  in_order = p.in_order ∙ ap (λ (es : List Event). p.expanded ++ es) q.in_order ∙ sym (append_assoc p.expanded q.expanded c.events);
  peers = q.peers ∙ ap (λ (ps : List PeerRef). noted_all ps q.expanded) p.peers ∙ sym (noted_more a.table p.expanded q.expanded);
  orders = q.orders ∙ ap (λ (os : List Order). os ++ q.asked_for) p.orders ∙ append_assoc a.orders p.asked_for q.asked_for;
  for_each = on_for_each p.asked_for q.asked_for a.table b.table p.expanded q.expanded p.peers p.for_each q.for_each;
  counted = counted_both a.expanded b.expanded c.expanded p.expanded q.expanded p.counted q.counted;
  counted_orders = counted_both a.asked b.asked c.asked p.asked_for q.asked_for p.counted_orders q.counted_orders;
}

-- nothing was expanded
pub expands_none : (a b : LoneRelay) → b.events ≡ a.events → b.table ≡ a.table → b.orders ≡ a.orders → expanded_by b ≡ expanded_by a → asked_by b ≡ asked_by a → Expands a b
expands_none a b events table orders expanded asked = record {
  expanded = [];
  asked_for = [];
  in_order = sym events;
  peers = table;
  orders = orders ∙ sym (append-nil a.orders);
  for_each = λ (peer : PeerRef). refl;
  counted = expanded ∙ counted_none a.expanded;
  counted_orders = asked ∙ counted_none a.asked;
}

-- an event was expanded
pub expands_event : (a b : LoneRelay) (e : Event) → a.events ≡ e ∷ b.events → b.table ≡ noted a.table e → b.orders ≡ a.orders ++ relayed a.table e
    → expanded_by b ≡ counted_on (expanded_by a) 1 → asked_by b ≡ counted_on (asked_by a) (length (relayed a.table e)) → Expands a b
expands_event a b e events table orders expanded asked = record {
  expanded = e ∷ [];
  asked_for = relayed a.table e;
  in_order = events;
  peers = table;
  orders = orders;
  for_each = for_event a.table e;
  counted = expanded;
  counted_orders = asked;
}

-- packets were expanded
pub expands_packets : (a b : LoneRelay) (es : List Event) (os : List Order) → ArePackets es → SameForEach os (relayed_all a.table es)
    → a.events ≡ es ++ b.events → b.table ≡ a.table → b.orders ≡ a.orders ++ os
    → expanded_by b ≡ counted_on (expanded_by a) (length es) → asked_by b ≡ counted_on (asked_by a) (length os) → Expands a b
expands_packets a b es os packets each events table orders expanded asked = record {
  expanded = es;
  asked_for = os;
  in_order = events;
  peers = table ∙ sym (packets_note a.table es packets);
  orders = orders;
  for_each = each;
  counted = expanded;
  counted_orders = asked;
}
