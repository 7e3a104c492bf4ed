use Rattle.std.proofs.Common.{◌≡◌, true, List, ◌++◌, length, take, length-take, take-append-drop, refl, sym, ◌∙◌, ap, subst, arith}
use Rattle.std.proofs.lemmas.List.{length-append}
use Rattle.enet_codec.specs.declared.event.Event.{Event}
use Rattle.enet_codec.specs.declared.event.PeerRef.{PeerRef}
use Rattle.enet_chat.specs.Peers.{has_each_once}
use Rattle.enet_chat.specs.Lone.{counted_on}
use Rattle.enet_chat.specs.Private.Grouping.{grouped}
use Rattle.enet_chat.proofs.GroupingLemmas.{grouped_same}
use Rattle.enet_chat.proofs.Expansions.{expands_none, expands_packets}
use Rattle.enet_chat.proofs.lone.LoneRelay.expand_packets.Goals as goal

pub returns-clause-expands : goal.returns-clause-expands
returns-clause-expands c =
    let peers = c.args.self.now.table in
    let events = c.args.self.now.events in
    let first = take c.args.count events in
    let once : has_each_once peers ≡ true = subst (λ (ps : List PeerRef). has_each_once ps ≡ true) c.as_slice.ensures.peers c.as_slice.ensures.once in
    let added : c.add_grouped.new.self ≡ c.args.self.now.orders ++ grouped peers first =
    c.in_ok-add_grouped.ensures.added
    ∙ ap (λ (ps : List PeerRef). c.args.self.now.orders ++ grouped ps (take c.args.count c.as_deque.result.now.items)) c.as_slice.ensures.peers
    ∙ ap (λ (es : List Event). c.args.self.now.orders ++ grouped peers (take c.args.count es)) c.as_deque.ensures in
    expands_packets c.args.self.now c.count.new.self first (grouped peers first) c.requires.packets (grouped_same peers first once c.requires.packets)
    (sym (take-append-drop c.args.count events) ∙ ap (λ (es : List Event). first ++ es) (sym (c.count.ensures.same.1 ∙ c.drop_first.ensures)))
    c.count.ensures.same.0
    (c.count.ensures.same.2 ∙ added)
    (c.count.ensures.expanded ∙ ap (counted_on c.args.self.now.expanded) (omega (arith, length-take c.args.count events, c.requires.within)))
    (c.count.ensures.asked ∙ ap (counted_on c.args.self.now.asked)
    (omega (arith, ap length added, length-append c.args.self.now.orders (grouped peers first), c.len.ensures, c.len-before.ensures)))

pub returns-in_err-add_grouped-clause-expands : goal.returns-in_err-add_grouped-clause-expands
returns-in_err-add_grouped-clause-expands c = expands_none _ _ refl refl c.in_err-add_grouped.ensures.same refl refl
