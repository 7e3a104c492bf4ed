use Rattle.std.proofs.Common.{◌≡◌, true, List, ◌++◌, take, sym, ◌∙◌, ap, subst}
use Rattle.enet_codec.specs.declared.event.PeerRef.{PeerRef}
use Rattle.enet_submit.specs.declared.order.Order.{Order}
use Rattle.enet_chat.specs.Peers.{has_each_once}
use Rattle.enet_chat.specs.Relaying.{relayed_all, SameForEach}
use Rattle.enet_chat.specs.Private.Grouping.{grouped}
use Rattle.enet_chat.proofs.GroupingLemmas.{grouped_same}
use Rattle.enet_chat.proofs.batch.batch_orders.Goals as goal

pub returns-clause-orders : goal.returns-clause-orders
returns-clause-orders c =
    let once : has_each_once c.args.table.now ≡ true = subst (λ xs. has_each_once xs ≡ true) c.table.view_is c.table.invariant in
    let first = take c.args.count c.args.backlog.now.items in
    let is : c.put_grouped.new.orders.items ≡ grouped c.args.table.now first =
    c.in_ok-put_grouped.ensures.put ∙ ap (λ (os : List Order). os ++ grouped c.as_slice.result.now first) c.new-orders.ensures.items
    ∙ ap (λ (peers : List PeerRef). grouped peers first) (c.as_slice.ensures.value ∙ c.table.view_is) in
    subst (λ (os : List Order). SameForEach os (relayed_all c.args.table.now first)) (sym is) (grouped_same c.args.table.now first once c.requires.packets)
