use Rattle.std.proofs.Common.{◌≡◌, true, List, take, map, sym, ◌∙◌, subst}
use Rattle.enet_codec.specs.declared.event.PeerRef.{PeerRef}
use Rattle.enet_codec.specs.Outward.{errands}
use Rattle.enet_submit.specs.Broadcast.{order_of}
use Rattle.enet_submit.specs.declared.order.Order.{Order}
use Rattle.enet_chat.specs.Peers.{has_each_once}
use Rattle.enet_chat.specs.Relaying.{relayed_all, SameForEach}
use Rattle.enet_chat.specs.Private.Grouping.{grouped, outwards}
use Rattle.enet_chat.proofs.Broadcasts.{all-grouped}
use Rattle.enet_chat.proofs.GroupingLemmas.{grouped_same}
use Rattle.enet_chat.proofs.batch.broadcast_of.Goals as goal

pub returns-in-Ok-new : goal.returns-in-Ok-new
returns-in-Ok-new c =
    let peers = c.args.table.now in
    let first = take c.args.count c.args.backlog.now.items in
    let receivers : c.in-Ok.peers.items ≡ peers = c.in-Ok.ensures.items ∙ c.as_slice.ensures.peers in
    let packets : c.in_ok-packets.packets.items ≡ outwards first = c.in_ok-packets.ensures in
    let is : c.in-Ok-new.broadcast ≡ grouped peers first =
    c.in-Ok-new.ensures.orders ∙ ((λ i. map order_of (errands (receivers i) (packets i))) ∙ all-grouped peers first) in
    record {
      orders = subst (λ (os : List Order). SameForEach os (relayed_all peers first)) (sym is)
          (grouped_same peers first (subst (λ (ps : List PeerRef). has_each_once ps ≡ true) c.as_slice.ensures.peers c.as_slice.ensures.once) c.requires.packets);
    }
