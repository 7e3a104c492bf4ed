-- What packets for several peers stand for.
use Rattle.std.specs.Prelude.{ℕ, drop, List, [], ◌∷◌, ◌++◌}
use Rattle.enet_codec.specs.declared.event.PeerRef.{PeerRef}
use Rattle.enet_codec.specs.declared.event.Outward.{Outward}
use Rattle.enet_codec.specs.Outward.{Errand, errands, errands_for}
use Rattle.enet_submit.specs.declared.order.Order.{Order}
use Rattle.enet_submit.specs.declared.order.Order.TheVariants.{Submit}

-- a packet that one peer is to get
abbrev pub errand : PeerRef → Outward → Errand
errand peer packet = record { peer = peer; packet = packet }

-- the order by which an errand is done
abbrev pub order_of : Errand → Order
order_of e = Submit e.peer e.packet.channel e.packet.flags e.packet.body

-- what is left: the first of these peers gets those of the packets from this place on, each other one all
abbrev pub errands_from : List PeerRef → List Outward → ℕ → List Errand
errands_from [] packets place = []
errands_from (peer ∷ peers) packets place = errands_for (drop place packets) peer ++ errands peers packets
