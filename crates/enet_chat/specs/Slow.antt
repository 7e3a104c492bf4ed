-- How a client that is too slow, or too loud, is ended.
use Rattle.std.specs.Prelude.{ℕ}
use Rattle.enet_codec.specs.declared.event.PeerRef.{PeerRef}
use Rattle.enet_codec.specs.declared.event.DisconnectMode.TheVariants.{Ask}
use Rattle.enet_submit.specs.declared.order.Order.{Order}
use Rattle.enet_submit.specs.declared.order.Order.TheVariants.{Disconnect}

-- what waits for it is dropped, and it is told a word
abbrev pub end_told : PeerRef → ℕ → Order
end_told peer info = Disconnect peer Ask info

-- 4,294,967,294 where it is too slow
abbrev pub slow_end : PeerRef → Order
slow_end peer = end_told peer 4294967294

-- and 4,294,967,293 where it is too loud
abbrev pub loud_end : PeerRef → Order
loud_end peer = end_told peer 4294967293
