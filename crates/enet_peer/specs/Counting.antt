-- How many of a peer's commands that are sent and not acknowledged were sent again.
use Rattle.std.specs.Prelude.{ℕ}
use Rattle.enet_outbox.specs.Counting.{count_in}
use Rattle.enet_peer.specs.Peering.{Peering}

abbrev pub count_by_peer : Peering → ℕ
count_by_peer p = count_in p.outbox
