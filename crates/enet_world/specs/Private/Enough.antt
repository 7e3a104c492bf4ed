-- That rounds are enough for all that was sent before them, at all peers of a world.
use Rattle.std.specs.Prelude.{ℕ, ◌≡◌, ◌<◌, ◌≤◌, Some}
use Rattle.enet_peer.specs.Peering.{Peering}
use Rattle.law_progress.specs.Exchanges.{AllOver}
use Rattle.law_network.specs.declared.event.Side.{Side}
use Rattle.law_network.specs.World.{World, site_of}
use Rattle.enet_site.specs.Standing.{peer_at}
use Rattle.enet_world.specs.Progress.{clock_by_rounds}

-- after so many rounds all that was sent before them is due to go again, or has waited out its timeout; and the datagrams of each peer have
-- room for 576 bytes
pub record AreOverIn (rounds ms : ℕ) (w : World) : Type 0 where
  pub some : 0 < rounds
  pub over : (side : Side) (x : ℕ) (p : Peering) → peer_at (site_of w side) x ≡ Some p → AllOver (clock_by_rounds rounds ms (site_of w side).host.clock) p
  pub wide : (side : Side) (x : ℕ) (p : Peering) → peer_at (site_of w side) x ≡ Some p → 576 ≤ p.terms.mtu
