-- On a network that loses nothing, no connection is lost: two peers that are connected stay so, where nothing stood in the way before the last
-- round, a round takes less than 30 seconds, and what waited for its acknowledgement before the rounds was young. Times are in milliseconds.
use Rattle.std.specs.Prelude.{◌≡◌, ◌<◌, ◌≤◌, ◌+◌, ◌*◌, ◌&&◌, ◌⊎◌, ℕ, true, Some}
use Rattle.enet_rtt.specs.Clock.{elapsed_time, since_later}
use Rattle.enet_rtt.specs.declared.transmission.Transmission.{Transmission}
use Rattle.enet_senders.specs.declared.control.SentControl.{SentControl}
use Rattle.enet_sender.specs.declared.sent.Sent.{Sent}
use Rattle.enet_sender.specs.Due.{SendingEnd}
use Rattle.enet_peer.specs.declared.parts.PeerState.TheVariants as state
use Rattle.enet_peer.specs.Peering.{Peering}
use Rattle.law_connection.specs.LinkSteps.{Has}
use Rattle.law_network.specs.declared.event.Side.{Side}
use Rattle.law_network.specs.World.{World, site_of}
use Rattle.enet_site.specs.Standing.{peer_at}
use Rattle.enet_world.specs.declared.calm.Calm.{Calm}
use Rattle.enet_world.specs.Calm.{Round, Rounds, is_smooth}
use Rattle.enet_world.specs.Ended.{IsStill}
use Rattle.enet_world.specs.Progress.{AreConnected, AreEnough}

-- a command of channel 0xFF that waits for its acknowledgement is young, so that patience lasts until its timeout is over and two rounds of
-- `ms` milliseconds are: then it is less than 30 seconds since it first went; and it went at most four times, or one round from now it is
-- less than 5 seconds since it first went or since an acknowledgement last came, whichever is later, and its timeout and a round take at
-- most 5
abbrev pub IsYoung : (ms clock heard : ℕ) → Transmission → Type 0
IsYoung ms clock heard t = ((t.attempts ≤ 4) ⊎ ((since_later clock t.first heard + ms < 5000) × (t.timeout + ms ≤ 5000))) × (elapsed_time clock t.first + t.timeout + 2 * ms < 30000)

-- a data command may have to wait for room before it goes again. It is so young that patience lasts for so many rounds
abbrev pub IsYoungFor : (ms rounds clock heard : ℕ) → Transmission → Type 0
IsYoungFor ms rounds clock heard t = ((t.attempts ≤ 4) ⊎ (since_later clock t.first heard + rounds * ms < 5000)) × (elapsed_time clock t.first + rounds * ms < 30000)

-- so is each of a peer's
pub record AllYoung (ms rounds clock : ℕ) (p : Peering) : Type 0 where
  pub controls : (t : SentControl) → Has p.outbox.control.sent t → IsYoung ms clock p.heard t.transmission
  pub channels : (s : SendingEnd) → Has p.outbox.senders s → (t : Sent) → Has s.sender.sent t → IsYoungFor ms rounds clock p.heard t.transmission

-- of connection x's at a side
abbrev pub AreYoung : (ms rounds : ℕ) → World → ℕ → Side → Type 0
AreYoung ms rounds w x side = (p : Peering) → peer_at (site_of w side) x ≡ Some p → AllYoung ms rounds (site_of w side).host.clock p

-- so many rounds, the last after others in which nothing stood in the way
pub record AreSmoothBeforeLast (ms rounds : ℕ) (old new : World) : Type 0 where
  pub earlier : ℕ
  pub before : Calm
  pub between : World
  pub rounds_before : Rounds ms earlier before old between
  pub smooth : (is_smooth before.a && is_smooth before.b) ≡ true
  pub counts : Calm
  pub last : Round ms counts between new
  pub all : rounds ≡ earlier + 1

-- two peers that are connected before the rounds are connected after them, under the same names, where nothing stood in the way before the last, a
-- round takes less than 30 seconds, and all that waited for its acknowledgement at first, at either, was young: on a channel, for as many rounds
-- as are enough for the connection, or for all of them
abbrev pub BothStand : ℕ → ℕ → World → World → Type 0
BothStand ms rounds old new =
    (x lasts : ℕ) → AreConnected old x → ms < 30000 → AreEnough ms lasts old x ⊎ (rounds ≤ lasts) → ((side : Side) → AreYoung ms lasts old x side) → AreSmoothBeforeLast ms rounds old new
    → (side : Side) → IsStill state.Connected old new x side
