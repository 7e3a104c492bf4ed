-- Who is left alone is told: a peer that is connected before rounds without losses, where the other side's peer of its connection has gone.
use Rattle.std.specs.Prelude.{◌≡◌, ◌<◌, ◌≤◌, ◌⊎◌, ◌+◌, ◌*◌, ◌/◌, min, ℕ, Option, Some, None}
use Rattle.enet_codec.specs.declared.event.PeerRef.{PeerRef}
use Rattle.enet_peer.specs.declared.parts.PeerState.TheVariants as state
use Rattle.enet_peer.specs.Peering.{Peering}
use Rattle.law_progress.specs.Later.{queued_over}
use Rattle.law_network.specs.declared.event.Side.{Side}
use Rattle.law_network.specs.World.{World, site_of, other}
use Rattle.enet_site.specs.Standing.{peer_at, state_at}
use Rattle.enet_world.specs.declared.calm.Calm.{Calm}
use Rattle.enet_world.specs.Ended.{IsUncut, IsTold, name_at}

-- a side has ended connection x: its peer has Ended, or none has its name any more
abbrev pub HasLeft : World → ℕ → Side → Type 0
HasLeft w x side = (state_at (site_of w side) x ≡ Some state.Ended) ⊎ ((name : PeerRef) × (name_at w x side ≡ Some name) × (state_at (site_of w side) x ≡ None))

-- the peer of connection x is connected at a side, and the other side has ended the connection
pub record IsLeftAlone (w : World) (x : ℕ) (side : Side) : Type 0 where
  pub connected : state_at (site_of w side) x ≡ Some state.Connected
  pub left : HasLeft w x (other side)

-- how many data commands the peer of connection x has queued at a side, on all channels
abbrev pub queued_in : Option Peering → ℕ
queued_in None = 0
queued_in (Some p) = queued_over p.outbox.senders

abbrev pub queued_at : World → ℕ → Side → ℕ
queued_at w x side = queued_in (peer_at (site_of w side) x)

-- four more rounds than take longer, each of at most a minute, than the interval of a ping (500 ms), and than the greatest patience (30,000) and
-- the longest timeout (60,000) together, once and for each command that is queued: each goes for the first time once there is room, and what is
-- younger than the greatest patience may take the room of what is due
abbrev pub rounds_until_told : (ms queued : ℕ) → ℕ
rounds_until_told ms queued = (500 + 90000 * (queued + 1)) / min ms 60000 + 5

-- so its user is told, by so many rounds in which time passes and its side isn't cut short; `passed` says for how long both clocks together went on
-- before, which is less than some 49 days with all that, else the 32 bits of a clock may not tell a wait
abbrev pub TellsAlone : (ms rounds passed : ℕ) → Calm → World → World → Type 0
TellsAlone ms rounds passed counts old new =
    (x : ℕ) (side : Side) → IsLeftAlone old x side → IsUncut counts side → 0 < ms → passed + 180000 * queued_at old x side < 4293000000 → rounds_until_told ms (queued_at old x side) ≤ rounds → IsTold old new x side
