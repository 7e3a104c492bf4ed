-- Once the network loses nothing, all that was submitted reliably is taken: what rounds bring to two peers that stay connected.
use Rattle.std.specs.Prelude.{◌≡◌, ◌<◌, ◌≤◌, ◌+◌, ◌*◌, ◌%◌, ◌&&◌, ◌⊎◌, ℕ, zero, suc, true, List, [], ◌∷◌, Some}
use Rattle.enet_codec.specs.declared.packet.Packet.{Packet}
use Rattle.enet_peer.specs.declared.parts.PeerState.TheVariants as state
use Rattle.enet_peer.specs.Peering.{Peering}
use Rattle.enet_host.specs.Ticking.{clock_after}
use Rattle.law_progress.specs.Exchanges.{AllOver, outstanding_over}
use Rattle.law_network.specs.declared.event.Side.{Side}
use Rattle.law_network.specs.declared.event.Side.TheVariants.{A, B}
use Rattle.law_network.specs.Headline.{end_at, submitted_at, events_at}
use Rattle.law_network.specs.World.{World, other}
use Rattle.law_headline.specs.Page.{came}
use Rattle.enet_site.specs.Standing.{peer_at, state_at}
use Rattle.enet_world.specs.declared.calm.Calm.{Calm}
use Rattle.enet_world.specs.Calm.{is_smooth}

-- both hosts have an end of connection x, whose peers are connected
abbrev pub AreConnected : World → ℕ → Type 0
AreConnected w x = (state_at w.a x ≡ Some state.Connected) × (state_at w.b x ≡ Some state.Connected)

-- a host's clock after so many rounds
abbrev pub clock_by_rounds : ℕ → ℕ → ℕ → ℕ
clock_by_rounds zero ms clock = clock
clock_by_rounds (suc n) ms clock = clock_after (clock_by_rounds n ms clock) ms

-- so many rounds are enough for connection x: in one of them all that waits for its acknowledgement at first is due to go again or has waited
-- out its timeout, and twice as many come after it as data commands are queued or wait at first, at both ends, on all channels
pub record AreEnough (ms rounds : ℕ) (w : World) (x : ℕ) : Type 0 where
  pub p : Peering
  pub q : Peering
  pub is_p : peer_at w.a x ≡ Some p
  pub is_q : peer_at w.b x ≡ Some q
  pub waits : ℕ
  pub some : 0 < waits
  pub over_p : AllOver (clock_by_rounds waits ms w.a.host.clock) p
  pub over_q : AllOver (clock_by_rounds waits ms w.b.host.clock) q
  pub enough : waits + 2 * (outstanding_over p.outbox.senders + outstanding_over q.outbox.senders) ≤ rounds

-- of these packets each flagged RELIABLE (1) came, in order, and of the others some
abbrev pub AllCame : List Packet → List (List ℕ) → Type 0
AllCame [] bs = bs ≡ []
AllCame (p ∷ ps) bs = ((rest : List (List ℕ)) × (bs ≡ p.body ∷ rest) × AllCame ps rest) ⊎ ((p.flags % 2 ≡ 0) × AllCame ps bs)

-- what the user of a side submitted on a channel of connection x was taken by the user of the other
abbrev pub WasTaken : World → ℕ → Side → ℕ → Type 0
WasTaken w x side channel = AllCame (submitted_at channel (end_at w x side)) (came channel (events_at (end_at w x (other side))))

-- each user has taken what the other submitted reliably on connection x
abbrev pub AllTaken : World → ℕ → Type 0
AllTaken w x = (channel : ℕ) → channel < 255 → WasTaken w x A channel × WasTaken w x B channel

-- the rounds brought all of connection x, if nothing stood in the way and they were enough
abbrev pub BroughtAll : ℕ → ℕ → Calm → World → World → ℕ → Type 0
BroughtAll ms rounds counts old new x = (is_smooth counts.a && is_smooth counts.b) ≡ true → AreEnough ms rounds old x → AllTaken new x

-- so of each connection whose peers are connected before them and after them
abbrev pub GetsThrough : ℕ → ℕ → Calm → World → World → Type 0
GetsThrough ms rounds counts old new = (x : ℕ) → AreConnected old x → AreConnected new x → BroughtAll ms rounds counts old new x
