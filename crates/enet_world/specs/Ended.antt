-- A peer that is connected before rounds without losses doesn't go in silence: it is connected still, or its user is told that it isn't.
use Rattle.std.specs.Prelude.{◌≡◌, ◌<◌, ◌⊎◌, ℕ, Bool, true, false, Option, List, [], ◌∷◌, ◌++◌, Some, None}
use Rattle.std.specs.Option.{option_map}
use Rattle.enet_codec.specs.declared.event.Event.{Event}
use Rattle.enet_codec.specs.declared.event.Event.TheVariants as events
use Rattle.enet_codec.specs.declared.event.PeerRef.{PeerRef}
use Rattle.enet_peer.specs.declared.parts.PeerState.{PeerState}
use Rattle.enet_peer.specs.declared.parts.PeerState.TheVariants as state
use Rattle.law_network.specs.declared.event.Side.{Side}
use Rattle.law_network.specs.declared.event.Side.TheVariants.{A, B}
use Rattle.law_network.specs.Headline.{end_at, events_at}
use Rattle.law_network.specs.Network.{HostEnd}
use Rattle.law_network.specs.World.{World, site_of}
use Rattle.enet_site.specs.Standing.{state_at}
use Rattle.enet_world.specs.declared.calm.Calm.{Calm}
use Rattle.enet_world.specs.declared.calm.Share.{Share}
use Rattle.enet_world.specs.Progress.{AreConnected, BroughtAll}

-- what a side did
abbrev pub share_of : Calm → Side → Share
share_of counts A = counts.a
share_of counts B = counts.b

abbrev pub IsUncut : Calm → Side → Type 0
IsUncut counts side = (share_of counts side).cut_short ≡ 0

-- what a side calls the peer of connection x
abbrev pub name_at : World → ℕ → Side → Option PeerRef
name_at w x side = option_map (λ (e : HostEnd). e.name) (end_at w x side)

-- the user of a side took events of connection x since, the last of which is its peer's Disconnect, and that peer is gone
pub record IsTold (old new : World) (x : ℕ) (side : Side) : Type 0 where
  pub name : PeerRef
  pub called : name_at old x side ≡ Some name
  pub more : List Event
  pub info : ℕ
  pub took : events_at (end_at new x side) ≡ events_at (end_at old x side) ++ more ++ events.Disconnect name info ∷ []
  pub gone : state_at (site_of new side) x ≡ None

-- its peer, of the same name, is in a state
abbrev pub IsStill : PeerState → World → World → ℕ → Side → Type 0
IsStill s old new x side = (state_at (site_of new side) x ≡ Some s) × (name_at new x side ≡ name_at old x side)

-- it is told; or will be by one more round (`ending`): at A, which puts out first in a round, a DISCONNECT came that has yet to be acknowledged
abbrev pub IsToldOrWillBe : World → World → ℕ → Side → Type 0
IsToldOrWillBe old new x side = ((side ≡ A) × IsStill state.AckDisconnect old new x side) ⊎ IsTold old new x side

-- the peer of connection x is connected still, or its user is told or will be
abbrev pub StandsOrEnds : World → World → ℕ → Side → Type 0
StandsOrEnds old new x side = IsStill state.Connected old new x side ⊎ IsToldOrWillBe old new x side

-- a peer that has yet to acknowledge a DISCONNECT, or whose end its user wasn't told yet
abbrev pub is_ending : PeerState → Bool
is_ending state.AckDisconnect = true
is_ending state.Ended = true
is_ending _ = false

-- so it is of each peer that is connected before the rounds, where its side isn't cut short; and of one that ends, a round tells its user
pub record TellsEnds (rounds : ℕ) (counts : Calm) (old new : World) : Type 0 where
  pub connected : (x : ℕ) (side : Side) → IsUncut counts side → state_at (site_of old side) x ≡ Some state.Connected → StandsOrEnds old new x side
  pub ending : (x : ℕ) (side : Side) (s : PeerState) → is_ending s ≡ true → IsUncut counts side → state_at (site_of old side) x ≡ Some s → 0 < rounds
      → IsTold old new x side

-- so of a connection whose peers are both connected before the rounds, where neither side is cut short: it ends at a side whose user is told or will
-- be; or it stands after them, and they brought all, if nothing stood in the way and they were enough
abbrev pub ComesOrEnds : ℕ → ℕ → Calm → World → World → Type 0
ComesOrEnds ms rounds counts old new =
    (x : ℕ) → AreConnected old x → IsUncut counts A → IsUncut counts B
    → (IsToldOrWillBe old new x A ⊎ IsToldOrWillBe old new x B)
    ⊎ (AreConnected new x × BroughtAll ms rounds counts old new x)
