-- How long an attempt to connect or to disconnect lasts, whatever comes. Times are in milliseconds, on a clock that doesn't wrap; the
-- peer's own shows its remainder modulo 2^32.
use Rattle.std.specs.Prelude.{◌≡◌, Bool, ℕ, ◌+◌, ◌*◌, ◌%◌, ◌^◌, ◌<◌, ◌≤◌, if◌then◌else◌, List, [], ◌∷◌, Option, Some, None, ◌⊎◌, false}
use Rattle.enet_codec.specs.Message.{Message}
use Rattle.enet_outbox.specs.Emission.{filled}
use Rattle.enet_peer.specs.declared.parts.PeerState.{PeerState}
use Rattle.enet_peer.specs.declared.parts.PeerState.TheVariants as state
use Rattle.enet_peer.specs.Peering.{Peering}
use Rattle.enet_peer.specs.Refusing.{heeded, is_turned_away, told_again}
use Rattle.enet_peer.specs.Calls.{Taken, pace_of, gone_on, moved, next_event}

-- what can happen at a peer between two moments of its clock
pub data Step : Type 0 where
  Hears : (full : Bool) (sent : Option ℕ) (message : Message) → Step  -- a command comes, whatever it says, to a host that may be full
  TellsAgain : Step  -- where it was refused, it is told again that the host is full
  PutsOut : Step  -- a datagram is put out, if there is one to go
  Takes : Step  -- the user takes an event, if there is one

abbrev pub after_take : Peering → Option Taken → Peering
after_take p None = p
after_take p (Some taken) = taken.after

abbrev pub after_step : ℕ → Peering → Step → Peering
after_step now p (Hears full sent message) = (heeded full p now sent message).after
after_step now p TellsAgain = if is_turned_away p then told_again p else p
after_step now p PutsOut = gone_on (record p { outbox = (filled (pace_of p now) p.outbox).outbox })
after_step now p Takes = after_take p (next_event p)

-- steps, one after another, all of which leave a peer in this state
abbrev pub Stays : PeerState → ℕ → List Step → Peering → Peering → Type 0
Stays s now [] p q = (p.state ≡ s) × (p ≡ q)
Stays s now (step ∷ steps) p q = (p.state ≡ s) × Stays s now steps (after_step now p step) q

-- a turn of a peer that stays in a state: its clock comes to a moment, whether or not its address sent too little for another answer, then
-- anything happens, until a datagram would have nothing in it
pub record Turn (s : PeerState) (now : ℕ) (p q : Peering) : Type 0 where
  pub short : Bool
  pub steps : List Step
  pub last : Peering
  pub stays : Stays s (now % 2 ^ 32) steps (moved short p (now % 2 ^ 32)) last
  pub spent : (filled (pace_of last (now % 2 ^ 32)) last.outbox).messages ≡ []
  pub after : q ≡ after_step (now % 2 ^ 32) last PutsOut

-- a turn at this moment, and further ones at later moments, each at most `gap` after the one before
abbrev pub Turns : PeerState → ℕ → ℕ → Peering → List ℕ → Peering → Type 0
Turns s gap now p [] q = Turn s now p q
Turns s gap now p (next ∷ later) q = (r : Peering) × Turn s now p r × (now ≤ next) × (next ≤ now + gap) × Turns s gap next r later q

-- the moment of the last of them
abbrev pub last_of : ℕ → List ℕ → ℕ
last_of now [] = now
last_of now (next ∷ later) = last_of next later

-- a peer can't stay in this state for longer than so many milliseconds from its first turn on, where its clock never stands still for
-- so long that it wraps
abbrev pub LastsAtMost : PeerState → Peering → ℕ → Type 0
LastsAtMost s p most = (gap now : ℕ) (moments : List ℕ) (q : Peering) → most + gap < 2 ^ 32 → Turns s gap now p moments q → last_of now moments ≤ now + most

-- nor can one that isn't refused by then
abbrev pub LastsUnrefused : PeerState → Peering → ℕ → Type 0
LastsUnrefused s p most = (gap now : ℕ) (moments : List ℕ) (q : Peering) → most + gap < 2 ^ 32 → Turns s gap now p moments q → q.refused ≡ false → last_of now moments ≤ now + most

-- nor can a peer that was made so at a moment, from its first turn on, where its clock doesn't come round from that moment on
abbrev pub LastsOnceMade : PeerState → (ℕ → Peering) → ℕ → Type 0
LastsOnceMade s made most = (gap start now : ℕ) (moments : List ℕ) (q : Peering) → start ≤ now → now + most + gap < start + 2 ^ 32 → Turns s gap now (made (start % 2 ^ 32)) moments q → last_of now moments ≤ now + most

-- where the clock goes on by at most one millisecond and `extra` at once, also from the moment at which a peer was made so to its first
-- turn, the peer can't stay in this state for `most` milliseconds and so many times `extra` from that turn on
abbrev pub LastsFor : PeerState → (ℕ → Peering) → ℕ → ℕ → Type 0
LastsFor s made most times = (extra start now : ℕ) (moments : List ℕ) (q : Peering) → 31500 + 9 * (extra + 1) < 2 ^ 32 → start ≤ now → now ≤ start + (extra + 1) → Turns s (extra + 1) now (made (start % 2 ^ 32)) moments q
    → last_of now moments < now + most + times * extra

-- its user has an event to take, or the connection's place is free
abbrev pub IsTold : Peering → Type 0
IsTold p = ((t : Taken) × (next_event p ≡ Some t)) ⊎ (p.state ≡ state.Free)

-- a peer in this state leaves it, by a step or by a moment that comes, only so that its user is told
pub record TellsWhenLeft (s : PeerState) : Type 0 where
  pub step : (p : Peering) (now : ℕ) (step : Step) → p.state ≡ s → ((after_step now p step).state ≡ s) ⊎ IsTold (after_step now p step)
  pub tick : (short : Bool) (p : Peering) (now : ℕ) → p.state ≡ s → ((moved short p now).state ≡ s) ⊎ IsTold (moved short p now)
