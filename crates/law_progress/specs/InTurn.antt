-- Rounds of two connected ends in which each has one turn, as two hosts have them: as in Exchanges, but for the one end's second turn.
-- Times are in milliseconds.
use Rattle.std.specs.Prelude.{◌≡◌, ℕ, ◌⊎◌, List, [], ◌∷◌, Some}
use Rattle.enet_peer.specs.declared.parts.PeerState.TheVariants as state
use Rattle.enet_peer.specs.Peering.{Peering}
use Rattle.law_connection.specs.Connection.{End, Connection}
use Rattle.law_connection.specs.Steps.{Tick, Set, ThrottleLimit, Happens}
use Rattle.law_progress.specs.Exchanges.{Takes, PutsAll, IsOpen}

-- time goes on at an end, whose throttle its host may limit then
abbrev pub Ticks : ℕ → End → End → End → Type 0
Ticks now own other new = Happens own other (Tick now) new ⊎ ((limit : ℕ) × (between : End) × Happens own other (Tick now) between × Happens between other (Set (ThrottleLimit limit)) new)

-- a round: the clocks come to `now` and `there`, by which no end's patience is over; then the one end puts out all that it may, and then
-- the other; and both users take what they like
pub record RoundInTurn (now there : ℕ) (c d : Connection) : Type 0 where
  pub one : End
  pub ticks_one : Ticks now c.one c.two one
  pub patient_one : (p : Peering) → one.peer ≡ Some p → p.state ≡ state.Connected
  pub two : End
  pub ticks_two : Ticks there c.two one two
  pub patient_two : (p : Peering) → two.peer ≡ Some p → p.state ≡ state.Connected
  pub one_out : End
  pub two_in : End
  pub forth : PutsAll now there one two one_out two_in
  pub two_out : End
  pub one_in : End
  pub back : PutsAll there now two_in one_out two_out one_in
  pub events_one : ℕ
  pub takes_one : Takes events_one one_in two_out d.one
  pub events_two : ℕ
  pub takes_two : Takes events_two two_out d.one d.two

-- rounds at these moments, one after another, at the beginning of each of which both ends are open
abbrev pub RoundsInTurn : List (ℕ × ℕ) → Connection → Connection → Type 0
RoundsInTurn [] c d = d ≡ c
RoundsInTurn (m ∷ moments) c d = (p q : Peering) × IsOpen c.one p × IsOpen c.two q × (b : Connection) × RoundInTurn m.0 m.1 c b × RoundsInTurn moments b d
