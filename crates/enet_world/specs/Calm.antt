-- Rounds in which the network loses nothing: what a side puts out comes at once, and in order, to the other side.
use Rattle.std.specs.Prelude.{◌≡◌, ℕ, zero, suc, ◌+◌, min, ◌⊎◌, ◌==◌, ◌&&◌, Bool, if◌then◌else◌, is_some, Option, Some, None, Result, Ok, Err}
use Rattle.enet_codec.specs.declared.event.Event.{Event}
use Rattle.enet_codec.specs.declared.refusal.Refusal.{Refusal}
use Rattle.law_network.specs.declared.event.Answer.{Answer}
use Rattle.law_network.specs.declared.event.Answer.TheVariants as answers
use Rattle.law_network.specs.declared.event.Side.{Side}
use Rattle.law_network.specs.declared.event.Side.TheVariants.{A, B}
use Rattle.law_network.specs.declared.event.WorldEvent.{WorldEvent}
use Rattle.law_network.specs.declared.event.WorldEvent.TheVariants as happen
use Rattle.law_network.specs.World.{World, Steps, other}
use Rattle.enet_world.specs.declared.calm.Calm.{Calm}
use Rattle.enet_world.specs.declared.calm.Share.{Share}

-- ---- what an answer tells of
abbrev pub datagram_in : Result Answer Refusal → Option ℕ
datagram_in (Ok (answers.Sent number)) = number
datagram_in _ = None

abbrev pub event_in : Result Answer Refusal → Option Event
event_in (Ok (answers.Taken event)) = event
event_in _ = None

abbrev pub refusals_in : Result Answer Refusal → ℕ
refusals_in (Ok answer) = 0
refusals_in (Err why) = 1

-- a datagram was taken in only up to a command that stopped it
abbrev pub stops_in : Result Answer Refusal → ℕ
stops_in (Ok (answers.Received received)) = if is_some received.stop then 1 else 0
stops_in _ = 0

-- an event happens, whatever is answered
abbrev pub Meets : WorldEvent → World → World → Type 0
Meets event old new = (answer : Result Answer Refusal) × Steps old event answer new

-- no more than so many times an event is made happen for a side in a round
abbrev pub most : ℕ
most = 65536

-- ---- what a side puts out
-- a datagram, which comes at once to the other side, whether that takes it in or refuses it
pub record Carries (side : Side) (refused stopped : ℕ) (old new : World) : Type 0 where
  pub k : ℕ
  pub between : World
  pub told : Result Answer Refusal
  pub goes : Steps old (happen.Turn side) told between
  pub is_sent : datagram_in told ≡ Some k
  pub answer : Result Answer Refusal
  pub comes : Steps between (happen.Deliver (other side) k) answer new
  pub refusals : refused ≡ refusals_in answer
  pub stops : stopped ≡ stops_in answer

-- so many datagrams, of which so many are refused, and so many stopped
abbrev pub CarriesMany : Side → (sent refused stopped : ℕ) → World → World → Type 0
CarriesMany side zero refused stopped old new = (refused ≡ 0) × (stopped ≡ 0) × (new ≡ old)
CarriesMany side (suc n) refused stopped old new =
    (before before_stopped now now_stopped : ℕ) × (between : World) × CarriesMany side n before before_stopped old between × Carries side now now_stopped between new
    × (refused ≡ before + now) × (stopped ≡ before_stopped + now_stopped)

-- and then none, or it is cut short for want of memory
abbrev pub PutsNone : Side → (cut : ℕ) → World → World → Type 0
PutsNone side cut old new = (told : Result Answer Refusal) × Steps old (happen.Turn side) told new × (datagram_in told ≡ None) × (cut ≡ refusals_in told)

abbrev pub PutsAllOut : Side → (sent refused stopped cut : ℕ) → World → World → Type 0
PutsAllOut side sent refused stopped cut old new =
    (between : World) × CarriesMany side sent refused stopped old between × (PutsNone side cut between new ⊎ ((sent ≡ most) × (cut ≡ 1) × (new ≡ between)))

-- ---- what a user takes
pub record TakesOne (side : Side) (old new : World) : Type 0 where
  pub told : Result Answer Refusal
  pub takes : Steps old (happen.Take side) told new
  pub event : Event
  pub is_taken : event_in told ≡ Some event

abbrev pub TakesMany : Side → ℕ → World → World → Type 0
TakesMany side zero old new = new ≡ old
TakesMany side (suc n) old new = (between : World) × TakesMany side n old between × TakesOne side between new

abbrev pub TakesNone : Side → (cut : ℕ) → World → World → Type 0
TakesNone side cut old new = (told : Result Answer Refusal) × Steps old (happen.Take side) told new × (event_in told ≡ None) × (cut ≡ refusals_in told)

abbrev pub TakesAll : Side → (taken cut : ℕ) → World → World → Type 0
TakesAll side taken cut old new = (between : World) × TakesMany side taken old between × (TakesNone side cut between new ⊎ ((taken ≡ most) × (cut ≡ 1) × (new ≡ between)))

-- ---- rounds
-- both clocks go on by so many milliseconds; then A puts out all that it may, and then B; and then both users take all that there is
pub record Round (ms : ℕ) (told : Calm) (old new : World) : Type 0 where
  pub ticked_a : World
  pub ticks_a : Meets (happen.Tick A ms) old ticked_a
  pub ticked : World
  pub ticks_b : Meets (happen.Tick B ms) ticked_a ticked
  pub cut_forth : ℕ  -- whether each is cut short
  pub cut_back : ℕ
  pub cut_a : ℕ
  pub cut_b : ℕ
  pub sent_a : World
  pub forth : PutsAllOut A told.a.sent told.a.refused told.a.stopped cut_forth ticked sent_a
  pub sent : World
  pub back : PutsAllOut B told.b.sent told.b.refused told.b.stopped cut_back sent_a sent
  pub taken_a : World
  pub takes_a : TakesAll A told.a.taken cut_a sent taken_a
  pub takes_b : TakesAll B told.b.taken cut_b taken_a new
  pub all_a : told.a.cut_short ≡ cut_forth + cut_a
  pub all_b : told.b.cut_short ≡ cut_back + cut_b

abbrev pub no_share : Share
no_share = record { sent = 0; refused = 0; stopped = 0; taken = 0; cut_short = 0 }

-- the counts stop there
abbrev pub sum : ℕ → ℕ → ℕ
sum m n = min (m + n) 18446744073709551615

abbrev pub both : Share → Share → Share
both s t = record {
  sent = sum s.sent t.sent;
  refused = sum s.refused t.refused;
  stopped = sum s.stopped t.stopped;
  taken = sum s.taken t.taken;
  cut_short = sum s.cut_short t.cut_short;
}

-- all that a side put out was taken in, and nothing was cut short
abbrev pub is_smooth : Share → Bool
is_smooth s = s.refused == 0 && (s.stopped == 0 && s.cut_short == 0)

-- so many rounds
abbrev pub Rounds : ℕ → ℕ → Calm → World → World → Type 0
Rounds ms zero told old new = (told ≡ record { a = no_share; b = no_share }) × (new ≡ old)
Rounds ms (suc n) told old new =
    (before : Calm) × (now : Calm) × (between : World) × Rounds ms n before old between × Round ms now between new
    × (told ≡ record { a = both before.a now.a; b = both before.b now.b })
