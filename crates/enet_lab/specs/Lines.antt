-- What a line of a script does to what the lines so far have made.
use Rattle.std.specs.Prelude.{◌≡◌, ◌⊎◌, ℕ, ◌+◌, ◌&&◌, Bool, true, false, List, [], codes, Option, Some, None, is_some, option_map, Result, Ok, Err, IfSome, length, replicate, slice_get}
use Rattle.enet_codec.specs.declared.address.Addr.{Addr}
use Rattle.enet_codec.specs.declared.config.Config.{Config}
use Rattle.enet_codec.specs.declared.refusal.Refusal.{Refusal}
use Rattle.enet_codec.specs.declared.refusal.Refusal.TheVariants.{Memory, BadConfig}
use Rattle.enet_codec.specs.declared.config.Admission.{Admission}
use Rattle.enet_codec.specs.declared.config.Admission.TheVariants.{GiveWay, Most, OfAddress}
use Rattle.enet_codec.specs.Config.{is_between, is_in_range, standard_config}
use Rattle.enet_codec.specs.Refusal.{label_of}
use Rattle.law_network.specs.declared.event.Answer.{Answer}
use Rattle.law_network.specs.declared.event.Answer.TheVariants.{Sent}
use Rattle.law_network.specs.declared.event.Side.{Side}
use Rattle.law_network.specs.declared.event.WorldEvent.{WorldEvent}
use Rattle.law_network.specs.declared.event.WorldEvent.TheVariants as world_event
use Rattle.law_network.specs.Log.{Logged}
use Rattle.law_network.specs.World.{World, site_of, side_of}
use Rattle.law_network.specs.World as world
use Rattle.enet_world.specs.Worlds.{Begun, begun, passed_by, passed_by_rounds}
use Rattle.enet_world.specs.Calm.{Rounds}
use Rattle.enet_world.specs.Needed.{rounds_needed}
use Rattle.enet_world.specs.Progress.{AreEnough}
use Rattle.enet_world.specs.declared.calm.Calm.{Calm}
use Rattle.enet_fleet.specs.declared.answer.Answer.{Answer as FleetAnswer}
use Rattle.enet_fleet.specs.declared.event.FleetEvent.{FleetEvent}
use Rattle.enet_fleet.specs.declared.event.FleetEvent.TheVariants as fleet_event
use Rattle.law_headline.specs.declared.node.Node.{Node}
use Rattle.enet_fleet.specs.Fleets.{Fleet, place_of, node_of, sent_by, open_fleet}
use Rattle.enet_fleet.specs.Fleets as fleet
use Rattle.enet_fleet.specs.Reached.{fit}
use Rattle.enet_lab.specs.declared.host.Host.TheVariants.{OfWorld, OfFleet}
use Rattle.enet_lab.specs.declared.line.Line.{Line}
use Rattle.enet_lab.specs.declared.line.Line.TheVariants as spelled
use Rattle.enet_lab.specs.Answers.{outcome_shown, outcome_text, calm_text, rounds_text}
use Rattle.enet_lab.specs.Hosts.{recipient_at}
use Rattle.enet_lab.specs.EnetLines.{spells}
use Rattle.enet_lab.specs.declared.stage.Stage.{Stage}
use Rattle.enet_lab.specs.declared.stage.Stage.TheVariants.{Empty, InWorld, InFleet, Refused}

-- The bytes of a datagram, where there is one.
abbrev pub bytes_in : Option Logged → List ℕ
bytes_in None = []
bytes_in (Some d) = d.text

-- The bytes of the datagram that an answer shows; none where it shows none.
abbrev pub bytes_shown : World → Side → Result Answer Refusal → List ℕ
bytes_shown w side (Ok (Sent (Some k))) = bytes_in (slice_get (site_of w side).log k)
bytes_shown w side _ = []

-- What is told of what came of an event in a world, once the world is so.
abbrev pub world_text : WorldEvent → Result Answer Refusal → Begun → List ℕ
world_text event outcome new = outcome_text (OfWorld (side_of event)) None (bytes_shown new.world (side_of event) outcome) outcome

abbrev pub WorldSteps : Begun → WorldEvent → Result Answer Refusal → Begun → Type 0
WorldSteps old event outcome new = world.Steps old.world event outcome new.world × (new.joined ≡ old.joined) × (new.passed ≡ passed_by event old.passed)

-- The datagram that an answer of a fleet shows: where it went, and its bytes.
abbrev pub sent_shown : Fleet → Node → Result Answer Refusal → Option (Addr × List ℕ)
sent_shown f node (Ok (Sent (Some k))) = sent_by (place_of f node) k
sent_shown f node _ = None

-- What is told in a fleet with so many clients of what came of an event at a host, with the datagram that the answer shows.
abbrev pub text_with : ℕ → Node → Option (Addr × List ℕ) → Result Answer Refusal → List ℕ
text_with clients node None outcome = outcome_text (OfFleet node) None [] outcome
text_with clients node (Some sent) outcome = outcome_text (OfFleet node) (Some (recipient_at clients sent.0)) sent.1 outcome

-- What is told of what came of an event in a fleet, once the fleet is so.
abbrev pub fleet_text : FleetEvent → Result Answer Refusal → Fleet → List ℕ
fleet_text event outcome new = text_with (length new.clients) (node_of event) (sent_shown new (node_of event) outcome) outcome

-- A step of a fleet, of whose answer that is shown.
abbrev pub FleetSteps : Fleet → FleetEvent → Result Answer Refusal → Fleet → Type 0
FleetSteps old event outcome new = (told : Result FleetAnswer Refusal) × fleet.Steps old event told new × (outcome ≡ outcome_shown told)

-- A network steps so, by an event of which that is told: the text of what is answered to it.
pub record StepsTo {N : Type 0} (Steps : Result Answer Refusal → N → Type 0) (told : Result Answer Refusal → N → List ℕ) (text : List ℕ) (new : N) : Type 0 where
  pub outcome : Result Answer Refusal
  pub steps : Steps outcome new
  pub text_is : text ≡ told outcome new

-- So many rounds without losses, of which that is told.
pub record StaysCalm (old : Begun) (rounds ms : ℕ) (text : List ℕ) (new : Begun) : Type 0 where
  pub told : Calm
  pub played : Rounds ms rounds told old.world new.world
  pub joined : new.joined ≡ old.joined
  pub passed : new.passed ≡ passed_by_rounds rounds ms old.passed
  pub text_is : text ≡ calm_text told

-- How many rounds are enough for a connection, of which that is told.
pub record TellsRounds (now : Begun) (connection ms : ℕ) (text : List ℕ) : Type 0 where
  pub needed : Option ℕ
  pub is : needed ≡ rounds_needed ms now connection
  pub enough : IfSome needed (λ rounds. AreEnough ms rounds now.world connection)
  pub text_is : text ≡ rounds_text needed

-- The network that a first line makes: E8 exactly where a number is out of its range, else memory may be wanting.
abbrev pub Makes : Bool → Stage → Result Stage Refusal → Type 0
Makes in_range fresh (Ok made) = (in_range ≡ true) × (made ≡ fresh)
Makes in_range fresh (Err BadConfig) = in_range ≡ false
Makes in_range fresh (Err why) = (in_range ≡ true) × (why ≡ Memory)

-- Two hosts that are connected from the start or not.
abbrev pub MakesWorld : Bool → Config → Config → Result Stage Refusal → Type 0
MakesWorld joined a b made = Makes (is_in_range a && is_in_range b) (InWorld (begun joined a b)) made

-- A server and so many clients.
abbrev pub MakesFleet : Config → List Config → Result Stage Refusal → Type 0
MakesFleet server clients made = Makes (fit server clients) (InFleet (open_fleet server clients)) made

-- A script begins with a network, or with the refusal of one.
abbrev pub Begins : Result Stage Refusal → Option (List ℕ) → Stage → Type 0
Begins (Ok made) text new = (text ≡ Some (codes "ok")) × (new ≡ made)
Begins (Err why) text new = (text ≡ Some (label_of why)) × (new ≡ Refused)

-- The line that comes first and once: it makes a network, or is answered by the refusal of one.
abbrev pub Opens : Stage → (Result Stage Refusal → Type 0) → Option (List ℕ) → Stage → Type 0
Opens Empty Made text new = (made : Result Stage Refusal) × Made made × Begins made text new
Opens old Made text new = ⊥

-- The number of the newest datagram: no datagram has the next number. Where there is none it is 0, which is refused.
pub record IsNewest (there : ℕ → Bool) (k : ℕ) : Type 0 where
  pub last : there (k + 1) ≡ false
  pub it : (there k ≡ true) ⊎ (k ≡ 0)

-- A side has put out a datagram of this number, or a host of a fleet has.
abbrev pub has_sent : World → Side → ℕ → Bool
has_sent w side k = is_some (slice_get (site_of w side).log k)

abbrev pub has_sent_from : Fleet → Node → ℕ → Bool
has_sent_from f from k = is_some (sent_by (place_of f from) k)

-- What a line does that can be read after those so far: the line that makes a network comes first and once, its events then, and
-- nothing where the first was refused.
abbrev pub Does : Stage → Line → Option (List ℕ) → Stage → Type 0
Does old spelled.PassedOver text new = (text ≡ None) × (new ≡ old)
Does old (spelled.Pair channels) text new = Opens old (MakesWorld true (standard_config 1 channels) (standard_config 1 channels)) text new
Does old (spelled.Open peers_a channels_a peers_b channels_b) text new =
    Opens old (MakesWorld false (standard_config peers_a channels_a) (standard_config peers_b channels_b)) text new
Does old (spelled.Fleet clients peers channels) text new =
    Opens old (MakesFleet (standard_config peers channels) (replicate clients (standard_config 1 channels))) text new
Does (InWorld old) (spelled.InWorld event) text new =
    (w : Begun) × (bytes : List ℕ) × StepsTo (WorldSteps old event) (world_text event) bytes w × (text ≡ Some bytes) × (new ≡ InWorld w)
Does old (spelled.InWorld event) text new = ⊥
Does (InWorld old) (spelled.Calm rounds ms) text new =
    (w : Begun) × (bytes : List ℕ) × StaysCalm old rounds ms bytes w × (text ≡ Some bytes) × (new ≡ InWorld w)
Does old (spelled.Calm rounds ms) text new = ⊥
Does (InWorld old) (spelled.RoundsNeeded connection ms) text new = (bytes : List ℕ) × TellsRounds old connection ms bytes × (text ≡ Some bytes) × (new ≡ InWorld old)
Does old (spelled.RoundsNeeded connection ms) text new = ⊥
Does (InFleet old) (spelled.InFleet event) text new =
    (f : Fleet) × (bytes : List ℕ) × StepsTo (FleetSteps old event) (fleet_text event) bytes f × (text ≡ Some bytes) × (new ≡ InFleet f)
Does old (spelled.InFleet event) text new = ⊥
Does (InWorld old) (spelled.DeliverLast side) text new =
    (k : ℕ) × (w : Begun) × (bytes : List ℕ) × IsNewest (has_sent old.world (world.other side)) k
    × StepsTo (WorldSteps old (world_event.Deliver side k)) (world_text (world_event.Deliver side k)) bytes w × (text ≡ Some bytes) × (new ≡ InWorld w)
Does old (spelled.DeliverLast side) text new = ⊥
Does (InFleet old) (spelled.DeliverLastFrom to from) text new =
    (k : ℕ) × (f : Fleet) × (bytes : List ℕ) × IsNewest (has_sent_from old from) k
    × StepsTo (FleetSteps old (fleet_event.Deliver to from k)) (fleet_text (fleet_event.Deliver to from k)) bytes f × (text ≡ Some bytes) × (new ≡ InFleet f)
Does old (spelled.DeliverLastFrom to from) text new = ⊥

-- Whether nothing was made yet.
abbrev pub is_empty : Stage → Bool
is_empty Empty = true
is_empty _ = false

-- Whether so many peers may be connected or leaving, or be of one address, at a host of so many slots.
abbrev pub may_be : Admission → ℕ → Bool
may_be GiveWay slots = true
may_be (Most peers) slots = is_between 1 slots peers
may_be (OfAddress peers) slots = is_between 1 slots peers

-- Whether what an event sets is in its range; a host that isn't there is refused by the fleet.
abbrev pub is_in_world : Begun → WorldEvent → Bool
is_in_world w (world_event.Admit side what) = may_be what (length (site_of w.world side).host.slots)
is_in_world w event = true

abbrev pub may_be_at : Admission → Option ℕ → Bool
may_be_at what None = true
may_be_at what (Some slots) = may_be what slots

abbrev pub is_in_fleet : Fleet → FleetEvent → Bool
is_in_fleet f (fleet_event.Admit node what) = may_be_at what (option_map (λ p. length p.site.host.slots) (place_of f node))
is_in_fleet f event = true

-- Whether a line can be read after those so far.
abbrev pub can_do : Stage → Line → Bool
can_do stage spelled.PassedOver = true
can_do (InWorld w) (spelled.InWorld event) = is_in_world w event
can_do stage (spelled.InWorld event) = false
can_do (InWorld w) (spelled.Calm rounds ms) = true
can_do stage (spelled.Calm rounds ms) = false
can_do (InWorld w) (spelled.RoundsNeeded connection ms) = true
can_do stage (spelled.RoundsNeeded connection ms) = false
can_do (InFleet f) (spelled.InFleet event) = is_in_fleet f event
can_do stage (spelled.InFleet event) = false
can_do (InWorld w) (spelled.DeliverLast side) = true
can_do stage (spelled.DeliverLast side) = false
can_do (InFleet f) (spelled.DeliverLastFrom to from) = true
can_do stage (spelled.DeliverLastFrom to from) = false
can_do stage line = is_empty stage

abbrev pub can_read_as : Stage → Option Line → Bool
can_read_as stage None = false
can_read_as stage (Some line) = can_do stage line

abbrev pub can_read : Stage → List ℕ → Bool
can_read stage line = can_read_as stage (spells line)

-- A line is run: it spells something, which is done.
abbrev pub RunsAs : Stage → Option Line → Option (List ℕ) → Stage → Type 0
RunsAs old None text new = ⊥
RunsAs old (Some line) text new = Does old line text new

abbrev pub RunsLine : Stage → List ℕ → Option (List ℕ) → Stage → Type 0
RunsLine old line text new = RunsAs old (spells line) text new
