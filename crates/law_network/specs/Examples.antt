-- Lists of a world's events that do happen, so that the laws speak of something.
use Rattle.std.specs.Prelude.{◌≡◌, ◌&&◌, ℕ, true, List, [], ◌∷◌, ◌++◌, Some, None, Result, Ok, false}
use Rattle.enet_codec.specs.declared.config.Config.{Config}
use Rattle.enet_codec.specs.Config.{is_in_range}
use Rattle.enet_codec.specs.declared.event.Event.TheVariants as events
use Rattle.enet_codec.specs.declared.event.PeerRef.{PeerRef}
use Rattle.enet_codec.specs.declared.refusal.Refusal.{Refusal}
use Rattle.law_connection.specs.Examples.{example_packet}
use Rattle.enet_host.specs.Receiving.{handled_one}
use Rattle.law_network.specs.declared.event.Answer.{Answer}
use Rattle.law_network.specs.declared.event.Answer.TheVariants as answers
use Rattle.law_network.specs.declared.event.Side.TheVariants.{A, B}
use Rattle.law_network.specs.declared.event.WorldEvent.{WorldEvent}
use Rattle.law_network.specs.declared.event.WorldEvent.TheVariants as happen
use Rattle.law_network.specs.Headline.{end_at, submitted_at, taken_at}
use Rattle.law_network.specs.Numbers.{Stands}
use Rattle.law_network.specs.World.{World, Runs, open_world, joined_world}

-- a host of one slot
abbrev pub example_config : Config
example_config = record { peers = 1; channels = 1; mtu = 576; incoming = 0; outgoing = 0; max_packet = 1000; max_waiting = 1000; generations = 1; clock = 0; secret = None; gives_way = false; most = None; of_address = None }

-- the first peer of such a host
abbrev pub first_name : PeerRef
first_name = record { slot = 0; generation = 0 }

-- B asks for a connection, with the connect id 9 and the word 3 for A's user, and three datagrams come; both users are told
abbrev pub connecting : List WorldEvent
connecting = happen.Connect B 1 3 9 ∷ happen.Turn B ∷ happen.Deliver A 0 ∷ happen.Turn A ∷ happen.Deliver B 0 ∷ happen.Turn B ∷ happen.Deliver A 1 ∷ happen.Take B ∷ happen.Take A ∷ []

abbrev pub connected : List (Result Answer Refusal)
connected = Ok (answers.Peer first_name) ∷ Ok (answers.Sent (Some 0)) ∷ Ok (answers.Received handled_one) ∷ Ok (answers.Sent (Some 0)) ∷ Ok (answers.Received handled_one)
    ∷ Ok (answers.Sent (Some 1)) ∷ Ok (answers.Received handled_one) ∷ Ok (answers.Taken (Some (events.Connect first_name 0))) ∷ Ok (answers.Taken (Some (events.Connect first_name 3))) ∷ []

-- a reliable packet is submitted at B, goes by its datagram k, comes to A and is taken there
abbrev pub crossing : ℕ → List WorldEvent
crossing k = happen.Submit B first_name 0 example_packet.flags example_packet.body ∷ happen.Turn B ∷ happen.Deliver A k ∷ happen.Take A ∷ []

abbrev pub crossed : ℕ → List (Result Answer Refusal)
crossed k = Ok answers.Done ∷ Ok (answers.Sent (Some k)) ∷ Ok (answers.Received handled_one) ∷ Ok (answers.Taken (Some (events.Receive first_name example_packet))) ∷ []

-- both ends of connection 0 stand, and the packet is in the lists of both
pub record HasCrossed (w : World) : Type 0 where
  pub one : Stands w.b 0
  pub two : Stands w.a 0
  pub submitted : submitted_at 0 (end_at w 0 B) ≡ example_packet ∷ []
  pub taken : taken_at 0 (end_at w 0 A) ≡ example_packet ∷ []

-- from two hosts whose slots are free, with these answers
abbrev pub CrossesOpened : Type 0
CrossesOpened = (w : World) × Runs (open_world example_config example_config) (connecting ++ crossing 2) (connected ++ crossed 2) w × HasCrossed w

-- and from two that have connection 0 from the start
abbrev pub CrossesJoined : Type 0
CrossesJoined = (w : World) × Runs (joined_world example_config example_config) (crossing 0) (crossed 0) w × HasCrossed w

-- the settings are in their ranges, as the laws ask
abbrev pub IsInRange : Type 0
IsInRange = (is_in_range example_config && is_in_range example_config) ≡ true
