-- A list of a fleet's events that does happen, so that the law speaks of something.
use Rattle.std.specs.Prelude.{◌≡◌, true, List, [], ◌∷◌, ◌++◌, Some, Result, Ok, Err}
use Rattle.enet_codec.specs.declared.address.Addr.{Addr}
use Rattle.enet_codec.specs.declared.event.Event.TheVariants as events
use Rattle.enet_codec.specs.declared.refusal.Refusal.{Refusal}
use Rattle.enet_codec.specs.declared.refusal.Refusal.TheVariants.{NoSuchDatagram, NoSuchHost}
use Rattle.enet_codec.specs.declared.stop.Stop.TheVariants.{Short}
use Rattle.law_connection.specs.Examples.{example_packet}
use Rattle.law_connection.specs.Linked.{dispatches_in}
use Rattle.enet_slot.specs.Receiving.{stopped}
use Rattle.enet_host.specs.Receiving.{handled_one}
use Rattle.enet_fleet.specs.declared.answer.Answer.{Answer}
use Rattle.enet_fleet.specs.declared.answer.Answer.TheVariants as answers
use Rattle.law_network.specs.Examples.{example_config, first_name}
use Rattle.law_network.specs.Headline.{submitted_at, taken_at}
use Rattle.law_network.specs.Numbers.{Stands}
use Rattle.law_network.specs.Places.{Place}
use Rattle.enet_fleet.specs.declared.event.End.TheVariants as end
use Rattle.enet_fleet.specs.declared.event.FleetEvent.{FleetEvent}
use Rattle.enet_fleet.specs.declared.event.FleetEvent.TheVariants as happen
use Rattle.law_headline.specs.declared.node.Node.TheVariants.{Server, Client}
use Rattle.law_headline.specs.Delivered.{HasNothingLeft}
use Rattle.enet_fleet.specs.Fleets.{Fleet, address_of, client_of, Runs, open_fleet}
use Rattle.enet_fleet.specs.Headline.{end_at}

-- client 0 asks for a connection, with the connect id 9 and the word 3 for the server's user, and three datagrams come; both users are told
abbrev pub connecting : List FleetEvent
connecting = happen.Connect 0 1 3 9 ∷ happen.Turn (Client 0) ∷ happen.Deliver Server (Client 0) 0 ∷ happen.Turn Server ∷ happen.Deliver (Client 0) Server 0
    ∷ happen.Turn (Client 0) ∷ happen.Deliver Server (Client 0) 1 ∷ happen.Take (Client 0) ∷ happen.Take Server ∷ []

abbrev pub connected : List (Result Answer Refusal)
connected = Ok (answers.Peer first_name) ∷ Ok (answers.Sent (Some 0)) ∷ Ok (answers.Received handled_one) ∷ Ok (answers.Sent (Some 0)) ∷ Ok (answers.Received handled_one)
    ∷ Ok (answers.Sent (Some 1)) ∷ Ok (answers.Received handled_one) ∷ Ok (answers.Taken (Some (events.Connect first_name 0, address_of Server)))
    ∷ Ok (answers.Taken (Some (events.Connect first_name 3, address_of (Client 0)))) ∷ []

-- a reliable packet is submitted there, goes by the client's datagram 2, comes to the server and is taken; its acknowledgement goes by the
-- server's datagram 1 and comes to the client
abbrev pub crossing : List FleetEvent
crossing = happen.Submit (Client 0) first_name 0 example_packet.flags example_packet.body ∷ happen.Turn (Client 0) ∷ happen.Deliver Server (Client 0) 2 ∷ happen.Take Server
    ∷ happen.Turn Server ∷ happen.Deliver (Client 0) Server 1 ∷ []

abbrev pub crossed : List (Result Answer Refusal)
crossed = Ok answers.Done ∷ Ok (answers.Sent (Some 2)) ∷ Ok (answers.Received handled_one) ∷ Ok (answers.Taken (Some (events.Receive first_name example_packet, address_of (Client 0))))
    ∷ Ok (answers.Sent (Some 1)) ∷ Ok (answers.Received handled_one) ∷ []

abbrev pub stranger : Addr
stranger = record { ip = 0x0A000909; port = 5000 }

-- a stranger sends the server a datagram without a byte; one at client 1's address is refused, and so is that the packet comes to client 1
abbrev pub intruding : List FleetEvent
intruding = happen.Stranger Server stranger [] ∷ happen.Stranger Server (address_of (Client 1)) [] ∷ happen.Deliver (Client 1) (Client 0) 2 ∷ []

abbrev pub turned_away : List (Result Answer Refusal)
turned_away = Ok (answers.Received (stopped Short)) ∷ Err NoSuchHost ∷ Err NoSuchDatagram ∷ []

-- both ends of connection 0 stand, and the packet is in the lists of both; the client has nothing left to send, so `HasDelivered` speaks of
-- that packet
pub record HasCrossed (f : Fleet) : Type 0 where
  pub client : Place
  pub asked : client_of f 0 ≡ Some client
  pub one : Stands client.site 0
  pub two : Stands f.server.site 0
  pub submitted : submitted_at 0 (end_at f 0 end.Client) ≡ example_packet ∷ []
  pub taken : taken_at 0 (end_at f 0 end.Server) ≡ example_packet ∷ []
  pub left : HasNothingLeft one 0
  pub dispatches : dispatches_in two.peer.state ≡ true

-- from a server and two clients whose slots are free, with these answers
abbrev pub Crosses : Type 0
Crosses = (f : Fleet) × Runs (open_fleet example_config (example_config ∷ example_config ∷ [])) (connecting ++ crossing ++ intruding) (connected ++ crossed ++ turned_away) f × HasCrossed f
