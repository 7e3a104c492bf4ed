-- What one client takes of what another one submitted, through the relay.
use Rattle.std.specs.Prelude.{◌≡◌, ◌≢◌, ◌<◌, ℕ, List, [], ◌∷◌, ◌++◌, length, filter, flat_map, Bool, false, Option, Some, slice_get}
use Rattle.enet_codec.specs.declared.address.Addr.{Addr}
use Rattle.enet_codec.specs.declared.event.Event.{Event}
use Rattle.enet_codec.specs.declared.event.Event.TheVariants as events
use Rattle.enet_codec.specs.declared.event.PeerRef.{PeerRef}
use Rattle.enet_codec.specs.declared.packet.Packet.{Packet}
use Rattle.enet_bridge.specs.Ends.{orders}
use Rattle.enet_service.specs.Queues.{given}
use Rattle.enet_turn.specs.Run.{all_gave}
use Rattle.law_service.specs.Told.{packet_in}
use Rattle.law_headline.specs.Page.{User, IsHeadline, Follows, came, is_of}
use Rattle.law_service.specs.EndToEnd.{rounds_of, Running, user_of}
use Rattle.law_relay.specs.Relay.{Relaying, heard}

-- what an event brings
abbrev pub body_of : Event → List (List ℕ)
body_of (events.Receive p packet) = packet.body ∷ []
body_of e = []

-- from one of the packets on: each once and in order, and none that is flagged RELIABLE left out before the last
abbrev pub FollowsFrom : List Packet → List (List ℕ) → Type 0
FollowsFrom ps bs = (before : List Packet) × (rest : List Packet) × (ps ≡ before ++ rest) × Follows rest bs

-- a part of a list
abbrev pub IsFront : List Event → List Event → Type 0
IsFront xs ys = (rest : List Event) × (ys ≡ xs ++ rest)

-- What a client takes of the chat on channel 0 is what these events of the server brought, in order. Those of each client's connection, as far as they
-- came in sequence, follow from some packet on what that client submitted
pub record TakesChat (server : User) (clients : ℕ → User) (asked : List (ℕ × PeerRef)) (here : ℕ → Option PeerRef) (of_others : List Event) (got : List (List ℕ)) : Type 0 where
  pub chat : List Event
  pub front : IsFront chat of_others
  pub got_is : flat_map body_of chat ≡ got
  pub each : (y i : ℕ) (away p : PeerRef) → slice_get asked y ≡ Some (i, away) → here y ≡ Some p → FollowsFrom ((clients i).submitted away 0) (came 0 (filter (is_of p) chat))
  -- where no stranger is, all of it is of some client
  pub all : server.guests ≡ false → (p : PeerRef) → filter (is_of p) chat ≢ [] → (y : ℕ) × (here y ≡ Some p) × (y < length asked)

-- where no order for client j was refused
abbrev pub BetweenPairs : Type 0
BetweenPairs = (hosts : Addr → Bool) (server : Running) (l : Relaying server) (clients : ℕ → User) (asked : List (ℕ × PeerRef)) → (h : IsHeadline (user_of hosts server) clients asked)
    → (x j : ℕ) (there q : PeerRef) → slice_get asked x ≡ Some (j, there) → h.here x ≡ Some q
    → (user_of hosts server).submitted q 0 ≡ flat_map (packet_in q 0) (orders (given (all_gave (rounds_of server))))
    → TakesChat (user_of hosts server) clients asked h.here (heard q 0 [] l.expanded) (came 0 ((clients j).taken there))
