-- What one client takes on channel 1 of what another one submitted, through the relay: there it goes unreliably, so that some may be missing.
use Rattle.std.specs.Prelude.{◌≡◌, ◌≢◌, ◌<◌, ℕ, List, [], length, map, filter, flat_map, Bool, false, Option, Some, slice_get}
use Rattle.enet_codec.specs.declared.address.Addr.{Addr}
use Rattle.enet_codec.specs.declared.event.Event.{Event}
use Rattle.enet_codec.specs.declared.event.PeerRef.{PeerRef}
use Rattle.law_headline.specs.Page.{User, IsHeadline, came, is_of}
use Rattle.law_service.specs.EndToEnd.{Running, user_of}
use Rattle.law_relay.specs.Relay.{Relaying, heard, IsPart}
use Rattle.law_relay.specs.Pairs.{body_of}

-- What a client takes there is what some of these events of the server brought, whole, each once and in order. Those of each client's connection,
-- as far as they came in sequence, are some of what that client submitted there, whole, each once and in order
pub record TakesSome (server : User) (clients : ℕ → User) (asked : List (ℕ × PeerRef)) (here : ℕ → Option PeerRef) (of_others : List Event) (got : List (List ℕ)) : Type 0 where
  pub chat : List Event
  pub part : IsPart chat of_others
  pub got_is : flat_map body_of chat ≡ got
  pub each : (y i : ℕ) (away p : PeerRef) → slice_get asked y ≡ Some (i, away) → here y ≡ Some p
      → IsPart (came 1 (filter (is_of p) chat)) (map (λ packet. packet.body) ((clients i).submitted away 1))
  -- where no stranger is, all of it is of some client
  pub all : server.guests ≡ false → (p : PeerRef) → filter (is_of p) chat ≢ [] → (y : ℕ) × (here y ≡ Some p) × (y < length asked)

-- whatever orders were refused
abbrev pub BetweenPairsOnOne : Type 0
BetweenPairsOnOne = (hosts : Addr → Bool) (server : Running) (l : Relaying server) (clients : ℕ → User) (asked : List (ℕ × PeerRef)) → (h : IsHeadline (user_of hosts server) clients asked)
    → (x j : ℕ) (there q : PeerRef) → slice_get asked x ≡ Some (j, there) → h.here x ≡ Some q
    → TakesSome (user_of hosts server) clients asked h.here (heard q 1 [] l.expanded) (came 1 ((clients j).taken there))
