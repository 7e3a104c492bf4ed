-- What the relay's clients take where some orders were refused.
use Rattle.std.specs.Prelude.{◌≡◌, ◌≢◌, ℕ, ◌<◌, ◌%◌, ◌⊎◌, false, List, [], ◌∷◌, ◌++◌, length, map, filter, flat_map, Bool, Option, Some, None, slice_get}
use Rattle.enet_codec.specs.declared.address.Addr.{Addr}
use Rattle.enet_codec.specs.declared.event.Event.{Event}
use Rattle.enet_codec.specs.declared.event.PeerRef.{PeerRef}
use Rattle.enet_codec.specs.declared.packet.Packet.{Packet}
use Rattle.enet_codec.specs.declared.refusal.Refusal.{Refusal}
use Rattle.enet_service.specs.Queues.{given}
use Rattle.enet_turn.specs.Run.{all_gave}
use Rattle.law_service.specs.Told.{told, packet_in, submitted_in, Answered, refusal, is_refused, settled}
use Rattle.law_headline.specs.Page.{User, IsHeadline, came, is_of}
use Rattle.law_service.specs.EndToEnd.{rounds_of, Running, user_of}
use Rattle.law_relay.specs.Relay.{Relaying, heard, as_chat, chat_for}
use Rattle.law_relay.specs.Pairs.{body_of, FollowsFrom, IsFront}

-- The orders that a service was given, and why each was refused, if it was. What the host accepted is the packets of the others, and the
-- events that the service told name the refused ones by seat and number, in order
pub record Answers (r : Running) : Type 0 where
  pub answered : List Answered
  pub given_is : given (all_gave (rounds_of r)) ≡ map (λ w. w.0) answered
  pub accepted_is : (name : PeerRef) (channel : ℕ) → submitted_in r.calls name channel ≡ flat_map (settled name channel) answered
  pub refused_is : filter is_refused (told (rounds_of r) r.left.waiting) ≡ flat_map refusal answered

abbrev pub EachHasAnswers : Type 0
EachHasAnswers = (r : Running) → Answers r

-- a packet that was asked for, and why that was refused
pub record Asked : Type 0 where
  pub packet : Packet
  pub refused : Option Refusal

abbrev pub asked_as : Option Refusal → Packet → Asked
asked_as why packet = record { packet = packet; refused = why }

-- those for a peer on a channel
abbrev pub asked_by : PeerRef → ℕ → Answered → List Asked
asked_by q channel w = map (asked_as w.1) (packet_in q channel w.0.order)

abbrev pub all_asked : PeerRef → ℕ → List Answered → List Asked
all_asked q channel ws = flat_map (asked_by q channel) ws

-- each once and in order; before the last none is left out but what isn't flagged RELIABLE or was refused, and what was refused is left out
abbrev pub FollowsUnless : List Asked → List (List ℕ) → Type 0
FollowsUnless ms [] = Unit {0}
FollowsUnless [] (b ∷ bs) = ⊥
FollowsUnless (m ∷ ms) (b ∷ bs) = ((m.refused ≡ None) × (m.packet.body ≡ b) × FollowsUnless ms bs)
    ⊎ (((m.packet.flags % 2 ≡ 0) ⊎ ((why : Refusal) × (m.refused ≡ Some why))) × FollowsUnless ms (b ∷ bs))

-- what was asked for client j is a front of the chat for it, and what it takes follows that
pub record FollowsChat (r : Running) (l : Relaying r) (a : Answers r) (q : PeerRef) (channel : ℕ) (got : List (List ℕ)) : Type 0 where
  pub asked_is : map (λ m. m.packet) (all_asked q channel a.answered) ++ flat_map (packet_in q channel) l.waits ≡ chat_for q channel l.expanded
  pub follows : FollowsUnless (all_asked q channel a.answered) got

abbrev pub BetweenClientsUnless : Type 0
BetweenClientsUnless = (hosts : Addr → Bool) (server : Running) (l : Relaying server) (a : Answers server) (clients : ℕ → User) (asked : List (ℕ × PeerRef)) → (h : IsHeadline (user_of hosts server) clients asked)
    → (x j : ℕ) (there q : PeerRef) → slice_get asked x ≡ Some (j, there) → h.here x ≡ Some q → (channel : ℕ) → channel < 2 → FollowsChat server l a q channel (came channel ((clients j).taken there))

-- ---- pairs
-- an event whose packet was asked for a peer, and why that was refused
pub record Relayed : Type 0 where
  pub event : Event
  pub refused : Option Refusal

abbrev pub asks_of : ℕ → Relayed → List Asked
asks_of channel m = map (asked_as m.refused) (as_chat channel m.event)

abbrev pub unless_some : Option Refusal → List (List ℕ) → List (List ℕ)
unless_some None bs = bs
unless_some (Some why) bs = []

abbrev pub takes_of : Relayed → List (List ℕ)
takes_of m = unless_some m.refused (body_of m.event)

-- What client j takes on channel 0 is what these events brought, but for those whose order was refused. Those of each client's connection, as
-- far as they came in sequence, follow from some packet on what that client submitted
pub record TakesChatUnless (server : User) (clients : ℕ → User) (asked : List (ℕ × PeerRef)) (here : ℕ → Option PeerRef) (of_others : List Event) (asked_for : List Asked) (got : List (List ℕ)) : Type 0 where
  pub chat : List Relayed
  pub front : IsFront (map (λ m. m.event) chat) of_others
  pub answers : (rest : List Asked) × (asked_for ≡ flat_map (asks_of 0) chat ++ rest)
  pub got_is : flat_map takes_of chat ≡ got
  pub each : (y i : ℕ) (away p : PeerRef) → slice_get asked y ≡ Some (i, away) → here y ≡ Some p → FollowsFrom ((clients i).submitted away 0) (came 0 (filter (is_of p) (map (λ m. m.event) chat)))
  -- where no stranger is, all of it is of some client
  pub all : server.guests ≡ false → (p : PeerRef) → filter (is_of p) (map (λ m. m.event) chat) ≢ [] → (y : ℕ) × (here y ≡ Some p) × (y < length asked)

abbrev pub BetweenPairsUnless : Type 0
BetweenPairsUnless = (hosts : Addr → Bool) (server : Running) (l : Relaying server) (a : Answers server) (clients : ℕ → User) (asked : List (ℕ × PeerRef)) → (h : IsHeadline (user_of hosts server) clients asked)
    → (x j : ℕ) (there q : PeerRef) → slice_get asked x ≡ Some (j, there) → h.here x ≡ Some q
    → TakesChatUnless (user_of hosts server) clients asked h.here (heard q 0 [] l.expanded) (all_asked q 0 a.answered) (came 0 ((clients j).taken there))
