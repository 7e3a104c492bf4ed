-- The headline of two hosts, either of whose users may ask for a connection, said of their events and of the answers to them alone.
use Rattle.std.specs.Prelude.{◌≡◌, ◌≢◌, ◌≤◌, ℕ, ◌==◌, ◌&&◌, Bool, true, false, if◌then◌else◌, List, [], ◌∷◌, take, flat_map, Option, Some, Result, Ok, slice_get}
use Rattle.enet_codec.specs.declared.event.Event.{Event}
use Rattle.enet_codec.specs.declared.event.PeerRef.{PeerRef}
use Rattle.enet_codec.specs.declared.packet.Packet.{Packet}
use Rattle.enet_codec.specs.declared.refusal.Refusal.{Refusal}
use Rattle.law_network.specs.declared.event.Answer.{Answer}
use Rattle.law_network.specs.declared.event.Answer.TheVariants as answers
use Rattle.law_network.specs.declared.event.Side.{Side}
use Rattle.law_network.specs.declared.event.Side.TheVariants.{A, B}
use Rattle.law_network.specs.declared.event.WorldEvent.{WorldEvent}
use Rattle.law_network.specs.declared.event.WorldEvent.TheVariants as happen
use Rattle.law_network.specs.Network.{is_same_name}
use Rattle.law_network.specs.World.{other}
use Rattle.law_headline.specs.Page.{User, IsInOrder, is_of}

-- an event with what was answered to it
abbrev pub Happened : Type 0
Happened = WorldEvent × Result Answer Refusal

abbrev pub is_side : Side → Side → Bool
is_side A A = true
is_side B B = true
is_side _ _ = false

-- ---- what one event and its answer add
-- to the packets that the user of side s submitted to its peer p on a channel, and that were accepted
abbrev pub submits : Side → PeerRef → ℕ → WorldEvent → Result Answer Refusal → List Packet
submits s p channel (happen.Submit side q number flags body) (Ok answers.Done) =
    if is_side side s && (is_same_name p q && number == channel) then (record { channel = number; flags = flags; body = body }) ∷ [] else []
submits s p channel _ _ = []

-- to the events that the user of side s took of its peer p
abbrev pub takes : Side → PeerRef → WorldEvent → Result Answer Refusal → List Event
takes s p (happen.Take side) (Ok (answers.Taken (Some event))) = if is_side side s && is_of p event then event ∷ [] else []
takes s p _ _ = []

-- to the connections: whose user asked, and what it calls its peer
abbrev pub asks : WorldEvent → Result Answer Refusal → List (Side × PeerRef)
asks (happen.Connect side channels info word) (Ok (answers.Peer p)) = (side, p) ∷ []
asks _ _ = []

-- ---- the same of all
abbrev pub submitted : Side → PeerRef → ℕ → List Happened → List Packet
submitted s p channel hs = flat_map (λ h. submits s p channel h.0 h.1) hs

abbrev pub taken : Side → PeerRef → List Happened → List Event
taken s p hs = flat_map (λ h. takes s p h.0 h.1) hs

abbrev pub asked : List Happened → List (Side × PeerRef)
asked hs = flat_map (λ h. asks h.0 h.1) hs

-- the user of a side, where no stranger is
abbrev pub user : List Happened → Side → User
user hs s = record { submitted = λ p channel. submitted s p channel hs; taken = λ p. taken s p hs; guests = false }

-- the name of a connection's peer at a side: what its user was answered if it asked, else what that side calls it, if it knows it
abbrev pub named_at : Side → Side × PeerRef → Option PeerRef → Option PeerRef
named_at s a here = if is_side a.0 s then Some a.1 else here

-- the headline of two users; `asked` has, for each connection, whose user asked for it and what that calls its peer
pub record IsHeadline (users : Side → User) (asked : List (Side × PeerRef)) : Type 0 where
  pub here : ℕ → Option PeerRef  -- what the other side calls the peer of a connection, if it has one
  pub each : (x : ℕ) (s : Side) (there : PeerRef) → slice_get asked x ≡ Some (s, there) → IsInOrder (users s) (users (other s)) there (here x)
  -- no two connections share a name at a side
  pub apart : (x y : ℕ) (a b : Side × PeerRef) (s : Side) (p : PeerRef) → slice_get asked x ≡ Some a → slice_get asked y ≡ Some b
      → named_at s a (here x) ≡ Some p → named_at s b (here y) ≡ Some p → x ≡ y
  -- all that was taken is of these connections
  pub all : (s : Side) (p : PeerRef) → (users s).taken p ≢ [] → (x : ℕ) × (a : Side × PeerRef) × (slice_get asked x ≡ Some a) × (named_at s a (here x) ≡ Some p)

-- the headline
abbrev pub IsOnTranscript : List Happened → Type 0
IsOnTranscript hs = IsHeadline (user hs) (asked hs)

-- the same of each front of a list: so at each moment; and a connection keeps the name that the other side has for its peer
pub record IsOnEachFront (hs : List Happened) : Type 0 where
  pub front : (n : ℕ) → IsOnTranscript (take n hs)
  pub stays : (n m x : ℕ) (p : PeerRef) → n ≤ m → (front n).here x ≡ Some p → (front m).here x ≡ Some p
