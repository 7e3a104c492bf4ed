-- The headline of a fleet, said of its events and of the answers to them alone.
use Rattle.std.specs.Prelude.{◌≡◌, ◌≢◌, ◌<◌, ◌≤◌, ℕ, ◌==◌, ◌&&◌, Bool, true, false, if◌then◌else◌, List, [], ◌∷◌, take, flat_map, Some, Result, Ok, slice_get}
use Rattle.std.specs.List.{list_any}
use Rattle.enet_codec.specs.declared.address.Addr.{Addr}
use Rattle.enet_codec.specs.declared.event.Event.{Event}
use Rattle.enet_codec.specs.declared.event.PeerRef.{PeerRef}
use Rattle.enet_codec.specs.declared.packet.Packet.{Packet}
use Rattle.enet_codec.specs.declared.refusal.Refusal.{Refusal}
use Rattle.enet_fleet.specs.declared.answer.Answer.{Answer}
use Rattle.enet_fleet.specs.declared.answer.Answer.TheVariants as answers
use Rattle.law_headline.specs.declared.node.Node.{Node}
use Rattle.law_headline.specs.declared.node.Node.TheVariants.{Server, Client}
use Rattle.enet_fleet.specs.declared.event.FleetEvent.{FleetEvent}
use Rattle.enet_fleet.specs.declared.event.FleetEvent.TheVariants as happen
use Rattle.enet_fleet.specs.Fleets.{address_of}
use Rattle.law_headline.specs.Page.{User, IsHeadline, is_of}
use Rattle.law_network.specs.Network.{is_same_name}

-- an event with what was answered to it
abbrev pub Happened : Type 0
Happened = FleetEvent × Result Answer Refusal

-- ---- who is meant
abbrev pub is_node : Node → Node → Bool
is_node Server Server = true
is_node (Client i) (Client k) = i == k
is_node _ _ = false

-- ---- what one event and its answer add
-- to the packets that the user of host n submitted to its peer p on a channel, and that were accepted
abbrev pub submits : Node → PeerRef → ℕ → FleetEvent → Result Answer Refusal → List Packet
submits n p channel (happen.Submit m q number flags body) (Ok answers.Done) =
    if is_node m n && (is_same_name p q && number == channel) then (record { channel = number; flags = flags; body = body }) ∷ [] else []
submits n p channel _ _ = []

-- to the events that the user of host n took of its peer p
abbrev pub takes : Node → PeerRef → FleetEvent → Result Answer Refusal → List Event
takes n p (happen.Take m) (Ok (answers.Taken (Some told))) = if is_node m n && is_of p told.0 then told.0 ∷ [] else []
takes n p _ _ = []

-- to the addresses where host n was told to have its peer p
abbrev pub places : Node → PeerRef → FleetEvent → Result Answer Refusal → List Addr
places n p (happen.Take m) (Ok (answers.Taken (Some told))) = if is_node m n && is_of p told.0 then told.1 ∷ [] else []
places n p _ _ = []

-- to the connections: which client asked, and what it calls its peer
abbrev pub asks : FleetEvent → Result Answer Refusal → List (ℕ × PeerRef)
asks (happen.Connect client channels info word) (Ok (answers.Peer p)) = (client, p) ∷ []
asks _ _ = []

-- ---- the same of all
abbrev pub submitted : Node → PeerRef → ℕ → List Happened → List Packet
submitted n p channel hs = flat_map (λ h. submits n p channel h.0 h.1) hs

abbrev pub taken : Node → PeerRef → List Happened → List Event
taken n p hs = flat_map (λ h. takes n p h.0 h.1) hs

abbrev pub placed : Node → PeerRef → List Happened → List Addr
placed n p hs = flat_map (λ h. places n p h.0 h.1) hs

abbrev pub asked : List Happened → List (ℕ × PeerRef)
asked hs = flat_map (λ h. asks h.0 h.1) hs

-- whether a stranger's datagram was taken in at host n
abbrev pub brings_guest : Node → FleetEvent → Result Answer Refusal → Bool
brings_guest n (happen.Stranger m addr bytes) (Ok (answers.Received answer)) = is_node m n && answer.handled == 1
brings_guest n _ _ = false

abbrev pub guests : Node → List Happened → Bool
guests n hs = list_any (λ h. brings_guest n h.0 h.1) hs

-- ---- the users of the hosts
abbrev pub user : Node → List Happened → User
user n hs = record { submitted = λ p channel. submitted n p channel hs; taken = λ p. taken n p hs; guests = guests n hs }

-- the headline of so many clients, with names that are tied to addresses
pub record IsOnTranscript (clients : ℕ) (hs : List Happened) : Type 0 where
  pub headline : IsHeadline (user Server hs) (λ i. user (Client i) hs) (asked hs)
  -- whoever the server's user is told to have at a client's address, and a client's at the server's, is the peer of a connection between them
  pub at_client : (p : PeerRef) (k i : ℕ) → slice_get (placed Server p hs) k ≡ Some (address_of (Client i)) → i < clients
      → (x : ℕ) × (headline.here x ≡ Some p) × (there : PeerRef) × (slice_get (asked hs) x ≡ Some (i, there))
  pub at_server : (p : PeerRef) (k i : ℕ) → slice_get (placed (Client i) p hs) k ≡ Some (address_of Server) → (x : ℕ) × (slice_get (asked hs) x ≡ Some (i, p))
  -- the peer of a connection is told to be nowhere else
  pub here_at : (x i k : ℕ) (there p : PeerRef) (a : Addr) → slice_get (asked hs) x ≡ Some (i, there) → headline.here x ≡ Some p
      → slice_get (placed Server p hs) k ≡ Some a → a ≡ address_of (Client i)
  pub there_at : (x i k : ℕ) (there : PeerRef) (a : Addr) → slice_get (asked hs) x ≡ Some (i, there) → slice_get (placed (Client i) there hs) k ≡ Some a
      → a ≡ address_of Server
  -- and nobody is told to be at the address of the server, to its own user, or of a client, to a client's
  pub no_server : (p : PeerRef) (k : ℕ) → slice_get (placed Server p hs) k ≢ Some (address_of Server)
  pub no_client : (p : PeerRef) (k i j : ℕ) → j < clients → slice_get (placed (Client i) p hs) k ≢ Some (address_of (Client j))

-- the same of each front of a list: so at each moment; and a connection keeps the name that the server has for its peer
pub record IsOnEachFront (clients : ℕ) (hs : List Happened) : Type 0 where
  pub front : (n : ℕ) → IsOnTranscript clients (take n hs)
  pub stays : (n m x : ℕ) (p : PeerRef) → n ≤ m → (front n).headline.here x ≡ Some p → (front m).headline.here x ≡ Some p
