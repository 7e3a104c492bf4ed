-- What the page refuses, where strangers are.
use Rattle.std.specs.Prelude.{◌≡◌, ◌≢◌, ◌<◌, ℕ, List, [], ◌∷◌, Some, None, Ok, slice_get}
use Rattle.enet_codec.specs.declared.address.Addr.{Addr}
use Rattle.enet_codec.specs.declared.event.Event.{Event}
use Rattle.enet_codec.specs.declared.event.Event.TheVariants as events
use Rattle.enet_codec.specs.declared.event.PeerRef.{PeerRef}
use Rattle.enet_codec.specs.declared.packet.Packet.{Packet}
use Rattle.law_headline.specs.declared.node.Node.{Node}
use Rattle.law_headline.specs.declared.node.Node.TheVariants.{Server, Client}
use Rattle.enet_fleet.specs.declared.answer.Answer.TheVariants as answers
use Rattle.enet_fleet.specs.declared.event.FleetEvent.TheVariants as happen
use Rattle.enet_fleet.specs.Fleets.{address_of}
use Rattle.enet_fleet.specs.Examples.{stranger}
use Rattle.enet_fleet.specs.Once.{AreTakenOnce}
use Rattle.enet_fleet.specs.Transcript.{Happened, IsOnTranscript, IsOnEachFront, asked, placed}

-- ---- of every list
-- where the server's user took an event of a peer at a client's address, some connection has that peer's name
abbrev pub NamesAreTied : Type 0
NamesAreTied = (clients : ℕ) (hs : List Happened) (h : IsOnTranscript clients hs) (p : PeerRef) (k i : ℕ) → i < clients → slice_get (placed Server p hs) k ≡ Some (address_of (Client i))
    → ((x : ℕ) → h.headline.here x ≡ None) → ⊥

-- no connection has the name of a peer that is told to be elsewhere than the client that asked for it
abbrev pub OwnNamesAlone : Type 0
OwnNamesAlone = (clients : ℕ) (hs : List Happened) (h : IsOnTranscript clients hs) (x i k : ℕ) (there p : PeerRef) (a : Addr) → slice_get (asked hs) x ≡ Some (i, there)
    → slice_get (placed Server p hs) k ≡ Some a → a ≢ address_of (Client i) → h.headline.here x ≢ Some p

-- ---- false lists
abbrev pub first : PeerRef
first = record { slot = 0; generation = 0 }

abbrev pub second : PeerRef
second = record { slot = 1; generation = 0 }

-- a client asks, and calls its peer so
abbrev pub asks : ℕ → PeerRef → Happened
asks client p = (happen.Connect client 1 0 9, Ok (answers.Peer p))

-- a byte is submitted, reliably
abbrev pub submits : Node → PeerRef → ℕ → Happened
submits n p byte = (happen.Submit n p 0 1 (byte ∷ []), Ok answers.Done)

-- an event is taken of a peer at an address: that it is connected, that it is gone, or a byte
abbrev pub takes : Node → Addr → Event → Happened
takes n a event = (happen.Take n, Ok (answers.Taken (Some (event, a))))

abbrev pub begins : Node → Addr → PeerRef → Happened
begins n a p = takes n a (events.Connect p 0)

abbrev pub ends : Node → Addr → PeerRef → Happened
ends n a p = takes n a (events.Disconnect p 0)

abbrev pub gets : Node → Addr → PeerRef → ℕ → Happened
gets n a p byte = takes n a (events.Receive p (record { channel = 0; flags = 1; body = byte ∷ [] }))

-- a byte that came unsequenced
abbrev pub gets_unsequenced : Node → Addr → PeerRef → ℕ → Happened
gets_unsequenced n a p byte = takes n a (events.Receive p (record { channel = 0; flags = 2; body = byte ∷ [] }))

-- a host takes a stranger's datagram in
abbrev pub intrudes : Node → Happened
intrudes n = (happen.Stranger n stranger [], Ok (answers.Received (record { handled = 1; stop = None })))

-- client 0 submits 1; a stranger is taken in; of its peer at client 0's address the server's user takes 2, 2, 3, and the end twice
abbrev pub lie : List Happened
lie = asks 0 first ∷ submits (Client 0) first 1 ∷ intrudes Server ∷ begins Server (address_of (Client 0)) first ∷ gets Server (address_of (Client 0)) first 2
    ∷ gets Server (address_of (Client 0)) first 2 ∷ gets Server (address_of (Client 0)) first 3 ∷ ends Server (address_of (Client 0)) first
    ∷ ends Server (address_of (Client 0)) first ∷ []

abbrev pub LieIsRefuted : Type 0
LieIsRefuted = IsOnTranscript 1 lie → ⊥

-- client 0 submits 1, client 1 submits 2; a stranger is taken in; of its peer at client 1's address the server's user takes 1
abbrev pub swap : List Happened
swap = asks 0 first ∷ asks 1 first ∷ submits (Client 0) first 1 ∷ submits (Client 1) first 2 ∷ intrudes Server ∷ begins Server (address_of (Client 1)) first
    ∷ gets Server (address_of (Client 1)) first 1 ∷ []

abbrev pub SwapIsRefuted : Type 0
SwapIsRefuted = IsOnTranscript 2 swap → ⊥

-- client 0 asks twice; the server's user submits 7 to a stranger's peer; of its second peer the client's user takes 7
abbrev pub loan : List Happened
loan = asks 0 first ∷ asks 0 second ∷ intrudes Server ∷ begins Server stranger first ∷ submits Server first 7 ∷ begins (Client 0) (address_of Server) second
    ∷ gets (Client 0) (address_of Server) second 7 ∷ []

abbrev pub LoanIsRefuted : Type 0
LoanIsRefuted = IsOnTranscript 1 loan → ⊥

-- a stranger is taken in; of its peer at client 0's address the server's user takes 1, and then client 0 submits it
abbrev pub early : List Happened
early = asks 0 first ∷ intrudes Server ∷ begins Server (address_of (Client 0)) first ∷ gets Server (address_of (Client 0)) first 1 ∷ submits (Client 0) first 1 ∷ []

abbrev pub EarlyIsRefuted : Type 0
EarlyIsRefuted = IsOnEachFront 1 early → ⊥

-- a stranger is taken in at client 0, and its user is told of a peer at client 1's address
abbrev pub astray : List Happened
astray = intrudes (Client 0) ∷ begins (Client 0) (address_of (Client 1)) first ∷ gets (Client 0) (address_of (Client 1)) first 1 ∷ []

abbrev pub AstrayIsRefuted : Type 0
AstrayIsRefuted = IsOnTranscript 2 astray → ⊥

-- a stranger is taken in, and the server's user is told of a peer at the server's own address
abbrev pub mirror : List Happened
mirror = intrudes Server ∷ begins Server (address_of Server) first ∷ gets Server (address_of Server) first 1 ∷ []

abbrev pub MirrorIsRefuted : Type 0
MirrorIsRefuted = IsOnTranscript 1 mirror → ⊥

-- client 0 submits 1, reliably; a stranger is taken in; of its peer at client 0's address the server's user takes 2, unsequenced
abbrev pub slip : List Happened
slip = asks 0 first ∷ submits (Client 0) first 1 ∷ intrudes Server ∷ begins Server (address_of (Client 0)) first ∷ gets_unsequenced Server (address_of (Client 0)) first 2 ∷ []

abbrev pub SlipIsRefuted : Type 0
SlipIsRefuted = IsOnTranscript 1 slip → ⊥

-- client 0 submits 1, and the server's user takes it; client 0 asks again, and submits 1 and 2 there, and 3 to its first peer; the server's user
-- takes 2 of its first peer, and 1 and 3 of its second
abbrev pub cross : List Happened
cross = asks 0 first ∷ submits (Client 0) first 1 ∷ intrudes Server ∷ begins Server (address_of (Client 0)) first ∷ gets Server (address_of (Client 0)) first 1
    ∷ asks 0 second ∷ submits (Client 0) second 1 ∷ submits (Client 0) second 2 ∷ submits (Client 0) first 3 ∷ gets Server (address_of (Client 0)) first 2
    ∷ begins Server (address_of (Client 0)) second ∷ gets Server (address_of (Client 0)) second 1 ∷ gets Server (address_of (Client 0)) second 3 ∷ []

abbrev pub CrossIsRefuted : Type 0
CrossIsRefuted = IsOnEachFront 1 cross → ⊥

-- client 0 submits 7 once, to go unsequenced; a stranger is taken in; of its peer at client 0's address the server's user takes 7 twice, unsequenced
-- and in order
abbrev pub double : List Happened
double = asks 0 first ∷ (happen.Submit (Client 0) first 0 2 (7 ∷ []), Ok answers.Done) ∷ intrudes Server ∷ begins Server (address_of (Client 0)) first
    ∷ gets_unsequenced Server (address_of (Client 0)) first 7 ∷ takes Server (address_of (Client 0)) (events.Receive first (record { channel = 0; flags = 0; body = 7 ∷ [] })) ∷ []

abbrev pub DoubleIsRefuted : Type 0
DoubleIsRefuted = IsOnTranscript 1 double → ⊥

-- ---- of packets that go unsequenced
-- of one that was submitted two are taken
abbrev pub TwiceIsRefuted : Type 0
TwiceIsRefuted = (submitted one other : Packet) → AreTakenOnce (submitted ∷ []) (one ∷ other ∷ []) → ⊥
