-- The headline, said of what users submitted and took, and of nothing else.
use Rattle.std.specs.Prelude.{◌≡◌, ◌≢◌, ◌<◌, ◌≤◌, ℕ, ◌%◌, ◌==◌, ◌&&◌, nat_le, not, ◌⊎◌, Bool, false, if◌then◌else◌, List, [], ◌∷◌, ◌++◌, filter, length, Option, Some, None, slice_get}
use Rattle.enet_codec.specs.declared.event.Event.{Event}
use Rattle.enet_codec.specs.declared.event.Event.TheVariants as events
use Rattle.enet_codec.specs.declared.event.PeerRef.{PeerRef}
use Rattle.enet_codec.specs.declared.packet.Packet.{Packet}
use Rattle.law_network.specs.Network.{is_same_name}

-- a subsequence of whole packets, each once, that leaves out none flagged RELIABLE (1) before its last
abbrev pub Follows : List Packet → List (List ℕ) → Type 0
Follows ps [] = Unit {0}
Follows [] (b ∷ bs) = ⊥
Follows (p ∷ ps) (b ∷ bs) = ((p.body ≡ b) × Follows ps bs) ⊎ ((p.flags % 2 ≡ 0) × Follows ps (b ∷ bs))

-- A packet goes unsequenced if it is flagged UNSEQUENCED (2), not RELIABLE (1), and fits one command, where that has room for so many bytes. Each
-- other packet goes in order
abbrev pub goes_unsequenced : ℕ → Packet → Bool
goes_unsequenced room p = p.flags % 4 == 2 && nat_le (length p.body) room

-- those that go in order
abbrev pub in_order : ℕ → List Packet → List Packet
in_order room ps = filter (λ p. not (goes_unsequenced room p)) ps

-- and the others
abbrev pub unsequenced : ℕ → List Packet → List Packet
unsequenced room ps = filter (goes_unsequenced room) ps

-- whether an event is of the peer of this name
abbrev pub is_of : PeerRef → Event → Bool
is_of name (events.Connect peer info) = is_same_name name peer
is_of name (events.Receive peer q) = is_same_name name peer
is_of name (events.Disconnect peer info) = is_same_name name peer
is_of name (events.Refused seat number why) = false

-- the packets of a channel among events, those that came unsequenced (flags 2) left out
abbrev pub came : ℕ → List Event → List (List ℕ)
came channel [] = []
came channel (events.Receive p q ∷ es) = if q.channel == channel && not (q.flags == 2) then q.body ∷ came channel es else came channel es
came channel (_ ∷ es) = came channel es

-- each packet of a channel among events that came unsequenced (flags 2) was submitted to go so (UNSEQUENCED, 2, without RELIABLE, 1), with its bytes
abbrev pub WereSubmitted : List Packet → ℕ → List Event → Type 0
WereSubmitted ps channel es = (k : ℕ) (p : PeerRef) (q : Packet) → slice_get es k ≡ Some (events.Receive p q) → q.channel ≡ channel → q.flags ≡ 2
    → (j : ℕ) × (s : Packet) × (slice_get ps j ≡ Some s) × (s.body ≡ q.body) × (s.flags % 4 ≡ 2)

-- packets, then at most one Disconnect
abbrev pub AreLast : List Event → Type 0
AreLast [] = Unit {0}
AreLast (events.Receive p q ∷ es) = AreLast es
AreLast (events.Disconnect p info ∷ es) = es ≡ []
AreLast (_ ∷ es) = ⊥

-- at most one Connect, and only first; packets only after it; at most one Disconnect, and only last
abbrev pub IsOneLife : List Event → Type 0
IsOneLife [] = Unit {0}
IsOneLife (events.Connect p info ∷ es) = AreLast es
IsOneLife (events.Disconnect p info ∷ es) = es ≡ []
IsOneLife (_ ∷ es) = ⊥

-- the user of a host: what it submitted to a peer on a channel and was accepted, the events that it took of a peer, and whether a stranger's
-- datagram was taken in there, by which a stranger may have a peer
pub record User : Type 0 where
  pub submitted : PeerRef → ℕ → List Packet
  pub taken : PeerRef → List Event
  pub guests : Bool

abbrev pub submitted_if : User → Option PeerRef → ℕ → List Packet
submitted_if u None channel = []
submitted_if u (Some p) channel = u.submitted p channel

abbrev pub taken_if : User → Option PeerRef → List Event
taken_if u None = []
taken_if u (Some p) = u.taken p

-- so many bytes of a packet a command may have room for
pub record IsRoom (room : ℕ) : Type 0 where
  pub least : 512 ≤ room
  pub most : room ≤ 4068

-- A connection whose peer the client calls `there` and the server, if it has one, `here`. Each packet goes one way: what was taken in order follows
-- those that go in order, and what was taken unsequenced is of those that go so
pub record IsInOrder (client server : User) (there : PeerRef) (here : Option PeerRef) : Type 0 where
  pub room_forth : ℕ
  pub room_back : ℕ
  pub is_room_forth : IsRoom room_forth
  pub is_room_back : IsRoom room_back
  pub forth : (channel : ℕ) → channel < 256 → Follows (in_order room_forth (client.submitted there channel)) (came channel (taken_if server here))
  pub back : (channel : ℕ) → channel < 256 → Follows (in_order room_back (submitted_if server here channel)) (came channel (client.taken there))
  pub unsequenced_forth : (channel : ℕ) → channel < 256 → WereSubmitted (unsequenced room_forth (client.submitted there channel)) channel (taken_if server here)
  pub unsequenced_back : (channel : ℕ) → channel < 256 → WereSubmitted (unsequenced room_back (submitted_if server here channel)) channel (client.taken there)
  pub client_life : IsOneLife (client.taken there)
  pub server_life : IsOneLife (taken_if server here)

-- the headline of a server and its clients; `asked` has, for each connection, which client asked for it and what it calls its peer
pub record IsHeadline (server : User) (clients : ℕ → User) (asked : List (ℕ × PeerRef)) : Type 0 where
  pub here : ℕ → Option PeerRef  -- what the server calls the peer of a connection, if it has one
  pub each : (x client : ℕ) (there : PeerRef) → slice_get asked x ≡ Some (client, there) → IsInOrder (clients client) server there (here x)
  -- no two connections share a name
  pub apart : (x y client : ℕ) (there : PeerRef) → slice_get asked x ≡ Some (client, there) → slice_get asked y ≡ Some (client, there) → x ≡ y
  pub apart_here : (x y : ℕ) (p : PeerRef) → here x ≡ Some p → here y ≡ Some p → x ≡ y
  -- where no stranger is, all that was taken is of these connections
  pub all_here : server.guests ≡ false → (p : PeerRef) → server.taken p ≢ [] → (x : ℕ) × (here x ≡ Some p) × (x < length asked)
  pub all_there : (client : ℕ) → (clients client).guests ≡ false → (p : PeerRef) → (clients client).taken p ≢ [] → (x : ℕ) × (slice_get asked x ≡ Some (client, p))

-- ---- users of whom less is known
-- a user that submitted more, or took less: game threads have submitted more than their service was given yet, and took less than it put
pub record IsBehind (u v : User) : Type 0 where
  pub more : (p : PeerRef) (channel : ℕ) → (rest : List Packet) × (v.submitted p channel ≡ u.submitted p channel ++ rest)
  pub fewer : (p : PeerRef) → (rest : List Event) × (u.taken p ≡ v.taken p ++ rest)
  pub same : v.guests ≡ u.guests

-- the headline holds of such users too
abbrev pub HoldsBehind : Type 0
HoldsBehind = (server later : User) (clients laters : ℕ → User) (asked : List (ℕ × PeerRef)) → IsBehind server later → ((i : ℕ) → IsBehind (clients i) (laters i))
    → IsHeadline server clients asked → IsHeadline later laters asked
