-- What is noted of a wire's calls.
use Rattle.std.specs.Prelude.{ℕ, ◌==◌, Bool, not, if◌then◌else◌, List, [], ◌∷◌, Option, Some, None}
use Rattle.std.specs.declared.net.ip_addr.IpAddr.{IpAddr}
use Rattle.std.specs.declared.net.ip_addr.IpAddr.TheVariants.{V4, V6}
use Rattle.std.specs.declared.net.socket_addr.SocketAddr.{SocketAddr}
use Rattle.std.specs.Net.Addr.{ipv4_bits}
use Rattle.std.specs.Net.Socket.{socket_ip, socket_port}
use Rattle.enet_codec.specs.declared.address.Addr.{Addr}
use Rattle.enet_wire.specs.declared.told.Told.{Told}
use Rattle.enet_wire.specs.declared.told.Told.TheVariants.{Came, NothingCame, Went, Lost, Blocked, Waited}
use Rattle.enet_wire.specs.declared.journal.Note.{Note}
use Rattle.enet_wire.specs.declared.journal.Note.TheVariants as note

-- an IPv4 address and a port as the system has them
abbrev pub plain_of : IpAddr → SocketAddr → Option Addr
plain_of (V4 ip) there = Some (record { ip = ipv4_bits ip; port = socket_port there })
plain_of (V6 ip) there = None

abbrev pub plain : SocketAddr → Option Addr
plain there = plain_of (socket_ip there) there

-- whether something can be sent to a port
abbrev pub is_answerable : ℕ → Bool
is_answerable port = not (port == 0)

-- who sent a datagram, if it can be answered
abbrev pub sender : SocketAddr → Option Addr
sender there = if is_answerable (socket_port there) then plain there else None

-- what comes from port 0, or from an address of another kind, is passed over
abbrev came_from : Option Addr → List ℕ → List Told
came_from None bytes = []
came_from (Some from) bytes = Came from bytes ∷ []

abbrev went_to : Option Addr → List ℕ → List Told
went_to None bytes = []
went_to (Some to) bytes = Went to bytes ∷ []

-- as a wire tells it
abbrev pub told_by : Note → List Told
told_by (note.Came from bytes) = came_from (sender from) bytes.now
told_by (note.Went to bytes) = went_to (plain to) bytes.now
told_by (note.GaveOn from bytes) = Came from bytes.now ∷ []
told_by (note.TookOn to bytes) = Went to bytes.now ∷ []
told_by note.NothingCame = NothingCame ∷ []
told_by (note.Lost to bytes) = Lost to bytes.now ∷ []
told_by (note.Blocked to bytes) = Blocked to bytes.now ∷ []
told_by (note.Waited ms) = Waited ms ∷ []
