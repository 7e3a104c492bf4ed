-- The names of hosts.
use Rattle.std.specs.Prelude.{ℕ, ◌+◌, ◌==◌, ◌-◌, ◌&&◌, nat_le, nat_lt, Bool, if◌then◌else◌, ◌^◌, List, [], ◌∷◌, ◌++◌, codes, bytes_eq, Option, Some, None, option_map}
use Rattle.std.specs.Option.{option_or}
use Rattle.std.specs.Fmt.{decimal}
use Rattle.enet_codec.specs.declared.address.Addr.{Addr}
use Rattle.enet_slot.specs.Receiving.{is_same_address}
use Rattle.law_network.specs.declared.event.Side.{Side}
use Rattle.law_network.specs.declared.event.Side.TheVariants.{A, B}
use Rattle.law_headline.specs.declared.node.Node.{Node}
use Rattle.law_headline.specs.declared.node.Node.TheVariants.{Server, Client}
use Rattle.enet_fleet.specs.Fleets.{address_of}
use Rattle.enet_text.specs.Words.{number_below}
use Rattle.enet_text.specs.Texts.{address_text}
use Rattle.enet_lab.specs.declared.host.Host.{Host}
use Rattle.enet_lab.specs.declared.host.Host.TheVariants.{OfWorld, OfFleet}
use Rattle.enet_lab.specs.declared.host.Recipient.{Recipient}
use Rattle.enet_lab.specs.declared.host.Recipient.TheVariants as recipient

-- A side of a world: `A` or `B`.
abbrev pub side_named : List ℕ → Option Side
side_named word = if bytes_eq word (codes "A") then Some A else (if bytes_eq word (codes "B") then Some B else None)

-- A client of a fleet: `C` and its number of 16 bits.
abbrev pub client_named : List ℕ → Option ℕ
client_named [] = None
client_named (letter ∷ digits) = if letter == 67 then number_below (2 ^ 16) digits else None

-- A host of a fleet: `S`, or a client.
abbrev pub node_named : List ℕ → Option Node
node_named word = if bytes_eq word (codes "S") then Some Server else option_map Client (client_named word)

-- A host of either: its name tells of which.
abbrev pub host_named : List ℕ → Option Host
host_named word = option_or (option_map OfWorld (side_named word)) (option_map OfFleet (node_named word))

-- These names written.
abbrev pub side_text : Side → List ℕ
side_text A = codes "A"
side_text B = codes "B"

abbrev pub node_text : Node → List ℕ
node_text Server = codes "S"
node_text (Client i) = codes "C" ++ decimal i

abbrev pub host_text : Host → List ℕ
host_text (OfWorld side) = side_text side
host_text (OfFleet node) = node_text node

-- Whether a client is at an address, in a fleet of so many: they are at one IP address, on ports one after another.
abbrev pub is_client : ℕ → Addr → Bool
is_client clients addr = addr.ip == 0x0A000002 && (nat_le 7002 addr.port && nat_lt addr.port (7002 + clients))

-- Whom a datagram goes to that was put out to this address, in a fleet of so many clients: the host that is there, or else a stranger.
abbrev pub recipient_at : ℕ → Addr → Recipient
recipient_at clients addr =
    if is_same_address addr (address_of Server) then recipient.Host Server
    else (if is_client clients addr then recipient.Host (Client (addr.port - 7002)) else recipient.Stranger addr)

abbrev pub recipient_text : Recipient → List ℕ
recipient_text (recipient.Host node) = node_text node
recipient_text (recipient.Stranger addr) = address_text addr

-- Where a recipient is.
abbrev pub address_to : Recipient → Addr
address_to (recipient.Host node) = address_of node
address_to (recipient.Stranger addr) = addr
