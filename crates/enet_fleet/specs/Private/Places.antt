-- Whether a host of a fleet is at an address, by the address's numbers.
use Rattle.std.specs.Prelude.{ℕ, ◌+◌, ◌==◌, ◌&&◌, ◌||◌, nat_le, nat_lt, Bool}
use Rattle.enet_codec.specs.declared.address.Addr.{Addr}
use Rattle.enet_slot.specs.Receiving.{is_same_address}
use Rattle.law_headline.specs.declared.node.Node.TheVariants.{Server}
use Rattle.enet_fleet.specs.Fleets.{address_of}

-- whether a client is, where there are so many
abbrev pub is_client_by : ℕ → Addr → Bool
is_client_by clients a = a.ip == 0x0A000002 && (nat_le 7002 a.port && nat_lt a.port (7002 + clients))

abbrev pub is_host_by : ℕ → Addr → Bool
is_host_by clients a = is_same_address a (address_of Server) || is_client_by clients a
