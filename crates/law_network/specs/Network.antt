-- Hosts with a network between them: what is kept of each host, and of each end of a connection.
use Rattle.std.specs.Prelude.{ℕ, ◌==◌, ◌&&◌, not, Bool, true, false, if◌then◌else◌, List, [], ◌∷◌, map, Option, Some, None}
use Rattle.std.specs.List.{list_any}
use Rattle.enet_codec.specs.declared.address.Addr.{Addr}
use Rattle.enet_codec.specs.declared.event.Event.{Event}
use Rattle.enet_codec.specs.declared.event.PeerRef.{PeerRef}
use Rattle.enet_codec.specs.declared.refusal.Refusal.{Refusal}
use Rattle.enet_codec.specs.declared.refusal.Refusal.TheVariants.{NoSuchDatagram, Late, Earlier}
use Rattle.enet_peer.specs.Peering.{Peering}
use Rattle.enet_slot.specs.Receiving.{is_same_address, no_peer, is_deaf}
use Rattle.enet_host.specs.Host.{Host, named}
use Rattle.enet_host.specs.Calls.{address_named}
use Rattle.law_network.specs.Lateness.{has_late}
use Rattle.law_network.specs.Log.{Logged, ChannelPackets, greatest_at, fresh_channels, fresh_greatest}

-- one end of a connection, at a host
pub record HostEnd : Type 0 where
  pub connection : ℕ  -- the connection's number
  pub name : PeerRef  -- what the host calls its peer
  pub mtu : ℕ  -- the mtu of its peer when its user last submitted a packet, in bytes; 0 before
  pub greatest : List ℕ  -- the greatest number sent on each of the 256 channel numbers
  pub channels : List ChannelPackets  -- what is kept of each of them
  pub events : List Event  -- what its user took

-- a host at its address, all that it put out, and its ends of connections, the earliest first
pub record Site : Type 0 where
  pub address : Addr
  pub host : Host
  pub log : List Logged
  pub ends : List HostEnd

-- an end where nothing has happened
abbrev pub fresh_end : ℕ → PeerRef → HostEnd
fresh_end x name = record { connection = x; name = name; mtu = 0; greatest = fresh_greatest; channels = fresh_channels; events = [] }

abbrev pub is_same_name : PeerRef → PeerRef → Bool
is_same_name a b = a.slot == b.slot && a.generation == b.generation

-- the ends of a host with the one that a name means as a function of it gives
abbrev pub with_end : (HostEnd → HostEnd) → PeerRef → List HostEnd → List HostEnd
with_end change name ends = map (λ (e : HostEnd). if is_same_name e.name name then change e else e) ends

-- the end of connection x among those of a host, if it has one
abbrev pub end_of : ℕ → List HostEnd → Option HostEnd
end_of x [] = None
end_of x (e ∷ es) = if e.connection == x then Some e else end_of x es

abbrev pub numbers_in : Option HostEnd → List ℕ
numbers_in None = []
numbers_in (Some e) = e.greatest

-- the greatest numbers that a host sent of connection x
abbrev pub numbers_of : Site → ℕ → List ℕ
numbers_of s x = numbers_in (end_of x s.ends)

-- an end has ended its connection once its peer has Ended, is Parting or gone
abbrev pub is_over : Option Peering → Bool
is_over None = true
is_over (Some p) = is_deaf p.state

abbrev pub has_ended : Site → ℕ → Bool
has_ended s x = list_any (λ (e : HostEnd). e.connection == x && is_over (named s.host.slots e.name)) s.ends

-- whether a peer stands there, at this address
abbrev pub is_at : Addr → Option Addr → Bool
is_at from None = false
is_at from (Some a) = is_same_address a from

-- whether slot i of a host holds another connection than x with the host at this address
abbrev pub holds_another : Site → Addr → ℕ → ℕ → Bool
holds_another s from i x =
    list_any (λ (e : HostEnd). e.name.slot == i && not (e.connection == x) && is_at from (address_named s.host.slots e.name)) s.ends

-- whether a datagram that a host at this address put out comes from an earlier connection: it is a CONNECT of a connection that the taking end
-- has ended, or the slot that it addresses holds another connection with its sender
abbrev pub is_earlier : Site → Addr → Logged → Bool
is_earlier s from d = if d.peer == no_peer then has_ended s d.connection else holds_another s from d.peer d.connection

-- whether it comes too late: a command of it is more than 32,768 late
abbrev pub is_late : Site → Site → Logged → Bool
is_late from to d = has_late (greatest_at (numbers_of from d.connection)) (greatest_at (numbers_of to d.connection)) d.marks

-- the first refusal but want of memory that a datagram of one host meets at another
abbrev pub delivery_refusal : Site → Site → Option Logged → Option Refusal
delivery_refusal from to None = Some NoSuchDatagram
delivery_refusal from to (Some d) = if is_earlier to from.address d then Some Earlier else (if is_late from to d then Some Late else None)
