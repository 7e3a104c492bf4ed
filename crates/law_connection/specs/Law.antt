-- What holds of every connection, whatever happens to it.
use Rattle.std.specs.Prelude.{◌≡◌, ℕ, Bool, true, false, ◌≤◌, List, [], ◌∷◌, Option, Some, None}
use Rattle.enet_codec.specs.declared.command.Offer.{Offer}
use Rattle.law_connection.specs.Follows.{Follows}
use Rattle.law_connection.specs.LinkSteps.{bodies_of}
use Rattle.enet_peer.specs.declared.parts.Limits.{Limits}
use Rattle.enet_peer.specs.declared.parts.PeerEvent.{PeerEvent}
use Rattle.enet_peer.specs.declared.parts.PeerEvent.TheVariants as told
use Rattle.enet_peer.specs.Peering.{Peering}
use Rattle.law_connection.specs.Connection.{End, Connection, of_channel, packets_of, in_sequence}
use Rattle.law_connection.specs.Steps.{Side, Event, Runs, JoinedEnd, joined_pair, asking_pair}

-- the mtu by which an end's packets go
abbrev pub mtu_in : Option Peering → ℕ
mtu_in None = 0
mtu_in (Some p) = p.terms.mtu

abbrev pub mtu_of : End → ℕ
mtu_of e = mtu_in e.peer

-- what is added to an end's sent times
abbrev pub offset_in : Option Peering → ℕ
offset_in None = 0
offset_in (Some p) = p.offset

abbrev pub offset_of : End → ℕ
offset_of e = offset_in e.peer

-- what the user of one end took of a channel follows what the user of the other submitted on it
abbrev pub IsInOrder : End → End → Type 0
IsInOrder from to = (channel : ℕ) → Follows (mtu_of from) (of_channel (mtu_of from) channel from.submitted) (bodies_of (in_sequence channel (packets_of to.events)))

-- packets, then at most one Disconnect
abbrev pub AreLast : List PeerEvent → Type 0
AreLast [] = Unit {0}
AreLast (told.Connect info ∷ es) = ⊥
AreLast (told.Receive q ∷ es) = AreLast es
AreLast (told.Disconnect info ∷ es) = es ≡ []

-- at most one Connect, and only first; packets only after it, or from the start where the pair is joined; at most one Disconnect, and only last
abbrev pub IsOneLife : Bool → List PeerEvent → Type 0
IsOneLife true es = AreLast es
IsOneLife false [] = Unit {0}
IsOneLife false (told.Connect info ∷ es) = AreLast es
IsOneLife false (told.Receive q ∷ es) = ⊥
IsOneLife false (told.Disconnect info ∷ es) = es ≡ []

pub record IsLawful (joined : Bool) (c : Connection) : Type 0 where
  pub forth : IsInOrder c.one c.two
  pub back : IsInOrder c.two c.one
  pub life_one : IsOneLife joined c.one.events
  pub life_two : IsOneLife joined c.two.events

-- this holds after every run of a pair that is connected from the start, whose ends have mtus from 576 bytes on and at most 255 channels
abbrev pub OfEachJoined : (Connection → Type 0) → Type 0
OfEachJoined P = (one two : JoinedEnd) (events : List (Side × Event)) (c : Connection)
    → 576 ≤ one.terms.mtu → 576 ≤ two.terms.mtu → one.terms.channels ≤ 255 → two.terms.channels ≤ 255
    → Runs events (joined_pair one two) c → P c

-- this holds after every run of a client that asks and a host that knows nothing of it
abbrev pub OfEachAsking : (Connection → Type 0) → Type 0
OfEachAsking P = (now offset : ℕ) (offer : Offer) (limits : Limits) (events : List (Side × Event)) (c : Connection)
    → Runs events (asking_pair now offset offer limits) c → P c

-- the law of one connection
abbrev pub JoinedLaw : Type 0
JoinedLaw = OfEachJoined (IsLawful true)

abbrev pub AskingLaw : Type 0
AskingLaw = OfEachAsking (IsLawful false)
