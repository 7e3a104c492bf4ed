-- What is kept of a host, apart from the host itself.
use Rattle.std.specs.Prelude.{◌≡◌, ℕ, ◌<◌, List, Some, slice_get}
use Rattle.enet_codec.specs.declared.address.Addr.{Addr}
use Rattle.enet_codec.specs.declared.event.PeerRef.{PeerRef}
use Rattle.enet_codec.specs.declared.header.Header.{Header}
use Rattle.enet_peer.specs.Heading.{IsRead}
use Rattle.law_connection.specs.LinkSteps.{Has}
use Rattle.law_network.specs.declared.mark.Mark.{Mark}
use Rattle.law_network.specs.Log.{Logged, greatest_at}
use Rattle.law_network.specs.Marks.{Counts}
use Rattle.law_network.specs.Network.{HostEnd, with_end}

pub record Records : Type 0 where
  pub log : List Logged
  pub ends : List HostEnd

-- each of the greatest numbers is below a bound
abbrev pub AreBelow : ℕ → List ℕ → Type 0
AreBelow bound greatest = (channel : ℕ) → greatest_at greatest channel < bound

-- no two ends have one name
abbrev pub AreApart : List HostEnd → Type 0
AreApart ends = (i j : ℕ) (e f : HostEnd) → slice_get ends i ≡ Some e → slice_get ends j ≡ Some f → e.name ≡ f.name → i ≡ j

-- some end has this name
abbrev pub HasEnd : List HostEnd → PeerRef → Type 0
HasEnd ends name = (e : HostEnd) × Has ends e × (e.name ≡ name)

-- a datagram that a host gave: of the end of this name, to this address
pub record Given : Type 0 where
  pub name : PeerRef
  pub to : Addr
  pub text : List ℕ

-- it is to be logged: its commands are counted and marked; `far` has the greatest numbers that the other end of a connection sent
pub record Notes (far : ℕ → List ℕ) (given : Given) (old new : List HostEnd) (logged : Logged) : Type 0 where
  pub own : HostEnd
  pub there : Has old own
  pub named : own.name ≡ given.name
  pub header : Header
  pub commands : List ℕ
  pub read : IsRead given.text header commands
  pub greatest : List ℕ
  pub marks : List Mark
  pub counts : Counts given.text own.greatest greatest (far own.connection) marks
  pub is : logged ≡ record { connection = own.connection; to = given.to; peer = header.peer; text = given.text; marks = marks }
  pub ends : new ≡ with_end (λ (e : HostEnd). record e { greatest = greatest }) given.name old
