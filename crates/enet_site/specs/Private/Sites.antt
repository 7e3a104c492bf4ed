-- A host at its address, with what is kept of it.
use Rattle.std.specs.Prelude.{ℕ, Bool, true, false, List, [], ◌∷◌, Option, Some, None}
use Rattle.enet_codec.specs.declared.address.Addr.{Addr}
use Rattle.enet_codec.specs.declared.event.Event.{Event}
use Rattle.enet_codec.specs.declared.event.PeerRef.{PeerRef}
use Rattle.enet_host.specs.Host.{Host, Keeps}
use Rattle.enet_slot.specs.Giving.{no_address}
use Rattle.law_network.specs.Calls.{Call}
use Rattle.law_network.specs.Log.{Logged}
use Rattle.law_network.specs.Network.{HostEnd, Site, fresh_end}
use Rattle.law_network.specs.Steps.{Called, with_event}
use Rattle.enet_site.specs.Records.{Records}
use Rattle.enet_site.specs.Sites.{site}
use Rattle.enet_peer.specs.Peering.{Peering}
use Rattle.law_connection.specs.LinkSteps.{Has}
use Rattle.law_network.specs.Shown.{ShowsPeer}

-- of each end the host has the peer, or gave it up, so that nobody is called so any more
abbrev pub AreShown : Host → List HostEnd → Type 0
AreShown h ends = (e : HostEnd) → Has ends e → (p : Peering) × ShowsPeer h e.name p

-- what holds of each site
pub record IsWhole (h : Host) (ends : List HostEnd) : Type 0 where
  pub keeps : Keeps h
  pub shown : AreShown h ends

-- a host with these ends, and a datagram of a connection to a peer id: all that the test for earlier connections looks at
abbrev pub with_ends : Host → List HostEnd → Site
with_ends host ends = record { address = no_address; host = host; log = []; ends = ends }

abbrev pub unread : ℕ → Addr → ℕ → Logged
unread connection from peer = record { connection = connection; to = from; peer = peer; text = []; marks = [] }

-- a host and what is kept of its connections
pub record Recorded : Type 0 where
  pub host : Host
  pub records : Records

-- one call of a host of which this is kept, where there have been so many connections
abbrev pub CallsOn : ℕ → Call → Recorded → Recorded → Type 0
CallsOn next c old new = (address : Addr) → Called next c (site address old.host old.records) (site address new.host new.records)

-- what its user took is kept at an end
abbrev pub told : Option Event → HostEnd → HostEnd
told None e = e
told (Some event) e = with_event event e

-- the end of connection x that begins where the peer of this name answered
abbrev pub begun_if : Bool → ℕ → PeerRef → List HostEnd
begun_if true x name = fresh_end x name ∷ []
begun_if false x name = []
