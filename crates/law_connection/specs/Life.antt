-- What keeps the events of an end in order. This is the invariant of one life.
use Rattle.std.specs.Prelude.{◌≡◌, ℕ, Bool, true, false, ◌⊎◌, List, [], ◌∷◌, Option, Some, None}
use Rattle.enet_senders.specs.declared.control.Numbered.{Numbered}
use Rattle.enet_senders.specs.Controlling.{is_reliable}
use Rattle.enet_sender.specs.Due.{SendingEnd}
use Rattle.enet_outbox.specs.Outbox.{Outbox}
use Rattle.enet_peer.specs.declared.parts.PeerEvent.{PeerEvent}
use Rattle.enet_peer.specs.declared.parts.PeerEvent.TheVariants as told
use Rattle.enet_peer.specs.declared.parts.PeerState.{PeerState}
use Rattle.enet_peer.specs.declared.parts.PeerState.TheVariants as state
use Rattle.enet_peer.specs.Peering.{Peering}
use Rattle.law_connection.specs.LinkSteps.{Has}
use Rattle.law_connection.specs.Connection.{End}
use Rattle.law_connection.specs.Law.{IsOneLife}

-- packets alone
abbrev pub ArePackets : List PeerEvent → Type 0
ArePackets [] = Unit {0}
ArePackets (told.Receive q ∷ es) = ArePackets es
ArePackets (_ ∷ es) = ⊥

-- the Connect event was taken, or there is none at a joined pair
abbrev pub HasBegun : Bool → List PeerEvent → Type 0
HasBegun true es = ArePackets es
HasBegun false (told.Connect info ∷ es) = ArePackets es
HasBegun false _ = ⊥

-- nothing was told, and nothing is to be
pub record IsUntold (events : List PeerEvent) (p : Peering) : Type 0 where
  pub none : events ≡ []
  pub greeting : p.greeting ≡ None
  pub untaken : p.inbox.untaken ≡ []

-- the Connect event waits, or is behind
abbrev pub IsUnderway : Bool → List PeerEvent → Peering → Type 0
IsUnderway joined events p = ((p.greeting ≡ None) × HasBegun joined events) ⊎ ((joined ≡ false) × (events ≡ []) × (info : ℕ) × (p.greeting ≡ Some info))

-- no command waits for its acknowledgement, so that no tick ends the peer once more, and what is queued of channel 0xFF is unreliable
pub record IsStill (o : Outbox) : Type 0 where
  pub control : o.control.sent ≡ []
  pub queued : (n : Numbered) → Has o.control.queued n → is_reliable n.control ≡ false
  pub senders : (s : SendingEnd) → Has o.senders s → (s.sender.queued ≡ []) × (s.sender.sent ≡ [])

-- nothing more is told
pub record IsOver (joined : Bool) (events : List PeerEvent) (p : Peering) : Type 0 where
  pub life : IsOneLife joined events
  pub greeting : p.greeting ≡ None
  pub untaken : p.inbox.untaken ≡ []
  pub still : IsStill p.outbox

abbrev pub LivesIn : PeerState → Bool → List PeerEvent → Peering → Type 0
LivesIn state.Connecting joined events p = (joined ≡ false) × IsUntold events p
LivesIn state.Answering joined events p = (joined ≡ false) × IsUntold events p
LivesIn state.Connected joined events p = IsUnderway joined events p
LivesIn state.DisconnectLater joined events p = IsUnderway joined events p
LivesIn state.Disconnecting joined events p = IsUnderway joined events p
LivesIn state.AckDisconnect joined events p = IsUnderway joined events p
LivesIn state.Ended joined events p = (IsUnderway joined events p ⊎ ((joined ≡ false) × IsUntold events p)) × IsStill p.outbox
LivesIn state.Parting joined events p = IsOver joined events p
LivesIn state.Free joined events p = IsOver joined events p

abbrev pub Lives : Bool → List PeerEvent → Peering → Type 0
Lives joined events p = LivesIn p.state joined events p

-- the life of an end, with a peer or without
abbrev pub LivesAt : Bool → List PeerEvent → Option Peering → Type 0
LivesAt joined events None = (joined ≡ false) × (events ≡ [])
LivesAt joined events (Some p) = Lives joined events p

abbrev pub LivesOn : Bool → End → Type 0
LivesOn joined e = LivesAt joined e.events e.peer
