-- What every peer keeps, whatever happens to it.
use Rattle.std.specs.Prelude.{◌≡◌, ℕ, true, List, [], ◌∷◌, Option, Some, is_some, slice_get}
use Rattle.enet_codec.specs.declared.command.Head.{Head}
use Rattle.enet_codec.specs.Message.{Message}
use Rattle.enet_senders.specs.declared.control.Control.TheVariants as control
use Rattle.enet_senders.specs.declared.control.Numbered.{Numbered}
use Rattle.enet_senders.specs.Controlling.{Commands}
use Rattle.enet_receiver.specs.Foresight.{ReceivingEnd}
use Rattle.enet_sender.specs.Due.{SendingEnd}
use Rattle.enet_outbox.specs.declared.parts.Acknowledgement.{Acknowledgement}
use Rattle.enet_outbox.specs.declared.parts.Unsequenced.{Unsequenced}
use Rattle.enet_peer.specs.declared.parts.PeerState.{PeerState}
use Rattle.enet_peer.specs.declared.parts.PeerState.TheVariants as state
use Rattle.enet_outbox.specs.Emission.{acknowledgement_of, filled}
use Rattle.enet_peer.specs.Peering.{Peering}
use Rattle.enet_peer.specs.Calls.{pace_of}

-- no packet is queued, and nothing is sent and unacknowledged
pub record IsStill (unsequenced : List Unsequenced) (control : Commands) (senders : List SendingEnd) : Type 0 where
  pub no_unsequenced : unsequenced ≡ []
  pub no_control_sent : control.sent ≡ []
  pub no_queued : (i : ℕ) (s : SendingEnd) → slice_get senders i ≡ Some s → s.sender.queued ≡ []
  pub no_sent : (i : ℕ) (s : SendingEnd) → slice_get senders i ≡ Some s → s.sender.sent ≡ []

-- so it is in the states in which the connection has ended for this end
abbrev pub IsStillIn : PeerState → List Unsequenced → Commands → List SendingEnd → Type 0
IsStillIn state.Free unsequenced control senders = IsStill unsequenced control senders
IsStillIn state.AckDisconnect unsequenced control senders = IsStill unsequenced control senders
IsStillIn state.Ended unsequenced control senders = IsStill unsequenced control senders
IsStillIn state.Parting unsequenced control senders = IsStill unsequenced control senders
IsStillIn _ unsequenced control senders = Unit {0}

-- what waits there to be put out, acknowledgements and commands of channel 0xFF: at least the acknowledgement of the DISCONNECT,
-- which came first; one unsequenced DISCONNECT; or nothing
abbrev pub WaitsIn : PeerState → List Acknowledgement → List Numbered → Type 0
WaitsIn state.AckDisconnect acknowledgements queued = (first : Acknowledgement) × (rest : List Acknowledgement) × (acknowledgements ≡ first ∷ rest) × (queued ≡ [])
WaitsIn state.Parting acknowledgements queued =
    (acknowledgements ≡ []) × (number info : ℕ) × (queued ≡ (record { number = number; control = control.DisconnectNow info }) ∷ [])
WaitsIn state.Free acknowledgements queued = (acknowledgements ≡ []) × (queued ≡ [])
WaitsIn state.Ended acknowledgements queued = (acknowledgements ≡ []) × (queued ≡ [])
WaitsIn _ acknowledgements queued = Unit {0}

-- what a peer holds for the other end, and the receivers of its channels
pub record Holdings : Type 0 where
  pub receivers : List ReceivingEnd
  pub acknowledgements : List Acknowledgement
  pub unsequenced : List Unsequenced
  pub control : Commands
  pub senders : List SendingEnd

abbrev pub holdings_of : Peering → Holdings
holdings_of p = record {
  receivers = p.inbox.receivers;
  acknowledgements = p.outbox.acknowledgements;
  unsequenced = p.outbox.unsequenced;
  control = p.outbox.control;
  senders = p.outbox.senders;
}

-- what a peer keeps, by its state and what it holds
pub record KeepsHoldings (state : PeerState) (has : Holdings) : Type 0 where
  pub still : IsStillIn state has.unsequenced has.control has.senders
  pub waits : WaitsIn state has.acknowledgements has.control.queued
  -- a sender's channel is its place
  pub places : (i : ℕ) (s : SendingEnd) → slice_get has.senders i ≡ Some s → s.channel ≡ i
  -- what was dispatched has been handed over
  pub handed_over : (i : ℕ) (r : ReceivingEnd) → slice_get has.receivers i ≡ Some r → r.receiver.dispatched ≡ []

-- a peer as it can be reached
abbrev pub IsReachable : Peering → Type 0
IsReachable p = KeepsHoldings p.state (holdings_of p)

-- a peer that is to acknowledge a DISCONNECT by this acknowledgement, which waits before all others
abbrev pub IsAnswering : Acknowledgement → Peering → Type 0
IsAnswering a p = (p.state ≡ state.AckDisconnect) × (rest : List Acknowledgement) × (p.outbox.acknowledgements ≡ a ∷ rest)

-- the acknowledgement of a command of a datagram that tells a sent time
abbrev pub answer_to : Head → ℕ → Acknowledgement
answer_to h time = record { channel = h.channel; number = h.number; time = time }

-- a datagram goes, which begins with this acknowledgement, and the connection has ended
pub record Answers (a : Acknowledgement) (now : ℕ) (len : Option ℕ) (old new : Peering) : Type 0 where
  pub goes : is_some len ≡ true
  pub more : List Message
  pub first : (filled (pace_of old now) old.outbox).messages ≡ acknowledgement_of a ∷ more
  pub ends : new.state ≡ state.Ended
