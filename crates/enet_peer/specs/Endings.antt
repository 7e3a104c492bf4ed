-- How a connection ends.
use Rattle.std.specs.Prelude.{ℕ, Bool, true, false, ◌&&◌, if◌then◌else◌, Some, None}
use Rattle.enet_senders.specs.declared.control.Control.TheVariants as control
use Rattle.enet_inbox.specs.Inbox.{forgotten}
use Rattle.enet_inbox.specs.Inbox as inbox
use Rattle.enet_outbox.specs.Outbox.{with_control, is_done}
use Rattle.enet_outbox.specs.Outbox as outbox
use Rattle.enet_peer.specs.declared.parts.Ending.{Ending}
use Rattle.enet_peer.specs.declared.parts.Ending.TheVariants.{AskedHere, AskedThere, TimedOut, NeverAnswered}
use Rattle.enet_peer.specs.declared.parts.PeerState.{PeerState}
use Rattle.enet_peer.specs.declared.parts.PeerState.TheVariants as state
use Rattle.enet_peer.specs.Peering.{Peering}

-- all that is undispatched, queued or sent is dropped, acknowledgements too
abbrev pub dropped : Peering → Peering
dropped p = record p { inbox = inbox.cleared p.inbox; outbox = outbox.cleared p.outbox }

-- the connection has ended for this reason, and the user is told this word
abbrev pub ended : Peering → Ending → ℕ → Peering
ended p why info = record (dropped p) { state = state.Ended; info = info; ending = Some why }

-- the user is told nothing more
abbrev pub silent : Peering → Peering
silent p = record (dropped p) { greeting = None; inbox = forgotten p.inbox }

-- there is no connection any more, and no event
abbrev pub freed : Peering → Peering
freed p = record (silent p) { state = state.Free }

-- a reliable DISCONNECT is queued
abbrev pub disconnecting : Peering → ℕ → Peering
disconnecting p info = record (dropped p) {
  state = state.Disconnecting;
  info = 0;
  outbox = with_control (outbox.cleared p.outbox) (control.Disconnect info);
}

-- one unsequenced DISCONNECT is queued, and the user is told nothing more
abbrev pub parting : Peering → ℕ → Peering
parting p info = record (silent p) {
  state = state.Parting;
  outbox = with_control (outbox.cleared p.outbox) (control.DisconnectNow info);
}

abbrev pub is_later : PeerState → Bool
is_later state.DisconnectLater = true
is_later _ = false

-- a peer that was to disconnect later does so once it is done
abbrev pub settled : Peering → Peering
settled p = if is_later p.state && is_done p.outbox then disconnecting p p.info else p

-- why the connection of a peer in this state ends once its patience is over
abbrev pub silence_ending : PeerState → Ending
silence_ending state.Connecting = NeverAnswered
silence_ending state.Disconnecting = AskedHere
silence_ending state.AckDisconnect = AskedThere
silence_ending _ = TimedOut

-- a peer whose patience is over: a server that waits for the client is free at once
abbrev pub cut_off_in : PeerState → Peering → Peering
cut_off_in state.Answering p = freed p
cut_off_in s p = ended p (silence_ending s) 0

abbrev pub cut_off : Peering → Peering
cut_off p = cut_off_in p.state p
