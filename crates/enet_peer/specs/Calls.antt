-- What the user's calls and the clock make of a peer.
use Rattle.std.specs.Prelude.{◌≡◌, ℕ, ◌&&◌, ◌||◌, not, Bool, true, false, nat_lt, nat_le, max, min, if◌then◌else◌, Option, Some, None, Result, Ok, Err, List, [], ◌∷◌, length}
use Rattle.enet_codec.specs.declared.refusal.Refusal.{Refusal}
use Rattle.enet_codec.specs.declared.refusal.Refusal.TheVariants.{NotConnected, NoSuchChannel, TooLarge, Memory}
use Rattle.enet_codec.specs.declared.packet.Packet as codec
use Rattle.enet_rtt.specs.Clock.{elapsed_time}
use Rattle.enet_rtt.specs.Timing.{timeout}
use Rattle.enet_rtt.specs.declared.transmission.Tick.{Tick}
use Rattle.enet_rtt.specs.Expiry.{patience_with_defaults, or_default_number}
use Rattle.enet_rtt.specs.declared.expiry.Expiry.{Expiry}
use Rattle.enet_rtt.specs.declared.expiry.Expiry.TheVariants.{No, Resend, End}
use Rattle.enet_throttle.specs.Throttle.{with_interval, limited}
use Rattle.enet_senders.specs.declared.control.Control.TheVariants as control
use Rattle.enet_senders.specs.Controlling.{is_idle}
use Rattle.enet_fragment.specs.Cutting.{piece_count}
use Rattle.enet_sender.specs.CommandChoice.{Packet, fragment_limit}
use Rattle.enet_outbox.specs.declared.parts.Pace.{Pace}
use Rattle.enet_outbox.specs.declared.parts.Destination.{Destination}
use Rattle.enet_outbox.specs.Outbox.{has_nothing_reliable, with_control, has_late, has_waited, lateness, marked}
use Rattle.enet_outbox.specs.Outbox as outbox
use Rattle.enet_outbox.specs.Emission.{filled, Emits}
use Rattle.enet_peer.specs.declared.parts.Ending.TheVariants.{AskedThere}
use Rattle.enet_peer.specs.declared.parts.PeerState.{PeerState}
use Rattle.enet_peer.specs.declared.parts.PeerState.TheVariants as state
use Rattle.enet_peer.specs.declared.parts.PeerEvent.{PeerEvent}
use Rattle.enet_peer.specs.declared.parts.PeerEvent.TheVariants as event
use Rattle.enet_peer.specs.Peering.{Peering}
use Rattle.enet_peer.specs.Endings.{ended, freed, disconnecting, parting, settled, cut_off}

abbrev pub is_connected : PeerState → Bool
is_connected state.Connected = true
is_connected _ = false

abbrev pub is_answering : PeerState → Bool
is_answering state.Answering = true
is_answering _ = false

-- the first refusal but want of memory that a submission meets
abbrev pub submission_refusal : Peering → ℕ → ℕ → Option Refusal
submission_refusal p channel len =
    if not (is_connected p.state) then Some NotConnected
    else (if nat_le (length p.outbox.senders) channel then Some NoSuchChannel
    else (if nat_lt p.limits.max_packet len || nat_lt fragment_limit (piece_count len p.terms.mtu) then Some TooLarge
    else None))

-- a packet is submitted
abbrev pub submitted : Peering → ℕ → Packet → Peering
submitted p channel q = record p { outbox = outbox.submitted p.outbox p.terms.mtu channel q }

-- a call's answer with the body that it left where it was given: a refusal hands that back
abbrev pub handed_back : {T : Type 0} → Result T Refusal → List ℕ → Result T (Refusal × List ℕ)
handed_back (Ok done) left = Ok done
handed_back (Err why) left = Err (why, left)

-- what a call of submit did: a refusal changes nothing and hands the body back
abbrev pub Refuses : Refusal → Option Refusal → Type 0
Refuses Memory first = first ≡ None
Refuses why first = first ≡ Some why

abbrev pub Submits : {T : Type 0} → Result T (Refusal × List ℕ) → Peering → Peering → ℕ → Packet → Type 0
Submits (Ok done) old new channel q = (submission_refusal old channel (length q.body) ≡ None) × (new ≡ submitted old channel q)
Submits (Err e) old new channel q = (e.1 ≡ q.body) × (new ≡ old) × Refuses e.0 (submission_refusal old channel (length q.body))

-- what a datagram that is put out goes by; what a client asked for may have any mtu
abbrev pub pace_of : Peering → ℕ → Pace
pace_of p now = record { now = now; timeout = timeout p.estimate; window = p.terms.window; mtu = max 576 (min p.terms.mtu 4096) }

abbrev pub destination_of : Peering → Destination
destination_of p = record { slot = p.terms.slot; session = p.terms.outgoing_session; offset = p.offset }

-- a datagram has gone, if there was one to go: the first acknowledgement that goes in AckDisconnect is that of the DISCONNECT;
-- once its last DISCONNECT has gone a parting peer is free
abbrev pub gone_on_in : PeerState → Peering → Peering
gone_on_in state.AckDisconnect p = ended p AskedThere p.info
gone_on_in state.Parting p = if nat_lt 0 (length p.outbox.control.queued) then p else freed p
gone_on_in _ p = settled p

abbrev pub gone_on : Peering → Peering
gone_on p = gone_on_in p.state p

-- what a call of emit did: what was put out, if anything; the outbox is left as the filling leaves it, and the peer goes on
pub record PutsOut (now : ℕ) (len : Option ℕ) (old new : Peering) (buf : List ℕ) : Type 0 where
  pub emits : Emits (pace_of old now) (destination_of old) old.outbox len buf
  pub after : new ≡ gone_on (record old { outbox = (filled (pace_of old now) old.outbox).outbox })

-- how a disconnect call goes in a state: at once, by one unsequenced DISCONNECT, by a reliable one, later, or not
pub data Leave : Type 0 where
  AtOnce : Leave
  TellsOnce : Leave
  Asks : Leave
  AsksLater : Leave
  Refused : Leave

abbrev pub left : Leave → Peering → ℕ → Option Peering
left AtOnce p info = Some (freed p)
left TellsOnce p info = Some (parting p info)
left Asks p info = Some (disconnecting p info)
left AsksLater p info = Some (settled (record p { state = state.DisconnectLater; info = info }))
left Refused p info = None

abbrev pub leave_by_asking : PeerState → Leave
leave_by_asking state.Connecting = AtOnce
leave_by_asking state.Answering = TellsOnce
leave_by_asking state.Connected = Asks
leave_by_asking state.DisconnectLater = Asks
leave_by_asking _ = Refused

abbrev pub leave_now : PeerState → Leave
leave_now state.Connecting = AtOnce
leave_now state.Answering = TellsOnce
leave_now state.Connected = TellsOnce
leave_now state.DisconnectLater = TellsOnce
leave_now _ = Refused

abbrev pub leave_later : PeerState → Leave
leave_later state.Connecting = AtOnce
leave_later state.Answering = TellsOnce
leave_later state.Connected = AsksLater
leave_later _ = Refused

-- what a disconnect call did: None stands for E3, after which nothing has changed
abbrev pub Leaves : {T : Type 0} → Result T Refusal → Option Peering → Peering → Peering → Type 0
Leaves (Ok done) after old new = after ≡ Some new
Leaves (Err why) after old new = (after ≡ None) × (why ≡ NotConnected) × (new ≡ old)

-- a client that waits for its server's answer
abbrev pub is_waiting_for : PeerState → Bool
is_waiting_for state.Connecting = true
is_waiting_for _ = false

-- one that was answered: who asked has an offer of some channels
abbrev pub is_welcome : Peering → Bool
is_welcome p = nat_lt 0 p.offer.channels && not (is_waiting_for p.state)

-- how far a timeout grows in silence: to a second once a round trip was measured, at a server that answers, and at a client that was
-- answered; else as far as 32 bits tell
abbrev pub growth_bound : Peering → ℕ
growth_bound p = if p.estimate.sampled || is_answering p.state || is_welcome p then 1000 else 4294967295

-- a moment, for what is late by then
abbrev pub tick_of : Peering → ℕ → Tick
tick_of p now = record { now = now; heard = p.heard; bound = growth_bound p; present = timeout p.estimate }

-- what waited out its timeout is due to go again, or the peer's patience is over
abbrev pub after_timeouts_by : Expiry → Peering → ℕ → Peering
after_timeouts_by End p now = cut_off p
after_timeouts_by Resend p now = record p { outbox = marked p.outbox (tick_of p now) }
after_timeouts_by No p now = p

-- how long a client that was answered is waited for, in milliseconds since the answer first went; one that was refused stays so long since the
-- peer was made
abbrev pub answering_time : ℕ
answering_time = 7500

abbrev pub has_stayed : Peering → ℕ → Bool
has_stayed p now = if p.refused then nat_le answering_time (elapsed_time now p.made) else has_waited p.outbox answering_time now

abbrev pub is_over : Peering → ℕ → Bool
is_over p now = is_answering p.state && has_stayed p now

-- what a moment brings: the end of the peer, resends, or nothing
abbrev pub expiry_of : Peering → ℕ → Expiry
expiry_of p now = if is_over p now then End else lateness p.outbox now p.patience p.heard

abbrev pub after_timeouts : Peering → ℕ → Peering
after_timeouts p now = after_timeouts_by (expiry_of p now) p now

-- a connected peer that is quiet and was not heard for the interval is pinged
abbrev pub is_pinged : Peering → ℕ → Bool
is_pinged p now = is_connected p.state && has_nothing_reliable p.outbox && nat_le p.ping_interval (elapsed_time now p.heard)

abbrev pub pinged : Peering → ℕ → Peering
pinged p now = if is_pinged p now then record p { outbox = with_control p.outbox control.Ping } else p

-- whether a moment brings a peer anything: the end of its wait for a client, a sent command that waited out its timeout, or a ping
abbrev pub is_due : Peering → ℕ → Bool
is_due p now = is_over p now || has_late p.outbox now || is_pinged p now

-- time has come to now
abbrev pub ticked : Peering → ℕ → Peering
ticked p now = pinged (after_timeouts p now) now

-- an answer would go again, but `short` says that its client's address sent too little for one more. It counts as tried
abbrev pub is_resend : Expiry → Bool
is_resend Resend = true
is_resend _ = false

abbrev pub is_held_back : Bool → Peering → ℕ → Bool
is_held_back short p now = short && is_answering p.state && is_resend (expiry_of p now)

abbrev pub held_back : Peering → ℕ → Peering
held_back p now = record p { outbox = outbox.held_back p.outbox (tick_of p now) }

-- time has come to now at a peer whose address may have sent too little for another answer
abbrev pub moved : Bool → Peering → ℕ → Peering
moved short p now = if is_held_back short p now then held_back p now else ticked p now

-- the next event: Connect, then the packets in the order of dispatch, then Disconnect, whose taking frees the peer
pub record Taken : Type 0 where
  pub event : PeerEvent
  pub after : Peering

abbrev pub last_event : PeerState → Peering → Option Taken
last_event state.Ended p = Some (record { event = event.Disconnect p.info; after = record p { state = state.Free } })
last_event _ p = None

abbrev pub packet_event : Peering → List codec.Packet → Option Taken
packet_event p [] = last_event p.state p
packet_event p (q ∷ rest) = Some (record { event = event.Receive q; after = record p { inbox = record p.inbox { untaken = rest } } })

abbrev pub event_after : Peering → Option ℕ → Option Taken
event_after p None = packet_event p p.inbox.untaken
event_after p (Some info) = Some (record { event = event.Connect info; after = record p { greeting = None } })

abbrev pub next_event : Peering → Option Taken
next_event p = event_after p p.greeting

-- what a call of next_event gives and leaves
abbrev pub Takes : Option PeerEvent → Option Taken → Peering → Peering → Type 0
Takes None next old new = (next ≡ None) × (new ≡ old)
Takes (Some e) next old new = next ≡ Some (record { event = e; after = new })

-- the body that it would hand out
abbrev pub body_of : Option ℕ → List codec.Packet → Option (List ℕ)
body_of (Some info) untaken = None
body_of None [] = None
body_of None (q ∷ rest) = Some q.body

abbrev pub next_body : Peering → Option (List ℕ)
next_body p = body_of p.greeting p.inbox.untaken

-- whether a command of channel 0xFF is queued or unacknowledged; without one there is room for the next
abbrev pub has_controls : Peering → Bool
has_controls p = not (is_idle p.outbox.control)

-- new bandwidths of the host, in bytes per second; a connected peer is told
abbrev pub with_bandwidth : Peering → ℕ → ℕ → Peering
with_bandwidth p incoming outgoing = record p {
  limits = record p.limits { incoming = incoming; outgoing = outgoing };
  outbox = if is_connected p.state then with_control p.outbox (control.BandwidthLimit incoming outgoing) else p.outbox;
}

-- new numbers of the throttle, of which the other end is told
abbrev pub with_throttle : Peering → ℕ → ℕ → ℕ → Peering
with_throttle p interval acceleration deceleration = record p {
  outbox = with_control (record p.outbox { throttle = with_interval p.outbox.throttle interval acceleration deceleration }) (control.ThrottleConfigure interval acceleration deceleration);
}

abbrev pub with_throttle_limit : Peering → ℕ → Peering
with_throttle_limit p limit = record p { outbox = record p.outbox { throttle = limited p.outbox.throttle limit } }

-- 0 stands for the default of 500 ms
abbrev pub with_ping_interval : Peering → ℕ → Peering
with_ping_interval p ms = record p { ping_interval = or_default_number ms 500 }

-- 0 stands for the defaults
abbrev pub with_timeout : Peering → ℕ → ℕ → ℕ → Peering
with_timeout p limit minimum maximum = record p { patience = patience_with_defaults limit minimum maximum }
