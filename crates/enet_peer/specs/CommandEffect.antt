-- What a command that comes makes of a peer.
use Rattle.std.specs.Prelude.{◌≡◌, ℕ, ◌&&◌, ◌||◌, ◌==◌, ◌%◌, ◌^◌, not, Bool, true, false, if◌then◌else◌, nat_lt, length, Option, Some, None, Result, Ok, Err, is_some, ◌⊎◌}
use Rattle.enet_codec.specs.declared.command.Head.{Head}
use Rattle.enet_codec.specs.declared.command.Verify.{Verify}
use Rattle.enet_codec.specs.declared.stop.Stop.{Stop}
use Rattle.enet_codec.specs.declared.stop.Stop.TheVariants as stop
use Rattle.enet_codec.specs.Message.{Message, Body, acknowledge, connect, verify_connect, disconnect, ping, bandwidth_limit, throttle_configure}
use Rattle.enet_rtt.specs.Clock.{sample_of, meant_time}
use Rattle.enet_rtt.specs.Timing.{Estimate, after_sample}
use Rattle.enet_throttle.specs.Throttle.{with_interval}
use Rattle.enet_throttle.specs.Bandwidth.{window_size}
use Rattle.enet_connect.specs.declared.terms.Terms.{Terms}
use Rattle.enet_connect.specs.Verification.{confirmed}
use Rattle.enet_senders.specs.declared.control.Control.{Control}
use Rattle.enet_senders.specs.declared.control.Control.TheVariants as control
use Rattle.enet_inbox.specs.Inbox as inbox
use Rattle.enet_inbox.specs.DataEffect.{DataEffect, arrival, passed_over}
use Rattle.enet_inbox.specs.DataEffect as coming
use Rattle.enet_outbox.specs.declared.parts.Matched.{Matched}
use Rattle.enet_outbox.specs.declared.parts.Matched.TheVariants as matched
use Rattle.enet_outbox.specs.Outbox.{is_crowded, with_acknowledgement, matched_by, after_acknowledgement, told_by, with_growth}
use Rattle.enet_outbox.specs.Outbox as outbox
use Rattle.enet_peer.specs.declared.parts.Ending.TheVariants.{AskedHere, AskedThere, BadAnswer}
use Rattle.enet_peer.specs.declared.parts.PeerState.{PeerState}
use Rattle.enet_peer.specs.declared.parts.PeerState.TheVariants as state
use Rattle.enet_peer.specs.Peering.{Peering}
use Rattle.enet_peer.specs.Endings.{dropped, ended, freed, settled, is_later}

-- what a command makes of a peer with ample memory: the stop, if there is one, and the peer after it
pub record Outcome : Type 0 where
  pub stop : Option Stop
  pub after : Peering

abbrev pub stopped : Peering → Stop → Outcome
stopped p why = record { stop = Some why; after = p }

-- the commands that are allowed before a connection stands and while it ends
abbrev pub is_of_handshake : Body → Bool
is_of_handshake (acknowledge number time) = true
is_of_handshake (verify_connect verify) = true
is_of_handshake (disconnect info) = true
is_of_handshake _ = false

-- whether the state allows a command; a CONNECT is refused before
abbrev pub is_allowed : PeerState → Body → Bool
is_allowed state.Connected body = true
is_allowed state.DisconnectLater body = true
is_allowed state.Connecting body = is_of_handshake body
is_allowed state.Answering body = is_of_handshake body
is_allowed state.Disconnecting body = is_of_handshake body
is_allowed state.AckDisconnect body = is_of_handshake body
is_allowed state.Free body = false
is_allowed state.Ended body = false
is_allowed state.Parting body = false

abbrev pub is_disconnect : Body → Bool
is_disconnect (disconnect info) = true
is_disconnect _ = false

-- whether a command is acknowledged that left the peer in a state
abbrev pub is_answered_in : PeerState → Body → Bool
is_answered_in state.Connected body = true
is_answered_in state.DisconnectLater body = true
is_answered_in state.AckDisconnect body = is_disconnect body
is_answered_in _ body = false

abbrev pub answered_at : Peering → Head → Option ℕ → Outcome
answered_at p h None = record { stop = Some stop.NoSentTime; after = p }
answered_at p h (Some time) = record {
  stop = None;
  after = record p { outbox = with_acknowledgement p.outbox (record { channel = h.channel; number = h.number; time = time }) };
}

-- the command took effect, and is acknowledged where it asks for it and may be
abbrev pub answered : Peering → Message → Option ℕ → Bool → Outcome
answered p m sent may =
    if m.head.acknowledge && may && is_answered_in p.state m.body then answered_at p m.head sent else record { stop = None; after = p }

-- a round trip of so many milliseconds was measured
abbrev pub measured : Peering → ℕ → ℕ → Estimate → Peering
measured p now r estimate = record p {
  estimate = estimate;
  heard = now;
  outbox = outbox.sampled p.outbox now r estimate.round_trip estimate.variance;
}

abbrev pub sampled : Peering → ℕ → ℕ → Peering
sampled p now time = measured p now (sample_of now time) (after_sample p.estimate (sample_of now time))

-- an acknowledged command of channel 0xFF: VERIFY_CONNECT completes a server's connection, DISCONNECT ends one
abbrev pub with_answer : PeerState → Control → Peering → Peering
with_answer state.Answering (control.VerifyConnect verify) p = record p { state = state.Connected; greeting = Some p.info }
with_answer state.Disconnecting (control.Disconnect info) p = ended p AskedHere 0
with_answer _ _ p = p

-- the command that is acknowledged is gone, the allowance grows by it, and its round trip is measured
abbrev pub acknowledged : Peering → (now channel number time : ℕ) → Peering
acknowledged p now channel number time =
    sampled (record p { outbox = with_growth (after_acknowledgement p.outbox channel number) (told_by p.outbox channel number time) }) now time

-- what an acknowledgement makes of a peer, by what it matches: from `old` to where the command is gone, and on
abbrev pub on_match : Matched → (old gone : Peering) → Peering
on_match matched.Nothing old gone = old
on_match matched.Data old gone = settled gone
on_match (matched.Control what) old gone = settled (with_answer old.state what gone)

-- an acknowledgement takes away what it matches: the command of its number, where the time that it repeats is that of a send of it. One
-- that matches nothing has no effect
abbrev pub accepted : Peering → ℕ → ℕ → ℕ → ℕ → Peering
accepted p now channel number time = on_match (matched_by p.outbox channel number time) p (acknowledged p now channel number time)

abbrev pub is_connecting : PeerState → Bool
is_connecting state.Connecting = true
is_connecting _ = false

-- an acknowledgement comes, with the time that it repeats. At a client that waits for its server's answer none has an effect: the answer
-- alone stands for the acknowledgement of CONNECT
abbrev pub on_acknowledge : Peering → ℕ → ℕ → ℕ → ℕ → Peering
on_acknowledge p now channel number told =
    if is_connecting p.state then p else accepted p now channel number (meant_time told (p.offset % 2 ^ 16))

-- a server's answer that isn't accepted ends the connection. One with another connect id than was asked with can't be this server's,
-- and has no effect
abbrev pub unwelcomed : Peering → Verify → Peering
unwelcomed p v = if p.offer.connect_id == v.connect_id then ended p BadAnswer 0 else p

-- a server's answer comes to a client. Where it is accepted, the connection stands, and the answer is the acknowledgement of CONNECT,
-- which is all that the client had to send
abbrev pub welcomed : Peering → Verify → Option Terms → Peering
welcomed p v None = unwelcomed p v
welcomed p v (Some terms) = record p {
  state = state.Connected;
  terms = terms;
  other_incoming = v.incoming_bandwidth;
  greeting = Some 0;
  inbox = inbox.narrowed p.inbox terms.channels;
  outbox = outbox.narrowed (outbox.cleared p.outbox) terms.channels;
}

abbrev pub on_verify_in : PeerState → Peering → Verify → Peering
on_verify_in state.Connecting p v = welcomed p v (confirmed p.offer v)
on_verify_in _ p v = p

-- DISCONNECT that can be acknowledged leaves its acknowledgement to be sent; else the connection has ended
abbrev pub on_last_disconnect : Peering → Bool → ℕ → Peering
on_last_disconnect p true info = record (dropped p) { state = state.AckDisconnect; info = info }
on_last_disconnect p false info = ended p AskedThere info

abbrev pub on_disconnect_in : PeerState → Peering → Bool → ℕ → Peering
on_disconnect_in state.Connected p answerable info = on_last_disconnect p answerable info
on_disconnect_in state.DisconnectLater p answerable info = on_last_disconnect p answerable info
on_disconnect_in state.Connecting p answerable info = ended p AskedThere info
on_disconnect_in state.Disconnecting p answerable info = ended p AskedThere info
on_disconnect_in state.Answering p answerable info = freed p
on_disconnect_in _ p answerable info = p

-- the other end tells its incoming bandwidth, in bytes per second, by which the window goes
abbrev pub on_bandwidth : Peering → ℕ → Peering
on_bandwidth p incoming = record p {
  other_incoming = incoming;
  terms = record p.terms { window = window_size p.limits.outgoing incoming };
}

abbrev pub on_throttle : Peering → ℕ → ℕ → ℕ → Peering
on_throttle p interval acceleration deceleration =
    record p { outbox = record p.outbox { throttle = with_interval p.outbox.throttle interval acceleration deceleration } }

-- a data command comes: the inbox says why it stops the datagram, or whether it may be acknowledged
abbrev pub by_answer : Peering → Message → Option ℕ → Result Bool Stop → Outcome
by_answer p m sent (Err why) = stopped p why
by_answer p m sent (Ok may) = answered p m sent may

abbrev pub by_arrival : Peering → Message → Option ℕ → DataEffect → Outcome
by_arrival p m sent a = by_answer (record p { inbox = a.after }) m sent a.answer

-- a peer that is to disconnect later dispatches nothing more: its data commands are passed over and acknowledged
abbrev pub on_data : Peering → Message → Option ℕ → Outcome
on_data p m sent = if is_later p.state then by_answer p m sent (passed_over p.inbox m) else by_arrival p m sent (arrival p.inbox m)

abbrev pub by_body : Peering → ℕ → Option ℕ → Message → Body → Outcome
by_body p now sent m (acknowledge number time) = answered (on_acknowledge p now m.head.channel number time) m sent true
by_body p now sent m (connect offer) = stopped p stop.BadCommand
by_body p now sent m (verify_connect v) = answered (on_verify_in p.state p v) m sent true
by_body p now sent m (disconnect info) = answered (on_disconnect_in p.state p (m.head.acknowledge && is_some sent) info) m sent true
by_body p now sent m ping = answered p m sent true
by_body p now sent m (bandwidth_limit incoming outgoing) = answered (on_bandwidth p incoming) m sent true
by_body p now sent m (throttle_configure interval acceleration deceleration) = answered (on_throttle p interval acceleration deceleration) m sent true
by_body p now sent m data' = on_data p m sent

abbrev pub is_connect : Body → Bool
is_connect (connect offer) = true
is_connect _ = false

-- whether a command drops all acknowledgements that wait
abbrev pub drops_acknowledgements : PeerState → Body → Bool
drops_acknowledgements state.Connected body = is_disconnect body
drops_acknowledgements state.DisconnectLater body = is_disconnect body
drops_acknowledgements _ body = false

-- whether a command asks for an acknowledgement where as many wait to go as may, and it doesn't drop them
abbrev pub is_crowded_out : Peering → Message → Bool
is_crowded_out p m = m.head.acknowledge && not (drops_acknowledgements p.state m.body) && is_crowded p.outbox

-- whether a command is a server's answer to an end that is the server itself: only who asked is answered
abbrev pub is_unasked : Peering → Body → Bool
is_unasked p (verify_connect v) = p.is_server
is_unasked p _ = false

-- then it stops the datagram, in whatever state the peer is; else where it is crowded out
abbrev pub unless_refused : Peering → Message → Outcome → Outcome
unless_refused p m o = if is_unasked p m.body then stopped p stop.NotConnected else (if is_crowded_out p m then stopped p stop.Waiting else o)

-- a command comes at the time `now`, in a datagram that tells this sent time or none. A CONNECT never comes to a peer
abbrev pub obeyed : Peering → ℕ → Option ℕ → Message → Outcome
obeyed p now sent m =
    if is_connect m.body then stopped p stop.BadCommand
    else (if is_allowed p.state m.body then unless_refused p m (by_body p now sent m m.body)
    else stopped p stop.NotConnected)

-- whether something of a data command is kept
abbrev pub is_kept : Peering → Message → Bool
is_kept p m = not (is_later p.state) && coming.is_kept p.inbox m

-- whether more acknowledgements wait than before
abbrev pub waits_longer : Peering → Peering → Bool
waits_longer old new = nat_lt (length old.outbox.acknowledgements) (length new.outbox.acknowledgements)

abbrev pub is_acknowledge : Body → Bool
is_acknowledge (acknowledge number time) = true
is_acknowledge _ = false

-- whether memory may be wanted for a command: where something of it is kept, or one acknowledgement more waits after it. Of an
-- ACKNOWLEDGE that itself asks to be acknowledged that isn't known before it has its effect
abbrev pub wants_memory : Peering → ℕ → Option ℕ → Message → Bool
wants_memory p now sent m = is_kept p m || waits_longer p (obeyed p now sent m).after || (m.head.acknowledge && is_acknowledge m.body)

-- what a call did, where `wants` says whether memory may be wanted: want of memory changes nothing, and comes only there, and
-- where no stop does that is tested before it
abbrev pub Stops : Stop → Bool → Outcome → Peering → Peering → Type 0
Stops stop.Memory wants o old new = (wants ≡ true) × ((o.stop ≡ None) ⊎ (o.stop ≡ Some stop.NoSentTime)) × (new ≡ old)
Stops why wants o old new = (o.stop ≡ Some why) × (new ≡ o.after)

abbrev pub Obeys : {T : Type 0} → Result T Stop → Bool → Outcome → Peering → Peering → Type 0
Obeys (Ok done) wants o old new = (o.stop ≡ None) × (new ≡ o.after)
Obeys (Err why) wants o old new = Stops why wants o old new
