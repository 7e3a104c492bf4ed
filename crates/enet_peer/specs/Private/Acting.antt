-- The steps in which `command` does what `obeyed` of CommandEffect says: what is foreseen of a command, room for its acknowledgement,
-- what it does, and that acknowledgement. The proof that these steps are `obeyed` stands on them, and nothing else.
use Rattle.std.specs.Prelude.{◌≡◌, ℕ, ◌&&◌, ◌||◌, not, Bool, true, false, if◌then◌else◌, nat_lt, length, Option, Some, None, is_some, Result, Ok, Err}
use Rattle.enet_codec.specs.declared.stop.Stop.{Stop}
use Rattle.enet_codec.specs.declared.stop.Stop.TheVariants as stop
use Rattle.enet_codec.specs.Message.{Message, Body, acknowledge, connect, verify_connect, disconnect, ping, bandwidth_limit, throttle_configure}
use Rattle.enet_inbox.specs.DataEffect.{arrival}
use Rattle.enet_connect.specs.Verification.{confirmed}
use Rattle.enet_peer.specs.declared.parts.PeerState.{PeerState}
use Rattle.enet_peer.specs.declared.parts.PeerState.TheVariants as state
use Rattle.enet_peer.specs.Peering.{Peering}
use Rattle.enet_peer.specs.Endings.{is_later}
use Rattle.enet_peer.specs.CommandEffect.{Outcome, stopped, answered, is_acknowledge, is_disconnect, on_acknowledge, on_verify_in, on_disconnect_in, on_bandwidth, on_throttle}

-- whether a command asks for an acknowledgement and can have one
abbrev pub may_be_answered : Option ℕ → Message → Bool → Bool
may_be_answered sent m may = m.head.acknowledge && is_some sent && may

-- whether a command is a server's answer that stands by what was asked for
abbrev pub is_welcomed_by : Peering → Body → Bool
is_welcomed_by p (verify_connect v) = is_some (confirmed p.offer v)
is_welcomed_by p _ = false

abbrev pub none_waits : Peering → Bool
none_waits p = not (nat_lt 0 (length p.outbox.acknowledgements))

-- whether a command's acknowledgement may need a place beside those that wait, in a state
abbrev pub wants_place_in : PeerState → Peering → Body → Bool
wants_place_in state.Connected p body = not (is_disconnect body) || none_waits p
wants_place_in state.DisconnectLater p body = not (is_disconnect body) || none_waits p
wants_place_in state.Connecting p body = is_welcomed_by p body && none_waits p
wants_place_in state.Answering p body = is_acknowledge body
wants_place_in state.AckDisconnect p body = is_disconnect body
wants_place_in state.Disconnecting p body = false
wants_place_in state.Free p body = false
wants_place_in state.Ended p body = false
wants_place_in state.Parting p body = false

abbrev pub wants_place : Peering → Body → Bool
wants_place p body = wants_place_in p.state p body

-- whether a command can take all that waits away
abbrev pub may_clear : Body → Bool
may_clear (verify_connect v) = true
may_clear (disconnect info) = true
may_clear _ = false

-- a data command is taken in, or passed over by a peer that is to disconnect later
abbrev pub taken_in : Peering → Message → Peering
taken_in p m = record p { inbox = if is_later p.state then p.inbox else (arrival p.inbox m).after }

abbrev pub acted_body : Peering → ℕ → Bool → Message → Body → Peering
acted_body p now tells m (acknowledge number time) = on_acknowledge p now m.head.channel number time
acted_body p now tells m (connect offer) = p
acted_body p now tells m (verify_connect v) = on_verify_in p.state p v
acted_body p now tells m (disconnect info) = on_disconnect_in p.state p (m.head.acknowledge && tells) info
acted_body p now tells m ping = p
acted_body p now tells m (bandwidth_limit incoming outgoing) = on_bandwidth p incoming
acted_body p now tells m (throttle_configure interval acceleration deceleration) = on_throttle p interval acceleration deceleration
acted_body p now tells m data' = taken_in p m

-- what a command makes of a peer before its acknowledgement, where the datagram tells a sent time or not
abbrev pub acted : Peering → ℕ → Bool → Message → Peering
acted p now tells m = acted_body p now tells m m.body

abbrev pub by_foresight : Peering → Peering → Message → Option ℕ → Result Bool Stop → Outcome
by_foresight p after m sent (Err why) = stopped p why
by_foresight p after m sent (Ok may) = answered after m sent may

-- what was done where memory can't be wanting
abbrev pub Replies : {T : Type 0} → Result T Stop → Outcome → Peering → Type 0
Replies (Ok done) o new = (o.stop ≡ None) × (new ≡ o.after)
Replies (Err why) o new = (o.stop ≡ Some why) × (why ≡ stop.NoSentTime) × (new ≡ o.after)
