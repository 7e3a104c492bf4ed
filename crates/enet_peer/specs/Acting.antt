-- What is foreseen of a command before it has an effect.
use Rattle.std.specs.Prelude.{Bool, true, if◌then◌else◌, Result, Ok, Err}
use Rattle.enet_codec.specs.declared.stop.Stop.{Stop}
use Rattle.enet_codec.specs.declared.stop.Stop.TheVariants as stop
use Rattle.enet_codec.specs.Message.{Message, Body, acknowledge, connect, verify_connect, disconnect, ping, bandwidth_limit, throttle_configure}
use Rattle.enet_inbox.specs.DataEffect.{arrival, passed_over}
use Rattle.enet_peer.specs.Peering.{Peering}
use Rattle.enet_peer.specs.Endings.{is_later}
use Rattle.enet_peer.specs.CommandEffect.{is_connect, is_allowed, is_crowded_out, is_unasked}

abbrev pub foreseen_data : Peering → Message → Result Bool Stop
foreseen_data p m = if is_later p.state then passed_over p.inbox m else (arrival p.inbox m).answer

abbrev pub foreseen_body : Peering → Message → Body → Result Bool Stop
foreseen_body p m (acknowledge number time) = Ok true
foreseen_body p m (connect offer) = Err stop.BadCommand
foreseen_body p m (verify_connect v) = Ok true
foreseen_body p m (disconnect info) = Ok true
foreseen_body p m ping = Ok true
foreseen_body p m (bandwidth_limit incoming outgoing) = Ok true
foreseen_body p m (throttle_configure interval acceleration deceleration) = Ok true
foreseen_body p m data' = foreseen_data p m

-- why a command stops the datagram before it has an effect, or whether it may be acknowledged
abbrev pub foreseen : Peering → Message → Result Bool Stop
foreseen p m =
    if is_connect m.body then Err stop.BadCommand
    else (if is_allowed p.state m.body
    then (if is_unasked p m.body then Err stop.NotConnected else (if is_crowded_out p m then Err stop.Waiting else foreseen_body p m m.body))
    else Err stop.NotConnected)
