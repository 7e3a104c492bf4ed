-- What is drawn of a command.
use Rattle.std.specs.Prelude.{length}
use Rattle.enet_codec.specs.Message.{Body, acknowledge, connect, verify_connect, disconnect, ping, send_reliable, send_unreliable, send_fragment, send_unsequenced, bandwidth_limit, throttle_configure, send_unreliable_fragment, Message, payload_of}
use Rattle.enet_captured.specs.declared.told.Kind.{Kind}
use Rattle.enet_captured.specs.declared.told.Kind.TheVariants.{Acknowledge, Connect, VerifyConnect, Disconnect, Ping, SendReliable, SendUnreliable, SendFragment, SendUnsequenced, BandwidthLimit, ThrottleConfigure, SendUnreliableFragment}
use Rattle.enet_captured.specs.declared.told.Detail.{Detail}
use Rattle.enet_captured.specs.declared.told.Detail.TheVariants.{Nothing, Received, Offered, Unreliable, Group, Piece}
use Rattle.enet_captured.specs.declared.told.Told.{Told}

abbrev pub kind_in : Body → Kind
kind_in (acknowledge n t) = Acknowledge
kind_in (connect o) = Connect
kind_in (verify_connect v) = VerifyConnect
kind_in (disconnect i) = Disconnect
kind_in ping = Ping
kind_in (send_reliable p) = SendReliable
kind_in (send_unreliable n p) = SendUnreliable
kind_in (send_fragment f p) = SendFragment
kind_in (send_unsequenced g p) = SendUnsequenced
kind_in (bandwidth_limit i o) = BandwidthLimit
kind_in (throttle_configure i a d) = ThrottleConfigure
kind_in (send_unreliable_fragment f p) = SendUnreliableFragment

-- What it has beside its number.
abbrev pub detail_in : Body → Detail
detail_in (acknowledge n t) = Received n t
detail_in (connect o) = Offered o.connect_id
detail_in (verify_connect v) = Nothing
detail_in (disconnect i) = Nothing
detail_in ping = Nothing
detail_in (send_reliable p) = Nothing
detail_in (send_unreliable n p) = Unreliable n
detail_in (send_fragment f p) = Piece f.number f.count
detail_in (send_unsequenced g p) = Group g
detail_in (bandwidth_limit i o) = Nothing
detail_in (throttle_configure i a d) = Nothing
detail_in (send_unreliable_fragment f p) = Piece f.number f.count

abbrev pub told_of : Message → Told
told_of m = record {
  kind = kind_in m.body;
  channel = m.head.channel;
  number = m.head.number;
  asks = m.head.acknowledge;
  detail = detail_in m.body;
  len = length (payload_of m.body);
}
