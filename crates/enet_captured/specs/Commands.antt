-- What is drawn of a command.
use Rattle.std.specs.Prelude.{ℕ, ◌==◌, ◌&&◌, Bool, List, codes}
use Rattle.enet_captured.specs.declared.told.Kind.{Kind}
use Rattle.enet_captured.specs.declared.told.Kind.TheVariants.{Acknowledge, Connect, VerifyConnect, Disconnect, Ping, SendReliable, SendUnreliable, SendFragment, SendUnsequenced, BandwidthLimit, ThrottleConfigure, SendUnreliableFragment}
use Rattle.enet_captured.specs.declared.told.Detail.{Detail}
use Rattle.enet_captured.specs.declared.told.Detail.TheVariants.{Nothing, Received, Offered, Unreliable, Group, Piece}
use Rattle.enet_captured.specs.declared.told.Told.{Told}

-- The name that ENet 1.3 gives a command.
abbrev pub name_of : Kind → List ℕ
name_of Acknowledge = codes "ACKNOWLEDGE"
name_of Connect = codes "CONNECT"
name_of VerifyConnect = codes "VERIFY_CONNECT"
name_of Disconnect = codes "DISCONNECT"
name_of Ping = codes "PING"
name_of SendReliable = codes "SEND_RELIABLE"
name_of SendUnreliable = codes "SEND_UNRELIABLE"
name_of SendFragment = codes "SEND_FRAGMENT"
name_of SendUnsequenced = codes "SEND_UNSEQUENCED"
name_of BandwidthLimit = codes "BANDWIDTH_LIMIT"
name_of ThrottleConfigure = codes "THROTTLE_CONFIGURE"
name_of SendUnreliableFragment = codes "SEND_UNRELIABLE_FRAGMENT"

-- The number of a kind on the wire.
abbrev pub number_of : Kind → ℕ
number_of Acknowledge = 1
number_of Connect = 2
number_of VerifyConnect = 3
number_of Disconnect = 4
number_of Ping = 5
number_of SendReliable = 6
number_of SendUnreliable = 7
number_of SendFragment = 8
number_of SendUnsequenced = 9
number_of BandwidthLimit = 10
number_of ThrottleConfigure = 11
number_of SendUnreliableFragment = 12

abbrev pub same_kind : Kind → Kind → Bool
same_kind a b = number_of a == number_of b

-- Two commands that go one way have one number on one channel.
abbrev pub is_same : Told → Told → Bool
is_same a b = (a.number == b.number) && (a.channel == b.channel)

-- What acknowledges a command that went the other way, where it acknowledges one: by its number, or as the VERIFY_CONNECT to a CONNECT.
abbrev pub answers_by : Detail → Told → Told → Bool
answers_by (Received number time) a b = (number == b.number) && (a.channel == b.channel)
answers_by Nothing a b = same_kind a.kind VerifyConnect && same_kind b.kind Connect
answers_by (Offered id) a b = same_kind a.kind VerifyConnect && same_kind b.kind Connect
answers_by (Unreliable n) a b = same_kind a.kind VerifyConnect && same_kind b.kind Connect
answers_by (Group n) a b = same_kind a.kind VerifyConnect && same_kind b.kind Connect
answers_by (Piece n m) a b = same_kind a.kind VerifyConnect && same_kind b.kind Connect

abbrev pub answers : Told → Told → Bool
answers a b = answers_by a.detail a b
