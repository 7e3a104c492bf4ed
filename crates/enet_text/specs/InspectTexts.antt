-- The lines that tell a header, a command and a stop. Each begins with two spaces and ends with a line feed.
use Rattle.std.specs.Prelude.{ℕ, ◌==◌, Bool, List, [], ◌++◌, length, codes, Option, Some, None, if◌then◌else◌}
use Rattle.std.specs.Fmt.{decimal}
use Rattle.std.specs.Int.{to_be_bytes, w32}
use Rattle.enet_codec.specs.declared.stop.Stop.{Stop}
use Rattle.enet_codec.specs.Stop.{stop_label}
use Rattle.enet_codec.specs.declared.header.Header.{Header}
use Rattle.enet_codec.specs.declared.command.Head.{Head}
use Rattle.enet_codec.specs.declared.command.Offer.{Offer}
use Rattle.enet_codec.specs.declared.command.Verify.{Verify}
use Rattle.enet_codec.specs.declared.command.Fragment.{Fragment}
use Rattle.enet_codec.specs.Message.{Body, acknowledge, connect, verify_connect, disconnect, ping, send_reliable, send_unreliable, send_fragment, send_unsequenced, bandwidth_limit, throttle_configure, send_unreliable_fragment, Message}
use Rattle.enet_text.specs.declared.body.Bodies.{Bodies}
use Rattle.enet_text.specs.Bodies.{body_text}
use Rattle.enet_text.specs.Texts.{bytes_text}

-- A word that stands there where a flag is set.
abbrev pub flag_text : List ℕ → Bool → List ℕ
flag_text name set = if set then name else []

-- A peer id; 4,095 says that the sender doesn't know it yet.
abbrev pub peer_text : ℕ → List ℕ
peer_text peer = if peer == 4095 then codes "none" else decimal peer

abbrev pub sent_text : Option ℕ → List ℕ
sent_text None = []
sent_text (Some time) = codes " sent " ++ decimal time

-- What a header says.
abbrev pub header_line : Header → List ℕ
header_line h =
    codes "  peer " ++ peer_text h.peer ++ codes " session " ++ decimal h.session ++ flag_text (codes " compressed") h.compressed
    ++ sent_text h.sent ++ codes "\n"

-- Why the rest can't be read: the stop, the place in the datagram from which on, and the bytes from there.
abbrev pub stop_line : Stop → ℕ → List ℕ → List ℕ
stop_line stop place rest = codes "  " ++ stop_label stop ++ codes " at byte " ++ decimal place ++ codes ": " ++ bytes_text rest ++ codes "\n"

-- The name that ENet 1.3 gives a command.
abbrev pub name_of : Body → List ℕ
name_of (acknowledge n t) = codes "ACKNOWLEDGE"
name_of (connect o) = codes "CONNECT"
name_of (verify_connect v) = codes "VERIFY_CONNECT"
name_of (disconnect i) = codes "DISCONNECT"
name_of ping = codes "PING"
name_of (send_reliable p) = codes "SEND_RELIABLE"
name_of (send_unreliable n p) = codes "SEND_UNRELIABLE"
name_of (send_fragment f p) = codes "SEND_FRAGMENT"
name_of (send_unsequenced g p) = codes "SEND_UNSEQUENCED"
name_of (bandwidth_limit i o) = codes "BANDWIDTH_LIMIT"
name_of (throttle_configure i a d) = codes "THROTTLE_CONFIGURE"
name_of (send_unreliable_fragment f p) = codes "SEND_UNRELIABLE_FRAGMENT"

-- The channel, the reliable number and the two flags.
abbrev pub head_text : Head → List ℕ
head_text h =
    codes " channel " ++ decimal h.channel ++ codes " number " ++ decimal h.number ++ flag_text (codes " acknowledge") h.acknowledge
    ++ flag_text (codes " unsequenced") h.unsequenced

-- A packet's bytes, or a fragment's.
abbrev pub payload_text : Bodies → List ℕ → List ℕ
payload_text b payload = codes " length " ++ decimal (length payload) ++ codes " payload " ++ body_text b payload

abbrev pub fragment_text : Bodies → Fragment → List ℕ → List ℕ
fragment_text b f payload =
    codes " start " ++ decimal f.start ++ codes " fragment " ++ decimal f.number ++ codes " count " ++ decimal f.count ++ codes " offset "
    ++ decimal f.offset ++ codes " total " ++ decimal f.total ++ payload_text b payload

abbrev pub sessions_text : ℕ → ℕ → ℕ → List ℕ
sessions_text peer incoming outgoing =
    codes " outgoing_peer " ++ decimal peer ++ codes " incoming_session " ++ decimal incoming ++ codes " outgoing_session " ++ decimal outgoing

abbrev pub sizes_text : ℕ → ℕ → ℕ → List ℕ
sizes_text mtu window channels = codes " mtu " ++ decimal mtu ++ codes " window " ++ decimal window ++ codes " channels " ++ decimal channels

abbrev pub limits_text : ℕ → ℕ → List ℕ
limits_text incoming outgoing = codes " incoming_bandwidth " ++ decimal incoming ++ codes " outgoing_bandwidth " ++ decimal outgoing

abbrev pub throttle_text : ℕ → ℕ → ℕ → List ℕ
throttle_text interval acceleration deceleration =
    codes " throttle_interval " ++ decimal interval ++ codes " acceleration " ++ decimal acceleration ++ codes " deceleration " ++ decimal deceleration

-- A connect id, as eight hex digits.
abbrev pub id_text : ℕ → List ℕ
id_text id = codes " connect_id " ++ bytes_text (to_be_bytes w32 id)

abbrev pub offer_text : Offer → List ℕ
offer_text o =
    sessions_text o.outgoing_peer o.incoming_session o.outgoing_session ++ sizes_text o.mtu o.window o.channels
    ++ limits_text o.incoming_bandwidth o.outgoing_bandwidth ++ throttle_text o.throttle_interval o.acceleration o.deceleration
    ++ id_text o.connect_id ++ codes " info " ++ decimal o.info

abbrev pub verify_text : Verify → List ℕ
verify_text v =
    sessions_text v.outgoing_peer v.incoming_session v.outgoing_session ++ sizes_text v.mtu v.window v.channels
    ++ limits_text v.incoming_bandwidth v.outgoing_bandwidth ++ throttle_text v.throttle_interval v.acceleration v.deceleration
    ++ id_text v.connect_id

-- What a command says behind its head.
abbrev pub fields_text : Bodies → Body → List ℕ
fields_text b (acknowledge n t) = codes " received_number " ++ decimal n ++ codes " received_time " ++ decimal t
fields_text b (connect o) = offer_text o
fields_text b (verify_connect v) = verify_text v
fields_text b (disconnect i) = codes " info " ++ decimal i
fields_text b ping = []
fields_text b (send_reliable p) = payload_text b p
fields_text b (send_unreliable n p) = codes " unreliable " ++ decimal n ++ payload_text b p
fields_text b (send_fragment f p) = fragment_text b f p
fields_text b (send_unsequenced g p) = codes " group " ++ decimal g ++ payload_text b p
fields_text b (bandwidth_limit i o) = limits_text i o
fields_text b (throttle_configure i a d) = throttle_text i a d
fields_text b (send_unreliable_fragment f p) = fragment_text b f p

-- What a command says.
abbrev pub command_line : Bodies → Message → List ℕ
command_line b m = codes "  " ++ name_of m.body ++ head_text m.head ++ fields_text b m.body ++ codes "\n"
