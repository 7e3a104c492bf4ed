-- Captures in the classic pcap format: their packets, and what is told of the datagrams in them.
use Rattle.std.specs.Prelude.{◌≡◌, ◌⊎◌, ◌<◌, ◌+◌, ◌==◌, ◌||◌, ◌-◌, ◌*◌, ◌/◌, ◌%◌, ℕ, bit_and, nat_lt, Bool, true, false, if◌then◌else◌, List, [], ◌++◌, codes, length, take, drop, replicate, Option, Some, None}
use Rattle.std.specs.Fmt.{decimal}
use Rattle.std.specs.Int.{from_be_bytes, from_le_bytes, w32}
use Rattle.std.specs.Option.{unwrap_or}
use Rattle.enet_text.specs.declared.body.Bodies.{Bodies}
use Rattle.enet_text.specs.declared.pcap.Order.{Order}
use Rattle.enet_text.specs.declared.pcap.Order.TheVariants.{Big, Little}
use Rattle.enet_text.specs.declared.pcap.Link.{Link}
use Rattle.enet_text.specs.declared.pcap.Link.TheVariants.{Ethernet, RawIp, LinuxCooked, LinuxCookedTwo, Loopback}
use Rattle.enet_text.specs.declared.pcap.Format.{Format}
use Rattle.enet_text.specs.declared.pcap.Captured.{Captured}
use Rattle.enet_text.specs.declared.pcap.Datagram.{Datagram}
use Rattle.enet_text.specs.Inspected.{Found, IsCutOff, TellsLines, TellsOne, TellsSome, lines_of}
use Rattle.enet_text.specs.Texts.{address_text}

-- The number of the first four bytes.
abbrev pub number_of : Order → List ℕ → ℕ
number_of Big bytes = from_be_bytes w32 bytes
number_of Little bytes = from_le_bytes w32 bytes

-- What a capture's first number says: the order of the bytes of its numbers, and whether its times count billionths.
abbrev pub sign_of : ℕ → Option (Order × Bool)
sign_of number = if number == 0xa1b2c3d4 then Some (Big, false) else (if number == 0xa1b23c4d then Some (Big, true)
    else (if number == 0xd4c3b2a1 then Some (Little, false) else (if number == 0x4d3cb2a1 then Some (Little, true) else None)))

abbrev pub magic_of : List ℕ → Option (Order × Bool)
magic_of input = if nat_lt (length input) 4 then None else sign_of (number_of Big (take 4 input))

-- What the packets of a link type begin with.
abbrev pub link_of : ℕ → Option Link
link_of number = if number == 0 then Some Loopback else (if number == 1 then Some Ethernet
    else (if number == 12 || (number == 101 || number == 228) then Some RawIp
    else (if number == 113 then Some LinuxCooked else (if number == 276 then Some LinuxCookedTwo else None))))

-- An input is a capture of this format: behind 24 bytes stand its packets.
pub record IsCapture (input : List ℕ) (format : Format) (packets : List ℕ) : Type 0 where
  pub head : List ℕ
  pub head_len : length head ≡ 24
  pub input_is : input ≡ head ++ packets
  pub magic_is : magic_of input ≡ Some (format.order, format.nanoseconds)
  pub link_is : link_of (bit_and (number_of format.order (drop 20 head)) 0x0fffffff) ≡ Some format.link

-- A packet stands at the front of bytes: 16 bytes with its time in two parts and how many of its bytes were kept, and these.
pub record IsPacket (order : Order) (bytes : List ℕ) (captured : Captured) (behind : List ℕ) : Type 0 where
  pub head : List ℕ
  pub head_len : length head ≡ 16
  pub bytes_are : bytes ≡ head ++ captured.bytes.now ++ behind
  pub seconds_are : captured.seconds ≡ number_of order head
  pub parts_are : captured.parts ≡ number_of order (drop 4 head)
  pub kept : length captured.bytes.now ≡ number_of order (drop 8 head)

-- The packet at the front isn't whole.
abbrev pub IsCutShort : Order → List ℕ → Type 0
IsCutShort order bytes = (length bytes < 16) ⊎ (length bytes < 16 + number_of order (drop 8 (take 16 bytes)))

-- Bytes that stand somewhere in others.
pub record IsWithin (bytes whole : List ℕ) : Type 0 where
  pub front : List ℕ
  pub behind : List ℕ
  pub whole_is : whole ≡ front ++ bytes ++ behind

-- A number in so many digits or more, with zeros before it.
abbrev pub with_zeros : ℕ → ℕ → List ℕ
with_zeros digits n = replicate (digits - length (decimal n)) 48 ++ decimal n

-- How many parts of a capture's times are a second: billionths or millionths.
abbrev pub parts_of_second : Bool → ℕ
parts_of_second nanoseconds = if nanoseconds then 1000000000 else 1000000

-- A time in such parts.
abbrev pub moment : ℕ → ℕ → Bool → ℕ
moment seconds parts nanoseconds = seconds * parts_of_second nanoseconds + parts

-- When the first packet was captured: its time is in the first eight bytes, where they are there.
abbrev pub begun_of : Format → List ℕ → Option ℕ
begun_of format packets =
    if nat_lt (length packets) 8 then None
    else Some (moment (number_of format.order packets) (number_of format.order (drop 4 packets)) format.nanoseconds)

-- A time in seconds, with the digits of the parts behind the point.
abbrev pub time_text : ℕ → Bool → List ℕ
time_text time nanoseconds =
    decimal (time / parts_of_second nanoseconds) ++ codes "." ++ with_zeros (if nanoseconds then 9 else 6) (time % parts_of_second nanoseconds)

-- How long after the first packet one was captured.
abbrev pub since_begun : Option ℕ → ℕ → ℕ
since_begun begun time = time - unwrap_or begun 0

-- Whence and whither a datagram went, and how long after the first packet.
abbrev pub way_text : Datagram → ℕ → Bool → List ℕ
way_text datagram since nanoseconds = codes " from " ++ address_text datagram.from ++ codes " to " ++ address_text datagram.to
    ++ codes " at " ++ time_text since nanoseconds

-- A datagram of a packet, as it is told.
abbrev pub found_of : Format → Option ℕ → Captured → Datagram → Found
found_of format begun captured datagram = record {
  way = way_text datagram (since_begun begun (moment captured.seconds captured.parts format.nanoseconds)) format.nanoseconds;
  bytes = datagram.payload.now;
}

-- When the first packet was captured, where there is one.
abbrev pub begun_text : Option ℕ → Bool → List ℕ
begun_text None nanoseconds = []
begun_text (Some begun) nanoseconds = codes ", begun at " ++ time_text begun nanoseconds

-- The text of the packets at the front of bytes, up to these that are left: so many datagrams were told, each of a packet in which its bytes
-- stand, numbered from 0 on, and so many other packets passed over.
pub data TellsPackets (b : Bodies) (format : Format) (bytes : List ℕ) : List ℕ → List ℕ → ℕ → ℕ → Type 0 where
  begun : TellsPackets b format bytes bytes [] 0 0
  told : (left text more : List ℕ) (datagrams others : ℕ) (captured : Captured) (datagram : Datagram) (behind : List ℕ)
      → TellsPackets b format bytes left text datagrams others → IsPacket format.order left captured behind
      → IsWithin datagram.payload.now captured.bytes.now → TellsOne b datagrams (found_of format (begun_of format bytes) captured datagram) more
      → TellsPackets b format bytes behind (text ++ more) (datagrams + 1) others
  passed_over : (left text : List ℕ) (datagrams others : ℕ) (captured : Captured) (behind : List ℕ)
      → TellsPackets b format bytes left text datagrams others → IsPacket format.order left captured behind
      → TellsPackets b format bytes behind text datagrams (others + 1)

-- The text of all packets, and a last line that says how many were passed over, and when the first packet was captured.
pub record TellsCapture (b : Bodies) (format : Format) (packets text : List ℕ) : Type 0 where
  pub datagrams : ℕ
  pub others : ℕ
  pub told : List ℕ
  pub tells : TellsPackets b format packets [] told datagrams others
  pub text_is : text ≡ told ++ decimal others ++ codes " other packets" ++ begun_text (begun_of format packets) format.nanoseconds ++ codes "\n"

-- The text of the packets before the first that isn't whole, which are so many.
pub record IsShortCapture (b : Bodies) (format : Format) (packets text : List ℕ) (number : ℕ) : Type 0 where
  pub datagrams : ℕ
  pub others : ℕ
  pub left : List ℕ
  pub tells : TellsPackets b format packets left text datagrams others
  pub number_is : number ≡ datagrams + others
  pub is_cut : IsCutShort format.order left

-- The text of the first of these packets, so many as were told.
pub record TellsSomePackets (b : Bodies) (format : Format) (packets text : List ℕ) : Type 0 where
  pub datagrams : ℕ
  pub others : ℕ
  pub left : List ℕ
  pub tells : TellsPackets b format packets left text datagrams others

-- The text of a whole input: of a capture, by its first number, and else of its lines in hex.
abbrev pub IsTold : Bodies → List ℕ → List ℕ → Type 0
IsTold b input text = ((magic_of input ≡ None) × TellsLines b (lines_of input) text)
    ⊎ ((format : Format) × (packets : List ℕ) × IsCapture input format packets × TellsCapture b format packets text)

-- The text of an input up to this line, which can't be read.
abbrev pub IsToldToLine : Bodies → List ℕ → List ℕ → ℕ → Type 0
IsToldToLine b input text number = (magic_of input ≡ None) × IsCutOff b (lines_of input) text number

-- The text of a capture that is cut short behind so many packets: where not even its first 24 bytes are there, nothing.
abbrev pub IsToldToPacket : Bodies → List ℕ → List ℕ → ℕ → Type 0
IsToldToPacket b input text number = ((text ≡ []) × (number ≡ 0))
    ⊎ ((format : Format) × (packets : List ℕ) × IsCapture input format packets × IsShortCapture b format packets text number)

-- The text of the first lines of an input, or of the first packets of a capture.
abbrev pub IsToldInPart : Bodies → List ℕ → List ℕ → Type 0
IsToldInPart b input text = TellsSome b (lines_of input) text
    ⊎ ((format : Format) × (packets : List ℕ) × IsCapture input format packets × TellsSomePackets b format packets text)
