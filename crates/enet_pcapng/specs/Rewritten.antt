-- The classic capture that has the packets of one in pcapng.
use Rattle.std.specs.Prelude.{◌≡◌, ◌≢◌, ◌⊎◌, ◌<◌, ◌≤◌, ◌+◌, ◌*◌, ◌/◌, ◌%◌, ◌++◌, ◌==◌, false, ℕ, Bool, nat_lt, min, if◌then◌else◌, List, [], ◌∷◌, length, take, drop, replicate, slice_get, Option, Some, None}
use Rattle.std.specs.Int.{to_be_bytes, w32}
use Rattle.std.specs.Option.{unwrap_or}
use Rattle.enet_pcapng.specs.declared.block.Order.{Order}
use Rattle.enet_pcapng.specs.declared.block.Order.TheVariants.{Big}
use Rattle.enet_pcapng.specs.declared.block.Block.{Block}
use Rattle.enet_pcapng.specs.declared.interface.Interface.{Interface}
use Rattle.enet_pcapng.specs.declared.packet.Section.{Section}
use Rattle.enet_pcapng.specs.declared.packet.Packet.{Packet}
use Rattle.enet_pcapng.specs.Blocks.{number_of, IsBlock, IsNoBlock}
use Rattle.enet_pcapng.specs.Interfaces.{IsInterface}

-- An input is in pcapng if it begins with a section.
abbrev pub is_pcapng : List ℕ → Bool
is_pcapng input = if nat_lt (length input) 4 then false else number_of Big input == 0x0a0d0d0a

-- When the packet of a block was captured, in units of its interface.
abbrev pub moment_of : Order → List ℕ → ℕ
moment_of order body = number_of order (drop 4 body) * 4294967296 + number_of order (drop 8 body)

-- A packet stands in the body of a block: the number of its interface, when it was captured, and how many of its bytes were kept, in 20 bytes,
-- and these. Its interface has the link type of the first one.
pub record IsPacket (section : Section) (body : List ℕ) (packet : Packet) : Type 0 where
  pub interface : Interface
  pub interface_is : slice_get section.interfaces.items (number_of section.order body) ≡ Some interface
  pub link_is : section.link ≡ Some interface.link
  pub is_known : interface.units ≢ 0
  pub kept_is : packet.kept ≡ number_of section.order (drop 12 body)
  pub is_within : packet.kept + 20 ≤ length body
  pub bytes_are : packet.bytes.now ≡ take packet.kept (drop 20 body)
  pub seconds_are : packet.seconds ≡ min (moment_of section.order body / interface.units) 4294967295
  pub parts_are : packet.parts ≡ min (moment_of section.order body % interface.units * (1000000000 / interface.units)) 4294967295

-- No such packet stands there.
abbrev pub IsUnreadable : Section → List ℕ → Type 0
IsUnreadable section body = (length body < 20) ⊎ ((slice_get section.interfaces.items (number_of section.order body) ≡ None)
    ⊎ ((interface : Interface) × (slice_get section.interfaces.items (number_of section.order body) ≡ Some interface)
    × ((interface.units ≡ 0) ⊎ ((section.link ≢ Some interface.link) ⊎ (length body < number_of section.order (drop 12 body) + 20)))))

-- A packet of a classic capture: its time in two parts, how many of its bytes were kept and how many it had, and the bytes.
abbrev pub packet_text : Packet → List ℕ
packet_text packet = to_be_bytes w32 packet.seconds ++ to_be_bytes w32 packet.parts ++ to_be_bytes w32 packet.kept
    ++ to_be_bytes w32 packet.kept ++ packet.bytes.now

-- A packet of no bytes.
abbrev pub no_packet : List ℕ
no_packet = replicate 16 0

-- The link type of the first interface.
abbrev pub first_link : Option ℕ → ℕ → Option ℕ
first_link None link = Some link
first_link (Some first) link = Some first

-- What a block does to its section, and the packets that are put for it: it begins a section, tells an interface, has a packet, has one of
-- a kind that isn't read, or nothing of these.
pub data Takes (old new : Section) (block : Block) : List ℕ → Type 0 where
  section : block.kind ≡ 0x0a0d0d0a → new.order ≡ block.order → new.interfaces.items ≡ [] → new.link ≡ old.link → Takes old new block []
  interface : (interface : Interface) → block.kind ≡ 1 → IsInterface old.order block.body.now interface → new.order ≡ old.order
      → new.interfaces.items ≡ old.interfaces.items ++ (interface ∷ []) → new.link ≡ first_link old.link interface.link → Takes old new block []
  packet : (packet : Packet) → block.kind ≡ 6 → IsPacket old block.body.now packet → new ≡ old → Takes old new block (packet_text packet)
  unreadable : block.kind ≡ 6 → IsUnreadable old block.body.now → new ≡ old → Takes old new block no_packet
  another_packet : ((block.kind ≡ 2) ⊎ (block.kind ≡ 3)) → new ≡ old → Takes old new block no_packet
  passed_over : block.kind ≢ 0x0a0d0d0a → block.kind ≢ 1 → block.kind ≢ 2 → block.kind ≢ 3 → block.kind ≢ 6 → new ≡ old → Takes old new block []

-- The blocks of an input up to these bytes that are left, the section there, and the packets that were put.
pub data Rewrites (input : List ℕ) : Section → List ℕ → List ℕ → Type 0 where
  begun : (section : Section) → section.order ≡ Big → section.interfaces.items ≡ [] → section.link ≡ None → Rewrites input section input []
  further : (old new : Section) (left behind text more : List ℕ) (block : Block) → Rewrites input old left text
      → IsBlock old.order left block behind → Takes old new block more → Rewrites input new behind (text ++ more)

-- What a classic capture begins with, in billionths of a second: 101, for raw IP, if there is no interface.
abbrev pub head_text : Option ℕ → List ℕ
head_text link = to_be_bytes w32 0xa1b23c4d ++ to_be_bytes w32 0x00020004 ++ replicate 8 0 ++ to_be_bytes w32 0x00040000
    ++ to_be_bytes w32 (unwrap_or link 101)

-- A classic capture has the packets of an input: behind the last one nothing stands, or a byte that begins one if the input is cut short.
pub record IsRewritten (input classic : List ℕ) : Type 0 where
  pub section : Section
  pub left : List ℕ
  pub packets : List ℕ
  pub cut : List ℕ
  pub rewrites : Rewrites input section left packets
  pub classic_is : classic ≡ head_text section.link ++ packets ++ cut
  pub ended : ((left ≡ []) × (cut ≡ [])) ⊎ (IsNoBlock section.order left × (cut ≡ 0 ∷ []))
