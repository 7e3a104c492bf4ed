-- What a datagram brings.
use Rattle.std.specs.Prelude.{◌≡◌, ℕ, ◌+◌, List, [], ◌∷◌, ◌++◌, length}
use Rattle.enet_codec.specs.declared.header.Header.{Header}
use Rattle.enet_codec.specs.Header.{SpellsHeader}
use Rattle.enet_codec.specs.Datagram.{SpellsAll}
use Rattle.enet_codec.specs.Message.{Body, Message, Spells, send_reliable, send_unreliable, send_fragment, send_unsequenced, send_unreliable_fragment}
use Rattle.enet_guard.specs.declared.loads.Load.{Load}

abbrev pub nothing : Load
nothing = record { packets = 0; bytes = 0; reliable = 0 }

-- a command brings a packet, or a piece of one, or nothing
abbrev pub load_of : Body → Load
load_of (send_reliable p) = record { packets = 1; bytes = length p; reliable = 1 }
load_of (send_unreliable n p) = record { packets = 1; bytes = length p; reliable = 0 }
load_of (send_fragment f p) = record { packets = 1; bytes = length p; reliable = 1 }
load_of (send_unsequenced g p) = record { packets = 1; bytes = length p; reliable = 0 }
load_of (send_unreliable_fragment f p) = record { packets = 1; bytes = length p; reliable = 0 }
load_of _ = nothing

abbrev pub both : Load → Load → Load
both a b = record { packets = a.packets + b.packets; bytes = a.bytes + b.bytes; reliable = a.reliable + b.reliable }

-- and commands, what each of them does
abbrev pub loads : List Message → Load
loads [] = nothing
loads (m ∷ ms) = both (load_of m.body) (loads ms)

-- these bytes bring what their commands do, as far as one after another can be read
pub record Brings (bytes : List ℕ) (load : Load) : Type 0 where
  pub messages : List Message
  pub commands : List ℕ
  pub rest : List ℕ
  pub bytes_are : bytes ≡ commands ++ rest
  pub spelled : SpellsAll commands messages
  pub no_more : (m : Message) (text behind : List ℕ) → rest ≡ text ++ behind → Spells text m → ⊥
  pub load_is : load ≡ loads messages

-- a datagram names this slot, and its commands bring that
pub record Carries (bytes : List ℕ) (slot : ℕ) (load : Load) : Type 0 where
  pub header : Header
  pub header_text : List ℕ
  pub behind : List ℕ
  pub bytes_are : bytes ≡ header_text ++ behind
  pub header_spelled : SpellsHeader header_text header
  pub slot_is : slot ≡ header.peer
  pub brings : Brings behind load
