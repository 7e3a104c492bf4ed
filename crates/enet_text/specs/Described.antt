-- The text of a datagram, by what its bytes spell.
use Rattle.std.specs.Prelude.{◌≡◌, ◌+◌, ◌==◌, not, bit_and, ℕ, Bool, true, false, nat_lt, List, [], ◌∷◌, ◌++◌, length, slice_index, flat_map, if◌then◌else◌}
use Rattle.enet_codec.specs.declared.stop.Stop.{Stop}
use Rattle.enet_codec.specs.declared.stop.Stop.TheVariants as stop
use Rattle.enet_codec.specs.declared.header.Header.{Header}
use Rattle.enet_codec.specs.Header.{SpellsHeader}
use Rattle.enet_codec.specs.Message.{Message, Spells}
use Rattle.enet_codec.specs.Datagram.{SpellsAll}
use Rattle.enet_text.specs.declared.body.Bodies.{Bodies}
use Rattle.enet_text.specs.InspectTexts.{command_line, header_line, stop_line}

-- No header stands at the front of the bytes.
abbrev pub SpellsNoHeader : List ℕ → Type 0
SpellsNoHeader bytes = (h : Header) (front rest : List ℕ) → bytes ≡ front ++ rest → SpellsHeader front h → ⊥

-- No command stands at the front of the bytes.
abbrev pub SpellsNone : List ℕ → Type 0
SpellsNone bytes = (m : Message) (front rest : List ℕ) → bytes ≡ front ++ rest → Spells front m → ⊥

-- What is told of bytes at this place at whose front no command stands: nothing where there are none.
abbrev pub rest_line : ℕ → List ℕ → List ℕ
rest_line place [] = []
rest_line place (byte ∷ bytes) = stop_line stop.BadCommand place (byte ∷ bytes)

-- The text of bytes behind a header, which begin at this place of the datagram: a line for each command that a front of them spells, one
-- after another, and one for what stands behind the last, where anything does.
pub record Tells (b : Bodies) (place : ℕ) (bytes text : List ℕ) : Type 0 where
  pub messages : List Message
  pub front : List ℕ
  pub rest : List ℕ
  pub split : bytes ≡ front ++ rest
  pub spelled : SpellsAll front messages
  pub no_more : SpellsNone rest
  pub told : text ≡ flat_map (command_line b) messages ++ rest_line (place + length front) rest

-- The bit of the first byte that says that the datagram is compressed.
abbrev pub is_compressed : List ℕ → Bool
is_compressed bytes = not (bit_and (slice_index bytes 0) 64 == 0)

-- Why no header can be read: S2 where two bytes are there and say that the datagram is compressed, else S1, as a host answers.
abbrev pub why_unread : List ℕ → Stop
why_unread bytes = if nat_lt (length bytes) 2 then stop.Short else (if is_compressed bytes then stop.Compressed else stop.Short)

-- The text of a datagram, with its packets' bytes whole or in short.
pub data Describes (b : Bodies) (bytes : List ℕ) : List ℕ → Type 0 where
  unread : SpellsNoHeader bytes → Describes b bytes (stop_line (why_unread bytes) 0 bytes)
  compressed : (h : Header) (front rest : List ℕ) → bytes ≡ front ++ rest → SpellsHeader front h → h.compressed ≡ true
      → Describes b bytes (header_line h ++ stop_line stop.Compressed (length front) rest)
  plain : (h : Header) (front rest text : List ℕ) → bytes ≡ front ++ rest → SpellsHeader front h → h.compressed ≡ false
      → Tells b (length front) rest text → Describes b bytes (header_line h ++ text)
