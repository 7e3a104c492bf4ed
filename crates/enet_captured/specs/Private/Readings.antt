-- The commands of a datagram, by what its bytes spell.
use Rattle.std.specs.Prelude.{◌≡◌, ℕ, List, [], ◌∷◌, ◌++◌, map, Option, Some, None, true, false}
use Rattle.enet_codec.specs.declared.stop.Stop.{Stop}
use Rattle.enet_codec.specs.declared.stop.Stop.TheVariants as stop
use Rattle.enet_codec.specs.declared.header.Header.{Header}
use Rattle.enet_codec.specs.Header.{SpellsHeader}
use Rattle.enet_codec.specs.Message.{Message}
use Rattle.enet_codec.specs.Datagram.{SpellsAll}
use Rattle.enet_text.specs.Described.{SpellsNoHeader, SpellsNone, why_unread}
use Rattle.enet_captured.specs.declared.told.Told.{Told}
use Rattle.enet_captured.specs.Private.Commands.{told_of}

-- Why bytes at whose front no command stands can't be read: there is nothing to read where there are none.
abbrev pub stop_at : List ℕ → Option Stop
stop_at [] = None
stop_at (byte ∷ bytes) = Some stop.BadCommand

-- Bytes behind a header say these commands, one after another, and the rest can't be read for this reason.
pub record SaysRest (bytes : List ℕ) (told : List Told) (why : Option Stop) : Type 0 where
  pub messages : List Message
  pub front : List ℕ
  pub rest : List ℕ
  pub split : bytes ≡ front ++ rest
  pub spelled : SpellsAll front messages
  pub no_more : SpellsNone rest
  pub told_is : told ≡ map told_of messages
  pub why_is : why ≡ stop_at rest

-- A datagram says these commands, and the rest of it can't be read for this reason.
pub data Says (bytes : List ℕ) : List Told → Option Stop → Type 0 where
  unread : SpellsNoHeader bytes → Says bytes [] (Some (why_unread bytes))
  compressed : (h : Header) (front rest : List ℕ) → bytes ≡ front ++ rest → SpellsHeader front h → h.compressed ≡ true
      → Says bytes [] (Some stop.Compressed)
  plain : (h : Header) (front rest : List ℕ) (told : List Told) (why : Option Stop) → bytes ≡ front ++ rest → SpellsHeader front h
      → h.compressed ≡ false → SaysRest rest told why → Says bytes told why

-- The sent time in a datagram's header: none where the datagram has no header.
abbrev pub SaysSent : List ℕ → Option ℕ → Type 0
SaysSent bytes sent =
    ((h : Header) (front rest : List ℕ) → bytes ≡ front ++ rest → SpellsHeader front h → sent ≡ h.sent) × (SpellsNoHeader bytes → sent ≡ None)
