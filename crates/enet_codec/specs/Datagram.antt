-- The bytes that spell a datagram: its header, and its commands one after another.
use Rattle.std.specs.Prelude.{◌≡◌, ℕ, List, [], ◌∷◌, ◌++◌}
use Rattle.enet_codec.specs.declared.header.Header.{Header}
use Rattle.enet_codec.specs.Header.{SpellsHeader}
use Rattle.enet_codec.specs.Message.{Message, Spells}

-- The bytes spell these commands, one after another, and nothing else.
abbrev pub SpellsAll : List ℕ → List Message → Type 0
SpellsAll bytes [] = bytes ≡ []
SpellsAll bytes (m ∷ ms) = (text rest : List ℕ) × (bytes ≡ text ++ rest) × Spells text m × SpellsAll rest ms

-- The bytes spell this header, and these commands behind it.
pub record SpellsDatagram (bytes : List ℕ) (h : Header) (ms : List Message) : Type 0 where
  pub front : List ℕ
  pub commands : List ℕ
  pub split : bytes ≡ front ++ commands
  pub header : SpellsHeader front h
  pub messages : SpellsAll commands ms
