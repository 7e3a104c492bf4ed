-- What a line of an input in hex spells.
use Rattle.std.specs.Prelude.{ℕ, nat_eq, if◌then◌else◌, List, [], ◌∷◌, codes, Option, Some, None, option_map}
use Rattle.std.specs.List.{starts_with}
use Rattle.enet_text.specs.Words.{line_words, bytes_of}
use Rattle.enet_text.specs.declared.line.Line.{Line}
use Rattle.enet_text.specs.declared.line.Line.TheVariants.{PassedOver, Datagram}

-- What the words of a line spell: nothing where there are none, the bytes of a datagram where there is one.
abbrev pub words_spell : List (List ℕ) → Option Line
words_spell [] = Some PassedOver
words_spell (word ∷ []) = option_map Datagram (bytes_of word)
words_spell (word ∷ other ∷ others) = None

-- What a line spells. One that begins with `#` is passed over. A comment may stand behind its word.
unfoldable pub line_of : List ℕ → Option Line
line_of text = if starts_with nat_eq text (codes "#") then Some PassedOver else words_spell (line_words text)
