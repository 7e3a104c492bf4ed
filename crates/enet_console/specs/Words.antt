-- What a line of the operator says.
use Rattle.std.specs.Prelude.{ℕ, ◌^◌, ◌+◌, ◌==◌, true, false, if◌then◌else◌, List, [], ◌∷◌, length, drop, codes, bytes_eq, Option, Some, None, option_map}
use Rattle.std.specs.List.{slice_split}
use Rattle.std.specs.Option.{option_or}
use Rattle.std.specs.Str.{is_utf8}
use Rattle.enet_text.specs.Words.{number_below, peer_of, ip_of, of_one, of_two, ◌>>=◌}
use Rattle.enet_console.specs.declared.word.Word.{Word}
use Rattle.enet_console.specs.declared.word.Word.TheVariants.{Stop, Totals, Peers, Kick, Ban, Unban, Say, Log}

-- The pieces of a line: what stands between its spaces, empty pieces too.
unfoldable pub pieces : List ℕ → List (List ℕ)
pieces line = slice_split (λ byte. byte == 32) line

-- `stop`, `totals`, `peers`
abbrev pub lone : List ℕ → Option Word
lone word =
    if bytes_eq word (codes "stop") then Some Stop
    else (if bytes_eq word (codes "totals") then Some Totals
    else (if bytes_eq word (codes "peers") then Some Peers else None))

-- `log on`, `log off`
abbrev pub switched : List ℕ → Option Word
switched word =
    if bytes_eq word (codes "on") then Some (Log true) else (if bytes_eq word (codes "off") then Some (Log false) else None)

-- `kick SLOT.GENERATION`, `kick SLOT.GENERATION INFO`
abbrev pub kick_of : List (List ℕ) → Option Word
kick_of others = option_or (of_one (λ peer. option_map (λ peer. Kick peer 0) (peer_of peer)) others)
    (of_two (λ peer info. do
      peer ← peer_of peer
      info ← number_below (2 ^ 32) info
      Some (Kick peer info)) others)

-- `say TEXT`: all behind the first space, which is text
abbrev pub say_of : List ℕ → Option Word
say_of text = if is_utf8 text then Some (Say text) else None

-- What a first piece says with those behind it, whose text is this.
abbrev pub followed : List ℕ → List (List ℕ) → List ℕ → Option Word
followed word others text =
    if bytes_eq word (codes "say") then say_of text
    else (if bytes_eq word (codes "log") then of_one switched others
    else (if bytes_eq word (codes "kick") then kick_of others
    else (if bytes_eq word (codes "ban") then of_one (λ address. option_map Ban (ip_of address)) others
    else (if bytes_eq word (codes "unban") then of_one (λ address. option_map Unban (ip_of address)) others else None))))

abbrev pub said : List ℕ → List (List ℕ) → Option Word
said line [] = None
said line (word ∷ []) = lone word
said line (word ∷ other ∷ others) = followed word (other ∷ others) (drop (length word + 1) line)

-- What a line says, where it says something that is known.
unfoldable pub spells : List ℕ → Option Word
spells line = said line (pieces line)
