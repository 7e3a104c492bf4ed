-- The times between datagrams that follow one another.
use Rattle.std.specs.Prelude.{◌≡◌, ◌≤◌, ◌<◌, ◌+◌, ◌-◌, ℕ, List, length, slice_get, Option, Some, None, MatchOption}
use Rattle.enet_captured.specs.declared.timeline.Seen.{Seen}

-- How long after a datagram the next one was captured, and the number of that.
abbrev pub gap_between : Option Seen → Option Seen → ℕ × ℕ
gap_between None next = (0, 0)
gap_between (Some one) None = (0, 0)
gap_between (Some one) (Some next) = (next.at - one.at, next.number)

abbrev pub gap_behind : List Seen → ℕ → ℕ × ℕ
gap_behind seen place = gap_between (slice_get seen place) (slice_get seen (place + 1))

-- Among the gaps behind so many datagrams, none is longer than this one, which is one of them.
abbrev pub IsLongestOf : List Seen → ℕ → Option (ℕ × ℕ) → Type 0
IsLongestOf seen gaps found = MatchOption found (gaps ≡ 0)
    (λ longest. ((place : ℕ) × (place < gaps) × (longest ≡ gap_behind seen place)) × ((place : ℕ) → place < gaps → (gap_behind seen place).0 ≤ longest.0))

-- The longest gap; there is none where fewer than two datagrams are.
abbrev pub IsLongest : List Seen → Option (ℕ × ℕ) → Type 0
IsLongest seen found = IsLongestOf seen (length seen - 1) found
